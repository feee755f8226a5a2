use Rattle.std.proofs.Common.{◌≡◌, ◌+◌, ◌≤◌, suc, List, ◌∙◌, ap, sym, subst, arith}
use Rattle.sv_core.specs.declared.docs.Doc.{Doc}
use Rattle.sv_core.specs.declared.sites.SiteState.{SiteState}
use Rattle.sv_core.specs.Document.{document_of}
use Rattle.sv_core.specs.Standing.{AreFresh}
use Rattle.sv_core.proofs.FreshLaws.{none_fresh, fresh_more}
use Rattle.sv_core.proofs.sites.fresh_sites.Goals as goal

pub loop-place-init : goal.loop-place-init
loop-place-init c = subst (AreFresh (document_of c.args.doc.now.value) 0) (sym c.new-sites.ensures.items) (none_fresh (document_of c.args.doc.now.value))

pub loop-place-preserved : goal.loop-place-preserved
loop-place-preserved c =
    let next : suc c.loop-place.place ≡ c.loop-place.place + 1 = omega arith in
    let site : c.in-Some.site ≡ suc c.loop-place.place = c.in-Some.ensures.value ∙ sym next in
    subst (λ n. AreFresh (document_of c.args.doc.now.value) n c.push.new.self.items) next
    (subst (AreFresh (document_of c.args.doc.now.value) (suc c.loop-place.place)) (sym {A = List SiteState} c.in_ok-push-in-Some.ensures.items)
    (fresh_more (document_of c.args.doc.now.value) c.loop-place.place c.in-Some.site c.loop-place.sites.items c.in_ok-fresh_site-in-Some.field-0
    c.loop-place.invariant site c.in_ok-fresh_site-in-Some.ensures))

pub returns : goal.returns
returns c =
    let same : c.deref.result.now.sites ≡ c.args.doc.now.value.sites = ap (λ (d : Doc). d.sites) c.deref.ensures in
    let end : c.loop-place.place ≤ c.deref.result.now.sites = c.loop-place.auto.place-end in
    let all : c.loop-place.place ≡ c.args.doc.now.value.sites = omega (arith, same, end, c.loop-place-test.false) in
    subst (λ n. AreFresh (document_of c.args.doc.now.value) n c.loop-place.sites.items) all c.loop-place.invariant
