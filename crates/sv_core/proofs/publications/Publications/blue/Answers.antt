use Rattle.std.proofs.Common.{◌≡◌, slice_get, Some, sym, ap, ◌∙◌, arith}
use Rattle.std.proofs.lemmas.Option.{slice_get_past}
use Rattle.sv_core.specs.Publications.{picked}
use Rattle.sv_core.proofs.PublicationLaws.{AreGiven, IsListOf, list_of, picked_get, picked_long, read_at}
use Rattle.sv_core.proofs.publications.Publications.blue.Goals as goal

pub returns-then-seq-len : goal.returns-then-seq-len
returns-then-seq-len c =
    let k = c.self.inside in
    let list = c.index-list.result.now in
    let l : IsListOf c.args.self.now k.blues.values k.lists.items c.args.site list =
    list_of c.args.self.now k.blues.values k.lists.items c.args.site c.number.result list (ap (λ v. v.blues) (sym c.self.view_is)) c.number.ensures.value
    c.number.ensures.from c.number.ensures.to c.self.invariant.eight c.index-list.ensures in
    let given : AreGiven k.blues.values list.items = c.self.invariant.given _ _ l.at in
    let slot : slice_get list.items c.args.seq ≡ Some c.index.result.now =
    read_at list.items c.args.seq c.index.result.now (omega (arith, c.if-seq-len.true, c.len.ensures, list.ok.0)) c.index.ensures in
    sym (ap (λ m. slice_get m c.args.seq) l.is ∙ picked_get k.blues.values list.items c.args.seq c.index.result.now given slot ∙ c.at.ensures)

pub returns-else-seq-len : goal.returns-else-seq-len
returns-else-seq-len c =
    let k = c.self.inside in
    let list = c.index-list.result.now in
    let l : IsListOf c.args.self.now k.blues.values k.lists.items c.args.site list =
    list_of c.args.self.now k.blues.values k.lists.items c.args.site c.number.result list (ap (λ v. v.blues) (sym c.self.view_is)) c.number.ensures.value
    c.number.ensures.from c.number.ensures.to c.self.invariant.eight c.index-list.ensures in
    let given : AreGiven k.blues.values list.items = c.self.invariant.given _ _ l.at in
    sym (ap (λ m. slice_get m c.args.seq) l.is
    ∙ slice_get_past (picked k.blues.values list.items) c.args.seq
    (omega (arith, picked_long k.blues.values list.items given, c.if-seq-len.false, c.len.ensures, list.ok.0)))
