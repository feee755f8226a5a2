use Rattle.std.proofs.Common.{◌≡◌, ◌≤◌, ◌<◌, map, take, get_or, length, subst, sym}
use Rattle.sv_app.specs.Schema.{schema_of}
use Rattle.sv_label.specs.Failures.{IsFirstOf}
use Rattle.sv_label.proofs.FailLaws.{kept_more, asked_none, asked_some}
use Rattle.sv_label.proofs.failures.first_failed.Goals as goal

pub loop-kept-preserved : goal.loop-kept-preserved
loop-kept-preserved c =
    let kept = c.args.template.now.left.kept in
    let j = c.loop-kept.kept-index in
    let inside : j < length kept = subst (λ l. j < length l) c.items-kept-items.ensures c.loop-kept-test.true in
    let is : c.kept-item.result ≡ get_or kept j c.kept-item.result = subst (λ l. c.kept-item.result ≡ get_or l j c.kept-item.result) c.items-kept-items.ensures c.kept-item.is in
    subst (λ l. IsFirstOf (schema_of c.args.app.now.tables.items) c.args.tape.now l c.with_atom-held.result) (sym (kept_more kept j c.kept-item.result inside is))
    (c.with_atom-held.ensures (map (λ k. k.atom) (take j kept)) c.loop-kept.invariant)

pub returns-in-None : goal.returns-in-None
returns-in-None c =
    let t = c.args.template.now in
    let all : length t.left.kept ≤ c.loop-kept.kept-index = subst (λ l. length l ≤ c.loop-kept.kept-index) c.items-kept-items.ensures c.loop-kept-test.false in
    subst (λ l. IsFirstOf (schema_of c.args.app.now.tables.items) c.args.tape.now l c.loop-kept.held) (asked_none t c.loop-kept.kept-index all c.in-None.is) c.loop-kept.invariant

pub returns-in-Some : goal.returns-in-Some
returns-in-Some c =
    let t = c.args.template.now in
    let all : length t.left.kept ≤ c.loop-kept.kept-index = subst (λ l. length l ≤ c.loop-kept.kept-index) c.items-kept-items.ensures c.loop-kept-test.false in
    subst (λ l. IsFirstOf (schema_of c.args.app.now.tables.items) c.args.tape.now l c.with_atom.result) (asked_some t c.loop-kept.kept-index c.in-Some.atom all c.in-Some.is)
    (c.with_atom.ensures (map (λ k. k.atom) (take c.loop-kept.kept-index t.left.kept)) c.loop-kept.invariant)
