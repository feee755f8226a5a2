use Rattle.std.proofs.Common.{rules, ◌++◌, ◌∷◌, [], sym, subst}
use Rattle.sv_app.specs.Schema.{schema_of}
use Rattle.sv_label.specs.Failures.{Fails, IsFirst, IsFirstOf}
use Rattle.sv_label.proofs.FailLaws.{not_so, held_on, fails_first, fails_more}
use Rattle.sv_label.proofs.failures.with_atom.Goals as goal

pub returns-then-holds : goal.returns-then-holds
returns-then-holds c = λ before is. held_on (schema_of c.args.app.now.tables.items) c.args.tape.now before c.args.atom.now c.args.held is (search rules)

pub returns-in-Some : goal.returns-in-Some
returns-in-Some c = λ before is.
    let schema = schema_of c.args.app.now.tables.items in
    let tape = c.args.tape.now in
    let atom = c.args.atom.now in
    let fails : Fails schema tape atom = not_so c.holds.result c.holds.ensures c.if-holds.false in
    subst (IsFirst schema tape (before ++ atom ∷ [])) (sym c.sooner.ensures) (fails_more schema tape before atom c.in-Some.found (subst (IsFirstOf schema tape before) c.in-Some.is is) fails)

pub returns-in-None : goal.returns-in-None
returns-in-None c = λ before is.
    let schema = schema_of c.args.app.now.tables.items in
    let tape = c.args.tape.now in
    let atom = c.args.atom.now in
    let fails : Fails schema tape atom = not_so c.holds.result c.holds.ensures c.if-holds.false in
    subst (IsFirst schema tape (before ++ atom ∷ [])) (sym c.failed_by.ensures) (fails_first schema tape before atom (subst (IsFirstOf schema tape before) c.in-None.is is) fails)
