use Rattle.std.proofs.Common.{◌≡◌, ◌∙◌, ap, sym, subst, refl, Some, slice_get}
use Rattle.std.proofs.lemmas.Option.{slice_get-get_or}
use Rattle.sv_app.specs.Schema.{schema_of}
use Rattle.sv_app.specs.Trees.{transactions_of}
use Rattle.sv_label.specs.Failures.{IsFirstAt}
use Rattle.sv_label.specs.Groups.{found}
use Rattle.sv_label.proofs.DecideLaws.{none_next, red, blue, has_template}
use Rattle.sv_label.proofs.decisions.decide.Goals as goal

pub failed_in-requires : goal.failed_in-requires
failed_in-requires c =
    let at : slice_get c.args.trace.now c.loop-number.number ≡ Some c.index-trace-number.result =
    slice_get-get_or c.args.trace.now c.loop-number.number c.index-trace-number.result c.loop-number-test.true ∙ ap (λ r. Some r) (sym c.index-trace-number.is) in
    has_template (schema_of c.args.app.now.tables.items) (transactions_of c.args.app.now.txns.items) c.args.dict.now c.args.txn c.args.trace.now c.loop-number.number c.index-trace-number.result c.requires.covers c.requires.shaped at

pub returns-in-Some : goal.returns-in-Some
returns-in-Some c =
    let schema = schema_of c.args.app.now.tables.items in
    let ran = c.index-trace-number.result in
    let at : slice_get c.args.trace.now c.loop-number.number ≡ Some ran =
    slice_get-get_or c.args.trace.now c.loop-number.number ran c.loop-number-test.true ∙ ap (λ r. Some r) (sym c.index-trace-number.is) in
    red schema c.args.dict.now c.args.txn c.args.trace.now c.loop-number.number ran (found c.args.dict.now c.args.txn ran.unit ran.choices) c.in-Some.failed refl at
    (subst (IsFirstAt schema ran.tape (found c.args.dict.now c.args.txn ran.unit ran.choices)) c.in-Some.is c.failed_in.ensures) c.loop-number.invariant

pub loop-number-preserved : goal.loop-number-preserved
loop-number-preserved c =
    let schema = schema_of c.args.app.now.tables.items in
    let ran = c.index-trace-number.result in
    let at : slice_get c.args.trace.now c.loop-number.number ≡ Some ran =
    slice_get-get_or c.args.trace.now c.loop-number.number ran c.loop-number-test.true ∙ ap (λ r. Some r) (sym c.index-trace-number.is) in
    none_next schema c.args.dict.now c.args.txn c.args.trace.now c.loop-number.number ran (found c.args.dict.now c.args.txn ran.unit ran.choices) refl at
    (subst (IsFirstAt schema ran.tape (found c.args.dict.now c.args.txn ran.unit ran.choices)) c.in_default.is c.failed_in.ensures) c.loop-number.invariant

pub returns : goal.returns
returns c = blue (schema_of c.args.app.now.tables.items) c.args.dict.now c.args.txn c.args.trace.now c.loop-number.number c.loop-number-test.false c.loop-number.invariant
