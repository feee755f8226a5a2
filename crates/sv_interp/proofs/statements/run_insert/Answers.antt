use Rattle.std.proofs.Common.{◌≡◌, ◌∙◌, Some, refl, sym, ap, rules}
use Rattle.sv_app.specs.declared.places.Place.{Place}
use Rattle.sv_app.specs.Schema.{declaration_of}
use Rattle.sv_app.specs.Trees.{terms_of}
use Rattle.sv_effect.specs.RunChanges.{key_in}
use Rattle.sv_interp.specs.declared.states.State.{State}
use Rattle.sv_interp.specs.Machine.{declared, setting_of}
use Rattle.sv_interp.proofs.KeepLaws.{keeps_insert}
use Rattle.sv_interp.proofs.statements.run_insert.Goals as goal

pub returns-clause-kept : goal.returns-clause-kept
returns-clause-kept g c =
    let table = declaration_of c.in-Some-table_at.declared.now in
    let first : c.items.result.now ≡ c.in-Some.vals = search rules in
    let second : c.items-2.result.now ≡ c.in-Some.vals = search rules in
    let names : c.deref.result.now ≡ table.key = c.deref.ensures.value in
    let p : Place = record { table = c.args.table.num; key = c.in_ok-key_in.field-0 } in
    let here : p ≡ record { table = c.args.table.num; key = key_in table.key c.items-2.result.now } =
    ap (λ k. let q : Place = record { table = c.args.table.num; key = k } in q)
    (c.in_ok-key_in.ensures ∙ ap (λ ns. key_in ns c.items.result.now) names ∙ ap (key_in table.key) (first ∙ sym second)) in
    let u : State = record c.args.state.now { scope = c.values.new.scope } in
    keeps_insert _ (setting_of c.args.setting.now) c.args.table (terms_of c.args.exprs.now) table p c.in_ok-vals.field-0 c.items-2.result.now c.args.state.now u c.insert_at.new.state c.in_ok-end.end
    c.in_ok-vals.ensures (c.in-Some.is ∙ ap (λ l. Some l) (sym second)) refl (c.table_at.ensures.table ∙ ap declared c.in-Some-table_at.is) here c.in_ok-end.ensures.kept
