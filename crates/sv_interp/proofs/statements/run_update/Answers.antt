use Rattle.std.proofs.Common.{◌≡◌, ◌∙◌, refl, ap, rules}
use Rattle.sv_app.specs.declared.places.Place.{Place}
use Rattle.sv_app.specs.Schema.{declaration_of}
use Rattle.sv_app.specs.Trees.{terms_of, sets_of}
use Rattle.sv_effect.specs.Run.{place_of_row}
use Rattle.sv_effect.specs.RunChanges.{key_of}
use Rattle.sv_interp.specs.declared.states.State.{State}
use Rattle.sv_interp.specs.Machine.{declared, setting_of}
use Rattle.sv_interp.proofs.KeepLaws.{keeps_update}
use Rattle.sv_interp.proofs.statements.run_update.Goals as goal

pub returns-clause-kept : goal.returns-clause-kept
returns-clause-kept g c =
    let same : c.items.result.now ≡ c.in-Some.vals = search rules in
    let p : Place = record { table = c.args.target.now.table.num; key = c.key_of.result } in
    let here : p ≡ place_of_row c.args.target.now.table c.in-Some.vals = ap (λ k. let q : Place = record { table = c.args.target.now.table.num; key = k } in q) (c.key_of.ensures ∙ ap key_of same) in
    let u : State = record c.args.state.now { scope = c.values.new.scope } in
    keeps_update _ (setting_of c.args.setting.now) c.args.target.now.table (terms_of c.args.target.now.key.now) (sets_of c.args.sets.now) (declaration_of c.in-Some-table_at.declared.now) p c.in_ok-vals.field-0 c.in-Some.vals
    c.args.state.now u c.update_at.new.state c.in_ok-end.end c.in_ok-vals.ensures c.in-Some.is refl (c.table_at.ensures.table ∙ ap declared c.in-Some-table_at.is) here c.in_ok-end.ensures.kept
