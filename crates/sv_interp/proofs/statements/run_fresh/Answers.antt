use Rattle.std.proofs.Common.{◌≡◌, ◌∙◌, Some, map, to_z, of_z, w64, refl, sym, ap, rules}
use Rattle.sv_app.specs.declared.places.Place.{Place}
use Rattle.sv_app.specs.Schema.{declaration_of}
use Rattle.sv_app.specs.Trees.{terms_of}
use Rattle.sv_effect.specs.RunChanges.{effect_of, drawn_key}
use Rattle.sv_interp.specs.declared.states.State.{State}
use Rattle.sv_interp.specs.Machine.{declared, setting_of}
use Rattle.sv_interp.proofs.KeepLaws.{keeps_fresh}
use Rattle.sv_interp.proofs.statements.run_fresh.Goals as goal

pub returns-clause-kept : goal.returns-clause-kept
returns-clause-kept g c =
    let first : to_z w64 (of_z w64 c.args.setting.now.first) ≡ c.args.setting.now.first = search rules in
    let same : c.items.result.now ≡ c.in-Some.vals = search rules in
    let p : Place = record { table = c.args.draw.now.table.num; key = c.next_key.result } in
    let here : p ≡ record { table = c.args.draw.now.table.num; key = drawn_key c.args.setting.now.first (map effect_of c.args.state.now.effects.list) } =
    ap (λ k. let q : Place = record { table = c.args.draw.now.table.num; key = k } in q)
    (c.next_key.ensures ∙ ap (λ n. drawn_key n (map effect_of c.args.state.now.effects.list)) first) in
    let u : State = record c.args.state.now { scope = c.values.new.scope } in
    keeps_fresh _ (setting_of c.args.setting.now) c.args.draw.now.var c.args.draw.now.table (terms_of c.args.draw.now.values.now) (declaration_of c.in-Some-table_at.declared.now) p c.in_ok-vals.field-0 c.items.result.now
    c.args.state.now u c.draw_at.new.state c.in_ok-end.end
    c.in_ok-vals.ensures (c.in-Some.is ∙ ap (λ l. Some l) (sym same)) refl (c.table_at.ensures.table ∙ ap declared c.in-Some-table_at.is) here c.in_ok-end.ensures.kept
