use Rattle.std.proofs.Common.{◌≡◌, length, drop, map}
use Rattle.sv_app.specs.Schema.{schema_of}
use Rattle.sv_effect.specs.Follows.{Follows}
use Rattle.sv_effect.specs.RunChanges.{effect_of}
use Rattle.sv_effect.specs.Effects.{with_effects}
use Rattle.sv_effect.specs.Overlays.{over}
use Rattle.sv_check.specs.Bounds.{ChangesBounded}
use Rattle.sv_check.proofs.changes.rows_after.Given as goal

abbrev pub invariant-loop-effect : goal.invariant-loop-effect
invariant-loop-effect g l =
    let R = g.R.Rows in
    record {
      made : Follows (R.face l.fn.rows) (R.face l.rows) (R.noted l.fn.rows) (R.noted l.rows)
          (λ t. with_effects (schema_of l.app.tables.items) (map effect_of (drop l.effect-index l.effects)) (over l.left.items t) ≡ with_effects (schema_of l.app.tables.items) (map effect_of l.effects) t);
      bounded : ChangesBounded (schema_of l.app.tables.items) l.left.items;
      many : length l.left.items ≡ l.effect-index;
      stays : R.stays l.fn.rows l.rows;
    }
