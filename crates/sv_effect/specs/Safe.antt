-- An operation is safe if it leaves valid tables valid, whatever stamps stand in them, wherever its needs hold and no row is kept under a key that it drew.
use Rattle.std.specs.Prelude.{◌≡◌, ℕ, true, List, Some, None, slice_get}
use Rattle.std.specs.FinMap.{get}
use Rattle.sv_app.specs.Schema.{Declaration}
use Rattle.sv_app.specs.Valid.{Valid}
use Rattle.sv_effect.specs.declared.ops.Op.{Op}
use Rattle.sv_effect.specs.declared.ops.RowEffect.{RowEffect}
use Rattle.sv_effect.specs.Acts.{is_draw}
use Rattle.sv_effect.specs.Applied.{place_of, applied}
use Rattle.sv_effect.specs.BareTables.{bare}
use Rattle.sv_effect.specs.Commutes.{TablesFit}
use Rattle.sv_effect.specs.Has.{Has}
use Rattle.sv_effect.specs.StampedTables.{StampedTables}

-- no row is kept under a key that the operation drew
abbrev pub Unmade : Op → StampedTables → Type 0
Unmade op t = (number : ℕ) (e : RowEffect) → slice_get op.effects number ≡ Some e → is_draw e.act ≡ true → get t (place_of e) ≡ None

-- the tables on which a safe operation is safe
pub record Suffices (schema : List Declaration) (op : Op) (t : StampedTables) : Type 0 where
  pub rows : TablesFit schema t
  pub valid : Valid schema (bare t)
  pub has : Has schema op t
  pub unmade : Unmade op t

abbrev pub Safe : List Declaration → Op → Type 0
Safe schema op = (t : StampedTables) → Suffices schema op t → Valid schema (bare (applied schema op t))
