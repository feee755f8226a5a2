-- What the plain program has at hand: the published lists as a medium, and the held changes, writes and values that it gathers, with their stamps.
use Rattle.std.specs.Prelude.{◌≡◌, ℤ, ℕ, ◌≤◌, ◌≤ℤ◌, pos, neg_ℤ, Bool, List, [], length, get_or, Some, slice_get}
use Rattle.sv_value.specs.declared.values.Val.{Val}
use Rattle.sv_app.specs.declared.places.Place.{Place}
use Rattle.sv_effect.specs.declared.ops.Op.{Op}
use Rattle.sv_effect.specs.declared.ops.Write.{Write}
use Rattle.sv_effect.specs.Applied.{Change}
use Rattle.sv_effect.specs.Cut.{Medium}
use Rattle.sv_effect.specs.StampedTables.{Stamped}
use Rattle.sv_effect.specs.TablesOfCut.{changes_at, all_to}
use Rattle.sv_plain.specs.declared.changes.HeldChange.{HeldChange}
use Rattle.sv_plain.specs.declared.changes.HeldWrite.{HeldWrite}
use Rattle.sv_plain.specs.declared.cells.HeldVal.{HeldVal}
use Rattle.sv_plain.specs.declared.cells.HeldMark.{HeldMark}

-- the list of reds, and then that of each site, site 1 first
abbrev pub medium_of : List (List Op) → Medium
medium_of lists o = get_or lists o []

abbrev pub change_of : HeldChange → Change
change_of c = record { value = c.effect.now; stamp = c.stamp }

abbrev pub write_of : HeldWrite → Stamped Write
write_of w = record { value = w.write; stamp = w.stamp }

abbrev pub val_of : HeldVal → Stamped Val
val_of x = record { value = x.val; stamp = x.stamp }

abbrev pub mark_of : HeldMark → Stamped Bool
mark_of x = record { value = x.on; stamp = x.stamp }

-- all changes of the row at a place
abbrev pub all_at : Place → Medium → List Change
all_at p m = all_to (changes_at p m) 9

-- not farther from zero than this
pub record IsWithin (most : ℕ) (n : ℤ) : Type 0 where
  pub low : neg_ℤ (pos most) ≤ℤ n
  pub high : n ≤ℤ pos most

-- no operation has more changes than stamps can number
pub record AreShort (ops : List Op) : Type 0 where
  pub each : (q : ℕ) (op : Op) → slice_get ops q ≡ Some op → length op.effects ≤ 65536
