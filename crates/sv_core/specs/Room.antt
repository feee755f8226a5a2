-- Room for an operation: the initial rows, the inserts published before and its own don't pass the rows of the document, nor the changes published before and
-- its own the changes. Rows are asked first.
use Rattle.std.specs.Prelude.{ℕ, nat_lt, ◌+◌, if◌then◌else◌, List, [], ◌∷◌, length, Option, Some, None}
use Rattle.sv_effect.specs.declared.ops.Op.{Op}
use Rattle.sv_effect.specs.declared.ops.RowEffect.{RowEffect}
use Rattle.sv_effect.specs.Cut.{Medium}
use Rattle.sv_effect.specs.TablesOfCut.{all_to}
use Rattle.sv_effect.specs.Takes.{inserts}
use Rattle.sv_core.specs.declared.entries.Which.{Which}
use Rattle.sv_core.specs.declared.entries.Which.TheVariants.{Rows, Changes}
use Rattle.sv_core.specs.Document.{Document}

abbrev pub inserts_in : List Op → ℕ
inserts_in [] = 0
inserts_in (op ∷ ops) = inserts op.effects + inserts_in ops

abbrev pub changes_in : List Op → ℕ
changes_in [] = 0
changes_in (op ∷ ops) = length op.effects + changes_in ops

-- of all that is published
abbrev pub rows_used : Document → Medium → ℕ
rows_used doc m = length doc.init + inserts_in (all_to m 9)

abbrev pub changes_used : Medium → ℕ
changes_used m = changes_in (all_to m 9)

-- what there is no room for, and how much of it is used
pub record Lack : Type 0 where
  pub which : Which
  pub used : ℕ

abbrev pub lack_of : Document → Medium → List RowEffect → Option Lack
lack_of doc m es =
    if nat_lt doc.rows (rows_used doc m + inserts es) then Some (record { which = Rows; used = rows_used doc m })
    else if nat_lt doc.changes (changes_used m + length es) then Some (record { which = Changes; used = changes_used m })
    else None
