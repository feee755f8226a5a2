-- Plain columns by their places, and plain changes of a table that is declared.
use Rattle.std.proofs.Common.{◌≡◌, ◌∙◌, ℕ, zero, suc, ◌<◌, ◌≤◌, Bool, true, false, List, [], ◌∷◌, length, get_or, Option, Some, slice_get, refl, sym, ap, arith}
use Rattle.std.specs.Prelude.{◌||◌, ◌&&◌, not, nat_lt}
use Rattle.std.proofs.lemmas.Bool.Decides.{nat_tests}
use Rattle.sv_app.specs.declared.schemas.Column.{Column}
use Rattle.sv_app.specs.Kinds.{is_unmerged}
use Rattle.sv_app.specs.Schema.{Declaration}
use Rattle.sv_effect.specs.Applied.{columns_of, annotation_of}
use Rattle.sv_effect.specs.RowChange.{turn_of}
use Rattle.sv_effect.specs.RunChanges.{Effect}
use Rattle.sv_effect.specs.Threatened.{is_plain_column, writes_plain, turns, is_plain_change}
use Rattle.sv_threat.specs.Tests.{is_plain_in}

pub plain_there : (columns : List Column) (c : ℕ) (d : Column) → c < length columns → is_unmerged (get_or columns c d).merge ≡ is_plain_column columns c
plain_there [] c d less = absurd (omega (arith, less))
plain_there (x ∷ columns) zero d less = refl
plain_there (x ∷ columns) (suc c) d less = plain_there columns c d (omega (arith, less))

plain_past : (columns : List Column) (c : ℕ) → length columns ≤ c → false ≡ is_plain_column columns c
plain_past [] c less = refl
plain_past (x ∷ columns) zero less = absurd (omega (arith, less))
plain_past (x ∷ columns) (suc c) less = plain_past columns c (omega (arith, less))

pub past_test : (columns : List Column) (c : ℕ) → length columns ≤ c → nat_lt c (length columns) ≡ is_plain_column columns c
past_test columns c past = tested ∙ plain_past columns c past
  where
    tested : nat_lt c (length columns) ≡ false
    tested = grind (arith, nat_tests, past)

-- the change's table is declared
pub plain_in : (schema : List Declaration) (table : Declaration) (e : Effect) → slice_get schema e.place.table ≡ Some table → is_plain_change schema e ≡ is_plain_in table e
plain_in schema table e declared = (λ i. writes_plain (columns_of (declared i)) e.writes || (turns (turn_of e.act) && not (annotation_of (declared i))))

pub unplain_in : (table : Declaration) (e : Effect) → is_plain_in table e ≡ false → writes_plain table.columns e.writes ≡ false
unplain_in table e plain = by (writes_plain table.columns e.writes) plain
  where
    by : (b : Bool) → (b || (turns (turn_of e.act) && not (annotation_of (Some table)))) ≡ false → b ≡ false
    by true e = absurd cc
    by false e = refl
