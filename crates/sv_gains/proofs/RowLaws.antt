-- The rows of a table's checks, one by one, and how many there are.
use Rattle.std.proofs.Common.{◌≡◌, Bool, true, false, IfSome, ℕ, zero, suc, ◌<◌, ◌≤◌, ◌+◌, List, [], ◌∷◌, ◌++◌, length, take, get_or, sym, ap, ◌∙◌, map, subst, arith, Option, Some, None}
use Rattle.std.specs.Prelude.{if◌then◌else◌, slice_get}
use Rattle.std.specs.List.{All, flat_map}
use Rattle.std.specs.Option.{option_map, unwrap_or}
use Rattle.std.proofs.lemmas.List.{length-map, length-append, map-append}
use Rattle.std.proofs.lemmas.Grind.{flat_map-append}
use Rattle.std.proofs.lemmas.List.Elements.{All-map, All-push}
use Rattle.sv_app.specs.declared.apps.Ident.{Ident}
use Rattle.sv_app.specs.declared.schemas.Column.{Column}
use Rattle.sv_app.specs.declared.schemas.Inv.{Inv}
use Rattle.sv_app.specs.Accepted.{AcceptedSchema}
use Rattle.sv_app.specs.Conditions.{KeepsLimits, IsSmallTable}
use Rattle.sv_app.specs.Lookups.{place_of, is_named, column_names}
use Rattle.sv_app.specs.Numbers.{numbered, numbered_in, numbered_table, numbered_rule, numbered_invariant}
use Rattle.sv_app.specs.Satisfiable.{check_in, checks_of}
use Rattle.sv_app.specs.Schema.{Rule, Bound, OneOf, Different, Refers, Invariant, Declaration, invariant_of}
use Rattle.sv_app.proofs.AcceptedLaws.{all_at}
use Rattle.sv_bounds.specs.declared.systems.Diff.{Diff}
use Rattle.sv_bounds.specs.Answers.{IsSystem}
use Rattle.sv_bounds.specs.Differences.{IsRow}
use Rattle.sv_gains.specs.Asked.{asked_by, asked_in}
use Rattle.sv_gains.specs.Systems.{row_of, IsCheckRow, IsNarrowSide, IsNarrowRule, IsNarrowTable, AreNarrow}
use Rattle.sv_gains.proofs.FlatLaws.{flat_taken, flat_mapped}

pub row_behind : (rows : List Diff) (row : Diff) → All IsCheckRow rows → IsCheckRow row → All IsCheckRow (rows ++ row ∷ [])
row_behind rows row each is = All-push IsCheckRow rows row each is

checks_taken : (invs : List Inv) (i : ℕ) (inv : Inv) → i < length invs → inv ≡ get_or invs i inv
    → flat_map (λ (v : Invariant). check_in v.rule) (map invariant_of (take (i + 1) invs)) ≡ flat_map (λ (v : Invariant). check_in v.rule) (map invariant_of (take i invs)) ++ check_in (invariant_of inv).rule
checks_taken invs i inv h e =
    flat_mapped invariant_of (λ (v : Invariant). check_in v.rule) (take (i + 1) invs)
    ∙ flat_taken (λ (v : Inv). check_in (invariant_of v).rule) invs i inv h e
    ∙ ap (λ l. l ++ check_in (invariant_of inv).rule) (sym (flat_mapped invariant_of (λ (v : Invariant). check_in v.rule) (take i invs)))

-- one more invariant was looked at
pub one_row : (invs : List Inv) (i : ℕ) (inv : Inv) (rows now : List Diff) → i < length invs → inv ≡ get_or invs i inv
    → rows ≡ map row_of (flat_map (λ (v : Invariant). check_in v.rule) (map invariant_of (take i invs))) → now ≡ rows ++ map row_of (check_in (invariant_of inv).rule)
    → now ≡ map row_of (flat_map (λ (v : Invariant). check_in v.rule) (map invariant_of (take (i + 1) invs)))
one_row invs i inv rows now h e before step =
    step ∙ ap (λ l. l ++ map row_of (check_in (invariant_of inv).rule)) before
    ∙ sym (map-append row_of (flat_map (λ (v : Invariant). check_in v.rule) (map invariant_of (take i invs))) (check_in (invariant_of inv).rule))
    ∙ ap (map row_of) (sym (checks_taken invs i inv h e))

-- and what it asks
pub one_asked : (invs : List Inv) (i : ℕ) (inv : Inv) (asked now : List (Option ℕ × Option ℕ)) → i < length invs → inv ≡ get_or invs i inv
    → asked ≡ asked_in (flat_map (λ (v : Invariant). check_in v.rule) (map invariant_of (take i invs))) → now ≡ asked ++ asked_in (check_in (invariant_of inv).rule)
    → now ≡ asked_in (flat_map (λ (v : Invariant). check_in v.rule) (map invariant_of (take (i + 1) invs)))
one_asked invs i inv asked now h e before step =
    step ∙ ap (λ l. l ++ asked_in (check_in (invariant_of inv).rule)) before
    ∙ sym (flat_map-append asked_by (flat_map (λ (v : Invariant). check_in v.rule) (map invariant_of (take i invs))) (check_in (invariant_of inv).rule))
    ∙ ap asked_in (sym (checks_taken invs i inv h e))

pub narrow_rule : (invs : List Inv) (i : ℕ) (inv : Inv) → i < length invs → inv ≡ get_or invs i inv → All (λ (v : Invariant). IsNarrowRule v.rule) (map invariant_of invs) → IsNarrowRule (invariant_of inv).rule
narrow_rule [] i inv h e each = absurd (omega (arith, h))
narrow_rule (x ∷ invs) zero inv h e each = subst (λ (v : Inv). IsNarrowRule (invariant_of v).rule) (sym e) (each 0 (invariant_of x) (omega arith))
narrow_rule (x ∷ invs) (suc i) inv h e each = narrow_rule invs i inv (omega (arith, h)) e (λ k d less. each (suc k) d (omega (arith, less)))

one_each : (rule : Rule) → length (check_in rule) ≤ 1
one_each (Bound check) = omega arith
one_each (OneOf name texts) = omega arith
one_each (Different name) = omega arith
one_each (Refers name table target) = omega arith

few_checks : (invs : List Invariant) → length (flat_map (λ (v : Invariant). check_in v.rule) invs) ≤ length invs
few_checks [] = omega arith
few_checks (v ∷ invs) =
    let whole = length-append (check_in v.rule) (flat_map (λ (w : Invariant). check_in w.rule) invs) in
    omega (arith, whole, one_each v.rule, few_checks invs)

pub few_rows : (t : Declaration) (rows : List Diff) → IsNarrowTable t → rows ≡ map row_of (checks_of t) → length rows ≤ 16
few_rows t rows narrow e =
    let same : length rows ≡ length (map row_of (checks_of t)) = ap (λ (l : List Diff). length l) e in
    let mapped : length (map row_of (checks_of t)) ≡ length (checks_of t) = length-map (checks_of t) row_of in
    omega (arith, same, mapped, few_checks t.invs, narrow.few)

-- numbers of columns are places
place_in : (name : Ident) (names : List Ident) → IfSome (place_of name names) (λ k. k < length names)
place_in name [] = tt
place_in name (x ∷ names) = either (is_named x name) (place_of name names) (place_in name names) where
  either : (b : Bool) (o : Option ℕ) → IfSome o (λ k. k < length names) → IfSome (if b then Some 0 else option_map (λ place. suc place) o) (λ k. k < suc (length names))
  either true o h = omega arith
  either false None h = tt
  either false (Some k) h = omega (arith, h)

small_place : (n : ℕ) (o : Option ℕ) → n ≤ 16 → IfSome o (λ k. k < n) → unwrap_or o 0 < 16
small_place n None h k = omega arith
small_place n (Some place) h k = omega (arith, h, k)

narrow_side : (names : List Ident) (side : Option Ident) → length names ≤ 16 → IsNarrowSide (option_map (numbered_in names) side)
narrow_side names None h = tt
narrow_side names (Some name) h = small_place (length names) (place_of name names) h (place_in name names)

narrow_numbered : (schema : List Declaration) (t : Declaration) (rule : Rule) → length t.columns ≤ 16 → IsNarrowRule (numbered_rule schema t rule)
narrow_numbered schema t (Bound check) h =
    let same : length (column_names t) ≡ length t.columns = length-map t.columns (λ (c : Column). c.name) in
    let few : length (column_names t) ≤ 16 = omega (arith, same, h) in
    (narrow_side (column_names t) check.hi few, narrow_side (column_names t) check.lo few)
narrow_numbered schema t (OneOf name texts) h = tt
narrow_numbered schema t (Different name) h = tt
narrow_numbered schema t (Refers name table target) h = tt

one_narrow : (schema : List Declaration) (t : Declaration) → IsSmallTable t → IsNarrowTable (numbered_table schema t)
one_narrow schema t small = record {
  few = let same : length (map (numbered_invariant schema t) t.invs) ≡ length t.invs = length-map t.invs (numbered_invariant schema t) in omega (arith, same, small.invariants);
  narrow = All-map (λ v. IsNarrowRule v.rule) (numbered_invariant schema t) t.invs (λ k d h. narrow_numbered schema t (get_or t.invs k d).rule small.columns);
}

pub are_narrow : (schema : List Declaration) → KeepsLimits schema → AreNarrow (numbered schema)
are_narrow schema k = record {
  few = let same : length (numbered schema) ≡ length schema = length-map schema (numbered_table schema) in omega (arith, same, k.count);
  each = All-map IsNarrowTable (numbered_table schema) schema (λ n d h. one_narrow schema _ (k.each n d h));
}

-- the tables of an accepted schema have these numbers
pub accepted_narrow : (schema : List Declaration) (number : ℕ) (table : Declaration) → AcceptedSchema schema → slice_get schema number ≡ Some table → IsNarrowTable table
accepted_narrow schema number table accepted at = all_at IsNarrowTable schema number table (subst AreNarrow accepted.names (are_narrow schema accepted.limits)).each at

pub ruleset rowing = (row_behind, one_row, one_asked, narrow_rule)

rows_in : (rows : List Diff) → All IsCheckRow rows → All (IsRow 17) rows
rows_in rows each k d h = (each k d h).row

pub system_is : (t : Declaration) (rows : List Diff) → IsNarrowTable t → rows ≡ map row_of (checks_of t) → All IsCheckRow rows → IsSystem (record { vars = 17; rows = rows })
system_is t rows narrow e within = record {
  some = omega arith;
  few = omega arith;
  many = omega (arith, few_rows t rows narrow e);
  rows = rows_in rows within;
}
