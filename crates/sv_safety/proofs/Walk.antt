-- What holds of each kept row before the changes of an operation, and is kept by each change, holds of each kept row after them.
use Rattle.std.proofs.Common.{◌≡◌, ℕ, suc, ◌+◌, cond, Bool, true, false, List, [], ◌∷◌, length, Option, Some, None, slice_get, refl, sym, ap, subst, ◌∙◌, arith}
use Rattle.std.specs.Prelude.{unwrap_or}
use Rattle.std.specs.FinMap.{get, get-insert}
use Rattle.std.proofs.lemmas.Map.Views.{tells_apart}
use Rattle.sv_app.specs.declared.acts.Act.{Act}
use Rattle.sv_app.specs.declared.acts.Act.TheVariants.{Insert, Update, Remove, Fresh}
use Rattle.sv_app.specs.declared.places.Place.{Place}
use Rattle.sv_app.specs.Schema.{Declaration}
use Rattle.sv_app.proofs.PlaceLaws.{place_total, exact_places}
use Rattle.sv_effect.specs.declared.ops.Op.{Op}
use Rattle.sv_effect.specs.declared.ops.RowEffect.{RowEffect}
use Rattle.sv_effect.specs.Acts.{is_insert, IsFound, is_draw}
use Rattle.sv_effect.specs.Applied.{Change, place_of, changes_from, columns_in, zero_row_in, changed_at, with_change_at, with_changes}
use Rattle.sv_effect.specs.Commutes.{TablesFit}
use Rattle.sv_effect.specs.Fits.{FitsSchema, AllFit, CellsFit}
use Rattle.sv_effect.specs.Laws.{HasNoLists}
use Rattle.sv_effect.specs.StampedTables.{StampedRow, StampedTables}
use Rattle.sv_effect.specs.TablesOfCut.{is_place}
use Rattle.sv_effect.specs.Takes.{FindsRows}
use Rattle.sv_effect.proofs.KeptLaws.{change_kept}
use Rattle.sv_effect.proofs.SourceLaws.{same_place}

abbrev pub change_of : Op → ℕ → RowEffect → Change
change_of op n e = record { value = e; stamp = record { time = op.time; site = op.site; place = n } }

abbrev pub RowFact : Type 1
RowFact = ℕ → Place → StampedRow → Type 0

-- the n-th change keeps what holds of rows
pub record Keeps (schema : List Declaration) (op : Op) (R : RowFact) (n : ℕ) (e : RowEffect) : Type 0 where
  pub found : (row : StampedRow) → is_draw e.act ≡ false → CellsFit (columns_in schema (place_of e)) row.cells → R n (place_of e) row → R (suc n) (place_of e) (changed_at schema (place_of e) (change_of op n e) row)
  pub made : is_insert e.act ≡ true → R (suc n) (place_of e) (changed_at schema (place_of e) (change_of op n e) (zero_row_in schema (place_of e)))
  pub others : (q : Place) (row : StampedRow) → (q ≡ place_of e → ⊥) → R n q row → R (suc n) q row

same_row : (a b : StampedRow) → Some a ≡ Some b → a ≡ b
same_row a b e = cc

step : (schema : List Declaration) (op : Op) (R : RowFact) (n : ℕ) (e : RowEffect) (t : StampedTables) → TablesFit schema t → IsFound e.act (get t (place_of e)) → Keeps schema op R n e
    → ((q : Place) (row : StampedRow) → get t q ≡ Some row → R n q row)
    → (q : Place) (row : StampedRow) → get (with_change_at schema (place_of e) (change_of op n e) t) q ≡ Some row → R (suc n) q row
step schema op R n e t fits found keeps before q row is =
    split (is_place q (place_of e)) refl (sym (get-insert place_total t (place_of e) (changed_at schema (place_of e) (change_of op n e) (unwrap_or (get t (place_of e)) (zero_row_in schema (place_of e)))) q) ∙ is)
  where
    may : (act : Act) (x : StampedRow) → IsFound act (Some x) → is_draw act ≡ false
    may Insert x f = refl
    may Fresh x f = absurd f
    may Update x f = refl
    may Remove x f = refl

    act_found : (act : Act) → IsFound {A = StampedRow} act None → is_insert act ≡ true
    act_found Insert f = refl
    act_found Fresh f = refl
    act_found Update f = absurd f
    act_found Remove f = absurd f

    here : (o : Option StampedRow) → get t (place_of e) ≡ o → IsFound e.act o
        → R (suc n) (place_of e) (changed_at schema (place_of e) (change_of op n e) (unwrap_or o (zero_row_in schema (place_of e))))
    here None at f = keeps.made (act_found e.act f)
    here (Some x) at f = keeps.found x (may e.act x f) (fits (place_of e) x at) (before (place_of e) x at)

    split : (b : Bool) → is_place q (place_of e) ≡ b
        → cond b (Some (changed_at schema (place_of e) (change_of op n e) (unwrap_or (get t (place_of e)) (zero_row_in schema (place_of e))))) (get t q) ≡ Some row → R (suc n) q row
    split true at e' = subst (λ p. R (suc n) p row) (sym (tells_apart exact_places q (place_of e) at))
        (subst (R (suc n) (place_of e)) (same_row _ row e') (here (get t (place_of e)) refl found))
    split false at e' = keeps.others q row (λ same. let no : is_place q (place_of e) ≡ true = ap (λ p. is_place p (place_of e)) same ∙ same_place (place_of e) in absurd cc) (before q row e')

pub walk : (schema : List Declaration) (op : Op) (R : RowFact) (n : ℕ) (es : List RowEffect) (t : StampedTables) → HasNoLists schema → AllFit schema es → TablesFit schema t
    → FindsRows schema (changes_from op n es) t → ((k : ℕ) (e : RowEffect) → slice_get es k ≡ Some e → FitsSchema schema e → Keeps schema op R (n + k) e)
    → ((q : Place) (row : StampedRow) → get t q ≡ Some row → R n q row)
    → (q : Place) (row : StampedRow) → get (with_changes schema (changes_from op n es) t) q ≡ Some row → R (n + length es) q row
walk schema op R n [] t none_lists fits tables found keeps before q row is = let number : n ≡ (n + 0) = omega arith in subst (λ k. R k q row) number (before q row is)
walk schema op R n (e ∷ es) t none_lists fits tables found keeps before q row is =
    let number : (suc n + length es) ≡ (n + suc (length es)) = omega arith in
    subst (λ k. R k q row) number
    (walk schema op R (suc n) es (with_change_at schema (place_of e) (change_of op n e) t) none_lists fits.1 (change_kept schema (change_of op n e) t none_lists fits.0 tables) found.1
    (λ k x at f. let there : (n + suc k) ≡ (suc n + k) = omega arith in subst (λ m. Keeps schema op R m x) there (keeps (suc k) x at f))
    (step schema op R n e t tables found.0 (let here : (n + 0) ≡ n = omega arith in subst (λ m. Keeps schema op R m e) here (keeps 0 e refl fits.0)) before) q row is)
