-- What a list asks is met exactly where the change sets no text outside the list.
use Rattle.std.proofs.Common.{◌≡◌, ◌⊎◌, inl, inr, ◌∙◌, ℕ, zero, suc, Bool, true, false, List, [], ◌∷◌, Option, Some, None, refl, sym, ap, subst, arith, bytes_eq, pos}
use Rattle.std.specs.Prelude.{◌==◌, ◌↔◌, ◌||◌, if◌then◌else◌, map}
use Rattle.std.specs.List.{list_any, Contains}
use Rattle.std.specs.Option.{option_map}
use Rattle.std.proofs.lemmas.Bool.Decides.{nat_tests}
use Rattle.std.proofs.lemmas.Slice.Eq.{bytes_eq-Decides}
use Rattle.std.proofs.lemmas.List.Elements.{All-nil, All-cons, All-head, Contains-append_right, Contains-append_cases}
use Rattle.sv_value.specs.declared.values.Val.{Val}
use Rattle.sv_value.specs.declared.values.Val.TheVariants.{Int, Text as IsText}
use Rattle.sv_app.specs.Schema.{OneOf, Declaration}
use Rattle.sv_app.specs.Valid.{IsListed}
use Rattle.sv_effect.specs.declared.ops.Write.{Write}
use Rattle.sv_effect.specs.declared.ops.Write.TheVariants as writes
use Rattle.sv_effect.specs.BareTables.{got_of}
use Rattle.sv_effect.specs.Threatened.{SetsUnlisted, ByList}
use Rattle.sv_linear.specs.Atoms.{ByTest, write_to, list_tests}
use Rattle.sv_linear.specs.Effects.{SymWrite, Delta, Set, Number, TextIs, TextSymbol, text_in}
use Rattle.sv_linear.specs.Forms.{symbol_at}
use Rattle.sv_linear.specs.Tests.{Test, InList, Never}
use Rattle.sv_wp.specs.Gives.{write_on, IsMetOn, AreMet}
use Rattle.sv_wp.specs.Laws.{AreTexts, ListDecides}
use Rattle.sv_wp.proofs.Moves.{write_stands}

-- ---- a text of a list

alone : (x t : List ℕ) → Contains (x ∷ []) t → x ≡ t
alone x t (zero, lt, e) = e
alone x t (suc k, lt, e) = absurd (omega (arith, lt))

contained : (t : List ℕ) (texts : List (List ℕ)) → list_any (bytes_eq t) texts ≡ true → Contains texts t
contained t [] h = absurd cc
contained t (x ∷ xs) h = by_first (bytes_eq t x) refl h (contained t xs)
  where
    by_first : (b : Bool) → bytes_eq t x ≡ b → (b || list_any (bytes_eq t) xs) ≡ true → (list_any (bytes_eq t) xs ≡ true → Contains xs t) → Contains (x ∷ xs) t
    by_first true e h later = (0, omega arith, sym ((bytes_eq-Decides t x).0 e))
    by_first false e h later = Contains-append_right (x ∷ []) xs t (later h)

found : (t : List ℕ) (texts : List (List ℕ)) → Contains texts t → list_any (bytes_eq t) texts ≡ true
found t [] (k, lt, e) = absurd (omega (arith, lt))
found t (x ∷ xs) h = by_place (Contains-append_cases (x ∷ []) xs t h) (found t xs)
  where
    by_place : Contains (x ∷ []) t ⊎ Contains xs t → (Contains xs t → list_any (bytes_eq t) xs ≡ true) → list_any (bytes_eq t) (x ∷ xs) ≡ true
    by_place (inl one) later = let e : bytes_eq t x ≡ true = (bytes_eq-Decides t x).1 (sym (alone x t one)) in grind (arith, e)
    by_place (inr more) later = let e : list_any (bytes_eq t) xs ≡ true = later more in grind (arith, e)

-- ---- by the write to the column

abbrev Unlisted : Option Write → List (List ℕ) → Type 0
Unlisted w texts = (val : Val) × (w ≡ Some (writes.Set val)) × (IsListed (got_of val) texts → ⊥)

abbrev set_of : Option Write → Val
set_of None = Int (pos 0)
set_of (Some (writes.Delta d)) = Int (pos 0)
set_of (Some (writes.Set v)) = v

module _ (schema : List Declaration) (tape : List Val) (number : ℕ) (texts : List (List ℕ)) where
  abbrev Met : List Test → Type 0
  Met tests = AreMet schema tape (map ByTest tests)

  never : Met (Never ∷ []) → ⊥
  never h = All-head (IsMetOn schema tape) Never [] h

  listed_val : (t : List ℕ) (val : Val) → Some (writes.Set (IsText t)) ≡ Some (writes.Set val) → IsText t ≡ val
  listed_val t val p = ap set_of p

  unlisted_text : (t : List ℕ) → list_any (bytes_eq t) texts ≡ false → Unlisted (Some (writes.Set (IsText t))) texts
  unlisted_text t e = (IsText t, refl, λ c. let p : list_any (bytes_eq t) texts ≡ true = found t texts c in absurd cc)

  listed_text : (t : List ℕ) → list_any (bytes_eq t) texts ≡ true → Unlisted (Some (writes.Set (IsText t))) texts → ⊥
  listed_text t e (val, p, un) = un (subst (λ v. IsListed (got_of v) texts) (listed_val t val p) (contained t texts e))

  by_text : (t : List ℕ) (b : Bool) → list_any (bytes_eq t) texts ≡ b → Met (if b then [] else Never ∷ []) ↔ (Unlisted (Some (writes.Set (IsText t))) texts → ⊥)
  by_text t true e = (λ met. listed_text t e, λ safe. All-nil (IsMetOn schema tape))
  by_text t false e = (λ met. absurd (never met), λ safe. absurd (safe (unlisted_text t e)))

  by_symbol : (n : ℕ) → AreTexts schema number texts → (b : Bool) → list_any (bytes_eq (text_in (symbol_at tape n))) texts ≡ b
      → Met (InList n number ∷ []) ↔ (Unlisted (Some (writes.Set (IsText (text_in (symbol_at tape n))))) texts → ⊥)
  by_symbol n are true e = (λ met. listed_text (text_in (symbol_at tape n)) e, λ safe. All-cons (IsMetOn schema tape) (InList n number) [] (are.listed (text_in (symbol_at tape n)) ∙ e) (All-nil (IsMetOn schema tape)))
  by_symbol n are false e = (
    λ met. let p : list_any (bytes_eq (text_in (symbol_at tape n))) texts ≡ true = sym (are.listed (text_in (symbol_at tape n))) ∙ All-head (IsMetOn schema tape) (InList n number) [] met in absurd cc,
    λ safe. absurd (safe (unlisted_text (text_in (symbol_at tape n)) e)),
  )

  by_write : AreTexts schema number texts → (x : Option SymWrite) → Met (list_tests number texts x) ↔ (Unlisted (option_map (write_on tape) x) texts → ⊥)
  by_write are None = (λ met (val, p, un). absurd cc, λ safe. All-nil (IsMetOn schema tape))
  by_write are (Some (Delta f)) = (λ met (val, p, un). absurd cc, λ safe. All-nil (IsMetOn schema tape))
  by_write are (Some (Set (Number f))) = (λ met. absurd (never met), λ safe. absurd (safe (_, refl, λ h. h)))
  by_write are (Some (Set (TextIs t))) = by_text t (list_any (bytes_eq t) texts) refl
  by_write are (Some (Set (TextSymbol n))) = by_symbol n are (list_any (bytes_eq (text_in (symbol_at tape n))) texts) refl

-- ---- by the table

same_place : (m n k : ℕ) → m ≡ n → (m == k) ≡ true → n ≡ k
same_place m n k p e = grind (arith, nat_tests, p, e)

other_place : (m n k : ℕ) → m ≡ n → (m == k) ≡ false → n ≡ k → ⊥
other_place m n k p e q = grind (arith, nat_tests, p, e, q)

pub list_decides : ListDecides
list_decides schema change tape e number table d column texts s are = by_table (e.table == table) refl
  where
    written : SetsUnlisted change column texts → Unlisted (option_map (write_on tape) (write_to column.num e.writes)) texts
    written u = (u.val, write_stands tape e change s column.num ∙ u.set, u.unlisted)

    unwritten : Unlisted (option_map (write_on tape) (write_to column.num e.writes)) texts → SetsUnlisted change column texts
    unwritten (val, p, un) = record { val = val; set = sym (write_stands tape e change s column.num) ∙ p; unlisted = un }

    by_table : (b : Bool) → (e.table == table) ≡ b → AreMet schema tape (if b then map ByTest (list_tests number texts (write_to column.num e.writes)) else []) ↔ (ByList change table d (OneOf column texts) → ⊥)
    by_table true h =
        let is = by_write schema tape number texts are (write_to column.num e.writes) in
        (λ met by. is.0 met (written by.1), λ safe. is.1 (λ u. safe (same_place e.table change.place.table table s.table h, unwritten u)))
    by_table false h = (λ met by. other_place e.table change.place.table table s.table h by.0, λ safe. All-nil (IsMetOn schema tape))
