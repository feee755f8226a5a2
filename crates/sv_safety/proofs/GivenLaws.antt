-- What a change gives a column is of its key, or is set.
use Rattle.std.proofs.Common.{◌≡◌, ◌⊎◌, inl, inr, ℕ, zero, suc, ◌<◌, ◌==◌, if◌then◌else◌, Bool, true, false, List, [], ◌∷◌, Some, slice_get, refl, ap, ◌∙◌, arith}
use Rattle.std.specs.List.{Contains, flat_map}
use Rattle.sv_value.specs.declared.values.Val.{Val}
use Rattle.sv_app.specs.Schema.{Declaration}
use Rattle.sv_app.proofs.ListLaws.{Stands, contained, contains_at, in_either}
use Rattle.sv_app.proofs.TestLaws.{test_same}
use Rattle.sv_effect.specs.declared.ops.RowEffect.{RowEffect}
use Rattle.sv_effect.specs.declared.ops.Write.{Write}
use Rattle.sv_effect.specs.declared.ops.Write.TheVariants.{Delta, Set}
use Rattle.sv_effect.specs.Acts.{is_insert}
use Rattle.sv_effect.specs.Fits.{AllAbove, Ascending, columns_written, ChangeFits}
use Rattle.sv_effect.specs.Needs.{key_value, set_value, given}
use Rattle.sv_effect.specs.RowChange.{key_values}
use Rattle.sv_effect.specs.RunChanges.{effect_of}
use Rattle.sv_effect.specs.Threatened.{write_to}

abbrev setting : ℕ → ℕ × Write → List Val
setting c w = if w.0 == c then set_value w.1 else []

set_from : (c : ℕ) (ws : List (ℕ × Write)) (v : Val) → Ascending (columns_written ws) → (k : ℕ) → slice_get (flat_map (setting c) ws) k ≡ Some v → write_to c ws ≡ Some (Set v)
set_from c [] v order k at = absurd cc
set_from c (w ∷ ws) v order k at = by (in_either (setting c w) (flat_map (setting c) ws) k v at)
    (λ h. set_from c ws v order.1 h.number h.at)
  where
    one : (b : Bool) (x : Write) (k : ℕ) → slice_get (if b then set_value x else []) k ≡ Some v → (b ≡ true) × (x ≡ Set v)
    one true (Set y) zero at = let same : y ≡ v = cc in (refl, ap (λ z. Set z) same)
    one true (Set y) (suc k) at = absurd cc
    one true (Delta d) k at = absurd cc
    one false x k at = absurd cc

    past : (xs : List (ℕ × Write)) → AllAbove w.0 (columns_written xs) → write_to c xs ≡ Some (Set v) → (w.0 == c) ≡ true → ⊥
    past [] above e is = cc
    past (x ∷ xs) above e is = next (x.0 == c) refl e (λ e'. past xs above.1 e' is)
      where
        next : (b : Bool) → (x.0 == c) ≡ b → (if b then Some x.1 else write_to c xs) ≡ Some (Set v) → (write_to c xs ≡ Some (Set v) → ⊥) → ⊥
        next true same e ih = let less : w.0 < x.0 = above.0 in let a : w.0 ≡ c = test_same w.0 c is in let b : x.0 ≡ c = test_same x.0 c same in omega (arith, less, a, b)
        next false same e ih = ih e

    rest : (b : Bool) → (w.0 == c) ≡ b → write_to c ws ≡ Some (Set v) → (if b then Some w.1 else write_to c ws) ≡ Some (Set v)
    rest false is e = e
    rest true is e = absurd (past ws order.0 e is)

    by : Stands (setting c w) v ⊎ Stands (flat_map (setting c) ws) v → (Stands (flat_map (setting c) ws) v → write_to c ws ≡ Some (Set v)) → (if w.0 == c then Some w.1 else write_to c ws) ≡ Some (Set v)
    by (inl h) ih = let p : ((w.0 == c) ≡ true) × (w.1 ≡ Set v) = one (w.0 == c) w.1 h.number h.at in ap (λ b. if b then Some w.1 else write_to c ws) p.0 ∙ ap (λ x. Some x) p.1
    by (inr h) ih = rest (w.0 == c) refl (ih h)

pub gives : (d : Declaration) (e : RowEffect) (c : ℕ) (v : Val) → ChangeFits d e → Contains (given d (effect_of e) c) v → Contains (key_value d.key (key_values e.key) c) v ⊎ (write_to c e.writes.items ≡ Some (Set v))
gives d e c v fits has =
    let s : Stands (given d (effect_of e) c) v = contained (given d (effect_of e) c) v has in
    by (in_either (if is_insert e.act then key_value d.key (key_values e.key) c else []) (flat_map (setting c) e.writes.items) s.number v s.at)
  where
    keyed : (b : Bool) (k : ℕ) → slice_get (if b then key_value d.key (key_values e.key) c else []) k ≡ Some v → Contains (key_value d.key (key_values e.key) c) v
    keyed true k at = contains_at (key_value d.key (key_values e.key) c) k v at
    keyed false k at = absurd cc

    by : Stands (if is_insert e.act then key_value d.key (key_values e.key) c else []) v ⊎ Stands (flat_map (setting c) e.writes.items) v → Contains (key_value d.key (key_values e.key) c) v ⊎ (write_to c e.writes.items ≡ Some (Set v))
    by (inl h) = inl (keyed (is_insert e.act) h.number h.at)
    by (inr h) = inr (set_from c e.writes.items v fits.order h.number h.at)
