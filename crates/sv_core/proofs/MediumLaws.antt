-- What an entry's news do to the medium.
use Rattle.std.proofs.Common.{◌≡◌, ◌⊎◌, inl, inr, ℕ, suc, ◌≤◌, ◌==◌, if◌then◌else◌, Bool, true, false, [], ◌∷◌, ◌++◌, length, take, Option, Some, None, slice_get, refl, sym, subst, arith}
use Rattle.std.proofs.lemmas.List.{length_push}
use Rattle.std.proofs.lemmas.Bool.{cases_eq}
use Rattle.sv_effect.specs.declared.ops.Op.{Op}
use Rattle.sv_effect.specs.Cut.{Medium}
use Rattle.sv_core.specs.History.{with_news}
use Rattle.sv_core.proofs.ListLaws.{get_front, get_pushed, take_front}
use Rattle.sv_app.proofs.TestLaws.{same_test, other_test}

pub news_stay : (n : Option (ℕ × Op)) (m : Medium) (o q : ℕ) (op : Op) → slice_get (m o) q ≡ Some op → slice_get (with_news n m o) q ≡ Some op
news_stay None m o q op e = e
news_stay (Some n) m o q op e = elim (o == n.0) as (λ b. slice_get (if b then m o ++ n.1 ∷ [] else m o) q ≡ Some op) [ true ↦ get_front (m o) (n.1 ∷ []) q op e | false ↦ e ]

pub news_held : (n : Option (ℕ × Op)) (m : Medium) (o k : ℕ) → k ≤ length (m o) → take k (with_news n m o) ≡ take k (m o)
news_held None m o k le = refl
news_held (Some n) m o k le = elim (o == n.0) as (λ b. take k (if b then m o ++ n.1 ∷ [] else m o) ≡ take k (m o)) [ true ↦ take_front k (m o) (n.1 ∷ []) le | false ↦ refl ]

pub news_long : (n : ℕ × Op) (m : Medium) (o : ℕ) → length (with_news (Some n) m o) ≡ (if o == n.0 then suc (length (m o)) else length (m o))
news_long n m o = elim (o == n.0) as (λ b. length (if b then m o ++ n.1 ∷ [] else m o) ≡ (if b then suc (length (m o)) else length (m o))) [ true ↦ omega (arith, length_push (m o) n.1) | false ↦ refl ]

-- what stands in the new medium stood in the old one, or is the news at the next number
pub news_get : (n : Option (ℕ × Op)) (m : Medium) (o q : ℕ) (op : Op) → slice_get (with_news n m o) q ≡ Some op
    → (slice_get (m o) q ≡ Some op) ⊎ ((q ≡ length (m o)) × (n ≡ Some (o, op)))
news_get None m o q op e = inl e
news_get (Some n) m o q op e = split (cases_eq o n.0) e
  where
    split : (o ≡ n.0) ⊎ (o ≡ n.0 → ⊥) → slice_get (if o == n.0 then m o ++ n.1 ∷ [] else m o) q ≡ Some op
        → (slice_get (m o) q ≡ Some op) ⊎ ((q ≡ length (m o)) × (Some n ≡ Some (o, op)))
    split (inl is) e = new (get_pushed (m o) n.1 q op (subst (λ b. slice_get (if b then m o ++ n.1 ∷ [] else m o) q ≡ Some op) (same_test o n.0 is) e))
      where
        new : (slice_get (m o) q ≡ Some op) ⊎ ((q ≡ length (m o)) × (n.1 ≡ op)) → (slice_get (m o) q ≡ Some op) ⊎ ((q ≡ length (m o)) × (Some n ≡ Some (o, op)))
        new (inl old) = inl old
        new (inr at) = inr (at.0, λ i. Some (sym is i, at.1 i))
    split (inr apart) e = inl (subst (λ b. slice_get (if b then m o ++ n.1 ∷ [] else m o) q ≡ Some op) (other_test o n.0 apart) e)

more_or_same : (b : Bool) (k : ℕ) → k ≤ (if b then suc k else k)
more_or_same true k = omega arith
more_or_same false k = omega arith

pub news_longer : (n : Option (ℕ × Op)) (m : Medium) (o : ℕ) → length (m o) ≤ length (with_news n m o)
news_longer None m o = omega arith
news_longer (Some n) m o = rw (news_long n m o) (more_or_same (o == n.0) (length (m o)))
