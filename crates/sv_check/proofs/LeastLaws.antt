-- The lesser of two least keys is the least of both.
use Rattle.std.proofs.Common.{◌≡◌, ◌⊎◌, inl, inr, ⊎_elim, Bool, true, false, cond, Option, Some, None, refl, sym, ap, ◌∙◌}
use Rattle.std.specs.declared.cmp.Ordering.{Ordering}
use Rattle.std.specs.declared.cmp.Ordering.TheVariants.{Less, Equal, Greater}
use Rattle.std.specs.Ordering.{is_lt, ordering_reverse}
use Rattle.sv_value.specs.declared.values.Key.{Key}
use Rattle.sv_value.specs.Orders.{key_cmp}
use Rattle.sv_value.proofs.OrderLaws.{key_total, exact_keys}
use Rattle.sv_check.specs.Least.{IsLeast, lesser}

less_is : (o : Ordering) → is_lt o ≡ true → o ≡ Less
less_is Less e = refl
less_is Equal e = absurd cc
less_is Greater e = absurd cc

is_less : (o : Ordering) → o ≡ Less → is_lt o ≡ true
is_less o e = ap is_lt e

not_less : (b : Bool) → (b ≡ true → ⊥) → b ≡ false
not_less true h = absurd (h refl)
not_less false h = refl

pub flip : (a b : Key) → key_cmp a b ≡ ordering_reverse (key_cmp b a)
flip a b = key_total.antisymm a b

-- neither is less, so they are one
pub neither : (a b : Key) → is_lt (key_cmp a b) ≡ false → is_lt (key_cmp b a) ≡ false → a ≡ b
neither a b f g = split (key_cmp a b) refl
  where
    split : (o : Ordering) → key_cmp a b ≡ o → a ≡ b
    split Less e = absurd (let h : is_lt (key_cmp a b) ≡ true = ap is_lt e in cc)
    split Equal e = exact_keys a b e
    split Greater e = absurd (let h : is_lt (key_cmp b a) ≡ true = ap is_lt (flip b a ∙ ap ordering_reverse e) in cc)

pub not_below : (a b : Key) → is_lt (key_cmp a b) ≡ true → is_lt (key_cmp b a) ≡ false
not_below a b e = ap is_lt (flip b a ∙ ap ordering_reverse (less_is (key_cmp a b) e))

pub not_itself : (a : Key) → is_lt (key_cmp a a) ≡ false
not_itself a = not_less (is_lt (key_cmp a a)) (λ e. let h : is_lt (key_cmp a a) ≡ false = not_below a a e in cc)

-- c isn't below b, and b isn't above a
pub not_lower : (a b c : Key) → is_lt (key_cmp b a) ≡ false → is_lt (key_cmp c b) ≡ false → is_lt (key_cmp c a) ≡ false
not_lower a b c f g = not_less (is_lt (key_cmp c a)) (λ e. split (key_cmp a b) refl e)
  where
    split : (o : Ordering) → key_cmp a b ≡ o → is_lt (key_cmp c a) ≡ true → ⊥
    split Less l e = let h : is_lt (key_cmp c b) ≡ true = ap is_lt (key_total.trans c a b (less_is (key_cmp c a) e) l) in cc
    split Equal l e = let same : a ≡ b = exact_keys a b l in let h : is_lt (key_cmp c b) ≡ true = ap (λ k. is_lt (key_cmp c k)) (sym same) ∙ e in cc
    split Greater l e = let h : is_lt (key_cmp b a) ≡ true = ap is_lt (flip b a ∙ ap ordering_reverse l) in cc

pub least_both : (P Q : Key → Type 0) (a b : Option Key) → IsLeast P a → IsLeast Q b → IsLeast (λ k. P k ⊎ Q k) (lesser a b)
least_both P Q None None p q = λ k either. ⊎_elim (p k) (q k) either
least_both P Q None (Some b) p q = (inr q.0, λ k either. ⊎_elim (λ h. absurd (p k h)) (q.1 k) either)
least_both P Q (Some a) None p q = (inl p.0, λ k either. ⊎_elim (p.1 k) (λ h. absurd (q k h)) either)
least_both P Q (Some a) (Some b) p q = split (is_lt (key_cmp b a)) refl
  where
    split : (r : Bool) → is_lt (key_cmp b a) ≡ r → IsLeast (λ k. P k ⊎ Q k) (cond r (Some b) (Some a))
    split true e = (inr q.0, λ k either. ⊎_elim (λ h. not_lower b a k (not_below b a e) (p.1 k h)) (q.1 k) either)
    split false e = (inl p.0, λ k either. ⊎_elim (p.1 k) (λ h. not_lower a b k e (q.1 k h)) either)

pub least_same : (P Q : Key → Type 0) (found : Option Key) → IsLeast P found → ((k : Key) → P k → Q k) → ((k : Key) → Q k → P k) → IsLeast Q found
least_same P Q None p to from = λ k h. p k (from k h)
least_same P Q (Some key) p to from = (to key p.0, λ k h. p.1 k (from k h))

pub least_one : (key : Key) → IsLeast (λ k. k ≡ key) (Some key)
least_one key = (refl, λ k h. ap (λ x. is_lt (key_cmp x key)) h ∙ not_itself key)
