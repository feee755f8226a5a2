-- Products of whole numbers distribute over sums.
use Rattle.std.proofs.Common.{◌≡◌, zero, suc, ℤ, pos, negsuc, neg_ℤ, ◌+ℤ◌, ◌-ℤ◌, ◌*ℤ◌, sym, ap, ◌∙◌, arith}
use Rattle.std.proofs.lemmas.Int.{ints}
use Rattle.std.proofs.Math.IntN.{suc_ℤ, pred_ℤ, suc_ℤ-*ℤ, pred_ℤ-*ℤ, zero-*ℤ, suc_ℤ-+ℤ, pred_ℤ-+ℤ, *ℤ_comm}

one_more : (c d x : ℤ) → (c +ℤ d) *ℤ x ≡ (c *ℤ x) +ℤ (d *ℤ x) → (suc_ℤ c +ℤ d) *ℤ x ≡ (suc_ℤ c *ℤ x) +ℤ (d *ℤ x)
one_more c d x h = ap (λ z. z *ℤ x) (suc_ℤ-+ℤ c d) ∙ suc_ℤ-*ℤ (c +ℤ d) x ∙ ap (λ z. z +ℤ x) h ∙ turned (c *ℤ x) (d *ℤ x) x ∙ ap (λ z. z +ℤ (d *ℤ x)) (sym (suc_ℤ-*ℤ c x))
  where
    turned : (a b r : ℤ) → (a +ℤ b) +ℤ r ≡ (a +ℤ r) +ℤ b
    turned a b r = omega (arith, ints)

one_less : (c d x : ℤ) → (c +ℤ d) *ℤ x ≡ (c *ℤ x) +ℤ (d *ℤ x) → (pred_ℤ c +ℤ d) *ℤ x ≡ (pred_ℤ c *ℤ x) +ℤ (d *ℤ x)
one_less c d x h = ap (λ z. z *ℤ x) (pred_ℤ-+ℤ c d) ∙ pred_ℤ-*ℤ (c +ℤ d) x ∙ ap (λ z. z -ℤ x) h ∙ turned (c *ℤ x) (d *ℤ x) x ∙ ap (λ z. z +ℤ (d *ℤ x)) (sym (pred_ℤ-*ℤ c x))
  where
    turned : (a b r : ℤ) → (a +ℤ b) -ℤ r ≡ (a -ℤ r) +ℤ b
    turned a b r = omega (arith, ints)

none : (d x : ℤ) → (pos 0 +ℤ d) *ℤ x ≡ (pos 0 *ℤ x) +ℤ (d *ℤ x)
none d x = ap (λ z. z *ℤ x) (plain d) ∙ sym (ap (λ z. z +ℤ (d *ℤ x)) (zero-*ℤ x) ∙ plain (d *ℤ x))
  where
    plain : (z : ℤ) → pos 0 +ℤ z ≡ z
    plain z = omega (arith, ints)

pub distributes : (c d x : ℤ) → (c +ℤ d) *ℤ x ≡ (c *ℤ x) +ℤ (d *ℤ x)
distributes (pos zero) d x = none d x
distributes (pos (suc n)) d x = one_more (pos n) d x (distributes (pos n) d x)
distributes (negsuc zero) d x = one_less (pos 0) d x (none d x)
distributes (negsuc (suc n)) d x = one_less (negsuc n) d x (distributes (negsuc n) d x)

-- a product with a factor's sign turned
pub neg_times : (c x : ℤ) → neg_ℤ c *ℤ x ≡ neg_ℤ (c *ℤ x)
neg_times c x =
    let e : neg_ℤ c +ℤ c ≡ pos 0 = omega (arith, ints) in
    let h : (neg_ℤ c *ℤ x) +ℤ (c *ℤ x) ≡ pos 0 = sym (distributes (neg_ℤ c) c x) ∙ ap (λ z. z *ℤ x) e ∙ zero-*ℤ x in
    omega (arith, ints)

pub distributes_left : (c d x : ℤ) → c *ℤ (d +ℤ x) ≡ (c *ℤ d) +ℤ (c *ℤ x)
distributes_left c d x = *ℤ_comm c (d +ℤ x) ∙ distributes d x c ∙ (λ i. *ℤ_comm d c i +ℤ *ℤ_comm x c i)

more_product : (c d x : ℤ) → (c *ℤ d) *ℤ x ≡ c *ℤ (d *ℤ x) → (suc_ℤ c *ℤ d) *ℤ x ≡ suc_ℤ c *ℤ (d *ℤ x)
more_product c d x h = ap (λ z. z *ℤ x) (suc_ℤ-*ℤ c d) ∙ distributes (c *ℤ d) d x ∙ ap (λ z. z +ℤ (d *ℤ x)) h ∙ sym (suc_ℤ-*ℤ c (d *ℤ x))

less_product : (c d x : ℤ) → (c *ℤ d) *ℤ x ≡ c *ℤ (d *ℤ x) → (pred_ℤ c *ℤ d) *ℤ x ≡ pred_ℤ c *ℤ (d *ℤ x)
less_product c d x h = ap (λ z. z *ℤ x) (pred_ℤ-*ℤ c d) ∙ minus_distributes (c *ℤ d) d x ∙ ap (λ z. z -ℤ (d *ℤ x)) h ∙ sym (pred_ℤ-*ℤ c (d *ℤ x))
  where
    as_sum : (a b : ℤ) → a -ℤ b ≡ a +ℤ neg_ℤ b
    as_sum a b = omega (arith, ints)

    minus_distributes : (a b r : ℤ) → (a -ℤ b) *ℤ r ≡ (a *ℤ r) -ℤ (b *ℤ r)
    minus_distributes a b r = ap (λ z. z *ℤ r) (as_sum a b) ∙ distributes a (neg_ℤ b) r ∙ ap (λ z. (a *ℤ r) +ℤ z) (neg_times b r) ∙ sym (as_sum (a *ℤ r) (b *ℤ r))

no_product : (d x : ℤ) → (pos 0 *ℤ d) *ℤ x ≡ pos 0 *ℤ (d *ℤ x)
no_product d x = ap (λ z. z *ℤ x) (zero-*ℤ d) ∙ zero-*ℤ x ∙ sym (zero-*ℤ (d *ℤ x))

pub times_assoc : (c d x : ℤ) → (c *ℤ d) *ℤ x ≡ c *ℤ (d *ℤ x)
times_assoc (pos zero) d x = no_product d x
times_assoc (pos (suc n)) d x = more_product (pos n) d x (times_assoc (pos n) d x)
times_assoc (negsuc zero) d x = less_product (pos 0) d x (no_product d x)
times_assoc (negsuc (suc n)) d x = less_product (negsuc n) d x (times_assoc (negsuc n) d x)
