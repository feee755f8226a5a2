-- What one list extends. Callers name `extending`.
use Rattle.std.proofs.Common.{◌≡◌, ◌⊎◌, inl, inr, ◌≤◌, List, [], ◌∷◌, ◌++◌, length, drop, refl, sym, ap, ◌∙◌, arith, append-nil, append_assoc, length-append}
use Rattle.std.specs.Prelude.{if◌then◌else◌, nat_lt, Bool, true, false}
use Rattle.std.proofs.lemmas.Bool.{ltb-true, ltb-false}
use Rattle.sv_hub.specs.Extends.{Extends}
use Rattle.sv_hub.specs.Views.{longer}

module _ {A : Type 0} where
  pub extends_same : (xs : List A) → Extends xs xs
  extends_same xs = record { more = []; is = refl }

  pub extends_nil : (xs : List A) → Extends xs []
  extends_nil xs = record { more = xs; is = sym (append-nil xs) }

  pub extends_cons : (x : A) (xs : List A) → Extends (x ∷ xs) xs
  extends_cons x xs = record { more = x ∷ []; is = refl }

  pub extends_trans : {xs ys zs : List A} → Extends xs ys → Extends ys zs → Extends xs zs
  extends_trans {xs} {ys} {zs} p q = record { more = p.more ++ q.more; is = p.is ∙ ap (λ l. p.more ++ l) q.is ∙ sym (append_assoc p.more q.more zs) }

  -- two ends of one list
  ends : (a b xs ys : List A) → a ++ xs ≡ b ++ ys → length ys ≤ length xs → Extends xs ys
  ends [] b xs ys e h = record { more = b; is = e }
  ends (x ∷ a) [] xs ys e h = absurd (omega (arith, ap (λ l. length l) e, length-append a xs))
  ends (x ∷ a) (y ∷ b) xs ys e h = ends a b xs ys (ap (λ l. drop 1 l) e) h

  -- of two lists that one list extends, the longer extends the other
  pub extends_shorter : {all xs ys : List A} → Extends all xs → Extends all ys → length ys ≤ length xs → Extends xs ys
  extends_shorter {all} {xs} {ys} p q h = ends p.more q.more xs ys (sym p.is ∙ q.is) h

  -- the longer of two lists is one of them, and extends both
  pub record IsLonger (all xs ys longest : List A) : Type 0 where
    pub within : Extends all longest
    pub one : Extends longest xs
    pub other : Extends longest ys
    pub either : (longest ≡ xs) ⊎ (longest ≡ ys)

  by_test : {all : List A} (xs ys : List A) → Extends all xs → Extends all ys → (b : Bool) → nat_lt (length xs) (length ys) ≡ b → IsLonger all xs ys (if b then ys else xs)
  by_test xs ys p q true e = let less = ltb-true (length xs) (length ys) e in record { within = q; one = extends_shorter q p (omega arith); other = extends_same ys; either = inr refl }
  by_test xs ys p q false e = record { within = p; one = extends_same xs; other = extends_shorter p q (ltb-false (length xs) (length ys) e); either = inl refl }

  pub longer_is : {all : List A} (xs ys : List A) → Extends all xs → Extends all ys → IsLonger all xs ys (longer xs ys)
  longer_is xs ys p q = by_test xs ys p q (nat_lt (length xs) (length ys)) refl

pub ruleset extending = (extends_same, extends_cons, extends_trans)
