-- One step of the walk along the terms of two forms.
use Rattle.std.proofs.Common.{◌≡◌, ℕ, ◌<◌, ◌≤◌, ℤ, ◌+ℤ◌, List, [], length, Bool, true, sym, ap, ◌∙◌}
use Rattle.sv_linear.specs.declared.stops.FormStop.{FormStop}
use Rattle.sv_linear.specs.Forms.{with_term, put_all, is_ordered}
use Rattle.sv_linear.specs.Sums.{IsStopOfTerms, ArePut, signed, turned}
use Rattle.sv_linear.proofs.OrderLaws.{walk_below, walk_same, walk_above, all_none, turned_none}
use Rattle.sv_linear.proofs.PutLaws.{puts_then, puts_as, stops_as, stops_here, stops_later}
use Rattle.sv_linear.proofs.SliceLaws.{first, rest, by_firsts, no_items}

abbrev pub total : List (ℕ × ℤ) → List (ℕ × ℤ) → Bool → List (ℕ × ℤ)
total a b minus = put_all a (turned minus b)

-- the terms of two forms begin so: the sum is one term, then the sum of what is left
record Begins (a b : List (ℕ × ℤ)) (minus : Bool) (symbol : ℕ) (by : ℤ) (later : List (ℕ × ℤ)) : Type 0 where
  is : total a b minus ≡ with_term symbol by later

below_begins : (a b : List (ℕ × ℤ)) (minus : Bool) → 1 ≤ length a → 1 ≤ length b → is_ordered 0 a ≡ true → is_ordered 0 b ≡ true → (first a).0 < (first b).0 → Begins a b minus (first a).0 (first a).1 (total (rest a) b minus)
below_begins a b minus h g =
    by_firsts (λ k x xs l y ys. is_ordered 0 k ≡ true → is_ordered 0 l ≡ true → x.0 < y.0 → Begins k l minus x.0 x.1 (total xs l minus))
    (λ x xs y ys p q r. record { is = walk_below x y xs ys minus p q r }) a b h g

pub below_puts : (a b : List (ℕ × ℤ)) (minus : Bool) (before here after : List (ℕ × ℤ)) → 1 ≤ length a → 1 ≤ length b → is_ordered 0 a ≡ true → is_ordered 0 b ≡ true → (first a).0 < (first b).0
    → ArePut before (with_term (first a).0 (first a).1 []) here → ArePut here (total (rest a) b minus) after → ArePut before (total a b minus) after
below_puts a b minus before here after h g p q r u v =
    puts_as _ _ before after (below_begins a b minus h g p q r).is (puts_then (first a).0 (first a).1 (total (rest a) b minus) before here after u v)

pub below_stops : (a b : List (ℕ × ℤ)) (minus : Bool) (stop : FormStop) → 1 ≤ length a → 1 ≤ length b → is_ordered 0 a ≡ true → is_ordered 0 b ≡ true → (first a).0 < (first b).0
    → IsStopOfTerms (with_term (first a).0 (first a).1 []) stop → IsStopOfTerms (total a b minus) stop
below_stops a b minus stop h g p q r u = stops_as _ _ stop (below_begins a b minus h g p q r).is (stops_here (first a).0 (first a).1 (total (rest a) b minus) stop u)

pub below_stops_later : (a b : List (ℕ × ℤ)) (minus : Bool) (stop : FormStop) → 1 ≤ length a → 1 ≤ length b → is_ordered 0 a ≡ true → is_ordered 0 b ≡ true → (first a).0 < (first b).0
    → IsStopOfTerms (total (rest a) b minus) stop → IsStopOfTerms (total a b minus) stop
below_stops_later a b minus stop h g p q r u = stops_as _ _ stop (below_begins a b minus h g p q r).is (stops_later (first a).0 (first a).1 (total (rest a) b minus) stop u)

same_begins : (a b : List (ℕ × ℤ)) (minus : Bool) → 1 ≤ length a → 1 ≤ length b → is_ordered 0 a ≡ true → is_ordered 0 b ≡ true → (first a).0 ≡ (first b).0 → Begins a b minus (first a).0 ((first a).1 +ℤ signed minus (first b).1) (total (rest a) (rest b) minus)
same_begins a b minus h g =
    by_firsts (λ k x xs l y ys. is_ordered 0 k ≡ true → is_ordered 0 l ≡ true → x.0 ≡ y.0 → Begins k l minus x.0 (x.1 +ℤ signed minus y.1) (total xs ys minus))
    (λ x xs y ys p q r. record { is = walk_same x y xs ys minus p q r }) a b h g

pub same_puts : (a b : List (ℕ × ℤ)) (minus : Bool) (before here after : List (ℕ × ℤ)) → 1 ≤ length a → 1 ≤ length b → is_ordered 0 a ≡ true → is_ordered 0 b ≡ true → (first a).0 ≡ (first b).0
    → ArePut before (with_term (first a).0 ((first a).1 +ℤ signed minus (first b).1) []) here → ArePut here (total (rest a) (rest b) minus) after → ArePut before (total a b minus) after
same_puts a b minus before here after h g p q r u v =
    puts_as _ _ before after (same_begins a b minus h g p q r).is (puts_then (first a).0 ((first a).1 +ℤ signed minus (first b).1) (total (rest a) (rest b) minus) before here after u v)

pub same_stops : (a b : List (ℕ × ℤ)) (minus : Bool) (stop : FormStop) → 1 ≤ length a → 1 ≤ length b → is_ordered 0 a ≡ true → is_ordered 0 b ≡ true → (first a).0 ≡ (first b).0
    → IsStopOfTerms (with_term (first a).0 ((first a).1 +ℤ signed minus (first b).1) []) stop → IsStopOfTerms (total a b minus) stop
same_stops a b minus stop h g p q r u = stops_as _ _ stop (same_begins a b minus h g p q r).is (stops_here (first a).0 ((first a).1 +ℤ signed minus (first b).1) (total (rest a) (rest b) minus) stop u)

pub same_stops_later : (a b : List (ℕ × ℤ)) (minus : Bool) (stop : FormStop) → 1 ≤ length a → 1 ≤ length b → is_ordered 0 a ≡ true → is_ordered 0 b ≡ true → (first a).0 ≡ (first b).0
    → IsStopOfTerms (total (rest a) (rest b) minus) stop → IsStopOfTerms (total a b minus) stop
same_stops_later a b minus stop h g p q r u = stops_as _ _ stop (same_begins a b minus h g p q r).is (stops_later (first a).0 ((first a).1 +ℤ signed minus (first b).1) (total (rest a) (rest b) minus) stop u)

above_begins : (a b : List (ℕ × ℤ)) (minus : Bool) → 1 ≤ length a → 1 ≤ length b → is_ordered 0 a ≡ true → is_ordered 0 b ≡ true → (first b).0 < (first a).0 → Begins a b minus (first b).0 (signed minus (first b).1) (total a (rest b) minus)
above_begins a b minus h g =
    by_firsts (λ k x xs l y ys. is_ordered 0 k ≡ true → is_ordered 0 l ≡ true → y.0 < x.0 → Begins k l minus y.0 (signed minus y.1) (total k ys minus))
    (λ x xs y ys p q r. record { is = walk_above x y xs ys minus p q r }) a b h g

pub above_puts : (a b : List (ℕ × ℤ)) (minus : Bool) (before here after : List (ℕ × ℤ)) → 1 ≤ length a → 1 ≤ length b → is_ordered 0 a ≡ true → is_ordered 0 b ≡ true → (first b).0 < (first a).0
    → ArePut before (with_term (first b).0 (signed minus (first b).1) []) here → ArePut here (total a (rest b) minus) after → ArePut before (total a b minus) after
above_puts a b minus before here after h g p q r u v =
    puts_as _ _ before after (above_begins a b minus h g p q r).is (puts_then (first b).0 (signed minus (first b).1) (total a (rest b) minus) before here after u v)

pub above_stops : (a b : List (ℕ × ℤ)) (minus : Bool) (stop : FormStop) → 1 ≤ length a → 1 ≤ length b → is_ordered 0 a ≡ true → is_ordered 0 b ≡ true → (first b).0 < (first a).0
    → IsStopOfTerms (with_term (first b).0 (signed minus (first b).1) []) stop → IsStopOfTerms (total a b minus) stop
above_stops a b minus stop h g p q r u = stops_as _ _ stop (above_begins a b minus h g p q r).is (stops_here (first b).0 (signed minus (first b).1) (total a (rest b) minus) stop u)

pub above_stops_later : (a b : List (ℕ × ℤ)) (minus : Bool) (stop : FormStop) → 1 ≤ length a → 1 ≤ length b → is_ordered 0 a ≡ true → is_ordered 0 b ≡ true → (first b).0 < (first a).0
    → IsStopOfTerms (total a (rest b) minus) stop → IsStopOfTerms (total a b minus) stop
above_stops_later a b minus stop h g p q r u = stops_as _ _ stop (above_begins a b minus h g p q r).is (stops_later (first b).0 (signed minus (first b).1) (total a (rest b) minus) stop u)

-- where the second form has no terms left
pub alone : (a b : List (ℕ × ℤ)) (minus : Bool) → length b < 1 → is_ordered 0 a ≡ true → a ≡ total a b minus
alone a b minus h p = sym (ap (λ l. total a l minus) (no_items b h) ∙ ap (put_all a) (turned_none minus) ∙ all_none a p)
