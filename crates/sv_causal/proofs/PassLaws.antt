-- Items that are taken from the front of a ring one after the other, where those that stay are put behind the others.
use Rattle.std.proofs.Common.{◌≡◌, ℕ, zero, suc, ◌+◌, ◌-◌, ◌<◌, ◌≤◌, Bool, true, false, cond, ◌||◌, List, [], ◌∷◌, ◌++◌, length, take, drop, Option, Some, None, slice_get, unwrap_or, refl, sym, ap, subst, ◌∙◌, arith}
use Rattle.std.specs.List.{filter, list_any}
use Rattle.std.proofs.lemmas.List.{append_assoc, append-nil, length-append, length-drop, take-append-drop, take_all}
use Rattle.std.proofs.Math.Seq.{drop-append_seam, take-append_seam}
use Rattle.std.proofs.Math.ListN.{drop_of_length-le}
use Rattle.std.proofs.lemmas.List.Elements.{filter-append}
use Rattle.std.proofs.lemmas.List.Folds.{list_any-append}
use Rattle.std.proofs.lemmas.Option.{slice_get_past}
use Rattle.circular_buffer.specs.Buffer.{Buffer, buffer, keep_last}
use Rattle.sv_value.specs.declared.packets.Packet.{Packet}
use Rattle.sv_causal.specs.Inboxes.{without}

plus_one : (n : ℕ) → suc n ≡ n + 1
plus_one n = omega arith

module _ {X : Type 0} where
  kept_all : (n : ℕ) (ys : List X) → length ys ≤ n → keep_last n ys ≡ ys
  kept_all n ys le =
      let none : length ys - n ≡ 0 = omega (arith, le) in
      ap (λ k. drop k ys) none

  front_value : (xs : List X) (i : ℕ) (ys : List X) → i < length xs → slice_get (drop i xs ++ ys) 0 ≡ slice_get xs i
  front_value [] i ys lt = absurd (omega (arith, lt))
  front_value (x ∷ xs) zero ys lt = refl
  front_value (x ∷ xs) (suc i) ys lt = front_value xs i ys (omega (arith, lt))

  front_rest : (xs : List X) (i : ℕ) (ys : List X) → i < length xs → drop 1 (drop i xs ++ ys) ≡ drop (suc i) xs ++ ys
  front_rest [] i ys lt = absurd (omega (arith, lt))
  front_rest (x ∷ xs) zero ys lt = refl
  front_rest (x ∷ xs) (suc i) ys lt = front_rest xs i ys (omega (arith, lt))

  taken : (xs : List X) (i : ℕ) (p : X) → slice_get xs i ≡ Some p → take (suc i) xs ≡ take i xs ++ p ∷ []
  taken [] i p is = absurd cc
  taken (x ∷ xs) zero p is = ap (λ o. unwrap_or o x ∷ []) is
  taken (x ∷ xs) (suc i) p is = ap (λ ys. x ∷ ys) (taken xs i p is)

  both_parts : (xs : List X) (i : ℕ) → length (take i xs) + length (drop i xs) ≡ length xs
  both_parts xs i = sym (length-append (take i xs) (drop i xs)) ∙ ap length (take-append-drop i xs)

  -- an item that stays goes behind the others
  stays : (xs ys zs : List X) (n i : ℕ) (p : X) → i < length xs → zs ≡ ys ++ p ∷ [] → length zs + length (drop (suc i) xs) ≤ n → keep_last n (drop 1 (drop i xs ++ ys) ++ p ∷ []) ≡ drop (suc i) xs ++ zs
  stays xs ys zs n i p lt is room =
      let items : drop 1 (drop i xs ++ ys) ++ p ∷ [] ≡ drop (suc i) xs ++ zs =
      ap (λ w. w ++ p ∷ []) (front_rest xs i ys lt) ∙ append_assoc (drop (suc i) xs) ys (p ∷ []) ∙ ap (λ w. drop (suc i) xs ++ w) (sym is) in
      let long = length-append (drop (suc i) xs) zs in
      ap (keep_last n) items ∙ kept_all n (drop (suc i) xs ++ zs) (omega (arith, room, long))

  -- turned by i items
  abbrev pub turned : List X → ℕ → List X
  turned xs i = drop i xs ++ take i xs

  pub turn_step : (xs : List X) (n i : ℕ) (p : X) → length xs ≤ n → i < length xs → slice_get (turned xs i) 0 ≡ Some p
      → buffer (keep_last n (drop 1 (turned xs i) ++ p ∷ [])) n ≡ buffer (turned xs (i + 1)) n
  turn_step xs n i p room lt is =
      let more = taken xs i p (sym (front_value xs i (take i xs) lt) ∙ is) in
      let long = both_parts xs (suc i) in
      ap (λ items. buffer items n) (stays xs (take i xs) (take (suc i) xs) n i p lt more (omega (arith, room, long)) ∙ ap (turned xs) (plus_one i))

  pub turn_ends : (xs : List X) (i : ℕ) → i < length xs → slice_get (turned xs i) 0 ≡ None → ⊥
  turn_ends xs i lt is = there xs i lt (sym (front_value xs i (take i xs) lt) ∙ is)
    where
      there : (xs : List X) (i : ℕ) → i < length xs → slice_get xs i ≡ None → ⊥
      there [] i lt is = omega (arith, lt)
      there (x ∷ xs) zero lt is = cc
      there (x ∷ xs) (suc i) lt is = there xs i (omega (arith, lt)) is

  -- those of the first i that pass the test stand behind the others
  abbrev pub passed : (X → Bool) → List X → ℕ → List X
  passed test xs i = drop i xs ++ filter test (take i xs)

  filter_short : (test : X → Bool) (xs : List X) → length (filter test xs) ≤ length xs
  filter_short test [] = omega arith
  filter_short test (x ∷ xs) = by (test x) (filter_short test xs)
    where
      by : (b : Bool) → length (filter test xs) ≤ length xs → length (cond b (x ∷ filter test xs) (filter test xs)) ≤ length (x ∷ xs)
      by true le = omega (arith, le)
      by false le = omega (arith, le)

  pub pass_keeps : (test : X → Bool) (xs : List X) (n i : ℕ) (p : X) → length xs ≤ n → i < length xs → slice_get (passed test xs i) 0 ≡ Some p → test p ≡ true
      → buffer (keep_last n (drop 1 (passed test xs i) ++ p ∷ [])) n ≡ buffer (passed test xs (i + 1)) n
  pass_keeps test xs n i p room lt is holds =
      let ys = filter test (take i xs) in
      let more = taken xs i p (sym (front_value xs i ys lt) ∙ is) in
      let grown : filter test (take (suc i) xs) ≡ ys ++ p ∷ [] = ap (filter test) more ∙ filter-append test (take i xs) (p ∷ []) ∙ ap (λ b. ys ++ cond b (p ∷ []) []) holds in
      let long = both_parts xs (suc i) in
      let short = filter_short test (take (suc i) xs) in
      ap (λ items. buffer items n) (stays xs ys (filter test (take (suc i) xs)) n i p lt grown (omega (arith, room, long, short)) ∙ ap (passed test xs) (plus_one i))

  pub pass_leaves : (test : X → Bool) (xs : List X) (n i : ℕ) (p : X) → i < length xs → slice_get (passed test xs i) 0 ≡ Some p → test p ≡ false
      → buffer (drop 1 (passed test xs i)) n ≡ buffer (passed test xs (i + 1)) n
  pass_leaves test xs n i p lt is fails =
      let ys = filter test (take i xs) in
      let more = taken xs i p (sym (front_value xs i ys lt) ∙ is) in
      let same : filter test (take (suc i) xs) ≡ ys = ap (filter test) more ∙ filter-append test (take i xs) (p ∷ []) ∙ ap (λ b. ys ++ cond b (p ∷ []) []) fails ∙ append-nil ys in
      ap (λ items. buffer items n) (front_rest xs i ys lt ∙ ap (λ w. drop (suc i) xs ++ w) (sym same) ∙ ap (passed test xs) (plus_one i))

  pub pass_ends : (test : X → Bool) (xs : List X) (i : ℕ) → i < length xs → slice_get (passed test xs i) 0 ≡ None → ⊥
  pass_ends test xs i lt is = turn_ends xs i lt (front_value xs i (take i xs) lt ∙ sym (front_value xs i (filter test (take i xs)) lt) ∙ is)

  pub pass_done : (test : X → Bool) (xs : List X) (n i : ℕ) → length xs ≤ i → buffer (passed test xs i) n ≡ buffer (filter test xs) n
  pass_done test xs n i all = (λ j. buffer (drop_of_length-le xs all j ++ filter test (take_all i xs all j)) n)

-- the same, over the ring as it stands before and after each call
module _ {X : Type 0} where
  pub turn_none : (start : Buffer X) → start ≡ buffer (turned start.items 0) start.capacity
  turn_none start = ap (λ xs. buffer xs start.capacity) (sym (append-nil start.items))

  pub keep_none : (test : X → Bool) (start : Buffer X) → start ≡ buffer (passed test start.items 0) start.capacity
  keep_none test start = ap (λ xs. buffer xs start.capacity) (sym (append-nil start.items))

  pub turn_next : (start now popped after : Buffer X) (i : ℕ) (front : Option X) (p : X) → length start.items ≤ start.capacity → i < length start.items
      → now ≡ buffer (turned start.items i) start.capacity → front ≡ slice_get now.items 0 → popped ≡ buffer (drop 1 now.items) now.capacity → front ≡ Some p
      → after ≡ buffer (keep_last popped.capacity (popped.items ++ p ∷ [])) popped.capacity → after ≡ buffer (turned start.items (i + 1)) start.capacity
  turn_next start now popped after i front p room lt now_is front_is popped_is some after_is =
      let rest = popped_is ∙ ap (λ b. buffer (drop 1 b.items) b.capacity) now_is in
      let value = sym (ap (λ b. slice_get b.items 0) now_is) ∙ sym front_is ∙ some in
      after_is ∙ ap (λ b. buffer (keep_last b.capacity (b.items ++ p ∷ [])) b.capacity) rest ∙ turn_step start.items start.capacity i p room lt value

  pub turn_never : (start now : Buffer X) (i : ℕ) (front : Option X) → i < length start.items → now ≡ buffer (turned start.items i) start.capacity → front ≡ slice_get now.items 0 → front ≡ None → ⊥
  turn_never start now i front lt now_is front_is none = turn_ends start.items i lt (sym (ap (λ b. slice_get b.items 0) now_is) ∙ sym front_is ∙ none)

  pub keep_next : (test : X → Bool) (start now popped after : Buffer X) (i : ℕ) (front : Option X) (p : X) (tested : Bool) → length start.items ≤ start.capacity → i < length start.items
      → now ≡ buffer (passed test start.items i) start.capacity → front ≡ slice_get now.items 0 → popped ≡ buffer (drop 1 now.items) now.capacity → front ≡ Some p
      → tested ≡ test p → tested ≡ true → after ≡ buffer (keep_last popped.capacity (popped.items ++ p ∷ [])) popped.capacity → after ≡ buffer (passed test start.items (i + 1)) start.capacity
  keep_next test start now popped after i front p tested room lt now_is front_is popped_is some means holds after_is =
      let rest = popped_is ∙ ap (λ b. buffer (drop 1 b.items) b.capacity) now_is in
      let value = sym (ap (λ b. slice_get b.items 0) now_is) ∙ sym front_is ∙ some in
      after_is ∙ ap (λ b. buffer (keep_last b.capacity (b.items ++ p ∷ [])) b.capacity) rest ∙ pass_keeps test start.items start.capacity i p room lt value (sym means ∙ holds)

  pub leave_next : (test : X → Bool) (start now popped : Buffer X) (i : ℕ) (front : Option X) (p : X) (tested : Bool) → i < length start.items
      → now ≡ buffer (passed test start.items i) start.capacity → front ≡ slice_get now.items 0 → popped ≡ buffer (drop 1 now.items) now.capacity → front ≡ Some p
      → tested ≡ test p → tested ≡ false → popped ≡ buffer (passed test start.items (i + 1)) start.capacity
  leave_next test start now popped i front p tested lt now_is front_is popped_is some means fails =
      let rest = popped_is ∙ ap (λ b. buffer (drop 1 b.items) b.capacity) now_is in
      let value = sym (ap (λ b. slice_get b.items 0) now_is) ∙ sym front_is ∙ some in
      rest ∙ pass_leaves test start.items start.capacity i p lt value (sym means ∙ fails)

  pub keep_never : (test : X → Bool) (start now : Buffer X) (i : ℕ) (front : Option X) → i < length start.items → now ≡ buffer (passed test start.items i) start.capacity → front ≡ slice_get now.items 0 → front ≡ None → ⊥
  keep_never test start now i front lt now_is front_is none = pass_ends test start.items i lt (sym (ap (λ b. slice_get b.items 0) now_is) ∙ sym front_is ∙ none)

  pub keep_done : (test : X → Bool) (start now : Buffer X) (i : ℕ) → length start.items ≤ i → now ≡ buffer (passed test start.items i) start.capacity → now ≡ buffer (filter test start.items) start.capacity
  keep_done test start now i all now_is = now_is ∙ pass_done test start.items start.capacity i all

pub held : (test : Packet → Bool) (front back items : List Packet) (a b : Bool) → front ++ back ≡ items → a ≡ list_any test front → b ≡ list_any test back → (a || b) ≡ list_any test items
held test front back items a b is in_front in_back = (λ i. in_front i || in_back i) ∙ sym (list_any-append test front back) ∙ ap (list_any test) is

removed_rest : (xs : List Packet) (place : ℕ) → place < length xs → turned (drop 1 (turned xs place)) (length xs - 1 - place) ≡ without xs place
removed_rest xs place lt =
    let back = drop (suc place) xs in
    let many : length back ≡ length xs - 1 - place = length-drop (suc place) xs ∙ omega arith in
    ap (λ ys. turned ys (length xs - 1 - place)) (front_rest xs place (take place xs) lt)
    ∙ ap (turned (back ++ take place xs)) (sym many)
    ∙ (λ i. drop-append_seam back (take place xs) i ++ take-append_seam back (take place xs) i)

-- what is left where one was taken out: of a ring that was turned, lost its front item, and was turned again
pub taken_out : (held : List Packet) (before first second third : Buffer Packet) (many place : ℕ) → before.items ≡ held → many ≡ length before.items → place < many
    → first ≡ buffer (turned before.items place) before.capacity → second ≡ buffer (drop 1 first.items) first.capacity
    → third ≡ buffer (turned second.items (many - 1 - place)) second.capacity → third.items ≡ without held place
taken_out held before first second third many place held_is many_is lt first_is second_is third_is =
    let all : second.items ≡ drop 1 (turned held place) = ap (λ b. b.items) second_is ∙ ap (λ b. drop 1 b.items) first_is ∙ ap (λ xs. drop 1 (turned xs place)) held_is in
    let long : many ≡ length held = many_is ∙ ap length held_is in
    ap (λ b. b.items) third_is ∙ ap (λ xs. turned xs (many - 1 - place)) all ∙ ap (λ n. turned (drop 1 (turned held place)) (n - 1 - place)) long
    ∙ removed_rest held place (omega (arith, lt, long))
