-- A sequence goes from cut to cut, by the next operation of an origin each time.
use Rattle.std.proofs.Common.{◌≡◌, ◌⊎◌, inl, inr, ℕ, zero, suc, ◌<◌, ◌≤◌, List, [], ◌∷◌, Some, None, slice_get, refl, sym, ap, ◌∙◌, arith}
use Rattle.std.proofs.lemmas.Bool.{cases_eq}
use Rattle.sv_value.specs.Cuts.{counts, more}
use Rattle.sv_app.specs.declared.requests.InitRow.{InitRow}
use Rattle.sv_app.specs.Schema.{Declaration}
use Rattle.sv_effect.specs.declared.ops.Op.{Op}
use Rattle.sv_effect.specs.Applied.{applied}
use Rattle.sv_effect.specs.Cut.{Cut, Medium, empty}
use Rattle.sv_effect.specs.TablesOfCut.{tables_held, tables_of}
use Rattle.sv_effect.specs.Sequences.{Placed, IsAmong, IsNext, Follow, IsSequence, applied_all}
use Rattle.sv_effect.specs.Laws.{AllAllowed, Differ, BluesMerge, OwnDeps, EightSites}
use Rattle.sv_app.proofs.TestLaws.{same_test, other_test}
use Rattle.sv_effect.proofs.TableLaws.{tables_of-more}

order : (a b : ℕ) → (a < b) ⊎ (b ≤ a)
order zero zero = inr (omega arith)
order zero (suc b) = inl (omega arith)
order (suc a) zero = inr (omega arith)
order (suc a) (suc b) = up (order a b)
  where
    up : (a < b) ⊎ (b ≤ a) → (suc a < suc b) ⊎ (suc b ≤ suc a)
    up (inl l) = inl (omega (arith, l))
    up (inr l) = inr (omega (arith, l))

-- these are just what the cut holds
record IsHeld (cut : Cut) (xs : List Placed) : Type 0 where
  to : (o q : ℕ) → IsAmong o q xs → q < cut o
  from : (o q : ℕ) → q < cut o → IsAmong o q xs

more_here : (cut : Cut) (o p : ℕ) → p ≡ o → more cut o p ≡ suc (cut p)
more_here cut o p is = rw (same_test p o is) refl

more_there : (cut : Cut) (o p : ℕ) → (p ≡ o → ⊥) → more cut o p ≡ cut p
more_there cut o p apart = rw (other_test p o apart) refl

-- the next one is the next of its origin
number_is : (m : Medium) (cut : Cut) (before : List Placed) (x : Placed) → OwnDeps m → IsHeld cut before → IsNext m before x → x.number ≡ cut x.origin
number_is m cut before x own holds next = from (order x.number (cut x.origin)) (order (cut x.origin) x.number)
  where
    deps : counts x.op.deps x.origin ≡ x.number
    deps = own x.origin x.number x.op next.stands

    from : (x.number < cut x.origin) ⊎ (cut x.origin ≤ x.number) → (cut x.origin < x.number) ⊎ (x.number ≤ cut x.origin) → x.number ≡ cut x.origin
    from (inl lt) _ = absurd (next.new (holds.from x.origin x.number lt))
    from (inr le) (inl lt) = absurd (let same : cut x.origin < cut x.origin = holds.to x.origin (cut x.origin) (next.finds x.origin (cut x.origin) (omega (arith, lt, deps))) in omega (arith, same))
    from (inr le) (inr ge) = omega (arith, le, ge)

held_more : (cut : Cut) (before : List Placed) (x : Placed) → x.number ≡ cut x.origin → IsHeld cut before → IsHeld (more cut x.origin) (x ∷ before)
held_more cut before x number holds = record { to = to; from = from }
  where
    to : (o q : ℕ) → IsAmong o q (x ∷ before) → q < more cut x.origin o
    to o q (inl is) =
        let a : more cut x.origin o ≡ suc (cut o) = more_here cut x.origin o (sym is.0) in
        let b : cut x.origin ≡ cut o = ap cut is.0 in
        let c : x.number ≡ q = is.1 in
        omega (arith, a, b, c, number)
    to o q (inr h) = split (cases_eq o x.origin)
      where
        lt : q < cut o
        lt = holds.to o q h

        split : (o ≡ x.origin) ⊎ (o ≡ x.origin → ⊥) → q < more cut x.origin o
        split (inl is) = let a : more cut x.origin o ≡ suc (cut o) = more_here cut x.origin o is in omega (arith, a, lt)
        split (inr apart) = let a : more cut x.origin o ≡ cut o = more_there cut x.origin o apart in omega (arith, a, lt)

    from : (o q : ℕ) → q < more cut x.origin o → IsAmong o q (x ∷ before)
    from o q lt = split (cases_eq o x.origin) (cases_eq q (cut o))
      where
        split : (o ≡ x.origin) ⊎ (o ≡ x.origin → ⊥) → (q ≡ cut o) ⊎ (q ≡ cut o → ⊥) → IsAmong o q (x ∷ before)
        split (inl is) (inl last) = inl (sym is, number ∙ ap cut (sym is) ∙ sym last)
        split (inl is) (inr other) = inr (holds.from o q (let a : more cut x.origin o ≡ suc (cut o) = more_here cut x.origin o is in omega (arith, a, lt, other)))
        split (inr apart) _ = inr (holds.from o q (let a : more cut x.origin o ≡ cut o = more_there cut x.origin o apart in omega (arith, a, lt)))

below_nine : (m : Medium) (o q : ℕ) (op : Op) → EightSites m → slice_get (m o) q ≡ Some op → o < 9
below_nine m o q op eight stands = from (order o 9)
  where
    from : (o < 9) ⊎ (9 ≤ o) → o < 9
    from (inl lt) = lt
    from (inr le) = absurd (let nothing : None ≡ Some op = ap (λ l. slice_get l q) (sym (eight o (omega (arith, le)))) ∙ stands in cc)

module _ (schema : List Declaration) (init : List InitRow) (m : Medium) (allowed : AllAllowed schema m) (differ : Differ m) (blues : BluesMerge schema m) (own : OwnDeps m) (eight : EightSites m) where
  -- where a sequence leads
  record Walked (cut : Cut) (before xs : List Placed) : Type 0 where
    end : Cut
    to : (o q : ℕ) → IsAmong o q before ⊎ IsAmong o q xs → q < end o
    from : (o q : ℕ) → q < end o → IsAmong o q before ⊎ IsAmong o q xs
    gives : applied_all schema xs (tables_of schema init m cut) ≡ tables_of schema init m end

  walk : (xs before : List Placed) (cut : Cut) → IsHeld cut before → Follow m before xs → Walked cut before xs
  walk [] before cut holds follow = record { end = cut; to = to; from = λ o q lt. inl (holds.from o q lt); gives = refl }
    where
      to : (o q : ℕ) → IsAmong o q before ⊎ IsAmong o q [] → q < cut o
      to o q (inl h) = holds.to o q h
      to o q (inr h) = absurd h
  walk (x ∷ xs) before cut holds follow = on (walk xs (x ∷ before) (more cut x.origin) (held_more cut before x number holds) follow.1)
    where
      number : x.number ≡ cut x.origin
      number = number_is m cut before x own holds follow.0

      step : tables_of schema init m (more cut x.origin) ≡ applied schema x.op (tables_of schema init m cut)
      step = tables_of-more schema init m cut x.origin x.op allowed differ blues (below_nine m x.origin x.number x.op eight follow.0.stands)
          (ap (slice_get (m x.origin)) (sym number) ∙ follow.0.stands)

      on : Walked (more cut x.origin) (x ∷ before) xs → Walked cut before (x ∷ xs)
      on w = record { end = w.end; to = to; from = λ o q lt. back o q (w.from o q lt); gives = ap (applied_all schema xs) (sym step) ∙ w.gives }
        where
          to : (o q : ℕ) → IsAmong o q before ⊎ IsAmong o q (x ∷ xs) → q < w.end o
          to o q (inl h) = w.to o q (inl (inr h))
          to o q (inr (inl is)) = w.to o q (inl (inl is))
          to o q (inr (inr h)) = w.to o q (inr h)

          back : (o q : ℕ) → IsAmong o q (x ∷ before) ⊎ IsAmong o q xs → IsAmong o q before ⊎ IsAmong o q (x ∷ xs)
          back o q (inl (inl is)) = inr (inl is)
          back o q (inl (inr h)) = inl h
          back o q (inr h) = inr (inr h)

  same_count : (a b : ℕ) → ((q : ℕ) → q < a → q < b) → ((q : ℕ) → q < b → q < a) → a ≡ b
  same_count a b to from = split (order a b) (order b a)
    where
      split : (a < b) ⊎ (b ≤ a) → (b < a) ⊎ (a ≤ b) → a ≡ b
      split (inl lt) _ = absurd (let l : a < a = from a lt in omega (arith, l))
      split (inr le) (inl lt) = absurd (let l : b < b = to b lt in omega (arith, l))
      split (inr le) (inr ge) = omega (arith, le, ge)

  pub any : (cut : Cut) (xs : List Placed) → IsSequence m cut xs → applied_all schema xs (tables_held schema init empty) ≡ tables_of schema init m cut
  any cut xs sequence = w.gives ∙ (λ i. tables_of schema init m (λ o. same o i))
    where
      nothing : IsHeld (λ o. 0) []
      nothing = record { to = λ o q h. absurd h; from = λ o q lt. absurd (let l : q < 0 = lt in omega (arith, l)) }

      w : Walked (λ o. 0) [] xs
      w = walk xs [] (λ o. 0) nothing sequence.follow

      just : (o q : ℕ) → IsAmong o q [] ⊎ IsAmong o q xs → IsAmong o q xs
      just o q (inl h) = absurd h
      just o q (inr h) = h

      same : (o : ℕ) → w.end o ≡ cut o
      same o = same_count (w.end o) (cut o) (λ q lt. sequence.only o q (just o q (w.from o q lt))) (λ q lt. w.to o q (inr (sequence.all o q lt)))
