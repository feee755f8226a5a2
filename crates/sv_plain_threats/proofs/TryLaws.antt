-- What is tried for the columns that checks name breaks a check exactly where a row whose numbers lie in reach does.
use Rattle.std.proofs.Common.{◌≡◌, ◌∙◌, ◌⊎◌, inl, inr, ℕ, zero, suc, ℤ, Bool, true, false, List, [], ◌∷◌, ◌++◌, Option, Some, None, slice_get, refl, ap, subst, arith}
use Rattle.std.specs.Prelude.{◌==◌, ◌&&◌, ◌||◌, not, if◌then◌else◌}
use Rattle.std.specs.List.{All, Contains, list_any}
use Rattle.std.proofs.lemmas.Int.{ints}
use Rattle.std.proofs.lemmas.List.Elements.{All-nil, All-cons, All-head, All-tail, All-append}
use Rattle.std.proofs.lemmas.List.Folds.{list_any-append}
use Rattle.sv_app.specs.declared.schemas.Check.{Check}
use Rattle.sv_app.specs.declared.schemas.Merge.{Merge}
use Rattle.sv_app.specs.declared.schemas.Merge.TheVariants as merges
use Rattle.sv_app.specs.Schema.{Bound, Invariant, Declaration}
use Rattle.sv_app.proofs.ListLaws.{Stands, contained, contains_at, Passes, any_passes, any_at}
use Rattle.sv_app.proofs.TestLaws.{same_test, test_same}
use Rattle.sv_effect.specs.Acts.{is_insert, is_draw}
use Rattle.sv_effect.specs.RunChanges.{Effect, merge_of}
use Rattle.sv_effect.specs.Threatened.{number_after, numbers_after, write_to, BreaksZeros}
use Rattle.sv_plain_threats.specs.declared.guesses.Guess.{Guess}
use Rattle.sv_plain_threats.specs.ThreatenedWithin.{IsNear, BreaksNear}
use Rattle.sv_plain_threats.specs.Tries.{guess_for, number_or_zero, wins_or_not, numbers_of, wins_of, numbers_left, is_met, are_met, is_broken, is_last, is_tried, is_guessed, breaks_from, guesses_below, sides_of, breaks_near, breaks_zeros, breaks}
use Rattle.sv_plain_threats.proofs.BoolLaws.{and_left, and_right, and_both, not_false}
use Rattle.sv_plain_threats.proofs.GuessLaws.{guess_near, near_guess}
use Rattle.sv_plain_threats.proofs.MetLaws.{same_met, unmet_means, means_unmet, all_met, met_all, sides_among}

abbrev Row : Type 0
Row = List (ℕ × Guess)

-- ---- what is found of a row

some_same : (a b : Guess) → Some a ≡ Some b → a ≡ b
some_same a b e = cc

-- what holds of each entry
abbrev EachIs : (ℕ → Guess → Type 0) → Row → Type 0
EachIs P row = All (λ x. P x.0 x.1) row

one_more : (P : ℕ → Guess → Type 0) (row : Row) (c : ℕ) (g : Guess) → EachIs P row → P c g → EachIs P (row ++ (c, g) ∷ [])
one_more P row c g each is = All-append (λ x. P x.0 x.1) row ((c, g) ∷ []) each (All-cons (λ x. P x.0 x.1) (c, g) [] is (All-nil (λ x. P x.0 x.1)))

found_holds : (P : ℕ → Guess → Type 0) (row : Row) (c : ℕ) (g : Guess) → EachIs P row → guess_for row c ≡ Some g → P c g
found_holds P [] c g each at = absurd cc
found_holds P (x ∷ row) c g each at = by (x.0 == c) refl at (found_holds P row c g (All-tail (λ x. P x.0 x.1) x row each))
  where
    by : (b : Bool) → (x.0 == c) ≡ b → (if b then Some x.1 else guess_for row c) ≡ Some g → (guess_for row c ≡ Some g → P c g) → P c g
    by true is at ih = subst (λ n. P n g) (test_same x.0 c is) (subst (P x.0) (some_same x.1 g at) (All-head (λ x. P x.0 x.1) x row each))
    by false is at ih = ih at

record Guessed (row : Row) (c : ℕ) : Type 0 where
  guess : Guess
  at : guess_for row c ≡ Some guess

guessed : (row : Row) (c : ℕ) → is_guessed row c ≡ true → Guessed row c
guessed [] c is = absurd cc
guessed (x ∷ row) c is = by (x.0 == c) refl is (guessed row c)
  where
    by : (b : Bool) → (x.0 == c) ≡ b → (b || is_guessed row c) ≡ true → (is_guessed row c ≡ true → Guessed row c) → Guessed (x ∷ row) c
    by true test is ih = record { guess = x.1; at = ap (λ b. if b then Some x.1 else guess_for row c) test }
    by false test is ih = let later : Guessed row c = ih is in record { guess = later.guess; at = ap (λ b. if b then Some x.1 else guess_for row c) test ∙ later.at }

still_guessed : (row : Row) (c : ℕ) (g : Guess) (d : ℕ) → is_guessed row d ≡ true → is_guessed (row ++ (c, g) ∷ []) d ≡ true
still_guessed row c g d is = list_any-append (λ x. x.0 == d) row ((c, g) ∷ []) ∙ (λ i. is i || is_guessed ((c, g) ∷ []) d)

or_true : (a : Bool) → (a || true) ≡ true
or_true true = refl
or_true false = refl

now_guessed : (row : Row) (c : ℕ) (g : Guess) → is_guessed (row ++ (c, g) ∷ []) c ≡ true
now_guessed row c g = list_any-append (λ x. x.0 == c) row ((c, g) ∷ []) ∙ (λ i. is_guessed row c || (same_test c c refl i || false)) ∙ or_true (is_guessed row c)

-- ---- a row that is tried and breaks the check

record IsTry (table : Declaration) (guesses : List Guess) (c : ℕ) (g : Guess) : Type 0 where
  among : Contains guesses g
  tried : is_tried table c g ≡ true

record Broken (table : Declaration) (e : Effect) (check : Check) (guesses : List Guess) : Type 0 where
  row : Row
  tried : EachIs (IsTry table guesses) row
  is : is_broken table e check row ≡ true

broken_row : (table : Declaration) (e : Effect) (check : Check) (guesses : List Guess) (cs : List ℕ) (row : Row) → EachIs (IsTry table guesses) row → breaks_from table e check guesses cs row ≡ true
    → Broken table e check guesses
broken_row table e check guesses [] row tried is = record { row = row; tried = tried; is = is }
broken_row table e check guesses (c ∷ cs) row tried is =
    by (is_guessed row c) is (broken_row table e check guesses cs row tried) (λ g also. broken_row table e check guesses cs (row ++ (c, g) ∷ []) also)
  where
    test : Guess → Bool
    test g = is_tried table c g && breaks_from table e check guesses cs (row ++ (c, g) ∷ [])

    by : (b : Bool) → (if b then breaks_from table e check guesses cs row else list_any (λ g. is_tried table c g && breaks_from table e check guesses cs (row ++ (c, g) ∷ [])) guesses) ≡ true
        → (breaks_from table e check guesses cs row ≡ true → Broken table e check guesses)
        → ((g : Guess) → EachIs (IsTry table guesses) (row ++ (c, g) ∷ []) → breaks_from table e check guesses cs (row ++ (c, g) ∷ []) ≡ true → Broken table e check guesses) → Broken table e check guesses
    by true is ih more = ih is
    by false is ih more =
        let found : Passes (λ g. is_tried table c g && breaks_from table e check guesses cs (row ++ (c, g) ∷ [])) guesses = any_passes _ guesses is in
        let one : IsTry table guesses c found.x = record { among = contains_at guesses found.number found.x found.at; tried = and_left (is_tried table c found.x) _ found.is } in
        more found.x (one_more (IsTry table guesses) row c found.x tried one) (and_right (is_tried table c found.x) _ found.is)

last_means : (m : Merge) → is_last m ≡ true → m ≡ merges.Lww
last_means merges.Lww e = refl
last_means merges.Plain e = absurd cc
last_means merges.NumDelta e = absurd cc
last_means merges.Fresh e = absurd cc

losing : (a b : Bool) → (a || b) ≡ true → a ≡ false → b ≡ true
losing true b e f = absurd cc
losing false b e f = e

row_near : (reach : ℕ) (table : Declaration) (row : Row) → EachIs (IsTry table (guesses_below (suc reach))) row → (c : ℕ) → IsNear reach (numbers_of row c)
row_near reach table row tried c = by (guess_for row c) refl
  where
    by : (o : Option Guess) → guess_for row c ≡ o → IsNear reach (number_or_zero o)
    by None at = record { low = omega (arith, ints); high = omega (arith, ints) }
    by (Some g) at = let one : IsTry table (guesses_below (suc reach)) c g = found_holds (IsTry table (guesses_below (suc reach))) row c g tried at in guess_near reach g one.among

row_chosen : (table : Declaration) (guesses : List Guess) (row : Row) → EachIs (IsTry table guesses) row → (c : ℕ) → wins_of row c ≡ false → merge_of table.columns c ≡ merges.Lww
row_chosen table guesses row tried c loses = by (guess_for row c) refl loses
  where
    by : (o : Option Guess) → guess_for row c ≡ o → wins_or_not o ≡ false → merge_of table.columns c ≡ merges.Lww
    by None at loses = absurd cc
    by (Some g) at loses =
        let one : IsTry table guesses c g = found_holds (IsTry table guesses) row c g tried at in
        last_means (merge_of table.columns c) (losing g.wins (is_last (merge_of table.columns c)) one.tried loses)

near_means : (reach : ℕ) (table : Declaration) (e : Effect) (check : Check) → breaks_near reach table e check ≡ true → BreaksNear reach table e check
near_means reach table e check is =
    let found : Broken table e check (guesses_below (suc reach)) =
    broken_row table e check (guesses_below (suc reach)) (sides_of table.invs) [] (All-nil (λ x. IsTry table (guesses_below (suc reach)) x.0 x.1)) (and_right (not (is_draw e.act)) _ is) in
    record {
      row = record {
        found = not_false (is_draw e.act) (and_left (not (is_draw e.act)) _ is);
        numbers = numbers_of found.row;
        met = met_all (numbers_of found.row) table.invs (and_left (are_met (numbers_of found.row) table.invs) _ found.is);
        wins = wins_of found.row;
        chosen = row_chosen table (guesses_below (suc reach)) found.row found.tried;
        breaks = unmet_means (numbers_left found.row e) check (not_false (is_met (numbers_left found.row e) check) (and_right (are_met (numbers_of found.row) table.invs) _ found.is));
      };
      near = row_near reach table found.row found.tried;
    }

-- ---- numbers in reach are tried

record AgreesAt (numbers : ℕ → ℤ) (wins : ℕ → Bool) (c : ℕ) (g : Guess) : Type 0 where
  number : g.number ≡ numbers c
  win : g.wins ≡ wins c

none_in : {P : Type 0} (c : ℕ) → Contains [] c → P
none_in c has = let at : Stands [] c = contained [] c has in absurd cc

number_same : (a b : ℕ) → Some a ≡ Some b → a ≡ b
number_same a b e = cc

first_or : (c : ℕ) (cs : List ℕ) (d : ℕ) → Contains (c ∷ cs) d → (c ≡ d) ⊎ Contains cs d
first_or c cs d has = let at : Stands (c ∷ cs) d = contained (c ∷ cs) d has in by at.number at.at
  where
    by : (k : ℕ) → slice_get (c ∷ cs) k ≡ Some d → (c ≡ d) ⊎ Contains cs d
    by zero at = inl (number_same c d at)
    by (suc k) at = inr (contains_at cs k d at)

abbrev mine : (ℕ → ℤ) → (ℕ → Bool) → ℕ → Guess
mine numbers wins c = record { number = numbers c; wins = wins c }

-- each of the columns is guessed already, or comes
abbrev Covers : List ℕ → List ℕ → Row → Type 0
Covers names cs row = (c : ℕ) → Contains names c → (is_guessed row c ≡ true) ⊎ Contains cs c

-- all that is tried of the numbers and the choices, which break the check wherever all columns are guessed so
record Tries (table : Declaration) (e : Effect) (check : Check) (guesses : List Guess) (names : List ℕ) (numbers : ℕ → ℤ) (wins : ℕ → Bool) : Type 0 where
  among : (c : ℕ) → Contains guesses (mine numbers wins c)
  tried : (c : ℕ) → is_tried table c (mine numbers wins c) ≡ true
  breaks : (row : Row) → EachIs (AgreesAt numbers wins) row → ((c : ℕ) → Contains names c → is_guessed row c ≡ true) → is_broken table e check row ≡ true

all_covered : (names : List ℕ) (row : Row) → Covers names [] row → (c : ℕ) → Contains names c → is_guessed row c ≡ true
all_covered names row covers c named = by (covers c named)
  where
    by : (is_guessed row c ≡ true) ⊎ Contains [] c → is_guessed row c ≡ true
    by (inl is) = is
    by (inr has) = none_in c has

covers_past : (names : List ℕ) (c : ℕ) (cs : List ℕ) (row : Row) → is_guessed row c ≡ true → Covers names (c ∷ cs) row → Covers names cs row
covers_past names c cs row is covers d named = by (covers d named)
  where
    other : (c ≡ d) ⊎ Contains cs d → (is_guessed row d ≡ true) ⊎ Contains cs d
    other (inl same) = inl (subst (λ n. is_guessed row n ≡ true) same is)
    other (inr has) = inr has

    by : (is_guessed row d ≡ true) ⊎ Contains (c ∷ cs) d → (is_guessed row d ≡ true) ⊎ Contains cs d
    by (inl is) = inl is
    by (inr has) = other (first_or c cs d has)

covers_more : (names : List ℕ) (c : ℕ) (cs : List ℕ) (row : Row) (g : Guess) → Covers names (c ∷ cs) row → Covers names cs (row ++ (c, g) ∷ [])
covers_more names c cs row g covers d named = by (covers d named)
  where
    longer : Row
    longer = row ++ (c, g) ∷ []

    other : (c ≡ d) ⊎ Contains cs d → (is_guessed (row ++ (c, g) ∷ []) d ≡ true) ⊎ Contains cs d
    other (inl same) = inl (subst (λ n. is_guessed (row ++ (c, g) ∷ []) n ≡ true) same (now_guessed row c g))
    other (inr has) = inr has

    by : (is_guessed row d ≡ true) ⊎ Contains (c ∷ cs) d → (is_guessed (row ++ (c, g) ∷ []) d ≡ true) ⊎ Contains cs d
    by (inl is) = inl (still_guessed row c g d is)
    by (inr has) = other (first_or c cs d has)

breaks_so : (table : Declaration) (e : Effect) (check : Check) (guesses : List Guess) (names : List ℕ) (numbers : ℕ → ℤ) (wins : ℕ → Bool) → Tries table e check guesses names numbers wins
    → (cs : List ℕ) (row : Row) → EachIs (AgreesAt numbers wins) row → Covers names cs row → breaks_from table e check guesses cs row ≡ true
breaks_so table e check guesses names numbers wins tries [] row agrees covers = tries.breaks row agrees (all_covered names row covers)
breaks_so table e check guesses names numbers wins tries (c ∷ cs) row agrees covers =
    by (is_guessed row c) refl (breaks_so table e check guesses names numbers wins tries cs row agrees)
    (breaks_so table e check guesses names numbers wins tries cs (row ++ (c, mine numbers wins c) ∷ []) (one_more (AgreesAt numbers wins) row c (mine numbers wins c) agrees (record { number = refl; win = refl }))
    (covers_more names c cs row (mine numbers wins c) covers))
  where
    by : (b : Bool) → is_guessed row c ≡ b → (Covers names cs row → breaks_from table e check guesses cs row ≡ true) → breaks_from table e check guesses cs (row ++ (c, mine numbers wins c) ∷ []) ≡ true
        → (if b then breaks_from table e check guesses cs row else list_any (λ g. is_tried table c g && breaks_from table e check guesses cs (row ++ (c, g) ∷ [])) guesses) ≡ true
    by true is past more = past (covers_past names c cs row is covers)
    by false is past more =
        let at : Stands guesses (mine numbers wins c) = contained guesses (mine numbers wins c) (tries.among c) in
        any_at (λ g. is_tried table c g && breaks_from table e check guesses cs (row ++ (c, g) ∷ [])) guesses at.number (mine numbers wins c) at.at
        (and_both (is_tried table c (mine numbers wins c)) _ (tries.tried c) more)

tried_so : (table : Declaration) (numbers : ℕ → ℤ) (wins : ℕ → Bool) → ((c : ℕ) → wins c ≡ false → merge_of table.columns c ≡ merges.Lww) → (c : ℕ) → is_tried table c (mine numbers wins c) ≡ true
tried_so table numbers wins chosen c = by (wins c) refl
  where
    by : (b : Bool) → wins c ≡ b → (b || is_last (merge_of table.columns c)) ≡ true
    by true is = refl
    by false is = ap is_last (chosen c is)

number_there : (numbers : ℕ → ℤ) (wins : ℕ → Bool) (row : Row) (c : ℕ) → EachIs (AgreesAt numbers wins) row → is_guessed row c ≡ true → numbers_of row c ≡ numbers c
number_there numbers wins row c agrees is =
    let found : Guessed row c = guessed row c is in
    ap number_or_zero found.at ∙ (found_holds (AgreesAt numbers wins) row c found.guess agrees found.at).number

win_there : (numbers : ℕ → ℤ) (wins : ℕ → Bool) (row : Row) (c : ℕ) → EachIs (AgreesAt numbers wins) row → is_guessed row c ≡ true → wins_of row c ≡ wins c
win_there numbers wins row c agrees is =
    let found : Guessed row c = guessed row c is in
    ap wins_or_not found.at ∙ (found_holds (AgreesAt numbers wins) row c found.guess agrees found.at).win

left_there : (numbers : ℕ → ℤ) (wins : ℕ → Bool) (e : Effect) (row : Row) (c : ℕ) → EachIs (AgreesAt numbers wins) row → is_guessed row c ≡ true → numbers_left row e c ≡ numbers_after wins e numbers c
left_there numbers wins e row c agrees is = (λ i. number_after (win_there numbers wins row c agrees is i) (write_to c e.writes) (number_there numbers wins row c agrees is i))

means_near : (reach : ℕ) (table : Declaration) (e : Effect) (inv : Invariant) (check : Check) → Contains table.invs inv → inv.rule ≡ Bound check → BreaksNear reach table e check → breaks_near reach table e check ≡ true
means_near reach table e inv check among rule near =
    and_both (not (is_draw e.act)) _ (ap not near.row.found) (breaks_so table e check (guesses_below (suc reach)) (sides_of table.invs) near.row.numbers near.row.wins tries (sides_of table.invs) []
    (All-nil (λ x. AgreesAt near.row.numbers near.row.wins x.0 x.1)) (λ c named. inr named))
  where
    broken : (row : Row) → EachIs (AgreesAt near.row.numbers near.row.wins) row → ((c : ℕ) → Contains (sides_of table.invs) c → is_guessed row c ≡ true) → is_broken table e check row ≡ true
    broken row agrees all = and_both (are_met (numbers_of row) table.invs) _
        (all_met near.row.numbers (numbers_of row) table.invs (λ c named. number_there near.row.numbers near.row.wins row c agrees (all c named)) near.row.met)
        (ap not (same_met (numbers_after near.row.wins e near.row.numbers) (numbers_left row e) check
        (λ c named. left_there near.row.numbers near.row.wins e row c agrees (all c (sides_among table.invs inv check among rule c named)))
        ∙ means_unmet (numbers_after near.row.wins e near.row.numbers) check near.row.breaks))

    tries : Tries table e check (guesses_below (suc reach)) (sides_of table.invs) near.row.numbers near.row.wins
    tries = record {
      among = λ c. near_guess reach (near.row.numbers c) (near.row.wins c) (near.near c);
      tried = tried_so table near.row.numbers near.row.wins near.row.chosen;
      breaks = broken;
    }

-- ---- a row that is made from zeros

zeros_mean : (e : Effect) (check : Check) → breaks_zeros e check ≡ true → BreaksZeros e check
zeros_mean e check is = record {
  made = and_left (is_insert e.act) _ is;
  breaks = unmet_means (numbers_left [] e) check (not_false (is_met (numbers_left [] e) check) (and_right (is_insert e.act) _ is));
}

mean_zeros : (e : Effect) (check : Check) → BreaksZeros e check → breaks_zeros e check ≡ true
mean_zeros e check zeros = and_both (is_insert e.act) _ zeros.made (ap not (means_unmet (numbers_left [] e) check zeros.breaks))

-- ---- both

pub breaks_means : (reach : ℕ) (table : Declaration) (e : Effect) (check : Check) → breaks reach table e check ≡ true → BreaksNear reach table e check ⊎ BreaksZeros e check
breaks_means reach table e check is = by (breaks_zeros e check) refl is
  where
    by : (b : Bool) → breaks_zeros e check ≡ b → (b || breaks_near reach table e check) ≡ true → BreaksNear reach table e check ⊎ BreaksZeros e check
    by true zeros is = inr (zeros_mean e check zeros)
    by false zeros is = inl (near_means reach table e check is)

pub means_breaks : (reach : ℕ) (table : Declaration) (e : Effect) (inv : Invariant) (check : Check) → Contains table.invs inv → inv.rule ≡ Bound check → BreaksNear reach table e check ⊎ BreaksZeros e check
    → breaks reach table e check ≡ true
means_breaks reach table e inv check among rule (inl near) = (λ i. breaks_zeros e check || means_near reach table e inv check among rule near i) ∙ or_true (breaks_zeros e check)
means_breaks reach table e inv check among rule (inr zeros) = (λ i. mean_zeros e check zeros i || breaks_near reach table e check)
