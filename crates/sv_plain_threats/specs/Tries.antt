-- Tests: what is tried for a column, what a row of such tries breaks, and whether a reason threatens a change by them.
use Rattle.std.specs.Prelude.{ℕ, zero, suc, ℤ, pos, neg_ℤ, int_le, ◌-ℤ◌, ◌==◌, ◌&&◌, ◌||◌, not, if◌then◌else◌, Bool, true, false, List, [], ◌∷◌, ◌++◌, Option, Some, None, slice_get}
use Rattle.std.specs.List.{list_any}
use Rattle.std.specs.Ordering.{eq_by_cmp}
use Rattle.sv_value.specs.declared.values.Val.{Val}
use Rattle.sv_value.specs.declared.values.Val.TheVariants as vals
use Rattle.sv_value.specs.Orders.{text_cmp}
use Rattle.sv_app.specs.declared.apps.Ident.{Ident}
use Rattle.sv_app.specs.declared.reasons.Reason.{Reason}
use Rattle.sv_app.specs.declared.reasons.Reason.TheVariants as reasons
use Rattle.sv_app.specs.declared.schemas.Check.{Check}
use Rattle.sv_app.specs.declared.schemas.Merge.{Merge}
use Rattle.sv_app.specs.declared.schemas.Merge.TheVariants as merges
use Rattle.sv_app.specs.Satisfiable.{number_of, value_of}
use Rattle.sv_app.specs.Schema.{Rule, Bound, OneOf, Different, Refers, Invariant, Declaration}
use Rattle.sv_effect.specs.declared.ops.Write.{Write}
use Rattle.sv_effect.specs.declared.ops.Write.TheVariants.{Delta, Set}
use Rattle.sv_effect.specs.Acts.{is_insert, is_draw}
use Rattle.sv_effect.specs.Needs.{grows}
use Rattle.sv_effect.specs.RunChanges.{Effect, merge_of}
use Rattle.sv_effect.specs.Threatened.{write_to, numbers_after, touches, removes_from}
use Rattle.sv_plain_threats.specs.declared.guesses.Guess.{Guess}

-- what is tried for a column, if anything is
abbrev pub guess_for : List (ℕ × Guess) → ℕ → Option Guess
guess_for [] c = None
guess_for (g ∷ row) c = if g.0 == c then Some g.1 else guess_for row c

abbrev pub number_or_zero : Option Guess → ℤ
number_or_zero None = pos 0
number_or_zero (Some g) = g.number

abbrev pub wins_or_not : Option Guess → Bool
wins_or_not None = true
wins_or_not (Some g) = g.wins

abbrev pub numbers_of : List (ℕ × Guess) → ℕ → ℤ
numbers_of row c = number_or_zero (guess_for row c)

abbrev pub wins_of : List (ℕ × Guess) → ℕ → Bool
wins_of row c = wins_or_not (guess_for row c)

abbrev pub numbers_left : List (ℕ × Guess) → Effect → ℕ → ℤ
numbers_left row e c = numbers_after (wins_of row) e (numbers_of row) c

abbrev pub is_met : (ℕ → ℤ) → Check → Bool
is_met v check = int_le (value_of v (number_of check.hi) -ℤ value_of v (number_of check.lo)) check.most

-- rules that are no checks are met
abbrev pub is_rule_met : (ℕ → ℤ) → Rule → Bool
is_rule_met v (Bound check) = is_met v check
is_rule_met v (OneOf column texts) = true
is_rule_met v (Different column) = true
is_rule_met v (Refers column parent target) = true

abbrev pub are_met : (ℕ → ℤ) → List Invariant → Bool
are_met v [] = true
are_met v (inv ∷ invs) = is_rule_met v inv.rule && are_met v invs

abbrev pub is_broken : Declaration → Effect → Check → List (ℕ × Guess) → Bool
is_broken table e check row = are_met (numbers_of row) table.invs && not (is_met (numbers_left row e) check)

abbrev pub is_last : Merge → Bool
is_last merges.Lww = true
is_last merges.Plain = false
is_last merges.NumDelta = false
is_last merges.Fresh = false

-- a write loses only where the last writer wins
abbrev pub is_tried : Declaration → ℕ → Guess → Bool
is_tried table c g = g.wins || is_last (merge_of table.columns c)

abbrev pub is_guessed : List (ℕ × Guess) → ℕ → Bool
is_guessed row c = list_any (λ g. g.0 == c) row

-- some guesses for these columns, behind those of the row, break the check
abbrev pub breaks_from : Declaration → Effect → Check → List Guess → List ℕ → List (ℕ × Guess) → Bool
breaks_from table e check guesses [] row = is_broken table e check row
breaks_from table e check guesses (c ∷ cs) row = if is_guessed row c then breaks_from table e check guesses cs row
    else list_any (λ g. is_tried table c g && breaks_from table e check guesses cs (row ++ (c, g) ∷ [])) guesses

-- the same behind one guess more, if it is tried
abbrev pub breaks_with : Declaration → Effect → Check → List Guess → List ℕ → List (ℕ × Guess) → ℕ → Guess → Bool
breaks_with table e check guesses cs row c g = is_tried table c g && breaks_from table e check guesses cs (row ++ (c, g) ∷ [])

-- the columns that the checks name
abbrev pub side_in : Option Ident → List ℕ
side_in None = []
side_in (Some column) = column.num ∷ []

abbrev pub sides_in : Rule → List ℕ
sides_in (Bound check) = side_in check.hi ++ side_in check.lo
sides_in (OneOf column texts) = []
sides_in (Different column) = []
sides_in (Refers column parent target) = []

abbrev pub sides_of : List Invariant → List ℕ
sides_of [] = []
sides_of (inv ∷ invs) = sides_in inv.rule ++ sides_of invs

-- a number and its opposite, each winning and losing
abbrev pub both_ways : ℕ → List Guess
both_ways n = record { number = pos n; wins = true } ∷ record { number = pos n; wins = false } ∷ record { number = neg_ℤ (pos n); wins = true } ∷ record { number = neg_ℤ (pos n); wins = false } ∷ []

-- of so many numbers, from zero on
abbrev pub guesses_below : ℕ → List Guess
guesses_below zero = []
guesses_below (suc n) = guesses_below n ++ both_ways n

abbrev pub breaks_near : ℕ → Declaration → Effect → Check → Bool
breaks_near reach table e check = not (is_draw e.act) && breaks_from table e check (guesses_below (suc reach)) (sides_of table.invs) []

abbrev pub breaks_zeros : Effect → Check → Bool
breaks_zeros e check = is_insert e.act && not (is_met (numbers_left [] e) check)

abbrev pub breaks : ℕ → Declaration → Effect → Check → Bool
breaks reach table e check = breaks_zeros e check || breaks_near reach table e check

abbrev pub is_text_of : Val → List (List ℕ) → Bool
is_text_of (vals.Int n) texts = false
is_text_of (vals.Text text) texts = list_any (eq_by_cmp text_cmp text) texts

abbrev pub sets_unlisted : Option Write → List (List ℕ) → Bool
sets_unlisted None texts = false
sets_unlisted (Some (Delta d)) texts = false
sets_unlisted (Some (Set v)) texts = not (is_text_of v texts)

-- the reason threatens a rule of the table of that number
abbrev pub threatens : ℕ → List Declaration → Effect → Reason → ℕ → Declaration → Rule → Bool
threatens reach schema e reasons.Plain table d rule = false
threatens reach schema e (reasons.Unique i) table d (Different column) = touches e table column
threatens reach schema e (reasons.Unique i) table d (Bound check) = false
threatens reach schema e (reasons.Unique i) table d (OneOf column texts) = false
threatens reach schema e (reasons.Unique i) table d (Refers column parent target) = false
threatens reach schema e (reasons.Child i) table d (Refers column parent target) = not (grows (slice_get schema parent.num)) && touches e table column
threatens reach schema e (reasons.Child i) table d (Bound check) = false
threatens reach schema e (reasons.Child i) table d (OneOf column texts) = false
threatens reach schema e (reasons.Child i) table d (Different column) = false
threatens reach schema e (reasons.Parent i) table d (Refers column parent target) = removes_from e parent.num
threatens reach schema e (reasons.Parent i) table d (Bound check) = false
threatens reach schema e (reasons.Parent i) table d (OneOf column texts) = false
threatens reach schema e (reasons.Parent i) table d (Different column) = false
threatens reach schema e (reasons.Check i) table d (Bound check) = e.place.table == table && breaks reach d e check
threatens reach schema e (reasons.Check i) table d (OneOf column texts) = false
threatens reach schema e (reasons.Check i) table d (Different column) = false
threatens reach schema e (reasons.Check i) table d (Refers column parent target) = false
threatens reach schema e (reasons.List i) table d (OneOf column texts) = e.place.table == table && sets_unlisted (write_to column.num e.writes) texts
threatens reach schema e (reasons.List i) table d (Bound check) = false
threatens reach schema e (reasons.List i) table d (Different column) = false
threatens reach schema e (reasons.List i) table d (Refers column parent target) = false

-- the number of the invariant that the reason names
abbrev pub invariant_in : Reason → ℕ
invariant_in reasons.Plain = 0
invariant_in (reasons.Unique i) = i
invariant_in (reasons.Child i) = i
invariant_in (reasons.Parent i) = i
invariant_in (reasons.Check i) = i
invariant_in (reasons.List i) = i

abbrev pub any_invariant : ℕ → List Declaration → Effect → Reason → ℕ → Declaration → List Invariant → Bool
any_invariant reach schema e reason table d [] = false
any_invariant reach schema e reason table d (inv ∷ invs) = (inv.number == invariant_in reason && threatens reach schema e reason table d inv.rule) || any_invariant reach schema e reason table d invs

-- of these tables, the first of which has that number
abbrev pub any_table : ℕ → List Declaration → Effect → Reason → ℕ → List Declaration → Bool
any_table reach schema e reason table [] = false
any_table reach schema e reason table (d ∷ ds) = any_invariant reach schema e reason table d d.invs || any_table reach schema e reason (suc table) ds
