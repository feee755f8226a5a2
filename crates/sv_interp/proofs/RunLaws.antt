-- How steps of a run follow each other.
use Rattle.std.proofs.Common.{◌≡◌, ◌<◌, ◌≤◌, ◌+◌, length, drop, get_or, ℕ, Bool, true, false, List, Option, Some, None, refl, sym, ap, subst, ◌∙◌}
use Rattle.std.proofs.lemmas.List.{at_drop_more, at_drop_all}
use Rattle.std.specs.FinMap.{get}
use Rattle.sv_app.specs.declared.places.Place.{Place}
use Rattle.sv_app.specs.Tables.{Tables}
use Rattle.sv_app.specs.Trees.{Test, Command, Choose, Abort, Block, Finish, Then}
use Rattle.sv_effect.specs.declared.outcomes.Outcome.{Outcome}
use Rattle.sv_effect.specs.declared.outcomes.Outcome.TheVariants as outcomes
use Rattle.sv_effect.specs.declared.left.LeftRow.{LeftRow}
use Rattle.sv_effect.specs.Faces.{Face}
use Rattle.sv_effect.specs.Follows.{Follows}
use Rattle.sv_effect.specs.Overlays.{over, left_rows}
use Rattle.sv_effect.specs.Reads.{ReadValue}
use Rattle.sv_effect.specs.Run.{Stand, Flow, Goes, then_do, turns, closed, left_loop, run_command, run_block, on_truth, Setting, with_scope}
use Rattle.sv_effect.specs.RunValues.{Progress, truth_of}
use Rattle.sv_effect.proofs.FollowLaws as follow
use Rattle.sv_interp.specs.declared.states.State.{State}
use Rattle.sv_interp.specs.Machine.{scope_of, evaluated, stand, flow_of, Runs, Reaches, closing, looping}

-- a step that asks nothing
pub quiet : (f : Stand → Flow) (o n : Face) (a b : Option (List ReadValue)) (s : State) (end : Option Outcome) (s' : State)
    → n ≡ o → b ≡ a → ((t : Tables) → f (stand t s) ≡ flow_of end (stand t s')) → Runs f o n a b s end s'
quiet f o n a b s end s' same stands h = record { ran = follow.quiet o n a b _ same stands h }

-- a step that looks at one row
pub looked : (f : Stand → Flow) (o n : Face) (a b : Option (List ReadValue)) (s : State) (end : Option Outcome) (s' : State) (own : List (Place × LeftRow)) (p : Place) (found : Option LeftRow)
    → Follows o n a b (λ t. get (over own t) p ≡ left_rows found)
    → ((t : Tables) → get (over own t) p ≡ left_rows found → f (stand t s) ≡ flow_of end (stand t s')) → Runs f o n a b s end s'
looked f o n a b s end s' own p found g h = record { ran = follow.so o n a b _ _ g h }

-- a step that first changes the state, and asks nothing till then
pub entering : (f h : Stand → Flow) (o n : Face) (a b : Option (List ReadValue)) (s u : State) (end : Option Outcome) (s' : State)
    → ((t : Tables) → f (stand t s) ≡ h (stand t u)) → Runs h o n a b u end s' → Runs f o n a b s end s'
entering f h o n a b s u end s' e g = record { ran = follow.so o n a b _ _ g.ran (λ t r. e t ∙ r) }

-- a step that looks at one row, and then goes on
pub looked_entering : (f h : Stand → Flow) (o m n : Face) (a b c : Option (List ReadValue)) (s u : State) (end : Option Outcome) (s' : State) (own : List (Place × LeftRow)) (p : Place) (found : Option LeftRow)
    → Follows o m a b (λ t. get (over own t) p ≡ left_rows found) → ((t : Tables) → get (over own t) p ≡ left_rows found → f (stand t s) ≡ h (stand t u))
    → Runs h m n b c u end s' → Runs f o n a c s end s'
looked_entering f h o m n a b c s u end s' own p found g e r = record { ran = follow.next_to o m n a b c _ _ _ g r.ran (λ t x y. e t x ∙ y) }

pub finish_runs : (g : Setting) (d : Block) (o n : Face) (a b : Option (List ReadValue)) (s : State) → d ≡ Finish → n ≡ o → b ≡ a → Runs (run_block g d) o n a b s None s
finish_runs g d o n a b s e same stands = quiet (run_block g d) o n a b s None s same stands (λ t. ap (λ x. run_block g x (stand t s)) e)

-- one step that goes on, and then another
pub both_run : (f h k : Stand → Flow) (o m n : Face) (a b c : Option (List ReadValue)) (s u w : State) (one end : Option Outcome)
    → ((st : Stand) → k st ≡ then_do (f st) h) → Runs f o m a b s one u → one ≡ None → Runs h m n b c u end w → Runs k o n a c s end w
both_run f h k o m n a b c s u w one end e g z r =
    record { ran = follow.next_to o m n a b c _ _ _ g.ran r.ran (λ t x y. e (stand t s) ∙ ap (λ q. then_do q h) (x ∙ ap (λ d. flow_of d (stand t u)) z) ∙ y) }

-- one step that ends the run
pub first_ends : (f h k : Stand → Flow) (o m : Face) (a b : Option (List ReadValue)) (s u : State) (one : Option Outcome) (e : Outcome)
    → ((st : Stand) → k st ≡ then_do (f st) h) → Runs f o m a b s one u → one ≡ Some e → Runs k o m a b s (Some e) u
first_ends f h k o m a b s u one e d g z =
    record { ran = follow.so o m a b _ _ g.ran (λ t x. d (stand t s) ∙ ap (λ q. then_do q h) (x ∙ ap (λ d. flow_of d (stand t u)) z)) }

pub then_runs : (g : Setting) (d : Block) (c : Command) (rest : Block) (o m n : Face) (a b e : Option (List ReadValue)) (s u w : State) (one end : Option Outcome)
    → d ≡ Then c rest → Runs (run_command g c) o m a b s one u → one ≡ None → Runs (run_block g rest) m n b e u end w → Runs (run_block g d) o n a e s end w
then_runs g d c rest o m n a b e s u w one end i f z r = both_run (run_command g c) (run_block g rest) (run_block g d) o m n a b e s u w one end (λ st. ap (λ x. run_block g x st) i) f z r

pub then_ends : (g : Setting) (d : Block) (c : Command) (rest : Block) (o m : Face) (a b : Option (List ReadValue)) (s u : State) (one : Option Outcome) (e : Outcome)
    → d ≡ Then c rest → Runs (run_command g c) o m a b s one u → one ≡ Some e → Runs (run_block g d) o m a b s (Some e) u
then_ends g d c rest o m a b s u one e i f z = first_ends (run_command g c) (run_block g rest) (run_block g d) o m a b s u one e (λ st. ap (λ x. run_block g x st) i) f z

-- a turn whose block goes on is closed
pub closing_goes : (outer : Progress) (body : Stand → Flow) (o m : Face) (a b : Option (List ReadValue)) (s u w : State) (one : Option Outcome)
    → Runs body o m a b s one u → one ≡ None → ((t : Tables) → stand t w ≡ closed outer (stand t u)) → Runs (closing outer body) o m a b s None w
closing_goes outer body o m a b s u w one g z e =
    record { ran = follow.so o m a b _ _ g.ran (λ t x. ap (λ q. then_do q (λ y. Goes (closed outer y))) (x ∙ ap (λ d. flow_of d (stand t u)) z) ∙ ap (λ y. Goes y) (sym (e t))) }

pub closing_ends : (outer : Progress) (body : Stand → Flow) (o m : Face) (a b : Option (List ReadValue)) (s u : State) (one : Option Outcome) (e : Outcome)
    → Runs body o m a b s one u → one ≡ Some e → Runs (closing outer body) o m a b s (Some e) u
closing_ends outer body o m a b s u one e g z =
    record { ran = follow.so o m a b _ _ g.ran (λ t x. ap (λ q. then_do q (λ y. Goes (closed outer y))) (x ∙ ap (λ d. flow_of d (stand t u)) z)) }

pub ruleset steps = (quiet, looked, entering)

pub ruleset blocks = (finish_runs, then_runs, then_ends)

pub ruleset closings = (closing_goes, closing_ends)

-- a statement that asks nothing
pub quiet_command : (g : Setting) (d c : Command) (o n : Face) (a b : Option (List ReadValue)) (s : State) (end : Option Outcome) (s' : State)
    → d ≡ c → n ≡ o → b ≡ a → ((g : Setting) (t : Tables) → run_command g c (stand t s) ≡ flow_of end (stand t s')) → Runs (run_command g d) o n a b s end s'
quiet_command g d c o n a b s end s' e same stands h = quiet (run_command g d) o n a b s end s' same stands (λ t. ap (λ x. run_command g x (stand t s)) e ∙ h g t)

pub abort_ends : (g : Setting) (d : Command) (code : ℕ) (o n : Face) (a b : Option (List ReadValue)) (s : State) → d ≡ Abort code → n ≡ o → b ≡ a → Runs (run_command g d) o n a b s (Some (outcomes.Abort code)) s
abort_ends g d code o n a b s e same stands = quiet (run_command g d) o n a b s (Some (outcomes.Abort code)) s same stands (λ t. ap (λ x. run_command g x (stand t s)) e)

pub same_command : (g : Setting) (d c : Command) (o n : Face) (a b : Option (List ReadValue)) (s : State) (end : Option Outcome) (s' : State)
    → d ≡ c → Runs (run_command g c) o n a b s end s' → Runs (run_command g d) o n a b s end s'
same_command g d c o n a b s end s' e r = subst (λ x. Runs (run_command g x) o n a b s end s') (sym e) r

pub ruleset commands = (quiet_command, abort_ends, same_command)

-- a test chose a block, or a number left 64 bits
pub test_ends : (g : Setting) (d : Command) (test : Test) (ys ns : Block) (o n : Face) (a b : Option (List ReadValue)) (s u : State) (found : Option Bool)
    → d ≡ Choose test ys ns → n ≡ o → b ≡ a → truth_of test (scope_of s.scope) ≡ evaluated found u.scope → found ≡ None → Runs (run_command g d) o n a b s (Some outcomes.Range) u
test_ends g d test ys ns o n a b s u found e same stands h z = quiet (run_command g d) o n a b s (Some outcomes.Range) u same stands
    (λ t. ap (λ x. run_command g x (stand t s)) e ∙ ap (λ q. on_truth q (stand t s) (run_block g ys) (run_block g ns)) (h ∙ ap (λ q. evaluated q u.scope) z))

pub yes_runs : (g : Setting) (d : Command) (test : Test) (ys ns : Block) (o n : Face) (a b : Option (List ReadValue)) (s u : State) (found : Option Bool) (end : Option Outcome) (s' : State)
    → d ≡ Choose test ys ns → truth_of test (scope_of s.scope) ≡ evaluated found u.scope → found ≡ Some true → ((t : Tables) → stand t u ≡ with_scope (stand t s) (scope_of u.scope))
    → Runs (run_block g ys) o n a b u end s' → Runs (run_command g d) o n a b s end s'
yes_runs g d test ys ns o n a b s u found end s' e h z after r = record {
  ran = follow.so o n a b _ _ r.ran (λ t y. ap (λ x. run_command g x (stand t s)) e
      ∙ ap (λ q. on_truth q (stand t s) (run_block g ys) (run_block g ns)) (h ∙ ap (λ q. evaluated q u.scope) z) ∙ ap (run_block g ys) (sym (after t)) ∙ y);
}

pub no_runs : (g : Setting) (d : Command) (test : Test) (ys ns : Block) (o n : Face) (a b : Option (List ReadValue)) (s u : State) (found : Option Bool) (end : Option Outcome) (s' : State)
    → d ≡ Choose test ys ns → truth_of test (scope_of s.scope) ≡ evaluated found u.scope → found ≡ Some false → ((t : Tables) → stand t u ≡ with_scope (stand t s) (scope_of u.scope))
    → Runs (run_block g ns) o n a b u end s' → Runs (run_command g d) o n a b s end s'
no_runs g d test ys ns o n a b s u found end s' e h z after r = record {
  ran = follow.so o n a b _ _ r.ran (λ t y. ap (λ x. run_command g x (stand t s)) e
      ∙ ap (λ q. on_truth q (stand t s) (run_block g ys) (run_block g ns)) (h ∙ ap (λ q. evaluated q u.scope) z) ∙ ap (run_block g ns) (sym (after t)) ∙ y);
}

-- the turns of a loop
pub turns_start : {A : Type 0} (xs : List A) (turn : A → Stand → Flow) (o n : Face) (a b : Option (List ReadValue)) (s : State) → n ≡ o → b ≡ a → Reaches xs (drop 0 xs) turn o n a b s s
turns_start xs turn o n a b s same stands = record { ran = follow.quiet o n a b _ same stands (λ t. refl) }

pub turns_step : {A : Type 0} (xs : List A) (turn : A → Stand → Flow) (i : ℕ) (d v : A) (o m n : Face) (a b c : Option (List ReadValue)) (s u w : State) (one : Option Outcome)
    → Reaches xs (drop i xs) turn o m a b s u → i < length xs → v ≡ get_or xs i d → Runs (turn v) m n b c u one w → one ≡ None → Reaches xs (drop (i + 1) xs) turn o n a c s w
turns_step xs turn i d v o m n a b c s u w one g h k r z =
    record {
      ran = follow.next_to o m n a b c _ _ _ g.ran r.ran (λ t x y. x ∙ at_drop_more (λ l. turns l turn (stand t u)) xs i d h
          ∙ ap (λ q. then_do (turn q (stand t u)) (turns (drop (i + 1) xs) turn)) (sym k) ∙ ap (λ q. then_do q (turns (drop (i + 1) xs) turn)) (y ∙ ap (λ e. flow_of e (stand t w)) z));
    }

pub turns_stop : {A : Type 0} (xs : List A) (turn : A → Stand → Flow) (i : ℕ) (d v : A) (o m n : Face) (a b c : Option (List ReadValue)) (s u w : State) (one : Option Outcome) (e : Outcome)
    → Reaches xs (drop i xs) turn o m a b s u → i < length xs → v ≡ get_or xs i d → Runs (turn v) m n b c u one w → one ≡ Some e → Runs (turns xs turn) o n a c s (Some e) w
turns_stop xs turn i d v o m n a b c s u w one e g h k r z =
    record {
      ran = follow.next_to o m n a b c _ _ _ g.ran r.ran (λ t x y. x ∙ at_drop_more (λ l. turns l turn (stand t u)) xs i d h
          ∙ ap (λ q. then_do (turn q (stand t u)) (turns (drop (i + 1) xs) turn)) (sym k) ∙ ap (λ q. then_do q (turns (drop (i + 1) xs) turn)) (y ∙ ap (λ e. flow_of e (stand t w)) z));
    }

pub turns_done : {A : Type 0} (xs : List A) (turn : A → Stand → Flow) (i : ℕ) (o m : Face) (a b : Option (List ReadValue)) (s u : State)
    → Reaches xs (drop i xs) turn o m a b s u → length xs ≤ i → Runs (turns xs turn) o m a b s None u
turns_done xs turn i o m a b s u g h = record { ran = follow.so o m a b _ _ g.ran (λ t x. x ∙ at_drop_all (λ l. turns l turn (stand t u)) xs i h) }

pub loop_goes : {A : Type 0} (xs : List A) (turn : A → Stand → Flow) (body : Block) (o m : Face) (a b : Option (List ReadValue)) (s u w : State) (one : Option Outcome)
    → Runs (turns xs turn) o m a b s one u → one ≡ None → ((t : Tables) → left_loop body (stand t u) ≡ Goes (stand t w)) → Runs (looping xs turn body) o m a b s None w
loop_goes xs turn body o m a b s u w one g z e =
    record { ran = follow.so o m a b _ _ g.ran (λ t x. ap (λ q. then_do q (left_loop body)) (x ∙ ap (λ d. flow_of d (stand t u)) z) ∙ e t) }

pub loop_ends : {A : Type 0} (xs : List A) (turn : A → Stand → Flow) (body : Block) (o m : Face) (a b : Option (List ReadValue)) (s u : State) (one : Option Outcome) (e : Outcome)
    → Runs (turns xs turn) o m a b s one u → one ≡ Some e → Runs (looping xs turn body) o m a b s (Some e) u
loop_ends xs turn body o m a b s u one e g z =
    record { ran = follow.so o m a b _ _ g.ran (λ t x. ap (λ q. then_do q (left_loop body)) (x ∙ ap (λ d. flow_of d (stand t u)) z)) }

pub ruleset turning = (turns_start, turns_step, turns_stop, turns_done)

pub ruleset loops = (loop_goes, loop_ends)
