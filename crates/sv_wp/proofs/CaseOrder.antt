-- The cases of a check, one by one, are its cases; and what one of them stops at.
use Rattle.std.proofs.Common.{◌≡◌, ◌∙◌, ℕ, Bool, true, false, List, [], ◌∷◌, ◌++◌, length, map, Option, Some, None, Result, IfOk, ℤ, refl, sym, ap, subst, append_assoc, append-nil}
use Rattle.std.specs.Prelude.{◌&&◌, ◌||◌, not, if◌then◌else◌}
use Rattle.std.specs.List.{flat_map, list_any}
use Rattle.std.proofs.lemmas.List.{map-append}
use Rattle.sv_app.specs.declared.reasons.Reason.{Reason}
use Rattle.sv_app.specs.declared.schemas.Check.{Check}
use Rattle.sv_app.specs.declared.schemas.Inv.{Inv}
use Rattle.sv_app.specs.declared.schemas.InvBody.TheVariants as bodies
use Rattle.sv_app.specs.Satisfiable.{number_of}
use Rattle.sv_app.specs.Schema.{Declaration, invariant_of, rule_of}
use Rattle.sv_app.proofs.TestLaws.{same_test}
use Rattle.sv_gains.specs.Gains.{Teller}
use Rattle.sv_linear.specs.declared.stops.FormStop.{FormStop}
use Rattle.sv_linear.specs.declared.stops.FormStop.TheVariants.{Wide, NoMemory}
use Rattle.sv_linear.specs.declared.tests.Atom.{Atom as Coded}
use Rattle.sv_linear.specs.Atoms.{Gain, is_insert, is_draw, is_delta, is_set, added_by, made_by, less, write_at, Asked, ByCase, case_if, kept_cases, cases_of, by_check, is_never, tests_by}
use Rattle.sv_linear.specs.Codes.{atom_of}
use Rattle.sv_linear.specs.Effects.{SymWrite, SymEffect}
use Rattle.sv_linear.specs.Forms.{Form, sub}
use Rattle.sv_linear.specs.Sums.{IsStopOf}
use Rattle.sv_linear.specs.Tests.{Atom}
use Rattle.sv_threat.specs.declared.moves.Case.{Case}
use Rattle.sv_threat.specs.Tests.{all_cases}
use Rattle.sv_wp.specs.declared.questions.Question.{Question}
use Rattle.sv_wp.specs.declared.questions.Question.TheVariants.{Check as Checked}
use Rattle.sv_wp.specs.Cases.{is_asked, given, most_of, asked_if, asked_in}
use Rattle.sv_wp.specs.Listing.{reason_by, asked_by, group_by, tests_from, IsStopIn, Lists, ListsAsked}
use Rattle.sv_wp.proofs.ArmLaws.{whole_check}

as_asked : (b : Bool) (f g : Form) (most : Option ℤ) → map ByCase (case_if b f g most) ≡ asked_if b (sub f g) most
as_asked true f g most = refl
as_asked false f g most = refl

pub bracketed : {A : Type 0} (a b c d f : List A) → a ++ b ++ c ++ d ++ f ≡ a ++ (b ++ (c ++ (d ++ (f ++ []))))
bracketed a b c d f =
    append_assoc (a ++ b ++ c) d f ∙ append_assoc (a ++ b) c (d ++ f) ∙ append_assoc a b (c ++ (d ++ f)) ∙ ap (λ z. a ++ (b ++ (c ++ (d ++ z)))) (sym (append-nil f))

mapped : {A B : Type 0} (h : A → B) (a b c d f : List A) → map h (a ++ b ++ c ++ d ++ f) ≡ map h a ++ map h b ++ map h c ++ map h d ++ map h f
mapped h a b c d f =
    map-append h (a ++ b ++ c ++ d) f
    ∙ ap (λ z. z ++ map h f) (map-append h (a ++ b ++ c) d ∙ ap (λ z. z ++ map h d) (map-append h (a ++ b) c ∙ ap (λ z. z ++ map h c) (map-append h a b)))

module _ (told : Teller) (e : SymEffect) (check : Check) where
  abbrev hi : Option SymWrite
  hi = write_at (number_of check.hi) e.writes

  abbrev lo : Option SymWrite
  lo = write_at (number_of check.lo) e.writes

  abbrev cases_by : Bool → List Asked
  cases_by draw = map ByCase ((if draw then [] else kept_cases told (number_of check.hi) (number_of check.lo) check.most hi lo) ++ case_if (is_insert e.act) (made_by hi) (made_by lo) (Some check.most))

  abbrev asked_with : Bool → List Asked
  asked_with draw =
      asked_if (not draw && (is_delta hi || is_delta lo)) (sub (added_by hi) (added_by lo)) (less check.most (told (number_of check.hi) (number_of check.lo)))
      ++ (asked_if (not draw && is_set hi) (sub (made_by hi) (added_by lo)) (less check.most (told None (number_of check.lo)))
      ++ (asked_if (not draw && is_set lo) (sub (added_by hi) (made_by lo)) (less check.most (told (number_of check.hi) None))
      ++ (asked_if (not draw && is_set hi && is_set lo) (sub (made_by hi) (made_by lo)) (Some check.most)
      ++ (asked_if (is_insert e.act) (sub (made_by hi) (made_by lo)) (Some check.most) ++ []))))

  either_way : (draw : Bool) → cases_by draw ≡ asked_with draw
  either_way true = as_asked (is_insert e.act) (made_by hi) (made_by lo) (Some check.most) ∙ sym (append-nil _)
  either_way false =
      let a = case_if (is_delta hi || is_delta lo) (added_by hi) (added_by lo) (less check.most (told (number_of check.hi) (number_of check.lo))) in
      let b = case_if (is_set hi) (made_by hi) (added_by lo) (less check.most (told None (number_of check.lo))) in
      let c = case_if (is_set lo) (added_by hi) (made_by lo) (less check.most (told (number_of check.hi) None)) in
      let d = case_if (is_set hi && is_set lo) (made_by hi) (made_by lo) (Some check.most) in
      let f = case_if (is_insert e.act) (made_by hi) (made_by lo) (Some check.most) in
      mapped ByCase a b c d f ∙ bracketed (map ByCase a) (map ByCase b) (map ByCase c) (map ByCase d) (map ByCase f)
      ∙ (λ i. as_asked (is_delta hi || is_delta lo) (added_by hi) (added_by lo) (less check.most (told (number_of check.hi) (number_of check.lo))) i
      ++ (as_asked (is_set hi) (made_by hi) (added_by lo) (less check.most (told None (number_of check.lo))) i
      ++ (as_asked (is_set lo) (added_by hi) (made_by lo) (less check.most (told (number_of check.hi) None)) i
      ++ (as_asked (is_set hi && is_set lo) (made_by hi) (made_by lo) (Some check.most) i
      ++ (as_asked (is_insert e.act) (made_by hi) (made_by lo) (Some check.most) i ++ [])))))

  pub cases_are : map ByCase (cases_of told e.act e.writes check) ≡ flat_map (asked_in told e check) all_cases
  cases_are = either_way (is_draw e.act)

-- a check of the change's table, from all its cases
pub check_group : (place : ℕ) (reason : Reason) (told : Gain) (schema : List Declaration) (e : SymEffect) (table : ℕ) (question : Question) (inv : Inv) (check : Check) (old : List Coded) (new : List Atom)
    (r : Result Bool FormStop) (start : ℕ) → question ≡ Checked → inv.body ≡ bodies.Check check → e.table ≡ table → reason ≡ reason_by question inv.number → start ≡ length old
    → IfOk r (λ ended. ListsAsked place reason (tests_from start old) (flat_map (asked_in (told e.table) e check) all_cases) (map atom_of old) new ended)
    → IfOk r (λ ended. Lists place (group_by question told schema e table (invariant_of inv) ∷ []) (map atom_of old) new ended)
check_group place reason told schema e table question inv check old new r start is body here named whole l =
    let asked : asked_by question told schema e table (invariant_of inv) ≡ flat_map (asked_in (told e.table) e check) all_cases =
    (λ i. asked_by (is i) told schema e table (invariant_of inv)) ∙ ap (λ b. by_check told e table (rule_of b)) body
    ∙ ap (λ (b : Bool). if b then map ByCase (cases_of (told table) e.act e.writes check) else []) (same_test e.table table here)
    ∙ ap (λ n. map ByCase (cases_of (told n) e.act e.writes check)) (sym here) ∙ cases_are (told e.table) e check in
    subst (λ (p : Reason × List Asked). IfOk r (λ ended. Lists place (record { reason = p.0; asked = p.1 } ∷ []) (map atom_of old) new ended)) (λ i. (named i, sym asked i))
    (whole_check place reason old (flat_map (asked_in (told e.table) e check) all_cases) r start new whole l)

-- what a case stops at
asked_so : (b : Bool) → not b ≡ false → b ≡ true
asked_so true e = refl
asked_so false e = absurd cc

stopped : (asked : Bool) (left : Form) (o : Option ℤ) (most : ℤ) (s : FormStop) → asked ≡ true → o ≡ Some most → IsStopOf left s → IsStopIn (asked_if asked left o) s
stopped true left (Some n) most Wide on is wide = ap (λ b. not b || (not (list_any is_never (tests_by left (Some n))) && false)) wide
stopped true left None most Wide on is wide = absurd cc
stopped false left o most Wide on is wide = absurd cc
stopped asked left o most NoMemory on is wide = tt

pub stop_of_case : (told : Teller) (e : SymEffect) (check : Check) (kase : Case) (x y : Option SymWrite) (asked : Bool) (o : Option ℤ) (most : ℤ) (s : FormStop)
    → x ≡ write_at (number_of check.hi) e.writes → y ≡ write_at (number_of check.lo) e.writes → asked ≡ is_asked e.act x y kase → not asked ≡ false → o ≡ most_of told check kase → o ≡ Some most
    → IsStopOf (given x y kase) s → IsStopIn (asked_in told e check kase) s
stop_of_case told e check kase x y asked o most s p q is on bound some stop =
    subst (λ (v : Option SymWrite × Option SymWrite). IsStopIn (asked_if (is_asked e.act v.0 v.1 kase) (given v.0 v.1 kase) (most_of told check kase)) s) (λ i. (p i, q i))
    (stopped (is_asked e.act x y kase) (given x y kase) (most_of told check kase) most s (sym is ∙ asked_so asked on) (sym bound ∙ some) stop)
