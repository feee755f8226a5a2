-- Which keys of present rows meet a condition.
use Rattle.std.proofs.Common.{◌≡◌, ℕ, ◌<◌, ◌≤◌, ◌+◌, Bool, true, false, List, [], ◌∷◌, ◌++◌, drop, get_or, length, Option, Some, None, refl, sym, ap, ◌∙◌, append_assoc, append-nil}
use Rattle.std.proofs.lemmas.List.{drop_more, drop_all}
use Rattle.std.specs.FinMap.{get}
use Rattle.sv_value.specs.declared.values.Key.{Key}
use Rattle.sv_app.specs.declared.gots.Got.{Got}
use Rattle.sv_app.specs.declared.places.Place.{Place}
use Rattle.sv_app.specs.Tables.{Tables}
use Rattle.sv_app.specs.Trees.{Test}
use Rattle.sv_effect.specs.declared.left.LeftRow.{LeftRow}
use Rattle.sv_effect.specs.Faces.{Face}
use Rattle.sv_effect.specs.Follows.{Follows}
use Rattle.sv_effect.specs.Overlays.{over, left_rows}
use Rattle.sv_effect.specs.Reads.{ReadValue}
use Rattle.sv_effect.specs.Run.{with_row, values_at, kept_if, meeting_test, meeting, only, present_keys}
use Rattle.sv_effect.specs.RunValues.{Scope as RunScope, Evaluated, Leaves, Gives, then_value, truth_of}
use Rattle.sv_effect.proofs.FollowLaws as follow
use Rattle.sv_interp.specs.declared.scopes.Scope.{Scope}
use Rattle.sv_interp.specs.Machine.{scope_of, evaluated}

pub row_meets : (o n : Face) (a b : Option (List ReadValue)) (own : List (Place × LeftRow)) (p : Place) (r : ℕ) (test : Test) (found : Option LeftRow) (values : List Got) (s u : RunScope) (ev : Evaluated Bool)
    → Follows o n a b (λ t. get (over own t) p ≡ left_rows found) → values ≡ values_at (left_rows found) → u ≡ with_row r values s → truth_of test u ≡ ev
    → Follows o n a b (λ t. truth_of test (with_row r (values_at (get (over own t) p)) s) ≡ ev)
row_meets o n a b own p r test found values s u ev f e i h =
    follow.so o n a b _ _ f (λ t g. ap (λ q. truth_of test (with_row r (values_at q) s)) g ∙ ap (λ v. truth_of test (with_row r v s)) (sym e) ∙ ap (truth_of test) (sym i) ∙ h)

abbrev row_fact : List (Place × LeftRow) → ℕ → ℕ → Test → Key → RunScope → Evaluated Bool → Tables → Type 0
row_fact own r table test k s ev t = truth_of test (with_row r (values_at (get (over own t) (record { table = table; key = k }))) s) ≡ ev

-- keys that met a condition, before those of the others that meet it
abbrev pub led_by : List Key → Evaluated (List Key) → Evaluated (List Key)
led_by met ev = then_value ev (λ more z. Gives (met ++ more) z)

led_by_none : (ev : Evaluated (List Key)) → ev ≡ led_by [] ev
led_by_none Leaves = refl
led_by_none (Gives more z) = refl

-- a key that was kept stands behind those before it
led_by_more : (met new : List Key) (k : Key) (h : Bool) → new ≡ met ++ kept_if h k [] → (ev : Evaluated (List Key)) → led_by met (then_value ev (λ more z. Gives (kept_if h k more) z)) ≡ led_by new ev
led_by_more met new k h e Leaves = refl
led_by_more met new k true e (Gives more z) = ap (λ l. Gives l z) (sym (ap (λ l. l ++ more) e ∙ append_assoc met (k ∷ []) more))
led_by_more met new k false e (Gives more z) = ap (λ l. Gives (l ++ more) z) (sym (e ∙ append-nil met))

-- Some of the keys were judged, and these are left: of all keys those meet the condition that met it so far, and those that are left and meet it.
pub record Judged (own : List (Place × LeftRow)) (r table : ℕ) (test : Test) (ks left met : List Key) (face_before face_now : Face) (before now : Option (List ReadValue)) (s s' : Scope) : Type 0 where
  pub ran : Follows face_before face_now before now (λ t. meeting_test r table test (over own t) ks (scope_of s) ≡ led_by met (meeting_test r table test (over own t) left (scope_of s')))

pub none_judged : (own : List (Place × LeftRow)) (r table : ℕ) (test : Test) (ks met : List Key) (o n : Face) (a b : Option (List ReadValue)) (s u : Scope)
    → n ≡ o → b ≡ a → u ≡ s → met ≡ [] → Judged own r table test ks ks met o n a b s u
none_judged own r table test ks met o n a b s u same stands q e = record {
  ran = follow.quiet o n a b _ same stands (λ t. led_by_none (meeting_test r table test (over own t) ks (scope_of s))
      ∙ ap (λ z. led_by [] (meeting_test r table test (over own t) ks (scope_of z))) (sym q) ∙ ap (λ l. led_by l (meeting_test r table test (over own t) ks (scope_of u))) (sym e));
}

-- the next key is judged, in all tables that agree
judge : (own : List (Place × LeftRow)) (r table : ℕ) (test : Test) (ks met : List Key) (i : ℕ) (k : Key) (t : Tables) (s : RunScope) (ev : Evaluated Bool)
    → i < length ks → k ≡ get_or ks i k → row_fact own r table test k s ev t
    → led_by met (meeting_test r table test (over own t) (drop i ks) s) ≡ led_by met (then_value ev (λ h u. then_value (meeting_test r table test (over own t) (drop (i + 1) ks) u) (λ more z. Gives (kept_if h k more) z)))
judge own r table test ks met i k t s ev h is fact =
    ap (λ l. led_by met (meeting_test r table test (over own t) l s)) (drop_more ks i k h ∙ ap (λ x. x ∷ drop (i + 1) ks) (sym is))
    ∙ ap (λ v. led_by met (then_value v (λ h u. then_value (meeting_test r table test (over own t) (drop (i + 1) ks) u) (λ more z. Gives (kept_if h k more) z)))) fact

pub one_judged : (own : List (Place × LeftRow)) (r table : ℕ) (test : Test) (ks met new : List Key) (i : ℕ) (k : Key) (o m n : Face) (a b c : Option (List ReadValue)) (s u w : Scope) (holds : Option Bool) (h : Bool)
    → Judged own r table test ks (drop i ks) met o m a b s u → i < length ks → k ≡ get_or ks i k
    → Follows m n b c (row_fact own r table test k (scope_of u) (evaluated holds w)) → holds ≡ Some h → new ≡ met ++ kept_if h k []
    → Judged own r table test ks (drop (i + 1) ks) new o n a c s w
one_judged own r table test ks met new i k o m n a b c s u w holds h f less is g z e = record {
  ran = follow.next_to o m n a b c _ _ _ f.ran g (λ t so_far fact. so_far
      ∙ judge own r table test ks met i k t (scope_of u) (evaluated (Some h) w) less is (fact ∙ ap (λ d. evaluated d w) z)
      ∙ led_by_more met new k h e (meeting_test r table test (over own t) (drop (i + 1) ks) (scope_of w)));
}

pub key_leaves : (own : List (Place × LeftRow)) (r table : ℕ) (test : Test) (ks met : List Key) (i : ℕ) (k : Key) (o m n : Face) (a b c : Option (List ReadValue)) (s u w : Scope) (holds : Option Bool)
    → Judged own r table test ks (drop i ks) met o m a b s u → i < length ks → k ≡ get_or ks i k
    → Follows m n b c (row_fact own r table test k (scope_of u) (evaluated holds w)) → holds ≡ None
    → Follows o n a c (λ t. meeting_test r table test (over own t) ks (scope_of s) ≡ evaluated {A = List Key} None w)
key_leaves own r table test ks met i k o m n a b c s u w holds f less is g z =
    follow.next_to o m n a b c _ _ _ f.ran g (λ t so_far fact. so_far ∙ judge own r table test ks met i k t (scope_of u) (evaluated {A = Bool} None w) less is (fact ∙ ap (λ d. evaluated d w) z))

pub all_judged : (own : List (Place × LeftRow)) (r table : ℕ) (test : Test) (ks met : List Key) (i : ℕ) (o n : Face) (a b : Option (List ReadValue)) (s u : Scope)
    → Judged own r table test ks (drop i ks) met o n a b s u → length ks ≤ i → Follows o n a b (λ t. meeting_test r table test (over own t) ks (scope_of s) ≡ evaluated (Some met) u)
all_judged own r table test ks met i o n a b s u f past = follow.so o n a b _ _ f.ran (λ t so_far. so_far
    ∙ ap (λ l. led_by met (meeting_test r table test (over own t) l (scope_of u))) (drop_all i ks past) ∙ ap (λ l. Gives l (scope_of u)) (append-nil met))

pub ruleset rows_meet = (none_judged, one_judged, key_leaves, all_judged)

pub any_row : (o n : Face) (a b : Option (List ReadValue)) (own : List (Place × LeftRow)) (r table : ℕ) (test : Option Test) (ks : List Key) (s : RunScope)
    → Follows o n a b (λ t. ks ≡ present_keys (over own t) table) → test ≡ None → Follows o n a b (λ t. only (meeting r table test (over own t) (present_keys (over own t) table) s) ≡ Some ks)
any_row o n a b own r table test ks s f e = follow.so o n a b _ _ f (λ t h. ap (λ q. only (meeting r table q (over own t) (present_keys (over own t) table) s)) e ∙ ap (λ l. Some l) (sym h))

only_of : {A : Type 0} (met : Option A) (u : Scope) → only (evaluated met u) ≡ met
only_of None u = refl
only_of (Some x) u = refl

pub some_rows : (o m n : Face) (a b c : Option (List ReadValue)) (own : List (Place × LeftRow)) (r table : ℕ) (test : Option Test) (q : Test) (ks ls : List Key) (s u : Scope) (met : Option (List Key))
    → Follows o m a b (λ t. ks ≡ present_keys (over own t) table) → ls ≡ ks → test ≡ Some q → Follows m n b c (λ t. meeting_test r table q (over own t) ls (scope_of s) ≡ evaluated met u)
    → Follows o n a c (λ t. only (meeting r table test (over own t) (present_keys (over own t) table) (scope_of s)) ≡ met)
some_rows o m n a b c own r table test q ks ls s u met f i e g =
    follow.next_to o m n a b c _ _ _ f g (λ t h x. ap (λ q. only (meeting r table q (over own t) (present_keys (over own t) table) (scope_of s))) e
    ∙ ap (λ l. only (meeting_test r table q (over own t) l (scope_of s))) (sym h ∙ sym i) ∙ ap only x ∙ only_of met u)

pub ruleset all_meet = (any_row, some_rows)
