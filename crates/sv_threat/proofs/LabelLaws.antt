-- The first threat of those that were looked at, change by change and table by table, and the label that it gives.
use Rattle.std.proofs.Common.{◌≡◌, ◌≢◌, ◌∙◌, ◌⊎◌, inl, inr, ℕ, zero, suc, ◌+◌, ◌<◌, ◌≤◌, Bool, true, false, List, [], ◌∷◌, length, map, take, get_or, Option, Some, None, slice_get, refl, sym, ap, subst, arith}
use Rattle.std.specs.Prelude.{◌==◌, ◌&&◌, ◌||◌, nat_lt, if◌then◌else◌, IfSome}
use Rattle.std.specs.List.{list_any, filter}
use Rattle.std.proofs.lemmas.Bool.{cases_eq, cases_lt}
use Rattle.std.proofs.lemmas.Bool.Decides.{nat_tests}
use Rattle.std.proofs.lemmas.Option.{slice_get_within}
use Rattle.std.proofs.lemmas.List.{length-map}
use Rattle.sv_app.specs.declared.reasons.Reason.{Reason}
use Rattle.sv_app.specs.declared.schemas.Table.{Table}
use Rattle.sv_app.specs.Accepted.{AcceptedSchema}
use Rattle.sv_app.specs.Satisfiable.{IsSatisfiable}
use Rattle.sv_app.specs.Schema.{Declaration, declaration_of, schema_of}
use Rattle.sv_app.proofs.ListLaws.{any_at, same_some}
use Rattle.sv_app.proofs.TestLaws.{same_test, test_same}
use Rattle.sv_effect.specs.declared.ops.RowEffect.{RowEffect}
use Rattle.sv_effect.specs.Fits.{FitsSchema, AllFit}
use Rattle.sv_effect.specs.RunChanges.{Effect, effect_of}
use Rattle.sv_effect.specs.Threatened.{Threatened, Unthreatened}
use Rattle.sv_gains.specs.Gains.{Teller, AreGains}
use Rattle.sv_gains.specs.Systems.{IsNarrowTable}
use Rattle.sv_gains.proofs.RowLaws.{accepted_narrow}
use Rattle.sv_threat.specs.declared.found.Found.{Found}
use Rattle.sv_threat.specs.First.{IsReason, IsFirstReason, IsFound, IsFoundAt, is_sooner, sooner, StandsBefore, IsFirstFound, IsFirstOf, IsSeen, Before, Within, AreAll}
use Rattle.sv_threat.specs.FirstThreat.{Threat, IsSooner, IsFirst, IsBefore, place_of}
use Rattle.sv_threat.specs.Labels.{IsRed}
use Rattle.sv_threat.specs.Tests.{AreTold}
use Rattle.sv_threat.proofs.FirstLaws.{table_here, within_tables}
use Rattle.sv_threat.proofs.TestLaws.{apart}

-- what is seen is less
narrower : (Q R : ℕ → Effect → Type 0) (schema : List Declaration) (es : List Effect) (o : Option Found) → ((n : ℕ) (x : Effect) → slice_get es n ≡ Some x → R n x → Q n x)
    → ((n : ℕ) (x : Effect) → slice_get es n ≡ Some x → Q n x → R n x) → IsFirstOf Q schema es o → IsFirstOf R schema es o
narrower Q R schema es None less more none_found = λ n x r seen at threatened. none_found n x r (less n x at seen) at threatened
narrower Q R schema es (Some found) less more is = record {
  e = is.e;
  at = is.at;
  seen = more found.number is.e is.at is.seen;
  instance = is.instance;
  threatened = is.threatened;
  first = λ n x r seen at threatened before. is.first n x r (less n x at seen) at threatened before;
}

sooner_means : (f h : Found) → is_sooner f h ≡ true → (f.instance < h.instance) ⊎ ((f.instance ≡ h.instance) × (f.number < h.number))
sooner_means f h is = by (nat_lt f.instance h.instance) refl (f.instance == h.instance) refl (nat_lt f.number h.number) refl is
  where
    by : (a : Bool) → nat_lt f.instance h.instance ≡ a → (b : Bool) → (f.instance == h.instance) ≡ b → (c : Bool) → nat_lt f.number h.number ≡ c → (a || (b && c)) ≡ true
        → (f.instance < h.instance) ⊎ ((f.instance ≡ h.instance) × (f.number < h.number))
    by true ea b eb c ec is = inl (grind (arith, nat_tests, ea))
    by false ea true eb true ec is = inr (test_same f.instance h.instance eb, grind (arith, nat_tests, ec))
    by false ea true eb false ec is = absurd cc
    by false ea false eb c ec is = absurd cc

not_sooner : (f h : Found) → is_sooner f h ≡ false → (f.instance < h.instance → ⊥) × (f.instance ≡ h.instance → f.number < h.number → ⊥)
not_sooner f h is = by (nat_lt f.instance h.instance) refl (f.instance == h.instance) refl (nat_lt f.number h.number) refl is
  where
    by : (a : Bool) → nat_lt f.instance h.instance ≡ a → (b : Bool) → (f.instance == h.instance) ≡ b → (c : Bool) → nat_lt f.number h.number ≡ c → (a || (b && c)) ≡ false
        → (f.instance < h.instance → ⊥) × (f.instance ≡ h.instance → f.number < h.number → ⊥)
    by true ea b eb c ec is = absurd cc
    by false ea true eb true ec is = absurd cc
    by false ea true eb false ec is = ((λ less. absurd (grind (arith, nat_tests, ea, less))), (λ same less. absurd (grind (arith, nat_tests, ec, less))))
    by false ea false eb c ec is = ((λ less. absurd (grind (arith, nat_tests, ea, less))), (λ same less. apart (f.instance == h.instance) (same_test f.instance h.instance same) eb))

-- what stands before one that is sooner stands before the other
before_both : (n : ℕ) (x : Effect) (r : Reason) (f h : Found) → (f.instance < h.instance) ⊎ ((f.instance ≡ h.instance) × (f.number < h.number)) → StandsBefore n x r f → StandsBefore n x r h
before_both n x r f h (inl less) (inl earlier) = inl (omega (arith, less, earlier))
before_both n x r f h (inl less) (inr (same, rest)) = inl (omega (arith, less, same))
before_both n x r f h (inr (same, less)) (inl earlier) = inl (omega (arith, same, earlier))
before_both n x r f h (inr (same, less)) (inr (also, inl earlier)) = inr (omega (arith, same, also), inl (omega (arith, less, earlier)))
before_both n x r f h (inr (same, less)) (inr (also, inr (one, reason))) = inr (omega (arith, same, also), inl (omega (arith, less, one)))

-- one more change was looked at
record IsNext (Q R : ℕ → Effect → Type 0) (es : List Effect) (i : ℕ) (e : Effect) : Type 0 where
  at : slice_get es i ≡ Some e
  fresh : Q i e → ⊥
  here : R i e
  more : (n : ℕ) (x : Effect) → Q n x → R n x
  each : (n : ℕ) (x : Effect) → slice_get es n ≡ Some x → R n x → Q n x ⊎ (n ≡ i)

same_change : (es : List Effect) (n i : ℕ) (x e : Effect) → n ≡ i → slice_get es n ≡ Some x → slice_get es i ≡ Some e → x ≡ e
same_change es n i x e same at_x at_e = same_some (slice_get es i) x e (ap (slice_get es) (sym same) ∙ at_x) at_e

-- no threat of the change itself stands before its first
own_first : (schema : List Declaration) (i n : ℕ) (e x : Effect) (f : Found) (r : Reason) → IsFound schema i e f → n ≡ i → x ≡ e → Threatened schema x r → StandsBefore n x r f → ⊥
own_first schema i n e x f r found same one threatened (inl less) =
    let instance : x.instance ≡ e.instance = ap (λ (y : Effect). y.instance) one in omega (arith, less, instance, found.instance)
own_first schema i n e x f r found same one threatened (inr (also, inl less)) = omega (arith, less, same, found.number)
own_first schema i n e x f r found same one threatened (inr (also, inr (number, before))) = found.reason.first r (subst (λ y. Threatened schema y r) one threatened) before

one_seen : (Q R : ℕ → Effect → Type 0) (schema : List Declaration) (es : List Effect) (i : ℕ) (e : Effect) (held found : Option Found) → IsNext Q R es i e → IsFirstOf Q schema es held
    → IsFoundAt schema i e found → IsFirstOf R schema es (sooner held found)
one_seen Q R schema es i e None None next none_held none_found = λ n x r seen at threatened. by n x r at threatened (next.each n x at seen)
  where
    by : (n : ℕ) (x : Effect) (r : Reason) → slice_get es n ≡ Some x → Threatened schema x r → Q n x ⊎ (n ≡ i) → ⊥
    by n x r at threatened (inl seen) = none_held n x r seen at threatened
    by n x r at threatened (inr same) = none_found r (subst (λ y. Threatened schema y r) (same_change es n i x e same at next.at) threatened)
one_seen Q R schema es i e None (Some f) next none_held found = record {
  e = e;
  at = ap (slice_get es) found.number ∙ next.at;
  seen = subst (λ n. R n e) (sym found.number) next.here;
  instance = sym found.instance;
  threatened = found.reason.threatened;
  first = λ n x r seen at threatened before. by n x r at threatened before (next.each n x at seen);
}
  where
    by : (n : ℕ) (x : Effect) (r : Reason) → slice_get es n ≡ Some x → Threatened schema x r → StandsBefore n x r f → Q n x ⊎ (n ≡ i) → ⊥
    by n x r at threatened before (inl seen) = none_held n x r seen at threatened
    by n x r at threatened before (inr same) = own_first schema i n e x f r found same (same_change es n i x e same at next.at) threatened before
one_seen Q R schema es i e (Some h) None next held none_found = record {
  e = held.e;
  at = held.at;
  seen = next.more h.number held.e held.seen;
  instance = held.instance;
  threatened = held.threatened;
  first = λ n x r seen at threatened before. by n x r at threatened before (next.each n x at seen);
}
  where
    by : (n : ℕ) (x : Effect) (r : Reason) → slice_get es n ≡ Some x → Threatened schema x r → StandsBefore n x r h → Q n x ⊎ (n ≡ i) → ⊥
    by n x r at threatened before (inl seen) = held.first n x r seen at threatened before
    by n x r at threatened before (inr same) = none_found r (subst (λ y. Threatened schema y r) (same_change es n i x e same at next.at) threatened)
one_seen Q R schema es i e (Some h) (Some f) next held found = split (is_sooner f h) refl
  where
    taken : is_sooner f h ≡ true → (n : ℕ) (x : Effect) (r : Reason) → slice_get es n ≡ Some x → Threatened schema x r → StandsBefore n x r f → Q n x ⊎ (n ≡ i) → ⊥
    taken is n x r at threatened before (inl seen) = held.first n x r seen at threatened (before_both n x r f h (sooner_means f h is) before)
    taken is n x r at threatened before (inr same) = own_first schema i n e x f r found same (same_change es n i x e same at next.at) threatened before

    apart_from : h.number ≡ i → ⊥
    apart_from same = next.fresh (subst (λ (p : ℕ × Effect). Q p.0 p.1) (λ j. (same j, same_change es h.number i held.e e same held.at next.at j)) held.seen)

    left : is_sooner f h ≡ false → (n : ℕ) (x : Effect) (r : Reason) → slice_get es n ≡ Some x → Threatened schema x r → StandsBefore n x r h → Q n x ⊎ (n ≡ i) → ⊥
    left is n x r at threatened before (inl seen) = held.first n x r seen at threatened before
    left is n x r at threatened (inl less) (inr same) =
        let instance : x.instance ≡ e.instance = ap (λ (y : Effect). y.instance) (same_change es n i x e same at next.at) in
        (not_sooner f h is).0 (omega (arith, less, instance, found.instance))
    left is n x r at threatened (inr (also, inl less)) (inr same) =
        let instance : x.instance ≡ e.instance = ap (λ (y : Effect). y.instance) (same_change es n i x e same at next.at) in
        (not_sooner f h is).1 (omega (arith, also, instance, found.instance)) (omega (arith, less, same, found.number))
    left is n x r at threatened (inr (also, inr (one, reason))) (inr same) = apart_from (omega (arith, one, same))

    split : (b : Bool) → is_sooner f h ≡ b → IsFirstOf R schema es (if b then Some f else Some h)
    split true is = record {
      e = e;
      at = ap (slice_get es) found.number ∙ next.at;
      seen = subst (λ n. R n e) (sym found.number) next.here;
      instance = sym found.instance;
      threatened = found.reason.threatened;
      first = λ n x r seen at threatened before. taken is n x r at threatened before (next.each n x at seen);
    }
    split false is = record {
      e = held.e;
      at = held.at;
      seen = next.more h.number held.e held.seen;
      instance = held.instance;
      threatened = held.threatened;
      first = λ n x r seen at threatened before. left is n x r at threatened before (next.each n x at seen);
    }

-- ---- changes as the code has them

effect_at : (effects : List RowEffect) (i : ℕ) (e : RowEffect) → i < length effects → e ≡ get_or effects i e → slice_get (map effect_of effects) i ≡ Some (effect_of e)
effect_at [] i e less is = absurd (omega (arith, less))
effect_at (x ∷ effects) zero e less is = ap (λ (y : RowEffect). Some (effect_of y)) (sym is)
effect_at (x ∷ effects) (suc i) e less is = effect_at effects i e (omega (arith, less)) is

more_seen : (table i n : ℕ) (x : Effect) → IsSeen table i n x → IsSeen table (i + 1) n x
more_seen table i n x (Before less) = Before less
more_seen table i n x (Within same less) = Within same (omega (arith, less))

less_seen : (table i n : ℕ) (x : Effect) → IsSeen table (i + 1) n x → IsSeen table i n x ⊎ (n ≡ i)
less_seen table i n x (Before less) = inl (Before less)
less_seen table i n x (Within same less) = by (cases_eq n i)
  where
    by : (n ≡ i) ⊎ (n ≡ i → ⊥) → IsSeen table i n x ⊎ (n ≡ i)
    by (inl e) = inr e
    by (inr other) = inl (Within same (omega (arith, less, other)))

taken_next : (effects : List RowEffect) (table i : ℕ) (e : RowEffect) → i < length effects → e ≡ get_or effects i e → e.table ≡ table → IsNext (IsSeen table i) (IsSeen table (i + 1)) (map effect_of effects) i (effect_of e)
taken_next effects table i e less is same = record {
  at = effect_at effects i e less is;
  fresh = not_yet;
  here = Within same (omega arith);
  more = more_seen table i;
  each = λ n x at seen. less_seen table i n x seen;
}
  where
    not_yet : IsSeen table i i (effect_of e) → ⊥
    not_yet (Before before) = omega (arith, before, same)
    not_yet (Within also before) = omega (arith, before)

-- a change of the table, and one of another table
pub change_seen : (schema : List Declaration) (effects : List RowEffect) (table i : ℕ) (e : RowEffect) (held found now : Option Found) → i < length effects → e ≡ get_or effects i e → e.table ≡ table
    → IsFirstOf (IsSeen table i) schema (map effect_of effects) held → IsFoundAt schema i (effect_of e) found → now ≡ sooner held found → IsFirstOf (IsSeen table (i + 1)) schema (map effect_of effects) now
change_seen schema effects table i e held found now less is same before at step =
    subst (IsFirstOf (IsSeen table (i + 1)) schema (map effect_of effects)) (sym step)
    (one_seen (IsSeen table i) (IsSeen table (i + 1)) schema (map effect_of effects) i (effect_of e) held found (taken_next effects table i e less is same) before at)

pub other_seen : (schema : List Declaration) (effects : List RowEffect) (table i : ℕ) (e : RowEffect) (held : Option Found) → i < length effects → e ≡ get_or effects i e → (e.table ≡ table → ⊥)
    → IsFirstOf (IsSeen table i) schema (map effect_of effects) held → IsFirstOf (IsSeen table (i + 1)) schema (map effect_of effects) held
other_seen schema effects table i e held less is other before =
    narrower (IsSeen table i) (IsSeen table (i + 1)) schema (map effect_of effects) held (λ n x at seen. by n x at seen (less_seen table i n x seen)) (λ n x at. more_seen table i n x) before
  where
    not_here : (n : ℕ) (x : Effect) → slice_get (map effect_of effects) n ≡ Some x → n ≡ i → IsSeen table (i + 1) n x → IsSeen table i n x
    not_here n x at same (Before earlier) = Before earlier
    not_here n x at same (Within mine earlier) =
        let one : x ≡ effect_of e = same_change (map effect_of effects) n i x (effect_of e) same at (effect_at effects i e less is) in
        absurd (other (ap (λ (y : Effect). y.place.table) (sym one) ∙ mine))

    by : (n : ℕ) (x : Effect) → slice_get (map effect_of effects) n ≡ Some x → IsSeen table (i + 1) n x → IsSeen table i n x ⊎ (n ≡ i) → IsSeen table i n x
    by n x at seen (inl there) = there
    by n x at seen (inr same) = not_here n x at same seen

pub fits_at : (schema : List Declaration) (effects : List RowEffect) (i : ℕ) (e : RowEffect) → i < length effects → e ≡ get_or effects i e → AllFit schema effects → FitsSchema schema e
fits_at schema [] i e less is fits = absurd (omega (arith, less))
fits_at schema (x ∷ effects) zero e less is fits = subst (FitsSchema schema) (sym is) fits.0
fits_at schema (x ∷ effects) (suc i) e less is fits = fits_at schema effects i e (omega (arith, less)) is fits.1

pub told_at : (schema : List Declaration) (e : RowEffect) (table : ℕ) (told : Teller) → e.table ≡ table → AreTold schema table told → AreTold schema e.table told
told_at schema e table told same are = subst (λ n. AreTold schema n told) (sym same) are

-- ---- tables

place_within : (es : List Effect) (n : ℕ) (x : Effect) → slice_get es n ≡ Some x → n < length es
place_within es n x at = slice_get_within es n x at

pub table_over : (schema : List Declaration) (effects : List RowEffect) (table : ℕ) (o : Option Found) → IsFirstOf (IsSeen table (length effects)) schema (map effect_of effects) o
    → IsFirstOf (IsSeen (table + 1) 0) schema (map effect_of effects) o
table_over schema effects table o is =
    narrower (IsSeen table (length effects)) (IsSeen (table + 1) 0) schema (map effect_of effects) o forth back is
  where
    forth : (n : ℕ) (x : Effect) → slice_get (map effect_of effects) n ≡ Some x → IsSeen (table + 1) 0 n x → IsSeen table (length effects) n x
    forth n x at (Within same less) = absurd (omega (arith, less))
    forth n x at (Before less) = by (cases_eq x.place.table table)
      where
        by : (x.place.table ≡ table) ⊎ (x.place.table ≡ table → ⊥) → IsSeen table (length effects) n x
        by (inl same) = Within same (let within : n < length (map effect_of effects) = place_within (map effect_of effects) n x at in omega (arith, within, length-map effects effect_of))
        by (inr other) = Before (omega (arith, less, other))

    back : (n : ℕ) (x : Effect) → slice_get (map effect_of effects) n ≡ Some x → IsSeen table (length effects) n x → IsSeen (table + 1) 0 n x
    back n x at (Before less) = Before (omega (arith, less))
    back n x at (Within same less) = Before (omega (arith, same))

untouched : (effects : List RowEffect) (table n : ℕ) (x : Effect) → list_any (λ (e : RowEffect). e.table == table) effects ≡ false → slice_get (map effect_of effects) n ≡ Some x → x.place.table ≡ table → ⊥
untouched [] table n x none_of at same = absurd cc
untouched (e ∷ effects) table n x none_of at same = by (e.table == table) refl none_of n at (untouched effects table)
  where
    effect_same : (a b : Effect) → Some a ≡ Some b → a ≡ b
    effect_same a b e = cc

    by : (b : Bool) → (e.table == table) ≡ b → (b || list_any (λ (e : RowEffect). e.table == table) effects) ≡ false → (n : ℕ) → slice_get (map effect_of (e ∷ effects)) n ≡ Some x
        → ((m : ℕ) (y : Effect) → list_any (λ (e : RowEffect). e.table == table) effects ≡ false → slice_get (map effect_of effects) m ≡ Some y → y.place.table ≡ table → ⊥) → ⊥
    by true is none_of n at ih = absurd cc
    by false is none_of zero at ih =
        let one : effect_of e ≡ x = effect_same (effect_of e) x at in
        apart (e.table == table) (same_test e.table table (ap (λ (y : Effect). y.place.table) one ∙ same)) is
    by false is none_of (suc m) at ih = ih m x none_of at same

-- no change is of the table
pub table_passed : (schema : List Declaration) (effects : List RowEffect) (table : ℕ) (o : Option Found) (b : Bool) → b ≡ list_any (λ (e : RowEffect). e.table == table) effects → b ≡ false
    → IsFirstOf (IsSeen table 0) schema (map effect_of effects) o → IsFirstOf (IsSeen (table + 1) 0) schema (map effect_of effects) o
table_passed schema effects table o b is none_of before =
    narrower (IsSeen table 0) (IsSeen (table + 1) 0) schema (map effect_of effects) o forth back before
  where
    forth : (n : ℕ) (x : Effect) → slice_get (map effect_of effects) n ≡ Some x → IsSeen (table + 1) 0 n x → IsSeen table 0 n x
    forth n x at (Within same less) = absurd (omega (arith, less))
    forth n x at (Before less) = by (cases_eq x.place.table table)
      where
        by : (x.place.table ≡ table) ⊎ (x.place.table ≡ table → ⊥) → IsSeen table 0 n x
        by (inl same) = absurd (untouched effects table n x (sym is ∙ none_of) at same)
        by (inr other) = Before (omega (arith, less, other))

    back : (n : ℕ) (x : Effect) → slice_get (map effect_of effects) n ≡ Some x → IsSeen table 0 n x → IsSeen (table + 1) 0 n x
    back n x at (Before less) = Before (omega (arith, less))
    back n x at (Within same less) = absurd (omega (arith, less))

pub none_seen : (schema : List Declaration) (effects : List RowEffect) → IsFirstOf (IsSeen 0 0) schema (map effect_of effects) None
none_seen schema effects = λ n x r seen at threatened. nothing n x seen
  where
    nothing : (n : ℕ) (x : Effect) → IsSeen 0 0 n x → ⊥
    nothing n x (Before less) = omega (arith, less)
    nothing n x (Within same less) = omega (arith, less)

effects_fit : (schema : List Declaration) (effects : List RowEffect) (n : ℕ) (x : Effect) → AllFit schema effects → slice_get (map effect_of effects) n ≡ Some x → x.place.table < length schema
effects_fit schema [] n x fits at = absurd cc
effects_fit schema (e ∷ effects) zero x fits at =
    let within : e.table < length schema = slice_get_within schema e.table fits.0.table fits.0.declared in
    let one : e.table ≡ x.place.table = ap (λ (y : Effect). y.place.table) (effect_same (effect_of e) x at) in
    omega (arith, within, one)
  where
    effect_same : (a b : Effect) → Some a ≡ Some b → a ≡ b
    effect_same a b e = cc
effects_fit schema (e ∷ effects) (suc n) x fits at = effects_fit schema effects n x fits.1 at

pub all_seen : (tables : List Table) (effects : List RowEffect) (i : ℕ) (o : Option Found) → AllFit (schema_of tables) effects → length tables ≤ i
    → IsFirstOf (IsSeen i 0) (schema_of tables) (map effect_of effects) o → IsFirstOf AreAll (schema_of tables) (map effect_of effects) o
all_seen tables effects i o fits long is =
    narrower (IsSeen i 0) AreAll (schema_of tables) (map effect_of effects) o
    (λ n x at all. Before (let within : x.place.table < length (schema_of tables) = effects_fit (schema_of tables) effects n x fits at in omega (arith, within, long, length-map tables declaration_of)))
    (λ n x at seen. tt) is

pub narrow_here : (tables : List Table) (n : ℕ) (table : Table) → AcceptedSchema (schema_of tables) → n < length tables → table ≡ get_or tables n table → IsNarrowTable (declaration_of table)
narrow_here tables n table accepted less is = accepted_narrow (schema_of tables) n (declaration_of table) accepted (table_here tables n table less is)

pub some_here : (tables : List Table) (n : ℕ) (table : Table) → AcceptedSchema (schema_of tables) → n < length tables → table ≡ get_or tables n table → IsSatisfiable (declaration_of table)
some_here tables n table accepted less is = accepted.satisfiable n (declaration_of table) (table_here tables n table less is)

pub told_here : (tables : List Table) (n : ℕ) (table : Table) (told : Teller) → n < length tables → table ≡ get_or tables n table → AreGains (declaration_of table) told → AreTold (schema_of tables) n told
told_here tables n table told less is gains = record { table = declaration_of table; declared = table_here tables n table less is; gains = gains }

pub ruleset seeing = (none_seen)

-- ---- the label

pub map_take : (effects : List RowEffect) (n : ℕ) → map effect_of (take n effects) ≡ take n (map effect_of effects)
map_take [] zero = refl
map_take [] (suc n) = refl
map_take (e ∷ effects) zero = refl
map_take (e ∷ effects) (suc n) = ap (λ l. effect_of e ∷ l) (map_take effects n)

pub all_unthreatened : (schema : List Declaration) (es : List Effect) → IsFirstOf AreAll schema es None → Unthreatened schema es
all_unthreatened schema es none_found number e reason at threatened = none_found number e reason tt at threatened

pub is_red : (schema : List Declaration) (es : List Effect) (found : Found) (place : ℕ) → IsFirstOf AreAll schema es (Some found)
    → place ≡ suc (length (filter (λ (other : Effect). other.instance == found.instance) (take found.number es))) → IsRed schema es found.instance place found.reason
is_red schema es found place is counted = record {
  threat = record { number = found.number; e = is.e; reason = found.reason; at = is.at; threatened = is.threatened };
  first = λ other before. is.first other.number other.e other.reason tt other.at other.threatened (as_before other before);
  instance_is = is.instance;
  place_is = (λ i. suc (length (filter (λ (other : Effect). other.instance == is.instance i) (take found.number es)))) ∙ sym counted;
  reason_is = refl;
}
  where
    as_before : (other : Threat schema es) → IsSooner other (record { number = found.number; e = is.e; reason = found.reason; at = is.at; threatened = is.threatened }) → StandsBefore other.number other.e other.reason found
    as_before other (inl less) = inl (omega (arith, less, is.instance))
    as_before other (inr (same, rest)) = inr (same ∙ is.instance, rest)
