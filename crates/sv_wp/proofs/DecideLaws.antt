-- All that is asked of a change stands in the order of reasons, and its atoms decide by which reason it is threatened first.
use Rattle.std.proofs.Common.{◌≡◌, ◌∙◌, ◌⊎◌, inl, inr, ℕ, zero, suc, ◌+◌, ◌<◌, ◌≤◌, Bool, true, false, List, [], ◌∷◌, ◌++◌, length, map, get_or, Some, slice_get, refl, sym, ap, subst, arith, All}
use Rattle.std.specs.List.{Contains, flat_map}
use Rattle.std.proofs.lemmas.List.Elements.{All-nil, All-cons, All-head, All-append, All-map, Contains-append_left, Contains-append_right, Contains-append_cases}
use Rattle.sv_value.specs.declared.values.Val.{Val}
use Rattle.sv_app.specs.declared.reasons.Reason.{Reason}
use Rattle.sv_app.specs.declared.reasons.Reason.TheVariants as reasons
use Rattle.sv_app.specs.Conditions.{AreNumberedFrom}
use Rattle.sv_app.specs.Schema.{Invariant, Declaration}
use Rattle.sv_app.specs.Valid.{IsInvariant}
use Rattle.sv_app.proofs.ListLaws.{same_some}
use Rattle.sv_effect.specs.RunChanges.{Effect}
use Rattle.sv_effect.specs.Threatened.{Threatened, is_plain_change, IsThreat}
use Rattle.sv_linear.specs.Atoms as atoms_of
use Rattle.sv_linear.specs.Atoms.{Gain, Group, groups, for_each, never_where, group_atoms, to_never, atoms}
use Rattle.sv_linear.specs.Effects.{SymEffect}
use Rattle.sv_linear.specs.Tests.{Never, Atom}
use Rattle.sv_threat.specs.First.{IsReason}
use Rattle.sv_threat.specs.FirstThreat.{rank, invariant_in, IsBefore}
use Rattle.sv_threat.specs.Tests.{By}
use Rattle.sv_threat.proofs.PlainLaws.{plain_in, unplain_in}
use Rattle.sv_threat.proofs.TestLaws.{apart}
use Rattle.sv_wp.specs.declared.questions.Question.{Question}
use Rattle.sv_wp.specs.declared.questions.Question.TheVariants.{Unique, Child, Parent, Check as Checked, List as Listed}
use Rattle.sv_wp.specs.Decides.{IsUpTo, Decide, AtomsDecide}
use Rattle.sv_wp.specs.Gives.{IsMetOn, AreMet}
use Rattle.sv_wp.specs.Listing.{reason_by, group_by, groups_by, in_order, atom_by}
use Rattle.sv_wp.proofs.CaseOrder.{bracketed}
use Rattle.sv_wp.proofs.AskedLaws.{way_of, IsAsked, asked_means, threat_or}
use Rattle.sv_wp.proofs.GroupLaws.{GroupsBehind, AreOrdered, AsksUnmet, JudgeGroups, judged_groups}
use Rattle.sv_wp.proofs.OrderLaws.{all_in, here, alone, nowhere, equal_reasons, judged}
use Rattle.sv_wp.proofs.Others.{plain_change}

-- ---- all that is asked, by the questions

abbrev pub plain_group : List Declaration → SymEffect → Group
plain_group schema e = record { reason = reasons.Plain; asked = never_where (atoms_of.is_plain_change (slice_get schema e.table) e) }

pub groups_are : (told : Gain) (schema : List Declaration) (e : SymEffect) → groups told schema e ≡ plain_group schema e ∷ groups_by in_order told schema e
groups_are told schema e =
    ap (λ gs. plain_group schema e ∷ gs)
    (bracketed (for_each (group_by Unique told schema e) 0 schema) (for_each (group_by Child told schema e) 0 schema) (for_each (group_by Parent told schema e) 0 schema)
    (for_each (group_by Checked told schema e) 0 schema) (for_each (group_by Listed told schema e) 0 schema))

-- ---- a group for each invariant

in_map : {A B : Type 0} (f : A → B) (xs : List A) (x : A) → Contains xs x → Contains (map f xs) (f x)
in_map f [] x among = absurd (nowhere x among)
in_map f (y ∷ xs) x among = by (Contains-append_cases (y ∷ []) xs x among) (in_map f xs x)
  where
    by : Contains (y ∷ []) x ⊎ Contains xs x → (Contains xs x → Contains (map f xs) (f x)) → Contains (map f (y ∷ xs)) (f x)
    by (inl first) ih = subst (λ z. Contains (map f (y ∷ xs)) (f z)) (alone y x first) (here (f y) (map f xs))
    by (inr later) ih = Contains-append_right (f y ∷ []) (map f xs) (f x) (ih later)

in_flat : {A B : Type 0} (f : A → List B) (xs : List A) (x : A) (y : B) → Contains xs x → Contains (f x) y → Contains (flat_map f xs) y
in_flat f [] x y among inside = absurd (nowhere x among)
in_flat f (z ∷ xs) x y among inside = by (Contains-append_cases (z ∷ []) xs x among) (λ later. in_flat f xs x y later inside)
  where
    by : Contains (z ∷ []) x ⊎ Contains xs x → (Contains xs x → Contains (flat_map f xs) y) → Contains (flat_map f (z ∷ xs)) y
    by (inl first) ih = Contains-append_left (f z) (flat_map f xs) y (subst (λ w. Contains (f w) y) (sym (alone z x first)) inside)
    by (inr later) ih = Contains-append_right (f z) (flat_map f xs) y (ih later)

pub all_flat : {A B : Type 0} (P : B → Type 0) (f : A → List B) (xs : List A) → ((x : A) → All P (f x)) → All P (flat_map f xs)
all_flat P f [] each = All-nil P
all_flat P f (x ∷ xs) each = All-append P (f x) (flat_map f xs) (each x) (all_flat P f xs each)

get_same : {A : Type 0} (xs : List A) (k : ℕ) (d c : A) → k < length xs → get_or xs k c ≡ get_or xs k d
get_same [] k d c less = absurd (omega (arith, less))
get_same (x ∷ xs) zero d c less = refl
get_same (x ∷ xs) (suc k) d c less = get_same xs k d c (omega (arith, less))

get_in : {A : Type 0} (xs : List A) (k : ℕ) (d : A) → k < length xs → Contains xs (get_or xs k d)
get_in xs k d less = (k, less, get_same xs k d (get_or xs k d) less)

pub all_each : (P : Group → Type 0) (group : ℕ → Invariant → Group) (k : ℕ) (ds : List Declaration)
    → ((n : ℕ) (d : Declaration) (inv : Invariant) → slice_get ds n ≡ Some d → Contains d.invs inv → P (group (k + n) inv)) → All P (for_each group k ds)
all_each P group k [] each = All-nil P
all_each P group k (d ∷ ds) each =
    All-append P (map (group k) d.invs) (for_each group (suc k) ds)
    (All-map P (group k) d.invs (λ j x less. subst (λ m. P (group m (get_or d.invs j x))) (omega arith) (each 0 d (get_or d.invs j x) refl (get_in d.invs j x less))))
    (all_each P group (suc k) ds (λ n c inv at among. subst (λ m. P (group m inv)) (omega arith) (each (suc n) c inv at among)))

in_each : (group : ℕ → Invariant → Group) (k : ℕ) (ds : List Declaration) (n : ℕ) (d : Declaration) (inv : Invariant) → slice_get ds n ≡ Some d → Contains d.invs inv → Contains (for_each group k ds) (group (k + n) inv)
in_each group k [] n d inv at among = absurd (none_at at)
  where
    none_at : slice_get [] n ≡ Some d → ⊥
    none_at at = cc
in_each group k (c ∷ ds) zero d inv at among =
    let same : c ≡ d = same_some (slice_get (c ∷ ds) zero) c d refl at in
    Contains-append_left (map (group k) c.invs) (for_each group (suc k) ds) (group (k + 0) inv)
    (subst (λ m. Contains (map (group k) c.invs) (group m inv)) (omega arith) (in_map (group k) c.invs inv (subst (λ (x : Declaration). Contains x.invs inv) (sym same) among)))
in_each group k (c ∷ ds) (suc n) d inv at among =
    Contains-append_right (map (group k) c.invs) (for_each group (suc k) ds) (group (k + suc n) inv)
    (subst (λ m. Contains (for_each group (suc k) ds) (group m inv)) (omega arith) (in_each group (suc k) ds n d inv at among))

-- ---- the order

abbrev rank_of : Question → ℕ
rank_of Unique = 1
rank_of Child = 2
rank_of Parent = 3
rank_of Checked = 4
rank_of Listed = 5

ranked : (q : Question) (n : ℕ) → rank (reason_by q n) ≡ rank_of q
ranked Unique n = refl
ranked Child n = refl
ranked Parent n = refl
ranked Checked n = refl
ranked Listed n = refl

numbered_by : (q : Question) (n : ℕ) → invariant_in (reason_by q n) ≡ n
numbered_by Unique n = refl
numbered_by Child n = refl
numbered_by Parent n = refl
numbered_by Checked n = refl
numbered_by Listed n = refl

not_sooner : (a b : Reason) → rank b ≤ rank a → invariant_in b ≤ invariant_in a → IsBefore a b → ⊥
not_sooner a b p q (inl less) = omega (arith, p, less)
not_sooner a b p q (inr (same, less)) = omega (arith, q, less)

later_rank : (a b : Reason) → rank b < rank a → IsBefore a b → ⊥
later_rank a b p (inl less) = omega (arith, p, less)
later_rank a b p (inr (same, less)) = omega (arith, p, same)

pub before_plain : (a : Reason) → IsBefore a reasons.Plain → ⊥
before_plain a (inl less) = omega (arith, less)
before_plain a (inr (same, less)) = omega (arith, less)

numbered_front : (first : ℕ) (xs ys : List Invariant) → AreNumberedFrom first (xs ++ ys) → AreNumberedFrom first xs
numbered_front first [] ys numbered = tt
numbered_front first (x ∷ xs) ys numbered = (numbered.0, numbered_front (suc first) xs ys numbered.1)

numbered_back : (first : ℕ) (xs ys : List Invariant) → AreNumberedFrom first (xs ++ ys) → AreNumberedFrom (first + length xs) ys
numbered_back first [] ys numbered = subst (λ n. AreNumberedFrom n ys) (omega arith) numbered
numbered_back first (x ∷ xs) ys numbered = subst (λ n. AreNumberedFrom n ys) (omega arith) (numbered_back (suc first) xs ys numbered.1)

groups_both : (gs hs : List Group) → AreOrdered gs → AreOrdered hs → ((g : Group) → Contains gs g → GroupsBehind g.reason hs) → AreOrdered (gs ++ hs)
groups_both [] hs p q across = q
groups_both (g ∷ gs) hs p q across = (
  All-append (λ (h : Group). IsBefore h.reason g.reason → ⊥) gs hs p.0 (across g (here g gs)),
  groups_both gs hs p.1 q (λ h among. across h (Contains-append_right (g ∷ []) gs h among)),
)

module _ (told : Gain) (schema : List Declaration) (e : SymEffect) where
  -- of this question, about invariants from this number on
  abbrev IsFrom : Question → ℕ → Group → Type 0
  IsFrom q from g = (rank g.reason ≡ rank_of q) × (from ≤ invariant_in g.reason)

  record InOrder (q : Question) (from : ℕ) (gs : List Group) : Type 0 where
    ordered : AreOrdered gs
    all : All (IsFrom q from) gs

  ordered_invs : (q : Question) (k from : ℕ) (invs : List Invariant) (gs : List Group) → AreNumberedFrom from invs → InOrder q (from + length invs) gs → InOrder q from (map (group_by q told schema e k) invs ++ gs)
  ordered_invs q k from [] gs numbered later = subst (λ n. InOrder q n gs) (omega arith) later
  ordered_invs q k from (inv ∷ invs) gs numbered later =
      let rest : InOrder q (suc from) (map (group_by q told schema e k) invs ++ gs) = ordered_invs q k (suc from) invs gs numbered.1 (subst (λ n. InOrder q n gs) (omega arith) later) in
      record {
        ordered = (
          λ j x less. not_sooner _ (reason_by q inv.number) (omega (arith, ranked q inv.number, (rest.all j x less).0)) (omega (arith, numbered_by q inv.number, numbered.0, (rest.all j x less).1)),
          rest.ordered,
        );
        all = All-cons (IsFrom q from) (group_by q told schema e k inv) (map (group_by q told schema e k) invs ++ gs)
            (ranked q inv.number, omega (arith, numbered_by q inv.number, numbered.0))
            (λ j x less. ((rest.all j x less).0, omega (arith, (rest.all j x less).1)));
      }

  ordered_each : (q : Question) (k from : ℕ) (ds : List Declaration) → AreNumberedFrom from (flat_map (λ (d : Declaration). d.invs) ds) → InOrder q from (for_each (group_by q told schema e) k ds)
  ordered_each q k from [] numbered = record { ordered = tt; all = All-nil (IsFrom q from) }
  ordered_each q k from (d ∷ ds) numbered =
      ordered_invs q k from d.invs (for_each (group_by q told schema e) (suc k) ds) (numbered_front from d.invs (flat_map (λ (d : Declaration). d.invs) ds) numbered)
      (ordered_each q (suc k) (from + length d.invs) ds (numbered_back from d.invs (flat_map (λ (d : Declaration). d.invs) ds) numbered))

  abbrev Rises : ℕ → List Question → Type 0
  Rises n [] = Unit {0}
  Rises n (q ∷ qs) = (rank_of q ≡ n) × Rises (suc n) qs

  record Ranks (n : ℕ) (gs : List Group) : Type 0 where
    ordered : AreOrdered gs
    all : All (λ (g : Group). n ≤ rank g.reason) gs

  ordered_questions : (n : ℕ) (qs : List Question) → Rises n qs → AreNumberedFrom 1 (flat_map (λ (d : Declaration). d.invs) schema) → Ranks n (groups_by qs told schema e)
  ordered_questions n [] rises numbered = record { ordered = tt; all = All-nil (λ (g : Group). n ≤ rank g.reason) }
  ordered_questions n (q ∷ qs) rises numbered =
      let first : InOrder q 1 (for_each (group_by q told schema e) 0 schema) = ordered_each q 0 1 schema numbered in
      let rest : Ranks (suc n) (groups_by qs told schema e) = ordered_questions (suc n) qs rises.1 numbered in
      record {
        ordered = groups_both (for_each (group_by q told schema e) 0 schema) (groups_by qs told schema e) first.ordered rest.ordered
            (λ g among j x less. later_rank _ g.reason (omega (arith, rises.0, rest.all j x less, (all_in (IsFrom q 1) (for_each (group_by q told schema e) 0 schema) g first.all among).0)));
        all = All-append (λ (g : Group). n ≤ rank g.reason) (for_each (group_by q told schema e) 0 schema) (groups_by qs told schema e)
            (λ j x less. omega (arith, rises.0, (first.all j x less).0))
            (λ j x less. omega (arith, rest.all j x less));
      }

  all_ordered : AreNumberedFrom 1 (flat_map (λ (d : Declaration). d.invs) schema) → AreOrdered (plain_group schema e ∷ groups_by in_order told schema e)
  all_ordered numbered = (λ j x less. before_plain _, (ordered_questions 1 in_order (refl, (refl, (refl, (refl, (refl, tt))))) numbered).ordered)

-- ---- a change that isn't plain

module _ (schema : List Declaration) (change : Effect) (tape : List Val) (e : SymEffect) (told : Gain) (is : IsAsked schema change tape e told) where
  by_question : (q : Question) (n : ℕ) → IsThreat schema n (By (way_of q) schema change) → Threatened schema change (reason_by q n)
  by_question Unique n threat = threat
  by_question Child n threat = threat
  by_question Parent n threat = threat
  by_question Checked n threat = threat
  by_question Listed n threat = threat

  abbrev Meant : Group → Type 0
  Meant g = (AreMet schema tape g.asked → ⊥) → Threatened schema change g.reason

  one_meant : (q : Question) (table : ℕ) (inv : Invariant) → IsInvariant schema table inv → Meant (group_by q told schema e table inv)
  one_meant q table inv among fails = by (threat_or schema change tape e told is (way_of q) table inv among)
    where
      by : By (way_of q) schema change table among.declaration inv.rule ⊎ (By (way_of q) schema change table among.declaration inv.rule → ⊥) → Threatened schema change (reason_by q inv.number)
      by (inl threat) = by_question q inv.number (record { table = table; inv = inv; among = among; numbered = refl; by = threat })
      by (inr safe) = absurd (fails ((asked_means schema change tape e told is q table inv among).1 safe))

  all_meant : All Meant (groups_by in_order told schema e)
  all_meant = all_flat Meant (λ q. for_each (group_by q told schema e) 0 schema) in_order
      (λ q. all_each Meant (group_by q told schema e) 0 schema (λ n d inv at among. subst (λ m. Meant (group_by q told schema e m inv)) (omega arith) (one_meant q n inv (record { declaration = d; declared = at; among = among }))))

  asks : (q : Question) (n : ℕ) → Contains in_order q → IsThreat schema n (By (way_of q) schema change) → AsksUnmet schema tape change (reason_by q n) (groups_by in_order told schema e)
  asks q n listed threat = record {
    group = group_by q told schema e threat.table threat.inv;
    among = in_flat (λ x. for_each (group_by x told schema e) 0 schema) in_order q (group_by q told schema e threat.table threat.inv) listed
        (subst (λ m. Contains (for_each (group_by q told schema e) 0 schema) (group_by q told schema e m threat.inv)) (omega arith)
        (in_each (group_by q told schema e) 0 schema threat.table threat.among.declaration threat.inv threat.among.declared threat.among.among));
    reason_is = ap (reason_by q) threat.numbered;
    fails = λ met. (asked_means schema change tape e told is q threat.table threat.inv threat.among).0 met threat.by;
  }

  behind_plain : (reason : Reason) → AsksUnmet schema tape change reason (groups_by in_order told schema e) → AsksUnmet schema tape change reason (plain_group schema e ∷ groups_by in_order told schema e)
  behind_plain reason u = record {
    group = u.group;
    among = Contains-append_right (plain_group schema e ∷ []) (groups_by in_order told schema e) u.group u.among;
    reason_is = u.reason_is;
    fails = u.fails;
  }

  found : is_plain_change schema change ≡ false → (reason : Reason) → Threatened schema change reason → AsksUnmet schema tape change reason (plain_group schema e ∷ groups_by in_order told schema e)
  found unplain reasons.Plain threat = apart (is_plain_change schema change) threat unplain
  found unplain (reasons.Unique n) threat = behind_plain (reasons.Unique n) (asks Unique n (0, omega arith, refl) threat)
  found unplain (reasons.Child n) threat = behind_plain (reasons.Child n) (asks Child n (1, omega arith, refl) threat)
  found unplain (reasons.Parent n) threat = behind_plain (reasons.Parent n) (asks Parent n (2, omega arith, refl) threat)
  found unplain (reasons.Check n) threat = behind_plain (reasons.Check n) (asks Checked n (3, omega arith, refl) threat)
  found unplain (reasons.List n) threat = behind_plain (reasons.List n) (asks Listed n (4, omega arith, refl) threat)

  nothing_plain : atoms_of.is_plain_change (slice_get schema e.table) e ≡ false → Meant (plain_group schema e)
  nothing_plain unplain fails = absurd (fails (subst (λ b. AreMet schema tape (never_where b)) (sym unplain) (All-nil (IsMetOn schema tape))))

  groups_judged : is_plain_change schema change ≡ false → atoms_of.is_plain_change (slice_get schema e.table) e ≡ false → JudgeGroups schema tape change (groups told schema e)
  groups_judged unplain same = subst (JudgeGroups schema tape change) (sym (groups_are told schema e)) (record {
    ordered = all_ordered told schema e is.accepted.invariants;
    means = All-cons Meant (plain_group schema e) (groups_by in_order told schema e) (nothing_plain same) all_meant;
    found = found unplain;
  })

  unplain_decides : (place : ℕ) → is_plain_change schema change ≡ false → atoms_of.is_plain_change (slice_get schema e.table) e ≡ false → Decide schema change tape (atoms told schema e place)
  unplain_decides place unplain same =
      judged schema change tape (flat_map (group_atoms place) (groups told schema e)) (judged_groups schema tape change place (groups told schema e) (groups_judged unplain same))

-- ---- a plain change

abbrev plain_only : ℕ → List Atom
plain_only place = atom_by place reasons.Plain Never ∷ []

plain_atoms : (told : Gain) (schema : List Declaration) (e : SymEffect) (place : ℕ) → atoms_of.is_plain_change (slice_get schema e.table) e ≡ true → atoms told schema e place ≡ plain_only place
plain_atoms told schema e place plain =
    ap (λ gs. to_never (flat_map (group_atoms place) gs)) (groups_are told schema e)
    ∙ ap (λ b. to_never (flat_map (group_atoms place) (record { reason = reasons.Plain; asked = never_where b } ∷ groups_by in_order told schema e))) plain

plain_first : (schema : List Declaration) (change : Effect) → is_plain_change schema change ≡ true → IsReason schema change reasons.Plain
plain_first schema change plain = record { threatened = plain; first = λ other threat sooner. before_plain other sooner }

plain_decided : (schema : List Declaration) (change : Effect) (tape : List Val) (place : ℕ) → is_plain_change schema change ≡ true → Decide schema change tape (plain_only place)
plain_decided schema change tape place plain = record {
  each = λ reason upto. (λ met. absurd (none_met reason upto met), λ safe. absurd (safe (threatened reason upto)));
  safe = λ met. absurd (All-head (λ (a : Atom). IsMetOn schema tape a.test) (atom_by place reasons.Plain Never) [] met);
  first = λ before after a is met fails. subst (IsReason schema change) (its_reason before after a is) (plain_first schema change plain);
}
  where
    same : (reason : Reason) → IsUpTo reason (plain_only place) → reasons.Plain ≡ reason
    same reason upto =
        equal_reasons reasons.Plain reason (All-head (λ (a : Atom). atoms_of.is_never a.test ≡ true → IsBefore a.reason reason → ⊥) (atom_by place reasons.Plain Never) [] upto refl) (before_plain reason)

    none_met : (reason : Reason) → IsUpTo reason (plain_only place) → All (λ (a : Atom). a.reason ≡ reason → IsMetOn schema tape a.test) (plain_only place) → ⊥
    none_met reason upto met = All-head (λ (a : Atom). a.reason ≡ reason → IsMetOn schema tape a.test) (atom_by place reasons.Plain Never) [] met (same reason upto)

    threatened : (reason : Reason) → IsUpTo reason (plain_only place) → Threatened schema change reason
    threatened reason upto = subst (Threatened schema change) (same reason upto) plain

    its_reason : (before after : List Atom) (a : Atom) → plain_only place ≡ before ++ a ∷ after → reasons.Plain ≡ a.reason
    its_reason before after a is =
        ap (λ (x : Atom). x.reason) (alone (atom_by place reasons.Plain Never) a (subst (λ xs. Contains xs a) (sym is) (Contains-append_right before (a ∷ after) a (here a after))))

-- ---- any change

pub atoms_decide : AtomsDecide
atoms_decide schema change tape e told place accepted fits right stands = by (is_plain_change schema change) refl
  where
    same : atoms_of.is_plain_change (slice_get schema e.table) e ≡ is_plain_change schema change
    same = plain_change schema fits.table tape e change fits.declared stands

    by : (b : Bool) → is_plain_change schema change ≡ b → Decide schema change tape (atoms told schema e place)
    by true plain = subst (Decide schema change tape) (sym (plain_atoms told schema e place (same ∙ plain))) (plain_decided schema change tape place plain)
    by false unplain = unplain_decides schema change tape e told (record {
      accepted = accepted;
      fits = fits;
      unplain = unplain_in fits.table change (sym (plain_in schema fits.table change fits.declared) ∙ unplain);
      right = right;
      stands = stands;
    }) place unplain (same ∙ unplain)
