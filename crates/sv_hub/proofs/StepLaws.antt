-- Each step keeps the rule of the turn.
use Rattle.std.proofs.Common.{◌≡◌, ◌≢◌, ◌⊎◌, inl, inr, ⊎_elim, ℕ, List, [], ◌∷◌, ◌++◌, set, Option, Some, None, Bool, true, false, true≢false, refl, sym, ap, ◌∙◌, subst, arith}
use Rattle.std.specs.Prelude.{slice_index, ◌==◌}
use mathlib.Core.Option.{some, none, some-injective}
use lib.ListN.{get_elem?}
use prog.Atomic.{either}
use Rattle.atomic_table.specs.Table.{State, Me, Act, keeps, takes, gives, step, stepped, carried_after, Valid, Allows, Splits, Joins, opening}
use Rattle.atomic_table.proofs.Lists.{set_else, at_longer}
use Rattle.sv_hub.specs.declared.views.View.{View}
use Rattle.sv_hub.specs.Extends.{Extends}
use Rattle.sv_hub.specs.Views.{knowing, spent, holding, joining}
use Rattle.sv_hub.specs.Turns.{Knows, IsFree, IsHeld, IsKept}
use Rattle.sv_hub.specs.Steps.{Takes, Gives, Looks}
use Rattle.sv_hub.proofs.ExtendsLaws.{extends_same, extends_nil, extends_trans, longer_is}
use Rattle.sv_hub.proofs.ListLaws.{set_there, each_one, each_set, each_more}

off : {X : Type 0} {b : Bool} → b ≡ false → b ≡ true → X
off p q = absurd (true≢false (sym q ∙ p))

not_on : (b : Bool) → (b ≡ true → ⊥) → b ≡ false
not_on true h = absurd (h refl)
not_on false h = refl

module _ {N I : Type 0} where
  -- one that holds the turn and one that doesn't have two places
  two_places : (views : List (View N I)) (i j : ℕ) (u v : View N I) → get_elem? views i ≡ some u → u.holds ≡ true → get_elem? views j ≡ some v → v.holds ≡ false → i ≢ j
  two_places views i j u v p on q idle e =
      let same : u ≡ v = some-injective _ _ (sym p ∙ ap (get_elem? views) e ∙ q) in off idle (sym (ap (λ (w : View N I). w.holds) same) ∙ on)

  -- whoever has seen this knows a part of it, and of what comes later
  knows_all : (name : N) (past : List I) (v : View N I) → (v.name ≡ Some name) ⊎ (v.name ≡ None) → Knows name past (knowing v.name past)
  knows_all name past v named = record { named = named; seen = extends_same past; one = extends_nil past; other = extends_nil past }

  knows_later : {name : N} {past later : List I} {v : View N I} → Extends later past → Knows name past v → Knows name later v
  knows_later p k = record { named = k.named; seen = extends_trans p k.seen; one = extends_trans p k.one; other = extends_trans p k.other }

  knows_none : (name : N) (past : List I) → Knows name past spent
  knows_none name past = record { named = inr refl; seen = extends_nil past; one = extends_nil past; other = extends_nil past }

  knows_both : {name : N} {past : List I} {v w : View N I} → Knows name past v → Knows name past w → Knows name past (joining v w)
  knows_both {name} {past} {v} {w} k l = record { named = k.named; seen = (longer_is v.seen w.seen k.seen l.seen).within; one = k.seen; other = l.seen }

  -- a name that is known is the one name
  named_as : {name m : N} {past : List I} {v : View N I} → Knows name past v → v.name ≡ Some m → m ≡ name
  named_as {name} {m} {past} {v} k e = ⊎_elim (λ (p : v.name ≡ Some name). cc) (λ (p : v.name ≡ None). absurd (cc)) k.named

module _ {V N I : Type 0} (name_of : V → N) (past_of : V → List I) where
  abbrev Here : Type 0
  Here = State (Option V) (View N I)

  abbrev Kept : N → Here → Type 0
  Kept name s = IsKept name_of past_of name s

  abbrev Free : N → List I → Here → Type 0
  Free name past s = IsFree name_of past_of name past s

  abbrev Held : N → List I → Here → Type 0
  Held name past s = IsHeld name_of past_of name past s

  abbrev with_views : Here → List (View N I) → Here
  with_views s views = record { words = s.words; homes = s.homes; views = views }

  -- the two states of the word and the slot
  abbrev at_home : V → List (View N I) → Here
  at_home value views = record { words = 0 ∷ []; homes = some (Some value) ∷ []; views = views }

  abbrev away : List (View N I) → Here
  away views = record { words = 1 ∷ []; homes = none ∷ []; views = views }

  -- what is so of a table at home and of one that is away is so wherever the rule is kept
  by_turn : (P : Here → Type 0) (name : N) (s : Here) (k : Kept name s)
      → ((h : Free name k.past s) → Kept name (at_home h.value s.views) → P (at_home h.value s.views))
      → ((h : Held name k.past s) → Kept name (away s.views) → P (away s.views))
      → P s
  by_turn P name s k free held =
      ⊎_elim
      (λ (h : Free name k.past s). let is : s ≡ at_home h.value s.views = λ i. record { words = h.words i; homes = h.homes i; views = s.views } in subst P (sym is) (free h (subst (Kept name) is k)))
      (λ (h : Held name k.past s). let is : s ≡ away s.views = λ i. record { words = h.words i; homes = h.homes i; views = s.views } in subst P (sym is) (held h (subst (Kept name) is k)))
      k.turn

  -- one that doesn't hold the turn comes to know something else
  set_kept : (name : N) (s : Here) (k : Kept name s) (i : ℕ) (v w : View N I) → get_elem? s.views i ≡ some v → v.holds ≡ false → w.holds ≡ false → Knows name k.past w
      → Kept name (with_views s (set s.views i w))
  set_kept name s k i v w at was_idle idle knows = record {
    past = k.past;
    known = each_set (λ j u. Knows name k.past u) s.views i w (λ j u _ e. k.known j u e) knows;
    turn = ⊎_elim
        (λ (h : Free name k.past s). inl record {
          value = h.value;
          words = h.words;
          homes = h.homes;
          named = h.named;
          past_is = h.past_is;
          nobody = each_set (λ j u. u.holds ≡ false) s.views i w (λ j u _ e. h.nobody j u e) idle;
        })
        (λ (h : Held name k.past s). inr record {
          seat = h.seat;
          words = h.words;
          homes = h.homes;
          holder = (h.holder.0, set_else s.views i h.seat w (two_places s.views h.seat i h.holder.0 v h.holder.1 h.holder.2 at was_idle) ∙ h.holder.1, h.holder.2);
          alone = each_set (λ j u. u.holds ≡ true → (j ≡ h.seat) × (u.seen ≡ k.past)) s.views i w (λ j u _ e. h.alone j u e) (off idle);
        })
        k.turn;
  }

  -- one more comes that doesn't hold the turn
  more_kept : (name : N) (s : Here) (k : Kept name s) (w : View N I) → w.holds ≡ false → Knows name k.past w → Kept name (with_views s (s.views ++ w ∷ []))
  more_kept name s k w idle knows = record {
    past = k.past;
    known = each_more (λ j u. Knows name k.past u) s.views w k.known (λ j. knows);
    turn = ⊎_elim
        (λ (h : Free name k.past s). inl record {
          value = h.value;
          words = h.words;
          homes = h.homes;
          named = h.named;
          past_is = h.past_is;
          nobody = each_more (λ j u. u.holds ≡ false) s.views w h.nobody (λ j. idle);
        })
        (λ (h : Held name k.past s). inr record {
          seat = h.seat;
          words = h.words;
          homes = h.homes;
          holder = (h.holder.0, at_longer s.views (w ∷ []) h.seat h.holder.0 h.holder.1, h.holder.2);
          alone = each_more (λ j u. u.holds ≡ true → (j ≡ h.seat) × (u.seen ≡ k.past)) s.views w h.alone (λ j. off idle);
        })
        k.turn;
  }

  start_at : (value : V) → Kept (name_of value) (opening (0 ∷ []) (Some value ∷ []) (knowing (Some (name_of value)) (past_of value)))
  start_at value = record {
    past = past_of value;
    known = each_one (λ j v. Knows (name_of value) (past_of value) v) first (knows_all (name_of value) (past_of value) first (inl refl));
    turn = inl record { value = value; words = refl; homes = refl; named = refl; past_is = refl; nobody = each_one (λ j v. v.holds ≡ false) first refl };
  }
    where
      first : View N I
      first = knowing (Some (name_of value)) (past_of value)

  -- at the start
  pub start_keeps : (value : V) {start : V} {slots : List (Option V)} → start ≡ value → slots ≡ Some value ∷ []
      → Kept (name_of start) (opening (0 ∷ []) slots (knowing (Some (name_of start)) (past_of start)))
  start_keeps value same is =
      subst (λ (at : V × List (Option V)). Kept (name_of at.0) (opening (0 ∷ []) at.1 (knowing (Some (name_of at.0)) (past_of at.0)))) (λ i. (sym same i, sym is i)) (start_at value)

  -- what a step on the word owes, where the table is in that state
  abbrev Owes : N → ℕ → Me (Option V) (View N I) → (ℕ → ℕ) → (ℕ → Me (Option V) (View N I) → Type 0) → Here → Type 0
  Owes name id me f then s =
      (w : View N I) × (a : Act (Option V)) × Valid s.homes me.1 a × Kept name (stepped s 0 (f (slice_index s.words 0)) id me.1 w a)
      × then (slice_index s.words 0) (w, carried_after me.1 a)

  -- the turn is taken where it is free
  pub take_keeps : (name m : N) (slots id : ℕ) (v : View N I) (c : List (ℕ × Option V)) → v.holds ≡ false → v.name ≡ Some m
      → Allows (Kept name) slots id (v, c) 0 (λ n. either (n == 0) 1 n) (Takes name_of past_of (step slots 0 0 1 none) (v, c))
  take_keeps name m slots id v c idle named s k sized at small =
      let knows = k.known id v at in
      by_turn (Owes name id (v, c) (λ n. either (n == 0) 1 n) (Takes name_of past_of (step slots 0 0 1 none) (v, c))) name s k
      (λ h kept.
      let past = past_of h.value in
      let w : View N I = holding v past in (
        w,
        takes 0 (Some h.value),
        refl,
        record {
          past = k.past;
          known = each_set (λ j u. Knows name k.past u) s.views id w (λ j u _ e. k.known j u e)
              (record { named = knows.named; seen = subst (λ l. Extends k.past l) (sym h.past_is) (extends_same k.past); one = knows.one; other = knows.other });
          turn = inr record {
            seat = id;
            words = refl;
            homes = refl;
            holder = (w, set_there s.views id v w at, refl);
            alone = each_set (λ j u. u.holds ≡ true → (j ≡ id) × (u.seen ≡ k.past)) s.views id w (λ j u _ e. off (h.nobody j u e)) (λ _. (refl, h.past_is));
          };
        },
        (
          (λ _. record { value = h.value; view = refl; slot = refl; named = named ∙ ap Some (named_as knows named ∙ sym h.named); seen = subst (λ l. Extends l v.seen) (sym h.past_is) knows.seen }),
          (λ no. absurd (no refl)),
        ),
      ))
      (λ h kept. (v, keeps, tt, set_kept name (away s.views) kept id v v at idle idle (kept.known id v at), ((λ no. absurd (omega arith)), (λ _. refl))))

  give_at : (name : N) (slots id : ℕ) (v : View N I) (value : V) (c : List (ℕ × Option V)) → v.holds ≡ true → v.name ≡ Some (name_of value) → Extends (past_of value) v.seen
      → Allows (Kept name) slots id (v, (0, Some value) ∷ c) 0 (λ _. 0) (λ _. Gives past_of (step slots 0 0 0 none) (v, (0, Some value) ∷ c) 0)
  give_at name slots id v value c on named more s k sized at small =
      let knows = k.known id v at in
      let w : View N I = knowing v.name (past_of value) in
      by_turn (Owes name id (v, (0, Some value) ∷ c) (λ _. 0) (λ _. Gives past_of (step slots 0 0 0 none) (v, (0, Some value) ∷ c) 0)) name s k
      (λ h kept. off (h.nobody id v at) on)
      (λ h kept.
      let mine = h.alone id v at on in
      let grows : Extends (past_of value) k.past = subst (λ l. Extends (past_of value) l) mine.1 more in (
        w,
        gives,
        tt,
        record {
          past = past_of value;
          known = each_set (λ j u. Knows name (past_of value) u) s.views id w (λ j u _ e. knows_later grows (k.known j u e)) (knows_all name (past_of value) v knows.named);
          turn = inl record {
            value = value;
            words = refl;
            homes = refl;
            named = named_as knows named;
            past_is = refl;
            nobody = each_set (λ j u. u.holds ≡ false) s.views id w (λ j u apart e. not_on u.holds (λ t. apart ((h.alone j u e t).0 ∙ sym mine.0))) refl;
          };
        },
        (value, refl, refl, refl),
      ))

  -- the turn is given back with a value whose past extends what was found
  pub give_keeps : (name : N) (slots id : ℕ) (v : View N I) (value : V) (c : List (ℕ × Option V)) {me : Me (Option V) (View N I)} → me ≡ (v, (0, Some value) ∷ c)
      → v.holds ≡ true → v.name ≡ Some (name_of value) → Extends (past_of value) v.seen
      → Allows (Kept name) slots id me 0 (λ _. 0) (λ _. Gives past_of (step slots 0 0 0 none) me 0)
  give_keeps name slots id v value c is on named more =
      subst (λ (me : Me (Option V) (View N I)). Allows (Kept name) slots id me 0 (λ _. 0) (λ _. Gives past_of (step slots 0 0 0 none) me 0)) (sym is) (give_at name slots id v value c on named more)

  look_at : (name : N) (slots id : ℕ) (v w : View N I) (c : List (ℕ × Option V)) → v.holds ≡ false
      → Allows (Kept name) slots id (joining v w, c) 0 (λ n. n) (Looks (step slots 0 0 0 none) (joining v w, c))
  look_at name slots id v w c idle s k sized at small =
      let u : View N I = joining v w in
      let knows = k.known id u at in
      let l = longer_is v.seen w.seen knows.one knows.other in
      let tells : (found : ℕ) → Looks (step slots 0 0 0 none) (u, c) found (u, c) = λ found. record { same = refl; one = l.one; other = l.other; either = l.either } in
      by_turn (Owes name id (u, c) (λ n. n) (Looks (step slots 0 0 0 none) (u, c))) name s k
      (λ h kept. (u, keeps, tt, set_kept name (at_home h.value s.views) kept id u u at idle idle (kept.known id u at), tells 0))
      (λ h kept. (u, keeps, tt, set_kept name (away s.views) kept id u u at idle idle (kept.known id u at), tells 1))

  -- whoever put two passes together looks at the turn
  pub look_keeps : (name : N) (slots id : ℕ) (v w : View N I) (c : List (ℕ × Option V)) {me : Me (Option V) (View N I)} → me ≡ (joining v w, c) → v.holds ≡ false
      → Allows (Kept name) slots id me 0 (λ n. n) (Looks (step slots 0 0 0 none) me)
  look_keeps name slots id v w c is idle =
      subst (λ (me : Me (Option V) (View N I)). Allows (Kept name) slots id me 0 (λ n. n) (Looks (step slots 0 0 0 none) me)) (sym is) (look_at name slots id v w c idle)

  -- a pass is cut in two
  pub split_keeps : (name : N) (id : ℕ) (v : View N I) → v.holds ≡ false → Splits (Kept name) id v v v
  unfolding set_kept
  split_keeps name id v idle s k at =
      let knows = k.known id v at in
      more_kept name (with_views s (set s.views id v)) (set_kept name s k id v v at idle idle knows) v idle knows

  -- two passes become one
  pub join_keeps : (name : N) (id : ℕ) (v : View N I) (other : ℕ) (w : View N I) → v.holds ≡ false → w.holds ≡ false → Joins (Kept name) id v other w (joining v w) spent
  unfolding set_kept
  join_keeps name id v other w idle other_idle s k at apart there =
      let knows = k.known id v at in
      let their : get_elem? s.views other ≡ some w = sym (set_else s.views id other (joining v w) apart) ∙ there in
      let one = set_kept name s k id v (joining v w) at idle idle (knows_both knows (k.known other w their)) in
      set_kept name (with_views s (set s.views id (joining v w))) one other w spent there other_idle refl (knows_none name k.past)
