-- A walk from key to key gives the present keys.
use Rattle.std.proofs.Common.{◌≡◌, ◌≢◌, ℕ, Bool, true, false, cond, ◌&&◌, ◌==◌, List, [], ◌∷◌, ◌++◌, Option, Some, None, refl, sym, ap, subst, ◌∙◌, arith, T, append-nil, append_assoc}
use Rattle.std.proofs.lemmas.Bool.Decides.{nat_tests}
use Rattle.std.specs.declared.cmp.Ordering.{Ordering}
use Rattle.std.specs.declared.cmp.Ordering.TheVariants.{Less, Equal, Greater}
use Rattle.std.specs.Ordering.{ordering_reverse, is_lt, is_eq}
use Rattle.std.specs.FinMap.{find, is_sorted, entries, entries_sorted, get-entries}
use Rattle.std.specs.FinMap.Entries.{below_all}
use Rattle.sv_value.specs.declared.values.Key.{Key}
use Rattle.sv_value.specs.Orders.{key_cmp}
use Rattle.sv_value.proofs.OrderLaws.{key_total, exact_keys}
use Rattle.sv_app.specs.declared.places.Place.{Place}
use Rattle.sv_app.specs.Tables.{place_cmp, Row, Tables}
use Rattle.sv_app.proofs.PlaceLaws.{place_total}
use Rattle.sv_effect.specs.Agrees.{place_at, seen_in, is_present, is_after, IsNextKey}
use Rattle.sv_effect.specs.Faces.{Face}
use Rattle.sv_effect.specs.Follows.{Follows}
use Rattle.sv_effect.specs.Reads.{ReadValue}
use Rattle.sv_effect.specs.Run.{keys_among, present_keys}
use Rattle.sv_effect.proofs.FollowLaws as follow
use Rattle.sv_effect.specs.Keys.{Walks, Walked}

clash : {P : Type 0} (b : Bool) → b ≡ true → b ≡ false → P
clash b h k = cc

pub less_of : (o : Ordering) → is_lt o ≡ true → o ≡ Less
less_of Less h = refl
less_of Equal h = cc
less_of Greater h = cc

-- the other way round
pub above_of : (a b : Key) → key_cmp a b ≡ Less → key_cmp b a ≡ Greater
above_of a b h = key_total.antisymm b a ∙ ap ordering_reverse h

pub below_of : (a b : Key) → key_cmp a b ≡ Greater → key_cmp b a ≡ Less
below_of a b h = key_total.antisymm b a ∙ ap ordering_reverse h

pub self_of : (k : Key) (o : Ordering) → key_cmp k k ≡ o → key_cmp k k ≡ Equal
self_of k Less h = let g = above_of k k h in cc
self_of k Equal h = h
self_of k Greater h = let g = below_of k k h in cc

pub lt_trans : (a b c : Key) → is_lt (key_cmp a b) ≡ true → is_lt (key_cmp b c) ≡ true → is_lt (key_cmp a c) ≡ true
lt_trans a b c h k = ap is_lt (key_total.trans a b c (less_of _ h) (less_of _ k))

least : (a b : Key) (o : Ordering) → key_cmp a b ≡ o → (is_lt (key_cmp a b) ≡ true → ⊥) → (is_lt (key_cmp b a) ≡ true → ⊥) → a ≡ b
least a b Less e f g = absurd (f (ap is_lt e))
least a b Equal e f g = exact_keys a b e
least a b Greater e f g = absurd (g (ap is_lt (below_of a b e)))

pub later : (o : Option Key) (a b : Key) → is_after o a ≡ true → is_lt (key_cmp a b) ≡ true → is_after o b ≡ true
later None a b h l = refl
later (Some j) a b h l = lt_trans j a b h l

-- two walks give the same keys
pub same_walk : (p : Key → Bool) (after : Option Key) (xs ys : List Key) → Walks p after xs → Walks p after ys → xs ≡ ys
same_walk p after [] [] h k = refl
same_walk p after [] (y ∷ ys) h k = clash (p y) k.0.1 (h y k.0.0)
same_walk p after (x ∷ xs) [] h k = clash (p x) h.0.1 (k x h.0.0)
same_walk p after (x ∷ xs) (y ∷ ys) h k =
    let is : x ≡ y = least x y _ refl (λ l. clash (p x) h.0.1 (k.0.2 x h.0.0 l)) (λ l. clash (p y) k.0.1 (h.0.2 y k.0.0 l)) in
    let k' = subst (λ z. Walks p (Some z) ys) (sym is) k.1 in
    ap (λ l. x ∷ l) (same_walk p (Some x) xs ys h.1 k') ∙ ap (λ z. z ∷ ys) is

-- a walk speaks of the keys after its start alone
pub walk_along : (p q : Key → Bool) (after : Option Key) (xs : List Key) → ((k : Key) → is_after after k ≡ true → p k ≡ q k) → Walks p after xs → Walks q after xs
walk_along p q after [] same h = λ k a. sym (same k a) ∙ h k a
walk_along p q after (x ∷ xs) same h = (
  (h.0.0, sym (same x h.0.0) ∙ h.0.1, λ k a l. sym (same k a) ∙ h.0.2 k a l),
  walk_along p q (Some x) xs (λ k l. same k (later after x k h.0.0 l)) h.1,
)

walk_from : (p : Key → Bool) (j : Key) (xs : List Key) → ((k : Key) → p k ≡ true → is_lt (key_cmp j k) ≡ true) → Walks p None xs → Walks p (Some j) xs
walk_from p j [] far h = λ k a. h k refl
walk_from p j (x ∷ xs) far h = ((far x h.0.1, h.0.1, λ k a l. h.0.2 k refl l), h.1)

abbrev pub found : ℕ → List (Place × Row) → Key → Bool
found table es k = (seen_in (find place_cmp (place_at table k) es)).present

abbrev chosen_by : Ordering → Bool → Bool → Bool
chosen_by Less a b = false
chosen_by Equal a b = a
chosen_by Greater a b = b

both_first : (a b : Bool) → T (a && b) → T a
both_first true b h = tt
both_first false b h = absurd h

both_second : (a b : Bool) → T (a && b) → T b
both_second true b h = h
both_second false b h = absurd h

lower : (o : Ordering) → T (is_lt o) → o ≡ Less
lower Less h = refl
lower Equal h = absurd h
lower Greater h = absurd h

-- nothing is found at or before a place that stands before all entries
none_early : (q x : Place) (es : List (Place × Row)) (o : Ordering) → place_cmp q x ≡ o → o ≢ Greater → T (below_all place_cmp x es) → find place_cmp q es ≡ None
none_early q x [] o e d b = refl
none_early q x (f ∷ es) o e d b =
    let x_f : place_cmp x f.0 ≡ Less = lower _ (both_first _ _ b) in
    let q_f : place_cmp q f.0 ≡ Less = earlier o e d x_f in
    ap (λ r. cond (is_eq r) (Some f.1) (find place_cmp q es)) q_f ∙ none_early q x es o e d (both_second _ _ b)
  where
    earlier : (o : Ordering) → place_cmp q x ≡ o → o ≢ Greater → place_cmp x f.0 ≡ Less → place_cmp q f.0 ≡ Less
    earlier Less e d l = place_total.trans q x f.0 e l
    earlier Equal e d l = place_total.congr q x f.0 e ∙ l
    earlier Greater e d l = absurd (d refl)

-- where an entry stands before the others
found_first : (table : ℕ) (e : Place × Row) (es : List (Place × Row)) (k : Key) (o : Ordering) → place_cmp (place_at table k) e.0 ≡ o → T (below_all place_cmp e.0 es)
    → found table (e ∷ es) k ≡ chosen_by o e.1.present (found table es k)
found_first table e es k Less h b = ap (λ r. (seen_in (cond (is_eq r) (Some e.1) (find place_cmp (place_at table k) es))).present) h ∙ ap (λ r. (seen_in r).present) (none_early (place_at table k) e.0 es Less h (λ c. cc) b)
found_first table e es k Equal h b = ap (λ r. (seen_in (cond (is_eq r) (Some e.1) (find place_cmp (place_at table k) es))).present) h
found_first table e es k Greater h b = ap (λ r. (seen_in (cond (is_eq r) (Some e.1) (find place_cmp (place_at table k) es))).present) h

-- and what the others have there
found_rest : (table : ℕ) (e : Place × Row) (es : List (Place × Row)) (k : Key) (o : Ordering) → place_cmp (place_at table k) e.0 ≡ o → T (below_all place_cmp e.0 es)
    → found table es k ≡ chosen_by o false (found table es k)
found_rest table e es k Less h b = ap (λ r. (seen_in r).present) (none_early (place_at table k) e.0 es Less h (λ c. cc) b)
found_rest table e es k Equal h b = ap (λ r. (seen_in r).present) (none_early (place_at table k) e.0 es Equal h (λ c. cc) b)
found_rest table e es k Greater h b = refl

-- the order of two places of one table is that of their keys
pub in_table : (table : ℕ) (k : Key) (f : Place) → (table == f.table) ≡ true → place_cmp (place_at table k) f ≡ key_cmp k f.key
in_table table k f h = grind (arith, nat_tests)

-- no key of another table ties
pub other_table : (table : ℕ) (k : Key) (f : Place) → (table == f.table) ≡ false → place_cmp (place_at table k) f ≢ Equal
other_table table k f h e = grind (arith, nat_tests)

absent_same : (o : Ordering) (b c : Bool) → o ≢ Equal → b ≡ chosen_by o false b → chosen_by o c b ≡ b
absent_same Less b c n h = sym h
absent_same Equal b c n h = absurd (n refl)
absent_same Greater b c n h = refl

at_key : (k : Key) (b : Bool) → chosen_by (key_cmp k k) true b ≡ true
at_key k b = ap (λ o. chosen_by o true b) (self_of k _ refl)

below_key : (k j : Key) (b : Bool) → is_lt (key_cmp k j) ≡ true → chosen_by (key_cmp k j) true b ≡ false
below_key k j b l = ap (λ o. chosen_by o true b) (less_of _ l)

above_key : (k j : Key) (b c : Bool) → is_lt (key_cmp j k) ≡ true → chosen_by (key_cmp k j) c b ≡ b
above_key k j b c l = ap (λ o. chosen_by o c b) (above_of j k (less_of _ l))

far : (k j : Key) (b : Bool) (o : Ordering) → key_cmp k j ≡ o → b ≡ true → b ≡ chosen_by o false b → is_lt (key_cmp j k) ≡ true
far k j b Less e p h = clash b p h
far k j b Equal e p h = clash b p h
far k j b Greater e p h = ap is_lt (below_of k j e)

-- the keys among entries in order are a walk
pub keys_walk : (table : ℕ) (es : List (Place × Row)) → T (is_sorted place_cmp es) → Walks (found table es) None (keys_among table es)
keys_walk table [] s = λ k a. refl
keys_walk table (e ∷ es) s =
    let below = both_first _ _ s in
    let more = keys_walk table es (both_second _ _ s) in
    elim (table == e.0.table) as (λ b. (table == e.0.table) ≡ b → Walks (found table (e ∷ es)) None (cond (b && e.1.present) (e.0.key ∷ keys_among table es) (keys_among table es))) [
      | false ↦ λ h. walk_along (found table es) (found table (e ∷ es)) None (keys_among table es)
          (λ k a. sym (found_first table e es k _ refl below ∙ absent_same (place_cmp (place_at table k) e.0) (found table es k) e.1.present (other_table table k e.0 h) (found_rest table e es k _ refl below))) more
      | true ↦ λ h. elim (e.1.present) as (λ c. e.1.present ≡ c → Walks (found table (e ∷ es)) None (cond c (e.0.key ∷ keys_among table es) (keys_among table es))) [
        | false ↦ λ g. walk_along (found table es) (found table (e ∷ es)) None (keys_among table es)
            (λ k a. found_rest table e es k _ refl below ∙ ap (λ c. chosen_by (place_cmp (place_at table k) e.0) c (found table es k)) (sym g) ∙ sym (found_first table e es k _ refl below)) more
        | true ↦ λ g.
            let first : (k : Key) → found table (e ∷ es) k ≡ chosen_by (key_cmp k e.0.key) true (found table es k) = λ k.
            found_first table e es k _ (in_table table k e.0 h) below ∙ ap (λ c. chosen_by (key_cmp k e.0.key) c (found table es k)) g in
            let rest : (k : Key) → found table es k ≡ chosen_by (key_cmp k e.0.key) false (found table es k) = λ k.
            found_rest table e es k _ (in_table table k e.0 h) below in (
              (refl, first e.0.key ∙ at_key e.0.key (found table es e.0.key), λ k a l. first k ∙ below_key k e.0.key (found table es k) l),
              walk_along (found table es) (found table (e ∷ es)) (Some e.0.key) (keys_among table es)
                  (λ k l. sym (first k ∙ above_key k e.0.key (found table es k) true l))
                  (walk_from (found table es) e.0.key (keys_among table es) (λ k p. far k e.0.key (found table es k) _ refl p (rest k)) more),
            )
      ] refl
    ] refl

-- a walk over tables gives the keys of the present rows
pub walk_keys : (t : Tables) (table : ℕ) (ks : List Key) → Walks (is_present t table) None ks → ks ≡ present_keys t table
walk_keys t table ks h =
    same_walk (is_present t table) None ks (present_keys t table) h
    (walk_along (found table (entries t)) (is_present t table) None (present_keys t table)
    (λ k a. ap (λ o. (seen_in o).present) (sym (get-entries t (place_at table k)))) (keys_walk table (entries t) (entries_sorted t)))

-- Keys were walked from one to the next up to a key, and put at the end: a walk that goes on from that key is one with them before it.
pub record WalkedTo (face_before face_now : Face) (before now : Option (List ReadValue)) (table : ℕ) (after to : Option Key) (old new : List Key) : Type 0 where
  pub keys : List Key
  pub grown : new ≡ old ++ keys
  pub ran : Follows face_before face_now before now (λ t. (more : List Key) → Walks (is_present t table) to more → Walks (is_present t table) after (keys ++ more))

pub walk_starts : (o n : Face) (a b : Option (List ReadValue)) (table : ℕ) (after : Option Key) (old new : List Key) → n ≡ o → b ≡ a → new ≡ old → WalkedTo o n a b table after after old new
walk_starts o n a b table after old new same stands e = record { keys = []; grown = e ∙ sym (append-nil old); ran = follow.quiet o n a b _ same stands (λ t more walk. walk) }

pub walk_goes : (o m n : Face) (a b c : Option (List ReadValue)) (table : ℕ) (after to next : Option Key) (k : Key) (old mid new : List Key)
    → WalkedTo o m a b table after to old mid → Follows m n b c (λ t. IsNextKey t table to next) → next ≡ Some k → new ≡ mid ++ k ∷ [] → WalkedTo o n a c table after (Some k) old new
walk_goes o m n a b c table after to next k old mid new g f e i = record {
  keys = g.keys ++ k ∷ [];
  grown = i ∙ ap (λ l. l ++ k ∷ []) g.grown ∙ append_assoc old g.keys (k ∷ []);
  ran = follow.next_to o m n a b c _ _ _ g.ran f (λ t walked is more walk.
      subst (Walks (is_present t table) after) (sym (append_assoc g.keys (k ∷ []) more)) (walked (k ∷ more) (subst (λ x. IsNextKey t table to x) e is, walk)));
}

pub walk_ends : (o m n : Face) (a b c : Option (List ReadValue)) (table : ℕ) (after to next : Option Key) (old new : List Key)
    → WalkedTo o m a b table after to old new → Follows m n b c (λ t. IsNextKey t table to next) → next ≡ None → Walked o n a c table after old new
walk_ends o m n a b c table after to next old new g f e = record {
  keys = g.keys;
  grown = g.grown;
  ran = follow.next_to o m n a b c _ _ _ g.ran f (λ t walked is. subst (Walks (is_present t table) after) (append-nil g.keys) (walked [] (subst (λ x. IsNextKey t table to x) e is)));
}

pub ruleset walking = (walk_starts, walk_goes, walk_ends)
