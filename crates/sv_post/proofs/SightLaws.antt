-- What a pass has of the post that made it, and what it keeps when it has seen more.
use Rattle.std.proofs.Common.{◌≡◌, ◌≢◌, ◌⊎◌, inl, inr, ⊎_elim, ℕ, zero, suc, ◌+◌, ◌-◌, ◌<◌, ◌≤◌, List, [], ◌∷◌, ◌++◌, drop, length, length-append, Option, Some, None, set, get_or, slice_get, replicate, refl, sym, ap, ◌∙◌, subst, arith}
use Rattle.std.specs.Prelude.{◌==◌, true, false}
use Rattle.std.proofs.Math.Seq.{drop-cons, drop-length}
use Rattle.std.proofs.lemmas.Bool.Decides.{eqb_tells}
use Rattle.std.proofs.lemmas.Option.{slice_get-get_or, get_or_from_slice_get, slice_get_cases}
use Rattle.std.proofs.lemmas.List.{get_or-set_same, get_or-set_other, length-set}
use Rattle.atomic_table.specs.Seated.{TableId}
use Rattle.sv_hub.specs.Extends.{Extends}
use Rattle.sv_hub.proofs.ExtendsLaws.{extends_same, extends_trans}
use Rattle.sv_post.specs.Sight.{LaneSight, PassSight, IsLaneOf, Belongs, IsLater, IsUnseen, seen_in, seen_of, with_lane, with_seen}

-- what stands at a place stands there whatever is taken where nothing stands
there : {A : Type 0} (xs : List A) (place : ℕ) (d e x : A) → place < length xs → get_or xs place d ≡ x → get_or xs place e ≡ x
there xs place d e x within is = get_or_from_slice_get xs place x e (slice_get-get_or xs place d within ∙ ap Some is)

lane_is : (table : Option TableId) (lane : LaneSight) → IsLaneOf table (Some lane) → table ≡ Some lane.table
lane_is None lane is = absurd is
lane_is (Some table) lane is = ap Some (sym is)

no_lane : (table : Option TableId) → IsLaneOf table None → table ≡ None
no_lane None is = refl
no_lane (Some table) is = absurd is

same_lane : (table : Option TableId) (lane after : LaneSight) → after.table ≡ lane.table → IsLaneOf table (Some lane) → IsLaneOf table (Some after)
same_lane None lane after same is = absurd is
same_lane (Some table) lane after same is = same ∙ is

missing : {A X : Type 0} {o : Option A} {a : A} → o ≡ Some a → o ≡ None → X
missing p q = absurd (cc)

module _ {post : List TableId} {pass : PassSight} (own : Belongs post pass) where
  lane_here : (place : ℕ) (d lane : Option LaneSight) → place < length pass → get_or pass place d ≡ lane → IsLaneOf (slice_get post place) lane
  lane_here place d lane within is = subst (IsLaneOf (slice_get post place)) (there pass place d None lane within is) (own.lanes place)

  -- where the pass has a lane, the post has its mailbox
  pub table_at : (place : ℕ) (d : Option LaneSight) (lane : LaneSight) → place < length pass → get_or pass place d ≡ Some lane → slice_get post place ≡ Some lane.table
  table_at place d lane within is = lane_is (slice_get post place) lane (lane_here place d (Some lane) within is)

  -- for each mailbox of the post there is a lane
  pub lane_at : {X : Type 0} (place : ℕ) (d : Option LaneSight) → place < length post → place < length pass → get_or pass place d ≡ None → X
  lane_at {X} place d has within is =
      ⊎_elim
      (λ (x : (t : TableId) × (place < length post) × (slice_get post place ≡ Some t) × (get_or post place t ≡ t)). missing {X = X} x.2 (no_lane (slice_get post place) (lane_here place d None within is)))
      (λ (past : (length post ≤ place) × (slice_get post place ≡ None)). absurd (omega (arith, past.0)))
      (slice_get_cases post place).1

  -- the pass is the post's still, when a lane knows more of the same mailbox
  pub set_lane : (place : ℕ) (d : Option LaneSight) (lane after : LaneSight) → place < length pass → get_or pass place d ≡ Some lane → after.table ≡ lane.table → Belongs post (set pass place (Some after))
  set_lane place d lane after within is same = record { lanes = λ other. by other (eqb_tells other place) }
    where
      by : (other : ℕ) → ((other == place ≡ true) × (other ≡ place)) ⊎ ((other == place ≡ false) × (other ≢ place)) → IsLaneOf (slice_get post other) (get_or (set pass place (Some after)) other None)
      by other (inl here) =
          subst (λ o. IsLaneOf (slice_get post o) (get_or (set pass place (Some after)) o None)) (sym here.1)
          (subst (IsLaneOf (slice_get post place)) (sym (get_or-set_same pass place (Some after) None within)) (same_lane (slice_get post place) lane after same (lane_here place d (Some lane) within is)))
      by other (inr apart) = subst (IsLaneOf (slice_get post other)) (sym (get_or-set_other pass place other (Some after) None apart.1)) (own.lanes other)

-- a lane that is set is what was seen
pub set_seen : (pass : PassSight) (place : ℕ) (d : Option LaneSight) (lane after : LaneSight) → place < length pass → get_or pass place d ≡ Some lane → after.table ≡ lane.table
    → (site : ℕ) → site - 1 ≡ place → (seen_of (set pass place (Some after)) site ≡ after.seen) × (set pass place (Some after) ≡ with_seen pass site after.seen)
set_seen pass place d lane after within is same site at = (
  ap (λ p. seen_in (get_or (set pass place (Some after)) p None)) at ∙ ap seen_in (get_or-set_same pass place (Some after) None within),
  sym (ap (λ p. set pass p (with_lane (get_or pass p None) after.seen)) at ∙ ap (λ l. set pass place (with_lane l after.seen)) (there pass place d None (Some lane) within is)
      ∙ ap (λ t. set pass place (Some (record { table = t; seen = after.seen }))) (sym same)),
)

-- what was seen of a site, where there is a lane
pub seen_at : (pass : PassSight) (place : ℕ) (d : Option LaneSight) (lane : LaneSight) → place < length pass → get_or pass place d ≡ Some lane → (site : ℕ) → site - 1 ≡ place → seen_of pass site ≡ lane.seen
seen_at pass place d lane within is site at = ap (λ p. seen_in (get_or pass p None)) at ∙ ap seen_in (there pass place d None (Some lane) within is)

pub later_same : (pass : PassSight) → IsLater pass pass
later_same pass = record { lanes = λ site. extends_same (seen_of pass site) }

pub later_trans : {a b c : PassSight} → IsLater a b → IsLater b c → IsLater a c
later_trans p q = record { lanes = λ site. extends_trans (q.lanes site) (p.lanes site) }

-- who saw more of one mailbox saw more, and of another what it had seen
pub later_one : (pass : PassSight) (place : ℕ) (d : Option LaneSight) (lane after : LaneSight) → place < length pass → get_or pass place d ≡ Some lane → Extends after.seen lane.seen → IsLater pass (set pass place (Some after))
later_one pass place d lane after within is e = record { lanes = λ site. by (site - 1) (eqb_tells (site - 1) place) }
  where
    by : (other : ℕ) → ((other == place ≡ true) × (other ≡ place)) ⊎ ((other == place ≡ false) × (other ≢ place)) → Extends (seen_in (get_or (set pass place (Some after)) other None)) (seen_in (get_or pass other None))
    by other (inl here) =
        subst (λ o. Extends (seen_in (get_or (set pass place (Some after)) o None)) (seen_in (get_or pass o None))) (sym here.1)
        (subst (λ l. Extends (seen_in l) (seen_in (get_or pass place None))) (sym (get_or-set_same pass place (Some after) None within))
        (subst (λ l. Extends after.seen (seen_in l)) (sym (there pass place d None (Some lane) within is)) e))
    by other (inr apart) = subst (λ l. Extends (seen_in l) (seen_in (get_or pass other None))) (sym (get_or-set_other pass place other (Some after) None apart.1)) (extends_same (seen_in (get_or pass other None)))

pub seen_else : (pass : PassSight) (place site : ℕ) (after : LaneSight) → site - 1 ≢ place → seen_of (set pass place (Some after)) site ≡ seen_of pass site
seen_else pass place site after apart = ap seen_in (get_or-set_other pass place (site - 1) (Some after) None apart)

-- a post that is being made: so many mailboxes stand, and their lanes, which have seen nothing
pub record IsMaking (many : ℕ) (post : List TableId) (pass : PassSight) : Type 0 where
  pub own : Belongs post pass
  pub unseen : IsUnseen pass
  pub many_are : length post ≡ many
  pub long : length pass ≡ 8

none_at : (many place : ℕ) → get_or {A = Option LaneSight} (replicate many None) place None ≡ None
none_at zero place = refl
none_at (suc many) zero = refl
none_at (suc many) (suc place) = none_at many place

pub making_none : IsMaking 0 [] (None ∷ None ∷ None ∷ None ∷ None ∷ None ∷ None ∷ None ∷ [])
making_none = record {
  own = record { lanes = λ place. subst (IsLaneOf None) (sym (none_at 8 place)) tt };
  unseen = record { lanes = λ site. ap seen_in (none_at 8 (site - 1)) };
  many_are = refl;
  long = refl;
}

get_grown : (post : List TableId) (table : TableId) (place : ℕ) → place ≢ length post → slice_get (post ++ table ∷ []) place ≡ slice_get post place
get_grown [] table zero apart = absurd (apart refl)
get_grown [] table (suc place) apart = refl
get_grown (x ∷ post) table zero apart = refl
get_grown (x ∷ post) table (suc place) apart = get_grown post table place (λ e. apart (ap suc e))

get_last : (post : List TableId) (table : TableId) → slice_get (post ++ table ∷ []) (length post) ≡ Some table
get_last [] table = refl
get_last (x ∷ post) table = get_last post table

pub making_more : (many : ℕ) (post : List TableId) (pass : PassSight) (table : TableId) (lane : LaneSight) → many < 8 → lane ≡ record { table = table; seen = [] } → IsMaking many post pass
    → IsMaking (many + 1) (post ++ table ∷ []) (set pass many (Some lane))
making_more many post pass table lane within is making = record {
  own = record { lanes = λ other. by other (eqb_tells other many) };
  unseen = record { lanes = λ site. unseen (site - 1) site refl (eqb_tells (site - 1) many) };
  many_are = omega (arith, length-append post (table ∷ []), making.many_are);
  long = length-set pass many (Some lane) ∙ making.long;
}
  where
    there_is : get_or (set pass many (Some lane)) many None ≡ Some lane
    there_is = get_or-set_same pass many (Some lane) None (omega (arith, making.long))

    by : (other : ℕ) → ((other == many ≡ true) × (other ≡ many)) ⊎ ((other == many ≡ false) × (other ≢ many)) → IsLaneOf (slice_get (post ++ table ∷ []) other) (get_or (set pass many (Some lane)) other None)
    by other (inl here) =
        subst (λ o. IsLaneOf (slice_get (post ++ table ∷ []) o) (get_or (set pass many (Some lane)) o None)) (sym here.1)
        (subst (λ l. IsLaneOf (slice_get (post ++ table ∷ []) many) l) (sym there_is)
        (subst (λ t. IsLaneOf t (Some lane)) (sym (ap (slice_get (post ++ table ∷ [])) (sym making.many_are) ∙ get_last post table)) (ap (λ l. l.table) is)))
    by other (inr apart) =
        subst (λ t. IsLaneOf t (get_or (set pass many (Some lane)) other None)) (sym (get_grown post table other (λ e. apart.1 (e ∙ making.many_are))))
        (subst (IsLaneOf (slice_get post other)) (sym (get_or-set_other pass many other (Some lane) None apart.1)) (making.own.lanes other))

    unseen : (other site : ℕ) → site - 1 ≡ other → ((other == many ≡ true) × (other ≡ many)) ⊎ ((other == many ≡ false) × (other ≢ many)) → seen_in (get_or (set pass many (Some lane)) other None) ≡ []
    unseen other site at (inl here) = ap (λ o. seen_in (get_or (set pass many (Some lane)) o None)) here.1 ∙ ap seen_in there_is ∙ ap (λ l. l.seen) is
    unseen other site at (inr apart) =
        ap seen_in (get_or-set_other pass many other (Some lane) None apart.1) ∙ ap (λ o. seen_in (get_or pass o None)) (sym at) ∙ making.unseen.lanes site

-- eight elements that are read one after the other are the list
pub eight : {A : Type 0} (xs : List A) (d : A) → length xs ≡ 8
    → get_or xs 0 d ∷ get_or xs 1 d ∷ get_or xs 2 d ∷ get_or xs 3 d ∷ get_or xs 4 d ∷ get_or xs 5 d ∷ get_or xs 6 d ∷ get_or xs 7 d ∷ [] ≡ xs
eight xs d long =
    ap (λ l. get_or xs 0 d ∷ get_or xs 1 d ∷ get_or xs 2 d ∷ get_or xs 3 d ∷ get_or xs 4 d ∷ get_or xs 5 d ∷ get_or xs 6 d ∷ get_or xs 7 d ∷ l) (sym (ap (λ n. drop n xs) (sym long) ∙ drop-length xs))
    ∙ ap (λ l. get_or xs 0 d ∷ get_or xs 1 d ∷ get_or xs 2 d ∷ get_or xs 3 d ∷ get_or xs 4 d ∷ get_or xs 5 d ∷ get_or xs 6 d ∷ l) (at 7 (omega arith))
    ∙ ap (λ l. get_or xs 0 d ∷ get_or xs 1 d ∷ get_or xs 2 d ∷ get_or xs 3 d ∷ get_or xs 4 d ∷ get_or xs 5 d ∷ l) (at 6 (omega arith))
    ∙ ap (λ l. get_or xs 0 d ∷ get_or xs 1 d ∷ get_or xs 2 d ∷ get_or xs 3 d ∷ get_or xs 4 d ∷ l) (at 5 (omega arith))
    ∙ ap (λ l. get_or xs 0 d ∷ get_or xs 1 d ∷ get_or xs 2 d ∷ get_or xs 3 d ∷ l) (at 4 (omega arith))
    ∙ ap (λ l. get_or xs 0 d ∷ get_or xs 1 d ∷ get_or xs 2 d ∷ l) (at 3 (omega arith))
    ∙ ap (λ l. get_or xs 0 d ∷ get_or xs 1 d ∷ l) (at 2 (omega arith))
    ∙ ap (λ l. get_or xs 0 d ∷ l) (at 1 (omega arith))
    ∙ at 0 (omega arith)
  where
    at : (k : ℕ) → k < 8 → get_or xs k d ∷ drop (suc k) xs ≡ drop k xs
    at k less = sym (drop-cons xs k d (omega (arith, long)))
