-- What was published, by the slots in which it stands.
use Rattle.std.proofs.Common.{◌≡◌, ◌⊎◌, inl, inr, ℕ, zero, suc, ◌+◌, ◌-◌, ◌<◌, ◌≤◌, ◌^◌, List, [], ◌∷◌, ◌++◌, length, take, set, get_or, Some, slice_get, refl, sym, ap, subst, ◌∙◌, arith, map}
use Rattle.std.specs.Global.{Vec}
use Rattle.std.specs.Prelude.{All, replicate}
use Rattle.std.specs.Vec.{vec_capacity}
use Rattle.std.proofs.lemmas.List.{length_push, length-set}
use Rattle.std.proofs.lemmas.List.Elements.{All-head, All-tail, All-push, All-same, All-weaker}
use Rattle.std.proofs.lemmas.Option.{slice_get-get_or}
use Rattle.sv_app.specs.declared.acts.Act.{Act}
use Rattle.sv_app.specs.declared.acts.Act.TheVariants.{Insert, Fresh, Update, Remove}
use Rattle.sv_effect.specs.declared.ops.Op.{Op}
use Rattle.sv_effect.specs.declared.ops.RowEffect.{RowEffect}
use Rattle.sv_effect.specs.Takes.{as_insert, inserts}
use Rattle.sv_order.specs.Slots.{Slots}
use Rattle.sv_pool.specs.declared.regions.Slot.{Slot}
use Rattle.sv_pool.specs.Placed.{Placed}
use Rattle.sv_core.specs.Publications.{Published, AreSlots, HasSpace, medium_in, picked, with_front}
use Rattle.sv_core.proofs.ListLaws.{get_front, get_last, get_some}

pub insert_one : (act : Act) → as_insert act ≤ 1
insert_one Insert = omega arith
insert_one Fresh = omega arith
insert_one Update = omega arith
insert_one Remove = omega arith

-- no more rows are inserted than there are changes
pub inserts_few : (es : List RowEffect) → inserts es ≤ length es
inserts_few [] = omega arith
inserts_few (e ∷ es) = let ih : inserts es ≤ length es = inserts_few es in let one : as_insert e.act ≤ 1 = insert_one e.act in omega (arith, ih, one)

pub inserts_taken : (n : ℕ) (es : List RowEffect) → inserts (take n es) ≤ n
inserts_taken zero es = omega arith
inserts_taken (suc n) [] = omega arith
inserts_taken (suc n) (e ∷ es) =
    let ih : inserts (take n es) ≤ n = inserts_taken n es in
    let one : as_insert e.act ≤ 1 = insert_one e.act in
    omega (arith, ih, one)

-- a value that was read by its index
pub read_at : {A : Type 0} (xs : List A) (i : ℕ) (read : A) → i < length xs → read ≡ get_or xs i read → slice_get xs i ≡ Some read
read_at xs i read lt e = slice_get-get_or xs i read lt ∙ ap (λ x. Some x) (sym e)

pub get_mapped : {A B : Type 0} (f : A → B) (xs : List A) (n : ℕ) (x : A) (d : B) → slice_get xs n ≡ Some x → get_or (map f xs) n d ≡ f x
get_mapped f [] n x d e = absurd cc
get_mapped f (y ∷ xs) zero x d e = let same : y ≡ x = cc in ap f same
get_mapped f (y ∷ xs) (suc n) x d e = get_mapped f xs n x d e

pub set_get : {A : Type 0} (xs : List A) (at : ℕ) (new : A) (j : ℕ) (a : A) → slice_get (set xs at new) j ≡ Some a
    → ((j ≡ at) × (new ≡ a)) ⊎ ((j ≡ at → ⊥) × (slice_get xs j ≡ Some a))
set_get [] at new j a e = absurd cc
set_get (x ∷ xs) zero new zero a e = inl (refl, cc)
set_get (x ∷ xs) zero new (suc j) a e = inr (λ is. absurd (omega (arith, is)), e)
set_get (x ∷ xs) (suc at) new zero a e = inr (λ is. absurd (omega (arith, is)), e)
set_get {A} (x ∷ xs) (suc at) new (suc j) a e = up (set_get xs at new j a e)
  where
    up : ((j ≡ at) × (new ≡ a)) ⊎ ((j ≡ at → ⊥) × (slice_get xs j ≡ Some a))
        → ((suc j ≡ suc at) × (new ≡ a)) ⊎ ((suc j ≡ suc at → ⊥) × (slice_get xs j ≡ Some a))
    up (inl both) = inl (ap suc both.0, both.1)
    up (inr both) = inr (λ is. both.0 (omega (arith, is)), both.1)

-- the slots of a list were given by the region of these values
abbrev pub AreGiven : List Op → List Slot → Type 0
AreGiven values slots = All (λ slot. slot.number < length values) slots

pub picked_long : (values : List Op) (slots : List Slot) → AreGiven values slots → length (picked values slots) ≡ length slots
picked_long values [] given = refl
picked_long values (slot ∷ slots) given =
    let x = get_some values slot.number (All-head (λ s. s.number < length values) slot slots given) in
    ap (λ o. length (with_front o (picked values slots))) x.1 ∙ ap suc (picked_long values slots (All-tail (λ s. s.number < length values) slot slots given))

pub picked_get : (values : List Op) (slots : List Slot) (q : ℕ) (slot : Slot) → AreGiven values slots → slice_get slots q ≡ Some slot
    → slice_get (picked values slots) q ≡ slice_get values slot.number
picked_get values [] q slot given e = absurd cc
picked_get values (s ∷ slots) zero slot given e =
    let same : s ≡ slot = cc in
    let x = get_some values s.number (All-head (λ s. s.number < length values) s slots given) in
    ap (λ o. slice_get (with_front o (picked values slots)) 0) x.1 ∙ sym x.1 ∙ ap (λ y. slice_get values y.number) same
picked_get values (s ∷ slots) (suc q) slot given e =
    let x = get_some values s.number (All-head (λ s. s.number < length values) s slots given) in
    ap (λ o. slice_get (with_front o (picked values slots)) (suc q)) x.1
    ∙ picked_get values slots q slot (All-tail (λ s. s.number < length values) s slots given) e

-- a further value leaves them
pub picked_grow : (values : List Op) (op : Op) (slots : List Slot) → AreGiven values slots → picked (values ++ op ∷ []) slots ≡ picked values slots
picked_grow values op [] given = refl
picked_grow values op (s ∷ slots) given =
    let x = get_some values s.number (All-head (λ s. s.number < length values) s slots given) in
    let here : slice_get (values ++ op ∷ []) s.number ≡ slice_get values s.number = get_front values (op ∷ []) s.number x.0 x.1 ∙ sym x.1 in
    let ih : picked (values ++ op ∷ []) slots ≡ picked values slots = picked_grow values op slots (All-tail (λ s. s.number < length values) s slots given) in
    λ i. with_front (here i) (ih i)

pub picked_push : (values : List Op) (op : Op) (slots : List Slot) (slot : Slot) → AreGiven values slots → slot.number ≡ length values
    → picked (values ++ op ∷ []) (slots ++ slot ∷ []) ≡ picked values slots ++ op ∷ []
picked_push values op [] slot given at = ap (λ o. with_front o []) (ap (slice_get (values ++ op ∷ [])) at ∙ get_last values op)
picked_push values op (s ∷ slots) slot given at =
    let x = get_some values s.number (All-head (λ s. s.number < length values) s slots given) in
    let here : slice_get (values ++ op ∷ []) s.number ≡ Some x.0 = get_front values (op ∷ []) s.number x.0 x.1 in
    let ih : picked (values ++ op ∷ []) (slots ++ slot ∷ []) ≡ picked values slots ++ op ∷ [] =
    picked_push values op slots slot (All-tail (λ s. s.number < length values) s slots given) at in
    (λ i. with_front (here i) (ih i)) ∙ sym (ap (λ o. with_front o (picked values slots) ++ op ∷ []) x.1)

-- the operations of the sites
abbrev pub blues_in : List Op → List (Vec Slot) → List (List Op)
blues_in values lists = map (λ slots. picked values slots.items) lists

abbrev pub AllGiven : List Op → List (Vec Slot) → Type 0
AllGiven values lists = (place : ℕ) (slots : Vec Slot) → slice_get lists place ≡ Some slots → AreGiven values slots.items

pub blues_grow : (values : List Op) (op : Op) (lists : List (Vec Slot)) → AllGiven values lists → blues_in (values ++ op ∷ []) lists ≡ blues_in values lists
blues_grow values op [] given = refl
blues_grow values op (list ∷ lists) given =
    λ i. picked_grow values op list.items (given 0 list refl) i ∷ blues_grow values op lists (λ place slots e. given (suc place) slots e) i

pub blues_push : (values : List Op) (op : Op) (lists : List (Vec Slot)) (place : ℕ) (list new : Vec Slot) (slot : Slot) → AllGiven values lists
    → slice_get lists place ≡ Some list
    → new.items ≡ list.items ++ slot ∷ [] → slot.number ≡ length values
    → blues_in (values ++ op ∷ []) (set lists place new) ≡ set (blues_in values lists) place (get_or (blues_in values lists) place [] ++ op ∷ [])
blues_push values op [] place list new slot given e items at = absurd cc
blues_push values op (l ∷ lists) zero list new slot given e items at =
    let same : l ≡ list = cc in
    let whole : new.items ≡ l.items ++ slot ∷ [] = items ∙ ap (λ v. v.items ++ slot ∷ []) (sym same) in
    λ i. (ap (picked (values ++ op ∷ [])) whole ∙ picked_push values op l.items slot (given 0 l refl) at) i ∷ blues_grow values op lists
    (λ place slots g. given (suc place) slots g) i
blues_push values op (l ∷ lists) (suc place) list new slot given e items at =
    λ i. picked_grow values op l.items (given 0 l refl) i ∷ blues_push values op lists place list new slot (λ p slots g. given (suc p) slots g) e items at i

-- lists in which no slot stands
pub slots_more : (n room : ℕ) (lists : List (Vec Slot)) (list : Vec Slot) → AreSlots n room lists → list.items ≡ [] → room ≤ vec_capacity list
    → AreSlots (n + 1) room (lists ++ list ∷ [])
slots_more n room lists list a items space = record {
  long = length_push lists list ∙ ap (λ k. k + 1) a.long;
  empty = λ place slots e. by_empty place slots (pushed lists list place slots e);
  space = λ place slots e. by_space place slots (pushed lists list place slots e);
}
  where
    pushed : {A : Type 0} (xs : List A) (y : A) (q : ℕ) (x : A) → slice_get (xs ++ y ∷ []) q ≡ Some x → (slice_get xs q ≡ Some x) ⊎ (y ≡ x)
    pushed [] y zero x e = inr cc
    pushed [] y (suc q) x e = absurd cc
    pushed (z ∷ xs) y zero x e = inl e
    pushed (z ∷ xs) y (suc q) x e = pushed xs y q x e

    by_empty : (place : ℕ) (slots : Vec Slot) → (slice_get lists place ≡ Some slots) ⊎ (list ≡ slots) → slots.items ≡ []
    by_empty place slots (inl e) = a.empty place slots e
    by_empty place slots (inr e) = subst (λ v. v.items ≡ []) e items

    by_space : (place : ℕ) (slots : Vec Slot) → (slice_get lists place ≡ Some slots) ⊎ (list ≡ slots) → room ≤ vec_capacity slots
    by_space place slots (inl e) = a.space place slots e
    by_space place slots (inr e) = subst (λ v. room ≤ vec_capacity v) e space

pub blues_none : (values : List Op) (n : ℕ) (lists : List (Vec Slot)) → length lists ≡ n
    → ((place : ℕ) (slots : Vec Slot) → slice_get lists place ≡ Some slots → slots.items ≡ [])
    → blues_in values lists ≡ replicate n []
blues_none values zero [] long empty = refl
blues_none values (suc n) [] long empty = absurd (omega (arith, long))
blues_none values zero (l ∷ lists) long empty = absurd (omega (arith, long))
blues_none values (suc n) (l ∷ lists) long empty =
    λ i. ap (picked values) (empty 0 l refl) i ∷ blues_none values n lists (omega (arith, long)) (λ place slots e. empty (suc place) slots e) i

pub blue_in : (k : Published) (site : ℕ) → 1 ≤ site → medium_in k site ≡ get_or k.blues (site - 1) []
blue_in k zero one = absurd (omega (arith, one))
blue_in k (suc place) one = ap (λ n. get_or k.blues n []) (omega arith)

-- the list of a site that was read by its index
pub record IsListOf (k : Published) (values : List Op) (lists : List (Vec Slot)) (site : ℕ) (list : Vec Slot) : Type 0 where
  pub one : 1 ≤ site
  pub at : slice_get lists (site - 1) ≡ Some list
  pub is : medium_in k site ≡ picked values list.items
  pub long : AreGiven values list.items → length (medium_in k site) ≡ length list.items

pub list_of : (k : Published) (values : List Op) (lists : List (Vec Slot)) (site number : ℕ) (list : Vec Slot) → k.blues ≡ blues_in values lists
    → number ≡ site → 1 ≤ number → number ≤ 8
    → length lists ≡ 8 → list ≡ get_or lists (number - 1) list → IsListOf k values lists site list
list_of k values lists site number list blues same from to eight read = record {
  one = one;
  at = at;
  is = is;
  long = λ given. ap length is ∙ picked_long values list.items given;
}
  where
    one : 1 ≤ site
    one = omega (arith, same, from)

    at : slice_get lists (site - 1) ≡ Some list
    at = ap (λ n. slice_get lists (n - 1)) (sym same) ∙ read_at lists (number - 1) list (omega (arith, from, to, eight)) read

    is : medium_in k site ≡ picked values list.items
    is = blue_in k site one ∙ ap (λ b. get_or b (site - 1) []) blues ∙ get_mapped (λ slots. picked values slots.items) lists (site - 1) list [] at

-- there is space behind a blue operation
pub space_blue : (blues new : Placed Op) (lists : List (Vec Slot)) (reds : Slots) (capacity new_capacity long new_long room place : ℕ) (op : Op)
    (list new_list : Vec Slot) (slot : Slot)
    → HasSpace blues lists reds capacity long room → 1 ≤ room → slice_get lists place ≡ Some list → new.values ≡ blues.values ++ op ∷ []
    → new.spare + 1 ≡ blues.spare
    → slot.number ≡ length blues.values → new_list.items ≡ list.items ++ slot ∷ [] → vec_capacity new_list ≡ vec_capacity list → new_capacity ≡ capacity
    → new_long ≡ long + 1
    → HasSpace new (set lists place new_list) reds new_capacity new_long (room - 1)
space_blue blues new lists reds capacity new_capacity long new_long room place op list new_list slot s one at values spare number items cap cap_is long_is =
    record {
      eight = length-set lists place new_list ∙ s.eight;
      given = λ j slots e. given j slots (set_get lists place new_list j slots e);
      lists_space = λ j slots e. space j slots (set_get lists place new_list j slots e);
      lists_few = λ j slots e. few j slots (set_get lists place new_list j slots e);
      blues_space = let b : room ≤ blues.spare = s.blues_space in omega (arith, b, spare, one);
      reds_space = let b : room ≤ reds.room = s.reds_space in omega (arith, b);
      order_space = let b : long + room ≤ capacity = s.order_space in omega (arith, b, cap_is, long_is, one);
    }
  where
    grown : length new.values ≡ length blues.values + 1
    grown = ap length values ∙ length_push blues.values op

    wider : (slots : List Slot) → AreGiven blues.values slots → AreGiven new.values slots
    wider slots all = All-weaker (λ x. x.number < length blues.values) (λ x. x.number < length new.values) (λ x lt. omega (arith, lt, grown)) slots all

    given : (j : ℕ) (slots : Vec Slot) → ((j ≡ place) × (new_list ≡ slots)) ⊎ ((j ≡ place → ⊥) × (slice_get lists j ≡ Some slots))
        → AreGiven new.values slots.items
    given j slots (inl both) =
        subst (λ v. AreGiven new.values v.items) both.1
        (All-same (λ x. x.number < length new.values) new_list.items (list.items ++ slot ∷ []) items
        (All-push (λ x. x.number < length new.values) list.items slot (wider list.items (s.given place list at)) (omega (arith, number, grown))))
    given j slots (inr both) = wider slots.items (s.given j slots both.1)

    space : (j : ℕ) (slots : Vec Slot) → ((j ≡ place) × (new_list ≡ slots)) ⊎ ((j ≡ place → ⊥) × (slice_get lists j ≡ Some slots))
        → length slots.items + (room - 1) ≤ vec_capacity slots
    space j slots (inl both) =
        let a : length list.items + room ≤ vec_capacity list = s.lists_space place list at in
        let b : length new_list.items ≡ length list.items + 1 = ap length items ∙ length_push list.items slot in
        subst (λ v. length v.items + (room - 1) ≤ vec_capacity v) both.1 (omega (arith, a, b, cap, one))
    space j slots (inr both) = let a : length slots.items + room ≤ vec_capacity slots = s.lists_space j slots both.1 in omega (arith, a)

    few : (j : ℕ) (slots : Vec Slot) → ((j ≡ place) × (new_list ≡ slots)) ⊎ ((j ≡ place → ⊥) × (slice_get lists j ≡ Some slots))
        → length slots.items + (room - 1) < 2 ^ 32
    few j slots (inl both) =
        let a : length list.items + room < 2 ^ 32 = s.lists_few place list at in
        let b : length new_list.items ≡ length list.items + 1 = ap length items ∙ length_push list.items slot in
        subst (λ v. length v.items + (room - 1) < 2 ^ 32) both.1 (omega (arith, a, b, one))
    few j slots (inr both) = let a : length slots.items + room < 2 ^ 32 = s.lists_few j slots both.1 in omega (arith, a)
