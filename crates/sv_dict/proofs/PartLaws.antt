-- The units in their order: those before one are others, and with it and those behind it they are all up to its transaction's end.
use Rattle.std.proofs.Common.{◌≡◌, ◌∙◌, ◌≤◌, ◌<◌, nat_eq, ◌&&◌, not, cond, ℕ, zero, suc, ◌+◌, min, Bool, true, false, List, [], ◌∷◌, ◌++◌, map, length, take, drop, get_or, Option, Some, None, slice_get, refl, sym, ap, subst, arith, All}
use Rattle.std.specs.Bool.{beq}
use Rattle.std.specs.Cmp.Lexicographic.{pointwise, slice_cmp}
use Rattle.std.specs.List.{AllByRecursion, Contains, filter}
use Rattle.std.specs.List.Sorted.{IsStrictlySortedBy}
use Rattle.std.specs.Ordering.{bool_cmp}
use Rattle.std.specs.declared.cmp.Ordering.TheVariants.{Less}
use Rattle.std.proofs.lemmas.List.{append_assoc, append-nil, map-append, length-take, length-take-le, take_all}
use Rattle.std.proofs.lemmas.List.Elements.{filter-append}
use Rattle.std.proofs.lemmas.Option.{slice_get_within}
use Rattle.sv_app.specs.Schema.{Declaration}
use Rattle.sv_app.specs.Trees.{Block, Transaction}
use Rattle.sv_app.specs.Units.{units}
use Rattle.sv_app.proofs.ListLaws.{same_some}
use Rattle.sv_app.proofs.TestLaws.{other_test}
use Rattle.sv_paths.specs.declared.answers.Path.{Path}
use Rattle.sv_paths.specs.Numbered.{Part, bodies_of, numbered_from}
use Rattle.sv_paths.specs.Paths.{AreAllPaths}
use Rattle.sv_label.specs.Groups.{Group, is_of}
use Rattle.sv_listing.specs.Frugal.{leads_on, choices_on, AreGroups, NoUnits, WithGroup, WithNone, parts_from}
use Rattle.sv_dict.specs.Standing.{parts_at, parts_before}
use Rattle.sv_dict.proofs.OpenLaws.{NoneOf, NoneLike}

-- ---- lists cut in two

pub cut_at : {A : Type 0} (xs : List A) (k : ℕ) (x : A) → slice_get xs k ≡ Some x → xs ≡ take k xs ++ x ∷ drop (suc k) xs
cut_at [] k x at = absurd cc
cut_at (y ∷ xs) zero x at = let same : y ≡ x = cc in ap (λ z. z ∷ xs) same
cut_at (y ∷ xs) (suc k) x at = ap (λ zs. y ∷ zs) (cut_at xs k x at)

pub taken_more : {A : Type 0} (xs : List A) (k : ℕ) (x : A) → slice_get xs k ≡ Some x → take (suc k) xs ≡ take k xs ++ x ∷ []
taken_more [] k x at = absurd cc
taken_more (y ∷ xs) zero x at = let same : y ≡ x = cc in ap (λ z. z ∷ []) same
taken_more (y ∷ xs) (suc k) x at = ap (λ zs. y ∷ zs) (taken_more xs k x at)

pub taken_in : {A : Type 0} (xs : List A) (n m : ℕ) → n ≤ m → take m xs ≡ take n xs ++ drop n (take m xs)
taken_in {A = A} [] n m le = nothing n m
  where
    nothing : (n m : ℕ) → take {A = A} m [] ≡ take {A = A} n [] ++ drop n (take {A = A} m [])
    nothing zero zero = refl
    nothing zero (suc m) = refl
    nothing (suc n) zero = refl
    nothing (suc n) (suc m) = refl
taken_in (x ∷ xs) zero m le = refl
taken_in (x ∷ xs) (suc n) zero le = absurd (omega (arith, le))
taken_in (x ∷ xs) (suc n) (suc m) le = ap (λ zs. x ∷ zs) (taken_in xs n m (omega (arith, le)))

-- ---- the units of more transactions

parts_append : (start : ℕ) (xs ys : List Transaction) → parts_from start (xs ++ ys) ≡ parts_from start xs ++ parts_from (start + length xs) ys
parts_append start [] ys = ap (λ n. parts_from n ys) (first_more start)
  where
    first_more : (n : ℕ) → n ≡ n + 0
    first_more n = omega arith
parts_append start (x ∷ xs) ys =
    ap (λ ps. numbered_from 0 start (units x.body) ++ ps) (parts_append (suc start) xs ys ∙ ap (λ n. parts_from (suc start) xs ++ parts_from n ys) (suc_more start (length xs)))
    ∙ sym (append_assoc (numbered_from 0 start (units x.body)) (parts_from (suc start) xs) (parts_from (start + suc (length xs)) ys))
  where
    suc_more : (n k : ℕ) → suc n + k ≡ n + suc k
    suc_more n k = omega arith

pub whole_more : (txns : List Transaction) (number : ℕ) (txn : Transaction) → slice_get txns number ≡ Some txn
    → parts_from 0 (take (suc number) txns) ≡ parts_from 0 (take number txns) ++ parts_at txns number
whole_more txns number txn at =
    let within : number < length txns = slice_get_within txns number txn at in
    let long : length (take number txns) ≡ number = length-take-le number txns (omega (arith, within)) in
    let last : 0 + length (take number txns) ≡ number = omega (arith, long) in
    ap (parts_from 0) (taken_more txns number txn at) ∙ parts_append 0 (take number txns) (txn ∷ [])
    ∙ ap (λ ps. parts_from 0 (take number txns) ++ ps) (ap (λ n. parts_from n (txn ∷ [])) last ∙ append-nil (numbered_from 0 number (units txn.body)) ∙ ap (λ o. numbered_from 0 number (bodies_of o)) (sym at))

pub front_of : (txns : List Transaction) (n m : ℕ) → n ≤ m → (more : List Part) × (parts_from 0 (take m txns) ≡ parts_from 0 (take n txns) ++ more)
front_of txns n m le =
    (parts_from (0 + length (take n txns)) (drop n (take m txns)), ap (parts_from 0) (taken_in txns n m le) ∙ parts_append 0 (take n txns) (drop n (take m txns)))

-- a transaction without units done, and with all of them
pub none_done : (txns : List Transaction) (number : ℕ) → parts_from 0 (take number txns) ≡ parts_before txns number 0
none_done txns number = sym (append-nil (parts_from 0 (take number txns)))

pub all_done : (txns : List Transaction) (number unit : ℕ) (txn : Transaction) → slice_get txns number ≡ Some txn → length (parts_at txns number) ≤ unit
    → parts_before txns number unit ≡ parts_from 0 (take (suc number) txns)
all_done txns number unit txn at long = ap (λ ps. parts_from 0 (take number txns) ++ ps) (take_all unit (parts_at txns number) long) ∙ sym (whole_more txns number txn at)

pub one_done : (txns : List Transaction) (part : Part) → slice_get (parts_at txns part.txn) part.number ≡ Some part
    → parts_before txns part.txn part.number ++ part ∷ [] ≡ parts_before txns part.txn (suc part.number)
one_done txns part at =
    append_assoc (parts_from 0 (take part.txn txns)) (take part.number (parts_at txns part.txn)) (part ∷ [])
    ∙ ap (λ ps. parts_from 0 (take part.txn txns) ++ ps) (sym (taken_more (parts_at txns part.txn) part.number part at))

-- what stands behind a unit, up to the end of its transaction
pub behind_it : (txns : List Transaction) (part : Part) (txn : Transaction) → slice_get (parts_at txns part.txn) part.number ≡ Some part → slice_get txns part.txn ≡ Some txn
    → parts_from 0 (take (suc part.txn) txns) ≡ parts_before txns part.txn part.number ++ part ∷ drop (suc part.number) (parts_at txns part.txn)
behind_it txns part txn at declared =
    whole_more txns part.txn txn declared ∙ ap (λ ps. parts_from 0 (take part.txn txns) ++ ps) (cut_at (parts_at txns part.txn) part.number part at)
    ∙ sym (append_assoc (parts_from 0 (take part.txn txns)) (take part.number (parts_at txns part.txn)) (part ∷ drop (suc part.number) (parts_at txns part.txn)))

-- ---- units before one are others

abbrev pub Others : ℕ → ℕ → List Part → Type 0
Others txn unit parts = AllByRecursion (λ (p : Part). (nat_eq txn p.txn && nat_eq unit p.number) ≡ false) parts

both_others : (txn unit : ℕ) (ps qs : List Part) → Others txn unit ps → Others txn unit qs → Others txn unit (ps ++ qs)
both_others txn unit [] qs p q = q
both_others txn unit (x ∷ ps) qs p q = (p.0, both_others txn unit ps qs p.1 q)

and_first : (a b : Bool) → a ≡ false → (a && b) ≡ false
and_first true b e = absurd cc
and_first false b e = refl

and_second : (a b : Bool) → b ≡ false → (a && b) ≡ false
and_second true b e = e
and_second false b e = refl

of_another : (txn unit start : ℕ) (k : ℕ) (bodies : List Block) → (txn ≡ start → ⊥) → Others txn unit (numbered_from k start bodies)
of_another txn unit start k [] apart = tt
of_another txn unit start k (body ∷ bodies) apart = (and_first (nat_eq txn start) (nat_eq unit k) (other_test txn start apart), of_another txn unit start (suc k) bodies apart)

of_earlier : (txn unit start : ℕ) (txns : List Transaction) → start + length txns ≤ txn → Others txn unit (parts_from start txns)
of_earlier txn unit start [] less = tt
of_earlier txn unit start (x ∷ txns) less =
    both_others txn unit (numbered_from 0 start (units x.body)) (parts_from (suc start) txns) (of_another txn unit start 0 (units x.body) (λ e. omega (arith, e, less)))
    (of_earlier txn unit (suc start) txns (omega (arith, less)))

earlier_units : (txn unit k j : ℕ) (bodies : List Block) → k + j ≤ unit → Others txn unit (take j (numbered_from k txn bodies))
earlier_units txn unit k zero [] less = tt
earlier_units txn unit k (suc j) [] less = tt
earlier_units txn unit k zero (body ∷ bodies) less = tt
earlier_units txn unit k (suc j) (body ∷ bodies) less =
    (and_second (nat_eq txn txn) (nat_eq unit k) (other_test unit k (λ e. omega (arith, e, less))), earlier_units txn unit (suc k) j bodies (omega (arith, less)))

before_others : (txns : List Transaction) (txn unit : ℕ) → Others txn unit (parts_before txns txn unit)
before_others txns txn unit =
    let long : length (take txn txns) ≡ min txn (length txns) = length-take txn txns in
    both_others txn unit (parts_from 0 (take txn txns)) (take unit (parts_at txns txn)) (of_earlier txn unit 0 (take txn txns) (omega (arith, long)))
    (earlier_units txn unit 0 unit (bodies_of (slice_get txns txn)) (omega arith))

none_of : (schema : List Declaration) (txns : List Transaction) (txn unit : ℕ) (parts : List Part) (gs : List Group) → AreGroups schema txns parts gs → Others txn unit parts → NoneOf txn unit gs
none_of schema txns txn unit parts gs NoUnits others = tt
none_of schema txns txn unit parts gs (WithGroup part rest paths g groups all is later) others =
    ((λ i. nat_eq txn (is.txn_is i) && nat_eq unit (is.unit_is i)) ∙ others.0, none_of schema txns txn unit rest groups later others.1)
none_of schema txns txn unit parts gs (WithNone part rest paths groups all none later) others = none_of schema txns txn unit rest groups later others.1

pub none_before : (schema : List Declaration) (txns : List Transaction) (txn unit : ℕ) (gs : List Group) → AreGroups schema txns (parts_before txns txn unit) gs → NoneOf txn unit gs
none_before schema txns txn unit gs are = none_of schema txns txn unit (parts_before txns txn unit) gs are (before_others txns txn unit)

-- ---- paths before one have other choices

same_choices : (a b : List Bool) → pointwise beq a b ≡ true → a ≡ b
same_choices [] [] e = refl
same_choices [] (y ∷ b) e = absurd cc
same_choices (x ∷ a) [] e = absurd cc
same_choices (true ∷ a) (true ∷ b) e = ap (λ c. true ∷ c) (same_choices a b e)
same_choices (true ∷ a) (false ∷ b) e = absurd cc
same_choices (false ∷ a) (true ∷ b) e = absurd cc
same_choices (false ∷ a) (false ∷ b) e = ap (λ c. false ∷ c) (same_choices a b e)

not_before : (a : List Bool) → slice_cmp bool_cmp a a ≡ Less → ⊥
not_before [] e = cc
not_before (true ∷ a) e = not_before a e
not_before (false ∷ a) e = not_before a e

unlike : (a b : List Bool) → slice_cmp bool_cmp a b ≡ Less → pointwise beq b a ≡ false
unlike a b less = by (pointwise beq b a) refl
  where
    by : (same : Bool) → pointwise beq b a ≡ same → same ≡ false
    by true e = absurd (not_before a (subst (λ c. slice_cmp bool_cmp a c ≡ Less) (same_choices b a e) less))
    by false e = refl

abbrev Ordered : List Path → Type 0
Ordered xs = IsStrictlySortedBy (slice_cmp bool_cmp) (map (λ (p : Path). p.choices) xs)

first_less : (x : Path) (xs : List Path) → Ordered (x ∷ xs) → AllByRecursion (λ c. slice_cmp bool_cmp x.choices c ≡ Less) (map (λ (p : Path). p.choices) xs)
unfolding IsStrictlySortedBy
first_less x xs h = h.0

later_ordered : (x : Path) (xs : List Path) → Ordered (x ∷ xs) → Ordered xs
unfolding IsStrictlySortedBy
later_ordered x xs h = h.1

less_at : (a : List Bool) (front back : List Path) (p : Path) → AllByRecursion (λ c. slice_cmp bool_cmp a c ≡ Less) (map (λ (p : Path). p.choices) (front ++ p ∷ back)) → slice_cmp bool_cmp a p.choices ≡ Less
less_at a [] back p all = all.0
less_at a (x ∷ front) back p all = less_at a front back p all.1

unlike_before : (front back : List Path) (p : Path) → Ordered (front ++ p ∷ back) → NoneLike p.choices (choices_on front)
unlike_before [] back p order = tt
unlike_before (x ∷ front) back p order =
    by (leads_on x) (unlike x.choices p.choices (less_at x.choices front back p (first_less x (front ++ p ∷ back) order))) (unlike_before front back p (later_ordered x (front ++ p ∷ back) order))
  where
    by : (b : Bool) → pointwise beq p.choices x.choices ≡ false → NoneLike p.choices (choices_on front)
        → NoneLike p.choices (map (λ (p : Path). p.choices) (cond b (x ∷ filter leads_on front) (filter leads_on front)))
    by true here later = (here, later)
    by false here later = later

pub apart_from : (body : Block) (paths : List Path) (at : ℕ) (p : Path) → AreAllPaths body paths → slice_get paths at ≡ Some p → NoneLike p.choices (choices_on (take at paths))
apart_from body paths at p all here = unlike_before (take at paths) (drop (suc at) paths) p (subst Ordered (cut_at paths at p here) all.order)

-- ---- the choices of paths that don't abort

one_on : (p : Path) → p.aborts ≡ false → choices_on (p ∷ []) ≡ p.choices ∷ []
one_on p goes = by p.aborts goes
  where
    by : (b : Bool) → b ≡ false → map (λ (p : Path). p.choices) (cond (not b) (p ∷ []) []) ≡ p.choices ∷ []
    by true e = absurd cc
    by false e = refl

none_on : (p : Path) → p.aborts ≡ true → choices_on (p ∷ []) ≡ []
none_on p stops = by p.aborts stops
  where
    by : (b : Bool) → b ≡ true → map (λ (p : Path). p.choices) (cond (not b) (p ∷ []) []) ≡ []
    by true e = refl
    by false e = absurd cc

pub on_append : (xs ys : List Path) → choices_on (xs ++ ys) ≡ choices_on xs ++ choices_on ys
on_append xs ys = ap (map (λ (p : Path). p.choices)) (filter-append leads_on xs ys) ∙ map-append (λ (p : Path). p.choices) (filter leads_on xs) (filter leads_on ys)

pub on_more : (paths : List Path) (at : ℕ) (p : Path) → slice_get paths at ≡ Some p → p.aborts ≡ false → choices_on (take (suc at) paths) ≡ choices_on (take at paths) ++ p.choices ∷ []
on_more paths at p here goes = ap choices_on (taken_more paths at p here) ∙ on_append (take at paths) (p ∷ []) ∙ ap (λ cs. choices_on (take at paths) ++ cs) (one_on p goes)

pub on_same : (paths : List Path) (at : ℕ) (p : Path) → slice_get paths at ≡ Some p → p.aborts ≡ true → choices_on (take (suc at) paths) ≡ choices_on (take at paths)
on_same paths at p here stops =
    ap choices_on (taken_more paths at p here) ∙ on_append (take at paths) (p ∷ []) ∙ ap (λ cs. choices_on (take at paths) ++ cs) (none_on p stops) ∙ append-nil (choices_on (take at paths))

pub on_split : (paths : List Path) (at : ℕ) (p : Path) → slice_get paths at ≡ Some p → p.aborts ≡ false
    → choices_on paths ≡ choices_on (take at paths) ++ p.choices ∷ choices_on (drop (suc at) paths)
on_split paths at p here goes =
    ap choices_on (cut_at paths at p here) ∙ on_append (take at paths) (p ∷ drop (suc at) paths)
    ∙ ap (λ cs. choices_on (take at paths) ++ cs) (on_append (p ∷ []) (drop (suc at) paths) ∙ ap (λ cs. cs ++ choices_on (drop (suc at) paths)) (one_on p goes))
