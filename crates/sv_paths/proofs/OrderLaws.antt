-- What is listed is in order, and no path is as long as the list; such a list is the only one.
use Rattle.std.proofs.Common.{◌≡◌, ℕ, suc, ◌+◌, ◌<◌, ◌≤◌, Bool, true, false, List, [], ◌∷◌, ◌++◌, map, length, get_or, refl, sym, ap, ap₂, ◌∙◌, subst, inl, inr, ⊎_elim, All, arith, length-append}
use Rattle.std.specs.List.{AllByRecursion}
use Rattle.std.specs.Cmp.{bool_cmp_total}
use Rattle.std.specs.Cmp.Lexicographic.{slice_cmp, lists_total}
use Rattle.std.specs.List.Sorted.{IsStrictlySortedBy}
use Rattle.std.specs.Ordering.{bool_cmp, ordering_reverse}
use Rattle.std.specs.declared.cmp.Ordering.TheVariants.{Less, Greater}
use Rattle.std.proofs.lemmas.List.{length-map}
use Rattle.std.proofs.lemmas.List.Elements.{Contains-get_or}
use Rattle.sv_app.specs.Trees.{Test, Compare, Negation, Both, Either, Command, Declare, Assign, Fetch, Choose, ForRows, ForEach, Insert, Fresh, Update, Remove, Abort, Reply, Block, Finish, Then}
use Rattle.sv_paths.specs.declared.answers.Path.{Path}
use Rattle.sv_paths.specs.Laws.{AllPathsAreOneList}
use Rattle.sv_paths.specs.Listing.{without_choice, taking, test_paths, command_paths, block_paths}
use Rattle.sv_paths.specs.Paths.{AreAllPaths, FitsLimit, HasTooMany}
use Rattle.sv_paths.proofs.ListingLaws.{listed_is_path, path_is_listed}
use Rattle.sv_paths.proofs.MemberLaws.{In, Taken, in_either, in_taken, contains_in, in_contains}

abbrev choices_of : List Path → List (List Bool)
choices_of xs = map (λ (p : Path). p.choices) xs

abbrev IsBefore : List Bool → List Bool → Type 0
IsBefore cs ds = slice_cmp bool_cmp cs ds ≡ Less

abbrev Ordered : List Path → Type 0
Ordered xs = IsStrictlySortedBy (slice_cmp bool_cmp) (map (λ (p : Path). p.choices) xs)

all_in : (P : List Bool → Type 0) (xs : List Path) (p : Path) → AllByRecursion P (choices_of xs) → In p xs → P p.choices
all_in P [] p h i = absurd i
all_in P (x ∷ xs) p h (inl e) = subst (λ (q : Path). P q.choices) e h.0
all_in P (x ∷ xs) p h (inr i) = all_in P xs p h.1 i

all_both : (P : List Bool → Type 0) (xs ys : List Path) → AllByRecursion P (choices_of xs) → AllByRecursion P (choices_of ys) → AllByRecursion P (choices_of (xs ++ ys))
all_both P [] ys h g = g
all_both P (x ∷ xs) ys h g = (h.0, all_both P xs ys h.1 g)

before_taking : (choice : Bool) (cs ds : List Bool) → IsBefore cs ds → IsBefore (choice ∷ cs) (choice ∷ ds)
before_taking true cs ds h = h
before_taking false cs ds h = h

all_taking : (choice : Bool) (cs : List Bool) (xs : List Path) → AllByRecursion (IsBefore cs) (choices_of xs) → AllByRecursion (IsBefore (choice ∷ cs)) (choices_of (map (taking choice) xs))
all_taking choice cs [] h = tt
all_taking choice cs (x ∷ xs) h = (before_taking choice cs x.choices h.0, all_taking choice cs xs h.1)

all_yes : (cs : List Bool) (xs : List Path) → AllByRecursion (IsBefore (false ∷ cs)) (choices_of (map (taking true) xs))
all_yes cs [] = tt
all_yes cs (x ∷ xs) = (refl, all_yes cs xs)

ordered_taking : (choice : Bool) (xs : List Path) → Ordered xs → Ordered (map (taking choice) xs)
unfolding IsStrictlySortedBy
ordered_taking choice [] h = tt
ordered_taking choice (x ∷ xs) h = (all_taking choice x.choices xs h.0, ordered_taking choice xs h.1)

ordered_sides : (ns ys : List Path) → Ordered ns → Ordered ys → Ordered (map (taking false) ns ++ map (taking true) ys)
unfolding IsStrictlySortedBy
ordered_sides [] ys h g = ordered_taking true ys g
ordered_sides (n ∷ ns) ys h g =
    (all_both (IsBefore (false ∷ n.choices)) (map (taking false) ns) (map (taking true) ys) (all_taking false n.choices ns h.0) (all_yes n.choices ys), ordered_sides ns ys h.1 g)

-- in order, not empty, and each path has fewer choices than there are paths
record Fine (xs : List Path) : Type 0 where
  ordered : Ordered xs
  some : 1 ≤ length xs
  short : (p : Path) → In p xs → length p.choices < length xs

side_short : (choice : Bool) (xs : List Path) (n : ℕ) (p : Path) → Fine xs → length xs + 1 ≤ n → Taken choice p xs → length p.choices < n
side_short choice xs n p f h t =
    let e : length p.choices ≡ suc (length t.path.choices) = ap (λ (q : Path). length q.choices) t.is in
    let k : length t.path.choices < length xs = f.short t.path t.inside in
    omega (arith, e, k, h)

fine_sides : (ns ys : List Path) → Fine ns → Fine ys → Fine (map (taking false) ns ++ map (taking true) ys)
fine_sides ns ys f g =
    let long : length (map (taking false) ns ++ map (taking true) ys) ≡ length ns + length ys = length-append (map (taking false) ns) (map (taking true) ys) ∙ ap₂ (λ a b. a + b) (length-map ns (taking false)) (length-map ys (taking true)) in
    let one : 1 ≤ length ns = f.some in
    let other : 1 ≤ length ys = g.some in
    record {
      ordered = ordered_sides ns ys f.ordered g.ordered;
      some = omega (arith, long, one, other);
      short = λ p i. ⊎_elim
          (λ j. side_short false ns (length (map (taking false) ns ++ map (taking true) ys)) p f (omega (arith, long, other)) (in_taken false p ns j))
          (λ j. side_short true ys (length (map (taking false) ns ++ map (taking true) ys)) p g (omega (arith, long, one)) (in_taken true p ys j))
          (in_either p (map (taking false) ns) (map (taking true) ys) i);
    }

fine_test : (t : Test) (ys ns : List Path) → Fine ys → Fine ns → Fine (test_paths t ys ns)
fine_test (Compare a r b) ys ns f g = fine_sides ns ys g f
fine_test (Negation t) ys ns f g = fine_test t ns ys g f
fine_test (Both t q) ys ns f g = fine_test t (test_paths q ys ns) (test_paths q ns ns) (fine_test q ys ns f g) (fine_test q ns ns g g)
fine_test (Either t q) ys ns f g = fine_test t (test_paths q ys ys) (test_paths q ys ns) (fine_test q ys ys f f) (fine_test q ys ns f g)

fine_one : (aborts : Bool) → Fine (without_choice aborts ∷ [])
unfolding IsStrictlySortedBy
fine_one aborts = record {
  ordered = (tt, tt);
  some = omega arith;
  short = λ p i. ⊎_elim (λ e. subst (λ (q : Path). length q.choices < 1) e (omega arith)) (λ j. absurd j) i;
}

mutual
  fine_command : (c : Command) (rest : List Path) → Fine rest → Fine (command_paths c rest)
  fine_command (Declare x e) rest f = f
  fine_command (Assign x e) rest f = f
  fine_command (Fetch r t k) rest f = f
  fine_command (Choose c ys ns) rest f = fine_test c (block_paths ys rest) (block_paths ns rest) (fine_block ys rest f) (fine_block ns rest f)
  fine_command (ForRows r t c body) rest f = f
  fine_command (ForEach x l body) rest f = f
  fine_command (Insert t vs) rest f = f
  fine_command (Fresh x t vs) rest f = f
  fine_command (Update t k ss) rest f = f
  fine_command (Remove t k) rest f = f
  fine_command (Abort n) rest f = fine_one true
  fine_command (Reply e) rest f = f

  fine_block : (b : Block) (rest : List Path) → Fine rest → Fine (block_paths b rest)
  fine_block Finish rest f = f
  fine_block (Then c b) rest f = fine_command c (block_paths b rest) (fine_block b rest f)

fine : (b : Block) → Fine (block_paths b (without_choice false ∷ []))
fine b = fine_block b (without_choice false ∷ []) (fine_one false)

pub all_listed : (b : Block) → AreAllPaths b (block_paths b (without_choice false ∷ []))
all_listed b = record {
  each = λ p. (λ c. listed_is_path b p (contains_in p (block_paths b (without_choice false ∷ [])) c), λ h. in_contains p (block_paths b (without_choice false ∷ [])) (path_is_listed b p h));
  order = (fine b).ordered;
}

pub all_of : (b : Block) (xs : List Path) → xs ≡ block_paths b (without_choice false ∷ []) → AreAllPaths b xs
all_of b xs e = subst (AreAllPaths b) (sym e) (all_listed b)

pub too_many : (b : Block) → 1024 < length (block_paths b (without_choice false ∷ [])) → HasTooMany b
too_many b h = record { paths = block_paths b (without_choice false ∷ []); all = all_listed b; more = h }

pub all_short : (b : Block) (xs : List Path) → xs ≡ block_paths b (without_choice false ∷ []) → length xs ≤ 1024 → All (λ (p : Path). length p.choices ≤ 1023) xs
all_short b xs e few k d h =
    let f : Fine xs = subst Fine (sym e) (fine b) in
    let i : length (get_or xs k d).choices < length xs = f.short (get_or xs k d) (contains_in (get_or xs k d) xs (Contains-get_or xs k d h)) in
    omega (arith, i, few)

pub ruleset answers = (all_of, too_many, all_short)

-- such a list is the only one
never_both : (cs ds : List Bool) → IsBefore cs ds → IsBefore ds cs → ⊥
never_both cs ds h g = let flip : slice_cmp bool_cmp cs ds ≡ ordering_reverse (slice_cmp bool_cmp ds cs) = (lists_total bool_cmp_total).antisymm cs ds in
    let bad : Less ≡ Greater = sym h ∙ flip ∙ ap ordering_reverse g in cc

heads_first : (x : Path) (xs : List Path) → Ordered (x ∷ xs) → AllByRecursion (IsBefore x.choices) (choices_of xs)
unfolding IsStrictlySortedBy
heads_first x xs h = h.0

tails : (x : Path) (xs : List Path) → Ordered (x ∷ xs) → Ordered xs
unfolding IsStrictlySortedBy
tails x xs h = h.1

same_heads : (x y : Path) (xs ys : List Path) → Ordered (x ∷ xs) → Ordered (y ∷ ys) → In x (y ∷ ys) → In y (x ∷ xs) → x ≡ y
same_heads x y xs ys h g (inl e) j = sym e
same_heads x y xs ys h g (inr i) (inl e) = e
same_heads x y xs ys h g (inr i) (inr j) = absurd (never_both x.choices y.choices (all_in (IsBefore x.choices) xs y (heads_first x xs h) j) (all_in (IsBefore y.choices) ys x (heads_first y ys g) i))

-- a member behind the head of one list stands behind the head of the other
further : (x y p : Path) (xs ys : List Path) → Ordered (x ∷ xs) → x ≡ y → In p xs → In p (y ∷ ys) → In p ys
further x y p xs ys h same i (inl e) =
    let k : IsBefore x.choices p.choices = all_in (IsBefore x.choices) xs p (heads_first x xs h) i in
    let l : IsBefore x.choices x.choices = subst (λ (q : Path). IsBefore x.choices q.choices) (sym (same ∙ e)) k in
    absurd (never_both x.choices x.choices l l)
further x y p xs ys h same i (inr j) = j

one_list : (xs ys : List Path) → Ordered xs → Ordered ys → ((p : Path) → In p xs → In p ys) → ((p : Path) → In p ys → In p xs) → xs ≡ ys
one_list [] [] h g f k = refl
one_list [] (y ∷ ys) h g f k = absurd (k y (inl refl))
one_list (x ∷ xs) [] h g f k = absurd (f x (inl refl))
one_list (x ∷ xs) (y ∷ ys) h g f k =
    let same : x ≡ y = same_heads x y xs ys h g (f x (inl refl)) (k y (inl refl)) in
    ap₂ (λ z zs. z ∷ zs) same (one_list xs ys (tails x xs h) (tails y ys g) (λ p i. further x y p xs ys h same i (f p (inr i))) (λ p i. further y x p ys xs g (sym same) i (k p (inr i))))

pub all_paths_are_one : AllPathsAreOneList
all_paths_are_one body xs ys a b = one_list xs ys a.order b.order
    (λ p i. contains_in p ys ((b.each p).1 ((a.each p).0 (in_contains p xs i))))
    (λ p i. contains_in p xs ((a.each p).1 ((b.each p).0 (in_contains p ys i))))

pub fits_limit : (b : Block) (xs : List Path) → AreAllPaths b xs → length xs ≤ 1024 → FitsLimit b
fits_limit b xs all few many =
    let e : length xs ≡ length many.paths = ap length (all_paths_are_one b xs many.paths all many.all) in
    let more : 1024 < length many.paths = many.more in
    omega (arith, e, few, more)
