-- How many paths are listed: none of those behind a statement gets lost, unless the statement always aborts.
use Rattle.std.proofs.Common.{◌≡◌, ℕ, ◌+◌, ◌<◌, ◌≤◌, Bool, true, false, ◌&&◌, ◌||◌, List, map, length, refl, ap, ap₂, arith, length-append}
use Rattle.std.proofs.lemmas.List.{length-map}
use Rattle.sv_app.specs.Trees.{Test, Compare, Negation, Both, Either, Command, Declare, Assign, Fetch, Choose, ForRows, ForEach, Insert, Fresh, Update, Remove, Abort, Reply, Block, Finish, Then}
use Rattle.sv_paths.specs.declared.answers.Path.{Path}
use Rattle.sv_paths.specs.Listing.{taking, test_paths, command_paths, block_paths, command_goes_on, block_goes_on}

pub test_most : (t : Test) (ys ns : List Path) → length ys + length ns ≤ length (test_paths t ys ns)
test_most (Compare a r b) ys ns = omega (arith, length-append (map (taking false) ns) (map (taking true) ys), length-map ns (taking false), length-map ys (taking true))
test_most (Negation t) ys ns = omega (arith, test_most t ns ys)
test_most (Both t q) ys ns = omega (arith, test_most t (test_paths q ys ns) (test_paths q ns ns), test_most q ys ns)
test_most (Either t q) ys ns = omega (arith, test_most t (test_paths q ys ys) (test_paths q ys ns), test_most q ys ns)

pub yes_many : (t : Test) (ys ns : List Path) → 1024 < length ys → 1024 < length (test_paths t ys ns)
yes_many t ys ns h = omega (arith, test_most t ys ns)

pub no_many : (t : Test) (ys ns : List Path) → 1024 < length ns → 1024 < length (test_paths t ys ns)
no_many t ys ns h = omega (arith, test_most t ys ns)

both_end : {ys yys ns nns : List Path} (t : Test) (a b : Bool) → (a || b) ≡ false → (a ≡ false → ys ≡ yys) → (b ≡ false → ns ≡ nns) → test_paths t ys ns ≡ test_paths t yys nns
both_end t true b h f g = cc
both_end t false true h f g = cc
both_end t false false h f g = ap₂ (test_paths t) (f refl) (g refl)

one_ends : {rest others : List Path} (c : Command) (a b : Bool) → (a && b) ≡ false → (a ≡ false → command_paths c rest ≡ command_paths c others) → (b ≡ false → rest ≡ others)
    → command_paths c rest ≡ command_paths c others
one_ends c false b h f g = f refl
one_ends c true false h f g = ap (command_paths c) (g refl)
one_ends c true true h f g = cc

-- where it always aborts, nothing behind it counts
mutual
  pub command_ends : (c : Command) (rest others : List Path) → command_goes_on c ≡ false → command_paths c rest ≡ command_paths c others
  command_ends (Declare x e) rest others h = cc
  command_ends (Assign x e) rest others h = cc
  command_ends (Fetch r t k) rest others h = cc
  command_ends (Choose c ys ns) rest others h = both_end c (block_goes_on ys) (block_goes_on ns) h (block_ends ys rest others) (block_ends ns rest others)
  command_ends (ForRows r t c body) rest others h = cc
  command_ends (ForEach x l body) rest others h = cc
  command_ends (Insert t vs) rest others h = cc
  command_ends (Fresh x t vs) rest others h = cc
  command_ends (Update t k ss) rest others h = cc
  command_ends (Remove t k) rest others h = cc
  command_ends (Abort n) rest others h = refl
  command_ends (Reply e) rest others h = cc

  pub block_ends : (b : Block) (rest others : List Path) → block_goes_on b ≡ false → block_paths b rest ≡ block_paths b others
  block_ends Finish rest others h = cc
  block_ends (Then c b) rest others h = one_ends c (command_goes_on c) (block_goes_on b) h (command_ends c (block_paths b rest) (block_paths b others)) (block_ends b rest others)

-- where it may go on, each path behind it counts
some_most : (a b : Bool) (n ys ns : ℕ) → (a || b) ≡ true → (a ≡ true → n ≤ ys) → (b ≡ true → n ≤ ns) → n ≤ ys + ns
some_most true b n ys ns h f g = let k : n ≤ ys = f refl in omega (arith, k)
some_most false true n ys ns h f g = let k : n ≤ ns = g refl in omega (arith, k)
some_most false false n ys ns h f g = cc

both_most : (a b : Bool) (n m k : ℕ) → (a && b) ≡ true → (a ≡ true → m ≤ k) → (b ≡ true → n ≤ m) → n ≤ k
both_most true true n m k h f g = let i : m ≤ k = f refl in let j : n ≤ m = g refl in omega (arith, i, j)
both_most true false n m k h f g = cc
both_most false b n m k h f g = cc

mutual
  pub command_most : (c : Command) (rest : List Path) → command_goes_on c ≡ true → length rest ≤ length (command_paths c rest)
  command_most (Declare x e) rest h = omega arith
  command_most (Assign x e) rest h = omega arith
  command_most (Fetch r t k) rest h = omega arith
  command_most (Choose c ys ns) rest h =
      omega (arith, test_most c (block_paths ys rest) (block_paths ns rest), some_most (block_goes_on ys) (block_goes_on ns) (length rest) (length (block_paths ys rest)) (length (block_paths ns rest)) h (block_most ys rest) (block_most ns rest))
  command_most (ForRows r t c body) rest h = omega arith
  command_most (ForEach x l body) rest h = omega arith
  command_most (Insert t vs) rest h = omega arith
  command_most (Fresh x t vs) rest h = omega arith
  command_most (Update t k ss) rest h = omega arith
  command_most (Remove t k) rest h = omega arith
  command_most (Abort n) rest h = cc
  command_most (Reply e) rest h = omega arith

  pub block_most : (b : Block) (rest : List Path) → block_goes_on b ≡ true → length rest ≤ length (block_paths b rest)
  block_most Finish rest h = omega arith
  block_most (Then c b) rest h =
      both_most (command_goes_on c) (block_goes_on b) (length rest) (length (block_paths b rest)) (length (command_paths c (block_paths b rest))) h (command_most c (block_paths b rest)) (block_most b rest)

pub behind_many : (c : Command) (rest : List Path) → command_goes_on c ≡ true → 1024 < length rest → 1024 < length (command_paths c rest)
behind_many c rest h more = omega (arith, command_most c rest h)

pub ruleset counts = (yes_many, no_many, command_ends, behind_many)
