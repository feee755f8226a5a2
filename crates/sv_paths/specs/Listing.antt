-- The paths of a block, listed from its end: those of what stands behind a statement, with the statement's choices before them.
use Rattle.std.specs.Prelude.{◌≡◌, ◌&&◌, ◌||◌, Bool, true, false, List, [], ◌∷◌, ◌++◌, ◌≤◌, ◌<◌, map, length, vec_len, Option, Some, None, IfSome, IfNone}
use Rattle.std.specs.Global.{Vec}
use Rattle.std.specs.Borrow.{Bor}
use Rattle.sv_app.specs.declared.txns.Stmt.{Stmt}
use Rattle.sv_app.specs.Trees.{Test, Compare, Negation, Both, Either, Command, Declare, Assign, Fetch, Choose, ForRows, ForEach, Insert, Fresh, Update, Remove, Abort, Reply, Block, Finish, Then, command_of, block_of}
use Rattle.sv_paths.specs.declared.answers.Path.{Path}

abbrev pub without_choice : Bool → Path
without_choice aborts = record { choices = []; aborts = aborts }

abbrev pub taking : Bool → Path → Path
taking choice path = record { choices = choice ∷ path.choices; aborts = path.aborts }

-- behind a comparison, and behind a condition: some paths where it is true, and others where it is false
abbrev pub both_sides : List Path → List Path → List Path
both_sides ys ns = map (taking false) ns ++ map (taking true) ys

abbrev pub test_paths : Test → List Path → List Path → List Path
test_paths (Compare a r b) ys ns = both_sides ys ns
test_paths (Negation t) ys ns = test_paths t ns ys
test_paths (Both t q) ys ns = test_paths t (test_paths q ys ns) (test_paths q ns ns)
test_paths (Either t q) ys ns = test_paths t (test_paths q ys ys) (test_paths q ys ns)

abbrev mutual
  pub command_paths : Command → List Path → List Path
  command_paths (Declare x e) rest = rest
  command_paths (Assign x e) rest = rest
  command_paths (Fetch r t k) rest = rest
  command_paths (Choose c ys ns) rest = test_paths c (block_paths ys rest) (block_paths ns rest)
  command_paths (ForRows r t c body) rest = rest
  command_paths (ForEach x l body) rest = rest
  command_paths (Insert t vs) rest = rest
  command_paths (Fresh x t vs) rest = rest
  command_paths (Update t k ss) rest = rest
  command_paths (Remove t k) rest = rest
  command_paths (Abort n) rest = without_choice true ∷ []
  command_paths (Reply e) rest = rest

  pub block_paths : Block → List Path → List Path
  block_paths Finish rest = rest
  block_paths (Then c b) rest = command_paths c (block_paths b rest)

-- whether some path doesn't abort
abbrev mutual
  pub command_goes_on : Command → Bool
  command_goes_on (Declare x e) = true
  command_goes_on (Assign x e) = true
  command_goes_on (Fetch r t k) = true
  command_goes_on (Choose c ys ns) = block_goes_on ys || block_goes_on ns
  command_goes_on (ForRows r t c body) = true
  command_goes_on (ForEach x l body) = true
  command_goes_on (Insert t vs) = true
  command_goes_on (Fresh x t vs) = true
  command_goes_on (Update t k ss) = true
  command_goes_on (Remove t k) = true
  command_goes_on (Abort n) = false
  command_goes_on (Reply e) = true

  pub block_goes_on : Block → Bool
  block_goes_on Finish = true
  block_goes_on (Then c b) = command_goes_on c && block_goes_on b

-- the first statement and the others
abbrev pub Splits : Block → Option (Bor Stmt × Bor (List Stmt)) → Type 0
Splits b None = b ≡ Finish
Splits b (Some p) = b ≡ Then (command_of p.0.now) (block_of p.1.now)

-- what is found are these paths; they are at most 1,024; where nothing is found they are more
abbrev pub Lists : List Path → Option (Vec Path) → Type 0
Lists paths found = IfSome found (λ v. v.items ≡ paths)

abbrev pub IsFew : Option (Vec Path) → Type 0
IsFew found = IfSome found (λ v. vec_len v ≤ 1024)

abbrev pub PassesLimit : List Path → Option (Vec Path) → Type 0
PassesLimit paths found = IfNone found (1024 < length paths)
