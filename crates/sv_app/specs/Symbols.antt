-- Where the values of symbols come from. A source is brought in when it is first evaluated in an instance; until then it isn't known.
use Rattle.std.specs.Prelude.{ℕ, ◌==◌, ◌&&◌, not, Bool, true, false, List, [], ◌∷◌, ◌++◌, filter}
use Rattle.std.specs.List.{list_any}
use Rattle.sv_app.specs.declared.apps.Ident.{Ident}
use Rattle.sv_app.specs.declared.instances.Source.{Source}
use Rattle.sv_app.specs.declared.instances.Source.TheVariants as sources
use Rattle.sv_app.specs.Trees.{Term, Number, Minus, Command, Declare, Assign, Fetch, Choose, ForRows, ForEach, Insert, Fresh, Update, Remove, Abort, Reply, Block, Finish, Then}

abbrev pub is_same_source : Source → Source → Bool
is_same_source (sources.Variable x) (sources.Variable y) = x == y
is_same_source (sources.Column r c) (sources.Column q d) = r == q && c == d
is_same_source _ _ = false

abbrev pub is_known : Source → List Source → Bool
is_known source known = list_any (is_same_source source) known

-- a product with a number or a negated number brings in no symbol
abbrev pub is_number : Term → Bool
is_number (Number n s) = true
is_number _ = false

abbrev pub is_factor : Term → Bool
is_factor (Number n s) = true
is_factor (Minus a s) = is_number a
is_factor _ = false

abbrev pub is_key_column : List Ident → ℕ → Bool
is_key_column key c = list_any (λ name. name.num == c) key

-- the variables to which statements assign, on any branch
abbrev mutual
  pub command_assigns : Command → List ℕ
  command_assigns (Declare x e) = []
  command_assigns (Assign x e) = x.num ∷ []
  command_assigns (Fetch r t k) = []
  command_assigns (Choose c ys ns) = block_assigns ys ++ block_assigns ns
  command_assigns (ForRows r t c body) = block_assigns body
  command_assigns (ForEach x l body) = block_assigns body
  command_assigns (Insert t vs) = []
  command_assigns (Fresh x t vs) = []
  command_assigns (Update t k ss) = []
  command_assigns (Remove t k) = []
  command_assigns (Abort n) = []
  command_assigns (Reply e) = []

  pub block_assigns : Block → List ℕ
  block_assigns Finish = []
  block_assigns (Then c b) = command_assigns c ++ block_assigns b

abbrev pub is_one_of : List ℕ → Source → Bool
is_one_of xs (sources.Variable x) = list_any (λ y. x == y) xs
is_one_of xs (sources.Column r c) = false

-- what is known after a loop: variables that its body assigns have new sources
abbrev pub known_after : List ℕ → List Source → List Source
known_after assigned known = filter (λ source. not (is_one_of assigned source)) known
