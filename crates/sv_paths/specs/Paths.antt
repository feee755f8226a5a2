-- The paths of a block: lists of truth values, one for each comparison in its `if` conditions in the order of evaluation, up to its end or to an `abort`.
use Rattle.std.specs.Prelude.{◌≡◌, ◌<◌, ◌≤◌, ◌↔◌, not, ◌&&◌, ◌||◌, Bool, true, false, List, [], ◌∷◌, ◌++◌, map, length}
use Rattle.std.specs.List.{Contains}
use Rattle.std.specs.Cmp.Lexicographic.{slice_cmp}
use Rattle.std.specs.List.Sorted.{IsStrictlySortedBy}
use Rattle.std.specs.Ordering.{bool_cmp}
use Rattle.sv_app.specs.Trees.{Test, Compare, Negation, Both, Either, Command, Declare, Assign, Fetch, Choose, ForRows, ForEach, Insert, Fresh, Update, Remove, Abort, Reply, Block, Finish, Then}
use Rattle.sv_paths.specs.declared.answers.Path.{Path}
use Rattle.sv_paths.specs.declared.answers.PathStop.{PathStop}
use Rattle.sv_paths.specs.declared.answers.PathStop.TheVariants.{Many, NoMemory}

-- the choices of a first part, which comes to a truth value, and behind them those of what follows then
pub record Next (First Following : Bool → List Bool → Type 0) (choices : List Bool) : Type 0 where
  pub value : Bool
  pub front : List Bool
  pub back : List Bool
  pub whole : choices ≡ front ++ back
  pub first : First value front
  pub following : Following value back

-- one of two, by a truth value
abbrev pub OneOf : Bool → (List Bool → Type 0) → (List Bool → Type 0) → List Bool → Type 0
OneOf true Yes No = Yes
OneOf false Yes No = No

-- without a choice, and with this truth value
abbrev pub Ends : Bool → Bool → List Bool → Type 0
Ends is value choices = (value ≡ is) × (choices ≡ [])

-- the choices with which a condition is true, or false: one for each comparison. `not`, `and` and `or` evaluate all their parts
abbrev pub Judges : Test → Bool → List Bool → Type 0
Judges (Compare a r b) value = λ choices. choices ≡ value ∷ []
Judges (Negation t) value = Judges t (not value)
Judges (Both t q) value = Next (Judges t) (λ h. Next (Judges q) (λ k. Ends (h && k) value))
Judges (Either t q) value = Next (Judges t) (λ h. Next (Judges q) (λ k. Ends (h || k) value))

-- the choices with which a statement, or a block, aborts, or doesn't. A loop statement has none, since its body is a unit of its own
abbrev mutual
  pub IsStep : Command → Bool → List Bool → Type 0
  IsStep (Declare x e) aborts = Ends false aborts
  IsStep (Assign x e) aborts = Ends false aborts
  IsStep (Fetch r t k) aborts = Ends false aborts
  IsStep (Choose c ys ns) aborts = Next (Judges c) (λ holds. OneOf holds (IsPath ys aborts) (IsPath ns aborts))
  IsStep (ForRows r t c body) aborts = Ends false aborts
  IsStep (ForEach x l body) aborts = Ends false aborts
  IsStep (Insert t vs) aborts = Ends false aborts
  IsStep (Fresh x t vs) aborts = Ends false aborts
  IsStep (Update t k ss) aborts = Ends false aborts
  IsStep (Remove t k) aborts = Ends false aborts
  IsStep (Abort n) aborts = Ends true aborts
  IsStep (Reply e) aborts = Ends false aborts

  pub IsPath : Block → Bool → List Bool → Type 0
  IsPath Finish aborts = Ends false aborts
  IsPath (Then c b) aborts = Next (IsStep c) (λ stopped. OneOf stopped (Ends true aborts) (IsPath b aborts))

-- all paths, each once, in the order of their choices: false before true, and a list before its extensions
pub record AreAllPaths (body : Block) (paths : List Path) : Type 0 where
  pub each : (path : Path) → Contains paths path ↔ IsPath body path.aborts path.choices
  pub order : IsStrictlySortedBy (slice_cmp bool_cmp) (map (λ (path : Path). path.choices) paths)

-- with at most 1,023 choices
abbrev pub IsShort : Path → Type 0
IsShort path = length path.choices ≤ 1023

-- there are more than 1,024 paths
pub record HasTooMany (body : Block) : Type 0 where
  pub paths : List Path
  pub all : AreAllPaths body paths
  pub more : 1024 < length paths

abbrev pub FitsLimit : Block → Type 0
FitsLimit body = HasTooMany body → ⊥

-- why no paths are answered
abbrev pub IsCause : Block → PathStop → Type 0
IsCause body (Many count) = (count ≡ 1025) × HasTooMany body
IsCause body NoMemory = Unit {0}
