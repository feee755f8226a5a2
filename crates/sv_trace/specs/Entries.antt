-- The entry of a trace that a change belongs to: that of the turn of a loop, or of the body, in which its statement was run.
use Rattle.std.specs.Prelude.{◌≡◌, ℕ, List, [], ◌∷◌, ◌++◌, Some, slice_get}
use Rattle.std.specs.List.{Contains}
use Rattle.sv_app.specs.declared.acts.Act.{Act}
use Rattle.sv_app.specs.declared.acts.Act.TheVariants as acts
use Rattle.sv_app.specs.declared.instances.Instance.{Instance}
use Rattle.sv_app.specs.Trees.{Command, Declare, Assign, Fetch, Choose, ForRows, ForEach, Insert, Fresh, Update, Remove, Abort, Reply, Block, Finish, Then, Transaction}
use Rattle.sv_app.specs.Units.{units}
use Rattle.sv_effect.specs.RunChanges.{Effect}

-- the tables that a unit's statements change, and how; what stands in a loop is of the loop's unit
abbrev mutual
  pub command_changes : Command → List (ℕ × Act)
  command_changes (Declare x e) = []
  command_changes (Assign x e) = []
  command_changes (Fetch r t k) = []
  command_changes (Choose c ys ns) = block_changes ys ++ block_changes ns
  command_changes (ForRows r t c body) = []
  command_changes (ForEach x l body) = []
  command_changes (Insert t vs) = (t.num, acts.Insert) ∷ []
  command_changes (Fresh x t vs) = (t.num, acts.Fresh) ∷ []
  command_changes (Update t k ss) = (t.num, acts.Update) ∷ []
  command_changes (Remove t k) = (t.num, acts.Remove) ∷ []
  command_changes (Abort n) = []
  command_changes (Reply e) = []

  pub block_changes : Block → List (ℕ × Act)
  block_changes Finish = []
  block_changes (Then c b) = command_changes c ++ block_changes b

-- a statement of the unit of that number makes the change
pub record IsOfUnit (txn : Transaction) (unit : ℕ) (e : Effect) : Type 0 where
  pub body : Block
  pub at : slice_get (units txn.body) unit ≡ Some body
  pub makes : Contains (block_changes body) (e.place.table, e.act)

-- the change's instance is the number of an entry of a unit that makes it
pub record HasEntry (txn : Transaction) (trace : List Instance) (e : Effect) : Type 0 where
  pub entry : Instance
  pub at : slice_get trace e.instance ≡ Some entry
  pub unit : IsOfUnit txn entry.unit e
