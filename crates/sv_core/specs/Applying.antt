-- Operations that are applied one after the other: the tables that they leave, when they can all be applied, and what is told of tables.
use Rattle.std.specs.Prelude.{List, [], ◌∷◌}
use Rattle.sv_app.specs.Schema.{Declaration}
use Rattle.sv_app.specs.Tables.{Tables}
use Rattle.sv_effect.specs.declared.ops.Op.{Op}
use Rattle.sv_effect.specs.declared.reads.Ask.{Ask}
use Rattle.sv_effect.specs.Agrees.{Gives}
use Rattle.sv_effect.specs.Applied.{applied, changes_of}
use Rattle.sv_effect.specs.Fits.{OpFits}
use Rattle.sv_effect.specs.Reads.{Answer}
use Rattle.sv_effect.specs.StampedTables.{StampedTables}
use Rattle.sv_effect.specs.Takes.{FindsRows, KeepsBounds}

-- the tables when the operations were applied, the first one first
abbrev pub applied_in_order : List Declaration → List Op → StampedTables → StampedTables
applied_in_order schema [] t = t
applied_in_order schema (op ∷ ops) t = applied_in_order schema ops (applied schema op t)

-- an operation can be applied to these tables, where there is room for the rows that it inserts
pub record CanApply (schema : List Declaration) (op : Op) (t : StampedTables) : Type 0 where
  pub fits : OpFits schema op
  pub found : FindsRows schema (changes_of op) t
  pub counts : KeepsBounds schema (changes_of op) t

-- each of them can, to the tables that those before it leave
abbrev pub CanApplyAll : List Declaration → List Op → StampedTables → Type 0
CanApplyAll schema [] t = Unit {0}
CanApplyAll schema (op ∷ ops) t = CanApply schema op t × CanApplyAll schema ops (applied schema op t)

-- to each ask, in order, the tables give the answer that stands at its place
abbrev pub GiveAll : Tables → List Ask → List Answer → Type 0
GiveAll t [] [] = Unit {0}
GiveAll t [] (answer ∷ answers) = ⊥
GiveAll t (ask ∷ asks) [] = ⊥
GiveAll t (ask ∷ asks) (answer ∷ answers) = Gives t ask answer × GiveAll t asks answers
