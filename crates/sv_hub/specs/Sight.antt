-- What contracts see of a hub, a pass and a turn.
use Rattle.std.specs.Prelude.{◌≡◌, List, Option, Some}
use Rattle.atomic_table.specs.Seated.{TableId}
use Rattle.sv_hub.specs.declared.views.View.{View}

-- which table it is, and the name of its value
pub record HubSight (N : Type 0) : Type 0 where
  pub table : TableId
  pub name : N

-- the table that made the pass, the name that it knows, and the past that it has seen
pub record PassSight (N I : Type 0) : Type 0 where
  pub table : TableId
  pub name : Option N
  pub seen : List I

-- the value, and the pass that entered
pub record TurnSight (V N I : Type 0) : Type 0 where
  pub value : V
  pub pass : PassSight N I

-- the hub made the pass
pub record Belongs {N I : Type 0} (hub : HubSight N) (pass : PassSight N I) : Type 0 where
  pub table : pass.table ≡ hub.table
  pub name : pass.name ≡ Some hub.name

abbrev pub pass_sight : {N I : Type 0} → TableId → View N I → PassSight N I
pass_sight table v = record { table = table; name = v.name; seen = v.seen }

-- the turn with another value
abbrev pub with_value : {V N I : Type 0} → TurnSight V N I → V → TurnSight V N I
with_value t value = record { value = value; pass = t.pass }
