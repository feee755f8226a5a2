-- How a dictionary keeps its groups.
use Rattle.std.specs.Prelude.{◌≡◌, ℕ, ◌≤◌, Bool, List, [], ◌∷◌, map, length}
use Rattle.std.specs.Global.{Vec}
use Rattle.indexmap.specs.IndexMap.{IndexMap}
use Rattle.sv_label.specs.declared.templates.Template.{Template}
use Rattle.sv_label.specs.Groups.{Group, entries}

abbrev pub templates_in : List (Vec Bool × Template) → List (List Bool × Template)
templates_in es = map (λ e. (e.0.items, e.1)) es

abbrev pub group_of : {S : Type 0} → (ℕ × ℕ) × IndexMap (Vec Bool) Template S → Group
group_of e = record { txn = e.0.0; unit = e.0.1; templates = templates_in e.1.entries }

abbrev pub groups_in : {S : Type 0} → List ((ℕ × ℕ) × IndexMap (Vec Bool) Template S) → List Group
groups_in es = map group_of es

-- no group is without a template
abbrev pub AreSome : List Group → Type 0
AreSome [] = Unit {0}
AreSome (g ∷ gs) = (1 ≤ length g.templates) × AreSome gs

pub record Keeps (groups : List Group) (count : ℕ) : Type 0 where
  pub counted : count ≡ entries groups
  pub few : entries groups ≤ 8192
  pub some : AreSome groups
