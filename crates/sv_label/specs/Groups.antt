-- A dictionary: templates by transaction, unit and choices, in groups by transaction and unit, both in the order of adding.
use Rattle.std.specs.Prelude.{ℕ, ◌+◌, ◌==◌, ◌&&◌, if◌then◌else◌, Bool, List, [], ◌∷◌, ◌++◌, length, get_or, Option, Some, None}
use Rattle.std.specs.Bool.{beq}
use Rattle.std.specs.Cmp.Lexicographic.{pointwise}
use Rattle.sv_label.specs.declared.templates.Template.{Template}

pub record Group : Type 0 where
  pub txn : ℕ
  pub unit : ℕ
  pub templates : List (List Bool × Template)

abbrev pub is_of : ℕ → ℕ → Group → Bool
is_of txn unit g = txn == g.txn && unit == g.unit

-- the template with these choices
abbrev pub template_of : List Bool → List (List Bool × Template) → Option Template
template_of choices [] = None
template_of choices (e ∷ es) = if pointwise beq choices e.0 then Some e.1 else template_of choices es

-- the template of a path
abbrev pub found : List Group → ℕ → ℕ → List Bool → Option Template
found [] txn unit choices = None
found (g ∷ gs) txn unit choices = if is_of txn unit g then template_of choices g.templates else found gs txn unit choices

abbrev pub with_template : Group → List Bool → Template → Group
with_template g choices t = record { txn = g.txn; unit = g.unit; templates = g.templates ++ (choices, t) ∷ [] }

-- one more, as the last of its group; a new group is the last
abbrev pub added : List Group → ℕ → ℕ → List Bool → Template → List Group
added [] txn unit choices t = with_template (record { txn = txn; unit = unit; templates = [] }) choices t ∷ []
added (g ∷ gs) txn unit choices t = if is_of txn unit g then with_template g choices t ∷ gs else g ∷ added gs txn unit choices t

abbrev pub entries : List Group → ℕ
entries [] = 0
entries (g ∷ gs) = length g.templates + entries gs

abbrev pub group_at : List Group → ℕ → Group
group_at groups g = get_or groups g (record { txn = 0; unit = 0; templates = [] })
