-- What was added is found, and all else as before.
use Rattle.std.specs.Prelude.{◌≡◌, ℕ, ◌==◌, ◌&&◌, if◌then◌else◌, Bool, List, Some, None}
use Rattle.std.specs.Bool.{beq}
use Rattle.std.specs.Cmp.Lexicographic.{pointwise}
use Rattle.sv_label.specs.declared.templates.Template.{Template}
use Rattle.sv_label.specs.Groups.{Group, found, added}

abbrev pub FindsAdded : Type 0
FindsAdded = (groups : List Group) (txn unit : ℕ) (choices : List Bool) (t : Template) → found groups txn unit choices ≡ None
    → (k n : ℕ) (other : List Bool) → found (added groups txn unit choices t) k n other ≡ (if (k == txn && n == unit) && pointwise beq other choices then Some t else found groups k n other)
