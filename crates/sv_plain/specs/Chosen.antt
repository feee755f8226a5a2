-- The least key so far, with one more key looked at.
use Rattle.std.specs.Prelude.{◌&&◌, if◌then◌else◌, Bool, true, Option, Some, None}
use Rattle.std.specs.Ordering.{is_lt}
use Rattle.sv_value.specs.declared.values.Key.{Key}
use Rattle.sv_value.specs.Orders.{key_cmp}
use Rattle.sv_effect.specs.Agrees.{is_after}

abbrev pub is_before : Key → Option Key → Bool
is_before key None = true
is_before key (Some best) = is_lt (key_cmp key best)

-- it is taken if it counts, comes after the given one, and before the least so far
abbrev pub chosen : Bool → Option Key → Key → Option Key → Option Key
chosen counts after key best = if counts && (is_after after key && is_before key best) then Some key else best
