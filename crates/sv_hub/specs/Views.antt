-- What a thread knows of the value, before and after its steps.
use Rattle.std.specs.Prelude.{if◌then◌else◌, nat_lt, true, false, List, [], length, Option, None}
use Rattle.sv_hub.specs.declared.views.View.{View}

abbrev pub longer : {A : Type 0} → List A → List A → List A
longer xs ys = if nat_lt (length xs) (length ys) then ys else xs

module _ {N I : Type 0} where
  -- the name, and a past that was seen
  abbrev pub knowing : Option N → List I → View N I
  knowing name seen = record { name = name; seen = seen; joined = ([], []); holds = false }

  -- of a pass that was joined into another
  abbrev pub spent : View N I
  spent = knowing None []

  -- the same with the turn, and with the past that was found
  abbrev pub holding : View N I → List I → View N I
  holding v past = record { name = v.name; seen = past; joined = v.joined; holds = true }

  -- of two that were joined. It notes what each had seen, until a look at the turn tells that one extends the other.
  abbrev pub joining : View N I → View N I → View N I
  joining v w = record { name = v.name; seen = longer v.seen w.seen; joined = (v.seen, w.seen); holds = v.holds }
