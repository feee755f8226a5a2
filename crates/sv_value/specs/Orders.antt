-- The orders of values, keys and stamps: integers by number, texts by bytes, an integer before a text; keys and stamps field by field.
use Rattle.std.specs.Prelude.{ℕ, List}
use Rattle.std.specs.declared.cmp.Ordering.{Ordering}
use Rattle.std.specs.declared.cmp.Ordering.TheVariants.{Less, Greater}
use Rattle.std.specs.Ordering.{nat_cmp, int_cmp, ordering_then}
use Rattle.std.specs.Option.{option_cmp}
use Rattle.std.specs.Cmp.Lexicographic.{slice_cmp}
use Rattle.sv_value.specs.declared.values.Val.{Val}
use Rattle.sv_value.specs.declared.values.Val.TheVariants.{Int, Text as IsText}
use Rattle.sv_value.specs.declared.values.Key.{Key}
use Rattle.sv_value.specs.declared.stamps.Stamp.{Stamp}

-- by bytes
abbrev pub text_cmp : List ℕ → List ℕ → Ordering
text_cmp = slice_cmp nat_cmp

-- an integer before a text
abbrev pub val_cmp : Val → Val → Ordering
val_cmp (Int x) (Int y) = int_cmp x y
val_cmp (Int x) (IsText b) = Less
val_cmp (IsText a) (Int y) = Greater
val_cmp (IsText a) (IsText b) = text_cmp a b

abbrev pub key_cmp : Key → Key → Ordering
key_cmp a b = ordering_then (val_cmp a.first b.first) (option_cmp val_cmp a.second b.second)

abbrev pub stamp_cmp : Stamp → Stamp → Ordering
stamp_cmp a b = ordering_then (nat_cmp a.time b.time) (ordering_then (nat_cmp a.site b.site) (nat_cmp a.place b.place))
