-- What acts are: which of them insert, which draw the key of the row, and which rows they find.
use Rattle.std.specs.Prelude.{Bool, true, false, Option, Some, None}
use Rattle.sv_app.specs.declared.acts.Act.{Act}
use Rattle.sv_app.specs.declared.acts.Act.TheVariants.{Insert, Fresh, Update, Remove}

abbrev pub is_insert : Act → Bool
is_insert Insert = true
is_insert Fresh = true
is_insert Update = false
is_insert Remove = false

abbrev pub is_draw : Act → Bool
is_draw Insert = false
is_draw Fresh = true
is_draw Update = false
is_draw Remove = false

-- an update or a remove is of a row that is kept, and no row is kept under a key that is drawn
abbrev pub IsFound : {A : Type 0} → Act → Option A → Type 0
IsFound Insert row = Unit {0}
IsFound Fresh None = Unit {0}
IsFound Fresh (Some row) = ⊥
IsFound Update None = ⊥
IsFound Update (Some row) = Unit {0}
IsFound Remove None = ⊥
IsFound Remove (Some row) = Unit {0}
