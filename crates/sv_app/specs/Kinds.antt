-- What may be done to the rows of a table: its kind says it, and a fresh table, which draws its keys, takes no other inserts.
use Rattle.std.specs.Prelude.{Bool, true, false, ◌&&◌, not}
use Rattle.std.specs.List.{list_any}
use Rattle.sv_app.specs.declared.acts.Act.{Act}
use Rattle.sv_app.specs.declared.acts.Act.TheVariants.{Insert, Fresh, Update, Remove}
use Rattle.sv_app.specs.declared.schemas.Kind.{Kind}
use Rattle.sv_app.specs.declared.schemas.Kind.TheVariants.{Plain, Aoset, Uoset, Auset, Arset}
use Rattle.sv_app.specs.declared.schemas.Merge.{Merge}
use Rattle.sv_app.specs.declared.schemas.Merge.TheVariants as merges
use Rattle.sv_app.specs.Lookups.{is_key}
use Rattle.sv_app.specs.Schema.{Declaration}

abbrev pub kind_allows : Kind → Act → Bool
kind_allows Plain Insert = true
kind_allows Plain Fresh = true
kind_allows Plain Update = true
kind_allows Plain Remove = true
kind_allows Aoset Insert = true
kind_allows Aoset Fresh = true
kind_allows Aoset Update = false
kind_allows Aoset Remove = false
kind_allows Uoset Insert = false
kind_allows Uoset Fresh = false
kind_allows Uoset Update = true
kind_allows Uoset Remove = false
kind_allows Auset Insert = true
kind_allows Auset Fresh = true
kind_allows Auset Update = true
kind_allows Auset Remove = false
kind_allows Arset Insert = true
kind_allows Arset Fresh = true
kind_allows Arset Update = true
kind_allows Arset Remove = true

abbrev pub is_drawn : Merge → Bool
is_drawn merges.Fresh = true
is_drawn merges.Plain = false
is_drawn merges.Lww = false
is_drawn merges.NumDelta = false

-- columns that stand as they are: nothing is merged in plain ones and in keys that are drawn
abbrev pub is_unmerged : Merge → Bool
is_unmerged merges.Plain = true
is_unmerged merges.Fresh = true
is_unmerged merges.Lww = false
is_unmerged merges.NumDelta = false

-- its key column is marked so
abbrev pub is_fresh : Declaration → Bool
is_fresh table = list_any (λ c. is_drawn c.merge && is_key table c.name) table.columns

abbrev pub keys_allow : Bool → Act → Bool
keys_allow fresh Insert = not fresh
keys_allow fresh Fresh = fresh
keys_allow fresh Update = true
keys_allow fresh Remove = true

abbrev pub allows : Declaration → Act → Bool
allows table act = kind_allows table.kind act && keys_allow (is_fresh table) act

abbrev pub is_annotated : Kind → Bool
is_annotated Plain = false
is_annotated Aoset = true
is_annotated Uoset = true
is_annotated Auset = true
is_annotated Arset = true

-- the tables whose rows are never removed
abbrev pub is_grow_only : Kind → Bool
is_grow_only Plain = false
is_grow_only Aoset = true
is_grow_only Uoset = true
is_grow_only Auset = true
is_grow_only Arset = false
