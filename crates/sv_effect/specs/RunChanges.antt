-- What one statement of a run changes: the writes of an update and of an insert, and the row after them.
use Rattle.std.specs.Prelude.{ℕ, suc, ℤ, pos, ◌+◌, ◌+ℤ◌, ◌-ℤ◌, if◌then◌else◌, Bool, true, false, List, [], ◌∷◌, Option, Some, None, map, slice_get}
use Rattle.sv_value.specs.declared.values.Key.{Key}
use Rattle.sv_value.specs.declared.values.Val.{Val}
use Rattle.sv_value.specs.declared.values.Val.TheVariants.{Int}
use Rattle.sv_app.specs.declared.acts.Act.{Act}
use Rattle.sv_app.specs.declared.apps.Ident.{Ident}
use Rattle.sv_app.specs.declared.gots.Got.{Got}
use Rattle.sv_app.specs.declared.gots.Got.TheVariants as gots
use Rattle.sv_app.specs.declared.places.Place.{Place}
use Rattle.sv_app.specs.declared.schemas.Column.{Column}
use Rattle.sv_app.specs.declared.schemas.Merge.{Merge}
use Rattle.sv_app.specs.declared.schemas.Merge.TheVariants as merges
use Rattle.sv_app.specs.Schema.{Declaration}
use Rattle.sv_app.specs.Fitting.{number_in}
use Rattle.sv_app.specs.Slots.{item, with_item}
pub use Rattle.sv_app.specs.Paths.{merge_in}
use Rattle.sv_app.specs.Symbols.{is_key_column}
pub use Rattle.sv_app.specs.Writes.{writes_at, in_order}
use Rattle.sv_app.specs.Tables.{Row}
use Rattle.sv_app.specs.Trees.{Term}
use Rattle.sv_effect.specs.declared.ops.Write.{Write}
use Rattle.sv_effect.specs.declared.ops.Write.TheVariants.{Delta, Set}
use Rattle.sv_effect.specs.declared.ops.RowEffect.{RowEffect}
use Rattle.sv_effect.specs.Acts.{is_draw}
use Rattle.sv_effect.specs.Applied.{place_of}
use Rattle.sv_app.specs.Kinds.{is_grow_only}
use Rattle.sv_effect.specs.BareTables.{got_of}
use Rattle.sv_effect.specs.RowChange.{zero_values}
use Rattle.sv_effect.specs.RunValues.{nothing, put, Scope, with_progress, narrow, Evaluated, Leaves, Gives, then_value, val_of, column, read_old, value_of}

-- a change of a run, with the number of its instance
pub record Effect : Type 0 where
  pub place : Place
  pub act : Act
  pub writes : List (ℕ × Write)
  pub instance : ℕ

abbrev pub effect_of : RowEffect → Effect
effect_of e = record { place = place_of e; act = e.act; writes = e.writes.items; instance = e.instance }

-- the key of the values of one or two key columns
abbrev pub second_of : List Val → Option Val
second_of [] = None
second_of (v ∷ vs) = Some v

abbrev pub key_of : List Val → Key
key_of [] = record { first = nothing; second = None }
key_of (v ∷ vs) = record { first = v; second = second_of vs }

-- the key of a row with these values
abbrev pub key_in : List Ident → List Val → Key
key_in key vs = key_of (map (λ name. item nothing vs name.num) key)

-- a value after a write
abbrev pub written_got : Write → Got → Got
written_got (Set v) old = got_of v
written_got (Delta d) (gots.Num n) = gots.Num (n +ℤ d)
written_got (Delta d) (gots.Text t) = gots.Text t

abbrev pub with_write : ℕ × Write → List Got → List Got
with_write w row = with_item (gots.Num (pos 0)) w.0 (written_got w.1 (column row w.0)) row

abbrev pub with_writes : List (ℕ × Write) → List Got → List Got
with_writes [] row = row
with_writes (w ∷ ws) row = with_writes ws (with_write w row)

-- a counter goes from a value to another
abbrev pub step : Option ℤ → Scope → Evaluated Write
step None s = Leaves
step (Some d) s = Gives (Delta d) s

abbrev pub delta_to : Val → Val → Scope → Evaluated Write
delta_to new old s = step (narrow (number_in new -ℤ number_in old)) s

-- an update sets a counter by what it adds to the value now, another column by the value
abbrev pub set_of : Merge → ℕ → Val → Scope → Evaluated Write
set_of merges.NumDelta c v s = then_value (read_old c s) (delta_to v)
set_of merges.Plain c v s = Gives (Set v) s
set_of merges.Lww c v s = Gives (Set v) s
set_of merges.Fresh c v s = Gives (Set v) s

abbrev pub merge_of : List Column → ℕ → Merge
merge_of columns c = merge_in (slice_get columns c)

-- the sets in order
abbrev pub sets_made : List Column → List (Ident × Term) → Scope → Evaluated (List (ℕ × Write))
sets_made columns [] s = Gives [] s
sets_made columns (set ∷ sets) s = then_value (value_of set.1 s) (λ v u. then_value (set_of (merge_of columns set.0.num) set.0.num v u)
    (λ w z. then_value (sets_made columns sets z) (λ ws q. Gives ((set.0.num, w) ∷ ws) q)))

-- an insert writes a counter by what it adds to the kept value, which is a symbol; in a grow-only table nothing is kept
abbrev pub kept_to : Val → Option Val → Scope → Evaluated Write
kept_to new None s = Leaves
kept_to new (Some old) s = delta_to new old (with_progress s (put old s.progress))

abbrev pub insert_of : Bool → Merge → Val → Got → Scope → Evaluated Write
insert_of true merges.NumDelta v kept s = Gives (Delta (number_in v)) s
insert_of false merges.NumDelta v kept s = kept_to v (val_of kept) s
insert_of grows merges.Plain v kept s = Gives (Set v) s
insert_of grows merges.Lww v kept s = Gives (Set v) s
insert_of grows merges.Fresh v kept s = Gives (Set v) s

-- the writes of an insert, to each column outside the key
abbrev pub inserts : Declaration → List Val → List Got → ℕ → List Column → Scope → Evaluated (List (ℕ × Write))
inserts table vs kept c [] s = Gives [] s
inserts table vs kept c (column' ∷ columns) s = if is_key_column table.key c then inserts table vs kept (suc c) columns s
    else then_value (insert_of (is_grow_only table.kind) column'.merge (item nothing vs c) (column kept c) s)
    (λ w u. then_value (inserts table vs kept (suc c) columns u) (λ ws z. Gives ((c, w) ∷ ws) z))

-- what a value writes into a row that wasn't there
abbrev pub first_write : Merge → Val → Write
first_write merges.NumDelta v = Delta (number_in v)
first_write merges.Plain v = Set v
first_write merges.Lww v = Set v
first_write merges.Fresh v = Set v

-- the columns but the key, with their numbers
abbrev pub outside_key : Declaration → ℕ → List Column → List (ℕ × Column)
outside_key table c [] = []
outside_key table c (column' ∷ columns) = if is_key_column table.key c then outside_key table (suc c) columns else (c, column') ∷ outside_key table (suc c) columns

-- the writes of a row whose key is drawn: a value for each of these columns
abbrev pub writes_of_columns : List (ℕ × Column) → List Val → List (ℕ × Write)
writes_of_columns (c ∷ cs) (v ∷ vs) = (c.0, first_write c.1.merge v) ∷ writes_of_columns cs vs
writes_of_columns _ _ = []

abbrev pub drawn_writes : Declaration → List Val → List (ℕ × Write)
drawn_writes table vs = writes_of_columns (outside_key table 0 table.columns) vs

-- how many keys the changes drew
abbrev pub draws : List Effect → ℕ
draws [] = 0
draws (e ∷ es) = (if is_draw e.act then 1 else 0) + draws es

-- the next key that is drawn: keys are numbered from the first, over the whole run
abbrev pub drawn_key : ℤ → List Effect → Key
drawn_key first es = record { first = Int (first +ℤ pos (draws es)); second = None }

-- the values that an insert finds: those of the kept row, else zeros with the key
abbrev pub kept_values : Declaration → Key → Option Row → List Got
kept_values table key None = map got_of (zero_values table key)
kept_values table key (Some row) = row.values

abbrev pub stands : Option Row → Bool
stands None = false
stands (Some row) = row.present
