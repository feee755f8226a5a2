-- What the changes of an operation need, and that it stands after the first of them for the others.
use Rattle.std.proofs.Common.{◌≡◌, ℕ, zero, suc, ◌+◌, ◌<◌, ◌≤◌, false, List, [], ◌∷◌, length, get_or, drop, Option, Some, None, slice_get, refl, sym, ap, subst, ◌∙◌, arith}
use Rattle.std.specs.Prelude.{unwrap_or}
use Rattle.std.specs.FinMap.{get}
use Rattle.std.specs.FinMap as map_of
use Rattle.std.proofs.lemmas.List.{drop_more}
use Rattle.sv_value.specs.declared.stamps.Stamp.{Stamp}
use Rattle.sv_app.specs.declared.acts.Act.{Act}
use Rattle.sv_app.specs.declared.acts.Act.TheVariants.{Insert, Fresh, Update, Remove}
use Rattle.sv_app.specs.declared.schemas.Table.{Table}
use Rattle.sv_app.specs.Schema.{Declaration, declaration_of, schema_of}
use Rattle.sv_app.proofs.AcceptedLaws.{narrow, no_lists}
use Rattle.sv_effect.specs.declared.ops.RowEffect.{RowEffect}
use Rattle.sv_effect.specs.declared.ops.Op.{Op}
use Rattle.sv_effect.specs.StampedTables.{StampedRow, StampedTables}
use Rattle.sv_effect.specs.RowChange.{changed, row_from, zero_row}
use Rattle.sv_effect.specs.Applied.{Change, place_of, changes_from, columns_of, annotation_of, zeros_of, with_change_at, with_changes, applied}
use Rattle.sv_effect.specs.BareTables.{how_many}
use Rattle.sv_effect.specs.Fits.{FitsSchema, AllFit, ChangeFits, CellsFit, CountsFit}
use Rattle.sv_effect.specs.RowsFit.{TablesAreOf}
use Rattle.sv_effect.specs.Acts.{IsFound}
use Rattle.sv_effect.specs.Takes.{row_left, KeepsBounds, FindsRows, as_insert, inserts}
use Rattle.sv_effect.proofs.KeptLaws.{zero_fits}
use Rattle.sv_effect.proofs.SourceLaws.{fit_rows, change_is_of}
use Rattle.sv_store.specs.Stored.{Stored, HasRoom, room_after, with_row}
use Rattle.sv_store.specs.Standing.{standing, left_by}

abbrev stamp_from : Op → ℕ → ℕ → Stamp
stamp_from op site n = record { time = op.time; site = site; place = n }

abbrev stamp_at : Op → ℕ → Stamp
stamp_at op n = stamp_from op op.site n

abbrev change_at : Op → ℕ → RowEffect → Change
change_at op n e = record { value = e; stamp = stamp_at op n }

-- what the changes from a number on need
pub record Takes (schema : List Declaration) (op : Op) (n : ℕ) (es : List RowEffect) (s : Stored) : Type 0 where
  pub rows : TablesAreOf schema s.tables
  pub fits : AllFit schema es
  pub found : FindsRows schema (changes_from op n es) s.tables
  pub counts : KeepsBounds schema (changes_from op n es) s.tables
  pub room : inserts es ≤ s.room

-- the row that a change leaves, by the declaration of its table
by_table : (schema : List Declaration) (table : Declaration) (op : Op) (n : ℕ) (e : RowEffect) (t : StampedTables) → slice_get schema e.table ≡ Some table
    → row_left schema (change_at op n e) t ≡ left_by table (stamp_at op n) e t
by_table schema table op n e t declared =
    ap (λ o. changed (annotation_of o) (stamp_at op n) e (unwrap_or (get t (place_of e)) (row_from (columns_of o) (zeros_of o e.key) false))) declared

same_table : (a b : Declaration) → Some a ≡ Some b → a ≡ b
same_table a b e = cc

-- what one change needs
pub record Needs (table : Declaration) (stamp : Stamp) (e : RowEffect) (s : Stored) : Type 0 where
  pub few : length table.columns ≤ 16
  pub change : ChangeFits table e
  pub row : CellsFit table.columns (standing table e s.tables).cells
  pub counts : CountsFit (left_by table stamp e s.tables).cells
  pub room : HasRoom (get s.tables (place_of e)) s.room

has_room : (act : Act) (o : Option StampedRow) (room n : ℕ) → IsFound act o → as_insert act + n ≤ room → HasRoom o room
has_room Insert None room n found le = omega (arith, le)
has_room Fresh None room n found le = omega (arith, le)
has_room Update None room n found le = absurd found
has_room Remove None room n found le = absurd found
has_room act (Some row) room n found le = tt

rest_room : (act : Act) (o : Option StampedRow) (room n : ℕ) → IsFound act o → as_insert act + n ≤ room → n ≤ room_after o room
rest_room Insert None room n found le = omega (arith, le)
rest_room Fresh None room n found le = omega (arith, le)
rest_room Update None room n found le = absurd found
rest_room Remove None room n found le = absurd found
rest_room act (Some row) room n found le = omega (arith, le)

-- a change takes no more room than its insert
spent : (act : Act) (o : Option StampedRow) (room : ℕ) → IsFound act o → room ≤ room_after o room + as_insert act
spent Insert None room found = omega arith
spent Fresh None room found = omega arith
spent Update None room found = absurd found
spent Remove None room found = absurd found
spent Insert (Some row) room found = omega arith
spent Fresh (Some row) room found = absurd found
spent Update (Some row) room found = omega arith
spent Remove (Some row) room found = omega arith

first_needs : (schema : List Declaration) (op : Op) (n : ℕ) (e : RowEffect) (es : List RowEffect) (s : Stored) (table : Declaration)
    → slice_get schema e.table ≡ Some table → Takes schema op n (e ∷ es) s → Needs table (stamp_at op n) e s
first_needs schema op n e es s table declared takes = record {
  few = narrow schema takes.rows.accepted e.table table declared;
  change = change;
  row = start (get s.tables (place_of e)) refl;
  counts = subst (λ row. CountsFit row.cells) (by_table schema table op n e s.tables declared) takes.counts.0;
  room = has_room e.act (get s.tables (place_of e)) s.room (inserts es) takes.found.0 takes.room;
}
  where
    change : ChangeFits table e
    change = subst (λ t. ChangeFits t e) (same_table takes.fits.0.table table (sym takes.fits.0.declared ∙ declared)) takes.fits.0.fits

    start : (o : Option StampedRow) → get s.tables (place_of e) ≡ o → CellsFit table.columns (unwrap_or o (zero_row table e.key)).cells
    start None is = zero_fits table e.key change.key (λ j column at. no_lists schema takes.rows.accepted e.table j table column declared at)
    start (Some x) is = subst (λ cs. CellsFit cs x.cells) (ap columns_of declared) (fit_rows schema s.tables takes.rows (place_of e) x is)

-- the store after the first change
abbrev after_first : Declaration → Op → ℕ → RowEffect → Stored → Stored
after_first table op n e s = with_row s (place_of e) (left_by table (stamp_at op n) e s.tables)

first_made : (schema : List Declaration) (op : Op) (n : ℕ) (e : RowEffect) (s : Stored) (table : Declaration) → slice_get schema e.table ≡ Some table
    → with_change_at schema (place_of e) (change_at op n e) s.tables ≡ (after_first table op n e s).tables
first_made schema op n e s table declared = ap (map_of.insert s.tables (place_of e)) (by_table schema table op n e s.tables declared)

rest_takes : (schema : List Declaration) (op : Op) (n : ℕ) (e : RowEffect) (es : List RowEffect) (s : Stored) (table : Declaration)
    → slice_get schema e.table ≡ Some table → Takes schema op n (e ∷ es) s → Takes schema op (suc n) es (after_first table op n e s)
rest_takes schema op n e es s table declared takes = record {
  rows = subst (TablesAreOf schema) made (change_is_of schema (change_at op n e) s.tables takes.fits.0 takes.counts.0 takes.rows);
  fits = takes.fits.1;
  found = subst (FindsRows schema (changes_from op (suc n) es)) made takes.found.1;
  counts = subst (KeepsBounds schema (changes_from op (suc n) es)) made takes.counts.1;
  room = rest_room e.act (get s.tables (place_of e)) s.room (inserts es) takes.found.0 takes.room;
}
  where
    made : with_change_at schema (place_of e) (change_at op n e) s.tables ≡ (after_first table op n e s).tables
    made = first_made schema op n e s table declared

rest_made : (schema : List Declaration) (op : Op) (n : ℕ) (e : RowEffect) (es : List RowEffect) (s : Stored) (table : Declaration)
    → slice_get schema e.table ≡ Some table
    → with_changes schema (changes_from op n (e ∷ es)) s.tables ≡ with_changes schema (changes_from op (suc n) es) (after_first table op n e s).tables
rest_made schema op n e es s table declared = ap (with_changes schema (changes_from op (suc n) es)) (first_made schema op n e s table declared)

-- a table by its number
pub declared_at : (tables : List Table) (n : ℕ) (d : Table) → n < length tables → slice_get (schema_of tables) n ≡ Some (declaration_of (get_or tables n d))
declared_at [] n d lt = absurd (omega (arith, lt))
declared_at (table ∷ tables) zero d lt = refl
declared_at (table ∷ tables) (suc n) d lt = declared_at tables n d (omega (arith, lt))

pub is_declared : (tables : List Table) (n : ℕ) (table : Declaration) → slice_get (schema_of tables) n ≡ Some table → n < length tables
is_declared [] n table e = absurd cc
is_declared (x ∷ tables) zero table e = omega arith
is_declared (x ∷ tables) (suc n) table e = omega (arith, is_declared tables n table e)

-- the turn of one change
takes_at : (schema : List Declaration) (op : Op) (i : ℕ) (e : RowEffect) (s : Stored) → i < length op.effects → e ≡ get_or op.effects i e → Takes schema op i (drop i op.effects) s
    → Takes schema op i (e ∷ drop (i + 1) op.effects) s
takes_at schema op i e s lt is takes = subst (λ es. Takes schema op i es s) (drop_more op.effects i e lt ∙ ap (λ x. x ∷ drop (i + 1) op.effects) (sym is)) takes

turn_bound : (tables : List Table) (op : Op) (i : ℕ) (e : RowEffect) (s : Stored) → i < length op.effects → e ≡ get_or op.effects i e
    → Takes (schema_of tables) op i (drop i op.effects) s
    → e.table < length tables
turn_bound tables op i e s lt is takes = let fits : FitsSchema (schema_of tables) e = (takes_at (schema_of tables) op i e s lt is takes).fits.0 in is_declared tables e.table fits.table fits.declared

pub declared_as : (tables : List Table) (n : ℕ) (table : Table) → n < length tables → table ≡ get_or tables n table → slice_get (schema_of tables) n ≡ Some (declaration_of table)
declared_as tables n table lt is = declared_at tables n table lt ∙ ap (λ t. Some (declaration_of t)) (sym is)

turn_needs : (tables : List Table) (op : Op) (i : ℕ) (e : RowEffect) (s : Stored) (table : Table) → i < length op.effects → e ≡ get_or op.effects i e
    → table ≡ get_or tables e.table table → Takes (schema_of tables) op i (drop i op.effects) s
    → Needs (declaration_of table) (stamp_at op i) e s
turn_needs tables op i e s table lt is at takes =
    first_needs (schema_of tables) op i e (drop (i + 1) op.effects) s (declaration_of table)
    (declared_as tables e.table table (turn_bound tables op i e s lt is takes) at) (takes_at (schema_of tables) op i e s lt is takes)

-- the store that the turn leaves takes the rest, which makes the same of it
turn_takes : (tables : List Table) (op : Op) (i : ℕ) (e : RowEffect) (s new : Stored) (table : Table) → i < length op.effects → e ≡ get_or op.effects i e
    → table ≡ get_or tables e.table table → Takes (schema_of tables) op i (drop i op.effects) s
    → new ≡ after_first (declaration_of table) op i e s → Takes (schema_of tables) op (i + 1) (drop (i + 1) op.effects) new
turn_takes tables op i e s new table lt is at takes made =
    let n : suc i ≡ (i + 1) = omega arith in
    subst (λ k. Takes (schema_of tables) op k (drop (i + 1) op.effects) new) n
    (subst (Takes (schema_of tables) op (suc i) (drop (i + 1) op.effects)) (sym made)
    (rest_takes (schema_of tables) op i e (drop (i + 1) op.effects) s (declaration_of table)
    (declared_as tables e.table table (turn_bound tables op i e s lt is takes) at) (takes_at (schema_of tables) op i e s lt is takes)))

turn_made : (tables : List Table) (op : Op) (i : ℕ) (e : RowEffect) (s new : Stored) (table : Table) → i < length op.effects → e ≡ get_or op.effects i e
    → table ≡ get_or tables e.table table → Takes (schema_of tables) op i (drop i op.effects) s → new ≡ after_first (declaration_of table) op i e s
    → with_changes (schema_of tables) (changes_from op (i + 1) (drop (i + 1) op.effects)) new.tables ≡ with_changes (schema_of tables) (changes_from op i (drop i op.effects)) s.tables
turn_made tables op i e s new table lt is at takes made =
    let n : (i + 1) ≡ suc i = omega arith in
    (λ k. with_changes (schema_of tables) (changes_from op (n k) (drop (i + 1) op.effects)) (made k).tables)
    ∙ sym (rest_made (schema_of tables) op i e (drop (i + 1) op.effects) s (declaration_of table) (declared_as tables e.table table (turn_bound tables op i e s lt is takes) at))
    ∙ ap (λ es. with_changes (schema_of tables) (changes_from op i es) s.tables) (sym (drop_more op.effects i e lt ∙ ap (λ x. x ∷ drop (i + 1) op.effects) (sym is)))

-- the room that was there at first, but for what the changes so far may have taken
turn_spent : (tables : List Table) (op : Op) (i first all : ℕ) (e : RowEffect) (s new : Stored) (table : Table) → i < length op.effects
    → e ≡ get_or op.effects i e
    → Takes (schema_of tables) op i (drop i op.effects) s → new ≡ after_first (declaration_of table) op i e s
    → first + inserts (drop i op.effects) ≤ s.room + all → first + inserts (drop (i + 1) op.effects) ≤ new.room + all
turn_spent tables op i first all e s new table lt is takes made le =
    let took : s.room ≤ room_after (get s.tables (place_of e)) s.room + as_insert e.act = spent e.act (get s.tables (place_of e)) s.room (takes_at (schema_of tables) op i e s lt is takes).found.0 in
    let room : new.room ≡ room_after (get s.tables (place_of e)) s.room = ap (λ x. x.room) made in
    let front : inserts (drop i op.effects) ≡ as_insert e.act + inserts (drop (i + 1) op.effects) =
    ap inserts (drop_more op.effects i e lt) ∙ ap (λ x. as_insert x.act + inserts (drop (i + 1) op.effects)) (sym is) in
    omega (arith, le, took, room, front)

-- the changes of an operation from a number on, after those before it were made: what they leave is what the operation leaves, the rows and the room fill
-- the same space, and no more room was taken than there were inserts
pub record Changing (tables : List Table) (op : Op) (first : Stored) (n : ℕ) (s : Stored) : Type 0 where
  pub takes : Takes (schema_of tables) op n (drop n op.effects) s
  pub left : with_changes (schema_of tables) (changes_from op n (drop n op.effects)) s.tables ≡ applied (schema_of tables) op first.tables
  pub room : s.room + how_many s.tables ≡ first.room + how_many first.tables
  pub spent : first.room + inserts (drop n op.effects) ≤ s.room + inserts op.effects

-- the change that comes next, read from a list of them
pub record IsRead (op : Op) (n : ℕ) (e : RowEffect) : Type 0 where
  pub within : n < length op.effects
  pub is : e ≡ get_or op.effects n e

pub change_read : (effects : List RowEffect) (op : Op) (n : ℕ) (e : RowEffect) → effects ≡ op.effects → n < length effects → e ≡ get_or effects n e
    → IsRead op n e
change_read effects op n e same within is = record { within = subst (λ es. n < length es) same within; is = is ∙ ap (λ es. get_or es n e) same }

-- it has a table, which it fits on the rows that stand there
pub read_bound : {tables : List Table} {op : Op} {first s : Stored} {n : ℕ} {e : RowEffect} → IsRead op n e → Changing tables op first n s
    → e.table < length tables
read_bound {tables} {op} {first} {s} {n} {e} read changing = turn_bound tables op n e s read.within read.is changing.takes

pub read_needs : {tables : List Table} {op : Op} {first s : Stored} {n : ℕ} {e : RowEffect} (table : Table) (site : ℕ) → IsRead op n e
    → table ≡ get_or tables e.table table
    → site ≡ op.site → Changing tables op first n s → Needs (declaration_of table) (stamp_from op site n) e s
read_needs {tables} {op} {first} {s} {n} {e} table site read at same changing =
    subst (λ x. Needs (declaration_of table) (stamp_from op x n) e s) (sym same) (turn_needs tables op n e s table read.within read.is at changing.takes)

-- and a store that makes it goes on to the next
pub read_made : {tables : List Table} {op : Op} {first s new : Stored} {n : ℕ} {e : RowEffect} (table : Table) (site : ℕ) → IsRead op n e
    → table ≡ get_or tables e.table table
    → site ≡ op.site → new ≡ with_row s (place_of e) (left_by (declaration_of table) (stamp_from op site n) e s.tables)
    → new.room + how_many new.tables ≡ s.room + how_many s.tables
    → Changing tables op first n s → Changing tables op first (n + 1) new
read_made {tables} {op} {first} {s} {new} {n} {e} table site read at same made room changing = record {
  takes = turn_takes tables op n e s new table read.within read.is at changing.takes by_stamp;
  left = turn_made tables op n e s new table read.within read.is at changing.takes by_stamp ∙ changing.left;
  room = room ∙ changing.room;
  spent = turn_spent tables op n first.room (inserts op.effects) e s new table read.within read.is changing.takes by_stamp changing.spent;
}
  where
    by_stamp : new ≡ after_first (declaration_of table) op n e s
    by_stamp = made ∙ ap (λ x. with_row s (place_of e) (left_by (declaration_of table) (stamp_from op x n) e s.tables)) same
