-- The tables of the initial rows, one row more.
use Rattle.std.proofs.Common.{◌≡◌, ℕ, zero, suc, ◌+◌, ◌-◌, ◌<◌, ◌≤◌, ◌||◌, if◌then◌else◌, cond, Bool, true, false, List, [], ◌∷◌, ◌++◌, length, take, get_or, Option, Some, None, slice_get, refl, sym, ap, subst, ◌∙◌, arith}
use Rattle.std.specs.Prelude.{map, All}
use Rattle.std.proofs.lemmas.List.{take_more}
use Rattle.std.proofs.lemmas.Map.Views.{tells_apart}
use Rattle.std.specs.FinMap.{get, insert, get-insert, get-empty, same_map, empty as empty_tables}
use Rattle.sv_value.specs.declared.values.Val.{Val}
use Rattle.sv_app.specs.declared.places.Place.{Place}
use Rattle.sv_app.specs.declared.requests.InitRow.{InitRow}
use Rattle.sv_app.specs.declared.schemas.Column.{Column}
use Rattle.sv_app.specs.declared.schemas.Table.{Table}
use Rattle.sv_app.specs.Accepted.{AcceptedSchema}
use Rattle.sv_app.specs.Schema.{Declaration, declaration_of, schema_of}
use Rattle.sv_app.proofs.AcceptedLaws.{narrow}
use Rattle.sv_app.specs.Tables.{place_cmp}
use Rattle.sv_app.proofs.PlaceLaws.{place_total, exact_places}
use Rattle.sv_app.proofs.TestLaws.{or_none}
use Rattle.sv_effect.specs.StampedTables.{StampedRow}
use Rattle.sv_effect.specs.RowChange.{row_from}
use Rattle.sv_effect.specs.Applied.{columns_of}
use Rattle.sv_effect.specs.Fits.{CountsFit}
use Rattle.sv_effect.specs.RowsFit.{RowStands, RowIsOf, TablesAreOf}
use Rattle.sv_effect.specs.Cut.{empty}
use Rattle.sv_effect.specs.TablesOfCut.{is_place, init_place, initial, tables_held}
use Rattle.sv_effect.proofs.PlaceListLaws.{among}
use Rattle.sv_effect.proofs.InitialLaws.{start_row, get-start, init_stands}
use Rattle.sv_effect.proofs.SourceLaws.{inserted_is_of}
use Rattle.sv_store.specs.Initial.{ValuesFit, InitFits, AreDistinct}
use Rattle.sv_store.specs.Stored.{Stored, HasRoom, room_after, with_row}
use Rattle.sv_store.proofs.TakeLaws.{declared_as, is_declared}

abbrev one_more : Place → InitRow → Bool → Option (List Val) → Option (List Val)
one_more q x b o = if b then o else if is_place q (init_place x) then Some x.values else None

initial-push : (q : Place) (xs : List InitRow) (x : InitRow) → initial q (xs ++ x ∷ []) ≡ one_more q x (among q (map init_place xs)) (initial q xs)
initial-push q [] x = refl
initial-push q (y ∷ xs) x = split (is_place q (init_place y)) (initial-push q xs x)
  where
    split : (b : Bool) → initial q (xs ++ x ∷ []) ≡ one_more q x (among q (map init_place xs)) (initial q xs)
        → (if b then Some y.values else initial q (xs ++ x ∷ [])) ≡ one_more q x (b || among q (map init_place xs)) (if b then Some y.values else initial q xs)
    split true ih = refl
    split false ih = ih

among-push : (q : Place) (xs : List InitRow) (x : InitRow) → among q (map init_place (xs ++ x ∷ [])) ≡ (among q (map init_place xs) || is_place q (init_place x))
among-push q [] x = or_none (is_place q (init_place x))
among-push q (y ∷ xs) x = split (is_place q (init_place y)) (among-push q xs x)
  where
    split : (b : Bool) → among q (map init_place (xs ++ x ∷ [])) ≡ (among q (map init_place xs) || is_place q (init_place x))
        → (b || among q (map init_place (xs ++ x ∷ []))) ≡ ((b || among q (map init_place xs)) || is_place q (init_place x))
    split true ih = refl
    split false ih = ih

tables_held-push : (schema : List Declaration) (xs : List InitRow) (x : InitRow) → among (init_place x) (map init_place xs) ≡ false
    → tables_held schema (xs ++ x ∷ []) empty ≡ insert (tables_held schema xs empty) (init_place x) (start_row schema (init_place x) (Some x.values))
tables_held-push schema xs x new = same_map place_total exact_places _ _ (λ q.
    get-start schema (xs ++ x ∷ []) q
    ∙ (λ i. if among-push q xs x i then Some (start_row schema q (initial-push q xs x i)) else None)
    ∙ split q (among q (map init_place xs)) (is_place q (init_place x)) refl refl
    ∙ ap (cond (is_place q (init_place x)) (Some (start_row schema (init_place x) (Some x.values)))) (sym (get-start schema xs q))
    ∙ sym (get-insert place_total (tables_held schema xs empty) (init_place x) (start_row schema (init_place x) (Some x.values)) q))
  where
    split : (q : Place) (a b : Bool) → among q (map init_place xs) ≡ a → is_place q (init_place x) ≡ b
        → ◌≡◌ {A = Option StampedRow} (if a || b then Some (start_row schema q (if a then initial q xs else if b then Some x.values else None)) else None)
        (cond b (Some (start_row schema (init_place x) (Some x.values))) (if a then Some (start_row schema q (initial q xs)) else None))
    split q true true at here =
        let is : q ≡ init_place x = tells_apart exact_places q (init_place x) here in
        let twice : among (init_place x) (map init_place xs) ≡ true = subst (λ p. among p (map init_place xs) ≡ true) is at in
        absurd cc
    split q true false at here = refl
    split q false true at here = let is : q ≡ init_place x = tells_apart exact_places q (init_place x) here in ap (λ p. Some (start_row schema p (Some x.values))) is
    split q false false at here = refl

-- a row's place is none of those before it
new_place : (init : List InitRow) (i : ℕ) (d : InitRow) → AreDistinct init → i < length init → among (init_place (get_or init i d)) (map init_place (take i init)) ≡ false
new_place [] i d distinct lt = absurd (omega (arith, lt))
new_place (y ∷ init) zero d distinct lt = refl
new_place (y ∷ init) (suc i) d distinct lt = apart (is_place (init_place (get_or init i d)) (init_place y)) refl (new_place init i d distinct.1 (omega (arith, lt)))
  where
    apart : (b : Bool) → is_place (init_place (get_or init i d)) (init_place y) ≡ b → among (init_place (get_or init i d)) (map init_place (take i init)) ≡ false
        → (b || among (init_place (get_or init i d)) (map init_place (take i init))) ≡ false
    apart true is rest = absurd (distinct.0 i d (omega (arith, lt)) (sym (tells_apart exact_places (init_place (get_or init i d)) (init_place y) is)))
    apart false is rest = rest

pub init_none : (schema : List Declaration) → empty_tables ≡ tables_held schema [] empty
init_none schema = same_map place_total exact_places _ _ (λ q. get-empty place_cmp q ∙ sym (get-start schema [] q))

-- the place of the next row is free
init_free : (schema : List Declaration) (init : List InitRow) (i : ℕ) (x : InitRow) → AreDistinct init → i < length init → x ≡ get_or init i x
    → get (tables_held schema (take i init) empty) (init_place x) ≡ None
init_free schema init i x distinct lt is =
    get-start schema (take i init) (init_place x)
    ∙ ap (λ b. if b then Some (start_row schema (init_place x) (initial (init_place x) (take i init))) else None)
    (ap (λ y. among (init_place y) (map init_place (take i init))) is ∙ new_place init i x distinct lt)

same_table : (a b : Declaration) → Some a ≡ Some b → a ≡ b
same_table a b e = cc

-- a store that has so many of the initial rows, and room for the others and for more
pub record Started (schema : List Declaration) (init : List InitRow) (room i : ℕ) (s : Stored) : Type 0 where
  pub tables : s.tables ≡ tables_held schema (take i init) empty
  pub left : s.room + i ≡ length init + room
  pub of : TablesAreOf schema s.tables

init_room : (schema : List Declaration) (init : List InitRow) (room i : ℕ) (s : Stored) (x : InitRow) → AreDistinct init → i < length init → x ≡ get_or init i x
    → Started schema init room i s → HasRoom (get s.tables (init_place x)) s.room
init_room schema init room i s x distinct lt is started =
    let some : 1 ≤ s.room = omega (arith, lt, started.left) in
    subst (λ o. HasRoom o s.room) (sym (ap (λ t. get t (init_place x)) started.tables ∙ init_free schema init i x distinct lt is)) some

init_more : (schema : List Declaration) (init : List InitRow) (room i : ℕ) (s new : Stored) (x : InitRow) (table : Declaration) (p : Place) (row : StampedRow) → AreDistinct init → i < length init
    → x ≡ get_or init i x → slice_get schema x.table ≡ Some table → Started schema init room i s → p ≡ init_place x → row ≡ row_from table.columns x.values true → CountsFit row.cells → InitFits schema x → new ≡ with_row s p row
    → Started schema init room (i + 1) new
init_more schema init room i s new x table p row distinct lt is declared started place start counts fit made = record { tables = tables; left = left; of = of }
  where
    list : take (i + 1) init ≡ take i init ++ x ∷ []
    list = take_more init i x lt ∙ ap (λ y. take i init ++ y ∷ []) (sym is)

    free : among (init_place x) (map init_place (take i init)) ≡ false
    free = ap (λ y. among (init_place y) (map init_place (take i init))) is ∙ new_place init i x distinct lt

    row_is : row ≡ start_row schema (init_place x) (Some x.values)
    row_is = start ∙ ap (λ o. row_from (columns_of o) x.values true) (sym declared)

    tables : new.tables ≡ tables_held schema (take (i + 1) init) empty
    tables =
        ap (λ s. s.tables) made
        ∙ (λ k. insert (started.tables k) (place k) (row_is k))
        ∙ sym (ap (λ l. tables_held schema l empty) list ∙ tables_held-push schema (take i init) x free)

    none : get s.tables p ≡ None
    none = (λ k. get (started.tables k) (place k)) ∙ init_free schema init i x distinct lt is

    fewer : new.room ≡ s.room - 1
    fewer = ap (λ s. s.room) made ∙ ap (λ o. room_after o s.room) none

    stands : RowStands schema (init_place x) row
    stands = subst (RowStands schema (init_place x)) (sym (start ∙ ap (λ t. row_from t.columns x.values true) (same_table table fit.table (sym declared ∙ fit.declared)))) (init_stands schema x started.of.accepted fit)

    row_of_app : RowIsOf schema p row
    row_of_app = subst (λ q. RowIsOf schema q row) (sym place) (record { stands = stands; counts = counts })

    of : TablesAreOf schema new.tables
    of = subst (TablesAreOf schema) (sym (ap (λ s. s.tables) made)) (inserted_is_of schema s.tables p row started.of row_of_app)

    left : (new.room + (i + 1)) ≡ (length init + room)
    left = omega (arith, fewer, lt, started.left)

length-values : (columns : List Column) (vs : List Val) → ValuesFit columns vs → length vs ≡ length columns
length-values [] [] fits = refl
length-values [] (v ∷ vs) fits = absurd fits
length-values (column ∷ columns) [] fits = absurd fits
length-values (column ∷ columns) (v ∷ vs) fits = ap suc (length-values columns vs fits.1)

-- what the next row needs
pub record Ready (tables : List Table) (x : InitRow) (table : Table) : Type 0 where
  pub declared : slice_get (schema_of tables) x.table ≡ Some (declaration_of table)
  pub few : length (declaration_of table).columns ≤ 16
  pub full : length x.values ≡ length (declaration_of table).columns

init_bound : (tables : List Table) (init : List InitRow) (i : ℕ) (x : InitRow) → All (InitFits (schema_of tables)) init → i < length init
    → x ≡ get_or init i x → x.table < length tables
init_bound tables init i x fits lt is = let fit : InitFits (schema_of tables) x = subst (InitFits (schema_of tables)) (sym is) (fits i x lt) in is_declared tables x.table fit.table fit.declared

init_ready : (tables : List Table) (init : List InitRow) (i : ℕ) (x : InitRow) (table : Table) → AcceptedSchema (schema_of tables)
    → All (InitFits (schema_of tables)) init → i < length init
    → x ≡ get_or init i x → table ≡ get_or tables x.table table → Ready tables x table
init_ready tables init i x table accepted fits lt is at = record {
  declared = declared;
  few = narrow (schema_of tables) accepted x.table (declaration_of table) declared;
  full = length-values fit.table.columns x.values fit.values ∙ ap (λ t. length t.columns) (same_table fit.table (declaration_of table) (sym fit.declared ∙ declared));
}
  where
    fit : InitFits (schema_of tables) x
    fit = subst (InitFits (schema_of tables)) (sym is) (fits i x lt)

    declared : slice_get (schema_of tables) x.table ≡ Some (declaration_of table)
    declared = declared_as tables x.table table (init_bound tables init i x fits lt is) at

-- the store that nothing was put into
pub none_are_of : (schema : List Declaration) → AcceptedSchema schema → TablesAreOf schema empty_tables
none_are_of schema accepted = record { accepted = accepted; rows = λ place row at. let e : ◌≡◌ {A = Option StampedRow} None (Some row) = sym (get-empty place_cmp place) ∙ at in absurd cc }

init_fit : (schema : List Declaration) (init : List InitRow) (i : ℕ) (x : InitRow) → All (InitFits schema) init → i < length init → x ≡ get_or init i x
    → InitFits schema x
init_fit schema init i x fits lt is = subst (InitFits schema) (sym is) (fits i x lt)

-- what the start asks of the initial rows
pub record Starts (tables : List Table) (init : List InitRow) : Type 0 where
  pub accepted : AcceptedSchema (schema_of tables)
  pub fits : All (InitFits (schema_of tables)) init
  pub distinct : AreDistinct init

-- the row that comes next, as it was read
pub record IsRead (init : List InitRow) (i : ℕ) (x : InitRow) : Type 0 where
  pub within : i < length init
  pub is : x ≡ get_or init i x

pub read_bound : {tables : List Table} {init : List InitRow} {i : ℕ} {x : InitRow} → Starts tables init → IsRead init i x → x.table < length tables
read_bound {tables} {init} {i} {x} starts read = init_bound tables init i x starts.fits read.within read.is

pub read_ready : {tables : List Table} {init : List InitRow} {i : ℕ} {x : InitRow} (table : Table) → Starts tables init → IsRead init i x
    → table ≡ get_or tables x.table table
    → Ready tables x table
read_ready {tables} {init} {i} {x} table starts read at = init_ready tables init i x table starts.accepted starts.fits read.within read.is at

pub read_room : {tables : List Table} {init : List InitRow} {room i : ℕ} {s : Stored} {x : InitRow} (p : Place) → Starts tables init → IsRead init i x
    → Started (schema_of tables) init room i s → p ≡ init_place x → HasRoom (get s.tables p) s.room
read_room {tables} {init} {room} {i} {s} {x} p starts read started place =
    subst (λ q. HasRoom (get s.tables q) s.room) (sym place) (init_room (schema_of tables) init room i s x starts.distinct read.within read.is started)

-- and a store that keeps it goes on to the next
pub read_kept : {tables : List Table} {init : List InitRow} {room i : ℕ} {s new : Stored} {x : InitRow} {p : Place} {row : StampedRow} (table : Table)
    → Starts tables init
    → IsRead init i x → table ≡ get_or tables x.table table → Started (schema_of tables) init room i s → p ≡ init_place x
    → row ≡ row_from (declaration_of table).columns x.values true → CountsFit row.cells → new ≡ with_row s p row
    → Started (schema_of tables) init room (i + 1) new
read_kept {tables} {init} {room} {i} {s} {new} {x} {p} {row} table starts read at started place start counts made =
    init_more (schema_of tables) init room i s new x (declaration_of table) p row starts.distinct read.within read.is
    (read_ready table starts read at).declared started place start counts
    (init_fit (schema_of tables) init i x starts.fits read.within read.is) made
