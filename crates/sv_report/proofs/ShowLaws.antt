-- The rows of a table that are told key by key are its present rows, in the order of their keys.
use Rattle.std.proofs.Common.{codes, ◌≡◌, ℕ, suc, ◌+◌, ◌<◌, Bool, true, false, cond, ◌&&◌, ◌==◌, List, [], ◌∷◌, ◌++◌, length, take, get_or, map, filter, Some, refl, sym, ap, subst, ◌∙◌, arith, T}
use Rattle.std.specs.Prelude.{Contains, slice_get}
use Rattle.std.specs.List.{flat_map}
use Rattle.std.specs.Option.{option_map}
use Rattle.std.proofs.lemmas.Bool.Decides.{Decides-eqb}
use Rattle.std.proofs.lemmas.List.{take_more, flat_map_more}
use Rattle.std.proofs.lemmas.Option.{slice_get-map, slice_get_read}
use Rattle.std.specs.Ordering.{is_lt}
use Rattle.std.specs.FinMap.{entries, entries_sorted, entries-from_sorted, get}
use Rattle.std.specs.FinMap.Entries.{is_sorted, below_all}
use Rattle.sv_value.specs.declared.values.Key.{Key}
use Rattle.sv_app.specs.declared.places.Place.{Place}
use Rattle.sv_app.specs.declared.schemas.Table.{Table}
use Rattle.sv_app.specs.Schema.{declaration_of, schema_of}
use Rattle.sv_app.specs.Tables as tables
use Rattle.sv_app.specs.Tables.{Tables, place_cmp}
use Rattle.sv_effect.specs.declared.cells.Cell.{Cell}
use Rattle.sv_effect.specs.Agrees.{place_at, seen_at, seen_in}
use Rattle.sv_effect.specs.BareTables.{bare, bare_row, value_of}
use Rattle.sv_effect.specs.Run.{keys_among, present_keys}
use Rattle.sv_effect.specs.StampedTables.{StampedRow, StampedTables}
use Rattle.sv_effect.proofs.SourceLaws.{seen_at-bare}
use Rattle.sv_report.specs.Lines.{got_text, gots_text, row_line, show_head, show_lines, values_line}
use Rattle.sv_report.specs.ReplayText.{is_shown, name_of, rows_of}
use Rattle.sv_report.specs.Shows.{line_at}
use Rattle.sv_report.proofs.RowsOfLaws.{behind, stands_found}

-- one key more
pub keys_more : (out : List ℕ) (t : Tables) (table : ℕ) (keys : List Key) (i : ℕ) (key : Key) → i < length keys → key ≡ get_or keys i key
    → (out ++ flat_map (line_at t table) (take i keys)) ++ line_at t table key ≡ out ++ flat_map (line_at t table) (take (i + 1) keys)
keys_more out t table keys i key lt is =
    flat_map_more (line_at t table) out (take i keys) key ∙ ap (λ ks. out ++ flat_map (line_at t table) ks) (sym (take_more keys i key lt ∙ ap (λ k. take i keys ++ k ∷ []) (sym is)))

pub ruleset shows = keys_more

-- an entry without its stamps
abbrev bare_entry : Place × StampedRow → Place × tables.Row
bare_entry e = (e.0, bare_row e.1)

below_bare : (p : Place) (es : List (Place × StampedRow)) → below_all place_cmp p (map bare_entry es) ≡ below_all place_cmp p es
below_bare p [] = refl
below_bare p (e ∷ es) = ap (λ b. is_lt (place_cmp p e.0) && b) (below_bare p es)

sorted_bare : (es : List (Place × StampedRow)) → is_sorted place_cmp (map bare_entry es) ≡ is_sorted place_cmp es
sorted_bare [] = refl
sorted_bare (e ∷ es) = ap (λ b. b && is_sorted place_cmp (map bare_entry es)) (below_bare e.0 es) ∙ ap (λ b. below_all place_cmp e.0 es && b) (sorted_bare es)

entries_bare : (s : StampedTables) → entries (bare s) ≡ map bare_entry (entries s)
entries_bare s = entries-from_sorted place_cmp (map bare_entry (entries s)) (subst T (sym (sorted_bare (entries s))) (entries_sorted s))

cells_told : (cells : List Cell) → gots_text (map value_of cells) ≡ flat_map (λ cell. codes " " ++ got_text (value_of cell)) cells
cells_told [] = refl
cells_told (cell ∷ cells) = ap (λ l. (codes " " ++ got_text (value_of cell)) ++ l) (cells_told cells)

row_told : (e : Place × StampedRow) → values_line (map value_of e.1.cells) ≡ row_line e
row_told e = ap (λ l. codes "row" ++ l ++ codes "\n") (cells_told e.1.cells)

-- a test of two numbers either way round
same_tests : (a b : ℕ) → (a == b) ≡ (b == a)
same_tests a b = by (a == b) (b == a) refl refl
  where
    by : (x y : Bool) → (a == b) ≡ x → (b == a) ≡ y → x ≡ y
    by true true e f = refl
    by false false e f = refl
    by true false e f = sym ((Decides-eqb b a).1 (sym ((Decides-eqb a b).0 e))) ∙ f
    by false true e f = sym e ∙ (Decides-eqb a b).1 (sym ((Decides-eqb b a).0 f))

-- the row of an entry, told by its key
key_told : (s : StampedTables) (table : ℕ) (e : Place × StampedRow) → table ≡ e.0.table → get s e.0 ≡ Some e.1 → line_at (bare s) table e.0.key ≡ row_line e
key_told s table e same kept =
    ap (λ n. values_line (seen_at (bare s) (place_at n e.0.key)).values) same
    ∙ ap (λ seen. values_line seen.values) (seen_at-bare s e.0 ∙ ap (λ o. seen_in (option_map bare_row o)) kept)
    ∙ row_told e

-- entries of the tables are told, and counted, by the keys among them
told : (s : StampedTables) (table : ℕ) (es : List (Place × StampedRow)) → ((e : Place × StampedRow) → Contains es e → get s e.0 ≡ Some e.1)
    → flat_map (line_at (bare s) table) (keys_among table (map bare_entry es)) ≡ flat_map row_line (filter (is_shown table) es)
told s table [] kept = refl
told s table (e ∷ es) kept = by (table == e.0.table) refl (told s table es (λ x has. kept x (behind e x es has)))
  where
    goal : Bool → Bool → Type 0
    goal b c = flat_map (line_at (bare s) table) (cond (b && e.1.mark.value) (e.0.key ∷ keys_among table (map bare_entry es)) (keys_among table (map bare_entry es)))
        ≡ flat_map row_line (cond (c && e.1.mark.value) (e ∷ filter (is_shown table) es) (filter (is_shown table) es))

    rest : Type 0
    rest = flat_map (line_at (bare s) table) (keys_among table (map bare_entry es)) ≡ flat_map row_line (filter (is_shown table) es)

    by_mark : (m : Bool) → (table == e.0.table) ≡ true → rest
        → flat_map (line_at (bare s) table) (cond m (e.0.key ∷ keys_among table (map bare_entry es)) (keys_among table (map bare_entry es)))
        ≡ flat_map row_line (cond m (e ∷ filter (is_shown table) es) (filter (is_shown table) es))
    by_mark true is others = ap (λ l. l ++ flat_map (line_at (bare s) table) (keys_among table (map bare_entry es))) (key_told s table e ((Decides-eqb table e.0.table).0 is) (kept e (0, omega arith, refl)))
        ∙ ap (λ l. row_line e ++ l) others
    by_mark false is others = others

    by : (b : Bool) → (table == e.0.table) ≡ b → rest → goal (table == e.0.table) (e.0.table == table)
    by true is others = subst (λ c. goal (table == e.0.table) c) (same_tests table e.0.table) (subst (λ b. goal b b) (sym is) (by_mark e.1.mark.value is others))
    by false is others = subst (λ c. goal (table == e.0.table) c) (same_tests table e.0.table) (subst (λ b. goal b b) (sym is) others)

counted : (table : ℕ) (es : List (Place × StampedRow)) → length (keys_among table (map bare_entry es)) ≡ length (filter (is_shown table) es)
counted table [] = refl
counted table (e ∷ es) = subst (λ c. goal (table == e.0.table) c) (same_tests table e.0.table) (by (counted table es) (table == e.0.table && e.1.mark.value))
  where
    goal : Bool → Bool → Type 0
    goal b c = length (cond (b && e.1.mark.value) (e.0.key ∷ keys_among table (map bare_entry es)) (keys_among table (map bare_entry es)))
        ≡ length (cond (c && e.1.mark.value) (e ∷ filter (is_shown table) es) (filter (is_shown table) es))

    by : length (keys_among table (map bare_entry es)) ≡ length (filter (is_shown table) es) → (b : Bool)
        → length (cond b (e.0.key ∷ keys_among table (map bare_entry es)) (keys_among table (map bare_entry es))) ≡ length (cond b (e ∷ filter (is_shown table) es) (filter (is_shown table) es))
    by others true = ap suc others
    by others false = others

-- what is told of the keys of a table is what is shown of its rows
pub listed : (s t : StampedTables) (table site count : ℕ) (name shown : List ℕ) (keys : List Key) → s ≡ t → name ≡ shown → keys ≡ present_keys (bare s) table → count ≡ length keys
    → show_head site name count ++ flat_map (line_at (bare s) table) keys ≡ show_lines site shown (rows_of table t)
listed s t table site count name shown keys same named are many =
    subst (λ x. show_head site name count ++ flat_map (line_at (bare s) table) keys ≡ show_lines site shown (rows_of table x)) same
    ((λ i. show_head site (named i) (number i) ++ flat_map (line_at (bare s) table) (in_bare i))
    ∙ ap (λ l. show_head site shown (length (rows_of table s)) ++ l) (told s table (entries s) (λ e has. stands_found s e has)))
  where
    in_bare : keys ≡ keys_among table (map bare_entry (entries s))
    in_bare = are ∙ ap (keys_among table) (entries_bare s)

    number : count ≡ length (rows_of table s)
    number = many ∙ ap length in_bare ∙ counted table (entries s)

-- the name of a table of a schema
pub table_named : (tables : List Table) (number : ℕ) (table : Table) → number < length tables → table ≡ get_or tables number table → table.name.name ≡ name_of (slice_get (schema_of tables) number)
table_named tables number table within is = sym (ap name_of (slice_get-map declaration_of tables number ∙ ap (option_map declaration_of) (slice_get_read tables (length tables) number table refl within is)))

pub ruleset naming = table_named
