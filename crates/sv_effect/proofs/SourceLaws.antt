-- Tables without their stamps, and rows that are of an application.
use Rattle.std.proofs.Common.{◌≡◌, ◌≢◌, ℕ, suc, ◌+◌, cond, ◌&&◌, T, Bool, true, false, List, [], ◌∷◌, ◌++◌, Some, slice_get, ◌<◌, ◌≤◌, length, take, get_or, refl, sym, ap, subst, ◌∙◌, arith}
use Rattle.std.specs.Prelude.{map, Option, None, unwrap_or}
use Rattle.std.specs.Option.{option_map}
use Rattle.std.specs.declared.cmp.Ordering.{Ordering}
use Rattle.std.specs.Ordering.{is_eq, is_lt}
use Rattle.std.proofs.lemmas.Cmp.{eq_by_cmp_equiv}
use Rattle.std.proofs.lemmas.List.{map-append, take_more, take_all}
use Rattle.std.proofs.lemmas.Map.Views.{tells_apart}
use Rattle.std.specs.FinMap.{FinMap, find, is_sorted, entries, entries_sorted, get, get-entries, get-from_sorted, insert, get-insert, from_sorted}
use Rattle.std.specs.FinMap.Entries.{below_all}
use Rattle.sv_value.specs.declared.values.Val.{Val}
use Rattle.sv_value.specs.declared.values.Val.TheVariants.{Int, Text}
use Rattle.sv_app.specs.declared.gots.Got.{Got}
use Rattle.sv_app.specs.declared.places.Place.{Place}
use Rattle.sv_app.specs.declared.schemas.Column.{Column}
use Rattle.sv_app.specs.declared.schemas.Merge.{Merge}
use Rattle.sv_app.specs.declared.schemas.Merge.TheVariants as merges
use Rattle.sv_app.specs.declared.schemas.Ty.{Ty}
use Rattle.sv_app.specs.declared.schemas.Ty.TheVariants as types
use Rattle.sv_app.specs.Accepted.{AcceptedSchema}
use Rattle.sv_app.specs.Kinds.{is_unmerged}
use Rattle.sv_app.specs.Schema.{Declaration}
use Rattle.sv_app.specs.Tables.{place_cmp}
use Rattle.sv_app.proofs.AcceptedLaws.{no_lists, counter_is_int}
use Rattle.sv_app.proofs.PlaceLaws.{place_total, exact_places}
use Rattle.sv_effect.specs.declared.cells.Cell.{Cell}
use Rattle.sv_effect.specs.declared.cells.Cell.TheVariants.{Count, Last, Plain}
use Rattle.sv_effect.specs.StampedTables.{StampedRow, StampedTables}
use Rattle.sv_effect.specs.Applied.{Change, place_of, columns_of, zeros_of, annotated_in, zero_row_in, changed_at, with_change_at}
use Rattle.sv_effect.specs.Fits.{HasType, CellFits, CellsFit, CountsFit, FitsSchema}
use Rattle.sv_effect.specs.RowChange.{changed, row_from}
use Rattle.sv_effect.specs.TablesOfCut.{is_place}
use Rattle.sv_effect.specs.Commutes.{TablesFit}
use Rattle.sv_effect.specs.BareTables.{got_of, value_of, bare_row, bare}
use Rattle.sv_effect.specs.Agrees.{seen_in, seen_at}
use Rattle.sv_effect.specs.RowsFit.{NumberFits, GotFits, GotsFit, KeyIsOf, ValuesAreOf, SeenFits, HoldsKey, RowStands, AllStand, RowIsOf, TablesAreOf}
use Rattle.sv_effect.specs.Takes.{row_left}
use Rattle.sv_effect.specs.Words.{IsWordVal, HasWord, HaveWords}
use Rattle.sv_effect.proofs.KeptLaws.{change_kept}
use Rattle.sv_effect.proofs.KeyedLaws.{key_stays, zero_key}

-- a map with its values changed
module _ {K X Y : Type 0} (R : K → K → Ordering) (f : X → Y) where
  find_mapped : (q : K) (es : List (K × X)) → find R q (map (λ e. (e.0, f e.1)) es) ≡ option_map f (find R q es)
  find_mapped q [] = refl
  find_mapped q (e ∷ es) = elim (is_eq (R q e.0)) as (λ b. cond b (Some (f e.1)) (find R q (map (λ e. (e.0, f e.1)) es)) ≡ option_map f (cond b (Some e.1) (find R q es))) [ true ↦ refl | false ↦ find_mapped q es ]

  below_mapped : (x : K) (es : List (K × X)) → below_all R x (map (λ e. (e.0, f e.1)) es) ≡ below_all R x es
  below_mapped x [] = refl
  below_mapped x (e ∷ es) = ap (λ b. is_lt (R x e.0) && b) (below_mapped x es)

  sorted_mapped : (es : List (K × X)) → is_sorted R (map (λ e. (e.0, f e.1)) es) ≡ is_sorted R es
  sorted_mapped [] = refl
  sorted_mapped (e ∷ es) = ap (λ b. b && is_sorted R (map (λ e. (e.0, f e.1)) es)) (below_mapped e.0 es) ∙ ap (λ b. below_all R e.0 es && b) (sorted_mapped es)

  get-mapped : (m : FinMap R X) (q : K) → get (from_sorted {R = R} (map (λ e. (e.0, f e.1)) (entries m))) q ≡ option_map f (get m q)
  get-mapped m q =
      get-from_sorted R (map (λ e. (e.0, f e.1)) (entries m)) q (subst T (sym (sorted_mapped (entries m))) (entries_sorted m))
      ∙ find_mapped q (entries m) ∙ ap (option_map f) (sym (get-entries m q))

-- what stands at a place, without its stamps
pub get-bare : (t : StampedTables) (place : Place) → get (bare t) place ≡ option_map bare_row (get t place)
get-bare t place = get-mapped place_cmp bare_row t place

pub seen_at-bare : (t : StampedTables) (place : Place) → seen_at (bare t) place ≡ seen_in (option_map bare_row (get t place))
seen_at-bare t place = ap seen_in (get-bare t place)

-- the values of cells that fit their columns are of the columns' types
val_fits : (column : Column) (v : Val) → column.merge ≢ merges.NumDelta → HasType column.ty v → IsWordVal v → GotFits column (got_of v)
val_fits column (Int n) apart has word = (int_type column.ty has, number column.merge refl)
  where
    int_type : (ty : Ty) → HasType ty (Int n) → ty ≡ types.Int
    int_type types.Int h = refl
    int_type types.Text h = absurd h
    int_type types.Ints h = absurd h

    number : (m : Merge) → column.merge ≡ m → NumberFits column.merge n
    number merges.NumDelta e = absurd (apart e)
    number merges.Lww e = subst (λ x. NumberFits x n) (sym e) word
    number merges.Plain e = subst (λ x. NumberFits x n) (sym e) word
    number merges.Fresh e = subst (λ x. NumberFits x n) (sym e) word
val_fits column (Text text) apart has word = text_type column.ty has
  where
    text_type : (ty : Ty) → HasType ty (Text text) → ty ≡ types.Text
    text_type types.Int h = absurd h
    text_type types.Text h = refl
    text_type types.Ints h = absurd h

first_count : (cell : Cell) (cells : List Cell) → CountsFit (cell ∷ cells) → CountsFit (cell ∷ []) × CountsFit cells
first_count (Count n) cells fits = ((fits.0, tt), fits.1)
first_count (Last v s) cells fits = (tt, fits)
first_count (Plain v) cells fits = (tt, fits)

value_fits : (column : Column) (cell : Cell) → (column.merge ≡ merges.NumDelta → column.ty ≡ types.Int) → CellFits column cell → CountsFit (cell ∷ []) → HasWord cell → GotFits column (value_of cell)
value_fits column (Count n) int fits narrow word = (int fits, subst (λ m. NumberFits m n) (sym fits) narrow.0)
value_fits column (Last v s) int fits narrow word = val_fits column v (λ e. let clash : merges.NumDelta ≡ merges.Lww = sym e ∙ fits.0 in absurd cc) fits.1 word
value_fits column (Plain v) int fits narrow word = val_fits column v (λ e. let clash : is_unmerged merges.NumDelta ≡ true = ap is_unmerged (sym e) ∙ fits.0 in absurd cc) fits.1 word

values_fit : (columns : List Column) (cells : List Cell) → ((place : ℕ) (column : Column) → slice_get columns place ≡ Some column → column.merge ≡ merges.NumDelta → column.ty ≡ types.Int)
    → CellsFit columns cells → CountsFit cells → HaveWords cells → GotsFit columns (map value_of cells)
values_fit [] [] int fits narrow words = tt
values_fit [] (cell ∷ cells) int fits narrow words = absurd fits
values_fit (column ∷ columns) [] int fits narrow words = absurd fits
values_fit (column ∷ columns) (cell ∷ cells) int fits narrow words =
    let counts = first_count cell cells narrow in (
      value_fits column cell (int 0 column refl) fits.0 counts.0 words.0,
      values_fit columns cells (λ place c at. int (suc place) c at) fits.1 counts.1 words.1,
    )

-- what is told of a row of the application fits
pub row_fits : (schema : List Declaration) (place : Place) (row : StampedRow) → HaveWords row.cells → AcceptedSchema schema → RowIsOf schema place row → SeenFits schema place (seen_in (Some (bare_row row)))
row_fits schema place row words accepted of =
    let key : KeyIsOf schema place = of.stands.key in record {
      key = key;
      fits = values_fit key.table.columns row.cells (λ n column at is. counter_is_int schema accepted place.table n key.table column key.declared at is) of.stands.cells of.counts words;
    }

pub told_fits : (schema : List Declaration) (place : Place) (row : StampedRow) (values : List Got) → values ≡ map value_of row.cells → HaveWords row.cells → AcceptedSchema schema → RowIsOf schema place row
    → ValuesAreOf schema place values
told_fits schema place row values is words accepted of = subst (ValuesAreOf schema place) (sym is) (row_fits schema place row words accepted of)

-- one cell more
words_more : (cells : List Cell) (cell : Cell) → HaveWords cells → HasWord cell → HaveWords (cells ++ cell ∷ [])
words_more [] cell words word = (word, tt)
words_more (x ∷ cells) cell words word = (words.0, words_more cells cell words.1 word)

length_more : (values : List Got) (got : Got) → length (values ++ got ∷ []) ≡ length values + 1
length_more [] got = refl
length_more (x ∷ values) got = omega (arith, length_more values got)

-- what was told of so many cells
pub record Tells (cells : List Cell) (number : ℕ) (values : List Got) : Type 0 where
  pub long : length values ≡ number
  pub made : values ≡ map value_of (take number cells)
  pub words : HaveWords (take number cells)

pub tells_more : (cells : List Cell) (number : ℕ) (values new : List Got) (cell : Cell) (got : Got) → number < length cells → cell ≡ get_or cells number cell → Tells cells number values
    → got ≡ value_of cell → HasWord cell → new ≡ values ++ got ∷ [] → Tells cells (number + 1) new
tells_more cells number values new cell got lt is tells value word pushed = record {
  long = ap length pushed ∙ length_more values got ∙ ap (λ n. n + 1) tells.long;
  made = pushed ∙ (λ i. tells.made i ++ value i ∷ []) ∙ sym (map-append value_of (take number cells) (cell ∷ [])) ∙ ap (map value_of) (sym taken);
  words = subst HaveWords (sym taken) (words_more (take number cells) cell tells.words word);
}
  where
    taken : take (number + 1) cells ≡ take number cells ++ cell ∷ []
    taken = take_more cells number cell lt ∙ ap (λ x. take number cells ++ x ∷ []) (sym is)

pub all_words : (cells : List Cell) (number : ℕ) → length cells ≤ number → HaveWords (take number cells) → HaveWords cells
all_words cells number le words = subst HaveWords (take_all number cells le) words

pub all_stand : (schema : List Declaration) (t : StampedTables) → TablesAreOf schema t → AllStand schema t
all_stand schema t of place row at = (of.rows place row at).stands

pub fit_rows : (schema : List Declaration) (t : StampedTables) → TablesAreOf schema t → TablesFit schema t
fit_rows schema t of place row at =
    let fits : RowStands schema place row = (of.rows place row at).stands in
    subst (λ columns. CellsFit columns row.cells) (ap columns_of (sym fits.key.declared)) fits.cells

same_table : (a b : Declaration) → Some a ≡ Some b → a ≡ b
same_table a b e = cc

same_row : (a b : StampedRow) → Some a ≡ Some b → a ≡ b
same_row a b e = cc

-- a row of the application more
pub inserted_is_of : (schema : List Declaration) (t : StampedTables) (place : Place) (row : StampedRow) → TablesAreOf schema t → RowIsOf schema place row → TablesAreOf schema (insert t place row)
inserted_is_of schema t place row of new = record { accepted = of.accepted; rows = each }
  where
    each : (q : Place) (found : StampedRow) → get (insert t place row) q ≡ Some found → RowIsOf schema q found
    each q found at = split (is_place q place) refl (sym (get-insert place_total t place row q) ∙ at)
      where
        split : (b : Bool) → is_place q place ≡ b → cond b (Some row) (get t q) ≡ Some found → RowIsOf schema q found
        split true is e = subst (λ p. RowIsOf schema p found) (sym (tells_apart exact_places q place is)) (subst (RowIsOf schema place) (same_row row found e) new)
        split false is e = of.rows q found e

pub same_place : (p : Place) → is_place p p ≡ true
same_place p = (eq_by_cmp_equiv place_total).refl p

-- a change of a row that leaves its counts in their bounds
pub change_is_of : (schema : List Declaration) (c : Change) (t : StampedTables) → FitsSchema schema c.value → CountsFit (row_left schema c t).cells → TablesAreOf schema t
    → TablesAreOf schema (with_change_at schema (place_of c.value) c t)
change_is_of schema c t fits counts of = inserted_is_of schema t (place_of c.value) (row_left schema c t) of (record {
  stands = record {
    key = record { table = fits.table; declared = fits.declared; fits = fits.fits.key };
    cells = subst (λ columns. CellsFit columns (row_left schema c t).cells) (ap columns_of fits.declared)
        (change_kept schema c t (no_lists schema of.accepted) fits (fit_rows schema t of) (place_of c.value) (row_left schema c t) here);
    keyed = keyed (get t (place_of c.value)) refl;
  };
  counts = counts;
})
  where
    here : get (with_change_at schema (place_of c.value) c t) (place_of c.value) ≡ Some (row_left schema c t)
    here = get-insert place_total t (place_of c.value) (row_left schema c t) (place_of c.value)
        ∙ ap (λ b. cond b (Some (row_left schema c t)) (get t (place_of c.value))) (same_place (place_of c.value))

    annotated : Bool
    annotated = annotated_in schema (place_of c.value)

    keyed : (o : Option StampedRow) → get t (place_of c.value) ≡ o → HoldsKey fits.table c.value.key (bare_row (changed_at schema (place_of c.value) c (unwrap_or o (zero_row_in schema (place_of c.value)))))
    keyed None e = subst (λ d. HoldsKey fits.table c.value.key (bare_row (changed annotated c.stamp c.value (row_from (columns_of d) (zeros_of d c.value.key) false)))) (sym fits.declared)
        (zero_key schema of.accepted c.value.table fits.table annotated c.stamp c.value fits.declared fits.fits)
    keyed (Some x) e =
        let old : RowStands schema (place_of c.value) x = all_stand schema t of (place_of c.value) x e in
        let same : old.key.table ≡ fits.table = same_table old.key.table fits.table (sym old.key.declared ∙ fits.declared) in
        key_stays fits.table c.value.key annotated c.stamp c.value x fits.fits.key fits.fits
        (subst (λ d. CellsFit d.columns x.cells) same old.cells) (subst (λ d. HoldsKey d c.value.key (bare_row x)) same old.keyed)
