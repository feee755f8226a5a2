-- The query over lists that were gathered.
use Rattle.std.proofs.Common.{◌≡◌, ℕ, zero, suc, ◌+◌, ◌<◌, ◌≤◌, ◌-◌, Bool, true, false, List, [], ◌∷◌, ◌++◌, length, take, drop, get_or, Option, Some, None, slice_get, refl, sym, ap, subst, ◌∙◌, arith, append_assoc, append-nil}
use Rattle.std.specs.Prelude.{ℤ, pos, ◌+ℤ◌, map, min}
use Rattle.std.specs.List.{flat_map}
use Rattle.std.proofs.lemmas.Int.{ints}
use Rattle.std.proofs.lemmas.List.{drop_more, drop_all}
use Rattle.std.proofs.lemmas.List.Concat.{flat_map-append}
use Rattle.sv_value.specs.declared.values.Val.{Val}
use Rattle.sv_app.specs.declared.schemas.Column.{Column}
use Rattle.sv_app.specs.declared.schemas.Merge.{Merge}
use Rattle.sv_app.specs.declared.schemas.Merge.TheVariants as merges
use Rattle.sv_app.specs.declared.places.Place.{Place}
use Rattle.sv_app.specs.declared.schemas.Table.{Table}
use Rattle.sv_app.specs.Schema.{Declaration, schema_of}
use Rattle.sv_effect.specs.declared.cells.Cell.{Cell}
use Rattle.sv_effect.specs.declared.cells.Cell.TheVariants.{Count, Last, Plain}
use Rattle.sv_effect.specs.declared.ops.Write.{Write}
use Rattle.sv_effect.specs.RowChange.{last_cell, turn_of}
use Rattle.sv_effect.specs.Applied.{Change, columns_of, columns_in}
use Rattle.sv_effect.specs.Fits.{CountsFit}
use Rattle.sv_effect.specs.StampedTables.{Stamped}
use Rattle.sv_effect.specs.TablesOfCut.{Family, number_in, to_column, writes_to, sum_of, set_by, sets_of, turn_by, turns_of, sum_to, all_to, greatest, last, started, plain_cell, cell_by, cells_by, mark_by}
use Rattle.sv_effect.proofs.SumLaws.{sum_of-append}
use Rattle.sv_plain.specs.declared.changes.Gathered.{Gathered}
use Rattle.sv_plain.specs.declared.changes.HeldWrite.{HeldWrite}
use Rattle.sv_plain.specs.declared.cells.HeldVal.{HeldVal}
use Rattle.sv_plain.specs.declared.cells.HeldMark.{HeldMark}
use Rattle.sv_plain.specs.Held.{change_of, write_of, val_of, mark_of}
use Rattle.sv_plain.specs.Gathers.{Gathers}
use Rattle.sv_plain.specs.Narrow.{AreNarrow}

-- what is made of each item of all lists
all_made : {A B : Type 0} (f : A → List B) (cs : Family A) (n : ℕ) → all_to (λ o. flat_map f (cs o)) n ≡ flat_map f (all_to cs n)
unfolding all_to
all_made f cs zero = refl
all_made f cs (suc n) = ap (λ l. l ++ flat_map f (cs n)) (all_made f cs n) ∙ sym (flat_map-append f (all_to cs n) (cs n))

all_summed : (ws : Family (Stamped Write)) (n : ℕ) → sum_to (λ o. sum_of (ws o)) n ≡ sum_of (all_to ws n)
unfolding all_to sum_to
all_summed ws zero = refl
all_summed ws (suc n) = ap (λ k. k +ℤ sum_of (ws n)) (all_summed ws n) ∙ sym (sum_of-append (all_to ws n) (ws n))

all_written : (number : ℕ) (cs : Family Change) → all_to (λ o. writes_to number (cs o)) 9 ≡ writes_to number (all_to cs 9)
all_written number cs = all_made (λ c. to_column number c.stamp c.value.writes.items) cs 9

pub counted : (number : ℕ) (v : Val) (g : Gathered) (cs : Family Change) (ws : List HeldWrite) (m n : ℤ) → Gathers cs g → map write_of ws ≡ writes_to number (map change_of g.all.items)
    → m ≡ n → n ≡ (number_in v +ℤ sum_of (map write_of ws)) → Count m ≡ cell_by merges.NumDelta v (λ o. writes_to number (cs o))
counted number v g cs ws m n gathers written same is =
    ap (λ k. Count k) (same ∙ is)
    ∙ ap (λ l. Count (number_in v +ℤ sum_of l)) (written ∙ ap (writes_to number) gathers.all ∙ sym (all_written number cs))
    ∙ ap (λ k. Count (number_in v +ℤ k)) (sym (all_summed (λ o. writes_to number (cs o)) 9))

pub last_written : (number : ℕ) (v : Val) (g : Gathered) (cs : Family Change) (ws : List HeldWrite) (x : HeldVal) → Gathers cs g → map write_of ws ≡ writes_to number (map change_of g.all.items)
    → val_of x ≡ greatest (started v) (sets_of (map write_of ws)) → last_cell (val_of x) ≡ cell_by merges.Lww v (λ o. writes_to number (cs o))
last_written number v g cs ws x gathers written is =
    ap last_cell is
    ∙ ap (λ l. last_cell (greatest (started v) (sets_of l))) (written ∙ ap (writes_to number) gathers.all ∙ sym (all_written number cs))
    ∙ ap (λ l. last_cell (greatest (started v) l)) (sym (all_made (λ w. set_by w.value w.stamp) (λ o. writes_to number (cs o)) 9))

pub plain_written : (number : ℕ) (v : Val) (g : Gathered) (cs : Family Change) (ws : List HeldWrite) (x : HeldVal) → Gathers cs g → map write_of ws ≡ writes_to number (map change_of g.reds.items)
    → val_of x ≡ last (started v) (sets_of (map write_of ws)) → plain_cell (val_of x) ≡ cell_by merges.Plain v (λ o. writes_to number (cs o))
plain_written number v g cs ws x gathers written is =
    ap plain_cell is ∙ ap (λ l. plain_cell (last (started v) (sets_of l))) (written ∙ ap (writes_to number) gathers.reds)

pub marked_greatest : (present : Bool) (g : Gathered) (cs : Family Change) (x : HeldMark) → Gathers cs g → mark_of x ≡ greatest (started present) (turns_of (map change_of g.all.items))
    → mark_of x ≡ mark_by true present (λ o. turns_of (cs o))
marked_greatest present g cs x gathers is =
    is ∙ ap (λ l. greatest (started present) (turns_of l)) gathers.all
    ∙ ap (greatest (started present)) (sym (all_made (λ c. turn_by (turn_of c.value.act) c.stamp) cs 9))

pub marked_last : (present : Bool) (g : Gathered) (cs : Family Change) (x : HeldMark) → Gathers cs g → mark_of x ≡ last (started present) (turns_of (map change_of g.reds.items))
    → mark_of x ≡ mark_by false present (λ o. turns_of (cs o))
marked_last present g cs x gathers is = is ∙ ap (λ l. last (started present) (turns_of l)) gathers.reds

-- the columns of a table are few
pub few_columns : (schema : List Declaration) (p : Place) (columns : List Column) → AreNarrow schema → columns ≡ columns_in schema p → length columns ≤ 16
few_columns schema p columns narrow is = subst (λ l. length l ≤ 16) (sym is) (from (slice_get schema p.table) refl)
  where
    from : (o : Option Declaration) → slice_get schema p.table ≡ o → length (columns_of o) ≤ 16
    from None e = omega arith
    from (Some table) e = narrow.each p.table table e

no_table : (tables : List Table) (n : ℕ) → length tables ≤ n → slice_get (schema_of tables) n ≡ None
no_table [] n past = refl
no_table (x ∷ tables) zero past = absurd (omega (arith, past))
no_table (x ∷ tables) (suc n) past = no_table tables n (omega (arith, past))

pub no_columns : (tables held : List Table) (p : Place) → held ≡ tables → length held ≤ p.table → [] ≡ columns_in (schema_of tables) p
no_columns tables held p same past = ap columns_of (sym (no_table tables p.table (subst (λ l. length l ≤ p.table) same past)))

-- a cell more
pub record Celled (columns : List Column) (values : List Val) (g : Gathered) (number : ℕ) (cells : List Cell) : Type 0 where
  pub long : length cells ≡ number
  pub each : (cs : Family Change) → Gathers cs g → cells ++ cells_by number (drop number columns) (drop number values) cs ≡ cells_by 0 columns values cs

pub celled_more : (columns : List Column) (values : List Val) (g : Gathered) (number : ℕ) (before now : List Cell) (column : Column) (v : Val) (cell : Cell) → number < length columns → number < length values
    → column ≡ get_or columns number column → v ≡ get_or values number v → ((cs : Family Change) → Gathers cs g → cell ≡ cell_by column.merge v (λ o. writes_to number (cs o)))
    → now ≡ before ++ cell ∷ [] → Celled columns values g number before → Celled columns values g (number + 1) now
celled_more columns values g number before now column v cell lt within is at made pushed was = record {
  long = ap length pushed ∙ long_more before cell ∙ ap (λ n. n + 1) was.long;
  each = λ cs gathers.
      ap (λ l. l ++ rest cs) pushed ∙ append_assoc before (cell ∷ []) (rest cs) ∙ ap (λ l. before ++ l) (step cs gathers) ∙ was.each cs gathers;
}
  where
    rest : Family Change → List Cell
    rest cs = cells_by (number + 1) (drop (number + 1) columns) (drop (number + 1) values) cs

    long_more : (xs : List Cell) (x : Cell) → length (xs ++ x ∷ []) ≡ length xs + 1
    long_more [] x = refl
    long_more (y ∷ xs) x = omega (arith, long_more xs x)

    one : number + 1 ≡ suc number
    one = omega arith

    columns_are : drop number columns ≡ column ∷ drop (number + 1) columns
    columns_are = drop_more columns number column lt ∙ ap (λ y. y ∷ drop (number + 1) columns) (sym is)

    values_are : drop number values ≡ v ∷ drop (number + 1) values
    values_are = drop_more values number v within ∙ ap (λ y. y ∷ drop (number + 1) values) (sym at)

    step : (cs : Family Change) → Gathers cs g → cell ∷ rest cs ≡ cells_by number (drop number columns) (drop number values) cs
    step cs gathers =
        (λ i. made cs gathers i ∷ cells_by (one i) (drop (number + 1) columns) (drop (number + 1) values) cs)
        ∙ sym (λ i. cells_by number (columns_are i) (values_are i) cs)

drop_some : {A : Type 0} (xs : List A) (n : ℕ) (x : A) (rest : List A) → drop n xs ≡ x ∷ rest → n < length xs
drop_some [] zero x rest e = absurd cc
drop_some [] (suc n) x rest e = absurd cc
drop_some (y ∷ xs) zero x rest e = omega arith
drop_some (y ∷ xs) (suc n) x rest e = omega (arith, drop_some xs n x rest e)

pub all_celled : (columns : List Column) (values : List Val) (g : Gathered) (number : ℕ) (cells : List Cell) → min (length columns) (length values) ≤ number → Celled columns values g number cells
    → (cs : Family Change) → Gathers cs g → cells ≡ cells_by 0 columns values cs
all_celled columns values g number cells past celled cs gathers = sym (append-nil cells) ∙ ap (λ l. cells ++ l) (sym none) ∙ celled.each cs gathers
  where
    none : cells_by number (drop number columns) (drop number values) cs ≡ []
    none = by (drop number columns) refl (drop number values) refl
      where
        by : (xs : List Column) → drop number columns ≡ xs → (vs : List Val) → drop number values ≡ vs → cells_by number xs vs cs ≡ []
        by [] e vs f = refl
        by (x ∷ xs) e [] f = refl
        by (x ∷ xs) e (v ∷ vs) f =
            let a : number < length columns = drop_some columns number x xs e in
            let b : number < length values = drop_some values number v vs f in
            absurd (omega (arith, past, a, b))

-- one cell more whose count is in its bounds
pub counts_push : (cells : List Cell) (cell : Cell) → CountsFit cells → CountsFit (cell ∷ []) → CountsFit (cells ++ cell ∷ [])
counts_push [] cell all one = one
counts_push (Count n ∷ cells) cell all one = (all.0, counts_push cells cell all.1 one)
counts_push (Last v s ∷ cells) cell all one = counts_push cells cell all one
counts_push (Plain v ∷ cells) cell all one = counts_push cells cell all one
