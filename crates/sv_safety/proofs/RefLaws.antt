-- An operation whose needs hold leaves each reference to a grow-only table with a present row.
use Rattle.std.proofs.Common.{◌≡◌, ◌≢◌, ◌⊎◌, inl, inr, ℕ, suc, ◌+◌, ◌<◌, ◌≤◌, ◌&&◌, if◌then◌else◌, Bool, true, false, List, [], length, Option, Some, None, slice_get, refl, sym, ap, subst, ◌∙◌, arith}
use Rattle.std.specs.FinMap.{get}
use Rattle.std.specs.Ordering.{is_lt}
use Rattle.std.proofs.lemmas.Map.Views.{tells_apart}
use Rattle.std.proofs.lemmas.Option.{slice_get_within, slice_get-map}
use Rattle.sv_value.specs.declared.stamps.Stamp.{Stamp}
use Rattle.sv_value.specs.declared.values.Key.{Key}
use Rattle.sv_value.specs.declared.values.Val.{Val}
use Rattle.sv_value.specs.declared.values.Val.TheVariants.{Int, Text as IsText}
use Rattle.sv_value.specs.Orders.{stamp_cmp}
use Rattle.sv_app.specs.declared.apps.Ident.{Ident}
use Rattle.sv_app.specs.declared.gots.Got.{Got}
use Rattle.sv_app.specs.declared.places.Place.{Place}
use Rattle.sv_app.specs.declared.schemas.Column.{Column}
use Rattle.sv_app.specs.declared.schemas.Merge.{Merge}
use Rattle.sv_app.specs.declared.schemas.Merge.TheVariants as merges
use Rattle.sv_app.specs.Kinds.{is_grow_only}
use Rattle.sv_app.specs.Schema.{Refers, Invariant, Declaration}
use Rattle.sv_app.specs.Valid.{as_val, key_by, place_at, IsPresent, Holds, IsInvariant, Valid}
use Rattle.sv_app.specs.Valid as valid
use Rattle.sv_app.proofs.AcceptedLaws.{all_at}
use Rattle.sv_app.proofs.ListLaws.{Stands, contained, IsSomeBy, map_some, same_some}
use Rattle.sv_app.proofs.PlaceLaws.{exact_places}
use Rattle.sv_effect.specs.declared.cells.Cell.{Cell}
use Rattle.sv_effect.specs.declared.cells.Cell.TheVariants.{Count, Last, Plain}
use Rattle.sv_effect.specs.declared.ops.Need.TheVariants as needs
use Rattle.sv_effect.specs.declared.ops.Op.{Op}
use Rattle.sv_effect.specs.declared.ops.RowEffect.{RowEffect}
use Rattle.sv_effect.specs.declared.ops.Write.{Write}
use Rattle.sv_effect.specs.declared.ops.Write.TheVariants.{Delta, Set}
use Rattle.sv_effect.specs.Acts.{is_insert}
use Rattle.sv_effect.specs.Applied.{place_of, columns_of, applied}
use Rattle.sv_effect.specs.BareTables.{got_of, value_of, bare_row, bare}
use Rattle.sv_effect.specs.Fits.{IsWrite, WriteFits, FitsSchema, ChangeFits, CellFits, CellsFit, is_key_column}
use Rattle.sv_effect.specs.Has.{effects_of, IsStanding, NeedHolds, Has}
use Rattle.sv_effect.specs.Needs.{is_inserted, given, grows, needs_of}
use Rattle.sv_effect.specs.RowChange.{last_cell, written, changed, cell_from, zero_of, key_values, from_key, zero_row}
use Rattle.sv_effect.specs.RunChanges.{Effect, effect_of}
use Rattle.sv_effect.specs.StampedTables.{StampedRow, StampedTables, zero_stamp}
use Rattle.sv_effect.specs.TablesOfCut.{is_place}
use Rattle.sv_effect.specs.Threatened.{write_to, is_set}
use Rattle.sv_effect.proofs.FitLaws.{CellAt, cell_at}
use Rattle.sv_effect.proofs.KeyedLaws.{value_at, value_from}
use Rattle.sv_effect.proofs.SourceLaws.{same_place}
use Rattle.sv_safety.proofs.Cells.{by_write, write_fits, cell_after}
use Rattle.sv_safety.proofs.Finds.{listed, KeptAt, fits_at}
use Rattle.sv_safety.proofs.GrowRefs.{Later, look, sets_at, HasKey, has_key, contains, gives_set, gives_key, present_listed, inserted_kept}
use Rattle.sv_safety.proofs.KindLaws.{IsNoCounter, effect_at, holds_before, grown_kept, present_stays}
use Rattle.sv_safety.proofs.MarkSteps.{grown_stays}
use Rattle.sv_safety.proofs.RowSteps.{zero_get, zero_cell, IsWritten, insert_writes}
use Rattle.sv_safety.proofs.Stamps.{stamp_of, zero_loses, stamps_rise, Beaten, beaten_more}
use Rattle.sv_safety.proofs.TableWalk.{Base, RowStep, table_walk, to_bare}

pub as_val_got : (v : Val) → as_val (got_of v) ≡ v
as_val_got (Int n) = refl
as_val_got (IsText text) = refl

cell_set : (merge : Merge) (z v : Val) (s : Stamp) → merge ≢ merges.NumDelta → 1 ≤ s.time → (written s (Set v) (cell_from merge z) ≡ Plain v) ⊎ (written s (Set v) (cell_from merge z) ≡ Last v s)
cell_set merges.Plain z v s apart some = inl refl
cell_set merges.Fresh z v s apart some = inl refl
cell_set merges.Lww z v s apart some = inr (ap (λ b. last_cell (if b then (record { value = v; stamp = s }) else (record { value = z; stamp = zero_stamp }))) (zero_loses s some))
cell_set merges.NumDelta z v s apart some = absurd (apart refl)

-- a reference of a table to a grow-only one, and an operation that has its needs
pub record Reference (schema : List Declaration) (op : Op) (t : StampedTables) (table : ℕ) : Type 0 where
  pub base : Base schema op t
  pub holds : Valid schema (bare t)
  pub needs_are : op.needs ≡ needs_of schema (effects_of op)
  pub has : Has schema op t
  pub inv : Invariant
  pub i : IsInvariant schema table inv
  pub column : Ident
  pub parent : Ident
  pub target : Ident
  pub rule : inv.rule ≡ Refers column parent target
  pub above : Declaration
  pub above_is : slice_get schema parent.num ≡ Some above
  pub grown : is_grow_only above.kind ≡ true
  pub named : IsNoCounter i.declaration column

module _ (schema : List Declaration) (op : Op) (t : StampedTables) (table : ℕ) (r : Reference schema op t table) where
  abbrev Good : Got → Type 0
  Good got = IsPresent (bare (applied schema op t)) r.parent.num (key_by got)

  parent_grows : grows (slice_get schema r.parent.num) ≡ true
  parent_grows = ap grows r.above_is ∙ r.grown

  -- a row of the table referred to that was present is so
  still_there : (key : Key) → IsPresent (bare t) r.parent.num key → IsPresent (bare (applied schema op t)) r.parent.num key
  still_there key p = present_stays schema op t r.base r.parent.num r.above key r.above_is (λ n e at fits here. grown_stays r.above e.act r.grown fits.allowed) p

  -- and one that is inserted
  made_there : (key : Key) → is_inserted (place_at r.parent.num key) (effects_of op) ≡ true → IsPresent (bare (applied schema op t)) r.parent.num key
  made_there key is =
      let kept : KeptAt (applied schema op t) (place_at r.parent.num key) = inserted_kept schema op 0 op.effects t (place_at r.parent.num key) is in
      record {
        row = bare_row kept.row;
        kept = to_bare (applied schema op t) (place_at r.parent.num key) kept.row kept.at;
        present = grown_kept schema op t r.base r.holds r.parent.num r.above r.above_is r.grown (place_at r.parent.num key) kept.row refl kept.at;
      }

  -- what a change gives the column, and no later one sets again
  asked : (n : ℕ) (e : RowEffect) (v : Val) → slice_get op.effects n ≡ Some e → e.table ≡ table → Stands (given r.i.declaration (effect_of e) r.column.num) v
      → ((k : ℕ) (x : RowEffect) → suc n ≤ k → slice_get op.effects k ≡ Some x → sets_at (place_of e) r.column x ≡ false) → Good (got_of v)
  asked n e v at here gives last = subst (λ (x : Val). IsPresent (bare (applied schema op t)) r.parent.num (record { first = x; second = None })) (sym (as_val_got v)) (by (is_inserted (place_at r.parent.num key) (effects_of op)) refl)
    where
      key : Key
      key = record { first = v; second = None }

      declared : slice_get schema e.table ≡ Some r.i.declaration
      declared = ap (slice_get schema) here ∙ r.i.declared

      never : (k : ℕ) (other : Effect) → n < k → slice_get (effects_of op) k ≡ Some other → other.place ≡ place_of e → is_set (write_to r.column.num other.writes) ≡ false
      never k other lt there same =
          let x : IsSomeBy effect_of (slice_get op.effects k) other = map_some effect_of (slice_get op.effects k) other (sym (slice_get-map effect_of op.effects k) ∙ there) in
          subst (λ (o : Effect). is_set (write_to r.column.num o.writes) ≡ false) x.gives
          (unset (is_set (write_to r.column.num x.x.writes.items)) (place_itself x.x (ap (λ (o : Effect). o.place) x.gives ∙ same)) (last k x.x (omega (arith, lt)) x.is))
        where
          place_itself : (x : RowEffect) → place_of x ≡ place_of e → is_place (place_of e) (place_of x) ≡ true
          place_itself x same = ap (λ p. is_place (place_of e) p) same ∙ same_place (place_of e)

          unset : (b : Bool) {a : Bool} → a ≡ true → (a && b) ≡ false → b ≡ false
          unset b {a} there is = ap (λ x. x && b) (sym there) ∙ is

      standing : IsStanding schema (effects_of op) r.parent.num key
      standing = record {
        number = n;
        e = effect_of e;
        at = effect_at op n e at;
        inv = r.inv;
        among = record { declaration = r.i.declaration; declared = declared; among = r.i.among };
        column = r.column;
        parent = r.parent;
        target = r.target;
        rule = r.rule;
        refers = refl;
        asks = contains (given r.i.declaration (effect_of e) r.column.num) v gives;
        last = never;
      }

      by : (b : Bool) → is_inserted (place_at r.parent.num key) (effects_of op) ≡ b → IsPresent (bare (applied schema op t)) r.parent.num key
      by true is = made_there key is
      by false is =
          let s : Stands (needs_of schema (effects_of op)) (needs.Present r.parent.num key) =
          listed schema (effects_of op) (needs.Present r.parent.num key)
          (present_listed schema (effects_of op) [] (effects_of op) n (effect_of e) r.i.declaration r.inv r.column r.parent r.target v (effect_at op n e at) declared (contained r.i.declaration.invs r.inv r.i.among) r.rule parent_grows gives is) in
          still_there key (all_at (NeedHolds schema (effects_of op) (bare t)) op.needs s.number (needs.Present r.parent.num key) r.has (ap (λ ns. slice_get ns s.number) r.needs_are ∙ s.at) standing)

  -- the cell refers to a present row, or a change from the n-th on sets it and wins
  record Awaits (n : ℕ) (q : Place) (cell : Cell) : Type 0 where
    later : Later (sets_at q r.column) op.effects n
    beaten : Beaten op n cell

  abbrev CellFact : ℕ → Place → Cell → Type 0
  CellFact n q cell = Good (value_of cell) ⊎ Awaits n q cell

  record RefFact (n : ℕ) (q : Place) (row : StampedRow) : Type 0 where
    cell : Cell
    at : slice_get row.cells r.column.num ≡ Some cell
    fact : CellFact n q cell

  -- one that doesn't set the column there leaves it waiting
  passes : (n : ℕ) (e : RowEffect) (q : Place) (cell : Cell) → slice_get op.effects n ≡ Some e → sets_at q r.column e ≡ false → CellFact n q cell → CellFact (suc n) q cell
  passes n e q cell at unset (inl good) = inl good
  passes n e q cell at unset (inr waits) = inr (record { later = record { number = waits.later.number; x = waits.later.x; after = more; at = waits.later.at; is = waits.later.is }; beaten = beaten_more op n cell waits.beaten })
    where
      other : n ≡ waits.later.number → ⊥
      other same =
          let x : e ≡ waits.later.x = same_some (slice_get op.effects n) e waits.later.x at (ap (slice_get op.effects) same ∙ waits.later.at) in
          let both : true ≡ false = sym waits.later.is ∙ ap (sets_at q r.column) (sym x) ∙ unset in
          cc

      more : suc n ≤ waits.later.number
      more = let le : n ≤ waits.later.number = waits.later.after in omega (arith, le, other)

  -- a value that is set
  set_fact : (n : ℕ) (e : RowEffect) (v : Val) (cell : Cell) → slice_get op.effects n ≡ Some e → e.table ≡ table → write_to r.column.num e.writes.items ≡ Some (Set v) → value_of cell ≡ got_of v → Beaten op (suc n) cell
      → CellFact (suc n) (place_of e) cell
  set_fact n e v cell at here is value beaten = by (look (sets_at (place_of e) r.column) op.effects (suc n))
    where
      by : Later (sets_at (place_of e) r.column) op.effects (suc n) ⊎ ((k : ℕ) (x : RowEffect) → suc n ≤ k → slice_get op.effects k ≡ Some x → sets_at (place_of e) r.column x ≡ false) → CellFact (suc n) (place_of e) cell
      by (inl later) = inr (record { later = later; beaten = beaten })
      by (inr last) = inl (subst Good (sym value) (asked n e v at here (gives_set r.i.declaration (effect_of e) r.column.num v is) last))

  own_beaten : (n : ℕ) (v : Val) → Beaten op (suc n) (Last v (stamp_of op n))
  own_beaten n v = λ m le. stamps_rise op n m (omega (arith, le))

  fit_of : (e : RowEffect) (w : Write) → ChangeFits r.i.declaration e → write_to r.column.num e.writes.items ≡ Some w → WriteFits r.named.col w
  fit_of e w fits is = let fit : IsWrite r.i.declaration r.column.num w = write_fits r.i.declaration r.column.num e.writes.items w fits.writes is in
      subst (λ (c : Column). WriteFits c w) (same_some (slice_get r.i.declaration.columns r.column.num) fit.column r.named.col fit.declared r.named.declared) fit.fits

  written_fact : (n : ℕ) (e : RowEffect) (cell : Cell) → slice_get op.effects n ≡ Some e → e.table ≡ table → ChangeFits r.i.declaration e → CellFits r.named.col cell → CellFact n (place_of e) cell
      → (w : Option Write) → write_to r.column.num e.writes.items ≡ w → CellFact (suc n) (place_of e) (by_write (stamp_of op n) w cell)
  written_fact n e cell at here fits f fact None is = passes n e (place_of e) cell at (ap (λ w. is_place (place_of e) (place_of e) && is_set w) is ∙ ends (is_place (place_of e) (place_of e))) fact
    where
      ends : (b : Bool) → (b && false) ≡ false
      ends true = refl
      ends false = refl
  written_fact n e cell at here fits f fact (Some (Delta d)) is = absurd (r.named.apart (fit_of e (Delta d) fits is))
  written_fact n e (Count k) at here fits f fact (Some (Set v)) is = absurd (r.named.apart f)
  written_fact n e (Plain x) at here fits f fact (Some (Set v)) is = set_fact n e v (Plain v) at here is refl tt
  written_fact n e (Last x s) at here fits f fact (Some (Set v)) is = by (is_lt (stamp_cmp s (stamp_of op n))) refl fact
    where
      by : (b : Bool) → is_lt (stamp_cmp s (stamp_of op n)) ≡ b → CellFact n (place_of e) (Last x s)
          → CellFact (suc n) (place_of e) (last_cell (if b then (record { value = v; stamp = stamp_of op n }) else (record { value = x; stamp = s })))
      by true wins old = set_fact n e v (Last v (stamp_of op n)) at here is refl (own_beaten n v)
      by false loses (inl good) = inl good
      by false loses (inr waits) = absurd (let wins : is_lt (stamp_cmp s (stamp_of op n)) ≡ true = waits.beaten n (omega arith) in cc)

  found_fact : (n : ℕ) (e : RowEffect) (annotated : Bool) (row : StampedRow) → slice_get op.effects n ≡ Some e → e.table ≡ table → ChangeFits r.i.declaration e → CellsFit r.i.declaration.columns row.cells
      → RefFact n (place_of e) row → RefFact (suc n) (place_of e) (changed annotated (stamp_of op n) e row)
  found_fact n e annotated row at here fits cells old = record {
    cell = by_write (stamp_of op n) (write_to r.column.num e.writes.items) old.cell;
    at = cell_after annotated (stamp_of op n) e row r.column.num old.cell fits.order old.at;
    fact = written_fact n e old.cell at here fits fit old.fact (write_to r.column.num e.writes.items) refl;
  }
    where
      c : CellAt r.named.col row.cells r.column.num
      c = cell_at r.i.declaration.columns row.cells r.column.num r.named.col cells r.named.declared

      fit : CellFits r.named.col old.cell
      fit = subst (CellFits r.named.col) (same_some (slice_get row.cells r.column.num) c.cell old.cell c.is old.at) c.fits

  made_fact : (n : ℕ) (e : RowEffect) (annotated : Bool) → slice_get op.effects n ≡ Some e → e.table ≡ table → ChangeFits r.i.declaration e → is_insert e.act ≡ true
      → RefFact (suc n) (place_of e) (changed annotated (stamp_of op n) e (zero_row r.i.declaration e.key))
  made_fact n e annotated at here fits inserts = by (is_key_column r.i.declaration.key r.column.num) refl
    where
      s : Stamp
      s = stamp_of op n

      col : Column
      col = r.named.col

      by : (b : Bool) → is_key_column r.i.declaration.key r.column.num ≡ b → RefFact (suc n) (place_of e) (changed annotated s e (zero_row r.i.declaration e.key))
      by false out = record {
        cell = by_write s (write_to r.column.num e.writes.items) zero;
        at = cell_after annotated s e (zero_row r.i.declaration e.key) r.column.num zero fits.order (zero_cell r.i.declaration e.key r.column.num col r.named.declared out);
        fact = subst (λ w. CellFact (suc n) (place_of e) (by_write s w zero)) (sym wrote.is) (sets wrote.write wrote.is);
      }
        where
          zero : Cell
          zero = cell_from col.merge (zero_of col.ty)

          wrote : IsWritten e.writes.items r.column.num
          wrote = insert_writes r.i.declaration e r.column.num col fits inserts r.named.declared out

          sets : (w : Write) → write_to r.column.num e.writes.items ≡ Some w → CellFact (suc n) (place_of e) (written s w zero)
          sets (Delta x) is = absurd (r.named.apart (fit_of e (Delta x) fits is))
          sets (Set v) is = either (cell_set col.merge (zero_of col.ty) v s r.named.apart r.base.fits.time)
            where
              either : (written s (Set v) zero ≡ Plain v) ⊎ (written s (Set v) zero ≡ Last v s) → CellFact (suc n) (place_of e) (written s (Set v) zero)
              either (inl same) = subst (CellFact (suc n) (place_of e)) (sym same) (set_fact n e v (Plain v) at here is refl tt)
              either (inr same) = subst (CellFact (suc n) (place_of e)) (sym same) (set_fact n e v (Last v s) at here is refl (own_beaten n v))
      by true key = record {
        cell = by_write s (write_to r.column.num e.writes.items) zero;
        at = cell_after annotated s e (zero_row r.i.declaration e.key) r.column.num zero fits.order (zero_get r.i.declaration e.key 0 r.i.declaration.columns r.column.num col r.named.declared);
        fact = subst (λ w. CellFact (suc n) (place_of e) (by_write s w zero)) (sym (unwritten (write_to r.column.num e.writes.items) refl)) (inl good);
      }
        where
          zero : Cell
          zero = cell_from col.merge (from_key r.i.declaration.key (key_values e.key) (0 + r.column.num) (zero_of col.ty))

          unwritten_by : (x : RowEffect) → ChangeFits r.i.declaration x → (w : Option Write) → write_to r.column.num x.writes.items ≡ w → w ≡ None
          unwritten_by x fits None is = refl
          unwritten_by x fits (Some w) is = absurd (let out : is_key_column r.i.declaration.key r.column.num ≡ false = (write_fits r.i.declaration r.column.num x.writes.items w fits.writes is).outside in cc)

          unwritten : (w : Option Write) → write_to r.column.num e.writes.items ≡ w → w ≡ None
          unwritten w is = unwritten_by e fits w is

          has : HasKey r.i.declaration.key (key_values e.key) r.column.num (zero_of col.ty)
          has = has_key r.i.declaration.columns r.i.declaration.key (key_values e.key) r.column.num (zero_of col.ty) fits.key key

          number : (0 + r.column.num) ≡ r.column.num
          number = omega arith

          last : (k : ℕ) (x : RowEffect) → suc n ≤ k → slice_get op.effects k ≡ Some x → sets_at (place_of e) r.column x ≡ false
          last k x le there = split (is_place (place_of e) (place_of x)) refl
            where
              unset : place_of e ≡ place_of x → is_set (write_to r.column.num x.writes.items) ≡ false
              unset same =
                  let f : FitsSchema schema x = fits_at schema op.effects k x r.base.fits.changes there in
                  let declared : slice_get schema x.table ≡ Some r.i.declaration = ap (λ (p : Place). slice_get schema p.table) (sym same) ∙ ap (slice_get schema) here ∙ r.i.declared in
                  ap is_set (unwritten_by x (subst (λ y. ChangeFits y x) (same_some (slice_get schema x.table) f.table r.i.declaration f.declared declared) f.fits) (write_to r.column.num x.writes.items) refl)

              split : (b : Bool) → is_place (place_of e) (place_of x) ≡ b → (b && is_set (write_to r.column.num x.writes.items)) ≡ false
              split false same = refl
              split true same = unset (tells_apart exact_places (place_of e) (place_of x) same)

          good : Good (value_of zero)
          good = subst Good (sym ((λ i. value_of (cell_from col.merge (from_key r.i.declaration.key (key_values e.key) (number i) (zero_of col.ty)))) ∙ ap (λ v. value_of (cell_from col.merge v)) has.is ∙ value_from col.merge has.v r.named.apart))
              (asked n e has.v at here (gives_key r.i.declaration (effect_of e) r.column.num has.v inserts has.given) last)

  pub referred : (q : Place) (row : StampedRow) → q.table ≡ table → get (applied schema op t) q ≡ Some row → Good (valid.value_of (bare_row row) r.column)
  referred q row is at = over (table_walk schema op t r.base table r.i.declaration RefFact r.i.declared step others start q row is at)
    where
      step : (n : ℕ) (e : RowEffect) → slice_get op.effects n ≡ Some e → ChangeFits r.i.declaration e → e.table ≡ table → RowStep r.i.declaration op RefFact n e
      step n e there fits here = record { found = λ a row finds cells old. found_fact n e a row there here fits cells old; made = λ a inserts. made_fact n e a there here fits inserts }

      others : (n : ℕ) (e : RowEffect) (p : Place) (x : StampedRow) → slice_get op.effects n ≡ Some e → (p ≡ place_of e → ⊥) → p.table ≡ table → RefFact n p x → RefFact (suc n) p x
      others n e p x there apart here old = record { cell = old.cell; at = old.at; fact = passes n e p old.cell there (split (is_place p (place_of e)) refl) old.fact }
        where
          split : (b : Bool) → is_place p (place_of e) ≡ b → (b && is_set (write_to r.column.num e.writes.items)) ≡ false
          split false same = refl
          split true same = absurd (apart (tells_apart exact_places p (place_of e) same))

      start : (p : Place) (x : StampedRow) → p.table ≡ table → get t p ≡ Some x → RefFact 0 p x
      start p x here there = record { cell = c.cell; at = c.is; fact = inl (subst Good (value_at x r.column c.cell c.is) (still_there (key_by (valid.value_of (bare_row x) r.column)) before)) }
        where
          c : CellAt r.named.col x.cells r.column.num
          c = cell_at r.i.declaration.columns x.cells r.column.num r.named.col
              (subst (λ o. CellsFit (columns_of o) x.cells) (ap (slice_get schema) here ∙ r.i.declared) (r.base.tables p x there)) r.named.declared

          before : IsPresent (bare t) r.parent.num (key_by (valid.value_of (bare_row x) r.column))
          before = subst (λ z. Holds schema (bare t) table z p.key (bare_row x)) r.rule (holds_before schema t r.holds table r.inv r.i p x here there)
              (subst (λ o. valid.Binds o (bare_row x).present) (sym r.above_is) (inl r.grown))

      over : RefFact (length op.effects) q row → Good (valid.value_of (bare_row row) r.column)
      over f = subst Good (sym (value_at row r.column f.cell f.at)) (by f.fact)
        where
          by : CellFact (length op.effects) q f.cell → Good (value_of f.cell)
          by (inl good) = good
          by (inr waits) = absurd (
              let less : waits.later.number < length op.effects = slice_get_within op.effects waits.later.number waits.later.x waits.later.at in
              let le : length op.effects ≤ waits.later.number = waits.later.after in
              omega (arith, less, le))
