-- Changes made to a row one after the other give what the query over all changes gives.
use Rattle.std.proofs.Common.{◌≡◌, ◌⊎◌, inl, inr, ℕ, suc, ◌+◌, ◌<◌, ◌≤◌, ◌==◌, if◌then◌else◌, Bool, true, false, List, [], ◌∷◌, ◌++◌, Option, Some, None, refl, sym, ap, subst, ◌∙◌, arith}
use Rattle.std.proofs.lemmas.List.Concat.{flat_map-append}
use Rattle.sv_value.specs.declared.values.Val.{Val}
use Rattle.sv_value.specs.declared.stamps.Stamp.{Stamp}
use Rattle.sv_app.specs.declared.schemas.Column.{Column}
use Rattle.sv_effect.specs.declared.cells.Cell.{Cell}
use Rattle.sv_effect.specs.declared.ops.Write.{Write}
use Rattle.sv_effect.specs.declared.ops.Write.TheVariants.{Delta, Set}
use Rattle.sv_effect.specs.StampedTables.{Stamped, StampedRow}
use Rattle.sv_effect.specs.RowChange.{made, each, turned, turn_of, marked, changed}
use Rattle.sv_effect.specs.Applied.{Change}
use Rattle.sv_effect.specs.Fits.{AllAbove, Ascending, columns_written}
use Rattle.sv_app.specs.Kinds.{is_unmerged}
use Rattle.sv_effect.specs.Threatened.{is_plain_column}
use Rattle.sv_effect.specs.TablesOfCut.{Family, to_column, writes_to, set_by, sets_of, turn_by, turns_of, all_to, greatest, last, started, cell_by, cells_by, mark_by, row_by}
use Rattle.sv_effect.proofs.Members.{In, Comes, comes, Source, source, in_all, Grown}
use Rattle.sv_effect.proofs.GreatestLaws.{Alone}
use Rattle.sv_effect.proofs.CellLaws.{all_made, all_made-append, made_is, Late, greatest_more, last_more, cell_more}
use Rattle.sv_app.proofs.TestLaws.{other_test, test_same}

-- changes made to a row in order
abbrev pub changed_all : Bool → List Change → StampedRow → StampedRow
changed_all annotated [] row = row
changed_all annotated (c ∷ cs) row = changed_all annotated cs (changed annotated c.stamp c.value row)

abbrev pub all_turned : Bool → List (Stamped Bool) → Stamped Bool → Stamped Bool
all_turned annotated [] mark = mark
all_turned annotated (t ∷ ts) mark = all_turned annotated ts (turned annotated mark t)

each_each : (f g h : ℕ → Cell → Cell) (k : ℕ) (cells : List Cell) → ((c : ℕ) (x : Cell) → f c (g c x) ≡ h c x) → each f k (each g k cells) ≡ each h k cells
each_each f g h k [] same = refl
each_each f g h k (x ∷ cells) same = λ i. same k x i ∷ each_each f g h (suc k) cells same i

each_id : (k : ℕ) (cells : List Cell) → cells ≡ each (λ c. all_made []) k cells
each_id k [] = refl
each_id k (x ∷ cells) = ap (λ l. x ∷ l) (each_id (suc k) cells)

pub changed_cells : (annotated : Bool) (cs : List Change) (row : StampedRow) → (changed_all annotated cs row).cells ≡ each (λ column. all_made (writes_to column cs)) 0 row.cells
changed_cells annotated [] row = each_id 0 row.cells
changed_cells annotated (c ∷ cs) row =
    changed_cells annotated cs (changed annotated c.stamp c.value row)
    ∙ each_each (λ column. all_made (writes_to column cs)) (λ column. made c.stamp column c.value.writes.items) (λ column. all_made (writes_to column (c ∷ cs))) 0 row.cells
    (λ column x. ap (all_made (writes_to column cs)) (made_is c.stamp column c.value.writes.items x) ∙ sym (all_made-append (to_column column c.stamp c.value.writes.items) (writes_to column cs) x))

pub changed_mark : (annotated : Bool) (cs : List Change) (row : StampedRow) → (changed_all annotated cs row).mark ≡ all_turned annotated (turns_of cs) row.mark
changed_mark annotated [] row = refl
changed_mark annotated (c ∷ cs) row = changed_mark annotated cs (changed annotated c.stamp c.value row) ∙ first (turn_of c.value.act)
  where
    first : (o : Option Bool) → all_turned annotated (turns_of cs) (marked annotated c.stamp o row.mark) ≡ all_turned annotated (turn_by o c.stamp ++ turns_of cs) row.mark
    first None = refl
    first (Some on) = refl

-- what the changes of a family are like: none has another's stamp, each is of an operation's time, and writes each column at most once
pub record Orderly (cs : List Change) : Type 0 where
  pub alone : Alone cs
  pub late : Late cs
  pub once : (c : Change) → In c cs → Ascending (columns_written c.value.writes.items)

-- a set value, and the change that set it
record SetBy (column : ℕ) (cs : List Change) (x : Stamped Val) : Type 0 where
  change : Change
  is : In change cs
  write : Stamped Write
  writes : In write (to_column column change.stamp change.value.writes.items)
  sets : write.value ≡ Set x.value
  stamp : x.stamp ≡ change.stamp

pub column_stamp : (column : ℕ) (s : Stamp) (ws : List (ℕ × Write)) (w : Stamped Write) → In w (to_column column s ws) → w.stamp ≡ s
column_stamp column s [] w h = absurd h
column_stamp column s (x ∷ ws) w h = split (x.0 == column) h (λ i. column_stamp column s ws w i)
  where
    split : (b : Bool) → In w (if b then record { value = x.1; stamp = s } ∷ to_column column s ws else to_column column s ws) → (In w (to_column column s ws) → w.stamp ≡ s) → w.stamp ≡ s
    split true (inl e) ih = ap (λ z. z.stamp) e
    split true (inr i) ih = ih i
    split false i ih = ih i

column_past : (column n : ℕ) (s : Stamp) (ws : List (ℕ × Write)) → column ≤ n → AllAbove n (columns_written ws) → to_column column s ws ≡ []
column_past column n s [] le above = refl
column_past column n s (w ∷ ws) le above =
    let lt : n < w.0 = above.0 in
    rw (other_test w.0 column (λ e. absurd (omega (arith, lt, le, e)))) (column_past column n s ws le above.1)

-- a change writes a column once
column_once : (column : ℕ) (s : Stamp) (ws : List (ℕ × Write)) (a b : Stamped Write) → Ascending (columns_written ws) → In a (to_column column s ws) → In b (to_column column s ws) → a ≡ b
column_once column s [] a b order h k = absurd h
column_once column s (w ∷ ws) a b order h k = split (w.0 == column) refl h k (λ i j. column_once column s ws a b order.1 i j)
  where
    split : (t : Bool) → (w.0 == column) ≡ t → In a (if t then record { value = w.1; stamp = s } ∷ to_column column s ws else to_column column s ws)
        → In b (if t then record { value = w.1; stamp = s } ∷ to_column column s ws else to_column column s ws)
        → (In a (to_column column s ws) → In b (to_column column s ws) → a ≡ b) → a ≡ b
    split false is h k ih = ih h k
    split true is h k ih = alone h ∙ sym (alone k)
      where
        none : to_column column s ws ≡ []
        none = let e : w.0 ≡ column = test_same w.0 column is in column_past column w.0 s ws (omega (arith, e)) order.0

        alone : {x : Stamped Write} → (x ≡ record { value = w.1; stamp = s }) ⊎ In x (to_column column s ws) → x ≡ record { value = w.1; stamp = s }
        alone (inl e) = e
        alone {x} (inr i) = absurd (subst (λ l. In x l) none i)

set_is : (w : Write) (s : Stamp) (x : Stamped Val) → In x (set_by w s) → (w ≡ Set x.value) × (x.stamp ≡ s)
set_is (Delta d) s x h = absurd h
set_is (Set v) s x (inl e) = (ap (λ z. Set z.value) (sym e), ap (λ z. z.stamp) e)
set_is (Set v) s x (inr h) = absurd h

set_by_change : (column : ℕ) (f : Family Change) (x : Stamped Val) → In x (all_to (λ o. sets_of (writes_to column (f o))) 9) → SetBy column (all_to f 9) x
set_by_change column f x h =
    let s : Source (λ o. sets_of (writes_to column (f o))) 9 x = source (λ o. sets_of (writes_to column (f o))) 9 x h in
    let w : Comes (λ w. set_by w.value w.stamp) (writes_to column (f s.origin)) x = comes (λ w. set_by w.value w.stamp) (writes_to column (f s.origin)) x s.is in
    let c : Comes (λ c. to_column column c.stamp c.value.writes.items) (f s.origin) w.from = comes (λ c. to_column column c.stamp c.value.writes.items) (f s.origin) w.from w.is in
    let both : (w.from.value ≡ Set x.value) × (x.stamp ≡ w.from.stamp) = set_is w.from.value w.from.stamp x w.gives in
    record {
      change = c.from;
      is = in_all f 9 c.from (record { origin = s.origin; below = s.below; is = c.is });
      write = w.from;
      writes = c.gives;
      sets = both.0;
      stamp = both.1 ∙ column_stamp column c.from.stamp c.from.value.writes.items w.from c.gives;
    }

same_set : (v w : Val) → Set v ≡ Set w → v ≡ w
same_set v w e = cc

pub sets_alone : (column : ℕ) (f : Family Change) → Orderly (all_to f 9) → Alone (all_to (λ o. sets_of (writes_to column (f o))) 9)
sets_alone column f orderly a b h k e = λ i. record { value = value i; stamp = e i }
  where
    s : SetBy column (all_to f 9) a
    s = set_by_change column f a h

    t : SetBy column (all_to f 9) b
    t = set_by_change column f b k

    one : t.change ≡ s.change
    one = orderly.alone t.change s.change t.is s.is (sym t.stamp ∙ sym e ∙ s.stamp)

    write : s.write ≡ t.write
    write = column_once column s.change.stamp s.change.value.writes.items s.write t.write (orderly.once s.change s.is) s.writes
        (subst (λ c. In t.write (to_column column c.stamp c.value.writes.items)) one t.writes)

    value : a.value ≡ b.value
    value = same_set a.value b.value (sym s.sets ∙ ap (λ w. w.value) write ∙ t.sets)

pub sets_late : (column : ℕ) (f : Family Change) → Orderly (all_to f 9) → Late (all_to (λ o. sets_of (writes_to column (f o))) 9)
sets_late column f orderly x h =
    let s : SetBy column (all_to f 9) x = set_by_change column f x h in
    let l : 1 ≤ s.change.stamp.time = orderly.late s.change s.is in
    let e : x.stamp.time ≡ s.change.stamp.time = ap (λ z. z.time) s.stamp in
    omega (arith, l, e)

-- a turn of the mark, and the change that turned it
record TurnBy (cs : List Change) (x : Stamped Bool) : Type 0 where
  change : Change
  is : In change cs
  turns : turn_of change.value.act ≡ Some x.value
  stamp : x.stamp ≡ change.stamp

pub turn_is : (o : Option Bool) (s : Stamp) (x : Stamped Bool) → In x (turn_by o s) → (o ≡ Some x.value) × (x.stamp ≡ s)
turn_is None s x h = absurd h
turn_is (Some on) s x (inl e) = (ap (λ z. Some z.value) (sym e), ap (λ z. z.stamp) e)
turn_is (Some on) s x (inr h) = absurd h

turn_by_change : (f : Family Change) (x : Stamped Bool) → In x (all_to (λ o. turns_of (f o)) 9) → TurnBy (all_to f 9) x
turn_by_change f x h =
    let s : Source (λ o. turns_of (f o)) 9 x = source (λ o. turns_of (f o)) 9 x h in
    let c : Comes (λ c. turn_by (turn_of c.value.act) c.stamp) (f s.origin) x = comes (λ c. turn_by (turn_of c.value.act) c.stamp) (f s.origin) x s.is in
    let both : (turn_of c.from.value.act ≡ Some x.value) × (x.stamp ≡ c.from.stamp) = turn_is (turn_of c.from.value.act) c.from.stamp x c.gives in
    record { change = c.from; is = in_all f 9 c.from (record { origin = s.origin; below = s.below; is = c.is }); turns = both.0; stamp = both.1 }

same_turn : (a b : Bool) → Some a ≡ Some b → a ≡ b
same_turn a b e = cc

turns_alone : (f : Family Change) → Orderly (all_to f 9) → Alone (all_to (λ o. turns_of (f o)) 9)
turns_alone f orderly a b h k e = λ i. record { value = value i; stamp = e i }
  where
    s : TurnBy (all_to f 9) a
    s = turn_by_change f a h

    t : TurnBy (all_to f 9) b
    t = turn_by_change f b k

    one : s.change ≡ t.change
    one = orderly.alone s.change t.change s.is t.is (sym s.stamp ∙ e ∙ t.stamp)

    value : a.value ≡ b.value
    value = same_turn a.value b.value (sym s.turns ∙ ap (λ c. turn_of c.value.act) one ∙ t.turns)

turns_late : (f : Family Change) → Orderly (all_to f 9) → Late (all_to (λ o. turns_of (f o)) 9)
turns_late f orderly x h =
    let s : TurnBy (all_to f 9) x = turn_by_change f x h in
    let l : 1 ≤ s.change.stamp.time = orderly.late s.change s.is in
    let e : x.stamp.time ≡ s.change.stamp.time = ap (λ z. z.time) s.stamp in
    omega (arith, l, e)

grown_writes : (column : ℕ) (f g : Family Change) (o : ℕ) (more : List Change) → Grown f g o more → Grown (λ p. writes_to column (f p)) (λ p. writes_to column (g p)) o (writes_to column more)
grown_writes column f g o more grown = record {
  here = ap (writes_to column) grown.here ∙ flat_map-append (λ c. to_column column c.stamp c.value.writes.items) (f o) more;
  others = λ p apart. ap (writes_to column) (grown.others p apart);
}

grown_turns : (f g : Family Change) (o : ℕ) (more : List Change) → Grown f g o more → Grown (λ p. turns_of (f p)) (λ p. turns_of (g p)) o (turns_of more)
grown_turns f g o more grown = record {
  here = ap turns_of grown.here ∙ flat_map-append (λ c. turn_by (turn_of c.value.act) c.stamp) (f o) more;
  others = λ p apart. ap turns_of (grown.others p apart);
}

-- the changes of a blue operation write no plain column
abbrev pub WritesNoPlain : ℕ → List Column → List Change → Type 0
WritesNoPlain number columns cs = (j : ℕ) → is_plain_column columns j ≡ true → writes_to (number + j) cs ≡ []

cells_more : (number : ℕ) (columns : List Column) (vs : List Val) (f g : Family Change) (o : ℕ) (more : List Change) → Grown f g o more → o < 9 → Orderly (all_to g 9)
    → (o ≡ 0) ⊎ WritesNoPlain number columns more → cells_by number columns vs g ≡ each (λ column. all_made (writes_to column more)) number (cells_by number columns vs f)
cells_more number [] [] f g o more grown small orderly blue = refl
cells_more number [] (v ∷ vs) f g o more grown small orderly blue = refl
cells_more number (column ∷ columns) [] f g o more grown small orderly blue = refl
cells_more number (column ∷ columns) (v ∷ vs) f g o more grown small orderly blue =
    λ i. here i ∷ cells_more (suc number) columns vs f g o more grown small orderly (rest blue) i
  where
    at : (number + 0) ≡ number
    at = omega arith

    plain : (o ≡ 0) ⊎ WritesNoPlain number (column ∷ columns) more → is_unmerged column.merge ≡ true → (o ≡ 0) ⊎ (sets_of (writes_to number more) ≡ [])
    plain (inl e) is = inl e
    plain (inr none) is = inr (ap sets_of (ap (λ n. writes_to n more) (sym at) ∙ none 0 is))

    here : cell_by column.merge v (λ p. writes_to number (g p)) ≡ all_made (writes_to number more) (cell_by column.merge v (λ p. writes_to number (f p)))
    here = cell_more column.merge v (λ p. writes_to number (f p)) (λ p. writes_to number (g p)) o (writes_to number more) (grown_writes number f g o more grown) small
        (sets_alone number g orderly) (sets_late number g orderly) (plain blue)

    rest : (o ≡ 0) ⊎ WritesNoPlain number (column ∷ columns) more → (o ≡ 0) ⊎ WritesNoPlain (suc number) columns more
    rest (inl e) = inl e
    rest (inr none) = inr (λ j is. let n : (number + suc j) ≡ (suc number + j) = omega arith in ap (λ k. writes_to k more) (sym n) ∙ none (suc j) is)

turned_greatest : (ts : List (Stamped Bool)) (mark : Stamped Bool) → all_turned true ts mark ≡ greatest mark ts
turned_greatest [] mark = refl
turned_greatest (t ∷ ts) mark = turned_greatest ts (turned true mark t)

turned_last : (ts : List (Stamped Bool)) (mark : Stamped Bool) → all_turned false ts mark ≡ last mark ts
turned_last [] mark = refl
turned_last (t ∷ ts) mark = turned_last ts t

mark_more : (annotated present : Bool) (f g : Family Change) (o : ℕ) (more : List Change) → Grown f g o more → o < 9 → Orderly (all_to g 9)
    → (annotated ≡ false → (o ≡ 0) ⊎ (turns_of more ≡ []))
    → mark_by annotated present (λ p. turns_of (g p)) ≡ all_turned annotated (turns_of more) (mark_by annotated present (λ p. turns_of (f p)))
mark_more true present f g o more grown small orderly blue =
    greatest_more present (λ p. turns_of (f p)) (λ p. turns_of (g p)) o (turns_of more) (grown_turns f g o more grown) small (turns_alone g orderly) (turns_late g orderly)
    ∙ sym (turned_greatest (turns_of more) (greatest (started present) (all_to (λ p. turns_of (f p)) 9)))
mark_more false present f g o more grown small orderly blue =
    last_more (started present) (λ p. turns_of (f p)) (λ p. turns_of (g p)) o (turns_of more) (grown_turns f g o more grown) (blue refl)
    ∙ sym (turned_last (turns_of more) (last (started present) (turns_of (f 0))))

-- a blue operation's changes of a row
pub record Merging (annotated : Bool) (columns : List Column) (cs : List Change) : Type 0 where
  pub plain : WritesNoPlain 0 columns cs
  pub turns : annotated ≡ false → turns_of cs ≡ []

-- the row of a place, with more changes by one origin
pub row_more : (annotated : Bool) (columns : List Column) (vs : List Val) (present : Bool) (f g : Family Change) (o : ℕ) (more : List Change) → Grown f g o more → o < 9 → Orderly (all_to g 9)
    → (o ≡ 0) ⊎ Merging annotated columns more → row_by annotated columns vs present g ≡ changed_all annotated more (row_by annotated columns vs present f)
row_more annotated columns vs present f g o more grown small orderly blue = λ i. record { cells = cells i; mark = mark i }
  where
    plain : (o ≡ 0) ⊎ Merging annotated columns more → (o ≡ 0) ⊎ WritesNoPlain 0 columns more
    plain (inl e) = inl e
    plain (inr m) = inr m.plain

    still : (o ≡ 0) ⊎ Merging annotated columns more → annotated ≡ false → (o ≡ 0) ⊎ (turns_of more ≡ [])
    still (inl e) is = inl e
    still (inr m) is = inr (m.turns is)

    cells : (row_by annotated columns vs present g).cells ≡ (changed_all annotated more (row_by annotated columns vs present f)).cells
    cells = cells_more 0 columns vs f g o more grown small orderly (plain blue) ∙ sym (changed_cells annotated more (row_by annotated columns vs present f))

    mark : (row_by annotated columns vs present g).mark ≡ (changed_all annotated more (row_by annotated columns vs present f)).mark
    mark = mark_more annotated present f g o more grown small orderly (still blue) ∙ sym (changed_mark annotated more (row_by annotated columns vs present f))
