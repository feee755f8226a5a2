-- Inserts: each column outside the key is written by what fits it.
use Rattle.std.proofs.Common.{◌≡◌, ◌∙◌, ℕ, zero, suc, ◌+◌, ◌<◌, ◌-ℤ◌, ◌==◌, ◌||◌, if◌then◌else◌, Bool, true, false, List, [], ◌∷◌, length, map, Option, Some, None, slice_get, unwrap_or, refl, sym, ap, subst, arith}
use Rattle.std.specs.Option.{option_map}
use Rattle.std.proofs.lemmas.Option.{slice_get-map}
use Rattle.sv_value.specs.declared.values.Val.{Val}
use Rattle.sv_app.specs.declared.acts.Act.TheVariants as acts
use Rattle.sv_app.specs.declared.apps.Ident.{Ident}
use Rattle.sv_app.specs.declared.gots.Got.{Got}
use Rattle.sv_app.specs.declared.places.Place.{Place}
use Rattle.sv_app.specs.declared.schemas.Column.{Column}
use Rattle.sv_app.specs.declared.schemas.Merge.{Merge}
use Rattle.sv_app.specs.declared.schemas.Merge.TheVariants as merges
use Rattle.sv_app.specs.declared.schemas.Ty.{Ty}
use Rattle.sv_app.specs.declared.schemas.Ty.TheVariants as types
use Rattle.sv_app.specs.Accepted.{AcceptedSchema}
use Rattle.sv_app.specs.Kinds.{is_grow_only}
use Rattle.sv_app.specs.Paths.{Way, Path, Leads, type_in, terms_way, insert_way, columns_way, kept_way}
use Rattle.sv_app.specs.Paths as paths
use Rattle.sv_app.specs.Schema.{Declaration}
use Rattle.sv_app.specs.Scopes.{Scope}
use Rattle.sv_app.specs.Slots.{item}
use Rattle.sv_app.specs.Symbols as symbols
use Rattle.sv_app.specs.Tables.{Row}
use Rattle.sv_app.specs.Trees.{Term, Insert}
use Rattle.sv_app.proofs.AcceptedLaws.{counter_is_int}
use Rattle.sv_effect.specs.declared.ops.Write.{Write}
use Rattle.sv_effect.specs.declared.ops.Write.TheVariants.{Delta, Set}
use Rattle.sv_effect.specs.declared.outcomes.Outcome.TheVariants as outcomes
use Rattle.sv_effect.specs.Fits.{EffectFits, KeyFits, WriteFits, WritesAll, IsWrite, AreWrites, AllAbove, Ascending, columns_written, is_written, is_key_column}
use Rattle.sv_effect.specs.RowChange.{key_values}
use Rattle.sv_effect.specs.Run.{Stand, Flow, Goes, Ends, with_scope, on_value, changed, row_with, inserted}
use Rattle.sv_effect.specs.RunChanges.{Effect, key_in, with_writes, kept_to, insert_of, inserts, kept_values, stands}
use Rattle.sv_effect.specs.RunValues.{nothing, Scope as Values, with_progress, put, narrow, Gives, then_value, val_of, column, values_of}
use Rattle.sv_effect.specs.TablesOfCut.{number_in}
use Rattle.sv_app.proofs.TestLaws.{same_test}
use Rattle.sv_trace.specs.Standing.{Frame, names_in, type_of_val, type_of_got, CommandIn, RowIs, RowAt, Holds, Along, Makes}
use Rattle.sv_trace.proofs.BlockLaws.{holds_with}
use Rattle.sv_trace.proofs.ChangeLaws.{changes}
use Rattle.sv_trace.proofs.SchemaLaws.{key_fits, zero_types}
use Rattle.sv_trace.proofs.StatementLaws.{on_value_goes, along_went}
use Rattle.sv_trace.proofs.TermLaws.{Went, went_none, went_then, went_to, went_put, sees_after, then_gives, same_value, same_scope, type_at, type_of_column, read_type, all_evaluate}
use Rattle.sv_trace.proofs.UpdateLaws.{same_write, same_table}
use Rattle.sv_trace.proofs.WriteLaws.{has_type, key_same, AreFrom, from_next, from_here, from_start, written_types}

-- in a grow-only table nothing is kept
abbrev where_kept : Bool → (Way → Way) → Way → Way
where_kept grows way w = if grows then w else way w

kept_none : (grows : Bool) (s : Values) → Went (where_kept grows (λ w. w)) s s
kept_none true s = went_none s
kept_none false s = went_none s

kept_then : (grows : Bool) (a b : Way → Way) (s u z : Values) → Went (where_kept grows a) s u → Went (where_kept grows b) u z → Went (where_kept grows (λ w. b (a w))) s z
kept_then true a b s u z first second = went_then (λ w. w) (λ w. w) s u z first second
kept_then false a b s u z first second = went_then a b s u z first second

-- the write of one column
record InsertStep (k : Column) (way : Way → Way) (s : Values) (w : Write) (z : Values) : Type 0 where
  fits : WriteFits k w
  went : Went way s z

set_step : (k : Column) (m : Merge) (v : Val) (s : Values) (w : Write) (z : Values) → k.merge ≡ m → (m ≡ merges.NumDelta → ⊥) → type_of_val v ≡ k.ty → Gives (Set v) s ≡ Gives w z → InsertStep k (λ x. x) s w z
set_step k m v s w z merged plain typed is = record {
  fits = subst (WriteFits k) (same_value (Set v) w s z is) ((λ counts. plain (sym merged ∙ counts)), has_type k.ty v typed);
  went = went_to (λ x. x) s s z (same_scope (Set v) w s z is) (went_none s);
}

kept_step : (k : Column) (v : Val) (o : Option Val) (got : Got) (s : Values) (w : Write) (z : Values) → k.merge ≡ merges.NumDelta → k.ty ≡ types.Int → type_of_got got ≡ k.ty → val_of got ≡ o → kept_to v o s ≡ Gives w z
    → InsertStep k (paths.put types.Int) s w z
kept_step k v None got s w z merged integer typed is gives = absurd cc
kept_step k v (Some old) got s w z merged integer typed is gives =
    let made = same_write w (narrow (number_in v -ℤ number_in old)) (with_progress s (put old s.progress)) z gives in
    record {
      fits = subst (WriteFits k) (sym made.1) merged;
      went = went_to (paths.put types.Int) s (with_progress s (put old s.progress)) z made.2 (went_put old types.Int s (read_type got old is ∙ typed ∙ integer));
    }

insert_step : (k : Column) (grows : Bool) (m : Merge) (v : Val) (got : Got) (s : Values) (w : Write) (z : Values) → k.merge ≡ m → (k.merge ≡ merges.NumDelta → k.ty ≡ types.Int) → type_of_val v ≡ k.ty → type_of_got got ≡ k.ty
    → insert_of grows m v got s ≡ Gives w z → InsertStep k (where_kept grows (kept_way m)) s w z
insert_step k true merges.NumDelta v got s w z merged integer typed kept is = record {
  fits = subst (WriteFits k) (same_value (Delta (number_in v)) w s z is) merged;
  went = went_to (λ x. x) s s z (same_scope (Delta (number_in v)) w s z is) (went_none s);
}
insert_step k false merges.NumDelta v got s w z merged integer typed kept is = let step = kept_step k v (val_of got) got s w z merged (integer merged) kept refl is in record { fits = step.fits; went = step.went }
insert_step k true merges.Plain v got s w z merged integer typed kept is = let step = set_step k merges.Plain v s w z merged (λ e. let bad : merges.Plain ≡ merges.NumDelta = e in cc) typed is in record { fits = step.fits; went = step.went }
insert_step k false merges.Plain v got s w z merged integer typed kept is = let step = set_step k merges.Plain v s w z merged (λ e. let bad : merges.Plain ≡ merges.NumDelta = e in cc) typed is in record { fits = step.fits; went = step.went }
insert_step k true merges.Fresh v got s w z merged integer typed kept is = let step = set_step k merges.Fresh v s w z merged (λ e. let bad : merges.Fresh ≡ merges.NumDelta = e in cc) typed is in record { fits = step.fits; went = step.went }
insert_step k false merges.Fresh v got s w z merged integer typed kept is = let step = set_step k merges.Fresh v s w z merged (λ e. let bad : merges.Fresh ≡ merges.NumDelta = e in cc) typed is in record { fits = step.fits; went = step.went }
insert_step k true merges.Lww v got s w z merged integer typed kept is = let step = set_step k merges.Lww v s w z merged (λ e. let bad : merges.Lww ≡ merges.NumDelta = e in cc) typed is in record { fits = step.fits; went = step.went }
insert_step k false merges.Lww v got s w z merged integer typed kept is = let step = set_step k merges.Lww v s w z merged (λ e. let bad : merges.Lww ≡ merges.NumDelta = e in cc) typed is in record { fits = step.fits; went = step.went }

-- the writes of the columns from so many on
pub record Inserts (d : Declaration) (c : ℕ) (columns : List Column) (way : Way → Way) (s : Values) (ws : List (ℕ × Write)) (z : Values) : Type 0 where
  pub writes : AreWrites d ws
  pub above : (n : ℕ) → n < c → AllAbove n (columns_written ws)
  pub order : Ascending (columns_written ws)
  pub whole : (j : ℕ) → j < length columns → is_key_column d.key (c + j) ≡ false → is_written (c + j) ws ≡ true
  pub went : Went way s z

written_or : (a b : Bool) → b ≡ true → (a || b) ≡ true
written_or true b e = refl
written_or false b e = e

-- the columns from so many on that are outside the key are written
abbrev IsWhole : Declaration → ℕ → List Column → List (ℕ × Write) → Type 0
IsWhole d c columns ws = (j : ℕ) → j < length columns → is_key_column d.key (c + j) ≡ false → is_written (c + j) ws ≡ true

-- a column more, which is of the key
pub whole_key : (d : Declaration) (c : ℕ) (all columns : List Column) (ws : List (ℕ × Write)) → length all ≡ suc (length columns)
    → symbols.is_key_column d.key c ≡ true → IsWhole d (suc c) columns ws → IsWhole d c all ws
whole_key d c all columns ws one key rest zero less outside =
    let n : (c + 0) ≡ c = omega arith in
    let bad : true ≡ false = sym key ∙ sym (key_same d.key c) ∙ ap (is_key_column d.key) (sym n) ∙ outside in
    absurd cc
whole_key d c all columns ws one key rest (suc j) less outside =
    let n : (c + suc j) ≡ (suc c + j) = omega arith in
    ap (λ m. is_written m ws) n ∙ rest j (omega (arith, one, less)) (ap (is_key_column d.key) (sym n) ∙ outside)

-- a column more, which is written
pub whole_written : (d : Declaration) (c : ℕ) (all columns : List Column) (w : Write) (ws : List (ℕ × Write)) → length all ≡ suc (length columns)
    → IsWhole d (suc c) columns ws → IsWhole d c all ((c, w) ∷ ws)
whole_written d c all columns w ws one rest zero less outside = rw (same_test c (c + 0) (omega arith)) refl
whole_written d c all columns w ws one rest (suc j) less outside =
    let n : (c + suc j) ≡ (suc c + j) = omega arith in
    written_or (c == (c + suc j)) (is_written (c + suc j) ws) (ap (λ m. is_written m ws) n ∙ rest j (omega (arith, one, less)) (ap (is_key_column d.key) (sym n) ∙ outside))

pub all_written : (d : Declaration) (ws : List (ℕ × Write)) → IsWhole d 0 d.columns ws → WritesAll d ws
all_written d ws whole n less outside =
    let e : (0 + n) ≡ n = omega arith in
    ap (λ m. is_written m ws) (sym e) ∙ whole n less (ap (is_key_column d.key) e ∙ outside)

module _ (d : Declaration) (vs : List Val) (kept : List Got) (grows : Bool) (integers : (c : ℕ) (k : Column) → slice_get d.columns c ≡ Some k → k.merge ≡ merges.NumDelta → k.ty ≡ types.Int)
    (typed : (c : ℕ) (k : Column) → slice_get d.columns c ≡ Some k → type_of_val (item nothing vs c) ≡ k.ty) (kept_typed_at : (c : ℕ) (k : Column) → slice_get d.columns c ≡ Some k → type_of_got (column kept c) ≡ k.ty)
    (grown : is_grow_only d.kind ≡ grows) where
  inserts_at : (c : ℕ) (columns : List Column) (s : Values) (ws : List (ℕ × Write)) (z : Values) → AreFrom d c columns → inserts d vs kept c columns s ≡ Gives ws z
      → Inserts d c columns (where_kept grows (columns_way d c columns)) s ws z
  inserts_at c [] s ws z from is = subst (λ l. Inserts d c [] (where_kept grows (λ w. w)) s l z) (same_value [] ws s z is) (record {
    writes = tt;
    above = λ n less. tt;
    order = tt;
    whole = λ j less outside. absurd (omega (arith, less));
    went = went_to (where_kept grows (λ w. w)) s s z (same_scope [] ws s z is) (kept_none grows s);
  })
  inserts_at c (k ∷ columns) s ws z from is = by_key (symbols.is_key_column d.key c) refl is (λ u vs' y. inserts_at (suc c) columns u vs' y (from_next d c k columns from))
    where
      here : slice_get d.columns c ≡ Some k
      here = from_here d c k columns from

      Rest : Type 0
      Rest = (u : Values) (ls : List (ℕ × Write)) (y : Values) → inserts d vs kept (suc c) columns u ≡ Gives ls y → Inserts d (suc c) columns (where_kept grows (columns_way d (suc c) columns)) u ls y

      by_key : (b : Bool) → symbols.is_key_column d.key c ≡ b
          → (if b then inserts d vs kept (suc c) columns s else then_value (insert_of (is_grow_only d.kind) k.merge (item nothing vs c) (column kept c) s) (λ w u. then_value (inserts d vs kept (suc c) columns u) (λ ls y. Gives ((c, w) ∷ ls) y))) ≡ Gives ws z
          → Rest → Inserts d c (k ∷ columns) (where_kept grows (λ w. columns_way d (suc c) columns (if b then w else kept_way k.merge w))) s ws z
      by_key true key is more =
          let rest = more s ws z is in
          record {
            writes = rest.writes;
            above = λ n less. rest.above n (omega (arith, less));
            order = rest.order;
            whole = whole_key d c (k ∷ columns) columns ws refl key rest.whole;
            went = rest.went;
          }
      by_key false key is more =
          let g = then_gives (insert_of (is_grow_only d.kind) k.merge (item nothing vs c) (column kept c) s) (λ w u. then_value (inserts d vs kept (suc c) columns u) (λ ls y. Gives ((c, w) ∷ ls) y)) ws z is in
          let h = then_gives (inserts d vs kept (suc c) columns g.scope) (λ ls y. Gives ((c, g.value) ∷ ls) y) ws z g.last in
          let gives = ap (λ b. insert_of b k.merge (item nothing vs c) (column kept c) s) (sym grown) ∙ g.first in
          let step = insert_step k grows k.merge (item nothing vs c) (column kept c) s g.value g.scope refl (integers c k here) (typed c k here) (kept_typed_at c k here) gives in
          let rest = more g.scope h.value h.scope h.first in
          let way : Way → Way = λ w. columns_way d (suc c) columns (kept_way k.merge w) in
          let write : IsWrite d c g.value = record { column = k; declared = here; outside = key_same d.key c ∙ key; fits = step.fits } in
          let done : Inserts d c (k ∷ columns) (where_kept grows way) s ((c, g.value) ∷ h.value) h.scope = record {
            writes = (write, rest.writes);
            above = λ n less. (less, rest.above n (omega (arith, less)));
            order = (rest.above c (omega arith), rest.order);
            whole = whole_written d c (k ∷ columns) columns g.value h.value refl rest.whole;
            went = kept_then grows (kept_way k.merge) (columns_way d (suc c) columns) s g.scope h.scope step.went rest.went;
          } in
          subst (λ y. Inserts d c (k ∷ columns) (where_kept grows way) s ws y) (same_scope ((c, g.value) ∷ h.value) ws h.scope z h.last)
          (subst (λ l. Inserts d c (k ∷ columns) (where_kept grows way) s l h.scope) (same_value ((c, g.value) ∷ h.value) ws h.scope z h.last) done)

-- a value of the type that stands there
pub val_at : (tys : List Ty) (vs : List Val) (c : ℕ) → map type_of_val vs ≡ tys → type_of_val (item nothing vs c) ≡ unwrap_or (slice_get tys c) types.Int
val_at tys vs c e = by_slot (slice_get vs c) ∙ ap (λ o. unwrap_or o types.Int) (sym (slice_get-map type_of_val vs c) ∙ ap (λ l. slice_get l c) e)
  where
    by_slot : (o : Option Val) → type_of_val (unwrap_or o nothing) ≡ unwrap_or (option_map type_of_val o) types.Int
    by_slot None = refl
    by_slot (Some v) = refl

-- an insert went on: no present row stands there
pub went_in : (row : Option Row) (end : Stand) (go : Flow) → (if stands row then Ends outcomes.Exists else go) ≡ Goes end → go ≡ Goes end
went_in row end go is = by_row (stands row) is
  where
    by_row : (b : Bool) → (if b then Ends outcomes.Exists else go) ≡ Goes end → go ≡ Goes end
    by_row true e = absurd cc
    by_row false e = e

-- the values that an insert finds are of the columns' types
pub kept_types : (schema : List Declaration) → AcceptedSchema schema → (p : Place) (d : Declaration) (row : Option Row) → slice_get schema p.table ≡ Some d → KeyFits d.columns d.key (key_values p.key) → RowAt schema p row
    → map type_of_got (kept_values d p.key row) ≡ map (λ (k : Column). k.ty) d.columns
kept_types schema accepted p d None declared key found = zero_types schema accepted p.table d p.key declared key
kept_types schema accepted p d (Some row) declared key found = found.types ∙ ap (λ (x : Declaration). map (λ (k : Column). k.ty) x.columns) (same_table schema p.table found.key.table d found.key.declared declared)

pub makes_insert : (f : Frame) (at : Scope) (t : Ident) (es : List Term) (st : Stand) (vs : List Val) (z : Values) (d : Declaration) (p : Place) (row : Option Row) (end : Stand) → CommandIn f at (Insert t es) → Holds f at st
    → values_of es st.scope ≡ Gives vs z → slice_get f.schema t.num ≡ Some d → p ≡ record { table = t.num; key = key_in d.key vs } → RowAt f.schema p row → inserted d p vs row (with_scope st z) ≡ Goes end
    → Makes f at (Insert t es) st end
makes_insert f at t es st vs z d p row end command holds is declared place found goes =
    let accepted = command.frame.accepted.tables in
    let values = all_evaluate f at es st.scope vs z command.outside holds.sees command.suits.0 is in
    let way = terms_way f.schema (names_in f) es in
    let of_columns : map type_of_val vs ≡ map (λ (k : Column). k.ty) d.columns = values.types ∙ command.suits.2 d declared in
    let typed : (c : ℕ) (k : Column) → slice_get d.columns c ≡ Some k → type_of_val (item nothing vs c) ≡ k.ty =
    λ c k here. val_at (map (λ (x : Column). x.ty) d.columns) vs c of_columns ∙ type_of_column d.columns c ∙ ap type_in here in
    let here : slice_get f.schema p.table ≡ Some d = ap (λ (q : Place). slice_get f.schema q.table) place ∙ declared in
    let key : KeyFits d.columns d.key (key_values p.key) = subst (λ (q : Place). KeyFits d.columns d.key (key_values q.key)) (sym place) (key_fits f.schema accepted t.num d vs declared typed) in
    let kept : List Got = kept_values d p.key row in
    let kept_typed = kept_types f.schema accepted p d row here key found in
    let kept_typed_at : (c : ℕ) (k : Column) → slice_get d.columns c ≡ Some k → type_of_got (column kept c) ≡ k.ty =
    λ c k at_column. type_at (map (λ (x : Column). x.ty) d.columns) kept c kept_typed ∙ type_of_column d.columns c ∙ ap type_in at_column in
    let go : List (ℕ × Write) → Stand → Flow =
    λ ws y. changed (record { place = p; act = acts.Insert; writes = ws; instance = y.scope.progress.number }) (row_with (with_writes ws kept) true) y in
    let ran = on_value_goes (inserts d vs kept 0 d.columns z) (with_scope st z) go end (went_in row end (on_value (inserts d vs kept 0 d.columns z) (with_scope st z) go) goes) in
    let made = inserts_at d vs kept (is_grow_only d.kind) (λ c k at_column counts. counter_is_int f.schema accepted t.num c d k declared at_column counts) typed kept_typed_at refl 0 d.columns z ran.is ran.scope (from_start d) ran.gives in
    let e : Effect = record { place = p; act = acts.Insert; writes = ran.is; instance = ran.scope.progress.number } in
    let fits : EffectFits f.schema e = record { table = d; declared = here; fits = record { key = key; allowed = command.suits.1 d declared; writes = made.writes; order = made.order; act = all_written d ran.is made.whole } } in
    let after : Row = row_with (with_writes ran.is kept) true in
    let row_fits : RowIs f.schema p after.values = record { key = record { table = d; declared = here; fits = key }; types = written_types d ran.is kept made.writes kept_typed } in
    let kept_at = where_kept (is_grow_only d.kind) (columns_way d 0 d.columns) in
    let sees = sees_after f at kept_at z ran.scope (sees_after f at way st.scope z holds.sees values.went) made.went in
    let done = changes f at e after (with_scope st ran.scope) end (holds_with f at at st ran.scope holds sees) fits row_fits ran.goes in
    let to : Way → Path = λ w. Leads (insert_way (slice_get f.schema t.num) (way w)) in
    record {
      holds = done.holds;
      along = subst (λ (q : Values). Along to st.scope.progress q.progress) (sym done.scope)
          (along_went to kept_at way st.scope z ran.scope.progress values.went (λ w. ap (λ o. Leads (insert_way o (way w))) declared) made.went.unit made.went.choices made.went.ways);
    }
