-- Each statement but loops, as it runs.
use Rattle.std.proofs.Common.{◌≡◌, ℕ, ◌<◌, ◌≤◌, ◌==◌, Bool, true, false, List, [], ◌∷◌, ◌++◌, map, Option, Some, None, slice_get, refl, ap, subst, ◌∙◌, arith}
use Rattle.std.specs.List.{list_any}
use Rattle.std.specs.FinMap.{get}
use Rattle.sv_value.specs.declared.values.Val.{Val}
use Rattle.sv_app.specs.declared.acts.Act.TheVariants as acts
use Rattle.sv_app.specs.declared.apps.Ident.{Ident}
use Rattle.sv_app.specs.declared.gots.Got.{Got}
use Rattle.sv_app.specs.declared.instances.Source.TheVariants as sources
use Rattle.sv_app.specs.declared.places.Place.{Place}
use Rattle.sv_app.specs.declared.schemas.Column.{Column}
use Rattle.sv_app.specs.declared.schemas.Ty.TheVariants as types
use Rattle.sv_app.specs.Paths.{Way, type_in}
use Rattle.sv_app.specs.Schema.{Declaration}
use Rattle.sv_app.specs.Scopes.{Scope}
use Rattle.sv_app.specs.Slots.{item}
use Rattle.sv_app.specs.Tables.{Row}
use Rattle.sv_app.specs.Trees.{Term, Fetch, Insert, Fresh, Update, Remove, Reply}
use Rattle.sv_app.proofs.AcceptedLaws.{counter_is_int}
use Rattle.sv_effect.specs.declared.ops.Write.{Write}
use Rattle.sv_effect.specs.Fits.{KeyFits}
use Rattle.sv_effect.specs.RowChange.{key_values}
use Rattle.sv_effect.specs.Run.{Stand, Flow, Goes, with_scope, on_value, on_present, on_table, with_value, is_formed, assigned, with_row, place_of_row, fetched, replied, changed, row_with, updating, updated, update_over, inserted, removed, drawn, run_command}
use Rattle.sv_effect.specs.RunChanges.{Effect, key_in, with_writes, sets_made, inserts, kept_values, outside_key, drawn_writes, drawn_key}
use Rattle.sv_effect.specs.RunValues.{nothing, Progress, Scope as Values, with_progress, put, column, value_of, values_of, forgetting as forgotten}
use Rattle.sv_trace.specs.Standing.{Frame, names_in, type_of_val, type_of_got, Reads, AllRead, behind_set, CommandIn, Sees, Holds, way_of}
use Rattle.sv_trace.proofs.ChangeLaws.{own_rows_fit}
use Rattle.sv_trace.proofs.InsertLaws.{kept_types, went_in, val_at}
use Rattle.sv_trace.proofs.RunLaws.{present, setting}
use Rattle.sv_trace.proofs.SchemaLaws.{key_fits}
use Rattle.sv_trace.proofs.StatementLaws.{same_stand, WentOn, on_value_goes, row_types, replied_goes}
use Rattle.sv_trace.proofs.TermLaws.{OldIs, no_old, sees_alone, all_evaluate, type_at, type_of_column}
use Rattle.sv_trace.proofs.WriteLaws.{from_start}
use Rattle.sv_linear.specs.Effects.{SymValue, SymWrite, SymEffect}
use Rattle.sv_trace.specs.Places.{ScopeBelow, KnownBelow}
use Rattle.sv_symbolic.specs.Drawn.{change_on, change_of}
use Rattle.sv_symbolic.specs.Sketches.{Drawing, Sketch, with_source, draw_symbol, draw_term, draw_terms}
use Rattle.sv_symbolic.specs.Routes.{Route, Leads, then_route, with_effect, on_drawn, on_declared, set_form, forgetting, draw_sets, draw_inserts, first_writes, draw_command}
use Rattle.sv_app.specs.Writes.{in_order}
use Rattle.sv_symbolic.proofs.Following.{Fits, Kept, Follows}
use Rattle.sv_symbolic.proofs.Relation.{Agrees, sketch_at, Drew, Has, Later, StandAll}
use Rattle.sv_symbolic.proofs.DrawLaws.{draws_term, drew_symbol}
use Rattle.sv_symbolic.proofs.PlaceLaws.{below_terms}
use Rattle.sv_symbolic.proofs.RouteLaws.{agrees_assigned, agrees_row, kept_alone, kept_then, kept_value, kept_row, follows_scope, follows_effect}
use Rattle.sv_symbolic.proofs.TryLaws.{draws_terms, later_then, later_grown}
use Rattle.sv_symbolic.proofs.WriteLaws.{draws_sets, ordered_on, inserts_draw, firsts_wrote, all_grown}

-- what differs in what is known alone
later_known : (p q r : Progress) (grown : List Bool) → Later p q grown → r.unit ≡ q.unit → r.number ≡ q.number → r.choices ≡ q.choices → r.tape ≡ q.tape → Later p r grown
later_known p q r grown l unit number choices tape = record { unit = unit ∙ l.unit; number = number ∙ l.number; choices = choices ∙ l.choices; more = l.more; tape = tape ∙ l.tape }

module _ (f : Frame) (outer : Bool) (k : ℕ) (xs : List ℕ) (at : Scope) (outside : at.updated ≡ None) where
  pub follows_assign : (x : Ident) (e : Term) (st : Stand) (d : Drawing) (end : Stand) → Reads at e → Holds f at st → Fits f outer st d → ((y : ℕ) → y < k → list_any (λ z. y == z) xs ≡ false → x.num ≡ y → ⊥)
      → on_value (value_of e st.scope) st (λ v z. Goes (assigned x.num v z)) ≡ Goes end → Follows f outer k xs (λ w. on_drawn (draw_term f.schema (names_in f) 0 e w) (set_form x.num)) st d end
  follows_assign x e st d end reads holds fits differ is =
      let route : Sketch → Route = λ w. on_drawn (draw_term f.schema (names_in f) 0 e w) (set_form x.num) in
      let ran = on_value_goes (value_of e st.scope) st (λ v z. Goes (assigned x.num v z)) end is in
      let drew = draws_term ⊥ f at 0 e st.scope d ran.is ran.scope holds.sees (no_old f at 0 st.scope.old outside) (λ inside. inside outside) reads fits.agrees ran.gives in
      let s : Values = with_progress (with_value x.num ran.is ran.scope) (is_formed x.num ran.scope.progress) in
      let put : Kept k xs ran.scope (with_value x.num ran.is ran.scope) = kept_value k xs x.num ran.is ran.scope differ in
      let kept : Kept k xs ran.scope s = record { values = put.values; rows = put.rows } in
      subst (Follows f outer k xs route st d) (same_stand (assigned x.num ran.is (with_scope st ran.scope)) end ran.goes)
      (follows_scope f outer k xs route st d (with_source (sources.Variable x.num) drew.is drew.after) s (λ left. ap (λ y. on_drawn y (set_form x.num)) (drew.draws left))
      (agrees_assigned x.num ran.is drew.is ran.scope drew.after drew.says drew.agrees) (later_known st.scope.progress ran.scope.progress s.progress [] (later_grown st.scope ran.scope drew.grows) refl refl refl refl) drew.effects
      (kept_then k xs st.scope ran.scope s (kept_alone k xs st.scope ran.scope drew.grows.alone) kept) fits)

  pub follows_reply : (e : Term) (st : Stand) (d : Drawing) (end : Stand) → Reads at e → Holds f at st → Fits f outer st d → run_command (setting f) (Reply e) st ≡ Goes end
      → Follows f outer k xs (draw_command f.schema (names_in f) (Reply e)) st d end
  follows_reply e st d end reads holds fits is =
      let route : Sketch → Route = draw_command f.schema (names_in f) (Reply e) in
      let ran = on_value_goes (value_of e st.scope) st replied end is in
      let drew = draws_term ⊥ f at 0 e st.scope d ran.is ran.scope holds.sees (no_old f at 0 st.scope.old outside) (λ inside. inside outside) reads fits.agrees ran.gives in
      let mid : Stand = with_scope st ran.scope in
      let done = follows_scope f outer k xs route st d drew.after ran.scope (λ left. ap (λ y. on_drawn y (λ v z. Leads z)) (drew.draws left)) drew.agrees (later_grown st.scope ran.scope drew.grows) drew.effects
      (kept_alone k xs st.scope ran.scope drew.grows.alone) fits in
      let after : Fits f outer (record mid { replies = mid.replies ++ ran.is ∷ [] }) done.after =
      record { agrees = done.fits.agrees; changes = done.fits.changes; number = done.fits.number; few = done.fits.few; told = done.fits.told } in
      subst (Follows f outer k xs route st d) (same_stand (record mid { replies = mid.replies ++ ran.is ∷ [] }) end (replied_goes ran.is mid end ran.goes))
      (record { grown = done.grown; after = done.after; leads = done.leads; fits = after; later = done.later; kept = done.kept; zero = done.zero })

  pub follows_fetch : (r t : Ident) (key : List Term) (st : Stand) (d : Drawing) (end : Stand) → AllRead at key → r.num ≡ k → ScopeBelow k at.known → KnownBelow k st.scope.progress.known → Holds f at st → Fits f outer st d
      → run_command (setting f) (Fetch r t key) st ≡ Goes end → Follows f outer k xs (draw_command f.schema (names_in f) (Fetch r t key)) st d end
  follows_fetch r t key st d end reads number scope below holds fits is =
      let route : Sketch → Route = draw_command f.schema (names_in f) (Fetch r t key) in
      let ran = on_value_goes (values_of key st.scope) st (λ vs z. on_present (get z.tables (place_of_row t vs)) (fetched r.num z)) end is in
      let p : Place = place_of_row t ran.is in
      let row = present (get st.tables p) (fetched r.num (with_scope st ran.scope)) end ran.goes in
      let drew = draws_terms f at key st.scope d ran.is ran.scope outside holds.sees reads fits.agrees ran.gives in
      let went = (all_evaluate f at key st.scope ran.is ran.scope outside holds.sees reads ran.gives).went in
      let below_z : KnownBelow k ran.scope.progress.known = subst (λ (w : Way). KnownBelow k w.known) (went.ways []) (below_terms f.schema (names_in f) at k key (way_of [] st.scope.progress) scope reads below) in
      let s : Values = with_row r.num row.row.values ran.scope in
      let le : k ≤ r.num = omega (arith, number) in
      subst (Follows f outer k xs route st d) (same_stand (with_scope st s) end row.rest)
      (follows_scope f outer k xs route st d drew.after s (λ left. ap (λ y. on_drawn y (λ vs z. Leads z)) (drew.draws left)) (agrees_row k r.num row.row.values ran.scope drew.after number below_z drew.agrees)
      (later_grown st.scope ran.scope drew.grows) drew.effects (kept_then k xs st.scope ran.scope s (kept_alone k xs st.scope ran.scope drew.grows.alone) (kept_row k xs r.num row.row.values ran.scope le)) fits)

  pub follows_remove : (t : Ident) (key : List Term) (st : Stand) (d : Drawing) (end : Stand) → AllRead at key → Holds f at st → Fits f outer st d → run_command (setting f) (Remove t key) st ≡ Goes end
      → Follows f outer k xs (draw_command f.schema (names_in f) (Remove t key)) st d end
  follows_remove t key st d end reads holds fits is =
      let route : Sketch → Route = draw_command f.schema (names_in f) (Remove t key) in
      let ran = on_value_goes (values_of key st.scope) st (λ vs z. on_present (get z.tables (place_of_row t vs)) (removed (place_of_row t vs) z)) end is in
      let p : Place = place_of_row t ran.is in
      let row = present (get st.tables p) (removed p (with_scope st ran.scope)) end ran.goes in
      let drew = draws_terms f at key st.scope d ran.is ran.scope outside holds.sees reads fits.agrees ran.gives in
      let se : SymEffect = record { table = t.num; act = acts.Remove; writes = [] } in
      let e : Effect = record { place = p; act = acts.Remove; writes = []; instance = ran.scope.progress.number } in
      let found = own_rows_fit f at st p (Some row.row) holds row.there in
      let last : Declaration → Sketch → Route = λ x y. Leads (with_effect se y) in
      follows_effect f outer k xs route st d drew.after ran.scope se e (row_with row.row.values false) end
      (λ left. ap (λ y. on_drawn y (λ vs z. on_declared (slice_get f.schema t.num) z last)) (drew.draws left) ∙ ap (λ o. on_declared o (sketch_at left ran.scope.progress drew.after) last) found.key.declared) drew.agrees
      (later_grown st.scope ran.scope drew.grows) drew.effects (kept_alone k xs st.scope ran.scope drew.grows.alone) fits refl (λ rest. refl) row.rest

  pub follows_update : (t : Ident) (key : List Term) (sets : List (Ident × Term)) (st : Stand) (d : Drawing) (end : Stand) → CommandIn f at (Update t key sets) → Holds f at st → Fits f outer st d → run_command (setting f) (Update t key sets) st ≡ Goes end
      → Follows f outer k xs (draw_command f.schema (names_in f) (Update t key sets)) st d end
  follows_update t key sets st d end command holds fits is = by_table (slice_get f.schema t.num) refl ran.goes
    where
      route : Sketch → Route
      route = draw_command f.schema (names_in f) (Update t key sets)

      ran : WentOn (values_of key st.scope) st (λ vs z. on_table (slice_get f.schema t.num) (λ table. on_present (get z.tables (place_of_row t vs)) (updated table (place_of_row t vs) sets z))) end
      ran = on_value_goes (values_of key st.scope) st (λ vs z. on_table (slice_get f.schema t.num) (λ table. on_present (get z.tables (place_of_row t vs)) (updated table (place_of_row t vs) sets z))) end is

      p : Place
      p = place_of_row t ran.is

      drew : Drew ⊥ (draw_terms f.schema (names_in f) key) (StandAll ran.is) st.scope d ran.scope
      drew = draws_terms f at key st.scope d ran.is ran.scope outside holds.sees command.suits.0 fits.agrees ran.gives

      by_table : (o : Option Declaration) → slice_get f.schema t.num ≡ o → on_table o (λ table. on_present (get st.tables p) (updated table p sets (with_scope st ran.scope))) ≡ Goes end → Follows f outer k xs route st d end
      by_table None declared e = absurd cc
      by_table (Some table) declared e' =
          let row = present (get st.tables p) (updated table p sets (with_scope st ran.scope)) end e' in
          let found = own_rows_fit f at st p (Some row.row) holds row.there in
          let begin : Values = updating row.row.values ran.scope in
          let go : List (ℕ × Write) → Stand → Flow = λ ws y. let writes = in_order table 0 table.columns ws in
          changed (record { place = p; act = acts.Update; writes = writes; instance = y.scope.progress.number }) (row_with (with_writes writes row.row.values) true) (update_over y) in
          let then_ran = on_value_goes (sets_made table.columns sets begin) (with_scope st ran.scope) go end row.rest in
          let z : Values = then_ran.scope in
          let started : Drawing = record drew.after { olds = [] } in
          let agrees : Agrees (Unit {0}) begin started = record { sources = drew.agrees.sources; olds = λ i c known. absurd cc; facts = drew.agrees.facts } in
          let sees_z = sees_alone f at st.scope ran.scope holds.sees drew.grows.alone in
          let sees : Sees f (behind_set at t) begin = record { values = sees_z.values; rows = sees_z.rows } in
          let old : OldIs f (behind_set at t) t.num begin.old = λ inside. row_types f.schema p row.row.values found in
          let made = draws_sets f at t table command.frame.accepted.tables declared sets begin started then_ran.is z sees old command.suits.2 agrees then_ran.gives in
          let over : Values = with_progress z (forgotten z.progress) in
          let after : Drawing = record made.after { olds = [] } in
          let se : SymEffect = record { table = t.num; act = acts.Update; writes = in_order table 0 table.columns made.is } in
          let writes : List (ℕ × Write) = in_order table 0 table.columns then_ran.is in
          let e : Effect = record { place = p; act = acts.Update; writes = writes; instance = z.progress.number } in
          let done : Agrees ⊥ over after = record { sources = made.agrees.sources; olds = λ i c known. absurd i; facts = made.agrees.facts } in
          let says : (rest : List Val) → change_on (z.progress.tape ++ rest) se ≡ change_of e =
          λ rest. λ i. record { table = t.num; act = acts.Update; writes = (ordered_on table 0 table.columns made.is (z.progress.tape ++ rest) ∙ ap (in_order table 0 table.columns) (made.says.on rest)) i } in
          let later_begin : Later st.scope.progress begin.progress [] = later_known st.scope.progress ran.scope.progress begin.progress [] (later_grown st.scope ran.scope drew.grows) refl refl refl refl in
          let later_end : Later st.scope.progress over.progress [] =
          later_known st.scope.progress z.progress over.progress [] (later_then st.scope.progress begin.progress z.progress [] [] later_begin (later_grown begin z made.grows)) refl refl refl refl in
          let kept_begin : Kept k xs st.scope begin = let one = kept_alone k xs st.scope ran.scope drew.grows.alone in record { values = one.values; rows = one.rows } in
          let kept_end : Kept k xs st.scope over = let all = kept_then k xs st.scope begin z kept_begin (kept_alone k xs begin z made.grows.alone) in record { values = all.values; rows = all.rows } in
          let last : List (ℕ × SymWrite) → Declaration → Sketch → Route = λ ws x y. Leads (with_effect (record { table = t.num; act = acts.Update; writes = in_order x 0 x.columns ws }) y) in
          let end_sets : List (ℕ × SymWrite) → Sketch → Route = λ ws y. on_declared (slice_get f.schema t.num) (forgetting y) (last ws) in
          follows_effect f outer k xs route st d after over se e (row_with (with_writes writes row.row.values) true) end
          (λ left.
          ap (λ y. on_drawn y (λ vs u. on_drawn (draw_sets f.schema (names_in f) t.num sets (forgetting u)) end_sets)) (drew.draws left)
          ∙ ap (λ y. on_drawn y end_sets) (made.draws left)
          ∙ ap (λ o. on_declared o (forgetting (sketch_at left z.progress made.after)) (last made.is)) declared) done later_end (made.effects ∙ drew.effects) kept_end fits refl says then_ran.goes

  pub follows_insert : (t : Ident) (es : List Term) (st : Stand) (d : Drawing) (end : Stand) → CommandIn f at (Insert t es) → Holds f at st → Fits f outer st d → run_command (setting f) (Insert t es) st ≡ Goes end
      → Follows f outer k xs (draw_command f.schema (names_in f) (Insert t es)) st d end
  follows_insert t es st d end command holds fits is = by_table (slice_get f.schema t.num) refl ran.goes
    where
      route : Sketch → Route
      route = draw_command f.schema (names_in f) (Insert t es)

      start : List Val → Stand → Flow
      start vs z = on_table (slice_get f.schema t.num) (λ table. let p : Place = record { table = t.num; key = key_in table.key vs } in inserted table p vs (get z.tables p) z)

      ran : WentOn (values_of es st.scope) st start end
      ran = on_value_goes (values_of es st.scope) st start end is

      drew : Drew ⊥ (draw_terms f.schema (names_in f) es) (StandAll ran.is) st.scope d ran.scope
      drew = draws_terms f at es st.scope d ran.is ran.scope outside holds.sees command.suits.0 fits.agrees ran.gives

      by_table : (o : Option Declaration) → slice_get f.schema t.num ≡ o
          → on_table o (λ table. let p : Place = record { table = t.num; key = key_in table.key ran.is } in inserted table p ran.is (get st.tables p) (with_scope st ran.scope)) ≡ Goes end → Follows f outer k xs route st d end
      by_table None declared e = absurd cc
      by_table (Some table) declared e' =
          let accepted = command.frame.accepted.tables in
          let vs : List Val = ran.is in
          let p : Place = record { table = t.num; key = key_in table.key vs } in
          let row : Option Row = get st.tables p in
          let found = own_rows_fit f at st p row holds refl in
          let values = all_evaluate f at es st.scope vs ran.scope outside holds.sees command.suits.0 ran.gives in
          let of_columns : map type_of_val vs ≡ map (λ (x : Column). x.ty) table.columns = values.types ∙ command.suits.2 table declared in
          let typed : (c : ℕ) (x : Column) → slice_get table.columns c ≡ Some x → type_of_val (item nothing vs c) ≡ x.ty =
          λ c x here. val_at (map (λ (y : Column). y.ty) table.columns) vs c of_columns ∙ type_of_column table.columns c ∙ ap type_in here in
          let key : KeyFits table.columns table.key (key_values p.key) = key_fits f.schema accepted t.num table vs declared typed in
          let kept : List Got = kept_values table p.key row in
          let kept_typed = kept_types f.schema accepted p table row declared key found in
          let kept_typed_at : (c : ℕ) (x : Column) → slice_get table.columns c ≡ Some x → type_of_got (column kept c) ≡ x.ty =
          λ c x at_column. type_at (map (λ (y : Column). y.ty) table.columns) kept c kept_typed ∙ type_of_column table.columns c ∙ ap type_in at_column in
          let go : List (ℕ × Write) → Stand → Flow =
          λ ws y. changed (record { place = p; act = acts.Insert; writes = ws; instance = y.scope.progress.number }) (row_with (with_writes ws kept) true) y in
          let then_ran = on_value_goes (inserts table vs kept 0 table.columns ran.scope) (with_scope st ran.scope) go end (went_in row end (on_value (inserts table vs kept 0 table.columns ran.scope) (with_scope st ran.scope) go) e') in
          let z : Values = then_ran.scope in
          let made = inserts_draw table vs drew.is kept (λ c x at_column counts. counter_is_int f.schema accepted t.num c table x declared at_column counts) kept_typed_at 0 table.columns ran.scope drew.after then_ran.is z (from_start table) drew.says drew.agrees then_ran.gives in
          let se : SymEffect = record { table = t.num; act = acts.Insert; writes = made.is } in
          let e : Effect = record { place = p; act = acts.Insert; writes = then_ran.is; instance = z.progress.number } in
          let says : (rest : List Val) → change_on (z.progress.tape ++ rest) se ≡ change_of e = λ rest. λ i. record { table = t.num; act = acts.Insert; writes = made.says.on rest i } in
          let end_writes : List (ℕ × SymWrite) → Sketch → Route = λ ws y. Leads (with_effect (record { table = t.num; act = acts.Insert; writes = ws }) y) in
          let body : List SymValue → Declaration → Sketch → Route = λ fs x u. on_drawn (draw_inserts x fs 0 x.columns u) end_writes in
          follows_effect f outer k xs route st d made.after z se e (row_with (with_writes then_ran.is kept) true) end
          (λ left.
          ap (λ y. on_drawn y (λ fs u. on_declared (slice_get f.schema t.num) u (body fs))) (drew.draws left)
          ∙ ap (λ o. on_declared o (sketch_at left ran.scope.progress drew.after) (body drew.is)) declared
          ∙ ap (λ y. on_drawn y end_writes) (made.draws left)) made.agrees
          (later_then st.scope.progress ran.scope.progress z.progress [] [] (later_grown st.scope ran.scope drew.grows) (later_grown ran.scope z made.grows)) (made.effects ∙ drew.effects)
          (kept_then k xs st.scope ran.scope z (kept_alone k xs st.scope ran.scope drew.grows.alone) (kept_alone k xs ran.scope z made.grows.alone)) fits refl says then_ran.goes

  pub follows_fresh : (x t : Ident) (es : List Term) (st : Stand) (d : Drawing) (end : Stand) → CommandIn f at (Fresh x t es) → Holds f at st → Fits f outer st d → ((y : ℕ) → y < k → list_any (λ z. y == z) xs ≡ false → x.num ≡ y → ⊥)
      → run_command (setting f) (Fresh x t es) st ≡ Goes end → Follows f outer k xs (draw_command f.schema (names_in f) (Fresh x t es)) st d end
  follows_fresh x t es st d end command holds fits differ is = by_table (slice_get f.schema t.num) refl ran.goes
    where
      route : Sketch → Route
      route = draw_command f.schema (names_in f) (Fresh x t es)

      p : Place
      p = record { table = t.num; key = drawn_key f.first st.effects }

      start : List Val → Stand → Flow
      start vs z = on_table (slice_get f.schema t.num) (λ table. let q : Place = record { table = t.num; key = drawn_key f.first z.effects } in drawn x.num table q vs (get z.tables q) z)

      ran : WentOn (values_of es st.scope) st start end
      ran = on_value_goes (values_of es st.scope) st start end is

      drew : Drew ⊥ (draw_terms f.schema (names_in f) es) (StandAll ran.is) st.scope d ran.scope
      drew = draws_terms f at es st.scope d ran.is ran.scope outside holds.sees command.suits.0 fits.agrees ran.gives

      with_key : Values
      with_key = with_progress ran.scope (put p.key.first ran.scope.progress)

      symbol : Drew ⊥ (draw_symbol types.Int) (Has p.key.first) ran.scope drew.after with_key
      symbol = drew_symbol ⊥ types.Int p.key.first ran.scope drew.after refl drew.agrees

      s : Values
      s = with_progress (with_value x.num p.key.first with_key) (is_formed x.num with_key.progress)

      kept : Kept k xs st.scope s
      kept =
          let one : Kept k xs with_key (with_value x.num p.key.first with_key) = kept_value k xs x.num p.key.first with_key differ in
          let last : Kept k xs with_key s = record { values = one.values; rows = one.rows } in
          kept_then k xs st.scope with_key s (kept_then k xs st.scope ran.scope with_key (kept_alone k xs st.scope ran.scope drew.grows.alone) (kept_alone k xs ran.scope with_key symbol.grows.alone)) last

      later : Later st.scope.progress s.progress []
      later = later_known st.scope.progress with_key.progress s.progress []
          (later_then st.scope.progress ran.scope.progress with_key.progress [] [] (later_grown st.scope ran.scope drew.grows) (later_grown ran.scope with_key symbol.grows)) refl refl refl refl

      by_row : (table : Declaration) → slice_get f.schema t.num ≡ Some table → (o : Option Row) → drawn x.num table p ran.is o (with_scope st ran.scope) ≡ Goes end → Follows f outer k xs route st d end
      by_row table declared (Some row) e = absurd cc
      by_row table declared None e =
          let columns : List (ℕ × Column) = outside_key table 0 table.columns in
          let writes : List (ℕ × Write) = drawn_writes table ran.is in
          let se : SymEffect = record { table = t.num; act = acts.Fresh; writes = first_writes columns drew.is } in
          let change : Effect = record { place = p; act = acts.Fresh; writes = writes; instance = ran.scope.progress.number } in
          let wrote = firsts_wrote columns ran.is drew.is with_key.progress.tape (all_grown ran.is drew.is ran.scope with_key symbol.grows drew.says) in
          let says : (rest : List Val) → change_on (s.progress.tape ++ rest) se ≡ change_of change = λ rest. λ i. record { table = t.num; act = acts.Fresh; writes = wrote.on rest i } in
          let body : List SymValue → Declaration → Sketch → Route = λ fs d' y. Leads (with_effect (record { table = t.num; act = acts.Fresh; writes = first_writes (outside_key d' 0 d'.columns) fs }) y) in
          let last : List SymValue → SymValue → Sketch → Route = λ fs key z. then_route (on_declared (slice_get f.schema t.num) z (body fs)) (set_form x.num key) in
          follows_effect f outer k xs route st d (with_source (sources.Variable x.num) symbol.is symbol.after) s se change (row_with (with_writes writes (kept_values table p.key None)) true) end
          (λ left.
          ap (λ y. on_drawn y (λ fs u. on_drawn (draw_symbol types.Int u) (last fs))) (drew.draws left)
          ∙ ap (λ y. on_drawn y (last drew.is)) (symbol.draws left)
          ∙ ap (λ o. then_route (on_declared o (sketch_at left with_key.progress symbol.after) (body drew.is)) (set_form x.num symbol.is)) declared)
          (agrees_assigned x.num p.key.first symbol.is with_key symbol.after symbol.says symbol.agrees) later (symbol.effects ∙ drew.effects) kept fits refl says e

      by_table : (o : Option Declaration) → slice_get f.schema t.num ≡ o → on_table o (λ table. drawn x.num table p ran.is (get st.tables p) (with_scope st ran.scope)) ≡ Goes end → Follows f outer k xs route st d end
      by_table None declared e = absurd cc
      by_table (Some table) declared e = by_row table declared (get st.tables p) e
