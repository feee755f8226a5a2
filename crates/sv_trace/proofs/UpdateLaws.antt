-- Updates: each set is of its column's type, and the writes fit the table.
use Rattle.std.proofs.Common.{◌≡◌, ◌∙◌, ℕ, ℤ, ◌-ℤ◌, true, List, [], ◌∷◌, map, Option, Some, None, slice_get, refl, sym, ap, subst}
use Rattle.sv_value.specs.declared.values.Val.{Val}
use Rattle.sv_app.specs.declared.acts.Act.TheVariants as acts
use Rattle.sv_app.specs.declared.apps.Ident.{Ident}
use Rattle.sv_app.specs.declared.places.Place.{Place}
use Rattle.sv_app.specs.declared.schemas.Column.{Column}
use Rattle.sv_app.specs.declared.schemas.Merge.{Merge}
use Rattle.sv_app.specs.declared.schemas.Merge.TheVariants as merges
use Rattle.sv_app.specs.declared.schemas.Ty.TheVariants as types
use Rattle.sv_app.specs.Accepted.{AcceptedSchema}
use Rattle.sv_app.specs.Paths.{Way, Path, Leads, columns_at, column_type, type_in, type_of, term_way, terms_way, sets_way, now_way, forgetting}
use Rattle.sv_app.specs.Paths as paths
use Rattle.sv_app.specs.Schema.{Declaration}
use Rattle.sv_app.specs.Scopes.{Scope}
use Rattle.sv_app.specs.Tables.{Row}
use Rattle.sv_app.specs.Trees.{Term, Old, Update}
use Rattle.sv_app.proofs.AcceptedLaws.{counter_is_int}
use Rattle.sv_effect.specs.declared.ops.Write.{Write}
use Rattle.sv_effect.specs.declared.ops.Write.TheVariants.{Delta, Set}
use Rattle.sv_effect.specs.Fits.{EffectFits, WriteFits, KeyFits}
use Rattle.sv_effect.specs.RowChange.{key_values}
use Rattle.sv_effect.specs.Run.{Stand, Flow, Goes, with_scope, place_of_row, changed, row_with, updating, update_over, updated}
use Rattle.sv_effect.specs.RunChanges.{Effect, with_writes, step, delta_to, set_of, merge_in, merge_of, sets_made, in_order}
use Rattle.sv_effect.specs.RunValues.{Scope as Values, narrow, Gives, then_value, read_old, value_of, values_of}
use Rattle.sv_effect.specs.TablesOfCut.{number_in}
use Rattle.sv_trace.specs.Standing.{Frame, names_in, type_of_val, type_of_got, CommandIn, SetsSuit, behind_set, Sees, RowIs, RowAt, Holds, Along, Makes}
use Rattle.sv_trace.proofs.ChangeLaws.{changes}
use Rattle.sv_trace.proofs.StatementLaws.{on_value_goes, along_went, row_types}
use Rattle.sv_trace.proofs.BlockLaws.{holds_with}
use Rattle.sv_trace.proofs.TermLaws.{Went, went_none, went_then, went_to, sees_after, old_after, OldIs, then_gives, same_value, same_scope, evaluates, all_evaluate}
use Rattle.sv_trace.proofs.WriteLaws.{has_type, Suited, from_start, ordered_writes, ordered, written_types}

pub same_write : (w : Write) (o : Option ℤ) (s z : Values) → step o s ≡ Gives w z → (e : ℤ) × (w ≡ Delta e) × (s ≡ z)
same_write w None s z is = absurd cc
same_write w (Some e) s z is = (e, sym (same_value (Delta e) w s z is), same_scope (Delta e) w s z is)

-- a column that is merged as a number is an integer
pub counter_type : (schema : List Declaration) (table : ℕ) (d : Declaration) (c : ℕ) → AcceptedSchema schema → slice_get schema table ≡ Some d → merge_of d.columns c ≡ merges.NumDelta → column_type schema table c ≡ types.Int
counter_type schema table d c accepted at merged = ap (λ o. type_in (slice_get (columns_at o) c)) at ∙ by_column (slice_get d.columns c) refl merged
  where
    by_column : (o : Option Column) → slice_get d.columns c ≡ o → merge_in o ≡ merges.NumDelta → type_in (slice_get d.columns c) ≡ types.Int
    by_column None e m = absurd (let bad : merges.Plain ≡ merges.NumDelta = m in cc)
    by_column (Some k) e m = ap type_in e ∙ counter_is_int schema accepted table c d k at e m

-- what one set does
record SetStep (columns : List Column) (c : ℕ) (way : Way → Way) (s : Values) (w : Write) (z : Values) : Type 0 where
  fits : (k : Column) → slice_get columns c ≡ Some k → WriteFits k w
  went : Went way s z

module _ (f : Frame) (at : Scope) (t : Ident) (d : Declaration) (accepted : AcceptedSchema f.schema) (declared : slice_get f.schema t.num ≡ Some d) where
  merge_at : (c : ℕ) (m : Merge) (k : Column) → merge_of d.columns c ≡ m → slice_get d.columns c ≡ Some k → k.merge ≡ m
  merge_at c m k merged here = ap merge_in (sym here) ∙ merged

  plain_fits : (m : Merge) (c : ℕ) (v : Val) → (m ≡ merges.NumDelta → ⊥) → merge_of d.columns c ≡ m → type_of_val v ≡ column_type f.schema t.num c → (k : Column) → slice_get d.columns c ≡ Some k → WriteFits k (Set v)
  plain_fits m c v plain merged typed k here =
      let same : column_type f.schema t.num c ≡ k.ty = ap (λ o. type_in (slice_get (columns_at o) c)) declared ∙ ap type_in here in
      ((λ counts. plain (sym (merge_at c m k merged here) ∙ counts)), has_type k.ty v (typed ∙ same))

  set_step : (name : Ident) (v : Val) (s : Values) (w : Write) (z : Values) (m : Merge) → Sees f (behind_set at t) s → OldIs f (behind_set at t) t.num s.old → type_of_val v ≡ column_type f.schema t.num name.num
      → merge_of d.columns name.num ≡ m → set_of m name.num v s ≡ Gives w z → SetStep d.columns name.num (now_way m name.num) s w z
  set_step name v s w z merges.Plain sees old typed merged is = record {
    fits = λ k here. subst (WriteFits k) (same_value (Set v) w s z is) (plain_fits merges.Plain name.num v (λ e. let bad : merges.Plain ≡ merges.NumDelta = e in cc) merged typed k here);
    went = went_to (λ x. x) s s z (same_scope (Set v) w s z is) (went_none s);
  }
  set_step name v s w z merges.Lww sees old typed merged is = record {
    fits = λ k here. subst (WriteFits k) (same_value (Set v) w s z is) (plain_fits merges.Lww name.num v (λ e. let bad : merges.Lww ≡ merges.NumDelta = e in cc) merged typed k here);
    went = went_to (λ x. x) s s z (same_scope (Set v) w s z is) (went_none s);
  }
  set_step name v s w z merges.Fresh sees old typed merged is = record {
    fits = λ k here. subst (WriteFits k) (same_value (Set v) w s z is) (plain_fits merges.Fresh name.num v (λ e. let bad : merges.Fresh ≡ merges.NumDelta = e in cc) merged typed k here);
    went = went_to (λ x. x) s s z (same_scope (Set v) w s z is) (went_none s);
  }
  set_step name v s w z merges.NumDelta sees old typed merged is =
      let g = then_gives (read_old name.num s) (delta_to v) w z is in
      let now = evaluates f (behind_set at t) t.num (Old name name.spot) s g.value g.scope sees old (λ none. let bad : Some t ≡ None = none in cc) g.first in
      let made = same_write w (narrow (number_in v -ℤ number_in g.value)) g.scope z g.last in
      let integer : column_type f.schema t.num name.num ≡ types.Int = counter_type f.schema t.num d name.num accepted declared merged in
      record {
        fits = λ k here. subst (WriteFits k) (sym made.1) (merge_at name.num merges.NumDelta k merged here);
        went = went_to (paths.brought_old name.num types.Int) s g.scope z made.2 (subst (λ ty. Went (paths.brought_old name.num ty) s g.scope) integer now.went);
      }

  -- the sets of an update, in order
  record SetsMade (sets : List (Ident × Term)) (s : Values) (ws : List (ℕ × Write)) (z : Values) : Type 0 where
    suited : Suited d.columns ws
    went : Went (sets_way f.schema (names_in f) t.num sets) s z

  sets_evaluate : (sets : List (Ident × Term)) (s : Values) (ws : List (ℕ × Write)) (z : Values) → Sees f (behind_set at t) s → OldIs f (behind_set at t) t.num s.old → SetsSuit f (behind_set at t) t sets
      → sets_made d.columns sets s ≡ Gives ws z → SetsMade sets s ws z
  sets_evaluate [] s ws z sees old suit is = record { suited = subst (Suited d.columns) (same_value [] ws s z is) tt; went = went_to (λ x. x) s s z (same_scope [] ws s z is) (went_none s) }
  sets_evaluate (set ∷ sets) s ws z sees old suit is =
      let c : ℕ = set.0.num in
      let g = then_gives (value_of set.1 s) (λ v u. then_value (set_of (merge_of d.columns c) c v u) (λ w y. then_value (sets_made d.columns sets y) (λ vs q. Gives ((c, w) ∷ vs) q))) ws z is in
      let h = then_gives (set_of (merge_of d.columns c) c g.value g.scope) (λ w y. then_value (sets_made d.columns sets y) (λ vs q. Gives ((c, w) ∷ vs) q)) ws z g.last in
      let k = then_gives (sets_made d.columns sets h.scope) (λ vs q. Gives ((c, h.value) ∷ vs) q) ws z h.last in
      let way = term_way f.schema (names_in f) t.num set.1 in
      let now = now_way (merge_of d.columns c) c in
      let first = evaluates f (behind_set at t) t.num set.1 s g.value g.scope sees old suit.0 g.first in
      let sees_first = sees_after f (behind_set at t) way s g.scope sees first.went in
      let old_first = old_after f (behind_set at t) t.num way s g.scope old first.went in
      let second = set_step set.0 g.value g.scope h.value h.scope (merge_of d.columns c) sees_first old_first (first.type ∙ suit.1) refl h.first in
      let rest = sets_evaluate sets h.scope k.value k.scope (sees_after f (behind_set at t) now g.scope h.scope sees_first second.went) (old_after f (behind_set at t) t.num now g.scope h.scope old_first second.went) suit.2 k.first in
      let merged : merge_of d.columns c ≡ paths.merge_in (slice_get (columns_at (slice_get f.schema t.num)) c) =
      ap (λ o. paths.merge_in (slice_get (columns_at o) c)) (sym declared) in
      let whole = went_then way (λ w. sets_way f.schema (names_in f) t.num sets (now w)) s g.scope k.scope first.went (went_then now (sets_way f.schema (names_in f) t.num sets) g.scope h.scope k.scope second.went rest.went) in
      record {
        suited = subst (Suited d.columns) (same_value ((c, h.value) ∷ k.value) ws k.scope z k.last) (second.fits, rest.suited);
        went = went_to (sets_way f.schema (names_in f) t.num (set ∷ sets)) s k.scope z (same_scope ((c, h.value) ∷ k.value) ws k.scope z k.last)
            (subst (λ m. Went (λ w. sets_way f.schema (names_in f) t.num sets (now_way m c (way w))) s k.scope) merged whole);
      }

pub same_table : (schema : List Declaration) (n : ℕ) (a b : Declaration) → slice_get schema n ≡ Some a → slice_get schema n ≡ Some b → a ≡ b
same_table schema n a b p q = let both : Some a ≡ Some b = sym p ∙ q in cc

pub makes_update : (f : Frame) (at : Scope) (t : Ident) (k : List Term) (sets : List (Ident × Term)) (st : Stand) (vs : List Val) (z : Values) (d : Declaration) (row : Row) (end : Stand) → CommandIn f at (Update t k sets)
    → Holds f at st → values_of k st.scope ≡ Gives vs z → slice_get f.schema t.num ≡ Some d → RowAt f.schema (place_of_row t vs) (Some row) → updated d (place_of_row t vs) sets (with_scope st z) row ≡ Goes end
    → Makes f at (Update t k sets) st end
makes_update f at t k sets st vs z d row end command holds is declared found goes =
    let keys = all_evaluate f at k st.scope vs z command.outside holds.sees command.suits.0 is in
    let way = terms_way f.schema (names_in f) k in
    let p : Place = place_of_row t vs in
    let same : found.key.table ≡ d = same_table f.schema t.num found.key.table d found.key.declared declared in
    let begin : Values = updating row.values z in
    let sees_z = sees_after f at way st.scope z holds.sees keys.went in
    let sees : Sees f (behind_set at t) begin = record { values = sees_z.values; rows = sees_z.rows } in
    let old : OldIs f (behind_set at t) t.num begin.old = λ inside. row_types f.schema p row.values found in
    let go : List (ℕ × Write) → Stand → Flow = λ ws y. let writes = in_order d 0 d.columns ws in
    changed (record { place = p; act = acts.Update; writes = writes; instance = y.scope.progress.number }) (row_with (with_writes writes row.values) true) (update_over y) in
    let ran = on_value_goes (sets_made d.columns sets begin) (with_scope st z) go end goes in
    let made = sets_evaluate f at t d command.frame.accepted.tables declared sets begin ran.is ran.scope sees old command.suits.2 ran.gives in
    let writes : List (ℕ × Write) = in_order d 0 d.columns ran.is in
    let e : Effect = record { place = p; act = acts.Update; writes = writes; instance = ran.scope.progress.number } in
    let are = ordered_writes d 0 d.columns ran.is (from_start d) made.suited in
    let fits : EffectFits f.schema e = record {
      table = d;
      declared = declared;
      fits = record {
        key = subst (λ x. KeyFits x.columns x.key (key_values p.key)) same found.key.fits;
        allowed = command.suits.1 d declared;
        writes = are;
        order = ordered d 0 d.columns ran.is (from_start d) made.suited;
        act = tt;
      };
    } in
    let typed : map type_of_got row.values ≡ map (λ (x : Column). x.ty) d.columns = found.types ∙ ap (λ (x : Declaration). map (λ (y : Column). y.ty) x.columns) same in
    let after : Row = row_with (with_writes writes row.values) true in
    let row_fits : RowIs f.schema p after.values = record { key = record { table = d; declared = declared; fits = fits.fits.key }; types = written_types d writes row.values are typed } in
    let sees_u = sees_after f (behind_set at t) (sets_way f.schema (names_in f) t.num sets) begin ran.scope sees made.went in
    let last : Values = (update_over (with_scope st ran.scope)).scope in
    let held = holds_with f at at st last holds (record { values = sees_u.values; rows = sees_u.rows }) in
    let done = changes f at e after (with_scope st last) end held fits row_fits ran.goes in
    let to : Way → Path = λ w. Leads (forgetting (sets_way f.schema (names_in f) t.num sets (forgetting (way w)))) in
    record {
      holds = done.holds;
      along = subst (λ (q : Values). Along to st.scope.progress q.progress) (sym done.scope)
          (along_went to (λ w. forgetting (sets_way f.schema (names_in f) t.num sets (forgetting w))) way st.scope z last.progress keys.went (λ w. refl) made.went.unit made.went.choices (λ left. ap forgetting (made.went.ways left)));
    }
