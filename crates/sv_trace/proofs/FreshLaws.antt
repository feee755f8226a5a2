-- Rows whose keys are drawn: each column but the key is written by what fits it, and the variable has the key.
use Rattle.std.proofs.Common.{◌≡◌, ◌∙◌, ℕ, zero, suc, ◌+◌, ◌<◌, ◌&&◌, if◌then◌else◌, Bool, true, false, List, [], ◌∷◌, length, map, Option, Some, None, slice_get, refl, sym, ap, subst, arith}
use Rattle.sv_value.specs.declared.values.Val.{Val}
use Rattle.sv_app.specs.declared.acts.Act.TheVariants as acts
use Rattle.sv_app.specs.declared.apps.Ident.{Ident}
use Rattle.sv_app.specs.declared.gots.Got.{Got}
use Rattle.sv_app.specs.declared.names.Meaning.TheVariants.{Constant}
use Rattle.sv_app.specs.declared.places.Place.{Place}
use Rattle.sv_app.specs.declared.schemas.Column.{Column}
use Rattle.sv_app.specs.declared.schemas.Merge.{Merge}
use Rattle.sv_app.specs.declared.schemas.Merge.TheVariants as merges
use Rattle.sv_app.specs.declared.schemas.Ty.{Ty}
use Rattle.sv_app.specs.declared.schemas.Ty.TheVariants as types
use Rattle.sv_app.specs.Kinds.{allows, kind_allows, keys_allow, is_fresh}
use Rattle.sv_app.specs.Paths.{Way, Path, Leads, terms_way, formed}
use Rattle.sv_app.specs.Paths as paths
use Rattle.sv_app.specs.Schema.{Declaration}
use Rattle.sv_app.specs.Scopes.{Scope, knowing}
use Rattle.sv_app.specs.Symbols as symbols
use Rattle.sv_app.specs.Tables.{Row}
use Rattle.sv_app.specs.Trees.{Term, Fresh}
use Rattle.sv_app.proofs.FreshLaws.{DrawnKey, fresh_key}
use Rattle.sv_effect.specs.declared.ops.Write.{Write}
use Rattle.sv_effect.specs.Fits.{EffectFits, KeyFits, HasType, WriteFits, IsWrite, columns_written, is_written, is_key_column}
use Rattle.sv_effect.specs.RowChange.{key_values}
use Rattle.sv_effect.specs.Run.{Stand, Goes, with_scope, with_value, is_formed, assigned, with_symbol, row_with, drawn}
use Rattle.sv_effect.specs.RunChanges.{Effect, with_writes, kept_values, first_write, outside_key, writes_of_columns, drawn_writes, drawn_key}
use Rattle.sv_effect.specs.RunValues.{Scope as Values, with_progress, put, Gives, values_of}
use Rattle.sv_trace.specs.Standing.{Frame, names_in, type_of_val, type_of_got, CommandIn, Sees, RowIs, Holds, Along, Makes}
use Rattle.sv_trace.proofs.BlockLaws.{holds_with}
use Rattle.sv_trace.proofs.ChangeLaws.{Changes, changes}
use Rattle.sv_trace.proofs.InsertLaws.{Inserts, whole_key, whole_written, all_written}
use Rattle.sv_trace.proofs.SchemaLaws.{zero_types}
use Rattle.sv_trace.proofs.StatementLaws.{along_went, sees_new_value, sees_progress}
use Rattle.sv_trace.proofs.TermLaws.{went_none, went_then, went_put, sees_after, AllEvaluate, all_evaluate}
use Rattle.sv_trace.proofs.WriteLaws.{has_type, key_same, AreFrom, from_next, from_here, from_start, written_types}

-- what is written first fits its column
first_fits : (k : Column) (v : Val) (merge : Merge) → k.merge ≡ merge → type_of_val v ≡ k.ty → WriteFits k (first_write merge v)
first_fits k v merges.NumDelta is typed = is
first_fits k v merges.Plain is typed = ((λ counts. let clash : merges.Plain ≡ merges.NumDelta = sym is ∙ counts in absurd cc), has_type k.ty v typed)
first_fits k v merges.Lww is typed = ((λ counts. let clash : merges.Lww ≡ merges.NumDelta = sym is ∙ counts in absurd cc), has_type k.ty v typed)
first_fits k v merges.Fresh is typed = ((λ counts. let clash : merges.Fresh ≡ merges.NumDelta = sym is ∙ counts in absurd cc), has_type k.ty v typed)

abbrev types_outside : Declaration → ℕ → List Column → List Ty
types_outside d c columns = map (λ (x : ℕ × Column). x.1.ty) (outside_key d c columns)

drawn_at : (d : Declaration) (c : ℕ) (columns : List Column) (vs : List Val) (s : Values) → AreFrom d c columns → map type_of_val vs ≡ types_outside d c columns
    → Inserts d c columns (λ w. w) s (writes_of_columns (outside_key d c columns) vs) s
drawn_at d c [] vs s from typed = record { writes = tt; above = λ n less. tt; order = tt; whole = λ j less outside. absurd (omega (arith, less)); went = went_none s }
drawn_at d c (k ∷ columns) vs s from typed = by_key (symbols.is_key_column d.key c) refl typed (λ us is. drawn_at d (suc c) columns us s (from_next d c k columns from) is)
  where
    Rest : Type 0
    Rest = (us : List Val) → map type_of_val us ≡ types_outside d (suc c) columns → Inserts d (suc c) columns (λ w. w) s (writes_of_columns (outside_key d (suc c) columns) us) s

    by_vals : (us : List Val) → symbols.is_key_column d.key c ≡ false → map type_of_val us ≡ map (λ (x : ℕ × Column). x.1.ty) ((c, k) ∷ outside_key d (suc c) columns) → Rest
        → Inserts d c (k ∷ columns) (λ w. w) s (writes_of_columns ((c, k) ∷ outside_key d (suc c) columns) us) s
    by_vals [] key typed more = absurd cc
    by_vals (u ∷ us) key typed more =
        let head : type_of_val u ≡ k.ty = cc in
        let tail : map type_of_val us ≡ types_outside d (suc c) columns = cc in
        let rest = more us tail in
        let write : IsWrite d c (first_write k.merge u) = record { column = k; declared = from_here d c k columns from; outside = key_same d.key c ∙ key; fits = first_fits k u k.merge refl head } in
        record {
          writes = (write, rest.writes);
          above = λ n less. (less, rest.above n (omega (arith, less)));
          order = (rest.above c (omega arith), rest.order);
          whole = whole_written d c (k ∷ columns) columns (first_write k.merge u) (writes_of_columns (outside_key d (suc c) columns) us) refl rest.whole;
          went = went_none s;
        }

    by_key : (b : Bool) → symbols.is_key_column d.key c ≡ b → map type_of_val vs ≡ map (λ (x : ℕ × Column). x.1.ty) (if b then outside_key d (suc c) columns else (c, k) ∷ outside_key d (suc c) columns) → Rest
        → Inserts d c (k ∷ columns) (λ w. w) s (writes_of_columns (if b then outside_key d (suc c) columns else (c, k) ∷ outside_key d (suc c) columns) vs) s
    by_key true key typed more =
        let rest = more vs typed in
        record {
          writes = rest.writes;
          above = λ n less. rest.above n (omega (arith, less));
          order = rest.order;
          whole = whole_key d c (k ∷ columns) columns (writes_of_columns (outside_key d (suc c) columns) vs) refl key rest.whole;
          went = went_none s;
        }
    by_key false key typed more = by_vals vs key typed more

and_back : (a b : Bool) → (a && b) ≡ true → b ≡ true
and_back true b e = e
and_back false b e = absurd cc

pub makes_fresh : (f : Frame) (at : Scope) (x t : Ident) (es : List Term) (st : Stand) (vs : List Val) (z : Values) (d : Declaration) (row : Option Row) (end : Stand) → CommandIn f at (Fresh x t es) → Holds f at st
    → values_of es st.scope ≡ Gives vs z → slice_get f.schema t.num ≡ Some d → drawn x.num d (record { table = t.num; key = drawn_key f.first st.effects }) vs row (with_scope st z) ≡ Goes end
    → Makes f at (Fresh x t es) st end
makes_fresh f at x t es st vs z d (Some row) end command holds is declared goes = absurd cc
makes_fresh f at x t es st vs z d None end command holds is declared goes = record {
  holds = done.holds;
  along = subst (λ (q : Values). Along to st.scope.progress q.progress) (sym done.scope)
      (along_went to (formed x.num) (λ w. paths.put types.Int (way w)) st.scope with_key (is_formed x.num with_key.progress) (went_then way (paths.put types.Int) st.scope z with_key values.went (went_put p.key.first types.Int z refl)) (λ w. refl) refl refl (λ left. refl));
}
  where
    p : Place
    p = record { table = t.num; key = drawn_key f.first st.effects }

    way : Way → Way
    way = terms_way f.schema (names_in f) es

    to : Way → Path
    to w = Leads (formed x.num (paths.put types.Int (way w)))

    values : AllEvaluate f es st.scope vs z
    values = all_evaluate f at es st.scope vs z command.outside holds.sees command.suits.0 is

    with_key : Values
    with_key = with_progress z (put p.key.first z.progress)

    mid : Stand
    mid = assigned x.num p.key.first (with_symbol p.key.first (with_scope st z))

    sees : Sees f (knowing at x Constant) mid.scope
    sees = sees_progress f (knowing at x Constant) (with_value x.num p.key.first with_key) (is_formed x.num with_key.progress)
        (sees_new_value f at x Constant p.key.first with_key (λ none. none) (sym command.suits.3) (sees_progress f at z (put p.key.first z.progress) (sees_after f at way st.scope z holds.sees values.went)))

    fresh : is_fresh d ≡ true
    fresh = and_back (kind_allows d.kind acts.Fresh) (is_fresh d) (command.suits.1 d declared)

    drawn_by : DrawnKey d
    drawn_by = fresh_key f.schema command.frame.accepted.tables t.num d declared fresh

    key : KeyFits d.columns d.key (key_values p.key)
    key = subst (λ names. KeyFits d.columns names (key_values p.key)) (sym drawn_by.only) ((drawn_by.column, drawn_by.declared, subst (λ ty. HasType ty p.key.first) (sym drawn_by.integer) tt), tt)

    typed : map type_of_val vs ≡ types_outside d 0 d.columns
    typed = values.types ∙ command.suits.2 d declared

    writes : List (ℕ × Write)
    writes = drawn_writes d vs

    made : Inserts d 0 d.columns (λ w. w) z writes z
    made = drawn_at d 0 d.columns vs z (from_start d) typed

    e : Effect
    e = record { place = p; act = acts.Fresh; writes = writes; instance = z.progress.number }

    fits : EffectFits f.schema e
    fits = record { table = d; declared = declared; fits = record { key = key; allowed = command.suits.1 d declared; writes = made.writes; order = made.order; act = all_written d writes made.whole } }

    zeros : List Got
    zeros = kept_values d p.key None

    after : Row
    after = row_with (with_writes writes zeros) true

    row_fits : RowIs f.schema p after.values
    row_fits = record { key = record { table = d; declared = declared; fits = key }; types = written_types d writes zeros made.writes (zero_types f.schema command.frame.accepted.tables t.num d p.key declared key) }

    done : Changes f (knowing at x Constant) mid end
    done = changes f (knowing at x Constant) e after mid end (holds_with f at (knowing at x Constant) st mid.scope holds sees) fits row_fits goes
