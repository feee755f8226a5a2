-- A change that fits keeps what holds; rows are removed.
use Rattle.std.proofs.Common.{◌≡◌, ◌∙◌, ◌<◌, nat_lt, if◌then◌else◌, cond, Bool, true, false, List, [], ◌∷◌, ◌++◌, length, map, Option, Some, None, refl, sym, subst, arith}
use Rattle.std.specs.List.{All}
use Rattle.std.specs.FinMap.{get, insert, get-insert}
use Rattle.std.specs.Ordering.{eq_by_cmp}
use Rattle.std.proofs.lemmas.Bool.Decides.{nat_tests}
use Rattle.std.proofs.lemmas.List.{length-append}
use Rattle.std.proofs.lemmas.List.Elements.{All-push, All-head, All-tail}
use Rattle.std.proofs.lemmas.Map.Views.{tells_apart}
use Rattle.sv_value.specs.declared.values.Val.{Val}
use Rattle.sv_app.specs.declared.acts.Act.TheVariants as acts
use Rattle.sv_app.specs.declared.apps.Ident.{Ident}
use Rattle.sv_app.specs.declared.gots.Got.{Got}
use Rattle.sv_app.specs.declared.gots.Got.TheVariants.{Num, Text as IsText}
use Rattle.sv_app.specs.declared.places.Place.{Place}
use Rattle.sv_app.specs.declared.schemas.Column.{Column}
use Rattle.sv_app.specs.Paths.{Leads, terms_way}
use Rattle.sv_app.specs.Schema.{Declaration}
use Rattle.sv_app.specs.Scopes.{Scope}
use Rattle.sv_app.specs.Tables.{Row, place_cmp}
use Rattle.sv_app.specs.Trees.{Term, Remove}
use Rattle.sv_app.proofs.PlaceLaws.{place_total, exact_places}
use Rattle.sv_effect.specs.declared.ops.RowEffect.{RowEffect}
use Rattle.sv_effect.specs.declared.outcomes.Outcome.TheVariants as outcomes
use Rattle.sv_effect.specs.Fits.{EffectFits, AllFit}
use Rattle.sv_effect.specs.Run.{Stand, Goes, Ends, with_scope, place_of_row, changed, row_with, removed}
use Rattle.sv_effect.specs.RunChanges.{Effect, effect_of}
use Rattle.sv_effect.specs.RunValues.{Scope as Values, Gives, values_of}
use Rattle.sv_effect.specs.RowsFit.{GotFits, GotsFit, ValuesAreOf}
use Rattle.sv_trace.specs.Standing.{Frame, names_in, type_of_got, CommandIn, RowIs, RowAt, Holds, Along, Makes}
use Rattle.sv_trace.proofs.StatementLaws.{same_stand, went_holds, along_went}
use Rattle.sv_trace.proofs.TermLaws.{all_evaluate}

pub own_rows_fit : (f : Frame) (at : Scope) (st : Stand) (p : Place) (row : Option Row) → Holds f at st → get st.tables p ≡ row → RowAt f.schema p row
own_rows_fit f at st p None holds is = tt
own_rows_fit f at st p (Some row) holds is = holds.tables p row is

-- the run went on behind a change
pub record Changes (f : Frame) (at : Scope) (st end : Stand) : Type 0 where
  pub holds : Holds f at end
  pub scope : end.scope ≡ st.scope

pub changes : (f : Frame) (at : Scope) (e : Effect) (row : Row) (st end : Stand) → Holds f at st → EffectFits f.schema e → RowIs f.schema e.place row.values → changed e row st ≡ Goes end → Changes f at st end
changes f at e row st end holds fits typed is = by_test (nat_lt (length st.effects) 64) refl is
  where
    after : Stand
    after = record st { tables = insert st.tables e.place row; effects = st.effects ++ e ∷ [] }

    rows : (p : Place) (r : Row) → get (insert st.tables e.place row) p ≡ Some r → RowIs f.schema p r.values
    rows p r found = by_place (eq_by_cmp place_cmp p e.place) refl (sym (get-insert place_total st.tables e.place row p) ∙ found)
      where
        by_place : (b : Bool) → eq_by_cmp place_cmp p e.place ≡ b → cond b (Some row) (get st.tables p) ≡ Some r → RowIs f.schema p r.values
        by_place true here found =
            let same : row ≡ r = cc in
            subst (λ q. RowIs f.schema q r.values) (sym (tells_apart exact_places p e.place here)) (subst (λ (x : Row). RowIs f.schema e.place x.values) same typed)
        by_place false there found = holds.tables p r found

    by_test : (b : Bool) → nat_lt (length st.effects) 64 ≡ b → (if b then Goes after else Ends outcomes.TooLarge) ≡ Goes end → Changes f at st end
    by_test true less e' =
        let below : length st.effects < 64 = grind (arith, nat_tests, less) in
        subst (Changes f at st) (same_stand after end e') (record {
          holds = record {
            sees = holds.sees;
            tables = rows;
            effects = All-push (EffectFits f.schema) st.effects e holds.effects fits;
            few = omega (arith, below, length-append st.effects (e ∷ []));
            shaped = holds.shaped;
          };
          scope = refl;
        })
    by_test false more e' = absurd cc

gots_types : (columns : List Column) (values : List Got) → GotsFit columns values → map type_of_got values ≡ map (λ c. c.ty) columns
gots_types [] [] fit = refl
gots_types [] (got ∷ gots) fit = absurd fit
gots_types (column ∷ columns) [] fit = absurd fit
gots_types (column ∷ columns) (got ∷ gots) fit = λ i. one got fit.0 i ∷ gots_types columns gots fit.1 i
  where
    one : (g : Got) → GotFits column g → type_of_got g ≡ column.ty
    one (Num n) fits = sym fits.0
    one (IsText text) fits = sym fits

-- a row that was answered
pub row_is : (schema : List Declaration) (p : Place) (row : Row) → ValuesAreOf schema p row.values → RowAt schema p (Some row)
row_is schema p row of = record { key = of.key; types = gots_types of.key.table.columns row.values of.fits }

pub makes_remove : (f : Frame) (at : Scope) (t : Ident) (k : List Term) (st : Stand) (vs : List Val) (z : Values) (row : Row) (end : Stand) → CommandIn f at (Remove t k) → Holds f at st
    → values_of k st.scope ≡ Gives vs z → RowAt f.schema (place_of_row t vs) (Some row) → removed (place_of_row t vs) (with_scope st z) row ≡ Goes end → Makes f at (Remove t k) st end
makes_remove f at t k st vs z row end command holds is found goes =
    let values = all_evaluate f at k st.scope vs z command.outside holds.sees command.suits.0 is in
    let way = terms_way f.schema (names_in f) k in
    let p : Place = place_of_row t vs in
    let e : Effect = record { place = p; act = acts.Remove; writes = []; instance = z.progress.number } in
    let fits : EffectFits f.schema e = record { table = found.key.table; declared = found.key.declared; fits = record { key = found.key.fits; allowed = command.suits.1 found.key.table found.key.declared; writes = tt; order = tt; act = refl } } in
    let typed : RowIs f.schema p row.values = found in
    let done = changes f at e (row_with row.values false) (with_scope st z) end (went_holds f at way st z holds values.went) fits typed goes in
    record {
      holds = done.holds;
      along = subst (λ (q : Values). Along (λ w. Leads (way w)) st.scope.progress q.progress) (sym done.scope) (along_went (λ w. Leads (way w)) (λ w. w) way st.scope z z.progress values.went (λ w. refl) refl refl (λ left. refl));
    }

-- changes of a run, as they are carried
pub all_fit : (schema : List Declaration) (es : List RowEffect) → All (EffectFits schema) (map effect_of es) → AllFit schema es
all_fit schema [] all = tt
all_fit schema (e ∷ es) all = (All-head (EffectFits schema) (effect_of e) (map effect_of es) all, all_fit schema es (All-tail (EffectFits schema) (effect_of e) (map effect_of es) all))
