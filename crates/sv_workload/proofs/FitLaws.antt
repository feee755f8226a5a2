-- Initial rows of which none is refused fit the schema, and no two stand at one place.
use Rattle.std.proofs.Common.{◌≡◌, ◌∙◌, ℕ, zero, suc, ◌+◌, ◌<◌, ◌≤◌, nat_le, Bool, true, false, List, [], ◌∷◌, ◌++◌, length, map, Option, Some, None, slice_get, refl, sym, ap, subst, append_assoc, arith}
use Rattle.std.specs.Prelude.{ℤ, ◌≤ℤ◌, ◌<ℤ◌, int_le}
use Rattle.std.specs.List.{All, Contains}
use Rattle.std.specs.Option.{unwrap_or}
use Rattle.std.proofs.lemmas.Bool.Decides.{nat_tests}
use Rattle.std.proofs.lemmas.Int.{ints}
use Rattle.std.proofs.lemmas.List.{length-append}
use Rattle.std.proofs.lemmas.List.Elements.{All-cons, All-nil, Contains-push, Contains-append_left}
use Rattle.sv_value.specs.declared.values.Val.{Val}
use Rattle.sv_lex.specs.declared.tokens.Token.{Token}
use Rattle.sv_app.specs.declared.refusals.Code.TheVariants.{Unknown, Twice, Typing, Many, Reserved}
use Rattle.sv_app.specs.declared.schemas.Column.{Column}
use Rattle.sv_app.specs.Accepted.{AcceptedSchema}
use Rattle.sv_app.specs.Draws.{first_of_all}
use Rattle.sv_app.specs.Fitting.{number_in}
use Rattle.sv_app.specs.Lookups.{table_of}
use Rattle.sv_app.specs.Schema.{Declaration}
use Rattle.sv_app.specs.Slots.{item}
use Rattle.sv_app.proofs.SchemaLaws.{placed}
use Rattle.sv_effect.specs.Fits.{HasType, KeyFits}
use Rattle.sv_effect.specs.Initial.{ValuesFit, InitFits, AreDistinct}
use Rattle.sv_effect.specs.RowChange.{key_values}
use Rattle.sv_effect.specs.RunValues.{nothing}
use Rattle.sv_effect.specs.TablesOfCut.{init_place}
use Rattle.sv_effect.proofs.KeyedLaws.{key_fits}
use Rattle.sv_reader.specs.Reading.{is_name}
use Rattle.sv_workload.specs.declared.written.Row.{Row}
use Rattle.sv_workload.specs.Elements.{Among, Here, Behind, AreNone}
use Rattle.sv_workload.specs.Fits.{RowFits}
use Rattle.sv_workload.specs.Grammar.{many, row}
use Rattle.sv_workload.specs.InitRefused.{BeginsName, BeginsRow, IsRepeated, IsLeftToDraw, RowRefused, NoTable, Unfit, Repeated, LeftToDraw, TooMany}
use Rattle.sv_workload.specs.Reading.{values_fit}
use Rattle.sv_workload.specs.Rows.{key_of, table_number, init_row}
use Rattle.sv_workload.proofs.InitLaws.{begins_row, row_opens}
use Rattle.sv_workload.proofs.RowLaws.{fitting, fit, fit_length}

-- a value has the type of its column
pub value_at : (columns : List Column) (vs : List Val) (n : ℕ) (column : Column) → ValuesFit columns vs → slice_get columns n ≡ Some column → HasType column.ty (item nothing vs n)
value_at [] vs n column is at = absurd cc
value_at (c ∷ cs) [] n column is at = absurd is
value_at (c ∷ cs) (v ∷ vs) zero column is at = let same : c ≡ column = cc in subst (λ x. HasType x.ty v) same is.0
value_at (c ∷ cs) (v ∷ vs) (suc n) column is at = value_at cs vs n column is.1 at

-- a key that isn't one of those that are drawn is smaller
below_all : (n : ℤ) → (first_of_all ≤ℤ n → ⊥) → n <ℤ first_of_all
below_all n none = by_test (int_le first_of_all n) refl
  where
    by_test : (b : Bool) → int_le first_of_all n ≡ b → n <ℤ first_of_all
    by_test true e = absurd (none (omega (arith, ints, e)))
    by_test false e = omega (arith, ints, e)

module _ (schema : List Declaration) (accepted : AcceptedSchema schema) where
  pub init_fits : (r : Row) (t : Declaration) → table_of schema r.table ≡ Some t → RowFits t r → (IsLeftToDraw schema t r → ⊥) → InitFits schema (init_row schema r)
  init_fits r t e fits kept =
      let p = placed (λ d. d.name) schema r.table t e in
      let number : p.place ≡ table_number schema r.table = ap (λ found. unwrap_or found 0) (sym p.named) in
      let at : slice_get schema (table_number schema r.table) ≡ Some t = subst (λ n. slice_get schema n ≡ Some t) number p.at in
      record {
        table = t;
        declared = at;
        key = subst (λ found. KeyFits t.columns t.key (key_values (key_of found r))) (sym e) (key_fits schema accepted (table_number schema r.table) t r.values at (λ c column declared. value_at t.columns r.values c column fits declared));
        values = fits;
        keyed = ap (λ found. key_of found r) e;
        unreserved = λ fresh. below_all (number_in (init_row schema r).key.first) (λ large. kept (record { fresh = fresh; large = large }));
      }

-- rows of which none is refused

pub record GoodRow (schema : List Declaration) (before : List Row) (r : Row) : Type 0 where
  pub table : Declaration
  pub known : table_of schema r.table ≡ Some table
  pub fits : RowFits table r
  pub fresh : IsRepeated schema before r → ⊥
  pub kept : IsLeftToDraw schema table r → ⊥
  pub few : length before < 4096

abbrev pub GoodFrom : List Declaration → List Row → List Row → Type 0
GoodFrom schema before [] = Unit {0}
GoodFrom schema before (r ∷ rows) = GoodRow schema before r × GoodFrom schema (before ++ r ∷ []) rows

module _ (schema : List Declaration) where
  good_row : (before : List Row) (tokens front rest : List Token) (r : Row) → tokens ≡ front ++ rest → row r front → AreNone (RowRefused schema before tokens) → GoodRow schema before r
  good_row before tokens front rest r w is right = by_table (table_of schema r.table) refl
    where
      begins : BeginsRow tokens
      begins = begins_row tokens (subst (λ l. is_name l ≡ true) (sym w) (row_opens r front rest is))

      few : length before < 4096
      few = by_test (nat_le 4096 (length before)) refl
        where
          by_test : (b : Bool) → nat_le 4096 (length before) ≡ b → length before < 4096
          by_test true t = absurd (right Many tokens (TooMany begins (grind (arith, nat_tests, t))))
          by_test false t = grind (arith, nat_tests, t)

      name_here : BeginsName r.table tokens
      name_here = subst (λ l. BeginsName r.table l) (sym (w ∙ ap (λ l. l ++ rest) (is.whole ∙ ap (λ l. l ++ is.back) is.first.only))) is.first.holds

      by_fit : (t : Declaration) → table_of schema r.table ≡ Some t → (b : Bool) → values_fit t.columns r.values ≡ b → GoodRow schema before r
      by_fit t e true f = let fits = fitting t.columns r.values f in record {
        table = t;
        known = e;
        fits = fits;
        fresh = λ again. right Twice tokens (Repeated r front rest t w is e (fit_length t.columns r.values fits) again);
        kept = λ left. right Reserved tokens (LeftToDraw r front rest t w is e left);
        few = few;
      }
      by_fit t e false f = absurd (right Typing tokens (Unfit r front rest t w is e (λ fits. let bad : true ≡ false = sym (fit t.columns r.values fits) ∙ f in absurd cc)))

      by_table : (found : Option Declaration) → table_of schema r.table ≡ found → GoodRow schema before r
      by_table None e = absurd (right Unknown tokens (NoTable r.table name_here e))
      by_table (Some t) e = by_fit t e (values_fit t.columns r.values) refl

  pub good_from : (before rows : List Row) (tokens front rest : List Token) → tokens ≡ front ++ rest → many row rows front → AreNone (Among row (RowRefused schema) before tokens) → GoodFrom schema before rows
  good_from before [] tokens front rest w is right = tt
  good_from before (r ∷ rows) tokens front rest w is right =
      let whole : tokens ≡ is.front ++ (is.back ++ rest) = w ∙ ap (λ l. l ++ rest) is.whole ∙ append_assoc is.front is.back rest in (
        good_row before tokens is.front (is.back ++ rest) r whole is.first (λ code here refused. right code here (Here before tokens code here refused)),
        good_from (before ++ r ∷ []) rows (is.back ++ rest) is.back rest refl is.then
            (λ code here refused. right code here (subst (λ l. Among row (RowRefused schema) before l code here) (sym whole) (Behind before r is.front (is.back ++ rest) code here is.first refused))),
      )

  pub all_fit : AcceptedSchema schema → (before rows : List Row) → GoodFrom schema before rows → All (InitFits schema) (map (init_row schema) rows)
  all_fit accepted before [] good = All-nil (InitFits schema)
  all_fit accepted before (r ∷ rows) good = All-cons (InitFits schema) (init_row schema r) (map (init_row schema) rows) (init_fits schema accepted r good.0.table good.0.known good.0.fits good.0.kept) (all_fit accepted (before ++ r ∷ []) rows good.1)

  apart : (other : Row) (before rows : List Row) → Contains before other → GoodFrom schema before rows → All (λ x. init_place (init_row schema other) ≡ init_place x → ⊥) (map (init_row schema) rows)
  apart other before [] has good = All-nil (λ x. init_place (init_row schema other) ≡ init_place x → ⊥)
  apart other before (r ∷ rows) has good = All-cons (λ x. init_place (init_row schema other) ≡ init_place x → ⊥) (init_row schema r) (map (init_row schema) rows) (λ same. good.0.fresh (record { other = other; earlier = has; same = same }))
      (apart other (before ++ r ∷ []) rows (Contains-append_left before (r ∷ []) other has) good.1)

  pub distinct : (before rows : List Row) → GoodFrom schema before rows → AreDistinct (map (init_row schema) rows)
  distinct before [] good = tt
  distinct before (r ∷ rows) good = (apart r (before ++ r ∷ []) rows (Contains-push before r) good.1, distinct (before ++ r ∷ []) rows good.1)

  pub few_rows : (before rows : List Row) → GoodFrom schema before rows → length before ≤ 4096 → length before + length rows ≤ 4096
  few_rows before [] good le = omega (arith, le)
  few_rows before (r ∷ rows) good le =
      let more = few_rows (before ++ r ∷ []) rows good.1 (omega (arith, good.0.few, length-append before (r ∷ []))) in
      omega (arith, more, length-append before (r ∷ []))
