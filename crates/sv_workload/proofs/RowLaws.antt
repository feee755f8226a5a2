-- Initial rows: what is known of a row before it is read, and that the loop judges all of them.
use Rattle.std.proofs.Common.{◌≡◌, ◌∙◌, ℕ, zero, suc, ◌<◌, ◌≤◌, nat_le, Bool, true, false, not, ◌&&◌, ◌||◌, ◌==◌, slice_index_or, if◌then◌else◌, List, [], ◌∷◌, ◌++◌, length, map, Option, Some, None, Ok, Err, refl, sym, ap, subst, arith}
use Rattle.std.specs.Prelude.{ℤ, ◌≤ℤ◌, int_le}
use Rattle.std.specs.List.{list_any}
use Rattle.std.specs.declared.cmp.Ordering.{Ordering}
use Rattle.std.specs.declared.cmp.Ordering.TheVariants.{Less, Equal, Greater}
use Rattle.std.specs.Ordering.{is_eq}
use Rattle.std.proofs.lemmas.Cmp.{eq_by_cmp_equiv}
use Rattle.std.proofs.lemmas.Bool.Decides.{nat_tests}
use Rattle.std.proofs.lemmas.Int.{ints}
use Rattle.std.proofs.lemmas.List.{length-map}
use Rattle.sv_value.specs.declared.values.Val.{Val}
use Rattle.sv_value.specs.declared.values.Val.TheVariants as vals
use Rattle.sv_lex.specs.declared.tokens.Token.{Token}
use Rattle.sv_app.specs.declared.apps.Ident.{Ident}
use Rattle.sv_app.specs.declared.refusals.Code.{Code}
use Rattle.sv_app.specs.declared.refusals.Code.TheVariants.{Unknown, Twice, Typing, Many, Reserved}
use Rattle.sv_app.specs.declared.requests.InitRow.{InitRow}
use Rattle.sv_app.specs.declared.schemas.Column.{Column}
use Rattle.sv_app.specs.declared.schemas.Ty.{Ty}
use Rattle.sv_app.specs.declared.schemas.Ty.TheVariants as types
use Rattle.sv_app.specs.Codes.{number_of}
use Rattle.sv_app.specs.Draws.{first_of_all}
use Rattle.sv_app.specs.Fitting.{number_in}
use Rattle.sv_app.specs.Kinds.{is_fresh}
use Rattle.sv_app.specs.Lookups.{table_of}
use Rattle.sv_app.specs.Schema.{Declaration}
use Rattle.sv_app.specs.declared.places.Place.{Place}
use Rattle.sv_app.specs.Tables.{place_cmp}
use Rattle.sv_app.proofs.PlaceLaws.{place_total, exact_places}
use Rattle.sv_effect.specs.Fits.{HasType}
use Rattle.sv_effect.specs.Initial.{ValuesFit}
use Rattle.sv_effect.specs.TablesOfCut.{init_place, is_place}
use Rattle.sv_reader.specs.declared.faults.ReadFault.{ReadFault}
use Rattle.sv_reader.specs.Grammar.{IsName}
use Rattle.sv_reader.specs.Reading.{Read, given, name_of}
use Rattle.sv_reader.proofs.PartLaws.{name_is}
use Rattle.sv_reader.proofs.PartLaws as parts
use Rattle.sv_reader.proofs.AnswerLaws.{same_read}
use Rattle.sv_reader.proofs.ReadLaws.{Took}
use Rattle.sv_workload.specs.declared.written.Row.{Row}
use Rattle.sv_workload.specs.Fits.{RowFits}
use Rattle.sv_workload.specs.Grammar.{row}
use Rattle.sv_workload.specs.InitRefused.{BeginsName, IsRepeated, IsLeftToDraw}
use Rattle.sv_workload.specs.Reading.{has_type, values_fit, repeated, crowded, reserved, or_else, whole_code, row_code, meant, table_meant, row_at}
use Rattle.sv_workload.specs.Rows.{init_row}
use Rattle.sv_workload.proofs.ValueLaws.{row_law, head_same}

-- values by test

pub typed : (ty : Ty) (v : Val) → has_type ty v ≡ true → HasType ty v
typed types.Int (vals.Int n) e = tt
typed types.Text (vals.Text t) e = tt
typed types.Int (vals.Text t) e = absurd cc
typed types.Text (vals.Int n) e = absurd cc
typed types.Ints (vals.Int n) e = absurd cc
typed types.Ints (vals.Text t) e = absurd cc

pub of_type : (ty : Ty) (v : Val) → HasType ty v → has_type ty v ≡ true
of_type types.Int (vals.Int n) is = refl
of_type types.Text (vals.Text t) is = refl
of_type types.Int (vals.Text t) is = absurd is
of_type types.Text (vals.Int n) is = absurd is
of_type types.Ints (vals.Int n) is = absurd is
of_type types.Ints (vals.Text t) is = absurd is

pub both_true : (a b : Bool) → a && b ≡ true → (a ≡ true) × (b ≡ true)
both_true true b e = (refl, e)
both_true false b e = absurd cc

pub true_both : (a b : Bool) → a ≡ true → b ≡ true → a && b ≡ true
true_both true b e f = f
true_both false b e f = absurd cc

pub fitting : (columns : List Column) (vs : List Val) → values_fit columns vs ≡ true → ValuesFit columns vs
fitting [] [] e = tt
fitting [] (v ∷ vs) e = absurd cc
fitting (c ∷ cs) [] e = absurd cc
fitting (c ∷ cs) (v ∷ vs) e = let both = both_true (has_type c.ty v) (values_fit cs vs) e in (typed c.ty v both.0, fitting cs vs both.1)

pub fit : (columns : List Column) (vs : List Val) → ValuesFit columns vs → values_fit columns vs ≡ true
fit [] [] is = refl
fit [] (v ∷ vs) is = absurd is
fit (c ∷ cs) [] is = absurd is
fit (c ∷ cs) (v ∷ vs) is = true_both (has_type c.ty v) (values_fit cs vs) (of_type c.ty v is.0) (fit cs vs is.1)

pub fit_length : (columns : List Column) (vs : List Val) → ValuesFit columns vs → length vs ≡ length columns
fit_length [] [] is = refl
fit_length [] (v ∷ vs) is = absurd is
fit_length (c ∷ cs) [] is = absurd is
fit_length (c ∷ cs) (v ∷ vs) is = omega (arith, fit_length cs vs is.1)

-- keys that are drawn, by test

pub le_from : (a b : ℤ) → int_le a b ≡ true → a ≤ℤ b
le_from a b e = omega (arith, ints, e)

pub to_le : (a b : ℤ) → a ≤ℤ b → int_le a b ≡ true
to_le a b le = by_test (int_le a b) refl
  where
    by_test : (r : Bool) → int_le a b ≡ r → r ≡ true
    by_test true e = refl
    by_test false e = absurd (omega (arith, ints, le, e))

-- places by test

pub is_place_same : (p q : Place) → is_place p q ≡ true → p ≡ q
is_place_same p q e = exact_places p q (equal (place_cmp p q) e)
  where
    equal : (o : Ordering) → is_eq o ≡ true → o ≡ Equal
    equal Equal e = refl
    equal Less e = absurd cc
    equal Greater e = absurd cc

pub same_is_place : (p : Place) → is_place p p ≡ true
same_is_place p = (eq_by_cmp_equiv place_total).refl p

module _ (schema : List Declaration) where
  pub repeated_is : (before : List Row) (r : Row) → repeated (map (init_row schema) before) (init_row schema r) ≡ true → IsRepeated schema before r
  repeated_is [] r e = absurd cc
  repeated_is (other ∷ others) r e = by_test (is_place (init_place (init_row schema other)) (init_place (init_row schema r))) refl (λ e. repeated_is others r e) e
    where
      by_test : (b : Bool) → is_place (init_place (init_row schema other)) (init_place (init_row schema r)) ≡ b → (repeated (map (init_row schema) others) (init_row schema r) ≡ true → IsRepeated schema others r)
          → b || repeated (map (init_row schema) others) (init_row schema r) ≡ true → IsRepeated schema (other ∷ others) r
      by_test true t more e = record { other = other; earlier = (0, omega arith, refl); same = is_place_same (init_place (init_row schema other)) (init_place (init_row schema r)) t }
      by_test false t more e = let found = more e in record { other = found.other; earlier = (suc found.earlier.0, omega (arith, found.earlier.1), found.earlier.2); same = found.same }

  any_at : (test : InitRow → Bool) (xs : List Row) (k : ℕ) (x : Row) → k < length xs → slice_index_or xs k x ≡ x → test (init_row schema x) ≡ true → list_any test (map (init_row schema) xs) ≡ true
  any_at test [] k x lt e t = absurd (omega (arith, lt))
  any_at test (y ∷ ys) zero x lt e t = ap (λ b. b || list_any test (map (init_row schema) ys)) (ap (λ z. test (init_row schema z)) e ∙ t)
  any_at test (y ∷ ys) (suc k) x lt e t = ap (λ b. test (init_row schema y) || b) (any_at test ys k x (omega (arith, lt)) e t) ∙ or_true (test (init_row schema y))
    where
      or_true : (b : Bool) → b || true ≡ true
      or_true true = refl
      or_true false = refl

  pub is_repeated : (before : List Row) (r : Row) → IsRepeated schema before r → repeated (map (init_row schema) before) (init_row schema r) ≡ true
  is_repeated before r is = any_at (λ x. is_place (init_place x) (init_place (init_row schema r))) before is.earlier.0 is.other is.earlier.1 is.earlier.2
      (subst (λ p. is_place (init_place (init_row schema is.other)) p ≡ true) is.same (same_is_place (init_place (init_row schema is.other))))

  abbrev is_left : Declaration → Row → Bool
  is_left t r = is_fresh t && int_le first_of_all (number_in (init_row schema r).key.first)

  left_is : (t : Declaration) (r : Row) → is_left t r ≡ true → IsLeftToDraw schema t r
  left_is t r e =
      let both = both_true (is_fresh t) (int_le first_of_all (number_in (init_row schema r).key.first)) e in
      record { fresh = both.0; large = le_from first_of_all (number_in (init_row schema r).key.first) both.1 }

  pub is_left_to_draw : (t : Declaration) (r : Row) → IsLeftToDraw schema t r → is_left t r ≡ true
  is_left_to_draw t r is = true_both (is_fresh t) (int_le first_of_all (number_in (init_row schema r).key.first)) is.fresh
      (to_le first_of_all (number_in (init_row schema r).key.first) is.large)

  -- what may be refused where a row begins, besides the grammar
  pub data Wrong (before : List Row) (tokens : List Token) (code : Code) : Type 0 where
    Nameless : code ≡ Unknown → (table : Ident) → BeginsName table tokens → table_of schema table ≡ None → Wrong before tokens code
    Misfit : code ≡ Typing → (r : Row) (front rest : List Token) (table : Declaration) → tokens ≡ front ++ rest → row r front → table_of schema r.table ≡ Some table → (RowFits table r → ⊥) → Wrong before tokens code
    Again : code ≡ Twice → (r : Row) (front rest : List Token) (table : Declaration) → tokens ≡ front ++ rest → row r front → table_of schema r.table ≡ Some table → length r.values ≡ length table.columns
        → IsRepeated schema before r → Wrong before tokens code
    Crowd : code ≡ Many → 4096 ≤ length before → Wrong before tokens code
    Left : code ≡ Reserved → (r : Row) (front rest : List Token) (table : Declaration) → tokens ≡ front ++ rest → row r front
        → table_of schema r.table ≡ Some table → IsLeftToDraw schema table r → Wrong before tokens code

  pub record Lowest (before : List Row) (tokens : List Token) (code : Code) : Type 0 where
    pub is : Wrong before tokens code
    pub low : (other : Code) → Wrong before tokens other → number_of code ≤ number_of other

  -- the code, if there is one
  abbrev pub Tells : List Row → List Token → Option Code → Type 0
  Tells before tokens None = (code : Code) → Wrong before tokens code → ⊥
  Tells before tokens (Some code) = Lowest before tokens code

  -- the name that begins a row is the name of its table
  pub row_name : (r : Row) (front rest : List Token) (token : Token) (others : List Token) (ident : Ident) → name_of token ≡ Some ident → token ∷ others ≡ front ++ rest → row r front → r.table ≡ ident
  row_name r front rest token others ident n e is =
      let first : token ≡ is.first.token = head_same (e ∙ ap (λ l. l ++ rest) (is.whole ∙ ap (λ l. l ++ is.back) is.first.only)) in
      let same : Some r.table ≡ Some ident = sym (parts.is_named r.table is.first.token is.first.holds) ∙ ap name_of (sym first) ∙ n in
      cc

  pub begins_name : (table : Ident) (token : Token) (others : List Token) (ident : Ident) → name_of token ≡ Some ident → BeginsName table (token ∷ others) → table ≡ ident
  begins_name table token others ident n is = let same : Some table ≡ Some ident = sym (parts.is_named table token is) ∙ n in cc

  module _ (before : List Row) (token : Token) (others : List Token) (ident : Ident) (n : name_of token ≡ Some ident) where
    abbrev tokens : List Token
    tokens = token ∷ others

    abbrev rows : List InitRow
    rows = map (init_row schema) before

    is_name_here : IsName ident token
    is_name_here = name_is token.spot token.kind ident n

    -- no table of that name
    unknown : table_of schema ident ≡ None → Lowest before tokens Unknown
    unknown t = record { is = Nameless refl ident is_name_here t; low = low }
      where
        low : (other : Code) → Wrong before tokens other → number_of Unknown ≤ number_of other
        low other (Nameless e table is none) = subst (λ c. 2 ≤ number_of c) (sym e) (omega arith)
        low other (Misfit e r front rest table whole is its_table fits) = subst (λ c. 2 ≤ number_of c) (sym e) (omega arith)
        low other (Again e r front rest table whole is its_table long again) = subst (λ c. 2 ≤ number_of c) (sym e) (omega arith)
        low other (Crowd e many) = subst (λ c. 2 ≤ number_of c) (sym e) (omega arith)
        low other (Left e r front rest table whole is its_table left) = subst (λ c. 2 ≤ number_of c) (sym e) (omega arith)

    -- a table that is known, and only too many rows
    known : (t : Declaration) → table_of schema ident ≡ Some t → (table : Ident) → BeginsName table tokens → table_of schema table ≡ None → ⊥
    known t e table is none = let same : Some t ≡ None = sym e ∙ ap (table_of schema) (sym (begins_name table token others ident n is)) ∙ none in absurd cc

    -- a row of a known table that fits and stands alone, or none: it may be one too many, or have a key that is drawn
    only_crowd : (t : Declaration) → table_of schema ident ≡ Some t
        → ((r : Row) (front rest : List Token) (table : Declaration) → tokens ≡ front ++ rest → row r front → table_of schema r.table ≡ Some table → (RowFits table r → ⊥) → ⊥)
        → ((r : Row) (front rest : List Token) (table : Declaration) → tokens ≡ front ++ rest → row r front → table_of schema r.table ≡ Some table → length r.values ≡ length table.columns → IsRepeated schema before r → ⊥)
        → (left : Bool) → (left ≡ true → Wrong before tokens Reserved)
        → (left ≡ false → (r : Row) (front rest : List Token) (table : Declaration) → tokens ≡ front ++ rest → row r front → table_of schema r.table ≡ Some table → IsLeftToDraw schema table r → ⊥)
        → Tells before tokens (or_else (crowded rows) (given left Reserved))
    only_crowd t e fits alone left wrong right = by_test (nat_le 4096 (length rows)) refl
      where
        long : length rows ≡ length before
        long = length-map before (init_row schema)

        by_left : length before < 4096 → (b : Bool) → left ≡ b → Tells before tokens (given b Reserved)
        by_left few true l = record { is = wrong l; low = low }
          where
            low : (other : Code) → Wrong before tokens other → number_of Reserved ≤ number_of other
            low other (Nameless o table is no_table) = absurd (known t e table is no_table)
            low other (Misfit o r front rest table whole is its_table misfit) = absurd (fits r front rest table whole is its_table misfit)
            low other (Again o r front rest table whole is its_table l again) = absurd (alone r front rest table whole is its_table l again)
            low other (Crowd o many) = absurd (omega (arith, many, few))
            low other (Left o r front rest table whole is its_table left) = subst (λ c. 12 ≤ number_of c) (sym o) (omega arith)
        by_left few false l = none
          where
            none : (code : Code) → Wrong before tokens code → ⊥
            none code (Nameless o table is no_table) = known t e table is no_table
            none code (Misfit o r front rest table whole is its_table misfit) = fits r front rest table whole is its_table misfit
            none code (Again o r front rest table whole is its_table l again) = alone r front rest table whole is its_table l again
            none code (Crowd o many) = omega (arith, many, few)
            none code (Left o r front rest table whole is its_table is_left) = right l r front rest table whole is its_table is_left

        by_test : (b : Bool) → nat_le 4096 (length rows) ≡ b → Tells before tokens (or_else (given b Many) (given left Reserved))
        by_test true c = record { is = Crowd refl (grind (arith, nat_tests, long, c)); low = low }
          where
            low : (other : Code) → Wrong before tokens other → number_of Many ≤ number_of other
            low other (Nameless o table is no_table) = absurd (known t e table is no_table)
            low other (Misfit o r front rest table whole is its_table misfit) = absurd (fits r front rest table whole is its_table misfit)
            low other (Again o r front rest table whole is its_table l again) = absurd (alone r front rest table whole is its_table l again)
            low other (Crowd o many) = subst (λ c. 6 ≤ number_of c) (sym o) (omega arith)
            low other (Left o r front rest table whole is its_table is_left) = subst (λ c. 6 ≤ number_of c) (sym o) (omega arith)
        by_test false c = by_left (grind (arith, nat_tests, long, c)) left refl

    -- the row that was read is the one that is there
    same_row : (r s : Row) (rest front behind : List Token) → row_at tokens ≡ Ok (r, rest) → tokens ≡ front ++ behind → row s front → s ≡ r
    same_row r s rest front behind e whole is =
        let same = same_read (sym (row_law.reads s front behind is refl) ∙ ap row_at (sym whole) ∙ e) in same.item

    -- a whole row of a known table
    whole_row : (t : Declaration) (r : Row) (rest : List Token) → table_of schema ident ≡ Some t → row_at tokens ≡ Ok (r, rest) → Tells before tokens (whole_code t rows (init_row schema r))
    whole_row t r rest e read = by_long (length r.values == length t.columns) refl
      where
        late : Option Code
        late = reserved t (init_row schema r)

        took : Took row row_at tokens r rest
        took = row_law.took tokens r rest read

        of_table : table_of schema r.table ≡ Some t
        of_table = ap (table_of schema) (row_name r took.front rest token others ident n took.whole took.is) ∙ e

        its : (s : Row) (front behind : List Token) (table : Declaration) → tokens ≡ front ++ behind → row s front → table_of schema s.table ≡ Some table → (s ≡ r) × (table ≡ t)
        its s front behind table whole is its_table = let same = same_row r s rest front behind read whole is in
            let tables : Some table ≡ Some t = sym its_table ∙ ap (λ (x : Row). table_of schema x.table) same ∙ of_table in
            (same, cc)

        typing : (RowFits t r → ⊥) → (IsRepeated schema before r → length r.values ≡ length t.columns → ⊥) → Lowest before tokens Typing
        typing misfit alone = record { is = Misfit refl r took.front rest t took.whole took.is of_table misfit; low = low }
          where
            low : (other : Code) → Wrong before tokens other → number_of Typing ≤ number_of other
            low other (Nameless o table is none) = absurd (known t e table is none)
            low other (Misfit o s front behind table whole is its_table m) = subst (λ c. 5 ≤ number_of c) (sym o) (omega arith)
            low other (Again o s front behind table whole is its_table l again) = let same = its s front behind table whole is its_table in
                absurd (alone (subst (λ x. IsRepeated schema before x) same.0 again) (subst (λ x. length r.values ≡ length x.columns) same.1 (subst (λ x. length x.values ≡ length table.columns) same.0 l)))
            low other (Crowd o many) = subst (λ c. 5 ≤ number_of c) (sym o) (omega arith)
            low other (Left o s front behind table whole is its_table left) = subst (λ c. 5 ≤ number_of c) (sym o) (omega arith)

        by_fit : (b : Bool) → values_fit t.columns r.values ≡ b → repeated rows (init_row schema r) ≡ false → Tells before tokens (or_else (or_else (if b then None else Some Typing) (crowded rows)) late)
        by_fit true f again = only_crowd t e
            (λ s front behind table whole is its_table misfit. let same = its s front behind table whole is its_table in
            misfit (subst (λ x. RowFits x s) (sym same.1) (subst (λ x. RowFits t x) (sym same.0) (fitting t.columns r.values f))))
            (λ s front behind table whole is its_table l a. let same = its s front behind table whole is its_table in
            let twice : true ≡ false = sym (is_repeated before r (subst (λ x. IsRepeated schema before x) same.0 a)) ∙ again in absurd cc)
            (is_left t r) (λ l. Left refl r took.front rest t took.whole took.is of_table (left_is t r l))
            (λ l s front behind table whole is its_table left. let same = its s front behind table whole is its_table in
            let bad : true ≡ false = sym (is_left_to_draw t r (subst (λ x. IsLeftToDraw schema x r) same.1 (subst (λ x. IsLeftToDraw schema table x) same.0 left))) ∙ l in absurd cc)
        by_fit false f again = typing (λ is. let bad : true ≡ false = sym (fit t.columns r.values is) ∙ f in absurd cc)
            (λ a l. let twice : true ≡ false = sym (is_repeated before r a) ∙ again in absurd cc)

        by_again : (b : Bool) → repeated rows (init_row schema r) ≡ b → length r.values ≡ length t.columns
            → Tells before tokens (or_else (or_else (if b then Some Twice else if values_fit t.columns r.values then None else Some Typing) (crowded rows)) late)
        by_again true again l = record { is = Again refl r took.front rest t took.whole took.is of_table l (repeated_is before r again); low = low }
          where
            low : (other : Code) → Wrong before tokens other → number_of Twice ≤ number_of other
            low other (Nameless o table is none) = absurd (known t e table is none)
            low other (Misfit o s front behind table whole is its_table m) = subst (λ c. 3 ≤ number_of c) (sym o) (omega arith)
            low other (Again o s front behind table whole is its_table l' again) = subst (λ c. 3 ≤ number_of c) (sym o) (omega arith)
            low other (Crowd o many) = subst (λ c. 3 ≤ number_of c) (sym o) (omega arith)
            low other (Left o s front behind table whole is its_table left) = subst (λ c. 3 ≤ number_of c) (sym o) (omega arith)
        by_again false again l = by_fit (values_fit t.columns r.values) refl again

        by_long : (b : Bool) → (length r.values == length t.columns) ≡ b → Tells before tokens
            (or_else (or_else (if not b then Some Typing else if repeated rows (init_row schema r) then Some Twice else if values_fit t.columns r.values then None else Some Typing) (crowded rows)) late)
        by_long true l = by_again (repeated rows (init_row schema r)) refl (grind (arith, nat_tests, l))
        by_long false l = typing (λ is. not_long (fit_length t.columns r.values is)) (λ a e. not_long e)
          where
            not_long : length r.values ≡ length t.columns → ⊥
            not_long e = grind (arith, nat_tests, l, e)

    -- a row that isn't whole
    part_row : (t : Declaration) (fault : ReadFault) → table_of schema ident ≡ Some t → row_at tokens ≡ Err fault → Tells before tokens (crowded rows)
    part_row t fault e read = subst (λ code. Tells before tokens code) (or_none (crowded rows)) (only_crowd t e (λ s front behind table whole is its_table misfit. no_row s front behind whole is)
        (λ s front behind table whole is its_table l a. no_row s front behind whole is) false (λ l. absurd cc) (λ l s front behind table whole is its_table left. no_row s front behind whole is))
      where
        or_none : (code : Option Code) → or_else code None ≡ code
        or_none None = refl
        or_none (Some code) = refl

        no_row : (s : Row) (front behind : List Token) → tokens ≡ front ++ behind → row s front → ⊥
        no_row s front behind whole is = let bad : ◌≡◌ {A = Read Row} (Ok (s, behind)) (Err fault) = sym (row_law.reads s front behind is refl) ∙ ap row_at (sym whole) ∙ read in absurd cc

    pub tells : Tells before tokens (row_code schema (table_meant schema tokens) rows (row_at tokens))
    tells = subst (λ (t : Option Declaration). Tells before tokens (row_code schema t rows (row_at tokens))) (ap (meant schema) (sym n)) (by_table (table_of schema ident) refl (row_at tokens) refl)
      where
        by_table : (t : Option Declaration) → table_of schema ident ≡ t → (read : Read Row) → row_at tokens ≡ read → Tells before tokens (row_code schema t rows read)
        by_table None e read r = unknown e
        by_table (Some t) e (Ok (s, rest)) r = whole_row t s rest e r
        by_table (Some t) e (Err fault) r = part_row t fault e r
