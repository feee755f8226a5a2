-- What names mean in an accepted transaction, by their numbers: the types of its expressions.
use Rattle.std.proofs.Common.{◌≡◌, ◌∙◌, inl, inr, ℕ, suc, ◌<◌, ◌≤◌, bytes_eq, Bool, true, false, if◌then◌else◌, List, [], ◌∷◌, ◌++◌, map, Option, Some, None, slice_get, refl, sym, ap, subst, arith}
use Rattle.std.specs.List.{find}
use Rattle.std.specs.Option.{option_map, option_and_then, unwrap_or, is_none}
use Rattle.std.proofs.lemmas.Slice.Eq.{bytes_eq-Decides}
use Rattle.sv_value.specs.declared.spots.Spot.{Spot}
use Rattle.sv_app.specs.declared.apps.Ident.{Ident}
use Rattle.sv_app.specs.declared.names.Declared.{Declared}
use Rattle.sv_app.specs.declared.names.Known.{Known}
use Rattle.sv_app.specs.declared.names.Meaning.{Meaning}
use Rattle.sv_app.specs.declared.names.Meaning.TheVariants.{Parameter, Variable as Local, Row as RowOf, Constant}
use Rattle.sv_app.specs.declared.refusals.Code.{Code}
use Rattle.sv_app.specs.declared.refusals.Code.TheVariants.{Unknown, Typing}
use Rattle.sv_app.specs.declared.schemas.Column.{Column}
use Rattle.sv_app.specs.declared.schemas.Ty.TheVariants as types
use Rattle.sv_app.specs.Lookups.{is_named, column_of, table_of, place_of, holds_of, column_names}
use Rattle.sv_app.specs.Numbers.{numbered_in, columns_meant}
use Rattle.sv_app.specs.Paths.{Names, columns_at, type_in, type_of, column_type}
use Rattle.sv_app.specs.Schema.{Declaration}
use Rattle.sv_app.specs.Scopes.{Scope, meaning_of}
use Rattle.sv_app.specs.Slots.{item}
use Rattle.sv_app.specs.TermTypes as terms
use Rattle.sv_app.specs.Trees.{Term, Number, Words, Variable, Field, Old, Minus, Sum, Difference, Product, Test, Compare, Negation, Both, Either}
use Rattle.sv_app.specs.TxnNames.{declares}
use Rattle.sv_app.specs.TxnNumbers.{Naming, columns_of, columns_of_row, numbered_name, numbered_term, numbered_terms, numbered_test}
use Rattle.sv_app.specs.TxnTyping.{is_no_value, value_faults, no_column_of, field_faults, old_faults, operand_faults, term_faults, all_term_faults, test_faults, comparison_faults}
use Rattle.sv_app.specs.Typing.{fault_if}
use Rattle.sv_app.proofs.AcceptedLaws.{front_none, back_none, no_fault}
use Rattle.sv_trace.specs.Standing.{Frame, names_in, IsValue, IsRow, Means, Reads, AllRead, TestReads}
use Rattle.sv_app.proofs.SchemaLaws.{column_named}

-- names that are spelled alike have one place
place_same : (names : List Ident) (a b : Ident) → a.name ≡ b.name → place_of a names ≡ place_of b names
place_same [] a b e = refl
place_same (y ∷ ys) a b e = λ i. if bytes_eq y.name (e i) then Some 0 else option_map (λ place. suc place) (place_same ys a b e i)

pub alike : (a b : Ident) → is_named a b ≡ true → a.name ≡ b.name
alike a b e = (bytes_eq-Decides a.name b.name).0 e

found_same : (ds : List Declared) (a b : Ident) → a.name ≡ b.name → find (λ (d : Declared). is_named d.name a) ds ≡ find (λ (d : Declared). is_named d.name b) ds
found_same ds a b e = ap (λ n. find (λ (d : Declared). bytes_eq d.name.name n) ds) e

-- names so far and all names are the same below a number
abbrev pub Agree : ℕ → Names → Names → Type 0
Agree k n m = (i : ℕ) → i < k → (item types.Int n.types i ≡ item types.Int m.types i) × (item 0 n.tables i ≡ item 0 m.tables i)

-- a table by its name and by its number
pub record IsTable (schema : List Declaration) (t : Ident) : Type 0 where
  pub table : Declaration
  pub named : table_of schema t ≡ Some table
  pub at : slice_get schema t.num ≡ Some table

module _ (f : Frame) where
  abbrev pub all : Naming
  all = record { schema = f.schema; names = declares f.txn; updated = [] }

  abbrev pub in_update : List Ident → Naming
  in_update columns = record { schema = f.schema; names = declares f.txn; updated = columns }

  -- the table with which a name of a row is declared
  abbrev pub table_declared : Ident → Option Ident
  table_declared x = option_and_then (λ (d : Declared). d.table) (find (λ (d : Declared). is_named d.name x) (declares f.txn))

  abbrev pub MeaningIs : Meaning → Ident → Type 0
  MeaningIs (Parameter ty) x = item types.Int (names_in f).types x.num ≡ ty
  MeaningIs (Local ty) x = ty ≡ Some (item types.Int (names_in f).types x.num)
  MeaningIs (RowOf t) x = (item 0 (names_in f).tables x.num ≡ t.num) × IsTable f.schema t × (table_declared x ≡ Some t)
  MeaningIs Constant x = item types.Int (names_in f).types x.num ≡ types.Int

  pub record KnownIs (k : ℕ) (known : Known) : Type 0 where
    pub own : numbered_name all known.name ≡ known.name
    pub below : known.name.num < k
    pub meaning : MeaningIs known.meaning known.name

  abbrev pub AllKnown : ℕ → List Known → Type 0
  AllKnown k [] = Unit {0}
  AllKnown k (x ∷ known) = KnownIs k x × AllKnown k known

  pub known_more : (j k : ℕ) (known : List Known) → j ≤ k → AllKnown j known → AllKnown k known
  known_more j k [] le is = tt
  known_more j k (x ∷ known) le is = (record { own = is.0.own; below = let b = is.0.below in omega (arith, le, b); meaning = is.0.meaning }, known_more j k known le is.1)

  -- what a name of an expression means
  pub record Found (k : ℕ) (known : List Known) (x : Ident) (m : Meaning) : Type 0 where
    pub below : x.num < k
    pub meaning : MeaningIs m x
    pub as_value : IsValue m → Means IsValue known x.num
    pub as_row : IsRow m → Means IsRow known x.num

  meaning_same : (m : Meaning) (a b : Ident) → a.name ≡ b.name → a.num ≡ b.num → MeaningIs m a → MeaningIs m b
  meaning_same (Parameter ty) a b name num is = subst (λ n. item types.Int (names_in f).types n ≡ ty) num is
  meaning_same (Local ty) a b name num is = subst (λ n. ty ≡ Some (item types.Int (names_in f).types n)) num is
  meaning_same (RowOf t) a b name num is =
      (subst (λ n. item 0 (names_in f).tables n ≡ t.num) num is.0, is.1, ap (λ o. option_and_then (λ (d : Declared). d.table) o) (sym (found_same (declares f.txn) a b name)) ∙ is.2)
  meaning_same Constant a b name num is = subst (λ n. item types.Int (names_in f).types n ≡ types.Int) num is

  pub found : (k : ℕ) (known : List Known) (x : Ident) (m : Meaning) → AllKnown k known → numbered_name all x ≡ x → option_map (λ (y : Known). y.meaning) (find (λ (y : Known). is_named y.name x) known) ≡ Some m
      → Found k known x m
  found k [] x m is own e = absurd cc
  found k (y ∷ known) x m is own e = by_test (is_named y.name x) refl e (found k known x m is.1 own)
    where
      by_test : (b : Bool) → is_named y.name x ≡ b → option_map (λ (z : Known). z.meaning) (if b then Some y else find (λ (z : Known). is_named z.name x) known) ≡ Some m
          → (option_map (λ (z : Known). z.meaning) (find (λ (z : Known). is_named z.name x) known) ≡ Some m → Found k known x m) → Found k (y ∷ known) x m
      by_test true t e more =
          let same : y.meaning ≡ m = cc in
          let name : y.name.name ≡ x.name = alike y.name x t in
          let places = place_same (map (λ (d : Declared). d.name) (declares f.txn)) y.name x name in
          let num : y.name.num ≡ x.num = ap (λ (z : Ident). z.num) (sym is.0.own) ∙ ap (λ o. unwrap_or o 0) places ∙ ap (λ (z : Ident). z.num) own in
          record {
            below = subst (λ n. n < k) num is.0.below;
            meaning = meaning_same m y.name x name num (subst (λ z. MeaningIs z y.name) same is.0.meaning);
            as_value = λ p. inl (num, subst IsValue (sym same) p);
            as_row = λ p. inl (num, subst IsRow (sym same) p);
          }
      by_test false t e more = let rest = more e in record { below = rest.below; meaning = rest.meaning; as_value = λ p. inr (rest.as_value p); as_row = λ p. inr (rest.as_row p) }

  -- `old` stands for the row of the table that is updated
  abbrev pub UpdatedIs : Option Ident → List Ident → ℕ → Type 0
  UpdatedIs None columns table = Unit {0}
  UpdatedIs (Some t) columns table = (is : IsTable f.schema t) × (columns ≡ column_names is.table) × (table ≡ t.num)

  -- an expression reads what may be used, and is of the type that its names say, also by the names so far
  pub record TermIs (k : ℕ) (at : Scope) (table : ℕ) (e : Term) : Type 0 where
    pub reads : Reads at e
    pub type : terms.type_of at e ≡ Some (type_of f.schema (names_in f) table e)
    pub agrees : (n : Names) → Agree k n (names_in f) → type_of f.schema n table e ≡ type_of f.schema (names_in f) table e

  value_means : (m : Meaning) (x : Ident) → is_no_value m ≡ false → MeaningIs m x → IsValue m × (terms.type_meant (Some m) ≡ Some (item types.Int (names_in f).types x.num))
  value_means (Parameter types.Int) x no_list is = (tt, ap (λ t. Some t) (sym is))
  value_means (Parameter types.Text) x no_list is = (tt, ap (λ t. Some t) (sym is))
  value_means (Parameter types.Ints) x no_list is = absurd cc
  value_means (Local ty) x no_list is = (tt, is)
  value_means (RowOf t) x no_list is = absurd cc
  value_means Constant x no_list is = (tt, ap (λ t. Some t) (sym is))

  -- a column of a table, by name and by number
  pub column_is : (t : Ident) (is : IsTable f.schema t) (c : Ident) → no_column_of f.schema t c ≡ [] → numbered_in (column_names is.table) c ≡ c → terms.column_type f.schema t c ≡ Some (column_type f.schema t.num c.num)
  column_is t is c right own = by_column (column_of is.table c) refl
      (no_fault (is_none (column_of is.table c)) c.spot Unknown (ap (λ o. fault_if (holds_of o (λ d. is_none (column_of d c))) c.spot Unknown) (sym is.named) ∙ right))
    where
      by_column : (o : Option Column) → column_of is.table c ≡ o → is_none o ≡ false → terms.column_type f.schema t c ≡ Some (column_type f.schema t.num c.num)
      by_column None e known = absurd cc
      by_column (Some k) e known =
          ap (λ o. option_and_then (λ d. option_map (λ (x : Column). x.ty) (column_of d c)) o) is.named ∙ ap (λ o. option_map (λ (x : Column). x.ty) o) e
          ∙ sym (ap (λ o. Some (type_in (slice_get (columns_at o) c.num))) is.at ∙ ap (λ o. Some (type_in o)) (column_named is.table c k own e))

  pub bad_fault : (spot : Spot) (code : Code) → fault_if true spot code ≡ [] → ⊥
  bad_fault spot code e = cc

  module _ (k : ℕ) (known : List Known) (u : Option Ident) (columns : List Ident) (table : ℕ) (is : AllKnown k known) (updated : UpdatedIs u columns table) where
    abbrev at : Scope
    at = record { schema = f.schema; known = known; updated = u }

    variable_is : (x : Ident) (s : Spot) (o : Option Meaning) → meaning_of at x ≡ o → value_faults o x ≡ [] → numbered_name all x ≡ x → TermIs k at table (Variable x s)
    variable_is x s None e right own = absurd (bad_fault x.spot Unknown (front_none (fault_if true x.spot Unknown) (fault_if false x.spot Typing) right))
    variable_is x s (Some m) e right own =
        let here = found k known x m is own e in
        let value = value_means m x (no_fault (is_no_value m) x.spot Typing (back_none (fault_if false x.spot Unknown) (fault_if (is_no_value m) x.spot Typing) right)) here.meaning in
        record { reads = here.as_value value.0; type = ap terms.type_meant e ∙ value.1; agrees = λ n agree. (agree x.num here.below).0 }

    field_is : (r c : Ident) (s : Spot) (o : Option Meaning) → meaning_of at r ≡ o → field_faults at o r c ≡ [] → numbered_name all r ≡ r → numbered_in (columns_of_row (in_update columns) r) c ≡ c → TermIs k at table (Field r c s)
    field_is r c s None e right own own_column = absurd (bad_fault r.spot Unknown right)
    field_is r c s (Some (Parameter ty)) e right own own_column = absurd (bad_fault r.spot Typing right)
    field_is r c s (Some (Local ty)) e right own own_column = absurd (bad_fault r.spot Typing right)
    field_is r c s (Some (RowOf t)) e right own own_column =
        let here = found k known r (RowOf t) is own e in
        let of_table : IsTable f.schema t = here.meaning.1 in
        let names : columns_of_row (in_update columns) r ≡ column_names of_table.table = ap (columns_of f.schema) here.meaning.2 ∙ ap columns_meant of_table.named in
        let typed = column_is t of_table c right (subst (λ l. numbered_in l c ≡ c) names own_column) in
        record {
          reads = here.as_row tt;
          type = ap (λ o. terms.field_type f.schema o c) e ∙ typed ∙ ap (λ n. Some (column_type f.schema n c.num)) (sym here.meaning.0);
          agrees = λ n agree. ap (λ m. column_type f.schema m c.num) (agree r.num here.below).1;
        }
    field_is r c s (Some Constant) e right own own_column = absurd (bad_fault r.spot Typing right)

    old_is : (c : Ident) (s : Spot) → old_faults at u c s ≡ [] → numbered_in columns c ≡ c → TermIs k at table (Old c s)
    old_is c s right own = by_table u refl updated right
      where
        by_table : (o : Option Ident) → u ≡ o → UpdatedIs o columns table → old_faults at o c s ≡ [] → TermIs k at table (Old c s)
        by_table None e of right = absurd (bad_fault s Typing right)
        by_table (Some t) e of right =
            let typed = column_is t of.0 c right (subst (λ l. numbered_in l c ≡ c) of.1 own) in
            record {
              reads = λ none. let bad : Some t ≡ None = sym e ∙ none in cc;
              type = ap (λ o. terms.old_type f.schema o c) e ∙ typed ∙ ap (λ n. Some (column_type f.schema n c.num)) (sym of.2);
              agrees = λ n agree. refl;
            }

    -- operands: nothing is wrong in either
    right_first : (a b : Term) → operand_faults at a ++ operand_faults at b ++ term_faults at a ++ term_faults at b ≡ [] → term_faults at a ≡ []
    right_first a b right = back_none (operand_faults at a ++ operand_faults at b) (term_faults at a) (front_none (operand_faults at a ++ operand_faults at b ++ term_faults at a) (term_faults at b) right)

    right_second : (a b : Term) → operand_faults at a ++ operand_faults at b ++ term_faults at a ++ term_faults at b ≡ [] → term_faults at b ≡ []
    right_second a b right = back_none (operand_faults at a ++ operand_faults at b ++ term_faults at a) (term_faults at b) right

    pub term_is : (e : Term) → term_faults at e ≡ [] → numbered_term (in_update columns) e ≡ e → TermIs k at table e
    term_is (Number n s) right own = record { reads = tt; type = refl; agrees = λ m agree. refl }
    term_is (Words t s) right own = record { reads = tt; type = refl; agrees = λ m agree. refl }
    term_is (Variable x s) right own = variable_is x s (meaning_of at x) refl right (let same : numbered_name all x ≡ x = cc in same)
    term_is (Field r c s) right own = field_is r c s (meaning_of at r) refl right (let same : numbered_name all r ≡ r = cc in same) (let same : numbered_in (columns_of_row (in_update columns) r) c ≡ c = cc in same)
    term_is (Old c s) right own = old_is c s right (let same : numbered_in columns c ≡ c = cc in same)
    term_is (Minus a s) right own =
        let same : numbered_term (in_update columns) a ≡ a = cc in
        record { reads = (term_is a (back_none (operand_faults at a) (term_faults at a) right) same).reads; type = refl; agrees = λ m agree. refl }
    term_is (Sum a b s) right own =
        let one : numbered_term (in_update columns) a ≡ a = cc in
        let two : numbered_term (in_update columns) b ≡ b = cc in
        record { reads = ((term_is a (right_first a b right) one).reads, (term_is b (right_second a b right) two).reads); type = refl; agrees = λ m agree. refl }
    term_is (Difference a b s) right own =
        let one : numbered_term (in_update columns) a ≡ a = cc in
        let two : numbered_term (in_update columns) b ≡ b = cc in
        record { reads = ((term_is a (right_first a b right) one).reads, (term_is b (right_second a b right) two).reads); type = refl; agrees = λ m agree. refl }
    term_is (Product a b s) right own =
        let one : numbered_term (in_update columns) a ≡ a = cc in
        let two : numbered_term (in_update columns) b ≡ b = cc in
        record { reads = ((term_is a (right_first a b right) one).reads, (term_is b (right_second a b right) two).reads); type = refl; agrees = λ m agree. refl }

    pub terms_read : (es : List Term) → all_term_faults at es ≡ [] → numbered_terms (in_update columns) es ≡ es → AllRead at es
    terms_read [] right own = tt
    terms_read (e ∷ es) right own =
        let one : numbered_term (in_update columns) e ≡ e = cc in
        let rest : numbered_terms (in_update columns) es ≡ es = cc in
        ((term_is e (front_none (term_faults at e) (all_term_faults at es) right) one).reads, terms_read es (back_none (term_faults at e) (all_term_faults at es) right) rest)

    pub test_reads : (t : Test) → test_faults at t ≡ [] → numbered_test (in_update columns) t ≡ t → TestReads at t
    test_reads (Compare a r b) right own =
        let one : numbered_term (in_update columns) a ≡ a = cc in
        let two : numbered_term (in_update columns) b ≡ b = cc in (
          (term_is a (back_none (comparison_faults at a r b) (term_faults at a) (front_none (comparison_faults at a r b ++ term_faults at a) (term_faults at b) right)) one).reads,
          (term_is b (back_none (comparison_faults at a r b ++ term_faults at a) (term_faults at b) right) two).reads,
        )
    test_reads (Negation t) right own =
        let same : numbered_test (in_update columns) t ≡ t = cc in
        test_reads t right same
    test_reads (Both t q) right own =
        let one : numbered_test (in_update columns) t ≡ t = cc in
        let two : numbered_test (in_update columns) q ≡ q = cc in
        (test_reads t (front_none (test_faults at t) (test_faults at q) right) one, test_reads q (back_none (test_faults at t) (test_faults at q) right) two)
    test_reads (Either t q) right own =
        let one : numbered_test (in_update columns) t ≡ t = cc in
        let two : numbered_test (in_update columns) q ≡ q = cc in
        (test_reads t (front_none (test_faults at t) (test_faults at q) right) one, test_reads q (back_none (test_faults at t) (test_faults at q) right) two)
