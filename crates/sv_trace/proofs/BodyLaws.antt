-- The body of an accepted transaction: its statements read what may be used, and their values are of the types of what they are put into.
use Rattle.sv_app.proofs.ListLaws.{map_map}
use Rattle.sv_trace.proofs.WriteLaws.{from_start}
use Rattle.sv_effect.specs.RunChanges.{outside_key}
use Rattle.std.proofs.Common.{◌≡◌, ◌∙◌, ℕ, suc, ◌≤◌, ◌==◌, not, Bool, true, false, List, [], ◌∷◌, ◌++◌, length, map, Option, Some, None, slice_get, refl, sym, ap, subst, arith}
use Rattle.std.specs.List.{flat_map}
use Rattle.std.specs.Option.{option_map, is_none}
use Rattle.std.proofs.lemmas.List.{length-map}
use Rattle.sv_app.proofs.TestLaws.{test_same}
use Rattle.sv_value.specs.declared.spots.Spot.{Spot}
use Rattle.sv_app.specs.declared.acts.Act.{Act}
use Rattle.sv_app.specs.declared.acts.Act.TheVariants as acts
use Rattle.sv_app.specs.declared.apps.Ident.{Ident}
use Rattle.sv_app.specs.declared.names.Known.{Known}
use Rattle.sv_app.specs.declared.names.Meaning.{Meaning}
use Rattle.sv_app.specs.declared.names.Meaning.TheVariants.{Parameter, Variable as Local, Row as RowOf, Constant}
use Rattle.sv_app.specs.declared.refusals.Code.TheVariants.{Unknown, Kind, Typing}
use Rattle.sv_app.specs.declared.refusals.Refusal.{Refusal}
use Rattle.sv_app.specs.declared.schemas.Column.{Column}
use Rattle.sv_app.specs.declared.schemas.Ty.{Ty}
use Rattle.sv_app.specs.declared.schemas.Ty.TheVariants as types
use Rattle.sv_app.specs.Accepted.{AcceptedSchema}
use Rattle.sv_app.specs.Kinds.{allows}
use Rattle.sv_app.specs.Lookups.{is_key, column_of, table_of, table_names, column_names}
use Rattle.sv_app.specs.Numbers.{numbered_in, columns_meant}
use Rattle.sv_app.specs.Paths.{Names, with_type, with_table, columns_at, type_in, type_of, column_type, command_names, block_names}
use Rattle.sv_app.specs.Schema.{Declaration}
use Rattle.sv_app.specs.Scopes.{Scope, meaning_of, knowing, parameter, opening}
use Rattle.sv_app.specs.Scopes as scopes
use Rattle.sv_app.specs.Slots.{item}
use Rattle.sv_app.specs.TermTypes as terms
use Rattle.sv_app.specs.TermTypes.{spot_of, are_apart}
use Rattle.sv_app.specs.Trees.{Term, Command, Declare, Assign, Fetch, Choose, ForRows, ForEach, Insert, Fresh, Update, Remove, Abort, Reply, Block, Finish, Then}
use Rattle.sv_app.specs.TxnNames.{plain_name, row_name, declares}
use Rattle.sv_app.specs.TxnNames as txn_names
use Rattle.sv_app.specs.TxnNumbers.{numbered_name, numbered_term, numbered_terms, numbered_test, numbered_set, numbered_table_name, numbered_command, numbered_block, numbered_parameter, numbered_txn}
use Rattle.sv_app.specs.TxnNumbers as numbers
use Rattle.sv_app.specs.TxnTyping.{at_table, no_table, kind_faults, count_faults, place_for, type_faults, each_type_faults, value_list_faults, drawn_columns, drawn_faults, set_faults, sets_faults, assignment_faults, type_if_right, declared_type, behind, command_faults, inner_faults, block_faults, term_faults, all_term_faults, condition_faults}
use Rattle.sv_app.specs.Typing.{fault_if, repeats, no_column, is_same_type}
use Rattle.sv_app.specs.Units.{Loop, command_loops, block_loops, units, loop_variables, unit_of}
use Rattle.sv_app.proofs.AcceptedLaws.{front_none, back_none, no_fault}
use Rattle.sv_trace.specs.Standing.{Frame, names_in, Allows, AreOfColumns, SetsSuit, TypeIs, TableIs, Suits, BlockSuits, AllRead, IsValue, Means, AreDrawn}
use Rattle.sv_trace.proofs.DeclareLaws.{command_declares, block_declares, after, after_append, not_before, HereFrom, here_split, agree_then, agree_fewer, here_number, here_table, block_stays}
use Rattle.sv_trace.proofs.DrawnLaws.{drawn_names, outside_at}
use Rattle.sv_trace.proofs.NamingLaws.{all, in_update, Agree, IsTable, MeaningIs, KnownIs, AllKnown, known_more, UpdatedIs, TermIs, term_is, terms_read, test_reads, bad_fault, found}
use Rattle.sv_app.proofs.SchemaLaws.{table_named, column_named, own_first, columns_once}
use Rattle.sv_trace.proofs.SlotLaws.{at_mapped, item_here}
use Rattle.sv_trace.proofs.UnitLaws.{Each, each_left, each_right}
use Rattle.sv_trace.proofs.UpdateLaws.{same_table}

-- types that aren't apart are the same
same_type : (a b : Ty) → not (is_same_type a b) ≡ false → a ≡ b
same_type types.Int types.Int e = refl
same_type types.Int types.Text e = absurd cc
same_type types.Int types.Ints e = absurd cc
same_type types.Text types.Int e = absurd cc
same_type types.Text types.Text e = refl
same_type types.Text types.Ints e = absurd cc
same_type types.Ints types.Int e = absurd cc
same_type types.Ints types.Text e = absurd cc
same_type types.Ints types.Ints e = refl

not_apart : (a b : Option Ty) (x y : Ty) (spot : Spot) → a ≡ Some x → b ≡ Some y → fault_if (are_apart a b) spot Typing ≡ [] → x ≡ y
not_apart a b x y spot p q right = same_type x y ((λ i. are_apart (sym p i) (sym q i)) ∙ no_fault (are_apart a b) spot Typing right)

-- an argument of a rule on a table that is there
record AtTable (schema : List Declaration) (t : Ident) (rule : Declaration → List Refusal) : Type 0 where
  is : IsTable schema t
  right : rule is.table ≡ []

at_right : (schema : List Declaration) (t : Ident) (rule : Declaration → List Refusal) → numbered_in (table_names schema) t ≡ t → at_table (table_of schema t) t rule ≡ [] → AtTable schema t rule
at_right schema t rule own right = by_table (table_of schema t) refl right
  where
    by_table : (o : Option Declaration) → table_of schema t ≡ o → at_table o t rule ≡ [] → AtTable schema t rule
    by_table None e right = absurd cc
    by_table (Some d) e right = record { is = record { table = d; named = e; at = table_named schema t d own e }; right = right }

pub there : (schema : List Declaration) (t : Ident) → numbered_in (table_names schema) t ≡ t → no_table schema t ≡ [] → IsTable schema t
there schema t own right = by_table (table_of schema t) refl (no_fault (is_none (table_of schema t)) t.spot Unknown right)
  where
    by_table : (o : Option Declaration) → table_of schema t ≡ o → is_none o ≡ false → IsTable schema t
    by_table None e known = absurd cc
    by_table (Some d) e known = record { table = d; named = e; at = table_named schema t d own e }

allowed : (schema : List Declaration) (t : Ident) (is : IsTable schema t) (act : Act) → kind_faults is.table act t ≡ [] → Allows schema t act
allowed schema t is act right d at = subst (λ (x : Declaration). allows x act ≡ true) (same_table schema t.num is.table d is.at at) (by_kind (allows is.table act) (no_fault (not (allows is.table act)) t.spot Kind right))
  where
    by_kind : (b : Bool) → not b ≡ false → b ≡ true
    by_kind true e = refl
    by_kind false e = absurd cc

same_length : (m n : ℕ) → not (m == n) ≡ false → m ≡ n
same_length m n e = by_test (m == n) refl e
  where
    by_test : (b : Bool) → (m == n) ≡ b → not b ≡ false → m ≡ n
    by_test true t e = test_same m n t
    by_test false t e = absurd cc

module _ (f : Frame) (accepted : AcceptedSchema f.schema) (once : repeats (txn_names.names_of f.txn) ≡ []) where
  abbrev pub last_names : Names
  last_names = names_in f

  abbrev pub at : List Known → Scope
  at known = record { schema = f.schema; known = known; updated = None }

  pub scope_is : (known : List Known) (c : Command) → behind (at known) c ≡ at (behind (at known) c).known
  scope_is known (Declare x e) = refl
  scope_is known (Assign x e) = refl
  scope_is known (Fetch r t k) = refl
  scope_is known (Choose test ys ns) = refl
  scope_is known (ForRows r t test body) = refl
  scope_is known (ForEach x l body) = refl
  scope_is known (Insert t es) = refl
  scope_is known (Fresh x t es) = refl
  scope_is known (Update t k sets) = refl
  scope_is known (Remove t k) = refl
  scope_is known (Abort n) = refl
  scope_is known (Reply e) = refl

  -- outside updates
  plain_term : (k : ℕ) (known : List Known) (e : Term) → AllKnown f k known → term_faults (at known) e ≡ [] → numbered_term (all f) e ≡ e → TermIs f k (at known) 0 e
  plain_term k known e is right own = term_is f k known None [] 0 is tt e right own

  plain_terms : (k : ℕ) (known : List Known) (es : List Term) → AllKnown f k known → all_term_faults (at known) es ≡ [] → numbered_terms (all f) es ≡ es → AllRead (at known) es
  plain_terms k known es is right own = terms_read f k known None [] 0 is tt es right own

  -- the values of an insert
  values_typed : (k : ℕ) (known : List Known) (d : Declaration) (place : Option Spot) (columns : List Column) (es : List Term) → AllKnown f k known → ((j : ℕ) (c : Column) → slice_get columns j ≡ Some c → column_of d c.name ≡ Some c)
      → length columns ≡ length es → each_type_faults (at known) d place (map (λ (c : Column). c.name) columns) es ≡ [] → all_term_faults (at known) es ≡ [] → numbered_terms (all f) es ≡ es
      → map (λ e. type_of f.schema last_names 0 e) es ≡ map (λ (c : Column). c.ty) columns
  values_typed k known d place [] [] is columns_at_names length_is right reads own = refl
  values_typed k known d place [] (e ∷ es) is columns_at_names length_is right reads own = absurd (omega (arith, length_is))
  values_typed k known d place (c ∷ columns) [] is columns_at_names length_is right reads own = absurd (omega (arith, length_is))
  values_typed k known d place (c ∷ columns) (e ∷ es) is columns_at_names length_is right reads own =
      let names : List Ident = map (λ (x : Column). x.name) columns in
      let one : numbered_term (all f) e ≡ e = cc in
      let rest : numbered_terms (all f) es ≡ es = cc in
      let term = plain_term k known e is (front_none (term_faults (at known) e) (all_term_faults (at known) es) reads) one in
      let column : option_map (λ (x : Column). x.ty) (column_of d c.name) ≡ Some c.ty = ap (λ o. option_map (λ (x : Column). x.ty) o) (columns_at_names 0 c refl) in
      let same : c.ty ≡ type_of f.schema last_names 0 e = not_apart (option_map (λ (x : Column). x.ty) (column_of d c.name)) (terms.type_of (at known) e) c.ty (type_of f.schema last_names 0 e) (place_for place e) column term.type
      (front_none (type_faults (at known) d place c.name e) (each_type_faults (at known) d place names es) right) in
      let more = values_typed k known d place columns es is (λ j. columns_at_names (suc j)) (omega (arith, length_is)) (back_none (type_faults (at known) d place c.name e) (each_type_faults (at known) d place names es) right)
      (back_none (term_faults (at known) e) (all_term_faults (at known) es) reads) rest in
      λ i. sym same i ∷ more i

  of_columns : (k : ℕ) (known : List Known) (t : Ident) (is : IsTable f.schema t) (es : List Term) → AllKnown f k known → value_list_faults (at known) is.table (column_names is.table) es t ≡ [] → all_term_faults (at known) es ≡ []
      → numbered_terms (all f) es ≡ es → AreOfColumns f t es
  of_columns k known t is es knowns right reads own d at_number =
      let named : (j : ℕ) (c : Column) → slice_get is.table.columns j ≡ Some c → column_of is.table c.name ≡ Some c = λ j c here. own_first (λ (x : Column). x.name) is.table.columns j c (columns_once f.schema accepted t.num is.table is.at) here in
      let names : List Ident = column_names is.table in
      let counted : length names ≡ length es = same_length (length names) (length es) (no_fault (not (length names == length es)) t.spot Typing (front_none (count_faults names es t) (each_type_faults (at known) is.table None names es) right)) in
      let typed = values_typed k known is.table None is.table.columns es knowns named (sym (length-map is.table.columns (λ (c : Column). c.name)) ∙ counted) (back_none (count_faults names es t) (each_type_faults (at known) is.table None names es) right) reads own in
      typed ∙ ap (λ (x : Declaration). map (λ (c : Column). c.ty) x.columns) (same_table f.schema t.num is.table d is.at at_number)

  -- the values of a row whose key is drawn
  of_drawn : (k : ℕ) (known : List Known) (t : Ident) (is : IsTable f.schema t) (es : List Term) → AllKnown f k known → drawn_faults (at known) is.table es t ≡ [] → all_term_faults (at known) es ≡ []
      → numbered_terms (all f) es ≡ es → AreDrawn f t es
  of_drawn k known t is es knowns right reads own d at_number =
      let outside : List (ℕ × Column) = outside_key is.table 0 is.table.columns in
      let columns : List Column = map (λ (x : ℕ × Column). x.1) outside in
      let names : List Ident = drawn_columns is.table in
      let names_are : names ≡ map (λ (c : Column). c.name) columns = drawn_names f.schema accepted t.num is.table is.at ∙ sym (map_map (λ (x : ℕ × Column). x.1) (λ (c : Column). c.name) outside) in
      let named : (j : ℕ) (c : Column) → slice_get columns j ≡ Some c → column_of is.table c.name ≡ Some c =
      λ j c here. let x = at_mapped (λ (y : ℕ × Column). y.1) outside j c here in
      own_first (λ (y : Column). y.name) is.table.columns x.0.0 c (columns_once f.schema accepted t.num is.table is.at) (outside_at is.table 0 is.table.columns j x.0 (from_start is.table) x.1 ∙ ap (λ y. Some y) x.2) in
      let front = front_none (count_faults names es t) (each_type_faults (at known) is.table (Some t.spot) names es) right in
      let back = back_none (count_faults names es t) (each_type_faults (at known) is.table (Some t.spot) names es) right in
      let counted : length names ≡ length es = same_length (length names) (length es) (no_fault (not (length names == length es)) t.spot Typing front) in
      let typed = values_typed k known is.table (Some t.spot) columns es knowns named (sym (ap (λ l. length l) names_are ∙ length-map columns (λ (c : Column). c.name)) ∙ counted)
      (subst (λ l. each_type_faults (at known) is.table (Some t.spot) l es ≡ []) names_are back) reads own in
      typed ∙ map_map (λ (x : ℕ × Column). x.1) (λ (c : Column). c.ty) outside
      ∙ ap (λ (x : Declaration). map (λ (c : ℕ × Column). c.1.ty) (outside_key x 0 x.columns)) (same_table f.schema t.num is.table d is.at at_number)

  -- the sets of an update
  sets_suit : (k : ℕ) (known : List Known) (t : Ident) (is : IsTable f.schema t) (sets : List (Ident × Term)) → AllKnown f k known → sets_faults (at known) t is.table sets ≡ []
      → flat_map (λ s. term_faults (scopes.updating (at known) t) s.1) sets ≡ [] → map (numbered_set (numbers.updating (all f) t)) sets ≡ sets → SetsSuit f (scopes.updating (at known) t) t sets
  sets_suit k known t is [] knowns right reads own = tt
  sets_suit k known t is (set ∷ sets) knowns right reads own =
      let inside : Scope = scopes.updating (at known) t in
      let columns : List Ident = columns_meant (table_of f.schema t) in
      let first : numbered_set (numbers.updating (all f) t) set ≡ set = cc in
      let rest : map (numbered_set (numbers.updating (all f) t)) sets ≡ sets = cc in
      let column_own : numbered_in columns set.0 ≡ set.0 = ap (λ (p : Ident × Term). p.0) first in
      let term_own : numbered_term (in_update f columns) set.1 ≡ set.1 = ap (λ (p : Ident × Term). p.1) first in
      let meant : columns ≡ column_names is.table = ap columns_meant is.named in
      let updated : UpdatedIs f (Some t) columns t.num = (is, meant, refl) in
      let term = term_is f k known (Some t) columns t.num knowns updated set.1 (front_none (term_faults inside set.1) (flat_map (λ s. term_faults inside s.1) sets) reads) term_own in
      let one : set_faults inside is.table set ≡ [] = front_none (set_faults inside is.table set) (flat_map (λ s. set_faults inside is.table s) sets) right in
      let types_right = back_none (no_column is.table set.0 ++ fault_if (is_key is.table set.0) set.0.spot Typing) (type_faults inside is.table None set.0 set.1) one in
      let column_right = front_none (no_column is.table set.0) (fault_if (is_key is.table set.0) set.0.spot Typing)
      (front_none (no_column is.table set.0 ++ fault_if (is_key is.table set.0) set.0.spot Typing) (type_faults inside is.table None set.0 set.1) one) in (
        term.reads,
        typed (column_of is.table set.0) refl (no_fault (is_none (column_of is.table set.0)) set.0.spot Unknown column_right) (subst (λ l. numbered_in l set.0 ≡ set.0) meant column_own) term.type types_right,
        sets_suit k known t is sets knowns (back_none (set_faults inside is.table set) (flat_map (λ s. set_faults inside is.table s) sets) right)
            (back_none (term_faults inside set.1) (flat_map (λ s. term_faults inside s.1) sets) reads) rest,
      )
    where
      typed : (o : Option Column) → column_of is.table set.0 ≡ o → is_none o ≡ false → numbered_in (column_names is.table) set.0 ≡ set.0 → terms.type_of (scopes.updating (at known) t) set.1 ≡ Some (type_of f.schema last_names t.num set.1)
          → type_faults (scopes.updating (at known) t) is.table None set.0 set.1 ≡ [] → type_of f.schema last_names t.num set.1 ≡ column_type f.schema t.num set.0.num
      typed None e known_is own_is term_type right_is = absurd cc
      typed (Some c) e known_is own_is term_type right_is =
          let same : c.ty ≡ type_of f.schema last_names t.num set.1 = not_apart (option_map (λ (x : Column). x.ty) (column_of is.table set.0)) (terms.type_of (scopes.updating (at known) t) set.1) c.ty (type_of f.schema last_names t.num set.1) (spot_of set.1)
          (ap (λ o. option_map (λ (x : Column). x.ty) o) e) term_type right_is in
          sym same ∙ sym (ap (λ o. type_in (slice_get (columns_at o) set.0.num)) is.at ∙ ap type_in (column_named is.table set.0 c own_is e))

  pub value_known : (k : ℕ) (x : Ident) (m : Meaning) → numbered_name (all f) x ≡ x → x.num ≡ k → MeaningIs f m x → KnownIs f (suc k) (record { name = x; meaning = m })
  value_known k x m own number meaning = record { own = own; below = omega (arith, number); meaning = meaning }

  row_table : (t : Ident) (rule : Declaration → List Refusal) (more : List Refusal) → numbered_table_name (all f) t ≡ t → at_table (table_of f.schema t) t rule ++ more ≡ [] → AtTable f.schema t rule
  row_table t rule more own right = at_right f.schema t rule own (front_none (at_table (table_of f.schema t) t rule) more right)

  -- what is known behind a statement
  pub known_behind : (c : Command) (known : List Known) (k : ℕ) → AllKnown f k known → numbered_command (all f) c ≡ c → HereFrom f k (command_declares c) → command_faults (at known) c ≡ [] → Suits f (at known) c
      → AllKnown f (after k (command_declares c)) (behind (at known) c).known
  known_behind (Declare x e) known k is own here right suits =
      let same : numbered_name (all f) x ≡ x = cc in
      let term_own : numbered_term (all f) e ≡ e = cc in
      let term = plain_term k known e is right term_own in
      let typed : declared_type (at known) e ≡ Some (item types.Int last_names.types x.num) = ap (λ l. type_if_right l (terms.type_of (at known) e)) right ∙ term.type ∙ ap (λ ty. Some ty) (sym suits.1) in
      (value_known k x (Local (declared_type (at known) e)) same (here_number f once k (plain_name x) here.0 same) typed, known_more f k (suc k) known (omega arith) is)
  known_behind (Assign x e) known k is own here right suits = is
  known_behind (Fetch r t key) known k is own here right suits =
      let same : numbered_name (all f) r ≡ r = cc in
      let table_own : numbered_table_name (all f) t ≡ t = cc in
      let row = row_table t (λ d. value_list_faults (at known) d d.key key t) (all_term_faults (at known) key) table_own right in
      (value_known k r (RowOf t) same (here_number f once k (row_name r t) here.0 same) (suits.1, row.is, here_table f once k r t here.0), known_more f k (suc k) known (omega arith) is)
  known_behind (Choose test ys ns) known k is own here right suits = known_more f k (after k (block_declares ys ++ block_declares ns)) known (not_before k (block_declares ys ++ block_declares ns)) is
  known_behind (ForRows r t test body) known k is own here right suits = known_more f k (after (suc k) (block_declares body)) known (let le : suc k ≤ after (suc k) (block_declares body) = not_before (suc k) (block_declares body) in omega (arith, le)) is
  known_behind (ForEach x l body) known k is own here right suits = known_more f k (after (suc k) (block_declares body)) known (let le : suc k ≤ after (suc k) (block_declares body) = not_before (suc k) (block_declares body) in omega (arith, le)) is
  known_behind (Insert t es) known k is own here right suits = is
  known_behind (Fresh x t es) known k is own here right suits =
      let same : numbered_name (all f) x ≡ x = cc in
      (value_known k x Constant same (here_number f once k (plain_name x) here.0 same) suits.3, known_more f k (suc k) known (omega arith) is)
  known_behind (Update t key sets) known k is own here right suits = is
  known_behind (Remove t key) known k is own here right suits = is
  known_behind (Abort n) known k is own here right suits = is
  known_behind (Reply e) known k is own here right suits = is

  -- the final type of a name, and the final table of a row
  final_type : (k x : ℕ) (ty : Ty) (n : Names) → x ≡ k → Agree (suc k) (with_type x ty n) last_names → item types.Int last_names.types x ≡ ty
  final_type k x ty n number agree = sym (agree x (omega (arith, number))).0 ∙ item_here types.Int ty x n.types

  final_table : (k r t : ℕ) (n : Names) → r ≡ k → Agree (suc k) (with_table r t n) last_names → item 0 last_names.tables r ≡ t
  final_table k r t n number agree = sym (agree r (omega (arith, number))).1 ∙ item_here 0 t r n.tables

  -- an assignment is of its variable's type
  assigned_type : (k : ℕ) (known : List Known) (x : Ident) (e : Term) → AllKnown f k known → numbered_name (all f) x ≡ x → terms.type_of (at known) e ≡ Some (type_of f.schema last_names 0 e)
      → assignment_faults (at known) (meaning_of (at known) x) x e ≡ [] → TypeIs f x (type_of f.schema last_names 0 e) × Means IsValue known x.num
  assigned_type k known x e is own typed right = by_meaning (meaning_of (at known) x) refl right
    where
      by_meaning : (o : Option Meaning) → meaning_of (at known) x ≡ o → assignment_faults (at known) o x e ≡ [] → TypeIs f x (type_of f.schema last_names 0 e) × Means IsValue known x.num
      by_meaning None named right = absurd (bad_fault f x.spot Unknown right)
      by_meaning (Some (Parameter ty)) named right = absurd (bad_fault f x.spot Typing right)
      by_meaning (Some (Local ty)) named right =
          let here = found f k known x (Local ty) is own named in
          (not_apart ty (terms.type_of (at known) e) (item types.Int last_names.types x.num) (type_of f.schema last_names 0 e) (spot_of e) here.meaning typed right, here.as_value tt)
      by_meaning (Some (RowOf t)) named right = absurd (bad_fault f x.spot Typing right)
      by_meaning (Some Constant) named right = absurd (bad_fault f x.spot Typing right)

  -- each loop is a unit
  abbrev pub LoopIs : Loop → Type 0
  LoopIs l = slice_get (units f.txn.body) (unit_of (loop_variables f.txn.body) l.variable) ≡ Some l.body

  mutual
    command_suits : (c : Command) (known : List Known) (n : Names) (k : ℕ) → AllKnown f k known → numbered_command (all f) c ≡ c → HereFrom f k (command_declares c) → command_faults (at known) c ≡ [] → inner_faults (at known) c ≡ []
        → Agree k n last_names → Agree (after k (command_declares c)) (command_names f.schema c n) last_names → Each LoopIs (command_loops c) → Suits f (at known) c
    command_suits (Declare x e) known n k is own here right inner begin final loops =
        let same : numbered_name (all f) x ≡ x = cc in
        let term_own : numbered_term (all f) e ≡ e = cc in
        let term = plain_term k known e is right term_own in
        (term.reads, final_type k x.num (type_of f.schema n 0 e) n (here_number f once k (plain_name x) here.0 same) final ∙ term.agrees n begin)
    command_suits (Assign x e) known n k is own here right inner begin final loops =
        let same : numbered_name (all f) x ≡ x = cc in
        let term_own : numbered_term (all f) e ≡ e = cc in
        let term = plain_term k known e is (back_none (assignment_faults (at known) (meaning_of (at known) x) x e) (term_faults (at known) e) right) term_own in
        let assigned = assigned_type k known x e is same term.type (front_none (assignment_faults (at known) (meaning_of (at known) x) x e) (term_faults (at known) e) right) in
        (term.reads, assigned.0, assigned.1)
    command_suits (Fetch r t key) known n k is own here right inner begin final loops =
        let same : numbered_name (all f) r ≡ r = cc in
        let keys_own : numbered_terms (all f) key ≡ key = cc in (
          plain_terms k known key is (back_none (at_table (table_of f.schema t) t (λ d. value_list_faults (at known) d d.key key t)) (all_term_faults (at known) key) right) keys_own,
          final_table k r.num t.num n (here_number f once k (row_name r t) here.0 same) final,
        )
    command_suits (Choose test ys ns) known n k is own here right inner begin final loops =
        let test_own : numbered_test (all f) test ≡ test = cc in
        let one : numbered_block (all f) ys ≡ ys = cc in
        let two : numbered_block (all f) ns ≡ ns = cc in
        let split = here_split f k (block_declares ys) (block_declares ns) here in
        let mid : Names = block_names f.schema ys n in
        let mid_k : ℕ = after k (block_declares ys) in
        let final_ns : Agree (after mid_k (block_declares ns)) (block_names f.schema ns mid) last_names = subst (λ j. Agree j (block_names f.schema ns mid) last_names) (after_append k (block_declares ys) (block_declares ns)) final in
        let final_ys : Agree mid_k mid last_names = agree_then mid_k mid (block_names f.schema ns mid) last_names (block_stays f once ns mid mid_k two split.1)
        (agree_fewer mid_k (after mid_k (block_declares ns)) (block_names f.schema ns mid) last_names (not_before mid_k (block_declares ns)) final_ns) in (
          test_reads f k known None [] 0 is tt test right test_own,
          block_suits ys known n k is one split.0 (front_none (block_faults (at known) ys) (block_faults (at known) ns) inner) begin final_ys (each_left LoopIs (block_loops ys) (block_loops ns) loops),
          block_suits ns known mid mid_k (known_more f k mid_k known (not_before k (block_declares ys)) is) two split.1 (back_none (block_faults (at known) ys) (block_faults (at known) ns) inner) final_ys final_ns
              (each_right LoopIs (block_loops ys) (block_loops ns) loops),
        )
    command_suits (ForRows r t test body) known n k is own here right inner begin final loops =
        let same : numbered_name (all f) r ≡ r = cc in
        let table_own : numbered_table_name (all f) t ≡ t = cc in
        let body_own : numbered_block (all f) body ≡ body = cc in
        let mid : Names = with_table r.num t.num n in
        let number : r.num ≡ k = here_number f once k (row_name r t) here.0 same in
        let start : Agree (suc k) mid last_names = agree_then (suc k) mid (block_names f.schema body mid) last_names (block_stays f once body mid (suc k) body_own here.1)
        (agree_fewer (suc k) (after (suc k) (block_declares body)) (block_names f.schema body mid) last_names (not_before (suc k) (block_declares body)) final) in
        let of_table : IsTable f.schema t = there f.schema t table_own (front_none (no_table f.schema t) (condition_faults (knowing (at known) r (RowOf t)) test) right) in
        let table : TableIs f r t = final_table k r.num t.num n number start in
        let row : KnownIs f (suc k) (record { name = r; meaning = RowOf t }) = value_known k r (RowOf t) same number (table, of_table, here_table f once k r t here.0) in
        (table, loops.0, block_suits body (record { name = r; meaning = RowOf t } ∷ known) mid (suc k) (row, known_more f k (suc k) known (omega arith) is) body_own here.1 inner start final loops.1)
    command_suits (ForEach x l body) known n k is own here right inner begin final loops =
        let same : numbered_name (all f) x ≡ x = cc in
        let body_own : numbered_block (all f) body ≡ body = cc in
        let mid : Names = with_type x.num types.Int n in
        let number : x.num ≡ k = here_number f once k (plain_name x) here.0 same in
        let start : Agree (suc k) mid last_names = agree_then (suc k) mid (block_names f.schema body mid) last_names (block_stays f once body mid (suc k) body_own here.1)
        (agree_fewer (suc k) (after (suc k) (block_declares body)) (block_names f.schema body mid) last_names (not_before (suc k) (block_declares body)) final) in
        let typed : TypeIs f x types.Int = final_type k x.num types.Int n number start in
        let item_known : KnownIs f (suc k) (record { name = x; meaning = Constant }) = value_known k x Constant same number typed in
        (typed, loops.0, block_suits body (record { name = x; meaning = Constant } ∷ known) mid (suc k) (item_known, known_more f k (suc k) known (omega arith) is) body_own here.1 inner start final loops.1)
    command_suits (Insert t es) known n k is own here right inner begin final loops =
        let table_own : numbered_table_name (all f) t ≡ t = cc in
        let values_own : numbered_terms (all f) es ≡ es = cc in
        let rule : Declaration → List Refusal = λ d. kind_faults d acts.Insert t ++ value_list_faults (at known) d (column_names d) es t in
        let row = row_table t rule (all_term_faults (at known) es) table_own right in
        let reads = back_none (at_table (table_of f.schema t) t rule) (all_term_faults (at known) es) right in
        let d : Declaration = row.is.table in (
          plain_terms k known es is reads values_own,
          allowed f.schema t row.is acts.Insert (front_none (kind_faults d acts.Insert t) (value_list_faults (at known) d (column_names d) es t) row.right),
          of_columns k known t row.is es is (back_none (kind_faults d acts.Insert t) (value_list_faults (at known) d (column_names d) es t) row.right) reads values_own,
        )
    command_suits (Fresh x t es) known n k is own here right inner begin final loops =
        let same : numbered_name (all f) x ≡ x = cc in
        let table_own : numbered_table_name (all f) t ≡ t = cc in
        let values_own : numbered_terms (all f) es ≡ es = cc in
        let rule : Declaration → List Refusal = λ d. kind_faults d acts.Fresh t ++ drawn_faults (at known) d es t in
        let row = row_table t rule (all_term_faults (at known) es) table_own right in
        let d : Declaration = row.is.table in
        let reads = back_none (at_table (table_of f.schema t) t rule) (all_term_faults (at known) es) right in (
          plain_terms k known es is reads values_own,
          allowed f.schema t row.is acts.Fresh (front_none (kind_faults d acts.Fresh t) (drawn_faults (at known) d es t) row.right),
          of_drawn k known t row.is es is (back_none (kind_faults d acts.Fresh t) (drawn_faults (at known) d es t) row.right) reads values_own,
          final_type k x.num types.Int n (here_number f once k (plain_name x) here.0 same) final,
        )
    command_suits (Update t key sets) known n k is own here right inner begin final loops =
        let table_own : numbered_table_name (all f) t ≡ t = cc in
        let keys_own : numbered_terms (all f) key ≡ key = cc in
        let sets_own : map (numbered_set (numbers.updating (all f) t)) sets ≡ sets = cc in
        let rule : Declaration → List Refusal = λ d. kind_faults d acts.Update t ++ value_list_faults (at known) d d.key key t ++ sets_faults (at known) t d sets in
        let keys : List Refusal = all_term_faults (at known) key in
        let twice : List Refusal = repeats (map (λ (s : Ident × Term). s.0) sets) in
        let inside : List Refusal = flat_map (λ s. term_faults (scopes.updating (at known) t) s.1) sets in
        let whole : List Refusal = at_table (table_of f.schema t) t rule in
        let front = front_none (whole ++ keys) twice (front_none (whole ++ keys ++ twice) inside right) in
        let row = row_table t rule keys table_own front in
        let d : Declaration = row.is.table in
        let kinds = front_none (kind_faults d acts.Update t ++ value_list_faults (at known) d d.key key t) (sets_faults (at known) t d sets) row.right in (
          plain_terms k known key is (back_none whole keys front) keys_own,
          allowed f.schema t row.is acts.Update (front_none (kind_faults d acts.Update t) (value_list_faults (at known) d d.key key t) kinds),
          sets_suit k known t row.is sets is (back_none (kind_faults d acts.Update t ++ value_list_faults (at known) d d.key key t) (sets_faults (at known) t d sets) row.right) (back_none (whole ++ keys ++ twice) inside right) sets_own,
        )
    command_suits (Remove t key) known n k is own here right inner begin final loops =
        let table_own : numbered_table_name (all f) t ≡ t = cc in
        let keys_own : numbered_terms (all f) key ≡ key = cc in
        let rule : Declaration → List Refusal = λ d. kind_faults d acts.Remove t ++ value_list_faults (at known) d d.key key t in
        let row = row_table t rule (all_term_faults (at known) key) table_own right in
        let d : Declaration = row.is.table in (
          plain_terms k known key is (back_none (at_table (table_of f.schema t) t rule) (all_term_faults (at known) key) right) keys_own,
          allowed f.schema t row.is acts.Remove (front_none (kind_faults d acts.Remove t) (value_list_faults (at known) d d.key key t) row.right),
        )
    command_suits (Abort m) known n k is own here right inner begin final loops = tt
    command_suits (Reply e) known n k is own here right inner begin final loops =
        let term_own : numbered_term (all f) e ≡ e = cc in
        (plain_term k known e is right term_own).reads

    pub block_suits : (b : Block) (known : List Known) (n : Names) (k : ℕ) → AllKnown f k known → numbered_block (all f) b ≡ b → HereFrom f k (block_declares b) → block_faults (at known) b ≡ []
        → Agree k n last_names → Agree (after k (block_declares b)) (block_names f.schema b n) last_names → Each LoopIs (block_loops b) → BlockSuits f (at known) b
    block_suits Finish known n k is own here right begin final loops = tt
    block_suits (Then c b) known n k is own here right begin final loops =
        let one : numbered_command (all f) c ≡ c = cc in
        let two : numbered_block (all f) b ≡ b = cc in
        let split = here_split f k (command_declares c) (block_declares b) here in
        let mid : Names = command_names f.schema c n in
        let mid_k : ℕ = after k (command_declares c) in
        let final_b : Agree (after mid_k (block_declares b)) (block_names f.schema b mid) last_names = subst (λ j. Agree j (block_names f.schema b mid) last_names) (after_append k (command_declares c) (block_declares b)) final in
        let final_c : Agree mid_k mid last_names = agree_then mid_k mid (block_names f.schema b mid) last_names (block_stays f once b mid mid_k two split.1)
        (agree_fewer mid_k (after mid_k (block_declares b)) (block_names f.schema b mid) last_names (not_before mid_k (block_declares b)) final_b) in
        let own_faults : List Refusal = command_faults (at known) c in
        let nested : List Refusal = inner_faults (at known) c in
        let behind_faults : List Refusal = block_faults (behind (at known) c) b in
        let front = front_none (own_faults ++ nested) behind_faults right in
        let c_right = front_none own_faults nested front in
        let suits = command_suits c known n k is one split.0 c_right (back_none own_faults nested front) begin final_c (each_left LoopIs (command_loops c) (block_loops b) loops) in
        let rest = block_suits b (behind (at known) c).known mid mid_k (known_behind c known k is one split.0 c_right suits) two split.1
        (subst (λ s. block_faults s b ≡ []) (scope_is known c) (back_none (own_faults ++ nested) behind_faults right)) final_c final_b (each_right LoopIs (command_loops c) (block_loops b) loops) in
        (suits, subst (λ s. BlockSuits f s b) (sym (scope_is known c)) rest)
