-- Declarations, assignments, reads of rows and replies.
use Rattle.std.proofs.Common.{◌≡◌, ◌∙◌, ◌⊎◌, inl, inr, ℕ, nat_lt, if◌then◌else◌, Bool, true, false, List, [], ◌∷◌, ◌++◌, length, map, Some, None, refl, sym, ap, subst, append-nil}
use Rattle.sv_value.specs.declared.values.Val.{Val}
use Rattle.sv_app.specs.declared.apps.Ident.{Ident}
use Rattle.sv_app.specs.declared.gots.Got.{Got}
use Rattle.sv_app.specs.declared.names.Meaning.{Meaning}
use Rattle.sv_app.specs.declared.names.Meaning.TheVariants.{Variable as Local, Row as RowOf}
use Rattle.sv_app.specs.declared.places.Place.{Place}
use Rattle.sv_app.specs.declared.schemas.Ty.TheVariants as types
use Rattle.sv_app.specs.Paths.{Way, Path, Leads, columns_at, type_of, term_way, terms_way, formed}
use Rattle.sv_app.specs.Schema.{Declaration}
use Rattle.sv_app.specs.Scopes.{Scope, knowing}
use Rattle.sv_app.specs.Slots.{item, with_item}
use Rattle.sv_app.specs.Tables.{Row}
use Rattle.sv_app.specs.Trees.{Term, Declare, Assign, Fetch, Reply}
use Rattle.sv_app.specs.TxnTyping.{declared_type}
use Rattle.sv_effect.specs.declared.outcomes.Outcome.TheVariants as outcomes
use Rattle.sv_effect.specs.Run.{Setting, Stand, Flow, Goes, Ends, with_scope, on_value, with_value, is_formed, assigned, with_row, place_of_row, replied, run_command}
use Rattle.sv_effect.specs.RunValues.{nothing, Progress, Scope as Values, with_progress, Evaluated, Leaves, Gives, value_of, values_of}
use Rattle.sv_trace.specs.Standing.{Frame, names_in, type_of_val, type_of_got, types_at, IsValue, IsRow, Means, Reads, CommandIn, Sees, RowIs, RowAt, Holds, way_of, Along, Makes}
use Rattle.sv_trace.proofs.BlockLaws.{holds_with}
use Rattle.sv_trace.proofs.SlotLaws.{at_items}
use Rattle.sv_trace.proofs.TermLaws.{Went, sees_after, no_old, evaluates, all_evaluate}

pub same_stand : (a b : Stand) → Goes a ≡ Goes b → a ≡ b
same_stand a b e = cc

-- a value was given, and the run went on with it
pub record WentOn {A : Type 0} (value : Evaluated A) (st : Stand) (go : A → Stand → Flow) (end : Stand) : Type 0 where
  pub is : A
  pub scope : Values
  pub gives : value ≡ Gives is scope
  pub goes : go is (with_scope st scope) ≡ Goes end

pub on_value_goes : {A : Type 0} (value : Evaluated A) (st : Stand) (go : A → Stand → Flow) (end : Stand) → on_value value st go ≡ Goes end → WentOn value st go end
on_value_goes Leaves st go end e = absurd cc
on_value_goes (Gives v s) st go end e = record { is = v; scope = s; gives = refl; goes = e }

-- a path without choices
pub along_went : (to : Way → Path) (then_way way : Way → Way) (s z : Values) (p : Progress) → Went way s z → ((w : Way) → to w ≡ Leads (then_way (way w))) → p.unit ≡ z.progress.unit → p.choices ≡ z.progress.choices
    → ((left : List Bool) → then_way (way_of left z.progress) ≡ way_of left p) → Along to s.progress p
along_went to then_way way s z p went is unit choices ways = record {
  grown = [];
  unit = unit ∙ went.unit;
  choices = choices ∙ went.choices ∙ sym (append-nil s.progress.choices);
  leads = λ left. is (way_of left s.progress) ∙ ap (λ w. Leads (then_way w)) (went.ways left) ∙ ap (λ w. Leads w) (ways left);
}

-- a variable has a value of its type
pub sees_value : (f : Frame) (at : Scope) (x : ℕ) (v : Val) (s : Values) → type_of_val v ≡ item types.Int (names_in f).types x → Sees f at s → Sees f at (with_value x v s)
sees_value f at x v s typed sees = record {
  values = λ y known. at_items (λ n (w : Val). type_of_val w ≡ item types.Int (names_in f).types n) nothing v x y s.values typed (λ differ. sees.values y known);
  rows = sees.rows;
}

pub sees_new_value : (f : Frame) (at : Scope) (x : Ident) (m : Meaning) (v : Val) (s : Values) → (IsRow m → ⊥) → type_of_val v ≡ item types.Int (names_in f).types x.num → Sees f at s
    → Sees f (knowing at x m) (with_value x.num v s)
sees_new_value f at x m v s is_value typed sees = record { values = values; rows = rows }
  where
    values : (y : ℕ) → ((x.num ≡ y) × IsValue m) ⊎ Means IsValue at.known y → type_of_val (item nothing (with_item nothing x.num v s.values) y) ≡ item types.Int (names_in f).types y
    values y (inl here) = at_items (λ n (w : Val). type_of_val w ≡ item types.Int (names_in f).types n) nothing v x.num y s.values typed (λ differ. absurd (differ here.0))
    values y (inr known) = at_items (λ n (w : Val). type_of_val w ≡ item types.Int (names_in f).types n) nothing v x.num y s.values typed (λ differ. sees.values y known)

    rows : (r : ℕ) → ((x.num ≡ r) × IsRow m) ⊎ Means IsRow at.known r → map type_of_got (item [] s.rows r) ≡ types_at f.schema (item 0 (names_in f).tables r)
    rows r (inl here) = absurd (is_value here.1)
    rows r (inr known) = sees.rows r known

-- a row variable has a row of its table
pub sees_row : (f : Frame) (at : Scope) (r t : Ident) (row : List Got) (s : Values) → map type_of_got row ≡ types_at f.schema (item 0 (names_in f).tables r.num) → Sees f at s
    → Sees f (knowing at r (RowOf t)) (with_row r.num row s)
sees_row f at r t row s typed sees = record { values = values; rows = rows }
  where
    values : (y : ℕ) → ((r.num ≡ y) × ⊥) ⊎ Means IsValue at.known y → type_of_val (item nothing s.values y) ≡ item types.Int (names_in f).types y
    values y (inl here) = absurd here.1
    values y (inr known) = sees.values y known

    rows : (q : ℕ) → ((r.num ≡ q) × Unit {0}) ⊎ Means IsRow at.known q → map type_of_got (item [] (with_item [] r.num row s.rows) q) ≡ types_at f.schema (item 0 (names_in f).tables q)
    rows q (inl here) = at_items (λ n (w : List Got). map type_of_got w ≡ types_at f.schema (item 0 (names_in f).tables n)) [] row r.num q s.rows typed (λ differ. absurd (differ here.0))
    rows q (inr known) = at_items (λ n (w : List Got). map type_of_got w ≡ types_at f.schema (item 0 (names_in f).tables n)) [] row r.num q s.rows typed (λ differ. sees.rows q known)

pub row_types : (schema : List Declaration) (p : Place) (values : List Got) (row : RowIs schema p values) → map type_of_got values ≡ types_at schema p.table
row_types schema p values row = row.types ∙ ap (λ o. map (λ c. c.ty) (columns_at o)) (sym row.key.declared)

pub sees_progress : (f : Frame) (at : Scope) (s : Values) (p : Progress) → Sees f at s → Sees f at (with_progress s p)
sees_progress f at s p sees = record { values = sees.values; rows = sees.rows }

-- what declarations and assignments share: the value, and the path to where the variable has it
record Assigns (f : Frame) (at : Scope) (x : Ident) (e : Term) (st end : Stand) : Type 0 where
  value : Val
  scope : Values
  after : end ≡ assigned x.num value (with_scope st scope)
  type : type_of_val value ≡ item types.Int (names_in f).types x.num
  sees : Sees f at scope
  along : Along (λ w. Leads (formed x.num (term_way f.schema (names_in f) 0 e w))) st.scope.progress (is_formed x.num scope.progress)

assigns : (f : Frame) (at : Scope) (x : Ident) (e : Term) (st end : Stand) → at.updated ≡ None → Reads at e → item types.Int (names_in f).types x.num ≡ type_of f.schema (names_in f) 0 e → Holds f at st
    → on_value (value_of e st.scope) st (λ v z. Goes (assigned x.num v z)) ≡ Goes end → Assigns f at x e st end
assigns f at x e st end outside reads typed holds is =
    let ran = on_value_goes (value_of e st.scope) st (λ v z. Goes (assigned x.num v z)) end is in
    let value = evaluates f at 0 e st.scope ran.is ran.scope holds.sees (no_old f at 0 st.scope.old outside) reads ran.gives in
    let way = term_way f.schema (names_in f) 0 e in
    record {
      value = ran.is;
      scope = ran.scope;
      after = sym (same_stand (assigned x.num ran.is (with_scope st ran.scope)) end ran.goes);
      type = value.type ∙ sym typed;
      sees = sees_after f at way st.scope ran.scope holds.sees value.went;
      along = along_went (λ w. Leads (formed x.num (way w))) (formed x.num) way st.scope ran.scope (is_formed x.num ran.scope.progress) value.went (λ w. refl) refl refl (λ left. refl);
    }

pub makes_declare : (f : Frame) (at : Scope) (x : Ident) (e : Term) (g : Setting) (st end : Stand) → CommandIn f at (Declare x e) → Holds f at st → run_command g (Declare x e) st ≡ Goes end → Makes f at (Declare x e) st end
makes_declare f at x e g st end command holds is =
    let a = assigns f at x e st end command.outside command.suits.0 command.suits.1 holds is in
    let meaning : Meaning = Local (declared_type at e) in
    let sees = sees_progress f (knowing at x meaning) (with_value x.num a.value a.scope) (is_formed x.num a.scope.progress) (sees_new_value f at x meaning a.value a.scope (λ none. none) a.type a.sees) in
    subst (Makes f at (Declare x e) st) (sym a.after) (record { holds = holds_with f at (knowing at x meaning) st (assigned x.num a.value (with_scope st a.scope)).scope holds sees; along = a.along })

pub makes_assign : (f : Frame) (at : Scope) (x : Ident) (e : Term) (g : Setting) (st end : Stand) → CommandIn f at (Assign x e) → Holds f at st → run_command g (Assign x e) st ≡ Goes end → Makes f at (Assign x e) st end
makes_assign f at x e g st end command holds is =
    let a = assigns f at x e st end command.outside command.suits.0 command.suits.1 holds is in
    let sees = sees_progress f at (with_value x.num a.value a.scope) (is_formed x.num a.scope.progress) (sees_value f at x.num a.value a.scope a.type a.sees) in
    subst (Makes f at (Assign x e) st) (sym a.after) (record { holds = holds_with f at at st (assigned x.num a.value (with_scope st a.scope)).scope holds sees; along = a.along })

-- an evaluated scope of which the same is known, at the end of the path of the values
pub went_holds : (f : Frame) (at : Scope) (way : Way → Way) (st : Stand) (z : Values) → Holds f at st → Went way st.scope z → Holds f at (with_scope st z)
went_holds f at way st z holds went = holds_with f at at st z holds (sees_after f at way st.scope z holds.sees went)

pub makes_fetch : (f : Frame) (at : Scope) (r t : Ident) (k : List Term) (st : Stand) (vs : List Val) (z : Values) (row : Row) → CommandIn f at (Fetch r t k) → Holds f at st → values_of k st.scope ≡ Gives vs z
    → RowAt f.schema (place_of_row t vs) (Some row) → Makes f at (Fetch r t k) st (with_scope st (with_row r.num row.values z))
makes_fetch f at r t k st vs z row command holds is found =
    let values = all_evaluate f at k st.scope vs z command.outside holds.sees command.suits.0 is in
    let way = terms_way f.schema (names_in f) k in
    let types : map type_of_got row.values ≡ types_at f.schema (item 0 (names_in f).tables r.num) = row_types f.schema (place_of_row t vs) row.values found ∙ ap (types_at f.schema) (sym command.suits.1) in
    record {
      holds = holds_with f at (knowing at r (RowOf t)) st (with_row r.num row.values z) holds (sees_row f at r t row.values z types (sees_after f at way st.scope z holds.sees values.went));
      along = along_went (λ w. Leads (way w)) (λ w. w) way st.scope z z.progress values.went (λ w. refl) refl refl (λ left. refl);
    }

pub replied_goes : (v : Val) (st end : Stand) → replied v st ≡ Goes end → Goes (record st { replies = st.replies ++ v ∷ [] }) ≡ Goes end
replied_goes v st end is = by_test (nat_lt (length st.replies) 16) is
  where
    by_test : (b : Bool) → (if b then Goes (record st { replies = st.replies ++ v ∷ [] }) else Ends outcomes.TooLarge) ≡ Goes end → Goes (record st { replies = st.replies ++ v ∷ [] }) ≡ Goes end
    by_test true e = e
    by_test false e = absurd cc

pub makes_reply : (f : Frame) (at : Scope) (e : Term) (g : Setting) (st end : Stand) → CommandIn f at (Reply e) → Holds f at st → run_command g (Reply e) st ≡ Goes end → Makes f at (Reply e) st end
makes_reply f at e g st end command holds is =
    let ran = on_value_goes (value_of e st.scope) st replied end is in
    let value = evaluates f at 0 e st.scope ran.is ran.scope holds.sees (no_old f at 0 st.scope.old command.outside) command.suits ran.gives in
    let way = term_way f.schema (names_in f) 0 e in
    let held = went_holds f at way st ran.scope holds value.went in
    let mid : Stand = with_scope st ran.scope in
    subst (Makes f at (Reply e) st) (same_stand (record mid { replies = mid.replies ++ ran.is ∷ [] }) end (replied_goes ran.is mid end ran.goes)) (record {
      holds = record { sees = held.sees; tables = held.tables; effects = held.effects; few = held.few; shaped = held.shaped };
      along = along_went (λ w. Leads (way w)) (λ w. w) way st.scope ran.scope ran.scope.progress value.went (λ w. refl) refl refl (λ left. refl);
    })
