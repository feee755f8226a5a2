-- An expression gives a value of its type and brings in the symbols of its way; a condition takes the choices of its way.
use Rattle.std.proofs.Common.{◌≡◌, ℕ, ℤ, pos, ◌+ℤ◌, ◌-ℤ◌, ◌*ℤ◌, neg_ℤ, ◌==◌, ◌&&◌, ◌||◌, not, if◌then◌else◌, Bool, true, false, List, [], ◌∷◌, ◌++◌, map, Option, Some, None, slice_get, unwrap_or, refl, sym, ap, subst, ◌∙◌, append_assoc}
use Rattle.std.specs.List.{list_any}
use Rattle.std.specs.Option.{option_map}
use Rattle.std.proofs.lemmas.List.{map-append}
use Rattle.std.proofs.lemmas.Option.{slice_get-map}
use Rattle.sv_value.specs.declared.values.Val.{Val}
use Rattle.sv_value.specs.declared.values.Val.TheVariants.{Int, Text as IsText}
use Rattle.sv_value.specs.Orders.{val_cmp}
use Rattle.sv_app.specs.declared.gots.Got.{Got}
use Rattle.sv_app.specs.declared.gots.Got.TheVariants as gots
use Rattle.sv_app.specs.declared.instances.Source.{Source}
use Rattle.sv_app.specs.declared.instances.Source.TheVariants as sources
use Rattle.sv_app.specs.declared.schemas.Column.{Column}
use Rattle.sv_app.specs.declared.schemas.Ty.{Ty}
use Rattle.sv_app.specs.declared.schemas.Ty.TheVariants as types
use Rattle.sv_app.specs.Paths.{Way, Tested, Short, Tells, then_tested, next_choice, term_way, terms_way, test_way, type_of, column_type, type_in, columns_at}
use Rattle.sv_app.specs.Paths as paths
use Rattle.sv_app.specs.Scopes.{Scope}
use Rattle.sv_app.specs.Slots.{item}
use Rattle.sv_app.specs.Symbols.{is_known, is_factor}
use Rattle.sv_app.specs.Trees.{Term, Number, Words, Variable, Field, Old, Minus, Sum, Difference, Product, Test, Compare, Negation, Both, Either}
use Rattle.sv_effect.specs.RunValues.{nothing, Progress, Scope as Values, with_progress, narrow, Evaluated, Leaves, Gives, then_value, integer, val_of, column, as_read, negated, added, subtracted, multiplied, compared, chosen, relates, value_of, values_of, truth_of, put, brought, brought_old}
use Rattle.sv_effect.specs.TablesOfCut.{number_in}
use Rattle.sv_trace.specs.Standing.{Frame, names_in, type_of_val, type_of_got, types_at, Reads, AllRead, TestReads, Sees, way_of}

pub record Gave {A B : Type 0} (before : Evaluated A) (go : A → Values → Evaluated B) (v : B) (z : Values) : Type 0 where
  pub value : A
  pub scope : Values
  pub first : before ≡ Gives value scope
  pub last : go value scope ≡ Gives v z

pub then_gives : {A B : Type 0} (before : Evaluated A) (go : A → Values → Evaluated B) (v : B) (z : Values) → then_value before go ≡ Gives v z → Gave before go v z
then_gives Leaves go v z e = absurd cc
then_gives (Gives u y) go v z e = record { value = u; scope = y; first = refl; last = e }

pub same_value : {A : Type 0} (a b : A) (s z : Values) → Gives a s ≡ Gives b z → a ≡ b
same_value a b s z e = cc

pub same_scope : {A : Type 0} (a b : A) (s z : Values) → Gives a s ≡ Gives b z → s ≡ z
same_scope a b s z e = cc

-- evaluation changed the progress alone, and this went along the way
pub record Went (way : Way → Way) (s z : Values) : Type 0 where
  pub alone : z ≡ with_progress s z.progress
  pub unit : z.progress.unit ≡ s.progress.unit
  pub choices : z.progress.choices ≡ s.progress.choices
  pub ways : (left : List Bool) → way (way_of left s.progress) ≡ way_of left z.progress

pub went_none : (s : Values) → Went (λ w. w) s s
went_none s = record { alone = refl; unit = refl; choices = refl; ways = λ left. refl }

pub went_then : (a b : Way → Way) (s u z : Values) → Went a s u → Went b u z → Went (λ w. b (a w)) s z
went_then a b s u z p q = record {
  alone = q.alone ∙ ap (λ x. with_progress x z.progress) p.alone;
  unit = q.unit ∙ p.unit;
  choices = q.choices ∙ p.choices;
  ways = λ left. ap b (p.ways left) ∙ q.ways left;
}

pub went_to : (way : Way → Way) (s y z : Values) → y ≡ z → Went way s y → Went way s z
went_to way s y z e w = subst (λ q. Went way s q) e w

pub sees_after : (f : Frame) (at : Scope) (way : Way → Way) (s z : Values) → Sees f at s → Went way s z → Sees f at z
sees_after f at way s z sees went = subst (Sees f at) (sym went.alone) (record { values = sees.values; rows = sees.rows })

-- where `old` may be used it is a row of the table
abbrev pub OldIs : Frame → Scope → ℕ → List Got → Type 0
OldIs f at table old = (at.updated ≡ None → ⊥) → map type_of_got old ≡ types_at f.schema table

pub old_after : (f : Frame) (at : Scope) (table : ℕ) (way : Way → Way) (s z : Values) → OldIs f at table s.old → Went way s z → OldIs f at table z.old
old_after f at table way s z old went = subst (λ (q : Values). OldIs f at table q.old) (sym went.alone) old

-- a symbol more
pub symbols_more : (tape : List Val) (v : Val) (ty : Ty) → type_of_val v ≡ ty → map type_of_val tape ++ ty ∷ [] ≡ map type_of_val (tape ++ v ∷ [])
symbols_more tape v ty e = ap (λ t. map type_of_val tape ++ t ∷ []) (sym e) ∙ sym (map-append type_of_val tape (v ∷ []))

pub went_put : (v : Val) (ty : Ty) (s : Values) → type_of_val v ≡ ty → Went (paths.put ty) s (with_progress s (put v s.progress))
went_put v ty s e = record {
  alone = refl;
  unit = refl;
  choices = refl;
  ways = λ left. λ i. record { left = left; known = s.progress.known; known_old = s.progress.known_old; symbols = symbols_more s.progress.tape v ty e i };
}

pub went_brought : (source : Source) (v : Val) (ty : Ty) (s : Values) → type_of_val v ≡ ty → Went (paths.brought source ty) s (with_progress s (brought source v s.progress))
went_brought source v ty s e = record { alone = refl; unit = unit (is_known source s.progress.known); choices = choices (is_known source s.progress.known); ways = λ left. ways left (is_known source s.progress.known) }
  where
    more : Progress
    more = put v (record s.progress { known = s.progress.known ++ source ∷ [] })

    unit : (b : Bool) → (if b then s.progress else more).unit ≡ s.progress.unit
    unit true = refl
    unit false = refl

    choices : (b : Bool) → (if b then s.progress else more).choices ≡ s.progress.choices
    choices true = refl
    choices false = refl

    ways : (left : List Bool) (b : Bool) → (if b then way_of left s.progress else paths.put ty (record (way_of left s.progress) { known = s.progress.known ++ source ∷ [] })) ≡ way_of left (if b then s.progress else more)
    ways left true = refl
    ways left false = λ i. record { left = left; known = s.progress.known ++ source ∷ []; known_old = s.progress.known_old; symbols = symbols_more s.progress.tape v ty e i }

pub went_old : (c : ℕ) (v : Val) (ty : Ty) (s : Values) → type_of_val v ≡ ty → Went (paths.brought_old c ty) s (with_progress s (brought_old c v s.progress))
went_old c v ty s e = record { alone = refl; unit = unit is; choices = choices is; ways = λ left. ways left is }
  where
    is : Bool
    is = list_any (λ d. c == d) s.progress.known_old

    more : Progress
    more = put v (record s.progress { known_old = s.progress.known_old ++ c ∷ [] })

    unit : (b : Bool) → (if b then s.progress else more).unit ≡ s.progress.unit
    unit true = refl
    unit false = refl

    choices : (b : Bool) → (if b then s.progress else more).choices ≡ s.progress.choices
    choices true = refl
    choices false = refl

    ways : (left : List Bool) (b : Bool) → (if b then way_of left s.progress else paths.put ty (record (way_of left s.progress) { known_old = s.progress.known_old ++ c ∷ [] })) ≡ way_of left (if b then s.progress else more)
    ways left true = refl
    ways left false = λ i. record { left = left; known = s.progress.known; known_old = s.progress.known_old ++ c ∷ []; symbols = symbols_more s.progress.tape v ty e i }

-- an integer
pub integer_type : (o : Option ℤ) (s : Values) (v : Val) (z : Values) → integer o s ≡ Gives v z → type_of_val v ≡ types.Int
integer_type None s v z e = absurd cc
integer_type (Some n) s v z e = ap type_of_val (sym (same_value (Int n) v s z e))

pub integer_scope : (o : Option ℤ) (s : Values) (v : Val) (z : Values) → integer o s ≡ Gives v z → s ≡ z
integer_scope None s v z e = absurd cc
integer_scope (Some n) s v z e = same_scope (Int n) v s z e

-- a column of a row of these types
pub type_at : (tys : List Ty) (row : List Got) (c : ℕ) → map type_of_got row ≡ tys → type_of_got (column row c) ≡ unwrap_or (slice_get tys c) types.Int
type_at tys row c e = by_slot (slice_get row c) refl ∙ ap (λ o. unwrap_or o types.Int) (sym (slice_get-map type_of_got row c) ∙ ap (λ l. slice_get l c) e)
  where
    by_slot : (o : Option Got) → slice_get row c ≡ o → type_of_got (unwrap_or (slice_get row c) (gots.Num (pos 0))) ≡ unwrap_or (option_map type_of_got (slice_get row c)) types.Int
    by_slot None e = rw (e) refl
    by_slot (Some g) e = rw (e) refl

pub type_of_column : (columns : List Column) (c : ℕ) → unwrap_or (slice_get (map (λ (k : Column). k.ty) columns) c) types.Int ≡ type_in (slice_get columns c)
type_of_column columns c = ap (λ o. unwrap_or o types.Int) (slice_get-map (λ (k : Column). k.ty) columns c) ∙ by_slot (slice_get columns c)
  where
    by_slot : (o : Option Column) → unwrap_or (option_map (λ (k : Column). k.ty) o) types.Int ≡ type_in o
    by_slot None = refl
    by_slot (Some k) = refl

pub read_type : (got : Got) (v : Val) → val_of got ≡ Some v → type_of_val v ≡ type_of_got got
read_type (gots.Num n) v e = by_word (narrow n) e
  where
    by_word : (m : Option ℤ) → option_map (λ k. Int k) m ≡ Some v → type_of_val v ≡ types.Int
    by_word None e = absurd cc
    by_word (Some k) e = let same : Int k ≡ v = cc in ap type_of_val (sym same)
read_type (gots.Text t) v e = let same : IsText t ≡ v = cc in ap type_of_val (sym same)

-- an expression gives a value of its type, and its evaluation went along its way
pub record Evaluates (f : Frame) (table : ℕ) (e : Term) (s : Values) (v : Val) (z : Values) : Type 0 where
  pub type : type_of_val v ≡ type_of f.schema (names_in f) table e
  pub went : Went (term_way f.schema (names_in f) table e) s z

read : (f : Frame) (table : ℕ) (e : Term) (got : Got) (after : Val → Progress) (s : Values) (v : Val) (z : Values) → type_of_got got ≡ type_of f.schema (names_in f) table e
    → ((w : Val) → type_of_val w ≡ type_of_got got → Went (term_way f.schema (names_in f) table e) s (with_progress s (after w))) → as_read (val_of got) after s ≡ Gives v z → Evaluates f table e s v z
read f table e got after s v z type went is = by_value (val_of got) refl is
  where
    by_value : (o : Option Val) → val_of got ≡ o → as_read o after s ≡ Gives v z → Evaluates f table e s v z
    by_value None found is = absurd cc
    by_value (Some w) found is =
        let of_got : type_of_val w ≡ type_of_got got = read_type got w found in
        record { type = ap type_of_val (sym (same_value w v (with_progress s (after w)) z is)) ∙ of_got ∙ type; went = went_to (term_way f.schema (names_in f) table e) s (with_progress s (after w)) z (same_scope w v (with_progress s (after w)) z is) (went w of_got) }

-- a product is a symbol more, unless a side is a number
record Multiplies (way : Way → Way) (factor : Bool) (s : Values) (v : Val) (z : Values) : Type 0 where
  type : type_of_val v ≡ types.Int
  went : Went (λ w. if factor then way w else paths.put types.Int (way w)) s z

multiplies : (way : Way → Way) (s y : Values) (v : Val) (z : Values) (o : Option ℤ) (factor : Bool) → Went way s y
    → then_value (integer o y) (λ u q. Gives u (if not factor then with_progress q (put u q.progress) else q)) ≡ Gives v z → Multiplies way factor s v z
multiplies way s y v z None factor went is = absurd cc
multiplies way s y v z (Some n) true went is = record { type = ap type_of_val (sym (same_value (Int n) v y z is)); went = went_to way s y z (same_scope (Int n) v y z is) went }
multiplies way s y v z (Some n) false went is =
    let after : Values = with_progress y (put (Int n) y.progress) in
    record {
      type = ap type_of_val (sym (same_value (Int n) v after z is));
      went = went_to (λ w. paths.put types.Int (way w)) s after z (same_scope (Int n) v after z is) (went_then way (paths.put types.Int) s y after went (went_put (Int n) types.Int y refl));
    }

pub evaluates : (f : Frame) (at : Scope) (table : ℕ) (e : Term) (s : Values) (v : Val) (z : Values) → Sees f at s → OldIs f at table s.old → Reads at e → value_of e s ≡ Gives v z → Evaluates f table e s v z
evaluates f at table (Number n spot) s v z sees old reads is = record { type = ap type_of_val (sym (same_value (Int n) v s z is)); went = went_to (λ w. w) s s z (same_scope (Int n) v s z is) (went_none s) }
evaluates f at table (Words t spot) s v z sees old reads is = record { type = ap type_of_val (sym (same_value (IsText t) v s z is)); went = went_to (λ w. w) s s z (same_scope (IsText t) v s z is) (went_none s) }
evaluates f at table (Variable x spot) s v z sees old reads is =
    let w : Val = item nothing s.values x.num in
    let ty : Ty = item types.Int (names_in f).types x.num in
    let after : Values = with_progress s (brought (sources.Variable x.num) w s.progress) in
    let of_name : type_of_val w ≡ ty = sees.values x.num reads in
    record { type = ap type_of_val (sym (same_value w v after z is)) ∙ of_name; went = went_to (paths.brought (sources.Variable x.num) ty) s after z (same_scope w v after z is) (went_brought (sources.Variable x.num) w ty s of_name) }
evaluates f at table (Field r c spot) s v z sees old reads is =
    let t : ℕ = item 0 (names_in f).tables r.num in
    let row : List Got = item [] s.rows r.num in
    let of_column : type_of_got (column row c.num) ≡ column_type f.schema t c.num = type_at (types_at f.schema t) row c.num (sees.rows r.num reads) ∙ type_of_column (columns_at (slice_get f.schema t)) c.num in
    read f table (Field r c spot) (column row c.num) (λ w. brought (sources.Column r.num c.num) w s.progress) s v z of_column
    (λ w of_got. went_brought (sources.Column r.num c.num) w (column_type f.schema t c.num) s (of_got ∙ of_column)) is
evaluates f at table (Old c spot) s v z sees old reads is =
    let of_column : type_of_got (column s.old c.num) ≡ column_type f.schema table c.num = type_at (types_at f.schema table) s.old c.num (old reads) ∙ type_of_column (columns_at (slice_get f.schema table)) c.num in
    read f table (Old c spot) (column s.old c.num) (λ w. brought_old c.num w s.progress) s v z of_column (λ w of_got. went_old c.num w (column_type f.schema table c.num) s (of_got ∙ of_column)) is
evaluates f at table (Minus a spot) s v z sees old reads is =
    let g = then_gives (value_of a s) negated v z is in
    let first = evaluates f at table a s g.value g.scope sees old reads g.first in
    record { type = integer_type (narrow (neg_ℤ (number_in g.value))) g.scope v z g.last; went = went_to (term_way f.schema (names_in f) table a) s g.scope z (integer_scope (narrow (neg_ℤ (number_in g.value))) g.scope v z g.last) first.went }
evaluates f at table (Sum a b spot) s v z sees old reads is =
    let g = then_gives (value_of a s) (λ w u. then_value (value_of b u) (added w)) v z is in
    let h = then_gives (value_of b g.scope) (added g.value) v z g.last in
    let first = evaluates f at table a s g.value g.scope sees old reads.0 g.first in
    let second = evaluates f at table b g.scope h.value h.scope (sees_after f at (term_way f.schema (names_in f) table a) s g.scope sees first.went) (old_after f at table (term_way f.schema (names_in f) table a) s g.scope old first.went) reads.1 h.first in
    let o : Option ℤ = narrow (number_in g.value +ℤ number_in h.value) in
    record {
      type = integer_type o h.scope v z h.last;
      went = went_to (term_way f.schema (names_in f) table (Sum a b spot)) s h.scope z (integer_scope o h.scope v z h.last) (went_then (term_way f.schema (names_in f) table a) (term_way f.schema (names_in f) table b) s g.scope h.scope first.went second.went);
    }
evaluates f at table (Difference a b spot) s v z sees old reads is =
    let g = then_gives (value_of a s) (λ w u. then_value (value_of b u) (subtracted w)) v z is in
    let h = then_gives (value_of b g.scope) (subtracted g.value) v z g.last in
    let first = evaluates f at table a s g.value g.scope sees old reads.0 g.first in
    let second = evaluates f at table b g.scope h.value h.scope (sees_after f at (term_way f.schema (names_in f) table a) s g.scope sees first.went) (old_after f at table (term_way f.schema (names_in f) table a) s g.scope old first.went) reads.1 h.first in
    let o : Option ℤ = narrow (number_in g.value -ℤ number_in h.value) in
    record {
      type = integer_type o h.scope v z h.last;
      went = went_to (term_way f.schema (names_in f) table (Difference a b spot)) s h.scope z (integer_scope o h.scope v z h.last) (went_then (term_way f.schema (names_in f) table a) (term_way f.schema (names_in f) table b) s g.scope h.scope first.went second.went);
    }
evaluates f at table (Product a b spot) s v z sees old reads is =
    let factor : Bool = is_factor a || is_factor b in
    let g = then_gives (value_of a s) (λ w u. then_value (value_of b u) (multiplied (not factor) w)) v z is in
    let h = then_gives (value_of b g.scope) (multiplied (not factor) g.value) v z g.last in
    let first = evaluates f at table a s g.value g.scope sees old reads.0 g.first in
    let second = evaluates f at table b g.scope h.value h.scope (sees_after f at (term_way f.schema (names_in f) table a) s g.scope sees first.went) (old_after f at table (term_way f.schema (names_in f) table a) s g.scope old first.went) reads.1 h.first in
    let made = multiplies (λ w. term_way f.schema (names_in f) table b (term_way f.schema (names_in f) table a w)) s h.scope v z (narrow (number_in g.value *ℤ number_in h.value)) factor
    (went_then (term_way f.schema (names_in f) table a) (term_way f.schema (names_in f) table b) s g.scope h.scope first.went second.went) h.last in
    record { type = made.type; went = made.went }

-- the values of expressions, from left to right
pub record AllEvaluate (f : Frame) (es : List Term) (s : Values) (vs : List Val) (z : Values) : Type 0 where
  pub types : map type_of_val vs ≡ map (λ e. type_of f.schema (names_in f) 0 e) es
  pub went : Went (terms_way f.schema (names_in f) es) s z

-- outside updates `old` isn't read
pub no_old : (f : Frame) (at : Scope) (table : ℕ) (old : List Got) → at.updated ≡ None → OldIs f at table old
no_old f at table old outside inside = absurd (inside outside)

pub all_evaluate : (f : Frame) (at : Scope) (es : List Term) (s : Values) (vs : List Val) (z : Values) → at.updated ≡ None → Sees f at s → AllRead at es → values_of es s ≡ Gives vs z → AllEvaluate f es s vs z
all_evaluate f at [] s vs z outside sees reads is = record { types = ap (map type_of_val) (sym (same_value [] vs s z is)); went = went_to (λ w. w) s s z (same_scope [] vs s z is) (went_none s) }
all_evaluate f at (e ∷ es) s vs z outside sees reads is =
    let g = then_gives (value_of e s) (λ v u. then_value (values_of es u) (λ ws y. Gives (v ∷ ws) y)) vs z is in
    let h = then_gives (values_of es g.scope) (λ ws y. Gives (g.value ∷ ws) y) vs z g.last in
    let way = term_way f.schema (names_in f) 0 e in
    let first = evaluates f at 0 e s g.value g.scope sees (no_old f at 0 s.old outside) reads.0 g.first in
    let rest = all_evaluate f at es g.scope h.value h.scope outside (sees_after f at way s g.scope sees first.went) reads.1 h.first in
    record {
      types = ap (map type_of_val) (sym (same_value (g.value ∷ h.value) vs h.scope z h.last)) ∙ (λ i. first.type i ∷ rest.types i);
      went = went_to (λ w. terms_way f.schema (names_in f) es (way w)) s h.scope z (same_scope (g.value ∷ h.value) vs h.scope z h.last) (went_then way (terms_way f.schema (names_in f) es) s g.scope h.scope first.went rest.went);
    }

-- a condition was evaluated along these choices
pub record Tries (f : Frame) (t : Test) (s : Values) (h : Bool) (z : Values) : Type 0 where
  pub alone : z ≡ with_progress s z.progress
  pub unit : z.progress.unit ≡ s.progress.unit
  pub grown : List Bool
  pub choices : z.progress.choices ≡ s.progress.choices ++ grown
  pub tells : (left : List Bool) → test_way f.schema (names_in f) t (way_of (grown ++ left) s.progress) ≡ Tells h (way_of left z.progress)

pub sees_alone : (f : Frame) (at : Scope) (s z : Values) → Sees f at s → z ≡ with_progress s z.progress → Sees f at z
sees_alone f at s z sees alone = subst (Sees f at) (sym alone) (record { values = sees.values; rows = sees.rows })

tries_to : (f : Frame) (t : Test) (s : Values) (h k : Bool) (y z : Values) → Gives h y ≡ Gives k z → Tries f t s h y → Tries f t s k z
tries_to f t s h k y z is tries = subst (λ b. Tries f t s b z) (same_value h k y z is) (subst (λ q. Tries f t s h q) (same_scope h k y z is) tries)

-- two conditions, one after the other
both_tells : (f : Frame) (t q : Test) (go : Bool → Bool → Bool) (s u y : Values) (h k : Bool) (first : Tries f t s h u) (second : Tries f q u k y) (left : List Bool)
    → then_tested (test_way f.schema (names_in f) t (way_of ((first.grown ++ second.grown) ++ left) s.progress)) (λ a w. then_tested (test_way f.schema (names_in f) q w) (λ b x. Tells (go a b) x)) ≡ Tells (go h k) (way_of left y.progress)
both_tells f t q go s u y h k first second left =
    ap (λ l. then_tested (test_way f.schema (names_in f) t (way_of l s.progress)) then_other) (append_assoc first.grown second.grown left)
    ∙ ap (λ x. then_tested x then_other) (first.tells (second.grown ++ left))
    ∙ ap (λ x. then_tested x (λ b w. Tells (go h b) w)) (second.tells left)
  where
    then_other : Bool → Way → Tested
    then_other a w = then_tested (test_way f.schema (names_in f) q w) (λ b x. Tells (go a b) x)

both_choices : (f : Frame) (t q : Test) (s u y : Values) (h k : Bool) (first : Tries f t s h u) (second : Tries f q u k y) → y.progress.choices ≡ s.progress.choices ++ (first.grown ++ second.grown)
both_choices f t q s u y h k first second = second.choices ∙ ap (λ l. l ++ second.grown) first.choices ∙ append_assoc s.progress.choices first.grown second.grown

pub both_alone : (s u y : Values) → u ≡ with_progress s u.progress → y ≡ with_progress u y.progress → y ≡ with_progress s y.progress
both_alone s u y p q = q ∙ ap (λ x. with_progress x y.progress) p

pub tries : (f : Frame) (at : Scope) (t : Test) (s : Values) (h : Bool) (z : Values) → at.updated ≡ None → Sees f at s → TestReads at t → truth_of t s ≡ Gives h z → Tries f t s h z
tries f at (Compare a r b) s h z outside sees reads is =
    let g = then_gives (value_of a s) (λ v u. then_value (value_of b u) (compared r v)) h z is in
    let k = then_gives (value_of b g.scope) (compared r g.value) h z g.last in
    let way = term_way f.schema (names_in f) 0 a in
    let other = term_way f.schema (names_in f) 0 b in
    let first = evaluates f at 0 a s g.value g.scope sees (no_old f at 0 s.old outside) reads.0 g.first in
    let second = evaluates f at 0 b g.scope k.value k.scope (sees_after f at way s g.scope sees first.went) (no_old f at 0 g.scope.old outside) reads.1 k.first in
    let went = went_then way other s g.scope k.scope first.went second.went in
    let holds : Bool = relates r (val_cmp g.value k.value) in
    tries_to f (Compare a r b) s holds h (with_progress k.scope (chosen holds k.scope.progress)) z k.last (record {
      alone = ap (λ (x : Values). with_progress x (chosen holds k.scope.progress)) went.alone;
      unit = went.unit;
      grown = holds ∷ [];
      choices = ap (λ l. l ++ holds ∷ []) went.choices;
      tells = λ left. ap (λ (w : Way). next_choice w.left w) (went.ways (holds ∷ left));
    })
tries f at (Negation t) s h z outside sees reads is =
    let g = then_gives (truth_of t s) (λ k u. Gives (not k) u) h z is in
    let first = tries f at t s g.value g.scope outside sees reads g.first in
    tries_to f (Negation t) s (not g.value) h g.scope z g.last (record {
      alone = first.alone;
      unit = first.unit;
      grown = first.grown;
      choices = first.choices;
      tells = λ left. ap (λ x. then_tested x (λ k w. Tells (not k) w)) (first.tells left);
    })
tries f at (Both t q) s h z outside sees reads is =
    let g = then_gives (truth_of t s) (λ a u. then_value (truth_of q u) (λ b y. Gives (a && b) y)) h z is in
    let k = then_gives (truth_of q g.scope) (λ b y. Gives (g.value && b) y) h z g.last in
    let first = tries f at t s g.value g.scope outside sees reads.0 g.first in
    let second = tries f at q g.scope k.value k.scope outside (sees_alone f at s g.scope sees first.alone) reads.1 k.first in
    tries_to f (Both t q) s (g.value && k.value) h k.scope z k.last (record {
      alone = both_alone s g.scope k.scope first.alone second.alone;
      unit = second.unit ∙ first.unit;
      grown = first.grown ++ second.grown;
      choices = both_choices f t q s g.scope k.scope g.value k.value first second;
      tells = λ left. both_tells f t q (λ a b. a && b) s g.scope k.scope g.value k.value first second left;
    })
tries f at (Either t q) s h z outside sees reads is =
    let g = then_gives (truth_of t s) (λ a u. then_value (truth_of q u) (λ b y. Gives (a || b) y)) h z is in
    let k = then_gives (truth_of q g.scope) (λ b y. Gives (g.value || b) y) h z g.last in
    let first = tries f at t s g.value g.scope outside sees reads.0 g.first in
    let second = tries f at q g.scope k.value k.scope outside (sees_alone f at s g.scope sees first.alone) reads.1 k.first in
    tries_to f (Either t q) s (g.value || k.value) h k.scope z k.last (record {
      alone = both_alone s g.scope k.scope first.alone second.alone;
      unit = second.unit ∙ first.unit;
      grown = first.grown ++ second.grown;
      choices = both_choices f t q s g.scope k.scope g.value k.value first second;
      tells = λ left. both_tells f t q (λ a b. a || b) s g.scope k.scope g.value k.value first second left;
    })
