-- Forms are of the types of what they stand for, on any tape, and so what is written fits its column.
use Rattle.std.proofs.Common.{◌≡◌, ◌≢◌, ◌∙◌, ℕ, suc, ◌<◌, ◌+◌, ◌==◌, if◌then◌else◌, Bool, true, false, List, [], ◌∷◌, ◌++◌, length, map, Some, slice_get, refl, sym, ap, subst, arith}
use Rattle.std.specs.List.{list_any, All}
use Rattle.sv_value.specs.declared.values.Val.{Val}
use Rattle.sv_app.specs.declared.apps.Ident.{Ident}
use Rattle.sv_app.specs.declared.instances.Source.{Source}
use Rattle.sv_app.specs.declared.instances.Source.TheVariants as sources
use Rattle.sv_app.specs.declared.schemas.Column.{Column}
use Rattle.sv_app.specs.declared.schemas.Merge.{Merge}
use Rattle.sv_app.specs.declared.schemas.Merge.TheVariants as merges
use Rattle.sv_app.specs.declared.schemas.Ty.{Ty}
use Rattle.sv_app.specs.declared.schemas.Ty.TheVariants as types
use Rattle.sv_app.specs.Accepted.{AcceptedSchema}
use Rattle.sv_app.specs.Kinds.{is_grow_only}
use Rattle.sv_app.specs.Paths.{Names, columns_at, column_type, type_in, type_of, merge_in}
use Rattle.sv_app.specs.Schema.{Declaration}
use Rattle.sv_app.specs.Slots.{item}
use Rattle.sv_app.specs.Symbols as symbols
use Rattle.sv_app.specs.Symbols.{is_same_source, is_known, is_factor}
use Rattle.sv_app.specs.Trees.{Term, Number, Words, Variable, Field, Old, Minus, Sum, Difference, Product, Test, Compare, Negation, Both, Either}
use Rattle.sv_app.proofs.AcceptedLaws.{no_lists}
use Rattle.sv_app.proofs.TestLaws.{test_same}
use Rattle.sv_effect.specs.declared.ops.Write.{Write}
use Rattle.sv_effect.specs.Fits.{WriteFits, IsWrite, AreWrites, AllAbove, Ascending, columns_written, is_written, is_key_column}
use Rattle.sv_effect.specs.RunChanges.{merge_of, outside_key}
use Rattle.sv_linear.specs.Effects.{SymValue, SymWrite, Set, value_of, symbol_of}
use Rattle.sv_trace.specs.Standing.{type_of_val}
use Rattle.sv_trace.proofs.InsertLaws.{whole_key, whole_written}
use Rattle.sv_trace.proofs.UpdateLaws.{counter_type}
use Rattle.sv_trace.proofs.WriteLaws.{has_type, key_same, Suited, AreFrom, from_next, from_here}
use Rattle.sv_symbolic.specs.Drawn.{write_on, writes_on}
use Rattle.sv_symbolic.specs.Sketches.{Sketch, Drawn, Draws, then_draws, zero_form, form_of, old_of, next_symbol, draw_source, draw_old, draw_symbol, draw_product, draw_term, draw_terms, Tried, Short, Tells, then_tried, drawn_then, draw_choice, draw_test}
use Rattle.sv_symbolic.specs.Routes.{draw_delta, draw_set, draw_sets, first_write, first_writes, draw_insert, draw_inserts}
use Rattle.sv_symbolic.specs.Suited.{IsSuited}
use Rattle.sv_symbolic.proofs.DrawLaws.{known_end, same_source}
use Rattle.sv_symbolic.proofs.Relation.{is_known_old}

-- a list counts as an integer
abbrev pub plain : Ty → Ty
plain types.Int = types.Int
plain types.Text = types.Text
plain types.Ints = types.Int

pub plain_same : (ty : Ty) → ty ≢ types.Ints → plain ty ≡ ty
plain_same types.Int other = refl
plain_same types.Text other = refl
plain_same types.Ints other = absurd (other refl)

module _ (schema : List Declaration) (names : Names) (tape : List Val) where
  abbrev pub kind : SymValue → Ty
  kind v = type_of_val (value_of v tape)

  abbrev pub source_type : Source → Ty
  source_type (sources.Variable x) = item types.Int names.types x
  source_type (sources.Column r c) = column_type schema (item 0 names.tables r) c

  -- known sources have forms of their types; in an update of a table, columns of its row too
  pub record Typed (t : ℕ) (k : Sketch) : Type 0 where
    pub sources : (q : Source) → is_known q k.way.known ≡ true → kind (form_of k.drawing.sources q) ≡ plain (source_type q)
    pub olds : (c : ℕ) → is_known_old c k.way.known_old ≡ true → kind (old_of k.drawing.olds c) ≡ plain (column_type schema t c)
    pub effects : All (IsSuited schema tape) k.drawing.effects

  abbrev pub Made : {A : Type 0} → (A → Type 0) → ℕ → Drawn A → Type 0
  Made P t (Draws v k) = Typed t k × P v

  pub made_then : {A B : Type 0} (P : A → Type 0) (Q : B → Type 0) (t : ℕ) (x : Drawn A) (go : A → Sketch → Drawn B) → Made P t x → ((v : A) (k : Sketch) → Typed t k → P v → Made Q t (go v k)) → Made Q t (then_draws x go)
  made_then P Q t (Draws v k) go is next = next v k is.0 is.1

  symbol_kind : (ty : Ty) (n : ℕ) → kind (symbol_of ty n) ≡ plain ty
  symbol_kind types.Int n = refl
  symbol_kind types.Text n = refl
  symbol_kind types.Ints n = refl

  pub typed_symbol : (t : ℕ) (ty : Ty) (k : Sketch) → Typed t k → Made (λ v. kind v ≡ plain ty) t (draw_symbol ty k)
  typed_symbol t ty k typed = (record { sources = typed.sources; olds = typed.olds; effects = typed.effects }, symbol_kind ty (suc (length k.way.symbols)))

  typed_source : (t : ℕ) (q : Source) (k : Sketch) → Typed t k → Made (λ v. kind v ≡ plain (source_type q)) t (draw_source q (source_type q) k)
  typed_source t q k typed = by_test (is_known q k.way.known) refl
    where
      f : SymValue
      f = next_symbol (source_type q) k.way

      of_source : (p : Source) (b : Bool) → is_same_source p q ≡ b → is_known p (k.way.known ++ q ∷ []) ≡ true → kind (if b then f else form_of k.drawing.sources p) ≡ plain (source_type p)
      of_source p true same is = symbol_kind (source_type q) (suc (length k.way.symbols)) ∙ ap (λ x. plain (source_type x)) (sym (same_source p q same))
      of_source p false other is = typed.sources p (known_end (is_same_source p) k.way.known q other is)

      by_test : (b : Bool) → is_known q k.way.known ≡ b → Made (λ v. kind v ≡ plain (source_type q)) t (draw_source q (source_type q) k)
      by_test true e = rw (e) (typed, typed.sources q e)
      by_test false e = rw (e) (record { sources = λ p is. of_source p (is_same_source p q) refl is; olds = typed.olds; effects = typed.effects }, symbol_kind (source_type q) (suc (length k.way.symbols)))

  pub typed_old : (t c : ℕ) (k : Sketch) → Typed t k → Made (λ v. kind v ≡ plain (column_type schema t c)) t (draw_old c (column_type schema t c) k)
  typed_old t c k typed = by_test (list_any (λ d. c == d) k.way.known_old) refl
    where
      f : SymValue
      f = next_symbol (column_type schema t c) k.way

      of_column : (p : ℕ) (b : Bool) → (p == c) ≡ b → is_known_old p (k.way.known_old ++ c ∷ []) ≡ true → kind (if b then f else old_of k.drawing.olds p) ≡ plain (column_type schema t p)
      of_column p true same is = symbol_kind (column_type schema t c) (suc (length k.way.symbols)) ∙ ap (λ x. plain (column_type schema t x)) (sym (test_same p c same))
      of_column p false other is = typed.olds p (known_end (λ x. p == x) k.way.known_old c other is)

      by_test : (b : Bool) → list_any (λ d. c == d) k.way.known_old ≡ b → Made (λ v. kind v ≡ plain (column_type schema t c)) t (draw_old c (column_type schema t c) k)
      by_test true e = rw (e) (typed, typed.olds c e)
      by_test false e = rw (e) (record { sources = typed.sources; olds = λ p is. of_column p (p == c) refl is; effects = typed.effects }, symbol_kind (column_type schema t c) (suc (length k.way.symbols)))

  typed_noting : (t : ℕ) (k z : Sketch) → z.way ≡ k.way → z.drawing.sources ≡ k.drawing.sources → z.drawing.olds ≡ k.drawing.olds → z.drawing.effects ≡ k.drawing.effects → Typed t k → Typed t z
  typed_noting t k z way forms olds effects typed = record {
    sources = λ q is. ap (λ l. kind (form_of l q)) forms ∙ typed.sources q (ap (λ w. is_known q w.known) (sym way) ∙ is);
    olds = λ c is. ap (λ l. kind (old_of l c)) olds ∙ typed.olds c (ap (λ w. is_known_old c w.known_old) (sym way) ∙ is);
    effects = subst (All (IsSuited schema tape)) (sym effects) typed.effects;
  }

  typed_product : (t : ℕ) (a b : Bool) (v w : SymValue) (k : Sketch) → Typed t k → Made (λ x. kind x ≡ types.Int) t (draw_product a b v w k)
  typed_product t true b v w k typed = (record { sources = typed.sources; olds = typed.olds; effects = typed.effects }, refl)
  typed_product t false true v w k typed = (record { sources = typed.sources; olds = typed.olds; effects = typed.effects }, refl)
  typed_product t false false v w k typed = (record { sources = typed.sources; olds = typed.olds; effects = typed.effects }, refl)

  pub typed_term : (t : ℕ) (e : Term) (k : Sketch) → Typed t k → Made (λ v. kind v ≡ plain (type_of schema names t e)) t (draw_term schema names t e k)
  typed_term t (Number n at) k typed = (typed, refl)
  typed_term t (Words text at) k typed = (typed, refl)
  typed_term t (Variable x at) k typed = typed_source t (sources.Variable x.num) k typed
  typed_term t (Field r c at) k typed = typed_source t (sources.Column r.num c.num) k typed
  typed_term t (Old c at) k typed = typed_old t c.num k typed
  typed_term t (Minus a at) k typed =
      made_then (λ v. kind v ≡ plain (type_of schema names t a)) (λ v. kind v ≡ types.Int) t (draw_term schema names t a k) _ (typed_term t a k typed) (λ v u is same. (record { sources = is.sources; olds = is.olds; effects = is.effects }, refl))
  typed_term t (Sum a b at) k typed =
      made_then (λ v. kind v ≡ plain (type_of schema names t a)) (λ v. kind v ≡ types.Int) t (draw_term schema names t a k) _ (typed_term t a k typed)
      (λ v u is same. made_then (λ w. kind w ≡ plain (type_of schema names t b)) (λ w. kind w ≡ types.Int) t (draw_term schema names t b u) _ (typed_term t b u is)
      (λ w z those other. (record { sources = those.sources; olds = those.olds; effects = those.effects }, refl)))
  typed_term t (Difference a b at) k typed =
      made_then (λ v. kind v ≡ plain (type_of schema names t a)) (λ v. kind v ≡ types.Int) t (draw_term schema names t a k) _ (typed_term t a k typed)
      (λ v u is same. made_then (λ w. kind w ≡ plain (type_of schema names t b)) (λ w. kind w ≡ types.Int) t (draw_term schema names t b u) _ (typed_term t b u is)
      (λ w z those other. (record { sources = those.sources; olds = those.olds; effects = those.effects }, refl)))
  typed_term t (Product a b at) k typed =
      made_then (λ v. kind v ≡ plain (type_of schema names t a)) (λ v. kind v ≡ types.Int) t (draw_term schema names t a k) _ (typed_term t a k typed)
      (λ v u is same. made_then (λ w. kind w ≡ plain (type_of schema names t b)) (λ w. kind w ≡ types.Int) t (draw_term schema names t b u) _ (typed_term t b u is)
      (λ w z those other. typed_product t (is_factor a) (is_factor b) v w z those))

  abbrev pub kinds : List SymValue → List Ty
  kinds vs = map kind vs

  pub typed_terms : (es : List Term) (k : Sketch) → Typed 0 k → Made (λ vs. kinds vs ≡ map (λ e. plain (type_of schema names 0 e)) es) 0 (draw_terms schema names es k)
  typed_terms [] k typed = (typed, refl)
  typed_terms (e ∷ es) k typed =
      made_then (λ v. kind v ≡ plain (type_of schema names 0 e)) (λ vs. kinds vs ≡ map (λ x. plain (type_of schema names 0 x)) (e ∷ es)) 0 (draw_term schema names 0 e k) _ (typed_term 0 e k typed)
      (λ v u is same. made_then (λ vs. kinds vs ≡ map (λ x. plain (type_of schema names 0 x)) es) (λ vs. kinds vs ≡ map (λ x. plain (type_of schema names 0 x)) (e ∷ es)) 0 (draw_terms schema names es u) _ (typed_terms es u is)
      (λ vs z those others. (those, λ i. same i ∷ others i)))

  -- conditions
  abbrev pub Judged : Tried → Type 0
  Judged Short = Unit {0}
  Judged (Tells h k) = Typed 0 k

  judged_then : (x : Tried) (go : Bool → Sketch → Tried) → Judged x → ((h : Bool) (k : Sketch) → Typed 0 k → Judged (go h k)) → Judged (then_tried x go)
  judged_then Short go is next = tt
  judged_then (Tells h k) go is next = next h k is

  drawn_judged : (P : SymValue → Type 0) (x : Drawn SymValue) (go : SymValue → Sketch → Tried) → Made P 0 x → ((v : SymValue) (k : Sketch) → Typed 0 k → Judged (go v k)) → Judged (drawn_then x go)
  drawn_judged P (Draws v k) go is next = next v k is.0

  choice_judged : (left : List Bool) (r : _) (v w : SymValue) (k : Sketch) → Typed 0 k → Judged (draw_choice left r v w k)
  choice_judged [] r v w k typed = tt
  choice_judged (h ∷ left) r v w k typed = record { sources = typed.sources; olds = typed.olds; effects = typed.effects }

  pub judged : (c : Test) (k : Sketch) → Typed 0 k → Judged (draw_test schema names c k)
  judged (Compare a r b) k typed = drawn_judged (λ v. kind v ≡ plain (type_of schema names 0 a)) (draw_term schema names 0 a k) _ (typed_term 0 a k typed)
      (λ v u is. drawn_judged (λ w. kind w ≡ plain (type_of schema names 0 b)) (draw_term schema names 0 b u) _ (typed_term 0 b u is) (λ w z those. choice_judged z.way.left r v w z those))
  judged (Negation c) k typed = judged_then (draw_test schema names c k) _ (judged c k typed) (λ h u is. is)
  judged (Both c q) k typed = judged_then (draw_test schema names c k) _ (judged c k typed) (λ h u is. judged_then (draw_test schema names q u) _ (judged q u is) (λ g z those. those))
  judged (Either c q) k typed = judged_then (draw_test schema names c k) _ (judged c k typed) (λ h u is. judged_then (draw_test schema names q u) _ (judged q u is) (λ g z those. those))

  -- writes
  set_fits : (k : Column) (m : Merge) (v : SymValue) → k.merge ≡ m → (m ≡ merges.NumDelta → ⊥) → kind v ≡ k.ty → WriteFits k (write_on tape (Set v))
  set_fits k m v merged other same = ((λ counts. other (sym merged ∙ counts)), has_type k.ty (value_of v tape) same)

  plain_counts : merges.Plain ≡ merges.NumDelta → ⊥
  plain_counts e = cc

  lww_counts : merges.Lww ≡ merges.NumDelta → ⊥
  lww_counts e = cc

  fresh_counts : merges.Fresh ≡ merges.NumDelta → ⊥
  fresh_counts e = cc

  first_fits : (k : Column) (m : Merge) (v : SymValue) → k.merge ≡ m → kind v ≡ k.ty → WriteFits k (write_on tape (first_write m v))
  first_fits k merges.NumDelta v merged same = merged
  first_fits k merges.Plain v merged same = set_fits k merges.Plain v merged plain_counts same
  first_fits k merges.Lww v merged same = set_fits k merges.Lww v merged lww_counts same
  first_fits k merges.Fresh v merged same = set_fits k merges.Fresh v merged fresh_counts same

  -- the columns from so many on that are outside the key are written, in order
  pub record Lists (d : Declaration) (c : ℕ) (columns : List Column) (ws : List (ℕ × Write)) : Type 0 where
    pub writes : AreWrites d ws
    pub above : (n : ℕ) → n < c → AllAbove n (columns_written ws)
    pub order : Ascending (columns_written ws)
    pub whole : (j : ℕ) → j < length columns → is_key_column d.key (c + j) ≡ false → is_written (c + j) ws ≡ true

  lists_none : (d : Declaration) (c : ℕ) → Lists d c [] []
  lists_none d c = record { writes = tt; above = λ n less. tt; order = tt; whole = λ j less outside. absurd (omega (arith, less)) }

  lists_key : (d : Declaration) (c : ℕ) (k : Column) (columns : List Column) (ws : List (ℕ × Write)) → symbols.is_key_column d.key c ≡ true → Lists d (suc c) columns ws → Lists d c (k ∷ columns) ws
  lists_key d c k columns ws key rest = record { writes = rest.writes; above = λ n less. rest.above n (omega (arith, less)); order = rest.order; whole = whole_key d c (k ∷ columns) columns ws refl key rest.whole }

  lists_more : (d : Declaration) (c : ℕ) (k : Column) (columns : List Column) (w : Write) (ws : List (ℕ × Write)) → slice_get d.columns c ≡ Some k → symbols.is_key_column d.key c ≡ false → WriteFits k w → Lists d (suc c) columns ws
      → Lists d c (k ∷ columns) ((c, w) ∷ ws)
  lists_more d c k columns w ws here key fits rest =
      let write : IsWrite d c w = record { column = k; declared = here; outside = key_same d.key c ∙ key; fits = fits } in
      record {
        writes = (write, rest.writes);
        above = λ n less. (less, rest.above n (omega (arith, less)));
        order = (rest.above c (omega arith), rest.order);
        whole = whole_written d c (k ∷ columns) columns w ws refl rest.whole;
      }

  pub firsts_listed : (d : Declaration) (c : ℕ) (columns : List Column) (vs : List SymValue) → AreFrom d c columns → kinds vs ≡ map (λ (x : ℕ × Column). x.1.ty) (outside_key d c columns)
      → Lists d c columns (writes_on tape (first_writes (outside_key d c columns) vs))
  firsts_listed d c [] vs from same = lists_none d c
  firsts_listed d c (k ∷ columns) vs from same = by_key (symbols.is_key_column d.key c) refl same (λ us is. firsts_listed d (suc c) columns us (from_next d c k columns from) is)
    where
      Rest : Type 0
      Rest = (us : List SymValue) → kinds us ≡ map (λ (x : ℕ × Column). x.1.ty) (outside_key d (suc c) columns) → Lists d (suc c) columns (writes_on tape (first_writes (outside_key d (suc c) columns) us))

      by_values : (us : List SymValue) → symbols.is_key_column d.key c ≡ false → kinds us ≡ map (λ (x : ℕ × Column). x.1.ty) ((c, k) ∷ outside_key d (suc c) columns) → Rest
          → Lists d c (k ∷ columns) (writes_on tape (first_writes ((c, k) ∷ outside_key d (suc c) columns) us))
      by_values [] key same more = absurd cc
      by_values (u ∷ us) key same more =
          let head : kind u ≡ k.ty = cc in
          let tail : kinds us ≡ map (λ (x : ℕ × Column). x.1.ty) (outside_key d (suc c) columns) = cc in
          lists_more d c k columns (write_on tape (first_write k.merge u)) (writes_on tape (first_writes (outside_key d (suc c) columns) us)) (from_here d c k columns from) key (first_fits k k.merge u refl head) (more us tail)

      by_key : (b : Bool) → symbols.is_key_column d.key c ≡ b → kinds vs ≡ map (λ (x : ℕ × Column). x.1.ty) (if b then outside_key d (suc c) columns else (c, k) ∷ outside_key d (suc c) columns) → Rest
          → Lists d c (k ∷ columns) (writes_on tape (first_writes (if b then outside_key d (suc c) columns else (c, k) ∷ outside_key d (suc c) columns) vs))
      by_key true key same more = lists_key d c k columns (writes_on tape (first_writes (outside_key d (suc c) columns) vs)) key (more vs same)
      by_key false key same more = by_values vs key same more

  typed_delta : (t : ℕ) (v now : SymValue) (k : Sketch) (c : Column) → c.merge ≡ merges.NumDelta → Typed t k → Made (λ w. WriteFits c (write_on tape w)) t (draw_delta v now k)
  typed_delta t v now k c counts typed = (record { sources = typed.sources; olds = typed.olds; effects = typed.effects }, counts)

  typed_insert : (grows : Bool) (m : Merge) (c : Column) (v : SymValue) (k : Sketch) → c.merge ≡ m → kind v ≡ c.ty → Typed 0 k → Made (λ w. WriteFits c (write_on tape w)) 0 (draw_insert grows m v k)
  typed_insert true m c v k merged same typed = (typed, first_fits c m v merged same)
  typed_insert false merges.NumDelta c v k merged same typed =
      made_then (λ w. kind w ≡ types.Int) (λ w. WriteFits c (write_on tape w)) 0 (draw_symbol types.Int k) (draw_delta v) (typed_symbol 0 types.Int k typed) (λ w z is other. typed_delta 0 v w z c merged is)
  typed_insert false merges.Plain c v k merged same typed = (typed, set_fits c merges.Plain v merged plain_counts same)
  typed_insert false merges.Lww c v k merged same typed = (typed, set_fits c merges.Lww v merged lww_counts same)
  typed_insert false merges.Fresh c v k merged same typed = (typed, set_fits c merges.Fresh v merged fresh_counts same)

  pub typed_inserts : (d : Declaration) (vs : List SymValue) → ((c : ℕ) (x : Column) → slice_get d.columns c ≡ Some x → kind (item zero_form vs c) ≡ x.ty) → (c : ℕ) (columns : List Column) (k : Sketch) → AreFrom d c columns → Typed 0 k
      → Made (λ ws. Lists d c columns (writes_on tape ws)) 0 (draw_inserts d vs c columns k)
  typed_inserts d vs each c [] k from typed = (typed, lists_none d c)
  typed_inserts d vs each c (x ∷ columns) k from typed = by_key (symbols.is_key_column d.key c) refl (λ u is. typed_inserts d vs each (suc c) columns u (from_next d c x columns from) is)
    where
      here : slice_get d.columns c ≡ Some x
      here = from_here d c x columns from

      go : SymWrite → Sketch → Drawn (List (ℕ × SymWrite))
      go w u = then_draws (draw_inserts d vs (suc c) columns u) (λ ws z. Draws ((c, w) ∷ ws) z)

      by_key : (b : Bool) → symbols.is_key_column d.key c ≡ b → ((u : Sketch) → Typed 0 u → Made (λ ws. Lists d (suc c) columns (writes_on tape ws)) 0 (draw_inserts d vs (suc c) columns u))
          → Made (λ ws. Lists d c (x ∷ columns) (writes_on tape ws)) 0 (if b then draw_inserts d vs (suc c) columns k else then_draws (draw_insert (is_grow_only d.kind) x.merge (item zero_form vs c) k) go)
      by_key true key more = wider (draw_inserts d vs (suc c) columns k) (more k typed)
        where
          wider : (y : Drawn (List (ℕ × SymWrite))) → Made (λ ws. Lists d (suc c) columns (writes_on tape ws)) 0 y → Made (λ ws. Lists d c (x ∷ columns) (writes_on tape ws)) 0 y
          wider (Draws ws z) is = (is.0, lists_key d c x columns (writes_on tape ws) key is.1)
      by_key false key more =
          made_then (λ w. WriteFits x (write_on tape w)) (λ ws. Lists d c (x ∷ columns) (writes_on tape ws)) 0 (draw_insert (is_grow_only d.kind) x.merge (item zero_form vs c) k) go
          (typed_insert (is_grow_only d.kind) x.merge x (item zero_form vs c) k refl (each c x here) typed)
          (λ w u is fits. made_then (λ ws. Lists d (suc c) columns (writes_on tape ws)) (λ ws. Lists d c (x ∷ columns) (writes_on tape ws)) 0 (draw_inserts d vs (suc c) columns u) (λ ws z. Draws ((c, w) ∷ ws) z) (more u is)
          (λ ws z those rest. (those, lists_more d c x columns (write_on tape w) (writes_on tape ws) here key fits rest)))

  -- sets
  module _ (accepted : AcceptedSchema schema) (t : Ident) (d : Declaration) (declared : slice_get schema t.num ≡ Some d) where
    column_is : (c : ℕ) (x : Column) → slice_get d.columns c ≡ Some x → plain (column_type schema t.num c) ≡ x.ty
    column_is c x here = ap plain (ap (λ o. type_in (slice_get (columns_at o) c)) declared ∙ ap type_in here) ∙ plain_same x.ty (no_lists schema accepted t.num c d x declared here)

    typed_set : (c : ℕ) (m : Merge) (v : SymValue) (k : Sketch) → merge_of d.columns c ≡ m → kind v ≡ plain (column_type schema t.num c) → Typed t.num k
        → Made (λ w. (x : Column) → slice_get d.columns c ≡ Some x → WriteFits x (write_on tape w)) t.num (draw_set m c v k)
    typed_set c merges.NumDelta v k merged same typed =
        let integer : column_type schema t.num c ≡ types.Int = counter_type schema t.num d c accepted declared merged in
        let now : Made (λ w. kind w ≡ plain (column_type schema t.num c)) t.num (draw_old c types.Int k) = subst (λ ty. Made (λ w. kind w ≡ plain (column_type schema t.num c)) t.num (draw_old c ty k)) integer (typed_old t.num c k typed) in
        made_then (λ w. kind w ≡ plain (column_type schema t.num c)) (λ w. (x : Column) → slice_get d.columns c ≡ Some x → WriteFits x (write_on tape w)) t.num (draw_old c types.Int k) (draw_delta v) now
        (λ w z is other. (record { sources = is.sources; olds = is.olds; effects = is.effects }, λ x here. ap merge_in (sym here) ∙ merged))
    typed_set c merges.Plain v k merged same typed = (typed, λ x here. set_fits x merges.Plain v (ap merge_in (sym here) ∙ merged) plain_counts (same ∙ column_is c x here))
    typed_set c merges.Lww v k merged same typed = (typed, λ x here. set_fits x merges.Lww v (ap merge_in (sym here) ∙ merged) lww_counts (same ∙ column_is c x here))
    typed_set c merges.Fresh v k merged same typed = (typed, λ x here. set_fits x merges.Fresh v (ap merge_in (sym here) ∙ merged) fresh_counts (same ∙ column_is c x here))

    -- each set is of its column's type
    abbrev pub SetsTyped : List (Ident × Term) → Type 0
    SetsTyped [] = Unit {0}
    SetsTyped (set ∷ sets) = (type_of schema names t.num set.1 ≡ column_type schema t.num set.0.num) × SetsTyped sets

    pub typed_sets : (sets : List (Ident × Term)) (k : Sketch) → SetsTyped sets → Typed t.num k → Made (λ ws. Suited d.columns (writes_on tape ws)) t.num (draw_sets schema names t.num sets k)
    typed_sets [] k suit typed = (typed, tt)
    typed_sets (set ∷ sets) k suit typed =
        let c : ℕ = set.0.num in
        let m : Merge = merge_in (slice_get (columns_at (slice_get schema t.num)) c) in
        let merged : merge_of d.columns c ≡ m = ap (λ o. merge_in (slice_get (columns_at o) c)) (sym declared) in
        made_then (λ v. kind v ≡ plain (type_of schema names t.num set.1)) (λ ws. Suited d.columns (writes_on tape ws)) t.num (draw_term schema names t.num set.1 k) _ (typed_term t.num set.1 k typed)
        (λ v u is same. made_then (λ w. (x : Column) → slice_get d.columns c ≡ Some x → WriteFits x (write_on tape w)) (λ ws. Suited d.columns (writes_on tape ws)) t.num (draw_set m c v u)
        (λ w z. then_draws (draw_sets schema names t.num sets z) (λ ws q. Draws ((c, w) ∷ ws) q)) (typed_set c m v u merged (same ∙ ap plain suit.0) is)
        (λ w z those fits. made_then (λ ws. Suited d.columns (writes_on tape ws)) (λ ws. Suited d.columns (writes_on tape ws)) t.num (draw_sets schema names t.num sets z) (λ ws q. Draws ((c, w) ∷ ws) q) (typed_sets sets z suit.1 those)
        (λ ws q end rest. (end, (fits, rest)))))
