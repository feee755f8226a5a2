-- What is drawn names only symbols that were brought in, and those of the right types, where a list counts as an integer.
use Rattle.std.proofs.Common.{neg_ℤ, ◌≡◌, ℕ, zero, suc, ◌≤◌, ◌<◌, ℤ, pos, ◌+ℤ◌, ◌*ℤ◌, nat_lt, ◌==◌, ◌&&◌, if◌then◌else◌, Bool, true, false, List, [], ◌∷◌, ◌++◌, length, Option, Some, None, map, slice_get, refl, subst, arith, ◌-ℤ◌, ◌≤ℤ◌, ◌<ℤ◌, int_le, ◌*◌, ◌+◌, ap, sym, ◌∙◌}
use Rattle.std.specs.Ordering.{int_eq}
use Rattle.std.specs.List.{list_any}
use Rattle.std.proofs.lemmas.Int.{ints}
use Rattle.std.proofs.lemmas.List.{length-append, length-map, map-append}
use Rattle.std.proofs.lemmas.List.Elements.{All-nil, All-cons, All-append, All-push, All-head, All-tail, All-weaker}
use Rattle.std.proofs.lemmas.Option.{slice_get_within}
use Rattle.sv_app.specs.declared.acts.Act.TheVariants as acts
use Rattle.sv_app.specs.declared.apps.Ident.{Ident}
use Rattle.sv_app.specs.declared.instances.Source.{Source}
use Rattle.sv_app.specs.declared.instances.Source.TheVariants as sources
use Rattle.sv_app.specs.declared.schemas.Column.{Column}
use Rattle.sv_app.specs.declared.schemas.Merge.{Merge}
use Rattle.sv_app.specs.declared.schemas.Merge.TheVariants as merges
use Rattle.sv_app.specs.declared.schemas.Ty.{Ty}
use Rattle.sv_app.specs.declared.schemas.Ty.TheVariants as types
use Rattle.sv_app.specs.declared.txns.Rel.{Rel}
use Rattle.sv_app.specs.declared.txns.Rel.TheVariants as rels
use Rattle.sv_app.specs.Kinds.{is_grow_only}
use Rattle.sv_app.specs.Paths as paths
use Rattle.sv_app.specs.Paths.{merge_in, columns_at}
use Rattle.sv_app.specs.Schema.{Declaration}
use Rattle.sv_app.specs.Slots.{item}
use Rattle.sv_app.specs.Symbols.{is_same_source, is_known, is_factor, is_key_column}
use Rattle.sv_app.specs.Trees.{Term, Number, Words, Variable, Field, Old, Minus, Sum, Difference, Product, Test, Compare, Negation, Both, Either, Command, Declare, Assign, Fetch, Choose, ForRows, ForEach, Insert, Fresh, Update, Remove, Abort, Reply, Block, Finish, Then, Transaction}
use Rattle.sv_linear.specs.Forms.{is_word, are_words, Form, with_term, put, put_all, add, scaled_terms, scale, negated_terms, minus, sub, is_narrow}
use Rattle.sv_linear.specs.Effects.{SymValue, TextIs, TextSymbol, SymWrite, Delta, Set, SymEffect, linear, symbol_of}
use Rattle.sv_bounds.specs.declared.systems.Diff.{Diff}
use Rattle.sv_linear.specs.Facts.{is_one, is_minus_one, one_term, two_terms, difference_in, difference_of, at_most, at_least, facts_in, facts_by, facts_of}
use Rattle.sv_symbolic.specs.Laws.{RoutesAreClosed}
use Rattle.sv_symbolic.specs.Named.{IsSymbol, TermsName, ValueNames, WriteNames, WritesName, EffectsName, IsFact, AreFacts}
use Rattle.sv_symbolic.specs.Sketches.{Drawing, Sketch, Drawn, Draws, then_draws, zero_form, form_of, old_of, next_symbol, draw_source, draw_old, draw_symbol, draw_form, draw_product, draw_term, draw_terms, Tried, Short, Tells, then_tried, drawn_then, draw_choice, draw_test}
use Rattle.sv_symbolic.specs.Routes.{draw_delta, draw_set, draw_sets, draw_insert, draw_inserts, first_write, first_writes, with_effect, Route, Aborts, TooFew, Leads, then_route, on_drawn, on_tried, on_declared, forgetting, set_form, draw_command, draw_block, draw_unit, first_sketch}
use Rattle.sv_symbolic.specs.Typed.{IsOfType, TermsAreOver, ValueIsOver, WriteIsOver, WritesAreOver, EffectsAreOver}
use Rattle.sv_symbolic.proofs.KindLaws.{plain}
use Rattle.sv_trace.proofs.OpeningLaws.{slice_left}
use Rattle.sv_effect.specs.RunChanges.{outside_key}
use Rattle.sv_app.specs.Writes.{writes_at, in_order}
use Rattle.sv_linear.specs.Effects as syms
use Rattle.sv_linear.specs.Facts as facts

-- lists of types, of which the longer one has the same at each place of the shorter one
record Longer (tys us : List Ty) : Type 0 where
  size : length tys ≤ length us
  each : (n : ℕ) (ty : Ty) → slice_get tys n ≡ Some ty → slice_get us n ≡ Some ty

same_length : (tys : List Ty) → Longer tys tys
same_length tys = record { size = omega arith; each = λ n ty at. at }

longer_then : (tys us vs : List Ty) → Longer tys us → Longer us vs → Longer tys vs
longer_then tys us vs one two = record { size = omega (arith, one.size, two.size); each = λ n ty at. two.each n ty (one.each n ty at) }

longer_by : (tys : List Ty) (ty : Ty) → Longer tys (tys ++ ty ∷ [])
longer_by tys ty = record { size = omega (arith, length-append tys (ty ∷ [])); each = λ n t at. slice_left tys (ty ∷ []) n t at }

last_at : (tys : List Ty) (ty : Ty) → slice_get (tys ++ ty ∷ []) (length tys) ≡ Some ty
last_at [] ty = refl
last_at (t ∷ tys) ty = last_at tys ty

-- what is drawn is over symbols of these types
abbrev AllOver : List Ty → List SymValue → Type 0
AllOver tys [] = Unit {0}
AllOver tys (v ∷ vs) = ValueIsOver tys v × AllOver tys vs

abbrev SourcesOver : List Ty → List (Source × SymValue) → Type 0
SourcesOver tys [] = Unit {0}
SourcesOver tys (e ∷ es) = ValueIsOver tys e.1 × SourcesOver tys es

abbrev OldsOver : List Ty → List (ℕ × SymValue) → Type 0
OldsOver tys [] = Unit {0}
OldsOver tys (e ∷ es) = ValueIsOver tys e.1 × OldsOver tys es

abbrev IsInteger : List Ty → ℕ × ℤ → Type 0
IsInteger tys t = IsOfType tys t.0 types.Int

abbrev WriteOver : List Ty → ℕ × SymWrite → Type 0
WriteOver tys w = WriteIsOver tys w.1

abbrev EffectOver : List Ty → SymEffect → Type 0
EffectOver tys e = WritesAreOver tys e.writes

-- so it names them
symbol_named : (tys : List Ty) (s : ℕ) (ty : Ty) → IsOfType tys s ty → IsSymbol (length tys) s
symbol_named tys s ty is = let within : is.number < length tys = slice_get_within tys is.number ty is.has in (omega (arith, is.is), omega (arith, is.is, within))

terms_named : (tys : List Ty) (ts : List (ℕ × ℤ)) → TermsAreOver tys ts → TermsName (length tys) ts
terms_named tys [] is = tt
terms_named tys (t ∷ ts) is = (symbol_named tys t.0 types.Int (All-head (IsInteger tys) t ts is), terms_named tys ts (All-tail (IsInteger tys) t ts is))

value_named : (tys : List Ty) (v : SymValue) → ValueIsOver tys v → ValueNames (length tys) v
value_named tys (syms.Number f) is = terms_named tys f.terms is
value_named tys (TextIs t) is = tt
value_named tys (TextSymbol s) is = symbol_named tys s types.Text is

write_named : (tys : List Ty) (w : SymWrite) → WriteIsOver tys w → WriteNames (length tys) w
write_named tys (Delta f) is = terms_named tys f.terms is
write_named tys (Set v) is = value_named tys v is

writes_named : (tys : List Ty) (ws : List (ℕ × SymWrite)) → WritesAreOver tys ws → WritesName (length tys) ws
writes_named tys [] is = tt
writes_named tys (w ∷ ws) is = (write_named tys w.1 (All-head (WriteOver tys) w ws is), writes_named tys ws (All-tail (WriteOver tys) w ws is))

effects_named : (tys : List Ty) (es : List SymEffect) → EffectsAreOver tys es → EffectsName (length tys) es
effects_named tys [] is = tt
effects_named tys (e ∷ es) is = (writes_named tys e.writes (All-head (EffectOver tys) e es is), effects_named tys es (All-tail (EffectOver tys) e es is))

-- facts and choices that are left: two facts for each are within a budget
module _ (budget : ℕ) where
  record DrawingOver (tys : List Ty) (left : List Bool) (d : Drawing) : Type 0 where
    few : length d.facts + 2 * length left ≤ budget
    sources : SourcesOver tys d.sources
    olds : OldsOver tys d.olds
    facts : AreFacts (length tys) d.facts
    effects : EffectsAreOver tys d.effects

  -- the types of the symbols, in which a list counts as an integer
  abbrev kinds_at : Sketch → List Ty
  kinds_at k = map plain k.way.symbols

  abbrev Closed : Sketch → Type 0
  Closed k = DrawingOver (kinds_at k) k.way.left k.drawing

  -- over longer lists
  symbol_longer : (tys us : List Ty) (s : ℕ) (ty : Ty) → Longer tys us → IsOfType tys s ty → IsOfType us s ty
  symbol_longer tys us s ty more is = record { number = is.number; is = is.is; has = more.each is.number ty is.has }

  terms_longer : (tys us : List Ty) (ts : List (ℕ × ℤ)) → Longer tys us → TermsAreOver tys ts → TermsAreOver us ts
  terms_longer tys us ts more is = All-weaker (IsInteger tys) (IsInteger us) (λ t here. symbol_longer tys us t.0 types.Int more here) ts is

  value_longer : (tys us : List Ty) (v : SymValue) → Longer tys us → ValueIsOver tys v → ValueIsOver us v
  value_longer tys us (syms.Number f) more is = terms_longer tys us f.terms more is
  value_longer tys us (TextIs t) more is = tt
  value_longer tys us (TextSymbol s) more is = symbol_longer tys us s types.Text more is

  all_longer : (tys us : List Ty) (vs : List SymValue) → Longer tys us → AllOver tys vs → AllOver us vs
  all_longer tys us [] more is = tt
  all_longer tys us (v ∷ vs) more is = (value_longer tys us v more is.0, all_longer tys us vs more is.1)

  write_longer : (tys us : List Ty) (w : SymWrite) → Longer tys us → WriteIsOver tys w → WriteIsOver us w
  write_longer tys us (Delta f) more is = terms_longer tys us f.terms more is
  write_longer tys us (Set v) more is = value_longer tys us v more is

  writes_longer : (tys us : List Ty) (ws : List (ℕ × SymWrite)) → Longer tys us → WritesAreOver tys ws → WritesAreOver us ws
  writes_longer tys us ws more is = All-weaker (WriteOver tys) (WriteOver us) (λ w here. write_longer tys us w.1 more here) ws is

  effects_longer : (tys us : List Ty) (es : List SymEffect) → Longer tys us → EffectsAreOver tys es → EffectsAreOver us es
  effects_longer tys us es more is = All-weaker (EffectOver tys) (EffectOver us) (λ e here. writes_longer tys us e.writes more here) es is

  fact_wider : (n m : ℕ) (row : Diff) → n ≤ m → IsFact n row → IsFact m row
  fact_wider n m row le is = record { x = omega (arith, le, is.x); y = omega (arith, le, is.y); low = is.low; high = is.high }

  facts_wider : (n m : ℕ) (rows : List Diff) → n ≤ m → AreFacts n rows → AreFacts m rows
  facts_wider n m rows le is = All-weaker (IsFact n) (IsFact m) (λ row here. fact_wider n m row le here) rows is

  sources_longer : (tys us : List Ty) (es : List (Source × SymValue)) → Longer tys us → SourcesOver tys es → SourcesOver us es
  sources_longer tys us [] more is = tt
  sources_longer tys us (e ∷ es) more is = (value_longer tys us e.1 more is.0, sources_longer tys us es more is.1)

  olds_longer : (tys us : List Ty) (es : List (ℕ × SymValue)) → Longer tys us → OldsOver tys es → OldsOver us es
  olds_longer tys us [] more is = tt
  olds_longer tys us (e ∷ es) more is = (value_longer tys us e.1 more is.0, olds_longer tys us es more is.1)

  drawing_longer : (tys us : List Ty) (left : List Bool) (d : Drawing) → Longer tys us → DrawingOver tys left d → DrawingOver us left d
  drawing_longer tys us left d more is = record {
    few = is.few;
    sources = sources_longer tys us d.sources more is.sources;
    olds = olds_longer tys us d.olds more is.olds;
    facts = facts_wider (length tys) (length us) d.facts more.size is.facts;
    effects = effects_longer tys us d.effects more is.effects;
  }

  -- sums
  no_terms : (tys : List Ty) → TermsAreOver tys []
  no_terms tys = All-nil (IsInteger tys)

  more_terms : (tys : List Ty) (t : ℕ × ℤ) (ts : List (ℕ × ℤ)) → IsInteger tys t → TermsAreOver tys ts → TermsAreOver tys (t ∷ ts)
  more_terms tys t ts here is = All-cons (IsInteger tys) t ts here is

  with_over : (tys : List Ty) (k : ℕ) (c : ℤ) (ts : List (ℕ × ℤ)) → IsOfType tys k types.Int → TermsAreOver tys ts → TermsAreOver tys (with_term k c ts)
  with_over tys k c ts here is = by_test (int_eq c (pos 0))
    where
      by_test : (b : Bool) → TermsAreOver tys (if b then ts else (k, c) ∷ ts)
      by_test true = is
      by_test false = more_terms tys (k, c) ts here is

  put_over : (tys : List Ty) (k : ℕ) (c : ℤ) (ts : List (ℕ × ℤ)) → IsOfType tys k types.Int → TermsAreOver tys ts → TermsAreOver tys (put k c ts)
  put_over tys k c [] here is = with_over tys k c [] here is
  put_over tys k c (t ∷ ts) here is = by_less (nat_lt k t.0) (k == t.0) (put_over tys k c ts here later)
    where
      later : TermsAreOver tys ts
      later = All-tail (IsInteger tys) t ts is

      by_less : (a b : Bool) → TermsAreOver tys (put k c ts) → TermsAreOver tys (if a then with_term k c (t ∷ ts) else (if b then with_term k (c +ℤ t.1) ts else t ∷ put k c ts))
      by_less true b rest = with_over tys k c (t ∷ ts) here is
      by_less false true rest = with_over tys k (c +ℤ t.1) ts here later
      by_less false false rest = more_terms tys t (put k c ts) (All-head (IsInteger tys) t ts is) rest

  put_all_over : (tys : List Ty) (ts us : List (ℕ × ℤ)) → TermsAreOver tys ts → TermsAreOver tys us → TermsAreOver tys (put_all ts us)
  put_all_over tys [] us is other = other
  put_all_over tys (t ∷ ts) us is other = put_over tys t.0 t.1 (put_all ts us) (All-head (IsInteger tys) t ts is) (put_all_over tys ts us (All-tail (IsInteger tys) t ts is) other)

  negated_over : (tys : List Ty) (ts : List (ℕ × ℤ)) → TermsAreOver tys ts → TermsAreOver tys (negated_terms ts)
  negated_over tys [] is = is
  negated_over tys (t ∷ ts) is = more_terms tys (t.0, neg_ℤ t.1) (negated_terms ts) (All-head (IsInteger tys) t ts is) (negated_over tys ts (All-tail (IsInteger tys) t ts is))

  scaled_over : (tys : List Ty) (c : ℤ) (ts : List (ℕ × ℤ)) → TermsAreOver tys ts → TermsAreOver tys (scaled_terms c ts)
  scaled_over tys c [] is = is
  scaled_over tys c (t ∷ ts) is = with_over tys t.0 (c *ℤ t.1) (scaled_terms c ts) (All-head (IsInteger tys) t ts is) (scaled_over tys c ts (All-tail (IsInteger tys) t ts is))

  sub_over : (tys : List Ty) (f g : Form) → TermsAreOver tys f.terms → TermsAreOver tys g.terms → TermsAreOver tys (sub f g).terms
  sub_over tys f g a b = put_all_over tys f.terms (negated_terms g.terms) a (negated_over tys g.terms b)

  linear_over : (tys : List Ty) (v : SymValue) → ValueIsOver tys v → TermsAreOver tys (linear v).terms
  linear_over tys (syms.Number f) is = is
  linear_over tys (TextIs t) is = no_terms tys
  linear_over tys (TextSymbol s) is = no_terms tys

  form_over : (tys : List Ty) (es : List (Source × SymValue)) (q : Source) → SourcesOver tys es → ValueIsOver tys (form_of es q)
  form_over tys [] q is = no_terms tys
  form_over tys (e ∷ es) q is = by_test (is_same_source q e.0) (form_over tys es q is.1)
    where
      by_test : (b : Bool) → ValueIsOver tys (form_of es q) → ValueIsOver tys (if b then e.1 else form_of es q)
      by_test true rest = is.0
      by_test false rest = rest

  old_over : (tys : List Ty) (es : List (ℕ × SymValue)) (c : ℕ) → OldsOver tys es → ValueIsOver tys (old_of es c)
  old_over tys [] c is = no_terms tys
  old_over tys (e ∷ es) c is = by_test (c == e.0) (old_over tys es c is.1)
    where
      by_test : (b : Bool) → ValueIsOver tys (old_of es c) → ValueIsOver tys (if b then e.1 else old_of es c)
      by_test true rest = is.0
      by_test false rest = rest

  symbol_over : (ty : Ty) (tys : List Ty) (n : ℕ) → slice_get tys n ≡ Some (plain ty) → ValueIsOver tys (symbol_of ty (suc n))
  symbol_over types.Int tys n at = more_terms tys (suc n, pos 1) [] (record { number = n; is = refl; has = at }) (no_terms tys)
  symbol_over types.Text tys n at = record { number = n; is = refl; has = at }
  symbol_over types.Ints tys n at = more_terms tys (suc n, pos 1) [] (record { number = n; is = refl; has = at }) (no_terms tys)

  -- what is drawn from a sketch whose symbols have these types
  abbrev Closing : {A : Type 0} → (List Ty → A → Type 0) → List Ty → Drawn A → Type 0
  Closing P tys (Draws v k) = Longer tys (kinds_at k) × Closed k × P (kinds_at k) v

  closing_then : {A B : Type 0} (P : List Ty → A → Type 0) (Q : List Ty → B → Type 0) (tys : List Ty) (x : Drawn A) (go : A → Sketch → Drawn B) → Closing P tys x
      → ((v : A) (k : Sketch) → Longer tys (kinds_at k) → Closed k → P (kinds_at k) v → Closing Q (kinds_at k) (go v k)) → Closing Q tys (then_draws x go)
  closing_then P Q tys (Draws v k) go is next = wider (go v k) (next v k is.0 is.1 is.2)
    where
      wider : (y : Drawn _) → Closing Q (kinds_at k) y → Closing Q tys y
      wider (Draws w l) more = (longer_then tys (kinds_at k) (kinds_at l) is.0 more.0, more.1, more.2)

  grown : (symbols : List Ty) (ty : Ty) → map plain (symbols ++ ty ∷ []) ≡ map plain symbols ++ plain ty ∷ []
  grown symbols ty = map-append plain symbols (ty ∷ [])

  longer_kinds : (symbols : List Ty) (ty : Ty) → Longer (map plain symbols) (map plain (symbols ++ ty ∷ []))
  longer_kinds symbols ty = subst (Longer (map plain symbols)) (sym (grown symbols ty)) (longer_by (map plain symbols) (plain ty))

  -- the symbol that comes next
  next_over : (symbols : List Ty) (ty : Ty) → ValueIsOver (map plain (symbols ++ ty ∷ [])) (symbol_of ty (suc (length symbols)))
  next_over symbols ty =
      let at : slice_get (map plain (symbols ++ ty ∷ [])) (length symbols) ≡ Some (plain ty) = (λ i. slice_get (grown symbols ty i) (sym (length-map symbols plain) i)) ∙ last_at (map plain symbols) (plain ty) in
      symbol_over ty (map plain (symbols ++ ty ∷ [])) (length symbols) at

  closing_symbol : (ty : Ty) (k : Sketch) → Closed k → Closing ValueIsOver (kinds_at k) (draw_symbol ty k)
  closing_symbol ty k closed =
      let more = longer_kinds k.way.symbols ty in
      (more, drawing_longer (kinds_at k) _ k.way.left k.drawing more closed, next_over k.way.symbols ty)

  closing_source : (q : Source) (ty : Ty) (k : Sketch) → Closed k → Closing ValueIsOver (kinds_at k) (draw_source q ty k)
  closing_source q ty k closed = by_test (is_known q k.way.known) refl
    where
      by_test : (b : Bool) → is_known q k.way.known ≡ b → Closing ValueIsOver (kinds_at k) (draw_source q ty k)
      by_test true e = rw (e) (same_length (kinds_at k), closed, form_over (kinds_at k) k.drawing.sources q closed.sources)
      by_test false e =
          let more = longer_kinds k.way.symbols ty in
          let new = next_over k.way.symbols ty in
          let wide = drawing_longer (kinds_at k) _ k.way.left k.drawing more closed in
          rw (e) (more, record { few = wide.few; sources = (new, wide.sources); olds = wide.olds; facts = wide.facts; effects = wide.effects }, new)

  closing_old : (c : ℕ) (ty : Ty) (k : Sketch) → Closed k → Closing ValueIsOver (kinds_at k) (draw_old c ty k)
  closing_old c ty k closed = by_test (list_any (λ d. c == d) k.way.known_old) refl
    where
      by_test : (b : Bool) → list_any (λ d. c == d) k.way.known_old ≡ b → Closing ValueIsOver (kinds_at k) (draw_old c ty k)
      by_test true e = rw (e) (same_length (kinds_at k), closed, old_over (kinds_at k) k.drawing.olds c closed.olds)
      by_test false e =
          let more = longer_kinds k.way.symbols ty in
          let new = next_over k.way.symbols ty in
          let wide = drawing_longer (kinds_at k) _ k.way.left k.drawing more closed in
          rw (e) (more, record { few = wide.few; sources = wide.sources; olds = (new, wide.olds); facts = wide.facts; effects = wide.effects }, new)

  closing_form : (f : Form) (k : Sketch) → TermsAreOver (kinds_at k) f.terms → Closed k → Closing ValueIsOver (kinds_at k) (draw_form f k)
  closing_form f k is closed = (same_length (kinds_at k), record { few = closed.few; sources = closed.sources; olds = closed.olds; facts = closed.facts; effects = closed.effects }, is)

  closing_product : (a b : Bool) (v w : SymValue) (k : Sketch) → ValueIsOver (kinds_at k) v → ValueIsOver (kinds_at k) w → Closed k → Closing ValueIsOver (kinds_at k) (draw_product a b v w k)
  closing_product true b v w k p q closed = closing_form (scale (linear v).plus (linear w)) k (scaled_over (kinds_at k) (linear v).plus (linear w).terms (linear_over (kinds_at k) w q)) closed
  closing_product false true v w k p q closed = closing_form (scale (linear w).plus (linear v)) k (scaled_over (kinds_at k) (linear w).plus (linear v).terms (linear_over (kinds_at k) v p)) closed
  closing_product false false v w k p q closed = closing_symbol types.Int k closed

  -- facts
  difference_names : (n : ℕ) (ts : List (ℕ × ℤ)) (c : ℤ) (d : facts.Difference) → TermsName n ts → difference_in ts c ≡ Some d → (d.x ≤ n) × (d.y ≤ n)
  difference_names n [] c d is e = let same : record { x = 0; y = 0; plus = c } ≡ d = cc in subst (λ (x : facts.Difference). (x.x ≤ n) × (x.y ≤ n)) same (omega arith, omega arith)
  difference_names n (t ∷ []) c d is e = one (is_one t.1) (is_minus_one t.1) e
    where
      one : (a b : Bool) → one_term t.0 a b c ≡ Some d → (d.x ≤ n) × (d.y ≤ n)
      one true b e = let same : record { x = t.0; y = 0; plus = c } ≡ d = cc in subst (λ (x : facts.Difference). (x.x ≤ n) × (x.y ≤ n)) same (is.0.1, omega arith)
      one false true e = let same : record { x = 0; y = t.0; plus = c } ≡ d = cc in subst (λ (x : facts.Difference). (x.x ≤ n) × (x.y ≤ n)) same (omega arith, is.0.1)
      one false false e = absurd cc
  difference_names n (t ∷ u ∷ []) c d is e = two (is_one t.1 && is_minus_one u.1) (is_minus_one t.1 && is_one u.1) e
    where
      two : (a b : Bool) → two_terms t.0 u.0 a b c ≡ Some d → (d.x ≤ n) × (d.y ≤ n)
      two true b e = let same : record { x = t.0; y = u.0; plus = c } ≡ d = cc in subst (λ (x : facts.Difference). (x.x ≤ n) × (x.y ≤ n)) same (is.0.1, is.1.0.1)
      two false true e = let same : record { x = u.0; y = t.0; plus = c } ≡ d = cc in subst (λ (x : facts.Difference). (x.x ≤ n) × (x.y ≤ n)) same (is.1.0.1, is.0.1)
      two false false e = absurd cc
  difference_names n (t ∷ u ∷ v ∷ ts) c d is e = absurd cc

  is_word_bounds : (z : ℤ) → is_word z ≡ true → (neg_ℤ (pos 9223372036854775808) ≤ℤ z) × (z ≤ℤ pos 9223372036854775807)
  is_word_bounds z e = (word_low (int_le (neg_ℤ (pos 9223372036854775808)) z) (int_le z (pos 9223372036854775807)) refl e, word_high (int_le (neg_ℤ (pos 9223372036854775808)) z) (int_le z (pos 9223372036854775807)) refl e)
    where
      word_low : (a b : Bool) → int_le (neg_ℤ (pos 9223372036854775808)) z ≡ a → (a && b) ≡ true → neg_ℤ (pos 9223372036854775808) ≤ℤ z
      word_low true b le e = grind (arith, ints, le)
      word_low false b le e = absurd cc

      word_high : (a b : Bool) → int_le z (pos 9223372036854775807) ≡ b → (a && b) ≡ true → z ≤ℤ pos 9223372036854775807
      word_high true true le e = grind (arith, ints, le)
      word_high true false le e = absurd cc
      word_high false b le e = absurd cc

  most_fact : (n : ℕ) (d : facts.Difference) (m : ℤ) → d.x ≤ n → d.y ≤ n → is_word d.plus ≡ true → pos 0 ≤ℤ m → m ≤ℤ pos 1 → IsFact n (at_most d m)
  most_fact n d m x y narrow low high =
      let bounds = is_word_bounds d.plus narrow in
      record { x = x; y = y; low = least d.plus m bounds.1 high; high = most d.plus m bounds.0 low }
    where
      least : (k m : ℤ) → k ≤ℤ pos 9223372036854775807 → m ≤ℤ pos 1 → neg_ℤ (pos 1180591620717411303424) <ℤ (neg_ℤ k -ℤ m)
      least k m p q = omega (arith, ints)

      most : (k m : ℤ) → neg_ℤ (pos 9223372036854775808) ≤ℤ k → pos 0 ≤ℤ m → (neg_ℤ k -ℤ m) <ℤ pos 1180591620717411303424
      most k m p q = omega (arith, ints)

  least_fact : (n : ℕ) (d : facts.Difference) (m : ℤ) → d.x ≤ n → d.y ≤ n → is_word d.plus ≡ true → pos 0 ≤ℤ m → m ≤ℤ pos 1 → IsFact n (at_least d m)
  least_fact n d m x y narrow low high =
      let bounds = is_word_bounds d.plus narrow in
      record { x = y; y = x; low = least d.plus m bounds.0 high; high = most d.plus m bounds.1 low }
    where
      least : (k m : ℤ) → neg_ℤ (pos 9223372036854775808) ≤ℤ k → m ≤ℤ pos 1 → neg_ℤ (pos 1180591620717411303424) <ℤ (k -ℤ m)
      least k m p q = omega (arith, ints)

      most : (k m : ℤ) → k ≤ℤ pos 9223372036854775807 → pos 0 ≤ℤ m → (k -ℤ m) <ℤ pos 1180591620717411303424
      most k m p q = omega (arith, ints)

  facts_named : (n : ℕ) (r : Rel) (h : Bool) (d : facts.Difference) → d.x ≤ n → d.y ≤ n → is_word d.plus ≡ true → AreFacts n (facts_in r h d)
  facts_named n r h d x y narrow = by_rel r h
    where
      none : AreFacts n []
      none = All-nil (IsFact n)

      one : (row : Diff) → IsFact n row → AreFacts n (row ∷ [])
      one row is = All-cons (IsFact n) row [] is none

      most : (m : ℤ) → pos 0 ≤ℤ m → m ≤ℤ pos 1 → IsFact n (at_most d m)
      most m low high = most_fact n d m x y narrow low high

      least : (m : ℤ) → pos 0 ≤ℤ m → m ≤ℤ pos 1 → IsFact n (at_least d m)
      least m low high = least_fact n d m x y narrow low high

      m0 : IsFact n (at_most d (pos 0))
      m0 = most (pos 0) (omega (arith, ints)) (omega (arith, ints))

      m1 : IsFact n (at_most d (pos 1))
      m1 = most (pos 1) (omega (arith, ints)) (omega (arith, ints))

      l0 : IsFact n (at_least d (pos 0))
      l0 = least (pos 0) (omega (arith, ints)) (omega (arith, ints))

      l1 : IsFact n (at_least d (pos 1))
      l1 = least (pos 1) (omega (arith, ints)) (omega (arith, ints))

      equal : AreFacts n (at_most d (pos 0) ∷ at_least d (pos 0) ∷ [])
      equal = All-cons (IsFact n) (at_most d (pos 0)) (at_least d (pos 0) ∷ []) m0 (one (at_least d (pos 0)) l0)

      by_rel : (q : Rel) (g : Bool) → AreFacts n (facts_in q g d)
      by_rel rels.Eq true = equal
      by_rel rels.Eq false = none
      by_rel rels.Ne true = none
      by_rel rels.Ne false = equal
      by_rel rels.Lt true = one (at_most d (pos 1)) m1
      by_rel rels.Lt false = one (at_least d (pos 0)) l0
      by_rel rels.Le true = one (at_most d (pos 0)) m0
      by_rel rels.Le false = one (at_least d (pos 1)) l1
      by_rel rels.Gt true = one (at_least d (pos 1)) l1
      by_rel rels.Gt false = one (at_most d (pos 0)) m0
      by_rel rels.Ge true = one (at_least d (pos 0)) l0
      by_rel rels.Ge false = one (at_most d (pos 1)) m1

  plus_kept : (ts : List (ℕ × ℤ)) (c : ℤ) (d : facts.Difference) → difference_in ts c ≡ Some d → d.plus ≡ c
  plus_kept [] c d e = let same : record { x = 0; y = 0; plus = c } ≡ d = cc in ap (λ (x : facts.Difference). x.plus) (sym same)
  plus_kept (t ∷ []) c d e = one (is_one t.1) (is_minus_one t.1) e
    where
      one : (a b : Bool) → one_term t.0 a b c ≡ Some d → d.plus ≡ c
      one true b e = let same : record { x = t.0; y = 0; plus = c } ≡ d = cc in ap (λ (x : facts.Difference). x.plus) (sym same)
      one false true e = let same : record { x = 0; y = t.0; plus = c } ≡ d = cc in ap (λ (x : facts.Difference). x.plus) (sym same)
      one false false e = absurd cc
  plus_kept (t ∷ u ∷ []) c d e = two (is_one t.1 && is_minus_one u.1) (is_minus_one t.1 && is_one u.1) e
    where
      two : (a b : Bool) → two_terms t.0 u.0 a b c ≡ Some d → d.plus ≡ c
      two true b e = let same : record { x = t.0; y = u.0; plus = c } ≡ d = cc in ap (λ (x : facts.Difference). x.plus) (sym same)
      two false true e = let same : record { x = u.0; y = t.0; plus = c } ≡ d = cc in ap (λ (x : facts.Difference). x.plus) (sym same)
      two false false e = absurd cc
  plus_kept (t ∷ u ∷ v ∷ ts) c d e = absurd cc

  front : (a b : Bool) → (a && b) ≡ true → a ≡ true
  front true b e = refl
  front false b e = absurd cc

  few_in : (r : Rel) (h : Bool) (d : facts.Difference) → length (facts_in r h d) ≤ 2
  few_in rels.Eq true d = omega arith
  few_in rels.Eq false d = omega arith
  few_in rels.Ne true d = omega arith
  few_in rels.Ne false d = omega arith
  few_in rels.Lt true d = omega arith
  few_in rels.Lt false d = omega arith
  few_in rels.Le true d = omega arith
  few_in rels.Le false d = omega arith
  few_in rels.Gt true d = omega arith
  few_in rels.Gt false d = omega arith
  few_in rels.Ge true d = omega arith
  few_in rels.Ge false d = omega arith

  few_by : (r : Rel) (h : Bool) (o : Option facts.Difference) → length (facts_by r h o) ≤ 2
  few_by r h None = omega arith
  few_by r h (Some d) = few_in r h d

  few_of : (r : Rel) (h : Bool) (v w : SymValue) → length (facts_of r h v w) ≤ 2
  few_of r h (syms.Number f) (syms.Number g) = few_by r h (difference_of (sub f g))
  few_of r h (syms.Number f) (TextIs t) = omega arith
  few_of r h (syms.Number f) (TextSymbol s) = omega arith
  few_of r h (TextIs t) w = omega arith
  few_of r h (TextSymbol s) w = omega arith

  facts_of_over : (tys : List Ty) (r : Rel) (h : Bool) (v w : SymValue) → ValueIsOver tys v → ValueIsOver tys w → AreFacts (length tys) (facts_of r h v w)
  facts_of_over tys r h (syms.Number f) (syms.Number g) p q = by_form (is_narrow (sub f g)) refl (difference_in (sub f g).terms (sub f g).plus) refl
    where
      by_form : (b : Bool) → is_narrow (sub f g) ≡ b → (o : Option facts.Difference) → difference_in (sub f g).terms (sub f g).plus ≡ o → AreFacts (length tys) (facts_by r h (if b then o else None))
      by_form false narrow o e = All-nil (IsFact (length tys))
      by_form true narrow None e = All-nil (IsFact (length tys))
      by_form true narrow (Some d) e =
          let is = difference_names (length tys) (sub f g).terms (sub f g).plus d (terms_named tys (sub f g).terms (sub_over tys f g p q)) e in
          facts_named (length tys) r h d is.0 is.1 (ap is_word (plus_kept (sub f g).terms (sub f g).plus d e) ∙ front (is_word (sub f g).plus) (are_words (sub f g).terms) narrow)
  facts_of_over tys r h (syms.Number f) (TextIs t) p q = All-nil (IsFact (length tys))
  facts_of_over tys r h (syms.Number f) (TextSymbol s) p q = All-nil (IsFact (length tys))
  facts_of_over tys r h (TextIs t) w p q = All-nil (IsFact (length tys))
  facts_of_over tys r h (TextSymbol s) w p q = All-nil (IsFact (length tys))

  facts_behind : (n : ℕ) (xs ys : List Diff) → AreFacts n xs → AreFacts n ys → AreFacts n (xs ++ ys)
  facts_behind n xs ys is other = All-append (IsFact n) xs ys is other

  effects_behind : (tys : List Ty) (xs : List SymEffect) (e : SymEffect) → EffectsAreOver tys xs → WritesAreOver tys e.writes → EffectsAreOver tys (xs ++ e ∷ [])
  effects_behind tys xs e is other = All-push (EffectOver tys) xs e is other

  module _ (schema : List Declaration) (names : paths.Names) where
    closing_term : (table : ℕ) (e : Term) (k : Sketch) → Closed k → Closing ValueIsOver (kinds_at k) (draw_term schema names table e k)
    closing_term table (Number n s) k closed = (same_length (kinds_at k), closed, no_terms (kinds_at k))
    closing_term table (Words t s) k closed = (same_length (kinds_at k), closed, tt)
    closing_term table (Variable x s) k closed = closing_source (sources.Variable x.num) _ k closed
    closing_term table (Field r c s) k closed = closing_source (sources.Column r.num c.num) _ k closed
    closing_term table (Old c s) k closed = closing_old c.num _ k closed
    closing_term table (Minus a s) k closed =
        closing_then ValueIsOver ValueIsOver (kinds_at k) (draw_term schema names table a k) _ (closing_term table a k closed) (λ v u le shut p. closing_form (minus (linear v)) u (negated_over (kinds_at u) (linear v).terms (linear_over (kinds_at u) v p)) shut)
    closing_term table (Sum a b s) k closed =
        closing_then ValueIsOver ValueIsOver (kinds_at k) (draw_term schema names table a k) _ (closing_term table a k closed)
        (λ v u le shut p. closing_then ValueIsOver ValueIsOver (kinds_at u) (draw_term schema names table b u) _ (closing_term table b u shut)
        (λ w z more done q. closing_form (add (linear v) (linear w)) z (put_all_over (kinds_at z) (linear v).terms (linear w).terms (linear_over (kinds_at z) v (value_longer (kinds_at u) (kinds_at z) v more p)) (linear_over (kinds_at z) w q)) done))
    closing_term table (Difference a b s) k closed =
        closing_then ValueIsOver ValueIsOver (kinds_at k) (draw_term schema names table a k) _ (closing_term table a k closed)
        (λ v u le shut p. closing_then ValueIsOver ValueIsOver (kinds_at u) (draw_term schema names table b u) _ (closing_term table b u shut)
        (λ w z more done q. closing_form (sub (linear v) (linear w)) z (sub_over (kinds_at z) (linear v) (linear w) (linear_over (kinds_at z) v (value_longer (kinds_at u) (kinds_at z) v more p)) (linear_over (kinds_at z) w q)) done))
    closing_term table (Product a b s) k closed =
        closing_then ValueIsOver ValueIsOver (kinds_at k) (draw_term schema names table a k) _ (closing_term table a k closed)
        (λ v u le shut p. closing_then ValueIsOver ValueIsOver (kinds_at u) (draw_term schema names table b u) _ (closing_term table b u shut)
        (λ w z more done q. closing_product (is_factor a) (is_factor b) v w z (value_longer (kinds_at u) (kinds_at z) v more p) q done))

    closing_terms : (es : List Term) (k : Sketch) → Closed k → Closing AllOver (kinds_at k) (draw_terms schema names es k)
    closing_terms [] k closed = (same_length (kinds_at k), closed, tt)
    closing_terms (e ∷ es) k closed =
        closing_then ValueIsOver AllOver (kinds_at k) (draw_term schema names 0 e k) _ (closing_term 0 e k closed)
        (λ v u le shut p. closing_then AllOver AllOver (kinds_at u) (draw_terms schema names es u) _ (closing_terms es u shut) (λ vs z more done q. (same_length (kinds_at z), done, (value_longer (kinds_at u) (kinds_at z) v more p, q))))

    -- conditions
    abbrev Trying : List Ty → Tried → Type 0
    Trying tys Short = Unit {0}
    Trying tys (Tells h k) = Longer tys (kinds_at k) × Closed k

    trying_then : (tys : List Ty) (x : Tried) (go : Bool → Sketch → Tried) → Trying tys x → ((h : Bool) (k : Sketch) → Closed k → Trying (kinds_at k) (go h k)) → Trying tys (then_tried x go)
    trying_then tys Short go is next = tt
    trying_then tys (Tells h k) go is next = wider (go h k) (next h k is.1)
      where
        wider : (y : Tried) → Trying (kinds_at k) y → Trying tys y
        wider Short more = tt
        wider (Tells b l) more = (longer_then tys (kinds_at k) (kinds_at l) is.0 more.0, more.1)

    drawn_trying : (tys : List Ty) (x : Drawn SymValue) (go : SymValue → Sketch → Tried) → Closing ValueIsOver tys x → ((v : SymValue) (k : Sketch) → Closed k → ValueIsOver (kinds_at k) v → Trying (kinds_at k) (go v k)) → Trying tys (drawn_then x go)
    drawn_trying tys (Draws v k) go is next = wider (go v k) (next v k is.1 is.2)
      where
        wider : (y : Tried) → Trying (kinds_at k) y → Trying tys y
        wider Short more = tt
        wider (Tells b l) more = (longer_then tys (kinds_at k) (kinds_at l) is.0 more.0, more.1)

    few_more : (xs ys : List Diff) (left : List Bool) → length ys ≤ 2 → length xs + 2 * suc (length left) ≤ budget → length (xs ++ ys) + 2 * length left ≤ budget
    few_more xs ys left two few = omega (arith, two, few, length-append xs ys)

    trying_choice : (left : List Bool) (r : Rel) (v w : SymValue) (k : Sketch) → k.way.left ≡ left → ValueIsOver (kinds_at k) v → ValueIsOver (kinds_at k) w → Closed k → Trying (kinds_at k) (draw_choice left r v w k)
    trying_choice [] r v w k now p q closed = tt
    trying_choice (h ∷ left) r v w k now p q closed =
        (same_length (kinds_at k), record { few = few_more k.drawing.facts (facts_of r h v w) left (few_of r h v w) (subst (λ l. length k.drawing.facts + 2 * length l ≤ budget) now closed.few); sources = closed.sources; olds = closed.olds; facts = facts_behind (length (kinds_at k)) k.drawing.facts (facts_of r h v w) closed.facts (facts_of_over (kinds_at k) r h v w p q); effects = closed.effects })

    -- the first side's form is named on the wider sketch as well
    trying_compare : (r : Rel) (v : SymValue) (tys : List Ty) (x : Drawn SymValue) → ValueIsOver tys v → Closing ValueIsOver tys x → Trying tys (drawn_then x (λ w z. draw_choice z.way.left r v w z))
    trying_compare r v tys (Draws w z) p is = wider (draw_choice z.way.left r v w z) (trying_choice z.way.left r v w z refl (value_longer tys (kinds_at z) v is.0 p) is.2 is.1)
      where
        wider : (y : Tried) → Trying (kinds_at z) y → Trying tys y
        wider Short more = tt
        wider (Tells b l) more = (longer_then tys (kinds_at z) (kinds_at l) is.0 more.0, more.1)

    trying : (t : Test) (k : Sketch) → Closed k → Trying (kinds_at k) (draw_test schema names t k)
    trying (Compare a r b) k closed = drawn_trying (kinds_at k) (draw_term schema names 0 a k) _ (closing_term 0 a k closed) (λ v u shut p. trying_compare r v (kinds_at u) (draw_term schema names 0 b u) p (closing_term 0 b u shut))
    trying (Negation t) k closed = trying_then (kinds_at k) (draw_test schema names t k) _ (trying t k closed) (λ h u shut. (same_length (kinds_at u), shut))
    trying (Both t q) k closed = trying_then (kinds_at k) (draw_test schema names t k) _ (trying t k closed) (λ h u shut. trying_then (kinds_at u) (draw_test schema names q u) _ (trying q u shut) (λ g z done. (same_length (kinds_at z), done)))
    trying (Either t q) k closed = trying_then (kinds_at k) (draw_test schema names t k) _ (trying t k closed) (λ h u shut. trying_then (kinds_at u) (draw_test schema names q u) _ (trying q u shut) (λ g z done. (same_length (kinds_at z), done)))

    -- writes
    closing_delta : (v now : SymValue) (k : Sketch) → ValueIsOver (kinds_at k) v → ValueIsOver (kinds_at k) now → Closed k → Closing WriteIsOver (kinds_at k) (draw_delta v now k)
    closing_delta v now k p q closed =
        closing_then ValueIsOver WriteIsOver (kinds_at k) (draw_form (sub (linear v) (linear now)) k) (λ w z. Draws (Delta (linear w)) z)
        (closing_form (sub (linear v) (linear now)) k (sub_over (kinds_at k) (linear v) (linear now) (linear_over (kinds_at k) v p) (linear_over (kinds_at k) now q)) closed) (λ w z le done is. (same_length (kinds_at z), done, linear_over (kinds_at z) w is))

    closing_set : (m : Merge) (c : ℕ) (v : SymValue) (k : Sketch) → ValueIsOver (kinds_at k) v → Closed k → Closing WriteIsOver (kinds_at k) (draw_set m c v k)
    closing_set merges.NumDelta c v k p closed = closing_then ValueIsOver WriteIsOver (kinds_at k) (draw_old c types.Int k) (draw_delta v) (closing_old c types.Int k closed) (λ w z le done q. closing_delta v w z (value_longer (kinds_at k) (kinds_at z) v le p) q done)
    closing_set merges.Plain c v k p closed = (same_length (kinds_at k), closed, p)
    closing_set merges.Lww c v k p closed = (same_length (kinds_at k), closed, p)
    closing_set merges.Fresh c v k p closed = (same_length (kinds_at k), closed, p)

    closing_sets : (table : ℕ) (sets : List (Ident × Term)) (k : Sketch) → Closed k → Closing WritesAreOver (kinds_at k) (draw_sets schema names table sets k)
    closing_sets table [] k closed = (same_length (kinds_at k), closed, All-nil (WriteOver (kinds_at k)))
    closing_sets table (set ∷ sets) k closed =
        closing_then ValueIsOver WritesAreOver (kinds_at k) (draw_term schema names table set.1 k) _ (closing_term table set.1 k closed)
        (λ v u le shut p. closing_then WriteIsOver WritesAreOver (kinds_at u) (draw_set (merge_in (slice_get (columns_at (slice_get schema table)) set.0.num)) set.0.num v u) _ (closing_set _ set.0.num v u p shut)
        (λ w y more done q. closing_then WritesAreOver WritesAreOver (kinds_at y) (draw_sets schema names table sets y) (λ ws z. Draws ((set.0.num, w) ∷ ws) z) (closing_sets table sets y done) (λ ws z last end r. (same_length (kinds_at z), end, All-cons (WriteOver (kinds_at z)) (set.0.num, w) ws (write_longer (kinds_at y) (kinds_at z) w last q) r))))

    closing_insert : (grows : Bool) (m : Merge) (v : SymValue) (k : Sketch) → ValueIsOver (kinds_at k) v → Closed k → Closing WriteIsOver (kinds_at k) (draw_insert grows m v k)
    closing_insert true merges.NumDelta v k p closed = (same_length (kinds_at k), closed, linear_over (kinds_at k) v p)
    closing_insert false merges.NumDelta v k p closed =
        closing_then ValueIsOver WriteIsOver (kinds_at k) (draw_symbol types.Int k) (draw_delta v) (closing_symbol types.Int k closed) (λ w z le done q. closing_delta v w z (value_longer (kinds_at k) (kinds_at z) v le p) q done)
    closing_insert true merges.Plain v k p closed = (same_length (kinds_at k), closed, p)
    closing_insert false merges.Plain v k p closed = (same_length (kinds_at k), closed, p)
    closing_insert true merges.Lww v k p closed = (same_length (kinds_at k), closed, p)
    closing_insert false merges.Lww v k p closed = (same_length (kinds_at k), closed, p)
    closing_insert true merges.Fresh v k p closed = (same_length (kinds_at k), closed, p)
    closing_insert false merges.Fresh v k p closed = (same_length (kinds_at k), closed, p)

    first_over : (tys : List Ty) (m : Merge) (v : SymValue) → ValueIsOver tys v → WriteIsOver tys (first_write m v)
    first_over tys merges.NumDelta v is = linear_over tys v is
    first_over tys merges.Plain v is = is
    first_over tys merges.Lww v is = is
    first_over tys merges.Fresh v is = is

    firsts_over : (tys : List Ty) (cs : List (ℕ × Column)) (vs : List SymValue) → AllOver tys vs → WritesAreOver tys (first_writes cs vs)
    firsts_over tys [] vs is = All-nil (WriteOver tys)
    firsts_over tys (c ∷ cs) [] is = All-nil (WriteOver tys)
    firsts_over tys (c ∷ cs) (v ∷ vs) is = All-cons (WriteOver tys) (c.0, first_write c.1.merge v) (first_writes cs vs) (first_over tys c.1.merge v is.0) (firsts_over tys cs vs is.1)

    item_over : (tys : List Ty) (vs : List SymValue) (c : ℕ) → AllOver tys vs → ValueIsOver tys (item zero_form vs c)
    item_over tys [] zero is = no_terms tys
    item_over tys [] (suc c) is = no_terms tys
    item_over tys (v ∷ vs) zero is = is.0
    item_over tys (v ∷ vs) (suc c) is = item_over tys vs c is.1

    closing_inserts : (t : Declaration) (vs : List SymValue) (c : ℕ) (columns : List Column) (k : Sketch) → AllOver (kinds_at k) vs → Closed k → Closing WritesAreOver (kinds_at k) (draw_inserts t vs c columns k)
    closing_inserts t vs c [] k all closed = (same_length (kinds_at k), closed, All-nil (WriteOver (kinds_at k)))
    closing_inserts t vs c (column ∷ columns) k all closed = by_key (is_key_column t.key c) (λ u is shut. closing_inserts t vs (suc c) columns u is shut)
      where
        by_key : (b : Bool) → ((u : Sketch) → AllOver (kinds_at u) vs → Closed u → Closing WritesAreOver (kinds_at u) (draw_inserts t vs (suc c) columns u))
            → Closing WritesAreOver (kinds_at k) (if b then draw_inserts t vs (suc c) columns k else then_draws (draw_insert (is_grow_only t.kind) column.merge (item zero_form vs c) k) (λ w u. then_draws (draw_inserts t vs (suc c) columns u) (λ ws z. Draws ((c, w) ∷ ws) z)))
        by_key true more = more k all closed
        by_key false more =
            closing_then WriteIsOver WritesAreOver (kinds_at k) (draw_insert (is_grow_only t.kind) column.merge (item zero_form vs c) k) _ (closing_insert (is_grow_only t.kind) column.merge (item zero_form vs c) k (item_over (kinds_at k) vs c all) closed)
            (λ w u le shut q. closing_then WritesAreOver WritesAreOver (kinds_at u) (draw_inserts t vs (suc c) columns u) (λ ws z. Draws ((c, w) ∷ ws) z) (more u (all_longer (kinds_at k) (kinds_at u) vs le all) shut) (λ ws z last end r. (same_length (kinds_at z), end, All-cons (WriteOver (kinds_at z)) (c, w) ws (write_longer (kinds_at u) (kinds_at z) w last q) r)))

    column_over : (tys : List Ty) (c : ℕ) (ws : List (ℕ × SymWrite)) → WritesAreOver tys ws → WritesAreOver tys (writes_at c ws)
    column_over tys c [] is = is
    column_over tys c (w ∷ ws) is = by_test (w.0 == c) (column_over tys c ws (All-tail (WriteOver tys) w ws is))
      where
        by_test : (b : Bool) → WritesAreOver tys (writes_at c ws) → WritesAreOver tys (if b then w ∷ [] else writes_at c ws)
        by_test true rest = All-cons (WriteOver tys) w [] (All-head (WriteOver tys) w ws is) (All-nil (WriteOver tys))
        by_test false rest = rest

    ordered_over : (tys : List Ty) (t : Declaration) (c : ℕ) (columns : List Column) (ws : List (ℕ × SymWrite)) → WritesAreOver tys ws → WritesAreOver tys (in_order t c columns ws)
    ordered_over tys t c [] ws is = All-nil (WriteOver tys)
    ordered_over tys t c (column ∷ columns) ws is =
        All-append (WriteOver tys) (if is_key_column t.key c then [] else writes_at c ws) (in_order t (suc c) columns ws) (front (is_key_column t.key c)) (ordered_over tys t (suc c) columns ws is)
      where
        front : (b : Bool) → WritesAreOver tys (if b then [] else writes_at c ws)
        front true = All-nil (WriteOver tys)
        front false = column_over tys c ws is

    -- statements
    abbrev Routed : Route → Type 0
    Routed (Aborts k) = Unit {0}
    Routed TooFew = Unit {0}
    Routed (Leads k) = Closed k

    routed_drawn : {A : Type 0} (P : List Ty → A → Type 0) (tys : List Ty) (x : Drawn A) (go : A → Sketch → Route) → Closing P tys x → ((v : A) (k : Sketch) → Closed k → P (kinds_at k) v → Routed (go v k)) → Routed (on_drawn x go)
    routed_drawn P tys (Draws v k) go is next = next v k is.1 is.2

    routed_effect : (e : SymEffect) (k : Sketch) → WritesAreOver (kinds_at k) e.writes → Closed k → Closed (with_effect e k)
    routed_effect e k is closed = record { few = closed.few; sources = closed.sources; olds = closed.olds; facts = closed.facts; effects = effects_behind (kinds_at k) k.drawing.effects e closed.effects is }

    routed_form : (x : ℕ) (v : SymValue) (k : Sketch) → ValueIsOver (kinds_at k) v → Closed k → Routed (Leads (record { way = paths.formed x k.way; drawing = record k.drawing { sources = (sources.Variable x, v) ∷ k.drawing.sources } }))
    routed_form x v k is closed = record { few = closed.few; sources = (is, closed.sources); olds = closed.olds; facts = closed.facts; effects = closed.effects }

    routed_tried : (tys : List Ty) (x : Tried) (a b : Sketch → Route) → Trying tys x → ((k : Sketch) → Closed k → Routed (a k)) → ((k : Sketch) → Closed k → Routed (b k)) → Routed (on_tried x a b)
    routed_tried tys Short a b is p q = tt
    routed_tried tys (Tells true k) a b is p q = p k is.1
    routed_tried tys (Tells false k) a b is p q = q k is.1

    routed_then : (x : Route) (a : Sketch → Route) → Routed x → ((k : Sketch) → Closed k → Routed (a k)) → Routed (then_route x a)
    routed_then (Aborts k) a is p = tt
    routed_then TooFew a is p = tt
    routed_then (Leads k) a is p = p k is

    routed_declared : (o : Option Declaration) (k : Sketch) (go : Declaration → Sketch → Route) → Closed k → ((d : Declaration) → Routed (go d k)) → Routed (on_declared o k go)
    routed_declared None k go closed p = closed
    routed_declared (Some d) k go closed p = p d

    routed_fresh : (o : Option Declaration) (x t : ℕ) (fs : List SymValue) (u : Sketch) → AllOver (kinds_at u) fs → Closed u
        → Routed (on_drawn (draw_symbol types.Int u) (λ key z. then_route (on_declared o z (λ d y. Leads (with_effect (record { table = t; act = acts.Fresh; writes = first_writes (outside_key d 0 d.columns) fs }) y))) (set_form x key)))
    routed_fresh o x t fs u all shut = by_table o
      where
        z : Sketch
        z = record { way = paths.put types.Int u.way; drawing = u.drawing }

        key : SymValue
        key = next_symbol types.Int u.way

        is : Longer (kinds_at u) (kinds_at z) × Closed z × ValueIsOver (kinds_at z) key
        is = closing_symbol types.Int u shut

        by_table : (o : Option Declaration) → Routed (then_route (on_declared o z (λ d y. Leads (with_effect (record { table = t; act = acts.Fresh; writes = first_writes (outside_key d 0 d.columns) fs }) y))) (set_form x key))
        by_table None = routed_form x key z is.2 is.1
        by_table (Some d) =
            let e : SymEffect = record { table = t; act = acts.Fresh; writes = first_writes (outside_key d 0 d.columns) fs } in
            routed_form x key (with_effect e z) is.2 (routed_effect e z (firsts_over (kinds_at z) (outside_key d 0 d.columns) fs (all_longer (kinds_at u) (kinds_at z) fs is.0 all)) is.1)

    mutual
      routed_command : (c : Command) (k : Sketch) → Closed k → Routed (draw_command schema names c k)
      routed_command (Declare x e) k closed = routed_drawn ValueIsOver (kinds_at k) (draw_term schema names 0 e k) _ (closing_term 0 e k closed) (λ v u shut p. routed_form x.num v u p shut)
      routed_command (Assign x e) k closed = routed_drawn ValueIsOver (kinds_at k) (draw_term schema names 0 e k) _ (closing_term 0 e k closed) (λ v u shut p. routed_form x.num v u p shut)
      routed_command (Fetch r t key) k closed = routed_drawn AllOver (kinds_at k) (draw_terms schema names key k) _ (closing_terms key k closed) (λ v u shut p. shut)
      routed_command (Choose c ys ns) k closed = routed_tried (kinds_at k) (draw_test schema names c k) (draw_block schema names ys) (draw_block schema names ns) (trying c k closed) (λ u shut. routed_block ys u shut) (λ u shut. routed_block ns u shut)
      routed_command (ForRows r t c body) k closed = record { few = closed.few; sources = closed.sources; olds = closed.olds; facts = closed.facts; effects = closed.effects }
      routed_command (ForEach x l body) k closed = record { few = closed.few; sources = closed.sources; olds = closed.olds; facts = closed.facts; effects = closed.effects }
      routed_command (Insert t vs) k closed =
          routed_drawn AllOver (kinds_at k) (draw_terms schema names vs k) _ (closing_terms vs k closed)
          (λ fs u shut all. routed_declared (slice_get schema t.num) u _ shut (λ d. routed_drawn WritesAreOver (kinds_at u) (draw_inserts d fs 0 d.columns u) _ (closing_inserts d fs 0 d.columns u all shut) (λ ws z done q. routed_effect _ z q done)))
      routed_command (Fresh x t vs) k closed = routed_drawn AllOver (kinds_at k) (draw_terms schema names vs k) _ (closing_terms vs k closed) (λ fs u shut all. routed_fresh (slice_get schema t.num) x.num t.num fs u all shut)
      routed_command (Update t key sets) k closed =
          routed_drawn AllOver (kinds_at k) (draw_terms schema names key k) _ (closing_terms key k closed)
          (λ fs u shut all. routed_drawn WritesAreOver (kinds_at u) (draw_sets schema names t.num sets (forgetting u)) _
          (closing_sets t.num sets (forgetting u) (record { few = shut.few; sources = shut.sources; olds = tt; facts = shut.facts; effects = shut.effects }))
          (λ ws z done q.
          let over : Closed (forgetting z) = record { few = done.few; sources = done.sources; olds = tt; facts = done.facts; effects = done.effects } in
          routed_declared (slice_get schema t.num) (forgetting z) _ over (λ d. routed_effect _ (forgetting z) (ordered_over (kinds_at z) d 0 d.columns ws q) over)))
      routed_command (Remove t key) k closed = routed_drawn AllOver (kinds_at k) (draw_terms schema names key k) _ (closing_terms key k closed) (λ v u shut p. routed_declared (slice_get schema t.num) u _ shut (λ d. routed_effect _ u (All-nil (WriteOver (kinds_at u))) shut))
      routed_command (Abort n) k closed = tt
      routed_command (Reply e) k closed = routed_drawn ValueIsOver (kinds_at k) (draw_term schema names 0 e k) _ (closing_term 0 e k closed) (λ v u shut p. shut)

      routed_block : (b : Block) (k : Sketch) → Closed k → Routed (draw_block schema names b k)
      routed_block Finish k closed = closed
      routed_block (Then c b) k closed = routed_then (draw_command schema names c k) (draw_block schema names b) (routed_command c k closed) (λ u shut. routed_block b u shut)

closed_end : (schema : List Declaration) (txn : Transaction) (body : Block) (choices : List Bool) (end : Sketch) → draw_unit schema txn body choices ≡ Leads end → Closed (2 * length choices) end
closed_end schema txn body choices end is =
    let budget : ℕ = 2 * length choices in
    let begin : Closed budget (first_sketch choices) = record { few = omega arith; sources = tt; olds = tt; facts = All-nil (IsFact 0); effects = All-nil (EffectOver []) } in
    subst (Routed budget schema (paths.names_of schema txn)) is (routed_block budget schema (paths.names_of schema txn) body (first_sketch choices) begin)

pub routes_are_closed : RoutesAreClosed
routes_are_closed schema txn body choices end is = record {
  facts = subst (λ n. AreFacts n end.drawing.facts) (length-map end.way.symbols plain) closed.facts;
  few = closed.few;
  effects = subst (λ n. EffectsName n end.drawing.effects) (length-map end.way.symbols plain) (effects_named (map plain end.way.symbols) end.drawing.effects closed.effects);
}
  where
    closed : Closed (2 * length choices) end
    closed = closed_end schema txn body choices end is

-- the symbols that effects name are integers or lists in forms, and texts where they stand for texts
pub effects_over : (schema : List Declaration) (txn : Transaction) (body : Block) (choices : List Bool) (end : Sketch) → draw_unit schema txn body choices ≡ Leads end → EffectsAreOver (map plain end.way.symbols) end.drawing.effects
effects_over schema txn body choices end is = (closed_end schema txn body choices end is).effects
