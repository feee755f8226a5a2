-- Expressions: what is drawn has the value of the run.
use Rattle.std.proofs.Common.{◌≡◌, ℕ, suc, ℤ, pos, ◌+ℤ◌, ◌-ℤ◌, ◌*ℤ◌, neg_ℤ, ◌==◌, ◌&&◌, ◌||◌, not, if◌then◌else◌, Bool, true, false, List, [], ◌∷◌, ◌++◌, length, Option, Some, None, slice_get, unwrap_or, refl, sym, ap, subst, ◌∙◌, append_assoc, append-nil, arith, int_le}
use Rattle.std.specs.List.{list_any}
use Rattle.std.proofs.lemmas.Int.{ints}
use Rattle.std.proofs.lemmas.List.{length-map}
use Rattle.std.proofs.Math.IntN.{*ℤ_comm}
use Rattle.sv_value.specs.declared.values.Val.{Val}
use Rattle.sv_value.specs.declared.values.Val.TheVariants.{Int, Text as IsText}
use Rattle.sv_app.specs.declared.gots.Got.{Got}
use Rattle.sv_app.specs.declared.instances.Source.{Source}
use Rattle.sv_app.specs.declared.instances.Source.TheVariants as sources
use Rattle.sv_app.specs.declared.schemas.Ty.{Ty}
use Rattle.sv_app.specs.declared.schemas.Ty.TheVariants as types
use Rattle.sv_app.specs.Paths.{column_type, columns_at}
use Rattle.sv_app.specs.Scopes.{Scope}
use Rattle.sv_app.specs.Slots.{item}
use Rattle.sv_app.specs.Symbols.{is_same_source, is_known, is_factor}
use Rattle.sv_app.specs.Trees.{Term, Number, Words, Variable, Field, Old, Minus, Sum, Difference, Product}
use Rattle.sv_effect.specs.RunValues.{nothing, Progress, Scope as Values, with_progress, narrow, Gives, then_value, integer, val_of, column, as_read, negated, added, subtracted, multiplied, value_of, put, brought, brought_old}
use Rattle.sv_app.proofs.TestLaws.{test_same}
use Rattle.sv_trace.specs.Standing.{Frame, names_in, type_of_val, type_of_got, types_at, Reads, Sees}
use Rattle.sv_trace.proofs.TermLaws.{then_gives, same_value, same_scope, symbols_more, OldIs, sees_alone, type_at, type_of_column, read_type}
use Rattle.sv_app.specs.Fitting.{number_in}
use Rattle.sv_linear.specs.Forms.{Form, symbol_at, number_at, value, number, symbol, add, sub, minus, scale}
use Rattle.sv_linear.specs.Effects.{SymValue, TextIs, TextSymbol, linear, symbol_of}
use Rattle.sv_bounds.specs.declared.systems.Diff.{Diff}
use Rattle.sv_linear.specs.Facts.{facts_hold}
use Rattle.sv_symbolic.specs.Sketches.{Drawing, Sketch, Drawn, Draws, then_draws, form_of, old_of, with_source, with_old, noting, draw_source, draw_old, draw_symbol, draw_form, scaled, draw_product, draw_term}
use Rattle.sv_linear.specs.Effects as syms
use Rattle.sv_linear.specs.Forms as forms
use Rattle.sv_linear.proofs.FormLaws.{add_value, sub_value, minus_value, scale_value}
use Rattle.sv_symbolic.proofs.Relation.{Stands, Has, val_in, read_in, is_known_old, Agrees, sketch_at, Grows, Drew}

pub stands_more : (tape more all : List Val) (f : SymValue) (v : Val) → all ≡ tape ++ more → Stands tape f v → Stands all f v
stands_more tape more all f v e s = record { on = λ rest. ap (λ l. syms.value_of f (l ++ rest)) e ∙ ap (syms.value_of f) (append_assoc tape more rest) ∙ s.on (more ++ rest) }

pub facts_more : (tape more all rest : List Val) (facts : List Diff) → all ≡ tape ++ more → ((r : List Val) → facts_hold (tape ++ r) facts) → facts_hold (all ++ rest) facts
facts_more tape more all rest facts e holds = subst (λ l. facts_hold l facts) (sym (ap (λ l. l ++ rest) e ∙ append_assoc tape more rest)) (holds (more ++ rest))

pub grows_none : (s : Values) → Grows s s
grows_none s = record { alone = refl; unit = refl; number = refl; choices = refl; more = []; tape = sym (append-nil s.progress.tape) }

pub grows_then : (s u z : Values) → Grows s u → Grows u z → Grows s z
grows_then s u z p q = record {
  alone = q.alone ∙ ap (λ x. with_progress x z.progress) p.alone;
  unit = q.unit ∙ p.unit;
  number = q.number ∙ p.number;
  choices = q.choices ∙ p.choices;
  more = p.more ++ q.more;
  tape = q.tape ∙ ap (λ l. l ++ q.more) p.tape ∙ append_assoc s.progress.tape p.more q.more;
}

pub has_grown : (s z : Values) (f : SymValue) (v : Val) → Grows s z → Stands s.progress.tape f v → Stands z.progress.tape f v
has_grown s z f v grows stands = stands_more s.progress.tape grows.more z.progress.tape f v grows.tape stands

item_end : (tape rest : List Val) (w d : Val) → item d ((tape ++ w ∷ []) ++ rest) (length tape) ≡ w
item_end [] rest w d = refl
item_end (x ∷ tape) rest w d = item_end tape rest w d

symbol_stands : (ty : Ty) (w : Val) (tape : List Val) → type_of_val w ≡ ty → Stands (tape ++ w ∷ []) (symbol_of ty (suc (length tape))) w
symbol_stands types.Int (Int n) tape e = record { on = λ rest. ap (λ v. Int (pos 0 +ℤ ((pos 1 *ℤ number_in v) +ℤ pos 0))) (item_end tape rest (Int n) (Int (pos 0))) ∙ ap (λ m. Int m) (once n) }
  where
    once : (x : ℤ) → pos 0 +ℤ ((pos 1 *ℤ x) +ℤ pos 0) ≡ x
    once x = omega (arith, ints)
symbol_stands types.Int (IsText t) tape e = absurd (let bad : types.Text ≡ types.Int = e in cc)
symbol_stands types.Text (Int n) tape e = absurd (let bad : types.Int ≡ types.Text = e in cc)
symbol_stands types.Text (IsText t) tape e = record { on = λ rest. ap (λ v. IsText (syms.text_in v)) (item_end tape rest (IsText t) (Int (pos 0))) }
symbol_stands types.Ints (Int n) tape e = absurd (let bad : types.Int ≡ types.Ints = e in cc)
symbol_stands types.Ints (IsText t) tape e = absurd (let bad : types.Text ≡ types.Ints = e in cc)

grows_put : (s : Values) (p : Progress) (w : Val) → p.unit ≡ s.progress.unit → p.number ≡ s.progress.number → p.choices ≡ s.progress.choices → p.tape ≡ s.progress.tape ++ w ∷ [] → Grows s (with_progress s p)
grows_put s p w unit number choices tape = record { alone = refl; unit = unit; number = number; choices = choices; more = w ∷ []; tape = tape }

pub same_source : (p q : Source) → is_same_source p q ≡ true → p ≡ q
same_source (sources.Variable x) (sources.Variable y) e = ap (λ n. sources.Variable n) (test_same x y e)
same_source (sources.Variable x) (sources.Column q c) e = absurd cc
same_source (sources.Column r c) (sources.Variable y) e = absurd cc
same_source (sources.Column r c) (sources.Column q b) e = both (r == q) refl e
  where
    both : (x : Bool) → (r == q) ≡ x → (x && (c == b)) ≡ true → sources.Column r c ≡ sources.Column q b
    both true f g = λ i. sources.Column (test_same r q f i) (test_same c b g i)
    both false f g = absurd cc

pub known_end : {A : Type 0} (test : A → Bool) (known : List A) (x : A) → test x ≡ false → list_any test (known ++ x ∷ []) ≡ true → list_any test known ≡ true
known_end test [] x e is = e2 (test x) e is
  where
    e2 : (b : Bool) → b ≡ false → (b || false) ≡ true → false ≡ true
    e2 true f g = sym f
    e2 false f g = g
known_end test (y ∷ known) x e is = by_test (test y) (known_end test known x e) is
  where
    by_test : (b : Bool) → (list_any test (known ++ x ∷ []) ≡ true → list_any test known ≡ true) → (b || list_any test (known ++ x ∷ [])) ≡ true → (b || list_any test known) ≡ true
    by_test true ih f = refl
    by_test false ih f = ih f

pub linear_stands : (tape rest : List Val) (f : SymValue) (v : Val) → Stands tape f v → value (linear f) (tape ++ rest) ≡ number_in v
linear_stands tape rest (syms.Number g) v s = ap number_in (s.on rest)
linear_stands tape rest (TextIs t) v s = ap number_in (s.on rest)
linear_stands tape rest (TextSymbol n) v s = ap number_in (s.on rest)

pub integer_is : (n : ℤ) (s : Values) (v : Val) (z : Values) → integer (narrow n) s ≡ Gives v z → Gives (Int n) s ≡ Gives v z
integer_is n s v z is = by_test (int_le (neg_ℤ (pos 9223372036854775808)) n && int_le n (pos 9223372036854775807)) is
  where
    by_test : (b : Bool) → integer (if b then Some n else None) s ≡ Gives v z → Gives (Int n) s ≡ Gives v z
    by_test true e = e
    by_test false e = absurd cc

same_drawn : {A : Type 0} (a b : A) (k l : Sketch) → Draws a k ≡ Draws b l → a ≡ b
same_drawn a b k l e = cc

factor_plain : (f : Frame) (table : ℕ) (e : Term) (k : Sketch) (v : SymValue) (l : Sketch) → is_factor e ≡ true → draw_term f.schema (names_in f) table e k ≡ Draws v l → (linear v).terms ≡ []
factor_plain f table (Number n at) k v l is e = ap (λ x. (linear x).terms) (sym (same_drawn (syms.Number (number n)) v k l e))
factor_plain f table (Minus (Number n at') at) k v l is e = ap (λ x. (linear x).terms) (sym (same_drawn (syms.Number (minus (number n))) v _ l e))
factor_plain f table (Minus (Words t at') at) k v l is e = absurd cc
factor_plain f table (Minus (Variable x at') at) k v l is e = absurd cc
factor_plain f table (Minus (Field r c at') at) k v l is e = absurd cc
factor_plain f table (Minus (Old c at') at) k v l is e = absurd cc
factor_plain f table (Minus (Minus a at') at) k v l is e = absurd cc
factor_plain f table (Minus (Sum a b at') at) k v l is e = absurd cc
factor_plain f table (Minus (Difference a b at') at) k v l is e = absurd cc
factor_plain f table (Minus (Product a b at') at) k v l is e = absurd cc
factor_plain f table (Words t at) k v l is e = absurd cc
factor_plain f table (Variable x at) k v l is e = absurd cc
factor_plain f table (Field r c at) k v l is e = absurd cc
factor_plain f table (Old c at) k v l is e = absurd cc
factor_plain f table (Sum a b at) k v l is e = absurd cc
factor_plain f table (Difference a b at) k v l is e = absurd cc
factor_plain f table (Product a b at) k v l is e = absurd cc

plain_value : (f : Form) (tape : List Val) → f.terms ≡ [] → value f tape ≡ f.plus
plain_value f tape e = ap (λ ts. f.plus +ℤ forms.terms_value ts tape) e ∙ none f.plus
  where
    none : (n : ℤ) → n +ℤ pos 0 ≡ n
    none n = omega (arith, ints)

scaled_left : (f g : Form) (m n : ℤ) (tape : List Val) → f.terms ≡ [] → value f tape ≡ m → value g tape ≡ n → value (scaled true f g) tape ≡ m *ℤ n
scaled_left f g m n tape plain p q =
    let plus : f.plus ≡ m = sym (plain_value f tape plain) ∙ p in
    scale_value f.plus g tape ∙ (λ i. plus i *ℤ q i)

scaled_right : (f g : Form) (m n : ℤ) (tape : List Val) → g.terms ≡ [] → value f tape ≡ m → value g tape ≡ n → value (scaled false f g) tape ≡ m *ℤ n
scaled_right f g m n tape plain p q =
    let plus : g.plus ≡ n = sym (plain_value g tape plain) ∙ q in
    scale_value g.plus f tape ∙ (λ i. plus i *ℤ p i) ∙ *ℤ_comm n m

module _ (inside : Type 0) where
  -- the same is known on a longer tape
  pub agrees_longer : (s : Values) (p : Progress) (d : Drawing) (more : List Val) → p.tape ≡ s.progress.tape ++ more → p.known ≡ s.progress.known → p.known_old ≡ s.progress.known_old → Agrees inside s d → Agrees inside (with_progress s p) d
  agrees_longer s p d more tape known old agrees = record {
    sources = λ q is. stands_more s.progress.tape more p.tape (form_of d.sources q) (read_in q s.values s.rows) tape (agrees.sources q (ap (is_known q) (sym known) ∙ is));
    olds = λ i c is. stands_more s.progress.tape more p.tape (old_of d.olds c) (val_in (column s.old c)) tape (agrees.olds i c (ap (is_known_old c) (sym old) ∙ is));
    facts = λ rest. facts_more s.progress.tape more p.tape rest d.facts tape agrees.facts;
  }

  pub drew_then : {A B : Type 0} (a : Sketch → Drawn A) (b : A → Sketch → Drawn B) (P : List Val → A → Type 0) (Q : List Val → B → Type 0) (s : Values) (d : Drawing) (u z : Values) (first : Drew inside a P s d u)
      → Drew inside (b first.is) Q u first.after z → Drew inside (λ k. then_draws (a k) b) Q s d z
  drew_then a b P Q s d u z first second = record {
    is = second.is;
    after = second.after;
    draws = λ left. ap (λ x. then_draws x b) (first.draws left) ∙ second.draws left;
    says = second.says;
    agrees = second.agrees;
    grows = grows_then s u z first.grows second.grows;
    effects = second.effects ∙ first.effects;
  }

  pub drew_none : {A : Type 0} (x : A) (P : List Val → A → Type 0) (s : Values) (d : Drawing) → P s.progress.tape x → Agrees inside s d → Drew inside (λ k. Draws x k) P s d s
  drew_none x P s d says agrees = record { is = x; after = d; draws = λ left. refl; says = says; agrees = agrees; grows = grows_none s; effects = refl }

  pub drew_to : {A : Type 0} (draw : Sketch → Drawn A) (v w : Val) (P : Val → List Val → A → Type 0) (s : Values) (d : Drawing) (y z : Values) → Gives v y ≡ Gives w z → Drew inside draw (P v) s d y → Drew inside draw (P w) s d z
  drew_to draw v w P s d y z is drew = subst (λ q. Drew inside draw (P w) s d q) (same_scope v w y z is) (subst (λ q. Drew inside draw (P q) s d y) (same_value v w y z is) drew)

  -- symbols
  pub drew_symbol : (ty : Ty) (w : Val) (s : Values) (d : Drawing) → type_of_val w ≡ ty → Agrees inside s d → Drew inside (draw_symbol ty) (Has w) s d (with_progress s (put w s.progress))
  drew_symbol ty w s d e agrees = record {
    is = symbol_of ty (suc (length s.progress.tape));
    after = d;
    draws = λ left. λ i. Draws (symbol_of ty (suc (length-map s.progress.tape type_of_val i))) (record {
      way = record { left = left; known = s.progress.known; known_old = s.progress.known_old; symbols = symbols_more s.progress.tape w ty e i };
      drawing = d;
    });
    says = symbol_stands ty w s.progress.tape e;
    agrees = agrees_longer s (put w s.progress) d (w ∷ []) refl refl refl agrees;
    grows = grows_put s (put w s.progress) w refl refl refl refl;
    effects = refl;
  }

  pub drew_source : (q : Source) (ty : Ty) (w : Val) (s : Values) (d : Drawing) → type_of_val w ≡ ty → read_in q s.values s.rows ≡ w → Agrees inside s d → Drew inside (draw_source q ty) (Has w) s d (with_progress s (brought q w s.progress))
  drew_source q ty w s d e reads agrees = by_test (is_known q s.progress.known) refl
    where
      more : Progress
      more = put w (record s.progress { known = s.progress.known ++ q ∷ [] })

      f : SymValue
      f = symbol_of ty (suc (length s.progress.tape))

      known_source : (p : Source) (b : Bool) → is_same_source p q ≡ b → is_known p (s.progress.known ++ q ∷ []) ≡ true → Stands (s.progress.tape ++ w ∷ []) (if b then f else form_of d.sources p) (read_in p s.values s.rows)
      known_source p true same is = subst (λ v. Stands (s.progress.tape ++ w ∷ []) f v) (sym (ap (λ x. read_in x s.values s.rows) (same_source p q same) ∙ reads)) (symbol_stands ty w s.progress.tape e)
      known_source p false other is = stands_more s.progress.tape (w ∷ []) (s.progress.tape ++ w ∷ []) (form_of d.sources p) (read_in p s.values s.rows) refl (agrees.sources p (known_end (is_same_source p) s.progress.known q other is))

      by_test : (b : Bool) → is_known q s.progress.known ≡ b → Drew inside (draw_source q ty) (Has w) s d (with_progress s (if b then s.progress else more))
      by_test true is = record {
        is = form_of d.sources q;
        after = d;
        draws = λ left. rw (is) refl;
        says = subst (λ v. Stands s.progress.tape (form_of d.sources q) v) reads (agrees.sources q is);
        agrees = agrees;
        grows = grows_none s;
        effects = refl;
      }
      by_test false is = record {
        is = f;
        after = with_source q f d;
        draws = λ left. rw (is) (λ i. Draws (symbol_of ty (suc (length-map s.progress.tape type_of_val i))) (record {
          way = record { left = left; known = s.progress.known ++ q ∷ []; known_old = s.progress.known_old; symbols = symbols_more s.progress.tape w ty e i };
          drawing = with_source q (symbol_of ty (suc (length-map s.progress.tape type_of_val i))) d;
        }));
        says = symbol_stands ty w s.progress.tape e;
        agrees = record {
          sources = λ p known. known_source p (is_same_source p q) refl known;
          olds = λ i c known. stands_more s.progress.tape (w ∷ []) more.tape (old_of d.olds c) (val_in (column s.old c)) refl (agrees.olds i c known);
          facts = λ rest. facts_more s.progress.tape (w ∷ []) more.tape rest d.facts refl agrees.facts;
        };
        grows = grows_put s more w refl refl refl refl;
        effects = refl;
      }

  pub drew_old : inside → (c : ℕ) (ty : Ty) (w : Val) (s : Values) (d : Drawing) → type_of_val w ≡ ty → val_in (column s.old c) ≡ w → Agrees inside s d → Drew inside (draw_old c ty) (Has w) s d (with_progress s (brought_old c w s.progress))
  drew_old now c ty w s d e reads agrees = by_test (is_known_old c s.progress.known_old) refl
    where
      more : Progress
      more = put w (record s.progress { known_old = s.progress.known_old ++ c ∷ [] })

      f : SymValue
      f = symbol_of ty (suc (length s.progress.tape))

      known_old : inside → (p : ℕ) (b : Bool) → (p == c) ≡ b → is_known_old p (s.progress.known_old ++ c ∷ []) ≡ true → Stands (s.progress.tape ++ w ∷ []) (if b then f else old_of d.olds p) (val_in (column s.old p))
      known_old i p true same is = subst (λ v. Stands (s.progress.tape ++ w ∷ []) f v) (sym (ap (λ x. val_in (column s.old x)) (test_same p c same) ∙ reads)) (symbol_stands ty w s.progress.tape e)
      known_old i p false other is = stands_more s.progress.tape (w ∷ []) (s.progress.tape ++ w ∷ []) (old_of d.olds p) (val_in (column s.old p)) refl (agrees.olds i p (known_end (λ x. p == x) s.progress.known_old c other is))

      by_test : (b : Bool) → is_known_old c s.progress.known_old ≡ b → Drew inside (draw_old c ty) (Has w) s d (with_progress s (if b then s.progress else more))
      by_test true is = record {
        is = old_of d.olds c;
        after = d;
        draws = λ left. rw (is) refl;
        says = subst (λ v. Stands s.progress.tape (old_of d.olds c) v) reads (agrees.olds now c is);
        agrees = agrees;
        grows = grows_none s;
        effects = refl;
      }
      by_test false is = record {
        is = f;
        after = with_old c f d;
        draws = λ left. rw (is) (λ i. Draws (symbol_of ty (suc (length-map s.progress.tape type_of_val i))) (record {
          way = record { left = left; known = s.progress.known; known_old = s.progress.known_old ++ c ∷ []; symbols = symbols_more s.progress.tape w ty e i };
          drawing = with_old c (symbol_of ty (suc (length-map s.progress.tape type_of_val i))) d;
        }));
        says = symbol_stands ty w s.progress.tape e;
        agrees = record {
          sources = λ p known. stands_more s.progress.tape (w ∷ []) more.tape (form_of d.sources p) (read_in p s.values s.rows) refl (agrees.sources p known);
          olds = λ i p known. known_old i p (p == c) refl known;
          facts = λ rest. facts_more s.progress.tape (w ∷ []) more.tape rest d.facts refl agrees.facts;
        };
        grows = grows_put s more w refl refl refl refl;
        effects = refl;
      }

  -- forms
  agrees_noting : (s : Values) (d : Drawing) (f : Form) → Agrees inside s d → Agrees inside s (noting f d)
  agrees_noting s d f a = record { sources = a.sources; olds = a.olds; facts = a.facts }

  pub drew_form : (F : Form) (n : ℤ) (s : Values) (d : Drawing) → ((rest : List Val) → value F (s.progress.tape ++ rest) ≡ n) → Agrees inside s d → Drew inside (draw_form F) (Has (Int n)) s d s
  drew_form F n s d says agrees = record {
    is = syms.Number F;
    after = noting F d;
    draws = λ left. refl;
    says = record { on = λ rest. ap (λ m. Int m) (says rest) };
    agrees = agrees_noting s d F agrees;
    grows = grows_none s;
    effects = refl;
  }

  -- a side that is a number or a negated number has no symbols
  drew_product : (a b : Bool) (v w : SymValue) (m n : Val) (s : Values) (d : Drawing) (x : Val) (z : Values) → Stands s.progress.tape v m → Stands s.progress.tape w n → (a ≡ true → (linear v).terms ≡ []) → (b ≡ true → (linear w).terms ≡ [])
      → Agrees inside s d → multiplied (not (a || b)) m n s ≡ Gives x z → Drew inside (draw_product a b v w) (Has x) s d z
  drew_product true b v w m n s d x z p q left right agrees is =
      let whole : ℤ = number_in m *ℤ number_in n in
      let g = then_gives (integer (narrow whole) s) (λ u y. Gives u y) x z is in
      drew_to (draw_form (scaled true (linear v) (linear w))) (Int whole) x Has s d s z (integer_is whole s g.value g.scope g.first ∙ g.last)
      (drew_form (scaled true (linear v) (linear w)) whole s d
      (λ rest. scaled_left (linear v) (linear w) (number_in m) (number_in n) (s.progress.tape ++ rest) (left refl) (linear_stands s.progress.tape rest v m p) (linear_stands s.progress.tape rest w n q)) agrees)
  drew_product false true v w m n s d x z p q left right agrees is =
      let whole : ℤ = number_in m *ℤ number_in n in
      let g = then_gives (integer (narrow whole) s) (λ u y. Gives u y) x z is in
      drew_to (draw_form (scaled false (linear v) (linear w))) (Int whole) x Has s d s z (integer_is whole s g.value g.scope g.first ∙ g.last)
      (drew_form (scaled false (linear v) (linear w)) whole s d
      (λ rest. scaled_right (linear v) (linear w) (number_in m) (number_in n) (s.progress.tape ++ rest) (right refl) (linear_stands s.progress.tape rest v m p) (linear_stands s.progress.tape rest w n q)) agrees)
  drew_product false false v w m n s d x z p q left right agrees is =
      let whole : ℤ = number_in m *ℤ number_in n in
      let g = then_gives (integer (narrow whole) s) (λ u y. Gives u (with_progress y (put u y.progress))) x z is in
      let same : Gives (Int whole) s ≡ Gives g.value g.scope = integer_is whole s g.value g.scope g.first in
      let after : Values = with_progress s (put (Int whole) s.progress) in
      let last : Gives (Int whole) after ≡ Gives x z = (λ i. Gives (same_value (Int whole) g.value s g.scope same i) (with_progress (same_scope (Int whole) g.value s g.scope same i) (put (same_value (Int whole) g.value s g.scope same i) (same_scope (Int whole) g.value s g.scope same i).progress))) ∙ g.last in
      drew_to (draw_symbol types.Int) (Int whole) x Has s d after z last (drew_symbol types.Int (Int whole) s d refl agrees)

  drew_read : (f : Frame) (table : ℕ) (e : Term) (got : Got) (after : Val → Progress) (s : Values) (d : Drawing) (v : Val) (z : Values)
      → ((w : Val) → val_in got ≡ w → type_of_val w ≡ type_of_got got → Drew inside (draw_term f.schema (names_in f) table e) (Has w) s d (with_progress s (after w))) → as_read (val_of got) after s ≡ Gives v z
      → Drew inside (draw_term f.schema (names_in f) table e) (Has v) s d z
  drew_read f table e got after s d v z drew is = by_value (val_of got) refl is
    where
      by_value : (o : Option Val) → val_of got ≡ o → as_read o after s ≡ Gives v z → Drew inside (draw_term f.schema (names_in f) table e) (Has v) s d z
      by_value None found is = absurd cc
      by_value (Some w) found is = drew_to (draw_term f.schema (names_in f) table e) w v Has s d (with_progress s (after w)) z is (drew w (ap (λ o. unwrap_or o nothing) found) (read_type got w found))

  pub draws_term : (f : Frame) (at : Scope) (table : ℕ) (e : Term) (s : Values) (d : Drawing) (v : Val) (z : Values) → Sees f at s → OldIs f at table s.old → ((at.updated ≡ None → ⊥) → inside) → Reads at e → Agrees inside s d → value_of e s ≡ Gives v z
      → Drew inside (draw_term f.schema (names_in f) table e) (Has v) s d z
  draws_term f at table (Number n spot) s d v z sees old now reads agrees is =
      drew_to (λ k. Draws (syms.Number (number n)) k) (Int n) v Has s d s z is (drew_none (syms.Number (number n)) (Has (Int n)) s d (record { on = λ rest. ap (λ m. Int m) (plain_value (number n) (s.progress.tape ++ rest) refl) }) agrees)
  draws_term f at table (Words t spot) s d v z sees old now reads agrees is =
      drew_to (λ k. Draws (TextIs t) k) (IsText t) v Has s d s z is (drew_none (TextIs t) (Has (IsText t)) s d (record { on = λ rest. refl }) agrees)
  draws_term f at table (Variable x spot) s d v z sees old now reads agrees is =
      let w : Val = item nothing s.values x.num in
      let ty : Ty = item types.Int (names_in f).types x.num in
      drew_to (draw_source (sources.Variable x.num) ty) w v Has s d (with_progress s (brought (sources.Variable x.num) w s.progress)) z is (drew_source (sources.Variable x.num) ty w s d (sees.values x.num reads) refl agrees)
  draws_term f at table (Field r c spot) s d v z sees old now reads agrees is =
      let t : ℕ = item 0 (names_in f).tables r.num in
      let row : List Got = item [] s.rows r.num in
      let of_column : type_of_got (column row c.num) ≡ column_type f.schema t c.num = type_at (types_at f.schema t) row c.num (sees.rows r.num reads) ∙ type_of_column (columns_at (slice_get f.schema t)) c.num in
      drew_read f table (Field r c spot) (column row c.num) (λ w. brought (sources.Column r.num c.num) w s.progress) s d v z
      (λ w same of_got. drew_source (sources.Column r.num c.num) (column_type f.schema t c.num) w s d (of_got ∙ of_column) same agrees) is
  draws_term f at table (Old c spot) s d v z sees old now reads agrees is =
      let of_column : type_of_got (column s.old c.num) ≡ column_type f.schema table c.num = type_at (types_at f.schema table) s.old c.num (old reads) ∙ type_of_column (columns_at (slice_get f.schema table)) c.num in
      drew_read f table (Old c spot) (column s.old c.num) (λ w. brought_old c.num w s.progress) s d v z
      (λ w same of_got. drew_old (now reads) c.num (column_type f.schema table c.num) w s d (of_got ∙ of_column) same agrees) is
  draws_term f at table (Minus a spot) s d v z sees old now reads agrees is =
      let g = then_gives (value_of a s) negated v z is in
      let first = draws_term f at table a s d g.value g.scope sees old now reads agrees g.first in
      let n : ℤ = neg_ℤ (number_in g.value) in
      let go : SymValue → Sketch → Drawn SymValue = λ u. draw_form (minus (linear u)) in
      drew_then (draw_term f.schema (names_in f) table a) go (Has g.value) (Has v) s d g.scope z first
      (drew_to (go first.is) (Int n) v Has g.scope first.after g.scope z (integer_is n g.scope v z g.last)
      (drew_form (minus (linear first.is)) n g.scope first.after (λ rest. minus_value (linear first.is) (g.scope.progress.tape ++ rest) ∙ ap neg_ℤ (linear_stands g.scope.progress.tape rest first.is g.value first.says)) first.agrees))
  draws_term f at table (Sum a b spot) s d v z sees old now reads agrees is =
      let g = then_gives (value_of a s) (λ w u. then_value (value_of b u) (added w)) v z is in
      let h = then_gives (value_of b g.scope) (added g.value) v z g.last in
      let first = draws_term f at table a s d g.value g.scope sees old now reads.0 agrees g.first in
      let second = draws_term f at table b g.scope first.after h.value h.scope (sees_alone f at s g.scope sees first.grows.alone) (subst (λ (q : Values). OldIs f at table q.old) (sym first.grows.alone) old) now reads.1 first.agrees h.first in
      let n : ℤ = number_in g.value +ℤ number_in h.value in
      let go : SymValue → SymValue → Sketch → Drawn SymValue = λ u w. draw_form (add (linear u) (linear w)) in
      let left = has_grown g.scope h.scope first.is g.value second.grows first.says in
      drew_then (draw_term f.schema (names_in f) table a) (λ u y. then_draws (draw_term f.schema (names_in f) table b y) (go u)) (Has g.value) (Has v) s d g.scope z first
      (drew_then (draw_term f.schema (names_in f) table b) (go first.is) (Has h.value) (Has v) g.scope first.after h.scope z second
      (drew_to (go first.is second.is) (Int n) v Has h.scope second.after h.scope z (integer_is n h.scope v z h.last)
      (drew_form (add (linear first.is) (linear second.is)) n h.scope second.after
      (λ rest. add_value (linear first.is) (linear second.is) (h.scope.progress.tape ++ rest) ∙ (λ i. linear_stands h.scope.progress.tape rest first.is g.value left i +ℤ linear_stands h.scope.progress.tape rest second.is h.value second.says i)) second.agrees)))
  draws_term f at table (Difference a b spot) s d v z sees old now reads agrees is =
      let g = then_gives (value_of a s) (λ w u. then_value (value_of b u) (subtracted w)) v z is in
      let h = then_gives (value_of b g.scope) (subtracted g.value) v z g.last in
      let first = draws_term f at table a s d g.value g.scope sees old now reads.0 agrees g.first in
      let second = draws_term f at table b g.scope first.after h.value h.scope (sees_alone f at s g.scope sees first.grows.alone) (subst (λ (q : Values). OldIs f at table q.old) (sym first.grows.alone) old) now reads.1 first.agrees h.first in
      let n : ℤ = number_in g.value -ℤ number_in h.value in
      let go : SymValue → SymValue → Sketch → Drawn SymValue = λ u w. draw_form (sub (linear u) (linear w)) in
      let left = has_grown g.scope h.scope first.is g.value second.grows first.says in
      drew_then (draw_term f.schema (names_in f) table a) (λ u y. then_draws (draw_term f.schema (names_in f) table b y) (go u)) (Has g.value) (Has v) s d g.scope z first
      (drew_then (draw_term f.schema (names_in f) table b) (go first.is) (Has h.value) (Has v) g.scope first.after h.scope z second
      (drew_to (go first.is second.is) (Int n) v Has h.scope second.after h.scope z (integer_is n h.scope v z h.last)
      (drew_form (sub (linear first.is) (linear second.is)) n h.scope second.after
      (λ rest. sub_value (linear first.is) (linear second.is) (h.scope.progress.tape ++ rest) ∙ (λ i. linear_stands h.scope.progress.tape rest first.is g.value left i -ℤ linear_stands h.scope.progress.tape rest second.is h.value second.says i)) second.agrees)))
  draws_term f at table (Product a b spot) s d v z sees old now reads agrees is =
      let go : SymValue → SymValue → Sketch → Drawn SymValue = draw_product (is_factor a) (is_factor b) in
      let g = then_gives (value_of a s) (λ w u. then_value (value_of b u) (multiplied (not (is_factor a || is_factor b)) w)) v z is in
      let h = then_gives (value_of b g.scope) (multiplied (not (is_factor a || is_factor b)) g.value) v z g.last in
      let first = draws_term f at table a s d g.value g.scope sees old now reads.0 agrees g.first in
      let second = draws_term f at table b g.scope first.after h.value h.scope (sees_alone f at s g.scope sees first.grows.alone) (subst (λ (q : Values). OldIs f at table q.old) (sym first.grows.alone) old) now reads.1 first.agrees h.first in
      let left = has_grown g.scope h.scope first.is g.value second.grows first.says in
      drew_then (draw_term f.schema (names_in f) table a) (λ u y. then_draws (draw_term f.schema (names_in f) table b y) (go u)) (Has g.value) (Has v) s d g.scope z first
      (drew_then (draw_term f.schema (names_in f) table b) (go first.is) (Has h.value) (Has v) g.scope first.after h.scope z second
      (drew_product (is_factor a) (is_factor b) first.is second.is g.value h.value h.scope second.after v z left second.says
      (λ plain. factor_plain f table a (sketch_at [] s.progress d) first.is (sketch_at [] g.scope.progress first.after) plain (first.draws []))
      (λ plain. factor_plain f table b (sketch_at [] g.scope.progress first.after) second.is (sketch_at [] h.scope.progress second.after) plain (second.draws [])) second.agrees h.last))
