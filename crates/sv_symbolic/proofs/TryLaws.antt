-- Conditions: the choices are taken, and the facts hold.
use Rattle.std.proofs.Common.{◌≡◌, ℤ, ◌&&◌, ◌||◌, not, Bool, List, [], ◌∷◌, ◌++◌, None, refl, sym, ap, subst, ◌∙◌, append_assoc, append-nil, arith, int_lt}
use Rattle.std.specs.Ordering.{int_cmp, int_eq, is_eq, is_lt, is_gt}
use Rattle.std.proofs.lemmas.Int.{ints}
use Rattle.std.proofs.lemmas.List.Elements.{All-nil, All-append}
use Rattle.sv_value.specs.declared.values.Val.{Val}
use Rattle.sv_value.specs.Orders.{val_cmp}
use Rattle.sv_app.specs.declared.txns.Rel.{Rel}
use Rattle.sv_app.specs.declared.txns.Rel.TheVariants as rels
use Rattle.sv_app.specs.Scopes.{Scope}
use Rattle.sv_app.specs.Trees.{Term, Test, Compare, Negation, Both, Either}
use Rattle.sv_effect.specs.RunValues.{Progress, Scope as Values, with_progress, Gives, then_value, value_of, values_of, truth_of, compared, chosen, relates}
use Rattle.sv_trace.specs.Standing.{Frame, names_in, AllRead, TestReads, Sees}
use Rattle.sv_trace.proofs.TermLaws.{then_gives, same_value, same_scope, no_old, sees_alone, both_alone}
use Rattle.sv_linear.specs.Effects.{SymValue, TextIs, TextSymbol}
use Rattle.sv_linear.specs.Facts.{HoldsOn, facts_hold, facts_of}
use Rattle.sv_linear.specs.Forms.{value}
use Rattle.sv_symbolic.specs.Sketches.{Drawing, Sketch, Drawn, Draws, Tried, Tells, then_draws, then_tried, drawn_then, draw_term, draw_terms, draw_choice, draw_test}
use Rattle.sv_linear.specs.Effects as syms
use Rattle.sv_linear.specs.Laws.{compares}
use Rattle.sv_linear.proofs.FactLaws.{facts_say}
use Rattle.sv_symbolic.proofs.Relation.{Stands, Has, Agrees, sketch_at, Grows, Drew, StandAll, Later, Tries}
use Rattle.sv_symbolic.proofs.DrawLaws.{drew_none, drew_then, draws_term, has_grown, grows_then}

-- lists of expressions
all_stand : (vs tape : List Val) (f : SymValue) (v : Val) (fs : List SymValue) → Stands tape f v → StandAll vs tape fs → StandAll (v ∷ vs) tape (f ∷ fs)
all_stand vs tape f v fs p q = record { on = λ rest. λ i. p.on rest i ∷ q.on rest i }

pub draws_terms : (f : Frame) (at : Scope) (es : List Term) (s : Values) (d : Drawing) (vs : List Val) (z : Values) → at.updated ≡ None → Sees f at s → AllRead at es → Agrees ⊥ s d → values_of es s ≡ Gives vs z
    → Drew ⊥ (draw_terms f.schema (names_in f) es) (StandAll vs) s d z
draws_terms f at [] s d vs z outside sees reads agrees is = to_list
  where
    to_list : Drew ⊥ (λ k. Draws [] k) (StandAll vs) s d z
    to_list = subst (λ q. Drew ⊥ (λ k. Draws [] k) (StandAll vs) s d q) (same_scope [] vs s z is) (subst (λ q. Drew ⊥ (λ k. Draws [] k) (StandAll q) s d s) (same_value [] vs s z is) (drew_none ⊥ [] (StandAll []) s d (record { on = λ rest. refl }) agrees))
draws_terms f at (e ∷ es) s d vs z outside sees reads agrees is =
    let g = then_gives (value_of e s) (λ v u. then_value (values_of es u) (λ ws y. Gives (v ∷ ws) y)) vs z is in
    let h = then_gives (values_of es g.scope) (λ ws y. Gives (g.value ∷ ws) y) vs z g.last in
    let first = draws_term ⊥ f at 0 e s d g.value g.scope sees (no_old f at 0 s.old outside) (λ inside. inside outside) reads.0 agrees g.first in
    let rest = draws_terms f at es g.scope first.after h.value h.scope outside (sees_alone f at s g.scope sees first.grows.alone) reads.1 first.agrees h.first in
    let go : SymValue → List SymValue → Sketch → Drawn (List SymValue) = λ v fs. λ k. Draws (v ∷ fs) k in
    let says = all_stand h.value h.scope.progress.tape first.is g.value rest.is (has_grown g.scope h.scope first.is g.value rest.grows first.says) rest.says in
    let last = drew_none ⊥ (first.is ∷ rest.is) (StandAll (g.value ∷ h.value)) h.scope rest.after says rest.agrees in
    subst (λ q. Drew ⊥ (draw_terms f.schema (names_in f) (e ∷ es)) (StandAll vs) s d q) (same_scope (g.value ∷ h.value) vs h.scope z h.last)
    (subst (λ q. Drew ⊥ (draw_terms f.schema (names_in f) (e ∷ es)) (StandAll q) s d h.scope) (same_value (g.value ∷ h.value) vs h.scope z h.last)
    (drew_then ⊥ (draw_term f.schema (names_in f) 0 e) (λ v u. then_draws (draw_terms f.schema (names_in f) es u) (go v)) (Has g.value) (StandAll (g.value ∷ h.value)) s d g.scope h.scope first
    (drew_then ⊥ (draw_terms f.schema (names_in f) es) (go first.is) (StandAll h.value) (StandAll (g.value ∷ h.value)) g.scope first.after h.scope h.scope rest last)))

-- facts
is_level : (m n : ℤ) → is_eq (int_cmp m n) ≡ int_eq m n
is_level m n = grind (arith, ints)

is_below : (m n : ℤ) → is_lt (int_cmp m n) ≡ int_lt m n
is_below m n = grind (arith, ints)

is_above : (m n : ℤ) → is_gt (int_cmp m n) ≡ int_lt n m
is_above m n = grind (arith, ints)

compared_so : (r : Rel) (m n : ℤ) → compares r m n ≡ relates r (int_cmp m n)
compared_so rels.Eq m n = sym (is_level m n)
compared_so rels.Ne m n = ap not (sym (is_level m n))
compared_so rels.Lt m n = sym (is_below m n)
compared_so rels.Le m n = ap not (sym (is_above m n))
compared_so rels.Gt m n = sym (is_above m n)
compared_so rels.Ge m n = ap not (sym (is_below m n))

facts_on : (r : Rel) (v w : SymValue) (tape : List Val) → facts_hold tape (facts_of r (relates r (val_cmp (syms.value_of v tape) (syms.value_of w tape))) v w)
facts_on r (syms.Number f) (syms.Number g) tape = subst (λ h. facts_hold tape (facts_of r h (syms.Number f) (syms.Number g))) (compared_so r (value f tape) (value g tape)) (facts_say r f g tape)
facts_on r (syms.Number f) (TextIs t) tape = All-nil (HoldsOn tape)
facts_on r (syms.Number f) (TextSymbol n) tape = All-nil (HoldsOn tape)
facts_on r (TextIs t) w tape = All-nil (HoldsOn tape)
facts_on r (TextSymbol n) w tape = All-nil (HoldsOn tape)

facts_stand : (r : Rel) (v w : SymValue) (a b : Val) (tape rest : List Val) → Stands tape v a → Stands tape w b → facts_hold (tape ++ rest) (facts_of r (relates r (val_cmp a b)) v w)
facts_stand r v w a b tape rest p q =
    subst (λ x. facts_hold (tape ++ rest) (facts_of r (relates r (val_cmp x b)) v w)) (p.on rest)
    (subst (λ y. facts_hold (tape ++ rest) (facts_of r (relates r (val_cmp (syms.value_of v (tape ++ rest)) y)) v w)) (q.on rest) (facts_on r v w (tape ++ rest)))

-- progress
pub later_none : (p : Progress) → Later p p []
later_none p = record { unit = refl; number = refl; choices = sym (append-nil p.choices); more = []; tape = sym (append-nil p.tape) }

pub later_then : (p q r : Progress) (a b : List Bool) → Later p q a → Later q r b → Later p r (a ++ b)
later_then p q r a b x y = record {
  unit = y.unit ∙ x.unit;
  number = y.number ∙ x.number;
  choices = y.choices ∙ ap (λ l. l ++ b) x.choices ∙ append_assoc p.choices a b;
  more = x.more ++ y.more;
  tape = y.tape ∙ ap (λ l. l ++ y.more) x.tape ∙ append_assoc p.tape x.more y.more;
}

pub later_grown : (s z : Values) → Grows s z → Later s.progress z.progress []
later_grown s z g = record { unit = g.unit; number = g.number; choices = g.choices ∙ sym (append-nil s.progress.choices); more = g.more; tape = g.tape }

later_chosen : (h : Bool) (p : Progress) → Later p (chosen h p) (h ∷ [])
later_chosen h p = record { unit = refl; number = refl; choices = refl; more = []; tape = sym (append-nil p.tape) }

tries_to : (draw : Sketch → Tried) (h k : Bool) (s : Values) (d : Drawing) (y z : Values) → Gives h y ≡ Gives k z → Tries draw h s d y → Tries draw k s d z
tries_to draw h k s d y z is tries = subst (λ b. Tries draw b s d z) (same_value h k y z is) (subst (λ q. Tries draw h s d q) (same_scope h k y z is) tries)

tries_both : (f : Frame) (t q : Test) (go : Bool → Bool → Bool) (s : Values) (d : Drawing) (u y : Values) (h k : Bool) (first : Tries (draw_test f.schema (names_in f) t) h s d u)
    → Tries (draw_test f.schema (names_in f) q) k u first.after y → Tries (λ x. then_tried (draw_test f.schema (names_in f) t x) (λ a w. then_tried (draw_test f.schema (names_in f) q w) (λ b z. Tells (go a b) z))) (go h k) s d y
tries_both f t q go s d u y h k first second = record {
  grown = first.grown ++ second.grown;
  after = second.after;
  tells = λ left.
      ap (λ l. then_tried (draw_test f.schema (names_in f) t (sketch_at l s.progress d)) then_other) (append_assoc first.grown second.grown left)
      ∙ ap (λ x. then_tried x then_other) (first.tells (second.grown ++ left))
      ∙ ap (λ x. then_tried x (λ b z. Tells (go h b) z)) (second.tells left);
  agrees = second.agrees;
  alone = both_alone s u y first.alone second.alone;
  later = later_then s.progress u.progress y.progress first.grown second.grown first.later second.later;
  effects = second.effects ∙ first.effects;
}
  where
    then_other : Bool → Sketch → Tried
    then_other a w = then_tried (draw_test f.schema (names_in f) q w) (λ b z. Tells (go a b) z)

compare_tries : (a b : Sketch → Drawn SymValue) (r : Rel) (v w : Val) (s : Values) (d : Drawing) (u y : Values) (first : Drew ⊥ a (Has v) s d u) → Drew ⊥ b (Has w) u first.after y
    → Tries (λ k. drawn_then (a k) (λ m x. drawn_then (b x) (λ n z. draw_choice z.way.left r m n z))) (relates r (val_cmp v w)) s d (with_progress y (chosen (relates r (val_cmp v w)) y.progress))
compare_tries a b r v w s d u y first second = record {
  grown = h ∷ [];
  after = after;
  tells = λ left.
      ap (λ x. drawn_then x (λ m x. drawn_then (b x) (λ n z. draw_choice z.way.left r m n z))) (first.draws (h ∷ left))
      ∙ ap (λ x. drawn_then x (λ n z. draw_choice z.way.left r first.is n z)) (second.draws (h ∷ left));
  agrees = record {
    sources = second.agrees.sources;
    olds = λ i c known. absurd i;
    facts = λ rest. All-append (HoldsOn (y.progress.tape ++ rest)) second.after.facts (facts_of r h first.is second.is) (second.agrees.facts rest)
        (facts_stand r first.is second.is v w y.progress.tape rest (has_grown u y first.is v second.grows first.says) second.says);
  };
  alone = ap (λ x. with_progress x (chosen h y.progress)) (both_alone s u y first.grows.alone second.grows.alone);
  later = later_then s.progress y.progress (chosen h y.progress) [] (h ∷ []) (later_grown s y (grows_then s u y first.grows second.grows)) (later_chosen h y.progress);
  effects = second.effects ∙ first.effects;
}
  where
    h : Bool
    h = relates r (val_cmp v w)

    after : Drawing
    after = record second.after { facts = second.after.facts ++ facts_of r h first.is second.is }

pub tries : (f : Frame) (at : Scope) (t : Test) (s : Values) (d : Drawing) (h : Bool) (z : Values) → at.updated ≡ None → Sees f at s → TestReads at t → Agrees ⊥ s d → truth_of t s ≡ Gives h z → Tries (draw_test f.schema (names_in f) t) h s d z
tries f at (Compare a r b) s d h z outside sees reads agrees is =
    let g = then_gives (value_of a s) (λ v u. then_value (value_of b u) (compared r v)) h z is in
    let k = then_gives (value_of b g.scope) (compared r g.value) h z g.last in
    let first = draws_term ⊥ f at 0 a s d g.value g.scope sees (no_old f at 0 s.old outside) (λ inside. inside outside) reads.0 agrees g.first in
    let second = draws_term ⊥ f at 0 b g.scope first.after k.value k.scope (sees_alone f at s g.scope sees first.grows.alone) (no_old f at 0 g.scope.old outside) (λ inside. inside outside) reads.1 first.agrees k.first in
    let holds : Bool = relates r (val_cmp g.value k.value) in
    tries_to (draw_test f.schema (names_in f) (Compare a r b)) holds h s d (with_progress k.scope (chosen holds k.scope.progress)) z k.last
    (compare_tries (draw_term f.schema (names_in f) 0 a) (draw_term f.schema (names_in f) 0 b) r g.value k.value s d g.scope k.scope first second)
tries f at (Negation t) s d h z outside sees reads agrees is =
    let g = then_gives (truth_of t s) (λ k u. Gives (not k) u) h z is in
    let first = tries f at t s d g.value g.scope outside sees reads agrees g.first in
    tries_to (draw_test f.schema (names_in f) (Negation t)) (not g.value) h s d g.scope z g.last (record {
      grown = first.grown;
      after = first.after;
      tells = λ left. ap (λ x. then_tried x (λ k w. Tells (not k) w)) (first.tells left);
      agrees = first.agrees;
      alone = first.alone;
      later = first.later;
      effects = first.effects;
    })
tries f at (Both t q) s d h z outside sees reads agrees is =
    let g = then_gives (truth_of t s) (λ a u. then_value (truth_of q u) (λ b y. Gives (a && b) y)) h z is in
    let k = then_gives (truth_of q g.scope) (λ b y. Gives (g.value && b) y) h z g.last in
    let first = tries f at t s d g.value g.scope outside sees reads.0 agrees g.first in
    let second = tries f at q g.scope first.after k.value k.scope outside (sees_alone f at s g.scope sees first.alone) reads.1 first.agrees k.first in
    tries_to (draw_test f.schema (names_in f) (Both t q)) (g.value && k.value) h s d k.scope z k.last (tries_both f t q (λ a b. a && b) s d g.scope k.scope g.value k.value first second)
tries f at (Either t q) s d h z outside sees reads agrees is =
    let g = then_gives (truth_of t s) (λ a u. then_value (truth_of q u) (λ b y. Gives (a || b) y)) h z is in
    let k = then_gives (truth_of q g.scope) (λ b y. Gives (g.value || b) y) h z g.last in
    let first = tries f at t s d g.value g.scope outside sees reads.0 agrees g.first in
    let second = tries f at q g.scope first.after k.value k.scope outside (sees_alone f at s g.scope sees first.alone) reads.1 first.agrees k.first in
    tries_to (draw_test f.schema (names_in f) (Either t q)) (g.value || k.value) h s d k.scope z k.last (tries_both f t q (λ a b. a || b) s d g.scope k.scope g.value k.value first second)
