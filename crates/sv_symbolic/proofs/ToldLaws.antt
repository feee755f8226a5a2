-- What a walk draws, one part after the other.
use Rattle.std.proofs.Common.{◌≡◌, ◌∙◌, ◌≤◌, ◌-◌, ℕ, suc, take, drop, get_or, arith, pos, neg_ℤ, ◌&&◌, ◌||◌, if◌then◌else◌, Bool, true, false, List, [], ◌∷◌, length, Option, Some, None, slice_get, Result, Ok, Err, IfOk, IfErr, refl, sym, ap, subst}
use Rattle.std.proofs.Math.IntN.{+ℤ_idl}
use Rattle.std.proofs.Math.Seq.{take-length}
use Rattle.sv_app.specs.declared.acts.Act.TheVariants as acts
use Rattle.sv_app.specs.declared.schemas.Column.{Column}
use Rattle.sv_app.specs.declared.schemas.Merge.{Merge}
use Rattle.sv_app.specs.Kinds.{is_grow_only}
use Rattle.sv_app.specs.Slots.{item}
use Rattle.sv_app.specs.Writes.{in_order}
use Rattle.sv_linear.specs.declared.forms.Form.{Form}
use Rattle.sv_linear.specs.declared.stops.FormStop.{FormStop}
use Rattle.sv_linear.specs.Codes.{form_of}
use Rattle.sv_linear.specs.Forms as forms
use Rattle.sv_linear.specs.Sums.{IsStopOf}
use Rattle.sv_app.specs.declared.apps.Ident.{Ident}
use Rattle.sv_app.specs.declared.schemas.Ty.TheVariants as types
use Rattle.sv_app.specs.declared.txns.Rel.{Rel}
use Rattle.sv_app.specs.Paths.{Names, Way, columns_at, merge_in, columns_way, insert_way, block_path}
use Rattle.sv_app.specs.Schema.{Declaration}
use Rattle.sv_app.specs.Symbols.{is_factor, is_key_column}
use Rattle.sv_app.specs.Trees.{Term, Minus, Sum, Difference, Product, Test, Compare, Both, Either, Command, Choose, Insert, Fresh, Update, Block, Then}
use Rattle.sv_linear.specs.Effects.{SymValue, Number, SymWrite, linear}
use Rattle.sv_linear.specs.Forms.{number, minus, negated_terms, add, sub}
use Rattle.sv_symbolic.specs.declared.states.Flow.{Flow}
use Rattle.sv_symbolic.specs.declared.states.Flow.TheVariants as flows
use Rattle.sv_symbolic.specs.declared.states.State.{State}
use Rattle.sv_symbolic.specs.Routes.{draw_set, draw_sets, draw_insert, draw_inserts, then_route, on_drawn, on_tried, on_declared, set_form, with_effect, forgetting, draw_command, draw_block, first_sketch, Leads}
use Rattle.sv_symbolic.specs.Sketches.{Sketch, Drawn, Draws, then_draws, zero_form, draw_symbol, draw_form, draw_product, draw_term, draw_terms, Tried, Tells, then_tried, drawn_then, draw_choice, draw_test}
use Rattle.sv_symbolic.specs.States.{way_of, sketch_of, joined, path_as, Walked, Told, DrawsFrom, TriesFrom, RoutesFrom, IsLost, LostDrawn, LostTried, LostRoute, Holds, IsMade, kept_for, inserts_way, draw_fresh, draw_update}
use Rattle.sv_symbolic.proofs.LostLaws.{lost_then, lost_tries, lost_both, lost_on, lost_sides, lost_next, lost_symbol, lost_form, lost_product, lost_choice, lost_term, lost_terms, lost_compare, lost_test, lost_set, lost_sets, lost_inserts, lost_effect, lost_forgetting, lost_with, lost_inserted, lost_drawn, lost_updated, lost_block}

-- one part after another
pub told_next : {R Q : Type 0} (LostR : R → Type 0) (LostQ : Q → Type 0) (go : R → Q) (s u z : State) (x now : R) (then_now : Q)
    → Told LostR s u x now → Told LostQ u z (go now) then_now → ((r : R) → LostR r → LostQ (go r)) → Told LostQ s z (go x) then_now
told_next LostR LostQ go s u z x now then_now first second stays = record {
  exact = λ e. let here = second.exact e in let there = first.exact here.0 in (there.0, ap go there.1 ∙ here.1);
  lost = λ before after. by_mid u.exact refl before after;
}
  where
    by_mid : (b : Bool) → u.exact ≡ b → s.exact ≡ true → z.exact ≡ false → LostQ (go x)
    by_mid true mid before after = subst (λ r. LostQ (go r)) (sym (first.exact mid).1) (second.lost mid after)
    by_mid false mid before after = stays x (first.lost before mid)

-- nothing was drawn
pub told_same : {R : Type 0} (Lost : R → Type 0) (s z : State) (x now : R) → z.exact ≡ s.exact → x ≡ now → Told Lost s z x now
told_same Lost s z x now same is = record {
  exact = λ e. (sym same ∙ e, is);
  lost = λ before after. absurd (let no : true ≡ false = sym before ∙ sym same ∙ after in cc);
}

pub if_ok : {A E : Type 0} (r : Result A E) (P Q : A → Type 0) → ((x : A) → P x → Q x) → IfOk r P → IfOk r Q
if_ok (Ok x) P Q f h = f x h
if_ok (Err e) P Q f h = h

-- the first item of a slice, and the later ones
pub first_and_later : {A : Type 0} (xs : List A) (x : A) → 1 ≤ length xs → x ≡ get_or xs 0 x → xs ≡ x ∷ take (length xs - 1) (drop 1 xs)
first_and_later [] x some is = absurd (omega (arith, some))
first_and_later (y ∷ ys) x some is =
    let few : length (y ∷ ys) - 1 ≡ length ys = omega arith in
    let later : take (length (y ∷ ys) - 1) ys ≡ ys = ap (λ n. take n ys) few ∙ take-length ys in
    ap (λ z. z ∷ ys) (sym is) ∙ ap (λ l. x ∷ l) (sym later)

module _ (schema : List Declaration) (names : Names) where
  pub told_minus : (table : ℕ) (t a : Term) (at : _) (s u z : State) (v w : SymValue) → t ≡ Minus a at
      → DrawsFrom s u (draw_term schema names table a (sketch_of s)) v → DrawsFrom u z (draw_form (minus (linear v)) (sketch_of u)) w
      → DrawsFrom s z (draw_term schema names table t (sketch_of s)) w
  told_minus table t a at s u z v w is first second = subst (λ x. DrawsFrom s z (draw_term schema names table x (sketch_of s)) w) (sym is)
      (told_next LostDrawn LostDrawn (λ d. then_draws d (λ v. draw_form (minus (linear v)))) s u z _ _ _ first second (λ d. lost_then d _ (λ v k l. lost_form (minus (linear v)) k l)))

  pub told_sum : (table : ℕ) (t a b : Term) (at : _) (s u y z : State) (v w x : SymValue) → t ≡ Sum a b at
      → DrawsFrom s u (draw_term schema names table a (sketch_of s)) v → DrawsFrom u y (draw_term schema names table b (sketch_of u)) w → DrawsFrom y z (draw_form (add (linear v) (linear w)) (sketch_of y)) x
      → DrawsFrom s z (draw_term schema names table t (sketch_of s)) x
  told_sum table t a b at s u y z v w x is first second third = subst (λ q. DrawsFrom s z (draw_term schema names table q (sketch_of s)) x) (sym is)
      (told_next LostDrawn LostDrawn (λ d. then_draws d (λ v k. then_draws (draw_term schema names table b k) (λ w. draw_form (add (linear v) (linear w))))) s u z _ _ _ first
      (told_next LostDrawn LostDrawn (λ d. then_draws d (λ w. draw_form (add (linear v) (linear w)))) u y z _ _ _ second third (λ d. lost_then d _ (λ w k l. lost_form (add (linear v) (linear w)) k l)))
      (λ d. lost_then d _ (λ v k l. lost_then (draw_term schema names table b k) _ (λ w z m. lost_form (add (linear v) (linear w)) z m) (lost_term schema names table b k l))))

  pub told_difference : (table : ℕ) (t a b : Term) (at : _) (s u y z : State) (v w x : SymValue) → t ≡ Difference a b at
      → DrawsFrom s u (draw_term schema names table a (sketch_of s)) v → DrawsFrom u y (draw_term schema names table b (sketch_of u)) w → DrawsFrom y z (draw_form (sub (linear v) (linear w)) (sketch_of y)) x
      → DrawsFrom s z (draw_term schema names table t (sketch_of s)) x
  told_difference table t a b at s u y z v w x is first second third = subst (λ q. DrawsFrom s z (draw_term schema names table q (sketch_of s)) x) (sym is)
      (told_next LostDrawn LostDrawn (λ d. then_draws d (λ v k. then_draws (draw_term schema names table b k) (λ w. draw_form (sub (linear v) (linear w))))) s u z _ _ _ first
      (told_next LostDrawn LostDrawn (λ d. then_draws d (λ w. draw_form (sub (linear v) (linear w)))) u y z _ _ _ second third (λ d. lost_then d _ (λ w k l. lost_form (sub (linear v) (linear w)) k l)))
      (λ d. lost_then d _ (λ v k l. lost_then (draw_term schema names table b k) _ (λ w z m. lost_form (sub (linear v) (linear w)) z m) (lost_term schema names table b k l))))

  pub told_product : (table : ℕ) (t a b : Term) (at : _) (s u y z : State) (v w x : SymValue) → t ≡ Product a b at
      → DrawsFrom s u (draw_term schema names table a (sketch_of s)) v → DrawsFrom u y (draw_term schema names table b (sketch_of u)) w → DrawsFrom y z (draw_product (is_factor a) (is_factor b) v w (sketch_of y)) x
      → DrawsFrom s z (draw_term schema names table t (sketch_of s)) x
  told_product table t a b at s u y z v w x is first second third = subst (λ q. DrawsFrom s z (draw_term schema names table q (sketch_of s)) x) (sym is)
      (told_next LostDrawn LostDrawn (λ d. then_draws d (λ v k. then_draws (draw_term schema names table b k) (draw_product (is_factor a) (is_factor b) v))) s u z _ _ _ first
      (told_next LostDrawn LostDrawn (λ d. then_draws d (draw_product (is_factor a) (is_factor b) v)) u y z _ _ _ second third (λ d. lost_then d _ (λ w k l. lost_product (is_factor a) (is_factor b) v w k l)))
      (λ d. lost_then d _ (λ v k l. lost_then (draw_term schema names table b k) _ (λ w z m. lost_product (is_factor a) (is_factor b) v w z m) (lost_term schema names table b k l))))

  pub told_terms : (all : List Term) (e : Term) (es : List Term) (s u z : State) (v : SymValue) (vs out : List SymValue) → all ≡ e ∷ es → out ≡ v ∷ vs
      → DrawsFrom s u (draw_term schema names 0 e (sketch_of s)) v → DrawsFrom u z (draw_terms schema names es (sketch_of u)) vs
      → DrawsFrom s z (draw_terms schema names all (sketch_of s)) out
  told_terms all e es s u z v vs out is made first second = subst (λ l. DrawsFrom s z (draw_terms schema names l (sketch_of s)) out) (sym is) (subst (λ l. DrawsFrom s z (draw_terms schema names (e ∷ es) (sketch_of s)) l) (sym made) (
      told_next LostDrawn LostDrawn (λ d. then_draws d (λ v k. then_draws (draw_terms schema names es k) (λ vs q. Draws (v ∷ vs) q))) s u z _ _ _ first
      (told_next LostDrawn LostDrawn (λ d. then_draws d (λ vs q. Draws (v ∷ vs) q)) u z z _ _ _ second (told_same LostDrawn z z _ _ refl refl) (λ d. lost_then d _ (λ vs k l. l)))
      (λ d. lost_then d _ (λ v k l. lost_then (draw_terms schema names es k) _ (λ vs z m. m) (lost_terms schema names es k l)))))

  pub told_compare : (t : Test) (a b : Term) (r : Rel) (s u y z : State) (v w : SymValue) (holds : Option Bool) → t ≡ Compare a r b
      → DrawsFrom s u (draw_term schema names 0 a (sketch_of s)) v → DrawsFrom u y (draw_term schema names 0 b (sketch_of u)) w → TriesFrom y z (draw_choice y.left.now r v w (sketch_of y)) holds
      → TriesFrom s z (draw_test schema names t (sketch_of s)) holds
  told_compare t a b r s u y z v w holds is first second third = subst (λ q. TriesFrom s z (draw_test schema names q (sketch_of s)) holds) (sym is)
      (told_next LostDrawn LostTried (λ d. drawn_then d (λ v k. drawn_then (draw_term schema names 0 b k) (λ w z. draw_choice z.way.left r v w z))) s u z _ _ _ first
      (told_next LostDrawn LostTried (λ d. drawn_then d (λ w z. draw_choice z.way.left r v w z)) u y z _ _ _ second third (λ d. lost_tries d _ (λ w k l. lost_choice k.way.left r v w k l)))
      (λ d. lost_tries d _ (λ v k l. lost_compare schema names r b v k l)))

  pub told_both : (t p q : Test) (s u z : State) (h g out : Option Bool) → t ≡ Both p q → out ≡ joined (λ a b. a && b) h g
      → TriesFrom s u (draw_test schema names p (sketch_of s)) h → TriesFrom u z (draw_test schema names q (sketch_of u)) g → TriesFrom s z (draw_test schema names t (sketch_of s)) out
  told_both t p q s u z h g out is made first second = subst (λ x. TriesFrom s z (draw_test schema names x (sketch_of s)) out) (sym is) (subst (λ o. TriesFrom s z (draw_test schema names (Both p q) (sketch_of s)) o) (sym made) (by_first h first))
    where
      stays : (d : Tried) → LostTried d → LostTried (then_tried d (λ h y. then_tried (draw_test schema names q y) (λ g z. Tells (h && g) z)))
      stays d lost = lost_both d (λ h y. then_tried (draw_test schema names q y) (λ g z. Tells (h && g) z)) (λ h k l. lost_both (draw_test schema names q k) _ (λ g z m. m) (lost_test schema names q k l)) lost

      by_mid : (b : Bool) → u.exact ≡ b → s.exact ≡ true → TriesFrom s u (draw_test schema names p (sketch_of s)) None → LostTried (then_tried (draw_test schema names p (sketch_of s)) (λ h y. then_tried (draw_test schema names q y) (λ g z. Tells (h && g) z)))
      by_mid true e before told = subst (λ d. LostTried (then_tried d (λ h y. then_tried (draw_test schema names q y) (λ g z. Tells (h && g) z)))) (sym (told.exact e).1) tt
      by_mid false e before told = stays (draw_test schema names p (sketch_of s)) (told.lost before e)

      by_second : (b : Bool) (g : Option Bool) → TriesFrom u z (draw_test schema names q (sketch_of u)) g → TriesFrom u z (then_tried (draw_test schema names q (sketch_of u)) (λ g z. Tells (b && g) z)) (joined (λ a b. a && b) (Some b) g)
      by_second b None told = told_next LostTried LostTried (λ d. then_tried d (λ g z. Tells (b && g) z)) u z z _ _ _ told (told_same LostTried z z _ _ refl refl) (λ d. lost_both d _ (λ g k l. l))
      by_second b (Some g) told = told_next LostTried LostTried (λ d. then_tried d (λ g z. Tells (b && g) z)) u z z _ _ _ told (told_same LostTried z z _ _ refl refl) (λ d. lost_both d _ (λ g k l. l))

      by_first : (h : Option Bool) → TriesFrom s u (draw_test schema names p (sketch_of s)) h → TriesFrom s z (draw_test schema names (Both p q) (sketch_of s)) (joined (λ a b. a && b) h g)
      by_first None told = record {
        exact = λ e. let here = told.exact (second.exact e).0 in (here.0, ap (λ d. then_tried d (λ h y. then_tried (draw_test schema names q y) (λ g z. Tells (h && g) z))) here.1);
        lost = λ before after. by_mid u.exact refl before told;
      }
      by_first (Some b) told = told_next LostTried LostTried (λ d. then_tried d (λ h y. then_tried (draw_test schema names q y) (λ g z. Tells (h && g) z))) s u z _ _ _ told (by_second b g second) stays

  pub told_either : (t p q : Test) (s u z : State) (h g out : Option Bool) → t ≡ Either p q → out ≡ joined (λ a b. a || b) h g
      → TriesFrom s u (draw_test schema names p (sketch_of s)) h → TriesFrom u z (draw_test schema names q (sketch_of u)) g → TriesFrom s z (draw_test schema names t (sketch_of s)) out
  told_either t p q s u z h g out is made first second = subst (λ x. TriesFrom s z (draw_test schema names x (sketch_of s)) out) (sym is) (subst (λ o. TriesFrom s z (draw_test schema names (Either p q) (sketch_of s)) o) (sym made) (by_first h first))
    where
      stays : (d : Tried) → LostTried d → LostTried (then_tried d (λ h y. then_tried (draw_test schema names q y) (λ g z. Tells (h || g) z)))
      stays d lost = lost_both d (λ h y. then_tried (draw_test schema names q y) (λ g z. Tells (h || g) z)) (λ h k l. lost_both (draw_test schema names q k) _ (λ g z m. m) (lost_test schema names q k l)) lost

      by_mid : (b : Bool) → u.exact ≡ b → s.exact ≡ true → TriesFrom s u (draw_test schema names p (sketch_of s)) None → LostTried (then_tried (draw_test schema names p (sketch_of s)) (λ h y. then_tried (draw_test schema names q y) (λ g z. Tells (h || g) z)))
      by_mid true e before told = subst (λ d. LostTried (then_tried d (λ h y. then_tried (draw_test schema names q y) (λ g z. Tells (h || g) z)))) (sym (told.exact e).1) tt
      by_mid false e before told = stays (draw_test schema names p (sketch_of s)) (told.lost before e)

      by_second : (b : Bool) (g : Option Bool) → TriesFrom u z (draw_test schema names q (sketch_of u)) g → TriesFrom u z (then_tried (draw_test schema names q (sketch_of u)) (λ g z. Tells (b || g) z)) (joined (λ a b. a || b) (Some b) g)
      by_second b None told = told_next LostTried LostTried (λ d. then_tried d (λ g z. Tells (b || g) z)) u z z _ _ _ told (told_same LostTried z z _ _ refl refl) (λ d. lost_both d _ (λ g k l. l))
      by_second b (Some g) told = told_next LostTried LostTried (λ d. then_tried d (λ g z. Tells (b || g) z)) u z z _ _ _ told (told_same LostTried z z _ _ refl refl) (λ d. lost_both d _ (λ g k l. l))

      by_first : (h : Option Bool) → TriesFrom s u (draw_test schema names p (sketch_of s)) h → TriesFrom s z (draw_test schema names (Either p q) (sketch_of s)) (joined (λ a b. a || b) h g)
      by_first None told = record {
        exact = λ e. let here = told.exact (second.exact e).0 in (here.0, ap (λ d. then_tried d (λ h y. then_tried (draw_test schema names q y) (λ g z. Tells (h || g) z))) here.1);
        lost = λ before after. by_mid u.exact refl before told;
      }
      by_first (Some b) told = told_next LostTried LostTried (λ d. then_tried d (λ h y. then_tried (draw_test schema names q y) (λ g z. Tells (h || g) z))) s u z _ _ _ told (by_second b g second) stays

  pub told_sets : (table : ℕ) (all : List (Ident × Term)) (set : Ident × Term) (sets : List (Ident × Term)) (s u y z : State) (v : SymValue) (w : SymWrite) (ws out : List (ℕ × SymWrite)) (m : Merge)
      → all ≡ set ∷ sets → out ≡ (set.0.num, w) ∷ ws → m ≡ merge_in (slice_get (columns_at (slice_get schema table)) set.0.num)
      → DrawsFrom s u (draw_term schema names table set.1 (sketch_of s)) v → DrawsFrom u y (draw_set m set.0.num v (sketch_of u)) w → DrawsFrom y z (draw_sets schema names table sets (sketch_of y)) ws
      → DrawsFrom s z (draw_sets schema names table all (sketch_of s)) out
  told_sets table all set sets s u y z v w ws out m is made merge first second third =
      subst (λ l. DrawsFrom s z (draw_sets schema names table l (sketch_of s)) out) (sym is) (subst (λ l. DrawsFrom s z (draw_sets schema names table (set ∷ sets) (sketch_of s)) l) (sym made)
      (told_next LostDrawn LostDrawn (λ d. then_draws d rest_of) s u z _ _ _ first
      (told_next LostDrawn LostDrawn (λ d. then_draws d last_of) u y z _ _ _ (subst (λ n. DrawsFrom u y (draw_set n set.0.num v (sketch_of u)) w) merge second)
      (told_next LostDrawn LostDrawn (λ d. then_draws d (λ ws q. Draws ((set.0.num, w) ∷ ws) q)) y z z _ _ _ third (told_same LostDrawn z z _ _ refl refl) (λ d. lost_then d _ (λ ws k l. l)))
      (λ d. lost_then d _ last_lost))
      (λ d. lost_then d _ rest_lost)))
    where
      last_of : SymWrite → Sketch → Drawn (List (ℕ × SymWrite))
      last_of = λ w z. then_draws (draw_sets schema names table sets z) (λ ws q. Draws ((set.0.num, w) ∷ ws) q)

      rest_of : SymValue → Sketch → Drawn (List (ℕ × SymWrite))
      rest_of = λ v u. then_draws (draw_set (merge_in (slice_get (columns_at (slice_get schema table)) set.0.num)) set.0.num v u) (λ w z. then_draws (draw_sets schema names table sets z) (λ ws q. Draws ((set.0.num, w) ∷ ws) q))

      last_lost : (w : SymWrite) (k : Sketch) → IsLost k → LostDrawn (then_draws (draw_sets schema names table sets k) (λ ws q. Draws ((set.0.num, w) ∷ ws) q))
      last_lost w k l = lost_then (draw_sets schema names table sets k) (λ ws q. Draws ((set.0.num, w) ∷ ws) q) (λ ws q n. n) (lost_sets schema names table sets k l)

      rest_lost : (v : SymValue) (u : Sketch) → IsLost u → LostDrawn (then_draws (draw_set (merge_in (slice_get (columns_at (slice_get schema table)) set.0.num)) set.0.num v u) (λ w z. then_draws (draw_sets schema names table sets z) (λ ws q. Draws ((set.0.num, w) ∷ ws) q)))
      rest_lost v u l = lost_then (draw_set (merge_in (slice_get (columns_at (slice_get schema table)) set.0.num)) set.0.num v u) (λ w z. then_draws (draw_sets schema names table sets z) (λ ws q. Draws ((set.0.num, w) ∷ ws) q)) last_lost (lost_set (merge_in (slice_get (columns_at (slice_get schema table)) set.0.num)) set.0.num v u l)

  pub told_inserted : (t : Ident) (values : List Term) (d : Declaration) (s u y z : State) (vs : List SymValue) (ws : List (ℕ × SymWrite)) (columns : List Column) → slice_get schema t.num ≡ Some d → columns ≡ d.columns
      → DrawsFrom s u (draw_terms schema names values (sketch_of s)) vs → DrawsFrom u y (draw_inserts d vs 0 columns (sketch_of u)) ws
      → sketch_of z ≡ with_effect (record { table = t.num; act = acts.Insert; writes = ws }) (sketch_of y) → z.exact ≡ y.exact
      → RoutesFrom s z (draw_command schema names (Insert t values) (sketch_of s)) flows.On
  told_inserted t values d s u y z vs ws columns found same first second last exact =
      told_next LostDrawn LostRoute (λ x. on_drawn x (λ vs u. on_declared (slice_get schema t.num) u (λ d y. on_drawn (draw_inserts d vs 0 d.columns y) (λ ws z. Leads (with_effect (record { table = t.num; act = acts.Insert; writes = ws }) z))))) s u z _ _ _ first
      (subst (λ o. Told LostRoute u z (on_declared o (sketch_of u) (λ d y. on_drawn (draw_inserts d vs 0 d.columns y) (λ ws z. Leads (with_effect (record { table = t.num; act = acts.Insert; writes = ws }) z)))) (Leads (sketch_of z))) (sym found)
      (told_next LostDrawn LostRoute (λ x. on_drawn x (λ ws z. Leads (with_effect (record { table = t.num; act = acts.Insert; writes = ws }) z))) u y z _ _ _ (subst (λ l. DrawsFrom u y (draw_inserts d vs 0 l (sketch_of u)) ws) same second)
      (told_same LostRoute y z _ _ exact (ap (λ k. Leads k) (sym last))) (λ x. lost_on x _ (λ ws k l. lost_effect (record { table = t.num; act = acts.Insert; writes = ws }) k l))))
      (λ x. lost_on x _ (λ vs k l. lost_inserted schema names t vs k l))

  pub told_fresh : (x t : Ident) (values : List Term) (s u y q z : State) (vs us : List SymValue) (key : SymValue) → us ≡ vs
      → DrawsFrom s u (draw_terms schema names values (sketch_of s)) vs → DrawsFrom u y (draw_symbol types.Int (sketch_of u)) key
      → Leads (sketch_of q) ≡ draw_fresh t.num (slice_get schema t.num) us (sketch_of y) → q.exact ≡ y.exact
      → Leads (sketch_of z) ≡ set_form x.num key (sketch_of q) → z.exact ≡ q.exact
      → RoutesFrom s z (draw_command schema names (Fresh x t values) (sketch_of s)) flows.On
  told_fresh x t values s u y q z vs us key listed first second put same set exact =
      told_next LostDrawn LostRoute (λ d. on_drawn d (λ vs u. on_drawn (draw_symbol types.Int u) (λ key z. then_route (draw_fresh t.num (slice_get schema t.num) vs z) (set_form x.num key)))) s u z _ _ _ first
      (told_next LostDrawn LostRoute (λ d. on_drawn d (λ key z. then_route (draw_fresh t.num (slice_get schema t.num) vs z) (set_form x.num key))) u y z _ _ _ second
      (told_same LostRoute y z _ _ (exact ∙ same) (ap (λ r. then_route r (set_form x.num key)) (sym (put ∙ ap (λ l. draw_fresh t.num (slice_get schema t.num) l (sketch_of y)) listed)) ∙ sym set)) (λ d. lost_on d _ (λ key k l. lost_drawn schema names x t vs key k l)))
      (λ d. lost_on d _ (λ vs k l. lost_on (draw_symbol types.Int k) _ (λ key z m. lost_drawn schema names x t vs key z m) (lost_symbol types.Int k l)))

  pub told_updated : (t : Ident) (key : List Term) (sets : List (Ident × Term)) (s u y q p z : State) (vs : List SymValue) (ws us : List (ℕ × SymWrite)) → us ≡ ws
      → DrawsFrom s u (draw_terms schema names key (sketch_of s)) vs → sketch_of y ≡ forgetting (sketch_of u) → y.exact ≡ u.exact
      → DrawsFrom y q (draw_sets schema names t.num sets (sketch_of y)) ws → sketch_of p ≡ forgetting (sketch_of q) → p.exact ≡ q.exact
      → Leads (sketch_of z) ≡ draw_update t.num (slice_get schema t.num) us (sketch_of p) → z.exact ≡ p.exact
      → RoutesFrom s z (draw_command schema names (Update t key sets) (sketch_of s)) flows.On
  told_updated t key sets s u y q p z vs ws us listed first forgot same second again kept put exact =
      told_next LostDrawn LostRoute (λ d. on_drawn d (λ vs u. on_drawn (draw_sets schema names t.num sets (forgetting u)) (λ ws z. draw_update t.num (slice_get schema t.num) ws (forgetting z)))) s u z _ _ _ first
      (told_next LostDrawn LostRoute (λ d. on_drawn d (λ ws z. draw_update t.num (slice_get schema t.num) ws (forgetting z))) u q z _ _ _ sets_told
      (told_same LostRoute q z _ _ (exact ∙ kept) (ap (λ k. draw_update t.num (slice_get schema t.num) ws k) (sym again) ∙ ap (λ l. draw_update t.num (slice_get schema t.num) l (sketch_of p)) (sym listed) ∙ sym put)) (λ d. lost_on d _ (λ ws k l. lost_with (slice_get schema t.num) (λ d. record { table = t.num; act = acts.Update; writes = in_order d 0 d.columns ws }) (forgetting k) (lost_forgetting k l))))
      (λ d. lost_on d _ (λ vs k l. lost_updated schema names t sets k l))
    where
      sets_told : DrawsFrom u q (draw_sets schema names t.num sets (forgetting (sketch_of u))) ws
      sets_told = record {
        exact = λ e. let here = second.exact e in (sym same ∙ here.0, ap (λ k. draw_sets schema names t.num sets k) (sym forgot) ∙ here.1);
        lost = λ e f. subst (λ k. LostDrawn (draw_sets schema names t.num sets k)) forgot (second.lost (same ∙ e) f);
      }

  pub told_block : (all : Block) (c : Command) (b : Block) (s u z : State) (flow : Flow) → all ≡ Then c b
      → RoutesFrom s u (draw_command schema names c (sketch_of s)) flows.On → RoutesFrom u z (draw_block schema names b (sketch_of u)) flow
      → RoutesFrom s z (draw_block schema names all (sketch_of s)) flow
  told_block all c b s u z flow is first second = subst (λ l. RoutesFrom s z (draw_block schema names l (sketch_of s)) flow) (sym is)
      (told_next LostRoute LostRoute (λ r. then_route r (draw_block schema names b)) s u z _ _ _ first second (λ r. lost_next r _ (λ k l. lost_block schema names b k l)))

  pub told_aborts : (all : Block) (c : Command) (b : Block) (s z : State) (flow : Flow) → all ≡ Then c b → flow ≡ flows.Aborted
      → RoutesFrom s z (draw_command schema names c (sketch_of s)) flow → RoutesFrom s z (draw_block schema names all (sketch_of s)) flows.Aborted
  told_aborts all c b s z flow is stops first = subst (λ l. RoutesFrom s z (draw_block schema names l (sketch_of s)) flows.Aborted) (sym is)
      (told_next LostRoute LostRoute (λ r. then_route r (draw_block schema names b)) s z z _ _ _ (subst (λ f. RoutesFrom s z (draw_command schema names c (sketch_of s)) f) stops first) (told_same LostRoute z z _ _ refl refl) (λ r. lost_next r _ (λ k l. lost_block schema names b k l)))

  pub told_short : (all : Block) (c : Command) (b : Block) (s z : State) (flow : Flow) → all ≡ Then c b → flow ≡ flows.Short
      → RoutesFrom s z (draw_command schema names c (sketch_of s)) flow → RoutesFrom s z (draw_block schema names all (sketch_of s)) flows.Short
  told_short all c b s z flow is stops first = subst (λ l. RoutesFrom s z (draw_block schema names l (sketch_of s)) flows.Short) (sym is)
      (told_next LostRoute LostRoute (λ r. then_route r (draw_block schema names b)) s z z _ _ _ (subst (λ f. RoutesFrom s z (draw_command schema names c (sketch_of s)) f) stops first) (told_same LostRoute z z _ _ refl refl) (λ r. lost_next r _ (λ k l. lost_block schema names b k l)))

  pub told_yes : (command : Command) (c : Test) (ys ns : Block) (s u z : State) (tried : Option Bool) (holds : Bool) (flow : Flow) → command ≡ Choose c ys ns → tried ≡ Some holds → holds ≡ true
      → TriesFrom s u (draw_test schema names c (sketch_of s)) tried → RoutesFrom u z (draw_block schema names ys (sketch_of u)) flow
      → RoutesFrom s z (draw_command schema names command (sketch_of s)) flow
  told_yes command c ys ns s u z tried holds flow is told side first second = subst (λ l. RoutesFrom s z (draw_command schema names l (sketch_of s)) flow) (sym is)
      (told_next LostTried LostRoute (λ t. on_tried t (draw_block schema names ys) (draw_block schema names ns)) s u z _ _ _ (subst (λ h. TriesFrom s u (draw_test schema names c (sketch_of s)) h) (told ∙ ap (λ h. Some h) side) first) second
      (λ t. lost_sides t _ _ (λ k l. lost_block schema names ys k l) (λ k l. lost_block schema names ns k l)))

  pub told_no : (command : Command) (c : Test) (ys ns : Block) (s u z : State) (tried : Option Bool) (holds : Bool) (flow : Flow) → command ≡ Choose c ys ns → tried ≡ Some holds → holds ≡ false
      → TriesFrom s u (draw_test schema names c (sketch_of s)) tried → RoutesFrom u z (draw_block schema names ns (sketch_of u)) flow
      → RoutesFrom s z (draw_command schema names command (sketch_of s)) flow
  told_no command c ys ns s u z tried holds flow is told side first second = subst (λ l. RoutesFrom s z (draw_command schema names l (sketch_of s)) flow) (sym is)
      (told_next LostTried LostRoute (λ t. on_tried t (draw_block schema names ys) (draw_block schema names ns)) s u z _ _ _ (subst (λ h. TriesFrom s u (draw_test schema names c (sketch_of s)) h) (told ∙ ap (λ h. Some h) side) first) second
      (λ t. lost_sides t _ _ (λ k l. lost_block schema names ys k l) (λ k l. lost_block schema names ns k l)))

  pub told_choiceless : (command : Command) (c : Test) (ys ns : Block) (s z : State) → command ≡ Choose c ys ns
      → TriesFrom s z (draw_test schema names c (sketch_of s)) None → RoutesFrom s z (draw_command schema names command (sketch_of s)) flows.Short
  told_choiceless command c ys ns s z is first = subst (λ l. RoutesFrom s z (draw_command schema names l (sketch_of s)) flows.Short) (sym is)
      (told_next LostTried LostRoute (λ t. on_tried t (draw_block schema names ys) (draw_block schema names ns)) s z z _ _ _ first (told_same LostRoute z z _ _ refl refl) (λ t. lost_sides t _ _ (λ k l. lost_block schema names ys k l) (λ k l. lost_block schema names ns k l)))

-- an insert's column outside the key, and the others
pub told_inserts : (table : Declaration) (vs : List SymValue) (c n : ℕ) (column : Column) (columns all : List Column) (s u z : State) (v : SymValue) (grows : Bool) (w : SymWrite) (ws out : List (ℕ × SymWrite))
    → all ≡ column ∷ columns → n ≡ suc c → out ≡ (c, w) ∷ ws → is_key_column table.key c ≡ false → grows ≡ is_grow_only table.kind → v ≡ item zero_form vs c
    → DrawsFrom s u (draw_insert grows column.merge v (sketch_of s)) w → DrawsFrom u z (draw_inserts table vs n columns (sketch_of u)) ws
    → DrawsFrom s z (draw_inserts table vs c all (sketch_of s)) out
told_inserts table vs c n column columns all s u z v grows w ws out is next made outside kind value first second =
    subst (λ l. DrawsFrom s z (draw_inserts table vs c l (sketch_of s)) out) (sym is) (subst (λ l. DrawsFrom s z (draw_inserts table vs c (column ∷ columns) (sketch_of s)) l) (sym made)
    (subst (λ b. DrawsFrom s z (if b then draw_inserts table vs (suc c) columns (sketch_of s) else then_draws (draw_insert (is_grow_only table.kind) column.merge (item zero_form vs c) (sketch_of s)) (λ w u. then_draws (draw_inserts table vs (suc c) columns u) (λ ws z. Draws ((c, w) ∷ ws) z))) ((c, w) ∷ ws)) (sym outside)
    (told_next LostDrawn LostDrawn (λ d. then_draws d (λ w u. then_draws (draw_inserts table vs (suc c) columns u) (λ ws z. Draws ((c, w) ∷ ws) z))) s u z _ _ _ here
    (told_next LostDrawn LostDrawn (λ d. then_draws d (λ ws z. Draws ((c, w) ∷ ws) z)) u z z _ _ _ (subst (λ m. DrawsFrom u z (draw_inserts table vs m columns (sketch_of u)) ws) next second) (told_same LostDrawn z z _ _ refl refl) (λ d. lost_then d _ (λ ws k l. l)))
    (λ d. lost_then d _ (λ w k l. lost_then (draw_inserts table vs (suc c) columns k) _ (λ ws z m. m) (lost_inserts table vs (suc c) columns k l))))))
  where
    here : DrawsFrom s u (draw_insert (is_grow_only table.kind) column.merge (item zero_form vs c) (sketch_of s)) w
    here = subst (λ x. DrawsFrom s u (draw_insert (is_grow_only table.kind) column.merge x (sketch_of s)) w) value (subst (λ g. DrawsFrom s u (draw_insert g column.merge v (sketch_of s)) w) kind first)

-- whether the sides are factors
pub factors_are : (a b p q : Bool) (y z : State) (v w x : SymValue) → a ≡ p → b ≡ q → DrawsFrom y z (draw_product a b v w (sketch_of y)) x → DrawsFrom y z (draw_product p q v w (sketch_of y)) x
factors_are a b p q y z v w x left right told = subst (λ n. DrawsFrom y z (draw_product p n v w (sketch_of y)) x) right (subst (λ m. DrawsFrom y z (draw_product m b v w (sketch_of y)) x) left told)

-- a form that was held
pub held : (s z : State) (made : Result Form FormStop) (f target now : forms.Form) → Holds s z made now → IfOk made (λ g. form_of g ≡ f) → IfErr made (IsStopOf f) → target ≡ f → DrawsFrom s z (draw_form target (sketch_of s)) (Number now)
held s z made f target now holds ok err same = subst (λ g. DrawsFrom s z (draw_form g (sketch_of s)) (Number now)) (sym same) (holds.each f (is_made made ok err))
  where
    is_made : (m : Result Form FormStop) → IfOk m (λ g. form_of g ≡ f) → IfErr m (IsStopOf f) → IsMade f m
    is_made (Ok g) right wrong = right
    is_made (Err stop) right wrong = wrong

pub held_minus : (s z : State) (made : Result Form FormStop) (a b target now : forms.Form) → Holds s z made now → IfOk made (λ g. form_of g ≡ sub a b) → IfErr made (IsStopOf (sub a b)) → a ≡ number (pos 0) → target ≡ b
    → DrawsFrom s z (draw_form (minus target) (sketch_of s)) (Number now)
held_minus s z made a b target now holds ok err nothing same = held s z made (sub a b) (minus target) now holds ok err (ap minus same ∙ sym (ap (λ x. sub x b) nothing ∙ from_zero))
  where
    from_zero : sub (number (pos 0)) b ≡ minus b
    from_zero = ap (λ n. let f : forms.Form = record { terms = negated_terms b.terms; plus = n } in f) (+ℤ_idl (neg_ℤ b.plus))

-- the way of an insert
inserts_are : (d : Declaration) (c : ℕ) (columns : List Column) (w : Way) → inserts_way d c columns w ≡ (if is_grow_only d.kind then w else columns_way d c columns w)
inserts_are d c columns w = by_kind (is_grow_only d.kind) refl columns c w
  where
    by_kind : (b : Bool) → is_grow_only d.kind ≡ b → (columns : List Column) (c : ℕ) (w : Way) → inserts_way d c columns w ≡ (if is_grow_only d.kind then w else columns_way d c columns w)
    by_kind true e [] c w = rw (e) refl
    by_kind true e (column ∷ columns) c w = by_kind true e columns (suc c) (if is_key_column d.key c then w else kept_for (is_grow_only d.kind) column.merge w)
        ∙ rw (e) (same (is_key_column d.key c))
      where
        same : (k : Bool) → (if k then w else w) ≡ w
        same true = refl
        same false = refl
    by_kind false e [] c w = rw (e) refl
    by_kind false e (column ∷ columns) c w = by_kind false e columns (suc c) (if is_key_column d.key c then w else kept_for (is_grow_only d.kind) column.merge w) ∙ rw (e) refl

pub insert_goes : (found : Option Declaration) (d : Declaration) (columns : List Column) (w : Way) → found ≡ Some d → columns ≡ d.columns → insert_way found w ≡ inserts_way d 0 columns w
insert_goes found d columns w is same = ap (λ o. insert_way o w) is ∙ sym (ap (λ l. inserts_way d 0 l w) same ∙ inserts_are d 0 d.columns w)

-- a walk from the begin
pub walked_by : (schema same : List Declaration) (names own : Names) (body : Block) (choices : List Bool) (s z : State) (flow : Flow) → same ≡ schema → own ≡ names → sketch_of s ≡ first_sketch choices
    → path_as flow (way_of z) ≡ block_path same own body (way_of s) → RoutesFrom s z (draw_block same own body (sketch_of s)) flow → Walked schema names body choices z
walked_by schema same names own body choices s z flow tables named begins path told = record {
  flow = flow;
  path = path ∙ ap (λ l. block_path l own body (way_of s)) tables ∙ ap (λ n. block_path schema n body (way_of s)) named ∙ ap (λ (k : Sketch). block_path schema names body k.way) begins;
  exact = λ e. sym routes ∙ (told.exact e).1;
  lost = λ e. subst LostRoute routes (told.lost (ap (λ (k : Sketch). k.drawing.narrow) begins) e);
}
  where
    routes : draw_block same own body (sketch_of s) ≡ draw_block schema names body (first_sketch choices)
    routes = ap (λ l. draw_block l own body (sketch_of s)) tables ∙ ap (λ n. draw_block schema n body (sketch_of s)) named ∙ ap (draw_block schema names body) begins

pub ruleset walking = (told_inserted, insert_goes)

pub ruleset terms = (told_same, told_minus, told_sum, told_difference, told_product, told_terms)

pub ruleset routes = (told_same, told_block, told_aborts, told_short, told_choiceless)
