-- What is lost stays lost, whatever is drawn on.
use Rattle.std.proofs.Common.{◌≡◌, ◌<◌, ℕ, suc, ◌==◌, ◌&&◌, if◌then◌else◌, Bool, true, false, List, [], ◌∷◌, ◌++◌, length, Option, Some, None, slice_get, refl, ap, arith, inl, inr}
use Rattle.std.specs.List.{list_any}
use Rattle.std.proofs.lemmas.List.{length-append}
use Rattle.sv_app.specs.declared.acts.Act.TheVariants as acts
use Rattle.sv_app.specs.declared.apps.Ident.{Ident}
use Rattle.sv_app.specs.declared.instances.Source.{Source}
use Rattle.sv_app.specs.declared.instances.Source.TheVariants as sources
use Rattle.sv_app.specs.declared.schemas.Column.{Column}
use Rattle.sv_app.specs.declared.schemas.Merge.{Merge}
use Rattle.sv_app.specs.declared.schemas.Merge.TheVariants as merges
use Rattle.sv_app.specs.declared.schemas.Ty.{Ty}
use Rattle.sv_app.specs.declared.schemas.Ty.TheVariants as types
use Rattle.sv_app.specs.declared.txns.Rel.{Rel}
use Rattle.sv_app.specs.Kinds.{is_grow_only}
use Rattle.sv_app.specs.Paths.{Names, columns_at, merge_in}
use Rattle.sv_app.specs.Schema.{Declaration}
use Rattle.sv_app.specs.Slots.{item}
use Rattle.sv_app.specs.Symbols.{is_known, is_factor, is_key_column}
use Rattle.sv_app.specs.Trees.{Term, Number, Words, Variable, Field, Old, Minus, Sum, Difference, Product, Test, Compare, Negation, Both, Either, Command, Declare, Assign, Fetch, Choose, ForRows, ForEach, Insert, Fresh, Update, Remove, Abort, Reply, Block, Finish, Then}
use Rattle.sv_app.specs.Writes.{in_order}
use Rattle.sv_effect.specs.RunChanges.{outside_key}
use Rattle.sv_linear.specs.Effects.{SymValue, SymEffect, linear}
use Rattle.sv_linear.specs.Forms.{Form, is_narrow, minus, add, sub, scale}
use Rattle.sv_symbolic.specs.Routes.{draw_delta, draw_set, draw_sets, draw_insert, draw_inserts, first_writes, Route, Aborts, TooFew, Leads, then_route, on_drawn, on_tried, on_declared, set_form, with_effect, forgetting, after_loop, draw_command, draw_block}
use Rattle.sv_symbolic.specs.Sketches.{Sketch, Drawn, Draws, then_draws, draw_source, draw_old, draw_symbol, draw_form, draw_product, draw_term, draw_terms, Tried, Short, Tells, then_tried, drawn_then, draw_choice, draw_test, zero_form}
use Rattle.sv_symbolic.specs.States.{IsLost, LostDrawn, LostTried, LostRoute, draw_fresh, draw_update}

pub lost_then : {A B : Type 0} (x : Drawn A) (go : A → Sketch → Drawn B) → ((v : A) (k : Sketch) → IsLost k → LostDrawn (go v k)) → LostDrawn x → LostDrawn (then_draws x go)
lost_then (Draws v k) go next lost = next v k lost

pub lost_tries : {A : Type 0} (x : Drawn A) (go : A → Sketch → Tried) → ((v : A) (k : Sketch) → IsLost k → LostTried (go v k)) → LostDrawn x → LostTried (drawn_then x go)
lost_tries (Draws v k) go next lost = next v k lost

pub lost_both : (x : Tried) (go : Bool → Sketch → Tried) → ((h : Bool) (k : Sketch) → IsLost k → LostTried (go h k)) → LostTried x → LostTried (then_tried x go)
lost_both Short go next lost = tt
lost_both (Tells h k) go next lost = next h k lost

pub lost_on : {A : Type 0} (x : Drawn A) (go : A → Sketch → Route) → ((v : A) (k : Sketch) → IsLost k → LostRoute (go v k)) → LostDrawn x → LostRoute (on_drawn x go)
lost_on (Draws v k) go next lost = next v k lost

pub lost_sides : (x : Tried) (f g : Sketch → Route) → ((k : Sketch) → IsLost k → LostRoute (f k)) → ((k : Sketch) → IsLost k → LostRoute (g k)) → LostTried x → LostRoute (on_tried x f g)
lost_sides Short f g left right lost = tt
lost_sides (Tells true k) f g left right lost = left k lost
lost_sides (Tells false k) f g left right lost = right k lost

pub lost_next : (r : Route) (go : Sketch → Route) → ((k : Sketch) → IsLost k → LostRoute (go k)) → LostRoute r → LostRoute (then_route r go)
lost_next (Aborts k) go next lost = tt
lost_next TooFew go next lost = tt
lost_next (Leads k) go next lost = next k lost

lost_declared : (d : Option Declaration) (k : Sketch) (go : Declaration → Sketch → Route) → ((t : Declaration) (z : Sketch) → IsLost z → LostRoute (go t z)) → IsLost k → LostRoute (on_declared d k go)
lost_declared None k go next lost = lost
lost_declared (Some t) k go next lost = next t k lost

more_symbols : (symbols : List Ty) (ty : Ty) → 64 < length symbols → 64 < length (symbols ++ ty ∷ [])
more_symbols symbols ty more = omega (arith, more, length-append symbols (ty ∷ []))

pub lost_symbol : (ty : Ty) (k : Sketch) → IsLost k → LostDrawn (draw_symbol ty k)
lost_symbol ty k (inl more) = inl (more_symbols k.way.symbols ty more)
lost_symbol ty k (inr wide) = inr wide

pub lost_source : (q : Source) (ty : Ty) (k : Sketch) → IsLost k → LostDrawn (draw_source q ty k)
lost_source q ty k lost = by_test (is_known q k.way.known) refl lost
  where
    by_test : (b : Bool) → is_known q k.way.known ≡ b → IsLost k → LostDrawn (draw_source q ty k)
    by_test true e l = rw (e) l
    by_test false e (inl more) = rw (e) (inl (more_symbols k.way.symbols ty more))
    by_test false e (inr wide) = rw (e) (inr wide)

pub lost_old : (c : ℕ) (ty : Ty) (k : Sketch) → IsLost k → LostDrawn (draw_old c ty k)
lost_old c ty k lost = by_test (list_any (λ d. c == d) k.way.known_old) refl lost
  where
    by_test : (b : Bool) → list_any (λ d. c == d) k.way.known_old ≡ b → IsLost k → LostDrawn (draw_old c ty k)
    by_test true e l = rw (e) l
    by_test false e (inl more) = rw (e) (inl (more_symbols k.way.symbols ty more))
    by_test false e (inr wide) = rw (e) (inr wide)

pub lost_form : (f : Form) (k : Sketch) → IsLost k → LostDrawn (draw_form f k)
lost_form f k (inl more) = inl more
lost_form f k (inr wide) = inr (ap (λ b. b && is_narrow f) wide)

pub lost_product : (a b : Bool) (v w : SymValue) (k : Sketch) → IsLost k → LostDrawn (draw_product a b v w k)
lost_product true b v w k lost = lost_form (scale (linear v).plus (linear w)) k lost
lost_product false true v w k lost = lost_form (scale (linear w).plus (linear v)) k lost
lost_product false false v w k lost = lost_symbol types.Int k lost

pub lost_choice : (left : List Bool) (r : Rel) (v w : SymValue) (k : Sketch) → IsLost k → LostTried (draw_choice left r v w k)
lost_choice [] r v w k lost = tt
lost_choice (h ∷ left) r v w k (inl more) = inl more
lost_choice (h ∷ left) r v w k (inr wide) = inr wide

pub lost_delta : (v now : SymValue) (k : Sketch) → IsLost k → LostDrawn (draw_delta v now k)
lost_delta v now k lost = lost_form (sub (linear v) (linear now)) k lost

pub lost_set : (m : Merge) (c : ℕ) (v : SymValue) (k : Sketch) → IsLost k → LostDrawn (draw_set m c v k)
lost_set merges.NumDelta c v k lost = lost_then (draw_old c types.Int k) _ (λ now z l. lost_delta v now z l) (lost_old c types.Int k lost)
lost_set merges.Plain c v k lost = lost
lost_set merges.Lww c v k lost = lost
lost_set merges.Fresh c v k lost = lost

pub lost_insert : (grows : Bool) (m : Merge) (v : SymValue) (k : Sketch) → IsLost k → LostDrawn (draw_insert grows m v k)
lost_insert true m v k lost = lost
lost_insert false merges.NumDelta v k lost = lost_then (draw_symbol types.Int k) (draw_delta v) (λ now z l. lost_delta v now z l) (lost_symbol types.Int k lost)
lost_insert false merges.Plain v k lost = lost
lost_insert false merges.Lww v k lost = lost
lost_insert false merges.Fresh v k lost = lost

pub lost_inserts : (table : Declaration) (vs : List SymValue) (c : ℕ) (columns : List Column) (k : Sketch) → IsLost k → LostDrawn (draw_inserts table vs c columns k)
lost_inserts table vs c [] k lost = lost
lost_inserts table vs c (column ∷ columns) k lost = by_test (is_key_column table.key c) (λ z l. lost_inserts table vs (suc c) columns z l)
  where
    by_test : (b : Bool) → ((z : Sketch) → IsLost z → LostDrawn (draw_inserts table vs (suc c) columns z)) → LostDrawn (if b then draw_inserts table vs (suc c) columns k
        else then_draws (draw_insert (is_grow_only table.kind) column.merge (item zero_form vs c) k) (λ w u. then_draws (draw_inserts table vs (suc c) columns u) (λ ws z. Draws ((c, w) ∷ ws) z)))
    by_test true ih = ih k lost
    by_test false ih = lost_then (draw_insert (is_grow_only table.kind) column.merge (item zero_form vs c) k) _ (λ w u l. lost_then (draw_inserts table vs (suc c) columns u) _ (λ ws z m. m) (ih u l)) (lost_insert (is_grow_only table.kind) column.merge (item zero_form vs c) k lost)

pub lost_effect : (e : SymEffect) (k : Sketch) → IsLost k → IsLost (with_effect e k)
lost_effect e k (inl more) = inl more
lost_effect e k (inr wide) = inr wide

pub lost_forgetting : (k : Sketch) → IsLost k → IsLost (forgetting k)
lost_forgetting k (inl more) = inl more
lost_forgetting k (inr wide) = inr wide

pub lost_with : (d : Option Declaration) (e : Declaration → SymEffect) (k : Sketch) → IsLost k → LostRoute (on_declared d k (λ t y. Leads (with_effect (e t) y)))
lost_with d e k lost = lost_declared d k _ (λ t z l. lost_effect (e t) z l) lost

module _ (schema : List Declaration) (names : Names) where
  pub lost_term : (table : ℕ) (e : Term) (k : Sketch) → IsLost k → LostDrawn (draw_term schema names table e k)
  lost_term table (Number n s) k lost = lost
  lost_term table (Words t s) k lost = lost
  lost_term table (Variable x s) k lost = lost_source (sources.Variable x.num) _ k lost
  lost_term table (Field r c s) k lost = lost_source (sources.Column r.num c.num) _ k lost
  lost_term table (Old c s) k lost = lost_old c.num _ k lost
  lost_term table (Minus a s) k lost = lost_then (draw_term schema names table a k) _ (λ v u l. lost_form (minus (linear v)) u l) (lost_term table a k lost)
  lost_term table (Sum a b s) k lost = lost_then (draw_term schema names table a k) _ (λ v u l. lost_then (draw_term schema names table b u) _ (λ w z m. lost_form (add (linear v) (linear w)) z m) (lost_term table b u l)) (lost_term table a k lost)
  lost_term table (Difference a b s) k lost = lost_then (draw_term schema names table a k) _ (λ v u l. lost_then (draw_term schema names table b u) _ (λ w z m. lost_form (sub (linear v) (linear w)) z m) (lost_term table b u l)) (lost_term table a k lost)
  lost_term table (Product a b s) k lost = lost_then (draw_term schema names table a k) _ (λ v u l. lost_then (draw_term schema names table b u) _ (λ w z m. lost_product (is_factor a) (is_factor b) v w z m) (lost_term table b u l)) (lost_term table a k lost)

  pub lost_terms : (es : List Term) (k : Sketch) → IsLost k → LostDrawn (draw_terms schema names es k)
  lost_terms [] k lost = lost
  lost_terms (e ∷ es) k lost = lost_then (draw_term schema names 0 e k) _ (λ v u l. lost_then (draw_terms schema names es u) _ (λ vs z m. m) (lost_terms es u l)) (lost_term 0 e k lost)

  pub lost_compare : (r : Rel) (b : Term) (v : SymValue) (u : Sketch) → IsLost u → LostTried (drawn_then (draw_term schema names 0 b u) (λ w z. draw_choice z.way.left r v w z))
  lost_compare r b v u lost = lost_tries (draw_term schema names 0 b u) _ (λ w z l. lost_choice z.way.left r v w z l) (lost_term 0 b u lost)

  pub lost_test : (t : Test) (k : Sketch) → IsLost k → LostTried (draw_test schema names t k)
  lost_test (Compare a r b) k lost = lost_tries (draw_term schema names 0 a k) _ (λ v u l. lost_compare r b v u l) (lost_term 0 a k lost)
  lost_test (Negation t) k lost = lost_both (draw_test schema names t k) _ (λ h z l. l) (lost_test t k lost)
  lost_test (Both t q) k lost = lost_both (draw_test schema names t k) _ (λ h y l. lost_both (draw_test schema names q y) _ (λ g z m. m) (lost_test q y l)) (lost_test t k lost)
  lost_test (Either t q) k lost = lost_both (draw_test schema names t k) _ (λ h y l. lost_both (draw_test schema names q y) _ (λ g z m. m) (lost_test q y l)) (lost_test t k lost)

  pub lost_sets : (table : ℕ) (sets : List (Ident × Term)) (k : Sketch) → IsLost k → LostDrawn (draw_sets schema names table sets k)
  lost_sets table [] k lost = lost
  lost_sets table (set ∷ sets) k lost =
      lost_then (draw_term schema names table set.1 k) _ (λ v u l. lost_then (draw_set (merge_in (slice_get (columns_at (slice_get schema table)) set.0.num)) set.0.num v u) _ (λ w z m.
      lost_then (draw_sets schema names table sets z) _ (λ ws q n. n) (lost_sets table sets z m)) (lost_set (merge_in (slice_get (columns_at (slice_get schema table)) set.0.num)) set.0.num v u l)) (lost_term table set.1 k lost)

  pub lost_set_form : (x : ℕ) (v : SymValue) (k : Sketch) → IsLost k → LostRoute (set_form x v k)
  lost_set_form x v k (inl more) = inl more
  lost_set_form x v k (inr wide) = inr wide

  lost_loop : (body : Block) (k : Sketch) → IsLost k → LostRoute (after_loop body k)
  lost_loop body k (inl more) = inl more
  lost_loop body k (inr wide) = inr wide

  pub lost_inserted : (t : Ident) (vs : List SymValue) (u : Sketch) → IsLost u → LostRoute (on_declared (slice_get schema t.num) u (λ d y. on_drawn (draw_inserts d vs 0 d.columns y) (λ ws z. Leads (with_effect (record { table = t.num; act = acts.Insert; writes = ws }) z))))
  lost_inserted t vs u lost = lost_declared (slice_get schema t.num) u _ (λ d y l. lost_on (draw_inserts d vs 0 d.columns y) _ (λ ws z m. lost_effect (record { table = t.num; act = acts.Insert; writes = ws }) z m) (lost_inserts d vs 0 d.columns y l)) lost

  pub lost_drawn : (x t : Ident) (vs : List SymValue) (key : SymValue) (z : Sketch) → IsLost z → LostRoute (then_route (draw_fresh t.num (slice_get schema t.num) vs z) (set_form x.num key))
  lost_drawn x t vs key z lost = lost_next (draw_fresh t.num (slice_get schema t.num) vs z) (set_form x.num key) (λ k l. lost_set_form x.num key k l)
      (lost_with (slice_get schema t.num) (λ d. record { table = t.num; act = acts.Fresh; writes = first_writes (outside_key d 0 d.columns) vs }) z lost)

  pub lost_updated : (t : Ident) (sets : List (Ident × Term)) (u : Sketch) → IsLost u → LostRoute (on_drawn (draw_sets schema names t.num sets (forgetting u)) (λ ws z. draw_update t.num (slice_get schema t.num) ws (forgetting z)))
  lost_updated t sets u lost = lost_on (draw_sets schema names t.num sets (forgetting u)) _ (λ ws z l. lost_with (slice_get schema t.num) (λ d. record { table = t.num; act = acts.Update; writes = in_order d 0 d.columns ws }) (forgetting z) (lost_forgetting z l)) (lost_sets t.num sets (forgetting u) (lost_forgetting u lost))

  mutual
    pub lost_command : (c : Command) (k : Sketch) → IsLost k → LostRoute (draw_command schema names c k)
    lost_command (Declare x e) k lost = lost_on (draw_term schema names 0 e k) _ (λ v z l. lost_set_form x.num v z l) (lost_term 0 e k lost)
    lost_command (Assign x e) k lost = lost_on (draw_term schema names 0 e k) _ (λ v z l. lost_set_form x.num v z l) (lost_term 0 e k lost)
    lost_command (Fetch r t key) k lost = lost_on (draw_terms schema names key k) _ (λ vs z l. l) (lost_terms key k lost)
    lost_command (Choose c ys ns) k lost = lost_sides (draw_test schema names c k) _ _ (λ z l. lost_block ys z l) (λ z l. lost_block ns z l) (lost_test c k lost)
    lost_command (ForRows r t c body) k lost = lost_loop body k lost
    lost_command (ForEach x l body) k lost = lost_loop body k lost
    lost_command (Insert t values) k lost = lost_on (draw_terms schema names values k) _ (λ vs u l. lost_inserted t vs u l) (lost_terms values k lost)
    lost_command (Fresh x t values) k lost = lost_on (draw_terms schema names values k) _ (λ vs u l. lost_on (draw_symbol types.Int u) _ (λ key z m. lost_drawn x t vs key z m) (lost_symbol types.Int u l)) (lost_terms values k lost)
    lost_command (Update t key sets) k lost = lost_on (draw_terms schema names key k) _ (λ vs u l. lost_updated t sets u l) (lost_terms key k lost)
    lost_command (Remove t key) k lost = lost_on (draw_terms schema names key k) _ (λ vs z l. lost_with (slice_get schema t.num) (λ d. record { table = t.num; act = acts.Remove; writes = [] }) z l) (lost_terms key k lost)
    lost_command (Abort n) k lost = tt
    lost_command (Reply e) k lost = lost_on (draw_term schema names 0 e k) _ (λ v z l. l) (lost_term 0 e k lost)

    pub lost_block : (b : Block) (k : Sketch) → IsLost k → LostRoute (draw_block schema names b k)
    lost_block Finish k lost = lost
    lost_block (Then c b) k lost = lost_next (draw_command schema names c k) (draw_block schema names b) (λ z l. lost_block b z l) (lost_command c k lost)
