-- The way of a sketch is the way of its path.
use Rattle.std.proofs.Common.{◌≡◌, ◌∙◌, ℕ, suc, ◌==◌, ◌&&◌, ◌||◌, not, if◌then◌else◌, Bool, true, false, List, [], ◌∷◌, Option, Some, None, slice_get, refl, ap}
use Rattle.std.specs.List.{list_any}
use Rattle.sv_app.specs.declared.acts.Act.TheVariants as acts
use Rattle.sv_app.specs.declared.apps.Ident.{Ident}
use Rattle.sv_app.specs.declared.instances.Source.{Source}
use Rattle.sv_app.specs.declared.instances.Source.TheVariants as sources
use Rattle.sv_app.specs.declared.schemas.Column.{Column}
use Rattle.sv_app.specs.declared.schemas.Merge.{Merge}
use Rattle.sv_app.specs.declared.schemas.Merge.TheVariants as merges
use Rattle.sv_app.specs.declared.schemas.Ty.{Ty}
use Rattle.sv_app.specs.declared.schemas.Ty.TheVariants as types
use Rattle.sv_app.specs.declared.txns.Rel.{Rel}
use Rattle.sv_app.specs.Kinds.{is_grow_only}
use Rattle.sv_app.specs.Paths.{Names, Way, put, brought, brought_old, term_way, terms_way, Tested, then_tested, next_choice, test_way, merge_in, columns_at, now_way, sets_way, kept_way, columns_way, insert_way, Path, then_lead, on_side, formed, command_path, block_path}
use Rattle.sv_app.specs.Paths as paths
use Rattle.sv_app.specs.Schema.{Declaration}
use Rattle.sv_app.specs.Slots.{item}
use Rattle.sv_app.specs.Symbols.{is_known, is_factor, is_key_column}
use Rattle.sv_app.specs.Trees.{Term, Number, Words, Variable, Field, Old, Minus, Sum, Difference, Product, Test, Compare, Negation, Both, Either, Command, Declare, Assign, Fetch, Choose, ForRows, ForEach, Insert, Fresh, Update, Remove, Abort, Reply, Block, Finish, Then}
use Rattle.sv_linear.specs.Effects.{SymValue, SymWrite}
use Rattle.sv_symbolic.specs.Sketches.{Sketch, Drawn, Draws, then_draws, draw_source, draw_old, draw_symbol, draw_product, draw_term, draw_terms, Tried, Short, Tells, then_tried, drawn_then, draw_choice, draw_test, zero_form}
use Rattle.sv_symbolic.specs.Routes.{draw_set, draw_sets, draw_insert, draw_inserts, first_writes, Route, Aborts, TooFew, Leads, then_route, on_drawn, on_tried, on_declared, set_form, with_effect, forgetting, draw_command, draw_block}
use Rattle.sv_effect.specs.RunChanges.{outside_key}
use Rattle.sv_symbolic.specs.Laws.{path_in}

abbrev way_in : {A : Type 0} → Drawn A → Way
way_in (Draws v k) = k.way

abbrev tested_in : Tried → Tested
tested_in Short = paths.Short
tested_in (Tells holds k) = paths.Tells holds k.way

way_then : {A B : Type 0} (x : Drawn A) (go : A → Sketch → Drawn B) (w : Way → Way) → ((v : A) (u : Sketch) → way_in (go v u) ≡ w u.way) → way_in (then_draws x go) ≡ w (way_in x)
way_then (Draws v k) go w h = h v k

tested_then : {A : Type 0} (x : Drawn A) (go : A → Sketch → Tried) (w : Way → Tested) → ((v : A) (u : Sketch) → tested_in (go v u) ≡ w u.way) → tested_in (drawn_then x go) ≡ w (way_in x)
tested_then (Draws v k) go w h = h v k

tried_then : (x : Tried) (go : Bool → Sketch → Tried) (w : Bool → Way → Tested) → ((h : Bool) (u : Sketch) → tested_in (go h u) ≡ w h u.way) → tested_in (then_tried x go) ≡ then_tested (tested_in x) w
tried_then Short go w h = refl
tried_then (Tells b k) go w h = h b k

path_then : {A : Type 0} (x : Drawn A) (go : A → Sketch → Route) (w : Way → Path) → ((v : A) (u : Sketch) → path_in (go v u) ≡ w u.way) → path_in (on_drawn x go) ≡ w (way_in x)
path_then (Draws v k) go w h = h v k

module _ (schema : List Declaration) (names : Names) where
  source_way : (q : Source) (ty : Ty) (k : Sketch) → way_in (draw_source q ty k) ≡ brought q ty k.way
  source_way q ty k = by_test (is_known q k.way.known) refl
    where
      by_test : (b : Bool) → is_known q k.way.known ≡ b → way_in (draw_source q ty k) ≡ brought q ty k.way
      by_test true e = rw (e) refl
      by_test false e = rw (e) refl

  old_way : (c : ℕ) (ty : Ty) (k : Sketch) → way_in (draw_old c ty k) ≡ brought_old c ty k.way
  old_way c ty k = by_test (list_any (λ d. c == d) k.way.known_old) refl
    where
      by_test : (b : Bool) → list_any (λ d. c == d) k.way.known_old ≡ b → way_in (draw_old c ty k) ≡ brought_old c ty k.way
      by_test true e = rw (e) refl
      by_test false e = rw (e) refl

  product_way : (a b : Bool) (v w : SymValue) (k : Sketch) → way_in (draw_product a b v w k) ≡ (if a || b then k.way else put types.Int k.way)
  product_way true b v w k = refl
  product_way false true v w k = refl
  product_way false false v w k = refl

  way_of_term : (table : ℕ) (e : Term) (k : Sketch) → way_in (draw_term schema names table e k) ≡ term_way schema names table e k.way
  way_of_term table (Number n s) k = refl
  way_of_term table (Words t s) k = refl
  way_of_term table (Variable x s) k = source_way (sources.Variable x.num) _ k
  way_of_term table (Field r c s) k = source_way (sources.Column r.num c.num) _ k
  way_of_term table (Old c s) k = old_way c.num _ k
  way_of_term table (Minus a s) k = way_then (draw_term schema names table a k) _ (λ w. w) (λ v u. refl) ∙ way_of_term table a k
  way_of_term table (Sum a b s) k =
      way_then (draw_term schema names table a k) _ (term_way schema names table b) (λ v u. way_then (draw_term schema names table b u) _ (λ w. w) (λ x z. refl) ∙ way_of_term table b u)
      ∙ ap (term_way schema names table b) (way_of_term table a k)
  way_of_term table (Difference a b s) k =
      way_then (draw_term schema names table a k) _ (term_way schema names table b) (λ v u. way_then (draw_term schema names table b u) _ (λ w. w) (λ x z. refl) ∙ way_of_term table b u)
      ∙ ap (term_way schema names table b) (way_of_term table a k)
  way_of_term table (Product a b s) k =
      let after : Way → Way = λ z. if is_factor a || is_factor b then z else put types.Int z in
      way_then (draw_term schema names table a k) _ (λ w. after (term_way schema names table b w))
      (λ v u. way_then (draw_term schema names table b u) _ after (λ x z. product_way (is_factor a) (is_factor b) v x z) ∙ ap after (way_of_term table b u))
      ∙ ap (λ w. after (term_way schema names table b w)) (way_of_term table a k)

  way_of_terms : (es : List Term) (k : Sketch) → way_in (draw_terms schema names es k) ≡ terms_way schema names es k.way
  way_of_terms [] k = refl
  way_of_terms (e ∷ es) k =
      way_then (draw_term schema names 0 e k) _ (terms_way schema names es) (λ v u. way_then (draw_terms schema names es u) _ (λ w. w) (λ x z. refl) ∙ way_of_terms es u)
      ∙ ap (terms_way schema names es) (way_of_term 0 e k)

  choice_way : (left : List Bool) (r : Rel) (v w : SymValue) (k : Sketch) → tested_in (draw_choice left r v w k) ≡ next_choice left k.way
  choice_way [] r v w k = refl
  choice_way (h ∷ left) r v w k = refl

  way_of_test : (t : Test) (k : Sketch) → tested_in (draw_test schema names t k) ≡ test_way schema names t k.way
  way_of_test (Compare a r b) k =
      let next : Way → Tested = λ z. next_choice z.left z in
      tested_then (draw_term schema names 0 a k) _ (λ w. next (term_way schema names 0 b w)) (λ v u. tested_then (draw_term schema names 0 b u) _ next (λ x z. choice_way z.way.left r v x z) ∙ ap next (way_of_term 0 b u))
      ∙ ap (λ w. next (term_way schema names 0 b w)) (way_of_term 0 a k)
  way_of_test (Negation t) k = tried_then (draw_test schema names t k) _ (λ h z. paths.Tells (not h) z) (λ h u. refl) ∙ ap (λ x. then_tested x (λ h z. paths.Tells (not h) z)) (way_of_test t k)
  way_of_test (Both t q) k =
      let after : Bool → Way → Tested = λ h y. then_tested (test_way schema names q y) (λ g z. paths.Tells (h && g) z) in
      tried_then (draw_test schema names t k) _ after (λ h u. tried_then (draw_test schema names q u) _ (λ g z. paths.Tells (h && g) z) (λ g z. refl) ∙ ap (λ x. then_tested x (λ g z. paths.Tells (h && g) z)) (way_of_test q u))
      ∙ ap (λ x. then_tested x after) (way_of_test t k)
  way_of_test (Either t q) k =
      let after : Bool → Way → Tested = λ h y. then_tested (test_way schema names q y) (λ g z. paths.Tells (h || g) z) in
      tried_then (draw_test schema names t k) _ after (λ h u. tried_then (draw_test schema names q u) _ (λ g z. paths.Tells (h || g) z) (λ g z. refl) ∙ ap (λ x. then_tested x (λ g z. paths.Tells (h || g) z)) (way_of_test q u))
      ∙ ap (λ x. then_tested x after) (way_of_test t k)

  set_way : (m : Merge) (c : ℕ) (v : SymValue) (k : Sketch) → way_in (draw_set m c v k) ≡ now_way m c k.way
  set_way merges.NumDelta c v k = way_then (draw_old c types.Int k) _ (λ w. w) (λ x u. refl) ∙ old_way c types.Int k
  set_way merges.Plain c v k = refl
  set_way merges.Lww c v k = refl
  set_way merges.Fresh c v k = refl

  way_of_sets : (table : ℕ) (sets : List (Ident × Term)) (k : Sketch) → way_in (draw_sets schema names table sets k) ≡ sets_way schema names table sets k.way
  way_of_sets table [] k = refl
  way_of_sets table (set ∷ sets) k =
      let m : Merge = merge_in (slice_get (columns_at (slice_get schema table)) set.0.num) in
      let after : Way → Way = λ w. sets_way schema names table sets (now_way m set.0.num w) in
      way_then (draw_term schema names table set.1 k) _ after
      (λ v u. way_then (draw_set m set.0.num v u) _ (sets_way schema names table sets) (λ x z. way_then (draw_sets schema names table sets z) _ (λ w. w) (λ ws y. refl) ∙ way_of_sets table sets z)
      ∙ ap (sets_way schema names table sets) (set_way m set.0.num v u))
      ∙ ap after (way_of_term table set.1 k)

  insert_step : (grows : Bool) (m : Merge) (v : SymValue) (k : Sketch) → way_in (draw_insert grows m v k) ≡ (if grows then k.way else kept_way m k.way)
  insert_step true merges.NumDelta v k = refl
  insert_step false merges.NumDelta v k = refl
  insert_step true merges.Plain v k = refl
  insert_step false merges.Plain v k = refl
  insert_step true merges.Lww v k = refl
  insert_step false merges.Lww v k = refl
  insert_step true merges.Fresh v k = refl
  insert_step false merges.Fresh v k = refl

  abbrev where_kept : Bool → (Way → Way) → Way → Way
  where_kept grows go w = if grows then w else go w

  way_of_inserts : (t : Declaration) (grows : Bool) (vs : List SymValue) (c : ℕ) (columns : List Column) (k : Sketch) → is_grow_only t.kind ≡ grows
      → way_in (draw_inserts t vs c columns k) ≡ where_kept grows (columns_way t c columns) k.way
  way_of_inserts t true vs c [] k e = refl
  way_of_inserts t false vs c [] k e = refl
  way_of_inserts t grows vs c (column ∷ columns) k e = by_key (is_key_column t.key c) (way_of_inserts t grows vs (suc c) columns k e) (λ u. way_of_inserts t grows vs (suc c) columns u e)
    where
      skip : (b : Bool) (go : Way → Way) (w : Way) → where_kept b go (if b then w else kept_way column.merge w) ≡ where_kept b (λ x. go (kept_way column.merge x)) w
      skip true go w = refl
      skip false go w = refl

      by_key : (b : Bool) → way_in (draw_inserts t vs (suc c) columns k) ≡ where_kept grows (columns_way t (suc c) columns) k.way
          → ((u : Sketch) → way_in (draw_inserts t vs (suc c) columns u) ≡ where_kept grows (columns_way t (suc c) columns) u.way)
          → way_in (if b then draw_inserts t vs (suc c) columns k else then_draws (draw_insert (is_grow_only t.kind) column.merge (item zero_form vs c) k) (λ w u. then_draws (draw_inserts t vs (suc c) columns u) (λ ws z. Draws ((c, w) ∷ ws) z)))
          ≡ where_kept grows (λ w. columns_way t (suc c) columns (if b then w else kept_way column.merge w)) k.way
      by_key true same more = same
      by_key false same more =
          way_then (draw_insert (is_grow_only t.kind) column.merge (item zero_form vs c) k) _ (where_kept grows (columns_way t (suc c) columns)) (λ w u. way_then (draw_inserts t vs (suc c) columns u) _ (λ x. x) (λ ws z. refl) ∙ more u)
          ∙ ap (where_kept grows (columns_way t (suc c) columns)) (insert_step (is_grow_only t.kind) column.merge (item zero_form vs c) k ∙ ap (λ b. if b then k.way else kept_way column.merge k.way) e)
          ∙ skip grows (columns_way t (suc c) columns) k.way

  declared_way : (o : Option Declaration) (vs : List SymValue) (t : ℕ) (u : Sketch) (last : List (ℕ × SymWrite) → Sketch → Route) → ((ws : List (ℕ × SymWrite)) (z : Sketch) → path_in (last ws z) ≡ paths.Leads z.way)
      → path_in (on_declared o u (λ d y. on_drawn (draw_inserts d vs 0 d.columns y) last)) ≡ paths.Leads (insert_way o u.way)
  declared_way None vs t u last h = refl
  declared_way (Some d) vs t u last h = path_then (draw_inserts d vs 0 d.columns u) last (λ w. paths.Leads w) h ∙ ap (λ w. paths.Leads w) (way_of_inserts d (is_grow_only d.kind) vs 0 d.columns u refl)

  fresh_way : (o : Option Declaration) (x : ℕ) (u : Sketch) (go : Declaration → Sketch → Sketch) → ((d : Declaration) (y : Sketch) → (go d y).way ≡ y.way)
      → path_in (on_drawn (draw_symbol types.Int u) (λ key z. then_route (on_declared o z (λ d y. Leads (go d y))) (set_form x key))) ≡ paths.Leads (formed x (put types.Int u.way))
  fresh_way None x u go h = refl
  fresh_way (Some d) x u go h = ap (λ w. paths.Leads (formed x w)) (h d _)

  on_table : (o : Option Declaration) (z : Sketch) (go : Declaration → Sketch → Route) → ((d : Declaration) (y : Sketch) → path_in (go d y) ≡ paths.Leads y.way) → path_in (on_declared o z go) ≡ paths.Leads z.way
  on_table None z go h = refl
  on_table (Some d) z go h = h d z

  on_side_in : (x : Tried) (a b : Sketch → Route) (p q : Way → Path) → ((k : Sketch) → path_in (a k) ≡ p k.way) → ((k : Sketch) → path_in (b k) ≡ q k.way) → path_in (on_tried x a b) ≡ on_side (tested_in x) p q
  on_side_in Short a b p q f g = refl
  on_side_in (Tells true k) a b p q f g = f k
  on_side_in (Tells false k) a b p q f g = g k

  lead_in : (x : Route) (a : Sketch → Route) (p : Way → Path) → ((k : Sketch) → path_in (a k) ≡ p k.way) → path_in (then_route x a) ≡ then_lead (path_in x) p
  lead_in (Aborts k) a p f = refl
  lead_in TooFew a p f = refl
  lead_in (Leads k) a p f = f k

  mutual
    path_of_command : (c : Command) (k : Sketch) → path_in (draw_command schema names c k) ≡ command_path schema names c k.way
    path_of_command (Declare x e) k = path_then (draw_term schema names 0 e k) _ (λ w. paths.Leads (formed x.num w)) (λ v u. refl) ∙ ap (λ w. paths.Leads (formed x.num w)) (way_of_term 0 e k)
    path_of_command (Assign x e) k = path_then (draw_term schema names 0 e k) _ (λ w. paths.Leads (formed x.num w)) (λ v u. refl) ∙ ap (λ w. paths.Leads (formed x.num w)) (way_of_term 0 e k)
    path_of_command (Fetch r t key) k = path_then (draw_terms schema names key k) _ (λ w. paths.Leads w) (λ v u. refl) ∙ ap (λ w. paths.Leads w) (way_of_terms key k)
    path_of_command (Choose c ys ns) k =
        on_side_in (draw_test schema names c k) (draw_block schema names ys) (draw_block schema names ns) (block_path schema names ys) (block_path schema names ns) (λ u. path_of_block ys u) (λ u. path_of_block ns u)
        ∙ ap (λ t. on_side t (block_path schema names ys) (block_path schema names ns)) (way_of_test c k)
    path_of_command (ForRows r t c body) k = refl
    path_of_command (ForEach x l body) k = refl
    path_of_command (Insert t vs) k =
        path_then (draw_terms schema names vs k) _ (λ w. paths.Leads (insert_way (slice_get schema t.num) w)) (λ fs u. declared_way (slice_get schema t.num) fs t.num u _ (λ ws z. refl))
        ∙ ap (λ w. paths.Leads (insert_way (slice_get schema t.num) w)) (way_of_terms vs k)
    path_of_command (Fresh x t vs) k =
        path_then (draw_terms schema names vs k) _ (λ w. paths.Leads (formed x.num (put types.Int w))) (λ fs u. fresh_way (slice_get schema t.num) x.num u (λ d y. with_effect (record { table = t.num; act = acts.Fresh; writes = first_writes (outside_key d 0 d.columns) fs }) y) (λ d y. refl))
        ∙ ap (λ w. paths.Leads (formed x.num (put types.Int w))) (way_of_terms vs k)
    path_of_command (Update t key sets) k =
        let after : Way → Way = λ w. paths.forgetting (sets_way schema names t.num sets (paths.forgetting w)) in
        path_then (draw_terms schema names key k) _ (λ w. paths.Leads (after w))
        (λ fs u. path_then (draw_sets schema names t.num sets (forgetting u)) _ (λ w. paths.Leads (paths.forgetting w)) (λ ws z. on_table (slice_get schema t.num) (forgetting z) _ (λ d y. refl))
        ∙ ap (λ w. paths.Leads (paths.forgetting w)) (way_of_sets t.num sets (forgetting u)))
        ∙ ap (λ w. paths.Leads (after w)) (way_of_terms key k)
    path_of_command (Remove t key) k = path_then (draw_terms schema names key k) _ (λ w. paths.Leads w) (λ v u. on_table (slice_get schema t.num) u _ (λ d y. refl)) ∙ ap (λ w. paths.Leads w) (way_of_terms key k)
    path_of_command (Abort n) k = refl
    path_of_command (Reply e) k = path_then (draw_term schema names 0 e k) _ (λ w. paths.Leads w) (λ v u. refl) ∙ ap (λ w. paths.Leads w) (way_of_term 0 e k)

    pub path_of_block : (b : Block) (k : Sketch) → path_in (draw_block schema names b k) ≡ block_path schema names b k.way
    path_of_block Finish k = refl
    path_of_block (Then c b) k = lead_in (draw_command schema names c k) (draw_block schema names b) (block_path schema names b) (λ u. path_of_block b u) ∙ ap (λ p. then_lead p (block_path schema names b)) (path_of_command c k)
