-- Sources that are known behind a statement are of names that were declared before or in it.
use Rattle.std.proofs.Common.{◌≡◌, ◌⊎◌, inl, inr, ℕ, suc, ◌<◌, ◌≤◌, ◌==◌, ◌&&◌, ◌||◌, not, if◌then◌else◌, Bool, true, false, List, [], ◌∷◌, ◌++◌, Option, Some, None, slice_get, refl, sym, ap, subst, ◌∙◌, arith}
use Rattle.std.specs.List.{list_any}
use Rattle.sv_app.specs.declared.apps.Ident.{Ident}
use Rattle.sv_app.specs.declared.instances.Source.{Source}
use Rattle.sv_app.specs.declared.instances.Source.TheVariants as sources
use Rattle.sv_app.specs.declared.names.Known.{Known}
use Rattle.sv_app.specs.declared.names.Meaning.{Meaning}
use Rattle.sv_app.specs.declared.schemas.Column.{Column}
use Rattle.sv_app.specs.declared.schemas.Merge.{Merge}
use Rattle.sv_app.specs.declared.schemas.Merge.TheVariants as merges
use Rattle.sv_app.specs.declared.schemas.Ty.{Ty}
use Rattle.sv_app.specs.declared.schemas.Ty.TheVariants as types
use Rattle.sv_app.specs.Kinds.{is_grow_only}
use Rattle.sv_app.specs.Paths.{Names, Way, put, brought, brought_old, term_way, terms_way, Tested, Short, Tells, then_tested, next_choice, test_way, merge_in, columns_at, now_way, sets_way, kept_way, columns_way, insert_way, Path, Aborts, TooFew, Leads, then_lead, on_side, forgetting, command_path, block_path}
use Rattle.sv_app.specs.Schema.{Declaration}
use Rattle.sv_app.specs.Scopes.{Scope}
use Rattle.sv_app.specs.Symbols.{is_same_source, is_known, is_factor, is_key_column, is_one_of, block_assigns, known_after}
use Rattle.sv_app.specs.Trees.{Term, Number, Words, Variable, Field, Old, Minus, Sum, Difference, Product, Test, Compare, Negation, Both, Either, Command, Declare, Assign, Fetch, Choose, ForRows, ForEach, Insert, Fresh, Update, Remove, Abort, Reply, Block, Finish, Then}
use Rattle.sv_app.specs.TxnTyping.{behind}
use Rattle.sv_trace.specs.Standing.{Frame, Means, IsValue, IsRow, Reads, AllRead, TestReads, SetsSuit, behind_set, Suits, BlockSuits}
use Rattle.sv_trace.specs.Places.{next, block_next, Placed, BlockPlaced, name_in, KnownBelow, ScopeBelow}
use Rattle.sv_symbolic.proofs.DrawLaws.{known_end, same_source}

mutual
  pub not_fewer : (c : Command) (k : ℕ) → k ≤ next k c
  not_fewer (Declare x e) k = omega arith
  not_fewer (Assign x e) k = omega arith
  not_fewer (Fetch r t key) k = omega arith
  not_fewer (Choose c ys ns) k = let a = block_not_fewer ys k in let b = block_not_fewer ns (block_next k ys) in omega (arith, a, b)
  not_fewer (ForRows r t c body) k = let a = block_not_fewer body (suc k) in omega (arith, a)
  not_fewer (ForEach x l body) k = let a = block_not_fewer body (suc k) in omega (arith, a)
  not_fewer (Insert t vs) k = omega arith
  not_fewer (Fresh x t vs) k = omega arith
  not_fewer (Update t key ss) k = omega arith
  not_fewer (Remove t key) k = omega arith
  not_fewer (Abort n) k = omega arith
  not_fewer (Reply e) k = omega arith

  pub block_not_fewer : (b : Block) (k : ℕ) → k ≤ block_next k b
  block_not_fewer Finish k = omega arith
  block_not_fewer (Then c b) k = let x = not_fewer c k in let y = block_not_fewer b (next k c) in omega (arith, x, y)

pub known_wider : (j k : ℕ) (known : List Source) → j ≤ k → KnownBelow j known → KnownBelow k known
known_wider j k known le below = record { each = λ q is. let less : name_in q < j = below.each q is in omega (arith, le, less) }

pub scope_wider : (j k : ℕ) (known : List Known) → j ≤ k → ScopeBelow j known → ScopeBelow k known
scope_wider j k known le below = record {
  values = λ x is. let less : x < j = below.values x is in omega (arith, le, less);
  rows = λ x is. let less : x < j = below.rows x is in omega (arith, le, less);
}

pub known_more : (k : ℕ) (known : List Source) (q : Source) → name_in q < k → KnownBelow k known → KnownBelow k (known ++ q ∷ [])
known_more k known q less below = record { each = λ p is. by_source p (is_same_source p q) refl is }
  where
    by_source : (p : Source) (b : Bool) → is_same_source p q ≡ b → is_known p (known ++ q ∷ []) ≡ true → name_in p < k
    by_source p true same is = subst (λ x. name_in x < k) (sym (same_source p q same)) less
    by_source p false other is = below.each p (known_end (is_same_source p) known q other is)

below_brought : (k : ℕ) (q : Source) (ty : Ty) (w : Way) → name_in q < k → KnownBelow k w.known → KnownBelow k (brought q ty w).known
below_brought k q ty w less below = by_test (is_known q w.known)
  where
    by_test : (b : Bool) → KnownBelow k (if b then w else put ty (record w { known = w.known ++ q ∷ [] })).known
    by_test true = below
    by_test false = known_more k w.known q less below

old_known : (c : ℕ) (ty : Ty) (w : Way) → (brought_old c ty w).known ≡ w.known
old_known c ty w = by_test (list_any (λ d. c == d) w.known_old)
  where
    by_test : (b : Bool) → (if b then w else put ty (record w { known_old = w.known_old ++ c ∷ [] })).known ≡ w.known
    by_test true = refl
    by_test false = refl

module _ (schema : List Declaration) (names : Names) where
  pub below_term : (at : Scope) (k table : ℕ) (e : Term) (w : Way) → ScopeBelow k at.known → Reads at e → KnownBelow k w.known → KnownBelow k (term_way schema names table e w).known
  below_term at k table (Number n s) w scope reads below = below
  below_term at k table (Words t s) w scope reads below = below
  below_term at k table (Variable x s) w scope reads below = below_brought k (sources.Variable x.num) _ w (scope.values x.num reads) below
  below_term at k table (Field r c s) w scope reads below = below_brought k (sources.Column r.num c.num) _ w (scope.rows r.num reads) below
  below_term at k table (Old c s) w scope reads below = subst (KnownBelow k) (sym (old_known c.num _ w)) below
  below_term at k table (Minus a s) w scope reads below = below_term at k table a w scope reads below
  below_term at k table (Sum a b s) w scope reads below = below_term at k table b (term_way schema names table a w) scope reads.1 (below_term at k table a w scope reads.0 below)
  below_term at k table (Difference a b s) w scope reads below = below_term at k table b (term_way schema names table a w) scope reads.1 (below_term at k table a w scope reads.0 below)
  below_term at k table (Product a b s) w scope reads below = by_test (is_factor a || is_factor b) (below_term at k table b (term_way schema names table a w) scope reads.1 (below_term at k table a w scope reads.0 below))
    where
      z : Way
      z = term_way schema names table b (term_way schema names table a w)

      by_test : (x : Bool) → KnownBelow k z.known → KnownBelow k (if x then z else put types.Int z).known
      by_test true h = h
      by_test false h = h

  pub below_terms : (at : Scope) (k : ℕ) (es : List Term) (w : Way) → ScopeBelow k at.known → AllRead at es → KnownBelow k w.known → KnownBelow k (terms_way schema names es w).known
  below_terms at k [] w scope reads below = below
  below_terms at k (e ∷ es) w scope reads below = below_terms at k es (term_way schema names 0 e w) scope reads.1 (below_term at k 0 e w scope reads.0 below)

  same_tells : (a b : Bool) (w z : Way) → Tells a w ≡ Tells b z → w ≡ z
  same_tells a b w z e = cc

  next_known : (left : List Bool) (z w : Way) (h : Bool) → next_choice left z ≡ Tells h w → w.known ≡ z.known
  next_known [] z w h e = absurd cc
  next_known (x ∷ left) z w h e = ap (λ (y : Way). y.known) (sym (same_tells x h (record z { left = left }) w e))

  record TellsThen (first : Tested) (go : Bool → Way → Tested) (h : Bool) (w : Way) : Type 0 where
    told : Bool
    mid : Way
    is : first ≡ Tells told mid
    rest : go told mid ≡ Tells h w

  tells_then : (first : Tested) (go : Bool → Way → Tested) (h : Bool) (w : Way) → then_tested first go ≡ Tells h w → TellsThen first go h w
  tells_then Short go h w e = absurd cc
  tells_then (Tells x z) go h w e = record { told = x; mid = z; is = refl; rest = e }

  pub below_test : (at : Scope) (k : ℕ) (t : Test) (w z : Way) (h : Bool) → ScopeBelow k at.known → TestReads at t → KnownBelow k w.known → test_way schema names t w ≡ Tells h z → KnownBelow k z.known
  below_test at k (Compare a r b) w z h scope reads below e =
      let y : Way = term_way schema names 0 b (term_way schema names 0 a w) in
      subst (KnownBelow k) (sym (next_known y.left y z h e)) (below_term at k 0 b (term_way schema names 0 a w) scope reads.1 (below_term at k 0 a w scope reads.0 below))
  below_test at k (Negation t) w z h scope reads below e =
      let g = tells_then (test_way schema names t w) (λ x y. Tells (not x) y) h z e in
      subst (λ (y : Way). KnownBelow k y.known) (same_tells (not g.told) h g.mid z g.rest) (below_test at k t w g.mid g.told scope reads below g.is)
  below_test at k (Both t q) w z h scope reads below e =
      let g = tells_then (test_way schema names t w) (λ x y. then_tested (test_way schema names q y) (λ b v. Tells (x && b) v)) h z e in
      let i = tells_then (test_way schema names q g.mid) (λ b v. Tells (g.told && b) v) h z g.rest in
      subst (λ (y : Way). KnownBelow k y.known) (same_tells (g.told && i.told) h i.mid z i.rest) (below_test at k q g.mid i.mid i.told scope reads.1 (below_test at k t w g.mid g.told scope reads.0 below g.is) i.is)
  below_test at k (Either t q) w z h scope reads below e =
      let g = tells_then (test_way schema names t w) (λ x y. then_tested (test_way schema names q y) (λ b v. Tells (x || b) v)) h z e in
      let i = tells_then (test_way schema names q g.mid) (λ b v. Tells (g.told || b) v) h z g.rest in
      subst (λ (y : Way). KnownBelow k y.known) (same_tells (g.told || i.told) h i.mid z i.rest) (below_test at k q g.mid i.mid i.told scope reads.1 (below_test at k t w g.mid g.told scope reads.0 below g.is) i.is)

  now_known : (m : Merge) (c : ℕ) (w : Way) → (now_way m c w).known ≡ w.known
  now_known merges.NumDelta c w = old_known c types.Int w
  now_known merges.Plain c w = refl
  now_known merges.Lww c w = refl
  now_known merges.Fresh c w = refl

  below_sets : (f : Frame) (at : Scope) (k : ℕ) (t : Ident) (sets : List (Ident × Term)) (w : Way) → ScopeBelow k at.known → SetsSuit f (behind_set at t) t sets → KnownBelow k w.known → KnownBelow k (sets_way schema names t.num sets w).known
  below_sets f at k t [] w scope suit below = below
  below_sets f at k t (set ∷ sets) w scope suit below =
      let m : Merge = merge_in (slice_get (columns_at (slice_get schema t.num)) set.0.num) in
      let y : Way = term_way schema names t.num set.1 w in
      below_sets f at k t sets (now_way m set.0.num y) scope suit.2 (subst (KnownBelow k) (sym (now_known m set.0.num y)) (below_term (behind_set at t) k t.num set.1 w scope suit.0 below))

  kept_known : (m : Merge) (w : Way) → (kept_way m w).known ≡ w.known
  kept_known merges.NumDelta w = refl
  kept_known merges.Plain w = refl
  kept_known merges.Lww w = refl
  kept_known merges.Fresh w = refl

  columns_known : (t : Declaration) (c : ℕ) (columns : List Column) (w : Way) → (columns_way t c columns w).known ≡ w.known
  columns_known t c [] w = refl
  columns_known t c (k ∷ columns) w = columns_known t (suc c) columns (if is_key_column t.key c then w else kept_way k.merge w) ∙ by_key (is_key_column t.key c)
    where
      by_key : (b : Bool) → (if b then w else kept_way k.merge w).known ≡ w.known
      by_key true = refl
      by_key false = kept_known k.merge w

  insert_known : (o : Option Declaration) (w : Way) → (insert_way o w).known ≡ w.known
  insert_known None w = refl
  insert_known (Some t) w = by_kind (is_grow_only t.kind)
    where
      by_kind : (b : Bool) → (if b then w else columns_way t 0 t.columns w).known ≡ w.known
      by_kind true = refl
      by_kind false = columns_known t 0 t.columns w

  pub fewer_known : (assigned : List ℕ) (known : List Source) (q : Source) → is_known q (known_after assigned known) ≡ true → is_known q known ≡ true
  fewer_known assigned [] q e = e
  fewer_known assigned (p ∷ known) q e = by_one (is_one_of assigned p) (fewer_known assigned known q) e
    where
      by_one : (b : Bool) → (is_known q (known_after assigned known) ≡ true → is_known q known ≡ true) → is_known q (if not b then p ∷ known_after assigned known else known_after assigned known) ≡ true → (is_same_source q p || is_known q known) ≡ true
      by_one true ih e = or_right (is_same_source q p) (ih e)
        where
          or_right : (x : Bool) → is_known q known ≡ true → (x || is_known q known) ≡ true
          or_right true h = refl
          or_right false h = h
      by_one false ih e = by_same (is_same_source q p) e
        where
          by_same : (x : Bool) → (x || is_known q (known_after assigned known)) ≡ true → (x || is_known q known) ≡ true
          by_same true h = refl
          by_same false h = ih h

  same_leads : (w z : Way) → Leads w ≡ Leads z → w ≡ z
  same_leads w z e = cc

  after_lead : (k : ℕ) (w z : Way) → Leads w ≡ Leads z → KnownBelow k w.known → KnownBelow k z.known
  after_lead k w z e below = subst (λ (y : Way). KnownBelow k y.known) (same_leads w z e) below

  record LeadsThen (first : Path) (go : Way → Path) (w : Way) : Type 0 where
    mid : Way
    is : first ≡ Leads mid
    rest : go mid ≡ Leads w

  leads_then : (first : Path) (go : Way → Path) (w : Way) → then_lead first go ≡ Leads w → LeadsThen first go w
  leads_then (Aborts z) go w e = absurd cc
  leads_then TooFew go w e = absurd cc
  leads_then (Leads z) go w e = record { mid = z; is = refl; rest = e }

  pub value_behind : (k : ℕ) (known : List Known) (x : Ident) (m : Meaning) → x.num ≡ k → ScopeBelow k known → ScopeBelow (suc k) (record { name = x; meaning = m } ∷ known)
  value_behind k known x m number below = record { values = values; rows = rows }
    where
      values : (y : ℕ) → ((x.num ≡ y) × IsValue m) ⊎ Means IsValue known y → y < suc k
      values y (inl here) = let e : x.num ≡ y = here.0 in omega (arith, e, number)
      values y (inr more) = let less : y < k = below.values y more in omega (arith, less)

      rows : (y : ℕ) → ((x.num ≡ y) × IsRow m) ⊎ Means IsRow known y → y < suc k
      rows y (inl here) = let e : x.num ≡ y = here.0 in omega (arith, e, number)
      rows y (inr more) = let less : y < k = below.rows y more in omega (arith, less)

  pub scope_behind : (outer : Bool) (at : Scope) (k : ℕ) (c : Command) → Placed outer k c → ScopeBelow k at.known → ScopeBelow (next k c) (behind at c).known
  scope_behind outer at k (Declare x e) placed below = value_behind k at.known x _ placed below
  scope_behind outer at k (Assign x e) placed below = below
  scope_behind outer at k (Fetch r t key) placed below = value_behind k at.known r _ placed below
  scope_behind outer at k (Choose c ys ns) placed below = scope_wider k (next k (Choose c ys ns)) at.known (not_fewer (Choose c ys ns) k) below
  scope_behind outer at k (ForRows r t c body) placed below = scope_wider k (next k (ForRows r t c body)) at.known (not_fewer (ForRows r t c body) k) below
  scope_behind outer at k (ForEach x l body) placed below = scope_wider k (next k (ForEach x l body)) at.known (not_fewer (ForEach x l body) k) below
  scope_behind outer at k (Insert t vs) placed below = below
  scope_behind outer at k (Fresh x t vs) placed below = value_behind k at.known x _ placed below
  scope_behind outer at k (Update t key ss) placed below = below
  scope_behind outer at k (Remove t key) placed below = below
  scope_behind outer at k (Abort n) placed below = below
  scope_behind outer at k (Reply e) placed below = below

  below_loop : (k : ℕ) (body : Block) (w z : Way) → KnownBelow k w.known → Leads (record w { known = known_after (block_assigns body) w.known }) ≡ Leads z → KnownBelow k z.known
  below_loop k body w z below e = after_lead k (record w { known = known_after (block_assigns body) w.known }) z e (record { each = λ q is. below.each q (fewer_known (block_assigns body) w.known q is) })

  module _ (f : Frame) where
    mutual
      pub below_command : (outer : Bool) (c : Command) (at : Scope) (k : ℕ) (w z : Way) → Suits f at c → Placed outer k c → ScopeBelow k at.known → KnownBelow k w.known → command_path schema names c w ≡ Leads z → KnownBelow (next k c) z.known
      below_command outer (Declare x e) at k w z suits placed scope below is =
          after_lead (suc k) _ z is (known_more (suc k) (term_way schema names 0 e w).known (sources.Variable x.num) (omega (arith, placed)) (known_wider k (suc k) _ (omega arith) (below_term at k 0 e w scope suits.0 below)))
      below_command outer (Assign x e) at k w z suits placed scope below is = after_lead k _ z is (known_more k (term_way schema names 0 e w).known (sources.Variable x.num) placed (below_term at k 0 e w scope suits.0 below))
      below_command outer (Fetch r t key) at k w z suits placed scope below is = after_lead (suc k) _ z is (known_wider k (suc k) _ (omega arith) (below_terms at k key w scope suits.0 below))
      below_command outer (Choose c ys ns) at k w z suits placed scope below is = by_side (test_way schema names c w) refl is
          (λ v e h. below_block outer ys at k v z suits.1 placed.0 scope h e)
          (λ v e h. below_block outer ns at (block_next k ys) v z suits.2 placed.1 (scope_wider k (block_next k ys) at.known (block_not_fewer ys k) scope) (known_wider k (block_next k ys) v.known (block_not_fewer ys k) h) e)
        where
          by_side : (o : Tested) → test_way schema names c w ≡ o → on_side o (block_path schema names ys) (block_path schema names ns) ≡ Leads z
              → ((v : Way) → block_path schema names ys v ≡ Leads z → KnownBelow k v.known → KnownBelow (block_next k ys) z.known)
              → ((v : Way) → block_path schema names ns v ≡ Leads z → KnownBelow k v.known → KnownBelow (block_next (block_next k ys) ns) z.known) → KnownBelow (block_next (block_next k ys) ns) z.known
          by_side Short told e yes_ no_ = absurd cc
          by_side (Tells true v) told e yes_ no_ = known_wider (block_next k ys) (block_next (block_next k ys) ns) z.known (block_not_fewer ns (block_next k ys)) (yes_ v e (below_test at k c w v true scope suits.0 below told))
          by_side (Tells false v) told e yes_ no_ = no_ v e (below_test at k c w v false scope suits.0 below told)
      below_command outer (ForRows r t c body) at k w z suits placed scope below is = known_wider k (block_next (suc k) body) z.known (not_fewer (ForRows r t c body) k) (below_loop k body w z below is)
      below_command outer (ForEach x l body) at k w z suits placed scope below is = known_wider k (block_next (suc k) body) z.known (not_fewer (ForEach x l body) k) (below_loop k body w z below is)
      below_command outer (Insert t vs) at k w z suits placed scope below is =
          after_lead k _ z is (subst (KnownBelow k) (sym (insert_known (slice_get schema t.num) (terms_way schema names vs w))) (below_terms at k vs w scope suits.0 below))
      below_command outer (Fresh x t vs) at k w z suits placed scope below is =
          after_lead (suc k) _ z is (known_more (suc k) (terms_way schema names vs w).known (sources.Variable x.num) (omega (arith, placed)) (known_wider k (suc k) _ (omega arith) (below_terms at k vs w scope suits.0 below)))
      below_command outer (Update t key sets) at k w z suits placed scope below is =
          after_lead k _ z is (below_sets f at k t sets (forgetting (terms_way schema names key w)) scope suits.2 (below_terms at k key w scope suits.0 below))
      below_command outer (Remove t key) at k w z suits placed scope below is = after_lead k _ z is (below_terms at k key w scope suits.0 below)
      below_command outer (Abort n) at k w z suits placed scope below is = absurd cc
      below_command outer (Reply e) at k w z suits placed scope below is = after_lead k _ z is (below_term at k 0 e w scope suits below)

      pub below_block : (outer : Bool) (b : Block) (at : Scope) (k : ℕ) (w z : Way) → BlockSuits f at b → BlockPlaced outer k b → ScopeBelow k at.known → KnownBelow k w.known → block_path schema names b w ≡ Leads z → KnownBelow (block_next k b) z.known
      below_block outer Finish at k w z suits placed scope below is = after_lead k w z is below
      below_block outer (Then c b) at k w z suits placed scope below is =
          let g = leads_then (command_path schema names c w) (block_path schema names b) z is in
          below_block outer b (behind at c) (next k c) g.mid z suits.1 placed.1 (scope_behind outer at k c placed.0 scope) (below_command outer c at k w g.mid suits.0 placed.0 scope below g.is) g.rest
