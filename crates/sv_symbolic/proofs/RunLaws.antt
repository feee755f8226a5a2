-- The meaning of a run goes along routes: by its statements, its blocks and the turns of its loops.
use Rattle.std.proofs.Common.{◌≡◌, ℕ, zero, suc, ◌<◌, ◌≤◌, ◌==◌, ◌||◌, Bool, true, false, List, [], ◌∷◌, ◌++◌, Option, Some, None, slice_get, refl, sym, ap, subst, ◌∙◌, append_assoc, arith}
use Rattle.std.proofs.lemmas.Bool.Decides.{nat_tests}
use Rattle.std.proofs.lemmas.List.Elements.{All-nil}
use Rattle.sv_value.specs.declared.values.Key.{Key}
use Rattle.sv_value.specs.declared.values.Val.{Val}
use Rattle.sv_app.specs.declared.apps.Ident.{Ident}
use Rattle.sv_app.specs.declared.instances.Instance.{Instance}
use Rattle.sv_app.specs.declared.names.Meaning.TheVariants.{Row as RowOf, Constant}
use Rattle.sv_app.specs.declared.schemas.Ty.TheVariants as types
use Rattle.sv_app.specs.Scopes.{Scope, knowing, opening}
use Rattle.sv_app.specs.Symbols.{command_assigns, block_assigns}
use Rattle.sv_app.specs.Trees.{Test, Command, Declare, Assign, Fetch, Choose, ForRows, ForEach, Insert, Fresh, Update, Remove, Abort, Reply, Block, Finish, Then}
use Rattle.sv_app.specs.TxnTyping.{behind}
use Rattle.sv_app.specs.Units.{loop_variables, unit_of}
use Rattle.sv_effect.specs.Run.{Stand, Flow, Goes, Ends, with_scope, on_truth, on_keys, only, then_do, meeting, present_keys, turns, row_turn, item_turn, left_loop, items_of, instance_of, run_command, run_block, body_of, run_body, run, started, result_of}
use Rattle.sv_effect.specs.RunValues.{Scope as Values, Evaluated, Leaves, Gives, truth_of}
use Rattle.sv_trace.specs.Standing.{Frame, IsFrame, names_in, BlockIn, CommandIn, Holds, way_of}
use Rattle.sv_trace.proofs.BlockLaws.{first_in, rest_in}
use Rattle.sv_trace.proofs.LoopLaws.{yes_in, no_in, test_holds, rows_in, items_in}
use Rattle.sv_trace.proofs.OpeningLaws.{body_in, begins_on}
use Rattle.sv_trace.proofs.RunLaws as runs
use Rattle.sv_trace.proofs.RunLaws.{goes_on, setting, integers, turn_of_row, turn_of_item}
use Rattle.sv_trace.proofs.StatementLaws.{same_stand}
use Rattle.sv_trace.proofs.TermLaws as terms
use Rattle.sv_trace.proofs.UnitLaws.{Each}
use Rattle.sv_app.specs.Fitting.{HasType}
use Rattle.sv_linear.specs.Facts.{HoldsOn}
use Rattle.sv_symbolic.specs.Drawn.{IsDrawn, changes_in}
use Rattle.sv_symbolic.specs.Laws.{AllDrawn, FormsHold}
use Rattle.sv_trace.specs.Places.{next, block_next, Placed, BlockPlaced, KnownBelow, ScopeBelow}
use Rattle.sv_symbolic.specs.Sketches.{Drawing, Sketch, Tells, draw_test}
use Rattle.sv_symbolic.specs.Routes.{Route, Leads, on_tried, draw_command, draw_block, blank}
use Rattle.sv_symbolic.proofs.Following.{Fits, Kept, Follows}
use Rattle.sv_symbolic.proofs.Relation.{sketch_at, Tries}
use Rattle.sv_trace.proofs.PlaceLaws.{params_end, placed, scope_below}
use Rattle.sv_symbolic.proofs.PlaceLaws.{not_fewer, block_not_fewer, known_wider, scope_wider, below_test, below_command, scope_behind, value_behind}
use Rattle.sv_symbolic.proofs.RouteLaws.{fits_scope, kept_alone, kept_then, kept_left, kept_right, follows_none, follows_then}
use Rattle.sv_symbolic.proofs.StepLaws.{follows_assign, follows_reply, follows_fetch, follows_remove, follows_update, follows_insert, follows_fresh}
use Rattle.sv_symbolic.proofs.TryLaws.{tries, later_then}
use Rattle.sv_symbolic.proofs.TurnLaws.{is_drawn, RunsBody, turning_row, turning_item, all_turning, follows_loop}

later_name : (x k : ℕ) → x ≡ k → (y : ℕ) → y < k → x ≡ y → ⊥
later_name x k number y less same = omega (arith, number, less, same)

not_that : (x y : ℕ) → ((y == x) || false) ≡ false → x ≡ y → ⊥
not_that x y other same = grind (arith, nat_tests, other, same)

module _ (f : Frame) where
  -- a block goes along its route
  abbrev RunsBlock : Bool → Block → Scope → ℕ → Type 0
  RunsBlock outer b at k = (st end : Stand) (d : Drawing) → Holds f at st → KnownBelow k st.scope.progress.known → Fits f outer st d → run_block (setting f) b st ≡ Goes end → Follows f outer k (block_assigns b) (draw_block f.schema (names_in f) b) st d end

  side_follows : (outer : Bool) (j k : ℕ) (at : Scope) (test : Test) (ys ns : Block) (st : Stand) (d : Drawing) (h : Bool) (z : Values) (end : Stand) (xs : List ℕ) (side : Sketch → Route)
      → (tried : Tries (draw_test f.schema (names_in f) test) h st.scope d z) → ((w : Sketch) → on_tried (Tells h w) (draw_block f.schema (names_in f) ys) (draw_block f.schema (names_in f) ns) ≡ side w)
      → (follows : Follows f outer j xs side (with_scope st z) tried.after end) → Kept k (block_assigns ys ++ block_assigns ns) z end.scope
      → Follows f outer k (block_assigns ys ++ block_assigns ns) (draw_command f.schema (names_in f) (Choose test ys ns)) st d end
  side_follows outer j k at test ys ns st d h z end xs side tried chosen follows kept = record {
    grown = tried.grown ++ follows.grown;
    after = follows.after;
    leads = λ left.
        ap (λ l. on_tried (draw_test f.schema (names_in f) test (sketch_at l st.scope.progress d)) a b) (append_assoc tried.grown follows.grown left)
        ∙ ap (λ t. on_tried t a b) (tried.tells (follows.grown ++ left))
        ∙ chosen (sketch_at (follows.grown ++ left) z.progress tried.after)
        ∙ follows.leads left;
    fits = follows.fits;
    later = later_then st.scope.progress z.progress end.scope.progress tried.grown follows.grown tried.later follows.later;
    kept = kept_then k (block_assigns ys ++ block_assigns ns) st.scope z end.scope (kept_alone k (block_assigns ys ++ block_assigns ns) st.scope z tried.alone) kept;
    zero = follows.zero;
  }
    where
      a : Sketch → Route
      a = draw_block f.schema (names_in f) ys

      b : Sketch → Route
      b = draw_block f.schema (names_in f) ns

  of_choice : (outer : Bool) (k : ℕ) (at : Scope) (test : Test) (ys ns : Block) (st : Stand) (d : Drawing) (end : Stand) → CommandIn f at (Choose test ys ns) → ScopeBelow k at.known → KnownBelow k st.scope.progress.known → Holds f at st → Fits f outer st d
      → RunsBlock outer ys at k → RunsBlock outer ns at (block_next k ys) → run_command (setting f) (Choose test ys ns) st ≡ Goes end
      → Follows f outer k (block_assigns ys ++ block_assigns ns) (draw_command f.schema (names_in f) (Choose test ys ns)) st d end
  of_choice outer k at test ys ns st d end command scope below holds fits run_yes run_no is = by_truth (truth_of test st.scope) refl is
    where
      tried : (h : Bool) (z : Values) → truth_of test st.scope ≡ Gives h z → Tries (draw_test f.schema (names_in f) test) h st.scope d z
      tried h z gives = tries f at test st.scope d h z command.outside holds.sees command.suits.0 fits.agrees gives

      below_z : (h : Bool) (z : Values) → truth_of test st.scope ≡ Gives h z → KnownBelow k z.progress.known
      below_z h z gives =
          let t = terms.tries f at test st.scope h z command.outside holds.sees command.suits.0 gives in
          below_test f.schema (names_in f) at k test (way_of (t.grown ++ []) st.scope.progress) (way_of [] z.progress) h scope command.suits.0 below (t.tells [])

      by_truth : (o : Evaluated Bool) → truth_of test st.scope ≡ o → on_truth o st (run_block (setting f) ys) (run_block (setting f) ns) ≡ Goes end
          → Follows f outer k (block_assigns ys ++ block_assigns ns) (draw_command f.schema (names_in f) (Choose test ys ns)) st d end
      by_truth Leaves gives e = absurd cc
      by_truth (Gives true z) gives e =
          let t = tried true z gives in
          let follows = run_yes (with_scope st z) end t.after (test_holds f at test ys ns st true z command holds gives) (below_z true z gives) (fits_scope f outer st d t.after z t.grown t.agrees t.later t.effects fits) e in
          side_follows outer k k at test ys ns st d true z end (block_assigns ys) (draw_block f.schema (names_in f) ys) t (λ w. refl) follows (kept_left k k (block_assigns ys) (block_assigns ns) z end.scope (omega arith) follows.kept)
      by_truth (Gives false z) gives e =
          let t = tried false z gives in
          let le : k ≤ block_next k ys = block_not_fewer ys k in
          let follows = run_no (with_scope st z) end t.after (test_holds f at test ys ns st false z command holds gives) (known_wider k (block_next k ys) z.progress.known le (below_z false z gives))
          (fits_scope f outer st d t.after z t.grown t.agrees t.later t.effects fits) e in
          side_follows outer (block_next k ys) k at test ys ns st d false z end (block_assigns ns) (draw_block f.schema (names_in f) ns) t (λ w. refl) follows (kept_right (block_next k ys) k (block_assigns ys) (block_assigns ns) z end.scope le follows.kept)

  all_keys : (ks : List Key) → Each (λ k. Unit {0}) ks
  all_keys [] = tt
  all_keys (k ∷ ks) = (tt, all_keys ks)

  of_rows : (k : ℕ) (at : Scope) (r t : Ident) (test : Option Test) (body : Block) (st : Stand) (d : Drawing) (end : Stand) → CommandIn f at (ForRows r t test body) → r.num ≡ k → KnownBelow k st.scope.progress.known → Holds f at st → Fits f true st d
      → runs.Run (run_block (setting f) body) f (knowing at r (RowOf t)) body → RunsBody f k body (knowing at r (RowOf t)) → run_command (setting f) (ForRows r t test body) st ≡ Goes end
      → Follows f true k (block_assigns body) (draw_command f.schema (names_in f) (ForRows r t test body)) st d end
  of_rows k at r t test body st d end command number below holds fits passes run is = by_keys (only (meeting r.num t.num test st.tables (present_keys st.tables t.num) st.scope)) is
    where
      turn : Key → Stand → Flow
      turn = row_turn (unit_of (loop_variables f.txn.body) r.num) r.num t.num (run_block (setting f) body)

      by_keys : (o : Option (List Key)) → on_keys o (λ ks. then_do (turns ks turn st) (left_loop body)) ≡ Goes end → Follows f true k (block_assigns body) (draw_command f.schema (names_in f) (ForRows r t test body)) st d end
      by_keys None e = absurd cc
      by_keys (Some ks) e =
          let went = goes_on (turns ks turn st) (left_loop body) end e in
          let turned = all_turning f k body (λ x. Unit {0}) at ks turn (all_keys ks)
          (λ key one two unit held few told step. (turning_row f k body at r t test command number run key one two held few told step, (turn_of_row f at r t test body command passes key one two held step).holds)) st went.mid holds fits.few fits.told went.first_is in
          follows_loop f k body st went.mid end d turned below fits went.rest

  of_items : (k : ℕ) (at : Scope) (x l : Ident) (body : Block) (st : Stand) (d : Drawing) (end : Stand) → CommandIn f at (ForEach x l body) → x.num ≡ k → KnownBelow k st.scope.progress.known → Holds f at st → Fits f true st d
      → runs.Run (run_block (setting f) body) f (knowing at x Constant) body → RunsBody f k body (knowing at x Constant) → run_command (setting f) (ForEach x l body) st ≡ Goes end
      → Follows f true k (block_assigns body) (draw_command f.schema (names_in f) (ForEach x l body)) st d end
  of_items k at x l body st d end command number below holds fits passes run is =
      let turn : Val → Stand → Flow = item_turn (unit_of (loop_variables f.txn.body) x.num) x.num (run_block (setting f) body) in
      let items : List Val = items_of (slice_get f.args l.num) in
      let went = goes_on (turns items turn st) (left_loop body) end is in
      let turned = all_turning f k body (HasType types.Int) at items turn (integers f (slice_get f.args l.num))
      (λ v one two typed held few told step. (turning_item f k body at x l command number run v one two typed held few told step, (turn_of_item f at x l body command passes v one two typed held step).holds)) st went.mid holds fits.few fits.told went.first_is in
      follows_loop f k body st went.mid end d turned below fits went.rest

  mutual
    of_command : (outer : Bool) (c : Command) (at : Scope) (k : ℕ) (st : Stand) (d : Drawing) (end : Stand) → CommandIn f at c → Placed outer k c → ScopeBelow k at.known → KnownBelow k st.scope.progress.known → Holds f at st → Fits f outer st d
        → run_command (setting f) c st ≡ Goes end → Follows f outer k (command_assigns c) (draw_command f.schema (names_in f) c) st d end
    of_command outer (Declare x e) at k st d end command placed scope below holds fits is =
        follows_assign f outer k [] at command.outside x e st d end command.suits.0 holds fits (λ y less other. later_name x.num k placed y less) is
    of_command outer (Assign x e) at k st d end command placed scope below holds fits is =
        follows_assign f outer k (x.num ∷ []) at command.outside x e st d end command.suits.0 holds fits (λ y less other. not_that x.num y other) is
    of_command outer (Fetch r t key) at k st d end command placed scope below holds fits is = follows_fetch f outer k [] at command.outside r t key st d end command.suits.0 placed scope below holds fits is
    of_command outer (Choose test ys ns) at k st d end command placed scope below holds fits is =
        of_choice outer k at test ys ns st d end command scope below holds fits
        (λ one two e held known fitted step. of_block outer ys at k one e two (yes_in f at test ys ns command) placed.0 scope known held fitted step)
        (λ one two e held known fitted step. of_block outer ns at (block_next k ys) one e two (no_in f at test ys ns command) placed.1 (scope_wider k (block_next k ys) at.known (block_not_fewer ys k) scope) known held fitted step) is
    of_command true (ForRows r t test body) at k st d end command placed scope below holds fits is =
        of_rows k at r t test body st d end command placed.1 below holds fits (λ one two held step. runs.of_block f body (knowing at r (RowOf t)) one two (rows_in f at r t test body command) held step)
        (λ one two held known fitted step. of_block false body (knowing at r (RowOf t)) (suc k) one blank two (rows_in f at r t test body command) placed.2 (inside at r t placed.1 scope) known held fitted step) is
      where
        inside : (at' : Scope) (r' t' : Ident) → r'.num ≡ k → ScopeBelow k at'.known → ScopeBelow (suc k) (knowing at' r' (RowOf t')).known
        inside at' r' t' number below = scope_behind f.schema (names_in f) true at' k (Fetch r' t' []) number below
    of_command false (ForRows r t test body) at k st d end command placed scope below holds fits is = absurd (let bad : false ≡ true = placed.0 in cc)
    of_command true (ForEach x l body) at k st d end command placed scope below holds fits is =
        of_items k at x l body st d end command placed.1 below holds fits (λ one two held step. runs.of_block f body (knowing at x Constant) one two (items_in f at x l body command) held step)
        (λ one two held known fitted step. of_block false body (knowing at x Constant) (suc k) one blank two (items_in f at x l body command) placed.2 (inside at x placed.1 scope) known held fitted step) is
      where
        inside : (at' : Scope) (x' : Ident) → x'.num ≡ k → ScopeBelow k at'.known → ScopeBelow (suc k) (knowing at' x' Constant).known
        inside at' x' number below = value_behind f.schema (names_in f) k at'.known x' Constant number below
    of_command false (ForEach x l body) at k st d end command placed scope below holds fits is = absurd (let bad : false ≡ true = placed.0 in cc)
    of_command outer (Insert t es) at k st d end command placed scope below holds fits is = follows_insert f outer k [] at command.outside t es st d end command holds fits is
    of_command outer (Fresh x t es) at k st d end command placed scope below holds fits is = follows_fresh f outer k [] at command.outside x t es st d end command holds fits (λ y less other. later_name x.num k placed y less) is
    of_command outer (Update t key sets) at k st d end command placed scope below holds fits is = follows_update f outer k [] at command.outside t key sets st d end command holds fits is
    of_command outer (Remove t key) at k st d end command placed scope below holds fits is = follows_remove f outer k [] at command.outside t key st d end command.suits.0 holds fits is
    of_command outer (Abort n) at k st d end command placed scope below holds fits is = absurd cc
    of_command outer (Reply e) at k st d end command placed scope below holds fits is = follows_reply f outer k [] at command.outside e st d end command.suits holds fits is

    of_block : (outer : Bool) (b : Block) (at : Scope) (k : ℕ) (st : Stand) (d : Drawing) (end : Stand) → BlockIn f at b → BlockPlaced outer k b → ScopeBelow k at.known → KnownBelow k st.scope.progress.known → Holds f at st → Fits f outer st d
        → run_block (setting f) b st ≡ Goes end → Follows f outer k (block_assigns b) (draw_block f.schema (names_in f) b) st d end
    of_block outer Finish at k st d end block placed scope below holds fits is = subst (Follows f outer k [] (λ w. Leads w) st d) (same_stand st end is) (follows_none f outer k [] st d fits)
    of_block outer (Then c b) at k st d end block placed scope below holds fits is =
        let went = goes_on (run_command (setting f) c st) (run_block (setting f) b) end is in
        let makes = runs.of_command f c at st went.mid (first_in f at c b block) holds went.first_is in
        let first = of_command outer c at k st d went.mid (first_in f at c b block) placed.0 scope below holds fits went.first_is in
        let below_mid : KnownBelow (next k c) went.mid.scope.progress.known =
        below_command f.schema (names_in f) f outer c at k (way_of (makes.along.grown ++ []) st.scope.progress) (way_of [] went.mid.scope.progress) block.suits.0 placed.0 scope below (makes.along.leads []) in
        let rest = of_block outer b (behind at c) (next k c) went.mid first.after end (rest_in f at c b block) placed.1 (scope_behind f.schema (names_in f) outer at k c placed.0 scope) below_mid makes.holds first.fits went.rest in
        follows_then f outer (next k c) k (command_assigns c) (block_assigns b) (draw_command f.schema (names_in f) c) (draw_block f.schema (names_in f) b) st d went.mid end first (not_fewer c k) rest

pub forms_hold : FormsHold
forms_hold schema txns request txn first t accepted among fits rows = ap_run (by_flow (run_block (setting f) txn.body (started request.args t)) refl)
  where
    f : Frame
    f = record { schema = schema; txns = txns; number = request.txn; txn = txn; args = request.args; first = first }

    ap_run : AllDrawn schema txn (result_of schema (run_block (setting f) txn.body (started request.args t))) → AllDrawn schema txn (run schema txns request first t)
    ap_run drawn = subst (λ o. AllDrawn schema txn (run_body schema (body_of o) request.args first t)) (sym among) drawn

    begin : Fits f true (started request.args t) blank
    begin = record {
      agrees = record { sources = λ q is. absurd cc; olds = λ i c is. absurd i; facts = λ rest. All-nil (HoldsOn rest) };
      changes = λ rest. refl;
      number = refl;
      few = tt;
      told = none_told;
    }
      where
        none_told : (n : ℕ) (i : Instance) → slice_get [] n ≡ Some i → IsDrawn schema txn (changes_in (suc n) []) i
        none_told zero i e = absurd cc
        none_told (suc n) i e = absurd cc

    by_flow : (flow : Flow) → run_block (setting f) txn.body (started request.args t) ≡ flow → AllDrawn schema txn (result_of schema flow)
    by_flow (Ends o) is = none
      where
        none : (n : ℕ) (i : Instance) → slice_get [] n ≡ Some i → IsDrawn schema txn (changes_in n []) i
        none zero i e = absurd cc
        none (suc n) i e = absurd cc
    by_flow (Goes end) is = each
      where
        frame : IsFrame f
        frame = record { accepted = accepted; among = among; fits = fits }

        k : ℕ
        k = params_end f frame

        follows : Follows f true k (block_assigns txn.body) (draw_block schema (names_in f) txn.body) (started request.args t) blank end
        follows = of_block f true txn.body (opening schema txn.params) k (started request.args t) blank end (body_in f frame) (placed f frame) (scope_below f frame) (record { each = λ q known. absurd cc })
            (begins_on f frame t rows) begin is

        drawn : IsDrawn schema txn (changes_in 0 end.effects) (instance_of end.scope.progress)
        drawn = subst (λ n. IsDrawn schema txn (changes_in n end.effects) (instance_of end.scope.progress)) follows.fits.number (is_drawn f true k 0 0 (block_assigns txn.body) txn.body (started request.args t) end refl refl follows)

        each : (n : ℕ) (i : Instance) → slice_get (instance_of end.scope.progress ∷ end.instances) n ≡ Some i → IsDrawn schema txn (changes_in n end.effects) i
        each zero i e = let same : instance_of end.scope.progress ≡ i = cc in subst (λ x. IsDrawn schema txn (changes_in 0 end.effects) x) same drawn
        each (suc n) i e = follows.fits.told n i e
