-- The effects of a route are suited: by its statements, and for each unit.
use Rattle.std.proofs.Common.{◌≡◌, ◌∙◌, ℕ, zero, suc, if◌then◌else◌, Bool, true, false, List, [], ◌∷◌, ◌++◌, map, Option, Some, None, slice_get, refl, sym, ap, subst}
use Rattle.std.specs.Option.{option_map}
use Rattle.std.proofs.lemmas.List.Elements.{All-nil, All-cons, All-append}
use Rattle.std.proofs.lemmas.Option.{slice_get-map}
use Rattle.sv_value.specs.declared.values.Val.{Val}
use Rattle.sv_app.specs.declared.acts.Act.TheVariants as acts
use Rattle.sv_app.specs.declared.apps.Ident.{Ident}
use Rattle.sv_app.specs.declared.instances.Source.{Source}
use Rattle.sv_app.specs.declared.instances.Source.TheVariants as sources
use Rattle.sv_app.specs.declared.schemas.Column.{Column}
use Rattle.sv_app.specs.declared.schemas.Merge.{Merge}
use Rattle.sv_app.specs.declared.schemas.Merge.TheVariants as merges
use Rattle.sv_app.specs.declared.schemas.Ty.{Ty}
use Rattle.sv_app.specs.declared.schemas.Ty.TheVariants as types
use Rattle.sv_app.specs.Accepted.{AcceptedSchema}
use Rattle.sv_app.specs.Paths.{type_of, column_type, columns_at, type_in, merge_in}
use Rattle.sv_app.specs.Schema.{Declaration}
use Rattle.sv_app.specs.Scopes.{Scope}
use Rattle.sv_app.specs.Slots.{item}
use Rattle.sv_app.specs.Symbols as symbols
use Rattle.sv_app.specs.Symbols.{is_same_source, is_known, block_assigns}
use Rattle.sv_app.specs.Trees.{Term, Command, Declare, Assign, Fetch, Choose, ForRows, ForEach, Insert, Fresh, Update, Remove, Abort, Reply, Block, Finish, Then}
use Rattle.sv_app.specs.TxnTyping.{behind}
use Rattle.sv_app.specs.Writes.{in_order}
use Rattle.sv_app.proofs.AcceptedLaws.{no_lists}
use Rattle.sv_effect.specs.Fits.{AreWrites, Ascending, columns_written}
use Rattle.sv_effect.specs.RunChanges.{outside_key}
use Rattle.sv_linear.specs.Effects.{SymValue, SymWrite, SymEffect}
use Rattle.sv_trace.specs.Standing.{Frame, names_in, Suits, BlockSuits, SetsSuit, behind_set, Allows, AreOfColumns, AreDrawn}
use Rattle.sv_trace.proofs.InsertLaws.{all_written}
use Rattle.sv_trace.proofs.WriteLaws.{Suited, AreFrom, from_next, from_here, from_start, ordered_writes, ordered}
use Rattle.sv_symbolic.specs.Drawn.{writes_on}
use Rattle.sv_symbolic.specs.Routes.{Route, Aborts, TooFew, Leads, then_route, on_drawn, on_tried, on_declared, set_form, with_effect, forgetting, draw_delta, draw_set, draw_sets, draw_inserts, first_writes, draw_command, draw_block, first_sketch}
use Rattle.sv_symbolic.specs.Sketches.{Sketch, Drawn, Draws, then_draws, draw_old, Tried, Short, Tells, zero_form, form_of, draw_symbol, draw_term, draw_terms, draw_test}
use Rattle.sv_symbolic.specs.Suited.{IsSuited, EffectsSuit}
use Rattle.sv_symbolic.proofs.DrawLaws.{known_end, same_source}
use Rattle.sv_symbolic.proofs.KindLaws.{plain, plain_same, kind, kinds, source_type, Typed, Made, made_then, Judged, Lists, typed_symbol, typed_old, typed_term, typed_terms, judged, firsts_listed, typed_inserts, SetsTyped, typed_sets}
use Rattle.sv_symbolic.proofs.PlaceLaws.{fewer_known}
use Rattle.sv_symbolic.proofs.ScopeLaws.{frame_of, unit_in}
use Rattle.sv_symbolic.proofs.WriteLaws.{ordered_on}

plain_map : {A : Type 0} (g : A → Ty) (xs : List A) → map (λ x. plain (g x)) xs ≡ map plain (map g xs)
plain_map g [] = refl
plain_map g (x ∷ xs) = ap (λ l. plain (g x) ∷ l) (plain_map g xs)

module _ (f : Frame) (accepted : AcceptedSchema f.schema) (tape : List Val) where
  abbrev At : ℕ → Sketch → Type 0
  At t k = Typed f.schema (names_in f) tape t k

  abbrev kind_of : SymValue → Ty
  kind_of v = kind f.schema (names_in f) tape v

  abbrev kinds_of : List SymValue → List Ty
  kinds_of vs = kinds f.schema (names_in f) tape vs

  abbrev RouteTyped : Route → Type 0
  RouteTyped (Aborts k) = Unit {0}
  RouteTyped TooFew = Unit {0}
  RouteTyped (Leads k) = At 0 k

  typed_drawn : {A : Type 0} (P : A → Type 0) (t : ℕ) (x : Drawn A) (go : A → Sketch → Route) → Made f.schema (names_in f) tape P t x → ((v : A) (k : Sketch) → At t k → P v → RouteTyped (go v k)) → RouteTyped (on_drawn x go)
  typed_drawn P t (Draws v k) go is next = next v k is.0 is.1

  typed_declared : (o : Option Declaration) (k : Sketch) (go : Declaration → Sketch → Route) → At 0 k → ((d : Declaration) → o ≡ Some d → RouteTyped (go d k)) → RouteTyped (on_declared o k go)
  typed_declared None k go typed next = typed
  typed_declared (Some d) k go typed next = next d refl

  typed_tried : (x : Tried) (a b : Sketch → Route) → Judged f.schema (names_in f) tape x → ((k : Sketch) → At 0 k → RouteTyped (a k)) → ((k : Sketch) → At 0 k → RouteTyped (b k)) → RouteTyped (on_tried x a b)
  typed_tried Short a b is p q = tt
  typed_tried (Tells true k) a b is p q = p k is
  typed_tried (Tells false k) a b is p q = q k is

  typed_then : (x : Route) (a : Sketch → Route) → RouteTyped x → ((k : Sketch) → At 0 k → RouteTyped (a k)) → RouteTyped (then_route x a)
  typed_then (Aborts k) a is next = tt
  typed_then TooFew a is next = tt
  typed_then (Leads k) a is next = next k is

  typed_effect : (e : SymEffect) (k : Sketch) → At 0 k → IsSuited f.schema tape e → At 0 (with_effect e k)
  typed_effect e k typed suited = record {
    sources = typed.sources;
    olds = typed.olds;
    effects = All-append (IsSuited f.schema tape) k.drawing.effects (e ∷ []) typed.effects (All-cons (IsSuited f.schema tape) e [] suited (All-nil (IsSuited f.schema tape)));
  }

  typed_form : (x : ℕ) (v : SymValue) (k : Sketch) → kind_of v ≡ plain (item types.Int (names_in f).types x) → At 0 k → RouteTyped (set_form x v k)
  typed_form x v k same typed = record { sources = λ q is. of_source q (is_same_source q (sources.Variable x)) refl is; olds = typed.olds; effects = typed.effects }
    where
      of_source : (q : Source) (b : Bool) → is_same_source q (sources.Variable x) ≡ b → is_known q (k.way.known ++ sources.Variable x ∷ []) ≡ true
          → kind_of (if b then v else form_of k.drawing.sources q) ≡ plain (source_type f.schema (names_in f) tape q)
      of_source q true here is = same ∙ ap (λ p. plain (source_type f.schema (names_in f) tape p)) (sym (same_source q (sources.Variable x) here))
      of_source q false other is = typed.sources q (known_end (is_same_source q) k.way.known (sources.Variable x) other is)

  forgets : (s t : ℕ) (k : Sketch) → At s k → At t (forgetting k)
  forgets s t k typed = record { sources = typed.sources; olds = λ c is. absurd (let bad : false ≡ true = is in cc); effects = typed.effects }

  -- the values of an insert, by columns
  item_kind : (vs : List SymValue) (tys : List Ty) (c : ℕ) (ty : Ty) → kinds_of vs ≡ tys → slice_get tys c ≡ Some ty → kind_of (item zero_form vs c) ≡ ty
  item_kind [] [] zero ty same at = absurd cc
  item_kind [] [] (suc c) ty same at = absurd cc
  item_kind [] (t ∷ ts) c ty same at = absurd (let bad : [] ≡ t ∷ ts = same in cc)
  item_kind (v ∷ vs) [] c ty same at = absurd (let bad : kind_of v ∷ kinds_of vs ≡ [] = same in cc)
  item_kind (v ∷ vs) (t ∷ ts) zero ty same at =
      let head : kind_of v ≡ t = cc in
      let here : t ≡ ty = cc in
      head ∙ here
  item_kind (v ∷ vs) (t ∷ ts) (suc c) ty same at =
      let tail : kinds_of vs ≡ ts = cc in
      item_kind vs ts c ty tail at

  column_kind : (t : Ident) (d : Declaration) (vs : List SymValue) → slice_get f.schema t.num ≡ Some d → kinds_of vs ≡ map plain (map (λ (x : Column). x.ty) d.columns) → (c : ℕ) (x : Column) → slice_get d.columns c ≡ Some x → kind_of (item zero_form vs c) ≡ x.ty
  column_kind t d vs declared same c x here =
      let at : slice_get (map plain (map (λ (y : Column). y.ty) d.columns)) c ≡ Some (plain x.ty) =
      slice_get-map plain (map (λ (y : Column). y.ty) d.columns) c ∙ ap (option_map plain) (slice_get-map (λ (y : Column). y.ty) d.columns c ∙ ap (option_map (λ (y : Column). y.ty)) here) in
      item_kind vs (map plain (map (λ (y : Column). y.ty) d.columns)) c (plain x.ty) same at ∙ plain_same x.ty (no_lists f.schema accepted t.num c d x declared here)

  outside_plain : (t : Ident) (d : Declaration) (c : ℕ) (columns : List Column) → slice_get f.schema t.num ≡ Some d → AreFrom d c columns
      → map plain (map (λ (x : ℕ × Column). x.1.ty) (outside_key d c columns)) ≡ map (λ (x : ℕ × Column). x.1.ty) (outside_key d c columns)
  outside_plain t d c [] declared from = refl
  outside_plain t d c (k ∷ columns) declared from = by_key (symbols.is_key_column d.key c) (outside_plain t d (suc c) columns declared (from_next d c k columns from))
    where
      tys : List (ℕ × Column) → List Ty
      tys xs = map (λ (x : ℕ × Column). x.1.ty) xs

      by_key : (b : Bool) → map plain (map (λ (x : ℕ × Column). x.1.ty) (outside_key d (suc c) columns)) ≡ map (λ (x : ℕ × Column). x.1.ty) (outside_key d (suc c) columns)
          → map plain (map (λ (x : ℕ × Column). x.1.ty) (if b then outside_key d (suc c) columns else (c, k) ∷ outside_key d (suc c) columns)) ≡ map (λ (x : ℕ × Column). x.1.ty) (if b then outside_key d (suc c) columns else (c, k) ∷ outside_key d (suc c) columns)
      by_key true rest = rest
      by_key false rest = λ i. plain_same k.ty (no_lists f.schema accepted t.num c d k declared (from_here d c k columns from)) i ∷ rest i

  sets_typed : (at : Scope) (t : Ident) (d : Declaration) (declared : slice_get f.schema t.num ≡ Some d) (sets : List (Ident × Term)) → SetsSuit f at t sets → SetsTyped f.schema (names_in f) tape accepted t d declared sets
  sets_typed at t d declared [] suit = tt
  sets_typed at t d declared (set ∷ sets) suit = (suit.1, sets_typed at t d declared sets suit.2)

  inserted : (t : Ident) (es : List Term) (d : Declaration) (vs : List SymValue) (u : Sketch) → slice_get f.schema t.num ≡ Some d → Allows f.schema t acts.Insert → AreOfColumns f t es
      → kinds_of vs ≡ map (λ e. plain (type_of f.schema (names_in f) 0 e)) es → At 0 u → RouteTyped (on_drawn (draw_inserts d vs 0 d.columns u) (λ ws z. Leads (with_effect (record { table = t.num; act = acts.Insert; writes = ws }) z)))
  inserted t es d vs u declared allowed of_columns same is =
      let plainly : kinds_of vs ≡ map plain (map (λ (x : Column). x.ty) d.columns) = same ∙ plain_map (λ e. type_of f.schema (names_in f) 0 e) es ∙ ap (map plain) (of_columns d declared) in
      typed_drawn (λ ws. Lists f.schema (names_in f) tape d 0 d.columns (writes_on tape ws)) 0 (draw_inserts d vs 0 d.columns u) _
      (typed_inserts f.schema (names_in f) tape d vs (column_kind t d vs declared plainly) 0 d.columns u (from_start d) is)
      (λ ws z those lists. typed_effect (record { table = t.num; act = acts.Insert; writes = ws }) z those (record {
        table = d;
        declared = declared;
        allowed = allowed d declared;
        writes = lists.writes;
        order = lists.order;
        act = all_written d (writes_on tape ws) lists.whole;
      }))

  drawn_row : (x t : Ident) (es : List Term) (o : Option Declaration) (vs : List SymValue) (key : SymValue) (z : Sketch) → slice_get f.schema t.num ≡ o → Allows f.schema t acts.Fresh → AreDrawn f t es → kind_of key ≡ plain (item types.Int (names_in f).types x.num)
      → kinds_of vs ≡ map (λ e. plain (type_of f.schema (names_in f) 0 e)) es → At 0 z
      → RouteTyped (then_route (on_declared o z (λ d y. Leads (with_effect (record { table = t.num; act = acts.Fresh; writes = first_writes (outside_key d 0 d.columns) vs }) y))) (set_form x.num key))
  drawn_row x t es None vs key z declared allowed drawn of_key same is = typed_form x.num key z of_key is
  drawn_row x t es (Some d) vs key z declared allowed drawn of_key same is =
      let plainly : kinds_of vs ≡ map (λ (y : ℕ × Column). y.1.ty) (outside_key d 0 d.columns) =
      same ∙ plain_map (λ e. type_of f.schema (names_in f) 0 e) es ∙ ap (map plain) (drawn d declared) ∙ outside_plain t d 0 d.columns declared (from_start d) in
      let lists = firsts_listed f.schema (names_in f) tape d 0 d.columns vs (from_start d) plainly in
      let writes : List (ℕ × SymWrite) = first_writes (outside_key d 0 d.columns) vs in
      let e : SymEffect = record { table = t.num; act = acts.Fresh; writes = writes } in
      typed_form x.num key (with_effect e z) of_key (typed_effect e z is (record {
        table = d;
        declared = declared;
        allowed = allowed d declared;
        writes = lists.writes;
        order = lists.order;
        act = all_written d (writes_on tape writes) lists.whole;
      }))

  -- sets of a table that isn't declared, which is none of an accepted application
  none_there : (c : ℕ) → slice_get {X = Column} [] c ≡ None
  none_there zero = refl
  none_there (suc c) = refl

  unknown_set : (t : Ident) (m : Merge) (c : ℕ) (v : SymValue) (k : Sketch) → slice_get f.schema t.num ≡ None → At t.num k → Made f.schema (names_in f) tape (λ w. Unit {0}) t.num (draw_set m c v k)
  unknown_set t merges.NumDelta c v k none typed =
      let integer : column_type f.schema t.num c ≡ types.Int = ap (λ o. type_in (slice_get (columns_at o) c)) none ∙ ap type_in (none_there c) in
      let now : Made f.schema (names_in f) tape (λ w. kind_of w ≡ plain (column_type f.schema t.num c)) t.num (draw_old c types.Int k) =
      subst (λ ty. Made f.schema (names_in f) tape (λ w. kind_of w ≡ plain (column_type f.schema t.num c)) t.num (draw_old c ty k)) integer (typed_old f.schema (names_in f) tape t.num c k typed) in
      made_then f.schema (names_in f) tape (λ w. kind_of w ≡ plain (column_type f.schema t.num c)) (λ w. Unit {0}) t.num (draw_old c types.Int k) (draw_delta v) now
      (λ w z is other. (record { sources = is.sources; olds = is.olds; effects = is.effects }, tt))
  unknown_set t merges.Plain c v k none typed = (typed, tt)
  unknown_set t merges.Lww c v k none typed = (typed, tt)
  unknown_set t merges.Fresh c v k none typed = (typed, tt)

  unknown_sets : (t : Ident) (sets : List (Ident × Term)) (k : Sketch) → slice_get f.schema t.num ≡ None → At t.num k → Made f.schema (names_in f) tape (λ ws. Unit {0}) t.num (draw_sets f.schema (names_in f) t.num sets k)
  unknown_sets t [] k none typed = (typed, tt)
  unknown_sets t (set ∷ sets) k none typed =
      let m : Merge = merge_in (slice_get (columns_at (slice_get f.schema t.num)) set.0.num) in
      made_then f.schema (names_in f) tape (λ v. kind_of v ≡ plain (type_of f.schema (names_in f) t.num set.1)) (λ ws. Unit {0}) t.num (draw_term f.schema (names_in f) t.num set.1 k) _ (typed_term f.schema (names_in f) tape t.num set.1 k typed)
      (λ v u is same. made_then f.schema (names_in f) tape (λ w. Unit {0}) (λ ws. Unit {0}) t.num (draw_set m set.0.num v u) (λ w z. then_draws (draw_sets f.schema (names_in f) t.num sets z) (λ ws q. Draws ((set.0.num, w) ∷ ws) q))
      (unknown_set t m set.0.num v u none is)
      (λ w z those other. made_then f.schema (names_in f) tape (λ ws. Unit {0}) (λ ws. Unit {0}) t.num (draw_sets f.schema (names_in f) t.num sets z) (λ ws q. Draws ((set.0.num, w) ∷ ws) q) (unknown_sets t sets z none those) (λ ws q end rest. (end, tt))))

  updated : (at : Scope) (t : Ident) (sets : List (Ident × Term)) (u : Sketch) (o : Option Declaration) → slice_get f.schema t.num ≡ o → Allows f.schema t acts.Update → SetsSuit f at t sets → At 0 u
      → RouteTyped (on_drawn (draw_sets f.schema (names_in f) t.num sets (forgetting u)) (λ ws z.
      on_declared o (forgetting z) (λ d y. Leads (with_effect (record { table = t.num; act = acts.Update; writes = in_order d 0 d.columns ws }) y))))
  updated at t sets u None declared allowed suit is =
      typed_drawn (λ ws. Unit {0}) t.num (draw_sets f.schema (names_in f) t.num sets (forgetting u)) _ (unknown_sets t sets (forgetting u) declared (forgets 0 t.num u is)) (λ ws z those other. forgets t.num 0 z those)
  updated at t sets u (Some d) declared allowed suit is =
      typed_drawn (λ ws. Suited d.columns (writes_on tape ws)) t.num (draw_sets f.schema (names_in f) t.num sets (forgetting u)) _
      (typed_sets f.schema (names_in f) tape accepted t d declared sets (forgetting u) (sets_typed at t d declared sets suit) (forgets 0 t.num u is))
      (λ ws z those suited. typed_effect (record { table = t.num; act = acts.Update; writes = in_order d 0 d.columns ws }) (forgetting z) (forgets t.num 0 z those) (record {
        table = d;
        declared = declared;
        allowed = allowed d declared;
        writes = subst (AreWrites d) (sym (ordered_on d 0 d.columns ws tape)) (ordered_writes d 0 d.columns (writes_on tape ws) (from_start d) suited);
        order = subst (λ l. Ascending (columns_written l)) (sym (ordered_on d 0 d.columns ws tape)) (ordered d 0 d.columns (writes_on tape ws) (from_start d) suited);
        act = tt;
      }))

  removed : (t : Ident) (u : Sketch) (d : Declaration) → slice_get f.schema t.num ≡ Some d → Allows f.schema t acts.Remove → At 0 u → At 0 (with_effect (record { table = t.num; act = acts.Remove; writes = [] }) u)
  removed t u d declared allowed is = typed_effect (record { table = t.num; act = acts.Remove; writes = [] }) u is (record { table = d; declared = declared; allowed = allowed d declared; writes = tt; order = tt; act = refl })

  mutual
    typed_command : (c : Command) (at : Scope) (k : Sketch) → Suits f at c → At 0 k → RouteTyped (draw_command f.schema (names_in f) c k)
    typed_command (Declare x e) at k suits typed = typed_drawn (λ v. kind_of v ≡ plain (type_of f.schema (names_in f) 0 e)) 0 (draw_term f.schema (names_in f) 0 e k) (set_form x.num) (typed_term f.schema (names_in f) tape 0 e k typed)
        (λ v u is same. typed_form x.num v u (same ∙ ap plain (sym suits.1)) is)
    typed_command (Assign x e) at k suits typed = typed_drawn (λ v. kind_of v ≡ plain (type_of f.schema (names_in f) 0 e)) 0 (draw_term f.schema (names_in f) 0 e k) (set_form x.num) (typed_term f.schema (names_in f) tape 0 e k typed)
        (λ v u is same. typed_form x.num v u (same ∙ ap plain (sym suits.1)) is)
    typed_command (Fetch r t key) at k suits typed = typed_drawn (λ vs. kinds_of vs ≡ map (λ e. plain (type_of f.schema (names_in f) 0 e)) key) 0 (draw_terms f.schema (names_in f) key k) _ (typed_terms f.schema (names_in f) tape key k typed) (λ vs u is same. is)
    typed_command (Choose c ys ns) at k suits typed = typed_tried (draw_test f.schema (names_in f) c k) (draw_block f.schema (names_in f) ys) (draw_block f.schema (names_in f) ns) (judged f.schema (names_in f) tape c k typed)
        (λ u is. typed_block ys at u suits.1 is) (λ u is. typed_block ns at u suits.2 is)
    typed_command (ForRows r t c body) at k suits typed = record { sources = λ q is. typed.sources q (fewer_known f.schema (names_in f) (block_assigns body) k.way.known q is); olds = typed.olds; effects = typed.effects }
    typed_command (ForEach x l body) at k suits typed = record { sources = λ q is. typed.sources q (fewer_known f.schema (names_in f) (block_assigns body) k.way.known q is); olds = typed.olds; effects = typed.effects }
    typed_command (Insert t es) at k suits typed = typed_drawn (λ vs. kinds_of vs ≡ map (λ e. plain (type_of f.schema (names_in f) 0 e)) es) 0 (draw_terms f.schema (names_in f) es k) _ (typed_terms f.schema (names_in f) tape es k typed)
        (λ vs u is same. typed_declared (slice_get f.schema t.num) u _ is (λ d declared. inserted t es d vs u declared suits.1 suits.2 same is))
    typed_command (Fresh x t es) at k suits typed = typed_drawn (λ vs. kinds_of vs ≡ map (λ e. plain (type_of f.schema (names_in f) 0 e)) es) 0 (draw_terms f.schema (names_in f) es k) _ (typed_terms f.schema (names_in f) tape es k typed)
        (λ vs u is same. typed_drawn (λ v. kind_of v ≡ types.Int) 0 (draw_symbol types.Int u) _ (typed_symbol f.schema (names_in f) tape 0 types.Int u is)
        (λ key z those integer. drawn_row x t es (slice_get f.schema t.num) vs key z refl suits.1 suits.2 (integer ∙ ap plain (sym suits.3)) same those))
    typed_command (Update t key sets) at k suits typed = typed_drawn (λ vs. kinds_of vs ≡ map (λ e. plain (type_of f.schema (names_in f) 0 e)) key) 0 (draw_terms f.schema (names_in f) key k) _ (typed_terms f.schema (names_in f) tape key k typed)
        (λ vs u is same. updated (behind_set at t) t sets u (slice_get f.schema t.num) refl suits.1 suits.2 is)
    typed_command (Remove t key) at k suits typed = typed_drawn (λ vs. kinds_of vs ≡ map (λ e. plain (type_of f.schema (names_in f) 0 e)) key) 0 (draw_terms f.schema (names_in f) key k) _ (typed_terms f.schema (names_in f) tape key k typed)
        (λ vs u is same. typed_declared (slice_get f.schema t.num) u _ is (λ d declared. removed t u d declared suits.1 is))
    typed_command (Abort n) at k suits typed = tt
    typed_command (Reply e) at k suits typed = typed_drawn (λ v. kind_of v ≡ plain (type_of f.schema (names_in f) 0 e)) 0 (draw_term f.schema (names_in f) 0 e k) _ (typed_term f.schema (names_in f) tape 0 e k typed) (λ v u is same. is)

    pub typed_block : (b : Block) (at : Scope) (k : Sketch) → BlockSuits f at b → At 0 k → RouteTyped (draw_block f.schema (names_in f) b k)
    typed_block Finish at k suits typed = typed
    typed_block (Then c b) at k suits typed = typed_then (draw_command f.schema (names_in f) c k) (draw_block f.schema (names_in f) b) (typed_command c at k suits.0 typed) (λ u is. typed_block b (behind at c) u suits.1 is)

typed_to : (f : Frame) (tape : List Val) (accepted : AcceptedSchema f.schema) (end : Sketch) (body : Block) (choices : List Bool) → draw_block f.schema (names_in f) body (first_sketch choices) ≡ Leads end
    → RouteTyped f accepted tape (draw_block f.schema (names_in f) body (first_sketch choices)) → Typed f.schema (names_in f) tape 0 end
typed_to f tape accepted end body choices is typed = subst (RouteTyped f accepted tape) is typed

pub effects_suit : EffectsSuit
effects_suit schema txns number unit txn body choices end tape accepted among at is =
    let f : Frame = frame_of schema txns number txn in
    let scope = unit_in schema txns number unit txn body accepted among at in
    let begin : Typed schema (names_in f) tape 0 (first_sketch choices) = record { sources = λ q known. absurd cc; olds = λ c known. absurd cc; effects = All-nil (IsSuited schema tape) } in
    (typed_to f tape accepted.tables end body choices is (typed_block f accepted.tables tape body scope.at (first_sketch choices) scope.suits begin)).effects
