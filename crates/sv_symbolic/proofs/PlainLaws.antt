-- No symbol of a path of an accepted application is a list, and so the symbols that effects name are of the types that they are used as.
use Rattle.std.proofs.Common.{◌≡◌, ◌≢◌, ◌∙◌, ℕ, suc, ◌==◌, ◌||◌, if◌then◌else◌, Bool, true, false, List, [], ◌∷◌, ◌++◌, map, Option, Some, None, slice_get, refl, sym, ap, subst}
use Rattle.std.specs.List.{list_any}
use Rattle.std.proofs.lemmas.List.{map-append}
use Rattle.sv_app.specs.declared.apps.Ident.{Ident}
use Rattle.sv_app.specs.declared.instances.Source.{Source}
use Rattle.sv_app.specs.declared.instances.Source.TheVariants as sources
use Rattle.sv_app.specs.declared.schemas.Column.{Column}
use Rattle.sv_app.specs.declared.schemas.Merge.{Merge}
use Rattle.sv_app.specs.declared.schemas.Merge.TheVariants as merges
use Rattle.sv_app.specs.declared.schemas.Ty.{Ty}
use Rattle.sv_app.specs.declared.schemas.Ty.TheVariants as types
use Rattle.sv_app.specs.Accepted.{AcceptedSchema}
use Rattle.sv_app.specs.Kinds.{is_grow_only}
use Rattle.sv_app.specs.Paths.{
  Way,
  put,
  brought,
  brought_old,
  term_way,
  terms_way,
  Tested,
  Short,
  Tells,
  then_tested,
  next_choice,
  test_way,
  merge_in,
  columns_at,
  now_way,
  sets_way,
  kept_way,
  columns_way,
  insert_way,
  Path,
  Aborts,
  TooFew,
  Leads,
  then_lead,
  on_side,
  forgetting,
  command_path,
  block_path,
}
use Rattle.sv_app.specs.Schema.{Declaration}
use Rattle.sv_app.specs.Scopes.{Scope}
use Rattle.sv_app.specs.Symbols.{is_known, is_factor, is_key_column}
use Rattle.sv_app.specs.Trees.{Term, Number, Words, Variable, Field, Old, Minus, Sum, Difference, Product, Test, Compare, Negation, Both, Either, Command, Declare, Assign, Fetch, Choose, ForRows, ForEach, Insert, Fresh, Update, Remove, Abort, Reply, Block, Finish, Then}
use Rattle.sv_app.specs.TxnTyping.{behind}
use Rattle.sv_trace.specs.Standing.{Frame, names_in, Reads, AllRead, TestReads, SetsSuit, behind_set, Suits, BlockSuits}
use Rattle.sv_symbolic.specs.Laws.{path_in}
use Rattle.sv_symbolic.specs.Routes.{first_sketch}
use Rattle.sv_symbolic.specs.Typed.{EffectsAreOver, SymbolsAreTyped}
use Rattle.sv_symbolic.proofs.KindLaws.{plain, plain_same}
use Rattle.sv_symbolic.proofs.NamingLaws.{effects_over}
use Rattle.sv_symbolic.proofs.ScopeLaws.{NoLists, integer_alone, column_alone, none_behind, frame_of, unit_in}
use Rattle.sv_symbolic.proofs.WayLaws.{path_of_block}

-- no symbol so far is a list
abbrev IsPlain : Way → Type 0
IsPlain w = map plain w.symbols ≡ w.symbols

abbrev TestedPlain : Tested → Type 0
TestedPlain Short = Unit {0}
TestedPlain (Tells h w) = IsPlain w

abbrev PathPlain : Path → Type 0
PathPlain (Aborts w) = Unit {0}
PathPlain TooFew = Unit {0}
PathPlain (Leads w) = IsPlain w

put_plain : (ty : Ty) (w : Way) → ty ≢ types.Ints → IsPlain w → IsPlain (put ty w)
put_plain ty w other is = map-append plain w.symbols (ty ∷ []) ∙ (λ i. is i ++ plain_same ty other i ∷ [])

brought_plain : (q : Source) (ty : Ty) (w : Way) → ty ≢ types.Ints → IsPlain w → IsPlain (brought q ty w)
brought_plain q ty w other is = by_test (is_known q w.known)
  where
    by_test : (b : Bool) → IsPlain (if b then w else put ty (record w { known = w.known ++ q ∷ [] }))
    by_test true = is
    by_test false = put_plain ty (record w { known = w.known ++ q ∷ [] }) other is

old_plain : (c : ℕ) (ty : Ty) (w : Way) → ty ≢ types.Ints → IsPlain w → IsPlain (brought_old c ty w)
old_plain c ty w other is = by_test (list_any (λ d. c == d) w.known_old)
  where
    by_test : (b : Bool) → IsPlain (if b then w else put ty (record w { known_old = w.known_old ++ c ∷ [] }))
    by_test true = is
    by_test false = put_plain ty (record w { known_old = w.known_old ++ c ∷ [] }) other is

tested_then : (x : Tested) (go : Bool → Way → Tested) → TestedPlain x → ((h : Bool) (w : Way) → IsPlain w → TestedPlain (go h w)) → TestedPlain (then_tested x go)
tested_then Short go is next = tt
tested_then (Tells h w) go is next = next h w is

choice_plain : (left : List Bool) (w : Way) → IsPlain w → TestedPlain (next_choice left w)
choice_plain [] w is = tt
choice_plain (h ∷ left) w is = is

path_then : (x : Path) (go : Way → Path) → PathPlain x → ((w : Way) → IsPlain w → PathPlain (go w)) → PathPlain (then_lead x go)
path_then (Aborts w) go is next = tt
path_then TooFew go is next = tt
path_then (Leads w) go is next = next w is

side_plain : (x : Tested) (a b : Way → Path) → TestedPlain x → ((w : Way) → IsPlain w → PathPlain (a w)) → ((w : Way) → IsPlain w → PathPlain (b w)) → PathPlain (on_side x a b)
side_plain Short a b is p q = tt
side_plain (Tells true w) a b is p q = p w is
side_plain (Tells false w) a b is p q = q w is

now_plain : (m : Merge) (c : ℕ) (w : Way) → IsPlain w → IsPlain (now_way m c w)
now_plain merges.NumDelta c w is = old_plain c types.Int w integer_alone is
now_plain merges.Plain c w is = is
now_plain merges.Lww c w is = is
now_plain merges.Fresh c w is = is

kept_plain : (m : Merge) (w : Way) → IsPlain w → IsPlain (kept_way m w)
kept_plain merges.NumDelta w is = put_plain types.Int w integer_alone is
kept_plain merges.Plain w is = is
kept_plain merges.Lww w is = is
kept_plain merges.Fresh w is = is

columns_plain : (d : Declaration) (c : ℕ) (columns : List Column) (w : Way) → IsPlain w → IsPlain (columns_way d c columns w)
columns_plain d c [] w is = is
columns_plain d c (x ∷ columns) w is = columns_plain d (suc c) columns (if is_key_column d.key c then w else kept_way x.merge w) (by_key (is_key_column d.key c))
  where
    by_key : (b : Bool) → IsPlain (if b then w else kept_way x.merge w)
    by_key true = is
    by_key false = kept_plain x.merge w is

insert_plain : (o : Option Declaration) (w : Way) → IsPlain w → IsPlain (insert_way o w)
insert_plain None w is = is
insert_plain (Some d) w is = by_kind (is_grow_only d.kind)
  where
    by_kind : (b : Bool) → IsPlain (if b then w else columns_way d 0 d.columns w)
    by_kind true = is
    by_kind false = columns_plain d 0 d.columns w is

module _ (f : Frame) (accepted : AcceptedSchema f.schema) where
  term_plain : (at : Scope) (t : ℕ) (e : Term) (w : Way) → NoLists f at.known → Reads at e → IsPlain w → IsPlain (term_way f.schema (names_in f) t e w)
  term_plain at t (Number n s) w none reads is = is
  term_plain at t (Words text s) w none reads is = is
  term_plain at t (Variable x s) w none reads is = brought_plain (sources.Variable x.num) _ w (none x.num reads) is
  term_plain at t (Field r c s) w none reads is = brought_plain (sources.Column r.num c.num) _ w (column_alone f accepted _ c.num) is
  term_plain at t (Old c s) w none reads is = old_plain c.num _ w (column_alone f accepted t c.num) is
  term_plain at t (Minus a s) w none reads is = term_plain at t a w none reads is
  term_plain at t (Sum a b s) w none reads is = term_plain at t b (term_way f.schema (names_in f) t a w) none reads.1 (term_plain at t a w none reads.0 is)
  term_plain at t (Difference a b s) w none reads is = term_plain at t b (term_way f.schema (names_in f) t a w) none reads.1 (term_plain at t a w none reads.0 is)
  term_plain at t (Product a b s) w none reads is = by_factor (is_factor a || is_factor b) (term_plain at t b (term_way f.schema (names_in f) t a w) none reads.1 (term_plain at t a w none reads.0 is))
    where
      z : Way
      z = term_way f.schema (names_in f) t b (term_way f.schema (names_in f) t a w)

      by_factor : (c : Bool) → IsPlain z → IsPlain (if c then z else put types.Int z)
      by_factor true both = both
      by_factor false both = put_plain types.Int z integer_alone both

  terms_plain : (at : Scope) (es : List Term) (w : Way) → NoLists f at.known → AllRead at es → IsPlain w → IsPlain (terms_way f.schema (names_in f) es w)
  terms_plain at [] w none reads is = is
  terms_plain at (e ∷ es) w none reads is = terms_plain at es (term_way f.schema (names_in f) 0 e w) none reads.1 (term_plain at 0 e w none reads.0 is)

  test_plain : (at : Scope) (t : Test) (w : Way) → NoLists f at.known → TestReads at t → IsPlain w → TestedPlain (test_way f.schema (names_in f) t w)
  test_plain at (Compare a r b) w none reads is =
      let z : Way = term_way f.schema (names_in f) 0 b (term_way f.schema (names_in f) 0 a w) in
      choice_plain z.left z (term_plain at 0 b (term_way f.schema (names_in f) 0 a w) none reads.1 (term_plain at 0 a w none reads.0 is))
  test_plain at (Negation t) w none reads is = tested_then (test_way f.schema (names_in f) t w) _ (test_plain at t w none reads is) (λ h z more. more)
  test_plain at (Both t q) w none reads is = tested_then (test_way f.schema (names_in f) t w) _ (test_plain at t w none reads.0 is) (λ h z more. tested_then (test_way f.schema (names_in f) q z) _ (test_plain at q z none reads.1 more) (λ g y last. last))
  test_plain at (Either t q) w none reads is = tested_then (test_way f.schema (names_in f) t w) _ (test_plain at t w none reads.0 is) (λ h z more. tested_then (test_way f.schema (names_in f) q z) _ (test_plain at q z none reads.1 more) (λ g y last. last))

  sets_plain : (at : Scope) (t : Ident) (sets : List (Ident × Term)) (w : Way) → NoLists f at.known → SetsSuit f at t sets → IsPlain w → IsPlain (sets_way f.schema (names_in f) t.num sets w)
  sets_plain at t [] w none suit is = is
  sets_plain at t (set ∷ sets) w none suit is =
      let m : Merge = merge_in (slice_get (columns_at (slice_get f.schema t.num)) set.0.num) in
      let z : Way = term_way f.schema (names_in f) t.num set.1 w in
      sets_plain at t sets (now_way m set.0.num z) none suit.2 (now_plain m set.0.num z (term_plain at t.num set.1 w none suit.0 is))

  mutual
    command_plain : (c : Command) (at : Scope) (w : Way) → Suits f at c → NoLists f at.known → IsPlain w → PathPlain (command_path f.schema (names_in f) c w)
    command_plain (Declare x e) at w suits none is = term_plain at 0 e w none suits.0 is
    command_plain (Assign x e) at w suits none is = term_plain at 0 e w none suits.0 is
    command_plain (Fetch r t key) at w suits none is = terms_plain at key w none suits.0 is
    command_plain (Choose c ys ns) at w suits none is =
        side_plain (test_way f.schema (names_in f) c w) (block_path f.schema (names_in f) ys) (block_path f.schema (names_in f) ns) (test_plain at c w none suits.0 is) (λ z more. block_plain ys at z suits.1 none more) (λ z more. block_plain ns at z suits.2 none more)
    command_plain (ForRows r t c body) at w suits none is = is
    command_plain (ForEach x l body) at w suits none is = is
    command_plain (Insert t es) at w suits none is = insert_plain (slice_get f.schema t.num) (terms_way f.schema (names_in f) es w) (terms_plain at es w none suits.0 is)
    command_plain (Fresh x t es) at w suits none is = put_plain types.Int (terms_way f.schema (names_in f) es w) integer_alone (terms_plain at es w none suits.0 is)
    command_plain (Update t key sets) at w suits none is = sets_plain (behind_set at t) t sets (forgetting (terms_way f.schema (names_in f) key w)) none suits.2 (terms_plain at key w none suits.0 is)
    command_plain (Remove t key) at w suits none is = terms_plain at key w none suits.0 is
    command_plain (Abort n) at w suits none is = tt
    command_plain (Reply e) at w suits none is = term_plain at 0 e w none suits is

    block_plain : (b : Block) (at : Scope) (w : Way) → BlockSuits f at b → NoLists f at.known → IsPlain w → PathPlain (block_path f.schema (names_in f) b w)
    block_plain Finish at w suits none is = is
    block_plain (Then c b) at w suits none is = path_then (command_path f.schema (names_in f) c w) (block_path f.schema (names_in f) b) (command_plain c at w suits.0 none is) (λ z more. block_plain b (behind at c) z suits.1 (none_behind f accepted at c suits.0 none) more)

pub symbols_are_typed : SymbolsAreTyped
symbols_are_typed schema txns number unit txn body choices end accepted among at is =
    let f : Frame = frame_of schema txns number txn in
    let scope = unit_in schema txns number unit txn body accepted among at in
    let leads : block_path schema (names_in f) body (first_sketch choices).way ≡ Leads end.way = sym (path_of_block schema (names_in f) body (first_sketch choices)) ∙ ap path_in is in
    let values : map plain end.way.symbols ≡ end.way.symbols = subst PathPlain leads (block_plain f accepted.tables body scope.at (first_sketch choices).way scope.suits scope.none refl) in
    subst (λ tys. EffectsAreOver tys end.drawing.effects) values (effects_over schema txn body choices end is)
