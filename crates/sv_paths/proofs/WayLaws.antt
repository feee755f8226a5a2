-- Paths are what leads through a unit, whatever the schema.
use Rattle.std.proofs.Common.{◌≡◌, ℕ, suc, ◌==◌, Bool, true, false, not, ◌&&◌, ◌||◌, if◌then◌else◌, List, [], ◌∷◌, ◌++◌, Option, Some, None, slice_get, refl, sym, ap, ◌∙◌, subst}
use Rattle.std.specs.List.{list_any}
use Rattle.sv_app.specs.declared.apps.Ident.{Ident}
use Rattle.sv_app.specs.declared.instances.Source.{Source}
use Rattle.sv_app.specs.declared.instances.Source.TheVariants as sources
use Rattle.sv_app.specs.declared.schemas.Column.{Column}
use Rattle.sv_app.specs.declared.schemas.Merge.{Merge}
use Rattle.sv_app.specs.declared.schemas.Merge.TheVariants as merges
use Rattle.sv_app.specs.declared.schemas.Ty.{Ty}
use Rattle.sv_app.specs.declared.schemas.Ty.TheVariants as types
use Rattle.sv_app.specs.Paths.{Names, Way, put, brought, brought_old, term_way, terms_way, Tested, Short, Tells, then_tested, next_choice, test_way, merge_in, now_way, sets_way, kept_way, columns_way, insert_way, Path, Aborts, TooFew, Leads, then_lead, on_side, forgetting, command_path, block_path, unit_path, names_of, columns_at, column_type}
use Rattle.sv_app.specs.Schema.{Declaration}
use Rattle.sv_app.specs.Slots.{item}
use Rattle.sv_app.specs.Symbols.{is_known, is_factor, is_key_column}
use Rattle.sv_app.specs.Kinds.{is_grow_only}
use Rattle.sv_app.specs.Trees.{Term, Number, Words, Variable, Field, Old, Minus, Sum, Difference, Product, Test, Compare, Negation, Both, Either, Command, Declare, Assign, Fetch, Choose, ForRows, ForEach, Insert, Fresh, Update, Remove, Abort, Reply, Block, Finish, Then}
use Rattle.sv_paths.specs.Laws.{IsThrough, PathsAreUnitPaths}
use Rattle.sv_paths.specs.Paths.{Next, OneOf, Ends, Judges, IsStep, IsPath}
use Rattle.sv_paths.proofs.NextLaws.{regroup, group, ended, ending, alone, lone, joined, joining, twice}

-- symbols take no choice
of_either : (b : Bool) (x y w : Way) → x.left ≡ w.left → y.left ≡ w.left → (if b then x else y).left ≡ w.left
of_either true x y w e f = e
of_either false x y w e f = f

brought_left : (source : Source) (ty : Ty) (w : Way) → (brought source ty w).left ≡ w.left
brought_left source ty w = of_either (is_known source w.known) w (put ty (record w { known = w.known ++ source ∷ [] })) w refl refl

old_left : (c : ℕ) (ty : Ty) (w : Way) → (brought_old c ty w).left ≡ w.left
old_left c ty w = of_either (list_any (λ d. c == d) w.known_old) w (put ty (record w { known_old = w.known_old ++ c ∷ [] })) w refl refl

term_left : (schema : List Declaration) (names : Names) (table : ℕ) (e : Term) (w : Way) → (term_way schema names table e w).left ≡ w.left
term_left schema names table (Number n at) w = refl
term_left schema names table (Words t at) w = refl
term_left schema names table (Variable x at) w = brought_left (sources.Variable x.num) (item types.Int names.types x.num) w
term_left schema names table (Field r c at) w = brought_left (sources.Column r.num c.num) (column_type schema (item 0 names.tables r.num) c.num) w
term_left schema names table (Old c at) w = old_left c.num (column_type schema table c.num) w
term_left schema names table (Minus a at) w = term_left schema names table a w
term_left schema names table (Sum a b at) w = term_left schema names table b (term_way schema names table a w) ∙ term_left schema names table a w
term_left schema names table (Difference a b at) w = term_left schema names table b (term_way schema names table a w) ∙ term_left schema names table a w
term_left schema names table (Product a b at) w =
    let z = term_way schema names table b (term_way schema names table a w) in
    let e : z.left ≡ w.left = term_left schema names table b (term_way schema names table a w) ∙ term_left schema names table a w in
    of_either (is_factor a || is_factor b) z (put types.Int z) w e e

terms_left : (schema : List Declaration) (names : Names) (es : List Term) (w : Way) → (terms_way schema names es w).left ≡ w.left
terms_left schema names [] w = refl
terms_left schema names (e ∷ es) w = terms_left schema names es (term_way schema names 0 e w) ∙ term_left schema names 0 e w

now_left : (merge : Merge) (c : ℕ) (w : Way) → (now_way merge c w).left ≡ w.left
now_left merges.NumDelta c w = old_left c types.Int w
now_left merges.Plain c w = refl
now_left merges.Lww c w = refl
now_left merges.Fresh c w = refl

sets_left : (schema : List Declaration) (names : Names) (table : ℕ) (sets : List (Ident × Term)) (w : Way) → (sets_way schema names table sets w).left ≡ w.left
sets_left schema names table [] w = refl
sets_left schema names table (set ∷ sets) w =
    sets_left schema names table sets (now_way (merge_in (slice_get (columns_at (slice_get schema table)) set.0.num)) set.0.num (term_way schema names table set.1 w))
    ∙ now_left (merge_in (slice_get (columns_at (slice_get schema table)) set.0.num)) set.0.num (term_way schema names table set.1 w) ∙ term_left schema names table set.1 w

kept_left : (merge : Merge) (w : Way) → (kept_way merge w).left ≡ w.left
kept_left merges.NumDelta w = refl
kept_left merges.Plain w = refl
kept_left merges.Lww w = refl
kept_left merges.Fresh w = refl

columns_left : (table : Declaration) (c : ℕ) (columns : List Column) (w : Way) → (columns_way table c columns w).left ≡ w.left
columns_left table c [] w = refl
columns_left table c (column ∷ columns) w =
    columns_left table (suc c) columns (if is_key_column table.key c then w else kept_way column.merge w) ∙ of_either (is_key_column table.key c) w (kept_way column.merge w) w refl (kept_left column.merge w)

insert_left : (table : Option Declaration) (w : Way) → (insert_way table w).left ≡ w.left
insert_left None w = refl
insert_left (Some table) w = of_either (is_grow_only table.kind) w (columns_way table 0 table.columns w) w refl (columns_left table 0 table.columns w)

-- where a condition comes to: with which value, and with which choices left
abbrev Comes : (Bool → List Bool → Type 0) → Tested → Type 0
Comes Q Short = ⊥
Comes Q (Tells holds w) = Q holds w.left

abbrev CameTo : (Bool → Way → Type 0) → Tested → Type 0
CameTo P Short = ⊥
CameTo P (Tells holds w) = P holds w

came_on : (Q : Bool → List Bool → Type 0) (t : Tested) (go : Bool → Way → Tested) → Comes Q (then_tested t go) → CameTo (λ h z. Comes Q (go h z)) t
came_on Q Short go c = c
came_on Q (Tells holds w) go c = c

comes_on : (Q : Bool → List Bool → Type 0) (t : Tested) (go : Bool → Way → Tested) → CameTo (λ h z. Comes Q (go h z)) t → Comes Q (then_tested t go)
comes_on Q Short go c = c
comes_on Q (Tells holds w) go c = c

at_left : (P : Bool → Way → Type 0) (Q : Bool → List Bool → Type 0) → ((h : Bool) (z : Way) → P h z → Q h z.left) → (t : Tested) → CameTo P t → Comes Q t
at_left P Q f Short c = c
at_left P Q f (Tells holds w) c = f holds w c

from_left : (P : Bool → Way → Type 0) (Q : Bool → List Bool → Type 0) → ((h : Bool) (z : Way) → Q h z.left → P h z) → (t : Tested) → Comes Q t → CameTo P t
from_left P Q f Short c = c
from_left P Q f (Tells holds w) c = f holds w c

-- a comparison takes one choice
choice_comes : (Q : Bool → List Bool → Type 0) (left : List Bool) (z : Way) → Comes Q (next_choice left z) → Next (λ v cs. cs ≡ v ∷ []) Q left
choice_comes Q [] z c = absurd c
choice_comes Q (h ∷ left) z c = record { value = h; front = h ∷ []; back = left; whole = refl; first = refl; following = c }

comes_choice : (Q : Bool → List Bool → Type 0) (left : List Bool) (z : Way) → Next (λ v cs. cs ≡ v ∷ []) Q left → Comes Q (next_choice left z)
comes_choice Q left z n = subst (λ l. Comes Q (next_choice l z)) (sym (n.whole ∙ ap (λ l. l ++ n.back) n.first)) n.following

-- `not`
turned : (F Q : Bool → List Bool → Type 0) (cs : List Bool) → Next F (λ h. Q (not h)) cs → Next (λ v. F (not v)) Q cs
turned F Q cs n = record { value = not n.value; front = n.front; back = n.back; whole = n.whole; first = twice F n.value n.front n.first; following = n.following }

turning : (F Q : Bool → List Bool → Type 0) (cs : List Bool) → Next (λ v. F (not v)) Q cs → Next F (λ h. Q (not h)) cs
turning F Q cs n = record { value = not n.value; front = n.front; back = n.back; whole = n.whole; first = n.first; following = twice Q n.value n.back n.following }

-- `and` and `or`
parts_come : (join : Bool → Bool → Bool) (Q F G : Bool → List Bool → Type 0) (first : Tested) (second : Way → Tested) (left : List Bool)
    → ((R : Bool → List Bool → Type 0) → Comes R first → Next F R left) → ((R : Bool → List Bool → Type 0) (y : Way) → Comes R (second y) → Next G R y.left)
    → Comes Q (then_tested first (λ h y. then_tested (second y) (λ k z. Tells (join h k) z))) → Next (λ v. Next F (λ h. Next G (λ k. Ends (join h k) v))) Q left
parts_come join Q F G first second left f g c =
    joining join F G Q left (f (λ h. Next G (λ k. Q (join h k)))
    (at_left (λ h y. Comes Q (then_tested (second y) (λ k z. Tells (join h k) z))) (λ h. Next G (λ k. Q (join h k)))
    (λ h y d. g (λ k. Q (join h k)) y
    (at_left (λ k z. Q (join h k) z.left) (λ k. Q (join h k)) (λ k z e. e) (second y) (came_on Q (second y) (λ k z. Tells (join h k) z) d)))
    first (came_on Q first (λ h y. then_tested (second y) (λ k z. Tells (join h k) z)) c)))

come_parts : (join : Bool → Bool → Bool) (Q F G : Bool → List Bool → Type 0) (first : Tested) (second : Way → Tested) (left : List Bool)
    → ((R : Bool → List Bool → Type 0) → Next F R left → Comes R first) → ((R : Bool → List Bool → Type 0) (y : Way) → Next G R y.left → Comes R (second y))
    → Next (λ v. Next F (λ h. Next G (λ k. Ends (join h k) v))) Q left → Comes Q (then_tested first (λ h y. then_tested (second y) (λ k z. Tells (join h k) z)))
come_parts join Q F G first second left f g n =
    comes_on Q first (λ h y. then_tested (second y) (λ k z. Tells (join h k) z))
    (from_left (λ h y. Comes Q (then_tested (second y) (λ k z. Tells (join h k) z))) (λ h. Next G (λ k. Q (join h k)))
    (λ h y d. comes_on Q (second y) (λ k z. Tells (join h k) z)
    (from_left (λ k z. Q (join h k) z.left) (λ k. Q (join h k)) (λ k z e. e) (second y) (g (λ k. Q (join h k)) y d)))
    first (f (λ h. Next G (λ k. Q (join h k))) (joined join F G Q left n)))

test_comes : (schema : List Declaration) (names : Names) (t : Test) (w : Way) (Q : Bool → List Bool → Type 0) → Comes Q (test_way schema names t w) → Next (Judges t) Q w.left
test_comes schema names (Compare a r b) w Q c =
    let z = term_way schema names 0 b (term_way schema names 0 a w) in
    subst (Next (λ v cs. cs ≡ v ∷ []) Q) (term_left schema names 0 b (term_way schema names 0 a w) ∙ term_left schema names 0 a w) (choice_comes Q z.left z c)
test_comes schema names (Negation t) w Q c =
    turned (Judges t) Q w.left (test_comes schema names t w (λ h. Q (not h))
    (at_left (λ h z. Q (not h) z.left) (λ h. Q (not h)) (λ h z d. d) (test_way schema names t w) (came_on Q (test_way schema names t w) (λ h z. Tells (not h) z) c)))
test_comes schema names (Both t q) w Q c = parts_come ◌&&◌ Q (Judges t) (Judges q) (test_way schema names t w) (test_way schema names q) w.left (test_comes schema names t w) (λ R y. test_comes schema names q y R) c
test_comes schema names (Either t q) w Q c = parts_come ◌||◌ Q (Judges t) (Judges q) (test_way schema names t w) (test_way schema names q) w.left (test_comes schema names t w) (λ R y. test_comes schema names q y R) c

comes_test : (schema : List Declaration) (names : Names) (t : Test) (w : Way) (Q : Bool → List Bool → Type 0) → Next (Judges t) Q w.left → Comes Q (test_way schema names t w)
comes_test schema names (Compare a r b) w Q n =
    let z = term_way schema names 0 b (term_way schema names 0 a w) in
    comes_choice Q z.left z (subst (Next (λ v cs. cs ≡ v ∷ []) Q) (sym (term_left schema names 0 b (term_way schema names 0 a w) ∙ term_left schema names 0 a w)) n)
comes_test schema names (Negation t) w Q n =
    comes_on Q (test_way schema names t w) (λ h z. Tells (not h) z)
    (from_left (λ h z. Q (not h) z.left) (λ h. Q (not h)) (λ h z d. d) (test_way schema names t w) (comes_test schema names t w (λ h. Q (not h)) (turning (Judges t) Q w.left n)))
comes_test schema names (Both t q) w Q n = come_parts ◌&&◌ Q (Judges t) (Judges q) (test_way schema names t w) (test_way schema names q) w.left (comes_test schema names t w) (λ R y. comes_test schema names q y R) n
comes_test schema names (Either t q) w Q n = come_parts ◌||◌ Q (Judges t) (Judges q) (test_way schema names t w) (test_way schema names q) w.left (comes_test schema names t w) (λ R y. comes_test schema names q y R) n

-- where a path comes to: whether it aborts, and with which choices left
abbrev Gets : (Bool → List Bool → Type 0) → Path → Type 0
Gets Q (Aborts w) = Q true w.left
Gets Q TooFew = ⊥
Gets Q (Leads w) = Q false w.left

side_gets : (Q : Bool → List Bool → Type 0) (t : Tested) (f g : Way → Path) (Y N : Bool → List Bool → Type 0)
    → ((z : Way) → Gets Q (f z) → Next Y Q z.left) → ((z : Way) → Gets Q (g z) → Next N Q z.left)
    → Gets Q (on_side t f g) → Comes (λ h. Next (λ v. OneOf h (Y v) (N v)) Q) t
side_gets Q Short f g Y N yes_in no_in c = c
side_gets Q (Tells true w) f g Y N yes_in no_in c = yes_in w c
side_gets Q (Tells false w) f g Y N yes_in no_in c = no_in w c

gets_side : (Q : Bool → List Bool → Type 0) (t : Tested) (f g : Way → Path) (Y N : Bool → List Bool → Type 0)
    → ((z : Way) → Next Y Q z.left → Gets Q (f z)) → ((z : Way) → Next N Q z.left → Gets Q (g z))
    → Comes (λ h. Next (λ v. OneOf h (Y v) (N v)) Q) t → Gets Q (on_side t f g)
gets_side Q Short f g Y N yes_in no_in c = c
gets_side Q (Tells true w) f g Y N yes_in no_in c = yes_in w c
gets_side Q (Tells false w) f g Y N yes_in no_in c = no_in w c

lead_gets : (Q : Bool → List Bool → Type 0) (p : Path) (go : Way → Path) (B : Bool → List Bool → Type 0) → ((z : Way) → Gets Q (go z) → Next B Q z.left)
    → Gets Q (then_lead p go) → Gets (λ x. Next (λ v. OneOf x (Ends true v) (B v)) Q) p
lead_gets Q (Aborts w) go B f c = ending true Q w.left c
lead_gets Q TooFew go B f c = c
lead_gets Q (Leads w) go B f c = f w c

gets_lead : (Q : Bool → List Bool → Type 0) (p : Path) (go : Way → Path) (B : Bool → List Bool → Type 0) → ((z : Way) → Next B Q z.left → Gets Q (go z))
    → Gets (λ x. Next (λ v. OneOf x (Ends true v) (B v)) Q) p → Gets Q (then_lead p go)
gets_lead Q (Aborts w) go B f c = ended true Q w.left c
gets_lead Q TooFew go B f c = c
gets_lead Q (Leads w) go B f c = f w c

-- a statement without choices
plain_gets : (Q : Bool → List Bool → Type 0) (w z : Way) → z.left ≡ w.left → Q false z.left → Next (Ends false) Q w.left
plain_gets Q w z e c = ending false Q w.left (subst (Q false) e c)

gets_plain : (Q : Bool → List Bool → Type 0) (w z : Way) → z.left ≡ w.left → Next (Ends false) Q w.left → Q false z.left
gets_plain Q w z e n = subst (Q false) (sym e) (ended false Q w.left n)

set_left : (schema : List Declaration) (names : Names) (t : Ident) (k : List Term) (ss : List (Ident × Term)) (w : Way)
    → (sets_way schema names t.num ss (forgetting (terms_way schema names k w))).left ≡ w.left
set_left schema names t k ss w = sets_left schema names t.num ss (forgetting (terms_way schema names k w)) ∙ terms_left schema names k w

put_left : (schema : List Declaration) (names : Names) (t : Ident) (vs : List Term) (w : Way) → (insert_way (slice_get schema t.num) (terms_way schema names vs w)).left ≡ w.left
put_left schema names t vs w = insert_left (slice_get schema t.num) (terms_way schema names vs w) ∙ terms_left schema names vs w

mutual
  command_gets : (schema : List Declaration) (names : Names) (c : Command) (w : Way) (Q : Bool → List Bool → Type 0) → Gets Q (command_path schema names c w) → Next (IsStep c) Q w.left
  command_gets schema names (Declare x e) w Q c = plain_gets Q w (term_way schema names 0 e w) (term_left schema names 0 e w) c
  command_gets schema names (Assign x e) w Q c = plain_gets Q w (term_way schema names 0 e w) (term_left schema names 0 e w) c
  command_gets schema names (Fetch r t k) w Q c = plain_gets Q w (terms_way schema names k w) (terms_left schema names k w) c
  command_gets schema names (Choose t ys ns) w Q c =
      group (Judges t) (λ h v. OneOf h (IsPath ys v) (IsPath ns v)) Q w.left (test_comes schema names t w (λ h. Next (λ v. OneOf h (IsPath ys v) (IsPath ns v)) Q)
      (side_gets Q (test_way schema names t w) (block_path schema names ys) (block_path schema names ns) (IsPath ys) (IsPath ns) (λ z. block_gets schema names ys z Q) (λ z. block_gets schema names ns z Q) c))
  command_gets schema names (ForRows r t c body) w Q d = ending false Q w.left d
  command_gets schema names (ForEach x l body) w Q c = ending false Q w.left c
  command_gets schema names (Insert t vs) w Q c = plain_gets Q w (insert_way (slice_get schema t.num) (terms_way schema names vs w)) (put_left schema names t vs w) c
  command_gets schema names (Fresh x t vs) w Q c = plain_gets Q w (terms_way schema names vs w) (terms_left schema names vs w) c
  command_gets schema names (Update t k ss) w Q c = plain_gets Q w (sets_way schema names t.num ss (forgetting (terms_way schema names k w))) (set_left schema names t k ss w) c
  command_gets schema names (Remove t k) w Q c = plain_gets Q w (terms_way schema names k w) (terms_left schema names k w) c
  command_gets schema names (Abort n) w Q c = ending true Q w.left c
  command_gets schema names (Reply e) w Q c = plain_gets Q w (term_way schema names 0 e w) (term_left schema names 0 e w) c

  block_gets : (schema : List Declaration) (names : Names) (b : Block) (w : Way) (Q : Bool → List Bool → Type 0) → Gets Q (block_path schema names b w) → Next (IsPath b) Q w.left
  block_gets schema names Finish w Q c = ending false Q w.left c
  block_gets schema names (Then s b) w Q c =
      group (IsStep s) (λ x v. OneOf x (Ends true v) (IsPath b v)) Q w.left (command_gets schema names s w (λ x. Next (λ v. OneOf x (Ends true v) (IsPath b v)) Q)
      (lead_gets Q (command_path schema names s w) (block_path schema names b) (IsPath b) (λ z. block_gets schema names b z Q) c))

mutual
  gets_command : (schema : List Declaration) (names : Names) (c : Command) (w : Way) (Q : Bool → List Bool → Type 0) → Next (IsStep c) Q w.left → Gets Q (command_path schema names c w)
  gets_command schema names (Declare x e) w Q n = gets_plain Q w (term_way schema names 0 e w) (term_left schema names 0 e w) n
  gets_command schema names (Assign x e) w Q n = gets_plain Q w (term_way schema names 0 e w) (term_left schema names 0 e w) n
  gets_command schema names (Fetch r t k) w Q n = gets_plain Q w (terms_way schema names k w) (terms_left schema names k w) n
  gets_command schema names (Choose t ys ns) w Q n =
      gets_side Q (test_way schema names t w) (block_path schema names ys) (block_path schema names ns) (IsPath ys) (IsPath ns) (λ z. gets_block schema names ys z Q) (λ z. gets_block schema names ns z Q)
      (comes_test schema names t w (λ h. Next (λ v. OneOf h (IsPath ys v) (IsPath ns v)) Q) (regroup (Judges t) (λ h v. OneOf h (IsPath ys v) (IsPath ns v)) Q w.left n))
  gets_command schema names (ForRows r t c body) w Q n = ended false Q w.left n
  gets_command schema names (ForEach x l body) w Q n = ended false Q w.left n
  gets_command schema names (Insert t vs) w Q n = gets_plain Q w (insert_way (slice_get schema t.num) (terms_way schema names vs w)) (put_left schema names t vs w) n
  gets_command schema names (Fresh x t vs) w Q n = gets_plain Q w (terms_way schema names vs w) (terms_left schema names vs w) n
  gets_command schema names (Update t k ss) w Q n = gets_plain Q w (sets_way schema names t.num ss (forgetting (terms_way schema names k w))) (set_left schema names t k ss w) n
  gets_command schema names (Remove t k) w Q n = gets_plain Q w (terms_way schema names k w) (terms_left schema names k w) n
  gets_command schema names (Abort m) w Q n = ended true Q w.left n
  gets_command schema names (Reply e) w Q n = gets_plain Q w (term_way schema names 0 e w) (term_left schema names 0 e w) n

  gets_block : (schema : List Declaration) (names : Names) (b : Block) (w : Way) (Q : Bool → List Bool → Type 0) → Next (IsPath b) Q w.left → Gets Q (block_path schema names b w)
  gets_block schema names Finish w Q n = ended false Q w.left n
  gets_block schema names (Then s b) w Q n =
      gets_lead Q (command_path schema names s w) (block_path schema names b) (IsPath b) (λ z. gets_block schema names b z Q)
      (gets_command schema names s w (λ x. Next (λ v. OneOf x (Ends true v) (IsPath b v)) Q) (regroup (IsStep s) (λ x v. OneOf x (Ends true v) (IsPath b v)) Q w.left n))

got_through : (aborts : Bool) (p : Path) → Gets (λ v. Ends v aborts) p → IsThrough aborts p
got_through aborts (Aborts w) c = c
got_through aborts TooFew c = c
got_through aborts (Leads w) c = c

through_gets : (aborts : Bool) (p : Path) → IsThrough aborts p → Gets (λ v. Ends v aborts) p
through_gets aborts (Aborts w) c = c
through_gets aborts TooFew c = c
through_gets aborts (Leads w) c = c

pub unit_paths : PathsAreUnitPaths
unit_paths schema txn body aborts choices =
    let names = names_of schema txn in
    let begin : Way = record { left = choices; known = []; known_old = []; symbols = [] } in (
      λ h. got_through aborts (unit_path schema txn body choices) (gets_block schema names body begin (λ v. Ends v aborts) (lone (IsPath body) aborts choices h)),
      λ h. alone (IsPath body) aborts choices (block_gets schema names body begin (λ v. Ends v aborts) (through_gets aborts (unit_path schema txn body choices) h)),
    )
