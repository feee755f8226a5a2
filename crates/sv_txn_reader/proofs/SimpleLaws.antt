-- Statements without blocks.
use Rattle.std.proofs.Common.{◌≡◌, ◌∙◌, ℕ, suc, ◌≤◌, inl, inr, Bool, true, false, not, ◌&&◌, ◌||◌, if◌then◌else◌, nat_le, nat_lt, pos, List, [], ◌∷◌, length, Option, Some, None, Ok, refl, sym, ap, subst, codes, arith}
use Rattle.std.proofs.Math.IntN.{negsuc}
use Rattle.std.proofs.lemmas.Bool.Decides.{nat_tests}
use Rattle.sv_lex.specs.declared.marks.Mark.TheVariants as marks
use Rattle.sv_lex.specs.declared.tokens.Token.{Token}
use Rattle.sv_lex.specs.declared.tokens.TokenKind.{TokenKind}
use Rattle.sv_lex.specs.declared.tokens.TokenKind.TheVariants.{Name, Number, Text, Mark}
use Rattle.sv_app.specs.declared.apps.Ident.{Ident}
use Rattle.sv_app.specs.declared.refusals.Code.TheVariants.{Syntax, Many}
use Rattle.sv_app.specs.Trees.{Term, Command, Declare, Assign, Fetch, Insert, Fresh, Update, Remove, Abort, Reply}
use Rattle.sv_reader.specs.Reading.{Read, ◌>>=◌, refuse, is_kind, is_next, is_some, name_of, is_name, name_at, kind_at, found_at, token_at}
use Rattle.sv_reader.proofs.KindLaws.{token_of}
use Rattle.sv_txn_reader.specs.declared.counts.Counts.{Counts}
use Rattle.sv_txn_reader.specs.Grammar.{◌·◌, nothing, kind, mark, word, name, limit, Within, expr, separated, listed, index, setting, code}
use Rattle.sv_txn_reader.specs.Reading.{Counted, natural, natural_of, passes, is_large, variable_at, let_at, assign_at, get_at, insert_at, fresh_at, update_at, remove_at, abort_at, reply_at, setting_at, listed_at, list_of, value_at, expr_at}
use Rattle.sv_txn_reader.specs.Standing.{counts, plus}
use Rattle.sv_txn_reader.proofs.ExprLaws.{expr_law}
use Rattle.sv_txn_reader.proofs.FactorLaws.{adds}
use Rattle.sv_txn_reader.proofs.HeadLaws.{name_misplaced, name_read}
use Rattle.sv_txn_reader.proofs.LiteralLaws.{term_first}
use Rattle.sv_reader.proofs.AnswerLaws.{anything, then_ok, then_err}
use Rattle.sv_txn_reader.proofs.PlacedLaws.{Passes, Law, map_law, read_law, clash_law}
use Rattle.sv_txn_reader.proofs.LimitLaws.{places, many_law, Limited, limited_law, Short}
use Rattle.sv_txn_reader.proofs.ListLaws.{joins, or_false, index_law, setting_law, values_law, sets_law}
use Rattle.sv_reader.proofs.AnswerLaws.{next_alike}
use Rattle.sv_txn_reader.proofs.PieceLaws.{Means, leaf_law, name_law, name_next, Made, take, skip, skip_last, ended, Either, Left, Right, either_law}

abbrev joins_kind : TokenKind → Bool
joins_kind k = ((is_kind (Mark marks.Dot) k || is_kind (Mark marks.Star) k) || (is_kind (Mark marks.Plus) k || is_kind (Mark marks.Minus) k)) || is_kind (Mark marks.Comma) k

pub semi_adds : (l r : List Token) → mark marks.Semi l r → adds l ≡ false
semi_adds l r is = ap adds is.next ∙ ap (λ k. (is_kind (Mark marks.Dot) k || is_kind (Mark marks.Star) k) || (is_kind (Mark marks.Plus) k || is_kind (Mark marks.Minus) k)) is.holds

semi_joins : (l r : List Token) → mark marks.Semi l r → joins l ≡ false
semi_joins l r is = ap joins is.next ∙ ap joins_kind is.holds

paren_joins : (l r : List Token) → mark marks.RightParen l r → joins l ≡ false
paren_joins l r is = ap joins is.next ∙ ap joins_kind is.holds

-- an element that is counted, and what is made of it
pub limited_made : {T A : Type 0} {clash : List Token → Bool} {R : ℕ → T → List Token → List Token → Type 0} {read : List Token → Read A} (most count : ℕ) (f : T → A)
    → Law places clash (Limited most count (Made f R)) read → Law places clash (Made f (λ i x. limit i most (suc count) · R i x)) read
limited_made {T} {A} {clash} {R} {read} most count f law = map_law law
    (λ i a l r is. record { «from» = is.1.«from»; is = record { middle = l; first = (refl, is.0); second = is.1.is }; made = is.1.made })
    (λ i a l r m. (m.is.first.1, record { «from» = m.«from»; is = subst (λ x. R i m.«from» x r) (sym m.is.first.0) m.is.second; made = m.made }))

abbrev Settled : Type 0
Settled = (Ident × Term) × Unit {0}

abbrev pub SetWords : ℕ → Settled → List Token → List Token → Type 0
SetWords i x = setting i x.0 · mark marks.Semi

set_first : (i : ℕ) (x : Settled) (l r : List Token) → SetWords i x l r → is_name l ≡ true
set_first i x l r is = name_next x.0.0 l is.first.middle is.first.first

-- a variable whose name comes next is counted
variable_law : {T : Type 0} {clash : List Token → Bool} {R : ℕ → T → List Token → List Token → Type 0} (n : Counts) (f : T → Counted) (read : Counts → List Token → Read Counted)
    → Law places clash (Made f R) (read (plus n (counts 0 0 1)))
    → ((i : ℕ) (x : T) (l r : List Token) → R i x l r → is_name l ≡ true)
    → ((l : List Token) → is_name l ≡ false → read (plus n (counts 0 0 1)) l ≡ refuse Syntax l)
    → ((token : Token) (others : List Token) → is_name (token ∷ others) ≡ true → read (plus n (counts 0 0 1)) (token ∷ []) ≡ refuse Syntax [])
    → Law places clash (Made f (λ i x. limit i 32 (suc n.variables) · R i x)) (λ l. variable_at n l >>= read)
unfolding variable_at
variable_law {T} {clash} {R} n f read law first misplaced short = limited_made 32 n.variables f
    (read_law same (limited_law is_name 32 n.variables (next_alike (λ token. is_some (name_of token))) refl law
    (λ i a l r m. first i m.«from» l r m.is) misplaced (λ token others t. Short (short token others t))))
  where
    asked : Bool → Bool → List Token → Read Counted
    asked b c l = if b && c then refuse Many l else read (plus n (counts 0 0 1)) l

    counted : Bool → Bool → List Token → Read Counts
    counted b c l = if b then (if c then refuse Many l else Ok (plus n (counts 0 0 1), l)) else refuse Syntax l

    same : (l : List Token) → (counted (is_name l) (nat_le 32 n.variables) l >>= read) ≡ asked (is_name l) (nat_le 32 n.variables) l
    same l = by_tests (is_name l) (nat_le 32 n.variables) refl
      where
        by_tests : (b c : Bool) → is_name l ≡ b → (counted b c l >>= read) ≡ asked b c l
        by_tests true true t = refl
        by_tests true false t = refl
        by_tests false c t = sym (misplaced l t)

-- let

abbrev pub let_of : Counts → Settled → Counted
let_of n x = (Declare x.0.0 x.0.1, plus n (counts 0 0 1))

let_rest : Counts → List Token → Read Counted
let_rest m l = setting_at l >>= λ s r2. kind_at (Mark marks.Semi) r2 >>= λ _ r3. Ok ((Declare s.0 s.1, m), r3)

pub let_law : (clash : List Token → Bool) (n : Counts) → Law places clash (Made (let_of n) (λ i x. word (codes "let") · limit i 32 (suc n.variables) · SetWords i x)) (let_at n)
unfolding let_at let_rest setting_at
let_law clash n = skip (Name (codes "let")) (let_of n) (variable_law n (let_of n) let_rest rest_law set_first
    (λ l e. ap settled (name_misplaced l e)) (λ token others t. ap settled (name_read token [] t).1))
  where
    rest_law : Law places clash (Made (let_of n) SetWords) (let_rest (plus n (counts 0 0 1)))
    rest_law = take (λ (s : Ident × Term) (_ : Unit {0}). let_of n (s, tt)) setting_law (λ s. skip_last places clash (Mark marks.Semi) (let_of n (s, tt))) (λ i a t l r is clear. semi_adds l r is)

    settled : Read Ident → Read Counted
    settled x = (x >>= λ x r1. kind_at (Mark marks.Eq) r1 >>= λ _ r2. expr_at r2 >>= λ e r3. Ok ((x, e), r3)) >>= λ s r2. kind_at (Mark marks.Semi) r2 >>= λ _ r3. Ok (let_of n (s, tt), r3)

-- values, or none

abbrev closes : List Token → Bool
closes l = joins l || not (is_next (Mark marks.RightParen) l)

paren_closes : (l r : List Token) → mark marks.RightParen l r → closes l ≡ false
paren_closes l r is = ap closes is.next ∙ ap (λ k. joins_kind k || not (is_kind (Mark marks.RightParen) k)) is.holds

no_paren : (i : ℕ) (e : Term) (l r : List Token) → expr i e l r → not (is_next (Mark marks.RightParen) l) ≡ true
no_paren i e l r is = ap not (term_first (is_kind (Mark marks.RightParen)) (λ n. refl) (λ t. refl) (λ w free. refl) refl refl refl is.is)

values_first : (i : ℕ) (vs : List Term) (l r : List Token) → separated (expr i) vs l r → not (is_next (Mark marks.RightParen) l) ≡ true
values_first i [] l r is = absurd is
values_first i (e ∷ vs) l r is = no_paren i e l is.middle is.first

listed_law : Law places closes (λ i. listed (expr i)) listed_at
unfolding listed_at
listed_law = map_law (read_law same (either_law (λ l. not (is_next (Mark marks.RightParen) l)) (λ a b alike. ap not (next_alike (λ token. is_kind (Mark marks.RightParen) token.kind) a b alike))
    (clash_law (λ l clear. (or_false (joins l) (not (is_next (Mark marks.RightParen) l)) clear).0) values_law)
    (ended places closes []) values_first
    (λ i vs l r m clear. subst (λ y. not (is_next (Mark marks.RightParen) y) ≡ false) (sym m.is) (or_false (joins r) (not (is_next (Mark marks.RightParen) r)) clear).1)))
    into out
  where
    by_test : (b : Bool) (l : List Token) → Read (List Term)
    by_test b l = if b then Ok ([], l) else list_of value_at l

    same : (l : List Token) → by_test (is_next (Mark marks.RightParen) l) l ≡ (if not (is_next (Mark marks.RightParen) l) then list_of value_at l else Ok ([], l))
    same l = by_bool (is_next (Mark marks.RightParen) l)
      where
        by_bool : (b : Bool) → by_test b l ≡ (if not b then list_of value_at l else Ok ([], l))
        by_bool true = refl
        by_bool false = refl

    some_listed : (i : ℕ) (vs : List Term) (l r : List Token) → separated (expr i) vs l r → listed (expr i) vs l r
    some_listed i [] l r is = absurd is
    some_listed i (e ∷ vs) l r is = is

    into : (i : ℕ) (vs : List Term) (l r : List Token) → Either (λ i. separated (expr i)) (Made (λ (_ : Unit {0}). []) (λ _ _. nothing)) i vs l r → listed (expr i) vs l r
    into i vs l r (Left is) = some_listed i vs l r is
    into i vs l r (Right m) = subst (λ y. listed (expr i) y l r) (sym m.made) m.is

    out : (i : ℕ) (vs : List Term) (l r : List Token) → listed (expr i) vs l r → Either (λ i. separated (expr i)) (Made (λ (_ : Unit {0}). []) (λ _ _. nothing)) i vs l r
    out i [] l r is = Right (record { «from» = tt; is = is; made = refl })
    out i (e ∷ vs) l r is = Left is

-- fresh

abbrev pub Drawn : Type 0
Drawn = Ident × (Ident × (List Term × Unit {0}))

abbrev pub fresh_of : Counts → Drawn → Counted
fresh_of n x = (Fresh x.0 x.1.0 x.1.1.0, plus n (counts 0 0 1))

abbrev pub FreshWords : ℕ → Drawn → List Token → List Token → Type 0
FreshWords i x = name x.0 · mark marks.Eq · name x.1.0 · mark marks.LeftParen · listed (expr i) x.1.1.0 · mark marks.RightParen · mark marks.Semi

drawn : Counts → Ident → List Token → Read Counted
drawn m x r3 =
    kind_at (Mark marks.Eq) r3 >>= λ _ r4. name_at r4 >>= λ t r5. kind_at (Mark marks.LeftParen) r5 >>= λ _ r6. listed_at r6 >>= λ vs r7.
    kind_at (Mark marks.RightParen) r7 >>= λ _ r8. kind_at (Mark marks.Semi) r8 >>= λ _ r9. Ok ((Fresh x t vs, m), r9)

pub fresh_law : (clash : List Token → Bool) (n : Counts) → Law places clash (Made (fresh_of n) (λ i x. word (codes "fresh") · limit i 32 (suc n.variables) · FreshWords i x)) (fresh_at n)
unfolding fresh_at drawn
fresh_law clash n = skip (Name (codes "fresh")) (fresh_of n) (variable_law n (fresh_of n) (λ m l. name_at l >>= drawn m) rest_law
    (λ i x l r is. name_next x.0 l is.middle is.first)
    (λ l e. then_err (drawn (plus n (counts 0 0 1))) (name_misplaced l e))
    (λ token others t. then_ok (drawn (plus n (counts 0 0 1))) (name_read token [] t).1))
  where
    rest_law : Law places clash (Made (fresh_of n) FreshWords) (λ l. name_at l >>= drawn (plus n (counts 0 0 1)))
    rest_law = take {before = anything} (λ (a : Ident) (x : Ident × (List Term × Unit {0})). fresh_of n (a, x)) (name_law places anything)
        (λ a. skip (Mark marks.Eq) (λ (x : Ident × (List Term × Unit {0})). fresh_of n (a, x)) (take {before = anything} (λ (t : Ident) (x : List Term × Unit {0}). fresh_of n (a, (t, x))) (name_law places anything)
        (λ t. skip (Mark marks.LeftParen) (λ (x : List Term × Unit {0}). fresh_of n (a, (t, x))) (take (λ (vs : List Term) (_ : Unit {0}). fresh_of n (a, (t, (vs, tt)))) listed_law
        (λ vs. skip (Mark marks.RightParen) (λ (_ : Unit {0}). fresh_of n (a, (t, (vs, tt)))) (skip_last places clash (Mark marks.Semi) (fresh_of n (a, (t, (vs, tt))))))
        (λ i vs x l r is clear. paren_closes l is.middle is.first))) (λ i t x l r is clear. refl))) (λ i a x l r is clear. refl)

-- the others

abbrev pub AssignWords : ℕ → Command → List Token → List Token → Type 0
AssignWords = Made (λ (x : Settled). Assign x.0.0 x.0.1) SetWords

pub assign_law : (clash : List Token → Bool) → Law places clash AssignWords assign_at
unfolding assign_at
assign_law clash = take (λ (s : Ident × Term) (_ : Unit {0}). Assign s.0 s.1) setting_law (λ s. skip_last places clash (Mark marks.Semi) (Assign s.0 s.1)) (λ i a t l r is clear. semi_adds l r is)

abbrev pub Fetched : Type 0
Fetched = Ident × (Ident × (List Term × Unit {0}))

abbrev pub GetWords : ℕ → Command → List Token → List Token → Type 0
GetWords = Made (λ (x : Fetched). Fetch x.0 x.1.0 x.1.1.0) (λ i x. word (codes "get") · name x.0 · mark marks.Eq · name x.1.0 · index i x.1.1.0 · mark marks.Semi)

pub get_law : (clash : List Token → Bool) → Law places clash GetWords get_at
unfolding get_at
get_law clash = skip (Name (codes "get")) (λ (x : Fetched). Fetch x.0 x.1.0 x.1.1.0) (take {before = anything} (λ (a : Ident) (x : Ident × (List Term × Unit {0})). Fetch a x.0 x.1.0) (name_law places anything)
    (λ a. skip (Mark marks.Eq) (λ (x : Ident × (List Term × Unit {0})). Fetch a x.0 x.1.0) (take {before = anything} (λ (t : Ident) (x : List Term × Unit {0}). Fetch a t x.0) (name_law places anything)
    (λ t. take {before = anything} (λ (k : List Term) (_ : Unit {0}). Fetch a t k) (index_law anything) (λ k. skip_last places clash (Mark marks.Semi) (Fetch a t k)) (λ i a t l r is clear. refl)) (λ i a t l r is clear. refl)))
    (λ i a t l r is clear. refl))

abbrev pub Inserted : Type 0
Inserted = Ident × (List Term × Unit {0})

abbrev pub InsertWords : ℕ → Command → List Token → List Token → Type 0
InsertWords = Made (λ (x : Inserted). Insert x.0 x.1.0) (λ i x. word (codes "insert") · name x.0 · mark marks.LeftParen · separated (expr i) x.1.0 · mark marks.RightParen · mark marks.Semi)

pub insert_law : (clash : List Token → Bool) → Law places clash InsertWords insert_at
unfolding insert_at
insert_law clash = skip (Name (codes "insert")) (λ (x : Inserted). Insert x.0 x.1.0) (take {before = anything} (λ (t : Ident) (x : List Term × Unit {0}). Insert t x.0) (name_law places anything)
    (λ t. skip (Mark marks.LeftParen) (λ (x : List Term × Unit {0}). Insert t x.0) (take (λ (vs : List Term) (_ : Unit {0}). Insert t vs) values_law
    (λ vs. skip (Mark marks.RightParen) (λ (_ : Unit {0}). Insert t vs) (skip_last places clash (Mark marks.Semi) (Insert t vs))) (λ i a t l r is clear. paren_joins l is.middle is.first))) (λ i a t l r is clear. refl))

abbrev pub Updated : Type 0
Updated = Ident × (List Term × (List (Ident × Term) × Unit {0}))

abbrev pub UpdateWords : ℕ → Command → List Token → List Token → Type 0
UpdateWords = Made (λ (x : Updated). Update x.0 x.1.0 x.1.1.0) (λ i x. word (codes "update") · name x.0 · index i x.1.0 · word (codes "set") · separated (setting i) x.1.1.0 · mark marks.Semi)

pub update_law : (clash : List Token → Bool) → Law places clash UpdateWords update_at
unfolding update_at
update_law clash = skip (Name (codes "update")) (λ (x : Updated). Update x.0 x.1.0 x.1.1.0) (take {before = anything} (λ (t : Ident) (x : List Term × (List (Ident × Term) × Unit {0})). Update t x.0 x.1.0) (name_law places anything)
    (λ t. take {before = anything} (λ (k : List Term) (x : List (Ident × Term) × Unit {0}). Update t k x.0) (index_law anything)
    (λ k. skip (Name (codes "set")) (λ (x : List (Ident × Term) × Unit {0}). Update t k x.0) (take (λ (s : List (Ident × Term)) (_ : Unit {0}). Update t k s) sets_law
    (λ s. skip_last places clash (Mark marks.Semi) (Update t k s)) (λ i a t l r is clear. semi_joins l r is))) (λ i a t l r is clear. refl)) (λ i a t l r is clear. refl))

abbrev pub RemoveWords : ℕ → Command → List Token → List Token → Type 0
RemoveWords = Made (λ (x : Inserted). Remove x.0 x.1.0) (λ i x. word (codes "remove") · name x.0 · index i x.1.0 · mark marks.Semi)

pub remove_law : (clash : List Token → Bool) → Law places clash RemoveWords remove_at
unfolding remove_at
remove_law clash = skip (Name (codes "remove")) (λ (x : Inserted). Remove x.0 x.1.0) (take {before = anything} (λ (t : Ident) (x : List Term × Unit {0}). Remove t x.0) (name_law places anything)
    (λ t. take {before = anything} (λ (k : List Term) (_ : Unit {0}). Remove t k) (index_law anything) (λ k. skip_last places clash (Mark marks.Semi) (Remove t k)) (λ i a t l r is clear. refl)) (λ i a t l r is clear. refl))

abbrev pub ReplyWords : ℕ → Command → List Token → List Token → Type 0
ReplyWords = Made (λ (x : Term × Unit {0}). Reply x.0) (λ i x. word (codes "reply") · expr i x.0 · mark marks.Semi)

pub reply_law : (clash : List Token → Bool) → Law places clash ReplyWords reply_at
unfolding reply_at
reply_law clash = skip (Name (codes "reply")) (λ (x : Term × Unit {0}). Reply x.0) (take (λ (e : Term) (_ : Unit {0}). Reply e) expr_law (λ e. skip_last places clash (Mark marks.Semi) (Reply e)) (λ i a t l r is clear. semi_adds l r is))

-- abort

abbrev small : Option ℕ → Option ℕ
small None = None
small (Some n) = if nat_lt 999 n then None else Some n

natural_is : (k : TokenKind) (n : ℕ) → natural k ≡ Some n → k ≡ Number (pos n)
natural_is (Number (pos m)) n e = let same : m ≡ n = cc in ap (λ x. Number (pos x)) same
natural_is (Number (negsuc m)) n e = absurd cc
natural_is (Name w) n e = absurd cc
natural_is (Text t) n e = absurd cc
natural_is (Mark m) n e = absurd cc

abbrev LargeCode : ℕ → ℕ → List Token → List Token → Type 0
LargeCode i n l r = (is_large l ≡ true) × (length l ≤ i) × kind (Number (pos n)) l r

small_some : (o : Option ℕ) (n : ℕ) → small o ≡ Some n → (o ≡ Some n) × (n ≤ 999)
small_some None n e = absurd cc
small_some (Some m) n e = by_test (nat_lt 999 m) refl e
  where
    by_test : (b : Bool) → nat_lt 999 m ≡ b → (if b then None else Some m) ≡ Some n → (Some m ≡ Some n) × (n ≤ 999)
    by_test true t e = absurd cc
    by_test false t e = let same : m ≡ n = cc in (e, subst (λ x. x ≤ 999) same (grind (arith, nat_tests, t)))

some_small : (o : Option ℕ) (n : ℕ) → o ≡ Some n → n ≤ 999 → (small o ≡ Some n) × (passes o ≡ false)
some_small o n e few = let t : nat_lt 999 n ≡ false = grind (arith, nat_tests, few) in
    (ap small e ∙ ap (λ b. if b then None else Some n) t, ap passes e ∙ t)

large_of : (o : Option ℕ) (n : ℕ) → o ≡ Some n → (n ≤ 999 → ⊥) → passes o ≡ true
large_of o n e many = ap passes e ∙ by_test (nat_lt 999 n) refl
  where
    by_test : (b : Bool) → nat_lt 999 n ≡ b → nat_lt 999 n ≡ true
    by_test true t = t
    by_test false t = absurd (many (grind (arith, nat_tests, t)))

not_passing : (o : Option ℕ) → passes o ≡ false → small o ≡ o
not_passing None e = refl
not_passing (Some n) e = ap (λ b. if b then None else Some n) e

pub code_law : (clash : List Token → Bool) → Law places clash code (λ l. if is_large l then refuse Many l else token_at natural_of l)
code_law clash = map_law (read_law same
    (many_law is_large (next_alike (λ token. passes (natural_of token))) refl (leaf_law places clash (λ token. small (natural_of token)) (token_of (Number (pos 0))) 0 refl)
    (λ i n l r p. (p.0, p.1)) (λ i n l r m clear. no_large i n l r m) begins))
    into out
  where
    no_large : (i n : ℕ) (l r : List Token) → Means places (λ token. small (natural_of token)) i n l r → is_large l ≡ false
    no_large i n l r m = let s = small_some (natural_of m.token) n m.holds in ap is_large m.next ∙ (some_small (natural_of m.token) n s.0 s.1).1

    same : (l : List Token) → (if is_large l then refuse Many l else token_at natural_of l) ≡ (if is_large l then refuse Many l else token_at (λ token. small (natural_of token)) l)
    same l = by_test l (is_large l) refl
      where
        by_tokens : (l : List Token) → is_large l ≡ false → token_at natural_of l ≡ token_at (λ token. small (natural_of token)) l
        by_tokens [] t = refl
        by_tokens (token ∷ others) t = ap (λ (o : Option ℕ). found_at o token others) (sym (not_passing (natural_of token) t))

        by_test : (l : List Token) (b : Bool) → is_large l ≡ b → (if b then refuse Many l else token_at natural_of l) ≡ (if b then refuse Many l else token_at (λ token. small (natural_of token)) l)
        by_test l true t = refl
        by_test l false t = by_tokens l t

    begins : (token : Token) (others : List Token) → is_large (token ∷ others) ≡ true → Passes places (Either LargeCode (Means places (λ token. small (natural_of token)))) (token ∷ [])
    begins token others t = by_found (natural_of token) refl t
      where
        by_found : (o : Option ℕ) → natural_of token ≡ o → passes o ≡ true → Passes places (Either LargeCode (Means places (λ token. small (natural_of token)))) (token ∷ [])
        by_found None n t = absurd cc
        by_found (Some n) e t' = record { more = []; item = n; is = λ i m free. Left (t, free, record { token = token; next = refl; holds = natural_is token.kind n e }) }

    into : (i n : ℕ) (l r : List Token) → Either LargeCode (Means places (λ token. small (natural_of token))) i n l r → code i n l r
    into i n l r (Left p) = record { middle = l; first = (refl, inr p.1); second = p.2 }
    into i n l r (Right m) = let s = small_some (natural_of m.token) n m.holds in
        record { middle = l; first = (refl, inl s.1); second = record { token = m.token; next = m.next; holds = natural_is m.token.kind n s.0 } }

    out : (i n : ℕ) (l r : List Token) → code i n l r → Either LargeCode (Means places (λ token. small (natural_of token))) i n l r
    out i n l r c = by_test (nat_le n 999) refl (subst (λ x. kind (Number (pos n)) x r) (sym c.first.0) c.second) c.first.1
      where
        by_test : (b : Bool) → nat_le n 999 ≡ b → kind (Number (pos n)) l r → Within i 999 n l → Either LargeCode (Means places (λ token. small (natural_of token))) i n l r
        by_test true t k w = let few : n ≤ 999 = grind (arith, nat_tests, t) in
            Right (record { token = k.token; next = k.next; holds = (some_small (natural_of k.token) n (ap natural k.holds) few).0 })
        by_test false t k (inl few) = absurd (grind (arith, nat_tests, t, few))
        by_test false t k (inr late) = let many : n ≤ 999 → ⊥ = λ few. grind (arith, nat_tests, t, few) in
            Left (ap is_large k.next ∙ large_of (natural_of k.token) n (ap natural k.holds) many, late, k)

abbrev pub AbortWords : ℕ → Command → List Token → List Token → Type 0
AbortWords = Made (λ (x : ℕ × Unit {0}). Abort x.0) (λ i x. word (codes "abort") · code i x.0 · mark marks.Semi)

pub abort_law : (clash : List Token → Bool) → Law places clash AbortWords abort_at
unfolding abort_at
abort_law clash = read_law same (skip (Name (codes "abort")) (λ (x : ℕ × Unit {0}). Abort x.0)
    (take {before = anything} (λ (n : ℕ) (_ : Unit {0}). Abort n) (code_law anything) (λ n. skip_last places clash (Mark marks.Semi) (Abort n)) (λ i a t l r is clear. refl)))
  where
    more : ℕ → List Token → Read Command
    more n r2 = kind_at (Mark marks.Semi) r2 >>= λ _ r3. Ok (Abort n, r3)

    flat : (r1 : List Token) → (if is_large r1 then refuse Many r1 else (token_at natural_of r1 >>= λ n r2. kind_at (Mark marks.Semi) r2 >>= λ _ r3. Ok (Abort n, r3)))
        ≡ ((if is_large r1 then refuse Many r1 else token_at natural_of r1) >>= λ n r2. kind_at (Mark marks.Semi) r2 >>= λ _ r3. Ok (Abort n, r3))
    flat r1 = by_test (is_large r1)
      where
        by_test : (b : Bool) → (if b then refuse Many r1 else (token_at natural_of r1 >>= λ n r2. kind_at (Mark marks.Semi) r2 >>= λ _ r3. Ok (Abort n, r3)))
            ≡ ((if b then refuse Many r1 else token_at natural_of r1) >>= λ n r2. kind_at (Mark marks.Semi) r2 >>= λ _ r3. Ok (Abort n, r3))
        by_test true = refl
        by_test false = refl

    same : (l : List Token) → (kind_at (Name (codes "abort")) l >>= λ _ r1. if is_large r1 then refuse Many r1 else (token_at natural_of r1 >>= λ n r2. kind_at (Mark marks.Semi) r2 >>= λ _ r3. Ok (Abort n, r3)))
        ≡ (kind_at (Name (codes "abort")) l >>= λ _ r1. (if is_large r1 then refuse Many r1 else token_at natural_of r1) >>= λ n r2. kind_at (Mark marks.Semi) r2 >>= λ _ r3. Ok (Abort n, r3))
    same l = ap (λ (f : List Token → Read Command). kind_at (Name (codes "abort")) l >>= λ _ r. f r) (λ j r1. flat r1 j)
