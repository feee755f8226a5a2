-- Blocks.
use Rattle.std.proofs.Common.{◌≡◌, ◌∙◌, ℕ, zero, suc, ◌+◌, ◌≤◌, ◌⊎◌, inl, inr, Bool, true, false, not, ◌&&◌, ◌||◌, if◌then◌else◌, nat_le, List, [], ◌∷◌, ◌++◌, length, Option, Some, None, Ok, Err, refl, sym, ap, subst, codes, arith, cond, append_assoc, append-nil}
use Rattle.sv_lex.specs.declared.marks.Mark.TheVariants as marks
use Rattle.sv_lex.specs.declared.tokens.Token.{Token}
use Rattle.sv_lex.specs.declared.tokens.TokenKind.{TokenKind}
use Rattle.sv_lex.specs.declared.tokens.TokenKind.TheVariants.{Name, Mark}
use Rattle.sv_app.specs.declared.apps.Ident.{Ident}
use Rattle.sv_app.specs.declared.refusals.Code.TheVariants.{Syntax, Many}
use Rattle.sv_app.specs.Trees.{Term, Command, Block, Finish, block_from}
use Rattle.sv_app.specs.Trees as trees
use Rattle.sv_app.specs.Words.{is_reserved}
use Rattle.sv_reader.specs.declared.faults.ReadFault.{ReadFault}
use Rattle.sv_reader.specs.Reading.{Read, ◌>>=◌, refuse, by_word, next, is_kind, is_next, given, kind_at, found_at}
use Rattle.sv_reader.proofs.KindLaws.{kind_is, token_of}
use Rattle.sv_txn_reader.specs.declared.counts.Counts.{Counts}
use Rattle.sv_txn_reader.specs.declared.heads.Head.{Head}
use Rattle.sv_txn_reader.specs.declared.heads.Head.TheVariants as heads
use Rattle.sv_txn_reader.specs.Grammar.{◌·◌, mark, command, statements}
use Rattle.sv_txn_reader.specs.Reading.{head_named, Counted, Several, Blocks, head_at, may_begin, with_head, with_counts, variable_at, let_at, assign_at, get_at, if_at, for_at, each_at, insert_at, fresh_at, update_at, remove_at, abort_at, reply_at, setting_at, cond_at, expr_at, literal_at, disjunctions_with, conjunctions_with, literal_with, comparison_at, factor_at, sums_with, products_with, factor_with, leaf_at, statement_step, goes_on, inside_at, braces_at, block_at}
use Rattle.sv_txn_reader.specs.Standing.{counts, plus, command_counts, block_counts}
use Rattle.sv_txn_reader.proofs.CommandLaws.{standing, one, plus_zero, plus_assoc, Blk, BlocksLaw, block_first, is_else, Cmd, branch, cmd_at, starts, starts_alike, misplaced, by_head, cmd_law, cmd_starts}
use Rattle.sv_txn_reader.proofs.HeadLaws.{head_token}
use Rattle.sv_reader.proofs.AnswerLaws.{anything}
use Rattle.sv_txn_reader.proofs.PlacedLaws.{Opens, Passes, Took, Stuck, Misplaced, TooMany, Reads, Law, map_law, read_law}
use Rattle.sv_txn_reader.proofs.LimitLaws.{places, Limited, limited_law, Goes, Short, Full}
use Rattle.sv_txn_reader.proofs.ListLaws.{or_false}
use Rattle.sv_reader.proofs.AnswerLaws.{next_alike}
use Rattle.sv_txn_reader.proofs.PieceLaws.{kind_next, Made, take, take_last, skip, skip_last, Turns, Stop, Turn, Turning, lawful_turning, turns_law}

-- the token, of which the kind is known
pub as_kind : (token : Token) (k : TokenKind) → token.kind ≡ k → token ≡ record { kind = k; «from» = token.«from»; to = token.to; spot = token.spot }
as_kind token k e = λ i. record { kind = e i; «from» = token.«from»; to = token.to; spot = token.spot }

abbrev kinded : TokenKind → Token → List Token
kinded k token = record { kind = k; «from» = token.«from»; to = token.to; spot = token.spot } ∷ []

let_short : (n : Counts) (token : Token) → let_at n (kinded (Name (codes "let")) token) ≡ refuse Syntax []
unfolding let_at variable_at setting_at
let_short n token = refl

get_short : (token : Token) → get_at (kinded (Name (codes "get")) token) ≡ refuse Syntax []
unfolding get_at
get_short token = refl

insert_short : (token : Token) → insert_at (kinded (Name (codes "insert")) token) ≡ refuse Syntax []
unfolding insert_at
insert_short token = refl

fresh_short : (n : Counts) (token : Token) → fresh_at n (kinded (Name (codes "fresh")) token) ≡ refuse Syntax []
unfolding fresh_at variable_at
fresh_short n token = refl

update_short : (token : Token) → update_at (kinded (Name (codes "update")) token) ≡ refuse Syntax []
unfolding update_at
update_short token = refl

remove_short : (token : Token) → remove_at (kinded (Name (codes "remove")) token) ≡ refuse Syntax []
unfolding remove_at
remove_short token = refl

abort_short : (token : Token) → abort_at (kinded (Name (codes "abort")) token) ≡ refuse Syntax []
unfolding abort_at
abort_short token = refl

reply_short : (token : Token) → reply_at (kinded (Name (codes "reply")) token) ≡ refuse Syntax []
unfolding reply_at expr_at factor_at sums_with products_with factor_with leaf_at
reply_short token = refl

if_short : (blocks : Blocks) (looped : Bool) (n : Counts) (token : Token) → if_at blocks looped n (kinded (Name (codes "if")) token) ≡ refuse Syntax []
unfolding if_at cond_at literal_at disjunctions_with conjunctions_with literal_with comparison_at factor_at sums_with products_with factor_with leaf_at
if_short blocks looped n token = refl

for_short : (blocks : Blocks) (n : Counts) (token : Token) → for_at blocks n (kinded (Name (codes "for")) token) ≡ refuse Syntax []
unfolding for_at
for_short blocks n token = refl

each_short : (blocks : Blocks) (n : Counts) (token : Token) → each_at blocks n (kinded (Name (codes "each")) token) ≡ refuse Syntax []
unfolding each_at
each_short blocks n token = refl

assign_short : (token : Token) (w : List ℕ) → is_reserved w ≡ false → assign_at (kinded (Name w) token) ≡ refuse Syntax []
unfolding assign_at setting_at
assign_short token w free = ap (λ b. after (given (not b) (named token w))) free
  where
    named : Token → List ℕ → Ident
    named token w = record { name = w; spot = token.spot; num = 0 }

    settle : Ident → List Token → Read (Ident × Term)
    settle x r = kind_at (Mark marks.Eq) r >>= λ _ r2. expr_at r2 >>= λ e r3. Ok ((x, e), r3)

    after : Option Ident → Read Command
    after o = (found_at o (record { kind = Name w; «from» = token.«from»; to = token.to; spot = token.spot }) [] >>= settle) >>= λ s r1. kind_at (Mark marks.Semi) r1 >>= λ _ r2. Ok (trees.Assign s.0 s.1, r2)

counted : (n : Counts) (read : List Token → Read Command) (l : List Token) → read l ≡ refuse Syntax [] → with_counts n (read l) ≡ refuse Syntax []
counted n read l e = ap (λ (r : Read Command). with_counts n r) e

-- the same for a loop, which may be one too many
loop_goes : (w : List ℕ) (body : Counts → List Token → Read Counted) (before : Counts) (token : Token) → token.kind ≡ Name w → body (plus (plus before one) (counts 0 1 0)) (token ∷ []) ≡ refuse Syntax []
    → Goes token (if is_next (Name w) (token ∷ []) && nat_le 15 (plus before one).loops then refuse Many (token ∷ []) else body (plus (plus before one) (counts 0 1 0)) (token ∷ []))
loop_goes w body before token k short = by_room (nat_le 15 (plus before one).loops) refl
  where
    answer : Bool → Bool → Read Counted
    answer b c = if b && c then refuse Many (token ∷ []) else body (plus (plus before one) (counts 0 1 0)) (token ∷ [])

    is : is_next (Name w) (token ∷ []) ≡ true
    is = kind_next (Name w) (token ∷ []) [] (record { token = token; next = refl; holds = k })

    by_room : (c : Bool) → nat_le 15 (plus before one).loops ≡ c → Goes token (answer (is_next (Name w) (token ∷ [])) (nat_le 15 (plus before one).loops))
    by_room true c = Full (λ i. answer (is i) (c i))
    by_room false c = Short ((λ i. answer (is i) (c i)) ∙ short)

-- a statement may begin with a token that it may begin with
goes : (depth : ℕ) (looped : Bool) (before : Counts) (blocks : Blocks) (inner : BlocksLaw depth blocks) (token : Token) (h : Head) → head_at (token ∷ []) ≡ Some h → Goes token (branch depth looped before blocks inner h (token ∷ []))
goes depth looped before blocks inner token heads.Let e = let t = head_token token [] heads.Let e in Short (ap (λ x. let_at (plus before one) (x ∷ [])) (as_kind token (Name (codes "let")) (t.1 ∙ ap Name t.2)) ∙ let_short (plus before one) token)
goes depth looped before blocks inner token heads.Get e = let t = head_token token [] heads.Get e in Short (counted (plus before one) get_at (token ∷ []) (ap (λ x. get_at (x ∷ [])) (as_kind token (Name (codes "get")) (t.1 ∙ ap Name t.2)) ∙ get_short token))
goes depth looped before blocks inner token heads.Assign e = let t = head_token token [] heads.Assign e in Short (counted (plus before one) assign_at (token ∷ []) (ap (λ x. assign_at (x ∷ [])) (as_kind token (Name t.0) t.1) ∙ assign_short token t.0 t.2))
goes depth looped before blocks inner token heads.If e = let t = head_token token [] heads.If e in Short (ap (λ x. if_at blocks looped (plus before one) (x ∷ [])) (as_kind token (Name (codes "if")) (t.1 ∙ ap Name t.2)) ∙ if_short blocks looped (plus before one) token)
goes depth looped before blocks inner token heads.Insert e = let t = head_token token [] heads.Insert e in Short (counted (plus before one) insert_at (token ∷ []) (ap (λ x. insert_at (x ∷ [])) (as_kind token (Name (codes "insert")) (t.1 ∙ ap Name t.2)) ∙ insert_short token))
goes depth looped before blocks inner token heads.Fresh e =
    let t = head_token token [] heads.Fresh e in
    Short (ap (λ x. fresh_at (plus before one) (x ∷ [])) (as_kind token (Name (codes "fresh")) (t.1 ∙ ap Name t.2))
    ∙ fresh_short (plus before one) token)
goes depth looped before blocks inner token heads.Update e = let t = head_token token [] heads.Update e in Short (counted (plus before one) update_at (token ∷ []) (ap (λ x. update_at (x ∷ [])) (as_kind token (Name (codes "update")) (t.1 ∙ ap Name t.2)) ∙ update_short token))
goes depth looped before blocks inner token heads.Remove e = let t = head_token token [] heads.Remove e in Short (counted (plus before one) remove_at (token ∷ []) (ap (λ x. remove_at (x ∷ [])) (as_kind token (Name (codes "remove")) (t.1 ∙ ap Name t.2)) ∙ remove_short token))
goes depth looped before blocks inner token heads.Abort e = let t = head_token token [] heads.Abort e in Short (counted (plus before one) abort_at (token ∷ []) (ap (λ x. abort_at (x ∷ [])) (as_kind token (Name (codes "abort")) (t.1 ∙ ap Name t.2)) ∙ abort_short token))
goes depth looped before blocks inner token heads.Reply e = let t = head_token token [] heads.Reply e in Short (counted (plus before one) reply_at (token ∷ []) (ap (λ x. reply_at (x ∷ [])) (as_kind token (Name (codes "reply")) (t.1 ∙ ap Name t.2)) ∙ reply_short token))
goes depth looped before blocks inner token heads.For e =
    let t = head_token token [] heads.For e in
    loop_goes (codes "for") (for_at blocks) before token (t.1 ∙ ap Name t.2) (ap (λ x. for_at blocks (plus (plus before one) (counts 0 1 0)) (x ∷ [])) (as_kind token (Name (codes "for")) (t.1 ∙ ap Name t.2)) ∙ for_short blocks (plus (plus before one) (counts 0 1 0)) token)
goes depth looped before blocks inner token heads.Each e =
    let t = head_token token [] heads.Each e in
    loop_goes (codes "each") (each_at blocks) before token (t.1 ∙ ap Name t.2) (ap (λ x. each_at blocks (plus (plus before one) (counts 0 1 0)) (x ∷ [])) (as_kind token (Name (codes "each")) (t.1 ∙ ap Name t.2)) ∙ each_short blocks (plus (plus before one) (counts 0 1 0)) token)

-- statements one after another

goes_token : (token : Token) (l : List Token) (w : List ℕ) → token.kind ≡ Name w → goes_on (token ∷ l) ≡ true
goes_token token l w k = ap (λ x. not (is_kind (Mark marks.RightBrace) x)) k

some_head : (looped : Bool) (l : List Token) → may_begin looped (head_at l) ≡ true → (h : Head) × (head_at l ≡ Some h)
some_head looped l e = by_found (head_at l) refl e
  where
    by_found : (o : Option Head) → head_at l ≡ o → may_begin looped o ≡ true → (h : Head) × (head_at l ≡ Some h)
    by_found None f e = absurd cc
    by_found (Some h) f e = (h, f)

starts_goes : (looped : Bool) (l : List Token) → may_begin looped (head_at l) ≡ true → goes_on l ≡ true
starts_goes looped [] e = absurd cc
starts_goes looped (token ∷ l) e = let h = some_head looped (token ∷ l) e in let t = head_token token l h.0 h.1 in goes_token token l t.0 t.1

starts_no_else : (looped : Bool) (l : List Token) → may_begin looped (head_at l) ≡ true → is_else l ≡ false
unfolding is_reserved
starts_no_else looped [] e = refl
starts_no_else looped (token ∷ l) e = by_test (is_else (token ∷ l)) refl
  where
    none : head_at (token ∷ l) ≡ None → ⊥
    none f = let bad : false ≡ true = ap (may_begin looped) (sym f) ∙ e in absurd cc

    by_test : (b : Bool) → is_else (token ∷ l) ≡ b → is_else (token ∷ l) ≡ false
    by_test false t = t
    by_test true t = absurd (none (else_none (kind_is (Name (codes "else")) token.kind t)))
      where
        else_none : token.kind ≡ Name (codes "else") → head_at (token ∷ l) ≡ None
        else_none k = ap (λ x. by_word head_named x) k

-- the statements of a block up to its brace
pub record Stmts (depth : ℕ) (looped : Bool) (n : Counts) (i : ℕ) (s : Several) (tokens rest : List Token) : Type 0 where
  pub is : statements i (standing depth looped n) (block_from s.0) tokens rest
  pub after : s.1 ≡ plus n (block_counts (block_from s.0))

abbrev pub closing : List Token → Bool
closing l = goes_on l || is_else l

module _ (depth : ℕ) (looped : Bool) (blocks : Blocks) (inner : BlocksLaw depth blocks) where
  abbrev pub Statement : Several → ℕ → Several → List Token → List Token → Type 0
  Statement s = Made (λ (c : Counted). (s.0 ++ c.0 ∷ [], c.1)) (λ i c. Limited 128 s.1.statements (Cmd depth looped s.1) i c)

  limited : (n : Counts) → Law places is_else (Limited 128 n.statements (Cmd depth looped n))
      (λ l. if starts depth looped n blocks inner l && nat_le 128 n.statements then refuse Many l else cmd_at depth looped n blocks inner l)
  limited n = limited_law (starts depth looped n blocks inner) 128 n.statements (starts_alike depth looped n blocks inner) refl (cmd_law depth looped n blocks inner) (cmd_starts depth looped n blocks inner)
      (misplaced depth looped n blocks inner) begins
    where
      begins : (token : Token) (others : List Token) → may_begin looped (head_at (token ∷ others)) ≡ true → Goes token (cmd_at depth looped n blocks inner (token ∷ []))
      begins token others t =
          let h = some_head looped (token ∷ others) t in
          let start : may_begin looped (Some h.0) ≡ true = ap (may_begin looped) (sym h.1) ∙ t in
          subst (λ (x : Read Counted). Goes token x) (sym (by_head depth looped n blocks inner h.0 (token ∷ []) h.1 start)) (goes depth looped n blocks inner token h.0 h.1)

  pub step_law : (s : Several) → Law places is_else (Statement s) (statement_step blocks looped s)
  unfolding statement_step
  step_law s = read_law same (take_last (λ (c : Counted). (s.0 ++ c.0 ∷ [], c.1)) (limited s.1))
    where
      more : Counted → List Token → Read Several
      more c r = Ok ((s.0 ++ c.0 ∷ [], c.1), r)

      direct : Bool → Bool → List Token → Read Several
      direct b c l = if b then (if c then refuse Many l else (with_head blocks looped (plus s.1 one) (head_at l) l >>= more)) else refuse Syntax l

      asked : Bool → Bool → List Token → Read Counted
      asked b c l = if b && c then refuse Many l else (if b then with_head blocks looped (plus s.1 one) (head_at l) l else refuse Syntax l)

      same : (l : List Token) → direct (may_begin looped (head_at l)) (nat_le 128 s.1.statements) l ≡ (asked (may_begin looped (head_at l)) (nat_le 128 s.1.statements) l >>= more)
      same l = by_tests (may_begin looped (head_at l)) (nat_le 128 s.1.statements)
        where
          by_tests : (b c : Bool) → direct b c l ≡ (asked b c l >>= more)
          by_tests true true = refl
          by_tests true false = refl
          by_tests false c = refl

  statement_starts : (s : Several) (i : ℕ) (m : Several) (l r : List Token) → Statement s i m l r → may_begin looped (head_at l) ≡ true
  statement_starts s i m l r t = cmd_starts depth looped s.1 blocks inner i t.«from» l r t.is.1

  pub statement_turning : Turning places is_else closing goes_on (statement_step blocks looped) Statement
  statement_turning = lawful_turning (next_alike (λ token. not (is_kind (Mark marks.RightBrace) token.kind))) refl step_law
      (λ s i m l r t. starts_goes looped l (statement_starts s i m l r t)) (λ s i m l r t. starts_no_else looped l (statement_starts s i m l r t))
      (λ l clear. (or_false (goes_on l) (is_else l) clear).1) (λ l clear. (or_false (goes_on l) (is_else l) clear).0)

  -- turns are statements

  record Said (i : ℕ) (s e : Several) (l r : List Token) : Type 0 where
    pub more : List Command
    pub made : e.0 ≡ s.0 ++ more
    pub is : statements i (standing depth looped s.1) (block_from more) l r
    pub after : e.1 ≡ plus s.1 (block_counts (block_from more))

  said : (i : ℕ) (s e : Several) (l middle r : List Token) → Turns Statement i s e l middle → mark marks.RightBrace middle r → Said i s e l r
  said i _ _ _ _ r (Stop s l middle same) brace = record { more = []; made = sym (append-nil s.0); is = subst (λ x. mark marks.RightBrace x r) (sym same) brace; after = sym (plus_zero s.1) }
  said i _ _ _ _ r (Turn s m e l x middle first next) brace =
      let rest = said i m e x middle r next brace in
      let c = first.«from» in
      let items : m.0 ≡ s.0 ++ c.0 ∷ [] = ap (λ y. y.0) first.made in
      let n : m.1 ≡ plus s.1 (command_counts c.0) = ap (λ y. y.1) first.made ∙ first.is.1.after in record {
        more = c.0 ∷ rest.more;
        made = rest.made ∙ ap (λ y. y ++ rest.more) items ∙ append_assoc s.0 (c.0 ∷ []) rest.more;
        is = record { middle = l; first = (refl, first.is.0); second = record { middle = x; first = first.is.1.is; second = subst (λ k. statements i (standing depth looped k) (block_from rest.more) x r) n rest.is } };
        after = rest.after ∙ ap (λ k. plus k (block_counts (block_from rest.more))) n ∙ plus_assoc s.1 (command_counts c.0) (block_counts (block_from rest.more));
      }

  turned : (i : ℕ) (s : Several) (more : List Command) (k : Counts) (l r : List Token) → statements i (standing depth looped s.1) (block_from more) l r → k ≡ plus s.1 (block_counts (block_from more))
      → ((λ l m. Turns Statement i s (s.0 ++ more, k) l m) · mark marks.RightBrace) l r
  turned i s [] k l r is after = record { middle = l; first = subst (λ (y : Several). Turns Statement i s y l l) (λ j. (sym (append-nil s.0) j, sym (after ∙ plus_zero s.1) j)) (Stop s l l refl); second = is }
  turned i s (c ∷ more) k l r is after =
      let n = plus s.1 (command_counts c) in
      let rest = turned i (s.0 ++ c ∷ [], n) more k is.second.middle r is.second.second (after ∙ sym (plus_assoc s.1 (command_counts c) (block_counts (block_from more)))) in record {
        middle = rest.middle;
        first = Turn s (s.0 ++ c ∷ [], n) (s.0 ++ c ∷ more, k) l is.second.middle rest.middle
            (record { «from» = (c, n); is = (is.first.1, record { is = subst (λ x. command i (standing depth looped (plus s.1 one)) c x is.second.middle) (sym is.first.0) is.second.first; after = refl }); made = refl })
            (subst (λ (x : List Command). Turns Statement i (s.0 ++ c ∷ [], n) (x, k) is.second.middle rest.middle) (append_assoc s.0 (c ∷ []) more) rest.first);
        second = rest.second;
      }

  brace_clear : (l r : List Token) → mark marks.RightBrace l r → closing l ≡ false
  brace_clear l r is = ap closing is.next ∙ ap (λ k. not (is_kind (Mark marks.RightBrace) k) || is_kind (Name (codes "else")) k) is.holds

  pub inside_law : (n : Counts) → Law places anything (Stmts depth looped n) (inside_at blocks looped n)
  unfolding inside_at
  inside_law n = map_law (take (λ (s : Several) (_ : Unit {0}). s) (turns_law 0 statement_turning ([], n)) (λ s. skip_last places anything (Mark marks.RightBrace) s) (λ i s t l r is clear. brace_clear l r is)) into out
    where
      into : (i : ℕ) (s : Several) (l r : List Token) → Made (λ (x : Several × Unit {0}). x.0) (λ i x. (λ l m. Turns Statement i ([], n) x.0 l m) · mark marks.RightBrace) i s l r → Stmts depth looped n i s l r
      into i s l r m =
          let whole = said i ([], n) m.«from».0 l m.is.middle r m.is.first m.is.second in
          subst (λ y. Stmts depth looped n i y l r) (sym m.made) (record {
            is = subst (λ cs. statements i (standing depth looped n) (block_from cs) l r) (sym whole.made) whole.is;
            after = whole.after ∙ ap (λ cs. plus n (block_counts (block_from cs))) (sym whole.made);
          })

      out : (i : ℕ) (s : Several) (l r : List Token) → Stmts depth looped n i s l r → Made (λ (x : Several × Unit {0}). x.0) (λ i x. (λ l m. Turns Statement i ([], n) x.0 l m) · mark marks.RightBrace) i s l r
      out i s l r is = record { «from» = (s, tt); is = turned i ([], n) s.0 s.1 l r is.is is.after; made = refl }

-- blocks in blocks

same_made : {A : Type 0} {G : ℕ → A → List Token → List Token → Type 0} {read : List Token → Read A} → Law places anything G read → Law places anything (Made (λ (a : A). a) G) read
same_made {A} {G} {read} law = map_law law (λ i a l r is. record { «from» = a; is = is; made = refl }) (λ i a l r m. subst (λ x. G i x l r) (sym m.made) m.is)

roomy_law : (depth : ℕ) (inside : Blocks) → suc depth ≤ 8 → ((looped : Bool) (n : Counts) → Law places anything (Stmts (suc depth) looped n) (inside looped n)) → BlocksLaw depth (braces_at inside)
unfolding braces_at
roomy_law depth inside few law looped n = map_law (skip (Mark marks.LeftBrace) (λ (s : Several). s) (same_made (law looped n)))
    (λ i s l r m. subst (λ y. Blk depth looped n i y l r) (sym m.made) (record { is = record { middle = l; first = (refl, inl few); second = record { middle = m.is.middle; first = m.is.first; second = m.is.second.is } }; after = m.is.second.after }))
    (λ i s l r b. record {
      «from» = s;
      is = subst (λ x. (mark marks.LeftBrace · Stmts (suc depth) looped n i s) x r) (sym b.is.first.0) (record { middle = b.is.second.middle; first = b.is.second.first; second = record { is = b.is.second.second; after = b.after } });
      made = refl;
    })

wall_law : (depth : ℕ) → (suc depth ≤ 8 → ⊥) → BlocksLaw depth (block_at 0)
unfolding block_at
wall_law depth many looped n = record { some = opened; took = λ tokens s rest e. by_took tokens s rest (is_next (Mark marks.LeftBrace) tokens) e; all = all; fails = λ tokens fault e. refused tokens tokens fault (is_next (Mark marks.LeftBrace) tokens) refl refl e }
  where
    read : List Token → Read Several
    read l = if is_next (Mark marks.LeftBrace) l then refuse Many l else refuse Syntax l

    empty : (token : Token) → token.kind ≡ Mark marks.LeftBrace → (i : ℕ) (m : List Token) → length (token ∷ token_of (Mark marks.RightBrace) ∷ m) ≤ i → Blk depth looped n i ([], n) (token ∷ token_of (Mark marks.RightBrace) ∷ m) m
    empty token k i m late = record {
      is = record { middle = token ∷ token_of (Mark marks.RightBrace) ∷ m; first = (refl, inr late); second = record { middle = token_of (Mark marks.RightBrace) ∷ m; first = record { token = token; next = refl; holds = k }; second = record { token = token_of (Mark marks.RightBrace); next = refl; holds = refl } } };
      after = sym (plus_zero n);
    }

    opened : Opens places (Blk depth looped n) []
    opened = record { more = token_of (Mark marks.LeftBrace) ∷ token_of (Mark marks.RightBrace) ∷ []; item = ([], n); is = λ i m loose. empty (token_of (Mark marks.LeftBrace)) refl i m loose }

    passed : (token : Token) → token.kind ≡ Mark marks.LeftBrace → Passes places (Blk depth looped n) (token ∷ [])
    passed token k = record { more = token_of (Mark marks.RightBrace) ∷ []; item = ([], n); is = λ i m free. empty token k i m free }

    by_took : (tokens : List Token) (s : Several) (rest : List Token) (b : Bool) → cond b (refuse Many tokens) (refuse Syntax tokens) ≡ Ok (s, rest) → Took places (Blk depth looped n) (block_at 0 looped n) tokens s rest
    by_took tokens s rest true e = absurd cc
    by_took tokens s rest false e = absurd cc

    late : (i : ℕ) (l : List Token) → (suc depth ≤ 8) ⊎ (length l ≤ i) → length l ≤ i
    late i l (inl few) = absurd (many few)
    late i l (inr x) = x

    all : (i : ℕ) (s : Several) (l r : List Token) → Blk depth looped n i s l r → anything r ≡ false → Reads places i (block_at 0 looped n l) s r
    all i s l r b clear = inr (record { left = length l; is = ap (λ t. cond t (refuse Many l) (refuse Syntax l)) (block_first depth looped n i s l r b); late = late i l b.is.first.1 })

    refused : (tokens t : List Token) (fault : ReadFault) (b : Bool) → tokens ≡ t → is_next (Mark marks.LeftBrace) t ≡ b → ◌≡◌ {A = Read Several} (cond b (refuse Many t) (refuse Syntax t)) (Err fault) → Stuck places (Blk depth looped n) (block_at 0 looped n) tokens fault
    refused tokens [] fault true same t e = absurd cc
    refused tokens (token ∷ others) fault true same t e = record {
      front = [];
      rest = token ∷ others;
      code = Many;
      whole = same;
      place = let is : record { code = Many; left = length (token ∷ others) } ≡ fault = cc in sym is;
      opens = opened;
      cause = TooMany token others (passed token (kind_is (Mark marks.LeftBrace) token.kind t));
      again = λ last alike. ap (λ t. cond t (refuse Many last) (refuse Syntax last)) (sym (next_alike (λ token. is_kind (Mark marks.LeftBrace) token.kind) (token ∷ others) last alike) ∙ t);
    }
    refused tokens rest fault false same t e = record {
      front = [];
      rest = rest;
      code = Syntax;
      whole = same;
      place = let is : record { code = Syntax; left = length rest } ≡ fault = cc in sym is;
      opens = opened;
      cause = Misplaced rest;
      again = λ last alike. ap (λ t. cond t (refuse Many last) (refuse Syntax last)) (sym (next_alike (λ token. is_kind (Mark marks.LeftBrace) token.kind) rest last alike) ∙ t);
    }

pub block_law : (room depth : ℕ) → depth + room ≡ 8 → BlocksLaw depth (block_at room)
unfolding block_at
block_law zero depth e = wall_law depth (λ few. omega (arith, e, few))
block_law (suc room) depth e = roomy_law depth (inside_at (block_at room)) (omega (arith, e)) (λ looped n. inside_law (suc depth) looped (block_at room) (block_law room (suc depth) (omega (arith, e))) n)
