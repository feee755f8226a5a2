-- Statements, if blocks are read as the grammar says.
use Rattle.std.proofs.Common.{◌≡◌, ◌∙◌, ℕ, suc, ◌+◌, inl, inr, Bool, true, false, not, ◌&&◌, ◌||◌, if◌then◌else◌, nat_le, List, [], ◌∷◌, length, Option, Some, None, Ok, Err, refl, sym, ap, subst, codes, arith, cond}
use Rattle.sv_lex.specs.declared.marks.Mark.TheVariants as marks
use Rattle.sv_lex.specs.declared.tokens.Token.{Token}
use Rattle.sv_lex.specs.declared.tokens.TokenKind.TheVariants.{Name, Mark}
use Rattle.sv_app.specs.declared.apps.Ident.{Ident}
use Rattle.sv_app.specs.declared.refusals.Code.TheVariants.{Syntax, Many}
use Rattle.sv_app.specs.Trees.{Term, Test, Command, Declare, Assign, Fetch, Choose, ForRows, ForEach, Insert, Fresh, Update, Remove, Abort, Reply, Block, Finish, block_from}
use Rattle.sv_app.specs.Trees as trees
use Rattle.sv_reader.specs.declared.faults.ReadFault.{ReadFault}
use Rattle.sv_reader.specs.Reading.{Read, ◌>>=◌, refuse, is_kind, is_next, name_at, given, found_at, kind_at}
use Rattle.sv_reader.proofs.KindLaws.{kind_is}
use Rattle.sv_txn_reader.specs.declared.counts.Counts.{Counts}
use Rattle.sv_txn_reader.specs.declared.heads.Head.{Head}
use Rattle.sv_txn_reader.specs.declared.heads.Head.TheVariants as heads
use Rattle.sv_txn_reader.specs.Grammar.{◌·◌, nothing, mark, word, name, limit, setting, cond as condition, where_part, command, statements, braced, otherwise}
use Rattle.sv_txn_reader.specs.Reading.{Counted, Several, Blocks, head_at, may_begin, with_head, with_counts, let_at, assign_at, get_at, if_at, else_at, where_at, for_at, each_at, loop_at, insert_at, fresh_at, update_at, remove_at, abort_at, reply_at}
use Rattle.sv_txn_reader.specs.Standing.{Standing, counts, plus, command_counts, block_counts}
use Rattle.sv_txn_reader.proofs.ExprLaws.{cond_law}
use Rattle.sv_txn_reader.proofs.HeadLaws.{head_of, HeadWord, head_token, head_alike, head_command, command_begins, kind_read}
use Rattle.sv_reader.proofs.AnswerLaws.{Alike, anything, then_ok, then_err}
use Rattle.sv_txn_reader.proofs.PlacedLaws.{Mode, Opens, Took, Stuck, Misplaced, Reads, Law, reads_same, map_law, clash_law, took_map, stuck_map, opens_map}
use Rattle.sv_txn_reader.proofs.LimitLaws.{places, Limited, limited_law, Short}
use Rattle.sv_txn_reader.proofs.ListLaws.{or_false}
use Rattle.sv_txn_reader.proofs.LiteralLaws.{disjoins}
use Rattle.sv_reader.proofs.AnswerLaws.{next_alike}
use Rattle.sv_txn_reader.proofs.PieceLaws.{kind_next, name_law, Made, take, take_last, skip, ended, Either, Left, Right, either_law}
use Rattle.sv_txn_reader.proofs.SimpleLaws.{AssignWords, GetWords, InsertWords, UpdateWords, RemoveWords, AbortWords, ReplyWords, FreshWords, let_of, fresh_of, let_law, assign_law, get_law, insert_law, fresh_law, update_law, remove_law, abort_law, reply_law}

abbrev pub standing : ℕ → Bool → Counts → Standing
standing d l n = record { depth = d; looped = l; before = n }

abbrev pub one : Counts
one = counts 1 0 0

pub plus_zero : (n : Counts) → plus n (counts 0 0 0) ≡ n
plus_zero n = λ i. let s : n.statements + 0 ≡ n.statements = omega arith in let l : n.loops + 0 ≡ n.loops = omega arith in let v : n.variables + 0 ≡ n.variables = omega arith in
    record { statements = s i; loops = l i; variables = v i }

pub plus_assoc : (a b c : Counts) → plus (plus a b) c ≡ plus a (plus b c)
plus_assoc a b c = λ i. let s : a.statements + b.statements + c.statements ≡ a.statements + (b.statements + c.statements) = omega arith in
    let l : a.loops + b.loops + c.loops ≡ a.loops + (b.loops + c.loops) = omega arith in let v : a.variables + b.variables + c.variables ≡ a.variables + (b.variables + c.variables) = omega arith in
    record { statements = s i; loops = l i; variables = v i }

-- the statements of a block
abbrev pub commands_of : Block → List Command
commands_of Finish = []
commands_of (trees.Then c rest) = c ∷ commands_of rest

pub from_commands : (b : Block) → block_from (commands_of b) ≡ b
from_commands Finish = refl
from_commands (trees.Then c rest) = ap (λ x. trees.Then c x) (from_commands rest)

-- a block at a depth
pub record Blk (depth : ℕ) (looped : Bool) (n : Counts) (i : ℕ) (s : Several) (tokens rest : List Token) : Type 0 where
  pub is : braced i (standing depth looped n) (statements i (standing (suc depth) looped n) (block_from s.0)) tokens rest
  pub after : s.1 ≡ plus n (block_counts (block_from s.0))

abbrev pub BlocksLaw : ℕ → Blocks → Type 0
BlocksLaw depth blocks = (looped : Bool) (n : Counts) → Law places anything (Blk depth looped n) (blocks looped n)

pub block_first : (depth : ℕ) (looped : Bool) (n : Counts) (i : ℕ) (s : Several) (l r : List Token) → Blk depth looped n i s l r → is_next (Mark marks.LeftBrace) l ≡ true
block_first depth looped n i s l r b = ap (is_next (Mark marks.LeftBrace)) b.is.first.0 ∙ kind_next (Mark marks.LeftBrace) b.is.middle b.is.second.middle b.is.second.first

-- what may go on before the brace of a loop
abbrev pub before_brace : List Token → Bool
before_brace tokens = disjoins tokens || is_next (Name (codes "where")) tokens

brace_clear : (depth : ℕ) (looped : Bool) (n : Counts) (i : ℕ) (s : Several) (l r : List Token) → Blk depth looped n i s l r → before_brace l ≡ false
brace_clear depth looped n i s l r b = ap before_brace (b.is.first.0 ∙ b.is.second.first.next)
    ∙ ap (λ k. ((((is_kind (Mark marks.Dot) k || is_kind (Mark marks.Star) k) || (is_kind (Mark marks.Plus) k || is_kind (Mark marks.Minus) k)) || is_kind (Name (codes "and")) k) || is_kind (Name (codes "or")) k) || is_kind (Name (codes "where")) k) b.is.second.first.holds

block_clear : (depth : ℕ) (looped : Bool) (n : Counts) (i : ℕ) (s : Several) (l r : List Token) → Blk depth looped n i s l r → disjoins l ≡ false
block_clear depth looped n i s l r b = ap disjoins (b.is.first.0 ∙ b.is.second.first.next)
    ∙ ap (λ k. (((is_kind (Mark marks.Dot) k || is_kind (Mark marks.Star) k) || (is_kind (Mark marks.Plus) k || is_kind (Mark marks.Minus) k)) || is_kind (Name (codes "and")) k) || is_kind (Name (codes "or")) k) b.is.second.first.holds

abbrev pub is_else : List Token → Bool
is_else = is_next (Name (codes "else"))

same_made : {M : Mode} {A : Type 0} {clash : List Token → Bool} {G : M.Index → A → List Token → List Token → Type 0} {read : List Token → Read A} → Law M clash G read → Law M clash (Made (λ (a : A). a) G) read
same_made {M} {A} {clash} {G} {read} law = map_law law (λ i a l r is. record { «from» = a; is = is; made = refl }) (λ i a l r m. subst (λ x. G i x l r) (sym m.made) m.is)

any_clash : {A : Type 0} {clash : List Token → Bool} {G : ℕ → A → List Token → List Token → Type 0} {read : List Token → Read A} → Law places anything G read → Law places clash G read
any_clash law = record { some = law.some; took = law.took; all = λ i a l r is clear. law.all i a l r is refl; fails = law.fails }

-- statements

pub record Cmd (depth : ℕ) (looped : Bool) (before : Counts) (i : ℕ) (c : Counted) (tokens rest : List Token) : Type 0 where
  pub is : command i (standing depth looped (plus before one)) c.0 tokens rest
  pub after : c.1 ≡ plus before (command_counts c.0)

module _ (depth : ℕ) (looped : Bool) (before : Counts) (blocks : Blocks) (inner : BlocksLaw depth blocks) where
  abbrev n : Counts
  n = plus before one

  abbrev at : Standing
  at = standing depth looped (plus before one)

  -- else

  record Else (m : Counts) (i : ℕ) (s : Several) (l r : List Token) : Type 0 where
    pub is : otherwise (block_from s.0) (braced i (standing depth looped m) (statements i (standing (suc depth) looped m) (block_from s.0))) l r
    pub after : s.1 ≡ plus m (block_counts (block_from s.0))

  abbrev ElseWords : Counts → ℕ → Several → List Token → List Token → Type 0
  ElseWords m = Either (Made (λ (s : Several). s) (λ i s. word (codes "else") · Blk depth looped m i s)) (Made (λ (_ : Unit {0}). ([], m)) (λ _ _. nothing))

  else_words : (m : Counts) → Law places is_else (ElseWords m) (else_at blocks looped m)
  unfolding else_at
  else_words m = either_law is_else (next_alike (λ token. is_kind (Name (codes "else")) token.kind)) (skip (Name (codes "else")) (λ (s : Several). s) (same_made (any_clash (inner looped m)))) (ended places is_else ([], m))
      (λ i s l r x. kind_next (Name (codes "else")) l x.is.middle x.is.first) (λ i s l r x clear. subst (λ y. is_else y ≡ false) (sym x.is) clear)

  else_into : (m : Counts) (i : ℕ) (s : Several) (l r : List Token) → ElseWords m i s l r → Else m i s l r
  else_into m i s l r (Left x) = subst (λ y. Else m i y l r) (sym x.made) (record { is = inr (record { middle = x.is.middle; first = x.is.first; second = x.is.second.is }); after = x.is.second.after })
  else_into m i s l r (Right x) = subst (λ y. Else m i y l r) (sym x.made) (record { is = inl (refl, x.is); after = sym (plus_zero m) })

  else_out : (m : Counts) (i : ℕ) (s : Several) (l r : List Token) → Else m i s l r → ElseWords m i s l r
  else_out m i (cs, k) l r e = by_is cs e.after e.is
    where
      by_is : (cs : List Command) → k ≡ plus m (block_counts (block_from cs)) → otherwise (block_from cs) (braced i (standing depth looped m) (statements i (standing (suc depth) looped m) (block_from cs))) l r
          → ElseWords m i (cs, k) l r
      by_is [] a (inl same) = Right (record { «from» = tt; is = same.1; made = λ j. ([], (a ∙ plus_zero m) j) })
      by_is (c ∷ cs) a (inl same) = absurd cc
      by_is cs a (inr x) = Left (record { «from» = (cs, k); is = record { middle = x.middle; first = x.first; second = record { is = x.second; after = a } }; made = refl })

  else_law : (m : Counts) → Law places is_else (Else m) (else_at blocks looped m)
  else_law m = map_law (else_words m) (else_into m) (else_out m)

  -- if

  abbrev Chosen : Type 0
  Chosen = Test × (Several × Several)

  abbrev chosen_of : Chosen → Counted
  chosen_of x = (Choose x.0 (block_from x.1.0.0) (block_from x.1.1.0), x.1.1.1)

  abbrev IfWords : ℕ → Counted → List Token → List Token → Type 0
  IfWords = Made chosen_of (λ i x. word (codes "if") · condition i x.0 · Blk depth looped n i x.1.0 · Else x.1.0.1 i x.1.1)

  if_words : Law places is_else IfWords (if_at blocks looped n)
  unfolding if_at
  if_words = skip (Name (codes "if")) chosen_of (take (λ (t : Test) (x : Several × Several). chosen_of (t, x)) cond_law
      (λ t. take {before = anything} (λ (yes other : Several). chosen_of (t, (yes, other))) (inner looped n) (λ yes. take_last (λ (other : Several). chosen_of (t, (yes, other))) (else_law yes.1)) (λ i yes x l r is clear. refl))
      (λ i t x l r is clear. block_clear depth looped n i x.0 l is.middle is.first))

  if_into : (i : ℕ) (c : Counted) (l r : List Token) → IfWords i c l r → Cmd depth looped before i c l r × (head_of c.0 ≡ heads.If)
  if_into i c l r m =
      let x = m.«from» in
      let yes = m.is.second.second.first in
      let other = m.is.second.second.second in
      subst (λ y. Cmd depth looped before i y l r × (head_of y.0 ≡ heads.If)) (sym m.made) (
        record {
          is = record {
            middle = m.is.middle;
            first = m.is.first;
            second = record {
              middle = m.is.second.middle;
              first = m.is.second.first;
              second = record {
                middle = m.is.second.second.middle;
                first = yes.is;
                second = subst (λ k. otherwise (block_from x.1.1.0) (braced i (standing depth looped k) (statements i (standing (suc depth) looped k) (block_from x.1.1.0))) m.is.second.second.middle r) yes.after other.is;
              };
            };
          };
          after = other.after ∙ ap (λ k. plus k (block_counts (block_from x.1.1.0))) yes.after ∙ ap (λ k. plus k (block_counts (block_from x.1.1.0))) (plus_assoc before one (block_counts (block_from x.1.0.0)))
              ∙ plus_assoc before (plus one (block_counts (block_from x.1.0.0))) (block_counts (block_from x.1.1.0)) ∙ ap (λ k. plus before k) (plus_assoc one (block_counts (block_from x.1.0.0)) (block_counts (block_from x.1.1.0)));
        },
        refl,
      )

  if_out : (i : ℕ) (c : Counted) (l r : List Token) → Cmd depth looped before i c l r → head_of c.0 ≡ heads.If → IfWords i c l r
  if_out i (Choose t ys ns, k) l r cmd e =
      let yes : Several = (commands_of ys, plus n (block_counts ys)) in
      let first : block_from (commands_of ys) ≡ ys = from_commands ys in
      let last : block_from (commands_of ns) ≡ ns = from_commands ns in
      let x = cmd.is.second.second in
      record {
        «from» = (t, (yes, (commands_of ns, k)));
        is = record {
          middle = cmd.is.middle;
          first = cmd.is.first;
          second = record {
            middle = cmd.is.second.middle;
            first = cmd.is.second.first;
            second = record {
              middle = x.middle;
              first = record {
                is = subst (λ b. braced i (standing depth looped n) (statements i (standing (suc depth) looped n) b) cmd.is.second.middle x.middle) (sym first) x.first;
                after = ap (λ b. plus n (block_counts b)) (sym first);
              };
              second = record {
                is = subst (λ b. otherwise b (braced i (standing depth looped (plus n (block_counts ys))) (statements i (standing (suc depth) looped (plus n (block_counts ys))) b)) x.middle r) (sym last) x.second;
                after = cmd.after ∙ sym (plus_assoc before one (plus (block_counts ys) (block_counts ns))) ∙ sym (plus_assoc n (block_counts ys) (block_counts ns)) ∙ ap (λ b. plus (plus n (block_counts ys)) (block_counts b)) (sym last);
              };
            };
          };
        };
        made = λ j. (Choose t (sym first j) (sym last j), k);
      }
  if_out i _ l r cmd e = absurd cc

  -- loops

  where_law : Law places before_brace where_part where_at
  unfolding where_at
  where_law = map_law (either_law (is_next (Name (codes "where"))) (next_alike (λ token. is_kind (Name (codes "where")) token.kind)) (skip (Name (codes "where")) (λ (t : Test). Some t) (take_last (λ (t : Test). Some t) (clash_law (λ l clear. (or_false (disjoins l) (is_next (Name (codes "where")) l) clear).0) cond_law)))
      (ended places before_brace None) (λ i o l r m. kind_next (Name (codes "where")) l m.is.middle m.is.first) (λ i o l r m clear. no_where l r m.is clear))
      into out
    where
      no_where : (l r : List Token) → l ≡ r → before_brace r ≡ false → is_next (Name (codes "where")) l ≡ false
      no_where l r e clear = subst (λ x. is_next (Name (codes "where")) x ≡ false) (sym e) (or_false (disjoins r) (is_next (Name (codes "where")) r) clear).1

      into : (i : ℕ) (o : Option Test) (l r : List Token) → Either (Made (λ (t : Test). Some t) (λ i t. word (codes "where") · condition i t)) (Made (λ (_ : Unit {0}). None) (λ _ _. nothing)) i o l r → where_part i o l r
      into i o l r (Left m) = subst (λ x. where_part i x l r) (sym m.made) m.is
      into i o l r (Right m) = subst (λ x. where_part i x l r) (sym m.made) m.is

      out : (i : ℕ) (o : Option Test) (l r : List Token) → where_part i o l r → Either (Made (λ (t : Test). Some t) (λ i t. word (codes "where") · condition i t)) (Made (λ (_ : Unit {0}). None) (λ _ _. nothing)) i o l r
      out i None l r is = Right (record { «from» = tt; is = is; made = refl })
      out i (Some t) l r is = Left (record { «from» = t; is = is; made = refl })

  abbrev m : Counts
  m = plus n (counts 0 1 0)

  loop_counts : (b : Counts) → plus m b ≡ plus before (plus (counts 1 1 0) b)
  loop_counts b = λ i. let s : before.statements + 1 + 0 + b.statements ≡ before.statements + (1 + b.statements) = omega arith in
      let l : before.loops + 0 + 1 + b.loops ≡ before.loops + (1 + b.loops) = omega arith in let v : before.variables + 0 + 0 + b.variables ≡ before.variables + (0 + b.variables) = omega arith in
      record { statements = s i; loops = l i; variables = v i }

  abbrev Rowed : Type 0
  Rowed = Ident × (Ident × (Option Test × Several))

  abbrev rows_of : Rowed → Counted
  rows_of x = (ForRows x.0 x.1.0 x.1.1.0 (block_from x.1.1.1.0), x.1.1.1.1)

  abbrev ForWords : ℕ → Counted → List Token → List Token → Type 0
  ForWords = Made rows_of (λ i x. word (codes "for") · name x.0 · word (codes "in") · name x.1.0 · where_part i x.1.1.0 · Blk depth true m i x.1.1.1)

  for_words : Law places is_else ForWords (for_at blocks m)
  unfolding for_at
  for_words = skip (Name (codes "for")) rows_of (take {before = anything} (λ (a : Ident) (x : Ident × (Option Test × Several)). rows_of (a, x)) (name_law places anything)
      (λ a. skip (Name (codes "in")) (λ (x : Ident × (Option Test × Several)). rows_of (a, x)) (take {before = anything} (λ (t : Ident) (x : Option Test × Several). rows_of (a, (t, x))) (name_law places anything)
      (λ t. take (λ (o : Option Test) (s : Several). rows_of (a, (t, (o, s)))) where_law (λ o. take_last (λ (s : Several). rows_of (a, (t, (o, s)))) (any_clash (inner true m)))
      (λ i o s l r is clear. brace_clear depth true m i s l r is)) (λ i a t l r is clear. refl))) (λ i a t l r is clear. refl))

  abbrev Eached : Type 0
  Eached = Ident × (Ident × Several)

  abbrev each_of : Eached → Counted
  each_of x = (ForEach x.0 x.1.0 (block_from x.1.1.0), x.1.1.1)

  abbrev EachWords : ℕ → Counted → List Token → List Token → Type 0
  EachWords = Made each_of (λ i x. word (codes "each") · name x.0 · word (codes "in") · name x.1.0 · Blk depth true m i x.1.1)

  each_words : Law places is_else EachWords (each_at blocks m)
  unfolding each_at
  each_words = skip (Name (codes "each")) each_of (take {before = anything} (λ (a : Ident) (x : Ident × Several). each_of (a, x)) (name_law places anything)
      (λ a. skip (Name (codes "in")) (λ (x : Ident × Several). each_of (a, x)) (take {before = anything} (λ (t : Ident) (s : Several). each_of (a, (t, s))) (name_law places anything)
      (λ t. take_last (λ (s : Several). each_of (a, (t, s))) (any_clash (inner true m))) (λ i a t l r is clear. refl))) (λ i a t l r is clear. refl))

  -- a loop is refused where there are too many
  abbrev counted_loop : List ℕ → (Counts → List Token → Read Counted) → List Token → Read Counted
  counted_loop w body l = if is_next (Name w) l && nat_le 15 n.loops then refuse Many l else body m l

  word_misplaced : (w : List ℕ) (l : List Token) → is_next (Name w) l ≡ false → kind_at (Name w) l ≡ refuse Syntax l
  word_misplaced w [] e = refl
  word_misplaced w (token ∷ l) e = ap (λ b. found_at (given b token.spot) token l) e

  for_counted : Law places is_else (Limited 15 n.loops ForWords) (counted_loop (codes "for") (for_at blocks))
  unfolding for_at
  for_counted = limited_law (is_next (Name (codes "for"))) 15 n.loops (next_alike (λ token. is_kind (Name (codes "for")) token.kind)) refl for_words (λ i c l r x. kind_next (Name (codes "for")) l x.is.middle x.is.first)
      (λ l e. then_err (λ _ r1. name_at r1 >>= λ row r2. kind_at (Name (codes "in")) r2 >>= λ _ r3. name_at r3 >>= λ table r4. where_at r4 >>= λ t r5. blocks true m r5 >>= λ body r6.
      Ok ((ForRows row table t (block_from body.0), body.1), r6)) (word_misplaced (codes "for") l e))
      (λ token others t. Short (then_ok (λ _ r1. name_at r1 >>= λ row r2. kind_at (Name (codes "in")) r2 >>= λ _ r3. name_at r3 >>= λ table r4. where_at r4 >>= λ t r5. blocks true m r5 >>= λ body r6.
      Ok ((ForRows row table t (block_from body.0), body.1), r6)) (kind_read (Name (codes "for")) token [] (kind_is (Name (codes "for")) token.kind t))))

  each_counted : Law places is_else (Limited 15 n.loops EachWords) (counted_loop (codes "each") (each_at blocks))
  unfolding each_at
  each_counted = limited_law (is_next (Name (codes "each"))) 15 n.loops (next_alike (λ token. is_kind (Name (codes "each")) token.kind)) refl each_words (λ i c l r x. kind_next (Name (codes "each")) l x.is.middle x.is.first)
      (λ l e. then_err (λ _ r1. name_at r1 >>= λ var r2. kind_at (Name (codes "in")) r2 >>= λ _ r3. name_at r3 >>= λ list r4. blocks true m r4 >>= λ body r5.
      Ok ((ForEach var list (block_from body.0), body.1), r5)) (word_misplaced (codes "each") l e))
      (λ token others t. Short (then_ok (λ _ r1. name_at r1 >>= λ var r2. kind_at (Name (codes "in")) r2 >>= λ _ r3. name_at r3 >>= λ list r4. blocks true m r4 >>= λ body r5.
      Ok ((ForEach var list (block_from body.0), body.1), r5)) (kind_read (Name (codes "each")) token [] (kind_is (Name (codes "each")) token.kind t))))

  for_into : looped ≡ false → (i : ℕ) (c : Counted) (l r : List Token) → Limited 15 n.loops ForWords i c l r → Cmd depth looped before i c l r × (head_of c.0 ≡ heads.For)
  for_into free i c l r (w, x) = subst (λ y. Cmd depth looped before i y l r × (head_of y.0 ≡ heads.For)) (sym x.made) (
    record {
      is = record {
        middle = l;
        first = (free, (refl, w));
        second = record {
          middle = x.is.middle;
          first = x.is.first;
          second = record {
            middle = x.is.second.middle;
            first = x.is.second.first;
            second = record {
              middle = x.is.second.second.middle;
              first = x.is.second.second.first;
              second = record {
                middle = x.is.second.second.second.middle;
                first = x.is.second.second.second.first;
                second = record {
                  middle = x.is.second.second.second.second.middle;
                  first = x.is.second.second.second.second.first;
                  second = x.is.second.second.second.second.second.is;
                };
              };
            };
          };
        };
      };
      after = x.is.second.second.second.second.second.after ∙ loop_counts (block_counts (block_from x.«from».1.1.1.0));
    },
    refl,
  )

  for_out : (i : ℕ) (c : Counted) (l r : List Token) → Cmd depth looped before i c l r → head_of c.0 ≡ heads.For → Limited 15 n.loops ForWords i c l r
  for_out i (ForRows a t o body, k) l r cmd e =
      let same : block_from (commands_of body) ≡ body = from_commands body in
      let x = subst (λ y. (word (codes "for") · name a · word (codes "in") · name t · where_part i o · braced i at (statements i (standing (suc depth) true m) body)) y r) (sym cmd.is.first.1.0) cmd.is.second in (
        cmd.is.first.1.1,
        record {
          «from» = (a, (t, (o, (commands_of body, k))));
          is = record {
            middle = x.middle;
            first = x.first;
            second = record {
              middle = x.second.middle;
              first = x.second.first;
              second = record {
                middle = x.second.second.middle;
                first = x.second.second.first;
                second = record {
                  middle = x.second.second.second.middle;
                  first = x.second.second.second.first;
                  second = record {
                    middle = x.second.second.second.second.middle;
                    first = x.second.second.second.second.first;
                    second = record {
                      is = subst (λ b. braced i at (statements i (standing (suc depth) true m) b) x.second.second.second.second.middle r) (sym same) x.second.second.second.second.second;
                      after = cmd.after ∙ sym (loop_counts (block_counts body)) ∙ ap (λ b. plus m (block_counts b)) (sym same);
                    };
                  };
                };
              };
            };
          };
          made = λ j. (ForRows a t o (sym same j), k);
        },
      )
  for_out i _ l r cmd e = absurd cc

  each_into : looped ≡ false → (i : ℕ) (c : Counted) (l r : List Token) → Limited 15 n.loops EachWords i c l r → Cmd depth looped before i c l r × (head_of c.0 ≡ heads.Each)
  each_into free i c l r (w, x) = subst (λ y. Cmd depth looped before i y l r × (head_of y.0 ≡ heads.Each)) (sym x.made) (
    record {
      is = record {
        middle = l;
        first = (free, (refl, w));
        second = record {
          middle = x.is.middle;
          first = x.is.first;
          second = record {
            middle = x.is.second.middle;
            first = x.is.second.first;
            second = record {
              middle = x.is.second.second.middle;
              first = x.is.second.second.first;
              second = record { middle = x.is.second.second.second.middle; first = x.is.second.second.second.first; second = x.is.second.second.second.second.is };
            };
          };
        };
      };
      after = x.is.second.second.second.second.after ∙ loop_counts (block_counts (block_from x.«from».1.1.0));
    },
    refl,
  )

  each_out : (i : ℕ) (c : Counted) (l r : List Token) → Cmd depth looped before i c l r → head_of c.0 ≡ heads.Each → Limited 15 n.loops EachWords i c l r
  each_out i (ForEach a t body, k) l r cmd e =
      let same : block_from (commands_of body) ≡ body = from_commands body in
      let x = subst (λ y. (word (codes "each") · name a · word (codes "in") · name t · braced i at (statements i (standing (suc depth) true m) body)) y r) (sym cmd.is.first.1.0) cmd.is.second in (
        cmd.is.first.1.1,
        record {
          «from» = (a, (t, (commands_of body, k)));
          is = record {
            middle = x.middle;
            first = x.first;
            second = record {
              middle = x.second.middle;
              first = x.second.first;
              second = record {
                middle = x.second.second.middle;
                first = x.second.second.first;
                second = record {
                  middle = x.second.second.second.middle;
                  first = x.second.second.second.first;
                  second = record {
                    is = subst (λ b. braced i at (statements i (standing (suc depth) true m) b) x.second.second.second.middle r) (sym same) x.second.second.second.second;
                    after = cmd.after ∙ sym (loop_counts (block_counts body)) ∙ ap (λ b. plus m (block_counts b)) (sym same);
                  };
                };
              };
            };
          };
          made = λ j. (ForEach a t (sym same j), k);
        },
      )
  each_out i _ l r cmd e = absurd cc

  -- statements by what they begin with

  abbrev pub HeadCmd : Head → ℕ → Counted → List Token → List Token → Type 0
  HeadCmd h i c l r = Cmd depth looped before i c l r × (head_of c.0 ≡ h)

  simple : (h : Head) {G : ℕ → Command → List Token → List Token → Type 0} {read : List Token → Read Command} → Law places is_else G read
      → ((i : ℕ) (c : Command) (l r : List Token) → G i c l r → command i at c l r × (head_of c ≡ h) × (command_counts c ≡ one))
      → ((i : ℕ) (c : Command) (l r : List Token) → command i at c l r → head_of c ≡ h → G i c l r × (command_counts c ≡ one)) → Law places is_else (HeadCmd h) (λ l. with_counts n (read l))
  simple h {G} {read} law into out = map_law (take_last (λ (c : Command). (c, n)) law)
      (λ i c l r x. let y = into i x.«from» l r x.is in subst (λ z. HeadCmd h i z l r) (sym x.made) (record { is = y.0; after = ap (λ k. plus before k) (sym y.2) }, y.1))
      (λ i c l r x. let y = out i c.0 l r x.0.is x.1 in record { «from» = c.0; is = y.0; made = λ j. (c.0, (x.0.after ∙ ap (λ k. plus before k) y.1) j) })

  let_head : Law places is_else (HeadCmd heads.Let) (let_at n)
  let_head = map_law (let_law is_else n) into out
    where
      into : (i : ℕ) (c : Counted) (l r : List Token) → Made (let_of n) (λ i x. word (codes "let") · limit i 32 (suc n.variables) · setting i x.0 · mark marks.Semi) i c l r → HeadCmd heads.Let i c l r
      into i c l r x = subst (λ z. HeadCmd heads.Let i z l r) (sym x.made) (record { is = x.is; after = plus_assoc before one (counts 0 0 1) }, refl)

      out : (i : ℕ) (c : Counted) (l r : List Token) → HeadCmd heads.Let i c l r → Made (let_of n) (λ i x. word (codes "let") · limit i 32 (suc n.variables) · setting i x.0 · mark marks.Semi) i c l r
      out i (Declare x e, k) l r c = record { «from» = ((x, e), tt); is = c.0.is; made = λ j. (Declare x e, (c.0.after ∙ sym (plus_assoc before one (counts 0 0 1))) j) }
      out i _ l r c = absurd (let e = c.1 in cc)

  fresh_head : Law places is_else (HeadCmd heads.Fresh) (fresh_at n)
  fresh_head = map_law (fresh_law is_else n) into out
    where
      into : (i : ℕ) (c : Counted) (l r : List Token) → Made (fresh_of n) (λ i x. word (codes "fresh") · limit i 32 (suc n.variables) · FreshWords i x) i c l r → HeadCmd heads.Fresh i c l r
      into i c l r x = subst (λ z. HeadCmd heads.Fresh i z l r) (sym x.made) (record { is = x.is; after = plus_assoc before one (counts 0 0 1) }, refl)

      out : (i : ℕ) (c : Counted) (l r : List Token) → HeadCmd heads.Fresh i c l r → Made (fresh_of n) (λ i x. word (codes "fresh") · limit i 32 (suc n.variables) · FreshWords i x) i c l r
      out i (Fresh x t vs, k) l r c = record { «from» = (x, (t, (vs, tt))); is = c.0.is; made = λ j. (Fresh x t vs, (c.0.after ∙ sym (plus_assoc before one (counts 0 0 1))) j) }
      out i _ l r c = absurd (let e = c.1 in cc)

  assign_head : Law places is_else (HeadCmd heads.Assign) (λ l. with_counts n (assign_at l))
  assign_head = simple heads.Assign (assign_law is_else) (λ i c l r x. subst (λ z. command i at z l r × (head_of z ≡ heads.Assign) × (command_counts z ≡ one)) (sym x.made) (x.is, refl, refl)) out
    where
      out : (i : ℕ) (c : Command) (l r : List Token) → command i at c l r → head_of c ≡ heads.Assign → AssignWords i c l r × (command_counts c ≡ one)
      out i (Assign x e) l r is h = (record { «from» = ((x, e), tt); is = is; made = refl }, refl)
      out i _ l r is h = absurd cc

  get_head : Law places is_else (HeadCmd heads.Get) (λ l. with_counts n (get_at l))
  get_head = simple heads.Get (get_law is_else) (λ i c l r x. subst (λ z. command i at z l r × (head_of z ≡ heads.Get) × (command_counts z ≡ one)) (sym x.made) (x.is, refl, refl)) out
    where
      out : (i : ℕ) (c : Command) (l r : List Token) → command i at c l r → head_of c ≡ heads.Get → GetWords i c l r × (command_counts c ≡ one)
      out i (Fetch a t k) l r is h = (record { «from» = (a, (t, (k, tt))); is = is; made = refl }, refl)
      out i _ l r is h = absurd cc

  insert_head : Law places is_else (HeadCmd heads.Insert) (λ l. with_counts n (insert_at l))
  insert_head = simple heads.Insert (insert_law is_else) (λ i c l r x. subst (λ z. command i at z l r × (head_of z ≡ heads.Insert) × (command_counts z ≡ one)) (sym x.made) (x.is, refl, refl)) out
    where
      out : (i : ℕ) (c : Command) (l r : List Token) → command i at c l r → head_of c ≡ heads.Insert → InsertWords i c l r × (command_counts c ≡ one)
      out i (Insert t vs) l r is h = (record { «from» = (t, (vs, tt)); is = is; made = refl }, refl)
      out i _ l r is h = absurd cc

  update_head : Law places is_else (HeadCmd heads.Update) (λ l. with_counts n (update_at l))
  update_head = simple heads.Update (update_law is_else) (λ i c l r x. subst (λ z. command i at z l r × (head_of z ≡ heads.Update) × (command_counts z ≡ one)) (sym x.made) (x.is, refl, refl)) out
    where
      out : (i : ℕ) (c : Command) (l r : List Token) → command i at c l r → head_of c ≡ heads.Update → UpdateWords i c l r × (command_counts c ≡ one)
      out i (Update t k s) l r is h = (record { «from» = (t, (k, (s, tt))); is = is; made = refl }, refl)
      out i _ l r is h = absurd cc

  remove_head : Law places is_else (HeadCmd heads.Remove) (λ l. with_counts n (remove_at l))
  remove_head = simple heads.Remove (remove_law is_else) (λ i c l r x. subst (λ z. command i at z l r × (head_of z ≡ heads.Remove) × (command_counts z ≡ one)) (sym x.made) (x.is, refl, refl)) out
    where
      out : (i : ℕ) (c : Command) (l r : List Token) → command i at c l r → head_of c ≡ heads.Remove → RemoveWords i c l r × (command_counts c ≡ one)
      out i (Remove t k) l r is h = (record { «from» = (t, (k, tt)); is = is; made = refl }, refl)
      out i _ l r is h = absurd cc

  abort_head : Law places is_else (HeadCmd heads.Abort) (λ l. with_counts n (abort_at l))
  abort_head = simple heads.Abort (abort_law is_else) (λ i c l r x. subst (λ z. command i at z l r × (head_of z ≡ heads.Abort) × (command_counts z ≡ one)) (sym x.made) (x.is, refl, refl)) out
    where
      out : (i : ℕ) (c : Command) (l r : List Token) → command i at c l r → head_of c ≡ heads.Abort → AbortWords i c l r × (command_counts c ≡ one)
      out i (Abort x) l r is h = (record { «from» = (x, tt); is = is; made = refl }, refl)
      out i _ l r is h = absurd cc

  reply_head : Law places is_else (HeadCmd heads.Reply) (λ l. with_counts n (reply_at l))
  reply_head = simple heads.Reply (reply_law is_else) (λ i c l r x. subst (λ z. command i at z l r × (head_of z ≡ heads.Reply) × (command_counts z ≡ one)) (sym x.made) (x.is, refl, refl)) out
    where
      out : (i : ℕ) (c : Command) (l r : List Token) → command i at c l r → head_of c ≡ heads.Reply → ReplyWords i c l r × (command_counts c ≡ one)
      out i (Reply e) l r is h = (record { «from» = (e, tt); is = is; made = refl }, refl)
      out i _ l r is h = absurd cc

  if_head : Law places is_else (HeadCmd heads.If) (if_at blocks looped n)
  if_head = map_law if_words if_into (λ i c l r x. if_out i c l r x.0 x.1)

  -- the reading of a statement that is known to begin so
  abbrev pub branch : Head → List Token → Read Counted
  branch heads.For l = counted_loop (codes "for") (for_at blocks) l
  branch heads.Each l = counted_loop (codes "each") (each_at blocks) l
  branch h l = with_head blocks looped n (Some h) l

  not_looped : (b : Bool) → not (b && true) ≡ true → b ≡ false
  not_looped true e = absurd cc
  not_looped false e = refl

  pub branch_law : (h : Head) → may_begin looped (Some h) ≡ true → Law places is_else (HeadCmd h) (branch h)
  branch_law heads.Let e = let_head
  branch_law heads.Assign e = assign_head
  branch_law heads.Get e = get_head
  branch_law heads.If e = if_head
  branch_law heads.For e = map_law for_counted (for_into (not_looped looped e)) (λ i c l r x. for_out i c l r x.0 x.1)
  branch_law heads.Each e = map_law each_counted (each_into (not_looped looped e)) (λ i c l r x. each_out i c l r x.0 x.1)
  branch_law heads.Insert e = insert_head
  branch_law heads.Fresh e = fresh_head
  branch_law heads.Update e = update_head
  branch_law heads.Remove e = remove_head
  branch_law heads.Abort e = abort_head
  branch_law heads.Reply e = reply_head

  looping_read : (w : List ℕ) (h : Head) (body : Counts → List Token → Read Counted) (l : List Token) → is_next (Name w) l ≡ true → loop_at body n l ≡ counted_loop w body l
  unfolding loop_at
  looping_read w h body l e = ap (λ b. if b && nat_le 15 n.loops then refuse Many l else body m l) (sym e)

  head_next : (h : Head) (w : List ℕ) (l : List Token) → head_at l ≡ Some h → ((x : List ℕ) → HeadWord h x → x ≡ w) → is_next (Name w) l ≡ true
  head_next h w [] e same = absurd cc
  head_next h w (token ∷ l) e same = let t = head_token token l h e in kind_next (Name w) (token ∷ l) l (record { token = token; next = refl; holds = t.1 ∙ ap Name (same t.0 t.2) })

  pub branch_same : (h : Head) (l : List Token) → head_at l ≡ Some h → with_head blocks looped n (Some h) l ≡ branch h l
  branch_same heads.For l e = looping_read (codes "for") heads.For (for_at blocks) l (head_next heads.For (codes "for") l e (λ x s. s))
  branch_same heads.Each l e = looping_read (codes "each") heads.Each (each_at blocks) l (head_next heads.Each (codes "each") l e (λ x s. s))
  branch_same heads.Let l e = refl
  branch_same heads.Assign l e = refl
  branch_same heads.Get l e = refl
  branch_same heads.If l e = refl
  branch_same heads.Insert l e = refl
  branch_same heads.Fresh l e = refl
  branch_same heads.Update l e = refl
  branch_same heads.Remove l e = refl
  branch_same heads.Abort l e = refl
  branch_same heads.Reply l e = refl

  -- all statements

  abbrev pub starts : List Token → Bool
  starts l = may_begin looped (head_at l)

  abbrev pub cmd_at : List Token → Read Counted
  cmd_at l = if may_begin looped (head_at l) then with_head blocks looped n (head_at l) l else refuse Syntax l

  pub starts_alike : (a b : List Token) → Alike a b → starts a ≡ starts b
  starts_alike a b alike = ap (may_begin looped) (head_alike a b alike)

  pub by_head : (h : Head) (l : List Token) → head_at l ≡ Some h → may_begin looped (Some h) ≡ true → cmd_at l ≡ branch h l
  by_head h l e t =
      ap (λ (x : Option Head). if may_begin looped x then with_head blocks looped n x l else refuse Syntax l) e
      ∙ ap (λ b. cond b (with_head blocks looped n (Some h) l) (refuse Syntax l)) t ∙ branch_same h l e

  pub misplaced : (l : List Token) → starts l ≡ false → cmd_at l ≡ refuse Syntax l
  misplaced l e = ap (λ b. cond b (with_head blocks looped n (head_at l) l) (refuse Syntax l)) e

  pub same_head : (h : Head) (tokens last : List Token) → Alike tokens last → head_at tokens ≡ Some h → head_at last ≡ Some h
  same_head h tokens last alike e = sym (head_alike tokens last alike) ∙ e

  cmd_took : (tokens : List Token) (c : Counted) (rest : List Token) → cmd_at tokens ≡ Ok (c, rest) → Took places (Cmd depth looped before) cmd_at tokens c rest
  cmd_took tokens c rest e = by_found (head_at tokens) refl
    where
      by_start : (h : Head) → head_at tokens ≡ Some h → (b : Bool) → may_begin looped (Some h) ≡ b → Took places (Cmd depth looped before) cmd_at tokens c rest
      by_start h f true t = took_map (λ x. x) (λ i a l r is. is.0) (λ last x alike is. by_head h last (same_head h tokens last alike f) t ∙ is)
          ((branch_law h t).took tokens c rest (sym (by_head h tokens f t) ∙ e))
      by_start h f false t = let bad : ◌≡◌ {A = Read Counted} (refuse Syntax tokens) (Ok (c, rest)) = sym (misplaced tokens (ap (may_begin looped) f ∙ t)) ∙ e in absurd cc

      by_found : (o : Option Head) → head_at tokens ≡ o → Took places (Cmd depth looped before) cmd_at tokens c rest
      by_found None f = let bad : ◌≡◌ {A = Read Counted} (refuse Syntax tokens) (Ok (c, rest)) = sym (misplaced tokens (ap (may_begin looped) f)) ∙ e in absurd cc
      by_found (Some h) f = by_start h f (may_begin looped (Some h)) refl

  cmd_some : Opens places (Cmd depth looped before) []
  cmd_some = opens_map (λ x. x) (λ i c l r is. is.0) [] reply_head.some

  refused_here : (tokens : List Token) (fault : ReadFault) → starts tokens ≡ false → cmd_at tokens ≡ Err fault → Stuck places (Cmd depth looped before) cmd_at tokens fault
  refused_here tokens fault t e = record {
    front = [];
    rest = tokens;
    code = Syntax;
    whole = refl;
    place = let same : ◌≡◌ {A = Read Counted} (refuse Syntax tokens) (Err fault) = sym (misplaced tokens t) ∙ e in let faults : record { code = Syntax; left = length tokens } ≡ fault = cc in sym faults;
    opens = cmd_some;
    cause = Misplaced tokens;
    again = λ last alike. misplaced last (sym (starts_alike tokens last alike) ∙ t);
  }

  cmd_fails : (tokens : List Token) (fault : ReadFault) → cmd_at tokens ≡ Err fault → Stuck places (Cmd depth looped before) cmd_at tokens fault
  cmd_fails tokens fault e = by_found (head_at tokens) refl
    where
      by_start : (h : Head) → head_at tokens ≡ Some h → (b : Bool) → may_begin looped (Some h) ≡ b → Stuck places (Cmd depth looped before) cmd_at tokens fault
      by_start h f true t = stuck_map (λ x. x) (λ i a l r is. is.0) (λ last x alike is. by_head h last (same_head h tokens last alike f) t ∙ is)
          ((branch_law h t).fails tokens fault (sym (by_head h tokens f t) ∙ e))
      by_start h f false t = refused_here tokens fault (ap (may_begin looped) f ∙ t) e

      by_found : (o : Option Head) → head_at tokens ≡ o → Stuck places (Cmd depth looped before) cmd_at tokens fault
      by_found None f = refused_here tokens fault (ap (may_begin looped) f) e
      by_found (Some h) f = by_start h f (may_begin looped (Some h)) refl

  cmd_all : (i : ℕ) (c : Counted) (l r : List Token) → Cmd depth looped before i c l r → is_else r ≡ false → Reads places i (cmd_at l) c r
  cmd_all i c l r is clear =
      let h = head_command i at c.0 l r is.is in
      let t = command_begins i at c.0 l r is.is in
      reads_same (by_head (head_of c.0) l h t) ((branch_law (head_of c.0) t).all i c l r (is, refl) clear)

  pub cmd_law : Law places is_else (Cmd depth looped before) cmd_at
  cmd_law = record { some = cmd_some; took = cmd_took; all = cmd_all; fails = cmd_fails }

  pub cmd_starts : (i : ℕ) (c : Counted) (l r : List Token) → Cmd depth looped before i c l r → starts l ≡ true
  cmd_starts i c l r is = ap (may_begin looped) (head_command i at c.0 l r is.is) ∙ command_begins i at c.0 l r is.is
