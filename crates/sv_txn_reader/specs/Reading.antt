-- Reading transactions from left to right: what some tokens begin with, and the tokens behind it.
use Rattle.std.specs.Prelude.{ℕ, zero, suc, ℤ, pos, max, Bool, true, false, not, ◌&&◌, ◌||◌, if◌then◌else◌, nat_le, nat_lt, List, [], ◌∷◌, ◌++◌, length, Option, Some, None, Ok, bytes_eq, codes}
use Rattle.sv_value.specs.declared.spots.Spot.{Spot}
use Rattle.sv_lex.specs.declared.marks.Mark.{Mark as IsMark}
use Rattle.sv_lex.specs.declared.marks.Mark.TheVariants as marks
use Rattle.sv_lex.specs.declared.tokens.Token.{Token}
use Rattle.sv_lex.specs.declared.tokens.TokenKind.{TokenKind}
use Rattle.sv_lex.specs.declared.tokens.TokenKind.TheVariants.{Name, Number, Text, Mark}
use Rattle.sv_app.specs.declared.apps.Ident.{Ident}
use Rattle.sv_app.specs.declared.refusals.Code.TheVariants.{Syntax, Many}
use Rattle.sv_app.specs.declared.schemas.Ty.{Ty}
use Rattle.sv_app.specs.declared.schemas.Ty.TheVariants as types
use Rattle.sv_app.specs.declared.txns.Rel.{Rel}
use Rattle.sv_app.specs.declared.txns.Rel.TheVariants as rels
use Rattle.sv_app.specs.Trees.{Term, Test, Command, Transaction, block_from}
use Rattle.sv_app.specs.Trees as trees
use Rattle.sv_app.specs.Words.{is_reserved}
use Rattle.sv_reader.specs.Reading.{Read, ◌>>=◌, refuse, given, is_next, is_kind, next, kind_at, name_at, is_name, token_at, turns_at, by_word, keep}
use Rattle.sv_txn_reader.specs.declared.counts.Counts.{Counts}
use Rattle.sv_txn_reader.specs.declared.heads.Head.{Head}
use Rattle.sv_txn_reader.specs.declared.heads.Head.TheVariants as heads
use Rattle.sv_app.specs.TermTypes.{spot_of}
use Rattle.sv_txn_reader.specs.Grammar.{placed}
use Rattle.sv_txn_reader.specs.Standing.{counts, plus}

-- an expression, and how much deeper it is than a name; a condition, and how much deeper it is than a comparison of names
abbrev pub Graded : Type 0
Graded = Term × ℕ

abbrev pub Judged : Type 0
Judged = Test × ℕ

-- where there is no room
abbrev pub never : {A : Type 0} → List Token → Read A
never tokens = refuse Syntax tokens

-- a number or a text
abbrev pub literal : Spot → TokenKind → Option Graded
literal spot (Number n) = Some (trees.Number n spot, 0)
literal spot (Text t) = Some (trees.Words t spot, 0)
literal spot _ = None

abbrev pub literal_of : Token → Option Graded
literal_of token = literal token.spot token.kind

-- what stands behind a name in an expression
unfoldable pub field_at : Ident → List Token → Read Graded
field_at x tokens =
    if is_next (Mark marks.Dot) tokens then (kind_at (Mark marks.Dot) tokens >>= λ _ r1. name_at r1 >>= λ c r2. Ok ((trees.Field x c x.spot, 0), r2))
    else Ok ((trees.Variable x x.spot, 0), tokens)

unfoldable pub old_at : List Token → Read Graded
old_at tokens =
    kind_at (Name (codes "old")) tokens >>= λ s r1. kind_at (Mark marks.Dot) r1 >>= λ _ r2. name_at r2 >>= λ c r3. Ok ((trees.Old c s, 0), r3)

unfoldable pub leaf_at : List Token → Read Graded
leaf_at tokens =
    if is_next (Name (codes "old")) tokens then old_at tokens
    else if is_name tokens then (name_at tokens >>= λ x r. field_at x r)
    else token_at literal_of tokens

unfoldable pub sign_at : (List Token → Read Graded) → List Token → Read Graded
sign_at factor tokens = kind_at (Mark marks.Minus) tokens >>= λ s r1. factor r1 >>= λ e r2. Ok ((trees.Minus e.0 s, suc e.1), r2)

unfoldable pub group_at : (List Token → Read Graded) → List Token → Read Graded
group_at sums tokens =
    kind_at (Mark marks.LeftParen) tokens >>= λ s r1. sums r1 >>= λ e r2. kind_at (Mark marks.RightParen) r2 >>= λ _ r3. Ok ((placed s e.0, suc e.1), r3)

-- a factor where there is so much room to go deeper; in it stand those factors and those expressions
unfoldable pub factor_with : ℕ → (List Token → Read Graded) → (List Token → Read Graded) → List Token → Read Graded
factor_with room factor sums tokens =
    if is_next (Mark marks.Minus) tokens then (if nat_le room 0 then refuse Many tokens else sign_at factor tokens)
    else if is_next (Mark marks.LeftParen) tokens then (if nat_le room 0 then refuse Many tokens else group_at sums tokens)
    else leaf_at tokens

-- one operator more, and what it joins
unfoldable pub product_turn : ℕ → (List Token → Read Graded) → Graded → List Token → Read Graded
product_turn room factor a tokens =
    if nat_le room a.1 then refuse Many tokens
    else (kind_at (Mark marks.Star) tokens >>= λ _ r1. factor r1 >>= λ b r2. Ok ((trees.Product a.0 b.0 (spot_of a.0), suc (max a.1 b.1)), r2))

unfoldable pub products_with : ℕ → (List Token → Read Graded) → (List Token → Read Graded) → List Token → Read Graded
products_with room first other tokens = first tokens >>= λ a r. turns_at (is_next (Mark marks.Star)) (product_turn room other) keep a r

abbrev pub is_sign : List Token → Bool
is_sign tokens = is_next (Mark marks.Plus) tokens || is_next (Mark marks.Minus) tokens

unfoldable pub joined_at : (List Token → Read Graded) → Graded → List Token → Read Graded
joined_at products a tokens =
    if is_next (Mark marks.Plus) tokens then (kind_at (Mark marks.Plus) tokens >>= λ _ r1. products r1 >>= λ b r2. Ok ((trees.Sum a.0 b.0 (spot_of a.0), suc (max a.1 b.1)), r2))
    else (kind_at (Mark marks.Minus) tokens >>= λ _ r1. products r1 >>= λ b r2. Ok ((trees.Difference a.0 b.0 (spot_of a.0), suc (max a.1 b.1)), r2))

unfoldable pub sum_turn : ℕ → (List Token → Read Graded) → Graded → List Token → Read Graded
sum_turn room products a tokens = if nat_le room a.1 then refuse Many tokens else joined_at products a tokens

unfoldable pub sums_with : ℕ → (List Token → Read Graded) → (List Token → Read Graded) → List Token → Read Graded
sums_with room first other tokens = first tokens >>= λ a r. turns_at is_sign (sum_turn room other) keep a r

-- what is read where there is so much room
unfoldable mutual
  pub factor_at : ℕ → List Token → Read Graded
  factor_at zero tokens = factor_with 0 never never tokens
  factor_at (suc room) tokens = factor_with (suc room) (factor_at room) (sums_at room) tokens

  pub products_at : ℕ → List Token → Read Graded
  products_at zero tokens = products_with 0 (factor_with 0 never never) never tokens
  products_at (suc room) tokens = products_with (suc room) (factor_with (suc room) (factor_at room) (sums_at room)) (factor_at room) tokens

  pub sums_at : ℕ → List Token → Read Graded
  sums_at zero tokens = sums_with 0 (products_with 0 (factor_with 0 never never) never) never tokens
  sums_at (suc room) tokens = sums_with (suc room) (products_with (suc room) (factor_with (suc room) (factor_at room) (sums_at room)) (factor_at room)) (products_at room) tokens

-- the same inside something that takes one of this room
abbrev pub factor_below : ℕ → List Token → Read Graded
factor_below zero = never
factor_below (suc room) = factor_at room

abbrev pub products_below : ℕ → List Token → Read Graded
products_below zero = never
products_below (suc room) = products_at room

abbrev pub sums_below : ℕ → List Token → Read Graded
sums_below zero = never
sums_below (suc room) = sums_at room

unfoldable pub expr_at : List Token → Read Term
expr_at tokens = sums_at 15 tokens >>= λ e r. Ok (e.0, r)

-- conditions

abbrev pub relation_named : IsMark → Option Rel
relation_named marks.Eq = Some rels.Eq
relation_named marks.Ne = Some rels.Ne
relation_named marks.Lt = Some rels.Lt
relation_named marks.Le = Some rels.Le
relation_named marks.Gt = Some rels.Gt
relation_named marks.Ge = Some rels.Ge
relation_named _ = None

abbrev pub relation_in : TokenKind → Option Rel
relation_in (Mark mark) = relation_named mark
relation_in _ = None

abbrev pub relation_of : Token → Option Rel
relation_of token = relation_in token.kind

unfoldable pub comparison_at : (List Token → Read Graded) → List Token → Read Judged
comparison_at side tokens =
    side tokens >>= λ a r1. token_at relation_of r1 >>= λ by r2. side r2 >>= λ b r3. Ok ((trees.Compare a.0 by b.0, max a.1 b.1), r3)

unfoldable pub negation_at : (List Token → Read Judged) → List Token → Read Judged
negation_at literal tokens = kind_at (Name (codes "not")) tokens >>= λ _ r1. literal r1 >>= λ t r2. Ok ((trees.Negation t.0, suc t.1), r2)

unfoldable pub bracket_at : (List Token → Read Judged) → List Token → Read Judged
bracket_at inside tokens =
    kind_at (Mark marks.LeftBracket) tokens >>= λ _ r1. inside r1 >>= λ t r2. kind_at (Mark marks.RightBracket) r2 >>= λ _ r3. Ok ((t.0, suc t.1), r3)

-- a literal where there is so much room; in it stand those sides, literals and conditions
unfoldable pub literal_with : ℕ → (List Token → Read Graded) → (List Token → Read Judged) → (List Token → Read Judged) → List Token → Read Judged
literal_with room side literal inside tokens =
    if is_next (Name (codes "not")) tokens then (if nat_le room 0 then refuse Many tokens else negation_at literal tokens)
    else if is_next (Mark marks.LeftBracket) tokens then (if nat_le room 0 then refuse Many tokens else bracket_at inside tokens)
    else comparison_at side tokens

unfoldable pub and_turn : ℕ → (List Token → Read Judged) → Judged → List Token → Read Judged
and_turn room literal t tokens =
    if nat_le room t.1 then refuse Many tokens
    else (kind_at (Name (codes "and")) tokens >>= λ _ r1. literal r1 >>= λ u r2. Ok ((trees.Both t.0 u.0, suc (max t.1 u.1)), r2))

unfoldable pub conjunctions_with : ℕ → (List Token → Read Judged) → (List Token → Read Judged) → List Token → Read Judged
conjunctions_with room first other tokens = first tokens >>= λ t r. turns_at (is_next (Name (codes "and"))) (and_turn room other) keep t r

unfoldable pub or_turn : ℕ → (List Token → Read Judged) → Judged → List Token → Read Judged
or_turn room conjunctions t tokens =
    if nat_le room t.1 then refuse Many tokens
    else (kind_at (Name (codes "or")) tokens >>= λ _ r1. conjunctions r1 >>= λ u r2. Ok ((trees.Either t.0 u.0, suc (max t.1 u.1)), r2))

unfoldable pub disjunctions_with : ℕ → (List Token → Read Judged) → (List Token → Read Judged) → List Token → Read Judged
disjunctions_with room first other tokens = first tokens >>= λ t r. turns_at (is_next (Name (codes "or"))) (or_turn room other) keep t r

unfoldable mutual
  pub literal_at : ℕ → List Token → Read Judged
  literal_at zero tokens = literal_with 0 (sums_at 0) never never tokens
  literal_at (suc room) tokens = literal_with (suc room) (sums_at (suc room)) (literal_at room) (disjunctions_at room) tokens

  pub conjunctions_at : ℕ → List Token → Read Judged
  conjunctions_at zero tokens = conjunctions_with 0 (literal_with 0 (sums_at 0) never never) never tokens
  conjunctions_at (suc room) tokens = conjunctions_with (suc room) (literal_with (suc room) (sums_at (suc room)) (literal_at room) (disjunctions_at room)) (literal_at room) tokens

  pub disjunctions_at : ℕ → List Token → Read Judged
  disjunctions_at zero tokens = disjunctions_with 0 (conjunctions_with 0 (literal_with 0 (sums_at 0) never never) never) never tokens
  disjunctions_at (suc room) tokens =
      disjunctions_with (suc room) (conjunctions_with (suc room) (literal_with (suc room) (sums_at (suc room)) (literal_at room) (disjunctions_at room)) (literal_at room)) (conjunctions_at room) tokens

abbrev pub literal_below : ℕ → List Token → Read Judged
literal_below zero = never
literal_below (suc room) = literal_at room

abbrev pub conjunctions_below : ℕ → List Token → Read Judged
conjunctions_below zero = never
conjunctions_below (suc room) = conjunctions_at room

abbrev pub disjunctions_below : ℕ → List Token → Read Judged
disjunctions_below zero = never
disjunctions_below (suc room) = disjunctions_at room

unfoldable pub cond_at : List Token → Read Test
cond_at tokens = disjunctions_at 14 tokens >>= λ t r. Ok (t.0, r)

-- lists

unfoldable pub keys_at : List Token → Read (List Term)
keys_at tokens =
    expr_at tokens >>= λ first r1. if is_next (Mark marks.Comma) r1 then (kind_at (Mark marks.Comma) r1 >>= λ _ r2. expr_at r2 >>= λ second r3. Ok (first ∷ second ∷ [], r3))
    else Ok (first ∷ [], r1)

-- the keys of a table, between brackets
unfoldable pub index_at : List Token → Read (List Term)
index_at tokens = kind_at (Mark marks.LeftBracket) tokens >>= λ _ r1. keys_at r1 >>= λ keys r2. kind_at (Mark marks.RightBracket) r2 >>= λ _ r3. Ok (keys, r3)

unfoldable pub setting_at : List Token → Read (Ident × Term)
setting_at tokens = name_at tokens >>= λ x r1. kind_at (Mark marks.Eq) r1 >>= λ _ r2. expr_at r2 >>= λ e r3. Ok ((x, e), r3)

-- one more item behind others, which is read so
unfoldable pub item_step : {A : Type 0} → (List A → List Token → Read A) → List A → List Token → Read (List A)
item_step read items tokens = read items tokens >>= λ a r. Ok (items ++ a ∷ [], r)

unfoldable pub item_turn : {A : Type 0} → (List A → List Token → Read A) → List A → List Token → Read (List A)
item_turn read items tokens = kind_at (Mark marks.Comma) tokens >>= λ _ r. item_step read items r

-- items between commas
unfoldable pub list_of : {A : Type 0} → (List A → List Token → Read A) → List Token → Read (List A)
list_of read tokens = item_step read [] tokens >>= λ items r. turns_at (is_next (Mark marks.Comma)) (item_turn read) keep items r

unfoldable pub value_at : List Term → List Token → Read Term
value_at values tokens = expr_at tokens

unfoldable pub set_at : List (Ident × Term) → List Token → Read (Ident × Term)
set_at sets tokens = setting_at tokens

-- values between commas, or none before a parenthesis
unfoldable pub listed_at : List Token → Read (List Term)
listed_at tokens = if is_next (Mark marks.RightParen) tokens then Ok ([], tokens) else list_of value_at tokens

-- statements

abbrev pub head_named : List ℕ → Option Head
head_named word =
    if bytes_eq word (codes "let") then Some heads.Let else if bytes_eq word (codes "get") then Some heads.Get
    else if bytes_eq word (codes "if") then Some heads.If else if bytes_eq word (codes "for") then Some heads.For
    else if bytes_eq word (codes "each") then Some heads.Each else if bytes_eq word (codes "insert") then Some heads.Insert
    else if bytes_eq word (codes "fresh") then Some heads.Fresh
    else if bytes_eq word (codes "update") then Some heads.Update else if bytes_eq word (codes "remove") then Some heads.Remove
    else if bytes_eq word (codes "abort") then Some heads.Abort else if bytes_eq word (codes "reply") then Some heads.Reply
    else given (not (is_reserved word)) heads.Assign

-- what statement begins with the first of some tokens
abbrev pub head_at : List Token → Option Head
head_at [] = None
head_at (token ∷ rest) = by_word head_named token.kind

abbrev pub is_loop : Head → Bool
is_loop heads.For = true
is_loop heads.Each = true
is_loop _ = false

-- a loop doesn't stand in a loop
abbrev pub may_begin : Bool → Option Head → Bool
may_begin looped None = false
may_begin looped (Some head) = not (looped && is_loop head)

-- a statement, and how many there are behind it
abbrev pub Counted : Type 0
Counted = Command × Counts

-- statements, and how many there are behind them
abbrev pub Several : Type 0
Several = List Command × Counts

-- what reads a block: whether it stands in a loop, and how many there are before it
abbrev pub Blocks : Type 0
Blocks = Bool → Counts → List Token → Read Several

-- one variable more, if there is room for it where its name comes next
unfoldable pub variable_at : Counts → List Token → Read Counts
variable_at n tokens =
    if is_name tokens then (if nat_le 32 n.variables then refuse Many tokens else Ok (plus n (counts 0 0 1), tokens))
    else refuse Syntax tokens

unfoldable pub let_at : Counts → List Token → Read Counted
let_at n tokens =
    kind_at (Name (codes "let")) tokens >>= λ _ r1. variable_at n r1 >>= λ m r2. setting_at r2 >>= λ s r3.
    kind_at (Mark marks.Semi) r3 >>= λ _ r4. Ok ((trees.Declare s.0 s.1, m), r4)

unfoldable pub assign_at : List Token → Read Command
assign_at tokens = setting_at tokens >>= λ s r1. kind_at (Mark marks.Semi) r1 >>= λ _ r2. Ok (trees.Assign s.0 s.1, r2)

unfoldable pub get_at : List Token → Read Command
get_at tokens =
    kind_at (Name (codes "get")) tokens >>= λ _ r1. name_at r1 >>= λ row r2. kind_at (Mark marks.Eq) r2 >>= λ _ r3. name_at r3 >>= λ table r4. index_at r4 >>= λ keys r5.
    kind_at (Mark marks.Semi) r5 >>= λ _ r6. Ok (trees.Fetch row table keys, r6)

unfoldable pub insert_at : List Token → Read Command
insert_at tokens =
    kind_at (Name (codes "insert")) tokens >>= λ _ r1. name_at r1 >>= λ table r2. kind_at (Mark marks.LeftParen) r2 >>= λ _ r3. list_of value_at r3 >>= λ values r4.
    kind_at (Mark marks.RightParen) r4 >>= λ _ r5. kind_at (Mark marks.Semi) r5 >>= λ _ r6. Ok (trees.Insert table values, r6)

unfoldable pub fresh_at : Counts → List Token → Read Counted
fresh_at n tokens =
    kind_at (Name (codes "fresh")) tokens >>= λ _ r1. variable_at n r1 >>= λ m r2. name_at r2 >>= λ var r3.
    kind_at (Mark marks.Eq) r3 >>= λ _ r4. name_at r4 >>= λ table r5. kind_at (Mark marks.LeftParen) r5 >>= λ _ r6.
    listed_at r6 >>= λ values r7. kind_at (Mark marks.RightParen) r7 >>= λ _ r8. kind_at (Mark marks.Semi) r8 >>= λ _ r9.
    Ok ((trees.Fresh var table values, m), r9)

unfoldable pub update_at : List Token → Read Command
update_at tokens =
    kind_at (Name (codes "update")) tokens >>= λ _ r1. name_at r1 >>= λ table r2. index_at r2 >>= λ keys r3. kind_at (Name (codes "set")) r3 >>= λ _ r4. list_of set_at r4 >>= λ sets r5.
    kind_at (Mark marks.Semi) r5 >>= λ _ r6. Ok (trees.Update table keys sets, r6)

unfoldable pub remove_at : List Token → Read Command
remove_at tokens =
    kind_at (Name (codes "remove")) tokens >>= λ _ r1. name_at r1 >>= λ table r2. index_at r2 >>= λ keys r3. kind_at (Mark marks.Semi) r3 >>= λ _ r4. Ok (trees.Remove table keys, r4)

abbrev pub natural_in : ℤ → Option ℕ
natural_in (pos n) = Some n
natural_in _ = None

abbrev pub natural : TokenKind → Option ℕ
natural (Number z) = natural_in z
natural _ = None

abbrev pub natural_of : Token → Option ℕ
natural_of token = natural token.kind

abbrev pub passes : Option ℕ → Bool
passes None = false
passes (Some n) = nat_lt 999 n

-- a number above 999 comes next
abbrev pub is_large : List Token → Bool
is_large tokens = next (λ token. passes (natural_of token)) tokens

unfoldable pub abort_at : List Token → Read Command
abort_at tokens =
    kind_at (Name (codes "abort")) tokens >>= λ _ r1. if is_large r1 then refuse Many r1
    else (token_at natural_of r1 >>= λ n r2. kind_at (Mark marks.Semi) r2 >>= λ _ r3. Ok (trees.Abort n, r3))

unfoldable pub reply_at : List Token → Read Command
reply_at tokens = kind_at (Name (codes "reply")) tokens >>= λ _ r1. expr_at r1 >>= λ e r2. kind_at (Mark marks.Semi) r2 >>= λ _ r3. Ok (trees.Reply e, r3)

-- what stands behind the first block of an `if`
unfoldable pub else_at : Blocks → Bool → Counts → List Token → Read Several
else_at blocks looped n tokens =
    if is_next (Name (codes "else")) tokens then (kind_at (Name (codes "else")) tokens >>= λ _ r. blocks looped n r) else Ok (([], n), tokens)

unfoldable pub if_at : Blocks → Bool → Counts → List Token → Read Counted
if_at blocks looped n tokens =
    kind_at (Name (codes "if")) tokens >>= λ _ r1. cond_at r1 >>= λ t r2. blocks looped n r2 >>= λ yes r3. else_at blocks looped yes.1 r3 >>= λ other r4.
    Ok ((trees.Choose t (block_from yes.0) (block_from other.0), other.1), r4)

unfoldable pub where_at : List Token → Read (Option Test)
where_at tokens = if is_next (Name (codes "where")) tokens then (kind_at (Name (codes "where")) tokens >>= λ _ r1. cond_at r1 >>= λ t r2. Ok (Some t, r2)) else Ok (None, tokens)

unfoldable pub for_at : Blocks → Counts → List Token → Read Counted
for_at blocks n tokens =
    kind_at (Name (codes "for")) tokens >>= λ _ r1. name_at r1 >>= λ row r2. kind_at (Name (codes "in")) r2 >>= λ _ r3. name_at r3 >>= λ table r4. where_at r4 >>= λ t r5.
    blocks true n r5 >>= λ body r6. Ok ((trees.ForRows row table t (block_from body.0), body.1), r6)

unfoldable pub each_at : Blocks → Counts → List Token → Read Counted
each_at blocks n tokens =
    kind_at (Name (codes "each")) tokens >>= λ _ r1. name_at r1 >>= λ var r2. kind_at (Name (codes "in")) r2 >>= λ _ r3. name_at r3 >>= λ list r4.
    blocks true n r4 >>= λ body r5. Ok ((trees.ForEach var list (block_from body.0), body.1), r5)

-- a loop, if there is room for one more
unfoldable pub loop_at : (Counts → List Token → Read Counted) → Counts → List Token → Read Counted
loop_at body n tokens = if nat_le 15 n.loops then refuse Many tokens else body (plus n (counts 0 1 0)) tokens

abbrev pub with_counts : Counts → Read Command → Read Counted
with_counts n read = read >>= λ c r. Ok ((c, n), r)

abbrev pub with_head : Blocks → Bool → Counts → Option Head → List Token → Read Counted
with_head blocks looped n None tokens = refuse Syntax tokens
with_head blocks looped n (Some heads.Let) tokens = let_at n tokens
with_head blocks looped n (Some heads.Assign) tokens = with_counts n (assign_at tokens)
with_head blocks looped n (Some heads.Get) tokens = with_counts n (get_at tokens)
with_head blocks looped n (Some heads.If) tokens = if_at blocks looped n tokens
with_head blocks looped n (Some heads.For) tokens = loop_at (for_at blocks) n tokens
with_head blocks looped n (Some heads.Each) tokens = loop_at (each_at blocks) n tokens
with_head blocks looped n (Some heads.Insert) tokens = with_counts n (insert_at tokens)
with_head blocks looped n (Some heads.Fresh) tokens = fresh_at n tokens
with_head blocks looped n (Some heads.Update) tokens = with_counts n (update_at tokens)
with_head blocks looped n (Some heads.Remove) tokens = with_counts n (remove_at tokens)
with_head blocks looped n (Some heads.Abort) tokens = with_counts n (abort_at tokens)
with_head blocks looped n (Some heads.Reply) tokens = with_counts n (reply_at tokens)

-- one more statement
unfoldable pub statement_step : Blocks → Bool → Several → List Token → Read Several
statement_step blocks looped s tokens =
    if may_begin looped (head_at tokens) then (if nat_le 128 s.1.statements then refuse Many tokens
    else (with_head blocks looped (plus s.1 (counts 1 0 0)) (head_at tokens) tokens >>= λ c r. Ok ((s.0 ++ c.0 ∷ [], c.1), r)))
    else refuse Syntax tokens

-- a token other than the end of a block comes next
abbrev pub goes_on : List Token → Bool
goes_on tokens = next (λ token. not (is_kind (Mark marks.RightBrace) token.kind)) tokens

-- the inside of a block, up to its brace
unfoldable pub inside_at : Blocks → Blocks
inside_at blocks looped n tokens =
    turns_at goes_on (statement_step blocks looped) keep ([], n) tokens >>= λ s r1. kind_at (Mark marks.RightBrace) r1 >>= λ _ r2. Ok (s, r2)

unfoldable pub braces_at : Blocks → Blocks
braces_at inside looped n tokens = kind_at (Mark marks.LeftBrace) tokens >>= λ _ r. inside looped n r

-- a block in which blocks nest so deep at most
unfoldable pub block_at : ℕ → Blocks
block_at zero looped n tokens = if is_next (Mark marks.LeftBrace) tokens then refuse Many tokens else refuse Syntax tokens
block_at (suc most) looped n tokens = braces_at (inside_at (block_at most)) looped n tokens

-- transactions

abbrev pub type_named : List ℕ → Option Ty
type_named word =
    if bytes_eq word (codes "int") then Some types.Int else if bytes_eq word (codes "text") then Some types.Text
    else if bytes_eq word (codes "ints") then Some types.Ints else None

-- one more parameter
unfoldable pub param_at : List (Ident × Ty) → List Token → Read (Ident × Ty)
param_at params tokens =
    if is_name tokens && nat_le 16 (length params) then refuse Many tokens
    else (name_at tokens >>= λ x r1. kind_at (Mark marks.Colon) r1 >>= λ _ r2. token_at (λ token. by_word type_named token.kind) r2 >>= λ ty r3. Ok ((x, ty), r3))

unfoldable pub params_at : List Token → Read (List (Ident × Ty))
params_at tokens = if is_next (Mark marks.RightParen) tokens then Ok ([], tokens) else list_of param_at tokens

unfoldable pub txn_at : List Token → Read Transaction
txn_at tokens =
    kind_at (Name (codes "txn")) tokens >>= λ _ r1. name_at r1 >>= λ name r2. kind_at (Mark marks.LeftParen) r2 >>= λ _ r3. params_at r3 >>= λ params r4.
    kind_at (Mark marks.RightParen) r4 >>= λ _ r5. block_at 8 false (counts 0 0 0) r5 >>= λ body r6.
    Ok (record { name = name; params = params; body = block_from body.0 }, r6)

abbrev pub begins_txn : List Token → Bool
begins_txn tokens = is_next (Name (codes "txn")) tokens

-- one more transaction
unfoldable pub txn_step : List Transaction → List Token → Read (List Transaction)
txn_step txns tokens =
    if begins_txn tokens && nat_le 32 (length txns) then refuse Many tokens else (txn_at tokens >>= λ t r. Ok (txns ++ t ∷ [], r))

unfoldable pub txns_at : List Token → Read (List Transaction)
txns_at tokens = turns_at begins_txn txn_step keep [] tokens
