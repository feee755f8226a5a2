-- Reading tables from left to right: what some tokens begin with, and the tokens behind it.
use Rattle.std.specs.Prelude.{ℕ, zero, ◌+◌, ℤ, pos, neg_ℤ, Bool, true, false, ◌&&◌, ◌||◌, if◌then◌else◌, nat_le, List, [], ◌∷◌, ◌++◌, length, option_to_list, Option, Some, None, Ok, Err, bytes_eq, int_le, int_lt, ◌^◌, codes}
use Rattle.sv_value.specs.declared.spots.Spot.{Spot}
use Rattle.sv_lex.specs.declared.marks.Mark.{Mark as IsMark}
use Rattle.sv_lex.specs.declared.marks.Mark.TheVariants.{LeftParen, RightParen, Comma, Semi, Lt, Le, Gt, Ge, Plus, Minus, At}
use Rattle.sv_lex.specs.declared.tokens.Token.{Token}
use Rattle.sv_lex.specs.declared.tokens.TokenKind.{TokenKind}
use Rattle.sv_lex.specs.declared.tokens.TokenKind.TheVariants.{Name, Mark}
use Rattle.sv_app.specs.declared.apps.Ident.{Ident}
use Rattle.sv_app.specs.declared.refusals.Code.TheVariants.{Syntax, Many}
use Rattle.sv_app.specs.declared.schemas.Check.{Check}
use Rattle.sv_app.specs.declared.schemas.Column.{Column}
use Rattle.sv_app.specs.declared.schemas.Kind.{Kind}
use Rattle.sv_app.specs.declared.schemas.Kind.TheVariants as kinds
use Rattle.sv_app.specs.declared.schemas.Merge.{Merge}
use Rattle.sv_app.specs.declared.schemas.Merge.TheVariants as merges
use Rattle.sv_app.specs.declared.schemas.Ty.{Ty}
use Rattle.sv_app.specs.declared.schemas.Ty.TheVariants as types
use Rattle.sv_app.specs.Schema.{Rule, Bound, OneOf, Different, Refers, Declaration}
use Rattle.sv_schema_reader.specs.declared.parts.Side.{Side}
use Rattle.sv_schema_reader.specs.declared.parts.Order.{Order}
use Rattle.sv_schema_reader.specs.declared.parts.Order.TheVariants.{AtMost, Below, AtLeast, Above}
use Rattle.sv_schema_reader.specs.Grammar.{named, fixed, check_of}
use Rattle.sv_reader.specs.Reading.{Read, ◌>>=◌, refuse, is_next, token_at, kind_at, name_at, is_name, int_of, int_at, text_of, is_text, by_word, turns_at, list_at}

-- the table kinds, column types and merge kinds by their words

abbrev pub kind_named : List ℕ → Option Kind
kind_named word =
    if bytes_eq word (codes "AOSET") then Some kinds.Aoset else if bytes_eq word (codes "UOSET") then Some kinds.Uoset
    else if bytes_eq word (codes "AUSET") then Some kinds.Auset else if bytes_eq word (codes "ARSET") then Some kinds.Arset else None

abbrev pub type_named : List ℕ → Option Ty
type_named word = if bytes_eq word (codes "int") then Some types.Int else if bytes_eq word (codes "text") then Some types.Text else None

abbrev pub merge_named : List ℕ → Option Merge
merge_named word =
    if bytes_eq word (codes "LWW") then Some merges.Lww else if bytes_eq word (codes "NUMDELTA") then Some merges.NumDelta
    else if bytes_eq word (codes "FRESH") then Some merges.Fresh else None

unfoldable pub table_kind_at : List Token → Read Kind
table_kind_at tokens =
    if is_next (Mark At) tokens
    then (kind_at (Mark At) tokens >>= λ _ r. token_at (λ token. by_word kind_named token.kind) r)
    else Ok (kinds.Plain, tokens)

abbrev pub column_type_at : List Token → Read Ty
column_type_at = token_at (λ token. by_word type_named token.kind)

unfoldable pub merge_kind_at : List Token → Read Merge
merge_kind_at tokens =
    if is_next (Mark At) tokens
    then (kind_at (Mark At) tokens >>= λ _ r. token_at (λ token. by_word merge_named token.kind) r)
    else Ok (merges.Plain, tokens)

unfoldable pub column_at : List Token → Read Column
column_at tokens =
    name_at tokens >>= λ name r1. column_type_at r1 >>= λ ty r2. merge_kind_at r2 >>= λ merge r3. Ok (record { name = name; ty = ty; merge = merge }, r3)

-- the first name of a key, and the second one, if there is one
unfoldable pub key_at : List Token → Read (Ident × Option Ident)
key_at tokens =
    kind_at (Name (codes "primary")) tokens >>= λ _ r1. kind_at (Name (codes "key")) r1 >>= λ _ r2. kind_at (Mark LeftParen) r2 >>= λ _ r3. name_at r3 >>= λ first r4.
    if is_next (Mark Comma) r4
    then (kind_at (Mark Comma) r4 >>= λ _ r5. name_at r5 >>= λ second r6. kind_at (Mark RightParen) r6 >>= λ _ r7. Ok ((first, Some second), r7))
    else (kind_at (Mark RightParen) r4 >>= λ _ r5. Ok ((first, None), r5))

-- the rest of a side that begins with a column
unfoldable pub side_of : Ident → List Token → Read Side
side_of ident tokens =
    if is_next (Mark Plus) tokens then (kind_at (Mark Plus) tokens >>= λ _ r1. int_at r1 >>= λ n r2. Ok (named ident n, r2))
    else if is_next (Mark Minus) tokens then (kind_at (Mark Minus) tokens >>= λ _ r1. int_at r1 >>= λ n r2. Ok (named ident (neg_ℤ n), r2))
    else Ok (named ident (pos 0), tokens)

abbrev pub fixed_side : Spot → Option ℤ → Option Side
fixed_side spot None = None
fixed_side spot (Some n) = Some (fixed spot n)

abbrev pub fixed_of : Token → Option Side
fixed_of token = fixed_side token.spot (int_of token.kind)

-- a side without a column
unfoldable pub fixed_at : List Token → Read Side
fixed_at tokens =
    if is_next (Mark Minus) tokens then (kind_at (Mark Minus) tokens >>= λ spot r1. int_at r1 >>= λ n r2. Ok (fixed spot (neg_ℤ n), r2))
    else token_at fixed_of tokens

unfoldable pub side_at : List Token → Read Side
side_at tokens = if is_name tokens then (name_at tokens >>= λ ident r. side_of ident r) else fixed_at tokens

abbrev pub order_named : IsMark → Option Order
order_named Le = Some AtMost
order_named Lt = Some Below
order_named Ge = Some AtLeast
order_named Gt = Some Above
order_named _ = None

abbrev pub order_of : TokenKind → Option Order
order_of (Mark mark) = order_named mark
order_of _ = None

abbrev pub fits64 : ℤ → Bool
fits64 n = int_le (neg_ℤ (pos (2 ^ 63))) n && int_lt n (pos (2 ^ 63))

-- a check, if its bound has 64 bits; where this many tokens were left it begins
abbrev pub bounded : ℕ → Check → List Token → Read Rule
bounded start check rest = if fits64 check.most then Ok (Bound check, rest) else Err (record { code = Many; left = start })

-- what stands behind the first side of a check
unfoldable pub compared_at : ℕ → Side → List Token → Read Rule
compared_at start left tokens =
    token_at (λ token. order_of token.kind) tokens >>= λ by r1. side_at r1 >>= λ right r2. kind_at (Mark RightParen) r2 >>= λ _ r3. bounded start (check_of left by right) r3

-- one more text
unfoldable pub text_step : List (List ℕ) → List Token → Read (List (List ℕ))
text_step texts tokens =
    if is_text tokens && nat_le 16 (length texts) then refuse Many tokens
    else (token_at text_of tokens >>= λ text r. Ok (texts ++ text ∷ [], r))

-- what stands behind the column of a list
unfoldable pub texts_at : Ident → List Token → Read Rule
texts_at col tokens =
    kind_at (Name (codes "in")) tokens >>= λ _ r1. kind_at (Mark LeftParen) r1 >>= λ _ r2. list_at text_step [] r2 >>= λ texts r3.
    kind_at (Mark RightParen) r3 >>= λ _ r4. Ok (OneOf col texts, r4)

-- what stands behind the first column of a check
unfoldable pub checked_at : ℕ → Ident → List Token → Read Rule
checked_at start col tokens =
    if is_next (Name (codes "in")) tokens then texts_at col tokens
    else (side_of col tokens >>= λ left r. compared_at start left r)

-- what stands behind the parenthesis of a check
unfoldable pub check_body_at : ℕ → List Token → Read Rule
check_body_at start tokens = if is_name tokens then (name_at tokens >>= λ col r. checked_at start col r) else (fixed_at tokens >>= λ left r. compared_at start left r)

-- an invariant and the place of its first word
abbrev pub Demanded : Type 0
Demanded = Spot × Rule

unfoldable pub check_at : List Token → Read Demanded
check_at tokens =
    kind_at (Name (codes "check")) tokens >>= λ spot r1. kind_at (Mark LeftParen) r1 >>= λ _ r2. check_body_at (length tokens) r2 >>= λ rule r3. Ok ((spot, rule), r3)

unfoldable pub unique_at : List Token → Read Demanded
unique_at tokens =
    kind_at (Name (codes "unique")) tokens >>= λ spot r1. kind_at (Mark LeftParen) r1 >>= λ _ r2. name_at r2 >>= λ col r3.
    kind_at (Mark RightParen) r3 >>= λ _ r4. Ok ((spot, Different col), r4)

unfoldable pub foreign_at : List Token → Read Demanded
foreign_at tokens =
    kind_at (Name (codes "foreign")) tokens >>= λ spot r1. kind_at (Name (codes "key")) r1 >>= λ _ r2. kind_at (Mark LeftParen) r2 >>= λ _ r3. name_at r3 >>= λ col r4.
    kind_at (Mark RightParen) r4 >>= λ _ r5. kind_at (Name (codes "references")) r5 >>= λ _ r6. name_at r6 >>= λ table r7. kind_at (Mark LeftParen) r7 >>= λ _ r8.
    name_at r8 >>= λ target r9. kind_at (Mark RightParen) r9 >>= λ _ r10. Ok ((spot, Refers col table target), r10)

unfoldable pub demanded_at : List Token → Read Demanded
demanded_at tokens =
    if is_next (Name (codes "unique")) tokens then unique_at tokens
    else if is_next (Name (codes "check")) tokens then check_at tokens
    else foreign_at tokens

-- whether an invariant begins here
abbrev pub demands : List Token → Bool
demands tokens = is_next (Name (codes "unique")) tokens || (is_next (Name (codes "check")) tokens || is_next (Name (codes "foreign")) tokens)

abbrev pub with_column : Declaration → Column → Declaration
with_column d c = record d { columns = d.columns ++ c ∷ [] }

abbrev pub is_empty : {A : Type 0} → List A → Bool
is_empty [] = true
is_empty (a ∷ rest) = false

abbrev pub with_second : Declaration → Ident → Option Ident → Declaration
with_second d first None = record d { second_key = Some first }
with_second d first (Some second) = d

abbrev pub with_key : Declaration → Ident → Option Ident → Declaration
with_key d first second = if is_empty d.key then record d { key = first ∷ option_to_list second } else with_second d first d.second_key

abbrev pub with_rule : ℕ → Declaration → Demanded → Declaration
with_rule count d demanded = record d { invs = d.invs ++ record { number = count + length d.invs + 1; rule = demanded.1; spot = demanded.0 } ∷ [] }

-- one more item
unfoldable pub item_step : ℕ → Declaration → List Token → Read Declaration
item_step count d tokens =
    if is_name tokens then (if nat_le 16 (length d.columns) then refuse Many tokens else (column_at tokens >>= λ c r. Ok (with_column d c, r)))
    else if is_next (Name (codes "primary")) tokens then (key_at tokens >>= λ key r. Ok (with_key d key.0 key.1, r))
    else if demands tokens then (if nat_le 16 (length d.invs) then refuse Many tokens else (demanded_at tokens >>= λ demanded r. Ok (with_rule count d demanded, r)))
    else refuse Syntax tokens

abbrev pub undeclared : Kind → Ident → Declaration
undeclared kind name = record { name = name; kind = kind; columns = []; key = []; second_key = None; invs = [] }

unfoldable pub table_at : ℕ → List Token → Read Declaration
table_at count tokens =
    table_kind_at tokens >>= λ kind r1. kind_at (Name (codes "create")) r1 >>= λ _ r2. kind_at (Name (codes "table")) r2 >>= λ _ r3. name_at r3 >>= λ name r4.
    kind_at (Mark LeftParen) r4 >>= λ _ r5. list_at (item_step count) (undeclared kind name) r5 >>= λ d r6. kind_at (Mark Semi) r6 >>= λ _ r7. Ok (d, r7)

-- whether a table begins here
abbrev pub begins_table : List Token → Bool
begins_table tokens = is_next (Mark At) tokens || is_next (Name (codes "create")) tokens

abbrev pub invs_in : List Declaration → ℕ
invs_in [] = zero
invs_in (d ∷ ds) = length d.invs + invs_in ds

-- one more table
unfoldable pub table_step : List Declaration → List Token → Read (List Declaration)
table_step ds tokens =
    if begins_table tokens && nat_le 16 (length ds) then refuse Many tokens
    else (table_at (invs_in ds) tokens >>= λ d r. Ok (ds ++ d ∷ [], r))

abbrev pub tables_at : List Declaration → List Token → Read (List Declaration)
tables_at = turns_at begins_table table_step (λ ds tokens. Ok (ds, tokens))

-- the tables that stand here, at least one
unfoldable pub schema_at : List Token → Read (List Declaration)
schema_at tokens = table_step [] tokens >>= λ ds r. tables_at ds r
