-- Reading the parts of a document from left to right: what some tokens begin with, and the tokens behind it.
use Rattle.std.specs.Prelude.{◌≡◌, ◌≤◌, ℕ, zero, suc, ℤ, pos, neg_ℤ, Bool, true, false, not, ◌&&◌, ◌==◌, nat_le, nat_lt, nat_abs, ◌||◌, bytes_eq, length, drop, if◌then◌else◌, List, [], ◌∷◌, ◌++◌, Option, Some, None, Ok, Err, int_le, codes}
use Rattle.std.specs.List.{list_any}
use Rattle.sv_value.specs.declared.values.Val.{Val}
use Rattle.sv_value.specs.declared.values.Val.TheVariants as vals
use Rattle.sv_lex.specs.declared.marks.Mark.TheVariants.{LeftParen, RightParen, LeftBracket, RightBracket, Comma, Semi, Eq, Minus, Percents}
use Rattle.sv_lex.specs.declared.tokens.Token.{Token}
use Rattle.sv_lex.specs.declared.tokens.TokenKind.{TokenKind}
use Rattle.sv_lex.specs.declared.tokens.TokenKind.TheVariants.{Name, Number, Mark}
use Rattle.sv_app.specs.declared.apps.Ident.{Ident}
use Rattle.sv_app.specs.declared.refusals.Code.{Code}
use Rattle.sv_app.specs.declared.refusals.Code.TheVariants.{Syntax, Unknown, Twice, Typing, Many, Reserved}
use Rattle.sv_app.specs.declared.requests.Arg.{Arg}
use Rattle.sv_app.specs.declared.requests.Arg.TheVariants as args
use Rattle.sv_app.specs.declared.requests.InitRow.{InitRow}
use Rattle.sv_app.specs.declared.schemas.Column.{Column}
use Rattle.sv_app.specs.declared.schemas.Ty.{Ty}
use Rattle.sv_app.specs.declared.schemas.Ty.TheVariants as types
use Rattle.sv_app.specs.Draws.{first_of_all}
use Rattle.sv_app.specs.Fitting.{number_in}
use Rattle.sv_app.specs.Kinds.{is_fresh}
use Rattle.sv_app.specs.Lookups.{table_of}
use Rattle.sv_app.specs.Schema.{Declaration}
use Rattle.sv_app.specs.Trees.{Transaction}
use Rattle.sv_effect.specs.TablesOfCut.{init_place, is_place}
use Rattle.sv_reader.specs.declared.faults.ReadFault.{ReadFault}
use Rattle.sv_reader.specs.Reading.{Read, ◌>>=◌, refuse, next, is_some, by_word, is_kind, is_next, given, token_at, kind_at, name_at, name_of, is_name, text_of, is_text, list_at, turns_at}
use Rattle.sv_workload.specs.declared.written.Call.{Call}
use Rattle.sv_workload.specs.declared.written.Color.{Color}
use Rattle.sv_workload.specs.declared.written.Color.TheVariants as colors
use Rattle.sv_workload.specs.declared.written.Given.{Given}
use Rattle.sv_workload.specs.declared.written.PartHead.{PartHead}
use Rattle.sv_workload.specs.declared.written.PartHead.TheVariants.{Replay as ReplayHead, Run as RunHead}
use Rattle.sv_workload.specs.declared.written.Row.{Row}
use Rattle.sv_workload.specs.declared.written.Setting.{Setting}
use Rattle.sv_workload.specs.declared.written.Setting.TheVariants.{Sites, Rows, Changes}
use Rattle.sv_workload.specs.declared.written.Verb.{Verb}
use Rattle.sv_workload.specs.declared.written.Verb.TheVariants as verbs
use Rattle.sv_workload.specs.Fits.{txn_of}
use Rattle.sv_workload.specs.LastRefused.{least_of, most_of}
use Rattle.sv_workload.specs.Written.{Sent, Blue, Red, Line, Ask, Order, Deliver, Settle, Catch, Show, Cut, Move}
use Rattle.sv_workload.specs.Rows.{init_row}

-- a fault that is known before anything is read comes first
abbrev pub settled : {A : Type 0} → Option ReadFault → Read A → Read A
settled None read = read
settled (Some fault) read = Err fault

-- a fault at the first token
abbrev pub at_front : Option Code → List Token → Option ReadFault
at_front None tokens = None
at_front (Some code) tokens = Some (record { code = code; left = length tokens })

-- the first of two, if there is one
abbrev pub or_else : {A : Type 0} → Option A → Option A → Option A
or_else None second = second
or_else (Some a) second = Some a

-- a number, which has no sign
abbrev pub natural_of : TokenKind → Option ℤ
natural_of (Number z) = given (int_le (pos 0) z) z
natural_of _ = None

abbrev pub natural_at : List Token → Read ℤ
natural_at = token_at (λ token. natural_of token.kind)

unfoldable pub integer_at : List Token → Read ℤ
integer_at tokens = if is_next (Mark Minus) tokens then (kind_at (Mark Minus) tokens >>= λ _ r1. natural_at r1 >>= λ z r2. Ok (neg_ℤ z, r2)) else natural_at tokens

unfoldable pub value_at : List Token → Read Val
value_at tokens = if is_text tokens then (token_at text_of tokens >>= λ t r. Ok (vals.Text t, r)) else (integer_at tokens >>= λ z r. Ok (vals.Int z, r))

-- one more value
unfoldable pub value_step : List Val → List Token → Read (List Val)
value_step vs tokens = value_at tokens >>= λ v r. Ok (vs ++ v ∷ [], r)

unfoldable pub row_at : List Token → Read Row
row_at tokens =
    name_at tokens >>= λ table r1. kind_at (Mark LeftParen) r1 >>= λ _ r2. list_at value_step [] r2 >>= λ vs r3. kind_at (Mark Semi) r3 >>= λ _ r4.
    Ok (record { table = table; values = vs }, r4)

abbrev pub has_type : Ty → Val → Bool
has_type types.Int (vals.Int n) = true
has_type types.Text (vals.Text t) = true
has_type _ _ = false

-- a value of its type for each column
abbrev pub values_fit : List Column → List Val → Bool
values_fit [] [] = true
values_fit (column ∷ columns) (v ∷ vs) = has_type column.ty v && values_fit columns vs
values_fit _ _ = false

-- a row stands at the place of this one
abbrev pub repeated : List InitRow → InitRow → Bool
repeated rows row = list_any (λ other. is_place (init_place other) (init_place row)) rows

-- what is wrong with a row of the table, behind these rows
abbrev pub row_fault : Declaration → List InitRow → InitRow → Option Code
row_fault table rows row =
    if not (length row.values == length table.columns) then Some Typing
    else if repeated rows row then Some Twice
    else if values_fit table.columns row.values then None
    else Some Typing

-- no row may stand behind so many
abbrev pub crowded : List InitRow → Option Code
crowded rows = given (nat_le 4096 (length rows)) Many

-- no initial row has a key that its table draws
abbrev pub reserved : Declaration → InitRow → Option Code
reserved table row = given (is_fresh table && int_le first_of_all (number_in row.key.first)) Reserved

-- what is wrong with a whole row of the table, behind these rows
abbrev pub whole_code : Declaration → List InitRow → InitRow → Option Code
whole_code table rows row = or_else (or_else (row_fault table rows row) (crowded rows)) (reserved table row)

-- what is wrong where a row begins, by its table, if there is one, and by what is read of it
abbrev pub row_code : List Declaration → Option Declaration → List InitRow → Read Row → Option Code
row_code schema None rows read = Some Unknown
row_code schema (Some table) rows (Ok read) = whole_code table rows (init_row schema read.0)
row_code schema (Some table) rows (Err fault) = crowded rows

abbrev pub meant : List Declaration → Option Ident → Option Declaration
meant schema None = None
meant schema (Some ident) = table_of schema ident

-- the table that the first token names
abbrev pub table_meant : List Declaration → List Token → Option Declaration
table_meant schema [] = None
table_meant schema (token ∷ others) = meant schema (name_of token)

-- what is read, as something else
abbrev pub as_item : {A B : Type 0} → (A → B) → Read A → Read B
as_item view read = read >>= λ a rest. Ok (view a, rest)

-- the row that begins here, behind these rows
unfoldable pub row_from : List Declaration → List InitRow → List Token → Read Row
row_from schema rows tokens = settled (at_front (row_code schema (table_meant schema tokens) rows (row_at tokens)) tokens) (row_at tokens)

abbrev pub row_step : List Declaration → List InitRow → List Token → Read (List InitRow)
row_step schema rows tokens = row_from schema rows tokens >>= λ r rest. Ok (rows ++ init_row schema r ∷ [], rest)

-- all rows that stand here
abbrev pub rows_from : List Declaration → List InitRow → List Token → Read (List InitRow)
rows_from schema = turns_at is_name (row_step schema) (λ rows tokens. Ok (rows, tokens))

-- "%%" "init" stands here
abbrev pub begins_init : List Token → Bool
begins_init (mark ∷ word ∷ others) = is_kind (Mark Percents) mark.kind && is_kind (Name (codes "init")) word.kind
begins_init _ = false

-- the initial rows that stand here, if any
unfoldable pub init_from : List Declaration → List Token → Read (List InitRow)
init_from schema tokens = if begins_init tokens then rows_from schema [] (drop 2 tokens) else Ok ([], tokens)

-- a number that counts
abbrev pub count_at : List Token → Read ℕ
count_at tokens = natural_at tokens >>= λ z r. Ok (nat_abs z, r)

-- the settings by their words
abbrev pub setting_named : List ℕ → Option Setting
setting_named word =
    if bytes_eq word (codes "sites") then Some Sites else if bytes_eq word (codes "rows") then Some Rows
    else if bytes_eq word (codes "changes") then Some Changes else None

abbrev pub setting_of : Token → Option Setting
setting_of token = by_word setting_named token.kind

abbrev pub begins_setting : List Token → Bool
begins_setting tokens = next (λ token. is_some (setting_of token)) tokens

unfoldable pub setting_at : List Token → Read (Setting × ℕ)
setting_at tokens = token_at setting_of tokens >>= λ which r1. kind_at (Mark Eq) r1 >>= λ _ r2. count_at r2 >>= λ n r3. Ok ((which, n), r3)

-- a number outside these bounds
abbrev pub is_out : ℕ → ℕ → Option ℤ → Bool
is_out least most None = false
is_out least most (Some z) = nat_lt (nat_abs z) least || nat_lt most (nat_abs z)

-- a fault at a number that stands here outside these bounds
abbrev pub out_mark : Code → ℕ → ℕ → List Token → Option ReadFault
out_mark code least most [] = None
out_mark code least most (token ∷ others) = given (is_out least most (natural_of token.kind)) (record { code = code; left = length (token ∷ others) })

-- what is set before
abbrev pub given_of : Setting → Given → Option ℕ
given_of Sites g = g.sites
given_of Rows g = g.rows
given_of Changes g = g.changes

abbrev pub with_setting : Given → Setting × ℕ → Given
with_setting g (Sites, n) = record g { sites = or_else g.sites (Some n) }
with_setting g (Rows, n) = record g { rows = or_else g.rows (Some n) }
with_setting g (Changes, n) = record g { changes = or_else g.changes (Some n) }

-- a setting that is given again
abbrev pub again_mark : Option ℕ → List Token → Option ReadFault
again_mark None tokens = None
again_mark (Some n) tokens = at_front (Some Twice) tokens

-- what is refused of a setting that begins here, besides the grammar
abbrev pub number_mark : ℕ → Setting → List Token → Option ReadFault
number_mark count which (word ∷ mark ∷ others) = if is_kind (Mark Eq) mark.kind then out_mark Many (least_of count which) (most_of which) others else None
number_mark count which _ = None

abbrev pub marks_by : ℕ → Given → Option Setting → List Token → Option ReadFault
marks_by count g None tokens = None
marks_by count g (Some which) tokens = or_else (again_mark (given_of which g) tokens) (number_mark count which tokens)

abbrev pub setting_mark : ℕ → Given → List Token → Option ReadFault
setting_mark count g [] = None
setting_mark count g (token ∷ others) = marks_by count g (setting_of token) (token ∷ others)

unfoldable pub setting_from : ℕ → Given → List Token → Read (Setting × ℕ)
setting_from count g tokens = settled (setting_mark count g tokens) (setting_at tokens)

abbrev pub settings_from : ℕ → Given → List Token → Read Given
settings_from count = turns_at begins_setting (λ g tokens. setting_from count g tokens >>= λ s r. Ok (with_setting g s, r)) (λ g tokens. Ok (g, tokens))

-- the last parts by their words
abbrev pub part_named : List ℕ → Option PartHead
part_named word = if bytes_eq word (codes "replay") then Some ReplayHead else if bytes_eq word (codes "run") then Some RunHead else None

abbrev pub part_of : Token → Option PartHead
part_of token = by_word part_named token.kind

unfoldable pub head_at : List Token → Read PartHead
head_at tokens = kind_at (Mark Percents) tokens >>= λ _ r1. token_at part_of r1 >>= λ head r2. Ok (head, r2)

-- nothing is set
abbrev pub unset : Given
unset = record { sites = None; rows = None; changes = None }

-- the number of sites must be set
abbrev pub with_sites : PartHead → Given → Option ℕ → List Token → Read (PartHead × Given)
with_sites head g None tokens = refuse Syntax tokens
with_sites head g (Some n) tokens = Ok ((head, g), tokens)

-- the head of a last part and its settings
unfoldable pub front_from : ℕ → List Token → Read (PartHead × Given)
front_from count tokens = head_at tokens >>= λ head r1. settings_from count unset r1 >>= λ g r2. with_sites head g g.sites r2

-- what is set keeps its bounds
pub record IsBounded (g : Given) : Type 0 where
  pub sites : (n : ℕ) → g.sites ≡ Some n → n ≤ most_of Sites
  pub rows : (n : ℕ) → g.rows ≡ Some n → n ≤ most_of Rows
  pub changes : (n : ℕ) → g.changes ≡ Some n → n ≤ most_of Changes

-- a comma and an element
abbrev pub comma_before : {A : Type 0} → (List Token → Read A) → List Token → Read A
comma_before x tokens = kind_at (Mark Comma) tokens >>= λ _ r. x r

-- elements behind commas up to a closing mark, behind these
abbrev pub more_to : {A : Type 0} → TokenKind → (List Token → Read A) → List A → List Token → Read (List A)
more_to close x = turns_at (is_next (Mark Comma)) (λ xs tokens. comma_before x tokens >>= λ a r. Ok (xs ++ a ∷ [], r)) (λ xs tokens. kind_at close tokens >>= λ _ r. Ok (xs, r))

-- elements up to a closing mark, or none
abbrev pub listed_to : {A : Type 0} → TokenKind → (List Token → Read A) → List Token → Read (List A)
listed_to close x tokens = if is_next close tokens then (kind_at close tokens >>= λ _ r. Ok ([], r)) else (x tokens >>= λ a r. more_to close x (a ∷ []) r)

unfoldable pub integers_at : List Token → Read (List ℤ)
integers_at = listed_to (Mark RightBracket) integer_at

abbrev pub arg_of : Val → Arg
arg_of (vals.Int n) = args.Int n
arg_of (vals.Text t) = args.Text t

unfoldable pub argument_at : List Token → Read Arg
argument_at tokens =
    if is_next (Mark LeftBracket) tokens then (kind_at (Mark LeftBracket) tokens >>= λ _ r1. integers_at r1 >>= λ ns r2. Ok (args.Ints ns, r2))
    else (value_at tokens >>= λ v r. Ok (arg_of v, r))

unfoldable pub call_at : List Token → Read Call
call_at tokens =
    name_at tokens >>= λ txn r1. kind_at (Mark LeftParen) r1 >>= λ _ r2. listed_to (Mark RightParen) argument_at r2 >>= λ arguments r3. Ok (record { txn = txn; args = arguments }, r3)

-- the steps by their words
abbrev pub verb_named : List ℕ → Option Verb
verb_named word =
    if bytes_eq word (codes "ask") then Some verbs.Ask else if bytes_eq word (codes "order") then Some verbs.Order
    else if bytes_eq word (codes "deliver") then Some verbs.Deliver else if bytes_eq word (codes "settle") then Some verbs.Settle
    else if bytes_eq word (codes "catch") then Some verbs.Catch else if bytes_eq word (codes "show") then Some verbs.Show
    else if bytes_eq word (codes "cut") then Some verbs.Cut else if bytes_eq word (codes "move") then Some verbs.Move else None

abbrev pub verb_of : Token → Option Verb
verb_of token = by_word verb_named token.kind

abbrev pub color_named : List ℕ → Option Color
color_named word = if bytes_eq word (codes "blue") then Some colors.Blue else if bytes_eq word (codes "red") then Some colors.Red else None

abbrev pub color_of : Token → Option Color
color_of token = by_word color_named token.kind

-- what stands behind the first word of a packet
abbrev pub packet_tail : Color → List Token → Read Sent
packet_tail colors.Blue tokens = count_at tokens >>= λ site r1. count_at r1 >>= λ seq r2. Ok (Blue site seq, r2)
packet_tail colors.Red tokens = count_at tokens >>= λ slot r. Ok (Red slot, r)

unfoldable pub packet_at : List Token → Read Sent
packet_at tokens = token_at color_of tokens >>= λ color r. packet_tail color r

abbrev pub closing : {A : Type 0} → A → List Token → Read A
closing a tokens = kind_at (Mark Semi) tokens >>= λ _ r. Ok (a, r)

-- what stands behind the number of a step
abbrev pub line_tail : Verb → ℕ → List Token → Read Line
line_tail verbs.Ask n tokens = call_at tokens >>= λ c r. closing (Ask n c) r
line_tail verbs.Order n tokens = closing (Order n) tokens
line_tail verbs.Deliver n tokens = packet_at tokens >>= λ sent r. closing (Deliver n sent) r
line_tail verbs.Settle n tokens = closing (Settle n) tokens
line_tail verbs.Catch n tokens = closing (Catch n) tokens
line_tail verbs.Show n tokens = name_at tokens >>= λ table r. closing (Show n table) r
line_tail verbs.Cut n tokens = closing (Cut n) tokens
line_tail verbs.Move n tokens = count_at tokens >>= λ site r. closing (Move n site) r

unfoldable pub line_at : List Token → Read Line
line_at tokens = token_at verb_of tokens >>= λ verb r1. count_at r1 >>= λ n r2. line_tail verb n r2

-- an integer begins here
abbrev pub begins_integer : List Token → Bool
begins_integer tokens = is_next (Mark Minus) tokens || next (λ token. is_some (natural_of token.kind)) tokens

-- an element and a comma
abbrev pub comma_after : {A : Type 0} → (List Token → Read A) → List Token → Read A
comma_after x tokens = x tokens >>= λ a r1. kind_at (Mark Comma) r1 >>= λ _ r2. Ok (a, r2)

abbrev pub from_read : {A B : Type 0} → Read A → (List Token → Option B) → Option B
from_read (Ok read) next = next read.1
from_read (Err fault) next = None

-- the tokens of an element of a list, behind so many others
abbrev pub long_in : ℕ → List Token → Option (List Token)
long_in zero tokens = given (begins_integer tokens) tokens
long_in (suc n) tokens = from_read (comma_after integer_at tokens) (λ r. long_in n r)

-- those of the 65th element of a list that begins here
abbrev pub list_long : List Token → Option (List Token)
list_long tokens = if is_next (Mark LeftBracket) tokens then long_in 64 (drop 1 tokens) else None

-- those of the first such element of some arguments
abbrev pub long_args : ℕ → List Token → Option (List Token)
long_args zero tokens = None
long_args (suc fuel) tokens = or_else (list_long tokens) (from_read (comma_after argument_at tokens) (λ r. long_args fuel r))

-- those of the first such element of the arguments that stand here
unfoldable pub long_among : List Token → Option (List Token)
long_among tokens = long_args (suc (length tokens)) tokens

-- how many tokens are left there
abbrev pub left_of : Option (List Token) → Option ℕ
left_of None = None
left_of (Some here) = Some (length here)

abbrev pub arg_fits : Ty → Arg → Bool
arg_fits types.Int (args.Int n) = true
arg_fits types.Text (args.Text t) = true
arg_fits types.Ints (args.Ints ns) = true
arg_fits _ _ = false

-- an argument of its type for each parameter
abbrev pub args_fit : List (Ident × Ty) → List Arg → Bool
args_fit [] [] = true
args_fit (param ∷ params) (arg ∷ more) = arg_fits param.1 arg && args_fit params more
args_fit _ _ = false

-- the transaction that the first token names
abbrev pub txn_named : List Transaction → Option Ident → Option Transaction
txn_named txns None = None
txn_named txns (Some ident) = txn_of txns ident

abbrev pub txn_meant : List Transaction → List Token → Option Transaction
txn_meant txns [] = None
txn_meant txns (token ∷ others) = txn_named txns (name_of token)

-- what is wrong where a call begins, by its transaction, if there is one, and by what is read of it
abbrev pub call_code : Option Transaction → Read Call → Option Code
call_code None read = Some Unknown
call_code (Some txn) (Ok read) = if args_fit txn.params read.0.args then None else Some Typing
call_code (Some txn) (Err fault) = None

-- the name of a call and its parenthesis
abbrev pub opening_at : List Token → Read Ident
opening_at tokens = name_at tokens >>= λ txn r1. kind_at (Mark LeftParen) r1 >>= λ _ r2. Ok (txn, r2)

unfoldable pub long_call : List Token → Option (List Token)
long_call tokens = from_read (opening_at tokens) (λ r. long_among r)

abbrev pub long_fault : Option (List Token) → Option ReadFault
long_fault None = None
long_fault (Some here) = Some (record { code = Many; left = length here })

-- what is refused of a call that begins here, besides the grammar
abbrev pub call_mark : List Transaction → List Token → Option ReadFault
call_mark txns tokens = or_else (at_front (call_code (txn_meant txns tokens) (call_at tokens)) tokens) (long_fault (long_call tokens))
