-- Reading tokens from left to right: what some tokens begin with, and the tokens behind it.
use Rattle.std.specs.Prelude.{◌≡◌, ℕ, zero, suc, ℤ, Bool, true, false, not, if◌then◌else◌, List, [], ◌∷◌, length, Option, Some, None, Result, Ok, Err, bytes_eq}
use Rattle.std.specs.Ordering.{int_eq}
use Rattle.sv_value.specs.declared.spots.Spot.{Spot}
use Rattle.sv_lex.specs.declared.marks.Mark.{Mark as IsMark}
use Rattle.sv_lex.specs.declared.marks.Mark.TheVariants.{RightParen, Comma}
use Rattle.sv_lex.specs.declared.tokens.Token.{Token}
use Rattle.sv_lex.specs.declared.tokens.TokenKind.{TokenKind}
use Rattle.sv_lex.specs.declared.tokens.TokenKind.TheVariants.{Name, Number, Text, Mark}
use Rattle.sv_lex.specs.Marks.{mark_bytes}
use Rattle.sv_app.specs.declared.apps.Ident.{Ident}
use Rattle.sv_app.specs.declared.refusals.Code.{Code}
use Rattle.sv_app.specs.declared.refusals.Code.TheVariants.{Syntax}
use Rattle.sv_app.specs.Words.{is_reserved}
use Rattle.sv_reader.specs.declared.faults.ReadFault.{ReadFault}
use Rattle.sv_reader.specs.declared.faults.ReadStop.{ReadStop}
use Rattle.sv_reader.specs.declared.faults.ReadStop.TheVariants.{Faulty, NoMemory}

-- a value and the tokens behind it, or a fault
abbrev pub Read : Type 0 → Type 0
Read A = Result (A × List Token) ReadFault

infixl 10 ◌>>=◌
abbrev pub ◌>>=◌ : {A B : Type 0} → Read A → (A → List Token → Read B) → Read B
(Ok read) >>= more = more read.0 read.1
(Err fault) >>= more = Err fault

-- a fault at the first of these tokens
abbrev pub refuse : {A : Type 0} → Code → List Token → Read A
refuse code tokens = Err (record { code = code; left = length tokens })

-- what a reader answered, seen by view, and left is what reading gives, unless memory ran out
abbrev pub Reads : {A B : Type 0} → (A → B) → Result A ReadStop → List Token → Read B → Type 0
Reads view (Ok a) rest read = read ≡ Ok (view a, rest)
Reads view (Err (Faulty fault)) rest read = read ≡ Err fault
Reads view (Err NoMemory) rest read = Unit {0}

abbrev pub is_mark : IsMark → IsMark → Bool
is_mark wanted found = bytes_eq (mark_bytes found) (mark_bytes wanted)

abbrev pub is_kind : TokenKind → TokenKind → Bool
is_kind (Name wanted) (Name found) = bytes_eq found wanted
is_kind (Number wanted) (Number found) = int_eq found wanted
is_kind (Text wanted) (Text found) = bytes_eq found wanted
is_kind (Mark wanted) (Mark found) = is_mark wanted found
is_kind _ _ = false

-- whether there is a next token, and it passes the test
abbrev pub next : (Token → Bool) → List Token → Bool
next test [] = false
next test (token ∷ rest) = test token

abbrev pub is_next : TokenKind → List Token → Bool
is_next wanted tokens = next (λ token. is_kind wanted token.kind) tokens

abbrev pub given : {A : Type 0} → Bool → A → Option A
given test a = if test then Some a else None

abbrev pub found_at : {A : Type 0} → Option A → Token → List Token → Read A
found_at (Some a) token rest = Ok (a, rest)
found_at None token rest = refuse Syntax (token ∷ rest)

-- the next token, if it means something
abbrev pub token_at : {A : Type 0} → (Token → Option A) → List Token → Read A
token_at meaning [] = refuse Syntax []
token_at meaning (token ∷ rest) = found_at (meaning token) token rest

-- the place of a token of this kind
abbrev pub kind_at : TokenKind → List Token → Read Spot
kind_at wanted = token_at (λ token. given (is_kind wanted token.kind) token.spot)

abbrev pub ident_of : Spot → TokenKind → Option Ident
ident_of spot (Name name) = given (not (is_reserved name)) (record { name = name; spot = spot; num = 0 })
ident_of spot _ = None

abbrev pub name_of : Token → Option Ident
name_of token = ident_of token.spot token.kind

abbrev pub name_at : List Token → Read Ident
name_at = token_at name_of

abbrev pub is_some : {A : Type 0} → Option A → Bool
is_some (Some a) = true
is_some None = false

abbrev pub is_name : List Token → Bool
is_name tokens = next (λ token. is_some (name_of token)) tokens

abbrev pub int_of : TokenKind → Option ℤ
int_of (Number n) = Some n
int_of _ = None

abbrev pub int_at : List Token → Read ℤ
int_at = token_at (λ token. int_of token.kind)

abbrev pub bytes_of : TokenKind → Option (List ℕ)
bytes_of (Text text) = Some text
bytes_of _ = None

abbrev pub text_of : Token → Option (List ℕ)
text_of token = bytes_of token.kind

abbrev pub by_word : {A : Type 0} → (List ℕ → Option A) → TokenKind → Option A
by_word meaning (Name name) = meaning name
by_word meaning _ = None

-- turns are read as long as the test is passed, and then the end
unfoldable pub turns_from : {S : Type 0} → (List Token → Bool) → (S → List Token → Read S) → (S → List Token → Read S) → ℕ → S → List Token → Read S
turns_from test turn end zero s tokens = end s tokens
turns_from test turn end (suc fuel) s tokens = if test tokens then (turn s tokens >>= λ next r. turns_from test turn end fuel next r) else end s tokens

-- all of them: each takes a token at least
abbrev pub turns_at : {S : Type 0} → (List Token → Bool) → (S → List Token → Read S) → (S → List Token → Read S) → S → List Token → Read S
turns_at test turn end s tokens = turns_from test turn end (suc (length tokens)) s tokens

-- the end of turns
abbrev pub keep : {S : Type 0} → S → List Token → Read S
keep s tokens = Ok (s, tokens)

-- a comma, and one more step
abbrev pub comma_turn : {S : Type 0} → (S → List Token → Read S) → S → List Token → Read S
comma_turn step s tokens = kind_at (Mark Comma) tokens >>= λ _ r. step s r

abbrev pub closed_at : {S : Type 0} → S → List Token → Read S
closed_at s tokens = kind_at (Mark RightParen) tokens >>= λ _ r. Ok (s, r)

abbrev pub others_at : {S : Type 0} → (S → List Token → Read S) → S → List Token → Read S
others_at step s tokens = turns_at (is_next (Mark Comma)) (comma_turn step) closed_at s tokens

-- a step, and more of them behind commas, up to a parenthesis
unfoldable pub list_at : {S : Type 0} → (S → List Token → Read S) → S → List Token → Read S
list_at step s tokens = step s tokens >>= λ next r. others_at step next r

abbrev pub is_text : List Token → Bool
is_text tokens = next (λ token. is_some (text_of token)) tokens

-- what was read, and how many tokens are left
abbrev pub IsLeft : {A : Type 0} → Read A → A → ℕ → Type 0
IsLeft (Ok read) a left = (read.0 ≡ a) × (length read.1 ≡ left)
IsLeft (Err fault) a left = ⊥
