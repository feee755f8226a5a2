-- The grammar of the parts of a document: with which tokens initial rows, settings, steps and sessions are written.
use Rattle.std.specs.Prelude.{ℕ, ℤ, pos, neg_ℤ, List, [], ◌∷◌, codes}
use Rattle.sv_value.specs.declared.values.Val.{Val}
use Rattle.sv_value.specs.declared.values.Val.TheVariants as vals
use Rattle.sv_lex.specs.declared.marks.Mark.TheVariants.{LeftParen, RightParen, LeftBrace, RightBrace, LeftBracket, RightBracket, Semi, Eq, Minus, Percents}
use Rattle.sv_lex.specs.declared.tokens.Token.{Token}
use Rattle.sv_lex.specs.declared.tokens.TokenKind.TheVariants.{Number}
use Rattle.sv_app.specs.declared.requests.Arg.{Arg}
use Rattle.sv_app.specs.declared.requests.Arg.TheVariants as args
use Rattle.sv_reader.specs.Grammar.{◌·◌, nothing, kind, word, mark, name, text, separated}
use Rattle.sv_workload.specs.declared.written.Row.{Row}
use Rattle.sv_workload.specs.declared.written.Call.{Call}
use Rattle.sv_workload.specs.declared.written.Setting.{Setting}
use Rattle.sv_workload.specs.declared.written.Setting.TheVariants.{Sites, Rows, Changes}
use Rattle.sv_workload.specs.Written.{Sent, Blue, Red, Line, Ask, Order, Deliver, Settle, Catch, Show, Cut, Move, Session, Last, Absent, Replay, Run}

-- {x}
abbrev pub many : {A : Type 0} → (A → List Token → Type 0) → List A → List Token → Type 0
many x [] = nothing
many x (a ∷ rest) = x a · many x rest

-- [x {"," x}]
abbrev pub listed : {A : Type 0} → (A → List Token → Type 0) → List A → List Token → Type 0
listed x [] = nothing
listed x (a ∷ rest) = separated x (a ∷ rest)

-- NUMBER
abbrev pub number : ℕ → List Token → Type 0
number n = kind (Number (pos n))

-- ["-"] NUMBER
pub data IsInteger : ℤ → List Token → Type 0 where
  Plain : (n : ℕ) (tokens : List Token) → number n tokens → IsInteger (pos n) tokens
  Negated : (n : ℕ) (tokens : List Token) → (mark Minus · number n) tokens → IsInteger (neg_ℤ (pos n)) tokens

-- ["-"] NUMBER | TEXT
abbrev pub value : Val → List Token → Type 0
value (vals.Int n) = IsInteger n
value (vals.Text bytes) = text bytes

-- NAME "(" val {"," val} ")" ";"
abbrev pub row : Row → List Token → Type 0
row r = name r.table · mark LeftParen · separated value r.values · mark RightParen · mark Semi

-- "%%" "init"
abbrev pub init_head : List Token → Type 0
init_head = mark Percents · word (codes "init")

-- "%%" "init" {row}
abbrev pub init_part : List Row → List Token → Type 0
init_part rows = init_head · many row rows

-- val | "[" [["-"] NUMBER {"," ["-"] NUMBER}] "]"
abbrev pub argument : Arg → List Token → Type 0
argument (args.Int n) = IsInteger n
argument (args.Text bytes) = text bytes
argument (args.Ints ns) = mark LeftBracket · listed IsInteger ns · mark RightBracket

-- NAME "(" [arg {"," arg}] ")"
abbrev pub call : Call → List Token → Type 0
call c = name c.txn · mark LeftParen · listed argument c.args · mark RightParen

abbrev pub setting_word : Setting → List ℕ
setting_word Sites = codes "sites"
setting_word Rows = codes "rows"
setting_word Changes = codes "changes"

-- ("sites" | "rows" | "changes") "=" NUMBER
abbrev pub setting : Setting × ℕ → List Token → Type 0
setting (which, n) = word (setting_word which) · mark Eq · number n

-- "blue" NUMBER NUMBER | "red" NUMBER
abbrev pub packet : Sent → List Token → Type 0
packet (Blue site seq) = word (codes "blue") · number site · number seq
packet (Red slot) = word (codes "red") · number slot

-- a step
abbrev pub line : Line → List Token → Type 0
line (Ask session c) = word (codes "ask") · number session · call c · mark Semi
line (Order session) = word (codes "order") · number session · mark Semi
line (Deliver site sent) = word (codes "deliver") · number site · packet sent · mark Semi
line (Settle site) = word (codes "settle") · number site · mark Semi
line (Catch site) = word (codes "catch") · number site · mark Semi
line (Show site table) = word (codes "show") · number site · name table · mark Semi
line (Cut site) = word (codes "cut") · number site · mark Semi
line (Move session site) = word (codes "move") · number session · number site · mark Semi

-- "session" NUMBER "{"
abbrev pub session_head : ℕ → List Token → Type 0
session_head n = word (codes "session") · number n · mark LeftBrace

-- call ";"
abbrev pub entry : Call → List Token → Type 0
entry c = call c · mark Semi

-- "session" NUMBER "{" {call ";"} "}"
abbrev pub session : Session → List Token → Type 0
session s = session_head s.number · many entry s.calls · mark RightBrace

abbrev pub replay_head : List Token → Type 0
replay_head = mark Percents · word (codes "replay")

abbrev pub run_head : List Token → Type 0
run_head = mark Percents · word (codes "run")

-- ["%%" "replay" {option} {step} | "%%" "run" {option} {session}]: `sites` is asked for elsewhere, so that there is an option
abbrev pub last_part : Last → List Token → Type 0
last_part Absent = nothing
last_part (Replay settings lines) = replay_head · many setting settings · many line lines
last_part (Run settings sessions) = run_head · many setting settings · many session sessions
