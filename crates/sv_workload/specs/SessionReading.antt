-- Reading the sessions of a run from left to right.
use Rattle.std.specs.Prelude.{ℕ, suc, ◌+◌, nat_le, nat_lt, if◌then◌else◌, length, map, List, [], ◌∷◌, ◌++◌, Option, Some, None, Ok, codes}
use Rattle.sv_lex.specs.declared.marks.Mark.TheVariants.{LeftBrace, RightBrace}
use Rattle.sv_lex.specs.declared.tokens.Token.{Token}
use Rattle.sv_lex.specs.declared.tokens.TokenKind.TheVariants.{Name, Mark}
use Rattle.sv_app.specs.declared.refusals.Code.TheVariants.{Many, BadStep}
use Rattle.sv_app.specs.declared.requests.Request.{Request}
use Rattle.sv_app.specs.Trees.{Transaction}
use Rattle.sv_reader.specs.declared.faults.ReadFault.{ReadFault}
use Rattle.sv_reader.specs.Reading.{Read, ◌>>=◌, is_kind, given, kind_at, is_name, turns_at}
use Rattle.sv_workload.specs.declared.written.Call.{Call}
use Rattle.sv_workload.specs.Documents.{request_of}
use Rattle.sv_workload.specs.LastRefused.{total}
use Rattle.sv_workload.specs.Reading.{settled, at_front, or_else, count_at, out_mark, call_at, closing, call_mark}
use Rattle.sv_workload.specs.LineReading.{is_more}
use Rattle.sv_workload.specs.Written.{Session}

-- a call and ";"
unfoldable pub entry_at : List Token → Read Call
entry_at tokens = call_at tokens >>= λ c r. closing c r

-- the earlier of two faults, and of two at one place the first
abbrev pub sooner : Option ReadFault → Option ReadFault → Option ReadFault
sooner None second = second
sooner (Some first) None = Some first
sooner (Some first) (Some second) = if nat_lt first.left second.left then Some second else Some first

-- no request may stand behind so many
abbrev pub crowd_mark : ℕ → List Token → Option ReadFault
crowd_mark count tokens = at_front (given (nat_le 8192 count) Many) tokens

-- what is refused of a call of a session behind so many requests, besides the grammar
abbrev pub entry_mark : List Transaction → ℕ → List Token → Option ReadFault
entry_mark txns count tokens = sooner (call_mark txns tokens) (crowd_mark count tokens)

unfoldable pub entry_from : List Transaction → ℕ → List Token → Read Call
entry_from txns count tokens = settled (entry_mark txns count tokens) (entry_at tokens)

-- all calls that stand here, behind so many requests of earlier sessions; each is seen as something
abbrev pub entries_seen : {A : Type 0} → (Call → A) → List Transaction → ℕ → List A → List Token → Read (List A)
entries_seen view txns count = turns_at is_name (λ seen tokens. entry_from txns (count + length seen) tokens >>= λ c r. Ok (seen ++ view c ∷ [], r)) (λ seen tokens. Ok (seen, tokens))

abbrev pub entries_from : List Transaction → ℕ → List Call → List Token → Read (List Call)
entries_from = entries_seen (λ c. c)

abbrev pub requests_from : List Transaction → ℕ → List Request → List Token → Read (List Request)
requests_from txns = entries_seen (request_of txns) txns

unfoldable pub session_head_at : List Token → Read ℕ
session_head_at tokens = kind_at (Name (codes "session")) tokens >>= λ _ r1. count_at r1 >>= λ n r2. kind_at (Mark LeftBrace) r2 >>= λ _ r3. Ok (n, r3)

-- what is refused of the head of a session behind so many others, besides the grammar
abbrev pub session_mark : ℕ → List Token → Option ReadFault
session_mark index [] = None
session_mark index (token ∷ others) =
    if is_kind (Name (codes "session")) token.kind then or_else (at_front (given (nat_le 64 index) Many) (token ∷ others)) (out_mark BadStep (suc index) (suc index) others)
    else None

unfoldable pub session_head_from : ℕ → List Token → Read ℕ
session_head_from index tokens = settled (session_mark index tokens) (session_head_at tokens)

abbrev pub closed : {A : Type 0} → A → List Token → Read A
closed a tokens = kind_at (Mark RightBrace) tokens >>= λ _ r. Ok (a, r)

-- the session that begins here, behind so many sessions and so many requests
unfoldable pub session_from : List Transaction → ℕ → ℕ → List Token → Read Session
session_from txns index count tokens = session_head_from index tokens >>= λ n r1. entries_from txns count [] r1 >>= λ calls r2. closed (record { number = n; calls = calls }) r2

-- the requests of this session
unfoldable pub session_requests : List Transaction → ℕ → ℕ → List Token → Read (List Request)
session_requests txns index count tokens = session_head_from index tokens >>= λ n r1. requests_from txns count [] r1 >>= λ requests r2. closed requests r2

-- all sessions, up to the end
abbrev pub sessions_from : List Transaction → List (List Request) → List Token → Read (List (List Request))
sessions_from txns = turns_at is_more (λ sessions tokens. session_from txns (length sessions) (total length sessions) tokens >>= λ s r. Ok (sessions ++ map (request_of txns) s.calls ∷ [], r))
    (λ sessions tokens. Ok (sessions, tokens))
