-- Where the last part is refused: its settings, the steps of a replay, and the sessions of a run.
use Rattle.std.specs.Prelude.{◌≡◌, ◌≢◌, ◌≤◌, ◌<◌, ◌⊎◌, ◌+◌, ℕ, suc, ℤ, pos, List, [], ◌∷◌, ◌++◌, length, Option, Some, None, max, unwrap_or, codes}
use Rattle.std.specs.List.{Contains}
use Rattle.sv_lex.specs.declared.marks.Mark.TheVariants.{LeftParen, LeftBracket, RightBrace, Comma, Minus}
use Rattle.sv_lex.specs.declared.marks.Mark.TheVariants as marks
use Rattle.sv_lex.specs.declared.tokens.Token.{Token}
use Rattle.sv_lex.specs.declared.tokens.TokenKind.{TokenKind}
use Rattle.sv_lex.specs.declared.tokens.TokenKind.TheVariants.{Name, Number, Mark}
use Rattle.sv_app.specs.declared.apps.Ident.{Ident}
use Rattle.sv_app.specs.declared.refusals.Code.{Code}
use Rattle.sv_app.specs.declared.refusals.Code.TheVariants as code
use Rattle.sv_app.specs.declared.requests.Arg.{Arg}
use Rattle.sv_app.specs.Lookups.{table_of}
use Rattle.sv_app.specs.Schema.{Declaration}
use Rattle.sv_app.specs.Trees.{Transaction}
use Rattle.sv_reader.specs.Grammar.{◌·◌, nothing, word, mark, name}
use Rattle.sv_workload.specs.Elements.{IsMisplaced, Among}
use Rattle.sv_workload.specs.Fits.{CallFits, txn_of}
use Rattle.sv_workload.specs.Grammar.{many, number, IsInteger, argument, call, setting_word, setting, line, session_head, entry, session, replay_head, run_head}
use Rattle.sv_workload.specs.InitRefused.{BeginsName}
use Rattle.sv_workload.specs.declared.written.Call.{Call}
use Rattle.sv_workload.specs.declared.written.PartHead.{PartHead}
use Rattle.sv_workload.specs.declared.written.PartHead.TheVariants.{Replay as ReplayHead, Run as RunHead}
use Rattle.sv_workload.specs.declared.written.Setting.{Setting}
use Rattle.sv_workload.specs.declared.written.Setting.TheVariants.{Sites, Rows, Changes}
use Rattle.sv_workload.specs.Written.{Line, Ask, Order, Deliver, Settle, Catch, Show, Cut, Move, Session}

-- a word stands here, or a number
abbrev pub BeginsWith : TokenKind → List Token → Type 0
BeginsWith wanted [] = ⊥
BeginsWith wanted (token ∷ others) = token.kind ≡ wanted

abbrev pub BeginsWord : List ℕ → List Token → Type 0
BeginsWord bytes = BeginsWith (Name bytes)

-- a number outside these bounds stands here
pub record IsOutside (least most : ℕ) (tokens : List Token) : Type 0 where
  pub n : ℕ
  pub is : BeginsWith (Number (pos n)) tokens
  pub out : (n < least) ⊎ (most < n)

-- a setting of this kind begins here
abbrev pub Sets : Setting → List Token → Type 0
Sets which = BeginsWord (setting_word which)

pub record BeginsSetting (tokens : List Token) : Type 0 where
  pub which : Setting
  pub is : Sets which tokens

-- the number that was given first
abbrev pub given : Setting → List (Setting × ℕ) → Option ℕ
given which [] = None
given Sites ((Sites, n) ∷ others) = Some n
given Rows ((Rows, n) ∷ others) = Some n
given Changes ((Changes, n) ∷ others) = Some n
given which (setting ∷ others) = given which others

abbrev pub least_of : ℕ → Setting → ℕ
least_of count Sites = 1
least_of count Rows = max 1 count
least_of count Changes = 1

abbrev pub most_of : Setting → ℕ
most_of Sites = 8
most_of Rows = 4096
most_of Changes = 65536

-- a refusal in the setting that begins here, where there are so many initial rows
pub data SettingRefused (count : ℕ) (before : List (Setting × ℕ)) (tokens : List Token) : Code → List Token → Type 0 where
  Misplaced : (here : List Token) → BeginsSetting tokens → IsMisplaced setting tokens here → SettingRefused count before tokens code.Syntax here
  Repeated : (which : Setting) (n : ℕ) → Sets which tokens → given which before ≡ Some n → SettingRefused count before tokens code.Twice tokens
  Outside : (which : Setting) (front here : List Token) → tokens ≡ front ++ here → (word (setting_word which) · mark marks.Eq) front → IsOutside (least_of count which) (most_of which) here
      → SettingRefused count before tokens code.Many here

-- {x ","}
abbrev pub each_comma : {A : Type 0} → (A → List Token → Type 0) → List A → List Token → Type 0
each_comma x [] = nothing
each_comma x (a ∷ rest) = x a · mark Comma · each_comma x rest

-- an integer begins here
pub data BeginsInteger (tokens : List Token) : Type 0 where
  Sign : BeginsWith (Mark Minus) tokens → BeginsInteger tokens
  Plain : (n : ℕ) → BeginsWith (Number (pos n)) tokens → BeginsInteger tokens

-- the tokens of a call up to an element of a list, behind this many elements
pub record IsInList (count : ℕ) (front : List Token) : Type 0 where
  pub txn : Ident
  pub args : List Arg
  pub elements : List ℤ
  pub is : (name txn · mark LeftParen · each_comma argument args · mark LeftBracket · each_comma IsInteger elements) front
  pub many : length elements ≡ count

-- a refusal in the call that begins here
pub data CallRefused (txns : List Transaction) (tokens : List Token) : Code → List Token → Type 0 where
  NoTxn : (txn : Ident) → BeginsName txn tokens → txn_of txns txn ≡ None → CallRefused txns tokens code.Unknown tokens
  Unfit : (c : Call) (front rest : List Token) (txn : Transaction) → tokens ≡ front ++ rest → call c front → txn_of txns c.txn ≡ Some txn → (CallFits txn c → ⊥)
      → CallRefused txns tokens code.Typing tokens
  LongList : (front here : List Token) → tokens ≡ front ++ here → IsInList 64 front → BeginsInteger here → CallRefused txns tokens code.Many here

abbrev pub asks : Line → ℕ
asks (Ask session c) = 1
asks (Order session) = 0
asks (Deliver site sent) = 0
asks (Settle site) = 0
asks (Catch site) = 0
asks (Show site table) = 0
asks (Cut site) = 0
asks (Move session site) = 0

abbrev pub shows : Line → ℕ
shows (Ask session c) = 0
shows (Order session) = 0
shows (Deliver site sent) = 0
shows (Settle site) = 0
shows (Catch site) = 0
shows (Show site table) = 1
shows (Cut site) = 0
shows (Move session site) = 0

abbrev pub total : {A : Type 0} → (A → ℕ) → List A → ℕ
total count [] = 0
total count (a ∷ rest) = count a + total count rest

-- the words before the number of a session, and before that of a site
abbrev pub session_words : List (List ℕ)
session_words = codes "ask" ∷ codes "order" ∷ codes "move" ∷ []

abbrev pub site_words : List (List ℕ)
site_words = codes "deliver" ∷ codes "settle" ∷ codes "catch" ∷ codes "show" ∷ codes "cut" ∷ []

-- a refusal in the step that begins here, for so many sites
pub data LineRefused (schema : List Declaration) (txns : List Transaction) (sites : ℕ) (before : List Line) (tokens : List Token) : Code → List Token → Type 0 where
  Misplaced : (here : List Token) → tokens ≢ [] → IsMisplaced line tokens here → LineRefused schema txns sites before tokens code.Syntax here
  TooMany : (word : List ℕ) → Contains (session_words ++ site_words) word → BeginsWord word tokens → 65536 ≤ length before → LineRefused schema txns sites before tokens code.Many tokens
  TooManyAsks : BeginsWord (codes "ask") tokens → 8192 ≤ total asks before → LineRefused schema txns sites before tokens code.Many tokens
  TooManyShows : BeginsWord (codes "show") tokens → 64 ≤ total shows before → LineRefused schema txns sites before tokens code.Many tokens
  BadSession : (bytes : List ℕ) (front here : List Token) → tokens ≡ front ++ here → Contains session_words bytes → word bytes front → IsOutside 1 64 here
      → LineRefused schema txns sites before tokens code.BadStep here
  BadSite : (bytes : List ℕ) (front here : List Token) → tokens ≡ front ++ here → Contains site_words bytes → word bytes front → IsOutside 1 sites here
      → LineRefused schema txns sites before tokens code.BadStep here
  BadOrigin : (at : ℕ) (front here : List Token) → tokens ≡ front ++ here → (word (codes "deliver") · number at · word (codes "blue")) front → IsOutside 1 sites here
      → LineRefused schema txns sites before tokens code.BadStep here
  BadSeq : (at origin : ℕ) (front here : List Token) → tokens ≡ front ++ here → (word (codes "deliver") · number at · word (codes "blue") · number origin) front
      → IsOutside 0 4294967295 here → LineRefused schema txns sites before tokens code.BadStep here
  BadSlot : (at : ℕ) (front here : List Token) → tokens ≡ front ++ here → (word (codes "deliver") · number at · word (codes "red")) front → IsOutside 0 4294967295 here
      → LineRefused schema txns sites before tokens code.BadStep here
  BadTarget : (of : ℕ) (front here : List Token) → tokens ≡ front ++ here → (word (codes "move") · number of) front → IsOutside 1 sites here
      → LineRefused schema txns sites before tokens code.BadStep here
  NoTable : (at : ℕ) (front here : List Token) (table : Ident) → tokens ≡ front ++ here → (word (codes "show") · number at) front → BeginsName table here → table_of schema table ≡ None
      → LineRefused schema txns sites before tokens code.Unknown here
  InCall : (of : ℕ) (front rest : List Token) (code : Code) (here : List Token) → tokens ≡ front ++ rest → (word (codes "ask") · number of) front → CallRefused txns rest code here
      → LineRefused schema txns sites before tokens code here

-- a call begins here
pub record BeginsCall (tokens : List Token) : Type 0 where
  pub txn : Ident
  pub is : BeginsName txn tokens

-- a refusal in the call that begins here, behind so many requests and these calls of its session
pub data EntryRefused (txns : List Transaction) (count : ℕ) (before : List Call) (tokens : List Token) : Code → List Token → Type 0 where
  Misplaced : (here : List Token) → BeginsCall tokens → IsMisplaced entry tokens here → EntryRefused txns count before tokens code.Syntax here
  TooMany : BeginsCall tokens → 8192 ≤ count + length before → EntryRefused txns count before tokens code.Many tokens
  InCall : (code : Code) (here : List Token) → CallRefused txns tokens code here → EntryRefused txns count before tokens code here

abbrev pub requests_in : List Session → ℕ
requests_in sessions = total (λ (s : Session). length s.calls) sessions

-- a refusal in the session that begins here
pub data SessionRefused (txns : List Transaction) (before : List Session) (tokens : List Token) : Code → List Token → Type 0 where
  Misplaced : (here : List Token) → tokens ≢ [] → IsMisplaced session_head tokens here → SessionRefused txns before tokens code.Syntax here
  TooMany : BeginsWord (codes "session") tokens → 64 ≤ length before → SessionRefused txns before tokens code.Many tokens
  BadNumber : (front here : List Token) → tokens ≡ front ++ here → word (codes "session") front → IsOutside (suc (length before)) (suc (length before)) here
      → SessionRefused txns before tokens code.BadStep here
  InCalls : (n : ℕ) (front rest : List Token) (code : Code) (here : List Token) → tokens ≡ front ++ rest → session_head n front
      → Among entry (EntryRefused txns (requests_in before)) [] rest code here → SessionRefused txns before tokens code here
  NoEnd : (n : ℕ) (calls : List Call) (front here : List Token) → tokens ≡ front ++ here → (session_head n · many entry calls) front → (BeginsCall here → ⊥)
      → (BeginsWith (Mark RightBrace) here → ⊥) → SessionRefused txns before tokens code.Syntax here

-- "%%" and a word that begins a last part
abbrev pub part_head : PartHead → List Token → Type 0
part_head ReplayHead = replay_head
part_head RunHead = run_head

-- the number of sites that is set
abbrev pub sites_set : List (Setting × ℕ) → ℕ
sites_set settings = unwrap_or (given Sites settings) 1

-- a refusal in the last part, behind so many initial rows
pub data LastRefused (schema : List Declaration) (txns : List Transaction) (count : ℕ) (tokens : List Token) : Code → List Token → Type 0 where
  NoPart : (here : List Token) → tokens ≢ [] → IsMisplaced part_head tokens here → LastRefused schema txns count tokens code.Syntax here
  InSettings : (head : PartHead) (front rest : List Token) (code : Code) (here : List Token) → tokens ≡ front ++ rest → part_head head front
      → Among setting (SettingRefused count) [] rest code here → LastRefused schema txns count tokens code here
  NoSites : (head : PartHead) (settings : List (Setting × ℕ)) (front here : List Token) → tokens ≡ front ++ here → (part_head head · many setting settings) front → (BeginsSetting here → ⊥)
      → given Sites settings ≡ None → LastRefused schema txns count tokens code.Syntax here
  InLines : (settings : List (Setting × ℕ)) (front rest : List Token) (code : Code) (here : List Token) → tokens ≡ front ++ rest → (replay_head · many setting settings) front
      → (BeginsSetting rest → ⊥) → Among line (LineRefused schema txns (sites_set settings)) [] rest code here → LastRefused schema txns count tokens code here
  InSessions : (settings : List (Setting × ℕ)) (front rest : List Token) (code : Code) (here : List Token) → tokens ≡ front ++ rest → (run_head · many setting settings) front
      → (BeginsSetting rest → ⊥) → Among session (SessionRefused txns) [] rest code here → LastRefused schema txns count tokens code here
