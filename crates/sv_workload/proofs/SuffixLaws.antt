-- Each refusal stands at one of the tokens, or behind all of them.
use Rattle.std.proofs.Common.{◌≡◌, ◌∙◌, ℕ, List, [], ◌∷◌, ◌++◌, refl, sym, ap, append_assoc}
use Rattle.sv_lex.specs.declared.tokens.Token.{Token}
use Rattle.sv_app.specs.declared.refusals.Code.{Code}
use Rattle.sv_app.specs.Schema.{Declaration}
use Rattle.sv_workload.specs.declared.written.Row.{Row}
use Rattle.sv_workload.specs.Elements.{Refusals, Among, Here, Behind}
use Rattle.sv_workload.specs.declared.written.Call.{Call}
use Rattle.sv_workload.specs.declared.written.Setting.{Setting}
use Rattle.sv_workload.specs.Grammar.{row, setting, line, entry, session}
use Rattle.sv_workload.specs.LastRefused.{CallRefused, NoTxn, LongList, LineRefused, TooManyAsks, TooManyShows, BadSession, BadSite, BadOrigin, BadSeq, BadSlot, BadTarget, EntryRefused, SessionRefused, BadNumber, InCalls, NoEnd, requests_in, SettingRefused, Outside, sites_set, LastRefused, NoPart, InSettings, NoSites, InLines, InSessions}
use Rattle.sv_workload.specs.LastRefused as last
use Rattle.sv_workload.specs.Written.{Line, Session}
use Rattle.sv_app.specs.Trees.{Transaction}
use Rattle.sv_workload.specs.InitRefused.{RowRefused, Misplaced, NoTable, Unfit, Repeated, LeftToDraw, TooMany, InitRefused, InRows}

pub record Suffix (tokens here : List Token) : Type 0 where
  pub front : List Token
  pub whole : tokens ≡ front ++ here

pub all_of : (tokens : List Token) → Suffix tokens tokens
all_of tokens = record { front = []; whole = refl }

pub behind : (tokens front rest here : List Token) → tokens ≡ front ++ rest → Suffix rest here → Suffix tokens here
behind tokens front rest here w s = record { front = front ++ s.front; whole = w ∙ ap (λ l. front ++ l) s.whole ∙ sym (append_assoc front s.front here) }

pub among_suffix : {A : Type 0} {element : A → List Token → Type 0} {refused : List A → List Token → Refusals}
    → ((before : List A) (tokens : List Token) (code : Code) (here : List Token) → refused before tokens code here → Suffix tokens here)
    → (before : List A) (tokens : List Token) (code : Code) (here : List Token) → Among element refused before tokens code here → Suffix tokens here
among_suffix each _ _ _ _ (Here before tokens code here is) = each before tokens code here is
among_suffix each _ _ _ _ (Behind before a front rest code here is more) = behind (front ++ rest) front rest here refl (among_suffix each (before ++ a ∷ []) rest code here more)

row_suffix : (schema : List Declaration) (before : List Row) (tokens : List Token) (code : Code) (here : List Token) → RowRefused schema before tokens code here → Suffix tokens here
row_suffix schema before tokens _ _ (Misplaced here begins is) = record { front = is.front; whole = is.whole }
row_suffix schema before tokens _ _ (NoTable table is none) = all_of tokens
row_suffix schema before tokens _ _ (Unfit r front rest table w is its misfit) = all_of tokens
row_suffix schema before tokens _ _ (Repeated r front rest table w is its long again) = all_of tokens
row_suffix schema before tokens _ _ (LeftToDraw r front rest table w is its left) = all_of tokens
row_suffix schema before tokens _ _ (TooMany begins many) = all_of tokens

pub init_suffix : (schema : List Declaration) (tokens : List Token) (code : Code) (here : List Token) → InitRefused schema tokens code here → Suffix tokens here
init_suffix schema tokens _ _ (InRows front rest code here w is among) = behind tokens front rest here w (among_suffix {element = row} (row_suffix schema) [] rest code here among)

call_suffix : (txns : List Transaction) (tokens : List Token) (code : Code) (here : List Token) → CallRefused txns tokens code here → Suffix tokens here
call_suffix txns tokens _ _ (NoTxn txn is none) = all_of tokens
call_suffix txns tokens _ _ (last.Unfit c front rest txn w is its misfit) = all_of tokens
call_suffix txns tokens _ _ (LongList front here w is begins) = record { front = front; whole = w }

pub line_suffix : (schema : List Declaration) (txns : List Transaction) (sites : ℕ) (before : List Line) (tokens : List Token) (code : Code) (here : List Token) → LineRefused schema txns sites before tokens code here → Suffix tokens here
line_suffix schema txns sites before tokens _ _ (last.Misplaced here some is) = record { front = is.front; whole = is.whole }
line_suffix schema txns sites before tokens _ _ (last.TooMany word has is many) = all_of tokens
line_suffix schema txns sites before tokens _ _ (TooManyAsks is many) = all_of tokens
line_suffix schema txns sites before tokens _ _ (TooManyShows is many) = all_of tokens
line_suffix schema txns sites before tokens _ _ (BadSession bytes front here w has is out) = record { front = front; whole = w }
line_suffix schema txns sites before tokens _ _ (BadSite bytes front here w has is out) = record { front = front; whole = w }
line_suffix schema txns sites before tokens _ _ (BadOrigin at front here w is out) = record { front = front; whole = w }
line_suffix schema txns sites before tokens _ _ (BadSeq at origin front here w is out) = record { front = front; whole = w }
line_suffix schema txns sites before tokens _ _ (BadSlot at front here w is out) = record { front = front; whole = w }
line_suffix schema txns sites before tokens _ _ (BadTarget of front here w is out) = record { front = front; whole = w }
line_suffix schema txns sites before tokens _ _ (last.NoTable at front here table w is begins none) = record { front = front; whole = w }
line_suffix schema txns sites before tokens _ _ (last.InCall n front rest code here w is refused) = behind tokens front rest here w (call_suffix txns rest code here refused)

entry_suffix : (txns : List Transaction) (count : ℕ) (before : List Call) (tokens : List Token) (code : Code) (here : List Token) → EntryRefused txns count before tokens code here → Suffix tokens here
entry_suffix txns count before tokens _ _ (last.Misplaced here begins is) = record { front = is.front; whole = is.whole }
entry_suffix txns count before tokens _ _ (last.TooMany begins many) = all_of tokens
entry_suffix txns count before tokens _ _ (last.InCall code here refused) = call_suffix txns tokens code here refused

pub session_suffix : (txns : List Transaction) (before : List Session) (tokens : List Token) (code : Code) (here : List Token) → SessionRefused txns before tokens code here → Suffix tokens here
session_suffix txns before tokens _ _ (last.Misplaced here some is) = record { front = is.front; whole = is.whole }
session_suffix txns before tokens _ _ (last.TooMany is many) = all_of tokens
session_suffix txns before tokens _ _ (BadNumber front here w is out) = record { front = front; whole = w }
session_suffix txns before tokens _ _ (InCalls n front rest code here w is among) = behind tokens front rest here w (among_suffix {element = entry} (entry_suffix txns (requests_in before)) [] rest code here among)
session_suffix txns before tokens _ _ (NoEnd n calls front here w is ends brace) = record { front = front; whole = w }

setting_suffix : (count : ℕ) (before : List (Setting × ℕ)) (tokens : List Token) (code : Code) (here : List Token) → SettingRefused count before tokens code here → Suffix tokens here
setting_suffix count before tokens _ _ (last.Misplaced here begins is) = record { front = is.front; whole = is.whole }
setting_suffix count before tokens _ _ (last.Repeated which n is earlier) = all_of tokens
setting_suffix count before tokens _ _ (Outside which front here w is out) = record { front = front; whole = w }

pub last_suffix : (schema : List Declaration) (txns : List Transaction) (count : ℕ) (tokens : List Token) (code : Code) (here : List Token) → LastRefused schema txns count tokens code here → Suffix tokens here
last_suffix schema txns count tokens _ _ (NoPart here some is) = record { front = is.front; whole = is.whole }
last_suffix schema txns count tokens _ _ (InSettings head front rest code here w is among) = behind tokens front rest here w (among_suffix {element = setting} (setting_suffix count) [] rest code here among)
last_suffix schema txns count tokens _ _ (NoSites head settings front here w is ends none) = record { front = front; whole = w }
last_suffix schema txns count tokens _ _ (InLines settings front rest code here w is ends among) =
    behind tokens front rest here w (among_suffix {element = line} (line_suffix schema txns (sites_set settings)) [] rest code here among)
last_suffix schema txns count tokens _ _ (InSessions settings front rest code here w is ends among) = behind tokens front rest here w (among_suffix {element = session} (session_suffix txns) [] rest code here among)
