-- Reading the steps of a replay from left to right: what is refused of a step besides the grammar, and all steps up to the end of the document.
use Rattle.std.specs.Prelude.{◌≤◌, ◌+◌, ℕ, Bool, true, false, not, ◌||◌, if◌then◌else◌, nat_le, List, [], ◌∷◌, ◌++◌, length, Option, Some, None, Ok}
use Rattle.sv_lex.specs.declared.tokens.Token.{Token}
use Rattle.sv_app.specs.declared.apps.Ident.{Ident}
use Rattle.sv_app.specs.declared.refusals.Code.TheVariants.{Unknown, Many, BadStep}
use Rattle.sv_app.specs.Lookups.{table_of}
use Rattle.sv_app.specs.Schema.{Declaration}
use Rattle.sv_app.specs.Trees.{Transaction}
use Rattle.sv_reader.specs.declared.faults.ReadFault.{ReadFault}
use Rattle.sv_reader.specs.Reading.{Read, ◌>>=◌, next, is_some, is_name, name_of, given, turns_at}
use Rattle.sv_workload.specs.declared.lines.PlainPacket.{PlainPacket}
use Rattle.sv_workload.specs.declared.lines.PlainPacket.TheVariants as plain_packets
use Rattle.sv_workload.specs.declared.lines.PlainStep.{PlainStep}
use Rattle.sv_workload.specs.declared.lines.PlainStep.TheVariants as plain_steps
use Rattle.sv_workload.specs.declared.lines.Steps.{Steps}
use Rattle.sv_workload.specs.declared.parts.Step.{Step}
use Rattle.sv_workload.specs.declared.parts.Step.TheVariants as steps
use Rattle.sv_workload.specs.declared.written.Color.{Color}
use Rattle.sv_workload.specs.declared.written.Color.TheVariants as colors
use Rattle.sv_workload.specs.declared.written.Verb.{Verb}
use Rattle.sv_workload.specs.declared.written.Verb.TheVariants as verbs
use Rattle.sv_workload.specs.Documents.{step_of}
use Rattle.sv_workload.specs.Reading.{settled, or_else, out_mark, count_at, from_read, call_mark, color_of, verb_of, line_at}
use Rattle.sv_workload.specs.Written.{Sent, Blue, Red, Line, Ask, Order, Deliver, Settle, Catch, Show, Cut, Move}

-- a step as it was read, before its numbers are known to keep their bounds
abbrev pub sent_of : PlainPacket → Sent
sent_of (plain_packets.Blue site seq) = Blue site seq
sent_of (plain_packets.Red slot) = Red slot

abbrev pub line_of : PlainStep → Line
line_of (plain_steps.Ask session c) = Ask session c
line_of (plain_steps.Order session) = Order session
line_of (plain_steps.Deliver site sent) = Deliver site (sent_of sent)
line_of (plain_steps.Settle site) = Settle site
line_of (plain_steps.Catch site) = Catch site
line_of (plain_steps.Show site table) = Show site table
line_of (plain_steps.ShowCut site) = Cut site
line_of (plain_steps.Move session site) = Move session site

-- no step of this kind may stand behind so many
abbrev pub verb_full : Steps → Verb → Bool
verb_full s verbs.Ask = nat_le 8192 s.asks
verb_full s verbs.Show = nat_le 64 s.shows
verb_full s _ = false

abbrev pub is_full : Steps → Verb → Bool
is_full s verb = nat_le 65536 (length s.steps) || verb_full s verb

abbrev pub full_mark : Steps → Verb → List Token → Option ReadFault
full_mark s verb tokens = given (is_full s verb) (record { code = Many; left = length tokens })

-- the greatest session or site
abbrev pub most_number : ℕ → Verb → ℕ
most_number sites verbs.Ask = 64
most_number sites verbs.Order = 64
most_number sites verbs.Move = 64
most_number sites _ = sites

-- the greatest number of a packet
abbrev pub most_packet : ℕ
most_packet = 4294967295

-- what is refused behind the first word of a packet
abbrev pub sent_mark : ℕ → Option Color → List Token → Option ReadFault
sent_mark sites None tokens = None
sent_mark sites (Some colors.Blue) tokens = or_else (out_mark BadStep 1 sites tokens) (from_read (count_at tokens) (λ r. out_mark BadStep 0 most_packet r))
sent_mark sites (Some colors.Red) tokens = out_mark BadStep 0 most_packet tokens

abbrev pub packet_mark : ℕ → List Token → Option ReadFault
packet_mark sites [] = None
packet_mark sites (token ∷ others) = sent_mark sites (color_of token) others

-- the name of a table that isn't there
abbrev pub unnamed_mark : List Declaration → Option Ident → List Token → Option ReadFault
unnamed_mark schema None tokens = None
unnamed_mark schema (Some table) tokens = given (not (is_some (table_of schema table))) (record { code = Unknown; left = length tokens })

abbrev pub table_mark : List Declaration → List Token → Option ReadFault
table_mark schema [] = None
table_mark schema (token ∷ others) = unnamed_mark schema (name_of token) (token ∷ others)

-- what is refused of a call, if one begins here
abbrev pub asked_mark : List Transaction → List Token → Option ReadFault
asked_mark txns tokens = if is_name tokens then call_mark txns tokens else None

-- what is refused behind the number of a step
abbrev pub tail_mark : List Declaration → List Transaction → ℕ → Verb → List Token → Option ReadFault
tail_mark schema txns sites verbs.Ask tokens = asked_mark txns tokens
tail_mark schema txns sites verbs.Deliver tokens = packet_mark sites tokens
tail_mark schema txns sites verbs.Show tokens = table_mark schema tokens
tail_mark schema txns sites verbs.Move tokens = out_mark BadStep 1 sites tokens
tail_mark schema txns sites _ tokens = None

-- what is refused behind the first word of a step
abbrev pub number_mark : List Declaration → List Transaction → ℕ → Verb → List Token → Option ReadFault
number_mark schema txns sites verb tokens = or_else (out_mark BadStep 1 (most_number sites verb) tokens) (from_read (count_at tokens) (λ r. tail_mark schema txns sites verb r))

abbrev pub verb_mark : List Declaration → List Transaction → ℕ → Steps → Option Verb → Token → List Token → Option ReadFault
verb_mark schema txns sites s None token others = None
verb_mark schema txns sites s (Some verb) token others = or_else (full_mark s verb (token ∷ others)) (number_mark schema txns sites verb others)

-- what is refused of a step that begins here, besides the grammar
abbrev pub line_mark : List Declaration → List Transaction → ℕ → Steps → List Token → Option ReadFault
line_mark schema txns sites s [] = None
line_mark schema txns sites s (token ∷ others) = verb_mark schema txns sites s (verb_of token) token others

-- the step that begins here, behind these, for so many sites
unfoldable pub line_from : List Declaration → List Transaction → ℕ → Steps → List Token → Read Line
line_from schema txns sites s tokens = settled (line_mark schema txns sites s tokens) (line_at tokens)

abbrev pub step_asks : Step → ℕ
step_asks (steps.Ask session request) = 1
step_asks (steps.Order session) = 0
step_asks (steps.Deliver site packet) = 0
step_asks (steps.Settle site) = 0
step_asks (steps.Catch site) = 0
step_asks (steps.Show site table) = 0
step_asks (steps.ShowCut site) = 0
step_asks (steps.Move session site) = 0

abbrev pub step_shows : Step → ℕ
step_shows (steps.Ask session request) = 0
step_shows (steps.Order session) = 0
step_shows (steps.Deliver site packet) = 0
step_shows (steps.Settle site) = 0
step_shows (steps.Catch site) = 0
step_shows (steps.Show site table) = 1
step_shows (steps.ShowCut site) = 0
step_shows (steps.Move session site) = 0

-- with one step more
abbrev pub with_step : Steps → Step → Steps
with_step s step = record { steps = s.steps ++ step ∷ []; asks = s.asks + step_asks step; shows = s.shows + step_shows step }

abbrev pub no_steps : Steps
no_steps = record { steps = []; asks = 0; shows = 0 }

-- something stands here
abbrev pub is_more : List Token → Bool
is_more tokens = next (λ token. true) tokens

-- all steps up to the end of the document
abbrev pub lines_from : List Declaration → List Transaction → ℕ → Steps → List Token → Read Steps
lines_from schema txns sites = turns_at is_more (λ s tokens. line_from schema txns sites s tokens >>= λ l r. Ok (with_step s (step_of schema txns l), r)) (λ s tokens. Ok (s, tokens))

-- a site, and what is written of a step keeps its bounds
abbrev pub IsSite : ℕ → Type 0
IsSite n = (1 ≤ n) × (n ≤ 8)

abbrev pub IsBoundedPacket : Sent → Type 0
IsBoundedPacket (Blue site seq) = IsSite site × (seq ≤ most_packet)
IsBoundedPacket (Red slot) = slot ≤ most_packet

abbrev pub IsBoundedLine : Line → Type 0
IsBoundedLine (Ask session c) = session ≤ 64
IsBoundedLine (Order session) = session ≤ 64
IsBoundedLine (Deliver site sent) = IsSite site × IsBoundedPacket sent
IsBoundedLine (Settle site) = IsSite site
IsBoundedLine (Catch site) = IsSite site
IsBoundedLine (Show site table) = IsSite site
IsBoundedLine (Cut site) = IsSite site
IsBoundedLine (Move session site) = (session ≤ 64) × IsSite site

-- no more asks and shows than steps
pub record IsCounted (s : Steps) : Type 0 where
  pub asks : s.asks ≤ length s.steps
  pub shows : s.shows ≤ length s.steps
