-- The lines of a replay. Each ends with a line feed; values print as decimal integers, or as texts between quotes.
use Rattle.std.specs.Prelude.{ℕ, zero, suc, List, [], ◌∷◌, ◌++◌, length, Option, Some, None, codes}
use Rattle.std.specs.List.{flat_map}
use Rattle.std.specs.Fmt.{decimal, signed_decimal}
use Rattle.sv_app.specs.declared.gots.Got.TheVariants as gots
use Rattle.sv_app.specs.declared.gots.Got.{Got}
use Rattle.sv_app.specs.declared.places.Place.{Place}
use Rattle.sv_app.specs.declared.reasons.Reason.TheVariants.{Plain, Unique, Child, Parent, Check, List as ListReason}
use Rattle.sv_app.specs.declared.reasons.Reason.{Reason}
use Rattle.sv_app.specs.declared.refusals.Refusal.{Refusal}
use Rattle.sv_app.specs.Codes.{number_of}
use Rattle.sv_core.specs.declared.answers.Delivered.TheVariants.{Applied, Duplicate, Early, Unknown}
use Rattle.sv_core.specs.declared.answers.Delivered.{Delivered}
use Rattle.sv_core.specs.declared.entries.Reply.TheVariants.{Ran, Refused, Full}
use Rattle.sv_core.specs.declared.entries.Reply.{Reply}
use Rattle.sv_core.specs.declared.entries.Which.TheVariants.{Rows, Changes}
use Rattle.sv_core.specs.declared.entries.Which.{Which}
use Rattle.sv_effect.specs.BareTables.{value_of}
use Rattle.sv_effect.specs.StampedTables.{StampedRow}
use Rattle.sv_effect.specs.declared.outcomes.Outcome.TheVariants.{Done, Abort, NoRow, Exists, Range, TooLarge}
use Rattle.sv_threat.specs.declared.label.Label.TheVariants as labels
use Rattle.sv_threat.specs.declared.label.Label.{Label}
use Rattle.sv_value.specs.declared.packets.Packet.TheVariants.{Blue, Red}
use Rattle.sv_value.specs.declared.packets.Packet.{Packet}
use Rattle.sv_value.specs.declared.values.Val.TheVariants.{Int, Text}
use Rattle.sv_value.specs.declared.values.Val.{Val}

-- `blue SITE SEQ` or `red SLOT`
abbrev pub packet_text : Packet → List ℕ
packet_text (Blue site seq) = codes "blue " ++ decimal site ++ codes " " ++ decimal seq
packet_text (Red slot) = codes "red " ++ decimal slot

-- `plain`, `unique I`, `child I`, `parent I`, `check I` or `list I`
abbrev pub reason_text : Reason → List ℕ
reason_text Plain = codes "plain"
reason_text (Unique number) = codes "unique " ++ decimal number
reason_text (Child number) = codes "child " ++ decimal number
reason_text (Parent number) = codes "parent " ++ decimal number
reason_text (Check number) = codes "check " ++ decimal number
reason_text (ListReason number) = codes "list " ++ decimal number

-- behind the name of a red packet its first threat
abbrev pub threat_text : Label → List ℕ
threat_text labels.Nothing = []
threat_text labels.Blue = []
threat_text (labels.Red instance place reason) = codes " " ++ decimal instance ++ codes " " ++ decimal place ++ codes " " ++ reason_text reason

-- `none`, `blue SITE SEQ` or `red SLOT INSTANCE PLACE REASON`
abbrev pub label_text : Label → Option Packet → List ℕ
label_text label None = codes "none"
label_text label (Some packet) = packet_text packet ++ threat_text label

abbrev pub value_text : Val → List ℕ
value_text (Int n) = signed_decimal n
value_text (Text text) = codes "'" ++ text ++ codes "'"

-- values joined by comma and space
abbrev pub values_behind : List Val → List ℕ
values_behind vals = flat_map (λ val. codes ", " ++ value_text val) vals

abbrev pub values_text : List Val → List ℕ
values_text [] = []
values_text (val ∷ vals) = value_text val ++ values_behind vals

abbrev pub which_text : Which → List ℕ
which_text Rows = codes "rows "
which_text Changes = codes "changes "

-- `ok(V, V)` with its label, `abort N`, `norow`, `exists`, `range`, `toolarge`, `refused I`, `full rows USED` or `full changes USED`
abbrev pub reply_text : Reply → Label → Option Packet → List ℕ
reply_text (Ran (Done vals)) label packet = codes "ok(" ++ values_text vals ++ codes ") " ++ label_text label packet
reply_text (Ran (Abort number)) label packet = codes "abort " ++ decimal number
reply_text (Ran NoRow) label packet = codes "norow"
reply_text (Ran Exists) label packet = codes "exists"
reply_text (Ran Range) label packet = codes "range"
reply_text (Ran TooLarge) label packet = codes "toolarge"
reply_text (Refused inv) label packet = codes "refused " ++ decimal inv
reply_text (Full which used) label packet = codes "full " ++ which_text which ++ decimal used

-- `answer SESSION INDEX REPLY`
abbrev pub answer_line : ℕ → ℕ → Reply → Label → Option Packet → List ℕ
answer_line session index reply label packet = codes "answer " ++ decimal session ++ codes " " ++ decimal index ++ codes " " ++ reply_text reply label packet ++ codes "\n"

abbrev pub pending_line : ℕ → ℕ → ℕ → List ℕ
pending_line session index expected = codes "pending " ++ decimal session ++ codes " " ++ decimal index ++ codes " expects " ++ decimal expected ++ codes "\n"

abbrev pub waiting_line : ℕ → List ℕ
waiting_line index = codes "waiting " ++ decimal index ++ codes "\n"

abbrev pub short_line : Packet → List ℕ
short_line missing = codes "short " ++ packet_text missing ++ codes "\n"

abbrev pub behind_line : ℕ → ℕ → List ℕ
behind_line slot owner = codes "behind " ++ decimal slot ++ codes " " ++ decimal owner ++ codes "\n"

abbrev pub none_line : List ℕ
none_line = codes "none\n"

-- `applied`, `duplicate`, `early PACKET` or `unknown N`
abbrev pub delivered_line : Delivered → List ℕ
delivered_line Applied = codes "applied\n"
delivered_line Duplicate = codes "duplicate\n"
delivered_line (Early missing) = codes "early " ++ packet_text missing ++ codes "\n"
delivered_line (Unknown published) = codes "unknown " ++ decimal published ++ codes "\n"

-- `settled PACKET` or `settled none`
abbrev pub settled_line : Option Packet → List ℕ
settled_line None = codes "settled none\n"
settled_line (Some packet) = codes "settled " ++ packet_text packet ++ codes "\n"

abbrev pub caught_line : ℕ → List ℕ
caught_line count = codes "caught " ++ decimal count ++ codes "\n"

abbrev pub moved_line : ℕ → ℕ → List ℕ
moved_line session site = codes "moved " ++ decimal session ++ codes " " ++ decimal site ++ codes "\n"

-- ` B1 .. Bn`, the blue counts of so many sites
abbrev pub counts_text : (ℕ → ℕ) → ℕ → List ℕ
counts_text cut zero = []
counts_text cut (suc many) = counts_text cut many ++ codes " " ++ decimal (cut (suc many))

-- `cut B1 .. Bn reds N`
abbrev pub cut_line : ℕ → (ℕ → ℕ) → List ℕ
cut_line sites cut = codes "cut" ++ counts_text cut sites ++ codes " reds " ++ decimal (cut 0) ++ codes "\n"

abbrev pub got_text : Got → List ℕ
got_text (gots.Num n) = signed_decimal n
got_text (gots.Text text) = codes "'" ++ text ++ codes "'"

-- values, each behind a space
abbrev pub gots_text : List Got → List ℕ
gots_text gots = flat_map (λ got. codes " " ++ got_text got) gots

-- the line of a row of which these values are told
abbrev pub values_line : List Got → List ℕ
values_line gots = codes "row" ++ gots_text gots ++ codes "\n"

-- `row V V ..`, all columns in order
abbrev pub row_line : Place × StampedRow → List ℕ
row_line entry = codes "row" ++ flat_map (λ cell. codes " " ++ got_text (value_of cell)) entry.1.cells ++ codes "\n"

-- `show SITE TABLE COUNT`
abbrev pub show_head : ℕ → List ℕ → ℕ → List ℕ
show_head site table count = codes "show " ++ decimal site ++ codes " " ++ table ++ codes " " ++ decimal count ++ codes "\n"

-- how many rows there are, and then a line for each of them
abbrev pub show_lines : ℕ → List ℕ → List (Place × StampedRow) → List ℕ
show_lines site table rows = show_head site table (length rows) ++ flat_map row_line rows

-- `refused LINE:COL CODE`
abbrev pub refusal_line : Refusal → List ℕ
refusal_line refusal = codes "refused " ++ decimal refusal.spot.line ++ codes ":" ++ decimal refusal.spot.col ++ codes " " ++ decimal (number_of refusal.code) ++ codes "\n"
