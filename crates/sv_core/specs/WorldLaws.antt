-- What the events of a world stand on: further entries of other sites change nothing at a site, a store can take what an entry brings it, what a site lacks it
-- can apply in the order of publishing, and how long histories become.
use Rattle.std.specs.Prelude.{◌≡◌, ℕ, ◌+◌, ◌*◌, ◌≤◌, true, false, List, [], ◌∷◌, ◌++◌, All, length, max, Some, slice_get}
use Rattle.std.specs.List.{filter}
use Rattle.sv_value.specs.declared.packets.Packet.{Packet}
use Rattle.sv_effect.specs.declared.ops.Op.{Op}
use Rattle.sv_effect.specs.Applied.{applied}
use Rattle.sv_core.specs.declared.entries.Entry.{Entry}
use Rattle.sv_core.specs.declared.entries.Entry.TheVariants.{Apply}
use Rattle.sv_core.specs.Clock.{latest_in}
use Rattle.sv_core.specs.Counts.{AreShort, CanTake}
use Rattle.sv_core.specs.Document.{Document}
use Rattle.sv_core.specs.History.{History, brings, cut_of, published, tables_at, answers, moves}
use Rattle.sv_core.specs.Laws.{IsLawful}
use Rattle.sv_core.specs.Legal.{IsApply}
use Rattle.sv_core.specs.Packets.{packets_in, packets_to, lacked, is_at}
use Rattle.sv_core.specs.Room.{rows_used, changes_used}
use Rattle.sv_core.specs.Sound.{IsSite}

-- what a history gives a site: its entries, its packets, its cut and its tables
pub record SameAt (doc : Document) (h later : History) (s : ℕ) : Type 0 where
  pub entries : filter (is_at s) later ≡ filter (is_at s) h
  pub packets : packets_to later s ≡ packets_to h s
  pub cut : cut_of later s ≡ cut_of h s
  pub tables : tables_at doc later s ≡ tables_at doc h s
  pub latest : latest_in (published doc later) (cut_of later s) ≡ latest_in (published doc h) (cut_of h s)

-- further entries of other sites, and moves, change none of these
abbrev pub OthersLeave : Type 0
OthersLeave = (doc : Document) (more h : History) (s : ℕ) → IsLawful doc (more ++ h) → All (λ e. is_at s e ≡ false) more → SameAt doc h (more ++ h) s

-- an operation that comes to a site: its store can take it, and then has the tables of the longer history
pub record Brought (doc : Document) (e : Entry) (h : History) (s o : ℕ) (op : Op) : Type 0 where
  pub takes : CanTake doc op (tables_at doc h s)
  pub tables : tables_at doc (e ∷ h) s ≡ applied doc.schema op (tables_at doc h s)
  pub latest : latest_in (published doc (e ∷ h)) (cut_of (e ∷ h) s) ≡ max (latest_in (published doc h) (cut_of h s)) op.time

abbrev pub BroughtIsTaken : Type 0
BroughtIsTaken = (doc : Document) (e : Entry) (h : History) (s o : ℕ) (op : Op) → IsLawful doc (e ∷ h) → AreShort doc (published doc (e ∷ h))
    → brings e s o ≡ true → slice_get (published doc (e ∷ h) o) (cut_of h s o) ≡ Some op → Brought doc e h s o op

-- the first packet that a site lacks may be applied there, and the others are then lacked
pub record CanCatch (doc : Document) (h : History) (s : ℕ) (packet : Packet) (rest : List Packet) : Type 0 where
  pub next : IsApply doc h s packet
  pub left : lacked (Apply s packet ∷ h) s ≡ rest

abbrev pub FirstIsReady : Type 0
FirstIsReady = (doc : Document) (h : History) (s : ℕ) (packet : Packet) (rest : List Packet) → IsLawful doc h → IsSite doc s → lacked h s ≡ packet ∷ rest
    → CanCatch doc h s packet rest

-- a site that lacks nothing has all that was published
abbrev pub NoneLacked : Type 0
NoneLacked = (doc : Document) (h : History) (s o : ℕ) → IsLawful doc h → lacked h s ≡ [] → cut_of h s o ≡ length (published doc h o)

-- how much there can be of a legal history: its entries, its packets, what each origin published, the times, and what is used of the room
pub record IsFew (doc : Document) (h : History) : Type 0 where
  pub asked : answers h ≤ doc.asks
  pub moved : moves h ≤ doc.moves
  pub long : length h ≤ 9 * answers h + moves h
  pub packets : length (packets_in h) ≤ answers h
  pub lists : (o : ℕ) → length (published doc h o) ≤ length (packets_in h)
  pub latest : (s : ℕ) → latest_in (published doc h) (cut_of h s) ≤ length h
  pub rows : rows_used doc (published doc h) ≤ doc.rows
  pub changes : changes_used (published doc h) ≤ doc.changes

abbrev pub AllFew : Type 0
AllFew = (doc : Document) (h : History) → IsLawful doc h → IsFew doc h
