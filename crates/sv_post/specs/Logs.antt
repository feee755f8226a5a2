-- What happened at a mailbox. A log has its newest event in front.
use Rattle.std.specs.Prelude.{◌≡◌, ℕ, List, [], ◌∷◌, ◌++◌, drop}
use mathlib.Core.Option.{some}
use lib.ListN.{get_elem?}
use Rattle.sv_value.specs.declared.packets.Packet.{Packet}
use Rattle.sv_hub.specs.Extends.{Extends}
use Rattle.sv_post.specs.declared.logs.Event.{Event}
use Rattle.sv_post.specs.declared.logs.Event.TheVariants.{Put, Taken}
use Rattle.sv_post.specs.declared.logs.Log.{Log}

-- the packets that a mailbox holds, the oldest first
abbrev pub contents : List Event → List Packet
contents [] = []
contents (Put packet ∷ log) = contents log ++ packet ∷ []
contents (Taken ∷ log) = drop 1 (contents log)

-- at a moment when the mailbox held these packets, its log extended what was seen
pub record Holds (seen : List Event) (packets : List Packet) : Type 0 where
  pub log : List Event
  pub extends : Extends log seen
  pub are : packets ≡ contents log

-- the packet was put behind all that was held, and all of the log was seen
pub record Puts (before : List Event) (packet : Packet) (after : List Event) : Type 0 where
  pub log : List Event
  pub extends : Extends log before
  pub is : after ≡ Put packet ∷ log

-- the packet was the oldest that was held, and all of the log was seen
pub record Takes (before : List Event) (packet : Packet) (after : List Event) : Type 0 where
  pub log : List Event
  pub rest : List Packet
  pub extends : Extends log before
  pub oldest : contents log ≡ packet ∷ rest
  pub is : after ≡ Taken ∷ log

-- the mailbox was empty at a moment, when its log extended what was seen
abbrev pub WasEmpty : List Event → Type 0
WasEmpty seen = Holds seen []

abbrev pub seeing : List Event → Log
seeing seen = record { seen = seen }

-- the rule of a mailbox
pub record IsLogged (packets : List Packet) (views : List Log) : Type 0 where
  pub log : List Event
  pub are : packets ≡ contents log
  pub known : (j : ℕ) (v : Log) → get_elem? views j ≡ some v → Extends log v.seen
