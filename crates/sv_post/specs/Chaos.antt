-- What a mailbox does with a packet that is offered to it. A full mailbox loses it, and holds what it held.
use Rattle.std.specs.Prelude.{ℕ, zero, suc, ◌%◌, nat_lt, min, if◌then◌else◌, Option, Some, None}
use Rattle.sv_value.specs.declared.packets.Packet.{Packet}
use Rattle.sv_post.specs.declared.chaos.Fate.{Fate}
use Rattle.sv_post.specs.declared.chaos.Fate.TheVariants.{Once, Lost, Twice, Held}
use Rattle.sv_post.specs.declared.chaos.Plan.{Plan}

-- what is meant goes round, one packet after the other
abbrev turn : ℕ → Fate
turn zero = Once
turn (suc zero) = Lost
turn (suc (suc zero)) = Twice
turn (suc (suc (suc n))) = Held

-- of the packet before which so many were offered, the seed added
abbrev pub fate_of : ℕ → Fate
fate_of n = turn (n % 4)

-- nothing is put
abbrev pub staying : Option Packet → Plan
staying held = record { copies = 0; released = None; held = held }

-- the packet is put so often, and the one that was held behind it, while there is room; what can't be put stays held
abbrev pub putting : ℕ → ℕ → Option Packet → Plan
putting copies room held =
    if nat_lt copies room
    then record { copies = copies; released = held; held = None }
    else record { copies = min copies room; released = None; held = held }

-- where so many more packets fit, and one may be held
abbrev pub plan_of : Fate → ℕ → Packet → Option Packet → Plan
plan_of Once room packet held = putting 1 room held
plan_of Lost room packet held = staying held
plan_of Twice room packet held = putting 2 room held
plan_of Held zero packet held = staying held
plan_of Held (suc room) packet held = record { copies = 0; released = None; held = Some packet }
