-- The packets of a history: those that were published, in the order of publishing, those that a site got, in the order in which it got them, and those that it lacks.
use Rattle.std.specs.Prelude.{ℕ, zero, suc, ◌==◌, if◌then◌else◌, Bool, false, List, [], ◌∷◌, ◌++◌, Some, None}
use Rattle.std.specs.List.{filter}
use Rattle.sv_value.specs.declared.packets.Packet.{Packet}
use Rattle.sv_causal.specs.Inboxes.{lacks}
use Rattle.sv_core.specs.declared.entries.Entry.{Entry}
use Rattle.sv_core.specs.declared.entries.Entry.TheVariants.{Answer, Apply, Move}
use Rattle.sv_core.specs.History.{History, cut_of}

abbrev pub packets_in : History → List Packet
packets_in [] = []
packets_in (Answer session index request site at reply label None ∷ h) = packets_in h
packets_in (Answer session index request site at reply label (Some packet) ∷ h) = packets_in h ++ packet ∷ []
packets_in (Apply site packet ∷ h) = packets_in h
packets_in (Move session site ∷ h) = packets_in h

-- with the packet, if it came to this site
abbrev pub if_here : ℕ → ℕ → Packet → List Packet → List Packet
if_here s site packet packets = if s == site then packets ++ packet ∷ [] else packets

abbrev pub packets_to : History → ℕ → List Packet
packets_to [] s = []
packets_to (Answer session index request site at reply label None ∷ h) s = packets_to h s
packets_to (Answer session index request site at reply label (Some packet) ∷ h) s = if_here s site packet (packets_to h s)
packets_to (Apply site packet ∷ h) s = if_here s site packet (packets_to h s)
packets_to (Move session site ∷ h) s = packets_to h s

abbrev pub lacked : History → ℕ → List Packet
lacked h s = filter (lacks (cut_of h s)) (packets_in h)

-- the history when a site applied these packets, one after the other
abbrev pub with_applied : ℕ → List Packet → History → History
with_applied s [] h = h
with_applied s (packet ∷ packets) h = with_applied s packets (Apply s packet ∷ h)

-- the history when a site applied all that it lacked, in the order of publishing
abbrev pub caught_up : History → ℕ → History
caught_up h s = with_applied s (lacked h s) h

-- the history when so many sites caught up, one after the other, site 1 first
abbrev pub finished : ℕ → History → History
finished zero h = h
finished (suc site) h = caught_up (finished site h) (suc site)

-- whether an entry is an answer or an application at the site
abbrev pub is_at : ℕ → Entry → Bool
is_at s (Answer session index request site at reply label packet) = s == site
is_at s (Apply site packet) = s == site
is_at s (Move session site) = false
