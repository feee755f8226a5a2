-- Parts of what may come next: that it is the session's turn at this site, that the session was answered nothing and didn't move since a place, and that a cut lacks a
-- packet and has its deps.
use Rattle.std.specs.Prelude.{◌≡◌, ℕ, ◌<◌, ◌≤◌, ◌-◌, not, Bool, false, All, length, take}
use Rattle.sv_value.specs.declared.packets.Packet.{Packet}
use Rattle.sv_value.specs.Cuts.{Covers, number, origin}
use Rattle.sv_effect.specs.Cut.{Cut}
use Rattle.sv_core.specs.declared.entries.Entry.{Entry}
use Rattle.sv_core.specs.Document.{Document}
use Rattle.sv_core.specs.History.{History, answered, answers, is_of, site_of}
use Rattle.sv_core.specs.Legal.{IsSession}

pub record IsTurn (doc : Document) (h : History) (session index site : ℕ) : Type 0 where
  pub who : IsSession session
  pub awaited : answers h < doc.asks
  pub next : index ≡ answered h session
  pub lives : site ≡ site_of doc h session

-- whether an entry is neither an answer nor a move of this session
abbrev pub is_other : ℕ → Entry → Bool
is_other session e = not (is_of session e)

abbrev pub IsQuietSince : History → ℕ → ℕ → Type 0
IsQuietSince h session at = All (λ e. is_of session e ≡ false) (take (length h - at) h)

pub record IsReady (cut : Cut) (packet : Packet) (deps : Cut) : Type 0 where
  pub lacks : cut (origin packet) ≤ number packet
  pub covers : Covers cut deps
