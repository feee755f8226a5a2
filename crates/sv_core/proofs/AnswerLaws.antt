-- What was prepared may be answered: the entry is the next one, and its operation is that of the history.
use Rattle.std.proofs.Common.{◌≡◌, ℕ, suc, ◌<◌, List, [], ◌∷◌, length, map, Option, Some, None, slice_get, refl, sym, ap, subst, ◌∙◌}
use Rattle.sv_value.specs.declared.packets.Packet.{Packet}
use Rattle.sv_value.specs.declared.packets.Packet.TheVariants as packets
use Rattle.sv_app.specs.Schema.{Declaration}
use Rattle.sv_app.specs.Tables.{Tables}
use Rattle.sv_effect.specs.declared.ops.Need.{Need}
use Rattle.sv_effect.specs.declared.ops.Op.{Op}
use Rattle.sv_effect.specs.declared.ops.RowEffect.{RowEffect}
use Rattle.sv_effect.specs.BareTables.{bare}
use Rattle.sv_effect.specs.Run.{RunResult}
use Rattle.sv_effect.specs.RunChanges.{Effect, effect_of}
use Rattle.sv_threat.specs.declared.label.Label.{Label}
use Rattle.sv_threat.specs.declared.label.Label.TheVariants.{Nothing, Blue, Red}
use Rattle.sv_threat.specs.Labels.{IsLabel}
use Rattle.sv_core.specs.declared.entries.Entry.TheVariants.{Answer}
use Rattle.sv_core.specs.declared.entries.Reply.{Reply}
use Rattle.sv_core.specs.declared.entries.Reply.TheVariants.{Ran, Refused, Full}
use Rattle.sv_core.specs.declared.entries.Which.{Which}
use Rattle.sv_core.specs.declared.sessions.Proposal.{Proposal}
use Rattle.sv_core.specs.Clock.{latest_in}
use Rattle.sv_core.specs.Document.{Document}
use Rattle.sv_core.specs.History.{History, answers, cut_of, op_of, published, tables_then}
use Rattle.sv_core.specs.Judged.{IsReply, made_by}
use Rattle.sv_core.specs.Legal.{IsDue, IsNext, Shows}
use Rattle.sv_core.specs.Made.{NeedsOf}
use Rattle.sv_core.specs.MediumState.{IsDueNow, IsHeld, packet_due}
use Rattle.sv_core.specs.Room.{Lack, lack_of}
use Rattle.sv_core.specs.Runs.{carried, run_of}

carried_back : (es : List RowEffect) → map carried (map effect_of es) ≡ es
carried_back [] = refl
carried_back (e ∷ es) = ap (λ xs. e ∷ xs) (carried_back es)

-- the changes and the needs of the run, where there are changes
record AreOf (ran : RunResult) (effects : List RowEffect) (needs : List Need) : Type 0 where
  changes : map carried ran.effects ≡ effects
  wants : ran.needs ≡ needs

made_are : (schema : List Declaration) (t : Tables) (ran : RunResult) (reply : Reply) (label : Label) (effects : List RowEffect) (needs : List Need) → IsReply schema t ran reply
    → IsLabel schema (made_by reply ran.effects) label → map effect_of effects ≡ made_by reply ran.effects → NeedsOf reply ran.needs needs → (label ≡ Nothing → ⊥) → AreOf ran effects needs
made_are schema t ran (Ran outcome) label effects needs replied labelled are need some = record { changes = ap (map carried) (sym are) ∙ carried_back effects; wants = sym need }
made_are schema t ran (Refused inv) label effects needs replied labelled are need some = absurd (some (none label labelled))
  where
    no_change : (number : ℕ) (e : Effect) → slice_get [] number ≡ Some e → ⊥
    no_change number e get = cc

    none : (label : Label) → IsLabel schema [] label → label ≡ Nothing
    none Nothing is = refl
    none Blue is = absurd (is.0 refl)
    none (Red instance place reason) is = absurd (no_change is.threat.number is.threat.e is.threat.at)
made_are schema t ran (Full which used) label effects needs replied labelled are need some = absurd replied

-- the operation of the entry
pub op_is : (doc : Document) (h : History) (session : ℕ) (proposal : Proposal) (time : ℕ) → IsHeld doc h session proposal → (proposal.p.label ≡ Nothing → ⊥)
    → time ≡ latest_in (published doc h) (cut_of h proposal.p.site)
    → op_of doc (published doc h) h proposal.p.session proposal.p.index proposal.p.request proposal.p.site proposal.at
    ≡ record { time = suc time; site = proposal.p.site; deps = proposal.deps; effects = proposal.p.effects; needs = proposal.p.needs }
op_is doc h session proposal time held some latest = λ i. record {
  time = suc (sym latest i);
  site = proposal.p.site;
  deps = sym held.deps i;
  effects = are.changes i;
  needs = are.wants i;
}
  where
    t : Tables
    t = bare (tables_then doc (published doc h) h proposal.p.site proposal.at)

    are : AreOf (run_of doc proposal.p.session proposal.p.index proposal.p.request t) proposal.p.effects proposal.p.needs
    are = made_are doc.schema t (run_of doc proposal.p.session proposal.p.index proposal.p.request t) proposal.p.reply proposal.p.label proposal.p.effects proposal.p.needs
        held.right.judged.replied held.right.judged.labelled held.right.effects held.right.needs some

-- the entry that shows what is due is the next one
pub next_is : (doc : Document) (h : History) (proposal : Proposal) (reply : Reply) (shown : Label) (packet : Option Packet) → IsHeld doc h proposal.p.session proposal → answers h < doc.asks
    → IsDue doc h proposal.p.site proposal.at (op_of doc (published doc h) h proposal.p.session proposal.p.index proposal.p.request proposal.p.site proposal.at) proposal.p.reply proposal.p.label reply shown packet
    → IsNext doc h (Answer proposal.p.session proposal.p.index proposal.p.request proposal.p.site proposal.at reply shown packet)
next_is doc h proposal reply shown packet held awaited due = record {
  asked = record {
    who = held.made.who;
    awaited = awaited;
    next = held.next;
    lives = held.lives;
    fits = held.made.asked;
    listed = held.listed;
    place = held.place;
    quiet = held.quiet;
    seen = held.seen;
  };
  given = record { judged = proposal.p.reply; label = proposal.p.label; right = held.right.judged; due = due };
}

-- what is due without changes
pub due_nothing : (doc : Document) (h : History) (site at : ℕ) (op : Op) (reply : Reply) (label : Label) → IsDueNow doc h site at label → label ≡ Nothing → IsDue doc h site at op reply label reply label None
due_nothing doc h site at op reply Nothing now is = (now, refl, refl, refl)
due_nothing doc h site at op reply Blue now is = absurd cc
due_nothing doc h site at op reply (Red instance place reason) now is = absurd cc

-- and without room
shows_full : (lack : Option Lack) (which : Which) (used : ℕ) (reply : Reply) (label : Label) (due : Packet) → lack ≡ Some (record { which = which; used = used })
    → Shows lack reply label due (Full which used) Nothing None
shows_full lack which used reply label due is = subst (λ l. Shows l reply label due (Full which used) Nothing None) (sym is) (refl, refl, refl)

pub due_full : (doc : Document) (h : History) (site at : ℕ) (op : Op) (reply : Reply) (label : Label) (which : Which) (used : ℕ) → IsDueNow doc h site at label → (label ≡ Nothing → ⊥)
    → lack_of doc (published doc h) op.effects ≡ Some (record { which = which; used = used }) → IsDue doc h site at op reply label (Full which used) Nothing None
due_full doc h site at op reply Nothing which used now some lack = absurd (some refl)
due_full doc h site at op reply Blue which used now some lack = (now, shows_full (lack_of doc (published doc h) op.effects) which used reply Blue (packets.Blue site (length (published doc h site))) lack)
due_full doc h site at op reply (Red instance place reason) which used now some lack =
    (now, shows_full (lack_of doc (published doc h) op.effects) which used reply (Red instance place reason) (packets.Red (length (published doc h 0))) lack)

-- and with room
shows_packet : (lack : Option Lack) (reply : Reply) (label : Label) (due packet : Packet) → lack ≡ None → Some due ≡ Some packet → Shows lack reply label due reply label (Some packet)
shows_packet lack reply label due packet is same = subst (λ l. Shows l reply label due reply label (Some packet)) (sym is) (refl, refl, sym same)

pub due_packet : (doc : Document) (h : History) (site at : ℕ) (op : Op) (reply : Reply) (label : Label) (packet : Packet) → IsDueNow doc h site at label
    → packet_due doc h site label ≡ Some packet → lack_of doc (published doc h) op.effects ≡ None → IsDue doc h site at op reply label reply label (Some packet)
due_packet doc h site at op reply Nothing packet now due lack = absurd cc
due_packet doc h site at op reply Blue packet now due lack =
    (now, shows_packet (lack_of doc (published doc h) op.effects) reply Blue (packets.Blue site (length (published doc h site))) packet lack due)
due_packet doc h site at op reply (Red instance place reason) packet now due lack =
    (now, shows_packet (lack_of doc (published doc h) op.effects) reply (Red instance place reason) (packets.Red (length (published doc h 0))) packet lack due)
