-- What was prepared on a site's tables at a place is what the history has an answer show and publish.
use Rattle.std.proofs.Common.{◌≡◌, ℕ, suc, ◌+◌, List, [], ◌∷◌, length, map, Option, Some, None, slice_get, refl, sym, ap, subst, ◌∙◌, arith}
use Rattle.sv_value.specs.declared.cuts.Cut.{Cut as CodeCut}
use Rattle.sv_value.specs.declared.packets.Packet.{Packet}
use Rattle.sv_value.specs.declared.packets.Packet.TheVariants as packets
use Rattle.sv_value.specs.Cuts.{counts, origin}
use Rattle.sv_app.specs.declared.requests.Request.{Request}
use Rattle.sv_app.specs.Schema.{Declaration}
use Rattle.sv_app.specs.Tables.{Tables}
use Rattle.sv_app.specs.Valid.{Valid}
use Rattle.sv_effect.specs.declared.ops.Need.{Need}
use Rattle.sv_effect.specs.declared.ops.Op.{Op}
use Rattle.sv_effect.specs.declared.ops.RowEffect.{RowEffect}
use Rattle.sv_effect.specs.Agrees.{Agrees}
use Rattle.sv_effect.specs.BareTables.{bare}
use Rattle.sv_effect.specs.Reads.{read_of}
use Rattle.sv_effect.specs.Run.{RunResult}
use Rattle.sv_effect.specs.RunChanges.{Effect, effect_of}
use Rattle.sv_threat.specs.declared.label.Label.{Label}
use Rattle.sv_threat.specs.declared.label.Label.TheVariants.{Nothing, Blue, Red}
use Rattle.sv_threat.specs.Labels.{IsLabel}
use Rattle.sv_core.specs.declared.entries.Entry.TheVariants.{Answer}
use Rattle.sv_core.specs.declared.entries.Reply.{Reply}
use Rattle.sv_core.specs.declared.entries.Reply.TheVariants.{Ran, Refused, Full}
use Rattle.sv_core.specs.declared.prepared.Prepared.{Prepared}
use Rattle.sv_core.specs.Clock.{latest_in}
use Rattle.sv_core.specs.Document.{Document}
use Rattle.sv_core.specs.History.{History, back_to, cut_of, news, op_of, published, run_then, tables_then}
use Rattle.sv_core.specs.Judged.{IsJudged, IsReply, made_by}
use Rattle.sv_trace.specs.Laws.{RowsAreOf}
use Rattle.sv_core.specs.Laws.{AreOne}
use Rattle.sv_core.specs.Legal.{IsAnswer, IsAsked, IsDue, Shows}
use Rattle.sv_core.specs.Made.{IsFor, IsRight, Made, NeedsOf}
use Rattle.sv_core.specs.Room.{lack_of}
use Rattle.sv_core.specs.Runs.{carried, run_of}
use Rattle.sv_core.proofs.CutLaws.{deps_are}
use Rattle.sv_core.proofs.HistoryLaws.{none_some}
use Rattle.sv_core.proofs.JudgedLaws.{judged_once}
use Rattle.sv_legal.specs.Findings.{IsPrepared, op_making}

-- what was prepared on tables that are those of the place
pub prepared_is : (doc : Document) (h : History) (session index : ℕ) (request : Request) (site at : ℕ) (p : Prepared) (t : Tables) → IsFor session site index request p → Made doc p
    → t ≡ bare (tables_then doc (published doc h) h site at) → Valid doc.schema (bare (tables_then doc (published doc h) h site at)) → RowsAreOf doc.schema (bare (tables_then doc (published doc h) h site at))
    → Agrees t (map read_of p.reads) → IsPrepared doc h session index request site at p
prepared_is doc h session index request site at p t for made is valid rows agrees = record {
  judged = subst (λ (x : Tables × RunResult). IsJudged doc.schema x.0 x.1 p.reply p.label) (λ i. (is i, runs i)) r.judged;
  effects = r.effects ∙ ap (λ (x : RunResult). made_by p.reply x.effects) runs;
  needs = subst (λ (x : RunResult). NeedsOf p.reply x.needs p.needs) runs r.needs;
}
  where
    r : IsRight doc p t
    r = made.right t (subst (Valid doc.schema) (sym is) valid) (subst (RowsAreOf doc.schema) (sym is) rows) agrees

    runs : run_of doc p.session p.index p.request t ≡ run_then doc (published doc h) h session index request site at
    runs = λ i. run_of doc (for.same_session i) (for.same_index i) (for.same_request i) (is i)

-- the changes and the needs of the run, where there are changes
carried_back : (es : List RowEffect) → map carried (map effect_of es) ≡ es
carried_back [] = refl
carried_back (e ∷ es) = ap (λ xs. e ∷ xs) (carried_back es)

-- the changes and the needs of the run
record AreOf (ran : RunResult) (effects : List RowEffect) (needs : List Need) : Type 0 where
  changes : map carried ran.effects ≡ effects
  wants : ran.needs ≡ needs

made_are : (schema : List Declaration) (t : Tables) (ran : RunResult) (reply : Reply) (label : Label) (effects : List RowEffect) (needs : List Need) → IsReply schema t ran reply
    → IsLabel schema (made_by reply ran.effects) label → map effect_of effects ≡ made_by reply ran.effects → NeedsOf reply ran.needs needs → (label ≡ Nothing → ⊥) → AreOf ran effects needs
made_are schema t ran (Ran outcome) label effects needs replied labelled are need some = record { changes = ap (map carried) (sym are) ∙ carried_back effects; wants = sym need }
made_are schema t ran (Refused inv) label effects needs replied labelled are need some = absurd (some (none label labelled))
  where
    no_change : (number : ℕ) (e : Effect) → slice_get [] number ≡ Some e → ⊥
    no_change number e get = cc

    none : (label : Label) → IsLabel schema [] label → label ≡ Nothing
    none Nothing is = refl
    none Blue is = absurd (is.0 refl)
    none (Red instance place reason) is = absurd (no_change is.threat.number is.threat.e is.threat.at)
made_are schema t ran (Full which used) label effects needs replied labelled are need some = absurd replied

are_of : (doc : Document) (h : History) (session index : ℕ) (request : Request) (site at : ℕ) (p : Prepared) → IsPrepared doc h session index request site at p → (p.label ≡ Nothing → ⊥)
    → AreOf (run_then doc (published doc h) h session index request site at) p.effects p.needs
are_of doc h session index request site at p is some =
    made_are doc.schema (bare (tables_then doc (published doc h) h site at)) (run_then doc (published doc h) h session index request site at) p.reply p.label p.effects p.needs
    is.judged.replied is.judged.labelled is.effects is.needs some

-- what is due depends on the changes alone, and on nothing where there are none
due_making : (doc : Document) (h : History) (site at : ℕ) (a b : Op) (judged : Reply) (label : Label) (reply : Reply) (shown : Label) (packet : Option Packet)
    → ((label ≡ Nothing → ⊥) → a.effects ≡ b.effects) → IsDue doc h site at a judged label reply shown packet → IsDue doc h site at b judged label reply shown packet
due_making doc h site at a b judged Nothing reply shown packet same due = due
due_making doc h site at a b judged Blue reply shown packet same due =
    (due.0, subst (λ es. Shows (lack_of doc (published doc h) es) judged Blue (packets.Blue site (length (published doc h site))) reply shown packet) (same (λ none. cc)) due.1)
due_making doc h site at a b judged (Red instance place reason) reply shown packet same due =
    (due.0, subst (λ es. Shows (lack_of doc (published doc h) es) judged (Red instance place reason) (packets.Red (length (published doc h 0))) reply shown packet) (same (λ none. cc)) due.1)

-- an answer that shows what is due of what was prepared
pub answers : (doc : Document) (h : History) (session index : ℕ) (request : Request) (site at : ℕ) (reply : Reply) (shown : Label) (packet : Option Packet) (p : Prepared)
    → IsAsked doc h session index request site at → IsPrepared doc h session index request site at p → IsDue doc h site at (op_making p.effects) p.reply p.label reply shown packet
    → IsAnswer doc h session index request site at reply shown packet
answers doc h session index request site at reply shown packet p asked is due = record {
  asked = asked;
  given = record {
    judged = p.reply;
    label = p.label;
    right = is.judged;
    due = due_making doc h site at (op_making p.effects) (op_of doc (published doc h) h session index request site at) p.reply p.label reply shown packet
        (λ some. sym (are_of doc h session index request site at p is some).changes) due;
  };
}

-- and every other one isn't the next
pub shows : (doc : Document) (h : History) (session index : ℕ) (request : Request) (site at : ℕ) (reply : Reply) (shown : Label) (packet : Option Packet) (p : Prepared)
    → IsPrepared doc h session index request site at p → IsAnswer doc h session index request site at reply shown packet
    → IsDue doc h site at (op_making p.effects) p.reply p.label reply shown packet
shows doc h session index request site at reply shown packet p is answer =
    due_making doc h site at (op_of doc (published doc h) h session index request site at) (op_making p.effects) p.reply p.label reply shown packet
    (λ some. (are_of doc h session index request site at p is some).changes)
    (subst (λ (x : Reply × Label). IsDue doc h site at (op_of doc (published doc h) h session index request site at) x.0 x.1 reply shown packet) (λ i. (one.replies i, one.labels i)) answer.given.due)
  where
    one : AreOne answer.given.judged p.reply answer.given.label p.label
    one = judged_once doc.schema (bare (tables_then doc (published doc h) h site at)) (run_then doc (published doc h) h session index request site at)
        answer.given.judged p.reply answer.given.label p.label answer.given.right is.judged

-- an answer with a packet makes changes
pub due_changes : (doc : Document) (h : History) (site at : ℕ) (op : Op) (judged : Reply) (label : Label) (reply : Reply) (shown : Label) (packet : Packet)
    → IsDue doc h site at op judged label reply shown (Some packet) → label ≡ Nothing → ⊥
due_changes doc h site at op judged Nothing reply shown packet due is = none_some packet due.3
due_changes doc h site at op judged Blue reply shown packet due is = cc
due_changes doc h site at op judged (Red instance place reason) reply shown packet due is = cc

-- its operation
pub op_is : (doc : Document) (h : History) (session index : ℕ) (request : Request) (site at time : ℕ) (deps : CodeCut) (p : Prepared) → IsPrepared doc h session index request site at p
    → (p.label ≡ Nothing → ⊥) → time ≡ latest_in (published doc h) (cut_of h site) → length deps.blue ≡ 8 → ((o : ℕ) → counts deps o ≡ cut_of (back_to at h) site o)
    → record { time = time + 1; site = site; deps = deps; effects = p.effects; needs = p.needs } ≡ op_of doc (published doc h) h session index request site at
op_is doc h session index request site at time deps p is some latest long each = λ i. record {
  time = (up ∙ ap suc latest) i;
  site = site;
  deps = deps_are deps (cut_of (back_to at h) site) long each i;
  effects = sym are.changes i;
  needs = sym are.wants i;
}
  where
    up : time + 1 ≡ suc time
    up = omega arith

    are : AreOf (run_then doc (published doc h) h session index request site at) p.effects p.needs
    are = are_of doc h session index request site at p is some

-- what an answer publishes
pub silent : (doc : Document) (h : History) (session index : ℕ) (request : Request) (site at : ℕ) (reply : Reply) (shown : Label) (packet : Option Packet) → packet ≡ None
    → news doc (published doc h) h (Answer session index request site at reply shown packet) ≡ None
silent doc h session index request site at reply shown packet is = ap (λ x. news doc (published doc h) h (Answer session index request site at reply shown x)) is

pub publishes : (doc : Document) (h : History) (session index : ℕ) (request : Request) (site at : ℕ) (reply : Reply) (shown : Label) (packet : Option Packet) (due : Packet) (op : Op)
    → packet ≡ Some due → op ≡ op_of doc (published doc h) h session index request site at
    → news doc (published doc h) h (Answer session index request site at reply shown packet) ≡ Some (origin due, op)
publishes doc h session index request site at reply shown packet due op is same =
    ap (λ x. news doc (published doc h) h (Answer session index request site at reply shown x)) is ∙ (λ i. Some (origin due, sym same i))
