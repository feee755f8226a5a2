-- An answer that was prepared is given: its entry is the next one, and the site stands for the history with it.
use Rattle.std.proofs.Common.{◌≡◌, ◌⊎◌, inl, inr, ℕ, suc, ◌+◌, ◌<◌, ◌≤◌, ◌^◌, ◌∷◌, All, length, Some, None, slice_get, drop, ◌-◌, refl, sym, ap, subst, ◌∙◌, arith}
use Rattle.sv_value.specs.declared.packets.Packet.{Packet}
use Rattle.sv_value.specs.Cuts.{number, origin}
use Rattle.sv_app.specs.declared.requests.Request.{Request}
use Rattle.sv_app.specs.Schema.{schema_of}
use Rattle.sv_app.specs.Draws.{first_key}
use Rattle.sv_effect.specs.declared.ops.Op.{Op}
use Rattle.sv_effect.specs.BareTables.{bare}
use Rattle.sv_effect.specs.StampedTables.{StampedTables}
use Rattle.sv_safety.specs.Laws.{IsMade}
use Rattle.sv_safety.proofs.Promises as safety
use Rattle.sv_threat.specs.declared.label.Label.{Label}
use Rattle.sv_threat.specs.declared.label.Label.TheVariants.{Nothing}
use Rattle.sv_core.specs.declared.entries.Entry.TheVariants.{Answer}
use Rattle.sv_core.specs.declared.entries.Reply.{Reply}
use Rattle.sv_core.specs.declared.entries.Reply.TheVariants.{Full}
use Rattle.sv_core.specs.declared.entries.Which.{Which}
use Rattle.sv_core.specs.declared.sessions.Proposal.{Proposal}
use Rattle.sv_core.specs.declared.sites.SiteState.{SiteState}
use Rattle.sv_core.specs.Clock.{latest_in}
use Rattle.sv_core.specs.Counts.{AddsShort, AreShort}
use Rattle.sv_core.specs.History.{answers, cut_of, op_of, news, published, tables_then}
use Rattle.sv_core.specs.Laws.{IsCut, IsLawful}
use Rattle.sv_core.specs.Legal.{IsNext}
use Rattle.sv_core.specs.Mediums.{MediumView, doc_of, with_entry}
use Rattle.sv_core.specs.MediumState.{CanAnswer, packet_due}
use Rattle.sv_core.specs.Room.{lack_of}
use Rattle.sv_core.specs.Runs.{run_of}
use Rattle.sv_core.specs.Standing.{CanBring, IsBrought, Leaves, Stands}
use Rattle.sv_core.specs.WorldLaws.{IsFew}
use Rattle.sv_core.proofs.AnswerLaws.{due_full, due_nothing, due_packet, next_is, op_is}
use Rattle.sv_core.proofs.BirthLaws.{carried_is, had_all, past_closed, past_lies}
use Rattle.sv_core.proofs.FactLaws.{all_facts, stand}
use Rattle.sv_core.proofs.HistoryLaws.{cut_since, due_of, within}
use Rattle.sv_core.proofs.KeepLaws.{IsNews, is_news}
use Rattle.sv_core.proofs.MediumLaws.{news_get}
use Rattle.sv_core.proofs.RoomLaws.{all_few}
use Rattle.sv_core.proofs.StandLaws.{Rests, can_bring, comes_answered, rests_answered, stands_brought, stands_rest}

-- the operation that the history gives the answer
abbrev pub due_op : MediumView → Proposal → Op
due_op m proposal = op_of (doc_of m) (published (doc_of m) m.history) m.history proposal.p.session proposal.p.index proposal.p.request proposal.p.site proposal.at

awaits : (m : MediumView) (proposal : Proposal) → CanAnswer m proposal → answers m.history < (doc_of m).asks
awaits m proposal can = omega (arith, can.awaited)

-- the entry of an answer without changes, of one without room, and of one with its packet
pub next_nothing : (m : MediumView) (proposal : Proposal) → CanAnswer m proposal → proposal.p.label ≡ Nothing
    → IsNext (doc_of m) m.history (Answer proposal.p.session proposal.p.index proposal.p.request proposal.p.site proposal.at proposal.p.reply proposal.p.label None)
next_nothing m proposal can is =
    next_is (doc_of m) m.history proposal proposal.p.reply proposal.p.label None can.held (awaits m proposal can)
    (due_nothing (doc_of m) m.history proposal.p.site proposal.at (due_op m proposal) proposal.p.reply proposal.p.label can.due is)

op_of_held : (m : MediumView) (proposal : Proposal) (time : ℕ) → CanAnswer m proposal → (proposal.p.label ≡ Nothing → ⊥) → time ≡ latest_in (published (doc_of m) m.history) (cut_of m.history proposal.p.site)
    → due_op m proposal ≡ record { time = suc time; site = proposal.p.site; deps = proposal.deps; effects = proposal.p.effects; needs = proposal.p.needs }
op_of_held m proposal time can some latest = op_is (doc_of m) m.history proposal.p.session proposal time can.held some latest

effects_of_held : (m : MediumView) (proposal : Proposal) → CanAnswer m proposal → (proposal.p.label ≡ Nothing → ⊥) → (due_op m proposal).effects ≡ proposal.p.effects
effects_of_held m proposal can some =
    ap (λ o. o.effects) (op_of_held m proposal (latest_in (published (doc_of m) m.history) (cut_of m.history proposal.p.site)) can some refl)

pub next_full : (m : MediumView) (proposal : Proposal) (which : Which) (used : ℕ) → CanAnswer m proposal → (proposal.p.label ≡ Nothing → ⊥)
    → lack_of (doc_of m) (published (doc_of m) m.history) proposal.p.effects ≡ Some (record { which = which; used = used })
    → IsNext (doc_of m) m.history (Answer proposal.p.session proposal.p.index proposal.p.request proposal.p.site proposal.at (Full which used) Nothing None)
next_full m proposal which used can some lack =
    next_is (doc_of m) m.history proposal (Full which used) Nothing None can.held (awaits m proposal can)
    (due_full (doc_of m) m.history proposal.p.site proposal.at (due_op m proposal) proposal.p.reply proposal.p.label which used can.due some
    (ap (lack_of (doc_of m) (published (doc_of m) m.history)) (effects_of_held m proposal can some) ∙ lack))

pub packet_changes : (m : MediumView) (site : ℕ) (label : Label) (packet : Packet) → packet_due (doc_of m) m.history site label ≡ Some packet → label ≡ Nothing → ⊥
packet_changes m site label packet due is = none (sym due ∙ ap (packet_due (doc_of m) m.history site) is)
  where
    none : Some packet ≡ None → ⊥
    none e = cc

pub next_packet : (m : MediumView) (proposal : Proposal) (packet : Packet) → CanAnswer m proposal → packet_due (doc_of m) m.history proposal.p.site proposal.p.label ≡ Some packet
    → lack_of (doc_of m) (published (doc_of m) m.history) proposal.p.effects ≡ None
    → IsNext (doc_of m) m.history (Answer proposal.p.session proposal.p.index proposal.p.request proposal.p.site proposal.at proposal.p.reply proposal.p.label (Some packet))
next_packet m proposal packet can due lack =
    next_is (doc_of m) m.history proposal proposal.p.reply proposal.p.label (Some packet) can.held (awaits m proposal can)
    (due_packet (doc_of m) m.history proposal.p.site proposal.at (due_op m proposal) proposal.p.reply proposal.p.label packet can.due due
    (ap (lack_of (doc_of m) (published (doc_of m) m.history)) (effects_of_held m proposal can (packet_changes m proposal.p.site proposal.p.label packet due)) ∙ lack))

-- after an answer that publishes nothing the site stands
pub quiet_left : (m after : MediumView) (s : SiteState) (session index : ℕ) (request : Request) (site at : ℕ) (reply : Reply) (label : Label) → Stands (doc_of m) m.history s → site ≡ s.site
    → IsNext (doc_of m) m.history (Answer session index request site at reply label None) → after ≡ with_entry m (Answer session index request site at reply label None)
    → Leaves (doc_of after) after.history s s
quiet_left m after s session index request site at reply label was is next added = subst (λ x. Leaves (doc_of x) x.history s s) (sym added) (record {
  stands = stands_rest (doc_of m) (Answer session index request site at reply label None) m.history s (record { sound = was.lawful.sound; legal = (next, was.lawful.legal) })
      (subst (λ x. Rests (doc_of m) (Answer session index request x at reply label None) m.history s.site) (sym is) (rests_answered (doc_of m) m.history session index request s.site at reply label was.lawful.legal))
      was;
  site = refl;
  same_doc = refl;
})

-- the operation in code is that of the history
pub op_in_code : (m : MediumView) (s : SiteState) (proposal : Proposal) (packet : Packet) → Stands (doc_of m) m.history s → CanAnswer m proposal → proposal.p.site ≡ s.site
    → packet_due (doc_of m) m.history s.site proposal.p.label ≡ Some packet
    → record { time = s.latest + 1; site = proposal.p.site; deps = proposal.deps; effects = proposal.p.effects; needs = proposal.p.needs } ≡ due_op m proposal
op_in_code m s proposal packet was can is due =
    (λ i. record { time = later i; site = proposal.p.site; deps = proposal.deps; effects = proposal.p.effects; needs = proposal.p.needs })
    ∙ sym (op_of_held m proposal s.latest can (packet_changes m s.site proposal.p.label packet due) (was.latest ∙ ap (λ x. latest_in (published (doc_of m) m.history) (cut_of m.history x)) (sym is)))
  where
    later : s.latest + 1 ≡ suc s.latest
    later = omega arith

-- what an answer with a packet brings its site
pub record IsGiven (m : MediumView) (s : SiteState) (session index : ℕ) (request : Request) (at : ℕ) (reply : Reply) (label : Label) (packet : Packet) (op : Op) : Type 0 where
  pub lawful : IsLawful (doc_of m) (Answer session index request s.site at reply label (Some packet) ∷ m.history)
  pub short : AreShort (doc_of m) (published (doc_of m) (Answer session index request s.site at reply label (Some packet) ∷ m.history))
  pub get : slice_get (published (doc_of m) (Answer session index request s.site at reply label (Some packet) ∷ m.history) (origin packet)) (cut_of m.history s.site (origin packet)) ≡ Some op

pub given : (m : MediumView) (s : SiteState) (session index : ℕ) (request : Request) (at : ℕ) (reply : Reply) (label : Label) (packet : Packet) (op : Op) → Stands (doc_of m) m.history s
    → AreShort (doc_of m) (published (doc_of m) m.history) → IsNext (doc_of m) m.history (Answer session index request s.site at reply label (Some packet))
    → op ≡ op_of (doc_of m) (published (doc_of m) m.history) m.history session index request s.site at → All AddsShort op.effects → IsGiven m s session index request at reply label packet op
given m s session index request at reply label packet op was short next is adds = record {
  lawful = record { sound = was.lawful.sound; legal = (next, was.lawful.legal) };
  short = record {
    init = short.init;
    adds = λ o q x get. added o q x (news_get (news (doc_of m) (published (doc_of m) m.history) m.history (Answer session index request s.site at reply label (Some packet))) (published (doc_of m) m.history) o q x get);
  };
  get = ap (slice_get (published (doc_of m) (Answer session index request s.site at reply label (Some packet) ∷ m.history) (origin packet))) had ∙ n.stands;
}
  where
    n : IsNews (doc_of m) m.history session packet op (Answer session index request s.site at reply label (Some packet))
    n = is_news (doc_of m) m.history session packet op (Answer session index request s.site at reply label (Some packet)) next (refl, refl, is)

    had : cut_of m.history s.site (origin packet) ≡ number packet
    had =
        let had_then : cut_of (drop (length m.history - at) m.history) s.site (origin packet) ≡ length (published (doc_of m) m.history (origin packet)) =
        had_all (doc_of m) m.history session index request s.site at packet was.lawful.legal was.there.0 (due_of (doc_of m) m.history session index request s.site at reply label packet next) in
        let grown : cut_of (drop (length m.history - at) m.history) s.site (origin packet) ≤ cut_of m.history s.site (origin packet) = cut_since (length m.history - at) m.history s.site (origin packet) in
        let most : cut_of m.history s.site (origin packet) ≤ length (published (doc_of m) m.history (origin packet)) = within (doc_of m) m.history was.lawful.legal s.site (origin packet) in
        let is : number packet ≡ length (published (doc_of m) m.history (origin packet)) = n.number_is in
        omega (arith, had_then, grown, most, is)

    same_op : (a b : ℕ × Op) → Some a ≡ Some b → a.1 ≡ b.1
    same_op a b e = let same : a ≡ b = cc in ap (λ (p : ℕ × Op). p.1) same

    added : (o q : ℕ) (x : Op) → (slice_get (published (doc_of m) m.history o) q ≡ Some x)
        ⊎ ((q ≡ length (published (doc_of m) m.history o)) × (news (doc_of m) (published (doc_of m) m.history) m.history (Answer session index request s.site at reply label (Some packet)) ≡ Some (o, x)))
        → All AddsShort x.effects
    added o q x (inl old) = short.adds o q x old
    added o q x (inr both) = subst (λ y. All AddsShort y.effects) (same_op (origin packet, op) (o, x) (sym n.new ∙ both.1)) adds

pub given_can : (m : MediumView) (s : SiteState) (session index : ℕ) (request : Request) (at : ℕ) (reply : Reply) (label : Label) (packet : Packet) (op : Op) → Stands (doc_of m) m.history s
    → IsGiven m s session index request at reply label packet op → CanBring (schema_of s.doc.value.app.tables.items) packet op s
given_can m s session index request at reply label packet op was g =
    subst (λ d. CanBring d.schema packet op s) (sym was.made)
    (can_bring (doc_of m) (Answer session index request s.site at reply label (Some packet)) m.history packet op s g.lawful g.short was
    (comes_answered m.history session index request s.site at reply label packet) g.get)

pub given_left : (m after : MediumView) (s new : SiteState) (session index : ℕ) (request : Request) (at : ℕ) (reply : Reply) (label : Label) (packet : Packet) (op : Op) → Stands (doc_of m) m.history s
    → IsGiven m s session index request at reply label packet op → IsBrought (schema_of s.doc.value.app.tables.items) packet op s new
    → after ≡ with_entry m (Answer session index request s.site at reply label (Some packet)) → Leaves (doc_of after) after.history s new
given_left m after s new session index request at reply label packet op was g brought added = subst (λ x. Leaves (doc_of x) x.history s new) (sym added)
    (stands_brought (doc_of m) (Answer session index request s.site at reply label (Some packet)) m.history packet op s new g.lawful g.short was
    (comes_answered m.history session index request s.site at reply label packet) g.get (subst (λ d. IsBrought d.schema packet op s new) was.made brought))

-- a run makes at most 64 changes
pub few_held : (m : MediumView) (proposal : Proposal) → IsLawful (doc_of m) m.history → CanAnswer m proposal → (proposal.p.label ≡ Nothing → ⊥) → length proposal.p.effects ≤ 64
few_held m proposal lawful can some = subst (λ es. length es ≤ 64) (effects_of_held m proposal can some) made.fits.few
  where
    back : ℕ
    back = length m.history - proposal.at

    t : StampedTables
    t = tables_then (doc_of m) (published (doc_of m) m.history) m.history proposal.p.site proposal.at

    cut : IsCut (doc_of m) m.history (cut_of (drop back m.history) proposal.p.site)
    cut = record { lies = past_lies (doc_of m) back m.history lawful.legal proposal.p.site; closed = past_closed (doc_of m) back m.history lawful proposal.p.site }

    made : IsMade (doc_of m).schema (due_op m proposal)
    made = safety.runs_make_ops (doc_of m).schema (doc_of m).txns proposal.p.request (first_key proposal.p.session proposal.p.index) (bare t) (due_op m proposal)
        (record { accepted = lawful.sound.accepted; txn = can.held.made.asked.txn; among = can.held.made.asked.among; fits = can.held.made.asked.args })
        (safety.standing_fits (doc_of m).schema t lawful.sound.accepted.tables (stand (doc_of m) m.history lawful (all_facts (doc_of m) m.history lawful) (cut_of (drop back m.history) proposal.p.site) cut)).rows
        (record { changes = carried_is (run_of (doc_of m) proposal.p.session proposal.p.index proposal.p.request (bare t)).effects; needs = refl; time = omega arith })

-- the next time is a number of 64 bits
pub time_fits : (m : MediumView) (s : SiteState) → Stands (doc_of m) m.history s → s.latest + 1 < 2 ^ 32
time_fits m s was =
    let f : IsFew (doc_of m) m.history = all_few (doc_of m) m.history was.lawful in
    omega (arith, was.latest, f.latest s.site, f.long, f.asked, f.moved, was.lawful.sound.asks, was.lawful.sound.moves)

-- publishing what was prepared, under the packet that is due
pub publish_next : (m : MediumView) (s : SiteState) (proposal : Proposal) (packet : Packet) → CanAnswer m proposal → proposal.p.site ≡ s.site
    → packet_due (doc_of m) m.history s.site proposal.p.label ≡ Some packet → lack_of (doc_of m) (published (doc_of m) m.history) proposal.p.effects ≡ None
    → IsNext (doc_of m) m.history (Answer proposal.p.session proposal.p.index proposal.p.request proposal.p.site proposal.at proposal.p.reply proposal.p.label (Some packet))
publish_next m s proposal packet can is due lack =
    next_packet m proposal packet can (ap (λ site. packet_due (doc_of m) m.history site proposal.p.label) is ∙ due) lack

pub publish_given : (m : MediumView) (s : SiteState) (proposal : Proposal) (packet : Packet) → Stands (doc_of m) m.history s → AreShort (doc_of m) (published (doc_of m) m.history)
    → CanAnswer m proposal → proposal.p.site ≡ s.site → packet_due (doc_of m) m.history s.site proposal.p.label ≡ Some packet
    → lack_of (doc_of m) (published (doc_of m) m.history) proposal.p.effects ≡ None
    → IsGiven m s proposal.p.session proposal.p.index proposal.p.request proposal.at proposal.p.reply proposal.p.label packet
    (record { time = s.latest + 1; site = proposal.p.site; deps = proposal.deps; effects = proposal.p.effects; needs = proposal.p.needs })
publish_given m s proposal packet was short can is due lack =
    given m s proposal.p.session proposal.p.index proposal.p.request proposal.at proposal.p.reply proposal.p.label packet
    (record { time = s.latest + 1; site = proposal.p.site; deps = proposal.deps; effects = proposal.p.effects; needs = proposal.p.needs }) was short
    (subst (λ site. IsNext (doc_of m) m.history (Answer proposal.p.session proposal.p.index proposal.p.request site proposal.at proposal.p.reply proposal.p.label (Some packet))) is
    (publish_next m s proposal packet can is due lack))
    (op_in_code m s proposal packet was can is due
    ∙ ap (λ site. op_of (doc_of m) (published (doc_of m) m.history) m.history proposal.p.session proposal.p.index proposal.p.request site proposal.at) is)
    can.held.short
