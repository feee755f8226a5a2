-- What was prepared may be answered or wait: nothing stands against it.
use Rattle.std.proofs.Common.{◌≡◌, ◌⊎◌, inl, inr, ℕ, zero, suc, ◌-◌, ◌<◌, ◌≤◌, false, List, [], ◌∷◌, All, length, set, get_or, take, map, Option, Some, None, slice_get, refl, sym, ap, subst, ◌∙◌, arith}
use Rattle.std.specs.Option.{option_map}
use Rattle.sv_value.specs.declared.cuts.Cut.{Cut as CodeCut}
use Rattle.sv_value.specs.declared.packets.Packet.{Packet}
use Rattle.sv_value.specs.Cuts.{counts, Covers}
use Rattle.sv_effect.specs.declared.ops.Op.{Op}
use Rattle.sv_effect.specs.Agrees.{Agrees}
use Rattle.sv_effect.specs.BareTables.{bare}
use Rattle.sv_effect.specs.Cut.{as_deps}
use Rattle.sv_effect.specs.Reads.{Answer as Told, read_of}
use Rattle.sv_effect.specs.TablesOfCut.{tables_of}
use Rattle.sv_threat.specs.declared.label.Label.{Label}
use Rattle.sv_threat.specs.declared.label.Label.TheVariants.{Nothing, Blue, Red}
use Rattle.sv_causal.specs.Missing.{IsMissing}
use Rattle.sv_core.specs.declared.prepared.Prepared.{Prepared}
use Rattle.sv_core.specs.declared.sessions.Proposal.{Proposal as KeptProposal}
use Rattle.sv_core.specs.declared.sites.SiteState.{SiteState}
use Rattle.sv_core.specs.Counts.{AddsShort}
use Rattle.sv_core.specs.Document.{Document}
use Rattle.sv_core.specs.Events.{AddsAnswer, IsCurrent, IsFirstChange, IsRed, IsUnchanged, expected_of}
use Rattle.sv_core.specs.History.{History, answered, back_to, cut_of, is_of, published, seen_of, site_of, tables_at}
use Rattle.sv_core.specs.Laws.{IsLawful}
use Rattle.sv_core.specs.Made.{IsRight}
use Rattle.sv_core.specs.Mediums.{MediumView, Proposal, doc_of, proposal_of, with_proposal}
use Rattle.sv_core.specs.MediumState.{CanAnswer, CanCommit, IsAwaited, IsDueNow, IsHeld, IsPending, shown}
use Rattle.sv_core.specs.Standing.{Stands}
use Rattle.sv_core.proofs.CutLaws.{order}
use Rattle.sv_core.proofs.HistoryLaws.{back_to_now, cut_since, within}
use Rattle.sv_core.proofs.KeepLaws.{no_index}
use Rattle.sv_core.proofs.ListLaws.{get_some}
use Rattle.sv_core.proofs.Promises.{places_stand, places_valid}

-- the site has all that the session has seen, where nothing of it is missing
pub current_of : (m : MediumView) (s : SiteState) (p : Prepared) (next : ℕ) (pending : Option ℕ) (seen : CodeCut) (missing : Option Packet) → Stands (doc_of m) m.history s → p.site ≡ s.site
    → next ≡ answered m.history p.session → p.index ≡ next → pending ≡ option_map (λ x. x.index) (proposal_of m p.session) → pending ≡ None
    → ((o : ℕ) → counts seen o ≡ seen_of m.history p.session o) → IsMissing (counts s.cut) (counts seen) missing → missing ≡ None → IsCurrent m p
current_of m s p next pending seen missing was is next_is index_is pending_is none seen_is missing_is nothing = record {
  free = record { next = index_is ∙ next_is; none = no_index (proposal_of m p.session) (sym pending_is ∙ none) };
  covers = subst (λ site. Covers (cut_of m.history site) (seen_of m.history p.session)) (sym is)
      (λ o. let c : counts seen o ≤ counts s.cut o = covers o in let a = seen_is o in let b = was.cut o in omega (arith, a, b, c));
}
  where
    covers : Covers (counts s.cut) (counts seen)
    covers = subst (IsMissing (counts s.cut) (counts seen)) nothing missing_is

-- what the site's store gives is what its tables give
pub unchanged_of : (m : MediumView) (s : SiteState) (p : Prepared) → Stands (doc_of m) m.history s → p.site ≡ s.site → IsCurrent m p → Agrees (bare s.rows.tables) (map read_of p.reads) → IsUnchanged m p
unchanged_of m s p was is current agrees = record {
  current = current;
  agrees = subst (λ site. Agrees (bare (tables_at (doc_of m) m.history site)) (map read_of p.reads)) (sym is) (subst (λ t. Agrees (bare t) (map read_of p.reads)) was.tables agrees);
}

pub change_of : (m : MediumView) (s : SiteState) (p : Prepared) (place : ℕ) (now : Told) → Stands (doc_of m) m.history s → p.site ≡ s.site
    → IsFirstChange (bare s.rows.tables) (map read_of p.reads) place now → IsFirstChange (bare (tables_at (doc_of m) m.history p.site)) (map read_of p.reads) place now
change_of m s p place now was is change =
    subst (λ site. IsFirstChange (bare (tables_at (doc_of m) m.history site)) (map read_of p.reads) place now) (sym is)
    (subst (λ t. IsFirstChange (bare t) (map read_of p.reads) place now) was.tables change)

-- it is held as it stands now
pub held_now : (m : MediumView) (s : SiteState) (p : Prepared) (at : ℕ) (deps : CodeCut) → Stands (doc_of m) m.history s → p.site ≡ s.site → CanCommit m p → IsUnchanged m p → at ≡ length m.history
    → deps ≡ as_deps (counts s.cut) → All AddsShort p.effects → IsHeld (doc_of m) m.history p.session (record { p = p; at = at; deps = deps })
held_now m s p at deps was is can un now deps_are short = record {
  whose = refl;
  next = un.current.free.next;
  lives = can.lives;
  made = can.made;
  listed = can.listed un.current.free.next;
  place = omega (arith, now);
  quiet = subst (λ n. All (λ e. is_of p.session e ≡ false) (take n m.history)) (sym gone) (λ k d lt. absurd (omega (arith, lt)));
  seen = subst (λ g. Covers (cut_of g p.site) (seen_of g p.session)) (sym back) un.current.covers;
  right = subst (λ g. IsRight (doc_of m) p (bare (tables_of (doc_of m).schema (doc_of m).init (published (doc_of m) m.history) (cut_of g p.site)))) (sym back)
      (can.made.right (bare (tables_at (doc_of m) m.history p.site)) (places_valid (doc_of m) m.history 0 p.site was.lawful) (places_stand (doc_of m) m.history 0 p.site was.lawful) un.agrees);
  deps = deps_are ∙ (λ i. as_deps (λ o. was.cut o i)) ∙ ap (λ site. as_deps (cut_of m.history site)) (sym is) ∙ ap (λ g. as_deps (cut_of g p.site)) (sym back);
  short = short;
}
  where
    gone : length m.history - at ≡ 0
    gone = omega (arith, now)

    back : back_to at m.history ≡ m.history
    back = back_to_now at m.history now

due_now : (doc : Document) (h : History) (site at : ℕ) (label : Label) → (IsRed label → ⊥) → at ≡ length h → IsDueNow doc h site at label
due_now doc h site at Nothing not now = now
due_now doc h site at Blue not now = now
due_now doc h site at (Red instance place reason) not now = absurd (not tt)

-- one that isn't red is answered at once
pub can_answer_now : (m : MediumView) (s : SiteState) (p : Prepared) (at : ℕ) (deps : CodeCut) → Stands (doc_of m) m.history s → p.site ≡ s.site → CanCommit m p → IsUnchanged m p → at ≡ length m.history
    → deps ≡ as_deps (counts s.cut) → All AddsShort p.effects → (IsRed p.label → ⊥) → CanAnswer m (record { p = p; at = at; deps = deps })
can_answer_now m s p at deps was is can un now deps_are short not = record {
  held = held_now m s p at deps was is can un now deps_are short;
  due = due_now (doc_of m) m.history p.site at p.label not now;
  none = un.current.free.none;
  awaited = can.awaited un.current.free;
}

red_due : (doc : Document) (h : History) (site at : ℕ) (label : Label) → IsRed label → cut_of (back_to at h) site 0 ≡ length (published doc h 0) → IsDueNow doc h site at label
red_due doc h site at Nothing red is = absurd red
red_due doc h site at Blue red is = absurd red
red_due doc h site at (Red instance place reason) red is = is

set_none : (ps : List (Option Proposal)) (i : ℕ) → get_or (set ps i None) i None ≡ None
set_none [] zero = refl
set_none [] (suc i) = refl
set_none (p ∷ ps) zero = refl
set_none (p ∷ ps) (suc i) = set_none ps i

-- no red operation was published since a proposal was made
pub all_reds : (m : MediumView) (proposal : KeptProposal) (session : ℕ) → IsLawful (doc_of m) m.history → IsPending (doc_of m) m.history session proposal
    → None ≡ slice_get (published (doc_of m) m.history 0) proposal.deps.reds → cut_of (back_to proposal.at m.history) proposal.p.site 0 ≡ length (published (doc_of m) m.history 0)
all_reds m proposal session lawful pending none = by (order (cut_of (back_to proposal.at m.history) proposal.p.site 0) (length (published (doc_of m) m.history 0)))
  where
    reds : proposal.deps.reds ≡ cut_of (back_to proposal.at m.history) proposal.p.site 0
    reds = ap (λ d. d.reds) pending.held.deps

    most : cut_of (back_to proposal.at m.history) proposal.p.site 0 ≤ length (published (doc_of m) m.history 0)
    most =
        let a : cut_of (back_to proposal.at m.history) proposal.p.site 0 ≤ cut_of m.history proposal.p.site 0 = cut_since (length m.history - proposal.at) m.history proposal.p.site 0 in
        let b : cut_of m.history proposal.p.site 0 ≤ length (published (doc_of m) m.history 0) = within (doc_of m) m.history lawful.legal proposal.p.site 0 in
        omega (arith, a, b)

    nothing : (op : Op) → None ≡ Some op → ⊥
    nothing op e = cc

    by : (cut_of (back_to proposal.at m.history) proposal.p.site 0 < length (published (doc_of m) m.history 0)) ⊎ (length (published (doc_of m) m.history 0) ≤ cut_of (back_to proposal.at m.history) proposal.p.site 0)
        → cut_of (back_to proposal.at m.history) proposal.p.site 0 ≡ length (published (doc_of m) m.history 0)
    by (inl lt) =
        let found = get_some (published (doc_of m) m.history 0) (cut_of (back_to proposal.at m.history) proposal.p.site 0) lt in
        absurd (nothing found.0 (none ∙ ap (slice_get (published (doc_of m) m.history 0)) reds ∙ found.1))
    by (inr le) = omega (arith, le, most)

-- the proposal that was taken may be answered
pub can_answer_pending : (m after : MediumView) (proposal : KeptProposal) (session : ℕ) → IsLawful (doc_of m) m.history → IsPending (doc_of m) m.history session proposal
    → after ≡ with_proposal m session None → IsAwaited after → None ≡ slice_get (published (doc_of m) m.history 0) proposal.deps.reds → CanAnswer after proposal
can_answer_pending m after proposal session lawful pending gone awaited none = record {
  held = subst (λ x. IsHeld (doc_of x) x.history proposal.p.session proposal) (sym gone) (subst (λ k. IsHeld (doc_of m) m.history k proposal) (sym pending.held.whose) pending.held);
  due = subst (λ x. IsDueNow (doc_of x) x.history proposal.p.site proposal.at proposal.p.label) (sym gone)
      (red_due (doc_of m) m.history proposal.p.site proposal.at proposal.p.label pending.red (all_reds m proposal session lawful pending none));
  none = subst (λ x. proposal_of x proposal.p.session ≡ None) (sym gone) (ap (λ k. get_or (set m.proposals (session - 1) None) (k - 1) None) pending.held.whose ∙ set_none m.proposals (session - 1));
  awaited = awaited;
}

-- and the answer is that of the session's proposal
pub record IsOrderedNow (m : MediumView) (session place : ℕ) (after : MediumView) : Type 0 where
  pub proposal : Proposal
  pub stands : proposal_of m session ≡ Some proposal
  pub due : expected_of m session proposal ≡ length (published (doc_of m) m.history 0)
  pub adds : AddsAnswer (with_proposal m session None) session proposal.index proposal.request (site_of (doc_of m) m.history session) proposal.at place after

pub ordered_now : (m taken after : MediumView) (proposal : KeptProposal) (session place : ℕ) (result : Option KeptProposal) → IsLawful (doc_of m) m.history → IsPending (doc_of m) m.history session proposal
    → shown result ≡ proposal_of m session → result ≡ Some proposal → taken ≡ with_proposal m session None → None ≡ slice_get (published (doc_of m) m.history 0) proposal.deps.reds
    → AddsAnswer taken proposal.p.session proposal.p.index proposal.p.request proposal.p.site proposal.at place after → IsOrderedNow m session place after
ordered_now m taken after proposal session place result lawful pending shows some gone none adds = record {
  proposal = record { index = proposal.p.index; request = proposal.p.request; at = proposal.at };
  stands = sym shows ∙ ap shown some;
  due = ap (λ site. cut_of (back_to proposal.at m.history) site 0) (sym pending.held.lives) ∙ all_reds m proposal session lawful pending none;
  adds = subst (λ x. AddsAnswer x session proposal.p.index proposal.p.request (site_of (doc_of m) m.history session) proposal.at place after) gone
      (subst (λ site. AddsAnswer taken session proposal.p.index proposal.p.request site proposal.at place after) pending.held.lives
      (subst (λ k. AddsAnswer taken k proposal.p.index proposal.p.request proposal.p.site proposal.at place after) pending.held.whose adds));
}

pub not_red : (label : Label) → (label ≡ Nothing) ⊎ (label ≡ Blue) → IsRed label → ⊥
not_red label (inl is) red = subst IsRed is red
not_red label (inr is) red = subst IsRed is red
