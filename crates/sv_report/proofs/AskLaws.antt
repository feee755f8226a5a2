-- An ask: what is prepared on a site's tables is answered as the definition says.
use Rattle.std.proofs.Common.{◌≡◌, ℕ, ◌-◌, List, [], ◌∷◌, ◌++◌, length, map, reverse, Option, Some, None, slice_get, refl, sym, ap, subst, ◌∙◌, arith}
use Rattle.std.proofs.lemmas.List.{reverse-append, length-reverse, get_or-set_same}
use Rattle.sv_value.specs.Cuts.{Covers}
use Rattle.sv_app.specs.declared.requests.Request.{Request}
use Rattle.sv_causal.specs.Missing.{IsFirstMissing}
use Rattle.sv_effect.specs.Agrees.{Agrees}
use Rattle.sv_effect.specs.BareTables.{bare}
use Rattle.sv_effect.specs.Reads.{read_of}
use Rattle.sv_core.specs.declared.answers.Commit.{Commit}
use Rattle.sv_core.specs.declared.answers.Commit.TheVariants as commits
use Rattle.sv_core.specs.declared.entries.Entry.{Entry}
use Rattle.sv_core.specs.declared.entries.Entry.TheVariants.{Answer as AnswerEntry}
use Rattle.sv_core.specs.declared.prepared.Prepared.{Prepared}
use Rattle.sv_core.specs.Document.{Document}
use Rattle.sv_core.specs.Events.{IsCommit, IsCurrent}
use Rattle.sv_core.specs.History.{History, answered, cut_of, seen_of, tables_at}
use Rattle.sv_core.specs.Judged.{IsJudged}
use Rattle.sv_core.specs.Laws.{IsLawful}
use Rattle.sv_core.specs.Legal.{IsNext, IsSession}
use Rattle.sv_core.specs.Made.{IsFor, IsListedAt, Made}
use Rattle.sv_core.specs.MediumState.{CanCommit, IsAwaited}
use Rattle.sv_core.specs.Mediums.{MediumView, Proposal, WorldView, doc_of, proposal_of, with_entry, with_proposal}
use Rattle.sv_core.specs.Runs.{run_of}
use Rattle.sv_core.proofs.Promises.{places_stand, places_valid}
use Rattle.sv_core.proofs.ToldLaws.{unchanged}
use Rattle.sv_report.specs.Lines.{pending_line, short_line, waiting_line}
use Rattle.sv_report.specs.ReplayText.{IsAsk, Waits, Lacks, Proposes, Answers, IsAskedNow, IsJudgedHere, here, proposed}
use Rattle.sv_report.specs.Steps.{IsReady, Stepped}
use Rattle.sv_report.specs.Told.{CanTell, commit_line, entry_line, waits_line}
use Rattle.sv_workload.specs.declared.parts.Step.TheVariants as steps

-- the newest entry is the last one in order
at_end : (entries : List Entry) (e : Entry) → slice_get (entries ++ e ∷ []) (length entries) ≡ Some e
at_end [] e = refl
at_end (x ∷ entries) e = at_end entries e

pub newest_stands : (h : History) (e : Entry) → slice_get (reverse (e ∷ h)) (length h) ≡ Some e
newest_stands h e =
    ap (λ l. slice_get l (length h)) (reverse-append (e ∷ []) h)
    ∙ ap (λ n. slice_get (reverse h ++ e ∷ []) n) (sym (length-reverse h))
    ∙ at_end (reverse h) e

-- the place of a session's operation that waits
pub proposal_set : (m : MediumView) (session : ℕ) (proposal : Option Proposal) → IsSession session → length m.proposals ≡ 64 → proposal_of (with_proposal m session proposal) session ≡ proposal
proposal_set m session proposal who long = get_or-set_same m.proposals (session - 1) proposal None (omega (arith, who.from, who.to, long))

-- what is prepared on the site's tables is ready for a commit
pub is_ready : (m : MediumView) (session site index : ℕ) (request : Request) (p : Prepared) → IsLawful (doc_of m) m.history → IsFor session site index request p → Made (doc_of m) p
    → site ≡ here m session → index ≡ answered m.history session → Agrees (bare (tables_at (doc_of m) m.history site)) (map read_of p.reads) → IsReady m p
is_ready m session site index request p lawful for made lives next agrees = record {
  made = made;
  lives = for.same_site ∙ lives ∙ ap (here m) (sym for.same_session);
  next = for.same_index ∙ next ∙ ap (answered m.history) (sym for.same_session);
  agrees = subst (λ s. Agrees (bare (tables_at (doc_of m) m.history s)) (map read_of p.reads)) (sym for.same_site) agrees;
  valid = places_valid (doc_of m) m.history 0 p.site lawful;
  stand = places_stand (doc_of m) m.history 0 p.site lawful;
}

pub can_commit : (m : MediumView) (p : Prepared) → IsReady m p → (doc_of m).sessions ≡ [] → IsAwaited m → CanCommit m p
can_commit m p ready unlisted awaited = record {
  made = ready.made;
  lives = ready.lives;
  listed = λ next listed. absurd (listed unlisted);
  awaited = λ free. awaited;
}

-- what comes of the commit of what is ready
pub can_tell : (m after : MediumView) (p : Prepared) (c : Commit) → IsReady m p → length m.proposals ≡ 64 → IsCommit m p c after → CanTell after p.session c
can_tell m after p (commits.NotNext back next) ready long (same, is, differs, stays) = differs (ready.next ∙ sym is)
can_tell m after p (commits.Waiting back index) ready long is = tt
can_tell m after p (commits.Short back missing) ready long is = tt
can_tell m after p (commits.Changed back read now) ready long (same, current, change, stays) =
    unchanged (bare (tables_at (doc_of m) m.history p.site)) (map read_of p.reads) read _ ready.agrees change
can_tell m after p (commits.Pending expected) ready long (unread, red, is, stays) =
    let proposal : Proposal = record { index = p.index; request = p.request; at = length m.history } in
    (proposal, ap (λ x. proposal_of x p.session) stays ∙ proposal_set m p.session (Some proposal) ready.made.who long)
can_tell m after p (commits.Answered place) ready long (unread, blue, adds) = record {
  index = p.index;
  request = p.request;
  site = p.site;
  at = length m.history;
  reply = adds.reply;
  label = adds.label;
  packet = adds.packet;
  stands = ap (λ x. slice_get (reverse x.history) place) adds.added ∙ ap (λ n. slice_get (reverse (entry ∷ m.history)) n) adds.stands ∙ newest_stands m.history entry;
}
  where
    entry : Entry
    entry = AnswerEntry p.session p.index p.request p.site (length m.history) adds.reply adds.label adds.packet

-- the judgement on what is ready
judged_here : (m : MediumView) (p : Prepared) → IsReady m p → IsJudgedHere m p.session p.request p.reply p.label
judged_here m p ready =
    subst (λ s. IsJudged (doc_of m).schema (bare (tables_at (doc_of m) m.history s))
    (run_of (doc_of m) p.session (answered m.history p.session) p.request (bare (tables_at (doc_of m) m.history s))) p.reply p.label) ready.lives
    (subst (λ n. IsJudged (doc_of m).schema (bare (tables_at (doc_of m) m.history p.site))
    (run_of (doc_of m) p.session n p.request (bare (tables_at (doc_of m) m.history p.site))) p.reply p.label) ready.next
    (ready.made.right (bare (tables_at (doc_of m) m.history p.site)) ready.valid ready.stand ready.agrees).judged)

asked_now : (m : MediumView) (p : Prepared) → IsReady m p → IsCurrent m p → IsAskedNow m p.session p.request p.reply p.label
asked_now m p ready current = record {
  none = current.free.none;
  covers = subst (λ s. Covers (cut_of m.history s) (seen_of m.history p.session)) ready.lives current.covers;
  judged = judged_here m p ready;
}

-- the commit of what is ready is an ask
pub is_ask : (m after : MediumView) (p : Prepared) (c : Commit) → IsReady m p → length m.proposals ≡ 64 → IsCommit m p c after → IsAsk m p.session p.request (commit_line after p.session c) after
is_ask m after p (commits.NotNext back next) ready long (same, is, differs, stays) = absurd (differs (ready.next ∙ sym is))
is_ask m after p (commits.Waiting back index) ready long (same, next, (proposal, waits, is), stays) =
    subst (λ a. IsAsk m p.session p.request (waiting_line index) a) (sym stays)
    (subst (λ n. IsAsk m p.session p.request (waiting_line n) m) (sym is) (Waits proposal waits))
is_ask m after p (commits.Short back missing) ready long (same, free, first, stays) =
    subst (λ a. IsAsk m p.session p.request (short_line missing) a) (sym stays)
    (Lacks missing free.none (subst (λ s. IsFirstMissing (cut_of m.history s) (seen_of m.history p.session) missing) ready.lives first))
is_ask m after p (commits.Changed back read now) ready long (same, current, change, stays) =
    absurd (unchanged (bare (tables_at (doc_of m) m.history p.site)) (map read_of p.reads) read _ ready.agrees change)
is_ask m after p (commits.Pending expected) ready long (unread, red, is, stays) =
    subst (λ a. IsAsk m p.session p.request (waits_line p.session (proposal_of a p.session) expected) a) (sym state)
    (subst (λ o. IsAsk m p.session p.request (waits_line p.session o expected) (proposed m p.session p.request)) (sym (proposal_set m p.session (Some proposal) ready.made.who long))
    (subst (λ n. IsAsk m p.session p.request (pending_line p.session (answered m.history p.session) n) (proposed m p.session p.request)) (sym reds)
    (Proposes p.reply p.label (asked_now m p ready unread.current) red)))
  where
    proposal : Proposal
    proposal = record { index = answered m.history p.session; request = p.request; at = length m.history }

    state : after ≡ proposed m p.session p.request
    state = stays ∙ ap (λ n. with_proposal m p.session (Some (record { index = n; request = p.request; at = length m.history }))) ready.next

    reds : expected ≡ cut_of m.history (here m p.session) 0
    reds = is ∙ ap (λ s. cut_of m.history s 0) ready.lives
is_ask m after p (commits.Answered place) ready long (unread, blue, adds) =
    subst (λ a. IsAsk m p.session p.request (entry_line (slice_get (reverse a.history) place)) a) (sym state)
    (subst (λ o. IsAsk m p.session p.request (entry_line o) (with_entry m entry)) (sym stands)
    (Answers p.reply adds.reply p.label adds.label adds.packet (asked_now m p ready unread.current) blue next))
  where
    made : ℕ → ℕ → Entry
    made index site = AnswerEntry p.session index p.request site (length m.history) adds.reply adds.label adds.packet

    entry : Entry
    entry = made (answered m.history p.session) (here m p.session)

    state : after ≡ with_entry m entry
    state = adds.added ∙ (λ i. with_entry m (made (ready.next i) (ready.lives i)))

    stands : slice_get (reverse (entry ∷ m.history)) place ≡ Some entry
    stands = ap (λ n. slice_get (reverse (entry ∷ m.history)) n) adds.stands ∙ newest_stands m.history entry

    next : IsNext (doc_of m) m.history entry
    next = subst (λ s. IsNext (doc_of m) m.history (made (answered m.history p.session) s)) ready.lives (subst (λ n. IsNext (doc_of m) m.history (made n p.site)) ready.next adds.next)

-- a step that asks
pub asks : (before now : List ℕ) (w next : WorldView) (session : ℕ) (request : Request) (p : Prepared) (c : Commit) → IsReady w.medium p → length w.medium.proposals ≡ 64
    → p.session ≡ session → p.request ≡ request → IsCommit w.medium p c next.medium → next.inboxes ≡ w.inboxes → now ≡ before ++ commit_line next.medium session c
    → Stepped before w (steps.Ask session request) now next
asks before now w next session request p c ready long whose asked commit stay grown = record {
  line = commit_line next.medium session c;
  is = (is, λ i. record { medium = next.medium; inboxes = stay i });
  grown = grown;
}
  where
    is : IsAsk w.medium session request (commit_line next.medium session c) next.medium
    is = subst (λ s. IsAsk w.medium s request (commit_line next.medium s c) next.medium) whose
        (subst (λ r. IsAsk w.medium p.session r (commit_line next.medium p.session c) next.medium) asked (is_ask w.medium next.medium p c ready long commit))

pub tells : (m after : MediumView) (session : ℕ) (p : Prepared) (c : Commit) → IsReady m p → length m.proposals ≡ 64 → p.session ≡ session → IsCommit m p c after → CanTell after session c
tells m after session p c ready long whose commit = subst (λ s. CanTell after s c) whose (can_tell m after p c ready long commit)

pub unlisted_at : (doc : Document) (session index : ℕ) (request : Request) → doc.sessions ≡ [] → IsListedAt doc session index request
unlisted_at doc session index request unlisted listed = absurd (listed unlisted)

pub ruleset preparing = (is_ready, unlisted_at)

pub ruleset asking = (asks, tells, can_commit)
