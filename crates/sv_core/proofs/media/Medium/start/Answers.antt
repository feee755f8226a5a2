use Rattle.std.proofs.Common.{◌≡◌, ◌+◌, ◌*◌, ◌≤◌, All, reverse, sym, ap, subst, ◌∙◌, arith}
use Rattle.std.specs.Vec.{vec_capacity}
use Rattle.sv_core.specs.Counts.{HasShortValues}
use Rattle.sv_core.specs.Document.{document_of}
use Rattle.sv_core.specs.MediumState.{AreFreshSessions, Keeps}
use Rattle.sv_core.proofs.StartLaws.{keeps_start, none_wait, nothing}
use Rattle.sv_core.proofs.media.Medium.start.Goals as goal

pub invariant_of-result : goal.invariant_of-result
invariant_of-result c =
    let doc = document_of c.args.doc.value in
    let short : All HasShortValues doc.init = subst (All HasShortValues) (c.items.ensures ∙ ap (λ d. d.init) c.deref.ensures) c.tell_short_rows.ensures in
    let none : c.in_ok-published.published ≡ nothing doc.asks = c.in_ok-published.ensures ∙ ap (λ d. nothing d.asks) c.deref-4.ensures in
    let fresh : AreFreshSessions doc 64 c.in_ok-sessions.sessions.items =
    subst (λ d. AreFreshSessions (document_of d) 64 c.in_ok-sessions.sessions.items) c.deref-5.ensures c.in_ok-sessions.ensures in
    let space : 9 * doc.asks + doc.moves ≤ vec_capacity c.in_ok-history.history =
    omega (arith, c.in_ok-history.ensures.exact, ap (λ d. d.asks) c.deref-2.ensures, ap (λ d. d.moves) c.deref-3.ensures) in
    record {
      sound = c.requires;
      fields = subst (λ h. Keeps doc h c.in_ok-published.published c.in_ok-sessions.sessions.items (vec_capacity c.in_ok-history.history))
          (sym (ap reverse c.in_ok-history.ensures.items))
          (keeps_start doc c.in_ok-published.published c.in_ok-sessions.sessions.items (vec_capacity c.in_ok-history.history) c.requires.document short none fresh space);
    }

pub returns : goal.returns
returns c =
    let fresh : AreFreshSessions (document_of c.args.doc.value) 64 c.in_ok-sessions.sessions.items =
    subst (λ d. AreFreshSessions (document_of d) 64 c.in_ok-sessions.sessions.items) c.deref-5.ensures c.in_ok-sessions.ensures in
    λ i. record {
      doc = c.args.doc.value;
      history = reverse (c.in_ok-history.ensures.items i);
      proposals = none_wait c.in_ok-sessions.sessions.items 64 fresh.long fresh.none i;
    }
