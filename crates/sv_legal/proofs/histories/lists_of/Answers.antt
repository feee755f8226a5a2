use Rattle.std.proofs.Common.{sym, ◌∙◌}
use Rattle.sv_core.specs.Document.{document_of}
use Rattle.sv_legal.proofs.PastLaws.{next_of}
use Rattle.sv_legal.proofs.histories.lists_of.Goals as goal

pub returns-then-not-branch-clause-legal : goal.returns-then-not-branch-clause-legal
returns-then-not-branch-clause-legal c = (
  λ no_test. absurd cc,
  λ legal. sym c.if-not-branch.true
      ∙ c.in_ok-step.ensures.next.1 (next_of (document_of c.args.doc.now) c.args.history.now c.loop-at.at c.index-history-at.result c.loop-at-test.true c.index-history-at.is legal),
)
