use Rattle.std.proofs.Common.{◌≡◌}
use Rattle.sv_hub.specs.Sight.{Belongs}
use Rattle.sv_post.specs.Sight.{Belongs as IsPassOf}
use Rattle.sv_core.specs.Document.{document_of}
use Rattle.sv_live.proofs.CrewLaws.{AreLeft}
use Rattle.sv_live.proofs.crews.answer_all.Given as goal

abbrev pub invariant-loop : goal.invariant-loop
invariant-loop g l =
    (goal.iterator-loop g).can_next l.iterator' × (goal.iterator-loop g).is_finite l.iterator'
    × Belongs l.fn.office.hub l.pass
    × IsPassOf l.fn.office.post l.mail
    × AreLeft (document_of l.fn.office.hub.name) l.fn.sessions.items l.pass.seen l.left.items
