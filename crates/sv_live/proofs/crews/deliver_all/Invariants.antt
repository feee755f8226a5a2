use Rattle.sv_hub.specs.Sight.{Belongs}
use Rattle.sv_post.specs.Sight.{Belongs as IsPassOf}
use Rattle.sv_live.proofs.crews.deliver_all.Given as goal

abbrev pub invariant-loop : goal.invariant-loop
invariant-loop g l =
    (goal.iterator-loop g).can_next l.iterator' × (goal.iterator-loop g).is_finite l.iterator'
    × Belongs l.fn.office.hub l.pass
    × IsPassOf l.fn.office.post l.mail
