use Rattle.std.proofs.Common.{◌≡◌, All}
use Rattle.sv_hub.specs.Sight.{Belongs}
use Rattle.sv_live.specs.Crews.{HasSeen}
use Rattle.sv_live.proofs.crews.join_all.Given as goal

abbrev pub invariant-loop-pass : goal.invariant-loop-pass
invariant-loop-pass l =
    (goal.iterator-loop-pass).can_next l.pass-iterator × (goal.iterator-loop-pass).is_finite l.pass-iterator
    × Belongs l.fn.office.hub l.joined
    × All (HasSeen l.joined.seen) l.yielded
