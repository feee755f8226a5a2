use Rattle.std.proofs.Common.{rules}
use Rattle.sv_live.proofs.CrewLaws.{seen_more}
use Rattle.sv_live.proofs.crews.join_all.Goals as goal

pub loop-pass-preserved : goal.loop-pass-preserved
loop-pass-preserved c = (
  search rules,
  search rules,
  c.join-joined.ensures.own,
  seen_more c.loop-pass.joined.seen c.join-joined.result.seen c.loop-pass.yielded c.in-Some.field-0 c.loop-pass.invariant.3 c.join-joined.ensures.seen.0 (search rules) (search rules),
)
