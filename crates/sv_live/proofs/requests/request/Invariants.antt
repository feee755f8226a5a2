use Rattle.sv_hub.specs.Extends.{Extends}
use Rattle.sv_hub.specs.Sight.{Belongs}
use Rattle.sv_post.specs.Sight.{Belongs as IsOfPost, IsLater}
use Rattle.sv_live.proofs.requests.request.Given as goal

abbrev pub invariant-loop : goal.invariant-loop
invariant-loop g l = record {
  own : Belongs l.fn.hub l.mine;
  seen : Extends l.mine.seen l.fn.pass.seen;
  mail : IsOfPost l.fn.post l.mail;
  later : IsLater l.fn.mail l.mail;
}
