use Rattle.sv_hub.specs.Extends.{Extends}
use Rattle.sv_hub.specs.Sight.{Belongs}
use Rattle.sv_post.specs.Sight.{Belongs as IsOfPost}
use Rattle.sv_core.specs.Document.{document_of}
use Rattle.sv_core.specs.Legal.{Legal}
use Rattle.sv_live.proofs.MailLaws.{IsSameBeside}
use Rattle.sv_live.proofs.deliveries.deliver_some.Given as goal

abbrev pub invariant-loop-taken : goal.invariant-loop-taken
invariant-loop-taken g l = record {
  own : Belongs l.fn.hub l.mine;
  seen : Extends l.mine.seen l.fn.pass.seen;
  legal : Legal (document_of l.fn.hub.name) l.mine.seen;
  mail : IsOfPost l.fn.post l.mail;
  others : IsSameBeside l.fn.site l.fn.mail l.mail;
}
