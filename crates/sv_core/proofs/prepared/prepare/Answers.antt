use Rattle.std.proofs.Common.{rules}
use Rattle.sv_core.proofs.PreparedLaws as prepared
use Rattle.sv_core.proofs.prepared.prepare.Goals as goal

pub returns-clause-made : goal.returns-clause-made
returns-clause-made g c right = prepared.made c.args.doc.now c.args.session c.args.site c.args.index c.args.request.now c.in_ok-request.request _ c.in_ok-reply.field-0 c.from_vec.result _ _ _ _
    (search rules) (search rules) c.requires.session c.requires.site c.requires.fits c.requires.listed (search rules) (search rules) (search rules) right c.in_ok-reply.ensures.followed

pub returns-clause-decided : goal.returns-clause-decided
returns-clause-decided g c = prepared.decided c.args.doc.now c.args.session c.args.site c.args.index c.in_ok-request.request _ c.in_ok-reply.field-0 c.from_vec.result _ _ _ _
    (search rules) (search rules) (search rules) c.in_ok-reply.ensures.followed
