use Rattle.sv_live.proofs.ShareLaws.{office_sync}
use Rattle.std.proofs.Common.{rules, All}
use Rattle.std.proofs.lemmas.Result.{IfOk-weaker}
use Rattle.sv_core.specs.Document.{document_of}
use Rattle.sv_live.specs.Crews.{AllEnded, HasSeen}
use Rattle.sv_live.proofs.CrewLaws.{all_ended}
use Rattle.sv_core.proofs.SendLaws.{crossing}
use Rattle.sv_post.proofs.posts.PostPass.TheSendSync as mail
use Rattle.sv_live.proofs.crews.run_all.Goals as goal

pub map_vec-requires-send-J : goal.map_vec-requires-send-J
map_vec-requires-send-J g c κs within = search (mail.the_send, crossing) depth 60 fits 20000

pub map_vec-requires-send-X : goal.map_vec-requires-send-X
map_vec-requires-send-X g c κs within = search (crossing) depth 60 fits 20000

pub map_vec-requires-sync-F : goal.map_vec-requires-sync-F
map_vec-requires-sync-F g c κs within = let c = c.type_bounds in search (office_sync, crossing) depth 60 fits 20000

pub returns-clause-ended : goal.returns-clause-ended
returns-clause-ended g c =
    let office = c.args.office.now in
    let jobs = c.in_ok-jobs.field-0.jobs.items in
    let worked = c.in_ok-worked.worked.items in
    IfOk-weaker c.join_all.result (λ pass. All (HasSeen pass.seen) worked) (λ pass. AllEnded (document_of office.hub.name) pass.seen)
    (λ pass seen. all_ended office jobs worked pass.seen (search rules) (search rules) (search rules) (search rules) seen (search rules)
    (λ place d less. let it = (c.in_ok-worked.ensures.each place d less).1 in record { job = it.job; at = it.job_is; work = it.call.met }))
    c.join_all.ensures.seen
