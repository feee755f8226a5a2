-- What workers share may be used by several threads.
use denote.Param.Send.{IsSync}
use Rattle.std.proofs.sync.atomic.AtomicBool.TheSendSync as flag
use Rattle.std.proofs.sync.atomic.AtomicU64.TheSendSync as number
use Rattle.sv_post.proofs.posts.Post.TheSendSync as post
use Rattle.sv_core.proofs.SendLaws.{crossing}
use Rattle.sv_live.specs.contracts.offices.Office as Office

pub office_sync : IsSync Office.the_row
office_sync = search (post.the_sync, flag.the_sync, number.the_sync, crossing) depth 60 fits 20000
