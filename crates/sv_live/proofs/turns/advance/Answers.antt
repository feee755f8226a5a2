use Rattle.sv_live.proofs.DueLaws.{leaves}
use Rattle.sv_live.proofs.turns.advance.Goals as goal

pub go-requires-clause-awaited : goal.go-requires-clause-awaited
go-requires-clause-awaited c = leaves c.args.w.now.medium c.args.session c.in-Leave.site c.in_ok-next.next c.tell_sound.ensures c.tell_lawful.ensures.legal c.requires c.in-Leave.is c.in_ok-next.ensures
