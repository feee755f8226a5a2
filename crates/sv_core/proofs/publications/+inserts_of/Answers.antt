use Rattle.std.proofs.Common.{◌-◌, length, drop, arith}
use Rattle.sv_core.proofs.PublicationLaws.{insert_one, inserts_taken}
use Rattle.sv_core.proofs.publications.+inserts_of.Goals as goal

pub overflow_add-result : goal.overflow_add-result
overflow_add-result t c =
    let rest = inserts_taken (length c.args.effects.now - 1) (drop 1 c.args.effects.now) in
    omega (arith, insert_one c.effect-item.result.act, c.as_insert.ensures, c.requires, c.in-len1-up.len_at_least, rest, c.inserts_of.ensures)
