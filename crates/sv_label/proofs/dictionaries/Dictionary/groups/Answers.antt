use Rattle.std.proofs.Common.{◌≡◌, ◌≤◌, length, arith}
use Rattle.sv_label.specs.Stored.{groups_in}
use Rattle.sv_label.proofs.GroupLaws.{few_groups, long_groups}
use Rattle.sv_label.proofs.dictionaries.Dictionary.groups.Goals as goal

pub overflow_cast-result : goal.overflow_cast-result
overflow_cast-result c =
    let es = c.self.inside.groups.entries in
    let few : length (groups_in es) ≤ 8192 = few_groups (groups_in es) c.self.inside.entries c.self.invariant in
    let long : length (groups_in es) ≡ length es = long_groups es in
    let len : c.len.result ≡ length es = c.len.ensures.len in
    omega (arith, few, long, len)
