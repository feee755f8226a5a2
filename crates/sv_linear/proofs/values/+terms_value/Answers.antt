use Rattle.std.proofs.Common.{rules, ◌≡◌}
use Rattle.std.specs.Int.{int_wrap, w128}
use Rattle.sv_linear.specs.Forms.{terms_value}
use Rattle.sv_linear.proofs.ValueLaws.{one_more}
use Rattle.sv_linear.proofs.values.+terms_value.Goals as goal

pub returns-in-len1-up : goal.returns-in-len1-up
returns-in-len1-up t c =
    let ts = c.args.terms.now in
    let tape = c.args.tape.now in
    let sum : c.sum.result ≡ int_wrap w128 (terms_value ts tape) = one_more ts tape c.sum.result c.in-len1-up.len_at_least (search rules) in
    search rules
