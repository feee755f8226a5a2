use Rattle.std.proofs.Common.{rules, ◌≡◌}
use Rattle.sv_linear.specs.Codes.{form_of}
use Rattle.sv_linear.specs.Tests.{read}
use Rattle.sv_linear.proofs.ValueLaws.{with_plus}
use Rattle.sv_linear.proofs.values.value.Goals as goal

pub returns : goal.returns
returns c =
    let sum : c.sum.result ≡ read (form_of c.args.f.now) c.args.tape.now = with_plus (form_of c.args.f.now) c.args.tape.now c.sum.result (search rules) in
    search rules
