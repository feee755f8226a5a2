use Rattle.std.proofs.Common.{rules, ◌≡◌, [], true, false}
use Rattle.sv_linear.specs.Forms.{put_all, is_word, is_form}
use Rattle.sv_linear.specs.Sums.{ArePut, turned}
use Rattle.sv_linear.specs.Codes.{form_of}
use Rattle.sv_linear.proofs.SumLaws.{sum_made}
use Rattle.sv_linear.proofs.sums.add.Goals as goal

pub invariant_of-result : goal.invariant_of-result
invariant_of-result c =
    let n = c.in_ok-plus.plus in
    let put : ArePut [] (put_all c.args.a.now.terms (turned false c.args.b.now.terms)) c.from_vec.result = search rules in
    let fits : is_word n ≡ true = search rules in
    let made : is_form (record { terms = c.from_vec.result; plus = n }) ≡ true = sum_made (form_of c.args.a.now) (form_of c.args.b.now) false c.from_vec.result n c.args.a.now.right c.args.b.now.right put fits in
    search rules
