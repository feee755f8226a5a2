use Rattle.std.proofs.Common.{rules, ◌≡◌, ◌*ℤ◌, [], true, false}
use Rattle.sv_linear.specs.Forms.{scaled_terms, scale, is_word, is_form}
use Rattle.sv_linear.specs.Sums.{ArePut}
use Rattle.sv_linear.specs.Codes.{form_of}
use Rattle.sv_linear.proofs.SumLaws.{scaled_made, scale_is}
use Rattle.sv_linear.proofs.PutLaws.{wide_plus}
use Rattle.sv_linear.proofs.sums.scale.Goals as goal

pub returns-in_err-plus-clause-wide : goal.returns-in_err-plus-clause-wide
returns-in_err-plus-clause-wide c =
    let wide : is_word (c.args.by *ℤ c.args.a.now.plus) ≡ false = search rules in
    search (rules, wide_plus (scale c.args.by (form_of c.args.a.now)))

pub invariant_of-result : goal.invariant_of-result
invariant_of-result c =
    let n = c.in_ok-plus.plus in
    let put : ArePut [] (scaled_terms c.args.by c.args.a.now.terms) c.from_vec.result = search rules in
    let fits : is_word n ≡ true = search rules in
    let made : is_form (record { terms = c.from_vec.result; plus = n }) ≡ true = scaled_made (form_of c.args.a.now) c.args.by c.from_vec.result n c.args.a.now.right put fits in
    search rules

pub returns-clause-multiple : goal.returns-clause-multiple
returns-clause-multiple c =
    let n = c.in_ok-plus.plus in
    let put : ArePut [] (scaled_terms c.args.by c.args.a.now.terms) c.from_vec.result = search rules in
    let same : n ≡ c.args.by *ℤ c.args.a.now.plus = search rules in
    let is : record { terms = c.from_vec.result; plus = n } ≡ scale c.args.by (form_of c.args.a.now) = scale_is (form_of c.args.a.now) c.args.by c.from_vec.result n put same in
    search rules
