use Rattle.std.proofs.Common.{rules, ◌*ℤ◌, [], IfOk, IfErr}
use Rattle.sv_linear.specs.Forms.{with_term, scaled_terms}
use Rattle.sv_linear.specs.Sums.{ArePut, IsStopOfTerms}
use Rattle.sv_linear.proofs.PutLaws.{scaled_puts, scaled_stops}
use Rattle.sv_linear.proofs.SliceLaws.{first, rest, on_ok, on_err}
use Rattle.sv_linear.proofs.sums.+push_scaled.Goals as goal

pub returns-in_ok-push_term-in-len1-up-clause-put : goal.returns-in_ok-push_term-in-len1-up-clause-put
returns-in_ok-push_term-in-len1-up-clause-put t c =
    let ts = c.args.terms.now in
    let here : ArePut c.args.out.now.items (with_term (first ts).0 (c.args.by *ℤ (first ts).1) []) c.push_term.new.out.items = search rules in
    let later : IfOk c.push_scaled.result (λ _. ArePut c.push_term.new.out.items (scaled_terms c.args.by (rest ts)) c.push_scaled.new.out.items) = search rules in
    on_ok c.push_scaled.result _ _ (λ _ q. scaled_puts c.args.by ts c.in-len1-up.len_at_least _ _ _ here q) later

pub returns-in_ok-push_term-in-len1-up-clause-wide : goal.returns-in_ok-push_term-in-len1-up-clause-wide
returns-in_ok-push_term-in-len1-up-clause-wide t c =
    let later : IfErr c.push_scaled.result (IsStopOfTerms (scaled_terms c.args.by (rest c.args.terms.now))) = search rules in
    on_err c.push_scaled.result _ _ (λ stop q. scaled_stops c.args.by c.args.terms.now c.in-len1-up.len_at_least stop q) later
