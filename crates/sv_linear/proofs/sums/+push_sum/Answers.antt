use Rattle.std.proofs.Common.{rules, ◌≡◌, ◌<◌, ◌+ℤ◌, [], IfOk, IfErr, subst}
use Rattle.sv_linear.specs.Forms.{with_term}
use Rattle.sv_linear.specs.Sums.{ArePut, IsStopOfTerms, signed}
use Rattle.sv_linear.proofs.OrderLaws.{later_slice}
use Rattle.sv_linear.proofs.SliceLaws.{first, rest, on_ok, on_err}
use Rattle.sv_linear.proofs.WalkLaws.{total, below_puts, below_stops_later, same_puts, same_stops, same_stops_later, above_puts, above_stops, above_stops_later, alone}
use Rattle.sv_linear.proofs.sums.+push_sum.Goals as goal

pub push_sum-requires : goal.push_sum-requires
push_sum-requires t c = (search rules, (later_slice c.args.a.now c.in-len1-up.len_at_least c.requires.a, c.requires.b))

pub push_sum-requires-then-x-y-2 : goal.push_sum-requires-then-x-y-2
push_sum-requires-then-x-y-2 t c =
    (search rules, (later_slice c.args.a.now c.in-len1-up.len_at_least c.requires.a, later_slice c.args.b.now c.in-len1-up-b.len_at_least c.requires.b))

pub push_sum-requires-else-x-y-2 : goal.push_sum-requires-else-x-y-2
push_sum-requires-else-x-y-2 t c = (search rules, (c.requires.a, later_slice c.args.b.now c.in-len1-up-b.len_at_least c.requires.b))

pub returns-in-empty-b-clause-put : goal.returns-in-empty-b-clause-put
returns-in-empty-b-clause-put t c =
    let all : IfOk c.push_turned-in-empty-b.result (λ _. ArePut c.args.out.now.items c.args.a.now c.push_turned-in-empty-b.new.out.items) = search rules in
    subst (λ l. IfOk c.push_turned-in-empty-b.result (λ _. ArePut c.args.out.now.items l c.push_turned-in-empty-b.new.out.items)) (alone c.args.a.now c.args.b.now c.args.minus c.in-empty-b.len_below c.requires.a) all

pub returns-in-empty-b-clause-wide : goal.returns-in-empty-b-clause-wide
returns-in-empty-b-clause-wide t c =
    let all : IfErr c.push_turned-in-empty-b.result (IsStopOfTerms c.args.a.now) = search rules in
    subst (λ l. IfErr c.push_turned-in-empty-b.result (IsStopOfTerms l)) (alone c.args.a.now c.args.b.now c.args.minus c.in-empty-b.len_below c.requires.a) all

pub returns-in_ok-push_term-in-len1-up-b-clause-put : goal.returns-in_ok-push_term-in-len1-up-b-clause-put
returns-in_ok-push_term-in-len1-up-b-clause-put t c =
    let a = c.args.a.now in
    let b = c.args.b.now in
    let place : (first a).0 < (first b).0 = search rules in
    let here : ArePut c.args.out.now.items (with_term (first a).0 (first a).1 []) c.push_term.new.out.items = search rules in
    let later : IfOk c.push_sum.result (λ _. ArePut c.push_term.new.out.items (total (rest a) b c.args.minus) c.push_sum.new.out.items) = search rules in
    on_ok c.push_sum.result _ _ (λ _ q. below_puts a b c.args.minus _ _ _ c.in-len1-up.len_at_least c.in-len1-up-b.len_at_least c.requires.a c.requires.b place here q) later

pub returns-in_ok-push_term-in-len1-up-b-clause-wide : goal.returns-in_ok-push_term-in-len1-up-b-clause-wide
returns-in_ok-push_term-in-len1-up-b-clause-wide t c =
    let a = c.args.a.now in
    let b = c.args.b.now in
    let place : (first a).0 < (first b).0 = search rules in
    let later : IfErr c.push_sum.result (IsStopOfTerms (total (rest a) b c.args.minus)) = search rules in
    on_err c.push_sum.result _ _ (λ stop q. below_stops_later a b c.args.minus stop c.in-len1-up.len_at_least c.in-len1-up-b.len_at_least c.requires.a c.requires.b place q) later

pub returns-in_ok-push_term-in-len1-up-b-2-clause-put : goal.returns-in_ok-push_term-in-len1-up-b-2-clause-put
returns-in_ok-push_term-in-len1-up-b-2-clause-put t c =
    let a = c.args.a.now in
    let b = c.args.b.now in
    let place : (first a).0 ≡ (first b).0 = search rules in
    let here : ArePut c.args.out.now.items (with_term (first a).0 ((first a).1 +ℤ signed c.args.minus (first b).1) []) c.push_term-then-x-y-2.new.out.items = search rules in
    let later : IfOk c.push_sum-then-x-y-2.result (λ _. ArePut c.push_term-then-x-y-2.new.out.items (total (rest a) (rest b) c.args.minus) c.push_sum-then-x-y-2.new.out.items) = search rules in
    on_ok c.push_sum-then-x-y-2.result _ _ (λ _ q. same_puts a b c.args.minus _ _ _ c.in-len1-up.len_at_least c.in-len1-up-b.len_at_least c.requires.a c.requires.b place here q) later

pub returns-in_ok-push_term-in-len1-up-b-2-clause-wide : goal.returns-in_ok-push_term-in-len1-up-b-2-clause-wide
returns-in_ok-push_term-in-len1-up-b-2-clause-wide t c =
    let a = c.args.a.now in
    let b = c.args.b.now in
    let place : (first a).0 ≡ (first b).0 = search rules in
    let later : IfErr c.push_sum-then-x-y-2.result (IsStopOfTerms (total (rest a) (rest b) c.args.minus)) = search rules in
    on_err c.push_sum-then-x-y-2.result _ _ (λ stop q. same_stops_later a b c.args.minus stop c.in-len1-up.len_at_least c.in-len1-up-b.len_at_least c.requires.a c.requires.b place q) later

pub returns-in_err-push_term-in-len1-up-b-2-clause-wide : goal.returns-in_err-push_term-in-len1-up-b-2-clause-wide
returns-in_err-push_term-in-len1-up-b-2-clause-wide t c =
    let a = c.args.a.now in
    let b = c.args.b.now in
    let place : (first a).0 ≡ (first b).0 = search rules in
    let here : IfErr c.from_residual-in_err-push_term-in-len1-up-b-2.result (IsStopOfTerms (with_term (first a).0 ((first a).1 +ℤ signed c.args.minus (first b).1) [])) = search rules in
    on_err c.from_residual-in_err-push_term-in-len1-up-b-2.result _ _ (λ stop q. same_stops a b c.args.minus stop c.in-len1-up.len_at_least c.in-len1-up-b.len_at_least c.requires.a c.requires.b place q) here

pub returns-in_ok-push_term-in-len1-up-b-3-clause-put : goal.returns-in_ok-push_term-in-len1-up-b-3-clause-put
returns-in_ok-push_term-in-len1-up-b-3-clause-put t c =
    let a = c.args.a.now in
    let b = c.args.b.now in
    let place : (first b).0 < (first a).0 = search rules in
    let here : ArePut c.args.out.now.items (with_term (first b).0 (signed c.args.minus (first b).1) []) c.push_term-else-x-y-2.new.out.items = search rules in
    let later : IfOk c.push_sum-else-x-y-2.result (λ _. ArePut c.push_term-else-x-y-2.new.out.items (total a (rest b) c.args.minus) c.push_sum-else-x-y-2.new.out.items) = search rules in
    on_ok c.push_sum-else-x-y-2.result _ _ (λ _ q. above_puts a b c.args.minus _ _ _ c.in-len1-up.len_at_least c.in-len1-up-b.len_at_least c.requires.a c.requires.b place here q) later

pub returns-in_ok-push_term-in-len1-up-b-3-clause-wide : goal.returns-in_ok-push_term-in-len1-up-b-3-clause-wide
returns-in_ok-push_term-in-len1-up-b-3-clause-wide t c =
    let a = c.args.a.now in
    let b = c.args.b.now in
    let place : (first b).0 < (first a).0 = search rules in
    let later : IfErr c.push_sum-else-x-y-2.result (IsStopOfTerms (total a (rest b) c.args.minus)) = search rules in
    on_err c.push_sum-else-x-y-2.result _ _ (λ stop q. above_stops_later a b c.args.minus stop c.in-len1-up.len_at_least c.in-len1-up-b.len_at_least c.requires.a c.requires.b place q) later

pub returns-in_err-push_term-in-len1-up-b-3-clause-wide : goal.returns-in_err-push_term-in-len1-up-b-3-clause-wide
returns-in_err-push_term-in-len1-up-b-3-clause-wide t c =
    let a = c.args.a.now in
    let b = c.args.b.now in
    let place : (first b).0 < (first a).0 = search rules in
    let here : IfErr c.from_residual-in_err-push_term-in-len1-up-b-3.result (IsStopOfTerms (with_term (first b).0 (signed c.args.minus (first b).1) [])) = search rules in
    on_err c.from_residual-in_err-push_term-in-len1-up-b-3.result _ _ (λ stop q. above_stops a b c.args.minus stop c.in-len1-up.len_at_least c.in-len1-up-b.len_at_least c.requires.a c.requires.b place q) here
