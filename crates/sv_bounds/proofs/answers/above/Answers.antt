use Rattle.std.proofs.Common.{◌≡◌, ap, subst, sym, ◌∙◌}
use Rattle.std.specs.Int.{w128}
use Rattle.std.proofs.lemmas.Int.{to_z-of_z}
use Rattle.sv_bounds.specs.Answers.{IsSystem, with_row, above_row}
use Rattle.sv_bounds.proofs.AnswerLaws.{system_above}
use Rattle.sv_bounds.proofs.answers.above.Goals as goal

pub solve-requires : goal.solve-requires
solve-requires c =
    let is : c.in_ok-system.system ≡ with_row c.args.s.now (above_row c.args.x c.args.y c.args.d) =
    c.in_ok-system.ensures ∙ ap (with_row c.args.s.now) c.at_least.ensures
    ∙ ap (λ d. with_row c.args.s.now (above_row c.args.x c.args.y d)) (to_z-of_z w128 c.args.d c.ranges.d) in
    subst IsSystem (sym is) (system_above c.args.s.now c.args.x c.args.y c.args.d c.requires.system c.requires.room c.requires.x c.requires.y c.requires.d)
