use Rattle.std.proofs.Common.{◌≡◌, ◌∙◌, sym, ap, drop, length, Some, arith}
use Rattle.sv_lex.specs.Lexers.{gap_in}
use Rattle.sv_lex.proofs.LexLaws.{Moves, gap_moves, at_gap}
use Rattle.sv_lex.proofs.lexers.Lexer.skip_gaps.Goals as goal

pub pass-requires : goal.pass-requires
pass-requires c =
    let gap : gap_in (drop c.loop-count.self.at c.loop-count.self.bytes.now) ≡ Some c.in-Some.count = rw (← c.rest.ensures) (sym c.in-Some.ensures) in
    (gap_moves c.loop-count.self.bytes.now c.loop-count.self.at c.in-Some.count gap).fits

pub loop-count-preserved : goal.loop-count-preserved
loop-count-preserved c =
    let gap : gap_in (drop c.loop-count.self.at c.loop-count.self.bytes.now) ≡ Some c.in-Some.count = rw (← c.rest.ensures) (sym c.in-Some.ensures) in
    record {
      bytes = c.pass.ensures.bytes ∙ c.loop-count.invariant.bytes;
      same = rw (c.pass.ensures.bytes, c.pass.ensures.at) (sym (at_gap c.loop-count.self.bytes.now c.loop-count.self.at c.in-Some.count gap) ∙ c.loop-count.invariant.same);
      later = omega (arith, c.pass.ensures.at, c.loop-count.invariant.later);
    }

pub loop-count-smaller : goal.loop-count-smaller
loop-count-smaller c =
    let gap : gap_in (drop c.loop-count.self.at c.loop-count.self.bytes.now) ≡ Some c.in-Some.count = rw (← c.rest.ensures) (sym c.in-Some.ensures) in
    let moves : Moves c.loop-count.self.at c.in-Some.count (length c.loop-count.self.bytes.now) = gap_moves c.loop-count.self.bytes.now c.loop-count.self.at c.in-Some.count gap in
    let same : length c.pass.new.self.bytes.now ≡ length c.loop-count.self.bytes.now = ap length c.pass.ensures.bytes in
    omega (arith, moves.some, moves.fits, same, c.pass.ensures.at)
