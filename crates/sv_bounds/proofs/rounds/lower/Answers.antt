use Rattle.std.proofs.Common.{◌^◌, length, refl, arith}
use Rattle.std.proofs.lemmas.Int.{ints}
use Rattle.sv_bounds.specs.declared.systems.Diff.{Diff}
use Rattle.sv_bounds.specs.Differences.{row_at, IsRow, Within}
use Rattle.sv_bounds.specs.Rounds.{value}
use Rattle.sv_bounds.proofs.ChainLaws.{row_in}
use Rattle.sv_bounds.proofs.RoundLaws.{next_keep, next_lower}
use Rattle.sv_bounds.proofs.rounds.lower.Goals as goal

pub returns-then-value-new : goal.returns-then-value-new
returns-then-value-new c =
    let row : Diff = row_at c.args.rows.now c.args.i in
    let is : IsRow (length c.args.old.now) row = row_in (length c.args.old.now) c.args.rows.now c.args.i c.requires.rows c.requires.row in
    let w : Within (2 ^ 101) (value c.args.old.now row.y) = c.requires.values row.y in
    next_lower c.args.rows.now c.args.i c.args.old.now c.args.new.now _ c.requires.next c.requires.row refl
    (omega (arith, ints, is.most.low, is.most.high, w.low, w.high)) is.x
    (omega (arith, ints, is.most.low, is.most.high, w.low, w.high, c.if-value-new.true))

pub returns-else-value-new : goal.returns-else-value-new
returns-else-value-new c =
    let row : Diff = row_at c.args.rows.now c.args.i in
    let is : IsRow (length c.args.old.now) row = row_in (length c.args.old.now) c.args.rows.now c.args.i c.requires.rows c.requires.row in
    let w : Within (2 ^ 101) (value c.args.old.now row.y) = c.requires.values row.y in
    next_keep c.args.rows.now c.args.i c.args.old.now c.args.new.now c.requires.next
    (omega (arith, ints, is.most.low, is.most.high, w.low, w.high, c.if-value-new.false))
