use Rattle.std.proofs.Common.{arith}
use Rattle.sv_app.specs.Schema.{schema_of, rule_of}
use Rattle.sv_effect.specs.Overlays.{left_rows}
use Rattle.sv_check.proofs.BoundLaws.{some_bounded, found_bounded}
use Rattle.sv_check.proofs.BrokenLaws.{row_judged}
use Rattle.sv_check.proofs.broken.is_broken.Goals as goal

pub returns-in_ok-broken-in-Some-clause-followed : goal.returns-in_ok-broken-in-Some-clause-followed
returns-in_ok-broken-in-Some-clause-followed g c =
    row_judged _ _ _ _ _ _ (schema_of c.args.app.now.tables.items) c.args.left.now c.args.place.now c.in_ok-look.field-0 c.in-Some.row (rule_of c.args.inv.now.body) c.in_ok-broken-in-Some.broken
    c.in_ok-look.ensures.followed c.in-Some.is c.in_ok-broken-in-Some.ensures.followed

pub row_breaks-requires-clause-bounded : goal.row_breaks-requires-clause-bounded
row_breaks-requires-clause-bounded g c =
    some_bounded (schema_of c.args.app.now.tables.items) 0 c.args.place.now c.in-Some.row c.in_ok-look.field-0 c.in-Some.is
    (found_bounded _ (schema_of c.args.app.now.tables.items) 0 c.args.left.now c.args.place.now (left_rows c.in_ok-look.field-0) (omega arith)
    c.in_ok-look.ensures.fits c.requires.rows c.requires.bounded)
