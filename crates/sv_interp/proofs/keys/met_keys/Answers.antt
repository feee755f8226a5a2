use Rattle.std.proofs.Common.{◌≡◌, ap, rules}
use Rattle.std.specs.Option.{option_map}
use Rattle.sv_app.specs.Trees.{test_of}
use Rattle.sv_interp.proofs.MeetLaws.{some_rows}
use Rattle.sv_interp.proofs.keys.met_keys.Goals as goal

pub returns-in_ok-met-in-Some-clause-followed : goal.returns-in_ok-met-in-Some-clause-followed
returns-in_ok-met-in-Some-clause-followed g c =
    let same : c.items.result.now ≡ c.in_ok-keys.keys = search rules in
    some_rows _ _ _ _ _ _ c.args.own.now c.args.selection.now.row.num c.args.selection.now.table.num (option_map test_of c.args.selection.now.cond.now) _ c.in_ok-keys.keys c.items.result.now c.args.scope c.meet.new.scope c.in_ok-met-in-Some.met
    c.in_ok-keys.ensures.followed same (ap (option_map test_of) c.in-Some.is) c.in_ok-met-in-Some.ensures.followed
