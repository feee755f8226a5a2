use Rattle.std.proofs.Common.{subst, rules}
use Rattle.sv_app.specs.Schema.{schema_of}
use Rattle.sv_app.specs.Trees.{block_of}
use Rattle.sv_paths.specs.Numbered.{part_of}
use Rattle.sv_symbolic.specs.States.{names_in, Walked}
use Rattle.sv_symbolic.proofs.ExecuteLaws.{part_is_there}
use Rattle.sv_symbolic.proofs.ShapeLaws.{answered}
use Rattle.sv_symbolic.proofs.shapes.execute.Goals as goal

pub returns : goal.returns
returns c =
    let schema = schema_of c.args.app.now.tables.items in
    let names = names_in c.in_ok-names.names in
    let a = answered schema c.args.app.now.txns.items c.args.unit.now.txn (part_of c.args.unit.now) c.index-txn.result.now c.index-txn.result.now names c.args.path.now.choices c.args.path.now.aborts c.in_ok-state.state c.shape_of.result
    c.requires.accepted c.requires.unit (part_is_there c.args.app.now.txns.items c.args.unit.now.txn (part_of c.args.unit.now) c.requires.unit) (search rules) (search rules) c.requires.path c.requires.goes_on
    (subst (λ choices. Walked schema names (block_of c.args.unit.now.body.now) choices c.in_ok-state.state) c.items.ensures c.in_ok-state.ensures)
    c.shape_of.ensures.shape c.shape_of.ensures.stops in
    record { shape = a.shape; stops = a.stops; closed = a.closed; suits = a.suits }
