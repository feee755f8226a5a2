use Rattle.std.proofs.Common.{refl, ap}
use Rattle.sv_effect.specs.Run.{with_scope}
use Rattle.sv_interp.specs.declared.states.State.{State}
use Rattle.sv_interp.specs.Machine.{stand}
use Rattle.sv_interp.proofs.TurnLaws.{item_entered, item_begun, row_begun}
use Rattle.sv_interp.proofs.turns.begin_turn.Goals as goal

pub returns-in_ok-put_value-in-Item-clause-entered : goal.returns-in_ok-put_value-in-Item-clause-entered
returns-in_ok-put_value-in-Item-clause-entered g c =
    let x : State = c.begin.new.self in
    let u : State = record x { scope = record x.scope { values = c.put_value.new.values } } in
    item_entered c.args.turn.now _ _ _ _ _ _ _ c.args.state.now x u c.in_ok-outer-in-Item.outer c.in-Item.is refl refl c.in_ok-outer-in-Item.ensures.outer c.in_ok-outer-in-Item.ensures.begun
    (λ t. ap (λ vs. with_scope (stand t x) (record (stand t x).scope { values = vs })) c.in_ok-put_value-in-Item.ensures)

pub returns-in_ok-put_value-in-Item-clause-begun : goal.returns-in_ok-put_value-in-Item-clause-begun
returns-in_ok-put_value-in-Item-clause-begun g c =
    let x : State = c.begin.new.self in
    let u : State = record x { scope = record x.scope { values = c.put_value.new.values } } in
    item_begun _ c.args.turn.now _ _ _ c.args.state.now x u c.in_ok-outer-in-Item.outer c.in-Item.is c.in_ok-outer-in-Item.ensures.outer c.in_ok-outer-in-Item.ensures.begun
    (λ t. ap (λ vs. with_scope (stand t x) (record (stand t x).scope { values = vs })) c.in_ok-put_value-in-Item.ensures)

pub returns-in_ok-bind-in-Some-clause-begun : goal.returns-in_ok-bind-in-Some-clause-begun
returns-in_ok-bind-in-Some-clause-begun g c =
    row_begun _ c.args.turn.now _ _ _ _ c.args.state.now c.begin-in-Some.new.self c.bind.new.self c.deref.result.now c.in_ok-look-in-Row.field-0 c.in-Some.found c.in_ok-outer-in-Some.outer
    c.in-Row.is c.in_ok-look-in-Row.ensures.fits c.deref.ensures.value c.in-Some.is c.in_ok-outer-in-Some.ensures.outer c.in_ok-outer-in-Some.ensures.begun c.in_ok-bind-in-Some.ensures
