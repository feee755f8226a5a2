use Rattle.std.proofs.Common.{◌≡◌, ◌||◌, Some, length, slice_get, subst, ap, sym, ◌∙◌, arith}
use Rattle.std.specs.List.{flat_map}
use Rattle.std.specs.BTreeSet.{contains}
use Rattle.sv_app.specs.Schema.{schema_of}
use Rattle.sv_app.specs.Tables.{place_cmp}
use Rattle.sv_check.specs.Initial.{IsFirst}
use Rattle.sv_check.specs.Tests.{held_cmp, held_of, is_held, first_failed}
use Rattle.sv_check.proofs.AnswerLaws.{Passed, as_told, one_passed, held_more, is_first, all_valid, not_valid}
use Rattle.sv_app.proofs.ListLaws.{get_at}
use Rattle.sv_check.proofs.initial.check_all.Goals as goal

pub returns-in-Some-clause-answer : goal.returns-in-Some-clause-answer
returns-in-Some-clause-answer c =
    let schema = schema_of c.args.app.now.tables.items in
    let row = c.index-init-place.result in
    let at : slice_get c.args.init.now c.loop-place.place ≡ Some row = get_at c.args.init.now c.loop-place.place row c.loop-place-test.true ∙ ap (λ x. Some x) (sym c.index-init-place.is) in
    is_first schema c.args.init.now c.loop-place.place row c.in-Some.number c.requires.accepted c.loop-place.invariant.passed at
    (as_told schema c.args.init.now c.loop-place.place row (contains place_cmp c.in_ok-places.places) (contains held_cmp c.loop-place.earlier) c.first_failed.result
    c.in_ok-places.ensures c.loop-place.invariant.held
    (c.first_failed.ensures ∙ ap (first_failed schema (contains place_cmp c.in_ok-places.places) (contains held_cmp c.loop-place.earlier) row) c.invs_of-invs.ensures)
    ∙ c.in-Some.is)

pub returns-in-Some-clause-wrong : goal.returns-in-Some-clause-wrong
returns-in-Some-clause-wrong c =
    let first : IsFirst (schema_of c.args.app.now.tables.items) c.args.init.now c.loop-place.place c.in-Some.number = returns-in-Some-clause-answer c in
    not_valid (schema_of c.args.app.now.tables.items) c.args.init.now c.loop-place.place c.in-Some.number c.requires.distinct first.breaks

pub loop-place-preserved : goal.loop-place-preserved
loop-place-preserved c =
    let schema = schema_of c.args.app.now.tables.items in
    let row = c.index-init-place.result in
    let at : slice_get c.args.init.now c.loop-place.place ≡ Some row = get_at c.args.init.now c.loop-place.place row c.loop-place-test.true ∙ ap (λ x. Some x) (sym c.index-init-place.is) in
    record {
      held = held_more schema c.args.init.now c.loop-place.place row (contains held_cmp c.loop-place.earlier) (contains held_cmp c.note.new.earlier) c.loop-place-test.true at
          c.loop-place.invariant.held
          (λ h. c.in_ok-note-in-None.ensures h ∙ ap (λ invs. contains held_cmp c.loop-place.earlier h || is_held h (flat_map (λ inv. held_of row inv.rule) invs)) c.invs_of-invs.ensures);
      passed = one_passed schema c.args.init.now c.loop-place.place row c.loop-place.invariant.passed at
          (as_told schema c.args.init.now c.loop-place.place row (contains place_cmp c.in_ok-places.places) (contains held_cmp c.loop-place.earlier) c.first_failed.result
          c.in_ok-places.ensures c.loop-place.invariant.held
          (c.first_failed.ensures ∙ ap (first_failed schema (contains place_cmp c.in_ok-places.places) (contains held_cmp c.loop-place.earlier) row) c.invs_of-invs.ensures)
          ∙ c.in-None.is);
    }

pub returns-clause-answer : goal.returns-clause-answer
returns-clause-answer c =
    let end : c.loop-place.place ≡ length c.args.init.now = omega (arith, c.loop-place-test.false, c.loop-place.auto.place-end) in
    all_valid (schema_of c.args.app.now.tables.items) c.args.init.now (subst (Passed (schema_of c.args.app.now.tables.items) c.args.init.now) end c.loop-place.invariant.passed)
