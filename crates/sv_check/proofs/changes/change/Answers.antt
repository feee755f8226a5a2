use Rattle.std.proofs.Common.{◌≤◌, ◌+◌, ◌-◌, ◌*◌, length, arith, sym, subst}
use Rattle.sv_app.specs.Schema.{schema_of}
use Rattle.sv_effect.specs.Applied.{place_of}
use Rattle.sv_effect.specs.Overlays.{left_rows}
use Rattle.sv_check.specs.Bounds.{LeftBounded}
use Rattle.sv_check.proofs.BoundLaws.{left_less, found_bounded, change_bounded}
use Rattle.sv_check.proofs.changes.change.Goals as goal

pub row_after-requires-clause-bounded : goal.row_after-requires-clause-bounded
row_after-requires-clause-bounded g c =
    let le : 16 ≤ 16 * (64 - length c.args.left.now.items) = omega (arith, c.requires.few) in
    let bounded : LeftBounded (schema_of c.args.app.now.tables.items) 16 c.deref.result.now =
    subst (LeftBounded (schema_of c.args.app.now.tables.items) 16) (sym c.deref.ensures.value) (left_less (schema_of c.args.app.now.tables.items) 16 (16 * (64 - length c.args.left.now.items)) c.args.left.now.items le c.requires.bounded) in
    found_bounded _ (schema_of c.args.app.now.tables.items) 16 c.deref.result.now (place_of c.args.effect.now) (left_rows c.in_ok-kept.kept) (omega arith)
    c.in_ok-kept.ensures.fits c.requires.rows bounded

pub returns-clause-bounded : goal.returns-clause-bounded
returns-clause-bounded g c =
    let schema = schema_of c.args.app.now.tables.items in
    change_bounded schema (place_of c.args.effect.now) c.in_ok-row.row c.args.left.now.items c.insert.new.self.items c.requires.few c.requires.bounded
    (λ k le h. c.in_ok-row.ensures.bounded k le (found_bounded _ schema (16 + k) c.deref.result.now (place_of c.args.effect.now) (left_rows c.in_ok-kept.kept) (omega (arith, le))
    c.in_ok-kept.ensures.fits c.requires.rows (subst (LeftBounded schema (16 + k)) (sym c.deref.ensures.value) h)))
    c.in_ok-insert.ensures.items
