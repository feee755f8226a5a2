use Rattle.std.proofs.Common.{◌≡◌, drop, map}
use Rattle.std.specs.BTreeSet.{contains}
use Rattle.sv_app.specs.Schema.{schema_of, invariant_of}
use Rattle.sv_app.specs.Tables.{place_cmp}
use Rattle.sv_check.specs.Tests.{held_cmp, first_failed}
use Rattle.sv_check.proofs.initial.first_failed.Given as goal

abbrev pub invariant-loop-inv : goal.invariant-loop-inv
invariant-loop-inv l =
    first_failed (schema_of l.app.tables.items) (contains place_cmp l.places) (contains held_cmp l.earlier) l.row (map invariant_of (drop l.inv-index l.invs))
    ≡ first_failed (schema_of l.app.tables.items) (contains place_cmp l.places) (contains held_cmp l.earlier) l.row (map invariant_of l.invs)
