use Rattle.std.proofs.Common.{◌≡◌, ◌||◌, take, map}
use Rattle.std.specs.List.{flat_map}
use Rattle.std.specs.BTreeSet.{contains}
use Rattle.sv_app.specs.Schema.{invariant_of}
use Rattle.sv_check.specs.declared.initial.Held.{Held}
use Rattle.sv_check.specs.Tests.{held_cmp, held_of, is_held}
use Rattle.sv_check.proofs.initial.note.Given as goal

abbrev pub invariant-loop-inv : goal.invariant-loop-inv
invariant-loop-inv l = (held : Held) → contains held_cmp l.earlier held
    ≡ (contains held_cmp l.fn.earlier held || is_held held (flat_map (λ inv. held_of l.row inv.rule) (map invariant_of (take l.inv-index l.invs))))
