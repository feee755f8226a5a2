use Rattle.std.proofs.Common.{◌≡◌, map, take, vec_len}
use Rattle.sv_app.specs.Trees.{block_of}
use Rattle.sv_paths.specs.Numbered.{part_of, numbered_from}
use Rattle.sv_paths.proofs.bodies.numbered.Given as goal

abbrev pub invariant-loop-body : goal.invariant-loop-body
invariant-loop-body l = (map part_of l.units.items ≡ numbered_from 0 l.txn (map (λ b. block_of b.now) (take l.body-index l.bodies))) × (vec_len l.units ≡ l.body-index)
