use Rattle.std.proofs.Common.{◌≡◌, ◌++◌, drop}
use Rattle.std.specs.Prelude.{map}
use Rattle.sv_effect.specs.Applied.{place_of}
use Rattle.sv_plain.proofs.rows.put_places_of.Given as goal

abbrev pub invariant-loop-effect : goal.invariant-loop-effect
invariant-loop-effect l = l.places.items ++ map place_of (drop l.effect-index l.effects) ≡ l.initial.places.items ++ map place_of l.effects
