use Rattle.std.proofs.Common.{◌≡◌, map, reverse, take}
use Rattle.sv_app.specs.Scopes.{parameter}
use Rattle.sv_typing.proofs.scopes.known_parameters.Given as goal

abbrev pub invariant-loop-name : goal.invariant-loop-name
invariant-loop-name l = l.known.items ≡ reverse (map parameter (take l.name-index l.params))
