use Rattle.std.proofs.Common.{◌≡◌, ◌++◌, drop}
use Rattle.sv_app.specs.Paths.{parameter_types}
use Rattle.sv_symbolic.proofs.names.parameter_types.Given as goal

abbrev pub invariant-loop-ty : goal.invariant-loop-ty
invariant-loop-ty l = l.types.items ++ parameter_types (drop l.ty-index l.params) ≡ parameter_types l.params
