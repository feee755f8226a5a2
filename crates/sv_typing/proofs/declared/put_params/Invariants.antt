use Rattle.std.proofs.Common.{◌≡◌, ◌++◌, map, take}
use Rattle.sv_app.specs.declared.apps.Ident.{Ident}
use Rattle.sv_app.specs.declared.schemas.Ty.{Ty}
use Rattle.sv_app.specs.TxnNames.{plain_name}
use Rattle.sv_typing.proofs.declared.put_params.Given as goal

abbrev pub invariant-loop-name : goal.invariant-loop-name
invariant-loop-name l = l.names.items ≡ l.initial.names.items ++ map (λ (p : Ident × Ty). plain_name p.0) (take l.name-index l.params)
