use Rattle.std.proofs.Common.{sym, subst}
use Rattle.sv_effect.specs.Agrees.{key_behind}
use Rattle.sv_store.specs.Rest.{IsStart}
use Rattle.sv_store.proofs.NextLaws.{start_gap}
use Rattle.sv_store.proofs.stores.rest_start.Goals as goal

pub returns-in-Err : goal.returns-in-Err
returns-in-Err c =
    subst (λ after. IsStart c.args.kept.now c.args.table (key_behind after) c.in-Err.at) (sym c.in-Some.is)
    (start_gap c.args.kept.now c.args.table c.in-Some.key.now c.in-Err.at c.in-Err.ensures.absent)
