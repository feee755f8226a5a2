use Rattle.std.proofs.Common.{◌≡◌, drop, sym, ap, subst, ◌∙◌}
use Rattle.sv_effect.specs.Agrees.{key_behind, IsNextKey}
use Rattle.sv_effect.specs.BareTables.{bare}
use Rattle.sv_store.specs.Rest.{IsStart, first_present}
use Rattle.sv_pool.specs.Pooled.{kept_in}
use Rattle.sv_pool.proofs.PoolLaws.{pool_next}
use Rattle.sv_pool.proofs.pools.PoolStore.key_after.Goals as goal

pub returns : goal.returns
returns c =
    let kept = kept_in c.self.inside.index.items c.self.inside.rows.values in
    let start : IsStart kept c.args.table (key_behind c.args.after) c.rest_start-start.result =
    subst (λ index. IsStart (kept_in index c.self.inside.rows.values) c.args.table (key_behind c.args.after) c.rest_start-start.result)
    c.deref.ensures.value c.rest_start-start.ensures in
    let found : c.first_present.result ≡ first_present c.args.table (drop c.rest_start-start.result kept) =
    c.first_present.ensures
    ∙ ap (λ index. first_present c.args.table (drop c.rest_start-start.result (kept_in index c.self.inside.rows.values))) c.deref-2.ensures.value in
    subst (λ next. IsNextKey (bare c.args.self.now.tables) c.args.table (key_behind c.args.after) next) (sym found)
    (pool_next c.args.table (key_behind c.args.after) c.rest_start-start.result c.self.view_is c.self.invariant start)
