use Rattle.std.proofs.Common.{sym, ap, ◌∙◌}
use Rattle.std.specs.Option.{option_map}
use Rattle.sv_effect.specs.BareTables.{bare_row}
use Rattle.sv_effect.specs.Agrees.{place_at, seen_in}
use Rattle.sv_effect.proofs.SourceLaws.{seen_at-bare}
use Rattle.sv_pool.proofs.pools.PoolStore.seen.Goals as goal

pub returns-in-Some-clause-value : goal.returns-in-Some-clause-value
returns-in-Some-clause-value c =
    c.seen.ensures.value ∙ ap (λ o. seen_in (option_map bare_row o)) c.in-Some.ensures.value
    ∙ sym (seen_at-bare c.args.self.now.tables (place_at c.args.table c.args.key.now))

pub returns-in-None-clause-value : goal.returns-in-None-clause-value
returns-in-None-clause-value c =
    c.unkept.ensures ∙ ap (λ o. seen_in (option_map bare_row o)) c.in-None.ensures.value
    ∙ sym (seen_at-bare c.args.self.now.tables (place_at c.args.table c.args.key.now))
