use Rattle.std.proofs.Common.{rules, ◌∙◌, ◌++◌, sym, ap, append_assoc}
use Rattle.std.proofs.lemmas.Result.{on_ok_weaker}
use Rattle.std.specs.List.{flat_map}
use Rattle.sv_effect.specs.BareTables.{bare}
use Rattle.sv_effect.specs.Run.{present_keys}
use Rattle.sv_report.specs.Shows.{line_at}
use Rattle.sv_report.proofs.ShowLaws.{listed}
use Rattle.sv_report.proofs.shows.put_rows.Goals as goal

pub returns : goal.returns
returns c = on_ok_weaker c.put_rows_at.result (λ e. e
    ∙ ap (λ l. l ++ flat_map (line_at (bare c.keys_of.new.rows.store.now.tables) c.args.table) c.items.result.now) c.in_ok-put_head.ensures
    ∙ append_assoc c.args.out.now.items _ _
    ∙ ap (λ l. c.args.out.now.items ++ l) (listed c.keys_of.new.rows.store.now.tables _ c.args.table c.args.site _ _ _ c.items.result.now
    (ap (λ store. store.tables) c.in_ok-keys.ensures.same ∙ c.site_rows-rows.ensures.tables) (search rules)
    (c.items.ensures ∙ c.in_ok-keys.ensures.keys ∙ ap (λ store. present_keys (bare store.tables) c.args.table) (sym c.in_ok-keys.ensures.same)) (search rules))) c.put_rows_at.ensures
