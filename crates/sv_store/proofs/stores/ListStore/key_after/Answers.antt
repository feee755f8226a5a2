use Rattle.std.proofs.Common.{◌≡◌, drop, sym, ap, subst, ◌∙◌}
use Rattle.sv_effect.specs.Agrees.{key_behind, IsNextKey}
use Rattle.sv_effect.specs.BareTables.{bare}
use Rattle.sv_store.specs.Rest.{IsStart, first_present}
use Rattle.sv_store.proofs.NextLaws.{next_found, rest_all}
use Rattle.sv_store.proofs.stores.ListStore.key_after.Goals as goal

pub returns : goal.returns
returns c =
    let start : IsStart c.self.inside.kept.items c.args.table (key_behind c.args.after) c.rest_start-start.result = subst (λ rows. IsStart rows c.args.table (key_behind c.args.after) c.rest_start-start.result) c.deref.ensures.value c.rest_start-start.ensures in
    let found : c.first_present.result ≡ first_present c.args.table (drop c.rest_start-start.result c.self.inside.kept.items) =
    c.first_present.ensures
    ∙ ap (first_present c.args.table) (rest_all c.deref-2.result.now c.rest_start-start.result)
    ∙ ap (λ rows. first_present c.args.table (drop c.rest_start-start.result rows)) c.deref-2.ensures.value in
    subst (λ next. IsNextKey (bare c.args.self.now.tables) c.args.table (key_behind c.args.after) next) (sym found)
    (subst (λ s. IsNextKey (bare s.tables) c.args.table (key_behind c.args.after) (first_present c.args.table (drop c.rest_start-start.result c.self.inside.kept.items))) c.self.view_is
    (next_found c.self.inside.kept.items c.args.table (key_behind c.args.after) c.rest_start-start.result c.self.invariant.rising start))
