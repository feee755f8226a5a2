use Rattle.std.proofs.Common.{◌≡◌, ◌-◌, ◌≤◌, ◌∙◌, ap, subst, length, refl, arith}
use Rattle.std.specs.Vec.{vec_capacity}
use Rattle.sv_app.specs.Schema.{schema_of}
use Rattle.sv_effect.specs.Cut.{empty}
use Rattle.sv_effect.specs.RowsFit.{TablesAreOf}
use Rattle.sv_effect.specs.TablesOfCut.{tables_held}
use Rattle.sv_core.specs.declared.docs.Doc.{Doc}
use Rattle.sv_core.proofs.FreshLaws.{is_fresh}
use Rattle.sv_core.proofs.sites.fresh_site.Goals as goal

pub returns : goal.returns
returns c =
    let doc : Doc = c.args.doc.now.value in
    let there : c.deref-3.result.now ≡ doc = c.deref-3.ensures in
    let rows : c.deref-2.result.now ≡ doc = c.deref-2.ensures in
    let asks : c.deref-4.result.now ≡ doc = c.deref-4.ensures in
    let init : c.items-init.result.now ≡ doc.init = c.items-init.ensures ∙ ap (λ (d : Doc). d.init) c.deref.ensures in
    let left : c.in_ok-start.field-0.room ≡ doc.rows - length doc.init =
    c.in_ok-start.ensures.room ∙ (λ i. (rows i).rows - length (init i)) in
    let space : c.deref-4.result.now.asks ≤ vec_capacity c.in_ok-with_capacity.field-0 = c.in_ok-with_capacity.ensures.capacity in
    is_fresh doc c.args.site _ c.requires.sound c.requires.there c.in_ok-clone.ensures.cases refl
    (c.in_ok-start.ensures.tables ∙ (λ i. tables_held (schema_of (there i).app.tables.items) (init i) empty))
    (subst (λ (d : Doc). TablesAreOf (schema_of d.app.tables.items) c.in_ok-start.field-0.tables) there c.in_ok-start.ensures.of_app)
    (omega (arith, left)) c.empty.ensures c.in_ok-with_capacity.ensures.items
    (subst (λ (d : Doc). d.asks ≤ vec_capacity c.in_ok-with_capacity.field-0) asks space) refl refl c.in_ok-new.ensures
