use Rattle.std.proofs.Common.{rules, ◌≡◌, true, Some, slice_get, refl}
use Rattle.std.proofs.lemmas.Option.{slice_get_read}
use Rattle.sv_effect.specs.BareTables.{bare}
use Rattle.sv_core.proofs.ToldLaws.{agrees_more, first_changed}
use Rattle.sv_core.proofs.sites.first_change.Goals as goal

pub returns-then-not-is_told : goal.returns-then-not-is_told
returns-then-not-is_told c =
    let read : slice_get c.args.reads.now c.loop-place.place ≡ Some c.index-reads-place.result =
    slice_get_read c.args.reads.now _ c.loop-place.place c.index-reads-place.result refl (search rules) c.index-reads-place.is in
    first_changed (bare c.args.rows.now.tables) c.args.reads.now c.loop-place.place c.index-reads-place.result c.told-now.result read
    c.loop-place.invariant c.told-now.ensures (λ e. let is : c.is_told.result ≡ true = c.is_told.ensures.1 e in absurd cc)

pub loop-place-preserved : goal.loop-place-preserved
loop-place-preserved c =
    let read : slice_get c.args.reads.now c.loop-place.place ≡ Some c.index-reads-place.result =
    slice_get_read c.args.reads.now _ c.loop-place.place c.index-reads-place.result refl (search rules) c.index-reads-place.is in
    agrees_more (bare c.args.rows.now.tables) c.args.reads.now c.loop-place.place c.index-reads-place.result c.told-now.result read
    c.loop-place.invariant c.told-now.ensures (c.is_told.ensures.0 c.if-not-is_told.false)
