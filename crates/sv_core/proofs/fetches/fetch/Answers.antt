use Rattle.std.proofs.Common.{sym, subst}
use Rattle.sv_effect.specs.BareTables.{bare}
use Rattle.sv_core.specs.Sheets.{Adds, Follows}
use Rattle.sv_core.proofs.FetchLaws.{adds_none, fetched}
use Rattle.sv_core.proofs.fetches.fetch.Goals as goal

pub returns-in-Row : goal.returns-in-Row
returns-in-Row g c =
    let t = bare (g.S.RowStore.stamped c.args.store.now) in
    fetched t c.args.ask.now c.args.sheet.now _ 0 _ c.requires.room c.requires.unknown c.fetch_one.ensures (adds_none t (Follows t c.args.ask.now) c.fetch_one.new.sheet)

pub returns-in-Next : goal.returns-in-Next
returns-in-Next g c =
    let t = bare (g.S.RowStore.stamped c.args.store.now) in
    fetched t c.args.ask.now c.args.sheet.now _ _ _ c.requires.room c.requires.unknown c.fetch_one.ensures
    (subst (λ ask. Adds t (Follows t ask) c.fetch_one.new.sheet c.fetch_behind.result c.fetch_behind.new.sheet) (sym c.in-Next.is) c.fetch_behind.ensures.adds)
