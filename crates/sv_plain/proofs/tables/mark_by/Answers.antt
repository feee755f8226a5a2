use Rattle.std.proofs.Common.{sym, ap, ◌∙◌}
use Rattle.std.specs.Prelude.{map}
use Rattle.sv_effect.specs.TablesOfCut.{greatest, started, turns_of, mark_by}
use Rattle.sv_plain.specs.Held.{change_of}
use Rattle.sv_plain.proofs.QueryLaws.{marked_greatest}
use Rattle.sv_plain.proofs.tables.mark_by.Goals as goal

pub returns-then-annotated : goal.returns-then-annotated
returns-then-annotated c = λ cs gathers.
    marked_greatest c.args.present c.args.gathered.now cs c.greatest_mark.result gathers
    (c.greatest_mark.ensures ∙ ap (λ l. greatest (started c.args.present) (turns_of (map change_of l))) c.deref.ensures.value)
    ∙ ap (λ b. mark_by b c.args.present (λ o. turns_of (cs o))) (sym c.if-annotated.true)
