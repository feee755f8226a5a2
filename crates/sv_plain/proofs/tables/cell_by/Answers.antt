use Rattle.std.proofs.Common.{sym, ap, ◌∙◌, arith}
use Rattle.std.specs.Prelude.{◌+ℤ◌, map}
use Rattle.std.proofs.lemmas.Int.{ints}
use Rattle.sv_effect.specs.TablesOfCut.{greatest, started, sets_of, sum_of, number_in, writes_to, cell_by}
use Rattle.sv_plain.specs.Held.{change_of, write_of}
use Rattle.sv_plain.proofs.QueryLaws.{counted, last_written}
use Rattle.sv_plain.proofs.tables.cell_by.Goals as goal

pub returns-in_ok-writes-in-NumDelta-clause-value : goal.returns-in_ok-writes-in-NumDelta-clause-value
returns-in_ok-writes-in-NumDelta-clause-value c = λ cs gathers.
    counted c.args.number c.args.first.now c.args.gathered.now cs c.in_ok-writes-in-NumDelta.writes.items _ c.count_of.result gathers
    (c.in_ok-writes-in-NumDelta.ensures.value ∙ ap (λ l. writes_to c.args.number (map change_of l)) c.deref.ensures.value)
    (omega (arith, ints, c.count_of.ensures.narrow))
    (c.count_of.ensures.value ∙ ap (λ l. (number_in c.args.first.now) +ℤ sum_of (map write_of l)) c.deref-in-NumDelta.ensures.value)
    ∙ ap (λ m. cell_by m c.args.first.now (λ o. writes_to c.args.number (cs o))) (sym c.in-NumDelta.is)

pub returns-in_ok-writes-in-Lww-clause-value : goal.returns-in_ok-writes-in-Lww-clause-value
returns-in_ok-writes-in-Lww-clause-value c = λ cs gathers.
    last_written c.args.number c.args.first.now c.args.gathered.now cs c.in_ok-writes-in-Lww.writes.items c.greatest_set-last.result gathers
    (c.in_ok-writes-in-Lww.ensures.value ∙ ap (λ l. writes_to c.args.number (map change_of l)) c.deref-in-Lww.ensures.value)
    (c.greatest_set-last.ensures ∙ ap (λ l. greatest (started c.args.first.now) (sets_of (map write_of l))) c.deref-in-Lww-2.ensures.value)
    ∙ ap (λ m. cell_by m c.args.first.now (λ o. writes_to c.args.number (cs o))) (sym c.in-Lww.is)
