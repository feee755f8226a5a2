use Rattle.std.proofs.Common.{rules, ◌≡◌, Some, slice_get, refl, sym, ap, ◌∙◌}
use Rattle.std.proofs.lemmas.Option.{slice_get_read}
use Rattle.sv_effect.specs.declared.reads.Read.{Read}
use Rattle.sv_core.specs.Sheets.{is_ask}
use Rattle.sv_core.proofs.SheetLaws.{exact_asks, others_more}
use Rattle.sv_core.proofs.sheets.find.Goals as goal

pub returns-then-is_ask : goal.returns-then-is_ask
returns-then-is_ask c = record {
  read = c.index-reads-place.result;
  stands = slice_get_read c.args.reads.now _ c.loop-place.place c.index-reads-place.result refl (search rules) c.index-reads-place.is;
  is = exact_asks c.args.ask.now c.index-reads-place.result.ask (ap (λ (r : Read). is_ask c.args.ask.now r.ask) c.index-reads-place.is ∙ sym c.is_ask.ensures ∙ c.if-is_ask.true);
}

pub loop-place-preserved : goal.loop-place-preserved
loop-place-preserved c =
    let read : slice_get c.args.reads.now c.loop-place.place ≡ Some c.index-reads-place.result =
    slice_get_read c.args.reads.now _ c.loop-place.place c.index-reads-place.result refl (search rules) c.index-reads-place.is in
    (others_more c.args.reads.now c.args.ask.now c.args.from c.loop-place.place c.index-reads-place.result read (ap (λ (r : Read). is_ask c.args.ask.now r.ask) c.index-reads-place.is ∙ sym c.is_ask.ensures ∙ c.if-is_ask.false) c.loop-place.invariant.0, c.loop-place.invariant.1)
