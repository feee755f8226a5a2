use Rattle.std.proofs.Common.{◌≡◌, ap, sym, subst, ◌∙◌, arith}
use Rattle.std.proofs.lemmas.Option.{slice_get_within}
use Rattle.sv_app.specs.Schema.{schema_of}
use Rattle.sv_effect.specs.declared.reads.Ask.TheVariants.{Row}
use Rattle.sv_effect.specs.Reads.{IsRow, answer_of}
use Rattle.sv_core.specs.Sheets.{AnswerFits, Knows}
use Rattle.sv_core.proofs.SheetLaws.{known_in, place_within}
use Rattle.sv_core.proofs.sheets.Sheet.known_row.Goals as goal

pub unreachable-requires : goal.unreachable-requires
unreachable-requires c =
    subst (λ told. AnswerFits (schema_of c.args.self.now.doc.app.tables.items) (Row c.args.table c.args.key.now) (answer_of told)) c.in-Next.is
    (known_in _ _ _ _ _ _ _ c.index.result.now c.self.view_is c.self.invariant.0 c.as_slice.ensures.value c.in_ok-place.ensures c.index.ensures).fits

pub invariant_of-self : goal.invariant_of-self
invariant_of-self c = (c.self.invariant.0, c.self.invariant.1, place_within _ _ _ _ c.as_slice.ensures.value c.in_ok-place.ensures)

pub returns-clause-some : goal.returns-clause-some
returns-clause-some c =
    subst (λ answer. Knows c.args.self.now (Row c.args.table c.args.key.now) answer) (ap answer_of c.in-Row.is ∙ ap (λ seen. IsRow seen) (sym c.copied.ensures))
    (known_in _ _ _ _ _ _ _ c.index.result.now c.self.view_is c.self.invariant.0 c.as_slice.ensures.value c.in_ok-place.ensures c.index.ensures)
