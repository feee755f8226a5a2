use Rattle.std.proofs.Common.{ap}
use Rattle.std.specs.Prelude.{map}
use Rattle.sv_value.specs.Cuts.{counts}
use Rattle.sv_effect.specs.BareTables.{bare}
use Rattle.sv_effect.specs.TablesOfCut.{tables_of}
use Rattle.sv_core.proofs.HistoryLaws.{asked_there}
use Rattle.sv_plain.specs.Held.{medium_of}
use Rattle.sv_legal.specs.Before.{doc_of, past_of}
use Rattle.sv_legal.proofs.FindingLaws.{prepared_is}
use Rattle.sv_core.proofs.ItemLaws.{listed_at}
use Rattle.sv_legal.proofs.ToldLaws.{are_narrow, few_changes, rows_then, stand_then, tables_are, valid_then}
use Rattle.sv_legal.proofs.befores.Before.prepared.Goals as goal

pub invariant_of-rows : goal.invariant_of-rows
invariant_of-rows c = record {
  narrow = are_narrow (doc_of c.args.self.now).schema c.requires.told.lawful.sound.accepted.tables;
  few = few_changes (doc_of c.args.self.now) (past_of c.args.self.now) (map (λ ops. ops.items) c.args.self.now.published.now) c.requires.told;
}

pub prepare-requires-clause-site : goal.prepare-requires-clause-site
prepare-requires-clause-site c =
    asked_there (doc_of c.args.self.now) (past_of c.args.self.now) c.requires.told.lawful.sound.some c.requires.told.lawful.legal c.args.asked.now.session c.args.asked.now.index c.args.asked.now.request.now c.args.asked.now.site c.args.asked.now.at
    c.requires.asked

pub prepare-requires-clause-listed : goal.prepare-requires-clause-listed
prepare-requires-clause-listed c =
    listed_at (doc_of c.args.self.now) (past_of c.args.self.now) c.args.asked.now.session c.args.asked.now.index c.args.asked.now.request.now c.requires.told.lawful.legal
    c.requires.asked.next c.requires.asked.listed

pub prepare-requires-clause-rows : goal.prepare-requires-clause-rows
prepare-requires-clause-rows c =
    stand_then (doc_of c.args.self.now) (past_of c.args.self.now) (map (λ ops. ops.items) c.args.self.now.published.now) c.items.result.now c.args.asked.now.site c.args.asked.now.at (counts c.cut_at-cut.result)
    c.requires.told c.items.ensures c.cut_at-cut.ensures

pub returns-in-Ok : goal.returns-in-Ok
returns-in-Ok c =
    prepared_is (doc_of c.args.self.now) (past_of c.args.self.now) c.args.asked.now.session c.args.asked.now.index c.args.asked.now.request.now c.args.asked.now.site c.args.asked.now.at c.in-Ok.p
    (bare (tables_of (doc_of c.args.self.now).schema c.items.result.now (medium_of (map (λ ops. ops.items) c.args.self.now.published.now)) (counts c.cut_at-cut.result)))
    c.in-Ok.ensures.given (c.in-Ok.ensures.made c.requires.ruled)
    (ap bare (tables_are (doc_of c.args.self.now) (past_of c.args.self.now) (map (λ ops. ops.items) c.args.self.now.published.now) c.items.result.now c.args.asked.now.site c.args.asked.now.at (counts c.cut_at-cut.result)
    c.requires.told c.items.ensures c.cut_at-cut.ensures))
    (valid_then (doc_of c.args.self.now) (past_of c.args.self.now) c.args.asked.now.site c.args.asked.now.at c.requires.told.lawful)
    (rows_then (doc_of c.args.self.now) (past_of c.args.self.now) c.args.asked.now.site c.args.asked.now.at c.requires.told.lawful)
    c.in-Ok.ensures.honest
