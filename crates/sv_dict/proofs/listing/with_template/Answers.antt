use Rattle.std.proofs.Common.{rules, ◌∙◌, ◌+◌, ap, sym}
use Rattle.sv_label.specs.Groups.{found, added}
use Rattle.sv_paths.specs.declared.answers.Path.{Path}
use Rattle.sv_paths.specs.Numbered.{part_of}
use Rattle.sv_dict.proofs.ListingLaws.{absent_here, one_more, full}
use Rattle.sv_dict.proofs.listing.with_template.Goals as goal

pub returns-in-None-clause-excess : goal.returns-in-None-clause-excess
returns-in-None-clause-excess c = full c.args.setting.now (part_of c.args.unit.now) c.args.paths.now c.args.at c.args.template c.args.counted c.requires.template c.requires.has c.in-None.ensures

pub add-requires-clause-absent : goal.add-requires-clause-absent
add-requires-clause-absent c =
    ap (λ cs. found c.args.counted.dict c.args.unit.now.txn c.args.unit.now.number cs) (c.items-choices.ensures ∙ ap (λ (p : Path). p.choices) (sym c.index-paths-at.is))
    ∙ absent_here c.args.setting.now (part_of c.args.unit.now) c.args.paths.now c.args.at c.args.template c.index-paths-at.result c.args.counted c.requires.template c.index-paths-at.is c.requires.has

pub returns-in-Ok-clause-has : goal.returns-in-Ok-clause-has
returns-in-Ok-clause-has c =
    one_more c.args.setting.now (part_of c.args.unit.now) c.args.paths.now c.args.at c.args.template c.index-paths-at.result c.args.counted
    (record { dict = c.add.new.self; atoms = c.args.counted.atoms + c.in-Some.listed }) c.requires.template c.index-paths-at.is c.requires.has c.in-Some.ensures.room
    (c.in-Ok.ensures.added ∙ ap (λ cs. added c.args.counted.dict c.args.unit.now.txn c.args.unit.now.number cs c.args.template) (c.items-choices.ensures ∙ ap (λ (p : Path). p.choices) (sym c.index-paths-at.is)))
    (ap (λ n. c.args.counted.atoms + n) c.in-Some.ensures.counted)
