use Rattle.std.proofs.Common.{◌∙◌, ap, sym}
use Rattle.std.specs.Option.{option_copied}
use Rattle.sv_label.proofs.GroupLaws.{look_none, look_some}
use Rattle.sv_label.proofs.dictionaries.Dictionary.look.Goals as goal

pub returns-in_err-get : goal.returns-in_err-get
returns-in_err-get c =
    ap option_copied c.from_residual.ensures
    ∙ sym (look_none c.self.inside.groups.entries c.args.self.now c.args.txn c.args.unit c.args.choices.now c.self.view_is (sym c.get.ensures.value ∙ ap option_copied c.in_err-get.was))

pub returns : goal.returns
returns c =
    c.get-2.ensures.value
    ∙ sym (look_some c.self.inside.groups.entries c.args.self.now c.args.txn c.args.unit c.args.choices.now c.in_ok-get.field-0.now c.self.view_is (sym c.get.ensures.value ∙ ap option_copied c.in_ok-get.was))
