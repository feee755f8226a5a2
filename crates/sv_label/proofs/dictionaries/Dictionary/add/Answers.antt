use Rattle.std.proofs.Common.{◌<◌, subst, sym}
use Rattle.sv_label.specs.Groups.{entries}
use Rattle.sv_label.specs.Stored.{groups_in}
use Rattle.sv_label.proofs.GroupLaws.{keeps_added}
use Rattle.sv_label.proofs.dictionaries.Dictionary.add.Goals as goal

pub invariant_of-self-2 : goal.invariant_of-self-2
invariant_of-self-2 c =
    keeps_added (groups_in c.self.inside.groups.entries) (groups_in c.add_to.new.groups.entries) c.self.inside.entries c.args.txn c.args.unit c.in_ok-choices.choices.items c.args.t c.self.invariant
    (subst (λ gs. entries gs < 8192) (sym c.self.view_is) c.requires.room) c.in_ok-add_to.ensures.added
