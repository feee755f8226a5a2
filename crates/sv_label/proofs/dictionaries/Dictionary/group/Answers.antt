use Rattle.std.proofs.Common.{◌≡◌, ◌≤◌, ◌<◌, ◌∙◌, ap, sym, subst, Some, length, slice_get, arith}
use Rattle.sv_label.specs.Groups.{group_at}
use Rattle.sv_label.specs.Stored.{groups_in}
use Rattle.sv_label.proofs.GroupLaws.{few_templates, long_templates, group_there, group_seen}
use Rattle.sv_label.proofs.dictionaries.Dictionary.group.Goals as goal

pub overflow_cast-result : goal.overflow_cast-result
overflow_cast-result c =
    let es = c.self.inside.groups.entries in
    let inside : c.args.g < length (groups_in es) = subst (λ gs. c.args.g < length gs) (sym c.self.view_is) c.requires in
    let few : length (group_at (groups_in es) c.args.g).templates ≤ 8192 = few_templates (groups_in es) c.self.inside.entries c.args.g c.self.invariant inside in
    let at : slice_get es c.args.g ≡ Some (c.in-Some.unit.now, c.in-Some.templates.now) = sym c.in-Some.ensures.entry in
    let same : length (group_at (groups_in es) c.args.g).templates ≡ length c.in-Some.templates.now.entries =
    ap (λ g. length g.templates) (group_there es c.args.g (c.in-Some.unit.now, c.in-Some.templates.now) at) ∙ long_templates c.in-Some.templates.now.entries in
    let len : c.len.result ≡ length c.in-Some.templates.now.entries = c.len.ensures.len in
    omega (arith, few, same, len)

pub returns-clause-txn : goal.returns-clause-txn
returns-clause-txn c = sym (ap (λ g. g.txn) (group_seen c.self.inside.groups.entries c.args.self.now c.args.g (c.in-Some.unit.now, c.in-Some.templates.now) c.self.view_is (sym c.in-Some.ensures.entry)))

pub returns-clause-unit : goal.returns-clause-unit
returns-clause-unit c = sym (ap (λ g. g.unit) (group_seen c.self.inside.groups.entries c.args.self.now c.args.g (c.in-Some.unit.now, c.in-Some.templates.now) c.self.view_is (sym c.in-Some.ensures.entry)))

pub returns-clause-count : goal.returns-clause-count
returns-clause-count c =
    c.len.ensures.len ∙ sym (long_templates c.in-Some.templates.now.entries)
    ∙ sym (ap (λ g. length g.templates) (group_seen c.self.inside.groups.entries c.args.self.now c.args.g (c.in-Some.unit.now, c.in-Some.templates.now) c.self.view_is (sym c.in-Some.ensures.entry)))
