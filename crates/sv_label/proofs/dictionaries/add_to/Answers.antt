use Rattle.std.proofs.Common.{rules, ◌≡◌, ◌∙◌, ap, sym, subst, refl, [], ◌∷◌, ◌++◌, Some, None, OnOk}
use Rattle.std.specs.Map.{lookup}
use Rattle.std.specs.Option.{option_copied_mut}
use Rattle.indexmap.proofs.CallerLemmas.{insert_entry-new}
use Rattle.sv_label.specs.Stored.{groups_in}
use Rattle.sv_label.proofs.GroupLaws.{is_unit, has_choices, same_there, added_there, added_last, look_some}
use Rattle.sv_label.proofs.dictionaries.add_to.Goals as goal

pub returns-in_err-insert-in-Some-clause-kept : goal.returns-in_err-insert-in-Some-clause-kept
returns-in_err-insert-in-Some-clause-kept c =
    let w = c.insert.new.self in
    let es = c.args.groups.now.entries in
    let there : lookup (is_unit c.args.txn c.args.unit) es ≡ Some c.in-Some.templates.now = sym c.get_mut.ensures.value ∙ ap option_copied_mut c.in-Some.is in
    let same : groups_in (c.get_mut.follows.lender w).entries ≡ groups_in es =
    ap groups_in ((c.get_mut.follows.holds w).0) ∙ same_there es c.args.txn c.args.unit c.in-Some.templates.now w there c.in_err-insert-in-Some.ensures.err in
    search rules

pub returns-in_ok-insert-in-Some-clause-added : goal.returns-in_ok-insert-in-Some-clause-added
returns-in_ok-insert-in-Some-clause-added c =
    let w = c.insert.new.self in
    let es = c.args.groups.now.entries in
    let m = c.in-Some.templates.now in
    let there : lookup (is_unit c.args.txn c.args.unit) es ≡ Some m = sym c.get_mut.ensures.value ∙ ap option_copied_mut c.in-Some.is in
    let absent : lookup (has_choices c.args.choices.items) m.entries ≡ None =
    sym (look_some es (groups_in es) c.args.txn c.args.unit c.args.choices.items m refl there) ∙ c.requires.absent in
    let more : w.entries ≡ m.entries ++ (c.args.choices, c.args.t) ∷ [] = c.in_ok-insert-in-Some.ensures.entries ∙ insert_entry-new _ m c.args.choices c.args.t absent in
    ap groups_in ((c.get_mut.follows.holds w).0) ∙ added_there es c.args.txn c.args.unit m w c.args.choices c.args.t there more

pub returns-in-None-clause-added : goal.returns-in-None-clause-added
returns-in-None-clause-added c =
    let es = c.args.groups.now.entries in
    let none : lookup (is_unit c.args.txn c.args.unit) es ≡ None = sym c.get_mut.ensures.value ∙ ap option_copied_mut c.in-None.is in
    subst (λ l. OnOk c.add_group.result (groups_in c.add_group.new.groups.entries ≡ l))
    (ap (λ m. groups_in m.entries ++ record { txn = c.args.txn; unit = c.args.unit; templates = (c.args.choices.items, c.args.t) ∷ [] } ∷ []) c.get_mut.follows.holds-at-none
    ∙ sym (added_last es c.args.txn c.args.unit c.args.choices.items c.args.t none))
    c.add_group.ensures.added
