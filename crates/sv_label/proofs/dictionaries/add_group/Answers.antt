use Rattle.std.proofs.Common.{◌≡◌, ◌∙◌, ap, [], ◌∷◌, ◌++◌}
use Rattle.std.proofs.lemmas.List.{map-append}
use Rattle.indexmap.proofs.CallerLemmas.{insert_entry-new}
use Rattle.sv_label.specs.Stored.{groups_in, group_of, templates_in}
use Rattle.sv_label.proofs.GroupLaws.{insert_first}
use Rattle.sv_label.proofs.dictionaries.add_group.Goals as goal

pub returns-clause-added : goal.returns-clause-added
returns-clause-added c =
    let old = c.args.groups.now in
    let inner : c.insert.new.self.entries ≡ (c.args.choices, c.args.t) ∷ [] = insert_first _ _ _ _ _ c.new-templates.ensures.empty c.in_ok-insert.ensures.entries in
    let outer : c.insert-2.new.self.entries ≡ old.entries ++ ((c.args.txn, c.args.unit), c.insert.new.self) ∷ [] = c.in_ok-insert-2.ensures.entries ∙ insert_entry-new _ old (c.args.txn, c.args.unit) c.insert.new.self c.requires in
    ap groups_in outer ∙ map-append group_of old.entries (((c.args.txn, c.args.unit), c.insert.new.self) ∷ [])
    ∙ ap (λ ts. groups_in old.entries ++ record { txn = c.args.txn; unit = c.args.unit; templates = templates_in ts } ∷ []) inner
