use Rattle.std.proofs.Common.{◌||◌, [], ◌∷◌, ap, sym, ◌∙◌}
use Rattle.std.specs.BTreeSet.{contains}
use Rattle.sv_value.specs.declared.values.Val.{Val}
use Rattle.sv_app.specs.Schema.{rule_of}
use Rattle.sv_check.specs.declared.initial.Held.{Held}
use Rattle.sv_check.specs.Tests.{val_in, held_cmp, held_of, is_held}
use Rattle.sv_check.proofs.SetLaws.{one_noted}
use Rattle.sv_check.proofs.ValueLaws.{held_total}
use Rattle.sv_check.proofs.initial.note_one.Goals as goal

pub returns-in_ok-insert : goal.returns-in_ok-insert
returns-in_ok-insert c = λ held.
    let as_held : Val → Held = λ v. record { table = c.args.row.now.table; column = c.in-Unique.col.num; val = v } in
    one_noted held_cmp held_total c.args.earlier.now c.insert.new.self (as_held c.val_in.result) held (c.in_ok-insert.ensures.updates.0 held)
    ∙ ap (λ v. contains held_cmp c.args.earlier.now held || is_held held (as_held v ∷ [])) (c.val_in.ensures ∙ ap (λ vs. val_in vs c.in-Unique.col.num) c.items.ensures)
    ∙ ap (λ body. contains held_cmp c.args.earlier.now held || is_held held (held_of c.args.row.now (rule_of body))) (sym c.in-Unique.is)
