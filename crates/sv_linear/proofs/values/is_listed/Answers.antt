use Rattle.std.proofs.Common.{rules, ◌≡◌, ◌∙◌, ap, ℕ, Bool, List}
use Rattle.std.specs.List.{list_any}
use Rattle.sv_app.specs.declared.schemas.Table.{Table}
use Rattle.sv_app.specs.Schema.{invariant_of}
use Rattle.sv_linear.specs.Tests.{lists}
use Rattle.sv_linear.proofs.ValueLaws.{listed_in}
use Rattle.sv_linear.proofs.values.is_listed.Goals as goal

abbrev by_tables : ℕ → List ℕ → List Table → Bool
by_tables number text tables = list_any (λ table. list_any (λ inv. lists number text (invariant_of inv)) table.invs.items) tables

pub returns : goal.returns
returns c =
    let found : c.is_listed_in.result ≡ by_tables c.args.number c.args.text.now c.deref.result.now = c.is_listed_in.ensures in
    let same : c.deref.result.now ≡ c.args.app.now.tables.items = search rules in
    found ∙ ap (by_tables c.args.number c.args.text.now) same ∙ listed_in c.args.app.now.tables.items c.args.number c.args.text.now
