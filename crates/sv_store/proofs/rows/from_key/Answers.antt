use Rattle.std.proofs.Common.{◌∷◌, sym, ap, ◌∙◌}
use Rattle.sv_effect.specs.RowChange.{as_list, from_key}
use Rattle.sv_store.proofs.CellLaws.{key_first, key_second, key_neither, key_other}
use Rattle.sv_store.proofs.rows.from_key.Goals as goal

pub returns-then-names_column : goal.returns-then-names_column
returns-then-names_column c = sym (key_first c.args.names.now c.args.key.now.first (as_list c.args.key.now.second) c.args.column c.args.zero_value (sym c.names_column.ensures ∙ c.if-names_column.true))

pub returns-then-names_column-2 : goal.returns-then-names_column-2
returns-then-names_column-2 c = sym (ap (λ o. from_key c.args.names.now (c.args.key.now.first ∷ as_list o) c.args.column c.args.zero_value) c.in-Some.is
    ∙ key_second c.args.names.now c.args.key.now.first c.in-Some.second c.args.column c.args.zero_value (sym c.names_column.ensures ∙ c.if-names_column.false) (sym c.names_column-in-Some.ensures ∙ c.if-names_column-2.true))

pub returns-else-names_column-2 : goal.returns-else-names_column-2
returns-else-names_column-2 c = sym (ap (λ o. from_key c.args.names.now (c.args.key.now.first ∷ as_list o) c.args.column c.args.zero_value) c.in-Some.is
    ∙ key_neither c.args.names.now c.args.key.now.first c.in-Some.second c.args.column c.args.zero_value (sym c.names_column.ensures ∙ c.if-names_column.false) (sym c.names_column-in-Some.ensures ∙ c.if-names_column-2.false))

pub returns-in-None : goal.returns-in-None
returns-in-None c = sym (ap (λ o. from_key c.args.names.now (c.args.key.now.first ∷ as_list o) c.args.column c.args.zero_value) c.in-None.is
    ∙ key_other c.args.names.now c.args.key.now.first c.args.column c.args.zero_value (sym c.names_column.ensures ∙ c.if-names_column.false))
