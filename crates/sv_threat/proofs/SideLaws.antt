-- The two sides of a check of an accepted table are of different columns, and it stands among the table's checks.
use Rattle.std.proofs.Common.{◌≡◌, ◌∙◌, ℕ, zero, suc, Bool, true, false, List, [], ◌∷◌, ◌++◌, map, Option, Some, None, slice_get, refl, sym, ap, subst}
use Rattle.std.specs.Cmp.Lexicographic.{nat_list_eq_equiv}
use Rattle.std.specs.List.{flat_map, Contains}
use Rattle.std.specs.Option.{option_map}
use Rattle.sv_app.specs.declared.apps.Ident.{Ident}
use Rattle.sv_app.specs.declared.refusals.Code.TheVariants.{Typing}
use Rattle.sv_app.specs.declared.refusals.Refusal.{Refusal}
use Rattle.sv_app.specs.declared.schemas.Check.{Check}
use Rattle.sv_app.specs.declared.schemas.Column.{Column}
use Rattle.sv_app.specs.Accepted.{AcceptedSchema}
use Rattle.sv_app.specs.Lookups.{is_named, column_names}
use Rattle.sv_app.specs.Numbers.{numbered_in, numbered_table, numbered_rule, numbered_check, numbered_invariant}
use Rattle.sv_app.specs.Satisfiable.{check_in, checks_of, number_of}
use Rattle.sv_app.specs.Schema.{Rule, Bound, Invariant, Declaration}
use Rattle.sv_app.specs.Typing.{no_column, side_faults, second_side, shape_faults, check_faults, rule_faults, key_faults, column_faults}
use Rattle.sv_app.proofs.AcceptedLaws.{front_none, back_none, each_none, no_fault, table_right}
use Rattle.sv_app.proofs.ListLaws.{Stands, contained, flat_stands, find_some, same_some}
use Rattle.sv_app.proofs.SchemaLaws.{Named, named, same_at}

-- a check stands among those of its table
pub check_stands : (table : Declaration) (inv : Invariant) (check : Check) → Contains table.invs inv → inv.rule ≡ Bound check → Stands (checks_of table) check
check_stands table inv check among rule =
    let at : Stands table.invs inv = contained table.invs inv among in
    flat_stands (λ (v : Invariant). check_in v.rule) table.invs at.number inv check at.at (record { number = 0; at = ap (λ r. slice_get (check_in r) 0) rule })

apart : (b : Bool) → b ≡ true → b ≡ false → ⊥
apart true e f = cc
apart false e f = cc

some_same : (a b : ℕ) → Some a ≡ Some b → a ≡ b
some_same a b e = cc

ident_same : (a b : Ident) → Some a ≡ Some b → a ≡ b
ident_same a b e = cc

-- two names of columns with one number are one name
one_name : (t : Declaration) (hi lo : Ident) → Named t hi → Named t lo → hi.num ≡ lo.num → is_named hi lo ≡ true
one_name t hi lo at_hi at_lo same =
    let column : at_hi.column ≡ at_lo.column = same_some (slice_get t.columns lo.num) at_hi.column at_lo.column (ap (slice_get t.columns) (sym same) ∙ at_hi.declared) at_lo.declared in
    let first : is_named at_hi.column.name hi ≡ true = (find_some (λ (c : Column). is_named c.name hi) t.columns at_hi.column at_hi.found).is in
    let second : is_named at_lo.column.name lo ≡ true = (find_some (λ (c : Column). is_named c.name lo) t.columns at_lo.column at_lo.found).is in
    sym (nat_list_eq_equiv.congr at_hi.column.name.name hi.name lo.name first) ∙ ap (λ (c : Column). is_named c.name lo) column ∙ second

sides_differ : (t : Declaration) (check : Check) (hi lo : Option Ident) → shape_faults check hi lo ≡ [] → side_faults t hi ≡ [] → side_faults t lo ≡ []
    → option_map (numbered_in (column_names t)) hi ≡ hi → option_map (numbered_in (column_names t)) lo ≡ lo → (c : ℕ) → number_of hi ≡ Some c → number_of lo ≡ Some c → ⊥
sides_differ t check None lo shape h l own also c at other = cc
sides_differ t check (Some hi) None shape h l own also c at other = cc
sides_differ t check (Some hi) (Some lo) shape h l own also c at other =
    let first : Named t hi = named t hi (ident_same _ _ own) (front_none (no_column t hi) _ h) in
    let second : Named t lo = named t lo (ident_same _ _ also) (front_none (no_column t lo) _ l) in
    apart (is_named hi lo) (one_name t hi lo first second (some_same _ _ at ∙ sym (some_same _ _ other))) (no_fault (is_named hi lo) (second_side check hi lo).spot Typing shape)

bound_same : (a b : Check) → Bound a ≡ Bound b → a ≡ b
bound_same a b e = cc

own_check : (schema : List Declaration) (number : ℕ) (table : Declaration) (inv : Invariant) (check : Check) → AcceptedSchema schema → slice_get schema number ≡ Some table → Contains table.invs inv
    → inv.rule ≡ Bound check → numbered_check table check ≡ check
own_check schema number table inv check accepted declared among rule =
    let own : numbered_table schema table ≡ table = same_at (numbered_table schema) schema number table accepted.names declared in
    let at : Stands table.invs inv = contained table.invs inv among in
    let same : numbered_invariant schema table inv ≡ inv = same_at (numbered_invariant schema table) table.invs at.number inv (ap (λ (d : Declaration). d.invs) own) at.at in
    let both : numbered_rule schema table inv.rule ≡ inv.rule = ap (λ (v : Invariant). v.rule) same in
    bound_same (numbered_check table check) check (ap (numbered_rule schema table) (sym rule) ∙ both ∙ rule)

pub sides_apart : (schema : List Declaration) (number : ℕ) (table : Declaration) (inv : Invariant) (check : Check) → AcceptedSchema schema → slice_get schema number ≡ Some table → Contains table.invs inv
    → inv.rule ≡ Bound check → (c : ℕ) → number_of check.hi ≡ Some c → number_of check.lo ≡ Some c → ⊥
sides_apart schema number table inv check accepted declared among rule =
    let own : numbered_check table check ≡ check = own_check schema number table inv check accepted declared among rule in
    let at : Stands table.invs inv = contained table.invs inv among in
    let rules : flat_map (λ v. rule_faults schema table v.rule) table.invs ≡ [] = back_none (key_faults table ++ column_faults table) _ (table_right schema accepted number table declared) in
    let faults : check_faults table check ≡ [] = ap (rule_faults schema table) (sym rule) ∙ each_none (λ v. rule_faults schema table v.rule) table.invs at.number inv rules at.at in
    let front : List Refusal = shape_faults check check.hi check.lo in
    let both : front ++ side_faults table check.hi ≡ [] = front_none (front ++ side_faults table check.hi) (side_faults table check.lo) faults in
    sides_differ table check check.hi check.lo (front_none front (side_faults table check.hi) both) (back_none front (side_faults table check.hi) both)
    (back_none (front ++ side_faults table check.hi) (side_faults table check.lo) faults) (ap (λ (k : Check). k.hi) own) (ap (λ (k : Check). k.lo) own)
