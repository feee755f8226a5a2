-- A column that refers is no counter.
use Rattle.std.proofs.Common.{◌≡◌, ℕ, suc, ◌++◌, Bool, true, false, cond, List, [], ◌∷◌, Option, Some, None, slice_get, refl, sym, ap, subst, ◌∙◌}
use Rattle.std.specs.Prelude.{map, unwrap_or}
use Rattle.std.specs.List.{find, flat_map}
use Rattle.std.specs.Option.{option_map, is_none}
use Rattle.std.proofs.lemmas.Option.{slice_get-map}
use Rattle.sv_app.specs.declared.apps.Ident.{Ident}
use Rattle.sv_app.specs.declared.gots.Got.{Got}
use Rattle.sv_app.specs.declared.places.Place.{Place}
use Rattle.sv_app.specs.declared.schemas.Column.{Column}
use Rattle.sv_app.specs.declared.schemas.Inv.{Inv}
use Rattle.sv_app.specs.declared.schemas.InvBody.TheVariants as bodies
use Rattle.sv_app.specs.Accepted.{AcceptedSchema}
use Rattle.sv_app.specs.Lookups.{is_named, column_of, holds_of, place_of, column_names}
use Rattle.sv_app.specs.Numbers.{numbered_rule, numbered_invariant, numbered_table}
use Rattle.sv_app.specs.Schema.{Rule, Refers, Invariant, Declaration, rule_of, invariant_of}
use Rattle.sv_app.specs.Typing.{is_numdelta, no_column, at_column, key_faults, column_faults, referring_faults, referred_faults, target_faults, rule_faults}
use Rattle.sv_app.specs.Valid.{IsInvariant, value_of}
use Rattle.sv_app.proofs.AcceptedLaws.{front_none, back_none, each_none, no_fault, table_right}
use Rattle.sv_effect.specs.declared.left.LeftRow.{LeftRow}
use Rattle.sv_effect.specs.Words.{IsWordGot}
use Rattle.sv_effect.specs.Overlays.{left_row}
use Rattle.sv_check.specs.Bounds.{is_counter, AreBounded}
use Rattle.sv_app.proofs.ListLaws.{Stands, contained}

-- the column that is found by its name stands at the place of the name
found_at : (columns : List Column) (name : Ident) (c : Column) → find (λ x. is_named x.name name) columns ≡ Some c
    → (k : ℕ) × (place_of name (map (λ x. x.name) columns) ≡ Some k) × (slice_get columns k ≡ Some c)
found_at [] name c e = absurd cc
found_at (x ∷ columns) name c e = split (found_at columns name c) (is_named x.name name) refl e
  where
    split : (find (λ y. is_named y.name name) columns ≡ Some c → (k : ℕ) × (place_of name (map (λ y. y.name) columns) ≡ Some k) × (slice_get columns k ≡ Some c)) → (b : Bool) → is_named x.name name ≡ b
        → cond b (Some x) (find (λ y. is_named y.name name) columns) ≡ Some c → (k : ℕ) × (place_of name (map (λ y. y.name) (x ∷ columns)) ≡ Some k) × (slice_get (x ∷ columns) k ≡ Some c)
    split ih true is found = (0, ap (λ b. cond b (Some 0) (option_map (λ place. suc place) (place_of name (map (λ y. y.name) columns)))) is, found)
    split ih false is found =
        let rest : (k : ℕ) × (place_of name (map (λ y. y.name) columns) ≡ Some k) × (slice_get columns k ≡ Some c) = ih found in
        (suc rest.0, ap (λ b. cond b (Some 0) (option_map (λ place. suc place) (place_of name (map (λ y. y.name) columns)))) is ∙ ap (option_map (λ place. suc place)) rest.1, rest.2)

-- a column that is found by its name, and is no counter
plain_found : (columns : List Column) (name : Ident) (o : Option Column) → find (λ x. is_named x.name name) columns ≡ o → is_none o ≡ false → holds_of o (λ c. is_numdelta c.merge) ≡ false
    → holds_of (slice_get columns (unwrap_or (place_of name (map (λ x. x.name) columns)) 0)) (λ c. is_numdelta c.merge) ≡ false
plain_found columns name None found some plain = absurd cc
plain_found columns name (Some c) found some plain =
    let at : (k : ℕ) × (place_of name (map (λ x. x.name) columns) ≡ Some k) × (slice_get columns k ≡ Some c) = found_at columns name c found in
    ap (λ o. holds_of (slice_get columns (unwrap_or o 0)) (λ c. is_numdelta c.merge)) at.1 ∙ ap (λ o. holds_of o (λ c. is_numdelta c.merge)) at.2 ∙ plain

-- the rule is right in its table
rule_right : (schema : List Declaration) → AcceptedSchema schema → (table : ℕ) (t : Declaration) (inv : Invariant) → slice_get schema table ≡ Some t → Stands t.invs inv → rule_faults schema t inv.rule ≡ []
rule_right schema accepted table t inv at stands =
    each_none (λ (i : Invariant). rule_faults schema t i.rule) t.invs stands.number inv (back_none (key_faults t ++ column_faults t) (flat_map (λ i. rule_faults schema t i.rule) t.invs) (table_right schema accepted table t at)) stands.at

-- its names have their numbers
same_some : {A : Type 0} (x y : A) → Some x ≡ Some y → x ≡ y
same_some x y e = cc

rule_numbered : (schema : List Declaration) → AcceptedSchema schema → (table : ℕ) (t : Declaration) (inv : Invariant) → slice_get schema table ≡ Some t → Stands t.invs inv → numbered_rule schema t inv.rule ≡ inv.rule
rule_numbered schema accepted table t inv at stands =
    let same : numbered_table schema t ≡ t = same_some _ _ (sym (slice_get-map (numbered_table schema) schema table ∙ ap (option_map (numbered_table schema)) at) ∙ ap (λ s. slice_get s table) accepted.names ∙ at) in
    let inv_is : numbered_invariant schema t inv ≡ inv =
    same_some _ _ (sym (slice_get-map (numbered_invariant schema t) t.invs stands.number ∙ ap (option_map (numbered_invariant schema t)) stands.at) ∙ ap (λ (d : Declaration). slice_get d.invs stands.number) same ∙ stands.at) in
    ap (λ (i : Invariant). i.rule) inv_is

abbrev column_of_rule : Rule → Ident → Ident
column_of_rule (Refers column parent target) other = column
column_of_rule rule other = other

pub refers_plain : (schema : List Declaration) → AcceptedSchema schema → (table : ℕ) (inv : Invariant) (column parent target : Ident) → IsInvariant schema table inv → inv.rule ≡ Refers column parent target
    → is_counter (slice_get schema table) column.num ≡ false
refers_plain schema accepted table inv column parent target is rule =
    ap (λ o. is_counter o column.num) is.declared ∙ ap (λ n. is_counter (Some t) n) number
    ∙ plain_found t.columns column (column_of t column) refl (no_fault _ _ _ missing) (no_fault _ _ _ counter)
  where
    t : Declaration
    t = is.declaration

    stands : Stands t.invs inv
    stands = contained t.invs inv is.among

    right : rule_faults schema t (Refers column parent target) ≡ []
    right = subst (λ r. rule_faults schema t r ≡ []) rule (rule_right schema accepted table t inv is.declared stands)

    referring : referring_faults schema t column parent target ≡ []
    referring = front_none (referring_faults schema t column parent target) (referred_faults schema parent)
        (front_none (referring_faults schema t column parent target ++ referred_faults schema parent) (target_faults schema parent target) right)

    both : no_column t column ++ at_column t column (λ c. is_numdelta c.merge) ≡ []
    both = front_none (no_column t column ++ at_column t column (λ c. is_numdelta c.merge)) _ referring

    missing : no_column t column ≡ []
    missing = front_none (no_column t column) (at_column t column (λ c. is_numdelta c.merge)) both

    counter : at_column t column (λ c. is_numdelta c.merge) ≡ []
    counter = back_none (no_column t column) (at_column t column (λ c. is_numdelta c.merge)) both

    named : numbered_rule schema t (Refers column parent target) ≡ Refers column parent target
    named = ap (numbered_rule schema t) (sym rule) ∙ rule_numbered schema accepted table t inv is.declared stands ∙ rule

    number : column.num ≡ unwrap_or (place_of column (column_names t)) 0
    number = sym (ap (λ r. (column_of_rule r column).num) named)

-- so its value is a word
pub refers_word : (schema : List Declaration) → AcceptedSchema schema → (place : Place) (inv : Inv) (column parent target : Ident) (row : LeftRow) (got : Got) → IsInvariant schema place.table (invariant_of inv)
    → inv.body ≡ bodies.Refers column parent target → AreBounded (slice_get schema place.table) 0 row.values → got ≡ value_of (left_row row) column → IsWordGot got
refers_word schema accepted place inv column parent target row got is body bounded value =
    subst IsWordGot (sym value) (bounded.words column.num (refers_plain schema accepted place.table (invariant_of inv) column parent target is (ap rule_of body)))
