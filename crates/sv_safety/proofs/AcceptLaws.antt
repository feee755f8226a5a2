-- What acceptance says of the columns that rules name.
use Rattle.std.proofs.Common.{◌≡◌, ◌≢◌, ◌||◌, ◌==◌, ℕ, suc, ◌++◌, not, Bool, true, false, List, [], ◌∷◌, Option, Some, None, slice_get, refl, sym, ap, ◌∙◌}
use Rattle.std.specs.List.{list_any, flat_map}
use Rattle.std.specs.Option.{option_map}
use Rattle.std.proofs.lemmas.Slice.Eq.{bytes_eq-Decides}
use Rattle.sv_app.specs.declared.apps.Ident.{Ident}
use Rattle.sv_app.specs.declared.refusals.Code.TheVariants.{Typing}
use Rattle.sv_app.specs.declared.schemas.Column.{Column}
use Rattle.sv_app.specs.declared.schemas.Merge.{Merge}
use Rattle.sv_app.specs.declared.schemas.Merge.TheVariants as merges
use Rattle.sv_app.specs.declared.schemas.Ty.{Ty}
use Rattle.sv_app.specs.declared.schemas.Ty.TheVariants as types
use Rattle.sv_app.specs.Accepted.{AcceptedSchema}
use Rattle.sv_app.specs.Lookups.{is_named, column_of, is_key, holds_of, column_names}
use Rattle.sv_app.specs.Numbers.{numbered_in, numbered_rule, numbered_invariant, numbered_table}
use Rattle.sv_app.specs.Schema.{Rule, Bound, OneOf, Different, Refers, Invariant, Declaration}
use Rattle.sv_app.specs.Typing.{is_text, is_numdelta, no_column, at_column, key_faults, column_faults, shape_faults, side_faults, referring_faults, referred_faults, target_faults, rule_faults}
use Rattle.sv_app.proofs.AcceptedLaws.{front_none, back_none, each_none, no_fault, table_right, counter_is_int, no_lists}
use Rattle.sv_app.proofs.ListLaws.{Stands, contained, find_some, same_some}
use Rattle.sv_app.proofs.SchemaLaws.{same_at, Named, named, key_column}
use Rattle.sv_app.proofs.TestLaws.{test_same, or_left, or_right}
use Rattle.sv_effect.specs.Fits.{is_key_column}
use Rattle.sv_effect.specs.Laws.{HasNoLists}
use Rattle.sv_safety.proofs.CheckSteps.{SideIs}
use Rattle.sv_safety.proofs.KindLaws.{RuleIs, RulesAre}

tested : (t : Declaration) (name : Ident) (n : Named t name) (test : Column → Bool) → at_column t name test ≡ [] → test n.column ≡ false
tested t name n test right = ap (λ o. holds_of o test) (sym n.found) ∙ no_fault (holds_of (column_of t name) test) name.spot Typing right

-- two names of one column are the same name
one_name : (t : Declaration) (a b : Ident) → Named t a → Named t b → a.num ≡ b.num → is_named a b ≡ true
one_name t a b x y same = (bytes_eq-Decides a.name b.name).1 (sym (bytes x) ∙ ap (λ (c : Column). c.name.name) (same_some (slice_get t.columns b.num) x.column y.column (ap (slice_get t.columns) (sym same) ∙ x.declared) y.declared) ∙ bytes y)
  where
    bytes : {name : Ident} → (n : Named t name) → n.column.name.name ≡ name.name
    bytes {name} n = (bytes_eq-Decides n.column.name.name name.name).0 (find_some (λ (c : Column). is_named c.name name) t.columns n.column n.found).is

outside : (t : Declaration) (name : Ident) → Named t name → (names : List Ident) → ((place : ℕ) (key : Ident) → slice_get names place ≡ Some key → Named t key) → list_any (λ key. is_named key name) names ≡ false
    → is_key_column names name.num ≡ false
outside t name n [] keys none = refl
outside t name n (key ∷ names) keys none = by (is_named key name) (key.num == name.num) refl refl none (outside t name n names (λ place k at. keys (suc place) k at))
  where
    by : (a b : Bool) → is_named key name ≡ a → (key.num == name.num) ≡ b → (a || list_any (λ k. is_named k name) names) ≡ false
        → (list_any (λ k. is_named k name) names ≡ false → is_key_column names name.num ≡ false) → (b || is_key_column names name.num) ≡ false
    by true b is same none ih = absurd cc
    by false false is same none ih = ih none
    by false true is same none ih = absurd (let yes : is_named key name ≡ true = one_name t key name (keys 0 key refl) n (test_same key.num name.num same) in cc)

no_counter : (merge : Merge) → is_numdelta merge ≡ false → merge ≢ merges.NumDelta
no_counter merge is e = let both : true ≡ false = sym (ap is_numdelta e) ∙ is in cc

module _ (schema : List Declaration) (accepted : AcceptedSchema schema) (table : ℕ) (t : Declaration) (at : slice_get schema table ≡ Some t) where
  right : (inv : Invariant) → Stands t.invs inv → rule_faults schema t inv.rule ≡ []
  right inv s = each_none (λ (i : Invariant). rule_faults schema t i.rule) t.invs s.number inv (back_none (key_faults t ++ column_faults t) (flat_map (λ i. rule_faults schema t i.rule) t.invs) (table_right schema accepted table t at)) s.at

  own : numbered_table schema t ≡ t
  own = same_at (numbered_table schema) schema table t accepted.names at

  rule_own : (inv : Invariant) → Stands t.invs inv → numbered_rule schema t inv.rule ≡ inv.rule
  rule_own inv s = ap (λ (i : Invariant). i.rule) (same_at (numbered_invariant schema t) t.invs s.number inv (ap (λ (d : Declaration). d.invs) own) s.at)

  no_key_column : (name : Ident) → Named t name → is_key t name ≡ false → is_key_column t.key name.num ≡ false
  no_key_column name n none = outside t name n t.key (λ place key there. key_column schema accepted table t place key at there) none

  side : (side : Option Ident) → option_map (numbered_in (column_names t)) side ≡ side → side_faults t side ≡ [] → SideIs t side
  side None own right = tt
  side (Some name) own right =
      let same : numbered_in (column_names t) name ≡ name = cc in
      let n : Named t name = named t name same (front_none (no_column t name) (at_column t name (λ c. is_text c.ty || is_key t name)) right) in
      record {
        col = n.column;
        declared = n.declared;
        outside = no_key_column name n (or_right (is_text n.column.ty) (is_key t name)
            (tested t name n (λ c. is_text c.ty || is_key t name) (back_none (no_column t name) (at_column t name (λ c. is_text c.ty || is_key t name)) right)));
      }

  rule_is : (rule : Rule) → rule_faults schema t rule ≡ [] → numbered_rule schema t rule ≡ rule → RuleIs t rule
  rule_is (Bound check) right own = (
    side check.hi (ap (λ r. hi_of r) own) (back_none (shape_faults check check.hi check.lo) (side_faults t check.hi) (front_none (shape_faults check check.hi check.lo ++ side_faults t check.hi) (side_faults t check.lo) right)),
    side check.lo (ap (λ r. lo_of r) own) (back_none (shape_faults check check.hi check.lo ++ side_faults t check.hi) (side_faults t check.lo) right),
  )
    where
      hi_of : Rule → Option Ident
      hi_of (Bound check) = check.hi
      hi_of rule = None

      lo_of : Rule → Option Ident
      lo_of (Bound check) = check.lo
      lo_of rule = None
  rule_is (OneOf name texts) right own =
      let same : numbered_in (column_names t) name ≡ name = ap (λ r. name_of r) own in
      let n : Named t name = named t name same (front_none (no_column t name) (at_column t name (λ c. not (is_text c.ty) || is_key t name)) right) in
      let test : (not (is_text n.column.ty) || is_key t name) ≡ false = tested t name n (λ c. not (is_text c.ty) || is_key t name) (back_none (no_column t name) (at_column t name (λ c. not (is_text c.ty) || is_key t name)) right) in
      record {
        plain = record { col = n.column; declared = n.declared; apart = λ e. no_int n.column.ty (or_left (not (is_text n.column.ty)) (is_key t name) test) (counter_is_int schema accepted table name.num t n.column at n.declared e) };
        outside = no_key_column name n (or_right (not (is_text n.column.ty)) (is_key t name) test);
      }
    where
      name_of : Rule → Ident
      name_of (OneOf name texts) = name
      name_of rule = name

      no_int : (ty : Ty) → not (is_text ty) ≡ false → ty ≡ types.Int → ⊥
      no_int types.Text is e = absurd cc
      no_int types.Int is e = absurd cc
      no_int types.Ints is e = absurd cc
  rule_is (Different name) right own =
      let same : numbered_in (column_names t) name ≡ name = ap (λ r. name_of r) own in
      let n : Named t name = named t name same (front_none (no_column t name) (at_column t name (λ c. is_numdelta c.merge || is_key t name)) right) in
      record {
        col = n.column;
        declared = n.declared;
        apart = no_counter n.column.merge (or_left (is_numdelta n.column.merge) (is_key t name)
            (tested t name n (λ c. is_numdelta c.merge || is_key t name) (back_none (no_column t name) (at_column t name (λ c. is_numdelta c.merge || is_key t name)) right)));
      }
    where
      name_of : Rule → Ident
      name_of (Different name) = name
      name_of rule = name
  rule_is (Refers name parent target) right own =
      let same : numbered_in (column_names t) name ≡ name = ap (λ r. name_of r) own in
      let referring : referring_faults schema t name parent target ≡ [] = front_none (referring_faults schema t name parent target) (referred_faults schema parent)
      (front_none (referring_faults schema t name parent target ++ referred_faults schema parent) (target_faults schema parent target) right) in
      let both : no_column t name ++ at_column t name (λ c. is_numdelta c.merge) ≡ [] = front_none (no_column t name ++ at_column t name (λ c. is_numdelta c.merge)) _ referring in
      let n : Named t name = named t name same (front_none (no_column t name) (at_column t name (λ c. is_numdelta c.merge)) both) in
      record { col = n.column; declared = n.declared; apart = no_counter n.column.merge (tested t name n (λ c. is_numdelta c.merge) (back_none (no_column t name) (at_column t name (λ c. is_numdelta c.merge)) both)) }
    where
      name_of : Rule → Ident
      name_of (Refers name parent target) = name
      name_of rule = name

pub none_lists : (schema : List Declaration) → AcceptedSchema schema → HasNoLists schema
none_lists schema accepted number place table column at at_column = no_lists schema accepted number place table column at at_column

pub rules_are : (schema : List Declaration) → AcceptedSchema schema → RulesAre schema
rules_are schema accepted table inv i =
    let s : Stands i.declaration.invs inv = contained i.declaration.invs inv i.among in
    rule_is schema accepted table i.declaration i.declared inv.rule (right schema accepted table i.declaration i.declared inv s) (rule_own schema accepted table i.declaration i.declared inv s)
