-- Where no name stands twice the first of a name is the one that stands there; a schema gets one refusal.
use Rattle.std.proofs.Common.{◌≡◌, ◌<◌, nat_lt, ℕ, suc, zero, Bool, true, false, List, [], ◌∷◌, ◌++◌, refl, sym, ap, ◌∙◌, arith, Some, map}
use Rattle.std.specs.List.{slice_get, flat_map}
use Rattle.std.specs.Option.{option_map, unwrap_or}
use Rattle.std.proofs.lemmas.Option.{slice_get-map}
use Rattle.sv_value.specs.declared.spots.Spot.{Spot}
use Rattle.sv_app.specs.declared.apps.Ident.{Ident}
use Rattle.sv_app.specs.declared.refusals.Code.TheVariants.{Cyclic}
use Rattle.sv_app.specs.declared.refusals.Refusal.{Refusal}
use Rattle.sv_app.specs.declared.schemas.Column.{Column}
use Rattle.sv_app.specs.Acceptance.{IsAccepted, IsRefused, ByTyping, ByCycle, ByChecks}
use Rattle.sv_app.specs.Codes.{number_of}
use Rattle.sv_app.specs.Firsts.{IsFirst}
use Rattle.sv_app.specs.References.{IsCyclic}
use Rattle.sv_app.specs.Satisfiable.{IsUnmet}
use Rattle.sv_app.proofs.AcceptedLaws.{front_none, back_none, each_none}
use Rattle.sv_app.proofs.SchemaLaws.{own_place}
use Rattle.sv_typing.proofs.FirstLaws.{first_is_one}
use Rattle.sv_gains.proofs.SystemLaws.{unmet}
use Rattle.std.proofs.lemmas.Bool.Decides.{nat_tests}
use Rattle.sv_app.specs.Lookups.{table_names, column_names}
use Rattle.sv_app.specs.Numbers.{numbered, numbered_in, numbered_table, numbered_column}
use Rattle.sv_app.specs.Schema.{Declaration}
use Rattle.sv_app.specs.Trees.{Transaction}
use Rattle.sv_app.specs.TxnTyping.{all_faults, txns_faults}
use Rattle.sv_app.specs.Typing.{repeats, faults, table_faults, key_faults, column_faults, rule_faults}

-- what stands at a place of a list that is mapped
pub mapped_at : {A B : Type 0} (f : A → B) (xs : List A) (k : ℕ) (y : B) → slice_get (map f xs) k ≡ Some y → (x : A) × (slice_get xs k ≡ Some x) × (f x ≡ y)
mapped_at f [] k y e = absurd cc
mapped_at f (x ∷ xs) zero y e = let same : f x ≡ y = cc in (x, refl, same)
mapped_at f (x ∷ xs) (suc k) y e = mapped_at f xs k y e

pub map_at : {A B : Type 0} (f : A → B) (xs : List A) (k : ℕ) (x : A) → slice_get xs k ≡ Some x → slice_get (map f xs) k ≡ Some (f x)
map_at f xs k x s = slice_get-map f xs k ∙ ap (λ o. option_map f o) s

pub own_number : (names : List Ident) (k : ℕ) (x : Ident) → repeats names ≡ [] → slice_get names k ≡ Some x → (numbered_in names x).num ≡ k
own_number names k x e s = ap (λ o. unwrap_or o 0) (own_place names k x e s)

-- nothing is wrong in the schema where nothing is wrong at all
pub schema_right : (schema : List Declaration) (txns : List Transaction) → all_faults schema txns ≡ [] → faults schema ≡ []
schema_right schema txns e = front_none (faults schema) (txns_faults schema txns) e

pub txns_right : (schema : List Declaration) (txns : List Transaction) → all_faults schema txns ≡ [] → txns_faults schema txns ≡ []
txns_right schema txns e = back_none (faults schema) (txns_faults schema txns) e

pub tables_by_place : (schema : List Declaration) (txns : List Transaction) (place : ℕ) (t : Declaration) → IsAccepted schema txns → slice_get (numbered schema) place ≡ Some t → t.name.num ≡ place
tables_by_place schema txns place t accepted s =
    let found : (u : Declaration) × (slice_get schema place ≡ Some u) × (numbered_table schema u ≡ t) = mapped_at (numbered_table schema) schema place t s in
    let once : repeats (table_names schema) ≡ [] = front_none (repeats (table_names schema)) (flat_map (λ u. table_faults schema u) schema) (schema_right schema txns accepted.typed) in
    ap (λ (u : Declaration). u.name.num) (sym found.2) ∙ own_number (table_names schema) place found.0.name once (map_at (λ (u : Declaration). u.name) schema place found.0 found.1)

columns_once : (schema : List Declaration) (table : ℕ) (u : Declaration) → faults schema ≡ [] → slice_get schema table ≡ Some u → repeats (column_names u) ≡ []
columns_once schema table u typed s =
    let each : flat_map (λ v. table_faults schema v) schema ≡ [] = back_none (repeats (table_names schema)) _ typed in
    let whole : table_faults schema u ≡ [] = each_none (λ v. table_faults schema v) schema table u each s in
    let rules : List Refusal = flat_map (λ inv. rule_faults schema u inv.rule) u.invs in
    let front : key_faults u ++ column_faults u ≡ [] = front_none (key_faults u ++ column_faults u) rules whole in
    let columns : column_faults u ≡ [] = back_none (key_faults u) (column_faults u) front in
    front_none (repeats (column_names u)) _ columns

pub columns_by_place : (schema : List Declaration) (txns : List Transaction) (table place : ℕ) (t : Declaration) (c : Column) → IsAccepted schema txns
    → slice_get (numbered schema) table ≡ Some t → slice_get t.columns place ≡ Some c → c.name.num ≡ place
columns_by_place schema txns table place t c accepted s at_place =
    let found : (u : Declaration) × (slice_get schema table ≡ Some u) × (numbered_table schema u ≡ t) = mapped_at (numbered_table schema) schema table t s in
    let stands : slice_get (map (numbered_column found.0) found.0.columns) place ≡ Some c = ap (λ (u : Declaration). slice_get u.columns place) found.2 ∙ at_place in
    let column : (d : Column) × (slice_get found.0.columns place ≡ Some d) × (numbered_column found.0 d ≡ c) = mapped_at (numbered_column found.0) found.0.columns place c stands in
    let once : repeats (column_names found.0) ≡ [] = columns_once schema table found.0 (schema_right schema txns accepted.typed) found.1 in
    ap (λ (d : Column). d.name.num) (sym column.2) ∙ own_number (column_names found.0) place column.0.name once (map_at (λ (d : Column). d.name) found.0.columns place column.0 column.1)

none_first : (candidates : List Refusal) (refusal : Refusal) → candidates ≡ [] → IsFirst candidates refusal → ⊥
none_first [] refusal e first = omega (arith, first.is.1)
none_first (x ∷ xs) refusal e first = cc

pub never_both : (schema : List Declaration) (txns : List Transaction) (refusal : Refusal) → IsAccepted schema txns → IsRefused schema txns refusal → ⊥
never_both schema txns refusal accepted (ByTyping first) = none_first (all_faults schema txns) refusal accepted.typed first
never_both schema txns refusal accepted (ByCycle typed cycle) = accepted.acyclic cycle.number cycle.cyclic
never_both schema txns refusal accepted (ByChecks typed free checks) = unmet checks.table checks.cycle (accepted.satisfiable checks.number checks.table checks.stands) checks.closed

cyclic_once : (schema : List Declaration) (a b : Refusal) (p : IsCyclic schema a) (q : IsCyclic schema b) → p.number ≡ q.number → a ≡ b
cyclic_once schema a b p q same =
    let stands : slice_get schema p.number ≡ Some q.table = ap (slice_get schema) same ∙ q.stands in
    let tables : p.table ≡ q.table = let both : Some p.table ≡ Some q.table = sym p.stands ∙ stands in cc in
    p.is ∙ ap (λ (t : Declaration). let r : Refusal = record { spot = t.name.spot; code = Cyclic } in r) tables ∙ sym q.is

same_number : (m n : ℕ) → (m < n → ⊥) → (n < m → ⊥) → m ≡ n
same_number m n p q = same_by (nat_lt m n) (nat_lt n m) refl refl where
  same_by : (v w : Bool) → nat_lt m n ≡ v → nat_lt n m ≡ w → m ≡ n
  same_by true w e f = absurd (p (grind (arith, nat_tests, e)))
  same_by false true e f = absurd (q (grind (arith, nat_tests, f)))
  same_by false false e f = grind (arith, nat_tests, e, f)

cycle_is_one : (schema : List Declaration) (a b : Refusal) → IsCyclic schema a → IsCyclic schema b → a ≡ b
cycle_is_one schema a b p q = cyclic_once schema a b p q (same_number p.number q.number (λ less. q.first p.number less p.cyclic) (λ less. p.first q.number less q.cyclic))

unmet_number : (schema : List Declaration) (a b : Refusal) (p : IsUnmet schema a) (q : IsUnmet schema b) → p.number ≡ q.number
unmet_number schema a b p q =
    same_number p.number q.number (λ less. unmet p.table p.cycle (q.first p.number p.table less p.stands) p.closed) (λ less. unmet q.table q.cycle (p.first q.number q.table less q.stands) q.closed)

unmet_once : (schema : List Declaration) (a b : Refusal) → IsUnmet schema a → IsUnmet schema b
    → (a.spot.line ≡ b.spot.line) × (a.spot.col ≡ b.spot.col) × (number_of a.code ≡ number_of b.code)
unmet_once schema a b p q =
    let stands : slice_get schema p.number ≡ Some q.table = ap (slice_get schema) (unmet_number schema a b p q) ∙ q.stands in
    let both : Some p.table ≡ Some q.table = sym p.stands ∙ stands in
    let tables : p.table ≡ q.table = cc in
    let spots : a.spot ≡ b.spot = ap (λ (r : Refusal). r.spot) p.is ∙ ap (λ (t : Declaration). t.name.spot) tables ∙ sym (ap (λ (r : Refusal). r.spot) q.is) in
    (ap (λ (s : Spot). s.line) spots, ap (λ (s : Spot). s.col) spots, ap (λ (r : Refusal). number_of r.code) p.is ∙ sym (ap (λ (r : Refusal). number_of r.code) q.is))

pub refused_once : (schema : List Declaration) (txns : List Transaction) (a b : Refusal) → IsRefused schema txns a → IsRefused schema txns b
    → (a.spot.line ≡ b.spot.line) × (a.spot.col ≡ b.spot.col) × (number_of a.code ≡ number_of b.code)
refused_once schema txns a b (ByTyping f) (ByTyping g) = first_is_one (all_faults schema txns) a b f g
refused_once schema txns a b (ByTyping f) (ByCycle typed q) = absurd (none_first (all_faults schema txns) a typed f)
refused_once schema txns a b (ByCycle typed p) (ByTyping g) = absurd (none_first (all_faults schema txns) b typed g)
refused_once schema txns a b (ByCycle typed p) (ByCycle more q) =
    let same : a ≡ b = cycle_is_one schema a b p q in
    (ap (λ (r : Refusal). r.spot.line) same, ap (λ (r : Refusal). r.spot.col) same, ap (λ (r : Refusal). number_of r.code) same)
refused_once schema txns a b (ByTyping f) (ByChecks typed free q) = absurd (none_first (all_faults schema txns) a typed f)
refused_once schema txns a b (ByChecks typed free p) (ByTyping g) = absurd (none_first (all_faults schema txns) b typed g)
refused_once schema txns a b (ByCycle typed p) (ByChecks more free q) = absurd (free p.number p.cyclic)
refused_once schema txns a b (ByChecks typed free p) (ByCycle more q) = absurd (free q.number q.cyclic)
refused_once schema txns a b (ByChecks typed free p) (ByChecks more free' q) = unmet_once (numbered schema) a b p q
