-- A closed set has each table to which references lead, and a set grows until it is closed.
use Rattle.std.proofs.Common.{◌≡◌, ℕ, suc, zero, ◌+◌, ◌<◌, Bool, true, false, List, [], ◌∷◌, length, get_or, refl, ap, ◌∙◌, arith, Option, Some, None, set}
use Rattle.std.specs.List.{slice_get, list_any}
use Rattle.std.specs.Option.{option_map}
use Rattle.std.proofs.lemmas.Bool.Decides.{nat_tests}
use Rattle.std.proofs.lemmas.Option.{slice_get_within}
use Rattle.std.proofs.lemmas.Option.{slice_get-map, slice_get-get_or}
use Rattle.sv_app.specs.declared.apps.Ident.{Ident}
use Rattle.std.specs.Prelude.{if◌then◌else◌, ◌==◌, ◌||◌}
use Rattle.sv_app.specs.declared.schemas.Table.{Table}
use Rattle.sv_app.specs.Lookups.{holds_of, is_named, place_of, table_names}
use Rattle.sv_app.specs.References.{referred, refers, Leads, Step, Further}
use Rattle.sv_app.specs.Schema.{declaration_of, schema_of, Rule, Bound, OneOf, Different, Refers, Invariant, Declaration}
use Rattle.sv_typing.specs.Reached.{is_in, IsClosed}

-- how many are outside
abbrev pub outside : List Bool → ℕ
outside [] = 0
outside (b ∷ bs) = (if b then 0 else 1) + outside bs

pub outside_set : (bs : List Bool) (i : ℕ) → i < length bs → is_in bs i ≡ false → outside (set bs i true) < outside bs
outside_set [] i h e = absurd (omega (arith, h))
outside_set (b ∷ bs) zero h e = rw e (omega arith)
outside_set (b ∷ bs) (suc i) h e = let less : outside (set bs i true) < outside bs = outside_set bs i (omega (arith, h)) e in omega (arith, less)

-- what refers, and what is referred to, are tables of the schema

place_within : (name : Ident) (names : List Ident) (k : ℕ) → place_of name names ≡ Some k → k < length names
place_within name [] k e = absurd cc
place_within name (x ∷ xs) k e = place_here (is_named x name) (place_of name xs) (λ j same. place_within name xs j same) e where
  place_here : (b : Bool) (o : Option ℕ) → ((j : ℕ) → o ≡ Some j → j < length xs) → (if b then Some 0 else option_map (λ place. suc place) o) ≡ Some k → k < length (x ∷ xs)
  place_here true o ih e = let z : 0 ≡ k = cc in omega (arith, z)
  place_here false None ih e = absurd cc
  place_here false (Some j) ih e = let z : suc j ≡ k = cc in let less : j < length xs = ih j refl in omega (arith, z, less)

is_number : (o : Option ℕ) (b : ℕ) → holds_of o (λ place. place == b) ≡ true → o ≡ Some b
is_number None b e = absurd cc
is_number (Some k) b e = let same : k ≡ b = grind (arith, nat_tests, e) in ap (λ n. Some n) same

names_long : (schema : List Declaration) → length (table_names schema) ≡ length schema
names_long [] = refl
names_long (t ∷ ts) = ap (λ n. suc n) (names_long ts)

referred_within : (schema : List Declaration) (rule : Rule) (b : ℕ) → referred schema rule ≡ Some b → b < length schema
referred_within schema (Bound check) b e = absurd cc
referred_within schema (OneOf name texts) b e = absurd cc
referred_within schema (Different name) b e = absurd cc
referred_within schema (Refers name table target) b e = rw (← names_long schema) (place_within table (table_names schema) b e)

any_within : (schema : List Declaration) (invs : List Invariant) (b : ℕ) → list_any (λ inv. holds_of (referred schema inv.rule) (λ place. place == b)) invs ≡ true → b < length schema
any_within schema [] b e = absurd cc
any_within schema (inv ∷ invs) b e = either (holds_of (referred schema inv.rule) (λ place. place == b)) refl (λ more. any_within schema invs b more) e where
  either : (v : Bool) → holds_of (referred schema inv.rule) (λ place. place == b) ≡ v
      → (list_any (λ inv. holds_of (referred schema inv.rule) (λ place. place == b)) invs ≡ true → b < length schema) → (v || list_any (λ inv. holds_of (referred schema inv.rule) (λ place. place == b)) invs) ≡ true → b < length schema
  either true own ih e = referred_within schema inv.rule b (is_number (referred schema inv.rule) b own)
  either false own ih e = ih e

pub refers_within : (schema : List Declaration) (a b : ℕ) → refers schema a b ≡ true → b < length schema
refers_within schema a b e = by_table (slice_get schema a) e where
  by_table : (o : Option Declaration) → holds_of o (λ t. list_any (λ inv. holds_of (referred schema inv.rule) (λ place. place == b)) t.invs) ≡ true → b < length schema
  by_table None e = absurd cc
  by_table (Some t) e = any_within schema t.invs b e

pub refers_from : (schema : List Declaration) (a b : ℕ) → refers schema a b ≡ true → a < length schema
refers_from schema a b e = by_table (slice_get schema a) refl e where
  by_table : (o : Option Declaration) → slice_get schema a ≡ o → holds_of o (λ t. list_any (λ inv. holds_of (referred schema inv.rule) (λ place. place == b)) t.invs) ≡ true → a < length schema
  by_table None same e = absurd cc
  by_table (Some t) same e = slice_get_within schema a t same

-- a table on a cycle is one of the schema
pub leads_from : (schema : List Declaration) (a b : ℕ) → Leads schema a b → a < length schema
leads_from schema a b (Step _ _ h) = refers_from schema a b h
leads_from schema a c (Further _ b _ lead h) = leads_from schema a b lead

apart_or_in : (v w : Bool) → w ≡ true → (v ≡ false → w ≡ false) → v ≡ true
apart_or_in true w e f = refl
apart_or_in false w e f = let g : w ≡ false = f refl in absurd cc

-- each table to which references lead is in a closed set
pub leads_in : (schema : List Declaration) (reached : List Bool) (a b : ℕ) → Leads schema a b → IsClosed schema a reached → is_in reached b ≡ true
leads_in schema reached a b (Step _ _ h) closed = apart_or_in (is_in reached b) (refers schema a b) h (λ out. (closed b (refers_within schema a b h) out).first)
leads_in schema reached a c (Further _ b _ lead h) closed =
    apart_or_in (is_in reached c) (refers schema b c) h
    (λ out. (closed c (refers_within schema b c h) out).others b (refers_from schema b c h) (leads_in schema reached a b lead closed))

pub declared_at : (tables : List Table) (k : ℕ) (d : Table) → k < length tables → slice_get (schema_of tables) k ≡ Some (declaration_of (get_or tables k d))
declared_at tables k d h = slice_get-map declaration_of tables k ∙ ap (λ o. option_map declaration_of o) (slice_get-get_or tables k d h)

pub schema_long : (tables : List Table) → length (schema_of tables) ≡ length tables
schema_long [] = refl
schema_long (t ∷ ts) = ap (λ n. suc n) (schema_long ts)
