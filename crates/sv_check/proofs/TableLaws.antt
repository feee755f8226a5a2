-- The tables of an application, and what is declared of them.
use Rattle.std.proofs.Common.{◌≡◌, ℕ, zero, suc, ◌<◌, ◌≤◌, List, [], ◌∷◌, length, get_or, Some, None, slice_get, refl, sym, ap, arith}
use Rattle.std.specs.Prelude.{map}
use Rattle.sv_app.specs.declared.schemas.Table.{Table}
use Rattle.sv_app.specs.Schema.{declaration_of, schema_of, invariant_of}
use Rattle.sv_app.specs.declared.places.Place.{Place}
use Rattle.sv_effect.specs.Applied.{zeros_of, zeros_in}
use Rattle.sv_effect.specs.RowChange.{zero_values}
use Rattle.sv_check.specs.Tests.{rules_of}

pub declared_as : (tables : List Table) (n : ℕ) (d : Table) → n < length tables → slice_get (schema_of tables) n ≡ Some (declaration_of (get_or tables n d))
declared_as [] n d less = absurd (omega (arith, less))
declared_as (t ∷ tables) zero d less = refl
declared_as (t ∷ tables) (suc n) d less = declared_as tables n d (omega (arith, less))

pub undeclared : (tables : List Table) (n : ℕ) → length tables ≤ n → slice_get (schema_of tables) n ≡ None
undeclared [] n le = refl
undeclared (t ∷ tables) zero le = absurd (omega (arith, le))
undeclared (t ∷ tables) (suc n) le = undeclared tables n (omega (arith, le))

pub schema_long : (tables : List Table) → length (schema_of tables) ≡ length tables
schema_long [] = refl
schema_long (t ∷ tables) = let ih : length (schema_of tables) ≡ length tables = schema_long tables in omega (arith, ih)

pub rules_at : (tables : List Table) (n : ℕ) (d : Table) → n < length tables → map invariant_of (get_or tables n d).invs.items ≡ rules_of (slice_get (schema_of tables) n)
rules_at tables n d less = sym (ap rules_of (declared_as tables n d less))

pub no_rules : (tables : List Table) (n : ℕ) → length tables ≤ n → [] ≡ rules_of (slice_get (schema_of tables) n)
no_rules tables n le = sym (ap rules_of (undeclared tables n le))

pub zeros_at : (tables : List Table) (p : Place) (d : Table) → p.table < length tables → zero_values (declaration_of (get_or tables p.table d)) p.key ≡ zeros_in (schema_of tables) p
zeros_at tables p d less = sym (ap (λ o. zeros_of o p.key) (declared_as tables p.table d less))

pub no_zeros : (tables : List Table) (p : Place) → length tables ≤ p.table → zeros_in (schema_of tables) p ≡ []
no_zeros tables p le = ap (λ o. zeros_of o p.key) (undeclared tables p.table le)

pub ruleset declared = (rules_at, no_rules, zeros_at, no_zeros)
