-- The greatest differences of a list of tables, found one by one.
use Rattle.std.proofs.Common.{◌≡◌, ◌∙◌, ℕ, zero, suc, ◌+◌, ◌<◌, List, [], ◌∷◌, ◌++◌, length, take, get_or, Some, slice_get, refl, sym, ap, subst, arith}
use Rattle.std.proofs.lemmas.List.{take_more, take_all, map-append}
use Rattle.sv_app.specs.declared.schemas.Table.{Table}
use Rattle.sv_app.specs.Accepted.{AcceptedSchema}
use Rattle.sv_app.specs.Satisfiable.{IsSatisfiable}
use Rattle.sv_app.specs.Schema.{Declaration, declaration_of, schema_of}
use Rattle.sv_gains.specs.declared.gains.Gain.{Gain as Noted}
use Rattle.sv_gains.specs.Gains.{AreGains, noted_in}
use Rattle.sv_gains.specs.Systems.{IsNarrowTable}
use Rattle.sv_gains.proofs.RowLaws.{accepted_narrow}
use Rattle.sv_app.proofs.ListLaws.{same_some}
use Rattle.sv_threat.proofs.FirstLaws.{table_here}
use Rattle.sv_wp.specs.Told.{TellsGreatest, told_by}

pub none_told : TellsGreatest [] (told_by [])
none_told = record { each = λ number table at. absurd (nothing number table at) }
  where
    nothing : (number : ℕ) (table : Declaration) → slice_get [] number ≡ Some table → ⊥
    nothing number table at = cc

-- one table more
behind : (schema : List Declaration) (tables : List (List Noted)) (d : Declaration) (gains : List Noted) → length tables ≡ length schema → TellsGreatest schema (told_by tables) → AreGains d (noted_in gains)
    → TellsGreatest (schema ++ d ∷ []) (told_by (tables ++ gains ∷ []))
behind [] [] d gains same told right = record { each = first }
  where
    first : (number : ℕ) (table : Declaration) → slice_get (d ∷ []) number ≡ Some table → AreGains table (told_by (gains ∷ []) number)
    first zero table at = let is : d ≡ table = same_some (slice_get (d ∷ []) zero) d table refl at in subst (λ (t : Declaration). AreGains t (noted_in gains)) is right
    first (suc number) table at = absurd (nothing number at)
      where
        nothing : (number : ℕ) → slice_get [] number ≡ Some table → ⊥
        nothing number at = cc
behind [] (g ∷ tables) d gains same told right = absurd (omega (arith, same))
behind (c ∷ schema) [] d gains same told right = absurd (omega (arith, same))
behind (c ∷ schema) (g ∷ tables) d gains same told right =
    by (behind schema tables d gains (omega (arith, same)) (record { each = λ number table at. told.each (suc number) table at }) right)
  where
    each : TellsGreatest (schema ++ d ∷ []) (told_by (tables ++ gains ∷ [])) → (number : ℕ) (table : Declaration) → slice_get (c ∷ (schema ++ d ∷ [])) number ≡ Some table
        → AreGains table (told_by (g ∷ (tables ++ gains ∷ [])) number)
    each later zero table at = told.each 0 table at
    each later (suc number) table at = later.each number table at

    by : TellsGreatest (schema ++ d ∷ []) (told_by (tables ++ gains ∷ [])) → TellsGreatest ((c ∷ schema) ++ d ∷ []) (told_by ((g ∷ tables) ++ gains ∷ []))
    by later = record { each = each later }

taken : (tables : List Table) (i : ℕ) (table : Table) → i < length tables → table ≡ get_or tables i table → schema_of (take (i + 1) tables) ≡ schema_of (take i tables) ++ declaration_of table ∷ []
taken tables i table less is =
    ap schema_of (take_more tables i table less) ∙ map-append declaration_of (take i tables) (get_or tables i table ∷ []) ∙ ap (λ (t : Table). schema_of (take i tables) ++ declaration_of t ∷ []) (sym is)

long : (tables : List Table) (i : ℕ) → i < length tables → length (schema_of (take i tables)) ≡ i
long [] i less = absurd (omega (arith, less))
long (t ∷ tables) zero less = refl
long (t ∷ tables) (suc i) less = ap suc (long tables i (omega (arith, less)))

pub told_more : (tables : List Table) (i : ℕ) (table : Table) (found : List (List Noted)) (gains : List Noted) → i < length tables → table ≡ get_or tables i table → length found ≡ i
    → TellsGreatest (schema_of (take i tables)) (told_by found) → AreGains (declaration_of table) (noted_in gains) → TellsGreatest (schema_of (take (i + 1) tables)) (told_by (found ++ gains ∷ []))
told_more tables i table found gains less is count told right =
    subst (λ schema. TellsGreatest schema (told_by (found ++ gains ∷ []))) (sym (taken tables i table less is))
    (behind (schema_of (take i tables)) found (declaration_of table) gains (count ∙ sym (long tables i less)) told right)

pub told_all : (tables : List Table) (i : ℕ) (found : List (List Noted)) → i ≡ length tables → TellsGreatest (schema_of (take i tables)) (told_by found) → TellsGreatest (schema_of tables) (told_by found)
told_all tables i found whole told = subst (λ ts. TellsGreatest (schema_of ts) (told_by found)) (take_all i tables (omega (arith, whole))) told

pub narrow_here : (tables : List Table) (n : ℕ) (table : Table) → AcceptedSchema (schema_of tables) → n < length tables → table ≡ get_or tables n table → IsNarrowTable (declaration_of table)
narrow_here tables n table accepted less is = accepted_narrow (schema_of tables) n (declaration_of table) accepted (table_here tables n table less is)

pub some_here : (tables : List Table) (n : ℕ) (table : Table) → AcceptedSchema (schema_of tables) → n < length tables → table ≡ get_or tables n table → IsSatisfiable (declaration_of table)
some_here tables n table accepted less is = accepted.satisfiable n (declaration_of table) (table_here tables n table less is)

pub ruleset telling = (none_told, told_more, told_all, narrow_here, some_here)
