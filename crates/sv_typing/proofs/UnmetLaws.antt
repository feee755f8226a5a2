-- The tables that were looked at, and what the answer on the rows of a table's checks says of the table.
use Rattle.std.proofs.Common.{◌≡◌, Bool, true, false, nat_lt, ℕ, zero, suc, ◌<◌, ◌≤◌, ◌+◌, List, [], ◌∷◌, length, get_or, refl, sym, ap, ◌∙◌, map, subst, arith, Option, Some, None}
use Rattle.std.specs.Prelude.{slice_get, ℤ}
use Rattle.std.proofs.lemmas.Bool.Decides.{nat_tests}
use Rattle.std.specs.List.{All}
use Rattle.std.specs.Option.{MatchOption}
use Rattle.sv_app.specs.declared.schemas.Table.{Table}
use Rattle.sv_app.specs.Satisfiable.{checks_of, IsSatisfiable, AreSatisfiable, IsCycleOf}
use Rattle.sv_app.specs.Schema.{Declaration, declaration_of, schema_of}
use Rattle.sv_bounds.specs.declared.systems.System.{System}
use Rattle.sv_bounds.specs.declared.systems.Answer.{Answer}
use Rattle.sv_bounds.specs.declared.systems.Answer.TheVariants.{Values, Cycle}
use Rattle.sv_bounds.specs.Answers.{IsSolution, IsAnswer, assigned}
use Rattle.sv_bounds.specs.Differences.{Meets, IsCycle}
use Rattle.sv_gains.specs.Systems.{row_of, IsNarrowTable}
use Rattle.sv_gains.proofs.SystemLaws.{satisfied, cycle_same}

pub narrow_table : (tables : List Table) (i : ℕ) (t : Table) → i < length tables → t ≡ get_or tables i t → All IsNarrowTable (schema_of tables) → IsNarrowTable (declaration_of t)
narrow_table [] i t h e each = absurd (omega (arith, h))
narrow_table (x ∷ tables) zero t h e each = subst (λ (u : Table). IsNarrowTable (declaration_of u)) (sym e) (each 0 (declaration_of x) (omega arith))
narrow_table (x ∷ tables) (suc i) t h e each = narrow_table tables i t (omega (arith, h)) e (λ k d less. each (suc k) d (omega (arith, less)))

-- the tables up to a number were looked at
abbrev pub AreMetBefore : List Declaration → ℕ → Type 0
AreMetBefore schema number = (other : ℕ) (t : Declaration) → other < number → slice_get schema other ≡ Some t → IsSatisfiable t

pub table_at : (tables : List Table) (i : ℕ) (t : Table) → i < length tables → t ≡ get_or tables i t → slice_get (schema_of tables) i ≡ Some (declaration_of t)
table_at [] i t h e = absurd (omega (arith, h))
table_at (x ∷ tables) zero t h e = ap (λ (u : Table). Some (declaration_of u)) (sym e)
table_at (x ∷ tables) (suc i) t h e = table_at tables i t (omega (arith, h)) e

pub one_met : (tables : List Table) (i : ℕ) (t : Table) → i < length tables → t ≡ get_or tables i t → AreMetBefore (schema_of tables) i → IsSatisfiable (declaration_of t) → AreMetBefore (schema_of tables) (i + 1)
one_met tables i t h e before met other u less stands = either (nat_lt other i) refl where
  either : (b : Bool) → nat_lt other i ≡ b → IsSatisfiable u
  either true is = before other u (grind (arith, nat_tests, is)) stands
  either false is =
      let same : other ≡ i = grind (arith, nat_tests, is, less) in
      let both : Some (declaration_of t) ≡ Some u = sym (table_at tables i t h e) ∙ ap (slice_get (schema_of tables)) (sym same) ∙ stands in
      let one : declaration_of t ≡ u = cc in
      subst IsSatisfiable one met

within_list : {A : Type 0} (xs : List A) (i : ℕ) (x : A) → slice_get xs i ≡ Some x → i < length xs
within_list [] i x e = absurd cc
within_list (y ∷ xs) zero x e = omega arith
within_list (y ∷ xs) (suc i) x e = omega (arith, within_list xs i x e)

pub all_met : (schema : List Declaration) (number : ℕ) → length schema ≤ number → AreMetBefore schema number → AreSatisfiable schema
all_met schema number long before other t stands = before other t (omega (arith, long, within_list schema other t stands)) stands

pub ruleset looking = (narrow_table, one_met, all_met)

pub answer_meets : (t : Declaration) (s : System) (answer : Answer) (values : List ℤ) → s.rows ≡ map row_of (checks_of t) → IsAnswer s answer → answer ≡ Values values → IsSatisfiable t
answer_meets t s answer values e is same =
    let solution : IsSolution s values = subst (λ a. IsAnswer s a) same is in
    satisfied t (assigned values) (subst (λ rs. Meets rs (assigned values)) e solution.meets)

pub answer_cycle : (t : Declaration) (s : System) (answer : Answer) (chain : List ℕ) → s.rows ≡ map row_of (checks_of t) → IsAnswer s answer → answer ≡ Cycle chain → IsCycleOf (checks_of t) chain
answer_cycle t s answer chain e is same =
    let cycle : IsCycle s.rows chain = subst (λ a. IsAnswer s a) same is in
    cycle_same (checks_of t) chain (subst (λ rs. IsCycle rs chain) e cycle)

pub cycle_found : (t : Declaration) (o : Option (List ℕ)) (chain : List ℕ) → MatchOption o (IsSatisfiable t) (λ cycle. IsCycleOf (checks_of t) cycle) → o ≡ Some chain → IsCycleOf (checks_of t) chain
cycle_found t None chain is e = absurd cc
cycle_found t (Some cycle) chain is e = let same : cycle ≡ chain = cc in subst (λ l. IsCycleOf (checks_of t) l) same is
