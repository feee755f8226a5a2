-- Accepted applications keep the limits of a walk: their tables have few columns.
use Rattle.std.proofs.Common.{◌≡◌, ◌≤◌, ◌∙◌, ℕ, zero, suc, List, [], ◌∷◌, length, Option, Some, None, slice_get, sym, ap, subst}
use Rattle.std.proofs.lemmas.List.Elements.{All-head, All-tail}
use Rattle.std.specs.Borrow.{Bor}
use Rattle.std.specs.List.{All}
use Rattle.std.specs.Prelude.{IfSome}
use Rattle.sv_app.specs.declared.schemas.Table.{Table}
use Rattle.sv_app.specs.Accepted.{AcceptedApp}
use Rattle.sv_app.specs.Conditions.{IsSmallTable}
use Rattle.sv_app.specs.Schema.{Declaration, declaration_of}
use Rattle.sv_app.specs.Trees.{Transaction}
use Rattle.sv_symbolic.specs.Limits.{AreNarrow}
use Rattle.sv_symbolic.specs.States.{declared}

pub narrow_at : (schema : List Declaration) (number : ℕ) (found : Option (Bor Table)) → AreNarrow schema → slice_get schema number ≡ declared found → IfSome found (λ table. length (declaration_of table.now).columns ≤ 16)
narrow_at schema number None narrow is = tt
narrow_at schema number (Some table) narrow is = narrow.each number (declaration_of table.now) is

all_at : {A : Type 0} (P : A → Type 0) (xs : List A) (n : ℕ) (x : A) → All P xs → slice_get xs n ≡ Some x → P x
all_at P [] n x all is = absurd cc
all_at P (y ∷ xs) zero x all is = let same : y ≡ x = cc in subst P same (All-head P y xs all)
all_at P (y ∷ xs) (suc n) x all is = all_at P xs n x (All-tail P y xs all) is

pub accepted_narrow : (schema same : List Declaration) (txns : List Transaction) → AcceptedApp schema txns → same ≡ schema → AreNarrow same
accepted_narrow schema same txns accepted is = record {
  each = λ number table at. (all_at IsSmallTable schema number table accepted.tables.limits.each (ap (λ l. slice_get l number) (sym is) ∙ at)).columns;
}
