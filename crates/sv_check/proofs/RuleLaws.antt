-- The tests of checks and lists answer as these are meant; and where a rule can't fail, it holds.
use Rattle.std.proofs.Common.{◌≡◌, ℕ, ℤ, Bool, true, false, List, refl, arith}
use Rattle.std.specs.Prelude.{int_le, ◌≤ℤ◌}
use Rattle.std.proofs.lemmas.Int.{ints}
use Rattle.std.proofs.lemmas.Cmp.{eq_by_cmp_equiv}
use Rattle.std.proofs.lemmas.Map.Views.{tells_apart, Contains-from_any, list_any-from_Contains}
use Rattle.sv_value.proofs.OrderLaws.{text_total, exact_texts}
use Rattle.sv_app.specs.declared.gots.Got.{Got}
use Rattle.sv_app.specs.declared.gots.Got.TheVariants.{Num, Text}
use Rattle.sv_app.specs.declared.schemas.Check.{Check}
use Rattle.sv_app.specs.Tables.{Row}
use Rattle.sv_app.specs.Valid.{Meets, IsListed}
use Rattle.sv_check.specs.Rules.{is_met, is_listed}

pub clash : {P : Type 0} (b : Bool) → b ≡ true → b ≡ false → P
clash b h k = cc

le_from : (a b : ℤ) → int_le a b ≡ true → a ≤ℤ b
le_from a b e = omega (arith, ints, e)

to_le : (a b : ℤ) → a ≤ℤ b → int_le a b ≡ true
to_le a b h = split (int_le a b) refl
  where
    split : (r : Bool) → int_le a b ≡ r → r ≡ true
    split true e = refl
    split false e = absurd (omega (arith, ints, h, e))

pub meets : (row : Row) (check : Check) → is_met row check ≡ true → Meets row check
meets row check e = le_from _ _ e

pub met : (row : Row) (check : Check) → Meets row check → is_met row check ≡ true
met row check h = to_le _ _ h

pub listed : (got : Got) (texts : List (List ℕ)) → is_listed got texts ≡ true → IsListed got texts
listed (Num n) texts e = cc
listed (Text text) texts e = Contains-from_any (λ x y h. tells_apart exact_texts x y h) text texts e

pub in_list : (got : Got) (texts : List (List ℕ)) → IsListed got texts → is_listed got texts ≡ true
in_list (Num n) texts h = absurd h
in_list (Text text) texts h = list_any-from_Contains (eq_by_cmp_equiv text_total) text texts h
