-- What forms and facts mean: values add, subtract and multiply, and facts hold where their comparison says so.
use Rattle.std.specs.Prelude.{◌≡◌, ◌+ℤ◌, ◌-ℤ◌, ◌*ℤ◌, ℤ, int_lt, not, Bool, List}
use Rattle.std.specs.Ordering.{int_eq}
use Rattle.sv_value.specs.declared.values.Val.{Val}
use Rattle.sv_app.specs.declared.txns.Rel.{Rel}
use Rattle.sv_app.specs.declared.txns.Rel.TheVariants as rels
use Rattle.sv_linear.specs.Effects.{Number}
use Rattle.sv_linear.specs.Facts.{facts_of, facts_hold}
use Rattle.sv_linear.specs.Forms.{Form, value, add, sub, scale}

abbrev pub SumsAdd : Type 0
SumsAdd = (f g : Form) (tape : List Val) → value (add f g) tape ≡ value f tape +ℤ value g tape

abbrev pub DifferencesSubtract : Type 0
DifferencesSubtract = (f g : Form) (tape : List Val) → value (sub f g) tape ≡ value f tape -ℤ value g tape

abbrev pub MultiplesScale : Type 0
MultiplesScale = (c : ℤ) (f : Form) (tape : List Val) → value (scale c f) tape ≡ c *ℤ value f tape

-- how integers compare
abbrev pub compares : Rel → ℤ → ℤ → Bool
compares rels.Eq m n = int_eq m n
compares rels.Ne m n = not (int_eq m n)
compares rels.Lt m n = int_lt m n
compares rels.Le m n = not (int_lt n m)
compares rels.Gt m n = int_lt n m
compares rels.Ge m n = not (int_lt m n)

abbrev pub FactsSay : Type 0
FactsSay = (r : Rel) (f g : Form) (tape : List Val) → facts_hold tape (facts_of r (compares r (value f tape) (value g tape)) (Number f) (Number g))
