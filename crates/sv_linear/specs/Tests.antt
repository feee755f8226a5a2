-- Tests on a tape, and atoms: a test of one change with the reason that it speaks of.
use Rattle.std.specs.Prelude.{◌≡◌, ℕ, ℤ, ◌==◌, ◌&&◌, ◌≤ℤ◌, bytes_eq, Bool, true, List, []}
use Rattle.std.specs.Int.{int_wrap, w128}
use Rattle.std.specs.List.{list_any}
use Rattle.sv_value.specs.declared.values.Val.{Val}
use Rattle.sv_app.specs.declared.reasons.Reason.{Reason}
use Rattle.sv_app.specs.Schema.{Rule, Bound, OneOf, Different, Refers, Invariant, Declaration}
use Rattle.sv_linear.specs.Effects.{text_in}
use Rattle.sv_linear.specs.Forms.{Form, symbol_at, value}

-- a form is at most a number, a symbol's text stands in the list of an invariant, or nothing meets it
pub data Test : Type 0 where
  AtMost : Form → ℤ → Test
  InList : ℕ → ℕ → Test
  Never : Test

pub record Atom : Type 0 where
  pub place : ℕ
  pub reason : Reason
  pub test : Test

-- the value of a form, as it is read in 128 bits
abbrev pub read : Form → List Val → ℤ
read f tape = int_wrap w128 (value f tape)

abbrev pub texts_in : Rule → List (List ℕ)
texts_in (OneOf column texts) = texts
texts_in (Bound check) = []
texts_in (Different column) = []
texts_in (Refers column parent target) = []

-- the list of an invariant of this number has the text
abbrev pub lists : ℕ → List ℕ → Invariant → Bool
lists number text inv = inv.number == number && list_any (bytes_eq text) (texts_in inv.rule)

abbrev pub is_listed : List Declaration → ℕ → List ℕ → Bool
is_listed schema number text = list_any (λ d. list_any (lists number text) d.invs) schema

abbrev pub TestHolds : List Declaration → List Val → Test → Type 0
TestHolds schema tape (AtMost f most) = read f tape ≤ℤ most
TestHolds schema tape (InList symbol number) = is_listed schema number (text_in (symbol_at tape symbol)) ≡ true
TestHolds schema tape Never = ⊥
