-- What a path's expressions are and what its changes write, in forms of its symbols.
use Rattle.std.specs.Prelude.{ℕ, pos, List, []}
use Rattle.sv_value.specs.declared.values.Val.{Val}
use Rattle.sv_value.specs.declared.values.Val.TheVariants.{Int, Text as IsText}
use Rattle.sv_app.specs.declared.acts.Act.{Act}
use Rattle.sv_app.specs.declared.schemas.Ty.{Ty}
use Rattle.sv_app.specs.declared.schemas.Ty.TheVariants as types
use Rattle.sv_linear.specs.Forms.{Form, symbol_at, value, number, symbol}

-- an integer, a text that is written, or a text that a symbol stands for
pub data SymValue : Type 0 where
  Number : Form → SymValue
  TextIs : List ℕ → SymValue
  TextSymbol : ℕ → SymValue

pub data SymWrite : Type 0 where
  Delta : Form → SymWrite
  Set : SymValue → SymWrite

-- a change of a row of a table, whichever its key is
pub record SymEffect : Type 0 where
  pub table : ℕ
  pub act : Act
  pub writes : List (ℕ × SymWrite)

abbrev pub text_in : Val → List ℕ
text_in (Int n) = []
text_in (IsText t) = t

abbrev pub value_of : SymValue → List Val → Val
value_of (Number f) tape = Int (value f tape)
value_of (TextIs t) tape = IsText t
value_of (TextSymbol n) tape = IsText (text_in (symbol_at tape n))

-- the form of an integer; a text counts as zero
abbrev pub linear : SymValue → Form
linear (Number f) = f
linear (TextIs t) = number (pos 0)
linear (TextSymbol n) = number (pos 0)

-- a symbol of a type
abbrev pub symbol_of : Ty → ℕ → SymValue
symbol_of types.Text n = TextSymbol n
symbol_of types.Int n = Number (symbol n)
symbol_of types.Ints n = Number (symbol n)
