-- Forms, effects, tests, atoms and what is left of them, as their code has them.
use Rattle.std.specs.Prelude.{ℕ, List, map}
use Rattle.std.specs.Option.{option_map}
use Rattle.sv_linear.specs.declared.forms.Form.{Form}
use Rattle.sv_linear.specs.declared.effects.SymVal.{SymVal}
use Rattle.sv_linear.specs.declared.effects.SymVal.TheVariants as vals
use Rattle.sv_linear.specs.declared.effects.SymWrite.{SymWrite}
use Rattle.sv_linear.specs.declared.effects.SymWrite.TheVariants as writes
use Rattle.sv_linear.specs.declared.effects.SymEffect.{SymEffect}
use Rattle.sv_linear.specs.declared.tests.Test.{Test}
use Rattle.sv_linear.specs.declared.tests.Test.TheVariants as tests
use Rattle.sv_linear.specs.declared.tests.Atom.{Atom}
use Rattle.sv_linear.specs.declared.left.KeptAtom.{KeptAtom}
use Rattle.sv_linear.specs.declared.left.Dropped.{Dropped}
use Rattle.sv_linear.specs.declared.left.Left.{Left}
use Rattle.sv_linear.specs.Forms as forms
use Rattle.sv_linear.specs.Effects as effects
use Rattle.sv_linear.specs.Tests as meant
use Rattle.sv_linear.specs.Left as lefts

abbrev pub form_of : Form → forms.Form
form_of f = record { terms = f.terms; plus = f.plus }

abbrev pub sym_of : SymVal → effects.SymValue
sym_of (vals.Num f) = effects.Number (form_of f)
sym_of (vals.TextIs t) = effects.TextIs t
sym_of (vals.TextSym n) = effects.TextSymbol n

abbrev pub write_of : SymWrite → effects.SymWrite
write_of (writes.Delta f) = effects.Delta (form_of f)
write_of (writes.Set v) = effects.Set (sym_of v)

abbrev pub writes_of : List (ℕ × SymWrite) → List (ℕ × effects.SymWrite)
writes_of ws = map (λ w. (w.0, write_of w.1)) ws

abbrev pub effect_of : SymEffect → effects.SymEffect
effect_of e = record { table = e.table; act = e.act; writes = writes_of e.writes }

abbrev pub test_of : Test → meant.Test
test_of (tests.AtMost f most) = meant.AtMost (form_of f) most
test_of (tests.InList sym inv) = meant.InList sym inv
test_of tests.Never = meant.Never

abbrev pub atom_of : Atom → meant.Atom
atom_of a = record { place = a.place; reason = a.reason; test = test_of a.test }

abbrev pub kept_of : KeptAtom → lefts.KeptAtom
kept_of k = record { atom = atom_of k.atom; shown = k.shown }

abbrev pub dropped_of : Dropped → lefts.Dropped
dropped_of d = record { atom = atom_of d.atom; after = d.after; cycle = d.cycle }

abbrev pub left_of : Left → lefts.Left
left_of left = record { kept = map kept_of left.kept; dropped = map dropped_of left.dropped; never = option_map atom_of left.never }
