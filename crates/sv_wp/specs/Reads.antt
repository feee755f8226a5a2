-- Of the atoms of a change: which symbols they name, and that on the tape of a run they are read as they are.
use Rattle.std.specs.Prelude.{◌≡◌, ◌↔◌, ℕ, ℤ, ◌^◌, Bool, true, List}
use Rattle.std.specs.List.{All}
use Rattle.sv_value.specs.declared.values.Val.{Val}
use Rattle.sv_app.specs.Fitting.{number_in}
use Rattle.sv_app.specs.Schema.{Declaration}
use Rattle.sv_bounds.specs.Differences.{Within}
use Rattle.sv_effect.specs.declared.ops.Write.{Write}
use Rattle.sv_effect.specs.declared.ops.Write.TheVariants as writes
use Rattle.sv_effect.specs.RunChanges.{Effect}
use Rattle.sv_linear.specs.declared.effects.SymEffect.{SymEffect as Coded}
use Rattle.sv_linear.specs.Atoms.{Gain, atoms}
use Rattle.sv_linear.specs.Codes.{effect_of}
use Rattle.sv_linear.specs.Effects.{SymValue, Number, TextIs, TextSymbol, SymWrite, Delta, Set, SymEffect}
use Rattle.sv_linear.specs.Tests.{Test, AtMost, InList, Never, TestHolds}
use Rattle.sv_wp.specs.Gives.{StandsFor, IsMetOn}

-- ---- symbols that are among some

abbrev pub TermsAre : (ℕ → Bool) → List (ℕ × ℤ) → Type 0
TermsAre among terms = All (λ t. among t.0 ≡ true) terms

abbrev pub ValueIs : (ℕ → Bool) → SymValue → Type 0
ValueIs among (Number f) = TermsAre among f.terms
ValueIs among (TextIs t) = Unit {0}
ValueIs among (TextSymbol n) = among n ≡ true

abbrev pub WriteIs : (ℕ → Bool) → SymWrite → Type 0
WriteIs among (Delta f) = TermsAre among f.terms
WriteIs among (Set v) = ValueIs among v

abbrev pub TestIs : (ℕ → Bool) → Test → Type 0
TestIs among (AtMost f most) = TermsAre among f.terms
TestIs among (InList symbol number) = among symbol ≡ true
TestIs among Never = Unit {0}

-- atoms name only symbols that the change names
abbrev pub AtomsName : Type 0
AtomsName = (among : ℕ → Bool) (told : Gain) (schema : List Declaration) (e : SymEffect) (place : ℕ)
    → All (λ w. WriteIs among w.1) e.writes → All (λ a. TestIs among a.test) (atoms told schema e place)

-- ---- forms on the tape of a run

-- a number that is added or set lies between -2^64 and 2^64
abbrev pub IsShortWrite : Write → Type 0
IsShortWrite (writes.Delta d) = Within (2 ^ 64) d
IsShortWrite (writes.Set v) = Within (2 ^ 64) (number_in v)

-- where a change in forms stands for such a change, its atoms hold as they are read just where they are met
abbrev pub AtomsAreExact : Type 0
AtomsAreExact = (told : Gain) (schema : List Declaration) (e : Coded) (place : ℕ) (tape : List Val) (change : Effect)
    → StandsFor tape (effect_of e) change → All (λ w. IsShortWrite w.1) change.writes
    → All (λ a. TestHolds schema tape a.test ↔ IsMetOn schema tape a.test) (atoms told schema (effect_of e) place)
