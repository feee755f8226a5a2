-- How the calls answer that make a form: with just that form, or why there is none.
use Rattle.std.specs.Prelude.{◌≡◌, ℕ, ℤ, neg_ℤ, Bool, true, false, List, ◌++◌}
use Rattle.sv_linear.specs.declared.stops.FormStop.{FormStop}
use Rattle.sv_linear.specs.declared.stops.FormStop.TheVariants.{Wide, NoMemory}
use Rattle.sv_linear.specs.Forms.{Form, are_words, is_narrow, negated_terms}

-- a call that would make this form stops: wide exactly where the form is
abbrev pub IsStopOf : Form → FormStop → Type 0
IsStopOf f Wide = is_narrow f ≡ false
IsStopOf f NoMemory = Unit {0}

abbrev pub IsStopOfTerms : List (ℕ × ℤ) → FormStop → Type 0
IsStopOfTerms terms Wide = are_words terms ≡ false
IsStopOfTerms terms NoMemory = Unit {0}

-- terms of 64 bits stand behind those that stood before
pub record ArePut (before terms after : List (ℕ × ℤ)) : Type 0 where
  pub put : after ≡ before ++ terms
  pub words : are_words terms ≡ true

abbrev pub signed : Bool → ℤ → ℤ
signed true n = neg_ℤ n
signed false n = n

-- the terms, or those with their signs turned
abbrev pub turned : Bool → List (ℕ × ℤ) → List (ℕ × ℤ)
turned true terms = negated_terms terms
turned false terms = terms
