-- Where in a document tokens stand, the refusal of a fault, and answers of reading from a place.
use Rattle.std.specs.Prelude.{◌≡◌, ◌-◌, ℕ, List, [], ◌∷◌, length, drop, Result, Ok, Err}
use Rattle.sv_value.specs.declared.spots.Spot.{Spot}
use Rattle.sv_lex.specs.declared.tokens.Token.{Token}
use Rattle.sv_app.specs.declared.refusals.Refusal.{Refusal}
use Rattle.sv_app.specs.declared.refusals.Stop.{Stop}
use Rattle.sv_app.specs.declared.refusals.Stop.TheVariants.{Refused, NoMemory}
use Rattle.sv_reader.specs.declared.faults.ReadFault.{ReadFault}

-- where the first of some tokens stands; the end of the document, if there is none
abbrev pub spot_of : Spot → List Token → Spot
spot_of end [] = end
spot_of end (token ∷ others) = token.spot

-- the refusal of a fault of these tokens
abbrev pub refusal_of : List Token → Spot → ReadFault → Refusal
refusal_of tokens end fault = record { spot = spot_of end (drop (length tokens - fault.left) tokens); code = fault.code }

-- this, seen by view, and the place behind its tokens; or there was no memory
abbrev pub AnswersTo : {A B : Type 0} → (A → B) → Result (A × ℕ) Stop → B → ℕ → Type 0
AnswersTo view (Ok read) item place = (view read.0 ≡ item) × (read.1 ≡ place)
AnswersTo view (Err (Refused refusal)) item place = ⊥
AnswersTo view (Err NoMemory) item place = Unit {0}
