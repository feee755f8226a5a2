-- What the definitions promise: a document gets one refusal.
use Rattle.std.specs.Prelude.{◌≡◌, List}
use Rattle.sv_value.specs.declared.spots.Spot.{Spot}
use Rattle.sv_lex.specs.declared.tokens.Token.{Token}
use Rattle.sv_app.specs.declared.refusals.Refusal.{Refusal}
use Rattle.sv_app.specs.Codes.{number_of}
use Rattle.sv_app.specs.Schema.{Declaration}
use Rattle.sv_app.specs.Trees.{Transaction}
use Rattle.sv_workload.specs.Documents.{IsRefused}

-- the same place and the same code
abbrev pub IsSame : Refusal → Refusal → Type 0
IsSame a b = (a.spot ≡ b.spot) × (number_of a.code ≡ number_of b.code)

abbrev pub RefusedOnce : Type 0
RefusedOnce = (schema : List Declaration) (txns : List Transaction) (tokens : List Token) (end : Spot) (a b : Refusal)
    → IsRefused schema txns tokens end a → IsRefused schema txns tokens end b → IsSame a b
