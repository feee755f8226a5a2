-- What the definitions promise: tokens get one refusal.
use Rattle.std.specs.Prelude.{◌≡◌, List}
use Rattle.sv_value.specs.declared.spots.Spot.{Spot}
use Rattle.sv_lex.specs.declared.tokens.Token.{Token}
use Rattle.sv_app.specs.declared.refusals.Refusal.{Refusal}
use Rattle.sv_schema_reader.specs.Refused.{IsRefused}

abbrev pub RefusedOnce : Type 0
RefusedOnce = (tokens : List Token) (end : Spot) (a b : Refusal) → IsRefused tokens end a → IsRefused tokens end b → a ≡ b
