-- The first of some refusals: by place, and at one place by the number of its code.
use Rattle.std.specs.Prelude.{◌≡◌, Bool, false, List, nat_lt, ◌==◌, ◌&&◌, ◌||◌}
use Rattle.std.specs.List.{All, Contains}
use Rattle.sv_value.specs.declared.spots.Spot.{Spot}
use Rattle.sv_app.specs.declared.refusals.Refusal.{Refusal}
use Rattle.sv_app.specs.Codes.{number_of}

-- on an earlier line, or earlier on the same line
abbrev pub is_earlier : Spot → Spot → Bool
is_earlier a b = nat_lt a.line b.line || (a.line == b.line && nat_lt a.col b.col)

abbrev pub is_same_place : Spot → Spot → Bool
is_same_place a b = a.line == b.line && a.col == b.col

-- one refusal comes before another
abbrev pub comes_before : Refusal → Refusal → Bool
comes_before a b = is_earlier a.spot b.spot || (is_same_place a.spot b.spot && nat_lt (number_of a.code) (number_of b.code))

-- one of the candidates, before which no other comes
pub record IsFirst (candidates : List Refusal) (refusal : Refusal) : Type 0 where
  pub is : Contains candidates refusal
  pub first : All (λ other. comes_before other refusal ≡ false) candidates
