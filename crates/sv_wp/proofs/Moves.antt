-- What the writes of a change in forms are on a tape.
use Rattle.std.proofs.Common.{◌≡◌, ◌∙◌, ℕ, Bool, true, false, List, [], ◌∷◌, Option, Some, None, refl, sym, ap}
use Rattle.std.specs.Prelude.{◌==◌, if◌then◌else◌}
use Rattle.std.specs.Option.{option_map}
use Rattle.sv_value.specs.declared.values.Val.{Val}
use Rattle.sv_effect.specs.RunChanges.{Effect}
use Rattle.sv_effect.specs.Threatened as threats
use Rattle.sv_linear.specs.Atoms.{write_to, is_set}
use Rattle.sv_linear.specs.Effects.{SymWrite, Delta, Set, SymEffect, Number, TextIs, TextSymbol, linear}
use Rattle.sv_linear.specs.Forms.{value}
use Rattle.sv_threat.specs.declared.moves.Move.{Move}
use Rattle.sv_threat.specs.declared.moves.Move.TheVariants.{Leaves, Adds, Sets}
use Rattle.sv_threat.specs.Cases.{move_of, moves_of}
use Rattle.sv_wp.specs.Gives.{write_on, writes_on, StandsFor}

-- what a write in forms does to the number of its column
abbrev pub move_on : List Val → Option SymWrite → Move
move_on tape None = Leaves
move_on tape (Some (Delta f)) = Adds (value f tape)
move_on tape (Some (Set v)) = Sets (value (linear v) tape)

pub write_there : (tape : List Val) (c : ℕ) (ws : List (ℕ × SymWrite)) → threats.write_to c (writes_on tape ws) ≡ option_map (write_on tape) (write_to c ws)
write_there tape c [] = refl
write_there tape c (w ∷ ws) = by_place (w.0 == c) (write_there tape c ws)
  where
    by_place : (b : Bool) → threats.write_to c (writes_on tape ws) ≡ option_map (write_on tape) (write_to c ws)
        → (if b then Some (write_on tape w.1) else threats.write_to c (writes_on tape ws)) ≡ option_map (write_on tape) (if b then Some w.1 else write_to c ws)
    by_place true later = refl
    by_place false later = later

pub write_stands : (tape : List Val) (e : SymEffect) (change : Effect) → StandsFor tape e change → (c : ℕ) → option_map (write_on tape) (write_to c e.writes) ≡ threats.write_to c change.writes
write_stands tape e change s c = sym (write_there tape c e.writes) ∙ ap (threats.write_to c) s.writes

move_same : (tape : List Val) (x : Option SymWrite) → move_on tape x ≡ move_of (option_map (write_on tape) x)
move_same tape None = refl
move_same tape (Some (Delta f)) = refl
move_same tape (Some (Set (Number f))) = refl
move_same tape (Some (Set (TextIs t))) = refl
move_same tape (Some (Set (TextSymbol n))) = refl

pub moves_stand : (tape : List Val) (e : SymEffect) (change : Effect) → StandsFor tape e change → (c : ℕ) → move_on tape (write_to c e.writes) ≡ moves_of change c
moves_stand tape e change s c = move_same tape (write_to c e.writes) ∙ ap move_of (write_stands tape e change s c)

set_same : (tape : List Val) (x : Option SymWrite) → is_set x ≡ threats.is_set (option_map (write_on tape) x)
set_same tape None = refl
set_same tape (Some (Delta f)) = refl
set_same tape (Some (Set v)) = refl

pub set_stands : (tape : List Val) (e : SymEffect) (change : Effect) → StandsFor tape e change → (c : ℕ) → is_set (write_to c e.writes) ≡ threats.is_set (threats.write_to c change.writes)
set_stands tape e change s c = set_same tape (write_to c e.writes) ∙ ap threats.is_set (write_stands tape e change s c)
