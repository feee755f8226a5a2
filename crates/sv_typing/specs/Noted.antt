-- The refusal that is held after a list of candidates was looked at, one by one: a later one takes its place if it comes before it.
use Rattle.std.specs.Prelude.{List, [], ◌∷◌, Option, Some, None, if◌then◌else◌}
use Rattle.sv_app.specs.declared.refusals.Refusal.{Refusal}
use Rattle.sv_app.specs.Firsts.{comes_before}

abbrev pub sooner : Option Refusal → Refusal → Refusal
sooner None refusal = refusal
sooner (Some held) refusal = if comes_before refusal held then refusal else held

abbrev pub noted : Option Refusal → List Refusal → Option Refusal
noted held [] = held
noted held (refusal ∷ refusals) = noted (Some (sooner held refusal)) refusals
