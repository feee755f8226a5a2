use Rattle.std.proofs.Common.{◌≡◌, drop}
use Rattle.std.specs.List.{find}
use Rattle.sv_app.specs.Lookups.{is_named}
use Rattle.sv_typing.proofs.scopes.meaning_of.Given as goal

abbrev pub invariant-loop-known : goal.invariant-loop-known
invariant-loop-known l = find (λ k. is_named k.name l.name) (drop l.known-index l.at.known.now) ≡ find (λ k. is_named k.name l.name) l.at.known.now
