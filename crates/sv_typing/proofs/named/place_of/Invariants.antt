use Rattle.std.proofs.Common.{◌≡◌}
use Rattle.std.specs.Prelude.{map}
use Rattle.sv_app.specs.Lookups.{place_of}
use Rattle.sv_typing.proofs.LookupLaws.{place_behind}
use Rattle.sv_typing.proofs.named.place_of.Given as goal

abbrev pub invariant-loop-place : goal.invariant-loop-place
invariant-loop-place g l = place_behind g.T.Named.ident l.name l.items l.place ≡ place_of l.name (map g.T.Named.ident l.items)
