use Rattle.std.proofs.Common.{All, take}
use Rattle.sv_core.specs.Legal.{IsApply}
use Rattle.sv_core.specs.Mediums.{doc_of}
use Rattle.sv_core.proofs.sites.SiteState.first_ready.Given as goal

abbrev pub invariant-loop-place : goal.invariant-loop-place
invariant-loop-place l = record { none : All (λ q. IsApply (doc_of l.m) l.m.history l.self.site q → ⊥) (take l.place l.self.inbox) }
