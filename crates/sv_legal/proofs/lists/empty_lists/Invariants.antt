use Rattle.std.proofs.Common.{◌≡◌, ℕ, [], length}
use Rattle.std.specs.Prelude.{map}
use Rattle.sv_plain.specs.Held.{medium_of}
use Rattle.sv_legal.proofs.lists.empty_lists.Given as goal

abbrev pub invariant-loop : goal.invariant-loop
invariant-loop l = record {
  long : length l.lists.items ≡ l.counter;
  empty : (o : ℕ) → medium_of (map (λ ops. ops.items) l.lists.items) o ≡ [];
}
