use Rattle.std.proofs.Common.{◌≡◌, ◌≤◌, ◌-◌, length}
use Rattle.sv_lex.specs.Lexers.{tokens_at}
use Rattle.sv_lex.proofs.lexers.Lexer.skip_gaps.Given as goal

abbrev pub invariant-loop-count : goal.invariant-loop-count
invariant-loop-count l = record {
  bytes : l.self.bytes.now ≡ l.initial.self.bytes.now;
  same : tokens_at l.self.bytes.now l.self.at ≡ tokens_at l.initial.self.bytes.now l.initial.self.at;
  later : l.initial.self.at ≤ l.self.at;
}

abbrev pub decreases-loop-count : goal.decreases-loop-count
decreases-loop-count l = length l.self.bytes.now - l.self.at
