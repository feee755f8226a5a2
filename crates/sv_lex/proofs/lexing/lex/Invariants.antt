use Rattle.std.proofs.Common.{◌≡◌, ◌-◌, length}
use Rattle.sv_lex.specs.Lexers.{tokens_at, with_front}
use Rattle.sv_lex.specs.Tokens.{lexed}
use Rattle.sv_lex.proofs.lexing.lex.Given as goal

abbrev pub invariant-loop-tokens : goal.invariant-loop-tokens
invariant-loop-tokens l = record {
  bytes : l.lexer.bytes.now ≡ l.bytes;
  read : lexed l.bytes ≡ with_front l.tokens.items (tokens_at l.lexer.bytes.now l.lexer.at);
}

abbrev pub decreases-loop-tokens : goal.decreases-loop-tokens
decreases-loop-tokens l = length l.lexer.bytes.now - l.lexer.at
