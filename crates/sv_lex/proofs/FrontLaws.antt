-- Tokens read so far, before those that are left.
use Rattle.std.proofs.Common.{◌≡◌, List, [], ◌∷◌, ◌++◌, Result, Ok, Err, refl, ap}
use Rattle.sv_lex.specs.declared.tokens.Token.{Token}
use Rattle.sv_lex.specs.Lexers.{with_front}
use Rattle.sv_lex.specs.Tokens.{Fault, with_token}

pub front_more : (tokens : List Token) (token : Token) (others : Result (List Token) Fault) → with_front (tokens ++ token ∷ []) others ≡ with_front tokens (with_token token others)
front_more [] token others = refl
front_more (first ∷ tokens) token others = ap (λ (read : Result (List Token) Fault). with_token first read) (front_more tokens token others)

pub front_end : (tokens : List Token) → with_front tokens (Ok []) ≡ Ok tokens
front_end [] = refl
front_end (first ∷ tokens) = ap (λ (read : Result (List Token) Fault). with_token first read) (front_end tokens)

pub front_fault : (tokens : List Token) (fault : Fault) → with_front tokens (Err fault) ≡ Err fault
front_fault [] fault = refl
front_fault (first ∷ tokens) fault = ap (λ (read : Result (List Token) Fault). with_token first read) (front_fault tokens fault)

pub ruleset front = (front_more, front_end, front_fault)
