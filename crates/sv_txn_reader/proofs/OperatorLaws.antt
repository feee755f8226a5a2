-- An operator and what stands behind it.
use Rattle.std.proofs.Common.{◌≡◌, ℕ, suc, ◌<◌, ◌≤◌, inl, inr, Bool, true, List, [], ◌∷◌, ◌++◌, Ok, refl, ap, arith, max}
use Rattle.sv_lex.specs.declared.tokens.Token.{Token}
use Rattle.sv_lex.specs.declared.tokens.TokenKind.{TokenKind}
use Rattle.sv_reader.specs.Reading.{Read, ◌>>=◌, is_next, kind_at}
use Rattle.sv_reader.proofs.KindLaws.{kind_is}
use Rattle.sv_txn_reader.specs.Grammar.{◌·◌, kind}
use Rattle.sv_txn_reader.proofs.ChainLaws.{Fits, Step}
use Rattle.sv_txn_reader.proofs.PlacedLaws.{Passes, Law, map_law}
use Rattle.sv_txn_reader.proofs.LimitLaws.{depths}
use Rattle.sv_txn_reader.proofs.PieceLaws.{kind_next, Made, take_last, skip}

-- what is joined to something by an operator
pub record Joined {E : Type 0} (k : TokenKind) (join : E → E → E) (Operand : E × ℕ → List Token → List Token → Type 0) (a m : E × ℕ) (tokens rest : List Token) : Type 0 where
  pub right : E × ℕ
  pub middle : List Token
  pub sign : kind k tokens middle
  pub is : Operand right middle rest
  pub made : m ≡ (join a.0 right.0, suc (max a.1 right.1))

pub record Sample {E : Type 0} (Operand : E × ℕ → List Token → List Token → Type 0) : Type 0 where
  pub item : E × ℕ
  pub tokens : List Token
  pub is : (m : List Token) → Operand item (tokens ++ m) m

abbrev pub Roomy : {E : Type 0} → (E × ℕ → List Token → List Token → Type 0) → ℕ → Bool → E × ℕ → List Token → List Token → Type 0
Roomy Operand room i g l r = Operand g l r × Fits room i g.1

pub joined_deeper : {E : Type 0} (k : TokenKind) (join : E → E → E) (Operand : E × ℕ → List Token → List Token → Type 0) (a m : E × ℕ) (l r : List Token) → Joined k join Operand a m l r → a.1 < m.1
joined_deeper k join Operand a m l r j = let e : m.1 ≡ suc (max a.1 j.right.1) = ap (λ x. x.1) j.made in omega (arith, e)

pub joined_first : {E : Type 0} (k : TokenKind) (join : E → E → E) (Operand : E × ℕ → List Token → List Token → Type 0) (a m : E × ℕ) (l r : List Token) → Joined k join Operand a m l r → is_next k l ≡ true
joined_first k join Operand a m l r j = kind_next k l j.middle j.sign

pub joined_begins : {E : Type 0} (k : TokenKind) (join : E → E → E) (Operand : E × ℕ → List Token → List Token → Type 0) → Sample Operand → (a : E × ℕ) (token : Token) (others : List Token)
    → is_next k (token ∷ others) ≡ true → Passes depths (λ _. Joined k join Operand a) (token ∷ [])
joined_begins k join Operand sample a token others t = record {
  more = sample.tokens;
  item = (join a.0 sample.item.0, suc (max a.1 sample.item.1));
  is = λ i m free. record { right = sample.item; middle = sample.tokens ++ m; sign = record { token = token; next = refl; holds = kind_is k token.kind t }; is = sample.is m; made = refl };
}

pub joined_law : {E : Type 0} {before : List Token → Bool} (k : TokenKind) (join : E → E → E) (Operand : E × ℕ → List Token → List Token → Type 0) (room : ℕ) (read : List Token → Read (E × ℕ)) (a : E × ℕ) → a.1 ≤ room
    → Law depths before (Roomy Operand room) read → Law depths before (Step (suc room) (Joined k join Operand) a) (λ l. kind_at k l >>= λ _ r1. read r1 >>= λ b r2. Ok ((join a.0 b.0, suc (max a.1 b.1)), r2))
joined_law {E} {before} k join Operand room read a few law = map_law (skip k (λ (b : E × ℕ). (join a.0 b.0, suc (max a.1 b.1))) (take_last (λ (b : E × ℕ). (join a.0 b.0, suc (max a.1 b.1))) law)) into out
  where
    deeper : (i : Bool) (x b : ℕ) → x ≡ suc (max a.1 b) → Fits room i b → Fits (suc room) i x
    deeper i x b e (inl h) = inl (omega (arith, few, h, e))
    deeper i x b e (inr free) = inr free

    lower : (i : Bool) (x b : ℕ) → x ≡ suc (max a.1 b) → Fits (suc room) i x → Fits room i b
    lower i x b e (inl h) = inl (omega (arith, h, e))
    lower i x b e (inr free) = inr free

    into : (i : Bool) (m : E × ℕ) (l r : List Token) → Made (λ (b : E × ℕ). (join a.0 b.0, suc (max a.1 b.1))) (λ i b. kind k · Roomy Operand room i b) i m l r → Step (suc room) (Joined k join Operand) a i m l r
    into i m l r x = (record { right = x.«from»; middle = x.is.middle; sign = x.is.first; is = x.is.second.0; made = x.made }, deeper i m.1 x.«from».1 (ap (λ y. y.1) x.made) x.is.second.1)

    out : (i : Bool) (m : E × ℕ) (l r : List Token) → Step (suc room) (Joined k join Operand) a i m l r → Made (λ (b : E × ℕ). (join a.0 b.0, suc (max a.1 b.1))) (λ i b. kind k · Roomy Operand room i b) i m l r
    out i m l r s = record { «from» = s.0.right; is = record { middle = s.0.middle; first = s.0.sign; second = (s.0.is, lower i m.1 s.0.right.1 (ap (λ y. y.1) s.0.made) s.1) }; made = s.0.made }
