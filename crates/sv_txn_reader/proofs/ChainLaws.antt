-- Operators of one level, each of which makes what stands before it deeper.
use Rattle.std.proofs.Common.{◌≡◌, ◌∙◌, ℕ, ◌<◌, ◌≤◌, ◌⊎◌, inl, inr, Bool, true, false, if◌then◌else◌, nat_le, List, [], ◌∷◌, length, Ok, Err, refl, sym, ap, subst, arith, cond}
use Rattle.std.proofs.lemmas.Bool.Decides.{nat_tests}
use Rattle.sv_lex.specs.declared.tokens.Token.{Token}
use Rattle.sv_app.specs.declared.refusals.Code.TheVariants.{Syntax, Many}
use Rattle.sv_reader.specs.declared.faults.ReadFault.{ReadFault}
use Rattle.sv_reader.specs.Reading.{Read, ◌>>=◌, refuse, turns_at}
use Rattle.sv_reader.specs.Reading.{keep}
use Rattle.sv_reader.proofs.AnswerLaws.{Alike}
use Rattle.sv_txn_reader.proofs.PlacedLaws.{Passes, Took, Stuck, TooMany, Reads, Law, reads_same, took_map, stuck_map, Then, then_law}
use Rattle.sv_txn_reader.proofs.LimitLaws.{depths}
use Rattle.sv_txn_reader.proofs.PieceLaws.{Left, Right, Turns, Stop, Turn, Perhaps, Turning, guarded, turns_law}

-- as deep as there is room, or free
abbrev pub Fits : ℕ → Bool → ℕ → Type 0
Fits room i extra = (extra ≤ room) ⊎ (i ≡ true)

pub fits_less : (room i : _) (a b : ℕ) → a ≤ b → Fits room i b → Fits room i a
fits_less room i a b h (inl f) = inl (omega (arith, h, f))
fits_less room i a b h (inr f) = inr f

-- what one turn makes of something is all there is to it, but for the room
abbrev pub Step : {E : Type 0} → ℕ → (E × ℕ → E × ℕ → List Token → List Token → Type 0) → E × ℕ → Bool → E × ℕ → List Token → List Token → Type 0
Step room Any a i m l r = Any a m l r × Fits room i m.1

pub record Chain {E : Type 0} (before clash test : List Token → Bool) (room : ℕ) (turn piece : E × ℕ → List Token → Read (E × ℕ)) (Any : E × ℕ → E × ℕ → List Token → List Token → Type 0) : Type 0 where
  pub turns : (a : E × ℕ) (l : List Token) → turn a l ≡ (if nat_le room a.1 then refuse Many l else piece a l)
  pub alike : (a b : List Token) → Alike a b → test a ≡ test b
  pub none : test [] ≡ false
  pub law : (a : E × ℕ) → a.1 < room → Law depths before (Step room Any a) (piece a)
  pub deeper : (a m : E × ℕ) (l r : List Token) → Any a m l r → a.1 < m.1
  pub first : (a m : E × ℕ) (l r : List Token) → Any a m l r → test l ≡ true
  pub near_turn : (a m : E × ℕ) (l r : List Token) → Any a m l r → before l ≡ false
  pub near_end : (l : List Token) → clash l ≡ false → before l ≡ false
  pub stop : (l : List Token) → clash l ≡ false → test l ≡ false
  pub begins : (a : E × ℕ) (token : Token) (others : List Token) → test (token ∷ others) ≡ true → Passes depths (λ _. Any a) (token ∷ [])

module _ {E : Type 0} {before clash test : List Token → Bool} {room : ℕ} {turn piece : E × ℕ → List Token → Read (E × ℕ)} {Any : E × ℕ → E × ℕ → List Token → List Token → Type 0}
    (chain : Chain before clash test room turn piece Any) where
  roomy : (n : ℕ) → nat_le room n ≡ false → n < room
  roomy n e = grind (arith, nat_tests, e)

  full : (n : ℕ) → nat_le room n ≡ true → room ≤ n
  full n e = grind (arith, nat_tests, e)

  pub free_turn : (a : E × ℕ) (l : List Token) → nat_le room a.1 ≡ false → turn a l ≡ piece a l
  free_turn a l e = chain.turns a l ∙ ap (λ b. cond b (refuse Many l) (piece a l)) e

  pub full_turn : (a : E × ℕ) (l : List Token) → nat_le room a.1 ≡ true → turn a l ≡ refuse Many l
  full_turn a l e = chain.turns a l ∙ ap (λ b. cond b (refuse Many l) (piece a l)) e

  guard : (a : E × ℕ) (tokens last : List Token) → test tokens ≡ true → Alike tokens last → guarded test (turn a) last ≡ turn a last
  guard a tokens last t alike = ap (λ b. cond b (turn a last) (refuse Syntax last)) (sym (chain.alike tokens last alike) ∙ t)

  took : (a : E × ℕ) (tokens : List Token) (m : E × ℕ) (rest : List Token) → test tokens ≡ true → turn a tokens ≡ Ok (m, rest) → Took depths (Step room Any a) (guarded test (turn a)) tokens m rest
  took a tokens m rest t e = by_room (nat_le room a.1) refl
    where
      by_room : (b : Bool) → nat_le room a.1 ≡ b → Took depths (Step room Any a) (guarded test (turn a)) tokens m rest
      by_room true f = let bad : ◌≡◌ {A = Read (E × ℕ)} (refuse Many tokens) (Ok (m, rest)) = sym (full_turn a tokens f) ∙ e in absurd cc
      by_room false f = took_map (λ x. x) (λ i x l r is. is) (λ last x alike is. guard a tokens last t alike ∙ free_turn a last f ∙ is)
          ((chain.law a (roomy a.1 f)).took tokens m rest (sym (free_turn a tokens f) ∙ e))

  all : (a : E × ℕ) (i : Bool) (m : E × ℕ) (l r : List Token) → Step room Any a i m l r → before r ≡ false → Reads depths i (turn a l) m r
  all a i m l r is clear = by_room (nat_le room a.1) refl
    where
      late : room ≤ a.1 → Fits room i m.1 → i ≡ true
      late f (inl few) = absurd (let more = chain.deeper a m l r is.0 in omega (arith, f, few, more))
      late f (inr free) = free

      by_room : (b : Bool) → nat_le room a.1 ≡ b → Reads depths i (turn a l) m r
      by_room true f = inr (record { left = length l; is = full_turn a l f; late = late (full a.1 f) is.1 })
      by_room false f = reads_same (free_turn a l f) ((chain.law a (roomy a.1 f)).all i m l r is clear)

  fails : (a : E × ℕ) (tokens : List Token) (fault : ReadFault) → test tokens ≡ true → turn a tokens ≡ Err fault → Stuck depths (Perhaps (Step room Any) a) (guarded test (turn a)) tokens fault
  fails a tokens fault t e = by_room (nat_le room a.1) refl
    where
      passed : (token : Token) → Passes depths (λ _. Any a) (token ∷ []) → Passes depths (Perhaps (Step room Any) a) (token ∷ [])
      passed token p = record { more = p.more; item = p.item; is = λ i m free. Right (p.is i m free, inr free) }

      too_many : (l : List Token) → tokens ≡ l → test l ≡ true → nat_le room a.1 ≡ true → ◌≡◌ {A = Read (E × ℕ)} (refuse Many l) (Err fault) → Stuck depths (Perhaps (Step room Any) a) (guarded test (turn a)) tokens fault
      too_many [] same t f e = let bad : true ≡ false = sym t ∙ chain.none in absurd cc
      too_many (token ∷ others) same t f e = record {
        front = [];
        rest = token ∷ others;
        code = Many;
        whole = same;
        place = let is : record { code = Many; left = length (token ∷ others) } ≡ fault = cc in sym is;
        opens = record { more = []; item = a; is = λ i m loose. Left (record { empty = refl; is = refl }) };
        cause = TooMany token others (passed token (chain.begins a token others t));
        again = λ last alike. guard a (token ∷ others) last t alike ∙ full_turn a last f;
      }

      by_room : (b : Bool) → nat_le room a.1 ≡ b → Stuck depths (Perhaps (Step room Any) a) (guarded test (turn a)) tokens fault
      by_room true f = too_many tokens refl t f (sym (full_turn a tokens f) ∙ e)
      by_room false f = stuck_map (λ x. x) (λ i x l r is. Right is) (λ last x alike is. guard a tokens last t alike ∙ free_turn a last f ∙ is)
          ((chain.law a (roomy a.1 f)).fails tokens fault (sym (free_turn a tokens f) ∙ e))

  pub chain_turning : Turning depths before clash test turn (Step room Any)
  chain_turning = record {
    alike = chain.alike;
    none = chain.none;
    took = took;
    all = all;
    fails = fails;
    first = λ a i m l r is. chain.first a m l r is.0;
    near_turn = λ a i m l r is. chain.near_turn a m l r is.0;
    near_end = chain.near_end;
    stop = chain.stop;
  }

  -- something, and turns behind it
  pub chain_law : {First : Bool → E × ℕ → List Token → List Token → Type 0} {read : List Token → Read (E × ℕ)} → Law depths before First read
      → Law depths clash (Then First (λ a i. Turns (Step room Any) i a)) (λ l. read l >>= λ a r. turns_at test turn keep a r)
  chain_law {First} {read} first = then_law depths First (λ a i. Turns (Step room Any) i a) read (λ a r. turns_at test turn keep a r) first (λ a. turns_law false chain_turning a) near
    where
      near : (i : Bool) (a e : E × ℕ) (l r : List Token) → Turns (Step room Any) i a e l r → clash r ≡ false → before l ≡ false
      near i _ _ _ _ (Stop a l r is) clear = chain.near_end l (subst (λ x. clash x ≡ false) (sym is) clear)
      near i _ _ _ _ (Turn a m e l middle r first more) clear = chain.near_turn a m l middle first.0

-- what holds at first and is kept by turns holds at the end
pub turns_keep : {I S : Type 0} {T : S → I → S → List Token → List Token → Type 0} {i : I} (P : S → List Token → Type 0) → ((s m : S) (l r : List Token) → P s l → T s i m l r → P m r)
    → (s e : S) (l r : List Token) → P s l → Turns T i s e l r → P e r
turns_keep P step _ _ _ _ p (Stop s l r is) = subst (λ x. P s x) is p
turns_keep P step _ _ _ _ p (Turn s m e l middle r first more) = turns_keep P step m e middle r (step s m l middle p first) more

-- one turn more at the end
pub turns_last : {I S : Type 0} {T : S → I → S → List Token → List Token → Type 0} {i : I} (s m e : S) (l middle r : List Token) → Turns T i s m l middle → T m i e middle r → Turns T i s e l r
turns_last {I} {S} {T} {i} _ _ e _ _ r (Stop s l x is) last = Turn s e e l r r (subst (λ y. T s i e y r) (sym is) last) (Stop e r r refl)
turns_last {I} {S} {T} {i} _ _ e _ _ r (Turn s m f l middle x first more) last = Turn s m e l middle r first (turns_last m f e middle x r more last)
