-- Single tokens, parts one behind another, limits, and turns.
use Rattle.std.proofs.Common.{◌≡◌, ◌∙◌, ℕ, zero, suc, ◌<◌, ◌⊎◌, inl, inr, Bool, true, false, if◌then◌else◌, List, [], ◌∷◌, ◌++◌, length, Option, Some, Ok, Err, refl, sym, ap, subst, arith, append_assoc, cond, codes}
use Rattle.std.proofs.lemmas.List.{length-append}
use Rattle.sv_value.specs.declared.spots.Spot.{Spot}
use Rattle.sv_lex.specs.declared.tokens.Token.{Token}
use Rattle.sv_lex.specs.declared.tokens.TokenKind.{TokenKind}
use Rattle.sv_lex.specs.declared.tokens.TokenKind.TheVariants.{Name}
use Rattle.sv_app.specs.declared.apps.Ident.{Ident}
use Rattle.sv_app.specs.declared.refusals.Code.TheVariants.{Syntax}
use Rattle.sv_app.specs.Words.{is_reserved}
use Rattle.sv_reader.specs.declared.faults.ReadFault.{ReadFault}
use Rattle.sv_reader.specs.Reading.{Read, ◌>>=◌, refuse, next, is_next, is_kind, is_some, token_at, kind_at, name_of, name_at, is_name, turns_at, keep}
use Rattle.sv_reader.proofs.KindLaws.{kind_same, token_of}
use Rattle.sv_reader.proofs.MadeLaws as lists_made
use Rattle.sv_reader.proofs.MatterLaws.{Matter, bare}
use Rattle.sv_reader.proofs.ReadLaws as lists
use Rattle.sv_reader.specs.Grammar as of_lists
use Rattle.sv_reader.proofs.PartLaws.{is_named}
use Rattle.sv_reader.proofs.PartLaws as parts
use Rattle.sv_reader.proofs.FuelLaws.{turn_on, end_read}
use Rattle.sv_reader.specs.Grammar.{IsName}
use Rattle.sv_txn_reader.specs.Grammar.{◌·◌, One, nothing, kind, name}
use Rattle.sv_txn_reader.specs.Grammar as grammar
use Rattle.sv_reader.proofs.AnswerLaws.{Alike, same_read, bound, bound_err, Bound, anything}
use Rattle.sv_txn_reader.proofs.PlacedLaws.{Mode, Opens, Took, Stuck, Misplaced, Reads, Law, reads_same, map_law, Then, then_law, took_then, stuck_first, stuck_second, reads_then, took_map, stuck_map, opens_map}

-- one token that means something
abbrev pub Means : (M : Mode) {A : Type 0} → (Token → Option A) → M.Index → A → List Token → List Token → Type 0
Means M meaning i item = One (λ token. meaning token ≡ Some item)

-- what a language has of the tokens before the rest
pub record Front {A : Type 0} (L : A → List Token → Type 0) (item : A) (tokens rest : List Token) : Type 0 where
  pub front : List Token
  pub whole : tokens ≡ front ++ rest
  pub is : L item front

-- a reading that passes no limit has its law, whichever limits count
pub plain_law : {matter : Matter} (M : Mode) {A : Type 0} {clash : List Token → Bool} {L : A → List Token → Type 0} {read : List Token → Read A} → lists.Plain matter clash L read → Law M clash (λ _ item. Front L item) read
plain_law {matter} M {A} {clash} {L} {read} law = record {
  some = opens [] law.some;
  took = λ tokens item rest e. took (law.took tokens item rest e);
  all = λ i item tokens rest is ends. inl (ap read is.whole ∙ law.reads item is.front rest is.is ends);
  fails = λ tokens fault e. fails (law.fails tokens fault e);
}
  where
    opens : (front : List Token) → lists.Start L front → Opens M (λ _ item. Front L item) front
    opens front start = record { more = start.more; item = start.item; is = λ i m loose. record { front = front ++ start.more; whole = sym (append_assoc front start.more m); is = start.is } }

    took : {tokens rest : List Token} {item : A} → lists.Took L read tokens item rest → Took M (λ _ item. Front L item) read tokens item rest
    took t = record { front = t.front; whole = t.whole; is = λ i m. record { front = t.front; whole = refl; is = t.is }; again = t.again }

    fails : {tokens : List Token} {fault : ReadFault} → lists.Stuck matter L L read tokens fault ⊎ ⊥ → Stuck M (λ _ item. Front L item) read tokens fault
    fails (inl stuck) = record {
      front = stuck.front;
      rest = stuck.rest;
      code = Syntax;
      whole = stuck.whole;
      place = stuck.place;
      opens = opens stuck.front stuck.begins;
      cause = Misplaced stuck.rest;
      again = stuck.again;
    }
    fails (inr never) = absurd never

-- one token
pub one_law : {matter : Matter} (M : Mode) {A : Type 0} {clash : List Token → Bool} (Holds : A → Token → Type 0) {read : List Token → Read A} → lists.Plain matter clash (λ item. of_lists.One (Holds item)) read → Law M clash (λ _ item. One (Holds item)) read
one_law M Holds law = map_law (plain_law M law)
    (λ i item l r f. record { token = f.is.token; next = f.whole ∙ ap (λ x. x ++ r) f.is.only; holds = f.is.holds })
    (λ i item l r is. record { front = is.token ∷ []; whole = is.next; is = record { token = is.token; only = refl; holds = is.holds } })

pub leaf_law : (M : Mode) {A : Type 0} (clash : List Token → Bool) (meaning : Token → Option A) (sample : Token) (sampled : A) → meaning sample ≡ Some sampled → Law M clash (Means M meaning) (token_at meaning)
leaf_law M {A} clash meaning sample sampled s = one_law M (λ (item : A) token. meaning token ≡ Some item) (lists.leaf bare clash meaning sample sampled s)

-- nothing, which is always the same
pub record Is {I A : Type 0} (same : A) (i : I) (item : A) (tokens rest : List Token) : Type 0 where
  pub empty : tokens ≡ rest
  pub is : item ≡ same

pub ret_law : (M : Mode) {A : Type 0} (clash : List Token → Bool) (same : A) → Law M clash (Is {I = M.Index} same) (λ tokens. Ok (same, tokens))
ret_law M {A} clash same = map_law (plain_law M (lists.ret bare clash same))
    (λ i item l r f. record { empty = f.whole ∙ ap (λ x. x ++ r) f.is.empty; is = f.is.is }) (λ i item l r is. record { front = []; whole = is.empty; is = record { empty = refl; is = is.is } })

-- kinds and names

pub kind_law : (M : Mode) (clash : List Token → Bool) (k : TokenKind) → Law M clash (λ _ spot. grammar.kind_at spot k) (kind_at k)
kind_law M clash k = one_law M (λ spot token. (token.kind ≡ k) × (token.spot ≡ spot)) (lists_made.kind_law bare clash k)

pub a_name : Ident
a_name = record { name = codes "a"; spot = record { line = 1; col = 1 }; num = 0 }

abbrev pub name_token : Token
name_token = token_of (Name (codes "a"))

pub is_a_name : name_of name_token ≡ Some a_name
unfolding is_reserved a_name
is_a_name = refl

pub name_law : (M : Mode) (clash : List Token → Bool) → Law M clash (λ _ x. name x) name_at
name_law M clash = one_law M IsName (parts.name_law bare clash)

-- what begins with a token of a kind, or with a name
pub kind_next : (k : TokenKind) (tokens rest : List Token) → kind k tokens rest → is_next k tokens ≡ true
kind_next k tokens rest b = ap (λ l. is_next k l) b.next ∙ ap (λ found. is_kind k found) b.holds ∙ kind_same k

pub kind_test : (test : Token → Bool) (k : TokenKind) (b : Bool) (tokens rest : List Token) → kind k tokens rest → ((token : Token) → token.kind ≡ k → test token ≡ b) → next test tokens ≡ b
kind_test test k b tokens rest is same = ap (λ l. next test l) is.next ∙ same is.token is.holds

pub name_next : (x : Ident) (tokens rest : List Token) → name x tokens rest → is_name tokens ≡ true
name_next x tokens rest b = ap (λ l. is_name l) b.next ∙ ap is_some (is_named x b.token b.holds)

pub kind_some : (k : TokenKind) (spot : Spot) (l r : List Token) → grammar.kind_at spot k l r → kind k l r
kind_some k spot l r p = record { token = p.token; next = p.next; holds = p.holds.0 }

pub kind_placed : (k : TokenKind) (l r : List Token) (w : kind k l r) → grammar.kind_at w.token.spot k l r
kind_placed k l r w = record { token = w.token; next = w.next; holds = (w.holds, refl) }

-- values that are made of what their parts read

pub record Made {I T A : Type 0} (f : T → A) (R : I → T → List Token → List Token → Type 0) (i : I) (item : A) (tokens rest : List Token) : Type 0 where
  pub «from» : T
  pub is : R i «from» tokens rest
  pub made : item ≡ f «from»

-- the last part, of which the value is made
pub take_last : {M : Mode} {A B : Type 0} {clash : List Token → Bool} {P : M.Index → A → List Token → List Token → Type 0} {p : List Token → Read A} (f : A → B)
    → Law M clash P p → Law M clash (Made f P) (λ tokens. p tokens >>= λ a r. Ok (f a, r))
take_last {M} {A} {B} {clash} {P} {p} f law =
    map_law (then_law M P (λ a. Is (f a)) p (λ a r. Ok (f a, r)) law (λ a. ret_law M clash (f a)) (λ i a b tokens rest is ends. subst (λ l. clash l ≡ false) (sym is.empty) ends)) into out
  where
    into : (i : M.Index) (b : B) (l r : List Token) → Then P (λ a. Is (f a)) i b l r → Made f P i b l r
    into i b l r t = record { «from» = t.head; is = subst (λ x. P i t.head l x) t.second.empty t.first; made = t.second.is }

    out : (i : M.Index) (b : B) (l r : List Token) → Made f P i b l r → Then P (λ a. Is (f a)) i b l r
    out i b l r m = record { head = m.«from»; middle = r; first = m.is; second = record { empty = refl; is = m.made } }

-- a part, and behind it others
pub take : {M : Mode} {A T B : Type 0} {before clash : List Token → Bool} {P : M.Index → A → List Token → List Token → Type 0} {R : A → M.Index → T → List Token → List Token → Type 0}
    {p : List Token → Read A} {q : A → List Token → Read B} (f : A → T → B)
    → Law M before P p → ((a : A) → Law M clash (Made (f a) (R a)) (q a))
    → ((i : M.Index) (a : A) (t : T) (tokens rest : List Token) → R a i t tokens rest → clash rest ≡ false → before tokens ≡ false)
    → Law M clash (Made (λ (x : A × T). f x.0 x.1) (λ i x. P i x.0 · R x.0 i x.1)) (λ tokens. p tokens >>= q)
take {M} {A} {T} {B} {before} {clash} {P} {R} {p} {q} f first second clear =
    map_law (then_law M P (λ a. Made (f a) (R a)) p q first second (λ i a b tokens rest is ends. clear i a is.«from» tokens rest is.is ends)) into out
  where
    into : (i : M.Index) (b : B) (l r : List Token) → Then P (λ a. Made (f a) (R a)) i b l r → Made (λ (x : A × T). f x.0 x.1) (λ i x. P i x.0 · R x.0 i x.1) i b l r
    into i b l r t = record { «from» = (t.head, t.second.«from»); is = record { middle = t.middle; first = t.first; second = t.second.is }; made = t.second.made }

    out : (i : M.Index) (b : B) (l r : List Token) → Made (λ (x : A × T). f x.0 x.1) (λ i x. P i x.0 · R x.0 i x.1) i b l r → Then P (λ a. Made (f a) (R a)) i b l r
    out i b l r m = record { head = m.«from».0; middle = m.is.middle; first = m.is.first; second = record { «from» = m.«from».1; is = m.is.second; made = m.made } }

-- a token of which only the kind counts, and behind it others
pub skip : {M : Mode} {T B : Type 0} {clash : List Token → Bool} {R : M.Index → T → List Token → List Token → Type 0} {q : List Token → Read B} (k : TokenKind) (f : T → B)
    → Law M clash (Made f R) q → Law M clash (Made f (λ i t. kind k · R i t)) (λ tokens. kind_at k tokens >>= λ _ r. q r)
skip {M} {T} {B} {clash} {R} {q} k f law =
    map_law (then_law M (λ _ spot. grammar.kind_at spot k) (λ _. Made f R) (kind_at k) (λ _ r. q r) (kind_law M anything k) (λ _. law) (λ i a b tokens rest is ends. refl)) into out
  where
    into : (i : M.Index) (b : B) (l r : List Token) → Then (λ _ spot. grammar.kind_at spot k) (λ _. Made f R) i b l r → Made f (λ i t. kind k · R i t) i b l r
    into i b l r t = record { «from» = t.second.«from»; is = record { middle = t.middle; first = kind_some k t.head l t.middle t.first; second = t.second.is }; made = t.second.made }

    out : (i : M.Index) (b : B) (l r : List Token) → Made f (λ i t. kind k · R i t) i b l r → Then (λ _ spot. grammar.kind_at spot k) (λ _. Made f R) i b l r
    out i b l r m = record { head = m.is.first.token.spot; middle = m.is.middle; first = kind_placed k l m.is.middle m.is.first; second = record { «from» = m.«from»; is = m.is.second; made = m.made } }

-- the last token, behind which the value is complete
pub skip_last : (M : Mode) {B : Type 0} (clash : List Token → Bool) (k : TokenKind) (b : B) → Law M clash (Made (λ (_ : Unit {0}). b) (λ _ _. kind k)) (λ tokens. kind_at k tokens >>= λ _ r. Ok (b, r))
skip_last M {B} clash k b = map_law (take_last (λ _. b) (kind_law M clash k)) into out
  where
    into : (i : M.Index) (x : B) (l r : List Token) → Made (λ _. b) (λ _ spot. grammar.kind_at spot k) i x l r → Made (λ (_ : Unit {0}). b) (λ _ _. kind k) i x l r
    into i x l r m = record { «from» = tt; is = kind_some k m.«from» l r m.is; made = m.made }

    out : (i : M.Index) (x : B) (l r : List Token) → Made (λ (_ : Unit {0}). b) (λ _ _. kind k) i x l r → Made (λ _. b) (λ _ spot. grammar.kind_at spot k) i x l r
    out i x l r m = record { «from» = m.is.token.spot; is = kind_placed k l r m.is; made = m.made }

-- nothing more, where the value is complete
pub ended : (M : Mode) {B : Type 0} (clash : List Token → Bool) (b : B) → Law M clash (Made (λ (_ : Unit {0}). b) (λ _ _. nothing)) (λ tokens. Ok (b, tokens))
ended M {B} clash b = map_law (ret_law M clash b) (λ i x l r is. record { «from» = tt; is = is.empty; made = is.is }) (λ i x l r m. record { empty = m.is; is = m.made })

-- two languages, told apart by the first token
pub data Either {I A : Type 0} (P Q : I → A → List Token → List Token → Type 0) (i : I) (item : A) (tokens rest : List Token) : Type 0 where
  Left : P i item tokens rest → Either P Q i item tokens rest
  Right : Q i item tokens rest → Either P Q i item tokens rest

pub either_law : {M : Mode} {A : Type 0} {clash : List Token → Bool} {P Q : M.Index → A → List Token → List Token → Type 0} {p q : List Token → Read A} (test : List Token → Bool)
    → ((a b : List Token) → Alike a b → test a ≡ test b) → Law M clash P p → Law M clash Q q
    → ((i : M.Index) (a : A) (l r : List Token) → P i a l r → test l ≡ true)
    → ((i : M.Index) (a : A) (l r : List Token) → Q i a l r → clash r ≡ false → test l ≡ false)
    → Law M clash (Either P Q) (λ tokens. if test tokens then p tokens else q tokens)
either_law {M} {A} {clash} {P} {Q} {p} {q} test same left right first other = record {
  some = opens_map (λ a. a) (λ i a l r is. Left is) [] left.some;
  took = λ tokens item rest e. by_took tokens item rest (test tokens) refl e;
  all = all;
  fails = λ tokens fault e. by_fails tokens fault (test tokens) refl e;
}
  where
    yes_read : (l : List Token) → test l ≡ true → cond (test l) (p l) (q l) ≡ p l
    yes_read l t = ap (λ b. cond b (p l) (q l)) t

    no_read : (l : List Token) → test l ≡ false → cond (test l) (p l) (q l) ≡ q l
    no_read l t = ap (λ b. cond b (p l) (q l)) t

    by_took : (tokens : List Token) (item : A) (rest : List Token) (b : Bool) → test tokens ≡ b → cond b (p tokens) (q tokens) ≡ Ok (item, rest) → Took M (Either P Q) (λ l. if test l then p l else q l) tokens item rest
    by_took tokens item rest true t e = took_map (λ a. a) (λ i a l r is. Left is) (λ last m alike e. yes_read last (sym (same tokens last alike) ∙ t) ∙ e) (left.took tokens item rest e)
    by_took tokens item rest false t e = took_map (λ a. a) (λ i a l r is. Right is) (λ last m alike e. no_read last (sym (same tokens last alike) ∙ t) ∙ e) (right.took tokens item rest e)

    all : (i : M.Index) (a : A) (l r : List Token) → Either P Q i a l r → clash r ≡ false → Reads M i (if test l then p l else q l) a r
    all i a l r (Left is) ends = reads_same (yes_read l (first i a l r is)) (left.all i a l r is ends)
    all i a l r (Right is) ends = reads_same (no_read l (other i a l r is ends)) (right.all i a l r is ends)

    by_fails : (tokens : List Token) (fault : ReadFault) (b : Bool) → test tokens ≡ b → cond b (p tokens) (q tokens) ≡ Err fault → Stuck M (Either P Q) (λ l. if test l then p l else q l) tokens fault
    by_fails tokens fault true t e = stuck_map (λ a. a) (λ i a l r is. Left is) (λ last fault alike e. yes_read last (sym (same tokens last alike) ∙ t) ∙ e) (left.fails tokens fault e)
    by_fails tokens fault false t e = stuck_map (λ a. a) (λ i a l r is. Right is) (λ last fault alike e. no_read last (sym (same tokens last alike) ∙ t) ∙ e) (right.fails tokens fault e)

-- turns

pub data Turns {I S : Type 0} (T : S → I → S → List Token → List Token → Type 0) (i : I) : S → S → List Token → List Token → Type 0 where
  Stop : (s : S) (tokens rest : List Token) → tokens ≡ rest → Turns T i s s tokens rest
  Turn : (s m e : S) (tokens middle rest : List Token) → T s i m tokens middle → Turns T i m e middle rest → Turns T i s e tokens rest

-- a reading of something that the test announces
abbrev pub guarded : {A : Type 0} → (List Token → Bool) → (List Token → Read A) → List Token → Read A
guarded test read tokens = if test tokens then read tokens else refuse Syntax tokens

-- nothing, or a turn
abbrev pub Perhaps : {I S : Type 0} → (S → I → S → List Token → List Token → Type 0) → S → I → S → List Token → List Token → Type 0
Perhaps T s = Either (Is s) (T s)

module _ {S : Type 0} (test : List Token → Bool) (turn : S → List Token → Read S)
    (shorter : (s : S) (tokens : List Token) (m : S) (rest : List Token) → test tokens ≡ true → turn s tokens ≡ Ok (m, rest) → length rest < length tokens) where
  stopped_from : (n : ℕ) (s : S) (tokens : List Token) (e : S) (rest : List Token) → length tokens < n → turns_at test turn keep s tokens ≡ Ok (e, rest) → test rest ≡ false
  stopped_from zero s tokens e rest lt is = absurd (omega (arith, lt))
  stopped_from (suc n) s tokens e rest lt is = by_test (λ m r fits is. stopped_from n m r e rest fits is) (test tokens) refl
    where
      by_bound : ((m : S) (r : List Token) → length r < n → turns_at test turn keep m r ≡ Ok (e, rest) → test rest ≡ false) → test tokens ≡ true
          → Bound (turn s tokens) (λ m r. turns_at test turn keep m r) (Ok (e, rest)) → test rest ≡ false
      by_bound more t b = more b.item b.rest (let less = shorter s tokens b.item b.rest t b.is in omega (arith, less, lt)) b.left

      by_test : ((m : S) (r : List Token) → length r < n → turns_at test turn keep m r ≡ Ok (e, rest) → test rest ≡ false) → (b : Bool) → test tokens ≡ b → test rest ≡ false
      by_test more true t = by_bound more t (bound (turn s tokens) (λ m r. turns_at test turn keep m r) (e, rest) (sym (turn_on test turn keep shorter s tokens t) ∙ is))
      by_test more false t = let same = same_read (sym (end_read test turn keep shorter s tokens t) ∙ is) in subst (λ l. test l ≡ false) same.rests t

  -- turns end where the test isn't passed
  pub stopped : (s : S) (tokens : List Token) (e : S) (rest : List Token) → turns_at test turn keep s tokens ≡ Ok (e, rest) → test rest ≡ false
  stopped s tokens e rest is = stopped_from (suc (length tokens)) s tokens e rest (omega arith) is

-- what is asked of turns
pub record Turning (M : Mode) {S : Type 0} (before clash test : List Token → Bool) (turn : S → List Token → Read S) (T : S → M.Index → S → List Token → List Token → Type 0) : Type 0 where
  pub alike : (a b : List Token) → Alike a b → test a ≡ test b
  pub none : test [] ≡ false
  pub took : (s : S) (tokens : List Token) (m : S) (rest : List Token) → test tokens ≡ true → turn s tokens ≡ Ok (m, rest) → Took M (T s) (guarded test (turn s)) tokens m rest
  pub all : (s : S) (i : M.Index) (m : S) (l r : List Token) → T s i m l r → before r ≡ false → Reads M i (turn s l) m r
  pub fails : (s : S) (tokens : List Token) (fault : ReadFault) → test tokens ≡ true → turn s tokens ≡ Err fault → Stuck M (Perhaps T s) (guarded test (turn s)) tokens fault
  pub first : (s : S) (i : M.Index) (m : S) (l r : List Token) → T s i m l r → test l ≡ true
  pub near_turn : (s : S) (i : M.Index) (m : S) (l r : List Token) → T s i m l r → before l ≡ false
  pub near_end : (l : List Token) → clash l ≡ false → before l ≡ false
  pub stop : (l : List Token) → clash l ≡ false → test l ≡ false

-- turns each of which has a law
pub lawful_turning : {M : Mode} {S : Type 0} {before clash test : List Token → Bool} {turn : S → List Token → Read S} {T : S → M.Index → S → List Token → List Token → Type 0}
    → ((a b : List Token) → Alike a b → test a ≡ test b) → test [] ≡ false → ((s : S) → Law M before (T s) (turn s)) → ((s : S) (i : M.Index) (m : S) (l r : List Token) → T s i m l r → test l ≡ true)
    → ((s : S) (i : M.Index) (m : S) (l r : List Token) → T s i m l r → before l ≡ false) → ((l : List Token) → clash l ≡ false → before l ≡ false) → ((l : List Token) → clash l ≡ false → test l ≡ false)
    → Turning M before clash test turn T
lawful_turning {M} {S} {before} {clash} {test} {turn} {T} alike none law first near_turn near_end stop = record {
  alike = alike;
  none = none;
  took = λ s tokens m rest t e. took_map (λ x. x) (λ i a l r is. is) (λ last x near e. guard s last (sym (alike tokens last near) ∙ t) ∙ e) ((law s).took tokens m rest e);
  all = λ s i m l r is clear. (law s).all i m l r is clear;
  fails = λ s tokens fault t e. stuck_map (λ x. x) (λ i a l r is. Right is) (λ last x near e. guard s last (sym (alike tokens last near) ∙ t) ∙ e) ((law s).fails tokens fault e);
  first = first;
  near_turn = near_turn;
  near_end = near_end;
  stop = stop;
}
  where
    guard : (s : S) (tokens : List Token) → test tokens ≡ true → guarded test (turn s) tokens ≡ turn s tokens
    guard s tokens t = ap (λ b. cond b (turn s tokens) (refuse Syntax tokens)) t

module _ {M : Mode} {S : Type 0} {before clash test : List Token → Bool} {turn : S → List Token → Read S} {T : S → M.Index → S → List Token → List Token → Type 0}
    (index : M.Index) (turning : Turning M before clash test turn T) where
  guard_read : (s : S) (tokens : List Token) → test tokens ≡ true → guarded test (turn s) tokens ≡ turn s tokens
  guard_read s tokens t = ap (λ b. cond b (turn s tokens) (refuse Syntax tokens)) t

  turn_took : (s : S) (tokens : List Token) (m : S) (rest : List Token) → test tokens ≡ true → turn s tokens ≡ Ok (m, rest) → Took M (T s) (guarded test (turn s)) tokens m rest
  turn_took s tokens m rest t e = turning.took s tokens m rest t e

  pub shorter : (s : S) (tokens : List Token) (m : S) (rest : List Token) → test tokens ≡ true → turn s tokens ≡ Ok (m, rest) → length rest < length tokens
  shorter s tokens m rest t e = by_front (turn_took s tokens m rest t e)
    where
      some : (front : List Token) → ((i : M.Index) (l : List Token) → T s i m (front ++ l) l) → length rest < length (front ++ rest)
      some [] is = let bad : true ≡ false = sym (turning.first s index m [] [] (is index [])) ∙ turning.none in absurd cc
      some (x ∷ front) is = omega (arith, length-append front rest)

      by_front : Took M (T s) (guarded test (turn s)) tokens m rest → length rest < length tokens
      by_front took = subst (λ l. length rest < length l) (sym took.whole) (some took.front took.is)

  abbrev all_turns : S → List Token → Read S
  all_turns s tokens = turns_at test turn keep s tokens

  abbrev Rest : S → M.Index → S → List Token → List Token → Type 0
  Rest s i = Turns T i s

  into : (s : S) (i : M.Index) (e : S) (l r : List Token) → Then (T s) Rest i e l r → Rest s i e l r
  into s i e l r t = Turn s t.head e l t.middle r t.first t.second

  perhaps_into : (s : S) (i : M.Index) (e : S) (l r : List Token) → Then (Perhaps T s) Rest i e l r → Rest s i e l r
  perhaps_into s i e l r t = by_first t.head t.middle t.first t.second
    where
      by_first : (m : S) (middle : List Token) → Perhaps T s i m l middle → Turns T i m e middle r → Turns T i s e l r
      by_first m middle (Left is) more = subst (λ x. Turns T i x e l r) is.is (subst (λ x. Turns T i m e x r) (sym is.empty) more)
      by_first m middle (Right is) more = Turn s m e l middle r is more

  some_rest : (s : S) → Opens M (Rest s) []
  some_rest s = record { more = []; item = s; is = λ i m loose. Stop s m m refl }

  again_ok : (s : S) (tokens : List Token) → test tokens ≡ true → (last : List Token) (e : S) (m : List Token) → Alike tokens last → (guarded test (turn s) last >>= λ m r. all_turns m r) ≡ Ok (e, m) → all_turns s last ≡ Ok (e, m)
  again_ok s tokens t last e m alike is =
      let on : test last ≡ true = sym (turning.alike tokens last alike) ∙ t in
      turn_on test turn keep shorter s last on ∙ ap (λ (r : Read S). r >>= λ m r. all_turns m r) (sym (guard_read s last on)) ∙ is

  again_err : (s : S) (tokens : List Token) → test tokens ≡ true → (last : List Token) (fault : ReadFault) → Alike tokens last → (guarded test (turn s) last >>= λ m r. all_turns m r) ≡ Err fault → all_turns s last ≡ Err fault
  again_err s tokens t last fault alike is =
      let on : test last ≡ true = sym (turning.alike tokens last alike) ∙ t in
      turn_on test turn keep shorter s last on ∙ ap (λ (r : Read S). r >>= λ m r. all_turns m r) (sym (guard_read s last on)) ∙ is

  took_end : (s : S) (tokens : List Token) (e : S) (rest : List Token) → test tokens ≡ false → ◌≡◌ {A = Read S} (Ok (s, tokens)) (Ok (e, rest)) → Took M (Rest s) (all_turns s) tokens e rest
  took_end s tokens e rest t is = let same = same_read is in record {
    front = [];
    whole = same.rests;
    is = λ i m. subst (λ x. Rest s i x m m) same.item (Stop s m m refl);
    again = λ last alike.
        end_read test turn keep shorter s last (sym (turning.alike tokens last (subst (λ l. Alike l last) (sym same.rests) alike)) ∙ t) ∙ ap (λ (x : S). Ok (x, last)) same.item;
  }

  took_from : (n : ℕ) (s : S) (tokens : List Token) (e : S) (rest : List Token) → length tokens < n → all_turns s tokens ≡ Ok (e, rest) → Took M (Rest s) (all_turns s) tokens e rest
  took_from zero s tokens e rest lt is = absurd (omega (arith, lt))
  took_from (suc n) s tokens e rest lt is = by_test (λ m r fits is. took_from n m r e rest fits is) (test tokens) refl
    where
      by_bound : ((m : S) (r : List Token) → length r < n → all_turns m r ≡ Ok (e, rest) → Took M (Rest m) (all_turns m) r e rest) → test tokens ≡ true
          → Bound (turn s tokens) (λ m r. all_turns m r) (Ok (e, rest)) → Took M (Rest s) (all_turns s) tokens e rest
      by_bound more t b = took_map (λ x. x) (into s) (λ last m alike is. again_ok s tokens t last e m alike is)
          (took_then M (T s) Rest (guarded test (turn s)) (λ m r. all_turns m r) (turn_took s tokens b.item b.rest t b.is)
          (more b.item b.rest (let less = shorter s tokens b.item b.rest t b.is in omega (arith, less, lt)) b.left))

      by_test : ((m : S) (r : List Token) → length r < n → all_turns m r ≡ Ok (e, rest) → Took M (Rest m) (all_turns m) r e rest) → (b : Bool) → test tokens ≡ b → Took M (Rest s) (all_turns s) tokens e rest
      by_test more true t = by_bound more t (bound (turn s tokens) (λ m r. all_turns m r) (e, rest) (sym (turn_on test turn keep shorter s tokens t) ∙ is))
      by_test more false t = took_end s tokens e rest t (sym (end_read test turn keep shorter s tokens t) ∙ is)

  fails_from : (n : ℕ) (s : S) (tokens : List Token) (fault : ReadFault) → length tokens < n → all_turns s tokens ≡ Err fault → Stuck M (Rest s) (all_turns s) tokens fault
  fails_from zero s tokens fault lt is = absurd (omega (arith, lt))
  fails_from (suc n) s tokens fault lt is = by_test (λ m r fits is. fails_from n m r fault fits is) (test tokens) refl
    where
      by_bound : ((m : S) (r : List Token) → length r < n → all_turns m r ≡ Err fault → Stuck M (Rest m) (all_turns m) r fault) → test tokens ≡ true
          → (turn s tokens ≡ Err fault) ⊎ Bound (turn s tokens) (λ m r. all_turns m r) (Err fault) → Stuck M (Rest s) (all_turns s) tokens fault
      by_bound more t (inl e) = stuck_map (λ x. x) (perhaps_into s) (again_err s tokens t)
          (stuck_first M (Perhaps T s) Rest (guarded test (turn s)) (λ m r. all_turns m r) some_rest (turning.fails s tokens fault t e))
      by_bound more t (inr b) = stuck_map (λ x. x) (into s) (again_err s tokens t)
          (stuck_second M (T s) Rest (guarded test (turn s)) (λ m r. all_turns m r) (turn_took s tokens b.item b.rest t b.is)
          (more b.item b.rest (let less = shorter s tokens b.item b.rest t b.is in omega (arith, less, lt)) b.left))

      by_test : ((m : S) (r : List Token) → length r < n → all_turns m r ≡ Err fault → Stuck M (Rest m) (all_turns m) r fault) → (b : Bool) → test tokens ≡ b → Stuck M (Rest s) (all_turns s) tokens fault
      by_test more true t = by_bound more t (bound_err (turn s tokens) (λ m r. all_turns m r) fault (sym (turn_on test turn keep shorter s tokens t) ∙ is))
      by_test more false t = let bad : ◌≡◌ {A = Read S} (Ok (s, tokens)) (Err fault) = sym (end_read test turn keep shorter s tokens t) ∙ is in absurd cc

  near : (i : M.Index) (s e : S) (l r : List Token) → Turns T i s e l r → clash r ≡ false → before l ≡ false
  near i _ _ _ _ (Stop s l r is) clear = turning.near_end l (subst (λ x. clash x ≡ false) (sym is) clear)
  near i _ _ _ _ (Turn s m e l middle r first more) clear = turning.near_turn s i m l middle first

  all_from : (i : M.Index) (s e : S) (l r : List Token) → Turns T i s e l r → clash r ≡ false → Reads M i (all_turns s l) e r
  all_from i _ _ _ _ (Stop s l r is) clear =
      inl (end_read test turn keep shorter s l (turning.stop l (subst (λ x. clash x ≡ false) (sym is) clear)) ∙ ap (λ (x : List Token). Ok (s, x)) is)
  all_from i _ _ _ _ (Turn s m e l middle r first more) clear =
      let t : test l ≡ true = turning.first s i m l middle first in
      reads_same (turn_on test turn keep shorter s l t ∙ ap (λ (x : Read S). x >>= λ m r. all_turns m r) (sym (guard_read s l t)))
      (reads_then M (T s) Rest (guarded test (turn s)) (λ m r. all_turns m r) (reads_same (guard_read s l t) (turning.all s i m l middle first (near i m e middle r more clear))) (all_from i m e middle r more clear))

  pub turns_law : (s : S) → Law M clash (λ i. Turns T i s) (turns_at test turn keep s)
  turns_law s = record {
    some = some_rest s;
    took = λ tokens e rest is. took_from (suc (length tokens)) s tokens e rest (omega arith) is;
    all = λ i e l r is clear. all_from i s e l r is clear;
    fails = λ tokens fault is. fails_from (suc (length tokens)) s tokens fault (omega arith) is;
  }
