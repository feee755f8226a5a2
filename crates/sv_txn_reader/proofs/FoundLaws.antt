-- Reading equals the grammar: what is read is in it, what is in it is read, and where it is refused.
use Rattle.std.proofs.Common.{◌≡◌, ◌∙◌, ℕ, ◌+◌, ◌-◌, ◌≤◌, inl, inr, Bool, true, false, List, [], ◌∷◌, ◌++◌, length, drop, Ok, Err, refl, sym, ap, subst, arith, append_assoc, append-nil, codes}
use Rattle.std.proofs.lemmas.List.{length-append, length-drop, drop-drop}
use Rattle.std.proofs.Math.Seq.{drop-append_seam}
use Rattle.sv_value.specs.declared.spots.Spot.{Spot}
use Rattle.sv_lex.specs.declared.tokens.Token.{Token}
use Rattle.sv_lex.specs.declared.tokens.TokenKind.TheVariants.{Name}
use Rattle.sv_app.specs.declared.refusals.Code.{Code}
use Rattle.sv_app.specs.declared.refusals.Code.TheVariants.{Syntax, Many}
use Rattle.sv_app.specs.Trees.{Transaction}
use Rattle.sv_reader.specs.declared.faults.ReadFault.{ReadFault}
use Rattle.sv_reader.specs.Reading.{Read, refuse}
use Rattle.sv_reader.specs.Places.{spot_of}
use Rattle.sv_reader.proofs.KindLaws.{kind_is, kind_same}
use Rattle.sv_txn_reader.specs.Grammar.{transactions}
use Rattle.sv_reader.specs.Reading.{IsLeft}
use Rattle.sv_txn_reader.specs.Reading.{begins_txn, txns_at}
use Rattle.sv_txn_reader.specs.Refused.{Begins, BeginsWithin, IsRefused, BeginsTxn, AreRead}
use Rattle.sv_reader.proofs.AnswerLaws.{Alike, alike_same, Same, same_read, left_read}
use Rattle.sv_txn_reader.proofs.PlacedLaws.{Opens, Passes, Stuck, Cause, Misplaced, TooMany, Reads}
use Rattle.sv_txn_reader.proofs.LimitLaws.{places}
use Rattle.sv_txn_reader.proofs.TxnLaws.{txns_law, txns_stop}

abbrev pub All : ℕ → List Transaction → List Token → List Token → Type 0
All i ts = transactions i 0 ts

-- a transaction begins where the test says so

no_txn : (tokens : List Token) → (BeginsTxn tokens → ⊥) → begins_txn tokens ≡ false
no_txn [] never = refl
no_txn (token ∷ others) never = by_test (begins_txn (token ∷ others)) refl
  where
    by_test : (b : Bool) → begins_txn (token ∷ others) ≡ b → b ≡ false
    by_test true e = absurd (never (kind_is (Name (codes "txn")) token.kind e))
    by_test false e = refl

txn_none : (tokens : List Token) → begins_txn tokens ≡ false → BeginsTxn tokens → ⊥
txn_none [] e never = never
txn_none (token ∷ others) e k = let bad : true ≡ false = sym (kind_same (Name (codes "txn"))) ∙ ap (λ x. begins_txn (record { kind = x; «from» = 0; to = 0; spot = token.spot } ∷ others)) (sym k) ∙ e in absurd cc

-- what is read

pub record FoundAt (tokens : List Token) (at : ℕ) (txns : List Transaction) (left : ℕ) : Type 0 where
  pub fits : left ≤ length tokens
  pub behind : at ≤ length tokens - left
  pub is : AreRead txns (drop at tokens) (drop (length tokens - left) tokens)
  pub all : (ts : List Transaction) (rest : List Token) → AreRead ts (drop at tokens) rest → (txns ≡ ts) × (length tokens - left ≡ length tokens - length rest)

never_late : (read : Read (List Transaction)) (ts : List Transaction) (rest : List Token) → Reads places 0 read ts rest → ((fault : ReadFault) → read ≡ Err fault → ⊥) → read ≡ Ok (ts, rest)
never_late read ts rest (inl e) sure = e
never_late read ts rest (inr over) sure = absurd (sure (record { code = Many; left = over.left }) over.is)

pub found_at : (tokens : List Token) (at : ℕ) (txns : List Transaction) (left : ℕ) → at ≤ length tokens → IsLeft (txns_at (drop at tokens)) txns left → FoundAt tokens at txns left
found_at tokens at txns left within is =
    let read = left_read (txns_at (drop at tokens)) txns left is in
    let took = txns_law.took (drop at tokens) txns read.0 read.1 in
    let rest = read.0 in
    let long : length (drop at tokens) ≡ length took.front + length rest = ap length took.whole ∙ length-append took.front rest in
    let size : length tokens ≡ at + (length took.front + length rest) = omega (arith, long, length-drop at tokens, within) in
    let place : length tokens - left ≡ at + length took.front = omega (arith, size, read.2) in
    let last : drop (length tokens - left) tokens ≡ rest = ap (λ n. drop n tokens) place ∙ sym (drop-drop (length took.front) at tokens) ∙ ap (drop (length took.front)) took.whole ∙ drop-append_seam took.front rest in record {
      fits = omega (arith, size, read.2);
      behind = omega (arith, place);
      is = record {
        is = subst (λ l. transactions 0 0 txns (drop at tokens) l) (sym last) (subst (λ l. transactions 0 0 txns l rest) (sym took.whole) (took.is 0 rest));
        ends = subst (λ l. BeginsTxn l → ⊥) (sym last) (txn_none rest (txns_stop (drop at tokens) txns rest read.1));
      };
      all = λ ts r are.
          let other = never_late (txns_at (drop at tokens)) ts r (txns_law.all 0 ts (drop at tokens) r are.is (no_txn r are.ends)) (λ fault e. let bad : ◌≡◌ {A = Read (List Transaction)} (Ok (txns, rest)) (Err fault) = sym read.1 ∙ e in absurd cc) in
          let same = same_read (sym read.1 ∙ other) in
          (same.item, ap (λ n. length tokens - n) (sym read.2 ∙ ap length same.rests));
    }

-- where tokens are refused

within_of : (front : List Token) → Opens places All front → BeginsWithin front
within_of front o = record {
  more = o.more;
  txns = o.item;
  is = subst (λ l. transactions (length o.more) 0 o.item (front ++ l) []) (append-nil o.more) (o.is (length o.more) [] (let e : length (o.more ++ []) ≡ length o.more = ap length (append-nil o.more) in omega (arith, e)));
}

begins_of : (front : List Token) → Passes places All front → Begins front
begins_of front p =
    let e : front ++ (p.more ++ []) ≡ front ++ p.more = ap (λ l. front ++ l) (append-nil p.more) in record {
      more = p.more;
      txns = p.item;
      is = subst (λ l. transactions (length (front ++ p.more)) 0 p.item l []) e (p.is (length (front ++ p.more)) [] (let n : length (front ++ (p.more ++ [])) ≡ length (front ++ p.more) = ap length e in omega (arith, n)));
    }

not_read : (ts : List Transaction) (l rest : List Token) (fault : ReadFault) (i : ℕ) → txns_at l ≡ Err fault → Reads places i (txns_at l) ts rest → (fault.code ≡ Many) × (fault.left ≤ i)
not_read ts l rest fault i e (inl ok) = let bad : ◌≡◌ {A = Read (List Transaction)} (Ok (ts, rest)) (Err fault) = sym ok ∙ e in absurd cc
not_read ts l rest fault i e (inr over) =
    let faults : ◌≡◌ {A = Read (List Transaction)} (Err (record { code = Many; left = over.left })) (Err fault) = sym over.is ∙ e in
    let same : record { code = Many; left = over.left } ≡ fault = cc in
    (λ j. (sym same j).code, subst (λ (f : ReadFault). f.left ≤ i) same over.late)

syntax_many : {A : Type 0} → Syntax ≡ Many → A
syntax_many e = absurd cc

-- no transactions go on so that the limits count from a place on
closed : (front : List Token) (token : Token) (rest : List Token) (code : Code) → ((last : List Token) → Alike (token ∷ rest) last → txns_at (front ++ last) ≡ refuse code last)
    → (i : ℕ) (more : List Token) (ts : List Transaction) → transactions i 0 ts ((front ++ token ∷ []) ++ more) [] → (code ≡ Many) × (length (token ∷ more) ≤ i)
closed front token rest code again i more ts is =
    not_read ts (front ++ token ∷ more) [] (record { code = code; left = length (token ∷ more) }) i (again (token ∷ more) refl)
    (txns_law.all i ts (front ++ token ∷ more) [] (subst (λ l. transactions i 0 ts l []) (append_assoc front (token ∷ []) more) is) refl)

pub refused : (tokens : List Token) (end : Spot) (fault : ReadFault) → txns_at tokens ≡ Err fault → IsRefused tokens end (record { spot = spot_of end (drop (length tokens - fault.left) tokens); code = fault.code })
refused tokens end fault e = by_stuck (txns_law.fails tokens fault e)
  where
    by_stuck : Stuck places All txns_at tokens fault → IsRefused tokens end (record { spot = spot_of end (drop (length tokens - fault.left) tokens); code = fault.code })
    by_stuck s = subst (λ (f : ReadFault). IsRefused tokens end (record { spot = spot_of end (drop (length tokens - f.left) tokens); code = f.code })) (sym s.place)
        (subst (λ l. IsRefused tokens end (record { spot = spot_of end l; code = s.code })) (sym rest_is) (by_cause s.rest s.code s.whole s.opens s.cause s.again))
      where
        size : length tokens - length s.rest ≡ length s.front
        size = let n : length tokens ≡ length s.front + length s.rest = ap length s.whole ∙ length-append s.front s.rest in omega (arith, n)

        rest_is : drop (length tokens - length s.rest) tokens ≡ s.rest
        rest_is = ap (λ n. drop n tokens) size ∙ ap (drop (length s.front)) s.whole ∙ drop-append_seam s.front s.rest

        by_cause : (rest : List Token) (code : Code) → tokens ≡ s.front ++ rest → Opens places All s.front → Cause places All s.front code rest
            → ((last : List Token) → Alike rest last → txns_at (s.front ++ last) ≡ refuse code last) → IsRefused tokens end (record { spot = spot_of end rest; code = code })
        by_cause _ _ whole opens (Misplaced rest) again = inl (record {
          front = s.front;
          rest = rest;
          whole = whole;
          place = refl;
          begins = within_of s.front opens;
          unfinished = λ ts is ends. syntax_many (not_read ts tokens rest (record { code = Syntax; left = length rest }) (length tokens) (subst (λ l. txns_at l ≡ refuse Syntax rest) (sym whole) (again rest (alike_same rest))) (txns_law.all (length tokens) ts tokens rest is (no_txn rest ends))).0;
          closed = λ token others same b. syntax_many (closed s.front token others Syntax (λ last alike. again last (subst (λ l. Alike l last) (sym same) alike)) (length ((s.front ++ token ∷ []) ++ b.more)) b.more b.txns b.is).0;
        })
        by_cause _ _ whole opens (TooMany token others passes) again = inr (record {
          front = s.front;
          token = token;
          rest = others;
          whole = whole;
          place = refl;
          within = within_of s.front opens;
          begins = begins_of (s.front ++ token ∷ []) passes;
          past = λ b. let late = (closed s.front token others Many again (length b.more) b.more b.txns b.is).1 in omega (arith, late);
        })

-- what is refused aren't transactions that keep the limits
pub refused_none : (tokens : List Token) (ts : List Transaction) (rest : List Token) (fault : ReadFault) → txns_at tokens ≡ Err fault → AreRead ts tokens rest → ⊥
refused_none tokens ts rest fault e are = by_late (not_read ts tokens rest fault 0 e (txns_law.all 0 ts tokens rest are.is (no_txn rest are.ends)))
  where
    by_late : (fault.code ≡ Many) × (fault.left ≤ 0) → ⊥
    by_late late = by_stuck (txns_law.fails tokens fault e)
      where
        by_cause : (front rest : List Token) (code : Code) → code ≡ Many → length rest ≤ 0 → Cause places All front code rest → ⊥
        by_cause front _ _ c few (Misplaced rest) = syntax_many c
        by_cause front _ _ c few (TooMany token others passes) = omega (arith, few)

        by_stuck : Stuck places All txns_at tokens fault → ⊥
        by_stuck s =
            let code : s.code ≡ Many = sym (ap (λ (f : ReadFault). f.code) s.place) ∙ late.0 in
            let left : fault.left ≡ length s.rest = ap (λ (f : ReadFault). f.left) s.place in
            by_cause s.front s.rest s.code code (let few = late.1 in omega (arith, left, few)) s.cause

-- transactions that keep the limits are read
pub txns_are_read : (tokens : List Token) (ts : List Transaction) (rest : List Token) → AreRead ts tokens rest → txns_at tokens ≡ Ok (ts, rest)
txns_are_read tokens ts rest are = never_late (txns_at tokens) ts rest (txns_law.all 0 ts tokens rest are.is (no_txn rest are.ends)) (λ fault e. refused_none tokens ts rest fault e are)

-- transactions are read in one way
pub read_once : (tokens : List Token) (ts us : List Transaction) (rest last : List Token) → AreRead ts tokens rest → AreRead us tokens last → Same ts us rest last
read_once tokens ts us rest last first second = same_read (sym (txns_are_read tokens ts rest first) ∙ txns_are_read tokens us last second)
