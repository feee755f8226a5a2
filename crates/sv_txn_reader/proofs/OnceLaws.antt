-- Tokens get one refusal.
use Rattle.std.proofs.Common.{◌≡◌, ◌∙◌, ℕ, ◌+◌, ◌≤◌, ◌⊎◌, inl, inr, List, [], ◌∷◌, ◌++◌, length, Ok, Err, refl, sym, ap, subst, arith, append_assoc, append-nil}
use Rattle.std.proofs.lemmas.List.{length-append}
use Rattle.sv_value.specs.declared.spots.Spot.{Spot}
use Rattle.sv_lex.specs.declared.tokens.Token.{Token}
use Rattle.sv_app.specs.declared.refusals.Code.TheVariants.{Syntax, Many}
use Rattle.sv_app.specs.declared.refusals.Refusal.{Refusal}
use Rattle.sv_app.specs.Trees.{Transaction}
use Rattle.sv_reader.specs.declared.faults.ReadFault.{ReadFault}
use Rattle.sv_reader.specs.Places.{spot_of}
use Rattle.sv_reader.proofs.CutLaws.{Longer, longer_front, Ahead, compared}
use Rattle.sv_txn_reader.specs.Grammar.{transactions}
use Rattle.sv_txn_reader.specs.Laws.{RefusedOnce}
use Rattle.sv_txn_reader.specs.Reading.{txns_at}
use Rattle.sv_txn_reader.specs.Refused.{Begins, BeginsWithin, IsMisplaced, IsTooMany, IsRefused}
use Rattle.sv_txn_reader.proofs.PlacedLaws.{Opens, Took, Stuck, Reads, Exceeds}
use Rattle.sv_txn_reader.proofs.LimitLaws.{places}
use Rattle.sv_txn_reader.proofs.FoundLaws.{All}
use Rattle.sv_txn_reader.proofs.TxnLaws.{txns_law}

-- transactions begin with these tokens, and keep the limits wherever these count from there on
pub record Whole (tokens : List Token) : Type 0 where
  pub more : List Token
  pub txns : List Transaction
  pub is : (i : ℕ) → length more ≤ i → transactions i 0 txns (tokens ++ more) []

whole_within : (tokens : List Token) → Whole tokens → BeginsWithin tokens
whole_within tokens w = record { more = w.more; txns = w.txns; is = w.is (length w.more) (omega arith) }

whole_begins : (tokens : List Token) → Whole tokens → Begins tokens
whole_begins tokens w = record { more = w.more; txns = w.txns; is = w.is (length (tokens ++ w.more)) (omega (arith, length-append tokens w.more)) }

-- what begins within the limits begins so with each front of its tokens
whole_front : (front back : List Token) → BeginsWithin (front ++ back) → Whole front
whole_front front back b = by_read (txns_law.all (length b.more) b.txns ((front ++ back) ++ b.more) [] b.is refl)
  where
    by_took : Took places All txns_at ((front ++ back) ++ b.more) b.txns [] → Whole front
    by_took took = record {
      more = back ++ b.more;
      txns = b.txns;
      is = λ i h. subst (λ l. transactions i 0 b.txns l []) (sym took.whole ∙ append_assoc front back b.more) (took.is i []);
    }

    by_open : (shown extra : List Token) → shown ≡ (front ++ back) ++ extra → Opens places All shown → Whole front
    by_open shown extra e o = record {
      more = (back ++ extra) ++ o.more;
      txns = o.item;
      is = λ i h.
          let long : length (o.more ++ []) ≤ i = omega (arith, h, length-append (back ++ extra) o.more, ap length (append-nil o.more)) in
          let same : shown ++ (o.more ++ []) ≡ front ++ ((back ++ extra) ++ o.more)
          = ap (λ l. shown ++ l) (append-nil o.more) ∙ ap (λ l. l ++ o.more) (e ∙ append_assoc front back extra) ∙ append_assoc front (back ++ extra) o.more in
          subst (λ l. transactions i 0 o.item l []) same (o.is i [] long);
    }

    by_stuck : (fault : ReadFault) → fault.left ≤ length b.more → Stuck places All txns_at ((front ++ back) ++ b.more) fault → Whole front
    by_stuck fault late s =
        let left : fault.left ≡ length s.rest = ap (λ (f : ReadFault). f.left) s.place in
        let longer = longer_front (front ++ back) b.more s.front s.rest s.whole (omega (arith, left, late)) in
        by_open s.front longer.extra longer.is s.opens

    by_read : Reads places (length b.more) (txns_at ((front ++ back) ++ b.more)) b.txns [] → Whole front
    by_read (inl e) = by_took (txns_law.took ((front ++ back) ++ b.more) b.txns [] e)
    by_read (inr over) = by_stuck (record { code = Many; left = over.left }) over.late (txns_law.fails ((front ++ back) ++ b.more) (record { code = Many; left = over.left }) over.is)

-- a front behind which nothing goes on
record Halts (tokens front rest : List Token) : Type 0 where
  pub whole : tokens ≡ front ++ rest
  pub within : BeginsWithin front
  pub stops : (token : Token) (others : List Token) → rest ≡ token ∷ others → Whole (front ++ token ∷ []) → ⊥

of_misplaced : (tokens : List Token) (end : Spot) (refusal : Refusal) (m : IsMisplaced tokens end refusal) → Halts tokens m.front m.rest
of_misplaced tokens end refusal m = record { whole = m.whole; within = m.begins; stops = λ token others e w. m.closed token others e (whole_begins (m.front ++ token ∷ []) w) }

first_token : {a b : Token} {xs ys : List Token} → a ∷ xs ≡ b ∷ ys → a ≡ b
first_token e = cc

of_too_many : (tokens : List Token) (refusal : Refusal) (t : IsTooMany tokens refusal) → Halts tokens t.front (t.token ∷ t.rest)
of_too_many tokens refusal t = record {
  whole = t.whole;
  within = t.within;
  stops = λ token others e w. t.past (subst (λ x. BeginsWithin (t.front ++ x ∷ [])) (sym (first_token e)) (whole_within (t.front ++ token ∷ []) w));
}

not_ahead : {tokens front rest other last : List Token} → Halts tokens front rest → Halts tokens other last → Ahead front other rest last → ⊥
not_ahead {tokens} {front} {rest} {other} {last} a b ahead =
    a.stops ahead.token (ahead.extra ++ last) ahead.left
    (whole_front (front ++ ahead.token ∷ []) ahead.extra (subst BeginsWithin (ahead.longer ∙ sym (append_assoc front (ahead.token ∷ []) ahead.extra)) b.within))

one_place : {tokens front rest other last : List Token} → Halts tokens front rest → Halts tokens other last → (front ≡ other) × (rest ≡ last)
one_place {tokens} {front} {rest} {other} {last} a b = by_order (compared front other rest last (sym a.whole ∙ b.whole))
  where
    by_order : Ahead front other rest last ⊎ (Ahead other front last rest ⊎ ((front ≡ other) × (rest ≡ last))) → (front ≡ other) × (rest ≡ last)
    by_order (inl ahead) = absurd (not_ahead a b ahead)
    by_order (inr (inl ahead)) = absurd (not_ahead b a ahead)
    by_order (inr (inr same)) = same

-- what no rule allows passes no limit
never_both : (tokens : List Token) (end : Spot) (a b : Refusal) → IsMisplaced tokens end a → IsTooMany tokens b → ⊥
never_both tokens end a b m t =
    let same = one_place (of_misplaced tokens end a m) (of_too_many tokens b t) in
    m.closed t.token t.rest same.1 (subst (λ l. Begins (l ++ t.token ∷ [])) (sym same.0) t.begins)

pub refused_once : RefusedOnce
refused_once tokens end a b (inl m) (inl n) =
    let same = one_place (of_misplaced tokens end a m) (of_misplaced tokens end b n) in
    m.place ∙ (λ i. record { spot = spot_of end (same.1 i); code = Syntax }) ∙ sym n.place
refused_once tokens end a b (inl m) (inr t) = absurd (never_both tokens end a b m t)
refused_once tokens end a b (inr t) (inl m) = absurd (never_both tokens end b a m t)
refused_once tokens end a b (inr t) (inr u) =
    let same = one_place (of_too_many tokens a t) (of_too_many tokens b u) in
    let token : t.token ≡ u.token = first_token same.1 in
    t.place ∙ (λ i. record { spot = (token i).spot; code = Many }) ∙ sym u.place
