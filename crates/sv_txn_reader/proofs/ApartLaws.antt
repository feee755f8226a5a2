-- Transactions that are read aren't refused.
use Rattle.std.proofs.Common.{◌≡◌, ◌∙◌, ℕ, ◌⊎◌, inl, inr, List, [], ◌∷◌, ◌++◌, length, Ok, Err, refl, sym, ap, subst, append_assoc, append-nil}
use Rattle.sv_value.specs.declared.spots.Spot.{Spot}
use Rattle.sv_lex.specs.declared.tokens.Token.{Token}
use Rattle.sv_app.specs.declared.refusals.Code.TheVariants.{Many}
use Rattle.sv_app.specs.declared.refusals.Refusal.{Refusal}
use Rattle.sv_app.specs.Trees.{Transaction}
use Rattle.sv_reader.specs.Reading.{Read}
use Rattle.sv_reader.proofs.AnswerLaws.{Alike, same_read}
use Rattle.sv_reader.proofs.CutLaws.{Ahead, compared}
use Rattle.sv_txn_reader.specs.Grammar.{transactions}
use Rattle.sv_txn_reader.specs.Reading.{txns_at}
use Rattle.sv_txn_reader.specs.Refused.{BeginsTxn, IsRefused, AreRead}
use Rattle.sv_txn_reader.proofs.FoundLaws.{All, txns_are_read}
use Rattle.sv_txn_reader.proofs.LimitLaws.{places}
use Rattle.sv_txn_reader.proofs.PlacedLaws.{Took, Reads}
use Rattle.sv_txn_reader.proofs.TxnLaws.{txns_law}

module _ (tokens : List Token) (us : List Transaction) (last : List Token) (ends : BeginsTxn last → ⊥) (t : Took places All txns_at tokens us last) (end : Spot) (refusal : Refusal) where
  at_end : (i : ℕ) → transactions i 0 us t.front []
  at_end i = subst (λ l. transactions i 0 us l []) (append-nil t.front) (t.is i [])

  -- no transactions begin with more tokens than those that are read
  none_longer : (token : Token) (extra left : List Token) → last ≡ token ∷ extra ++ left → (i : ℕ) (more : List Token) (ts : List Transaction) → transactions i 0 ts ((t.front ++ token ∷ extra) ++ more) [] → ⊥
  none_longer token extra left e i more ts is = by_answer (txns_law.all i ts whole [] is refl)
    where
      whole : List Token
      whole = (t.front ++ token ∷ extra) ++ more

      here : txns_at whole ≡ Ok (us, token ∷ (extra ++ more))
      here = ap txns_at (append_assoc t.front (token ∷ extra) more) ∙ t.again (token ∷ (extra ++ more)) (subst (λ l. Alike l (token ∷ (extra ++ more))) (sym e) refl)

      by_answer : Reads places i (txns_at whole) ts [] → ⊥
      by_answer (inl a) = let bad : [] ≡ token ∷ (extra ++ more) = (same_read (sym a ∙ here)).rests in absurd cc
      by_answer (inr over) = let bad : ◌≡◌ {A = Read (List Transaction)} (Err (record { code = Many; left = over.left })) (Ok (us, token ∷ (extra ++ more))) = sym over.is ∙ here in absurd cc

  took_apart : IsRefused tokens end refusal → ⊥
  took_apart (inl m) = by_order (compared m.front t.front m.rest last (sym m.whole ∙ t.whole))
    where
      by_order : Ahead m.front t.front m.rest last ⊎ (Ahead t.front m.front last m.rest ⊎ ((m.front ≡ t.front) × (m.rest ≡ last))) → ⊥
      by_order (inl a) =
          let same : t.front ≡ (m.front ++ a.token ∷ []) ++ a.extra = a.longer ∙ sym (append_assoc m.front (a.token ∷ []) a.extra) in
          m.closed a.token (a.extra ++ last) a.left
          (record { more = a.extra; txns = us; is = subst (λ l. transactions (length ((m.front ++ a.token ∷ []) ++ a.extra)) 0 us l []) same (at_end (length ((m.front ++ a.token ∷ []) ++ a.extra))) })
      by_order (inr (inl a)) = none_longer a.token a.extra m.rest a.left (length m.begins.more) m.begins.more m.begins.txns (subst (λ l. transactions (length m.begins.more) 0 m.begins.txns (l ++ m.begins.more) []) a.longer m.begins.is)
      by_order (inr (inr same)) = m.unfinished us
          (subst (λ l. transactions (length tokens) 0 us tokens l) (sym same.1) (subst (λ l. transactions (length tokens) 0 us l last) (sym t.whole) (t.is (length tokens) last)))
          (λ b. ends (subst BeginsTxn same.1 b))
  took_apart (inr m) = by_order (compared (m.front ++ m.token ∷ []) t.front m.rest last (append_assoc m.front (m.token ∷ []) m.rest ∙ sym m.whole ∙ t.whole))
    where
      by_order : Ahead (m.front ++ m.token ∷ []) t.front m.rest last ⊎ (Ahead t.front (m.front ++ m.token ∷ []) last m.rest ⊎ ((m.front ++ m.token ∷ [] ≡ t.front) × (m.rest ≡ last))) → ⊥
      by_order (inl a) = m.past (record { more = a.token ∷ a.extra; txns = us; is = subst (λ l. transactions (length (a.token ∷ a.extra)) 0 us l []) a.longer (at_end (length (a.token ∷ a.extra))) })
      by_order (inr (inl a)) = none_longer a.token a.extra m.rest a.left (length ((m.front ++ m.token ∷ []) ++ m.begins.more)) m.begins.more m.begins.txns
          (subst (λ l. transactions (length ((m.front ++ m.token ∷ []) ++ m.begins.more)) 0 m.begins.txns (l ++ m.begins.more) []) a.longer m.begins.is)
      by_order (inr (inr same)) = m.past (record { more = []; txns = us; is = subst (λ l. transactions 0 0 us l []) (sym same.0 ∙ sym (append-nil (m.front ++ m.token ∷ []))) (at_end 0) })

txns_ends : (tokens : List Token) (us : List Transaction) (last : List Token) → txns_at tokens ≡ Ok (us, last) → (BeginsTxn last → ⊥) → (end : Spot) (refusal : Refusal) → IsRefused tokens end refusal → ⊥
txns_ends tokens us last e ends end refusal refused = took_apart tokens us last ends (txns_law.took tokens us last e) end refusal refused

pub txns_apart : (tokens : List Token) (ts : List Transaction) (rest : List Token) (end : Spot) (refusal : Refusal) → AreRead ts tokens rest → IsRefused tokens end refusal → ⊥
txns_apart tokens ts rest end refusal read refused = txns_ends tokens ts rest (txns_are_read tokens ts rest read) read.ends end refusal refused
