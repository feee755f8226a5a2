-- Expressions and conditions in the text: each may be too deep only where it may pass a limit as a whole.
use Rattle.std.proofs.Common.{◌≡◌, ℕ, suc, ◌≤◌, ◌⊎◌, inl, inr, Bool, true, false, List, [], ◌∷◌, ◌++◌, length, refl, sym, ap, subst, arith}
use Rattle.std.proofs.lemmas.List.{length-append}
use Rattle.sv_lex.specs.declared.tokens.Token.{Token}
use Rattle.sv_app.specs.declared.refusals.Code.{Code}
use Rattle.sv_app.specs.declared.refusals.Code.TheVariants.{Many}
use Rattle.sv_app.specs.Trees.{Term, Test}
use Rattle.sv_reader.specs.declared.faults.ReadFault.{ReadFault}
use Rattle.sv_reader.specs.Reading.{Read}
use Rattle.sv_txn_reader.specs.Grammar.{Within, Sums, IsTerm, expr, Disjunctions, IsTest, cond}
use Rattle.sv_txn_reader.specs.Reading.{expr_at, cond_at}
use Rattle.sv_txn_reader.proofs.ChainLaws.{Fits}
use Rattle.sv_txn_reader.proofs.FactorLaws.{Deep, tall, adds}
use Rattle.sv_txn_reader.proofs.PlacedLaws.{Opens, Passes, Took, Stuck, Cause, Misplaced, TooMany, Reads, Law, map_law}
use Rattle.sv_txn_reader.proofs.LimitLaws.{depths, places}
use Rattle.sv_txn_reader.proofs.LiteralLaws.{DeepTest, tall_test, disjoins}
use Rattle.sv_txn_reader.proofs.PieceLaws.{Made, take_last}
use Rattle.sv_txn_reader.proofs.TermLaws.{all_laws}
use Rattle.sv_txn_reader.proofs.TestLaws.{all_tests}

-- a language that is free or not, as a whole, by where it begins
abbrev pub Whole : {A : Type 0} → (Bool → A → List Token → List Token → Type 0) → ℕ → A → List Token → List Token → Type 0
Whole G i item tokens rest = G false item tokens rest ⊎ (G true item tokens rest × (length tokens ≤ i))

pub whole_law : {A : Type 0} {clash : List Token → Bool} {G : Bool → A → List Token → List Token → Type 0} {read : List Token → Read A} → Law depths clash G read → Law places clash (Whole G) read
whole_law {A} {clash} {G} {read} law = record { some = opened [] law.some; took = λ tokens item rest e. taken tokens item rest (law.took tokens item rest e); all = all; fails = λ tokens fault e. stuck tokens fault (law.fails tokens fault e) }
  where
    opened : (front : List Token) → Opens depths G front → Opens places (Whole G) front
    opened front o = record { more = o.more; item = o.item; is = λ i m loose. inl (o.is false m tt) }

    passed : (front : List Token) → Passes depths G front → Passes places (Whole G) front
    passed front o = record { more = o.more; item = o.item; is = λ i m free. inr (o.is true m refl, free) }

    taken : (tokens : List Token) (item : A) (rest : List Token) → Took depths G read tokens item rest → Took places (Whole G) read tokens item rest
    taken tokens item rest t = record { front = t.front; whole = t.whole; is = λ i m. inl (t.is false m); again = t.again }

    caused : {front : List Token} {code : Code} {rest : List Token} → Cause depths G front code rest → Cause places (Whole G) front code rest
    caused {front} (Misplaced rest) = Misplaced rest
    caused {front} (TooMany token others passes) = TooMany token others (passed (front ++ token ∷ []) passes)

    stuck : (tokens : List Token) (fault : ReadFault) → Stuck depths G read tokens fault → Stuck places (Whole G) read tokens fault
    stuck tokens fault s = record { front = s.front; rest = s.rest; code = s.code; whole = s.whole; place = s.place; opens = opened s.front s.opens; cause = caused s.cause; again = s.again }

    never : (i : ℕ) (item : A) (l r : List Token) → Reads depths false (read l) item r → Reads places i (read l) item r
    never i item l r (inl e) = inl e
    never i item l r (inr over) = let bad : false ≡ true = over.late in absurd cc

    left_of : (l : List Token) (left : ℕ) → Stuck depths G read l (record { code = Many; left = left }) → left ≤ length l
    left_of l left s = let place : left ≡ length s.rest = λ i. (s.place i).left in let whole : length l ≡ length (s.front ++ s.rest) = ap length s.whole in omega (arith, place, whole, length-append s.front s.rest)

    later : (i : ℕ) (item : A) (l r : List Token) → length l ≤ i → Reads depths true (read l) item r → Reads places i (read l) item r
    later i item l r few (inl e) = inl e
    later i item l r few (inr over) = inr (record { left = over.left; is = over.is; late = let most = left_of l over.left (law.fails l (record { code = Many; left = over.left }) over.is) in omega (arith, few, most) })

    all : (i : ℕ) (item : A) (l r : List Token) → Whole G i item l r → clash r ≡ false → Reads places i (read l) item r
    all i item l r (inl is) clear = never i item l r (law.all false item l r is clear)
    all i item l r (inr is) clear = later i item l r is.1 (law.all true item l r is.0 clear)

pub expr_law : Law places adds expr expr_at
unfolding expr_at
expr_law = map_law (take_last (λ (g : Term × ℕ). g.0) (whole_law (all_laws 15).sums)) into out
  where
    strict : (d h : ℕ) → d ≡ suc h → Fits 15 false h → d ≤ 16
    strict d h e (inl few) = omega (arith, e, few)
    strict d h e (inr bad) = absurd cc

    into_whole : (i : ℕ) (g : Term × ℕ) (l r : List Token) → Whole (Deep Sums 15) i g l r → expr i g.0 l r
    into_whole i g l r (inl d) = record { depth = d.depth; is = d.is; within = inl (strict d.depth g.1 d.extra d.within) }
    into_whole i g l r (inr (d, late)) = record { depth = d.depth; is = d.is; within = inr late }

    into : (i : ℕ) (e : Term) (l r : List Token) → Made (λ (g : Term × ℕ). g.0) (Whole (Deep Sums 15)) i e l r → expr i e l r
    into i e l r m = subst (λ x. expr i x l r) (sym m.made) (into_whole i m.«from» l r m.is)

    small : (d h : ℕ) → d ≡ suc h → d ≤ 16 → h ≤ 15
    small d h e few = omega (arith, e, few)

    out_whole : (i : ℕ) (e : Term) (d h : ℕ) (l r : List Token) → d ≡ suc h → IsTerm Sums d e l r → Within i 16 d l → Whole (Deep Sums 15) i (e, h) l r
    out_whole i e d h l r q is (inl few) = inl (record { depth = d; is = is; extra = q; within = inl (small d h q few) })
    out_whole i e d h l r q is (inr late) = inr (record { depth = d; is = is; extra = q; within = inr refl }, late)

    out : (i : ℕ) (e : Term) (l r : List Token) → expr i e l r → Made (λ (g : Term × ℕ). g.0) (Whole (Deep Sums 15)) i e l r
    out i e l r x = let t = tall x.is in record { «from» = (e, t.0); is = out_whole i e x.depth t.0 l r t.1 x.is x.within; made = refl }

pub cond_law : Law places disjoins cond cond_at
unfolding cond_at
cond_law = map_law (take_last (λ (g : Test × ℕ). g.0) (whole_law (all_tests 14).disjunctions)) into out
  where
    strict : (d h : ℕ) → d ≡ suc (suc h) → Fits 14 false h → d ≤ 16
    strict d h e (inl few) = omega (arith, e, few)
    strict d h e (inr bad) = absurd cc

    into_whole : (i : ℕ) (g : Test × ℕ) (l r : List Token) → Whole (DeepTest Disjunctions 14) i g l r → cond i g.0 l r
    into_whole i g l r (inl d) = record { depth = d.depth; is = d.is; within = inl (strict d.depth g.1 d.extra d.within) }
    into_whole i g l r (inr (d, late)) = record { depth = d.depth; is = d.is; within = inr late }

    into : (i : ℕ) (t : Test) (l r : List Token) → Made (λ (g : Test × ℕ). g.0) (Whole (DeepTest Disjunctions 14)) i t l r → cond i t l r
    into i t l r m = subst (λ x. cond i x l r) (sym m.made) (into_whole i m.«from» l r m.is)

    small : (d h : ℕ) → d ≡ suc (suc h) → d ≤ 16 → h ≤ 14
    small d h e few = omega (arith, e, few)

    out_whole : (i : ℕ) (t : Test) (d h : ℕ) (l r : List Token) → d ≡ suc (suc h) → IsTest Disjunctions d t l r → Within i 16 d l → Whole (DeepTest Disjunctions 14) i (t, h) l r
    out_whole i t d h l r q is (inl few) = inl (record { depth = d; is = is; extra = q; within = inl (small d h q few) })
    out_whole i t d h l r q is (inr late) = inr (record { depth = d; is = is; extra = q; within = inr refl }, late)

    out : (i : ℕ) (t : Test) (l r : List Token) → cond i t l r → Made (λ (g : Test × ℕ). g.0) (Whole (DeepTest Disjunctions 14)) i t l r
    out i t l r x = let h = tall_test x.is in record { «from» = (t, h.0); is = out_whole i t x.depth h.0 l r h.1 x.is x.within; made = refl }
