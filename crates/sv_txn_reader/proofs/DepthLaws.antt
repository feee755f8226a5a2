-- What is written with no limit passed is no deeper than the limit, and takes a token.
use Rattle.std.proofs.Common.{◌≡◌, ℕ, suc, ◌+◌, ◌≤◌, inl, inr, List, length, max, refl, ap, arith}
use Rattle.sv_lex.specs.declared.tokens.Token.{Token}
use Rattle.sv_value.specs.declared.spots.Spot.{Spot}
use Rattle.sv_app.specs.Depths.{term_depth, test_depth}
use Rattle.sv_app.specs.Trees.{Term, Number, Words, Variable, Field, Old, Minus, Sum, Difference, Product, Test}
use Rattle.sv_txn_reader.specs.Grammar.{One, Within, limit, placed, Rank, IsTerm, ANumber, AText, AVariable, AField, AnOld, ASign, AGroup, OneFactor, AProduct, OneProduct, ASum, ADifference, expr, Join, IsTest, AComparison, ANegation, ABracket, OneLiteral, AnAnd, OneConjunction, AnOr, cond}

pub one_some : (Holds : Token → Type 0) (tokens rest : List Token) → One Holds tokens rest → 1 ≤ length tokens
one_some Holds tokens rest is = let same : length tokens ≡ suc (length rest) = ap (λ (l : List Token). length l) is.next in omega (arith, same)

pub within_zero : (most n : ℕ) (tokens : List Token) → Within 0 most n tokens → 1 ≤ length tokens → n ≤ most
within_zero most n tokens (inl few) some = few
within_zero most n tokens (inr none) some = absurd (omega (arith, none, some))

pub limit_kept : (most n : ℕ) (tokens middle : List Token) → limit 0 most n tokens middle → 1 ≤ length middle → n ≤ most
limit_kept most n tokens middle is some =
    let same : length tokens ≡ length middle = ap (λ (l : List Token). length l) is.0 in within_zero most n tokens is.1 (omega (arith, same, some))

pub limit_some : (most n : ℕ) (tokens middle : List Token) → limit 0 most n tokens middle → 1 ≤ length middle → 1 ≤ length tokens
limit_some most n tokens middle is some = let same : length tokens ≡ length middle = ap (λ (l : List Token). length l) is.0 in omega (arith, same, some)

placed_deep : (s : Spot) (e : Term) → term_depth (placed s e) ≡ term_depth e
placed_deep s (Number n at) = refl
placed_deep s (Words t at) = refl
placed_deep s (Variable x at) = refl
placed_deep s (Field r c at) = refl
placed_deep s (Old c at) = refl
placed_deep s (Minus a at) = refl
placed_deep s (Sum a b at) = refl
placed_deep s (Difference a b at) = refl
placed_deep s (Product a b at) = refl

both_deep : (a b c d : ℕ) → a ≤ c → b ≤ d → 1 + max a b ≤ suc (max c d)
both_deep a b c d h k = omega (arith, h, k)

pub term_deep : (r : Rank) (d : ℕ) (e : Term) (tokens rest : List Token) → IsTerm r d e tokens rest → term_depth e ≤ d
term_deep r d e tokens rest (ANumber n s t u is) = omega arith
term_deep r d e tokens rest (AText w s t u is) = omega arith
term_deep r d e tokens rest (AVariable x t u is) = omega arith
term_deep r d e tokens rest (AField row c t u is) = omega arith
term_deep r d e tokens rest (AnOld c s t u is) = omega arith
term_deep r d e tokens rest (ASign n a s t next u sign is) = let h = term_deep _ n a next u is in omega (arith, h)
term_deep r d e tokens rest (AGroup n a s t next last u paren is close) = let h = term_deep _ n a next last is in omega (arith, h, placed_deep s a)
term_deep r d e tokens rest (OneFactor n a t u is) = term_deep _ n a t u is
term_deep r d e tokens rest (AProduct c n a b t sign next u first star then) = both_deep (term_depth a) (term_depth b) c n (term_deep _ c a t sign first) (term_deep _ n b next u then)
term_deep r d e tokens rest (OneProduct n a t u is) = term_deep _ n a t u is
term_deep r d e tokens rest (ASum c n a b t sign next u first plus then) = both_deep (term_depth a) (term_depth b) c n (term_deep _ c a t sign first) (term_deep _ n b next u then)
term_deep r d e tokens rest (ADifference c n a b t sign next u first minus then) = both_deep (term_depth a) (term_depth b) c n (term_deep _ c a t sign first) (term_deep _ n b next u then)

pub term_some : (r : Rank) (d : ℕ) (e : Term) (tokens rest : List Token) → IsTerm r d e tokens rest → 1 ≤ length tokens
term_some r d e tokens rest (ANumber n s t u is) = one_some _ t u is
term_some r d e tokens rest (AText w s t u is) = one_some _ t u is
term_some r d e tokens rest (AVariable x t u is) = one_some _ t u is
term_some r d e tokens rest (AField row c t u is) = one_some _ t is.middle is.first
term_some r d e tokens rest (AnOld c s t u is) = one_some _ t is.middle is.first
term_some r d e tokens rest (ASign n a s t next u sign is) = one_some _ t next sign
term_some r d e tokens rest (AGroup n a s t next last u paren is close) = one_some _ t next paren
term_some r d e tokens rest (OneFactor n a t u is) = term_some _ n a t u is
term_some r d e tokens rest (AProduct c n a b t sign next u first star then) = term_some _ c a t sign first
term_some r d e tokens rest (OneProduct n a t u is) = term_some _ n a t u is
term_some r d e tokens rest (ASum c n a b t sign next u first plus then) = term_some _ c a t sign first
term_some r d e tokens rest (ADifference c n a b t sign next u first minus then) = term_some _ c a t sign first

pub expr_kept : (e : Term) (tokens rest : List Token) → expr 0 e tokens rest → term_depth e ≤ 16
expr_kept e tokens rest is =
    let deep : term_depth e ≤ is.depth = term_deep _ is.depth e tokens rest is.is in
    let few : is.depth ≤ 16 = within_zero 16 is.depth tokens is.within (term_some _ is.depth e tokens rest is.is) in
    omega (arith, deep, few)

pub test_deep : (j : Join) (d : ℕ) (q : Test) (tokens rest : List Token) → IsTest j d q tokens rest → test_depth q ≤ d
test_deep j d q tokens rest (AComparison c n a b by t u is) =
    both_deep (term_depth a) (term_depth b) c n (term_deep _ c a t is.middle is.first) (term_deep _ n b is.second.middle u is.second.second)
test_deep j d q tokens rest (ANegation n x t next u not is) = let h = test_deep _ n x next u is in omega (arith, h)
test_deep j d q tokens rest (ABracket n x t next last u paren is close) = let h = test_deep _ n x next last is in omega (arith, h)
test_deep j d q tokens rest (OneLiteral n x t u is) = test_deep _ n x t u is
test_deep j d q tokens rest (AnAnd c n x y t sign next u first word then) = both_deep (test_depth x) (test_depth y) c n (test_deep _ c x t sign first) (test_deep _ n y next u then)
test_deep j d q tokens rest (OneConjunction n x t u is) = test_deep _ n x t u is
test_deep j d q tokens rest (AnOr c n x y t sign next u first word then) = both_deep (test_depth x) (test_depth y) c n (test_deep _ c x t sign first) (test_deep _ n y next u then)

pub test_some : (j : Join) (d : ℕ) (q : Test) (tokens rest : List Token) → IsTest j d q tokens rest → 1 ≤ length tokens
test_some j d q tokens rest (AComparison c n a b by t u is) = term_some _ c a t is.middle is.first
test_some j d q tokens rest (ANegation n x t next u not is) = one_some _ t next not
test_some j d q tokens rest (ABracket n x t next last u paren is close) = one_some _ t next paren
test_some j d q tokens rest (OneLiteral n x t u is) = test_some _ n x t u is
test_some j d q tokens rest (AnAnd c n x y t sign next u first word then) = test_some _ c x t sign first
test_some j d q tokens rest (OneConjunction n x t u is) = test_some _ n x t u is
test_some j d q tokens rest (AnOr c n x y t sign next u first word then) = test_some _ c x t sign first

pub cond_kept : (q : Test) (tokens rest : List Token) → cond 0 q tokens rest → test_depth q ≤ 16
cond_kept q tokens rest is =
    let deep : test_depth q ≤ is.depth = test_deep _ is.depth q tokens rest is.is in
    let few : is.depth ≤ 16 = within_zero 16 is.depth tokens is.within (test_some _ is.depth q tokens rest is.is) in
    omega (arith, deep, few)
