-- The bodies of loops, one after the other.
use Rattle.std.proofs.Common.{◌≡◌, ℕ, suc, ◌+◌, ◌<◌, arith, length, get_or, take, length-take-le, le_of_lt, ap₂, Bor, List, [], ◌∷◌, ◌++◌, map, refl, sym, ap, ◌∙◌, append-nil, append_assoc}
use Rattle.std.proofs.lemmas.List.{map-append, length-map, take_more}
use Rattle.sv_app.specs.declared.txns.Stmt.{Stmt}
use Rattle.sv_app.specs.Trees.{Block, block_of}
use Rattle.sv_app.specs.Units.{Loop}
use Rattle.sv_paths.specs.declared.bodies.Unit.{Unit as UnitValue}
use Rattle.sv_paths.specs.Numbered.{part_of, numbered_from}

pub bodies_then : (bodies mid new : List Block) (xs ys : List Loop) → mid ≡ bodies ++ map (λ l. l.body) xs → new ≡ mid ++ map (λ l. l.body) ys → new ≡ bodies ++ map (λ l. l.body) (xs ++ ys)
bodies_then bodies mid new xs ys e f = f ∙ ap (λ l. l ++ map (λ l. l.body) ys) e ∙ append_assoc bodies (map (λ l. l.body) xs) (map (λ l. l.body) ys) ∙ ap (λ l. bodies ++ l) (sym (map-append (λ l. l.body) xs ys))

pub body_then : (bodies new : List Block) (x : Block) (ys : List Block) → new ≡ (bodies ++ x ∷ []) ++ ys → new ≡ bodies ++ x ∷ ys
body_then bodies new x ys e = e ∙ append_assoc bodies (x ∷ []) ys

-- one more unit
numbered_more : (n txn : ℕ) (xs : List Block) (x : Block) → numbered_from n txn (xs ++ x ∷ []) ≡ numbered_from n txn xs ++ record { txn = txn; number = n + length xs; body = x } ∷ []
numbered_more n txn [] x = let e : n ≡ n + 0 = omega arith in ap (λ k. record { txn = txn; number = k; body = x } ∷ []) e
numbered_more n txn (y ∷ ys) x =
    let e : suc n + length ys ≡ n + suc (length ys) = omega arith in
    ap (λ l. record { txn = txn; number = n; body = y } ∷ l) (numbered_more (suc n) txn ys x ∙ ap (λ k. numbered_from (suc n) txn ys ++ record { txn = txn; number = k; body = x } ∷ []) e)

abbrev said : Bor (List Stmt) → Block
said b = block_of b.now

pub numbered_next : (txn i : ℕ) (units now : List UnitValue) (u : UnitValue) (bodies : List (Bor (List Stmt))) (d : Bor (List Stmt)) → now ≡ units ++ u ∷ []
    → part_of u ≡ record { txn = txn; number = i; body = block_of d.now } → d ≡ get_or bodies i d → i < length bodies
    → map part_of units ≡ numbered_from 0 txn (map said (take i bodies)) → map part_of now ≡ numbered_from 0 txn (map said (take (i + 1) bodies))
numbered_next txn i units now u bodies d e is at inside h =
    let front : length (take i bodies) ≡ i = length-take-le i bodies (le_of_lt inside) in
    let few : 0 + length (map said (take i bodies)) ≡ i = omega (arith, length-map (take i bodies) said, front) in
    let more : map said (take (i + 1) bodies) ≡ map said (take i bodies) ++ said d ∷ [] =
    ap (map said) (take_more bodies i d inside ∙ ap (λ z. take i bodies ++ z ∷ []) (sym at)) ∙ map-append said (take i bodies) (d ∷ []) in
    ap (map part_of) e ∙ map-append part_of units (u ∷ []) ∙ ap₂ (λ l p. l ++ p ∷ []) h is
    ∙ ap (λ n. numbered_from 0 txn (map said (take i bodies)) ++ record { txn = txn; number = n; body = said d } ∷ []) (sym few)
    ∙ sym (numbered_more 0 txn (map said (take i bodies)) (said d)) ∙ ap (numbered_from 0 txn) (sym more)

pub ruleset looping = (bodies_then, body_then, append-nil)

pub ruleset whole = (body_then, append-nil)
