-- Answers of readings, and tokens that begin alike.
use Rattle.std.proofs.Common.{◌≡◌, ℕ, ◌⊎◌, inl, inr, Bool, false, List, [], ◌∷◌, ◌++◌, length, Ok, Err, refl, sym, ap, subst}
use Rattle.sv_lex.specs.declared.tokens.Token.{Token}
use Rattle.sv_app.specs.declared.refusals.Code.TheVariants.{Syntax, Many}
use Rattle.sv_reader.specs.declared.faults.ReadFault.{ReadFault}
use Rattle.sv_reader.specs.Reading.{Read, ◌>>=◌, next, IsLeft}

-- tokens that begin with the same token, or both are none
abbrev pub Alike : List Token → List Token → Type 0
Alike [] [] = Unit {0}
Alike [] (b ∷ right) = ⊥
Alike (a ∷ left) [] = ⊥
Alike (a ∷ left) (b ∷ right) = a ≡ b

pub alike_same : (xs : List Token) → Alike xs xs
alike_same [] = tt
alike_same (x ∷ xs) = refl

pub alike_behind : (front xs ys : List Token) → Alike xs ys → Alike (front ++ xs) (front ++ ys)
alike_behind [] xs ys alike = alike
alike_behind (x ∷ front) xs ys alike = refl

pub near : (front rest last whole : List Token) → whole ≡ front ++ rest → Alike rest last → Alike whole (front ++ last)
near front rest last whole e alike = subst (λ l. Alike l (front ++ last)) (sym e) (alike_behind front rest last alike)

abbrev pub anything : List Token → Bool
anything tokens = false

-- equal answers of reading
pub record Same {A : Type 0} (a b : A) (rest last : List Token) : Type 0 where
  pub item : a ≡ b
  pub rests : rest ≡ last

pub same_read : {A : Type 0} {a b : A} {rest last : List Token} → ◌≡◌ {A = Read A} (Ok (a, rest)) (Ok (b, last)) → Same a b rest last
same_read {A} {a} {b} {rest} {last} e =
    let pair : ◌≡◌ {A = A × List Token} (a, rest) (b, last) = cc in
    record { item = λ i. (pair i).0; rests = λ i. (pair i).1 }

-- what a reading that goes on has read first
pub record Bound {A B : Type 0} (read : Read A) (more : A → List Token → Read B) (answer : Read B) : Type 0 where
  pub item : A
  pub rest : List Token
  pub is : read ≡ Ok (item, rest)
  pub left : more item rest ≡ answer

pub bound : {A B : Type 0} (read : Read A) (more : A → List Token → Read B) (answer : B × List Token) → read >>= more ≡ Ok answer → Bound read more (Ok answer)
bound (Err fault) more answer e = absurd cc
bound (Ok read) more answer e = record { item = read.0; rest = read.1; is = refl; left = e }

pub bound_err : {A B : Type 0} (read : Read A) (more : A → List Token → Read B) (fault : ReadFault) → read >>= more ≡ Err fault → (read ≡ Err fault) ⊎ Bound read more (Err fault)
bound_err (Err other) more fault e = inl (let same : other ≡ fault = cc in ap Err same)
bound_err (Ok read) more fault e = inr (record { item = read.0; rest = read.1; is = refl; left = e })

pub then_ok : {A B : Type 0} {read : Read A} (more : A → List Token → Read B) {item : A} {rest : List Token} → read ≡ Ok (item, rest) → read >>= more ≡ more item rest
then_ok {A} {B} {read} more {item} {rest} e = ap (λ (r : Read A). r >>= more) e

pub then_err : {A B : Type 0} {read : Read A} (more : A → List Token → Read B) {fault : ReadFault} → read ≡ Err fault → read >>= more ≡ Err fault
then_err {A} {B} {read} more {fault} e = ap (λ (r : Read A). r >>= more) e

pub many_syntax : {A : Type 0} (s left : ℕ) → ◌≡◌ {A = Read A} (Err (record { code = Many; left = s })) (Err (record { code = Syntax; left = left })) → ⊥
many_syntax s left e =
    let faults : ◌≡◌ {A = ReadFault} (record { code = Many; left = s }) (record { code = Syntax; left = left }) = cc in
    let codes : Many ≡ Syntax = λ i. (faults i).code in
    absurd cc

pub next_alike : (test : Token → Bool) (a b : List Token) → Alike a b → next test a ≡ next test b
next_alike test [] [] alike = refl
next_alike test [] (y ∷ b) alike = absurd alike
next_alike test (x ∷ a) [] alike = absurd alike
next_alike test (x ∷ a) (y ∷ b) alike = ap test alike

pub left_read : {A : Type 0} (read : Read A) (a : A) (left : ℕ) → IsLeft read a left → (rest : List Token) × (read ≡ Ok (a, rest)) × (length rest ≡ left)
left_read {A} (Ok (b, rest)) a left is = (rest, ap (λ (x : A). Ok (x, rest)) is.0, is.1)
left_read (Err fault) a left never = absurd never
