-- Values in 128 bits, and tests over lists of items seen otherwise.
use Rattle.std.proofs.Common.{◌≡◌, ℕ, ◌≤◌, ℤ, ◌+ℤ◌, ◌*ℤ◌, List, [], ◌∷◌, length, map, Bool, ◌||◌, refl, sym, ap, ◌∙◌, arith}
use Rattle.std.proofs.lemmas.Int.{ints, int_wrap-add_left}
use Rattle.std.specs.Int.{int_wrap, w128}
use Rattle.std.specs.List.{list_any}
use Rattle.sv_value.specs.declared.values.Val.{Val}
use Rattle.sv_linear.specs.Forms.{Form, number_at, terms_value}
use Rattle.sv_app.specs.declared.schemas.Table.{Table}
use Rattle.sv_app.specs.Schema.{invariant_of, declaration_of, schema_of}
use Rattle.sv_linear.specs.Tests.{read, lists, is_listed}
use Rattle.sv_linear.proofs.SliceLaws.{first, rest, by_first}

turned : (a b : ℤ) → a +ℤ b ≡ b +ℤ a
turned a b = omega (arith, ints)

pub one_more : (ts : List (ℕ × ℤ)) (tape : List Val) (v : ℤ) → 1 ≤ length ts → v ≡ int_wrap w128 (int_wrap w128 (terms_value (rest ts) tape) +ℤ ((first ts).1 *ℤ number_at tape (first ts).0))
    → v ≡ int_wrap w128 (terms_value ts tape)
one_more ts tape v h e =
    e ∙ int_wrap-add_left w128 (terms_value (rest ts) tape) ((first ts).1 *ℤ number_at tape (first ts).0)
    ∙ ap (int_wrap w128) (by_first (λ l t later. terms_value later tape +ℤ (t.1 *ℤ number_at tape t.0) ≡ terms_value l tape) (λ t later. turned (terms_value later tape) (t.1 *ℤ number_at tape t.0)) ts h)

pub with_plus : (f : Form) (tape : List Val) (v : ℤ) → v ≡ int_wrap w128 (int_wrap w128 (terms_value f.terms tape) +ℤ f.plus) → v ≡ read f tape
with_plus f tape v e = e ∙ int_wrap-add_left w128 (terms_value f.terms tape) f.plus ∙ ap (int_wrap w128) (turned (terms_value f.terms tape) f.plus)

pub any_map : {A B : Type 0} (f : A → B) (p : B → Bool) (xs : List A) → list_any p (map f xs) ≡ list_any (λ x. p (f x)) xs
any_map f p [] = refl
any_map f p (x ∷ xs) = ap (λ b. p (f x) || b) (any_map f p xs)

any_same : {A : Type 0} (p q : A → Bool) (xs : List A) → ((x : A) → p x ≡ q x) → list_any p xs ≡ list_any q xs
any_same p q xs same = λ i. list_any (λ x. same x i) xs

pub listed_in : (tables : List Table) (number : ℕ) (text : List ℕ) → list_any (λ table. list_any (λ inv. lists number text (invariant_of inv)) table.invs.items) tables ≡ is_listed (schema_of tables) number text
listed_in tables number text =
    any_same (λ table. list_any (λ inv. lists number text (invariant_of inv)) table.invs.items) (λ table. list_any (lists number text) (declaration_of table).invs) tables
    (λ table. sym (any_map invariant_of (lists number text) table.invs.items))
    ∙ sym (any_map declaration_of (λ d. list_any (lists number text) d.invs) tables)
