-- What statements keep of the grammar: outside loops all of it, and in the body of a loop no loop stands.
use Rattle.std.proofs.Common.{◌≡◌, ◌∙◌, Bool, true, false, List, [], ◌∷◌, ◌++◌, length, filter, refl, sym, arith}
use Rattle.std.specs.List.{All}
use Rattle.std.proofs.lemmas.List.Elements.{All-head, All-tail, filter-append}
use Rattle.sv_app.specs.Statements.{inner_statements}
use Rattle.sv_app.specs.Trees.{Command}
use Rattle.sv_app.specs.TxnConditions.{is_loop, KeepsStatement}
use Rattle.sv_app.proofs.AcceptedLaws.{front_none, back_none}
use Rattle.sv_trace.proofs.UnitLaws.{Each, each_left, each_right}

pub each_of : {A : Type 0} (P : A → Type 0) (xs : List A) → All P xs → Each P xs
each_of P [] all = tt
each_of P (x ∷ xs) all = (All-head P x xs all, each_of P xs (All-tail P x xs all))

pub no_length : (cs : List Command) → length cs ≡ 0 → cs ≡ []
no_length [] e = refl
no_length (c ∷ cs) e = absurd (omega (arith, e))

abbrev pub Keep : Bool → List Command → Type 0
Keep true cs = Each KeepsStatement cs
Keep false cs = filter is_loop cs ≡ []

pub keep_left : (outer : Bool) (xs ys : List Command) → Keep outer (xs ++ ys) → Keep outer xs
keep_left true xs ys keep = each_left KeepsStatement xs ys keep
keep_left false xs ys keep = front_none (filter is_loop xs) (filter is_loop ys) (sym (filter-append is_loop xs ys) ∙ keep)

pub keep_right : (outer : Bool) (xs ys : List Command) → Keep outer (xs ++ ys) → Keep outer ys
keep_right true xs ys keep = each_right KeepsStatement xs ys keep
keep_right false xs ys keep = back_none (filter is_loop xs) (filter is_loop ys) (sym (filter-append is_loop xs ys) ∙ keep)

pub keep_inner : (outer : Bool) (c : Command) → Keep outer (c ∷ inner_statements c) → Keep outer (inner_statements c)
keep_inner outer c keep = keep_right outer (c ∷ []) (inner_statements c) keep
