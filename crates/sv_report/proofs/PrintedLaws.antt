-- What is printed and counted of the rest of a list, behind what was of its front, is what is of the whole.
use Rattle.std.proofs.Common.{◌≡◌, ◌∙◌, ap, sym, refl, ℕ, ◌+◌, ◌<◌, ◌≤◌, List, [], ◌∷◌, ◌++◌, length, drop, get_or, Bool, Option, Some, None, option_map, slice_get, arith}
use Rattle.std.proofs.Common.{append_assoc, append-nil}
use Rattle.std.specs.List.{flat_map}
use Rattle.std.proofs.lemmas.List.{drop_more}
use Rattle.std.proofs.lemmas.Option.{slice_get-get_or, slice_get-map, slice_get_read, slice_get_past}
use Rattle.sv_app.specs.declared.txns.Txn.{Txn}
use Rattle.sv_app.specs.Trees.{transaction_of, transactions_of}
use Rattle.sv_linear.specs.Codes.{left_of}
use Rattle.sv_linear.specs.Left.{Left}
use Rattle.sv_label.specs.declared.templates.Template.{Template}
use Rattle.sv_report.specs.CompileText.{total_of, txn_name}

-- one item more
pub printed : {A : Type 0} (f : A → List ℕ) (now next all : List ℕ) (x : A) (rest more : List A) → rest ≡ x ∷ more → next ≡ now ++ f x → now ++ flat_map f rest ≡ all → next ++ flat_map f more ≡ all
printed f now next all x rest more is grown stands =
    ap (λ l. l ++ flat_map f more) grown ∙ append_assoc now (f x) (flat_map f more) ∙ sym (ap (λ l. now ++ flat_map f l) is) ∙ stands

-- ---- names

pub named : (txns : List Txn) (number : ℕ) (txn : Txn) → number < length txns → txn ≡ get_or txns number txn → txn.name.name ≡ txn_name (slice_get (transactions_of txns) number)
named txns number txn within is = sym (ap txn_name (slice_get-map transaction_of txns number ∙ ap (option_map transaction_of) (slice_get_read txns (length txns) number txn refl within is)))

pub unnamed : (txns : List Txn) (number : ℕ) → length txns ≤ number → txn_name (slice_get (transactions_of txns) number) ≡ []
unnamed txns number le = ap txn_name (slice_get-map transaction_of txns number ∙ ap (option_map transaction_of) (slice_get_past txns number le))

pub ruleset naming = (named, unnamed, append-nil)

-- ---- the entries of a group

entry_is : (o : Option (List Bool × Template)) (x : List Bool × Template) (choices : List Bool) (t : Template) → o ≡ Some x → option_map (λ e. e.0) o ≡ Some choices → option_map (λ e. e.1) o ≡ Some t → x ≡ (choices, t)
entry_is None x choices t found c e = absurd cc
entry_is (Some y) x choices t found c e =
    let y_is : x ≡ y = cc in
    let c_is : y.0 ≡ choices = cc in
    let t_is : y.1 ≡ t = cc in
    y_is ∙ (λ i. (c_is i, t_is i))

template_is : (o : Option (List Bool × Template)) (x : List Bool × Template) (t : Template) → o ≡ Some x → option_map (λ e. e.1) o ≡ Some t → x.1 ≡ t
template_is None x t found e = absurd cc
template_is (Some y) x t found e =
    let y_is : x ≡ y = cc in
    let t_is : y.1 ≡ t = cc in
    ap (λ (z : List Bool × Template). z.1) y_is ∙ t_is

pub next_entry : (es : List (List Bool × Template)) (at : ℕ) (choices : List Bool) (t : Template) → at < length es → option_map (λ e. e.0) (slice_get es at) ≡ Some choices → option_map (λ e. e.1) (slice_get es at) ≡ Some t
    → drop at es ≡ (choices, t) ∷ drop (at + 1) es
next_entry es at choices t lt c e =
    drop_more es at (choices, t) lt ∙ ap (λ x. x ∷ drop (at + 1) es) (entry_is (slice_get es at) (get_or es at (choices, t)) choices t (slice_get-get_or es at (choices, t) lt) c e)

pub next_total : (count : Left → ℕ) (es : List (List Bool × Template)) (at : ℕ) (t : Template) → at < length es → option_map (λ e. e.1) (slice_get es at) ≡ Some t
    → total_of count (drop at es) ≡ count (left_of t.left) + total_of count (drop (at + 1) es)
next_total count es at t lt e =
    ap (total_of count) (drop_more es at ([], t) lt)
    ∙ ap (λ (y : Template). count (left_of y.left) + total_of count (drop (at + 1) es)) (template_is (slice_get es at) (get_or es at ([], t)) t (slice_get-get_or es at ([], t) lt) e)
