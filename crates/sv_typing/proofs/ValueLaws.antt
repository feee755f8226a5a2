-- Values beside their columns, one by one from the front.
use Rattle.std.proofs.Common.{◌≡◌, ℕ, zero, suc, ◌+◌, ◌<◌, ◌≤◌, List, [], ◌∷◌, ◌++◌, length, take, drop, get_or, refl, sym, ap, ◌∙◌, arith, map, filter, Bool, Option}
use Rattle.std.proofs.lemmas.List.{take_more, map_push}
use Rattle.std.proofs.lemmas.List.Elements.{filter-append}
use Rattle.sv_value.specs.declared.spots.Spot.{Spot}
use Rattle.sv_app.specs.declared.apps.Ident.{Ident}
use Rattle.sv_app.specs.declared.refusals.Refusal.{Refusal}
use Rattle.sv_app.specs.declared.schemas.Column.{Column}
use Rattle.sv_app.specs.declared.txns.Expr.{Expr}
use Rattle.sv_app.specs.Schema.{Declaration}
use Rattle.sv_app.specs.Scopes.{Scope}
use Rattle.sv_app.specs.Trees.{Term, term_of, terms_of, sets_of}
use Rattle.sv_app.specs.TxnTyping.{type_faults, each_type_faults}
use Rattle.sv_typing.specs.Noted.{noted}
use Rattle.sv_typing.proofs.LookupLaws.{at_drop}
use Rattle.sv_typing.proofs.NotedLaws.{noted_append}

-- one more value was looked at
pub one_value : {T : Type 0} (f : T → Ident) (at : Scope) (d : Declaration) (place : Option Spot) (xs : List T) (es : List Expr) (i : ℕ) (x : T) (e : Expr) (held now goal : Option Refusal)
    → i < length xs → x ≡ get_or xs i x → i < length es → e ≡ get_or es i e
    → noted held (each_type_faults at d place (map f (drop i xs)) (terms_of (drop i es))) ≡ goal → now ≡ noted held (type_faults at d place (f x) (term_of e))
    → noted now (each_type_faults at d place (map f (drop (i + 1) xs)) (terms_of (drop (i + 1) es))) ≡ goal
one_value f at d place xs es i x e held now goal h is k has before step =
    let more : List Refusal = each_type_faults at d place (map f (drop (i + 1) xs)) (terms_of (drop (i + 1) es)) in
    let split : noted held (each_type_faults at d place (map f (drop i xs)) (terms_of (drop i es))) ≡ noted held (type_faults at d place (f x) (term_of e) ++ more) =
    rw (at_drop xs i x h is, at_drop es i e k has) refl in
    ap (λ o. noted o more) step ∙ sym (noted_append held (type_faults at d place (f x) (term_of e)) more) ∙ sym split ∙ before

past_end : {A : Type 0} (xs : List A) (i : ℕ) → length xs ≤ i → drop i xs ≡ []
past_end [] zero h = refl
past_end [] (suc i) h = refl
past_end (x ∷ xs) zero h = absurd (omega (arith, h))
past_end (x ∷ xs) (suc i) h = past_end xs i (omega (arith, h))

none_left : (at : Scope) (d : Declaration) (place : Option Spot) (names : List Ident) (terms : List Term) → terms ≡ [] → each_type_faults at d place names terms ≡ []
none_left at d place [] terms e = refl
none_left at d place (x ∷ xs) terms e = rw e refl

-- no value is left
pub no_value : {T : Type 0} (f : T → Ident) (at : Scope) (d : Declaration) (place : Option Spot) (xs : List T) (es : List Expr) (i : ℕ) (held goal : Option Refusal) → length es ≤ i
    → noted held (each_type_faults at d place (map f (drop i xs)) (terms_of (drop i es))) ≡ goal → held ≡ goal
no_value f at d place xs es i held goal h before = sym (ap (noted held) (none_left at d place (map f (drop i xs)) _ (ap terms_of (past_end es i h)))) ∙ before

pub ruleset pairing = (one_value, no_value)

-- one more column was looked at
pub drawn_more : (p : Ident → Bool) (xs : List Column) (i : ℕ) (x : Column) (before now : List Ident) → i < length xs → x ≡ get_or xs i x
    → before ≡ filter p (map (λ (c : Column). c.name) (take i xs)) → now ≡ before ++ filter p (x.name ∷ []) → now ≡ filter p (map (λ (c : Column). c.name) (take (i + 1) xs))
drawn_more p xs i x before now h is so_far step =
    step ∙ ap (λ names. names ++ filter p (x.name ∷ [])) so_far ∙ sym (filter-append p (map (λ (c : Column). c.name) (take i xs)) (x.name ∷ []))
    ∙ ap (filter p) (sym (map_push (λ (c : Column). c.name) (take i xs) x) ∙ ap (λ y. map (λ (c : Column). c.name) (take i xs ++ y ∷ [])) is ∙ ap (map (λ (c : Column). c.name)) (sym (take_more xs i x h)))

pub set_names : (sets : List (Ident × Expr)) → map (λ (s : Ident × Term). s.0) (sets_of sets) ≡ map (λ (s : Ident × Expr). s.0) sets
set_names [] = refl
set_names (s ∷ sets) = ap (λ names. s.0 ∷ names) (set_names sets)
