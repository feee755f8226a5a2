-- What is held is the first of the candidates; it is held list after list.
use Rattle.std.proofs.Common.{◌≡◌, ℕ, ◌+◌, ◌<◌, List, [], ◌∷◌, ◌++◌, length, take, drop, get_or, refl, sym, ap, ◌∙◌, append-nil, Option, Some, map}
use Rattle.std.specs.List.{flat_map}
use Rattle.sv_app.specs.declared.apps.Ident.{Ident}
use Rattle.sv_app.specs.declared.refusals.Code.TheVariants.{Twice}
use Rattle.sv_app.specs.declared.refusals.Refusal.{Refusal}
use Rattle.sv_app.specs.Lookups.{is_named}
use Rattle.sv_app.specs.Typing.{fault_if, repeats}
use Rattle.sv_typing.specs.Noted.{sooner, noted}
use Rattle.sv_gains.proofs.FlatLaws.{flat_taken, flat_mapped}
use Rattle.sv_typing.proofs.LookupLaws.{at_drop}

pub noted_append : (held : Option Refusal) (front back : List Refusal) → noted held (front ++ back) ≡ noted (noted held front) back
noted_append held [] back = refl
noted_append held (x ∷ front) back = noted_append (Some (sooner held x)) front back

-- a loop that notes what is wrong with each of a list
pub noted_more : {T : Type 0} (f : T → List Refusal) (xs : List T) (i : ℕ) (x : T) (start held now : Option Refusal) → i < length xs → x ≡ get_or xs i x
    → held ≡ noted start (flat_map f (take i xs)) → now ≡ noted held (f x) → now ≡ noted start (flat_map f (take (i + 1) xs))
noted_more f xs i x start held now h e before step =
    step ∙ ap (λ o. noted o (f x)) before ∙ sym (noted_append start (flat_map f (take i xs)) (f x)) ∙ ap (noted start) (sym (flat_taken f xs i x h e))

-- the same, of what each of the list stands for
pub noted_mapped : {T B : Type 0} (g : T → B) (f : B → List Refusal) (xs : List T) (i : ℕ) (x : T) (start held now : Option Refusal) → i < length xs → x ≡ get_or xs i x
    → held ≡ noted start (flat_map f (map g (take i xs))) → now ≡ noted held (f (g x)) → now ≡ noted start (flat_map f (map g (take (i + 1) xs)))
noted_mapped g f xs i x start held now h e before step =
    noted_more (λ y. f (g y)) xs i x start held now h e (before ∙ ap (noted start) (flat_mapped g f (take i xs))) step ∙ ap (noted start) (sym (flat_mapped g f (take (i + 1) xs)))

-- the later ones of the name that stands here are noted
pub noted_repeats : {T : Type 0} (f : T → Ident) (xs : List T) (i : ℕ) (x : T) (held now goal : Option Refusal) → i < length xs → x ≡ get_or xs i x
    → noted held (repeats (map f (drop i xs))) ≡ goal → now ≡ noted held (flat_map (λ later. fault_if (is_named later (f x)) later.spot Twice) (map f (drop (i + 1) xs)))
    → noted now (repeats (map f (drop (i + 1) xs))) ≡ goal
noted_repeats f xs i x held now goal h e before step =
    let later : List Refusal = flat_map (λ later. fault_if (is_named later (f x)) later.spot Twice) (map f (drop (i + 1) xs)) in
    let more : List Refusal = repeats (map f (drop (i + 1) xs)) in
    let split : noted held (repeats (map f (drop i xs))) ≡ noted held (later ++ more) = ap (λ ys. noted held (repeats (map f ys))) (at_drop xs i x h e) in
    ap (λ o. noted o more) step ∙ sym (noted_append held later more) ∙ sym split ∙ before

pub ruleset noting = (noted_append)

pub ruleset looping = (noted_more, noted_mapped, noted_repeats)

pub map_same : {T : Type 0} (xs : List T) → map (λ (x : T). x) xs ≡ xs
map_same [] = refl
map_same (x ∷ xs) = ap (λ ys. x ∷ ys) (map_same xs)
