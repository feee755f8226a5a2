-- Needs that are added one after the other.
use Rattle.std.proofs.Common.{◌≡◌, Bool, cond, ℕ, ◌<◌, ◌≤◌, ◌+◌, length, take, drop, get_or, map, List, [], ◌∷◌, ◌++◌, refl, sym, ap, ◌∙◌, append-nil, append_assoc}
use Rattle.std.specs.List.{list_any}
use Rattle.std.proofs.lemmas.List.{at_drop_more, at_drop_all, take_more, map-append}
use Rattle.std.specs.Prelude.{slice_get}
use Rattle.sv_app.specs.Schema.{Declaration}
use Rattle.sv_effect.specs.declared.ops.Need.{Need}
use Rattle.sv_effect.specs.declared.ops.RowEffect.{RowEffect}
use Rattle.sv_effect.specs.Needs.{is_same_need, once, kept_need, present_needs, needs_from}
use Rattle.sv_effect.specs.RunChanges.{Effect, effect_of}

pub once_append : (held xs ys : List Need) → once held (xs ++ ys) ≡ once (once held xs) ys
once_append held [] ys = refl
once_append held (x ∷ xs) ys = once_append (cond (list_any (is_same_need x) held) held (held ++ x ∷ [])) xs ys

pub once_then : (held mid new xs ys : List Need) → mid ≡ once held xs → new ≡ once mid ys → new ≡ once held (xs ++ ys)
once_then held mid new xs ys e f = f ∙ ap (λ l. once l ys) e ∙ sym (once_append held xs ys)

pub ruleset adding = (once_then)

pub put_then : {A : Type 0} (vals mid new xs ys : List A) → mid ≡ vals ++ xs → new ≡ mid ++ ys → new ≡ vals ++ (xs ++ ys)
put_then vals mid new xs ys e f = f ∙ ap (λ l. l ++ ys) e ∙ append_assoc vals xs ys

pub ruleset putting = (put_then, append-nil)

-- the needs of the changes from one on
abbrev pub needs_after : List Declaration → List RowEffect → ℕ → List Need
needs_after schema es i = needs_from schema (map effect_of es) (map effect_of (take i es)) (map effect_of (drop i es))

taken : (es : List RowEffect) (i : ℕ) (d : RowEffect) → i < length es → map effect_of (take (i + 1) es) ≡ map effect_of (take i es) ++ effect_of (get_or es i d) ∷ []
taken es i d h = ap (map effect_of) (take_more es i d h) ∙ map-append effect_of (take i es) (get_or es i d ∷ [])

needs_cons : (schema : List Declaration) (all earlier : List Effect) (e : Effect) (es : List Effect)
    → needs_from schema all earlier (e ∷ es) ≡ (kept_need earlier e ++ present_needs schema all (slice_get schema e.place.table) e) ++ needs_from schema all (earlier ++ e ∷ []) es
needs_cons schema all earlier e es = refl

pub need_next : (schema : List Declaration) (es : List RowEffect) (i : ℕ) (d : RowEffect) (held mid : List Need) → i < length es
    → mid ≡ once held (kept_need (map effect_of (take i es)) (effect_of (get_or es i d)) ++ present_needs schema (map effect_of es) (slice_get schema (get_or es i d).table) (effect_of (get_or es i d)))
    → once mid (needs_after schema es (i + 1)) ≡ once held (needs_after schema es i)
need_next schema es i d held mid h e =
    let all = map effect_of es in
    let earlier = map effect_of (take i es) in
    let x = effect_of (get_or es i d) in
    let rest = map effect_of (drop (i + 1) es) in
    let these = kept_need earlier x ++ present_needs schema all (slice_get schema x.place.table) x in
    let split : needs_after schema es i ≡ needs_from schema all earlier (x ∷ rest) = at_drop_more (λ l. needs_from schema all earlier (map effect_of l)) es i d h in
    let whole : needs_after schema es i ≡ these ++ needs_after schema es (i + 1) = split ∙ needs_cons schema all earlier x rest ∙ ap (λ l. these ++ needs_from schema all l rest) (sym (taken es i d h)) in
    ap (λ l. once l (needs_after schema es (i + 1))) e ∙ sym (once_append held these (needs_after schema es (i + 1))) ∙ ap (once held) (sym whole)

pub need_last : (schema : List Declaration) (es : List RowEffect) (i : ℕ) (held : List Need) → length es ≤ i → once held (needs_after schema es i) ≡ held
need_last schema es i held h = at_drop_all (λ l. once held (needs_from schema (map effect_of es) (map effect_of (take i es)) (map effect_of l))) es i h

pub ruleset walking = (need_next, need_last)
