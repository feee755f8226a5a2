-- The loops of statements, one after the other.
use Rattle.std.proofs.Common.{◌≡◌, ℕ, List, [], ◌∷◌, ◌++◌, map, refl, sym, ap, ◌∙◌, append-nil, append_assoc}
use Rattle.std.proofs.lemmas.List.{map-append}
use Rattle.sv_app.specs.Units.{Loop}

pub loops_then : (vars mid new : List ℕ) (xs ys : List Loop) → mid ≡ vars ++ map (λ l. l.variable) xs → new ≡ mid ++ map (λ l. l.variable) ys → new ≡ vars ++ map (λ l. l.variable) (xs ++ ys)
loops_then vars mid new xs ys e f = f ∙ ap (λ l. l ++ map (λ l. l.variable) ys) e ∙ append_assoc vars (map (λ l. l.variable) xs) (map (λ l. l.variable) ys) ∙ ap (λ l. vars ++ l) (sym (map-append (λ l. l.variable) xs ys))

pub loop_then : (vars new : List ℕ) (x : ℕ) (ys : List ℕ) → new ≡ (vars ++ x ∷ []) ++ ys → new ≡ vars ++ x ∷ ys
loop_then vars new x ys e = e ∙ append_assoc vars (x ∷ []) ys

pub ruleset looping = (loops_then, loop_then, append-nil)
