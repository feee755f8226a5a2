-- The variables that statements assign, one after the other.
use Rattle.std.proofs.Common.{◌≡◌, List, ◌++◌, ap, ◌∙◌, append-nil, append_assoc}

pub put_then : {A : Type 0} (vals mid new xs ys : List A) → mid ≡ vals ++ xs → new ≡ mid ++ ys → new ≡ vals ++ (xs ++ ys)
put_then vals mid new xs ys e f = f ∙ ap (λ l. l ++ ys) e ∙ append_assoc vals xs ys

pub ruleset putting = (put_then, append-nil)
