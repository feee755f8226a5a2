-- How the bytes that a sink took grow, write after write.
use Rattle.std.proofs.Common.{◌≡◌, ℕ, ◌-◌, List, [], ◌++◌, length, take, drop, Option, None, Some, refl, sym, ap, ◌∙◌, subst, append-nil, append_assoc, arith}
use Rattle.std.proofs.lemmas.List.{take-append-drop, take_all, length-drop}
use Rattle.sv_io.specs.Flows.{Grew, TookBefore, TookFront}

pub Grew-nil : (taken : Option (List ℕ)) → Grew taken taken []
Grew-nil None = tt
Grew-nil (Some bytes) = sym (append-nil bytes)

pub Grew-trans : (old mid new : Option (List ℕ)) (first second : List ℕ) → Grew old mid first → Grew mid new second → Grew old new (first ++ second)
Grew-trans old mid None first second p q = tt
Grew-trans old None (Some new) first second p q = absurd q
Grew-trans None (Some mid) (Some new) first second p q = absurd p
Grew-trans (Some old) (Some mid) (Some new) first second p q = q ∙ ap (λ xs. xs ++ second) p ∙ append_assoc old first second

pub took_none : (taken : Option (List ℕ)) (bytes : List ℕ) → TookBefore taken taken bytes bytes
took_none taken bytes = record { front = []; split = refl; grew = Grew-nil taken }

pub took_all : (old new : Option (List ℕ)) (bytes : List ℕ) → TookBefore old new bytes [] → Grew old new bytes
took_all old new bytes took = subst (Grew old new) (sym (took.split ∙ append-nil took.front)) took.grew

-- what stands behind the first bytes of a list, as a slice of it
tail_slice : (count : ℕ) (rest : List ℕ) → take (length rest - count) (drop count rest) ≡ drop count rest
tail_slice count rest = take_all (length rest - count) (drop count rest) (omega (arith, length-drop count rest))

pub took_more : (old mid new : Option (List ℕ)) (bytes rest : List ℕ) (count : ℕ) → TookBefore old mid bytes rest → Grew mid new (take count rest)
    → TookBefore old new bytes (take (length rest - count) (drop count rest))
took_more old mid new bytes rest count took grew = record {
  front = took.front ++ take count rest;
  split = took.split ∙ ap (λ xs. took.front ++ xs) (sym (take-append-drop count rest)) ∙ sym (append_assoc took.front (take count rest) (drop count rest)) ∙ ap (λ xs. (took.front ++ take count rest) ++ xs) (sym (tail_slice count rest));
  grew = Grew-trans old mid new took.front (take count rest) took.grew grew;
}

-- where a write failed
pub took_front : (old mid new : Option (List ℕ)) (bytes rest : List ℕ) → TookBefore old mid bytes rest → new ≡ mid → TookFront old new bytes
took_front old mid new bytes rest took stands = record { rest = rest; took = subst (λ taken. TookBefore old taken bytes rest) (sym stands) took }

pub ruleset writing = (took_none, took_all, took_more, took_front)
