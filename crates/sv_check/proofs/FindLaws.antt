-- Lists that are looked through from the front.
use Rattle.std.proofs.Common.{◌≡◌, ℕ, ◌+◌, ◌<◌, ◌≤◌, cond, Bool, true, false, List, drop, get_or, length, Option, Some, None, refl, sym, ap, ◌∙◌}
use Rattle.std.specs.Prelude.{map}
use Rattle.std.specs.List.{find}
use Rattle.std.specs.Option.{option_map}
use Rattle.std.proofs.lemmas.List.{drop_more, drop_all}
use Rattle.sv_app.specs.declared.schemas.Inv.{Inv}
use Rattle.sv_app.specs.Schema.{Rule, rule_of, invariant_of}

abbrev sought : (Rule → Bool) → List Inv → Option ℕ
sought test invs = option_map (λ inv. inv.number) (find (λ inv. test inv.rule) (map invariant_of invs))

-- the first that passes the test
pub sought_here : (test : Rule → Bool) (invs : List Inv) (i : ℕ) (d : Inv) → i < length invs → test (rule_of (get_or invs i d).body) ≡ true
    → sought test (drop i invs) ≡ Some (get_or invs i d).number
sought_here test invs i d lt is = ap (sought test) (drop_more invs i d lt) ∙ here (test (rule_of (get_or invs i d).body)) is
  where
    here : (b : Bool) → b ≡ true
        → option_map (λ inv. inv.number) (cond b (Some (invariant_of (get_or invs i d))) (find (λ inv. test inv.rule) (map invariant_of (drop (i + 1) invs)))) ≡ Some (get_or invs i d).number
    here true e = refl
    here false e = absurd cc

-- one that doesn't pass it is left out
pub sought_later : (test : Rule → Bool) (invs : List Inv) (i : ℕ) (d : Inv) → i < length invs → test (rule_of (get_or invs i d).body) ≡ false
    → sought test (drop (i + 1) invs) ≡ sought test (drop i invs)
sought_later test invs i d lt is = sym (ap (sought test) (drop_more invs i d lt) ∙ later (test (rule_of (get_or invs i d).body)) is)
  where
    later : (b : Bool) → b ≡ false
        → option_map (λ inv. inv.number) (cond b (Some (invariant_of (get_or invs i d))) (find (λ inv. test inv.rule) (map invariant_of (drop (i + 1) invs)))) ≡ sought test (drop (i + 1) invs)
    later true e = absurd cc
    later false e = refl

pub sought_none : (test : Rule → Bool) (invs : List Inv) (i : ℕ) → length invs ≤ i → sought test (drop i invs) ≡ None
sought_none test invs i le = ap (sought test) (drop_all i invs le)

pub ruleset finding = (sought_here, sought_later, sought_none)
