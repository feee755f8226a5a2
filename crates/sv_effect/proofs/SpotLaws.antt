-- A place among keys in order is found by passing the keys before it.
use Rattle.std.proofs.Common.{◌≡◌, ℕ, ◌<◌, ◌≤◌, ◌+◌, List, [], ◌∷◌, ◌++◌, take, drop, get_or, length, insert, take-append-drop, refl, sym, ap, ◌∙◌, append_assoc, append-nil, add-one, arith}
use Rattle.std.proofs.lemmas.List.{take_more, drop_more, drop_all, take_all}
use Rattle.std.specs.declared.cmp.Ordering.TheVariants.{Less, Equal, Greater}
use Rattle.sv_value.specs.declared.values.Key.{Key}
use Rattle.sv_value.specs.Orders.{key_cmp}
use Rattle.sv_effect.specs.Keys.{with_by, with_key, without_by, without_key, StandsAt, IsMissingAt}

-- Those that were passed stay where they are: with the key and without it, the others change alone.
pub record Passes (j : Key) (ks : List Key) (at : ℕ) : Type 0 where
  pub with_it : with_key j ks ≡ take at ks ++ with_key j (drop at ks)
  pub without_it : without_key j ks ≡ take at ks ++ without_key j (drop at ks)

pub none_passed : (j : Key) (ks : List Key) → Passes j ks 0
none_passed j ks = record { with_it = refl; without_it = refl }

-- what stands at a place and behind it
split_at : (ks : List Key) (at : ℕ) (x : Key) → at < length ks → x ≡ get_or ks at x → drop at ks ≡ x ∷ drop (at + 1) ks
split_at ks at x h is = drop_more ks at x h ∙ ap (λ y. y ∷ drop (at + 1) ks) (sym is)

one_more : (ks : List Key) (at : ℕ) (x : Key) → at < length ks → x ≡ get_or ks at x → (rest : List Key) → take at ks ++ x ∷ rest ≡ take (at + 1) ks ++ rest
one_more ks at x h is rest = sym (ap (λ l. l ++ rest) (take_more ks at x h ∙ ap (λ y. take at ks ++ y ∷ []) (sym is)) ∙ append_assoc (take at ks) (x ∷ []) rest)

pub one_passed : (j : Key) (ks : List Key) (at : ℕ) (x : Key) → Passes j ks at → at < length ks → x ≡ get_or ks at x → key_cmp j x ≡ Greater → Passes j ks (at + 1)
one_passed j ks at x p h is e = record {
  with_it = p.with_it ∙ ap (λ l. take at ks ++ with_key j l) (split_at ks at x h is) ∙ ap (λ o. take at ks ++ with_by o j x (drop (at + 1) ks) (with_key j (drop (at + 1) ks))) e ∙ one_more ks at x h is (with_key j (drop (at + 1) ks));
  without_it = p.without_it ∙ ap (λ l. take at ks ++ without_key j l) (split_at ks at x h is) ∙ ap (λ o. take at ks ++ without_by o x (drop (at + 1) ks) (without_key j (drop (at + 1) ks))) e ∙ one_more ks at x h is (without_key j (drop (at + 1) ks));
}

pub stands_here : (j : Key) (ks : List Key) (at : ℕ) (x : Key) → Passes j ks at → at < length ks → x ≡ get_or ks at x → key_cmp j x ≡ Equal → StandsAt j ks at
stands_here j ks at x p h is e = record {
  within = h;
  with_it = p.with_it ∙ ap (λ l. take at ks ++ with_key j l) (split_at ks at x h is) ∙ ap (λ o. take at ks ++ with_by o j x (drop (at + 1) ks) (with_key j (drop (at + 1) ks))) e
      ∙ ap (λ l. take at ks ++ l) (sym (split_at ks at x h is)) ∙ take-append-drop at ks;
  without_it = p.without_it ∙ ap (λ l. take at ks ++ without_key j l) (split_at ks at x h is) ∙ ap (λ o. take at ks ++ without_by o x (drop (at + 1) ks) (without_key j (drop (at + 1) ks))) e
      ∙ ap (λ n. take at ks ++ drop n ks) (add-one at);
}

pub missing_here : (j : Key) (ks : List Key) (at : ℕ) (x : Key) → Passes j ks at → at < length ks → x ≡ get_or ks at x → key_cmp j x ≡ Less → IsMissingAt j ks at
missing_here j ks at x p h is e = record {
  within = omega arith;
  with_it = p.with_it ∙ ap (λ l. take at ks ++ with_key j l) (split_at ks at x h is) ∙ ap (λ o. take at ks ++ with_by o j x (drop (at + 1) ks) (with_key j (drop (at + 1) ks))) e
      ∙ ap (λ l. take at ks ++ j ∷ l) (sym (split_at ks at x h is));
  without_it = p.without_it ∙ ap (λ l. take at ks ++ without_key j l) (split_at ks at x h is) ∙ ap (λ o. take at ks ++ without_by o x (drop (at + 1) ks) (without_key j (drop (at + 1) ks))) e
      ∙ ap (λ l. take at ks ++ l) (sym (split_at ks at x h is)) ∙ take-append-drop at ks;
}

pub missing_after : (j : Key) (ks : List Key) (at : ℕ) → Passes j ks at → at ≤ length ks → length ks ≤ at → IsMissingAt j ks (length ks)
missing_after j ks at p low past =
    let all : at ≡ length ks = omega arith in
    let none : drop at ks ≡ [] = drop_all at ks past in
    let with_it : with_key j ks ≡ insert ks at j = p.with_it ∙ ap (λ l. take at ks ++ with_key j l) none ∙ ap (λ l. take at ks ++ j ∷ l) (sym none) in record {
      within = omega arith;
      with_it = with_it ∙ ap (λ n. insert ks n j) all;
      without_it = p.without_it ∙ ap (λ l. take at ks ++ without_key j l) none ∙ append-nil (take at ks) ∙ take_all at ks past;
    }

pub ruleset spotting = (none_passed, one_passed, stands_here, missing_here, missing_after)
