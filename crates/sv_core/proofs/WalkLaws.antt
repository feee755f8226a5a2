-- From one closed cut to another by operations in causal order: the history gives the order.
use Rattle.std.proofs.Common.{◌≡◌, ◌⊎◌, inl, inr, ℕ, suc, ◌<◌, ◌≤◌, ◌==◌, if◌then◌else◌, [], ◌∷◌, ◌++◌, length, drop, Option, Some, None, slice_get, refl, sym, subst, ◌∙◌, arith}
use Rattle.std.specs.Prelude.{min, max}
use Rattle.std.proofs.lemmas.Bool.{cases_eq}
use Rattle.std.proofs.lemmas.Bool.Decides.{nat_tests}
use Rattle.sv_value.specs.Cuts.{counts, Covers, more}
use Rattle.sv_effect.specs.declared.ops.Op.{Op}
use Rattle.sv_effect.specs.Cut.{Cut, Medium, Lies, Closed}
use Rattle.sv_core.specs.Document.{Document}
use Rattle.sv_core.specs.History.{History, news, with_news, published, cut_of}
use Rattle.sv_core.specs.Laws.{IsLawful}
use Rattle.sv_core.proofs.ListLaws.{get_last}
use Rattle.sv_core.proofs.CutLaws.{order}
use Rattle.sv_app.proofs.TestLaws.{same_test, other_test}
use Rattle.sv_core.proofs.BirthLaws.{New, new_op, same_op, past_lies, made_cut, lawful_before}
use Rattle.sv_core.proofs.MediumLaws.{news_stay, news_long}

-- the cut on the way: what `from` has, and of what `to` has that which was published
abbrev mid : Cut → Cut → Medium → Cut
mid from to m o = max (from o) (min (to o) (length (m o)))

-- an operation that is published: its place is one that the way has come to, or it is not of the way
mid_more : (from to : Cut) (m : Medium) (n : ℕ × Op) → from n.0 ≤ length (m n.0) → length (m n.0) < to n.0 → (o : ℕ) → mid from to (with_news (Some n) m) o ≡ more (mid from to m) n.0 o
mid_more from to m n low high o = rw (news_long n m o) (split (cases_eq o n.0))
  where
    split : (o ≡ n.0) ⊎ (o ≡ n.0 → ⊥) → max (from o) (min (to o) (if o == n.0 then suc (length (m o)) else length (m o))) ≡ (if o == n.0 then suc (max (from o) (min (to o) (length (m o)))) else max (from o) (min (to o) (length (m o))))
    split (inl is) =
        let a : from o ≤ length (m o) = subst (λ x. from x ≤ length (m x)) (sym is) low in
        let b : length (m o) < to o = subst (λ x. length (m x) < to x) (sym is) high in
        rw (same_test o n.0 is) (omega (arith, a, b))
    split (inr apart) = rw (other_test o n.0 apart) refl

mid_same : (from to : Cut) (m : Medium) (n : ℕ × Op) → (length (m n.0) < from n.0) ⊎ (to n.0 ≤ length (m n.0)) → (o : ℕ) → mid from to (with_news (Some n) m) o ≡ mid from to m o
mid_same from to m n out o = rw (news_long n m o) (split (cases_eq o n.0))
  where
    split : (o ≡ n.0) ⊎ (o ≡ n.0 → ⊥) → max (from o) (min (to o) (if o == n.0 then suc (length (m o)) else length (m o))) ≡ max (from o) (min (to o) (length (m o)))
    split (inl is) = rw (same_test o n.0 is) (both (subst (λ x. (length (m x) < from x) ⊎ (to x ≤ length (m x))) (sym is) out))
      where
        both : (length (m o) < from o) ⊎ (to o ≤ length (m o)) → max (from o) (min (to o) (suc (length (m o)))) ≡ max (from o) (min (to o) (length (m o)))
        both (inl l) = omega (arith, l)
        both (inr l) = omega (arith, l)
    split (inr apart) = rw (other_test o n.0 apart) refl

pub closed_more : (m : Medium) (d : Cut) (o : ℕ) (op : Op) → Closed m d → slice_get (m o) (d o) ≡ Some op → Covers d (counts op.deps) → Closed m (more d o)
closed_more m d o op shut next ready x q op2 lt get = λ y. up y (cover (cases_eq x o) y)
  where
    up : (y : ℕ) → counts op2.deps y ≤ d y → counts op2.deps y ≤ more d o y
    up y le = grind (arith, nat_tests, le)

    cover : (x ≡ o) ⊎ (x ≡ o → ⊥) → Covers d (counts op2.deps)
    cover (inr apart) = let l : q < d x = subst (λ b. q < (if b then suc (d x) else d x)) (other_test x o apart) lt in shut x q op2 l get
    cover (inl is) = split (cases_eq q (d x))
      where
        l : q < suc (d x)
        l = subst (λ b. q < (if b then suc (d x) else d x)) (same_test x o is) lt

        split : (q ≡ d x) ⊎ (q ≡ d x → ⊥) → Covers d (counts op2.deps)
        split (inr apart) = shut x q op2 (omega (arith, l, apart)) get
        split (inl at) =
            let got : Some op2 ≡ Some op = sym get ∙ (λ i. slice_get (m x) (at i)) ∙ (λ i. slice_get (m (is i)) (d (is i))) ∙ next in
            subst (λ z. Covers d (counts z.deps)) (sym (same_op op2 op got)) ready

-- a step on the way
abbrev pub Step : Medium → Cut → Cut → (Cut → Type 0) → Type 0
Step m from to P = (d : Cut) (o : ℕ) (op : Op) → Covers d from → Covers to (more d o) → Closed m d → slice_get (m o) (d o) ≡ Some op → Covers d (counts op.deps) → P d → P (more d o)

walk_to : (doc : Document) (m : Medium) (from to : Cut) (P : Cut → Type 0) → Closed m from → Closed m to → Covers to from → P from → Step m from to P
    → (g : History) → IsLawful doc g → ((o q : ℕ) (op : Op) → slice_get (published doc g o) q ≡ Some op → slice_get (m o) q ≡ Some op)
    → Closed m (mid from to (published doc g)) × P (mid from to (published doc g))
walk_to doc m from to P shut end cover start step [] lawful stands =
    let is : from ≡ mid from to (published doc []) = λ i o. same o i in
    subst (λ d. Closed m d × P d) is (shut, start)
  where
    same : (o : ℕ) → from o ≡ max (from o) (min (to o) 0)
    same o = omega arith
walk_to doc m from to P shut end cover start step (e ∷ g) lawful stands =
    go (walk_to doc m from to P shut end cover start step g (lawful_before doc e g lawful) (λ o q op get. stands o q op (news_stay (news doc (published doc g) g e) (published doc g) o q op get))) (news doc (published doc g) g e) refl
  where
    low_mid : (x : ℕ) → from x ≤ mid from to (published doc g) x
    low_mid x = omega arith

    go : Closed m (mid from to (published doc g)) × P (mid from to (published doc g)) → (n : Option (ℕ × Op)) → news doc (published doc g) g e ≡ n
        → Closed m (mid from to (with_news n (published doc g))) × P (mid from to (with_news n (published doc g)))
    go ih None is = ih
    go ih (Some n) is = split (order (length (published doc g n.0)) (from n.0)) (order (length (published doc g n.0)) (to n.0))
      where
        stay : (length (published doc g n.0) < from n.0) ⊎ (to n.0 ≤ length (published doc g n.0)) → Closed m (mid from to (with_news (Some n) (published doc g))) × P (mid from to (with_news (Some n) (published doc g)))
        stay out = subst (λ d. Closed m d × P d) (λ i o. sym (mid_same from to (published doc g) n out o) i) ih

        split : (length (published doc g n.0) < from n.0) ⊎ (from n.0 ≤ length (published doc g n.0)) → (length (published doc g n.0) < to n.0) ⊎ (to n.0 ≤ length (published doc g n.0))
            → Closed m (mid from to (with_news (Some n) (published doc g))) × P (mid from to (with_news (Some n) (published doc g)))
        split (inl l) _ = stay (inl l)
        split (inr _) (inr l) = stay (inr l)
        split (inr low) (inl high) = subst (λ d. Closed m d × P d) (λ i o. sym (mid_more from to (published doc g) n low high o) i) (closed_more m (mid from to (published doc g)) n.0 n.1 ih.0 next ready, moved)
          where
            got : slice_get (m n.0) (length (published doc g n.0)) ≡ Some n.1
            got = stands n.0 (length (published doc g n.0)) n.1 (subst (λ k. slice_get (with_news k (published doc g) n.0) (length (published doc g n.0)) ≡ Some n.1) (sym is)
                (subst (λ b. slice_get (if b then published doc g n.0 ++ n.1 ∷ [] else published doc g n.0) (length (published doc g n.0)) ≡ Some n.1) (sym (same_test n.0 n.0 refl)) (get_last (published doc g n.0) n.1)))

            there : mid from to (published doc g) n.0 ≡ length (published doc g n.0)
            there = omega (arith, low, high)

            next : slice_get (m n.0) (mid from to (published doc g) n.0) ≡ Some n.1
            next = (λ i. slice_get (m n.0) (there i)) ∙ got

            new : New doc g e n.0 n.1
            new = new_op doc g e n.0 n.1 lawful is

            ready : Covers (mid from to (published doc g)) (counts n.1.deps)
            ready x =
                let c : counts n.1.deps x ≡ cut_of (drop new.back g) n.1.site x = λ i. made_cut doc g (lawful_before doc e g lawful) n.0 n.1 new.session new.index new.request new.back new.made i x in
                let a : cut_of (drop new.back g) n.1.site x ≤ length (published doc g x) = past_lies doc new.back g lawful.legal.1 n.1.site x in
                let b : counts n.1.deps x ≤ to x = end n.0 (length (published doc g n.0)) n.1 high got x in
                omega (arith, a, b, c)

            inside : Covers to (more (mid from to (published doc g)) n.0)
            inside x =
                let a : mid from to (with_news (Some n) (published doc g)) x ≡ more (mid from to (published doc g)) n.0 x = mid_more from to (published doc g) n low high x in
                let b : from x ≤ to x = cover x in
                let c : mid from to (with_news (Some n) (published doc g)) x ≤ to x = omega (arith, b) in
                omega (arith, a, c)

            moved : P (more (mid from to (published doc g)) n.0)
            moved = step (mid from to (published doc g)) n.0 n.1 low_mid inside ih.0 next ready ih.1

-- from one closed cut to another
pub walk : (doc : Document) (h : History) → IsLawful doc h → (from to : Cut) (P : Cut → Type 0) → Closed (published doc h) from → Closed (published doc h) to → Covers to from → Lies (published doc h) to
    → P from → Step (published doc h) from to P → P to
walk doc h lawful from to P shut end cover lies start step =
    let is : mid from to (published doc h) ≡ to = λ i o. same o i in
    subst P is (walk_to doc (published doc h) from to P shut end cover start step h lawful (λ o q op get. get)).1
  where
    same : (o : ℕ) → mid from to (published doc h) o ≡ to o
    same o = let a : from o ≤ to o = cover o in let b : to o ≤ length (published doc h o) = lies o in omega (arith, a, b)
