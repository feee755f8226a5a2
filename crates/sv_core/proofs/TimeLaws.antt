-- No two published operations have one time and one site.
use Rattle.std.proofs.Common.{◌≡◌, ◌⊎◌, inl, inr, ℕ, ◌<◌, [], ◌∷◌, length, Some, slice_get, sym, ap, subst, ◌∙◌, arith}
use Rattle.sv_effect.specs.declared.ops.Op.{Op}
use Rattle.sv_effect.specs.Laws.{Differ}
use Rattle.sv_core.specs.declared.entries.Entry.{Entry}
use Rattle.sv_core.specs.Document.{Document}
use Rattle.sv_core.specs.History.{History, cut_of, news, published}
use Rattle.sv_core.specs.Laws.{IsLawful}
use Rattle.sv_core.proofs.BirthLaws.{New, birth, new_op, same_pair, lawful_before}
use Rattle.sv_core.proofs.MediumLaws.{news_get}

-- what an entry publishes is later than what stood before it of its site
later_than : (doc : Document) (h : History) (e : Entry) (o q p : ℕ) (a b : Op) → IsLawful doc (e ∷ h) → slice_get (published doc h o) q ≡ Some a
    → news doc (published doc h) h e ≡ Some (p, b) → a.site ≡ b.site → a.time < b.time
later_than doc h e o q p a b lawful old new site =
    let n : New doc h e p b = new_op doc h e p b lawful new in
    n.all_later o q a (subst (λ s. q < cut_of h s o) site (birth doc h (lawful_before doc e h lawful) o q a old).had) old

pub times_differ : (doc : Document) (h : History) → IsLawful doc h → Differ (published doc h)
times_differ doc [] lawful o q p r a b at_a at_b times sites = absurd cc
times_differ doc (e ∷ h) lawful o q p r a b at_a at_b times sites =
    from (times_differ doc h (lawful_before doc e h lawful) o q p r a b)
    (news_get (news doc (published doc h) h e) (published doc h) o q a at_a) (news_get (news doc (published doc h) h e) (published doc h) p r b at_b)
  where
    from : (slice_get (published doc h o) q ≡ Some a → slice_get (published doc h p) r ≡ Some b → a.time ≡ b.time → a.site ≡ b.site → (o ≡ p) × (q ≡ r))
        → (slice_get (published doc h o) q ≡ Some a) ⊎ ((q ≡ length (published doc h o)) × (news doc (published doc h) h e ≡ Some (o, a)))
        → (slice_get (published doc h p) r ≡ Some b) ⊎ ((r ≡ length (published doc h p)) × (news doc (published doc h) h e ≡ Some (p, b))) → (o ≡ p) × (q ≡ r)
    from ih (inl x) (inl y) = ih x y times sites
    from ih (inl x) (inr y) = let lt : a.time < b.time = later_than doc h e o q p a b lawful x y.1 sites in absurd (omega (arith, lt, times))
    from ih (inr x) (inl y) = let lt : b.time < a.time = later_than doc h e p r o b a lawful y x.1 (sym sites) in absurd (omega (arith, lt, times))
    from ih (inr x) (inr y) =
        let both : (o, a) ≡ (p, b) = same_pair (o, a) (p, b) (sym x.1 ∙ y.1) in
        let one : o ≡ p = λ i. (both i).0 in
        (one, x.0 ∙ ap (λ k. length (published doc h k)) one ∙ sym y.0)
