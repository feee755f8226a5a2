-- What was added is found, and all else as before.
use Rattle.std.proofs.Common.{◌≡◌, ◌∙◌, ap, sym, refl, nat_eq, ◌&&◌, ℕ, cond, Bool, true, false, List, [], ◌∷◌, ◌++◌, Option, Some, None, arith}
use Rattle.std.specs.Bool.{beq}
use Rattle.std.specs.Cmp.Lexicographic.{pointwise}
use Rattle.std.specs.Cmp.{bool_eq_equiv}
use Rattle.std.proofs.lemmas.Cmp.{lists_equiv}
use Rattle.sv_label.specs.declared.templates.Template.{Template}
use Rattle.sv_label.specs.Groups.{Group, is_of, template_of, found, with_template, added}
use Rattle.sv_label.specs.Laws.{FindsAdded}

abbrev Same : List Bool → List Bool → Bool
Same a b = pointwise beq a b

-- a template more, behind those of other choices
more_by : (q r : Bool) (s t : Template) (rest later : Option Template) → (q ≡ true → r ≡ true → ⊥) → rest ≡ cond r (Some t) later → cond q (Some s) rest ≡ cond r (Some t) (cond q (Some s) later)
more_by true true s t rest later apart e = let nothing : ⊥ = apart refl refl in absurd nothing
more_by true false s t rest later apart e = refl
more_by false true s t rest later apart e = e
more_by false false s t rest later apart e = e

none_by : (b : Bool) (s : Template) (o : Option Template) → cond b (Some s) o ≡ None → (b ≡ false) × (o ≡ None)
none_by true s o e = absurd cc
none_by false s o e = (refl, e)

not_both : (b : Bool) → b ≡ true → b ≡ false → ⊥
not_both true e h = absurd cc
not_both false e h = absurd cc

-- choices that are equal to both are of equal ones
meet : (a b c : List Bool) → Same a b ≡ true → Same a c ≡ true → Same c b ≡ true
meet a b c p q = sym ((lists_equiv bool_eq_equiv).congr a c b q) ∙ p

template_more : (ts : List (List Bool × Template)) (choices other : List Bool) (t : Template) → template_of choices ts ≡ None
    → template_of other (ts ++ (choices, t) ∷ []) ≡ cond (Same other choices) (Some t) (template_of other ts)
template_more [] choices other t none = refl
template_more (e ∷ ts) choices other t none =
    let both : (Same choices e.0 ≡ false) × (template_of choices ts ≡ None) = none_by (Same choices e.0) e.1 (template_of choices ts) none in
    more_by (Same other e.0) (Same other choices) e.1 t (template_of other (ts ++ (choices, t) ∷ [])) (template_of other ts)
    (λ p q. not_both (Same choices e.0) (meet other e.0 choices p q) both.0) (template_more ts choices other t both.1)

and_left : (a b : Bool) → (a && b) ≡ true → a ≡ true
and_left true b e = refl
and_left false b e = absurd cc

and_right : (a b : Bool) → (a && b) ≡ true → b ≡ true
and_right true b e = e
and_right false b e = absurd cc

and_both : (a b : Bool) → a ≡ true → b ≡ true → (a && b) ≡ true
and_both true b p q = q
and_both false b p q = absurd cc

same_number : (a b : ℕ) → nat_eq a b ≡ true → a ≡ b
same_number a b e = grind (arith, e)

number_same : (a b : ℕ) → a ≡ b → nat_eq a b ≡ true
number_same a b e = grind (arith, e)

-- units that are equal are of the same groups
alike : (k n txn unit : ℕ) (g : Group) → (nat_eq k txn && nat_eq n unit) ≡ true → is_of k n g ≡ is_of txn unit g
alike k n txn unit g e =
    ap (λ k. is_of k n g) (same_number k txn (and_left (nat_eq k txn) (nat_eq n unit) e)) ∙ ap (λ n. is_of txn n g) (same_number n unit (and_right (nat_eq k txn) (nat_eq n unit) e))

unalike : (k n txn unit : ℕ) (g : Group) → is_of txn unit g ≡ true → is_of k n g ≡ true → (nat_eq k txn && nat_eq n unit) ≡ true
unalike k n txn unit g p q =
    let a : txn ≡ g.txn = same_number txn g.txn (and_left (nat_eq txn g.txn) (nat_eq unit g.unit) p) in
    let b : unit ≡ g.unit = same_number unit g.unit (and_right (nat_eq txn g.txn) (nat_eq unit g.unit) p) in
    let c : k ≡ g.txn = same_number k g.txn (and_left (nat_eq k g.txn) (nat_eq n g.unit) q) in
    let d : n ≡ g.unit = same_number n g.unit (and_right (nat_eq k g.txn) (nat_eq n g.unit) q) in
    and_both (nat_eq k txn) (nat_eq n unit) (number_same k txn (c ∙ sym a)) (number_same n unit (d ∙ sym b))

first_by : (s p : Bool) (t : Template) → cond s (cond p (Some t) None) None ≡ cond (s && p) (Some t) None
first_by true p t = refl
first_by false p t = refl

left_out : (s p : Bool) (t : Template) (o : Option Template) → (s ≡ true → ⊥) → o ≡ cond (s && p) (Some t) o
left_out true p t o apart = let nothing : ⊥ = apart refl in absurd nothing
left_out false p t o apart = refl

put_first : (s p : Bool) (t : Template) (o : Option Template) → s ≡ true → cond p (Some t) o ≡ cond (s && p) (Some t) o
put_first true p t o e = refl
put_first false p t o e = absurd cc

step : (b q s p : Bool) (g : Group) (gs now : List Group) (k n : ℕ) (choices other : List Bool) (t : Template) → is_of k n g ≡ q → (s ≡ true → q ≡ b) → (b ≡ true → q ≡ true → s ≡ true)
    → (b ≡ true → template_of other (g.templates ++ (choices, t) ∷ []) ≡ cond p (Some t) (template_of other g.templates))
    → (b ≡ false → found now k n other ≡ cond (s && p) (Some t) (found gs k n other))
    → found (cond b (with_template g choices t ∷ gs) (g ∷ now)) k n other ≡ cond (s && p) (Some t) (found (g ∷ gs) k n other)
step true true s p g gs now k n choices other t is same both here later =
    ap (λ q. cond q (template_of other (g.templates ++ (choices, t) ∷ [])) (found gs k n other)) is ∙ here refl ∙ put_first s p t (template_of other g.templates) (both refl refl)
    ∙ ap (λ q. cond (s && p) (Some t) (cond q (template_of other g.templates) (found gs k n other))) (sym is)
step true false s p g gs now k n choices other t is same both here later =
    ap (λ q. cond q (template_of other (g.templates ++ (choices, t) ∷ [])) (found gs k n other)) is ∙ left_out s p t (found gs k n other) (λ h. not_both true refl (sym (same h)))
    ∙ ap (λ q. cond (s && p) (Some t) (cond q (template_of other g.templates) (found gs k n other))) (sym is)
step false true s p g gs now k n choices other t is same both here later =
    ap (λ q. cond q (template_of other g.templates) (found now k n other)) is ∙ left_out s p t (template_of other g.templates) (λ h. not_both true refl (same h))
    ∙ ap (λ q. cond (s && p) (Some t) (cond q (template_of other g.templates) (found gs k n other))) (sym is)
step false false s p g gs now k n choices other t is same both here later =
    ap (λ q. cond q (template_of other g.templates) (found now k n other)) is ∙ later refl
    ∙ ap (λ q. cond (s && p) (Some t) (cond q (template_of other g.templates) (found gs k n other))) (sym is)

here_none : (b : Bool) (o rest : Option Template) → b ≡ true → cond b o rest ≡ None → o ≡ None
here_none true o rest e h = h
here_none false o rest e h = absurd cc

later_none : (b : Bool) (o rest : Option Template) → b ≡ false → cond b o rest ≡ None → rest ≡ None
later_none true o rest e h = absurd cc
later_none false o rest e h = h

pub finds_added : FindsAdded
finds_added [] txn unit choices t none k n other = first_by (nat_eq k txn && nat_eq n unit) (Same other choices) t
finds_added (g ∷ gs) txn unit choices t none k n other =
    step (is_of txn unit g) (is_of k n g) (nat_eq k txn && nat_eq n unit) (Same other choices) g gs (added gs txn unit choices t) k n choices other t refl
    (alike k n txn unit g) (unalike k n txn unit g)
    (λ e. template_more g.templates choices other t (here_none (is_of txn unit g) (template_of choices g.templates) (found gs txn unit choices) e none))
    (λ e. finds_added gs txn unit choices t (later_none (is_of txn unit g) (template_of choices g.templates) (found gs txn unit choices) e none) k n other)
