-- The template that is found for a path of a unit is one of that path.
use Rattle.std.proofs.Common.{◌≡◌, ◌∙◌, ◌⊎◌, inl, inr, ap, sym, subst, refl, ◌==◌, ◌&&◌, ◌+◌, ℕ, zero, suc, Bool, true, false, if◌then◌else◌, List, [], ◌∷◌, map, Some, None, slice_get, All, arith}
use Rattle.std.specs.Bool.{beq}
use Rattle.std.specs.Prelude.{not}
use Rattle.std.specs.Cmp.{booleans_Decides}
use Rattle.std.specs.Cmp.Lexicographic.{pointwise}
use Rattle.std.specs.List.{filter}
use Rattle.std.proofs.lemmas.List.Elements.{All-head, All-tail}
use Rattle.std.proofs.lemmas.Slice.Eq.{slice_eq-Decides}
use Rattle.sv_app.specs.Schema.{Declaration}
use Rattle.sv_app.specs.Trees.{Block, Transaction}
use Rattle.sv_app.specs.Units.{units}
use Rattle.sv_app.proofs.ListLaws.{Stands, contained, same_some, front_at, back_stands, in_either}
use Rattle.sv_paths.specs.declared.answers.Path.{Path}
use Rattle.sv_paths.specs.Numbered.{Part, numbered_from}
use Rattle.sv_paths.specs.Paths.{IsPath, AreAllPaths}
use Rattle.sv_label.specs.declared.templates.Template.{Template}
use Rattle.sv_label.specs.Groups.{Group, is_of, template_of, found}
use Rattle.sv_listing.specs.Frugal.{IsTemplate, leads_on, choices_on, IsGroup, AreGroups, NoUnits, WithGroup, WithNone, parts_from, Frugal}

-- ---- choices among those of the paths that lead on

same_choices : (a b : List Bool) → pointwise beq a b ≡ true → a ≡ b
same_choices a b e = (slice_eq-Decides booleans_Decides a b (pointwise beq a b) refl).0 e

choices_same : (a b : List Bool) → a ≡ b → pointwise beq a b ≡ true
choices_same a b e = (slice_eq-Decides booleans_Decides a b (pointwise beq a b) refl).1 e

leading : (paths : List Path) (k : ℕ) (path : Path) → slice_get paths k ≡ Some path → path.aborts ≡ false → Stands (choices_on paths) path.choices
leading [] k path at leads = absurd cc
leading (p ∷ paths) k path at leads = by p.aborts refl k at (λ j here. leading paths j path here leads)
  where
    by : (b : Bool) → p.aborts ≡ b → (k : ℕ) → slice_get (p ∷ paths) k ≡ Some path → ((j : ℕ) → slice_get paths j ≡ Some path → Stands (choices_on paths) path.choices)
        → Stands (map (λ (path : Path). path.choices) (if leads_on p then p ∷ filter leads_on paths else filter leads_on paths)) path.choices
    by true is zero at ih = let same : p ≡ path = cc in let off : true ≡ false = sym is ∙ ap (λ (p : Path). p.aborts) same ∙ leads in absurd cc
    by true is (suc k) at ih = subst (λ b. Stands (map (λ (path : Path). path.choices) (if not b then p ∷ filter leads_on paths else filter leads_on paths)) path.choices) (sym is) (ih k at)
    by false is k at ih = subst (λ b. Stands (map (λ (path : Path). path.choices) (if not b then p ∷ filter leads_on paths else filter leads_on paths)) path.choices) (sym is) (within k at)
      where
        within : (k : ℕ) → slice_get (p ∷ paths) k ≡ Some path → Stands (p.choices ∷ choices_on paths) path.choices
        within zero at = let same : p ≡ path = cc in record { number = 0; at = ap (λ (p : Path). Some p.choices) same }
        within (suc k) at = let later : Stands (choices_on paths) path.choices = ih k at in record { number = suc later.number; at = later.at }

is_among : (body : Block) (paths : List Path) (choices : List Bool) → AreAllPaths body paths → IsPath body false choices → Stands (choices_on paths) choices
is_among body paths choices all is =
    let one : Path = record { choices = choices; aborts = false } in
    let stands : Stands paths one = contained paths one ((all.each one).1 is) in
    leading paths stands.number one stands.at refl

-- ---- templates of one unit

module _ (schema : List Declaration) (txns : List Transaction) (part : Part) (choices : List Bool) where
  record HasOne (ts : List (List Bool × Template)) : Type 0 where
    template : Template
    stands : template_of choices ts ≡ Some template
    is : IsTemplate schema txns part choices template

  one_of : (ts : List (List Bool × Template)) (k : ℕ) → slice_get (map (λ (e : List Bool × Template). e.0) ts) k ≡ Some choices → All (λ (e : List Bool × Template). IsTemplate schema txns part e.0 e.1) ts → HasOne ts
  one_of [] k at all = absurd cc
  one_of (e ∷ ts) k at all =
      by (pointwise beq choices e.0) refl k at (λ j here. one_of ts j here (All-tail (λ (e : List Bool × Template). IsTemplate schema txns part e.0 e.1) e ts all))
    where
      by : (b : Bool) → pointwise beq choices e.0 ≡ b → (k : ℕ) → slice_get (map (λ (e : List Bool × Template). e.0) (e ∷ ts)) k ≡ Some choices
          → ((j : ℕ) → slice_get (map (λ (e : List Bool × Template). e.0) ts) j ≡ Some choices → HasOne ts) → HasOne (e ∷ ts)
      by true same k at ih = record {
        template = e.1;
        stands = ap (λ b. if b then Some e.1 else template_of choices ts) same;
        is = subst (λ cs. IsTemplate schema txns part cs e.1) (sym (same_choices choices e.0 same)) (All-head (λ (e : List Bool × Template). IsTemplate schema txns part e.0 e.1) e ts all);
      }
      by false other zero at ih = let same : e.0 ≡ choices = cc in let off : true ≡ false = sym (choices_same choices e.0 (sym same)) ∙ other in absurd cc
      by false other (suc k) at ih =
          let later : HasOne ts = ih k at in record {
            template = later.template;
            stands = ap (λ b. if b then Some e.1 else template_of choices ts) other ∙ later.stands;
            is = later.is;
          }

  of_group : (paths : List Path) (g : Group) → AreAllPaths part.body paths → IsGroup schema txns part paths g → IsPath part.body false choices → HasOne g.templates
  of_group paths g all is path =
      let stands : Stands (choices_on paths) choices = is_among part.body paths choices all path in
      one_of g.templates stands.number (ap (λ cs. slice_get cs stands.number) is.templates.choices_are ∙ stands.at) is.templates.each

  -- ---- the group of the unit

  pub record HasFound (groups : List Group) : Type 0 where
    pub template : Template
    pub stands : found groups part.txn part.number choices ≡ Some template
    pub is : IsTemplate schema txns part choices template

  -- a unit with these numbers is this one
  abbrev IsOnly : List Part → Type 0
  IsOnly parts = (p : Part) → Stands parts p → p.txn ≡ part.txn → p.number ≡ part.number → p ≡ part

  behind : (p : Part) (parts : List Part) → IsOnly (p ∷ parts) → IsOnly parts
  behind p parts only q here = only q (record { number = suc here.number; at = here.at })

  first_or : (p : Part) (parts : List Part) → Stands (p ∷ parts) part → (p ≡ part) ⊎ Stands parts part
  first_or p parts here = by here.number here.at
    where
      by : (k : ℕ) → slice_get (p ∷ parts) k ≡ Some part → (p ≡ part) ⊎ Stands parts part
      by zero at = inl cc
      by (suc k) at = inr (record { number = k; at = at })

  numbers_of : (g : Group) → is_of part.txn part.number g ≡ true → (part.txn ≡ g.txn) × (part.number ≡ g.unit)
  numbers_of g e = by (part.txn == g.txn) refl (part.number == g.unit) refl e
    where
      by : (a : Bool) → (part.txn == g.txn) ≡ a → (b : Bool) → (part.number == g.unit) ≡ b → (a && b) ≡ true → (part.txn ≡ g.txn) × (part.number ≡ g.unit)
      by true p true q e = (grind (arith, p), grind (arith, q))
      by true p false q e = absurd cc
      by false p b q e = absurd cc

  same_numbers : (g : Group) → g.txn ≡ part.txn → g.unit ≡ part.number → is_of part.txn part.number g ≡ true
  same_numbers g p q = by (part.txn == g.txn) refl (part.number == g.unit) refl
    where
      by : (a : Bool) → (part.txn == g.txn) ≡ a → (b : Bool) → (part.number == g.unit) ≡ b → (a && b) ≡ true
      by true x true y = refl
      by true x false y = grind (arith, y, q)
      by false x b y = grind (arith, x, p)

  found_in : (parts : List Part) (groups : List Group) → AreGroups schema txns parts groups → IsOnly parts → Stands parts part → IsPath part.body false choices → HasFound groups
  found_in _ _ NoUnits only here path = let at : None ≡ Some part = here.at in absurd cc
  found_in _ _ (WithGroup p parts paths g groups all is later) only here path =
      by (is_of part.txn part.number g) refl (first_or p parts here) (λ there. found_in parts groups later (behind p parts only) there path)
    where
      by : (b : Bool) → is_of part.txn part.number g ≡ b → (p ≡ part) ⊎ Stands parts part → (Stands parts part → HasFound groups) → HasFound (g ∷ groups)
      by true same at ih =
          let numbers : (part.txn ≡ g.txn) × (part.number ≡ g.unit) = numbers_of g same in
          let this : p ≡ part = only p (record { number = 0; at = refl }) (sym is.txn_is ∙ sym numbers.0) (sym is.unit_is ∙ sym numbers.1) in
          let one : HasOne g.templates = of_group paths g (subst (λ (q : Part). AreAllPaths q.body paths) this all) (subst (λ (q : Part). IsGroup schema txns q paths g) this is) path in
          record {
            template = one.template;
            stands = ap (λ b. if b then template_of choices g.templates else found groups part.txn part.number choices) same ∙ one.stands;
            is = one.is;
          }
      by false other (inl this) ih =
          let off : true ≡ false = sym (same_numbers g (is.txn_is ∙ ap (λ (q : Part). q.txn) this) (is.unit_is ∙ ap (λ (q : Part). q.number) this)) ∙ other in absurd cc
      by false other (inr there) ih =
          let one : HasFound groups = ih there in record {
            template = one.template;
            stands = ap (λ b. if b then template_of choices g.templates else found groups part.txn part.number choices) other ∙ one.stands;
            is = one.is;
          }
  found_in _ _ (WithNone p parts paths groups all none later) only here path =
      by (first_or p parts here) (λ there. found_in parts groups later (behind p parts only) there path)
    where
      by : (p ≡ part) ⊎ Stands parts part → (Stands parts part → HasFound groups) → HasFound groups
      by (inl this) ih =
          let stands : Stands (choices_on paths) choices = is_among part.body paths choices (subst (λ (q : Part). AreAllPaths q.body paths) this all) path in
          let nothing : None ≡ Some choices = sym (ap (λ cs. slice_get cs stands.number) none) ∙ stands.at in absurd cc
      by (inr there) ih = ih there

-- ---- the units of all transactions

record IsNumbered (from txn : ℕ) (bodies : List Block) (p : Part) : Type 0 where
  place : ℕ
  txn_is : p.txn ≡ txn
  number_is : p.number ≡ from + place
  at : slice_get bodies place ≡ Some p.body

of_numbered : (from txn : ℕ) (bodies : List Block) (k : ℕ) (p : Part) → slice_get (numbered_from from txn bodies) k ≡ Some p → IsNumbered from txn bodies p
of_numbered from txn [] k p at = absurd cc
of_numbered from txn (body ∷ bodies) zero p at =
    let same : (record { txn = txn; number = from; body = body }) ≡ p = cc in
    record { place = 0; txn_is = sym (ap (λ (p : Part). p.txn) same); number_is = sym (ap (λ (p : Part). p.number) same) ∙ omega arith; at = ap (λ (p : Part). Some p.body) same }
of_numbered from txn (body ∷ bodies) (suc k) p at =
    let later : IsNumbered (suc from) txn bodies p = of_numbered (suc from) txn bodies k p at in
    record { place = suc later.place; txn_is = later.txn_is; number_is = omega (arith, later.number_is); at = later.at }

numbered_at : (from txn : ℕ) (bodies : List Block) (k : ℕ) (body : Block) → slice_get bodies k ≡ Some body
    → slice_get (numbered_from from txn bodies) k ≡ Some (record { txn = txn; number = from + k; body = body })
numbered_at from txn [] k body at = absurd cc
numbered_at from txn (b ∷ bodies) zero body at =
    let same : b ≡ body = cc in let none : from ≡ from + 0 = omega arith in λ i. Some (record { txn = txn; number = none i; body = same i })
numbered_at from txn (b ∷ bodies) (suc k) body at =
    let more : suc from + k ≡ from + suc k = omega arith in
    numbered_at (suc from) txn bodies k body at ∙ ap (λ n. Some (record { txn = txn; number = n; body = body })) more

record IsUnitOf (from : ℕ) (txns : List Transaction) (p : Part) : Type 0 where
  place : ℕ
  txn : Transaction
  txn_is : p.txn ≡ from + place
  declared : slice_get txns place ≡ Some txn
  at : slice_get (units txn.body) p.number ≡ Some p.body

of_parts : (from : ℕ) (txns : List Transaction) (p : Part) → Stands (parts_from from txns) p → IsUnitOf from txns p
of_parts from [] p here = let at : None ≡ Some p = here.at in absurd cc
of_parts from (txn ∷ txns) p here = by (in_either (numbered_from 0 from (units txn.body)) (parts_from (suc from) txns) here.number p here.at) (of_parts (suc from) txns p)
  where
    by : Stands (numbered_from 0 from (units txn.body)) p ⊎ Stands (parts_from (suc from) txns) p → (Stands (parts_from (suc from) txns) p → IsUnitOf (suc from) txns p) → IsUnitOf from (txn ∷ txns) p
    by (inl own) ih =
        let is : IsNumbered 0 from (units txn.body) p = of_numbered 0 from (units txn.body) own.number p own.at in
        let number : is.place ≡ p.number = omega (arith, is.number_is) in
        record { place = 0; txn = txn; txn_is = omega (arith, is.txn_is); declared = refl; at = subst (λ n. slice_get (units txn.body) n ≡ Some p.body) number is.at }
    by (inr other) ih =
        let later : IsUnitOf (suc from) txns p = ih other in
        record { place = suc later.place; txn = later.txn; txn_is = omega (arith, later.txn_is); declared = later.declared; at = later.at }

part_at : (from : ℕ) (txns : List Transaction) (j : ℕ) (txn : Transaction) (k : ℕ) (body : Block) → slice_get txns j ≡ Some txn → slice_get (units txn.body) k ≡ Some body
    → Stands (parts_from from txns) (record { txn = from + j; number = k; body = body })
part_at from [] j txn k body declared at = absurd cc
part_at from (t ∷ txns) zero txn k body declared at =
    let same : t ≡ txn = cc in let none : from ≡ from + 0 = omega arith in let own : 0 + k ≡ k = omega arith in
    record {
      number = k;
      at = front_at (numbered_from 0 from (units t.body)) (parts_from (suc from) txns) k (record { txn = from + 0; number = k; body = body })
          (numbered_at 0 from (units t.body) k body (ap (λ (t : Transaction). slice_get (units t.body) k) same ∙ at) ∙ (λ i. Some (record { txn = none i; number = own i; body = body })));
    }
part_at from (t ∷ txns) (suc j) txn k body declared at =
    let more : suc from + j ≡ from + suc j = omega arith in
    back_stands (numbered_from 0 from (units t.body)) (parts_from (suc from) txns) (record { txn = from + suc j; number = k; body = body })
    (subst (λ n. Stands (parts_from (suc from) txns) (record { txn = n; number = k; body = body })) more (part_at (suc from) txns j txn k body declared at))

abbrev pub part_for : ℕ → ℕ → Block → Part
part_for number unit body = record { txn = number; number = unit; body = body }

pub found_template : (schema : List Declaration) (txns : List Transaction) (groups : List Group) → Frugal schema txns groups → (number unit : ℕ) (txn : Transaction) (body : Block) (choices : List Bool)
    → slice_get txns number ≡ Some txn → slice_get (units txn.body) unit ≡ Some body → IsPath body false choices → HasFound schema txns (part_for number unit body) choices groups
found_template schema txns groups frugal number unit txn body choices declared at path =
    found_in schema txns (part_for number unit body) choices (parts_from 0 txns) groups frugal only (subst (λ n. Stands (parts_from 0 txns) (part_for n unit body)) own (part_at 0 txns number txn unit body declared at)) path
  where
    own : 0 + number ≡ number
    own = omega arith

    only : (p : Part) → Stands (parts_from 0 txns) p → p.txn ≡ number → p.number ≡ unit → p ≡ part_for number unit body
    only p here p_txn p_unit =
        let is : IsUnitOf 0 txns p = of_parts 0 txns p here in
        let place : is.place ≡ number = omega (arith, is.txn_is, p_txn) in
        let same : is.txn ≡ txn = same_some (slice_get txns number) is.txn txn (subst (λ n. slice_get txns n ≡ Some is.txn) place is.declared) declared in
        let here_at : slice_get (units txn.body) unit ≡ Some p.body = subst (λ (t : Transaction). slice_get (units t.body) unit ≡ Some p.body) same (subst (λ n. slice_get (units is.txn.body) n ≡ Some p.body) p_unit is.at) in
        let bodies : p.body ≡ body = same_some (slice_get (units txn.body) unit) p.body body here_at at in
        λ i. record { txn = p_txn i; number = p_unit i; body = bodies i }
