-- What is asked about an invariant is met exactly where it doesn't threaten the change, and whether it does is decided.
use Rattle.std.proofs.Common.{◌≡◌, ◌∙◌, ◌⊎◌, inl, inr, ℕ, zero, suc, ◌+◌, Bool, true, false, List, [], ◌∷◌, map, Some, slice_get, refl, sym, ap, subst, arith, All}
use Rattle.std.specs.Prelude.{◌==◌, ◌&&◌, ◌||◌, ◌↔◌, if◌then◌else◌, bytes_eq}
use Rattle.std.specs.List.{Contains, list_any, flat_map}
use Rattle.std.proofs.lemmas.List.Elements.{All-nil}
use Rattle.std.proofs.lemmas.List.Folds.{list_any-append, flat_map-map}
use Rattle.sv_value.specs.declared.values.Val.{Val}
use Rattle.sv_app.specs.declared.schemas.Check.{Check}
use Rattle.sv_app.specs.Accepted.{AcceptedSchema}
use Rattle.sv_app.specs.Conditions.{AreNumberedFrom}
use Rattle.sv_app.specs.Schema.{Rule, Bound, OneOf, Different, Refers, Invariant, Declaration}
use Rattle.sv_app.specs.Valid.{IsInvariant}
use Rattle.sv_app.proofs.ListLaws.{Stands, contained, flat_stands, any_at, any_passes, same_some}
use Rattle.sv_app.proofs.TestLaws.{same_test, test_same}
use Rattle.sv_effect.specs.Fits.{EffectFits}
use Rattle.sv_effect.specs.RunChanges.{Effect}
use Rattle.sv_effect.specs.Threatened.{writes_plain, ByCheck, ByList}
use Rattle.sv_gains.specs.Gains.{AreGains}
use Rattle.sv_linear.specs.Atoms.{Gain, ByCase, asked_tests, tests_by, cases_of, by_check, by_list}
use Rattle.sv_linear.specs.Effects.{SymEffect}
use Rattle.sv_linear.specs.Tests.{texts_in, lists}
use Rattle.sv_threat.specs.declared.ways.Way.{Way}
use Rattle.sv_threat.specs.declared.ways.Way.TheVariants as ways
use Rattle.sv_threat.specs.Laws.{IsJudged}
use Rattle.sv_threat.specs.Tests.{threatens, By, is_anywhere}
use Rattle.sv_threat.proofs.TestLaws.{IsOwn, threat_means, means_threat, own_table, parent_means, means_parent, apart}
use Rattle.sv_wp.specs.declared.questions.Question.{Question}
use Rattle.sv_wp.specs.declared.questions.Question.TheVariants.{Unique, Child, Parent, Check as Checked, List as Listed}
use Rattle.sv_wp.specs.Gives.{StandsFor, IsMetOn, AreMet}
use Rattle.sv_wp.specs.Laws.{AreTexts}
use Rattle.sv_wp.specs.Listing.{asked_by}
use Rattle.sv_wp.specs.Told.{TellsGreatest}
use Rattle.sv_wp.proofs.Decided.{tests_decide}
use Rattle.sv_wp.proofs.Others.{unique_decides, child_decides, parent_decides, nothing_asked}
use Rattle.sv_wp.proofs.Texts.{list_decides}

-- ---- the list of a numbered invariant

pub numbers_from : (first : ℕ) (invs : List Invariant) (k : ℕ) (inv : Invariant) → AreNumberedFrom first invs → slice_get invs k ≡ Some inv → inv.number ≡ first + k
numbers_from first [] k inv numbered at = absurd cc
numbers_from first (x ∷ invs) zero inv numbered at =
    let is : x ≡ inv = same_some (slice_get (x ∷ invs) zero) x inv refl at in
    let same : x.number ≡ inv.number = ap (λ (v : Invariant). v.number) is in
    omega (arith, same, numbered.0)
numbers_from first (x ∷ invs) (suc k) inv numbered at = let later : inv.number ≡ suc first + k = numbers_from (suc first) invs k inv numbered.1 at in omega (arith, later)

any_flat : (p : Invariant → Bool) (schema : List Declaration) → list_any (λ (d : Declaration). list_any p d.invs) schema ≡ list_any p (flat_map (λ (d : Declaration). d.invs) schema)
any_flat p [] = refl
any_flat p (d ∷ schema) = ap (λ b. list_any p d.invs || b) (any_flat p schema) ∙ sym (list_any-append p d.invs (flat_map (λ (d : Declaration). d.invs) schema))

both_ways : (a b : Bool) → (a ≡ true → b ≡ true) → (b ≡ true → a ≡ true) → a ≡ b
both_ways true b f g = sym (f refl)
both_ways false true f g = g refl
both_ways false false f g = refl

and_first : (a b : Bool) → (a && b) ≡ true → a ≡ true
and_first true b e = refl
and_first false b e = absurd cc

and_second : (a b : Bool) → (a && b) ≡ true → b ≡ true
and_second true b e = e
and_second false b e = absurd cc

-- invariants that are numbered differ by their numbers
one_number : (first : ℕ) (invs : List Invariant) (j k : ℕ) (x y : Invariant) → AreNumberedFrom first invs → slice_get invs j ≡ Some x → slice_get invs k ≡ Some y → x.number ≡ y.number → x ≡ y
one_number first invs j k x y numbered at other same =
    let mine : x.number ≡ first + j = numbers_from first invs j x numbered at in
    let its : y.number ≡ first + k = numbers_from first invs k y numbered other in
    let place : j ≡ k = omega (arith, mine, its, same) in
    same_some (slice_get invs k) x y (ap (slice_get invs) (sym place) ∙ at) other

pub are_texts : (schema : List Declaration) (table : ℕ) (inv : Invariant) → AcceptedSchema schema → IsInvariant schema table inv → AreTexts schema inv.number (texts_in inv.rule)
are_texts schema table inv accepted among = record { listed = λ text. any_flat (lists inv.number text) schema ∙ both_ways _ _ (listed text) (has text) }
  where
    mine : Stands (flat_map (λ (d : Declaration). d.invs) schema) inv
    mine = flat_stands (λ (d : Declaration). d.invs) schema table among.declaration inv among.declared (contained among.declaration.invs inv among.among)

    listed : (text : List ℕ) → list_any (lists inv.number text) (flat_map (λ (d : Declaration). d.invs) schema) ≡ true → list_any (bytes_eq text) (texts_in inv.rule) ≡ true
    listed text any =
        let found = any_passes (lists inv.number text) (flat_map (λ (d : Declaration). d.invs) schema) any in
        let number : found.x.number ≡ inv.number = test_same found.x.number inv.number (and_first (found.x.number == inv.number) (list_any (bytes_eq text) (texts_in found.x.rule)) found.is) in
        let same : found.x ≡ inv = one_number 1 (flat_map (λ (d : Declaration). d.invs) schema) found.number mine.number found.x inv accepted.invariants found.at mine.at number in
        subst (λ (v : Invariant). list_any (bytes_eq text) (texts_in v.rule) ≡ true) same (and_second (found.x.number == inv.number) (list_any (bytes_eq text) (texts_in found.x.rule)) found.is)

    has : (text : List ℕ) → list_any (bytes_eq text) (texts_in inv.rule) ≡ true → list_any (lists inv.number text) (flat_map (λ (d : Declaration). d.invs) schema) ≡ true
    has text any = any_at (lists inv.number text) (flat_map (λ (d : Declaration). d.invs) schema) mine.number inv mine.at (λ i. same_test inv.number inv.number refl i && any i)

-- ---- what is asked

abbrev pub way_of : Question → Way
way_of Unique = ways.Unique
way_of Child = ways.Child
way_of Parent = ways.Parent
way_of Checked = ways.Check
way_of Listed = ways.List

-- a change that fits an accepted schema and isn't plain, and the forms that stand for it
pub record IsAsked (schema : List Declaration) (change : Effect) (tape : List Val) (e : SymEffect) (told : Gain) : Type 0 where
  pub accepted : AcceptedSchema schema
  pub fits : EffectFits schema change
  pub unplain : writes_plain fits.table.columns change.writes ≡ false
  pub right : TellsGreatest schema told
  pub stands : StandsFor tape e change

module _ (schema : List Declaration) (change : Effect) (tape : List Val) (e : SymEffect) (told : Gain) (is : IsAsked schema change tape e told) where
  abbrev Means : Question → ℕ → Invariant → Declaration → Type 0
  Means question table inv d = AreMet schema tape (asked_by question told schema e table inv) ↔ (By (way_of question) schema change table d inv.rule → ⊥)

  own_gains : AreGains is.fits.table (told change.place.table)
  own_gains = is.right.each change.place.table is.fits.table is.fits.declared

  own : IsOwn schema is.fits.table change (told change.place.table)
  own = record { accepted = is.accepted; declared = is.fits.declared; fits = is.fits.fits; unplain = is.unplain; gains = own_gains }

  own_declaration : (table : ℕ) (inv : Invariant) (among : IsInvariant schema table inv) → change.place.table ≡ table → among.declaration ≡ is.fits.table
  own_declaration table inv among here = same_some (slice_get schema table) among.declaration is.fits.table among.declared (ap (slice_get schema) (sym here) ∙ is.fits.declared)

  -- the cases of a check of the change's table
  cases_asked : (d : Declaration) (inv : Invariant) (check : Check) → IsJudged schema d change inv check → AreGains d (told change.place.table)
      → AreMet schema tape (map ByCase (cases_of (told change.place.table) e.act e.writes check)) ↔ (ByCheck change change.place.table d inv.rule → ⊥)
  cases_asked d inv check judged gains =
      let decides = tests_decide schema d change inv check (told change.place.table) tape e judged gains is.stands in
      let same : flat_map asked_tests (map ByCase (cases_of (told change.place.table) e.act e.writes check)) ≡ flat_map (λ q. tests_by q.left q.most) (cases_of (told change.place.table) e.act e.writes check) =
      flat_map-map asked_tests ByCase (cases_of (told change.place.table) e.act e.writes check) in
      (λ met. decides.0 (subst (All (IsMetOn schema tape)) same met), λ safe. subst (All (IsMetOn schema tape)) (sym same) (decides.1 safe))

  check_asked : (table : ℕ) (inv : Invariant) (check : Check) (among : IsInvariant schema table inv) → inv.rule ≡ Bound check
      → AreMet schema tape (if e.table == table then map ByCase (cases_of (told table) e.act e.writes check) else []) ↔ (ByCheck change table among.declaration (Bound check) → ⊥)
  check_asked table inv check among rule = by (e.table == table) refl
    where
      elsewhere : (e.table == table) ≡ false → change.place.table ≡ table → ⊥
      elsewhere b here = apart (e.table == table) (same_test e.table table (is.stands.table ∙ here)) b

      by : (b : Bool) → (e.table == table) ≡ b
          → AreMet schema tape (if b then map ByCase (cases_of (told table) e.act e.writes check) else []) ↔ (ByCheck change table among.declaration (Bound check) → ⊥)
      by false b = (λ met threat. elsewhere b threat.0, λ safe. All-nil (IsMetOn schema tape))
      by true b =
          let here : change.place.table ≡ table = sym is.stands.table ∙ test_same e.table table b in
          let same : among.declaration ≡ is.fits.table = own_declaration table inv among here in
          let judged : IsJudged schema is.fits.table change inv check = record {
            accepted = is.accepted;
            declared = is.fits.declared;
            fits = is.fits.fits;
            unplain = is.unplain;
            among = subst (λ (d : Declaration). Contains d.invs inv) same among.among;
            rule = rule;
          } in
          subst (λ (p : (ℕ × Declaration) × Rule). AreMet schema tape (map ByCase (cases_of (told p.0.0) e.act e.writes check)) ↔ (ByCheck change p.0.0 p.0.1 p.1 → ⊥))
          (λ i. ((here i, sym same i), rule i)) (cases_asked is.fits.table inv check judged own_gains)

  by_check_asked : (table : ℕ) (inv : Invariant) (among : IsInvariant schema table inv) (rule : Rule) → inv.rule ≡ rule
      → AreMet schema tape (by_check told e table rule) ↔ (ByCheck change table among.declaration rule → ⊥)
  by_check_asked table inv among (Bound check) rule = check_asked table inv check among rule
  by_check_asked table inv among (OneOf column texts) rule = nothing_asked schema tape
  by_check_asked table inv among (Different column) rule = nothing_asked schema tape
  by_check_asked table inv among (Refers column parent target) rule = nothing_asked schema tape

  by_list_asked : (table : ℕ) (inv : Invariant) (among : IsInvariant schema table inv) (rule : Rule) → inv.rule ≡ rule
      → AreMet schema tape (by_list e inv.number table rule) ↔ (ByList change table among.declaration rule → ⊥)
  by_list_asked table inv among (OneOf column texts) rule =
      list_decides schema change tape e inv.number table among.declaration column texts is.stands
      (subst (λ (r : Rule). AreTexts schema inv.number (texts_in r)) rule (are_texts schema table inv is.accepted among))
  by_list_asked table inv among (Bound check) rule = nothing_asked schema tape
  by_list_asked table inv among (Different column) rule = nothing_asked schema tape
  by_list_asked table inv among (Refers column parent target) rule = nothing_asked schema tape

  pub asked_means : (question : Question) (table : ℕ) (inv : Invariant) (among : IsInvariant schema table inv) → Means question table inv among.declaration
  asked_means Unique table inv among = unique_decides schema change tape e table among.declaration inv.rule is.stands
  asked_means Child table inv among = child_decides schema change tape e table among.declaration inv.rule is.stands
  asked_means Parent table inv among = parent_decides schema change tape e table among.declaration inv.rule is.stands
  asked_means Checked table inv among = by_check_asked table inv among inv.rule refl
  asked_means Listed table inv among = by_list_asked table inv among inv.rule refl

  -- ---- whether it threatens the change

  abbrev Threat : Way → ℕ → Invariant → Declaration → Type 0
  Threat way table inv d = By way schema change table d inv.rule

  anywhere_or : (way : Way) (table : ℕ) (inv : Invariant) (among : IsInvariant schema table inv) → is_anywhere way ≡ true
      → Threat way table inv among.declaration ⊎ (Threat way table inv among.declaration → ⊥)
  anywhere_or way table inv among anywhere = by (threatens way schema (told table) change inv.rule) refl
    where
      by : (b : Bool) → threatens way schema (told table) change inv.rule ≡ b → Threat way table inv among.declaration ⊎ (Threat way table inv among.declaration → ⊥)
      by true b = inl (parent_means way schema change (told table) table among.declaration inv.rule anywhere b)
      by false b = inr (λ threat. apart _ (means_parent way schema change (told table) table among.declaration inv.rule anywhere threat) b)

  here_or : (way : Way) (inv : Invariant) → Contains is.fits.table.invs inv → Threat way change.place.table inv is.fits.table ⊎ (Threat way change.place.table inv is.fits.table → ⊥)
  here_or way inv among = by (threatens way schema (told change.place.table) change inv.rule) refl
    where
      by : (b : Bool) → threatens way schema (told change.place.table) change inv.rule ≡ b → Threat way change.place.table inv is.fits.table ⊎ (Threat way change.place.table inv is.fits.table → ⊥)
      by true b = inl (threat_means way schema is.fits.table change (told change.place.table) inv inv.rule own among refl b)
      by false b = inr (λ threat. apart _ (means_threat way schema is.fits.table change (told change.place.table) inv inv.rule own among refl threat) b)

  own_or : (way : Way) (table : ℕ) (inv : Invariant) (among : IsInvariant schema table inv) → is_anywhere way ≡ false
      → Threat way table inv among.declaration ⊎ (Threat way table inv among.declaration → ⊥)
  own_or way table inv among own = by (change.place.table == table) refl
    where
      by : (b : Bool) → (change.place.table == table) ≡ b → Threat way table inv among.declaration ⊎ (Threat way table inv among.declaration → ⊥)
      by false b = inr (λ threat. apart (change.place.table == table) (same_test change.place.table table (own_table way schema change table among.declaration inv.rule own threat)) b)
      by true b =
          let here : change.place.table ≡ table = test_same change.place.table table b in
          let same : among.declaration ≡ is.fits.table = own_declaration table inv among here in
          subst (λ (p : ℕ × Declaration). Threat way p.0 inv p.1 ⊎ (Threat way p.0 inv p.1 → ⊥)) (λ i. (here i, sym same i))
          (here_or way inv (subst (λ (d : Declaration). Contains d.invs inv) same among.among))

  pub threat_or : (way : Way) (table : ℕ) (inv : Invariant) (among : IsInvariant schema table inv) → Threat way table inv among.declaration ⊎ (Threat way table inv among.declaration → ⊥)
  threat_or way table inv among = by (is_anywhere way) refl
    where
      by : (b : Bool) → is_anywhere way ≡ b → Threat way table inv among.declaration ⊎ (Threat way table inv among.declaration → ⊥)
      by true b = anywhere_or way table inv among b
      by false b = own_or way table inv among b
