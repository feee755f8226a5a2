-- Some invariant of the schema is threatened so exactly where the walk over tables and their invariants finds one.
use Rattle.std.proofs.Common.{◌≡◌, ◌∙◌, ◌⊎◌, inl, inr, ℕ, zero, suc, ◌+◌, Bool, true, false, List, [], ◌∷◌, Some, Result, Ok, Err, slice_get, refl, sym, ap, subst, arith}
use Rattle.std.specs.Prelude.{◌==◌, ◌&&◌, ◌||◌, ◌↔◌, IsTrue, IfOk}
use Rattle.sv_app.specs.declared.reasons.Reason.{Reason}
use Rattle.sv_app.specs.declared.reasons.Reason.TheVariants as reasons
use Rattle.sv_app.specs.Schema.{Invariant, Declaration}
use Rattle.sv_app.proofs.ListLaws.{Stands, contained, contains_at}
use Rattle.sv_app.proofs.TestLaws.{same_test, test_same}
use Rattle.sv_effect.specs.RunChanges.{Effect}
use Rattle.sv_effect.specs.Threatened.{is_plain_change, IsThreat}
use Rattle.sv_plain_threats.specs.ThreatenedWithin.{ThreatenedWithin}
use Rattle.sv_plain_threats.specs.Tries.{threatens, invariant_in, any_invariant, any_table}
use Rattle.sv_plain_threats.proofs.BoolLaws.{and_left, and_right, and_both}
use Rattle.sv_plain_threats.proofs.RuleLaws.{By, rule_means, means_rule}

or_true : (a : Bool) → (a || true) ≡ true
or_true true = refl
or_true false = refl

-- ---- the invariants of a table

record FoundInv (reach : ℕ) (schema : List Declaration) (e : Effect) (reason : Reason) (table : ℕ) (d : Declaration) (invs : List Invariant) : Type 0 where
  place : ℕ
  inv : Invariant
  at : slice_get invs place ≡ Some inv
  numbered : inv.number ≡ invariant_in reason
  is : threatens reach schema e reason table d inv.rule ≡ true

found_inv : (reach : ℕ) (schema : List Declaration) (e : Effect) (reason : Reason) (table : ℕ) (d : Declaration) (invs : List Invariant) → any_invariant reach schema e reason table d invs ≡ true
    → FoundInv reach schema e reason table d invs
found_inv reach schema e reason table d [] is = absurd cc
found_inv reach schema e reason table d (x ∷ invs) is = by (x.number == invariant_in reason && threatens reach schema e reason table d x.rule) refl is (found_inv reach schema e reason table d invs)
  where
    by : (b : Bool) → (x.number == invariant_in reason && threatens reach schema e reason table d x.rule) ≡ b → (b || any_invariant reach schema e reason table d invs) ≡ true
        → (any_invariant reach schema e reason table d invs ≡ true → FoundInv reach schema e reason table d invs) → FoundInv reach schema e reason table d (x ∷ invs)
    by true here is ih = record {
      place = 0;
      inv = x;
      at = refl;
      numbered = test_same x.number (invariant_in reason) (and_left (x.number == invariant_in reason) _ here);
      is = and_right (x.number == invariant_in reason) _ here;
    }
    by false here is ih = let later : FoundInv reach schema e reason table d invs = ih is in record { place = suc later.place; inv = later.inv; at = later.at; numbered = later.numbered; is = later.is }

inv_found : (reach : ℕ) (schema : List Declaration) (e : Effect) (reason : Reason) (table : ℕ) (d : Declaration) (invs : List Invariant) (k : ℕ) (inv : Invariant) → slice_get invs k ≡ Some inv
    → inv.number ≡ invariant_in reason → threatens reach schema e reason table d inv.rule ≡ true → any_invariant reach schema e reason table d invs ≡ true
inv_found reach schema e reason table d [] k inv at numbered is = absurd cc
inv_found reach schema e reason table d (x ∷ invs) zero inv at numbered is = (λ i. here i || any_invariant reach schema e reason table d invs)
  where
    same : (a b : Invariant) → Some a ≡ Some b → a ≡ b
    same a b e = cc

    here : (x.number == invariant_in reason && threatens reach schema e reason table d x.rule) ≡ true
    here = and_both (x.number == invariant_in reason) _ (same_test x.number (invariant_in reason) (ap (λ (v : Invariant). v.number) (same x inv at) ∙ numbered))
        (ap (λ (v : Invariant). threatens reach schema e reason table d v.rule) (same x inv at) ∙ is)
inv_found reach schema e reason table d (x ∷ invs) (suc k) inv at numbered is =
    (λ i. (x.number == invariant_in reason && threatens reach schema e reason table d x.rule) || inv_found reach schema e reason table d invs k inv at numbered is i)
    ∙ or_true (x.number == invariant_in reason && threatens reach schema e reason table d x.rule)

-- ---- the tables

record FoundTable (reach : ℕ) (schema : List Declaration) (e : Effect) (reason : Reason) (first : ℕ) (tables : List Declaration) : Type 0 where
  place : ℕ
  d : Declaration
  at : slice_get tables place ≡ Some d
  is : any_invariant reach schema e reason (first + place) d d.invs ≡ true

found_table : (reach : ℕ) (schema : List Declaration) (e : Effect) (reason : Reason) (first : ℕ) (tables : List Declaration) → any_table reach schema e reason first tables ≡ true
    → FoundTable reach schema e reason first tables
found_table reach schema e reason first [] is = absurd cc
found_table reach schema e reason first (x ∷ tables) is = by (any_invariant reach schema e reason first x x.invs) refl is (found_table reach schema e reason (suc first) tables)
  where
    by : (b : Bool) → any_invariant reach schema e reason first x x.invs ≡ b → (b || any_table reach schema e reason (suc first) tables) ≡ true
        → (any_table reach schema e reason (suc first) tables ≡ true → FoundTable reach schema e reason (suc first) tables) → FoundTable reach schema e reason first (x ∷ tables)
    by true here is ih = record { place = 0; d = x; at = refl; is = subst (λ n. any_invariant reach schema e reason n x x.invs ≡ true) (omega arith) here }
    by false here is ih =
        let later : FoundTable reach schema e reason (suc first) tables = ih is in
        record { place = suc later.place; d = later.d; at = later.at; is = subst (λ n. any_invariant reach schema e reason n later.d later.d.invs ≡ true) (omega arith) later.is }

table_found : (reach : ℕ) (schema : List Declaration) (e : Effect) (reason : Reason) (first : ℕ) (tables : List Declaration) (k : ℕ) (d : Declaration) → slice_get tables k ≡ Some d
    → any_invariant reach schema e reason (first + k) d d.invs ≡ true → any_table reach schema e reason first tables ≡ true
table_found reach schema e reason first [] k d at is = absurd cc
table_found reach schema e reason first (x ∷ tables) zero d at is = (λ i. here i || any_table reach schema e reason (suc first) tables)
  where
    same : (a b : Declaration) → Some a ≡ Some b → a ≡ b
    same a b e = cc

    here : any_invariant reach schema e reason first x x.invs ≡ true
    here = ap (λ (v : Declaration). any_invariant reach schema e reason first v v.invs) (same x d at) ∙ subst (λ n. any_invariant reach schema e reason n d d.invs ≡ true) (omega arith) is
table_found reach schema e reason first (x ∷ tables) (suc k) d at is =
    (λ i. any_invariant reach schema e reason first x x.invs
    || table_found reach schema e reason (suc first) tables k d at (subst (λ n. any_invariant reach schema e reason n d d.invs ≡ true) (omega arith) is) i)
    ∙ or_true (any_invariant reach schema e reason first x x.invs)

-- ---- the schema

threat_means : (reach : ℕ) (schema : List Declaration) (e : Effect) (reason : Reason) → any_table reach schema e reason 0 schema ≡ true → IsThreat schema (invariant_in reason) (By reach schema e reason)
threat_means reach schema e reason is =
    let table : FoundTable reach schema e reason 0 schema = found_table reach schema e reason 0 schema is in
    let inv : FoundInv reach schema e reason table.place table.d table.d.invs = found_inv reach schema e reason table.place table.d table.d.invs (subst (λ n. any_invariant reach schema e reason n table.d table.d.invs ≡ true) (omega arith) table.is) in
    record {
      table = table.place;
      inv = inv.inv;
      among = record { declaration = table.d; declared = table.at; among = contains_at table.d.invs inv.place inv.inv inv.at };
      numbered = inv.numbered;
      by = rule_means reach schema e reason table.place table.d inv.inv.rule inv.is;
    }

means_threat : (reach : ℕ) (schema : List Declaration) (e : Effect) (reason : Reason) → IsThreat schema (invariant_in reason) (By reach schema e reason) → any_table reach schema e reason 0 schema ≡ true
means_threat reach schema e reason threat =
    let at : Stands threat.among.declaration.invs threat.inv = contained threat.among.declaration.invs threat.inv threat.among.among in
    table_found reach schema e reason 0 schema threat.table threat.among.declaration threat.among.declared
    (subst (λ n. any_invariant reach schema e reason n threat.among.declaration threat.among.declaration.invs ≡ true) (omega arith)
    (inv_found reach schema e reason threat.table threat.among.declaration threat.among.declaration.invs at.number threat.inv at.at threat.numbered
    (means_rule reach schema e reason threat.table threat.among.declaration threat.inv threat.inv.rule threat.among.among refl threat.by)))

decided : (P : Type 0) (found is : Bool) → found ≡ is → (is ≡ true → P) → (P → is ≡ true) → IsTrue found ↔ P
decided P found is same means back = (λ t. means (sym same ∙ t), λ p. same ∙ back p)

pub by_plain : (reach : ℕ) (schema : List Declaration) (e : Effect) (found : Bool) → found ≡ is_plain_change schema e → IsTrue found ↔ ThreatenedWithin reach schema e reasons.Plain
by_plain reach schema e found same = decided (ThreatenedWithin reach schema e reasons.Plain) found (is_plain_change schema e) same (λ t. t) (λ t. t)

by_named : (reach : ℕ) (schema : List Declaration) (e : Effect) (reason : Reason) (found : Bool) → (reason ≡ reasons.Plain → ⊥) → found ≡ any_table reach schema e reason 0 schema
    → IsTrue found ↔ ThreatenedWithin reach schema e reason
by_named reach schema e reasons.Plain found other same = absurd (other refl)
by_named reach schema e (reasons.Unique i) found other same = decided (ThreatenedWithin reach schema e (reasons.Unique i)) found _ same (threat_means reach schema e (reasons.Unique i)) (means_threat reach schema e (reasons.Unique i))
by_named reach schema e (reasons.Child i) found other same = decided (ThreatenedWithin reach schema e (reasons.Child i)) found _ same (threat_means reach schema e (reasons.Child i)) (means_threat reach schema e (reasons.Child i))
by_named reach schema e (reasons.Parent i) found other same = decided (ThreatenedWithin reach schema e (reasons.Parent i)) found _ same (threat_means reach schema e (reasons.Parent i)) (means_threat reach schema e (reasons.Parent i))
by_named reach schema e (reasons.Check i) found other same = decided (ThreatenedWithin reach schema e (reasons.Check i)) found _ same (threat_means reach schema e (reasons.Check i)) (means_threat reach schema e (reasons.Check i))
by_named reach schema e (reasons.List i) found other same = decided (ThreatenedWithin reach schema e (reasons.List i)) found _ same (threat_means reach schema e (reasons.List i)) (means_threat reach schema e (reasons.List i))

abbrev IsNamed : Reason → Type 0
IsNamed reason =
    ((i : ℕ) × (reason ≡ reasons.Unique i)) ⊎ (((i : ℕ) × (reason ≡ reasons.Child i))
    ⊎ (((i : ℕ) × (reason ≡ reasons.Parent i)) ⊎ (((i : ℕ) × (reason ≡ reasons.Check i)) ⊎ ((i : ℕ) × (reason ≡ reasons.List i)))))

not_plain : (reason : Reason) → IsNamed reason → reason ≡ reasons.Plain → ⊥
not_plain reason (inl x) plain = let clash : reasons.Plain ≡ reasons.Unique x.0 = sym plain ∙ x.1 in cc
not_plain reason (inr (inl x)) plain = let clash : reasons.Plain ≡ reasons.Child x.0 = sym plain ∙ x.1 in cc
not_plain reason (inr (inr (inl x))) plain = let clash : reasons.Plain ≡ reasons.Parent x.0 = sym plain ∙ x.1 in cc
not_plain reason (inr (inr (inr (inl x)))) plain = let clash : reasons.Plain ≡ reasons.Check x.0 = sym plain ∙ x.1 in cc
not_plain reason (inr (inr (inr (inr x)))) plain = let clash : reasons.Plain ≡ reasons.List x.0 = sym plain ∙ x.1 in cc

pub named_ok : {E : Type 0} (reach : ℕ) (schema walked : List Declaration) (e : Effect) (reason : Reason) (o : Result Bool E) → IsNamed reason → walked ≡ schema
    → IfOk o (λ found. found ≡ any_table reach schema e reason 0 walked) → IfOk o (λ found. IsTrue found ↔ ThreatenedWithin reach schema e reason)
named_ok reach schema walked e reason (Ok found) named all same = by_named reach schema e reason found (not_plain reason named) (same ∙ ap (any_table reach schema e reason 0) all)
named_ok reach schema walked e reason (Err error) named all same = tt
