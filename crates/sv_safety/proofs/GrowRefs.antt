-- References to grow-only tables: what a row refers to behind an operation is what it referred to before it, or what the last set gave.
use Rattle.std.proofs.Common.{◌≡◌, ◌⊎◌, inl, inr, ℕ, zero, suc, ◌≤◌, ◌==◌, ◌&&◌, ◌||◌, not, if◌then◌else◌, Bool, true, false, List, [], ◌∷◌, ◌++◌, map, Some, None, slice_get, refl, sym, ap, subst, ◌∙◌, arith}
use Rattle.std.specs.List.{Contains, flat_map}
use Rattle.std.proofs.lemmas.Map.Views.{tells_apart}
use Rattle.sv_value.specs.declared.values.Val.{Val}
use Rattle.sv_app.specs.declared.apps.Ident.{Ident}
use Rattle.sv_app.specs.declared.places.Place.{Place}
use Rattle.sv_app.specs.declared.schemas.Column.{Column}
use Rattle.sv_app.specs.Schema.{Rule, Refers, Invariant, Declaration}
use Rattle.sv_app.specs.Valid.{place_at}
use Rattle.sv_app.proofs.ListLaws.{Stands, contains_at, back_stands, flat_stands}
use Rattle.sv_app.proofs.PlaceLaws.{exact_places}
use Rattle.sv_effect.specs.declared.ops.Need.{Need}
use Rattle.sv_effect.specs.declared.ops.Need.TheVariants as needs
use Rattle.sv_effect.specs.declared.ops.Op.{Op}
use Rattle.sv_effect.specs.declared.ops.RowEffect.{RowEffect}
use Rattle.sv_effect.specs.declared.ops.Write.{Write}
use Rattle.sv_effect.specs.declared.ops.Write.TheVariants.{Set}
use Rattle.sv_effect.specs.Acts.{is_insert}
use Rattle.sv_effect.specs.Applied.{place_of, changes_from, with_changes, with_change_at}
use Rattle.sv_effect.specs.Fits.{KeyFits, is_key_column}
use Rattle.sv_effect.specs.Needs.{is_inserted, need_of, kept_need, key_value, set_value, given, grows, present_need, rule_needs, present_needs, needs_from}
use Rattle.sv_effect.specs.RowChange.{key_values, from_key}
use Rattle.sv_effect.specs.RunChanges.{Effect, effect_of}
use Rattle.sv_effect.specs.StampedTables.{StampedTables}
use Rattle.sv_effect.specs.TablesOfCut.{is_place}
use Rattle.sv_effect.specs.Threatened.{write_to, is_set}
use Rattle.sv_safety.proofs.Finds.{front_stands, KeptAt, kept_on, kept_here}
use Rattle.sv_safety.proofs.Walk.{change_of}

-- ---- a later one of a list

pub record Later {A : Type 0} (p : A → Bool) (xs : List A) (n : ℕ) : Type 0 where
  pub number : ℕ
  pub x : A
  pub after : n ≤ number
  pub at : slice_get xs number ≡ Some x
  pub is : p x ≡ true

pub look : {A : Type 0} (p : A → Bool) (xs : List A) (n : ℕ) → Later p xs n ⊎ ((k : ℕ) (x : A) → n ≤ k → slice_get xs k ≡ Some x → p x ≡ false)
look p [] n = inr (λ k x le at. absurd cc)
look {A} p (y ∷ xs) zero = by (p y) refl (look p xs zero)
  where
    by : (b : Bool) → p y ≡ b → Later p xs zero ⊎ ((k : ℕ) (x : A) → zero ≤ k → slice_get xs k ≡ Some x → p x ≡ false)
        → Later p (y ∷ xs) zero ⊎ ((k : ℕ) (x : A) → zero ≤ k → slice_get (y ∷ xs) k ≡ Some x → p x ≡ false)
    by true is ih = inl (record { number = 0; x = y; after = omega arith; at = refl; is = is })
    by false is (inl l) = let less : zero ≤ suc l.number = omega arith in inl (record { number = suc l.number; x = l.x; after = less; at = l.at; is = l.is })
    by false is (inr none) = inr each
      where
        each : (k : ℕ) (x : A) → zero ≤ k → slice_get (y ∷ xs) k ≡ Some x → p x ≡ false
        each zero x le at = let same : y ≡ x = cc in ap p (sym same) ∙ is
        each (suc k) x le at = none k x (omega arith) at
look {A} p (y ∷ xs) (suc n) = by (look p xs n)
  where
    by : Later p xs n ⊎ ((k : ℕ) (x : A) → n ≤ k → slice_get xs k ≡ Some x → p x ≡ false) → Later p (y ∷ xs) (suc n) ⊎ ((k : ℕ) (x : A) → suc n ≤ k → slice_get (y ∷ xs) k ≡ Some x → p x ≡ false)
    by (inl l) = let before : n ≤ l.number = l.after in inl (record { number = suc l.number; x = l.x; after = omega (arith, before); at = l.at; is = l.is })
    by (inr none) = inr each
      where
        each : (k : ℕ) (x : A) → suc n ≤ k → slice_get (y ∷ xs) k ≡ Some x → p x ≡ false
        each zero x le at = absurd (omega (arith, le))
        each (suc k) x le at = none k x (omega (arith, le)) at

-- the change sets the column of the row at a place
abbrev pub sets_at : Place → Ident → RowEffect → Bool
sets_at q column e = is_place q (place_of e) && is_set (write_to column.num e.writes.items)

-- ---- the key's value

pub record HasKey (names : List Ident) (vs : List Val) (c : ℕ) (z : Val) : Type 0 where
  pub v : Val
  pub is : from_key names vs c z ≡ v
  pub given : Stands (key_value names vs c) v

pub has_key : (columns : List Column) (names : List Ident) (vs : List Val) (c : ℕ) (z : Val) → KeyFits columns names vs → is_key_column names c ≡ true → HasKey names vs c z
has_key columns [] [] c z fits is = absurd cc
has_key columns [] (v ∷ vs) c z fits is = absurd fits
has_key columns (name ∷ names) [] c z fits is = absurd fits
has_key columns (name ∷ names) (v ∷ vs) c z fits is = by (name.num == c) refl is (has_key columns names vs c z fits.1)
  where
    by : (b : Bool) → (name.num == c) ≡ b → (b || is_key_column names c) ≡ true → (is_key_column names c ≡ true → HasKey names vs c z) → HasKey (name ∷ names) (v ∷ vs) c z
    by true e is ih = record { v = v; is = ap (λ b. if b then v else from_key names vs c z) e; given = record { number = 0; at = ap (λ b. slice_get (if b then v ∷ [] else key_value names vs c) 0) e } }
    by false e is ih = let k : HasKey names vs c z = ih is in
        record { v = k.v; is = ap (λ b. if b then v else from_key names vs c z) e ∙ k.is; given = record { number = k.given.number; at = ap (λ b. slice_get (if b then v ∷ [] else key_value names vs c) k.given.number) e ∙ k.given.at } }

-- ---- what a change gives a column

pub set_given : (c : ℕ) (ws : List (ℕ × Write)) (v : Val) → write_to c ws ≡ Some (Set v) → Stands (flat_map (λ (w : ℕ × Write). if w.0 == c then set_value w.1 else []) ws) v
set_given c [] v e = absurd cc
set_given c (w ∷ ws) v e = by (w.0 == c) refl e (set_given c ws v)
  where
    by : (b : Bool) → (w.0 == c) ≡ b → (if b then Some w.1 else write_to c ws) ≡ Some (Set v)
        → (write_to c ws ≡ Some (Set v) → Stands (flat_map (λ (w : ℕ × Write). if w.0 == c then set_value w.1 else []) ws) v)
        → Stands ((if w.0 == c then set_value w.1 else []) ++ flat_map (λ (w : ℕ × Write). if w.0 == c then set_value w.1 else []) ws) v
    by true is e ih =
        let same : w.1 ≡ Set v = cc in
        front_stands (if w.0 == c then set_value w.1 else []) (flat_map (λ (w : ℕ × Write). if w.0 == c then set_value w.1 else []) ws) v
        (record { number = 0; at = ap (λ b. slice_get (if b then set_value w.1 else []) 0) is ∙ ap (λ x. slice_get (set_value x) 0) same })
    by false is e ih = back_stands (if w.0 == c then set_value w.1 else []) (flat_map (λ (w : ℕ × Write). if w.0 == c then set_value w.1 else []) ws) v (ih e)

pub contains : {A : Type 0} (xs : List A) (x : A) → Stands xs x → Contains xs x
contains xs x s = contains_at xs s.number x s.at

pub gives_set : (d : Declaration) (e : Effect) (c : ℕ) (v : Val) → write_to c e.writes ≡ Some (Set v) → Stands (given d e c) v
gives_set d e c v is = back_stands (if is_insert e.act then key_value d.key (key_values e.place.key) c else []) (flat_map (λ w. if w.0 == c then set_value w.1 else []) e.writes) v (set_given c e.writes v is)

pub gives_key : (d : Declaration) (e : Effect) (c : ℕ) (v : Val) → is_insert e.act ≡ true → Stands (key_value d.key (key_values e.place.key) c) v → Stands (given d e c) v
gives_key d e c v inserts s = front_stands (if is_insert e.act then key_value d.key (key_values e.place.key) c else []) (flat_map (λ w. if w.0 == c then set_value w.1 else []) e.writes) v
    (record { number = s.number; at = ap (λ b. slice_get (if b then key_value d.key (key_values e.place.key) c else []) s.number) inserts ∙ s.at })

-- ---- the need is listed

one_need : (schema : List Declaration) (all : List Effect) (d : Declaration) (e : Effect) (rule : Rule) (column parent target : Ident) (v : Val) → rule ≡ Refers column parent target
    → grows (slice_get schema parent.num) ≡ true → Stands (given d e column.num) v → is_inserted (place_at parent.num (record { first = v; second = None })) all ≡ false
    → Stands (rule_needs schema all d e rule) (needs.Present parent.num (record { first = v; second = None }))
one_need schema all d e rule column parent target v is grown gives none_made =
    subst (λ r. Stands (rule_needs schema all d e r) need) (sym is)
    (subst (λ b. Stands (if b then flat_map (present_need all parent.num) (given d e column.num) else []) need) (sym grown)
    (flat_stands (present_need all parent.num) (given d e column.num) gives.number v need gives.at (record { number = 0; at = ap (λ b. slice_get (need_of (not b) need) 0) none_made })))
  where
    need : Need
    need = needs.Present parent.num (record { first = v; second = None })

pub present_listed : (schema : List Declaration) (all earlier es : List Effect) (n : ℕ) (e : Effect) (d : Declaration) (inv : Invariant) (column parent target : Ident) (v : Val) → slice_get es n ≡ Some e
    → slice_get schema e.place.table ≡ Some d → Stands d.invs inv → inv.rule ≡ Refers column parent target → grows (slice_get schema parent.num) ≡ true → Stands (given d e column.num) v
    → is_inserted (place_at parent.num (record { first = v; second = None })) all ≡ false → Stands (needs_from schema all earlier es) (needs.Present parent.num (record { first = v; second = None }))
present_listed schema all earlier [] n e d inv column parent target v at declared among rule grown gives none_made = absurd cc
present_listed schema all earlier (x ∷ es) zero e d inv column parent target v at declared among rule grown gives none_made =
    front_stands (kept_need earlier x ++ present_needs schema all (slice_get schema x.place.table) x) (needs_from schema all (earlier ++ x ∷ []) es) need
    (back_stands (kept_need earlier x) (present_needs schema all (slice_get schema x.place.table) x) need
    (subst (λ y. Stands (present_needs schema all (slice_get schema y.place.table) y) need) (sym same)
    (subst (λ o. Stands (present_needs schema all o e) need) (sym declared)
    (flat_stands (λ (i : Invariant). rule_needs schema all d e i.rule) d.invs among.number inv need among.at (one_need schema all d e inv.rule column parent target v rule grown gives none_made)))))
  where
    need : Need
    need = needs.Present parent.num (record { first = v; second = None })

    same : x ≡ e
    same = cc
present_listed schema all earlier (x ∷ es) (suc n) e d inv column parent target v at declared among rule grown gives none_made =
    back_stands (kept_need earlier x ++ present_needs schema all (slice_get schema x.place.table) x) (needs_from schema all (earlier ++ x ∷ []) es) (needs.Present parent.num (record { first = v; second = None }))
    (present_listed schema all (earlier ++ x ∷ []) es n e d inv column parent target v at declared among rule grown gives none_made)

-- ---- a row that is inserted is kept behind the operation

pub inserted_kept : (schema : List Declaration) (op : Op) (n : ℕ) (es : List RowEffect) (t : StampedTables) (q : Place) → is_inserted q (map effect_of es) ≡ true → KeptAt (with_changes schema (changes_from op n es) t) q
inserted_kept schema op n [] t q is = absurd cc
inserted_kept schema op n (e ∷ es) t q is = by (is_insert e.act) (is_place q (place_of e)) refl is (inserted_kept schema op (suc n) es (with_change_at schema (place_of e) (change_of op n e) t) q)
  where
    here : is_place q (place_of e) ≡ true → KeptAt (with_changes schema (changes_from op (suc n) es) (with_change_at schema (place_of e) (change_of op n e) t)) q
    here same = kept_on schema (changes_from op (suc n) es) (with_change_at schema (place_of e) (change_of op n e) t) q
        (subst (KeptAt (with_change_at schema (place_of e) (change_of op n e) t)) (sym (tells_apart exact_places q (place_of e) same)) (kept_here schema (change_of op n e) t))

    by : (a b : Bool) → is_place q (place_of e) ≡ b → ((a && b) || is_inserted q (map effect_of es)) ≡ true
        → (is_inserted q (map effect_of es) ≡ true → KeptAt (with_changes schema (changes_from op (suc n) es) (with_change_at schema (place_of e) (change_of op n e) t)) q)
        → KeptAt (with_changes schema (changes_from op (suc n) es) (with_change_at schema (place_of e) (change_of op n e) t)) q
    by true true same is ih = here same
    by true false same is ih = ih is
    by false b same is ih = ih is
