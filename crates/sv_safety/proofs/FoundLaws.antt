-- Changes that find their rows in bare tables find them in stamped ones, and where they do no row is kept under a key that one of them draws.
use Rattle.std.proofs.Common.{◌≡◌, ◌∙◌, ℕ, zero, suc, cond, Bool, true, false, List, [], ◌∷◌, map, Option, Some, None, slice_get, refl, sym, ap, subst}
use Rattle.std.specs.Prelude.{unwrap_or}
use Rattle.std.specs.FinMap.{get, get-insert}
use Rattle.std.specs.Option.{is_none, option_map}
use Rattle.sv_app.specs.declared.acts.Act.{Act}
use Rattle.sv_app.specs.declared.acts.Act.TheVariants as acts
use Rattle.sv_app.specs.declared.places.Place.{Place}
use Rattle.sv_app.specs.Schema.{Declaration}
use Rattle.sv_app.specs.Tables.{Row, Tables}
use Rattle.sv_app.proofs.PlaceLaws.{place_total}
use Rattle.sv_effect.specs.declared.ops.Op.{Op}
use Rattle.sv_effect.specs.declared.ops.RowEffect.{RowEffect}
use Rattle.sv_effect.specs.Acts.{is_draw, IsFound}
use Rattle.sv_effect.specs.Applied.{place_of, changes_from, changes_of, zero_row_in, changed_at, with_change_at}
use Rattle.sv_effect.specs.BareTables.{bare_row, bare}
use Rattle.sv_effect.specs.Effects.{row_after, with_effect, FindsAll}
use Rattle.sv_effect.specs.Has.{effects_of}
use Rattle.sv_effect.specs.RunChanges.{effect_of}
use Rattle.sv_effect.specs.Safe.{Unmade}
use Rattle.sv_effect.specs.StampedTables.{StampedRow, StampedTables}
use Rattle.sv_effect.specs.TablesOfCut.{is_place}
use Rattle.sv_effect.specs.Takes.{FindsRows}
use Rattle.sv_effect.proofs.SourceLaws.{get-bare}
use Rattle.sv_safety.proofs.Finds.{KeptAt, kept_one}
use Rattle.sv_safety.proofs.Walk.{change_of}

-- the same rows are kept
abbrev SameKept : Tables → StampedTables → Type 0
SameKept b t = (q : Place) → is_none (get b q) ≡ is_none (get t q)

found_too : (act : Act) (o : Option Row) (s : Option StampedRow) → is_none o ≡ is_none s → IsFound act o → IsFound act s
found_too acts.Insert o s same f = tt
found_too acts.Fresh None None same f = tt
found_too acts.Fresh None (Some r) same f = absurd cc
found_too acts.Fresh (Some b) s same f = absurd f
found_too acts.Update None s same f = absurd f
found_too acts.Update (Some b) (Some r) same f = tt
found_too acts.Update (Some b) None same f = absurd cc
found_too acts.Remove None s same f = absurd f
found_too acts.Remove (Some b) (Some r) same f = tt
found_too acts.Remove (Some b) None same f = absurd cc

same_next : (schema : List Declaration) (op : Op) (n : ℕ) (e : RowEffect) (b : Tables) (t : StampedTables) → SameKept b t
    → SameKept (with_effect schema (effect_of e) b) (with_change_at schema (place_of e) (change_of op n e) t)
same_next schema op n e b t same q =
    ap is_none (get-insert place_total b (place_of e) row q) ∙ by (is_place q (place_of e)) ∙ ap is_none (sym (get-insert place_total t (place_of e) new q))
  where
    row : Row
    row = row_after schema (effect_of e) (get b (place_of e))

    new : StampedRow
    new = changed_at schema (place_of e) (change_of op n e) (unwrap_or (get t (place_of e)) (zero_row_in schema (place_of e)))

    by : (c : Bool) → is_none (cond c (Some row) (get b q)) ≡ is_none (cond c (Some new) (get t q))
    by true = refl
    by false = same q

finds_too : (schema : List Declaration) (op : Op) (n : ℕ) (es : List RowEffect) (b : Tables) (t : StampedTables) → SameKept b t → FindsAll schema (map effect_of es) b
    → FindsRows schema (changes_from op n es) t
finds_too schema op n [] b t same finds = tt
finds_too schema op n (e ∷ es) b t same finds = (
  found_too e.act (get b (place_of e)) (get t (place_of e)) (same (place_of e)) finds.0,
  finds_too schema op (suc n) es (with_effect schema (effect_of e) b) (with_change_at schema (place_of e) (change_of op n e) t) (same_next schema op n e b t same) finds.1,
)

pub finds_bare : (schema : List Declaration) (op : Op) (t : StampedTables) → FindsAll schema (effects_of op) (bare t) → FindsRows schema (changes_of op) t
finds_bare schema op t finds = finds_too schema op 0 op.effects (bare t) t (λ q. ap is_none (get-bare t q) ∙ by (get t q)) finds
  where
    by : (o : Option StampedRow) → is_none (option_map bare_row o) ≡ is_none o
    by None = refl
    by (Some row) = refl

unmade_from : (schema : List Declaration) (op : Op) (n : ℕ) (es : List RowEffect) (t : StampedTables) → FindsRows schema (changes_from op n es) t → (k : ℕ) (e : RowEffect) → slice_get es k ≡ Some e
    → is_draw e.act ≡ true → get t (place_of e) ≡ None
unmade_from schema op n [] t finds k e at drawn = absurd cc
unmade_from schema op n (x ∷ es) t finds zero e at drawn =
    let same : x ≡ e = cc in
    by e.act drawn (get t (place_of e)) (subst (λ (y : RowEffect). IsFound y.act (get t (place_of y))) same finds.0)
  where
    by : (act : Act) → is_draw act ≡ true → (o : Option StampedRow) → IsFound act o → o ≡ None
    by acts.Fresh drawn None f = refl
    by acts.Fresh drawn (Some row) f = absurd f
    by acts.Insert drawn o f = absurd cc
    by acts.Update drawn o f = absurd cc
    by acts.Remove drawn o f = absurd cc
unmade_from schema op n (x ∷ es) t finds (suc k) e at drawn =
    by (get t (place_of e)) refl (unmade_from schema op (suc n) es (with_change_at schema (place_of x) (change_of op n x) t) finds.1 k e at drawn)
  where
    by : (o : Option StampedRow) → get t (place_of e) ≡ o → get (with_change_at schema (place_of x) (change_of op n x) t) (place_of e) ≡ None → o ≡ None
    by None is none = refl
    by (Some row) is none =
        let later : KeptAt (with_change_at schema (place_of x) (change_of op n x) t) (place_of e) = kept_one schema (change_of op n x) t (place_of e) (record { row = row; at = is }) in
        absurd (let both : None ≡ Some later.row = sym none ∙ later.at in cc)

pub unmade : (schema : List Declaration) (op : Op) (t : StampedTables) → FindsRows schema (changes_of op) t → Unmade op t
unmade schema op t finds k e at drawn = unmade_from schema op 0 op.effects t finds k e at drawn
