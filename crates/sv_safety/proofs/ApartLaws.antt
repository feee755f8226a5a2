-- Requests draw other keys than one another, and than the initial rows have.
use Rattle.std.proofs.Common.{◌≡◌, ◌∙◌, ℕ, ◌||◌, if◌then◌else◌, Bool, true, false, List, [], ◌∷◌, map, Some, None, slice_get, refl, sym, ap, subst, arith}
use Rattle.std.specs.Prelude.{pos, ◌+ℤ◌, ◌<ℤ◌}
use Rattle.std.specs.List.{All}
use Rattle.std.proofs.lemmas.Int.{ints}
use Rattle.std.proofs.lemmas.List.Elements.{All-head, All-tail}
use Rattle.std.proofs.lemmas.Map.Views.{tells_apart}
use Rattle.sv_value.specs.declared.values.Key.{Key}
use Rattle.sv_app.specs.declared.acts.Act.{Act}
use Rattle.sv_app.specs.declared.acts.Act.TheVariants as acts
use Rattle.sv_app.specs.declared.places.Place.{Place}
use Rattle.sv_app.specs.declared.requests.InitRow.{InitRow}
use Rattle.sv_app.specs.Draws.{first_of_all, first_key, AreSame}
use Rattle.sv_app.specs.Fitting.{number_in}
use Rattle.sv_app.specs.Kinds.{allows, kind_allows, keys_allow, is_fresh}
use Rattle.sv_app.specs.Schema.{Declaration}
use Rattle.sv_app.proofs.DrawLaws.{draws_differ}
use Rattle.sv_app.proofs.ListLaws.{same_some}
use Rattle.sv_app.proofs.PlaceLaws.{exact_places}
use Rattle.sv_effect.specs.declared.ops.RowEffect.{RowEffect}
use Rattle.sv_effect.specs.Acts.{is_draw}
use Rattle.sv_effect.specs.Applied.{place_of}
use Rattle.sv_effect.specs.Fits.{FitsSchema}
use Rattle.sv_effect.specs.Initial.{InitFits}
use Rattle.sv_effect.specs.RunChanges.{effect_of}
use Rattle.sv_effect.specs.TablesOfCut.{is_place, init_place, initial}
use Rattle.sv_effect.proofs.InitialLaws.{start_row, get-start}
use Rattle.sv_effect.proofs.PlaceListLaws.{among}
use Rattle.sv_safety.specs.Runs.{IsDrawn, RequestsDrawApart, InitialUndrawn}
use Rattle.sv_safety.proofs.Finds.{and_right, fits_at}
use Rattle.sv_safety.proofs.KindLaws.{effect_at}

pub requests_draw_apart : RequestsDrawApart
requests_draw_apart op other s t i j one most other_one other_most differ draws other_draws = record {
  apart = λ a b d e at_a at_b x y same.
      let m : IsDrawn (first_key s i) d.key = draws.keys a (effect_of d) (effect_at op a d at_a) x in
      let n : IsDrawn (first_key t j) e.key = other_draws.keys b (effect_of e) (effect_at other b e at_b) y in
      let sums : (first_key s i +ℤ pos m.number) ≡ (first_key t j +ℤ pos n.number) = ap (λ (k : Key). number_in k.first) (sym m.is ∙ ap (λ (p : Place). p.key) same ∙ n.is) in
      let both : AreSame s t i j m.number n.number = draws_differ s t i j m.number n.number one most other_one other_most m.few n.few sums in
      differ (both.session, both.index);
}

-- an initial row among these stands at the place
record FromStart (init : List InitRow) (p : Place) (P : InitRow → Type 0) : Type 0 where
  row : InitRow
  here : p ≡ init_place row
  is : P row

from_start : (init : List InitRow) (p : Place) (P : InitRow → Type 0) → All P init → among p (map init_place init) ≡ true → FromStart init p P
from_start [] p P all is = absurd cc
from_start (x ∷ init) p P all is = by (is_place p (init_place x)) refl is (from_start init p P (All-tail P x init all))
  where
    by : (b : Bool) → is_place p (init_place x) ≡ b → (b || among p (map init_place init)) ≡ true → (among p (map init_place init) ≡ true → FromStart init p P) → FromStart (x ∷ init) p P
    by true same is ih = record { row = x; here = tells_apart exact_places p (init_place x) same; is = All-head P x init all }
    by false same is ih = let later : FromStart init p P = ih is in record { row = later.row; here = later.here; is = later.is }

-- a key that is drawn isn't left to initial rows
drawn_late : (session index n : ℕ) → (first_key session index +ℤ pos n) <ℤ first_of_all → ⊥
drawn_late session index n early = omega (arith, ints, early)

fresh_table : (schema : List Declaration) (e : RowEffect) (fits : FitsSchema schema e) → is_draw e.act ≡ true → is_fresh fits.table ≡ true
fresh_table schema e fits drawn = by e.act drawn fits.fits.allowed
  where
    is_so : (b : Bool) → keys_allow b acts.Fresh ≡ true → b ≡ true
    is_so true e = refl
    is_so false e = absurd cc

    by : (act : Act) → is_draw act ≡ true → allows fits.table act ≡ true → is_fresh fits.table ≡ true
    by acts.Fresh drawn allowed = is_so (is_fresh fits.table) (and_right (kind_allows fits.table.kind acts.Fresh) (keys_allow (is_fresh fits.table) acts.Fresh) allowed)
    by acts.Insert drawn allowed = absurd cc
    by acts.Update drawn allowed = absurd cc
    by acts.Remove drawn allowed = absurd cc

pub initial_undrawn : InitialUndrawn
initial_undrawn schema init op session index all fits draws number e at drawn = get-start schema init (place_of e) ∙ by (among (place_of e) (map init_place init)) refl
  where
    never : among (place_of e) (map init_place init) ≡ true → ⊥
    never is =
        let x : FromStart init (place_of e) (InitFits schema) = from_start init (place_of e) (InitFits schema) all is in
        let own : FitsSchema schema e = fits_at schema op.effects number e fits.changes at in
        let table : own.table ≡ x.is.table = same_some (slice_get schema e.table) own.table x.is.table own.declared (ap (λ (p : Place). slice_get schema p.table) x.here ∙ x.is.declared) in
        let k : IsDrawn (first_key session index) e.key = draws.keys number (effect_of e) (effect_at op number e at) drawn in
        let early : number_in x.row.key.first <ℤ first_of_all = x.is.unreserved (ap is_fresh (sym table) ∙ fresh_table schema e own drawn) in
        drawn_late session index k.number (subst (λ (q : Key). number_in q.first <ℤ first_of_all) (ap (λ (p : Place). p.key) (sym x.here) ∙ k.is) early)

    by : (b : Bool) → among (place_of e) (map init_place init) ≡ b → (if b then Some (start_row schema (place_of e) (initial (place_of e) init)) else None) ≡ None
    by true is = absurd (never is)
    by false is = refl
