-- A site to which nothing has happened stands for the empty history: it keeps one row for each initial row.
use Rattle.std.proofs.Common.{◌≡◌, ◌⊎◌, inl, inr, ℕ, suc, ◌+◌, ◌≤◌, ◌||◌, cond, if◌then◌else◌, Bool, true, false, List, [], ◌∷◌, ◌++◌, length, map, Some, None, slice_get, refl, sym, ap, subst, ◌∙◌, arith}
use Rattle.std.specs.FinMap.{get}
use Rattle.std.specs.Prelude.{All, is_some}
use Rattle.std.specs.Vec.{vec_capacity}
use Rattle.std.proofs.lemmas.List.{append-nil, length_push}
use Rattle.std.proofs.lemmas.List.Elements.{All-head, All-tail}
use Rattle.std.proofs.lemmas.Map.Views.{tells_apart}
use Rattle.sv_value.specs.Cuts.{counts}
use Rattle.sv_app.specs.declared.places.Place.{Place}
use Rattle.sv_app.specs.declared.requests.InitRow.{InitRow}
use Rattle.sv_app.specs.Schema.{Declaration}
use Rattle.sv_app.proofs.PlaceLaws.{exact_places}
use Rattle.sv_effect.specs.BareTables.{how_many}
use Rattle.sv_effect.specs.Cut.{empty}
use Rattle.sv_effect.specs.Initial.{AreDistinct}
use Rattle.sv_effect.specs.RowsFit.{TablesAreOf}
use Rattle.sv_effect.specs.StampedTables.{StampedRow, StampedTables}
use Rattle.sv_effect.specs.TablesOfCut.{is_place, init_place, row_at, all_to, tables_by, tables_held}
use Rattle.sv_effect.proofs.PlaceListLaws.{among}
use Rattle.sv_effect.proofs.TableLaws.{get-tables_by}
use Rattle.sv_core.specs.declared.docs.Doc.{Doc}
use Rattle.sv_core.specs.declared.sites.SiteState.{SiteState}
use Rattle.sv_core.specs.Clock.{latest_in}
use Rattle.sv_core.specs.Document.{Document, document_of}
use Rattle.sv_core.specs.History.{cut_of, published}
use Rattle.sv_core.specs.Sound.{Sound, IsSite}
use Rattle.sv_core.specs.Standing.{HasFirst, IsFresh, AreFresh}
use Rattle.sv_core.proofs.CountLaws.{inserted_many}
use Rattle.sv_core.proofs.ListLaws.{get_pushed}
use Rattle.sv_core.proofs.TakeLaws.{none_named}

-- the place of the first of distinct rows is none of the others'
free_place : (x : InitRow) (rows : List InitRow) → All (λ other. init_place x ≡ init_place other → ⊥) rows → among (init_place x) (map init_place rows) ≡ false
free_place x [] apart = refl
free_place x (y ∷ rows) apart =
    by (is_place (init_place x) (init_place y)) refl (free_place x rows (All-tail (λ other. init_place x ≡ init_place other → ⊥) y rows apart))
  where
    by : (b : Bool) → is_place (init_place x) (init_place y) ≡ b → among (init_place x) (map init_place rows) ≡ false
        → (b || among (init_place x) (map init_place rows)) ≡ false
    by true is ih =
        absurd (All-head (λ other. init_place x ≡ init_place other → ⊥) y rows apart (tells_apart exact_places (init_place x) (init_place y) is))
    by false is ih = ih

-- distinct rows are all kept
distinct_kept : (rows : List InitRow) (row : Place → StampedRow) → AreDistinct rows → length rows ≤ how_many (tables_by (map init_place rows) row)
distinct_kept [] row distinct = omega arith
distinct_kept (x ∷ rows) row distinct =
    let t : StampedTables = tables_by (map init_place rows) row in
    let ih : length rows ≤ how_many t = distinct_kept rows row distinct.1 in
    let free : is_some (get t (init_place x)) ≡ false =
    ap is_some (get-tables_by (map init_place rows) row (init_place x))
    ∙ ap (λ b. is_some (if b then Some (row (init_place x)) else None)) (free_place x rows distinct.0) in
    let one : how_many (tables_by (map init_place (x ∷ rows)) row) ≡ how_many t + 1 =
    inserted_many t (init_place x) (row (init_place x)) ∙ ap (λ b. cond b (how_many t) (how_many t + 1)) free in
    omega (arith, ih, one)

start_kept : (schema : List Declaration) (init : List InitRow) → AreDistinct init → length init ≤ how_many (tables_held schema init empty)
start_kept schema init distinct =
    let kept : length init ≤ how_many (tables_by (map init_place init) (row_at schema init empty)) = distinct_kept init (row_at schema init empty) distinct in
    let same : how_many (tables_held schema init empty) ≡ how_many (tables_by (map init_place init) (row_at schema init empty)) =
    ap (λ ps. how_many (tables_by (map init_place init ++ ps) (row_at schema init empty))) none_named
    ∙ ap (λ ps. how_many (tables_by ps (row_at schema init empty))) (append-nil (map init_place init)) in
    omega (arith, kept, same)

none_latest : (doc : Document) (s : ℕ) → latest_in (published doc []) (cut_of [] s) ≡ 0
unfolding all_to
none_latest doc s = refl

has_none : (s : ℕ) → HasFirst [] s 0
has_none s = record { within = omega arith; had = λ place packet lt get. absurd (omega (arith, lt)) }

pub is_fresh : (doc : Doc) (site : ℕ) (state : SiteState) → Sound (document_of doc) → IsSite (document_of doc) site → state.doc.value ≡ doc → state.site ≡ site
    → state.rows.tables ≡ tables_held (document_of doc).schema doc.init empty → TablesAreOf (document_of doc).schema state.rows.tables
    → doc.rows ≤ length doc.init + state.rows.room → ((o : ℕ) → counts state.cut o ≡ 0) → state.past.items ≡ [] → doc.asks ≤ vec_capacity state.past
    → state.latest ≡ 0 → state.caught ≡ 0 → state.inbox ≡ [] → IsFresh (document_of doc) site state
is_fresh doc site state sound there made is tables fit room cut past space latest caught inbox = record {
  stands = record {
    lawful = record { sound = sound; legal = tt };
    made = ap document_of made;
    there = subst (IsSite (document_of doc)) (sym is) there;
    past = past;
    tables = tables;
    fit = fit;
    cut = cut;
    latest = latest ∙ sym (none_latest (document_of doc) state.site);
    room =
        let kept : length doc.init ≤ how_many (tables_held (document_of doc).schema doc.init empty) =
        start_kept (document_of doc).schema doc.init sound.distinct in
        let same : how_many state.rows.tables ≡ how_many (tables_held (document_of doc).schema doc.init empty) = ap how_many tables in
        omega (arith, room, kept, same);
    caught = subst (HasFirst [] state.site) (sym caught) (has_none state.site);
    space = space;
  };
  is = is;
  empty = inbox;
}

pub none_fresh : (doc : Document) → AreFresh doc 0 []
none_fresh doc = record { long = refl; all = λ place state get. absurd cc }

-- one site more
pub fresh_more : (doc : Document) (n site : ℕ) (states : List SiteState) (state : SiteState) → AreFresh doc n states → site ≡ suc n → IsFresh doc site state
    → AreFresh doc (suc n) (states ++ state ∷ [])
fresh_more doc n site states state fresh next new = record {
  long = let more = length_push states state in omega (arith, more, fresh.long);
  all = λ place x get. by place x (get_pushed states state place x get);
}
  where
    by : (place : ℕ) (x : SiteState) → (slice_get states place ≡ Some x) ⊎ ((place ≡ length states) × (state ≡ x)) → IsFresh doc (suc place) x
    by place x (inl old) = fresh.all place x old
    by place x (inr last) =
        let is : site ≡ suc place = omega (arith, next, last.0, fresh.long) in
        subst (IsFresh doc (suc place)) last.1 (subst (λ n. IsFresh doc n state) is new)
