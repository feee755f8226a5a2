-- What comes to a site: its store can take it, and then has the tables of the longer history.
use Rattle.std.proofs.Common.{◌≡◌, ℕ, suc, ◌+◌, ◌≤◌, ◌==◌, ◌&&◌, ◌||◌, if◌then◌else◌, Bool, true, false, List, [], ◌∷◌, ◌++◌, length, map, Some, None, slice_get, refl, sym, ap, subst, ◌∙◌, arith}
use Rattle.std.specs.Prelude.{All, max}
use Rattle.std.proofs.lemmas.List.{append-nil, length-map}
use Rattle.std.proofs.lemmas.List.Elements.{All-head, All-tail}
use Rattle.std.proofs.lemmas.Option.{get_or_from_slice_get, slice_get_within}
use Rattle.sv_value.specs.declared.values.Val.{Val}
use Rattle.sv_value.specs.Cuts.{counts, Covers, more, origin}
use Rattle.sv_app.specs.declared.places.Place.{Place}
use Rattle.sv_app.specs.declared.requests.InitRow.{InitRow}
use Rattle.sv_app.specs.Schema.{Declaration}
use Rattle.sv_app.proofs.TestLaws.{test_same}
use Rattle.sv_effect.specs.declared.ops.Op.{Op}
use Rattle.sv_effect.specs.Applied.{columns_in, applied}
use Rattle.sv_effect.specs.BareTables.{how_many}
use Rattle.sv_effect.specs.Cut.{Cut, empty, held}
use Rattle.sv_effect.specs.Fits.{OpFits}
use Rattle.sv_effect.specs.StampedTables.{StampedRow, StampedTables}
use Rattle.sv_effect.specs.TablesOfCut.{is_place, number_in, init_place, initial, row_at, named_by, all_to, tables_held}
use Rattle.sv_effect.specs.Takes.{inserts}
use Rattle.sv_effect.proofs.InitialLaws.{start_row, get-start}
use Rattle.sv_effect.proofs.PlaceListLaws.{among}
use Rattle.sv_safety.specs.Laws.{LeavesRows}
use Rattle.sv_safety.proofs.Promises as safety
use Rattle.sv_core.specs.declared.entries.Entry.{Entry}
use Rattle.sv_core.specs.declared.entries.Entry.TheVariants.{Answer, Apply, Move}
use Rattle.sv_core.specs.Clock.{latest_in}
use Rattle.sv_core.specs.Counts.{IsShort, HasShortValues, AreShort, CanTake}
use Rattle.sv_core.specs.Document.{Document}
use Rattle.sv_core.specs.History.{History, brings, cut_of, published, tables_at}
use Rattle.sv_core.specs.Laws.{IsLawful, IsCut, cut_tables}
use Rattle.sv_core.specs.Room.{inserts_in, changes_in, rows_used, changes_used}
use Rattle.sv_core.specs.WorldLaws.{BroughtIsTaken}
use Rattle.sv_core.proofs.BirthLaws.{brought, past_lies, past_closed}
use Rattle.sv_core.proofs.ClockLaws.{held_grown, latest_more}
use Rattle.sv_core.proofs.CountLaws.{TablesWithin, AreWithin, one_within, from_within, changes_within, bounds_kept, changes_many, places_many, same_row}
use Rattle.sv_core.proofs.CutLaws.{both_true}
use Rattle.sv_core.proofs.FactLaws.{AllFacts, all_facts, nothing, none_closed, lies_below, small_origin, step_tables, needs, lacked, stand}
use Rattle.sv_core.proofs.HistoryLaws.{tables_since, within}
use Rattle.sv_core.proofs.RoomLaws.{all_few}
use Rattle.sv_core.proofs.SameLaws.{latest_since}
use Rattle.sv_core.proofs.SumLaws.{AddsUp, inserts_add_up, changes_add_up, all_grown, all_none, held_le}
use Rattle.sv_core.proofs.WalkLaws.{Step, walk}

-- the initial rows: each number of 64 bits, and as many rows
short_value : (vs : List Val) (c : ℕ) (v : Val) → All (λ x. IsShort (number_in x)) vs → slice_get vs c ≡ Some v → IsShort (number_in v)
short_value vs c v short at = subst (λ x. IsShort (number_in x)) (get_or_from_slice_get vs c v v at) (short c v (slice_get_within vs c v at))

start_within : (schema : List Declaration) (init : List InitRow) (q : Place) (row : StampedRow) → All HasShortValues init
    → (if among q (map init_place init) then Some (start_row schema q (initial q init)) else None) ≡ Some row → AreWithin 1 row.cells
start_within schema [] q row short e = absurd cc
start_within schema (x ∷ init) q row short e = by (is_place q (init_place x)) e (start_within schema init q row (All-tail HasShortValues x init short))
  where
    by : (b : Bool) → (if b || among q (map init_place init) then Some (start_row schema q (if b then Some x.values else initial q init)) else None) ≡ Some row
        → ((if among q (map init_place init) then Some (start_row schema q (initial q init)) else None) ≡ Some row → AreWithin 1 row.cells)
        → AreWithin 1 row.cells
    by true e ih = subst (λ r. AreWithin 1 r.cells) (same_row (start_row schema q (Some x.values)) row e)
        (from_within 1 (columns_in schema q) x.values
        (λ c column v declared at counter. one_within (number_in v) (short_value x.values c v (All-head HasShortValues x init short) at)))
    by false e ih = ih e

pub none_named : all_to (λ o. named_by (empty o)) 9 ≡ []
unfolding all_to
none_named = refl

start_many : (schema : List Declaration) (init : List InitRow) → how_many (tables_held schema init empty) ≤ length init
start_many schema init =
    let few : how_many (tables_held schema init empty) ≤ length (map init_place init ++ all_to (λ o. named_by (empty o)) 9) =
    places_many (map init_place init ++ all_to (λ o. named_by (empty o)) 9) (row_at schema init empty) in
    let many : length (map init_place init ++ all_to (λ o. named_by (empty o)) 9) ≡ length init =
    ap (λ ps. length (map init_place init ++ ps)) none_named ∙ ap length (append-nil (map init_place init)) ∙ length-map init init_place in
    omega (arith, few, many)

-- how many changes and inserts a cut holds
abbrev changes_held : Document → History → Cut → ℕ
changes_held doc h d = changes_in (all_to (held (published doc h) d) 9)

abbrev inserts_held : Document → History → Cut → ℕ
inserts_held doc h d = inserts_in (all_to (held (published doc h) d) 9)

-- the rows of a cut: counts grow by its changes at most, and rows by its inserts
record AreFew (doc : Document) (h : History) (d : Cut) : Type 0 where
  within : TablesWithin (suc (changes_held doc h d)) (cut_tables doc h d)
  many : how_many (cut_tables doc h d) ≤ length doc.init + inserts_held doc h d

start_few : (doc : Document) (h : History) → All HasShortValues doc.init → AreFew doc h nothing
start_few doc h short = record {
  within = subst (λ n. TablesWithin (suc n) (cut_tables doc h nothing)) (sym (all_none changes_in changes_add_up (held (published doc h) nothing) (λ o. refl)))
      (λ q row is. start_within doc.schema doc.init q row short (sym (get-start doc.schema doc.init q) ∙ is));
  many =
      let few : how_many (cut_tables doc h nothing) ≤ length doc.init = start_many doc.schema doc.init in
      omega (arith, few);
}

-- an operation finds its rows on a closed cut that is ready for it
leaves : (doc : Document) (h : History) → IsLawful doc h → (d : Cut) → IsCut doc h d → (o : ℕ) (op : Op) → slice_get (published doc h o) (d o) ≡ Some op
    → Covers d (counts op.deps)
    → LeavesRows doc.schema op (cut_tables doc h d)
leaves doc h lawful d cut o op next ready =
    safety.rows_stay doc.schema op (cut_tables doc h d) lawful.sound.accepted.tables (facts o (d o) op next).made
    (needs doc h lawful facts o (d o) op next d cut ready) (lacked doc h lawful facts d cut o (d o) op next (omega arith)) (stand doc h lawful facts d cut)
  where
    facts : AllFacts doc h
    facts = all_facts doc h lawful

-- how much more a cut holds with the next operation
held_more : (F : List Op → ℕ) → AddsUp F → (doc : Document) (h : History) → IsLawful doc h → (d : Cut) (o : ℕ) (op : Op)
    → slice_get (published doc h o) (d o) ≡ Some op → F (all_to (held (published doc h) (more d o)) 9) ≡ F (all_to (held (published doc h) d) 9) + F (op ∷ [])
held_more F adds doc h lawful d o op next =
    all_grown F adds (held (published doc h) d) (held (published doc h) (more d o)) o (op ∷ []) (held_grown (published doc h) d o op next)
    (small_origin doc h o (d o) op lawful next)

more_changes : (doc : Document) (h : History) → IsLawful doc h → (d : Cut) (o : ℕ) (op : Op) → slice_get (published doc h o) (d o) ≡ Some op
    → changes_held doc h (more d o) ≡ changes_held doc h d + length op.effects
more_changes doc h lawful d o op next =
    let grown : changes_held doc h (more d o) ≡ changes_held doc h d + changes_in (op ∷ []) = held_more changes_in changes_add_up doc h lawful d o op next in
    omega (arith, grown)

more_inserts : (doc : Document) (h : History) → IsLawful doc h → (d : Cut) (o : ℕ) (op : Op) → slice_get (published doc h o) (d o) ≡ Some op
    → inserts_held doc h (more d o) ≡ inserts_held doc h d + inserts op.effects
more_inserts doc h lawful d o op next =
    let grown : inserts_held doc h (more d o) ≡ inserts_held doc h d + inserts_in (op ∷ []) = held_more inserts_in inserts_add_up doc h lawful d o op next in
    omega (arith, grown)

few_more : (doc : Document) (h : History) → IsLawful doc h → AreShort doc (published doc h) → (d : Cut) → IsCut doc h d → (o : ℕ) (op : Op)
    → slice_get (published doc h o) (d o) ≡ Some op
    → Covers d (counts op.deps) → AreFew doc h d → AreFew doc h (more d o)
few_more doc h lawful short d cut o op next ready few = record { within = within_more; many = many_more }
  where
    facts : AllFacts doc h
    facts = all_facts doc h lawful

    t : StampedTables
    t = cut_tables doc h d

    tables : cut_tables doc h (more d o) ≡ applied doc.schema op t
    tables = step_tables doc h lawful facts d o op next

    within_more : TablesWithin (suc (changes_held doc h (more d o))) (cut_tables doc h (more d o))
    within_more =
        let count : suc (changes_held doc h d) + length op.effects ≡ suc (changes_held doc h (more d o)) =
        (let grown = more_changes doc h lawful d o op next in omega (arith, grown)) in
        subst (TablesWithin (suc (changes_held doc h (more d o)))) (sym tables)
        (subst (λ n. TablesWithin n (applied doc.schema op t)) count
        (changes_within doc.schema op 0 (suc (changes_held doc h d)) op.effects t lawful.sound.accepted.tables (facts o (d o) op next).made.fits.changes
        (short.adds o (d o) op next) few.within))

    many_more : how_many (cut_tables doc h (more d o)) ≤ length doc.init + inserts_held doc h (more d o)
    many_more =
        let same : how_many (cut_tables doc h (more d o)) ≡ how_many (applied doc.schema op t) = ap how_many tables in
        let grew : how_many (applied doc.schema op t) ≤ how_many t + inserts op.effects =
        changes_many doc.schema op 0 op.effects t (leaves doc h lawful d cut o op next ready).finds in
        let before : how_many t ≤ length doc.init + inserts_held doc h d = few.many in
        let grown : inserts_held doc h (more d o) ≡ inserts_held doc h d + inserts op.effects = more_inserts doc h lawful d o op next in
        omega (arith, same, grew, before, grown)

cut_few : (doc : Document) (h : History) → IsLawful doc h → AreShort doc (published doc h) → (to : Cut) → IsCut doc h to → AreFew doc h to
cut_few doc h lawful short to cut =
    walk doc h lawful nothing to (AreFew doc h) (none_closed (published doc h)) cut.closed (λ o. omega arith) cut.lies (start_few doc h short.init) step
  where
    step : Step (published doc h) nothing to (AreFew doc h)
    step d x op low inside shut next ready few =
        few_more doc h lawful short d (record { lies = lies_below (published doc h) d to x inside cut.lies; closed = shut }) x op next ready few

-- a closed cut that is ready for the next operation of an origin can take it
can_take : (doc : Document) (h : History) → IsLawful doc h → AreShort doc (published doc h) → (d : Cut) → IsCut doc h d → (o : ℕ) (op : Op)
    → slice_get (published doc h o) (d o) ≡ Some op
    → Covers d (counts op.deps) → CanTake doc op (cut_tables doc h d)
can_take doc h lawful short d cut o op next ready = record {
  fits = fits;
  found = (leaves doc h lawful d cut o op next ready).finds;
  counts = bounds_kept doc.schema op 0 (suc (changes_held doc h d)) op.effects (cut_tables doc h d) lawful.sound.accepted.tables fits.changes
      (short.adds o (d o) op next) few.within small;
  room =
      let many : how_many (cut_tables doc h d) ≤ length doc.init + inserts_held doc h d = few.many in
      let grown : inserts_held doc h (more d o) ≡ inserts_held doc h d + inserts op.effects = more_inserts doc h lawful d o op next in
      let le : inserts_held doc h (more d o) ≤ inserts_in (all_to (published doc h) 9) = held_le inserts_in inserts_add_up (published doc h) (more d o) in
      let used : rows_used doc (published doc h) ≤ doc.rows = (all_few doc h lawful).rows in
      omega (arith, many, grown, le, used);
}
  where
    fits : OpFits doc.schema op
    fits = (all_facts doc h lawful o (d o) op next).made.fits

    few : AreFew doc h d
    few = cut_few doc h lawful short d cut

    small : suc (changes_held doc h d) + length op.effects ≤ 65537
    small =
        let grown : changes_held doc h (more d o) ≡ changes_held doc h d + length op.effects = more_changes doc h lawful d o op next in
        let le : changes_held doc h (more d o) ≤ changes_in (all_to (published doc h) 9) = held_le changes_in changes_add_up (published doc h) (more d o) in
        let used : changes_used (published doc h) ≤ doc.changes = (all_few doc h lawful).changes in
        let most : doc.changes ≤ 65536 = lawful.sound.changes in
        omega (arith, grown, le, used, most)

-- an entry brings a site operations of one origin
brings_only : (e : Entry) (s o x : ℕ) → brings e s o ≡ true → brings e s x ≡ (x == o)
brings_only (Answer session index request site at reply label None) s o x b = absurd cc
brings_only (Answer session index request site at reply label (Some packet)) s o x b =
    let tests = both_true (s == site) (o == origin packet) b in
    ap (λ t. t && x == origin packet) tests.0 ∙ ap (λ p. x == p) (sym (test_same o (origin packet) tests.1))
brings_only (Apply site packet) s o x b =
    let tests = both_true (s == site) (o == origin packet) b in
    ap (λ t. t && x == origin packet) tests.0 ∙ ap (λ p. x == p) (sym (test_same o (origin packet) tests.1))
brings_only (Move session site) s o x b = absurd cc

brought_cut : (e : Entry) (h : History) (s o : ℕ) → brings e s o ≡ true → cut_of (e ∷ h) s ≡ more (cut_of h s) o
brought_cut e h s o b = λ i x. if brings_only e s o x b i then suc (cut_of h s x) else cut_of h s x

pub brought_is_taken : BroughtIsTaken
brought_is_taken doc e h s o op lawful short b next = record {
  takes = subst (CanTake doc op) (sym stand_still) (can_take doc (e ∷ h) lawful short cut is_cut o op next (brought doc h e s o op lawful b next));
  tables =
      (λ i. cut_tables doc (e ∷ h) (after i)) ∙ step_tables doc (e ∷ h) lawful (all_facts doc (e ∷ h) lawful) cut o op next
      ∙ ap (applied doc.schema op) (sym stand_still);
  latest =
      (λ i. latest_in (published doc (e ∷ h)) (after i)) ∙ latest_more (published doc (e ∷ h)) cut o op (small_origin doc (e ∷ h) o (cut o) op lawful next) next
      ∙ (λ i. max (latest_since doc e h cut (within doc h lawful.legal.1 s) i) op.time);
}
  where
    cut : Cut
    cut = cut_of h s

    is_cut : IsCut doc (e ∷ h) cut
    is_cut = record { lies = past_lies doc 1 (e ∷ h) lawful.legal s; closed = past_closed doc 1 (e ∷ h) lawful s }

    after : cut_of (e ∷ h) s ≡ more cut o
    after = brought_cut e h s o b

    stand_still : tables_at doc h s ≡ cut_tables doc (e ∷ h) cut
    stand_still = tables_since doc 1 (e ∷ h) cut (within doc h lawful.legal.1 s)
