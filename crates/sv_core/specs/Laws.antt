-- The laws of legal histories: what holds of what they publish, of every cut of it, and of the tables of every site at every place.
use Rattle.std.specs.Prelude.{◌≡◌, ℕ, ◌≤◌, true, List, ◌∷◌, drop, Some, IsSome, slice_get}
use Rattle.std.specs.FinMap.{get}
use Rattle.sv_value.specs.declared.values.Key.{Key}
use Rattle.sv_value.specs.Cuts.{counts, Covers, more}
use Rattle.sv_app.specs.declared.places.Place.{Place}
use Rattle.sv_app.specs.Kinds.{is_grow_only}
use Rattle.sv_app.specs.Schema.{Declaration}
use Rattle.sv_app.specs.Tables.{Tables}
use Rattle.sv_app.specs.Valid.{IsPresent, Valid}
use Rattle.sv_effect.specs.declared.ops.Op.{Op}
use Rattle.sv_effect.specs.Applied.{applied}
use Rattle.sv_effect.specs.BareTables.{bare}
use Rattle.sv_effect.specs.Cut.{Cut, Medium, Lies, Closed, empty}
use Rattle.sv_effect.specs.Has.{Has}
use Rattle.sv_effect.specs.Laws.{AllAllowed, Differ, BluesMerge, OwnDeps, EightSites}
use Rattle.sv_effect.specs.Safe.{Unmade}
use Rattle.sv_effect.specs.Sequences.{Placed, IsSequence, applied_all}
use Rattle.sv_effect.specs.StampedTables.{StampedTables}
use Rattle.sv_effect.specs.TablesOfCut.{tables_held, tables_of}
use Rattle.sv_effect.specs.Run.{RunResult}
use Rattle.sv_trace.specs.Laws.{RowsAreOf}
use Rattle.sv_safety.specs.Laws.{IsBlue}
use Rattle.sv_threat.specs.declared.label.Label.{Label}
use Rattle.sv_core.specs.declared.entries.Entry.{Entry}
use Rattle.sv_core.specs.declared.entries.Reply.{Reply}
use Rattle.sv_core.specs.Document.{Document}
use Rattle.sv_core.specs.History.{History, cut_of, published, tables_at}
use Rattle.sv_core.specs.Judged.{IsJudged}
use Rattle.sv_core.specs.Legal.{Legal, IsNext}
use Rattle.sv_core.specs.Sound.{Sound}

-- a legal history of a sound document
pub record IsLawful (doc : Document) (h : History) : Type 0 where
  pub sound : Sound doc
  pub legal : Legal doc h

-- the tables of a cut of what the history publishes
abbrev pub cut_tables : Document → History → Cut → StampedTables
cut_tables doc h cut = tables_of doc.schema doc.init (published doc h) cut

-- a closed cut of what is published
pub record IsCut (doc : Document) (h : History) (cut : Cut) : Type 0 where
  pub lies : Lies (published doc h) cut
  pub closed : Closed (published doc h) cut

-- a request is answered in one way on given tables, and has one label
pub record AreOne (a b : Reply) (l m : Label) : Type 0 where
  pub replies : a ≡ b
  pub labels : l ≡ m

abbrev pub JudgedOnce : Type 0
JudgedOnce = (schema : List Declaration) (t : Tables) (ran : RunResult) (a b : Reply) (l m : Label) → IsJudged schema t ran a l → IsJudged schema t ran b m → AreOne a b l m

-- sites that have the same operations have equal tables
abbrev pub EqualCuts : Type 0
EqualCuts = (doc : Document) (h : History) (s t : ℕ) → ((o : ℕ) → cut_of h s o ≡ cut_of h t o) → tables_at doc h s ≡ tables_at doc h t

-- a history is legal exactly where each of its entries is the next one of those before it
abbrev pub EachIsNext : Document → History → Type 0
EachIsNext doc h = (n : ℕ) (e : Entry) (before : History) → drop n h ≡ e ∷ before → IsNext doc before e

abbrev pub LegalByPlaces : Type 0
LegalByPlaces = (doc : Document) (h : History) → (Legal doc h → EachIsNext doc h) × (EachIsNext doc h → Legal doc h)

-- what a site had at a place has the tables that it had there, however much is published later
abbrev pub TablesStand : Type 0
TablesStand = (doc : Document) (h : History) (n s : ℕ) → IsLawful doc h → tables_at doc (drop n h) s ≡ cut_tables doc h (cut_of (drop n h) s)

-- what a legal history publishes: operations that the schema allows and no two of which were made at one site at the same time, of which the
-- blue ones merge, and whose deps count just the earlier ones of their own origin
pub record Merges (doc : Document) (m : Medium) : Type 0 where
  pub allowed : AllAllowed doc.schema m
  pub differ : Differ m
  pub blues : BluesMerge doc.schema m
  pub own : OwnDeps m
  pub eight : EightSites m

abbrev pub PublishedMerges : Type 0
PublishedMerges = (doc : Document) (h : History) → IsLawful doc h → Merges doc (published doc h)

-- the next operation of an origin is applied to the tables of the cut, whatever else the cut holds
abbrev pub OneMore : Type 0
OneMore = (doc : Document) (h : History) (cut : Cut) (o : ℕ) (op : Op) → IsLawful doc h → slice_get (published doc h o) (cut o) ≡ Some op
    → cut_tables doc h (more cut o) ≡ applied doc.schema op (cut_tables doc h cut)

-- whatever sequence the operations of a cut are applied in to the initial tables, as long as each finds its deps applied, the tables of the cut
-- come out
abbrev pub AnySequence : Type 0
AnySequence = (doc : Document) (h : History) (cut : Cut) (xs : List Placed) → IsLawful doc h → IsSequence (published doc h) cut xs
    → applied_all doc.schema xs (tables_held doc.schema doc.init empty) ≡ cut_tables doc h cut

-- a site has, at every place, a closed cut
abbrev pub CutsClosed : Type 0
CutsClosed = (doc : Document) (h : History) (n s : ℕ) → IsLawful doc h → IsCut doc h (cut_of (drop n h) s)

-- a row that a closed cut keeps is kept by each one above it
abbrev pub KeptStay : Type 0
KeptStay = (doc : Document) (h : History) (from to : Cut) (p : Place) → IsLawful doc h → IsCut doc h from → IsCut doc h to → Covers to from
    → IsSome (get (bare (cut_tables doc h from)) p) → IsSome (get (bare (cut_tables doc h to)) p)

-- and a present row of a grow-only table is present there
abbrev pub GrownStay : Type 0
GrownStay = (doc : Document) (h : History) (from to : Cut) (table : ℕ) (d : Declaration) (key : Key) → IsLawful doc h → IsCut doc h from → IsCut doc h to → Covers to from
    → slice_get doc.schema table ≡ Some d → is_grow_only d.kind ≡ true
    → IsPresent (bare (cut_tables doc h from)) table key → IsPresent (bare (cut_tables doc h to)) table key

-- the needs of an operation hold on each closed cut that has what it was made on
abbrev pub NeedsHold : Type 0
NeedsHold = (doc : Document) (h : History) (o q : ℕ) (op : Op) (cut : Cut) → IsLawful doc h → slice_get (published doc h o) q ≡ Some op → IsCut doc h cut → Covers cut (counts op.deps)
    → Has doc.schema op (cut_tables doc h cut)

-- no closed cut that lacks an operation keeps a row under a key that it drew
abbrev pub LackedUnmade : Type 0
LackedUnmade = (doc : Document) (h : History) (o q : ℕ) (op : Op) (cut : Cut) → IsLawful doc h → slice_get (published doc h o) q ≡ Some op → IsCut doc h cut → cut o ≤ q
    → Unmade op (cut_tables doc h cut)

-- a blue operation is safe and commutes, whatever its time and its site
abbrev pub BluesAreSafe : Type 0
BluesAreSafe = (doc : Document) (h : History) (o q : ℕ) (op : Op) → IsLawful doc h → 1 ≤ o → slice_get (published doc h o) q ≡ Some op → IsBlue doc.schema op

-- blue operations lead from valid tables to valid ones
abbrev pub BluesLead : Type 0
BluesLead = (doc : Document) (h : History) (from to : Cut) → IsLawful doc h → IsCut doc h from → IsCut doc h to → Covers to from → from 0 ≡ to 0
    → Valid doc.schema (bare (cut_tables doc h from)) → Valid doc.schema (bare (cut_tables doc h to))

-- the tables of every closed cut are valid
abbrev pub CutsValid : Type 0
CutsValid = (doc : Document) (h : History) (cut : Cut) → IsLawful doc h → IsCut doc h cut → Valid doc.schema (bare (cut_tables doc h cut))

-- and so are those of every site at every place
abbrev pub PlacesValid : Type 0
PlacesValid = (doc : Document) (h : History) (n s : ℕ) → IsLawful doc h → Valid doc.schema (bare (tables_at doc (drop n h) s))

-- their rows are of the document's tables
abbrev pub PlacesStand : Type 0
PlacesStand = (doc : Document) (h : History) (n s : ℕ) → IsLawful doc h → RowsAreOf doc.schema (bare (tables_at doc (drop n h) s))
