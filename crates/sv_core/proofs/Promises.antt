-- The laws of legal histories.
use Rattle.std.proofs.Common.{◌≡◌, ℕ, suc, [], ◌∷◌, drop, refl, sym, subst, arith}
use Rattle.std.specs.Prelude.{IsSome}
use Rattle.std.specs.FinMap.{get}
use Rattle.sv_app.specs.Valid.{IsPresent}
use Rattle.sv_effect.specs.BareTables.{bare}
use Rattle.sv_effect.specs.TablesOfCut.{tables_of}
use Rattle.sv_effect.proofs.Promises as effects
use Rattle.sv_safety.proofs.Promises as safety
use Rattle.sv_core.specs.declared.entries.Entry.{Entry}
use Rattle.sv_core.specs.Document.{Document}
use Rattle.sv_core.specs.History.{History, cut_of, published, tables_at}
use Rattle.sv_core.specs.Laws as law
use Rattle.sv_core.specs.Laws.{IsLawful, IsCut, Merges, EachIsNext, cut_tables}
use Rattle.sv_core.specs.Legal.{Legal, IsNext}
use Rattle.sv_core.proofs.BirthLaws.{lawful_since, past_lies, past_closed}
use Rattle.sv_core.proofs.FactLaws.{Facts, all_facts, merges_of, stand, step_tables, needs, lacked, blues, lift}
use Rattle.sv_core.proofs.HistoryLaws.{legal_since, tables_since, within}
use Rattle.sv_core.proofs.WalkLaws.{Step, walk}

pub equal_cuts : law.EqualCuts
equal_cuts doc h s t same = λ i. tables_of doc.schema doc.init (published doc h) (λ o. same o i)

-- what stands at a place, and what all places say
next_at : (doc : Document) (n : ℕ) (h : History) (e : Entry) (before : History) → Legal doc h → drop n h ≡ e ∷ before → IsNext doc before e
next_at doc n h e before legal is = (subst (Legal doc) is (legal_since doc n h legal)).0

by_places : (doc : Document) (h : History) → EachIsNext doc h → Legal doc h
by_places doc [] each = tt
by_places doc (e ∷ h) each = (each 0 e h refl, by_places doc h (λ n x before is. each (suc n) x before is))

pub legal_by_places : law.LegalByPlaces
legal_by_places doc h = (λ legal n e before is. next_at doc n h e before legal is, by_places doc h)

pub tables_stand : law.TablesStand
tables_stand doc h n s lawful = tables_since doc n h (cut_of (drop n h) s) (within doc (drop n h) (legal_since doc n h lawful.legal) s)

pub cuts_closed : law.CutsClosed
cuts_closed doc h n s lawful = record { lies = past_lies doc n h lawful.legal s; closed = past_closed doc n h lawful s }

pub published_merges : law.PublishedMerges
published_merges doc h lawful = merges_of doc h lawful (all_facts doc h lawful)

pub one_more : law.OneMore
one_more doc h cut o op lawful next = step_tables doc h lawful (all_facts doc h lawful) cut o op next

pub any_sequence : law.AnySequence
any_sequence doc h cut xs lawful is =
    let m : Merges doc (published doc h) = published_merges doc h lawful in
    effects.any_sequence doc.schema doc.init (published doc h) cut xs m.allowed m.differ m.blues m.own m.eight is

pub kept_stay : law.KeptStay
kept_stay doc h from to p lawful begin cut cover kept =
    walk doc h lawful from to (λ d. IsSome (get (bare (cut_tables doc h d)) p)) begin.closed cut.closed cover cut.lies kept step
  where
    step : Step (published doc h) from to (λ d. IsSome (get (bare (cut_tables doc h d)) p))
    step d x op low inside shut next ready had =
        subst (λ t. IsSome (get (bare t) p)) (sym (one_more doc h d x op lawful next)) (safety.kept_stays doc.schema op (cut_tables doc h d) p had)

pub grown_stay : law.GrownStay
grown_stay doc h from to table d key lawful begin cut cover declared grows present =
    walk doc h lawful from to (λ c. IsPresent (bare (cut_tables doc h c)) table key) begin.closed cut.closed cover cut.lies present step
  where
    step : Step (published doc h) from to (λ c. IsPresent (bare (cut_tables doc h c)) table key)
    step c x op low inside shut next ready had =
        subst (λ t. IsPresent (bare t) table key) (sym (one_more doc h c x op lawful next))
        (safety.grown_stays doc.schema op (cut_tables doc h c) table d key (all_facts doc h lawful x (c x) op next).made.fits declared grows had)

pub needs_hold : law.NeedsHold
needs_hold doc h o q op cut lawful stands is cover = needs doc h lawful (all_facts doc h lawful) o q op stands cut is cover

pub lacked_unmade : law.LackedUnmade
lacked_unmade doc h o q op cut lawful stands is lacks = lacked doc h lawful (all_facts doc h lawful) cut is o q op stands lacks

pub blues_are_safe : law.BluesAreSafe
blues_are_safe doc h o q op lawful one stands =
    let f : Facts doc h o op = all_facts doc h lawful o q op stands in
    record {
      safe = f.safe (λ none. absurd (omega (arith, one, none)));
      commutes = effects.unthreatened_commute doc.schema op f.made.fits (f.merges (λ none. absurd (omega (arith, one, none))));
    }

pub blues_lead : law.BluesLead
blues_lead doc h from to lawful begin cut cover reds valid = blues doc h lawful (all_facts doc h lawful) from to begin cut cover reds valid

pub cuts_valid : law.CutsValid
cuts_valid doc h cut lawful is = lift doc h lawful (all_facts doc h lawful) cut is

pub places_valid : law.PlacesValid
places_valid doc h n s lawful =
    let old : IsLawful doc (drop n h) = lawful_since doc n h lawful in
    cuts_valid doc (drop n h) (cut_of (drop n h) s) old (cuts_closed doc (drop n h) 0 s old)

pub places_stand : law.PlacesStand
places_stand doc h n s lawful =
    let old : IsLawful doc (drop n h) = lawful_since doc n h lawful in
    (safety.standing_fits doc.schema (tables_at doc (drop n h) s) old.sound.accepted.tables
    (stand doc (drop n h) old (all_facts doc (drop n h) old) (cut_of (drop n h) s) (cuts_closed doc (drop n h) 0 s old))).rows
