-- What is known of a legal history and the lists that it published.
use Rattle.std.proofs.Common.{◌≡◌, ℕ, ◌+◌, ◌-◌, ◌<◌, ◌≤◌, ◌^◌, ◌==◌, if◌then◌else◌, true, false, List, [], ◌∷◌, ◌++◌, length, take, Option, Some, None, slice_get, sym, ap, subst, ◌∙◌, arith}
use Rattle.std.specs.Prelude.{reverse}
use Rattle.sv_value.specs.declared.packets.Packet.{Packet}
use Rattle.sv_value.specs.Cuts.{counts, number, origin}
use Rattle.sv_app.specs.declared.requests.InitRow.{InitRow}
use Rattle.sv_app.specs.Accepted.{AcceptedSchema}
use Rattle.sv_app.specs.Schema.{Declaration}
use Rattle.sv_app.specs.Valid.{Valid}
use Rattle.sv_app.proofs.AcceptedLaws as accepted
use Rattle.sv_effect.specs.declared.ops.Op.{Op}
use Rattle.sv_effect.specs.BareTables.{bare}
use Rattle.sv_effect.specs.Cut.{Cut, Medium}
use Rattle.sv_effect.specs.TablesOfCut.{all_to, changes_by, tables_of}
use Rattle.sv_core.specs.declared.entries.Entry.{Entry}
use Rattle.sv_core.specs.Clock.{latest_in}
use Rattle.sv_core.specs.Document.{Document}
use Rattle.sv_core.specs.History.{History, back_to, cut_of, news, published, tables_then, with_news}
use Rattle.sv_core.specs.Laws.{IsLawful, IsCut, cut_tables}
use Rattle.sv_core.specs.Legal.{IsApply, IsNext}
use Rattle.sv_core.specs.Room.{changes_in, inserts_in, changes_used}
use Rattle.sv_core.specs.Sound.{IsSite, Sound}
use Rattle.sv_core.specs.WorldLaws.{IsFew}
use Rattle.sv_trace.specs.Laws.{RowsAreOf}
use Rattle.sv_safety.proofs.Promises as safety
use Rattle.sv_core.proofs.FactLaws.{all_facts, stand}
use Rattle.sv_core.proofs.HistoryLaws.{within}
use Rattle.sv_core.proofs.Promises.{cuts_closed, cuts_valid}
use Rattle.sv_core.proofs.RoomLaws.{all_few}
use Rattle.sv_plain.specs.Few.{FewChanges}
use Rattle.sv_plain.specs.Held.{medium_of}
use Rattle.sv_plain.specs.Narrow.{AreNarrow}
use Rattle.sv_plain.specs.Stand.{TablesStand}
use Rattle.sv_legal.specs.Told.{Told}
use Rattle.sv_legal.specs.Turns.{IsReady}
use Rattle.sv_legal.proofs.PastLaws.{cut_before}
use Rattle.sv_legal.proofs.PublishedLaws.{many_changes}

-- before any entry, and with one more
pub told_none : (doc : Document) (lists : List (List Op)) → Sound doc → length lists ≡ 9 → ((o : ℕ) → medium_of lists o ≡ []) → Told doc [] lists
told_none doc lists sound nine none = record { lawful = record { sound = sound; legal = tt }; nine = nine; are = none }

pub told_silent : (doc : Document) (h : History) (e : Entry) (lists : List (List Op)) → Told doc h lists → IsNext doc h e → news doc (published doc h) h e ≡ None → Told doc (e ∷ h) lists
told_silent doc h e lists told next none = record {
  lawful = record { sound = told.lawful.sound; legal = (next, told.lawful.legal) };
  nine = told.nine;
  are = λ o. told.are o ∙ sym (ap (λ n. with_news n (published doc h) o) none);
}

with_same : (n : Option (ℕ × Op)) (m k : Medium) (o : ℕ) → m o ≡ k o → with_news n m o ≡ with_news n k o
with_same None m k o is = is
with_same (Some n) m k o is = elim (o == n.0) as (λ b. (if b then m o ++ n.1 ∷ [] else m o) ≡ (if b then k o ++ n.1 ∷ [] else k o)) [ true ↦ ap (λ l. l ++ n.1 ∷ []) is | false ↦ is ]

pub told_more : (doc : Document) (h : History) (e : Entry) (o : ℕ) (op : Op) (lists new : List (List Op)) → Told doc h lists → IsNext doc h e → news doc (published doc h) h e ≡ Some (o, op)
    → length new ≡ 9 → ((x : ℕ) → medium_of new x ≡ with_news (Some (o, op)) (medium_of lists) x) → Told doc (e ∷ h) new
told_more doc h e o op lists new told next is nine put = record {
  lawful = record { sound = told.lawful.sound; legal = (next, told.lawful.legal) };
  nine = nine;
  are = λ x. put x ∙ with_same (Some (o, op)) (medium_of lists) (published doc h) x (told.are x) ∙ sym (ap (λ n. with_news n (published doc h) x) is);
}

-- the lists as a medium
lists_are : (doc : Document) (h : History) (lists : List (List Op)) → Told doc h lists → medium_of lists ≡ published doc h
lists_are doc h lists told = λ i o. told.are o i

-- counts fit in 32 bits
pub told_long : (doc : Document) (h : History) (lists : List (List Op)) → Told doc h lists → (o : ℕ) → length (published doc h o) ≤ 4294967295
told_long doc h lists told o =
    let few : IsFew doc h = all_few doc h told.lawful in
    omega (arith, few.lists o, few.packets, few.asked, told.lawful.sound.asks)

pub told_fits : (doc : Document) (h : History) (lists : List (List Op)) → Told doc h lists → (s o : ℕ) → cut_of h s o ≤ 4294967295
told_fits doc h lists told s o =
    let a : cut_of h s o ≤ length (published doc h o) = within doc h told.lawful.legal s o in
    let b : length (published doc h o) ≤ 4294967295 = told_long doc h lists told o in
    omega (arith, a, b)

pub fits_before : (doc : Document) (entries : List Entry) (lists : List (List Op)) → Told doc (reverse entries) lists → (at s o : ℕ) → cut_of (reverse (take at entries)) s o ≤ 4294967295
fits_before doc entries lists told at s o =
    let a : cut_of (reverse (take at entries)) s o ≤ cut_of (reverse entries) s o = cut_before entries at s o in
    let b : cut_of (reverse entries) s o ≤ 4294967295 = told_fits doc (reverse entries) lists told s o in
    omega (arith, a, b)

-- the room that is used
pub used_rows : (doc : Document) (h : History) (lists : List (List Op)) → Told doc h lists → length doc.init + inserts_in (all_to (medium_of lists) 9) ≤ doc.rows
used_rows doc h lists told =
    let few : IsFew doc h = all_few doc h told.lawful in
    let same : inserts_in (all_to (medium_of lists) 9) ≡ inserts_in (all_to (published doc h) 9) = ap (λ m. inserts_in (all_to m 9)) (lists_are doc h lists told) in
    omega (arith, few.rows, same)

pub used_changes : (doc : Document) (h : History) (lists : List (List Op)) → Told doc h lists → changes_in (all_to (medium_of lists) 9) ≤ doc.changes
used_changes doc h lists told =
    let few : IsFew doc h = all_few doc h told.lawful in
    let same : changes_in (all_to (medium_of lists) 9) ≡ changes_used (published doc h) = ap (λ m. changes_in (all_to m 9)) (lists_are doc h lists told) in
    omega (arith, few.changes, same)

pub rows_are : (doc : Document) (h : History) (lists : List (List Op)) → Told doc h lists → inserts_in (all_to (medium_of lists) 9) ≡ inserts_in (all_to (published doc h) 9)
rows_are doc h lists told = ap (λ m. inserts_in (all_to m 9)) (lists_are doc h lists told)

pub changes_are : (doc : Document) (h : History) (lists : List (List Op)) → Told doc h lists → changes_in (all_to (medium_of lists) 9) ≡ changes_used (published doc h)
changes_are doc h lists told = ap (λ m. changes_in (all_to m 9)) (lists_are doc h lists told)

pub rows_short : (doc : Document) (h : History) (lists : List (List Op)) → Told doc h lists → inserts_in (all_to (medium_of lists) 9) < 2 ^ 32
rows_short doc h lists told = let used = used_rows doc h lists told in omega (arith, used, told.lawful.sound.rows)

pub changes_short : (doc : Document) (h : History) (lists : List (List Op)) → Told doc h lists → changes_in (all_to (medium_of lists) 9) < 2 ^ 32
changes_short doc h lists told = let used = used_changes doc h lists told in omega (arith, used, told.lawful.sound.changes)

-- what the source of rows asks for
pub few_changes : (doc : Document) (h : History) (lists : List (List Op)) → Told doc h lists → FewChanges lists
few_changes doc h lists told = record {
  few =
      let used = used_changes doc h lists told in
      let same : length (changes_by (all_to (medium_of lists) 9)) ≡ changes_in (all_to (medium_of lists) 9) = many_changes (all_to (medium_of lists) 9) in
      omega (arith, used, same, told.lawful.sound.changes);
}

pub are_narrow : (schema : List Declaration) → AcceptedSchema schema → AreNarrow schema
are_narrow schema is = record { each = λ number table at. accepted.narrow schema is number table at }

-- the tables behind it are those of the place, valid ones in which each row stands in its table
pub tables_are : (doc : Document) (h : History) (lists : List (List Op)) (init : List InitRow) (site at : ℕ) (cut : Cut) → Told doc h lists → init ≡ doc.init
    → ((o : ℕ) → cut o ≡ cut_of (back_to at h) site o) → tables_of doc.schema init (medium_of lists) cut ≡ tables_then doc (published doc h) h site at
tables_are doc h lists init site at cut told is same = λ i. tables_of doc.schema (is i) (λ o. told.are o i) (λ o. same o i)

cut_then : (doc : Document) (h : History) (site at : ℕ) → IsLawful doc h → IsCut doc h (cut_of (back_to at h) site)
cut_then doc h site at lawful = cuts_closed doc h (length h - at) site lawful

pub valid_then : (doc : Document) (h : History) (site at : ℕ) → IsLawful doc h → Valid doc.schema (bare (tables_then doc (published doc h) h site at))
valid_then doc h site at lawful = cuts_valid doc h (cut_of (back_to at h) site) lawful (cut_then doc h site at lawful)

pub rows_then : (doc : Document) (h : History) (site at : ℕ) → IsLawful doc h → RowsAreOf doc.schema (bare (tables_then doc (published doc h) h site at))
rows_then doc h site at lawful = (safety.standing_fits doc.schema (tables_then doc (published doc h) h site at) lawful.sound.accepted.tables
    (stand doc h lawful (all_facts doc h lawful) (cut_of (back_to at h) site) (cut_then doc h site at lawful))).rows

pub stand_then : (doc : Document) (h : History) (lists : List (List Op)) (init : List InitRow) (site at : ℕ) (cut : Cut) → Told doc h lists → init ≡ doc.init
    → ((o : ℕ) → cut o ≡ cut_of (back_to at h) site o) → TablesStand doc.schema (tables_of doc.schema init (medium_of lists) cut)
stand_then doc h lists init site at cut told is same = subst (TablesStand doc.schema) (sym (tables_are doc h lists init site at cut told is same)) (record {
  accepted = told.lawful.sound.accepted.tables;
  rows = stand doc h told.lawful (all_facts doc h told.lawful) (cut_of (back_to at h) site) (cut_then doc h site at told.lawful);
})

-- the greatest time of what the site has
pub latest_is : (doc : Document) (h : History) (lists : List (List Op)) (s : ℕ) (cut : Cut) → Told doc h lists → ((o : ℕ) → cut o ≡ cut_of h s o)
    → latest_in (medium_of lists) cut ≡ latest_in (published doc h) (cut_of h s)
latest_is doc h lists s cut told same = λ i. latest_in (λ o. told.are o i) (λ o. same o i)

pub latest_short : (doc : Document) (h : History) (s : ℕ) → IsLawful doc h → latest_in (published doc h) (cut_of h s) < 2 ^ 32
latest_short doc h s lawful =
    let few : IsFew doc h = all_few doc h lawful in
    omega (arith, few.latest s, few.long, few.asked, few.moved, lawful.sound.asks, lawful.sound.moves)

-- an application
pub applied : (doc : Document) (h : History) (site : ℕ) (packet : Packet) (op : Op) (cut : Cut) → slice_get (published doc h (origin packet)) (number packet) ≡ Some op
    → ((o : ℕ) → cut o ≡ cut_of h site o) → IsReady cut packet (counts op.deps) → IsSite doc site → IsApply doc h site packet
applied doc h site packet op cut stands same ready there = record {
  op = op;
  stands = stands;
  lacks = subst (λ n. n ≤ number packet) (same (origin packet)) ready.lacks;
  covers = λ o. subst (λ n. counts op.deps o ≤ n) (same o) (ready.covers o);
  there = there;
}

pub ready : (doc : Document) (h : History) (site : ℕ) (packet : Packet) (op : Op) (cut : Cut) → slice_get (published doc h (origin packet)) (number packet) ≡ Some op
    → ((o : ℕ) → cut o ≡ cut_of h site o) → IsApply doc h site packet → IsReady cut packet (counts op.deps)
ready doc h site packet op cut stands same apply = record {
  lacks = subst (λ n. n ≤ number packet) (sym (same (origin packet))) apply.lacks;
  covers = λ o. subst (λ n. counts op.deps o ≤ n) (sym (same o)) (subst (λ x. counts x.deps o ≤ cut_of h site o) one (apply.covers o));
}
  where
    same_op : (a b : Op) → Some a ≡ Some b → a ≡ b
    same_op a b e = cc

    one : apply.op ≡ op
    one = same_op apply.op op (sym apply.stands ∙ stands)
