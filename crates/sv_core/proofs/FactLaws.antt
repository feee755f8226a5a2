-- What holds of each operation of a legal history and of each closed cut of it: needs, rows of the schema, keys that were drawn, stamps, and valid tables.
use Rattle.std.proofs.Common.{◌≡◌, ◌⊎◌, inl, inr, ℕ, zero, suc, ◌<◌, ◌≤◌, ◌||◌, Bool, true, false, List, [], ◌∷◌, length, drop, map, Some, slice_get, refl, sym, ap, subst, ◌∙◌, arith}
use Rattle.std.proofs.lemmas.Bool.{cases_eq}
use Rattle.std.proofs.lemmas.Bool.Decides.{nat_tests}
use Rattle.std.proofs.lemmas.List.{nil_from_length}
use Rattle.sv_value.specs.Cuts.{counts, Covers, more}
use Rattle.sv_app.specs.declared.reasons.Reason.TheVariants as reasons
use Rattle.sv_app.specs.declared.requests.Request.{Request}
use Rattle.sv_app.specs.Draws.{first_key}
use Rattle.sv_app.specs.Schema.{Declaration}
use Rattle.sv_app.specs.Valid.{Valid}
use Rattle.sv_app.proofs.TestLaws.{same_test, other_test}
use Rattle.sv_effect.specs.declared.ops.Op.{Op}
use Rattle.sv_effect.specs.declared.ops.RowEffect.{RowEffect}
use Rattle.sv_effect.specs.Applied.{applied}
use Rattle.sv_effect.specs.BareTables.{bare}
use Rattle.sv_effect.specs.Cut.{Cut, Medium, Lies, Closed}
use Rattle.sv_effect.specs.Has.{effects_of, Has}
use Rattle.sv_effect.specs.Newer.{AreOlder}
use Rattle.sv_effect.specs.RowsFit.{AllStand}
use Rattle.sv_effect.specs.RunChanges.{effect_of}
use Rattle.sv_effect.specs.Safe.{Unmade, Safe}
use Rattle.sv_effect.specs.StampedTables.{StampedTables}
use Rattle.sv_effect.specs.TablesOfCut.{tables_of}
use Rattle.sv_effect.specs.Threatened.{threatened_by_plain, any_threatened, Unthreatened}
use Rattle.sv_effect.proofs.TableLaws.{tables_of-more}
use Rattle.sv_safety.specs.Laws.{IsMade, DrawsApart}
use Rattle.sv_safety.specs.Runs.{IsRequest, DrawsFrom, HoldsWhereMade}
use Rattle.sv_safety.proofs.Promises as safety
use Rattle.sv_core.specs.declared.entries.Entry.{Entry}
use Rattle.sv_core.specs.Document.{Document}
use Rattle.sv_core.specs.History.{History, cut_of, news, published, answered}
use Rattle.sv_core.specs.Laws.{IsLawful, IsCut, Merges, cut_tables}
use Rattle.sv_core.proofs.BirthLaws.{Made, New, Birth, birth, new_op, lawful_before, past_lies, past_closed, made_cut, deps_cut, deps_own, same_pair}
use Rattle.sv_core.proofs.CutLaws.{order}
use Rattle.sv_core.proofs.HistoryLaws.{tables_since, few}
use Rattle.sv_core.proofs.ListLaws.{get_within, get_some}
use Rattle.sv_core.proofs.MediumLaws.{news_get}
use Rattle.sv_core.proofs.TimeLaws.{times_differ}
use Rattle.sv_core.proofs.WalkLaws.{closed_more, Step, walk}

-- cuts that lie below others
pub more_low : (d : Cut) (o x : ℕ) → d x ≤ more d o x
more_low d o x = grind (arith, nat_tests)

pub more_here : (d : Cut) (o : ℕ) → more d o o ≡ suc (d o)
more_here d o = rw (same_test o o refl) refl

pub lies_below : (m : Medium) (d to : Cut) (x : ℕ) → Covers to (more d x) → Lies m to → Lies m d
lies_below m d to x inside lies y =
    let a : d y ≤ more d x y = more_low d x y in let b : more d x y ≤ to y = inside y in let c : to y ≤ length (m y) = lies y in omega (arith, a, b, c)

abbrev pub nothing : Cut
nothing o = 0

pub none_closed : (m : Medium) → Closed m nothing
none_closed m o q op lt get = absurd (omega (arith, lt))

-- what is known of an operation of the history
pub record Facts (doc : Document) (h : History) (o : ℕ) (op : Op) : Type 0 where
  pub made : IsMade doc.schema op
  pub merges : (o ≡ 0 → ⊥) → any_threatened doc.schema op.effects ≡ false
  pub safe : (o ≡ 0 → ⊥) → Safe doc.schema op
  pub has : Has doc.schema op (cut_tables doc h (counts op.deps))
  pub valid : Valid doc.schema (bare (applied doc.schema op (cut_tables doc h (counts op.deps))))

abbrev pub AllFacts : Document → History → Type 0
AllFacts doc h = (o q : ℕ) (op : Op) → slice_get (published doc h o) q ≡ Some op → Facts doc h o op

pub small_origin : (doc : Document) (h : History) (o q : ℕ) (op : Op) → IsLawful doc h → slice_get (published doc h o) q ≡ Some op → o < 9
small_origin doc h o q op lawful get = by (order o 9)
  where
    by : (o < 9) ⊎ (9 ≤ o) → o < 9
    by (inl lt) = lt
    by (inr big) =
        let a : q < length (published doc h o) = get_within (published doc h o) q op get in
        let eight : doc.sites ≤ 8 = lawful.sound.sites in
        let b : length (published doc h o) ≡ 0 = few doc h lawful.sound.some lawful.legal o (omega (arith, eight, big)) in
        absurd (omega (arith, a, b))

pub merges_of : (doc : Document) (h : History) → IsLawful doc h → AllFacts doc h → Merges doc (published doc h)
merges_of doc h lawful facts = record {
  allowed = λ o q op get. (facts o q op get).made.fits;
  differ = times_differ doc h lawful;
  blues = λ o q op one get. (facts o q op get).merges (λ none. absurd (omega (arith, one, none)));
  own = deps_own doc h lawful;
  eight = λ o big. let eight : doc.sites ≤ 8 = lawful.sound.sites in nil_from_length (published doc h o) (few doc h lawful.sound.some lawful.legal o (omega (arith, eight, big)));
}

-- the next operation of an origin is applied to the tables of the cut
pub step_tables : (doc : Document) (h : History) → IsLawful doc h → AllFacts doc h → (d : Cut) (o : ℕ) (op : Op) → slice_get (published doc h o) (d o) ≡ Some op
    → cut_tables doc h (more d o) ≡ applied doc.schema op (cut_tables doc h d)
step_tables doc h lawful facts d o op next =
    let m : Merges doc (published doc h) = merges_of doc h lawful facts in
    tables_of-more doc.schema doc.init (published doc h) d o op m.allowed m.differ m.blues (small_origin doc h o (d o) op lawful next) next

pub deps_closed : (doc : Document) (h : History) → IsLawful doc h → (o q : ℕ) (op : Op) → slice_get (published doc h o) q ≡ Some op → Closed (published doc h) (counts op.deps)
deps_closed doc h lawful o q op get =
    let b : Birth doc h o q op = birth doc h lawful o q op get in
    subst (Closed (published doc h)) (sym (deps_cut doc h lawful o q op b)) (past_closed doc b.back h lawful op.site)

-- needs hold on each closed cut that has what the operation was made on
pub needs : (doc : Document) (h : History) → IsLawful doc h → AllFacts doc h → (o q : ℕ) (op : Op) → slice_get (published doc h o) q ≡ Some op
    → (to : Cut) → IsCut doc h to → Covers to (counts op.deps) → Has doc.schema op (cut_tables doc h to)
needs doc h lawful facts o q op get to cut cover =
    walk doc h lawful (counts op.deps) to (λ d. Has doc.schema op (cut_tables doc h d)) (deps_closed doc h lawful o q op get) cut.closed cover cut.lies (facts o q op get).has step
  where
    step : Step (published doc h) (counts op.deps) to (λ d. Has doc.schema op (cut_tables doc h d))
    step d x other low inside shut next ready had =
        subst (Has doc.schema op) (sym (step_tables doc h lawful facts d x other next))
        (safety.needs_stay doc.schema op other (cut_tables doc h d) (facts o q op get).made.needs (facts x (d x) other next).made.fits had)

-- no two operations draw one key
abbrev pub AreApart : Document → History → Type 0
AreApart doc h = (o q p r : ℕ) (a b : Op) → slice_get (published doc h o) q ≡ Some a → slice_get (published doc h p) r ≡ Some b → (o ≡ p → q ≡ r → ⊥) → DrawsApart a b

made_draws : (doc : Document) (h : History) (o : ℕ) (op : Op) (session index : ℕ) (request : Request) (back : ℕ)
    → Made doc h o op session index request back → DrawsFrom (first_key session index) (effects_of op)
made_draws doc h o op session index request back m = subst (DrawsFrom (first_key session index)) (sym m.is_of.changes)
    (safety.runs_draw doc.schema doc.txns request (first_key session index) (bare (tables_of doc.schema doc.init (published doc h) (cut_of (drop back h) op.site))))

apart_by : (doc : Document) (h k : History) (o p : ℕ) (a b : Op) (s i t j : ℕ) (x y : Request) (n m : ℕ)
    → Made doc h o a s i x n → Made doc k p b t j y m → (s ≡ t → i ≡ j → ⊥) → DrawsApart a b
apart_by doc h k o p a b s i t j x y n m left right differ =
    safety.requests_draw_apart a b s t i j left.who.from left.who.to right.who.from right.who.to (λ same. differ same.0 same.1)
    (made_draws doc h o a s i x n left) (made_draws doc k p b t j y m right)

pub apart : (doc : Document) (h : History) → IsLawful doc h → AreApart doc h
apart doc [] lawful o q p r a b at_a at_b differ = absurd cc
apart doc (e ∷ h) lawful o q p r a b at_a at_b differ =
    from (apart doc h before o q p r a b) (news_get (news doc (published doc h) h e) (published doc h) o q a at_a) (news_get (news doc (published doc h) h e) (published doc h) p r b at_b)
  where
    before : IsLawful doc h
    before = lawful_before doc e h lawful

    from : (slice_get (published doc h o) q ≡ Some a → slice_get (published doc h p) r ≡ Some b → (o ≡ p → q ≡ r → ⊥) → DrawsApart a b)
        → (slice_get (published doc h o) q ≡ Some a) ⊎ ((q ≡ length (published doc h o)) × (news doc (published doc h) h e ≡ Some (o, a)))
        → (slice_get (published doc h p) r ≡ Some b) ⊎ ((r ≡ length (published doc h p)) × (news doc (published doc h) h e ≡ Some (p, b))) → DrawsApart a b
    from ih (inl x) (inl y) = ih x y differ
    from ih (inl x) (inr y) =
        let old : Birth doc h o q a = birth doc h before o q a x in
        let new : New doc h e p b = new_op doc h e p b lawful y.1 in
        apart_by doc h h o p a b old.session old.index new.session new.index old.request new.request old.back new.back old.made new.made
        (λ s i. let below : old.index < answered h old.session = old.before in let same : answered h old.session ≡ answered h new.session = ap (answered h) s in let is : new.index ≡ answered h new.session = new.index_is in
        absurd (omega (arith, below, same, is, i)))
    from ih (inr x) (inl y) =
        let old : Birth doc h p r b = birth doc h before p r b y in
        let new : New doc h e o a = new_op doc h e o a lawful x.1 in
        apart_by doc h h o p a b new.session new.index old.session old.index new.request old.request new.back old.back new.made old.made
        (λ s i. let below : old.index < answered h old.session = old.before in let same : answered h new.session ≡ answered h old.session = ap (answered h) s in let is : new.index ≡ answered h new.session = new.index_is in
        absurd (omega (arith, below, same, is, i)))
    from ih (inr x) (inr y) =
        let both : (o, a) ≡ (p, b) = same_pair (o, a) (p, b) (sym x.1 ∙ y.1) in
        let one : o ≡ p = λ i. (both i).0 in
        absurd (differ one (x.0 ∙ ap (λ k. length (published doc h k)) one ∙ sym y.0))

-- no closed cut that lacks an operation keeps a row under a key that it drew
pub lacked : (doc : Document) (h : History) → IsLawful doc h → AllFacts doc h → (to : Cut) → IsCut doc h to
    → (o q : ℕ) (op : Op) → slice_get (published doc h o) q ≡ Some op → to o ≤ q → Unmade op (cut_tables doc h to)
lacked doc h lawful facts to cut =
    walk doc h lawful nothing to Lacks (none_closed (published doc h)) cut.closed (λ o. omega arith) cut.lies start step
  where
    Lacks : Cut → Type 0
    Lacks d = (o q : ℕ) (op : Op) → slice_get (published doc h o) q ≡ Some op → d o ≤ q → Unmade op (cut_tables doc h d)

    start : Lacks nothing
    start o q op get out =
        let b : Birth doc h o q op = birth doc h lawful o q op get in
        safety.initial_undrawn doc.schema doc.init op b.session b.index lawful.sound.init (facts o q op get).made.fits
        (made_draws doc h o op b.session b.index b.request b.back b.made)

    step : Step (published doc h) nothing to Lacks
    step d x other low inside shut next ready had o q op get out =
        subst (Unmade op) (sym (step_tables doc h lawful facts d x other next))
        (safety.drawn_stay doc.schema op other (cut_tables doc h d) (facts o q op get).made.fits (facts x (d x) other next).made.fits (facts x (d x) other next).made.needs
        (needs doc h lawful facts x (d x) other next d (record { lies = lies_below (published doc h) d to x inside cut.lies; closed = shut }) ready)
        (apart doc h lawful o q x (d x) op other get next differ) (had o q op get before))
      where
        before : d o ≤ q
        before = let a : d o ≤ more d x o = more_low d x o in let b : more d x o ≤ q = out in omega (arith, a, b)

        differ : o ≡ x → q ≡ d x → ⊥
        differ is at = let a : suc (d x) ≤ q = subst (λ k. k ≤ q) (more_here d x) (subst (λ k. more d x k ≤ q) is out) in omega (arith, a, at)

-- every closed cut has rows of the schema
pub stand : (doc : Document) (h : History) → IsLawful doc h → AllFacts doc h → (to : Cut) → IsCut doc h to → AllStand doc.schema (cut_tables doc h to)
stand doc h lawful facts to cut =
    walk doc h lawful nothing to (λ d. AllStand doc.schema (cut_tables doc h d)) (none_closed (published doc h)) cut.closed (λ o. omega arith) cut.lies
    (safety.initial_stand doc.schema doc.init lawful.sound.accepted.tables lawful.sound.init).rows step
  where
    step : Step (published doc h) nothing to (λ d. AllStand doc.schema (cut_tables doc h d))
    step d x op low inside shut next ready had =
        let c : IsCut doc h d = record { lies = lies_below (published doc h) d to x inside cut.lies; closed = shut } in
        subst (AllStand doc.schema) (sym (step_tables doc h lawful facts d x op next))
        (safety.rows_stay doc.schema op (cut_tables doc h d) lawful.sound.accepted.tables (facts x (d x) op next).made (needs doc h lawful facts x (d x) op next d c ready)
        (lacked doc h lawful facts d c x (d x) op next (omega arith)) had).rows

-- and stamps that are earlier than a time, if its operations are
pub older_than : (doc : Document) (h : History) → IsLawful doc h → AllFacts doc h → (to : Cut) → IsCut doc h to → (time : ℕ) → 1 ≤ time
    → ((o q : ℕ) (op : Op) → q < to o → slice_get (published doc h o) q ≡ Some op → op.time < time) → AreOlder time (cut_tables doc h to)
older_than doc h lawful facts to cut time some earlier =
    walk doc h lawful nothing to (λ d. AreOlder time (cut_tables doc h d)) (none_closed (published doc h)) cut.closed (λ o. omega arith) cut.lies
    ((safety.initial_stand doc.schema doc.init lawful.sound.accepted.tables lawful.sound.init).older time some) step
  where
    step : Step (published doc h) nothing to (λ d. AreOlder time (cut_tables doc h d))
    step d x op low inside shut next ready had =
        let in_to : suc (d x) ≤ to x = subst (λ k. k ≤ to x) (more_here d x) (inside x) in
        subst (AreOlder time) (sym (step_tables doc h lawful facts d x op next))
        (safety.stamps_stay_earlier doc.schema op (cut_tables doc h d) time (facts x (d x) op next).made.fits (earlier x (d x) op (omega (arith, in_to)) next) had)

-- blue operations lead from valid tables to valid ones
pub blues : (doc : Document) (h : History) → IsLawful doc h → AllFacts doc h → (from to : Cut) → IsCut doc h from → IsCut doc h to → Covers to from → from 0 ≡ to 0
    → Valid doc.schema (bare (cut_tables doc h from)) → Valid doc.schema (bare (cut_tables doc h to))
blues doc h lawful facts from to begin cut cover reds start =
    walk doc h lawful from to (λ d. Valid doc.schema (bare (cut_tables doc h d))) begin.closed cut.closed cover cut.lies start step
  where
    step : Step (published doc h) from to (λ d. Valid doc.schema (bare (cut_tables doc h d)))
    step d x op low inside shut next ready valid =
        let c : IsCut doc h d = record { lies = lies_below (published doc h) d to x inside cut.lies; closed = shut } in
        subst (λ t. Valid doc.schema (bare t)) (sym (step_tables doc h lawful facts d x op next))
        ((facts x (d x) op next).safe blue (cut_tables doc h d) (record {
          rows = (safety.standing_fits doc.schema (cut_tables doc h d) lawful.sound.accepted.tables (stand doc h lawful facts d c)).fits;
          valid = valid;
          has = needs doc h lawful facts x (d x) op next d c ready;
          unmade = lacked doc h lawful facts d c x (d x) op next (omega arith);
        }))
      where
        blue : x ≡ 0 → ⊥
        blue z =
            let a : suc (d x) ≤ to x = subst (λ k. k ≤ to x) (more_here d x) (inside x) in
            let b : from x ≤ d x = low x in
            let c : from x ≡ to x = subst (λ k. from k ≡ to k) (sym z) reds in
            omega (arith, a, b, c)

-- the lift: from the last red operation of a cut, which fits the cut that it was made on, by blue ones
pub lift : (doc : Document) (h : History) → IsLawful doc h → AllFacts doc h → (to : Cut) → IsCut doc h to → Valid doc.schema (bare (cut_tables doc h to))
lift doc h lawful facts to cut = by_reds (to 0) refl
  where
    by_reds : (n : ℕ) → to 0 ≡ n → Valid doc.schema (bare (cut_tables doc h to))
    by_reds zero is = blues doc h lawful facts nothing to (record { lies = λ o. omega arith; closed = none_closed (published doc h) }) cut (λ o. omega arith) (sym is) lawful.sound.valid
    by_reds (suc n) is = with_red (get_some (published doc h 0) n (let a : to 0 ≤ length (published doc h 0) = cut.lies 0 in omega (arith, a, is)))
      where
        with_red : (r : Op) × (slice_get (published doc h 0) n ≡ Some r) → Valid doc.schema (bare (cut_tables doc h to))
        with_red r = blues doc h lawful facts (more deps 0) to (record { lies = lies; closed = closed_more (published doc h) deps 0 r.0 shut next (λ x. omega arith) }) cut under reds valid
          where
            deps : Cut
            deps = counts r.0.deps

            shut : Closed (published doc h) deps
            shut = deps_closed doc h lawful 0 n r.0 r.1

            slot : deps 0 ≡ n
            slot = deps_own doc h lawful 0 n r.0 r.1

            next : slice_get (published doc h 0) (deps 0) ≡ Some r.0
            next = (λ i. slice_get (published doc h 0) (slot i)) ∙ r.1

            had : Covers to deps
            had = cut.closed 0 n r.0 (omega (arith, is)) r.1

            under : Covers to (more deps 0)
            under x = at (cases_eq x 0)
              where
                at : (x ≡ 0) ⊎ (x ≡ 0 → ⊥) → more deps 0 x ≤ to x
                at (inl z) = subst (λ k. more deps 0 k ≤ to k) (sym z) (omega (arith, slot, is))
                at (inr apart) = rw (other_test x 0 apart) (had x)

            lies : Lies (published doc h) (more deps 0)
            lies x = let a : more deps 0 x ≤ to x = under x in let b : to x ≤ length (published doc h x) = cut.lies x in omega (arith, a, b)

            reds : more deps 0 0 ≡ to 0
            reds = omega (arith, slot, is)

            valid : Valid doc.schema (bare (cut_tables doc h (more deps 0)))
            valid = subst (λ t. Valid doc.schema (bare t)) (sym (step_tables doc h lawful facts deps 0 r.0 next)) (facts 0 n r.0 r.1).valid

-- no reason threatens the changes, and so `plain` doesn't
unthreatened_none : (schema : List Declaration) (es : List RowEffect) → Unthreatened schema (map effect_of es) → any_threatened schema es ≡ false
unthreatened_none schema [] free = refl
unthreatened_none schema (e ∷ es) free = by (threatened_by_plain schema e) refl (unthreatened_none schema es (λ number x reason get threat. free (suc number) x reason get threat))
  where
    by : (b : Bool) → threatened_by_plain schema e ≡ b → any_threatened schema es ≡ false → (b || any_threatened schema es) ≡ false
    by true is ih = absurd (free 0 (effect_of e) reasons.Plain refl is)
    by false is ih = ih

-- an operation that was made by a run on a closed cut, of which all is known
facts_of : (doc : Document) (h : History) → IsLawful doc h → AllFacts doc h → (o : ℕ) (op : Op) (session index : ℕ) (request : Request) (back : ℕ)
    → Made doc h o op session index request back → Facts doc h o op
facts_of doc h lawful facts o op session index request back m = record {
  made = safety.runs_make_ops doc.schema doc.txns request (first_key session index) (bare t) op asked (safety.standing_fits doc.schema t lawful.sound.accepted.tables rows).rows m.is_of;
  merges = λ apart. unthreatened_none doc.schema op.effects (subst (Unthreatened doc.schema) (sym m.is_of.changes) (m.blue apart));
  safe = λ apart. (safety.blue_runs_are_safe doc.schema doc.txns request (first_key session index) (bare t) op asked (safety.standing_fits doc.schema t lawful.sound.accepted.tables rows).rows m.is_of (m.blue apart)).safe;
  has = subst (λ c. Has doc.schema op (cut_tables doc h c)) (sym is) holds.has;
  valid = subst (λ c. Valid doc.schema (bare (applied doc.schema op (cut_tables doc h c)))) (sym is) holds.valid;
}
  where
    c : Cut
    c = cut_of (drop back h) op.site

    t : StampedTables
    t = cut_tables doc h c

    is : counts op.deps ≡ c
    is = made_cut doc h lawful o op session index request back m

    cut : IsCut doc h c
    cut = record { lies = past_lies doc back h lawful.legal op.site; closed = past_closed doc back h lawful op.site }

    asked : IsRequest doc.schema doc.txns request
    asked = record { accepted = lawful.sound.accepted; txn = m.asked.txn; among = m.asked.among; fits = m.asked.args }

    rows : AllStand doc.schema t
    rows = stand doc h lawful facts c cut

    holds : HoldsWhereMade doc.schema op t
    holds = safety.fitting_runs_hold doc.schema doc.txns request (first_key session index) t op asked m.is_of rows
        (older_than doc h lawful facts c cut op.time m.is_of.time m.later) m.fits

-- facts stay when more is published
older_facts : (doc : Document) (h : History) (e : Entry) (o : ℕ) (op : Op) → Lies (published doc h) (counts op.deps) → Facts doc h o op → Facts doc (e ∷ h) o op
older_facts doc h e o op lies f = record {
  made = f.made;
  merges = f.merges;
  safe = f.safe;
  has = subst (Has doc.schema op) tables f.has;
  valid = subst (λ t. Valid doc.schema (bare (applied doc.schema op t))) tables f.valid;
}
  where
    tables : cut_tables doc h (counts op.deps) ≡ cut_tables doc (e ∷ h) (counts op.deps)
    tables = tables_since doc 1 (e ∷ h) (counts op.deps) lies

made_lies : (doc : Document) (h : History) → IsLawful doc h → (o : ℕ) (op : Op) (session index : ℕ) (request : Request) (back : ℕ)
    → Made doc h o op session index request back → Lies (published doc h) (counts op.deps)
made_lies doc h lawful o op session index request back m = subst (Lies (published doc h)) (sym (made_cut doc h lawful o op session index request back m)) (past_lies doc back h lawful.legal op.site)

-- along the history: what is known of the operations before tells what the newest was made on
pub all_facts : (doc : Document) (h : History) → IsLawful doc h → AllFacts doc h
all_facts doc [] lawful o q op get = absurd cc
all_facts doc (e ∷ h) lawful o q op get = from (all_facts doc h before) (news_get (news doc (published doc h) h e) (published doc h) o q op get)
  where
    before : IsLawful doc h
    before = lawful_before doc e h lawful

    from : AllFacts doc h → (slice_get (published doc h o) q ≡ Some op) ⊎ ((q ≡ length (published doc h o)) × (news doc (published doc h) h e ≡ Some (o, op))) → Facts doc (e ∷ h) o op
    from facts (inl old) =
        let b : Birth doc h o q op = birth doc h before o q op old in
        older_facts doc h e o op (made_lies doc h before o op b.session b.index b.request b.back b.made) (facts o q op old)
    from facts (inr new) =
        let n : New doc h e o op = new_op doc h e o op lawful new.1 in
        older_facts doc h e o op (made_lies doc h before o op n.session n.index n.request n.back n.made)
        (facts_of doc h before facts o op n.session n.index n.request n.back n.made)
