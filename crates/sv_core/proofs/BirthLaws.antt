-- Where a published operation came from: the run of an answer on a cut of its site, which its deps count.
use Rattle.std.proofs.Common.{◌≡◌, ◌⊎◌, inl, inr, ℕ, suc, ◌<◌, ◌≤◌, ◌-◌, ◌==◌, if◌then◌else◌, Bool, true, false, List, [], ◌∷◌, length, drop, Some, None, slice_get, refl, sym, ap, subst, ◌∙◌, arith}
use Rattle.std.specs.Prelude.{map}
use Rattle.std.proofs.lemmas.Bool.{cases_eq}
use Rattle.sv_value.specs.declared.packets.Packet.{Packet}
use Rattle.sv_value.specs.Cuts.{counts, Covers, origin, number}
use Rattle.sv_app.specs.declared.requests.Request.{Request}
use Rattle.sv_app.proofs.TestLaws.{same_test, test_same}
use Rattle.sv_effect.specs.declared.ops.Op.{Op}
use Rattle.sv_effect.specs.BareTables.{bare}
use Rattle.sv_effect.specs.Cut.{Cut, as_deps, Lies, Closed}
use Rattle.sv_effect.specs.Effects.{Fits}
use Rattle.sv_effect.specs.RunChanges.{Effect, effect_of}
use Rattle.sv_effect.specs.TablesOfCut.{tables_of}
use Rattle.sv_effect.specs.Threatened.{Unthreatened}
use Rattle.sv_safety.specs.Runs.{IsOpOf}
use Rattle.sv_core.specs.declared.entries.Entry.{Entry}
use Rattle.sv_core.specs.declared.entries.Entry.TheVariants.{Answer, Apply, Move}
use Rattle.sv_core.specs.Clock.{latest_in}
use Rattle.sv_core.specs.Document.{Document}
use Rattle.sv_core.specs.History.{History, brings, cut_of, back_to, run_then, op_of, news, published, answered}
use Rattle.sv_core.specs.Laws.{IsLawful}
use Rattle.sv_core.specs.Legal.{Legal, IsSession, IsAnswer}
use Rattle.sv_core.specs.Runs.{carried, run_of}
use Rattle.sv_core.specs.Sound.{RequestFits, IsSite}
use Rattle.sv_core.proofs.ClockLaws.{latest_held}
use Rattle.sv_core.proofs.CutLaws.{order, both_true}
use Rattle.sv_core.proofs.HistoryLaws.{stays, cut_grows, cut_since, legal_since, tables_since, back_to_now, Due, due_of, within, own, asked_there, few, counts_cut}
use Rattle.sv_core.proofs.ListLaws.{get_within, get_some}
use Rattle.sv_core.proofs.MediumLaws.{news_get}

pub carried_is : (es : List Effect) → map effect_of (map carried es) ≡ es
carried_is [] = refl
carried_is (e ∷ es) = ap (λ xs. e ∷ xs) (carried_is es)

pub lawful_since : (doc : Document) (n : ℕ) (h : History) → IsLawful doc h → IsLawful doc (drop n h)
lawful_since doc n h l = record { sound = l.sound; legal = legal_since doc n h l.legal }

pub lawful_before : (doc : Document) (e : Entry) (h : History) → IsLawful doc (e ∷ h) → IsLawful doc h
lawful_before doc e h l = record { sound = l.sound; legal = l.legal.1 }

-- what an answer had where its request was run: all of its packet's origin
pub had_all : (doc : Document) (h : History) (session index : ℕ) (request : Request) (site at : ℕ) (packet : Packet) → Legal doc h → 1 ≤ site
    → Due doc h session index request site at packet → cut_of (back_to at h) site (origin packet) ≡ length (published doc h (origin packet))
had_all doc h session index request site at packet legal one d = by d.kind
  where
    by : ((origin packet ≡ site) × (at ≡ length h) × Unthreatened doc.schema (run_then doc (published doc h) h session index request site at).effects)
        ⊎ ((origin packet ≡ 0) × (cut_of (back_to at h) site 0 ≡ length (published doc h 0))) → cut_of (back_to at h) site (origin packet) ≡ length (published doc h (origin packet))
    by (inl k) = (λ i. cut_of (back_to_now at h k.1 i) site (k.0 i)) ∙ own doc h legal site one ∙ (λ i. length (published doc h (sym k.0 i)))
    by (inr k) = ap (cut_of (back_to at h) site) k.0 ∙ k.1 ∙ (λ i. length (published doc h (sym k.0 i)))

-- the run of an operation, on the cut that its site had so many entries ago
pub record Made (doc : Document) (h : History) (o : ℕ) (op : Op) (session index : ℕ) (request : Request) (back : ℕ) : Type 0 where
  pub who : IsSession session
  pub asked : RequestFits doc request
  pub there : IsSite doc op.site
  pub deps : op.deps ≡ as_deps (cut_of (drop back h) op.site)
  pub is_of : IsOpOf (run_of doc session index request (bare (tables_of doc.schema doc.init (published doc h) (cut_of (drop back h) op.site)))) op
  pub fits : Fits doc.schema (run_of doc session index request (bare (tables_of doc.schema doc.init (published doc h) (cut_of (drop back h) op.site)))).effects
      (bare (tables_of doc.schema doc.init (published doc h) (cut_of (drop back h) op.site)))
  pub blue : (o ≡ 0 → ⊥) → Unthreatened doc.schema (run_of doc session index request (bare (tables_of doc.schema doc.init (published doc h) (cut_of (drop back h) op.site)))).effects
  pub later : (x q : ℕ) (other : Op) → q < cut_of (drop back h) op.site x → slice_get (published doc h x) q ≡ Some other → other.time < op.time

-- what an entry publishes
pub record New (doc : Document) (h : History) (e : Entry) (o : ℕ) (op : Op) : Type 0 where
  pub session : ℕ
  pub index : ℕ
  pub request : Request
  pub back : ℕ
  pub made : Made doc h o op session index request back
  pub origin_is : (o ≡ 0) ⊎ (o ≡ op.site)
  pub next : cut_of (drop back h) op.site o ≡ length (published doc h o)
  pub index_is : index ≡ answered h session
  pub counted : answered (e ∷ h) session ≡ suc (answered h session)
  pub all_later : (x q : ℕ) (other : Op) → q < cut_of h op.site x → slice_get (published doc h x) q ≡ Some other → other.time < op.time
  pub brings_it : brings e op.site o ≡ true
  pub only : (s : ℕ) → brings e s o ≡ true → s ≡ op.site

pub same_pair : (a b : ℕ × Op) → Some a ≡ Some b → a ≡ b
same_pair a b e = cc

pub new_op : (doc : Document) (h : History) (e : Entry) (o : ℕ) (op : Op) → IsLawful doc (e ∷ h) → news doc (published doc h) h e ≡ Some (o, op) → New doc h e o op
new_op doc h (Answer session index request site at reply label None) o op lawful n = absurd cc
new_op doc h (Apply site packet) o op lawful n = absurd cc
new_op doc h (Move session site) o op lawful n = absurd cc
new_op doc h (Answer session index request site at reply label (Some packet)) o op lawful n =
    subst (λ k. New doc h (Answer session index request site at reply label (Some packet)) k.0 k.1)
    (same_pair (origin packet, op_of doc (published doc h) h session index request site at) (o, op) n) (record {
      session = session;
      index = index;
      request = request;
      back = length h - at;
      made = record {
        who = answer.asked.who;
        asked = answer.asked.fits;
        there = there;
        deps = refl;
        is_of = record { changes = carried_is (run_then doc (published doc h) h session index request site at).effects; needs = refl; time = omega arith };
        fits = d.fits;
        blue = λ apart. by_kind apart d.kind;
        later = λ x q other lt get. later x q other (let le : cut_of (drop (length h - at) h) site x ≤ cut_of h site x = cut_since (length h - at) h site x in omega (arith, lt, le)) get;
      };
      origin_is = place d.kind;
      next = had_all doc h session index request site at packet legal there.0 d;
      index_is = answer.asked.next;
      counted = rw (same_test session session refl) refl;
      all_later = later;
      brings_it = rw (same_test site site refl, same_test (origin packet) (origin packet) refl) refl;
      only = λ s b. test_same s site (both_true (s == site) (origin packet == origin packet) b).0;
    })
  where
    answer : IsAnswer doc h session index request site at reply label (Some packet)
    answer = lawful.legal.0

    legal : Legal doc h
    legal = lawful.legal.1

    d : Due doc h session index request site at packet
    d = due_of doc h session index request site at reply label packet answer

    there : IsSite doc site
    there = asked_there doc h lawful.sound.some legal session index request site at answer.asked

    by_kind : (origin packet ≡ 0 → ⊥) → ((origin packet ≡ site) × (at ≡ length h) × Unthreatened doc.schema (run_then doc (published doc h) h session index request site at).effects)
        ⊎ ((origin packet ≡ 0) × (cut_of (back_to at h) site 0 ≡ length (published doc h 0))) → Unthreatened doc.schema (run_then doc (published doc h) h session index request site at).effects
    by_kind apart (inl k) = k.2
    by_kind apart (inr k) = absurd (apart k.0)

    place : ((origin packet ≡ site) × (at ≡ length h) × Unthreatened doc.schema (run_then doc (published doc h) h session index request site at).effects)
        ⊎ ((origin packet ≡ 0) × (cut_of (back_to at h) site 0 ≡ length (published doc h 0))) → (origin packet ≡ 0) ⊎ (origin packet ≡ site)
    place (inl k) = inr k.0
    place (inr k) = inl k.0

    later : (x q : ℕ) (other : Op) → q < cut_of h site x → slice_get (published doc h x) q ≡ Some other → other.time < suc (latest_in (published doc h) (cut_of h site))
    later x q other lt get = under (order x 9)
      where
        under : (x < 9) ⊎ (9 ≤ x) → other.time < suc (latest_in (published doc h) (cut_of h site))
        under (inl small) = let a : other.time ≤ latest_in (published doc h) (cut_of h site) = latest_held (published doc h) (cut_of h site) x q other small lt get in omega (arith, a)
        under (inr big) =
            let a : q < length (published doc h x) = get_within (published doc h x) q other get in
            let eight : doc.sites ≤ 8 = lawful.sound.sites in
            let b : length (published doc h x) ≡ 0 = few doc h lawful.sound.some legal x (omega (arith, eight, big)) in
            absurd (omega (arith, a, b))

-- where a published operation came from
pub record Birth (doc : Document) (h : History) (o q : ℕ) (op : Op) : Type 0 where
  pub session : ℕ
  pub index : ℕ
  pub request : Request
  pub back : ℕ
  pub made : Made doc h o op session index request back
  pub origin_is : (o ≡ 0) ⊎ (o ≡ op.site)
  pub own : cut_of (drop back h) op.site o ≡ q
  pub had : q < cut_of h op.site o
  pub before : index < answered h session

-- an operation that stood before the newest entry
pub older_get : (doc : Document) (h : History) (e : Entry) (o q : ℕ) (op : Op) → q < length (published doc h o) → slice_get (published doc (e ∷ h) o) q ≡ Some op → slice_get (published doc h o) q ≡ Some op
older_get doc h e o q op lt get = have (news_get (news doc (published doc h) h e) (published doc h) o q op get)
  where
    have : (slice_get (published doc h o) q ≡ Some op) ⊎ ((q ≡ length (published doc h o)) × (news doc (published doc h) h e ≡ Some (o, op))) → slice_get (published doc h o) q ≡ Some op
    have (inl old) = old
    have (inr new) = absurd (let at : q ≡ length (published doc h o) = new.0 in omega (arith, at, lt))

pub past_lies : (doc : Document) (n : ℕ) (h : History) → Legal doc h → (s : ℕ) → Lies (published doc h) (cut_of (drop n h) s)
past_lies doc n h legal s o = let a : cut_of (drop n h) s o ≤ cut_of h s o = cut_since n h s o in let b = within doc h legal s o in omega (arith, a, b)

-- how many answers there were never falls
answered_grows : (b : Bool) (k : ℕ) → k ≤ (if b then suc k else k)
answered_grows true k = omega arith
answered_grows false k = omega arith

pub answered_more : (e : Entry) (h : History) (session : ℕ) → answered h session ≤ answered (e ∷ h) session
answered_more (Answer k index request site at reply label packet) h session = answered_grows (session == k) (answered h session)
answered_more (Apply site packet) h session = omega arith
answered_more (Move k site) h session = omega arith

made_older : (doc : Document) (h : History) (e : Entry) (o : ℕ) (op : Op) (session index : ℕ) (request : Request) (back : ℕ) → Legal doc h
    → Made doc h o op session index request back → Made doc (e ∷ h) o op session index request (suc back)
made_older doc h e o op session index request back legal m = record {
  who = m.who;
  asked = m.asked;
  there = m.there;
  deps = m.deps;
  is_of = subst (λ t. IsOpOf (run_of doc session index request (bare t)) op) tables m.is_of;
  fits = subst (λ t. Fits doc.schema (run_of doc session index request (bare t)).effects (bare t)) tables m.fits;
  blue = λ apart. subst (λ t. Unthreatened doc.schema (run_of doc session index request (bare t)).effects) tables (m.blue apart);
  later = λ x q other lt get. m.later x q other lt (older_get doc h e x q other (let le : cut_of (drop back h) op.site x ≤ length (published doc h x) = lies x in omega (arith, lt, le)) get);
}
  where
    lies : Lies (published doc h) (cut_of (drop back h) op.site)
    lies = past_lies doc back h legal op.site

    tables : tables_of doc.schema doc.init (published doc h) (cut_of (drop back h) op.site) ≡ tables_of doc.schema doc.init (published doc (e ∷ h)) (cut_of (drop back h) op.site)
    tables = tables_since doc 1 (e ∷ h) (cut_of (drop back h) op.site) lies

older : (doc : Document) (h : History) (e : Entry) (o q : ℕ) (op : Op) → Legal doc h → Birth doc h o q op → Birth doc (e ∷ h) o q op
older doc h e o q op legal b = record {
  session = b.session;
  index = b.index;
  request = b.request;
  back = suc b.back;
  made = made_older doc h e o op b.session b.index b.request b.back legal b.made;
  origin_is = b.origin_is;
  own = b.own;
  had = let a : q < cut_of h op.site o = b.had in let g : cut_of h op.site o ≤ cut_of (e ∷ h) op.site o = cut_grows e h op.site o in omega (arith, a, g);
  before = let a : b.index < answered h b.session = b.before in let g : answered h b.session ≤ answered (e ∷ h) b.session = answered_more e h b.session in omega (arith, a, g);
}

born : (doc : Document) (h : History) (e : Entry) (o : ℕ) (op : Op) → Legal doc h → New doc h e o op → Birth doc (e ∷ h) o (length (published doc h o)) op
born doc h e o op legal n = record {
  session = n.session;
  index = n.index;
  request = n.request;
  back = suc n.back;
  made = made_older doc h e o op n.session n.index n.request n.back legal n.made;
  origin_is = n.origin_is;
  own = n.next;
  had = subst (λ b. length (published doc h o) < (if b then suc (cut_of h op.site o) else cut_of h op.site o)) (sym n.brings_it)
      (let a : cut_of (drop n.back h) op.site o ≡ length (published doc h o) = n.next in let g : cut_of (drop n.back h) op.site o ≤ cut_of h op.site o = cut_since n.back h op.site o in omega (arith, a, g));
  before = let a : n.index ≡ answered h n.session = n.index_is in let c : answered (e ∷ h) n.session ≡ suc (answered h n.session) = n.counted in omega (arith, a, c);
}

pub birth : (doc : Document) (h : History) → IsLawful doc h → (o q : ℕ) (op : Op) → slice_get (published doc h o) q ≡ Some op → Birth doc h o q op
birth doc [] lawful o q op e = absurd cc
birth doc (x ∷ h) lawful o q op e = from (birth doc h (lawful_before doc x h lawful) o q op) (news_get (news doc (published doc h) h x) (published doc h) o q op e)
  where
    from : (slice_get (published doc h o) q ≡ Some op → Birth doc h o q op)
        → (slice_get (published doc h o) q ≡ Some op) ⊎ ((q ≡ length (published doc h o)) × (news doc (published doc h) h x ≡ Some (o, op))) → Birth doc (x ∷ h) o q op
    from ih (inl old) = older doc h x o q op lawful.legal.1 (ih old)
    from ih (inr new) = subst (λ n. Birth doc (x ∷ h) o n op) (sym new.0) (born doc h x o op lawful.legal.1 (new_op doc h x o op lawful new.1))

-- the deps of a published operation are a cut of its site
pub made_cut : (doc : Document) (h : History) → IsLawful doc h → (o : ℕ) (op : Op) (session index : ℕ) (request : Request) (back : ℕ) → Made doc h o op session index request back
    → counts op.deps ≡ cut_of (drop back h) op.site
made_cut doc h lawful o op session index request back m = ap counts m.deps ∙ counts_cut doc (drop back h) lawful.sound.some lawful.sound.sites (legal_since doc back h lawful.legal) op.site

pub deps_cut : (doc : Document) (h : History) → IsLawful doc h → (o q : ℕ) (op : Op) → (b : Birth doc h o q op) → counts op.deps ≡ cut_of (drop b.back h) op.site
deps_cut doc h lawful o q op b = made_cut doc h lawful o op b.session b.index b.request b.back b.made

-- deps count the earlier ones of the operation's own origin
pub deps_own : (doc : Document) (h : History) → IsLawful doc h → (o q : ℕ) (op : Op) → slice_get (published doc h o) q ≡ Some op → counts op.deps o ≡ q
deps_own doc h lawful o q op get = let b : Birth doc h o q op = birth doc h lawful o q op get in (λ i. deps_cut doc h lawful o q op b i o) ∙ b.own

pub same_op : (a b : Op) → Some a ≡ Some b → a ≡ b
same_op a b e = cc

-- an applied packet is the next of its origin
pub next_is : (doc : Document) (h : History) (site : ℕ) (packet : Packet) → IsLawful doc (Apply site packet ∷ h) → cut_of h site (origin packet) ≡ number packet
next_is doc h site packet lawful =
    let own : counts lawful.legal.0.op.deps (origin packet) ≡ number packet = deps_own doc h (lawful_before doc (Apply site packet) h lawful) (origin packet) (number packet) lawful.legal.0.op lawful.legal.0.stands in
    let covers : counts lawful.legal.0.op.deps (origin packet) ≤ cut_of h site (origin packet) = lawful.legal.0.covers (origin packet) in
    let lacks : cut_of h site (origin packet) ≤ number packet = lawful.legal.0.lacks in
    omega (arith, own, covers, lacks)

-- what an entry brings to a site was published with deps that the site has
pub brought : (doc : Document) (h : History) (e : Entry) (s o : ℕ) (op : Op) → IsLawful doc (e ∷ h) → brings e s o ≡ true
    → slice_get (published doc (e ∷ h) o) (cut_of h s o) ≡ Some op → Covers (cut_of h s) (counts op.deps)
brought doc h (Answer session index request site at reply label None) s o op lawful b get = absurd cc
brought doc h (Move session site) s o op lawful b get = absurd cc
brought doc h (Answer session index request site at reply label (Some packet)) s o op lawful b get =
    from (news_get (news doc (published doc h) h (Answer session index request site at reply label (Some packet))) (published doc h) o (cut_of h s o) op get)
  where
    tests : (s == site ≡ true) × (o == origin packet ≡ true)
    tests = both_true (s == site) (o == origin packet) b

    s_is : s ≡ site
    s_is = test_same s site tests.0

    o_is : o ≡ origin packet
    o_is = test_same o (origin packet) tests.1

    there : IsSite doc site
    there = asked_there doc h lawful.sound.some lawful.legal.1 session index request site at lawful.legal.0.asked

    all : length (published doc h o) ≤ cut_of h s o
    all =
        let next : cut_of (back_to at h) site (origin packet) ≡ length (published doc h (origin packet)) =
        had_all doc h session index request site at packet lawful.legal.1 there.0 (due_of doc h session index request site at reply label packet lawful.legal.0) in
        let grew : cut_of (back_to at h) site (origin packet) ≤ cut_of h site (origin packet) = cut_since (length h - at) h site (origin packet) in
        let a : cut_of h s o ≡ cut_of h site (origin packet) = λ i. cut_of h (s_is i) (o_is i) in
        let c : length (published doc h o) ≡ length (published doc h (origin packet)) = λ i. length (published doc h (o_is i)) in
        omega (arith, next, grew, a, c)

    from : (slice_get (published doc h o) (cut_of h s o) ≡ Some op)
        ⊎ ((cut_of h s o ≡ length (published doc h o)) × (news doc (published doc h) h (Answer session index request site at reply label (Some packet)) ≡ Some (o, op))) → Covers (cut_of h s) (counts op.deps)
    from (inl old) = let lt : cut_of h s o < length (published doc h o) = get_within (published doc h o) (cut_of h s o) op old in absurd (omega (arith, lt, all))
    from (inr new) =
        let n : New doc h (Answer session index request site at reply label (Some packet)) o op = new_op doc h (Answer session index request site at reply label (Some packet)) o op lawful new.1 in
        let before : IsLawful doc h = lawful_before doc (Answer session index request site at reply label (Some packet)) h lawful in
        λ y.
        let is : s ≡ op.site = n.only s b in
        let a : counts op.deps y ≡ cut_of (drop n.back h) op.site y = λ i. made_cut doc h before o op n.session n.index n.request n.back n.made i y in
        let c : cut_of (drop n.back h) op.site y ≤ cut_of h op.site y = cut_since n.back h op.site y in
        let d : cut_of h s y ≡ cut_of h op.site y = λ i. cut_of h (is i) y in
        omega (arith, a, c, d)
brought doc h (Apply site packet) s o op lawful b get = here
  where
    tests : (s == site ≡ true) × (o == origin packet ≡ true)
    tests = both_true (s == site) (o == origin packet) b

    s_is : s ≡ site
    s_is = test_same s site tests.0

    o_is : o ≡ origin packet
    o_is = test_same o (origin packet) tests.1

    at : cut_of h s o ≡ number packet
    at = (λ i. cut_of h (s_is i) (o_is i)) ∙ next_is doc h site packet lawful

    same : lawful.legal.0.op ≡ op
    same = same_op lawful.legal.0.op op (sym lawful.legal.0.stands ∙ (λ i. slice_get (published doc h (sym o_is i)) (sym at i)) ∙ get)

    here : Covers (cut_of h s) (counts op.deps)
    here x =
        let a : counts lawful.legal.0.op.deps x ≤ cut_of h site x = lawful.legal.0.covers x in
        let c : cut_of h s x ≡ cut_of h site x = λ i. cut_of h (s_is i) x in
        let f : counts op.deps x ≡ counts lawful.legal.0.op.deps x = λ i. counts (sym same i).deps x in
        omega (arith, a, c, f)

closed : (doc : Document) (h : History) → IsLawful doc h → (s : ℕ) → Closed (published doc h) (cut_of h s)
closed doc [] lawful s o q op lt get = absurd (omega (arith, lt))
closed doc (e ∷ h) lawful s o q op lt get = grown (from (closed doc h (lawful_before doc e h lawful) s o q op) (brings e s o) refl lt)
  where
    grown : Covers (cut_of h s) (counts op.deps) → Covers (cut_of (e ∷ h) s) (counts op.deps)
    grown covers x = let a : counts op.deps x ≤ cut_of h s x = covers x in let b : cut_of h s x ≤ cut_of (e ∷ h) s x = cut_grows e h s x in omega (arith, a, b)

    had : cut_of h s o ≤ length (published doc h o)
    had = within doc h lawful.legal.1 s o

    from : (q < cut_of h s o → slice_get (published doc h o) q ≡ Some op → Covers (cut_of h s) (counts op.deps)) → (b : Bool) → brings e s o ≡ b
        → q < (if b then suc (cut_of h s o) else cut_of h s o) → Covers (cut_of h s) (counts op.deps)
    from ih false is lt = ih lt (older_get doc h e o q op (omega (arith, lt, had)) get)
    from ih true is lt = split (cases_eq (cut_of h s o) q)
      where
        split : (cut_of h s o ≡ q) ⊎ (cut_of h s o ≡ q → ⊥) → Covers (cut_of h s) (counts op.deps)
        split (inl at) = brought doc h e s o op lawful is (subst (λ n. slice_get (published doc (e ∷ h) o) n ≡ Some op) (sym at) get)
        split (inr apart) = let l : q < cut_of h s o = omega (arith, apart, lt) in ih l (older_get doc h e o q op (omega (arith, l, had)) get)

-- a closed cut stays closed
pub closed_since : (doc : Document) (n : ℕ) (h : History) (c : Cut) → Lies (published doc (drop n h)) c → Closed (published doc (drop n h)) c → Closed (published doc h) c
closed_since doc n h c lies shut o q op lt get = have (get_some (published doc (drop n h) o) q (let a : c o ≤ length (published doc (drop n h) o) = lies o in omega (arith, a, lt)))
  where
    have : (x : Op) × (slice_get (published doc (drop n h) o) q ≡ Some x) → Covers c (counts op.deps)
    have x = let same : x.0 ≡ op = same_op x.0 op (sym (stays doc n h o q x.0 x.1) ∙ get) in
        subst (λ y. Covers c (counts y.deps)) same (shut o q x.0 lt x.1)

pub past_closed : (doc : Document) (n : ℕ) (h : History) → IsLawful doc h → (s : ℕ) → Closed (published doc h) (cut_of (drop n h) s)
past_closed doc n h lawful s = closed_since doc n h (cut_of (drop n h) s) (λ o. within doc (drop n h) (legal_since doc n h lawful.legal) s o) (closed doc (drop n h) (lawful_since doc n h lawful) s)
