-- Laws of histories: what grows along them, and what a legal one keeps of counts.
use Rattle.std.proofs.Common.{◌≡◌, ◌≢◌, ◌⊎◌, inl, inr, ℕ, zero, suc, ◌<◌, ◌≤◌, ◌-◌, ◌==◌, ◌&&◌, if◌then◌else◌, Bool, true, false, List, [], ◌∷◌, length, take, drop, Option, Some, None, slice_get, refl, sym, ap, subst, ◌∙◌, arith}
use Rattle.std.proofs.lemmas.Bool.{cases_eq}
use Rattle.std.proofs.lemmas.Bool.Decides.{nat_tests}
use Rattle.sv_value.specs.declared.packets.Packet.{Packet}
use Rattle.sv_value.specs.declared.packets.Packet.TheVariants as packets
use Rattle.sv_value.specs.Cuts.{counts, origin, number}
use Rattle.sv_app.specs.declared.requests.Request.{Request}
use Rattle.sv_app.specs.Draws.{first_key}
use Rattle.sv_app.specs.Schema.{Declaration}
use Rattle.sv_app.specs.Tables.{Tables}
use Rattle.sv_app.proofs.TestLaws.{other_test}
use Rattle.sv_effect.specs.declared.ops.Op.{Op}
use Rattle.sv_effect.specs.BareTables.{bare}
use Rattle.sv_effect.specs.Cut.{Cut, as_deps, Lies}
use Rattle.sv_effect.specs.Effects.{Fits}
use Rattle.sv_effect.specs.Run.{RunResult, Flow, Goes, Ends, result_of, flow_of_body, body_of}
use Rattle.sv_effect.specs.TablesOfCut.{tables_held, tables_of}
use Rattle.sv_effect.specs.Threatened.{Unthreatened}
use Rattle.sv_threat.specs.declared.label.Label.{Label}
use Rattle.sv_threat.specs.declared.label.Label.TheVariants.{Nothing, Blue, Red}
use Rattle.sv_core.specs.declared.entries.Reply.{Reply}
use Rattle.sv_core.specs.declared.entries.Reply.TheVariants.{Ran, Refused, Full}
use Rattle.sv_core.specs.declared.entries.Entry.{Entry}
use Rattle.sv_core.specs.declared.entries.Entry.TheVariants.{Answer, Apply, Move}
use Rattle.sv_core.specs.Document.{Document}
use Rattle.sv_core.specs.History.{History, brings, cut_of, back_to, tables_then, run_then, op_of, news, published, home, site_of}
use Rattle.sv_core.specs.Judged.{is_done, IsReply, made_by, IsJudged}
use Rattle.sv_core.specs.Legal.{Legal, IsAsked, IsDue, Shows, IsJudgedThen, IsAnswer}
use Rattle.sv_core.specs.Room.{Lack, lack_of}
use Rattle.sv_core.specs.Runs.{run_of}
use Rattle.sv_core.specs.Sound.{IsSite}
use Rattle.sv_core.proofs.ListLaws.{get_within}
use Rattle.sv_core.proofs.CutLaws.{counts_as}
use Rattle.sv_core.proofs.MediumLaws.{news_stay, news_held, news_long, news_longer}

-- what was published stays
pub stays : (doc : Document) (n : ℕ) (h : History) (o q : ℕ) (op : Op) → slice_get (published doc (drop n h) o) q ≡ Some op → slice_get (published doc h o) q ≡ Some op
stays doc zero h o q op e = e
stays doc (suc n) [] o q op e = e
stays doc (suc n) (x ∷ h) o q op e = news_stay (news doc (published doc h) h x) (published doc h) o q op (stays doc n h o q op e)

more_or_same : (b : Bool) (k : ℕ) → k ≤ (if b then suc k else k)
more_or_same true k = omega arith
more_or_same false k = omega arith

pub cut_grows : (e : Entry) (h : History) (s o : ℕ) → cut_of h s o ≤ cut_of (e ∷ h) s o
cut_grows e h s o = more_or_same (brings e s o) (cut_of h s o)

pub cut_since : (n : ℕ) (h : History) (s o : ℕ) → cut_of (drop n h) s o ≤ cut_of h s o
cut_since zero h s o = omega arith
cut_since (suc n) [] s o = omega arith
cut_since (suc n) (x ∷ h) s o = let a : cut_of (drop n h) s o ≤ cut_of h s o = cut_since n h s o in let b = cut_grows x h s o in omega (arith, a, b)

pub legal_since : (doc : Document) (n : ℕ) (h : History) → Legal doc h → Legal doc (drop n h)
legal_since doc zero h legal = legal
legal_since doc (suc n) [] legal = legal
legal_since doc (suc n) (x ∷ h) legal = legal_since doc n h legal.1

pub long_since : (doc : Document) (n : ℕ) (h : History) (o : ℕ) → length (published doc (drop n h) o) ≤ length (published doc h o)
long_since doc zero h o = omega arith
long_since doc (suc n) [] o = omega arith
long_since doc (suc n) (x ∷ h) o =
    let a : length (published doc (drop n h) o) ≤ length (published doc h o) = long_since doc n h o in
    let b : length (published doc h o) ≤ length (published doc (x ∷ h) o) = news_longer (news doc (published doc h) h x) (published doc h) o in
    omega (arith, a, b)

pub held_since : (doc : Document) (n : ℕ) (h : History) (c : Cut) → Lies (published doc (drop n h)) c → (o : ℕ) → take (c o) (published doc (drop n h) o) ≡ take (c o) (published doc h o)
held_since doc zero h c lies o = refl
held_since doc (suc n) [] c lies o = refl
held_since doc (suc n) (x ∷ h) c lies o =
    let a : c o ≤ length (published doc (drop n h) o) = lies o in
    let b : length (published doc (drop n h) o) ≤ length (published doc h o) = long_since doc n h o in
    let le : c o ≤ length (published doc h o) = omega (arith, a, b) in
    held_since doc n h c lies o ∙ sym (news_held (news doc (published doc h) h x) (published doc h) o (c o) le)

-- a cut's tables don't change when more is published
pub tables_since : (doc : Document) (n : ℕ) (h : History) (c : Cut) → Lies (published doc (drop n h)) c
    → tables_of doc.schema doc.init (published doc (drop n h)) c ≡ tables_of doc.schema doc.init (published doc h) c
tables_since doc n h c lies = λ i. tables_held doc.schema doc.init (λ o. held_since doc n h c lies o i)

pub at_end : (n : ℕ) (h : History) → n ≡ 0 → drop n h ≡ h
at_end zero h e = refl
at_end (suc n) h e = absurd (omega (arith, e))

-- a blue answer was made on the history before it
pub back_to_now : (at : ℕ) (h : History) → at ≡ length h → back_to at h ≡ h
back_to_now at h e = at_end (length h - at) h (omega (arith, e))

-- where sessions are
home_there : (doc : Document) → 1 ≤ doc.sites → (session : ℕ) → IsSite doc (home doc session)
home_there doc some session = (omega arith, omega (arith, some))

chosen_there : (doc : Document) (b : Bool) (s t : ℕ) → IsSite doc s → IsSite doc t → IsSite doc (if b then s else t)
chosen_there doc true s t is or = is
chosen_there doc false s t is or = or

pub site_there : (doc : Document) (h : History) → 1 ≤ doc.sites → Legal doc h → (session : ℕ) → IsSite doc (site_of doc h session)
site_there doc [] some legal session = home_there doc some session
site_there doc (Answer k index request site at reply label packet ∷ h) some legal session = site_there doc h some legal.1 session
site_there doc (Apply site packet ∷ h) some legal session = site_there doc h some legal.1 session
site_there doc (Move k site ∷ h) some legal session = chosen_there doc (session == k) site (site_of doc h session) legal.0.there (site_there doc h some legal.1 session)

-- a run that makes changes is done
run_done : (schema : List Declaration) (f : Flow) → (result_of schema f).effects ≢ [] → is_done (result_of schema f).outcome ≡ true
run_done schema (Goes st) some = refl
run_done schema (Ends o) some = absurd (some refl)

pub run_of_done : (doc : Document) (session index : ℕ) (request : Request) (t : Tables) → (run_of doc session index request t).effects ≢ [] → is_done (run_of doc session index request t).outcome ≡ true
run_of_done doc session index request t some = run_done doc.schema (flow_of_body doc.schema (body_of (slice_get doc.txns request.txn)) request.args (first_key session index) t) some

-- what is judged of a run that makes an operation
record Makes (schema : List Declaration) (t : Tables) (ran : RunResult) : Type 0 where
  changes : ran.effects ≢ []
  fits : is_done ran.outcome ≡ true → Fits schema ran.effects t

makes : (schema : List Declaration) (t : Tables) (ran : RunResult) (reply : Reply) → IsReply schema t ran reply → made_by reply ran.effects ≢ [] → Makes schema t ran
makes schema t ran (Ran outcome) is some = record { changes = some; fits = λ done. is.1 (ap is_done is.0 ∙ done) }
makes schema t ran (Refused inv) is some = absurd (some refl)
makes schema t ran (Full which used) is some = absurd is

pub none_some : {A : Type 0} (x : A) → ◌≡◌ {A = Option A} (Some x) None → ⊥
none_some x e = cc

nothing_in : {A : Type 0} (es : List A) (n : ℕ) (x : A) → slice_get es n ≡ Some x → es ≢ []
nothing_in [] n x e = absurd cc
nothing_in (y ∷ es) n x e = λ no. cc

same_packet : (a b : Packet) → Some a ≡ Some b → a ≡ b
same_packet a b e = cc

-- what is due is shown where there is room
shown : (lack : Option Lack) (judged : Reply) (label : Label) (due : Packet) (reply : Reply) (show : Label) (packet : Packet)
    → Shows lack judged label due reply show (Some packet) → packet ≡ due
shown (Some lack) judged label due reply show packet s = absurd (none_some packet s.2)
shown None judged label due reply show packet s = same_packet packet due s.2

-- what an answer with a packet was judged: its changes fit the tables that it was run on; it is blue and made on all that its site has, or red and made on all reds
pub record Due (doc : Document) (h : History) (session index : ℕ) (request : Request) (site at : ℕ) (packet : Packet) : Type 0 where
  pub fits : Fits doc.schema (run_then doc (published doc h) h session index request site at).effects (bare (tables_then doc (published doc h) h site at))
  pub number_is : number packet ≡ length (published doc h (origin packet))
  pub kind : ((origin packet ≡ site) × (at ≡ length h) × Unthreatened doc.schema (run_then doc (published doc h) h session index request site at).effects)
      ⊎ ((origin packet ≡ 0) × (cut_of (back_to at h) site 0 ≡ length (published doc h 0)))

due : (doc : Document) (h : History) (session index : ℕ) (request : Request) (site at : ℕ) (reply : Reply) (show : Label) (packet : Packet)
    → IsJudgedThen doc h session index request site at reply show (Some packet) → Due doc h session index request site at packet
due doc h session index request site at reply show packet j = by j.label j.right j.due
  where
    ran : RunResult
    ran = run_then doc (published doc h) h session index request site at

    t : Tables
    t = bare (tables_then doc (published doc h) h site at)

    fit : made_by j.judged ran.effects ≢ [] → IsReply doc.schema t ran j.judged → Fits doc.schema ran.effects t
    fit some is = let m : Makes doc.schema t ran = makes doc.schema t ran j.judged is some in m.fits (run_of_done doc session index request t m.changes)

    by : (label : Label) → IsJudged doc.schema t ran j.judged label → IsDue doc h site at (op_of doc (published doc h) h session index request site at) j.judged label reply show (Some packet)
        → Due doc h session index request site at packet
    by Nothing right d = absurd (none_some packet d.3)
    by Blue right d =
        let is : packet ≡ packets.Blue site (length (published doc h site)) = shown (lack_of doc (published doc h) (op_of doc (published doc h) h session index request site at).effects) j.judged Blue
        (packets.Blue site (length (published doc h site))) reply show packet d.1 in
        record {
          fits = fit right.labelled.0 right.replied;
          number_is = ap number is ∙ ap (λ o. length (published doc h o)) (sym (ap origin is));
          kind = inl (ap origin is, d.0, free right.labelled.1);
        }
      where
        free : Unthreatened doc.schema (made_by j.judged ran.effects) → Unthreatened doc.schema ran.effects
        free u = subst (λ es. Unthreatened doc.schema es) (all j.judged right.labelled.0) u
          where
            all : (reply : Reply) → made_by reply ran.effects ≢ [] → made_by reply ran.effects ≡ ran.effects
            all (Ran outcome) some = refl
            all (Refused inv) some = absurd (some refl)
            all (Full which used) some = absurd (some refl)
    by (Red instance place reason) right d =
        let is : packet ≡ packets.Red (length (published doc h 0)) = shown (lack_of doc (published doc h) (op_of doc (published doc h) h session index request site at).effects) j.judged (Red instance place reason)
        (packets.Red (length (published doc h 0))) reply show packet d.1 in
        record {
          fits = fit (nothing_in (made_by j.judged ran.effects) right.labelled.threat.number right.labelled.threat.e right.labelled.threat.at) right.replied;
          number_is = ap number is ∙ ap (λ o. length (published doc h o)) (sym (ap origin is));
          kind = inr (ap origin is, d.0);
        }

pub due_of : (doc : Document) (h : History) (session index : ℕ) (request : Request) (site at : ℕ) (reply : Reply) (label : Label) (packet : Packet)
    → IsAnswer doc h session index request site at reply label (Some packet) → Due doc h session index request site at packet
due_of doc h session index request site at reply label packet a = due doc h session index request site at reply label packet a.given

-- a site has no more than was published
pub within : (doc : Document) (h : History) → Legal doc h → (s o : ℕ) → cut_of h s o ≤ length (published doc h o)
within doc [] legal s o = omega arith
within doc (Answer session index request site at reply label None ∷ h) legal s o = within doc h legal.1 s o
within doc (Answer session index request site at reply label (Some packet) ∷ h) legal s o =
    let ih : cut_of h s o ≤ length (published doc h o) = within doc h legal.1 s o in
    rw (news_long (origin packet, op_of doc (published doc h) h session index request site at) (published doc h) o) (grind (arith, nat_tests, ih))
within doc (Move session site ∷ h) legal s o = within doc h legal.1 s o
within doc (Apply site packet ∷ h) legal s o = here (within doc h legal.1 s o) (cases_eq s site) (cases_eq o (origin packet))
  where
    lt : number packet < length (published doc h (origin packet))
    lt = get_within (published doc h (origin packet)) (number packet) legal.0.op legal.0.stands

    le : cut_of h site (origin packet) ≤ number packet
    le = legal.0.lacks

    here : cut_of h s o ≤ length (published doc h o) → (s ≡ site) ⊎ (s ≡ site → ⊥) → (o ≡ origin packet) ⊎ (o ≡ origin packet → ⊥)
        → (if s == site && o == origin packet then suc (cut_of h s o) else cut_of h s o) ≤ length (published doc h o)
    here ih (inl is) (inl at) =
        let a : cut_of h s o ≡ cut_of h site (origin packet) = λ i. cut_of h (is i) (at i) in
        let b : length (published doc h o) ≡ length (published doc h (origin packet)) = λ i. length (published doc h (at i)) in
        grind (arith, nat_tests, a, b, lt, le)
    here ih (inl is) (inr apart) = grind (arith, nat_tests, ih, apart)
    here ih (inr apart) _ = grind (arith, nat_tests, ih, apart)

-- a site has all of its own
pub own : (doc : Document) (h : History) → Legal doc h → (s : ℕ) → 1 ≤ s → cut_of h s s ≡ length (published doc h s)
own doc [] legal s one = refl
own doc (Answer session index request site at reply label None ∷ h) legal s one = own doc h legal.1 s one
own doc (Answer session index request site at reply label (Some packet) ∷ h) legal s one =
    by (own doc h legal.1 s one) (due_of doc h session index request site at reply label packet legal.0).kind
  where
    by : cut_of h s s ≡ length (published doc h s) → ((origin packet ≡ site) × (at ≡ length h) × Unthreatened doc.schema (run_then doc (published doc h) h session index request site at).effects)
        ⊎ ((origin packet ≡ 0) × (cut_of (back_to at h) site 0 ≡ length (published doc h 0)))
        → cut_of (Answer session index request site at reply label (Some packet) ∷ h) s s ≡ length (published doc (Answer session index request site at reply label (Some packet) ∷ h) s)
    by ih (inl k) =
        let is : origin packet ≡ site = k.0 in
        rw (news_long (origin packet, op_of doc (published doc h) h session index request site at) (published doc h) s) (grind (arith, nat_tests, ih, is))
    by ih (inr k) =
        let is : origin packet ≡ 0 = k.0 in
        rw (news_long (origin packet, op_of doc (published doc h) h session index request site at) (published doc h) s) (grind (arith, nat_tests, ih, is, one))
own doc (Move session site ∷ h) legal s one = own doc h legal.1 s one
own doc (Apply site packet ∷ h) legal s one = here (own doc h legal.1 s one) (cases_eq s site) (cases_eq s (origin packet))
  where
    lt : number packet < length (published doc h (origin packet))
    lt = get_within (published doc h (origin packet)) (number packet) legal.0.op legal.0.stands

    le : cut_of h site (origin packet) ≤ number packet
    le = legal.0.lacks

    here : cut_of h s s ≡ length (published doc h s) → (s ≡ site) ⊎ (s ≡ site → ⊥) → (s ≡ origin packet) ⊎ (s ≡ origin packet → ⊥)
        → (if s == site && s == origin packet then suc (cut_of h s s) else cut_of h s s) ≡ length (published doc h s)
    here ih (inl is) (inl at) =
        let a : cut_of h s s ≡ cut_of h site (origin packet) = λ i. cut_of h (is i) (at i) in
        let b : length (published doc h s) ≡ length (published doc h (origin packet)) = λ i. length (published doc h (at i)) in
        absurd (omega (arith, a, b, lt, le, ih))
    here ih (inl is) (inr apart) = grind (arith, nat_tests, ih, apart)
    here ih (inr apart) _ = grind (arith, nat_tests, ih, apart)

-- the site of an answer
pub asked_there : (doc : Document) (h : History) → 1 ≤ doc.sites → Legal doc h → (session index : ℕ) (request : Request) (site at : ℕ) → IsAsked doc h session index request site at → IsSite doc site
asked_there doc h some legal session index request site at a = subst (λ s. IsSite doc s) (sym a.lives) (site_there doc h some legal session)

-- only the reds and the document's sites have operations
pub few : (doc : Document) (h : History) → 1 ≤ doc.sites → Legal doc h → (o : ℕ) → doc.sites < o → length (published doc h o) ≡ 0
few doc [] some legal o big = refl
few doc (Answer session index request site at reply label None ∷ h) some legal o big = few doc h some legal.1 o big
few doc (Answer session index request site at reply label (Some packet) ∷ h) some legal o big =
    rw (news_long (origin packet, op_of doc (published doc h) h session index request site at) (published doc h) o, other_test o (origin packet) (by (due_of doc h session index request site at reply label packet legal.0).kind))
    (few doc h some legal.1 o big)
  where
    there : IsSite doc site
    there = asked_there doc h some legal.1 session index request site at legal.0.asked

    by : ((origin packet ≡ site) × (at ≡ length h) × Unthreatened doc.schema (run_then doc (published doc h) h session index request site at).effects)
        ⊎ ((origin packet ≡ 0) × (cut_of (back_to at h) site 0 ≡ length (published doc h 0))) → o ≡ origin packet → ⊥
    by (inl k) e = let is : origin packet ≡ site = k.0 in let le : site ≤ doc.sites = there.1 in omega (arith, big, is, le, e)
    by (inr k) e = let is : origin packet ≡ 0 = k.0 in omega (arith, big, is, e)
few doc (Apply site packet ∷ h) some legal o big = few doc h some legal.1 o big
few doc (Move session site ∷ h) some legal o big = few doc h some legal.1 o big

pub cut_few : (doc : Document) (h : History) → 1 ≤ doc.sites → Legal doc h → (s o : ℕ) → doc.sites < o → cut_of h s o ≡ 0
cut_few doc h some legal s o big = let a : cut_of h s o ≤ length (published doc h o) = within doc h legal s o in let b = few doc h some legal o big in omega (arith, a, b)

-- a cut as operations carry it counts as the history does
pub counts_cut : (doc : Document) (h : History) → 1 ≤ doc.sites → doc.sites ≤ 8 → Legal doc h → (s : ℕ) → counts (as_deps (cut_of h s)) ≡ cut_of h s
counts_cut doc h some eight legal s = λ i o. counts_as (cut_of h s) (λ x big. cut_few doc h some legal s x (omega (arith, big, eight))) o i
