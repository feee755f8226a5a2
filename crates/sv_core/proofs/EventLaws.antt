-- What a site does with its packets: it settles one of its inbox, and catches up with all that was published.
use Rattle.std.proofs.Common.{◌≡◌, ◌⊎◌, inl, inr, ℕ, zero, suc, ◌+◌, ◌<◌, ◌≤◌, ◌^◌, cond, Bool, true, false, List, [], ◌∷◌, ◌++◌, All, length, get_or, take, drop, Some, slice_get, refl, sym, ap, subst, ◌∙◌, arith}
use Rattle.std.specs.Prelude.{IsTrue, ◌↔◌}
use Rattle.std.specs.List.{filter}
use Rattle.std.proofs.lemmas.Bool.Decides.{nat_tests}
use Rattle.std.proofs.lemmas.List.{append_assoc, append-nil, length_push}
use Rattle.std.proofs.lemmas.Option.{slice_get-get_or}
use Rattle.sv_value.specs.declared.cuts.Cut.{Cut as CodeCut}
use Rattle.sv_value.specs.declared.packets.Packet.{Packet}
use Rattle.sv_value.specs.Cuts.{counts, origin, number}
use Rattle.std.proofs.lemmas.List.Elements.{All-append, All-cons}
use Rattle.sv_causal.specs.Inboxes.{lacks, without}
use Rattle.sv_effect.specs.Cut.{Cut}
use Rattle.sv_core.specs.declared.entries.Entry.TheVariants.{Apply}
use Rattle.sv_core.specs.Document.{Document}
use Rattle.sv_core.specs.Events.{IsCaught, IsFirstPlace, IsFirstReady}
use Rattle.sv_core.specs.History.{History, cut_of, published}
use Rattle.sv_core.specs.Laws.{IsLawful}
use Rattle.sv_core.specs.Legal.{IsApply}
use Rattle.sv_core.specs.declared.sites.SiteState.{SiteState}
use Rattle.sv_core.specs.Mediums.{MediumView, doc_of, with_entry, with_history}
use Rattle.sv_core.specs.Packets.{lacked, packets_in, with_applied}
use Rattle.sv_core.specs.Sound.{IsSite}
use Rattle.sv_core.specs.Standing.{HasFirst, Leaves, Stands}
use Rattle.sv_core.specs.WorldLaws.{CanCatch, IsFew}
use Rattle.sv_core.proofs.BirthLaws.{next_is}
use Rattle.sv_core.proofs.CatchLaws.{first_is_ready, none_lacked}
use Rattle.sv_core.proofs.CutLaws.{order}
use Rattle.sv_core.proofs.FactLaws.{more_here}
use Rattle.sv_core.proofs.ListLaws.{get_within}
use Rattle.sv_core.proofs.RoomLaws.{all_few}
use Rattle.sv_core.proofs.SiteLaws.{has_first_more}
use Rattle.sv_core.proofs.StandLaws.{comes_applied, cut_comes}

-- a list around one of its places
around : {A : Type 0} (xs : List A) (n : ℕ) (x : A) → slice_get xs n ≡ Some x → xs ≡ take n xs ++ x ∷ drop (suc n) xs
around [] n x get = absurd cc
around (y ∷ ys) zero x get = let is : y ≡ x = cc in ap (λ z. z ∷ ys) is
around (y ∷ ys) (suc n) x get = ap (λ zs. y ∷ zs) (around ys n x get)

-- the packet that was taken from its place is the first that may be applied
pub first_settled : (doc : Document) (h : History) (site : ℕ) (inbox : List Packet) (place : ℕ) (packet : Packet) (left : List Packet)
    → IsFirstPlace doc h site (filter (lacks (cut_of h site)) inbox) (Some place) → slice_get (filter (lacks (cut_of h site)) inbox) place ≡ Some packet
    → left ≡ without (filter (lacks (cut_of h site)) inbox) place → IsFirstReady doc h site inbox packet left
first_settled doc h site inbox place packet left found get is = record {
  before = take place held;
  behind = drop (suc place) held;
  stands = around held place packet get;
  not_yet = found.3;
  ready = subst (IsApply doc h site) same found.2;
  rest = is;
}
  where
    held : List Packet
    held = filter (lacks (cut_of h site)) inbox

    same : found.0 ≡ packet
    same = let e : Some found.0 ≡ Some packet = sym found.1 ∙ get in cc

-- how far a site has caught up: it applied `done` of what it lacked, and has the first so many of all packets
pub record Catching (h now : History) (site place count : ℕ) : Type 0 where
  pub done : List Packet
  pub history : now ≡ with_applied site done h
  pub rest : done ++ lacked now site ≡ lacked h site
  pub many : count ≡ length done
  pub first : HasFirst now site place
  pub order : packets_in now ≡ packets_in h

pub catching_starts : (h : History) (site caught : ℕ) → HasFirst h site caught → Catching h h site caught 0
catching_starts h site caught has = record { done = []; history = refl; rest = refl; many = refl; first = has; order = refl }

-- one packet more that it has
has_one : (h : History) (site place : ℕ) (packet : Packet) → HasFirst h site place → slice_get (packets_in h) place ≡ Some packet → number packet < cut_of h site (origin packet)
    → HasFirst h site (suc place)
has_one h site place packet has get had = record { within = get_in (packets_in h) place get; had = λ q x lt at. by q x lt at (split q lt) }
  where
    get_in : (xs : List Packet) (n : ℕ) → slice_get xs n ≡ Some packet → suc n ≤ length xs
    get_in [] n e = absurd cc
    get_in (x ∷ xs) zero e = omega arith
    get_in (x ∷ xs) (suc n) e = let ih : suc n ≤ length xs = get_in xs n e in omega (arith, ih)

    split : (q : ℕ) → q < suc place → (q < place) ⊎ (q ≡ place)
    split q lt = below q place lt
      where
        below : (a b : ℕ) → a < suc b → (a < b) ⊎ (a ≡ b)
        below zero zero lt = inr refl
        below zero (suc b) lt = inl (omega arith)
        below (suc a) zero lt = absurd (omega (arith, lt))
        below (suc a) (suc b) lt = up (below a b (omega (arith, lt)))
          where
            up : (a < b) ⊎ (a ≡ b) → (suc a < suc b) ⊎ (suc a ≡ suc b)
            up (inl l) = inl (omega (arith, l))
            up (inr e) = inr (ap suc e)

    by : (q : ℕ) (x : Packet) → q < suc place → slice_get (packets_in h) q ≡ Some x → (q < place) ⊎ (q ≡ place) → number x < cut_of h site (origin x)
    by q x lt at (inl l) = has.had q x l at
    by q x lt at (inr e) =
        let same : packet ≡ x = let two : Some packet ≡ Some x = sym get ∙ ap (slice_get (packets_in h)) (sym e) ∙ at in cc in
        subst (λ y. number y < cut_of h site (origin y)) same had

pub catching_had : (h now : History) (site place count : ℕ) (packet : Packet) → Catching h now site place count → slice_get (packets_in now) place ≡ Some packet
    → number packet < cut_of now site (origin packet) → Catching h now site (suc place) count
catching_had h now site place count packet c get had =
    record { done = c.done; history = c.history; rest = c.rest; many = c.many; first = has_one now site place packet c.first get had; order = c.order }

-- what is lacked begins behind the packets that are had
lacked_from : (h : History) (site : ℕ) (xs : List Packet) (place : ℕ) (packet : Packet)
    → ((q : ℕ) (x : Packet) → q < place → slice_get xs q ≡ Some x → number x < cut_of h site (origin x)) → slice_get xs place ≡ Some packet
    → lacks (cut_of h site) packet ≡ true → filter (lacks (cut_of h site)) xs ≡ packet ∷ filter (lacks (cut_of h site)) (drop (suc place) xs)
lacked_from h site [] place packet had get is = absurd cc
lacked_from h site (x ∷ xs) zero packet had get is =
    let same : x ≡ packet = cc in ap (λ b. cond b (x ∷ filter (lacks (cut_of h site)) xs) (filter (lacks (cut_of h site)) xs)) (ap (lacks (cut_of h site)) same ∙ is)
    ∙ ap (λ y. y ∷ filter (lacks (cut_of h site)) xs) same
lacked_from h site (x ∷ xs) (suc place) packet had get is =
    ap (λ b. cond b (x ∷ filter (lacks (cut_of h site)) xs) (filter (lacks (cut_of h site)) xs)) (not_lacked (had 0 x (omega arith) refl))
    ∙ lacked_from h site xs place packet (λ q y lt at. had (suc q) y (omega (arith, lt)) at) get is
  where
    not_lacked : number x < cut_of h site (origin x) → lacks (cut_of h site) x ≡ false
    not_lacked lt = grind (arith, nat_tests, lt)

-- one packet that it lacks and applies
pub record CatchesOne (doc : Document) (now : History) (site : ℕ) (packet : Packet) : Type 0 where
  pub next : IsApply doc now site packet
  pub step : (h : History) (place count : ℕ) → Catching h now site place count → slice_get (packets_in now) place ≡ Some packet → Catching h (Apply site packet ∷ now) site (suc place) (suc count)

applied_more : (s : ℕ) (xs : List Packet) (packet : Packet) (h : History) → with_applied s (xs ++ packet ∷ []) h ≡ Apply s packet ∷ with_applied s xs h
applied_more s [] packet h = refl
applied_more s (x ∷ xs) packet h = applied_more s xs packet (Apply s x ∷ h)

pub catches_one : (doc : Document) (now : History) (site place : ℕ) (packet : Packet) → IsLawful doc now → IsSite doc site → HasFirst now site place
    → slice_get (packets_in now) place ≡ Some packet → (number packet < cut_of now site (origin packet) → ⊥) → CatchesOne doc now site packet
catches_one doc now site place packet lawful there has get lacking = record { next = can.next; step = step }
  where
    lacked_now : lacks (cut_of now site) packet ≡ true
    lacked_now = by (order (number packet) (cut_of now site (origin packet)))
      where
        by : (number packet < cut_of now site (origin packet)) ⊎ (cut_of now site (origin packet) ≤ number packet) → lacks (cut_of now site) packet ≡ true
        by (inl lt) = absurd (lacking lt)
        by (inr le) = grind (arith, nat_tests, le)

    rest : List Packet
    rest = filter (lacks (cut_of now site)) (drop (suc place) (packets_in now))

    first : lacked now site ≡ packet ∷ rest
    first = lacked_from now site (packets_in now) place packet (λ q x lt at. has.had q x lt at) get lacked_now

    can : CanCatch doc now site packet rest
    can = first_is_ready doc now site packet rest lawful there first

    number_is : cut_of now site (origin packet) ≡ number packet
    number_is = next_is doc now site packet (record { sound = lawful.sound; legal = (can.next, lawful.legal) })

    now_had : number packet < cut_of (Apply site packet ∷ now) site (origin packet)
    now_had =
        let up : cut_of (Apply site packet ∷ now) site (origin packet) ≡ suc (cut_of now site (origin packet)) =
        cut_comes (Apply site packet) now site packet (comes_applied now site packet) (origin packet) ∙ more_here (cut_of now site) (origin packet) in
        omega (arith, up, number_is)

    step : (h : History) (place : ℕ) (count : ℕ) → Catching h now site place count → slice_get (packets_in now) place ≡ Some packet → Catching h (Apply site packet ∷ now) site (suc place) (suc count)
    step h place count c at = record {
      done = c.done ++ packet ∷ [];
      history = ap (λ x. Apply site packet ∷ x) c.history ∙ sym (applied_more site c.done packet h);
      rest = append_assoc c.done (packet ∷ []) (lacked (Apply site packet ∷ now) site) ∙ ap (λ xs. c.done ++ packet ∷ xs) can.left ∙ ap (λ xs. c.done ++ xs) (sym first) ∙ c.rest;
      many = let long : length (c.done ++ packet ∷ []) ≡ length c.done + 1 = length_push c.done packet in let m : count ≡ length c.done = c.many in omega (arith, long, m);
      first = has_one (Apply site packet ∷ now) site place packet (has_first_more doc (Apply site packet) now site place c.first) at now_had;
      order = c.order;
    }

none_from : (cut : Cut) (xs : List Packet) → ((q : ℕ) (x : Packet) → slice_get xs q ≡ Some x → number x < cut (origin x)) → filter (lacks cut) xs ≡ []
none_from cut [] had = refl
none_from cut (x ∷ xs) had =
    ap (λ b. cond b (x ∷ filter (lacks cut) xs) (filter (lacks cut) xs)) (not_lacked (had 0 x refl)) ∙ none_from cut xs (λ q y at. had (suc q) y at)
  where
    not_lacked : number x < cut (origin x) → lacks cut x ≡ false
    not_lacked lt = grind (arith, nat_tests, lt)

-- a site that has all packets has caught up
pub catching_none : (h now : History) (site count : ℕ) → Catching h now site (length (packets_in now)) count → lacked now site ≡ []
catching_none h now site count c =
    none_from (cut_of now site) (packets_in now) (λ q x at. c.first.had q x (get_within (packets_in now) q x at) at)

pub catching_ends : (h now : History) (site count : ℕ) → Catching h now site (length (packets_in now)) count → IsCaught h site count now
catching_ends h now site count c = record { many = c.many ∙ ap length all; all = c.history ∙ ap (λ xs. with_applied site xs h) all }
  where
    all : c.done ≡ lacked h site
    all = sym (append-nil c.done) ∙ ap (λ xs. c.done ++ xs) (sym (catching_none h now site count c)) ∙ c.rest

pub whole_end : (doc : Document) (h now : History) (site count : ℕ) → IsLawful doc now → Catching h now site (length (packets_in now)) count → (o : ℕ)
    → cut_of now site o ≡ length (published doc now o)
whole_end doc h now site count lawful c o = none_lacked doc now site o lawful (catching_none h now site count c)

-- a site on its way to all packets: `s` and `m` are what `before` and `start` have become when so many packets were looked at, and so many of them applied
pub record CatchesUp (start m : MediumView) (before s : SiteState) (place count : ℕ) : Type 0 where
  pub lawful : IsLawful (doc_of m) m.history
  pub stands : Stands (doc_of m) m.history s
  pub catching : Catching start.history m.history s.site place count
  pub medium : m ≡ with_history start m.history
  pub site : s.site ≡ before.site
  pub same_doc : s.doc ≡ before.doc
  pub inbox : s.inbox ≡ before.inbox
  pub few : count ≤ place

pub catches_start : (m : MediumView) (s : SiteState) → IsLawful (doc_of m) m.history → Stands (doc_of m) m.history s → CatchesUp m m s s s.caught 0
catches_start m s lawful stands =
    record { lawful = lawful; stands = stands; catching = catching_starts m.history s.site s.caught stands.caught; medium = refl; site = refl; same_doc = refl; inbox = refl; few = omega arith }

one : (start m : MediumView) (before s : SiteState) (place count : ℕ) (packet : Packet) → CatchesUp start m before s place count → slice_get (packets_in m.history) place ≡ Some packet
    → (number packet < counts s.cut (origin packet) → ⊥) → CatchesOne (doc_of m) m.history s.site packet
one start m before s place count packet c get lacking =
    catches_one (doc_of m) m.history s.site place packet c.lawful c.stands.there c.catching.first get (λ lt. lacking (omega (arith, lt, c.stands.cut (origin packet))))

pub catches_next : (start m : MediumView) (before s : SiteState) (place count : ℕ) (packet : Packet) → CatchesUp start m before s place count → slice_get (packets_in m.history) place ≡ Some packet
    → (number packet < counts s.cut (origin packet) → ⊥) → IsApply (doc_of m) m.history s.site packet
catches_next start m before s place count packet c get lacking = (one start m before s place count packet c get lacking).next

pub catches_few : (start m : MediumView) (before s : SiteState) (place count : ℕ) → CatchesUp start m before s place count → place < length (packets_in m.history) → count + 1 < 2 ^ 32
catches_few start m before s place count c lt =
    let f : IsFew (doc_of m) m.history = all_few (doc_of m) m.history c.lawful in omega (arith, c.few, lt, f.packets, f.asked, c.lawful.sound.asks)

next_place : (place : ℕ) → suc place ≡ place + 1
next_place place = omega arith

pub catches_had : (start m : MediumView) (before s : SiteState) (place count : ℕ) (packet : Packet) → CatchesUp start m before s place count → slice_get (packets_in m.history) place ≡ Some packet
    → number packet < counts s.cut (origin packet) → CatchesUp start m before s (place + 1) count
catches_had start m before s place count packet c get had = record {
  lawful = c.lawful;
  stands = c.stands;
  catching = subst (λ n. Catching start.history m.history s.site n count) (next_place place)
      (catching_had start.history m.history s.site place count packet c.catching get (omega (arith, had, c.stands.cut (origin packet))));
  medium = c.medium;
  site = c.site;
  same_doc = c.same_doc;
  inbox = c.inbox;
  few = omega (arith, c.few);
}

pub catches_applied : (start m : MediumView) (before s : SiteState) (place count : ℕ) (packet : Packet) (after : MediumView) (new : SiteState) → CatchesUp start m before s place count
    → slice_get (packets_in m.history) place ≡ Some packet → (number packet < counts s.cut (origin packet) → ⊥) → after ≡ with_entry m (Apply s.site packet)
    → Leaves (doc_of after) after.history s new → new.inbox ≡ s.inbox → CatchesUp start after before new (place + 1) (count + 1)
catches_applied start m before s place count packet after new c get lacking added left inbox = record {
  lawful = subst (λ x. IsLawful (doc_of x) x.history) (sym added) (record { sound = c.lawful.sound; legal = (o.next, c.lawful.legal) });
  stands = left.stands;
  catching = subst (λ x. Catching start.history x.history new.site (place + 1) (count + 1)) (sym added)
      (subst (λ site. Catching start.history (Apply s.site packet ∷ m.history) site (place + 1) (count + 1)) (sym left.site)
      (subst (λ n. Catching start.history (Apply s.site packet ∷ m.history) s.site n (count + 1)) (next_place place)
      (subst (λ n. Catching start.history (Apply s.site packet ∷ m.history) s.site (suc place) n) (next_place count) (o.step start.history place count c.catching get))));
  medium = added ∙ ap (λ x. with_entry x (Apply s.site packet)) c.medium ∙ ap (λ h. with_history start h) (ap (λ x. x.history) (sym added));
  site = left.site ∙ c.site;
  same_doc = left.same_doc ∙ c.same_doc;
  inbox = inbox ∙ c.inbox;
  few = omega (arith, c.few);
}
  where
    o : CatchesOne (doc_of m) m.history s.site packet
    o = one start m before s place count packet c get lacking

pub catches_end : (start m : MediumView) (before s : SiteState) (place count : ℕ) → CatchesUp start m before s place count → (place < length (packets_in m.history) → ⊥)
    → IsCaught start.history before.site count m.history
catches_end start m before s place count c past =
    subst (λ site. IsCaught start.history site count m.history) c.site
    (catching_ends start.history m.history s.site count (subst (λ n. Catching start.history m.history s.site n count) (at_end place m.history c.catching.first.within past) c.catching))
  where
    at_end : (place : ℕ) (h : History) → place ≤ length (packets_in h) → (place < length (packets_in h) → ⊥) → place ≡ length (packets_in h)
    at_end place h within past = by (order place (length (packets_in h)))
      where
        by : (place < length (packets_in h)) ⊎ (length (packets_in h) ≤ place) → place ≡ length (packets_in h)
        by (inl lt) = absurd (past lt)
        by (inr le) = omega (arith, le, within)

pub catches_whole : (start m : MediumView) (before s : SiteState) (place count : ℕ) → CatchesUp start m before s place count → (place < length (packets_in m.history) → ⊥) → (o : ℕ)
    → cut_of m.history before.site o ≡ length (published (doc_of m) m.history o)
catches_whole start m before s place count c past o =
    sym (ap (λ site. cut_of m.history site o) c.site)
    ∙ none_lacked (doc_of m) m.history s.site o c.lawful
    (none_from (cut_of m.history s.site) (packets_in m.history) (λ q x at. c.catching.first.had q x (below q (get_within (packets_in m.history) q x at)) at))
  where
    below : (q : ℕ) → q < length (packets_in m.history) → q < place
    below q lt = by (order place (length (packets_in m.history)))
      where
        by : (place < length (packets_in m.history)) ⊎ (length (packets_in m.history) ≤ place) → q < place
        by (inl less) = absurd (past less)
        by (inr le) = omega (arith, le, lt)

-- a packet more that may not be applied
pub none_more : (doc : Document) (h : History) (site place : ℕ) (packets : List Packet) (packet : Packet) → All (λ q. IsApply doc h site q → ⊥) (take place packets)
    → Some packet ≡ slice_get packets place → (IsApply doc h site packet → ⊥) → All (λ q. IsApply doc h site q → ⊥) (take (place + 1) packets)
none_more doc h site place packets packet none get not =
    subst (All (λ q. IsApply doc h site q → ⊥)) (sym (take_one packets place packet (sym get)) ∙ ap (λ n. take n packets) (next_place place))
    (All-append (λ q. IsApply doc h site q → ⊥) (take place packets) (packet ∷ []) none (All-cons (λ q. IsApply doc h site q → ⊥) packet [] not (λ k d lt. absurd (omega (arith, lt)))))
  where
    take_one : (xs : List Packet) (n : ℕ) (x : Packet) → slice_get xs n ≡ Some x → take (suc n) xs ≡ take n xs ++ x ∷ []
    take_one [] n x e = absurd cc
    take_one (y ∷ ys) zero x e = let is : y ≡ x = cc in ap (λ z. z ∷ []) is
    take_one (y ∷ ys) (suc n) x e = ap (λ zs. y ∷ zs) (take_one ys n x e)

-- a packet that was read from the list of all
pub packet_read : (start m : MediumView) (before s : SiteState) (place count : ℕ) (xs all : List Packet) (packet : Packet) → CatchesUp start m before s place count → xs ≡ packets_in start.history
    → all ≡ packets_in m.history → place < length xs → packet ≡ get_or all place packet → slice_get (packets_in m.history) place ≡ Some packet
packet_read start m before s place count xs all packet c were are lt is =
    ap (λ ys. slice_get ys place) (sym are) ∙ slice_get-get_or all place packet (omega (arith, lt, ap length were, ap length are, ap length c.catching.order)) ∙ ap (λ x. Some x) (sym is)

pub inside : (start m : MediumView) (before s : SiteState) (place count : ℕ) (xs : List Packet) → CatchesUp start m before s place count → xs ≡ packets_in start.history → place < length xs
    → place < length (packets_in m.history)
inside start m before s place count xs c were lt = omega (arith, lt, ap length were, ap length c.catching.order)

pub outside : (start m : MediumView) (before s : SiteState) (place count : ℕ) (xs : List Packet) → CatchesUp start m before s place count → xs ≡ packets_in start.history
    → (place < length xs → ⊥) → place < length (packets_in m.history) → ⊥
outside start m before s place count xs c were past lt = past (omega (arith, lt, ap length were, ap length c.catching.order))

pub none_all : (doc : Document) (h : History) (site place : ℕ) (packets : List Packet) → All (λ q. IsApply doc h site q → ⊥) (take place packets) → length packets ≤ place
    → All (λ q. IsApply doc h site q → ⊥) packets
none_all doc h site place packets none le = subst (All (λ q. IsApply doc h site q → ⊥)) (take_whole packets place le) none
  where
    take_whole : (xs : List Packet) (n : ℕ) → length xs ≤ n → take n xs ≡ xs
    take_whole [] zero le = refl
    take_whole [] (suc n) le = refl
    take_whole (x ∷ xs) zero le = absurd (omega (arith, le))
    take_whole (x ∷ xs) (suc n) le = ap (λ ys. x ∷ ys) (take_whole xs n (omega (arith, le)))

-- what a site settles, by the inbox that it looked at
pub settled_one : (m : MediumView) (s : SiteState) (inbox held left : List Packet) (place : ℕ) (packet : Packet) (cut : CodeCut) → Stands (doc_of m) m.history s → cut ≡ s.cut
    → held ≡ filter (lacks (counts cut)) inbox → IsFirstPlace (doc_of m) m.history s.site held (Some place) → Some packet ≡ slice_get held place → left ≡ without held place
    → IsFirstReady (doc_of m) m.history s.site inbox packet left
settled_one m s inbox held left place packet cut was cut_is is found get rest =
    first_settled (doc_of m) m.history s.site inbox place packet left
    (subst (λ xs. IsFirstPlace (doc_of m) m.history s.site xs (Some place)) same found) (ap (λ xs. slice_get xs place) (sym same) ∙ sym get) (rest ∙ ap (λ xs. without xs place) same)
  where
    same : held ≡ filter (lacks (cut_of m.history s.site)) inbox
    same = is ∙ ap (λ c. filter (lacks (counts c)) inbox) cut_is ∙ (λ i. filter (lacks (λ o. was.cut o i)) inbox)

-- the same with other names
pub catches_same : (start m n : MediumView) (before s t : SiteState) (place count many : ℕ) → CatchesUp start m before s place count → n ≡ m → t ≡ s → many ≡ count → CatchesUp start n before t place many
catches_same start m n before s t place count many c same_m same_s same_count =
    subst (λ x. CatchesUp start x before t place many) (sym same_m) (subst (λ x. CatchesUp start m before x place many) (sym same_s) (subst (CatchesUp start m before s place) (sym same_count) c))

pub had_otherwise : (n m : ℕ) → ((n < m → ⊥) → ⊥) → n < m
had_otherwise n m not = by (order n m)
  where
    by : (n < m) ⊎ (m ≤ n) → n < m
    by (inl lt) = lt
    by (inr le) = absurd (not (λ lt. omega (arith, lt, le)))

pub had_if : (b : Bool) (n m : ℕ) → (IsTrue b ↔ (n < m → ⊥)) → b ≡ false → n < m
had_if b n m is off = had_otherwise n m (λ lacking. off_on b off (is.1 lacking))
  where
    off_on : (b : Bool) → b ≡ false → IsTrue b → ⊥
    off_on true off on = let e : true ≡ false = off in cc
    off_on false off on = let e : false ≡ true = on in cc
