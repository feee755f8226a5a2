-- What a legal history has done of the items that the document lists: each answer was a session's next call and each move its next sending, so no session has more
-- of them than its items have, and while a session has a call left that doesn't wait, a further request may be answered.
use Rattle.std.proofs.Common.{◌≡◌, ◌≢◌, ◌⊎◌, inl, inr, ℕ, zero, suc, ◌+◌, ◌-◌, ◌<◌, ◌≤◌, ◌&&◌, if◌then◌else◌, Bool, true, false, List, [], ◌∷◌, ◌++◌, length, take, get_or, Option, Some, None, slice_get, refl, sym, ap, subst, ◌∙◌, arith}
use Rattle.std.specs.Prelude.{IfSome}
use Rattle.std.proofs.lemmas.Bool.{cases_eq}
use Rattle.std.proofs.lemmas.List.{length-take-le, take_all}
use Rattle.sv_app.specs.declared.requests.Request.{Request}
use Rattle.sv_app.proofs.AcceptedLaws.{all_at}
use Rattle.sv_app.proofs.TestLaws.{same_test, other_test}
use Rattle.sv_hub.specs.Extends.{Extends}
use Rattle.sv_core.specs.declared.docs.Item.{Item}
use Rattle.sv_core.specs.declared.docs.Item.TheVariants.{Call, Go}
use Rattle.sv_core.specs.declared.entries.Entry.{Entry}
use Rattle.sv_core.specs.declared.entries.Entry.TheVariants.{Answer, Apply, Move}
use Rattle.sv_core.specs.declared.prepared.Prepared.{Prepared}
use Rattle.sv_core.specs.Document.{Document}
use Rattle.sv_core.specs.History.{History, answered, answers, count_where, is_answer, is_move, is_of, item_of, items_of, moved, moves, site_of}
use Rattle.sv_core.specs.Legal.{IsListed, IsSession, Legal}
use Rattle.sv_core.specs.Made.{IsListedAt, Made, calls_of}
use Rattle.sv_core.specs.Mediums.{AreNextCalls, IsNextCall, MediumView, Proposal, doc_of, how_many_pending, one_if, proposal_of}
use Rattle.sv_core.specs.MediumState.{CanCommit, IsAwaited}
use Rattle.sv_core.specs.Sound.{ItemFits, Sound, calls_in, gos_in, total}
use Rattle.sv_core.proofs.ListLaws.{get_within}
use Rattle.sv_core.proofs.SumLaws.{sum_below, sum_below-one, sum_below-same, sum_below-zero}

-- how many calls the first items have, with one item more
call_more : (items : List Item) (n : ℕ) (request : Request) → slice_get items n ≡ Some (Call request) → calls_in (take (suc n) items) ≡ suc (calls_in (take n items))
call_more [] n request is = absurd cc
call_more (Call r ∷ items) zero request is = omega arith
call_more (Go s ∷ items) zero request is = absurd cc
call_more (Call r ∷ items) (suc n) request is =
    let ih : calls_in (take (suc n) items) ≡ suc (calls_in (take n items)) = call_more items n request is in omega (arith, ih)
call_more (Go s ∷ items) (suc n) request is = call_more items n request is

go_more : (items : List Item) (n site : ℕ) → slice_get items n ≡ Some (Go site) → calls_in (take (suc n) items) ≡ calls_in (take n items)
go_more [] n site is = absurd cc
go_more (Call r ∷ items) zero site is = absurd cc
go_more (Go s ∷ items) zero site is = refl
go_more (Call r ∷ items) (suc n) site is =
    let ih : calls_in (take (suc n) items) ≡ calls_in (take n items) = go_more items n site is in omega (arith, ih)
go_more (Go s ∷ items) (suc n) site is = go_more items n site is

-- a session's first items, those that were answered or moved by, have as many calls as were answered
pub calls_answered : (doc : Document) (h : History) (k : ℕ) → doc.sessions ≢ [] → Legal doc h → calls_in (take (answered h k + moved h k) (items_of doc k)) ≡ answered h k
calls_answered doc [] k some legal = refl
calls_answered doc (Answer session index request site at reply label packet ∷ h) k some legal = by (cases_eq k session) (calls_answered doc h k some legal.1)
  where
    by : (k ≡ session) ⊎ (k ≡ session → ⊥) → calls_in (take (answered h k + moved h k) (items_of doc k)) ≡ answered h k
        → calls_in (take (answered (Answer session index request site at reply label packet ∷ h) k + moved (Answer session index request site at reply label packet ∷ h) k) (items_of doc k))
        ≡ answered (Answer session index request site at reply label packet ∷ h) k
    by (inl is) ih = rw (same_test k session is)
        (let item : item_of doc h k ≡ Some (Call request) = subst (λ x. item_of doc h x ≡ Some (Call request)) (sym is) (legal.0.asked.listed some) in
        let up : suc (answered h k) + moved h k ≡ suc (answered h k + moved h k) = omega arith in
        ap (λ n. calls_in (take n (items_of doc k))) up ∙ call_more (items_of doc k) (answered h k + moved h k) request item ∙ ap suc ih)
    by (inr apart) ih = rw (other_test k session apart) ih
calls_answered doc (Apply site packet ∷ h) k some legal = calls_answered doc h k some legal.1
calls_answered doc (Move session site ∷ h) k some legal = by (cases_eq k session) (calls_answered doc h k some legal.1)
  where
    by : (k ≡ session) ⊎ (k ≡ session → ⊥) → calls_in (take (answered h k + moved h k) (items_of doc k)) ≡ answered h k
        → calls_in (take (answered (Move session site ∷ h) k + moved (Move session site ∷ h) k) (items_of doc k)) ≡ answered (Move session site ∷ h) k
    by (inl is) ih = rw (same_test k session is)
        (let item : item_of doc h k ≡ Some (Go site) = subst (λ x. item_of doc h x ≡ Some (Go site)) (sym is) (legal.0.listed some) in
        let up : answered h k + suc (moved h k) ≡ suc (answered h k + moved h k) = omega arith in
        ap (λ n. calls_in (take n (items_of doc k))) up ∙ go_more (items_of doc k) (answered h k + moved h k) site item ∙ ih)
    by (inr apart) ih = rw (other_test k session apart) ih

-- an item that is a call stands among the calls behind those before it
call_at : (items : List Item) (n : ℕ) (request : Request) → slice_get items n ≡ Some (Call request) → slice_get (calls_of items) (calls_in (take n items)) ≡ Some (Call request)
call_at [] n request is = absurd cc
call_at (Call r ∷ items) zero request is = is
call_at (Go s ∷ items) zero request is = absurd cc
call_at (Call r ∷ items) (suc n) request is =
    let up : 1 + calls_in (take n items) ≡ suc (calls_in (take n items)) = omega arith in
    ap (slice_get (Call r ∷ calls_of items)) up ∙ call_at items n request is
call_at (Go s ∷ items) (suc n) request is = call_at items n request is

-- the request that is the session's next item is its call of the number of its next answer
pub listed_at : (doc : Document) (h : History) (session index : ℕ) (request : Request) → Legal doc h → index ≡ answered h session → IsListed doc h session (Call request)
    → IsListedAt doc session index request
listed_at doc h session index request legal next listed some =
    ap (slice_get (calls_of (items_of doc session))) (next ∙ sym (calls_answered doc h session some legal))
    ∙ call_at (items_of doc session) (answered h session + moved h session) request (listed some)

pub call_listed : (doc : Document) (h : History) (session : ℕ) (request : Request) → Legal doc h → item_of doc h session ≡ Some (Call request)
    → IsListedAt doc session (answered h session) request
call_listed doc h session request legal is = listed_at doc h session (answered h session) request legal refl (λ some. is)

-- no session has more answers and moves than items
pub items_done : (doc : Document) (h : History) (k : ℕ) → Legal doc h → doc.sessions ≢ [] → answered h k + moved h k ≤ length (items_of doc k)
items_done doc [] k legal some = omega arith
items_done doc (Answer session index request site at reply label packet ∷ h) k legal some = by (cases_eq k session) (items_done doc h k legal.1 some)
  where
    by : (k ≡ session) ⊎ (k ≡ session → ⊥) → answered h k + moved h k ≤ length (items_of doc k)
        → answered (Answer session index request site at reply label packet ∷ h) k + moved (Answer session index request site at reply label packet ∷ h) k ≤ length (items_of doc k)
    by (inl is) ih = rw (same_test k session is)
        (let within : answered h k + moved h k < length (items_of doc k) =
        get_within (items_of doc k) (answered h k + moved h k) (Call request) (subst (λ x. item_of doc h x ≡ Some (Call request)) (sym is) (legal.0.asked.listed some)) in
        omega (arith, within))
    by (inr apart) ih = rw (other_test k session apart) ih
items_done doc (Apply site packet ∷ h) k legal some = items_done doc h k legal.1 some
items_done doc (Move session site ∷ h) k legal some = by (cases_eq k session) (items_done doc h k legal.1 some)
  where
    by : (k ≡ session) ⊎ (k ≡ session → ⊥) → answered h k + moved h k ≤ length (items_of doc k)
        → answered (Move session site ∷ h) k + moved (Move session site ∷ h) k ≤ length (items_of doc k)
    by (inl is) ih = rw (same_test k session is)
        (let within : answered h k + moved h k < length (items_of doc k) =
        get_within (items_of doc k) (answered h k + moved h k) (Go site) (subst (λ x. item_of doc h x ≡ Some (Go site)) (sym is) (legal.0.listed some)) in
        omega (arith, within))
    by (inr apart) ih = rw (other_test k session apart) ih

-- a session's next item fits the document
pub item_fits : (doc : Document) (h : History) (session : ℕ) (item : Item) → Sound doc → doc.sessions ≢ [] → session ≤ length doc.sessions → 1 ≤ session → item_of doc h session ≡ Some item
    → ItemFits doc item
item_fits doc h session item sound some to from is =
    all_at (ItemFits doc) (items_of doc session) (answered h session + moved h session) item (sound.items (session - 1) [] (omega (arith, to, from))) is

-- counts grow with the history
count_grows : (p : Entry → Bool) (more h : History) → count_where p h ≤ count_where p (more ++ h)
count_grows p [] h = omega arith
count_grows p (e ∷ more) h = step (p e) (count_grows p more h)
  where
    step : (b : Bool) → count_where p h ≤ count_where p (more ++ h) → count_where p h ≤ (if b then suc (count_where p (more ++ h)) else count_where p (more ++ h))
    step true ih = omega (arith, ih)
    step false ih = ih

pub record CountsGrow (h later : History) (k : ℕ) : Type 0 where
  pub answered : answered h k ≤ answered later k
  pub moved : moved h k ≤ moved later k

pub counts_grow : (h later : History) (k : ℕ) → Extends later h → CountsGrow h later k
counts_grow h later k grown = record {
  answered = subst (λ l. answered h k ≤ answered l k) (sym grown.is) (count_grows (λ e. is_answer e && is_of k e) grown.more h);
  moved = subst (λ l. moved h k ≤ moved l k) (sym grown.is) (count_grows (λ e. is_move e && is_of k e) grown.more h);
}

-- a session that has ended, with all its calls answered, stays ended
pub record HasEnded (doc : Document) (h : History) (k : ℕ) : Type 0 where
  pub all : answered h k + moved h k ≡ length (items_of doc k)
  pub calls : answered h k ≡ calls_in (items_of doc k)

pub has_ended : (doc : Document) (h : History) (k : ℕ) → Legal doc h → doc.sessions ≢ [] → item_of doc h k ≡ None → HasEnded doc h k
has_ended doc h k legal some none = record { all = all; calls = sym (calls_answered doc h k some legal) ∙ ap calls_in (take_all (answered h k + moved h k) (items_of doc k) (omega (arith, all))) }
  where
    past : (items : List Item) (n : ℕ) → slice_get items n ≡ None → length items ≤ n
    past [] n e = omega arith
    past (item ∷ items) zero e = absurd cc
    past (item ∷ items) (suc n) e = let ih : length items ≤ n = past items n e in omega (arith, ih)

    all : answered h k + moved h k ≡ length (items_of doc k)
    all = let most : answered h k + moved h k ≤ length (items_of doc k) = items_done doc h k legal some in
        let least : length (items_of doc k) ≤ answered h k + moved h k = past (items_of doc k) (answered h k + moved h k) none in
        omega (arith, most, least)

pub stays_ended : (doc : Document) (h later : History) (k : ℕ) → Legal doc later → doc.sessions ≢ [] → Extends later h → HasEnded doc h k → HasEnded doc later k
stays_ended doc h later k legal some grown ended =
    let grow : CountsGrow h later k = counts_grow h later k grown in
    let most : answered later k + moved later k ≤ length (items_of doc k) = items_done doc later k legal some in
    let a = ended.all in let g = grow.answered in let m = grow.moved in
    let same : answered later k ≡ answered h k = omega (arith, most, a, g, m) in
    record { all = omega (arith, most, a, g, m); calls = same ∙ ended.calls }

-- calls and sendings are all items
parts : (items : List Item) → calls_in items + gos_in items ≡ length items
parts [] = refl
parts (Call request ∷ items) = let ih : calls_in items + gos_in items ≡ length items = parts items in omega (arith, ih)
parts (Go site ∷ items) = let ih : calls_in items + gos_in items ≡ length items = parts items in omega (arith, ih)

-- the first items have no more of either than all
record AreFew (n : ℕ) (items : List Item) : Type 0 where
  calls : calls_in (take n items) ≤ calls_in items
  gos : gos_in (take n items) ≤ gos_in items

few : (n : ℕ) (items : List Item) → AreFew n items
few zero items = record { calls = omega arith; gos = omega arith }
few (suc n) [] = record { calls = omega arith; gos = omega arith }
few (suc n) (Call request ∷ items) = let ih : AreFew n items = few n items in record { calls = omega (arith, ih.calls); gos = ih.gos }
few (suc n) (Go site ∷ items) = let ih : AreFew n items = few n items in record { calls = ih.calls; gos = omega (arith, ih.gos) }

-- what is answered of a session's calls, and moved of its sendings
record AreWithin (doc : Document) (h : History) (k : ℕ) : Type 0 where
  calls : answered h k ≤ calls_in (items_of doc k)
  gos : moved h k ≤ gos_in (items_of doc k)

within_items : (doc : Document) (h : History) (k : ℕ) → Legal doc h → doc.sessions ≢ [] → AreWithin doc h k
within_items doc h k legal some =
    let done : answered h k + moved h k ≤ length (items_of doc k) = items_done doc h k legal some in
    let is : calls_in (take (answered h k + moved h k) (items_of doc k)) ≡ answered h k = calls_answered doc h k some legal in
    let both : calls_in (take (answered h k + moved h k) (items_of doc k)) + gos_in (take (answered h k + moved h k) (items_of doc k))
    ≡ length (take (answered h k + moved h k) (items_of doc k)) = parts (take (answered h k + moved h k) (items_of doc k)) in
    let long : length (take (answered h k + moved h k) (items_of doc k)) ≡ answered h k + moved h k = length-take-le (answered h k + moved h k) (items_of doc k) done in
    let most : AreFew (answered h k + moved h k) (items_of doc k) = few (answered h k + moved h k) (items_of doc k) in
    record { calls = omega (arith, is, most.calls); gos = omega (arith, is, both, long, most.gos) }

-- a session with a call left has fewer answers than calls, and one with a sending left fewer moves
call_left : (doc : Document) (h : History) (k : ℕ) (request : Request) → Legal doc h → doc.sessions ≢ [] → item_of doc h k ≡ Some (Call request) → answered h k < calls_in (items_of doc k)
call_left doc h k request legal some item =
    let is : calls_in (take (answered h k + moved h k) (items_of doc k)) ≡ answered h k = calls_answered doc h k some legal in
    let more : calls_in (take (suc (answered h k + moved h k)) (items_of doc k)) ≡ suc (calls_in (take (answered h k + moved h k) (items_of doc k))) =
    call_more (items_of doc k) (answered h k + moved h k) request item in
    let most : AreFew (suc (answered h k + moved h k)) (items_of doc k) = few (suc (answered h k + moved h k)) (items_of doc k) in
    omega (arith, is, more, most.calls)

go_left : (doc : Document) (h : History) (k site : ℕ) → Legal doc h → doc.sessions ≢ [] → item_of doc h k ≡ Some (Go site) → moved h k < gos_in (items_of doc k)
go_left doc h k site legal some item =
    let inside : answered h k + moved h k < length (items_of doc k) = get_within (items_of doc k) (answered h k + moved h k) (Go site) item in
    let is : calls_in (take (answered h k + moved h k) (items_of doc k)) ≡ answered h k = calls_answered doc h k some legal in
    let more : calls_in (take (suc (answered h k + moved h k)) (items_of doc k)) ≡ calls_in (take (answered h k + moved h k) (items_of doc k)) =
    go_more (items_of doc k) (answered h k + moved h k) site item in
    let both : calls_in (take (suc (answered h k + moved h k)) (items_of doc k)) + gos_in (take (suc (answered h k + moved h k)) (items_of doc k))
    ≡ length (take (suc (answered h k + moved h k)) (items_of doc k)) = parts (take (suc (answered h k + moved h k)) (items_of doc k)) in
    let long : length (take (suc (answered h k + moved h k)) (items_of doc k)) ≡ suc (answered h k + moved h k) =
    length-take-le (suc (answered h k + moved h k)) (items_of doc k) (omega (arith, inside)) in
    let most : AreFew (suc (answered h k + moved h k)) (items_of doc k) = few (suc (answered h k + moved h k)) (items_of doc k) in
    omega (arith, is, more, both, long, most.gos)

-- sums of one number for each session
sum_within : (f g : ℕ → ℕ) (n : ℕ) → ((k : ℕ) → k < n → f k ≤ g k) → sum_below f n ≤ sum_below g n
unfolding sum_below
sum_within f g zero le = omega arith
sum_within f g (suc n) le =
    let a : sum_below f n ≤ sum_below g n = sum_within f g n (λ k lt. le k (omega (arith, lt))) in let b : f n ≤ g n = le n (omega arith) in omega (arith, a, b)

sum_less : (f g : ℕ → ℕ) (n k : ℕ) → k < n → ((j : ℕ) → j < n → f j ≤ g j) → f k < g k → sum_below f n < sum_below g n
unfolding sum_below
sum_less f g zero k lt le less = absurd (omega (arith, lt))
sum_less f g (suc n) k lt le less = by (cases_eq k n) (λ below. sum_less f g n k below (λ j small. le j (omega (arith, small))) less)
  where
    by : (k ≡ n) ⊎ (k ≡ n → ⊥) → (k < n → sum_below f n < sum_below g n) → sum_below f n + f n < sum_below g n + g n
    by (inl is) ih =
        let a : sum_below f n ≤ sum_below g n = sum_within f g n (λ j small. le j (omega (arith, small))) in
        let b : f n < g n = subst (λ x. f x < g x) is less in
        omega (arith, a, b)
    by (inr apart) ih =
        let a : sum_below f n < sum_below g n = ih (omega (arith, lt, apart)) in
        let b : f n ≤ g n = le n (omega arith) in
        omega (arith, a, b)

sum_both : (f g : ℕ → ℕ) (n : ℕ) → sum_below (λ k. f k + g k) n ≡ sum_below f n + sum_below g n
unfolding sum_below
sum_both f g zero = refl
sum_both f g (suc n) = let ih : sum_below (λ k. f k + g k) n ≡ sum_below f n + sum_below g n = sum_both f g n in omega (arith, ih)

-- the first part stands alone
sum_front : (f : ℕ → ℕ) (n : ℕ) → sum_below f (suc n) ≡ f 0 + sum_below (λ k. f (suc k)) n
unfolding sum_below
sum_front f zero = omega arith
sum_front f (suc n) = let ih : sum_below f (suc n) ≡ f 0 + sum_below (λ k. f (suc k)) n = sum_front f n in omega (arith, ih)

pending_sum : (ps : List (Option Proposal)) → how_many_pending ps ≡ sum_below (λ k. one_if (get_or ps k None)) (length ps)
pending_sum [] = sym (sum_below-zero (λ k. one_if (get_or [] k None)) 0 (λ k. refl))
pending_sum (p ∷ ps) =
    ap (λ n. one_if p + n) (pending_sum ps) ∙ sym (sum_front (λ k. one_if (get_or (p ∷ ps) k None)) (length ps))

total_sum : (count : List Item → ℕ) → count [] ≡ 0 → (sessions : List (List Item)) (n : ℕ) → length sessions ≤ n → total count sessions ≡ sum_below (λ k. count (get_or sessions k [])) n
total_sum count none [] n le = sym (sum_below-zero (λ k. count (get_or [] k [])) n (λ k. none))
total_sum count none (items ∷ sessions) zero le = absurd (omega (arith, le))
total_sum count none (items ∷ sessions) (suc n) le =
    ap (λ x. count items + x) (total_sum count none sessions n (omega (arith, le))) ∙ sym (sum_front (λ k. count (get_or (items ∷ sessions) k [])) n)

-- the answers are those of the sessions
answers_sum : (doc : Document) (h : History) → Legal doc h → answers h ≡ sum_below (λ k. answered h (suc k)) 64
answers_sum doc [] legal = sym (sum_below-zero (λ k. 0) 64 (λ k. refl))
answers_sum doc (Answer session index request site at reply label packet ∷ h) legal =
    let ih : answers h ≡ sum_below (λ k. answered h (suc k)) 64 = answers_sum doc h legal.1 in
    let who : IsSession session = legal.0.asked.who in
    let same : suc (session - 1) ≡ session = omega (arith, who.from) in
    let one : sum_below (λ k. answered (Answer session index request site at reply label packet ∷ h) (suc k)) 64 ≡ sum_below (λ k. answered h (suc k)) 64 + 1 =
    sum_below-one (λ k. answered h (suc k)) (λ k. answered (Answer session index request site at reply label packet ∷ h) (suc k)) 64 (session - 1) 1 (omega (arith, who.from, who.to))
    (ap (λ b. if b then suc (answered h (suc (session - 1))) else answered h (suc (session - 1))) (same_test (suc (session - 1)) session same) ∙ omega arith)
    (λ j apart. ap (λ b. if b then suc (answered h (suc j)) else answered h (suc j)) (other_test (suc j) session (λ is. apart (omega (arith, is))))) in
    omega (arith, ih, one)
answers_sum doc (Apply site packet ∷ h) legal = answers_sum doc h legal.1
answers_sum doc (Move session site ∷ h) legal = answers_sum doc h legal.1

moves_sum : (doc : Document) (h : History) → Legal doc h → moves h ≡ sum_below (λ k. moved h (suc k)) 64
moves_sum doc [] legal = sym (sum_below-zero (λ k. 0) 64 (λ k. refl))
moves_sum doc (Answer session index request site at reply label packet ∷ h) legal = moves_sum doc h legal.1
moves_sum doc (Apply site packet ∷ h) legal = moves_sum doc h legal.1
moves_sum doc (Move session site ∷ h) legal =
    let ih : moves h ≡ sum_below (λ k. moved h (suc k)) 64 = moves_sum doc h legal.1 in
    let who : IsSession session = legal.0.who in
    let same : suc (session - 1) ≡ session = omega (arith, who.from) in
    let one : sum_below (λ k. moved (Move session site ∷ h) (suc k)) 64 ≡ sum_below (λ k. moved h (suc k)) 64 + 1 =
    sum_below-one (λ k. moved h (suc k)) (λ k. moved (Move session site ∷ h) (suc k)) 64 (session - 1) 1 (omega (arith, who.from, who.to))
    (ap (λ b. if b then suc (moved h (suc (session - 1))) else moved h (suc (session - 1))) (same_test (suc (session - 1)) session same) ∙ omega arith)
    (λ j apart. ap (λ b. if b then suc (moved h (suc j)) else moved h (suc j)) (other_test (suc j) session (λ is. apart (omega (arith, is))))) in
    omega (arith, ih, one)

-- some session is listed
listed_some : (sessions : List (List Item)) (session : ℕ) → 1 ≤ session → session ≤ length sessions → sessions ≢ []
listed_some [] session from to = absurd (omega (arith, from, to))
listed_some (items ∷ sessions) session from to = λ e. absurd cc

-- with the operation that waits, a session has no more than its calls
waits_within : (m : MediumView) (k : ℕ) → Legal (doc_of m) m.history → (doc_of m).sessions ≢ [] → (p : Option Proposal) → IfSome p (λ proposal. IsNextCall m k proposal)
    → answered m.history k + one_if p ≤ calls_in (items_of (doc_of m) k)
waits_within m k legal some None is = let w : AreWithin (doc_of m) m.history k = within_items (doc_of m) m.history k legal some in omega (arith, w.calls)
waits_within m k legal some (Some proposal) is =
    let left : answered m.history k < calls_in (items_of (doc_of m) k) = call_left (doc_of m) m.history k proposal.request legal some (is.listed some) in
    omega (arith, left)

-- a session whose next item is a call that doesn't wait leaves room for a further request
pub call_awaited : (m : MediumView) (session : ℕ) (request : Request) → Sound (doc_of m) → Legal (doc_of m) m.history → AreNextCalls m → 1 ≤ session
    → session ≤ length (doc_of m).sessions → proposal_of m session ≡ None → item_of (doc_of m) m.history session ≡ Some (Call request) → IsAwaited m
call_awaited m session request sound legal nexts from to none item = omega (arith, sums, less, all, pending, asks, both)
  where
    some : (doc_of m).sessions ≢ []
    some = listed_some (doc_of m).sessions session from to

    few_sessions : session ≤ 64
    few_sessions = let most = sound.sessions in omega (arith, most, to)

    -- of each session, by its place
    done : ℕ → ℕ
    done k = answered m.history (suc k)

    waits : ℕ → ℕ
    waits k = one_if (get_or m.proposals k None)

    calls : ℕ → ℕ
    calls k = calls_in (get_or (doc_of m).sessions k [])

    at_place : (k : ℕ) → suc k - 1 ≡ k
    at_place k = omega arith

    each : (k : ℕ) → k < 64 → done k + waits k ≤ calls k
    each k lt =
        subst (λ x. done k + one_if (get_or m.proposals x None) ≤ calls_in (get_or (doc_of m).sessions x [])) (at_place k)
        (waits_within m (suc k) legal some (proposal_of m (suc k)) (nexts.each (suc k) (record { from = omega arith; to = omega (arith, lt) })))

    here : done (session - 1) + waits (session - 1) < calls (session - 1)
    here =
        let left : answered m.history session < calls_in (items_of (doc_of m) session) = call_left (doc_of m) m.history session request legal some item in
        let same : answered m.history (suc (session - 1)) ≡ answered m.history session = ap (answered m.history) (omega (arith, from)) in
        let zero_waits : one_if (get_or m.proposals (session - 1) None) ≡ 0 = ap one_if none in
        omega (arith, left, same, zero_waits)

    less : sum_below (λ k. done k + waits k) 64 < sum_below calls 64
    less = sum_less (λ k. done k + waits k) calls 64 (session - 1) (omega (arith, from, few_sessions)) each here

    both : sum_below (λ k. done k + waits k) 64 ≡ sum_below done 64 + sum_below waits 64
    both = sum_both done waits 64

    all : answers m.history ≡ sum_below done 64
    all = answers_sum (doc_of m) m.history legal

    pending : how_many_pending m.proposals ≡ sum_below waits 64
    pending = pending_sum m.proposals ∙ ap (sum_below waits) nexts.long

    sums : total calls_in (doc_of m).sessions ≡ sum_below calls 64
    sums = total_sum calls_in refl (doc_of m).sessions 64 (let most = sound.sessions in omega (arith, most))

    asks : (doc_of m).asks ≡ total calls_in (doc_of m).sessions
    asks = sound.calls some

-- a session whose next item is a sending leaves room for a further move
pub go_awaited : (m : MediumView) (session site : ℕ) → Sound (doc_of m) → Legal (doc_of m) m.history → 1 ≤ session → session ≤ length (doc_of m).sessions
    → item_of (doc_of m) m.history session ≡ Some (Go site) → moves m.history < (doc_of m).moves
go_awaited m session site sound legal from to item = omega (arith, sums, less, all, gos_are)
  where
    some : (doc_of m).sessions ≢ []
    some = listed_some (doc_of m).sessions session from to

    few_sessions : session ≤ 64
    few_sessions = let most = sound.sessions in omega (arith, most, to)

    done : ℕ → ℕ
    done k = moved m.history (suc k)

    gos : ℕ → ℕ
    gos k = gos_in (get_or (doc_of m).sessions k [])

    at_place : (k : ℕ) → suc k - 1 ≡ k
    at_place k = omega arith

    each : (k : ℕ) → k < 64 → done k ≤ gos k
    each k lt =
        let w : AreWithin (doc_of m) m.history (suc k) = within_items (doc_of m) m.history (suc k) legal some in
        subst (λ x. done k ≤ gos_in (get_or (doc_of m).sessions x [])) (at_place k) w.gos

    here : done (session - 1) < gos (session - 1)
    here =
        let left : moved m.history session < gos_in (items_of (doc_of m) session) = go_left (doc_of m) m.history session site legal some item in
        let same : moved m.history (suc (session - 1)) ≡ moved m.history session = ap (moved m.history) (omega (arith, from)) in
        omega (arith, left, same)

    less : sum_below done 64 < sum_below gos 64
    less = sum_less done gos 64 (session - 1) (omega (arith, from, few_sessions)) each here

    all : moves m.history ≡ sum_below done 64
    all = moves_sum (doc_of m) m.history legal

    sums : total gos_in (doc_of m).sessions ≡ sum_below gos 64
    sums = total_sum gos_in refl (doc_of m).sessions 64 (let most = sound.sessions in omega (arith, most))

    gos_are : (doc_of m).moves ≡ total gos_in (doc_of m).sessions
    gos_are = sound.gos some

-- what was prepared for a session's call may be committed while the session is where it was, and has moved as often
pub can_commit : (m : MediumView) (p : Prepared) (gone : ℕ) → Sound (doc_of m) → Legal (doc_of m) m.history → AreNextCalls m → Made (doc_of m) p
    → p.session ≤ length (doc_of m).sessions → p.site ≡ site_of (doc_of m) m.history p.session → moved m.history p.session ≡ gone
    → slice_get (items_of (doc_of m) p.session) (p.index + gone) ≡ Some (Call p.request) → CanCommit m p
can_commit m p gone sound legal nexts made to lives moved_is stands = record {
  made = made;
  lives = lives;
  listed = λ next some. item next;
  awaited = λ free. call_awaited m p.session p.request sound legal nexts made.who.from to free.none (item free.next);
}
  where
    item : p.index ≡ answered m.history p.session → item_of (doc_of m) m.history p.session ≡ Some (Call p.request)
    item next = (λ i. slice_get (items_of (doc_of m) p.session) (sym next i + moved_is i)) ∙ stands
