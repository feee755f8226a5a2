-- Laws of crews.
use Rattle.std.proofs.Common.{◌≡◌, true, ◌⊎◌, inl, inr, ℕ, zero, suc, ◌+◌, ◌-◌, ◌/◌, ◌%◌, ◌<◌, ◌≤◌, List, [], ◌∷◌, ◌++◌, All, length, slice_index_or, refl, sym, ap, subst, ◌∙◌, arith}
use Rattle.std.specs.List.{Contains}
use Rattle.std.proofs.lemmas.List.Elements.{All-contains, All-contains_itself, All-head, All-push, All-tail, All-weaker, Contains-append_left, Contains-push}
use Rattle.std.proofs.lemmas.List.{get_or-map, length-map}
use Rattle.std.proofs.lemmas.Nat.{mod_below}
use Rattle.std.proofs.lemmas.Bool.{cases_eq}
use Rattle.sv_hub.specs.Extends.{Extends}
use Rattle.sv_hub.proofs.ExtendsLaws.{extends_same, extends_trans}
use Rattle.sv_core.specs.Document.{Document, document_of}
use Rattle.sv_core.specs.History.{History}
use Rattle.sv_live.specs.declared.crews.Duty.{Duty}
use Rattle.sv_live.specs.declared.crews.Duty.TheVariants.{Deliveries, Requests}
use Rattle.sv_live.specs.declared.crews.Job.{Job}
use Rattle.sv_live.specs.declared.crews.Worked.{Worked}
use Rattle.sv_live.specs.declared.offices.Office.{Office}
use Rattle.sv_live.specs.Receipts.{IsEnded, IsListedSession}
use Rattle.sv_live.specs.Crews.{AllEnded, Answers, Gathers, HasCrew, HasCrews, HasEnded, HasSeen, IsDone, IsWork, duties_in}

pub gathers_none : (doc : Document) (workers : ℕ) (duty : Duty) → Gathers doc workers duty 0 []
gathers_none doc workers duty = record {
  listed = λ k d less. absurd (omega (arith, less));
  all = λ k is most asked. absurd (omega (arith, is.from, most));
}

pub gathers_more : (doc : Document) (workers : ℕ) (duty : Duty) (first : ℕ) (sessions : List ℕ) → Gathers doc workers duty first sessions → first + 1 ≤ length doc.sessions
    → Gathers doc workers duty (first + 1) (sessions ++ (first + 1) ∷ [])
gathers_more doc workers duty first sessions g most = record {
  listed = All-push (IsListedSession doc) sessions (first + 1) g.listed (record { from = omega arith; to = most });
  all = λ k is upto asked. by k is upto asked (cases_eq k (first + 1));
}
  where
    by : (k : ℕ) → IsListedSession doc k → k ≤ first + 1 → Answers doc.sites workers duty k → (k ≡ first + 1) ⊎ (k ≡ first + 1 → ⊥) → Contains (sessions ++ (first + 1) ∷ []) k
    by k is upto asked (inl e) = subst (λ x. Contains (sessions ++ (first + 1) ∷ []) x) (sym e) (Contains-push sessions (first + 1))
    by k is upto asked (inr apart) = Contains-append_left sessions ((first + 1) ∷ []) k (g.all k is (omega (arith, upto, apart)) asked)

pub gathers_others : (doc : Document) (workers : ℕ) (duty : Duty) (first : ℕ) (sessions : List ℕ) → Gathers doc workers duty first sessions → (Answers doc.sites workers duty (first + 1) → ⊥)
    → Gathers doc workers duty (first + 1) sessions
gathers_others doc workers duty first sessions g not = record {
  listed = g.listed;
  all = λ k is upto asked. by k is upto asked (cases_eq k (first + 1));
}
  where
    by : (k : ℕ) → IsListedSession doc k → k ≤ first + 1 → Answers doc.sites workers duty k → (k ≡ first + 1) ⊎ (k ≡ first + 1 → ⊥) → Contains sessions k
    by k is upto asked (inl e) = absurd (not (subst (λ x. Answers doc.sites workers duty x) e asked))
    by k is upto asked (inr apart) = g.all k is (omega (arith, upto, apart)) asked

-- the next session was looked at: it is put behind the others where it is one of the duty's
pub gathers_next : (doc : Document) (workers : ℕ) (duty : Duty) (first : ℕ) (before after : List ℕ) → Gathers doc workers duty first before → first + 1 ≤ length doc.sessions
    → (after ≡ before ++ (first + 1) ∷ []) ⊎ ((after ≡ before) × (Answers doc.sites workers duty (first + 1) → ⊥)) → Gathers doc workers duty (first + 1) after
gathers_next doc workers duty first before after g most (inl e) = subst (Gathers doc workers duty (first + 1)) (sym e) (gathers_more doc workers duty first before g most)
gathers_next doc workers duty first before after g most (inr (e, not)) = subst (Gathers doc workers duty (first + 1)) (sym e) (gathers_others doc workers duty first before g not)

pub ruleset gathering = (gathers_none, gathers_more, gathers_others)

-- what a list contains is its first item, or is behind it
first_or_behind : (x : ℕ) (xs : List ℕ) (k : ℕ) → Contains (x ∷ xs) k → (x ≡ k) ⊎ Contains xs k
first_or_behind x xs k (zero, less, is) = inl is
first_or_behind x xs k (suc place, less, is) = inr (place, omega (arith, less), is)

moved_back : (x : ℕ) (xs : List ℕ) (k : ℕ) → Contains (x ∷ xs) k → Contains (xs ++ x ∷ []) k
moved_back x xs k c = by (first_or_behind x xs k c)
  where
    by : (x ≡ k) ⊎ Contains xs k → Contains (xs ++ x ∷ []) k
    by (inl e) = subst (Contains (xs ++ x ∷ [])) e (Contains-push xs x)
    by (inr behind) = Contains-append_left xs (x ∷ []) k behind

-- the session has ended, or is among those that are left
abbrev OneLeft : Document → History → List ℕ → ℕ → Type 0
OneLeft doc h left session = Contains left session ⊎ HasEnded doc h session

-- what is left of these sessions
pub record AreLeft (doc : Document) (sessions : List ℕ) (h : History) (left : List ℕ) : Type 0 where
  pub listed : All (IsListedSession doc) left
  pub each : All (OneLeft doc h left) sessions

-- before the first request
pub left_first : (doc : Document) (sessions : List ℕ) (h : History) → All (IsListedSession doc) sessions → AreLeft doc sessions h sessions
left_first doc sessions h listed = record {
  listed = listed;
  each = All-weaker (Contains sessions) (OneLeft doc h sessions) (λ k c. inl c) sessions (All-contains_itself sessions);
}

-- where none is left, all have ended
pub left_none : (doc : Document) (sessions : List ℕ) (h : History) → AreLeft doc sessions h [] → All (HasEnded doc h) sessions
left_none doc sessions h are = All-weaker (OneLeft doc h []) (HasEnded doc h) by sessions are.each
  where
    by : (k : ℕ) → OneLeft doc h [] k → HasEnded doc h k
    by k (inl c) = let less = c.1 in absurd (omega (arith, less))
    by k (inr e) = e

pub has_ended_still : (doc : Document) (h later : History) (session : ℕ) → Extends later h → HasEnded doc h session → HasEnded doc later session
has_ended_still doc h later session more e = record { then = e.then; extends = extends_trans more e.extends; ended = e.ended }

-- the first of them had an answer, and goes behind the others
pub left_again : (doc : Document) (sessions : List ℕ) (h later : History) (session : ℕ) (rest : List ℕ) → AreLeft doc sessions h (session ∷ rest) → Extends later h
    → AreLeft doc sessions later (rest ++ session ∷ [])
left_again doc sessions h later session rest are more = record {
  listed = All-push (IsListedSession doc) rest session (All-tail (IsListedSession doc) session rest are.listed) (All-head (IsListedSession doc) session rest are.listed);
  each = All-weaker (OneLeft doc h (session ∷ rest)) (OneLeft doc later (rest ++ session ∷ [])) by sessions are.each;
}
  where
    by : (k : ℕ) → OneLeft doc h (session ∷ rest) k → OneLeft doc later (rest ++ session ∷ []) k
    by k (inl c) = inl (moved_back session rest k c)
    by k (inr e) = inr (has_ended_still doc h later k more e)

-- the first of them has ended
pub left_ended : (doc : Document) (sessions : List ℕ) (h later : History) (session : ℕ) (rest : List ℕ) → AreLeft doc sessions h (session ∷ rest) → Extends later h
    → IsEnded doc later session → AreLeft doc sessions later rest
left_ended doc sessions h later session rest are more ended = record {
  listed = All-tail (IsListedSession doc) session rest are.listed;
  each = All-weaker (OneLeft doc h (session ∷ rest)) (OneLeft doc later rest) by sessions are.each;
}
  where
    here : HasEnded doc later session
    here = record { then = later; extends = extends_same later; ended = ended }

    at : (k : ℕ) → (session ≡ k) ⊎ Contains rest k → OneLeft doc later rest k
    at k (inl e) = inr (subst (HasEnded doc later) e here)
    at k (inr c) = inl c

    by : (k : ℕ) → OneLeft doc h (session ∷ rest) k → OneLeft doc later rest k
    by k (inl c) = at k (first_or_behind session rest k c)
    by k (inr e) = inr (has_ended_still doc h later k more e)

-- both, where the first was taken out
pub answered_one : (doc : Document) (sessions : List ℕ) (h later : History) (session : ℕ) (before rest after : List ℕ) → AreLeft doc sessions h before → before ≡ session ∷ rest
    → Extends later h → after ≡ rest ++ session ∷ [] → AreLeft doc sessions later after
answered_one doc sessions h later session before rest after are is more put =
    subst (AreLeft doc sessions later) (sym put) (left_again doc sessions h later session rest (subst (AreLeft doc sessions h) is are) more)

pub ended_one : (doc : Document) (sessions : List ℕ) (h later : History) (session : ℕ) (before rest : List ℕ) → AreLeft doc sessions h before → before ≡ session ∷ rest
    → Extends later h → IsEnded doc later session → AreLeft doc sessions later rest
ended_one doc sessions h later session before rest are is more ended = left_ended doc sessions h later session rest (subst (AreLeft doc sessions h) is are) more ended

-- where all of a worker's sessions have ended, its duty is done
pub done_where : (doc : Document) (workers : ℕ) (duty : Duty) (first : ℕ) (sessions : List ℕ) (h : History) → Gathers doc workers duty first sessions → first ≡ length doc.sessions
    → All (HasEnded doc h) sessions → IsDone doc workers h duty
done_where doc workers duty first sessions h g is all = record {
  sessions = λ k listed its. All-contains (HasEnded doc h) sessions k all (g.all k listed (omega (arith, listed.to, is)) its);
}

-- a delivery worker has no sessions
pub done_without : (doc : Document) (workers site : ℕ) (h : History) → IsDone doc workers h (Deliveries site)
done_without doc workers site h = record { sessions = λ k listed its. absurd its }

pub ruleset serving = (left_first, left_none, left_again, left_ended)

pub ruleset finishing = (done_where, done_without)

pub crew_none : (site : ℕ) (duties : List Duty) → HasCrew site 0 duties
crew_none site duties = record { all = λ worker less. absurd (omega (arith, less)) }

pub crews_none : (workers : ℕ) (duties : List Duty) → HasCrews 0 workers duties
crews_none workers duties = record { all = λ site some most. absurd (omega (arith, some, most)) }

-- a worker more of the site
pub crew_more : (site workers : ℕ) (before after : List Duty) → HasCrew site workers before → after ≡ before ++ Requests site workers ∷ [] → HasCrew site (workers + 1) after
crew_more site workers before after has is = record { all = λ worker less. subst (λ ds. Contains ds (Requests site worker)) (sym is) (by worker less (cases_eq worker workers)) }
  where
    by : (worker : ℕ) → worker < workers + 1 → (worker ≡ workers) ⊎ (worker ≡ workers → ⊥) → Contains (before ++ Requests site workers ∷ []) (Requests site worker)
    by worker less (inl e) = subst (λ w. Contains (before ++ Requests site workers ∷ []) (Requests site w)) (sym e) (Contains-push before (Requests site workers))
    by worker less (inr apart) = Contains-append_left before (Requests site workers ∷ []) (Requests site worker) (has.all worker (omega (arith, less, apart)))

-- a duty more
pub crews_stay : (sites workers : ℕ) (duty : Duty) (before after : List Duty) → HasCrews sites workers before → after ≡ before ++ duty ∷ [] → HasCrews sites workers after
crews_stay sites workers duty before after has is = record {
  all = λ site some most. record {
    all = λ worker less. subst (λ ds. Contains ds (Requests site worker)) (sym is) (Contains-append_left before (duty ∷ []) (Requests site worker) ((has.all site some most).all worker less));
  };
}

-- a site more
pub crews_more : (sites workers : ℕ) (duties : List Duty) → HasCrews sites workers duties → HasCrew (sites + 1) workers duties → HasCrews (sites + 1) workers duties
crews_more sites workers duties has crew = record { all = λ site some most. by site some most (cases_eq site (sites + 1)) }
  where
    by : (site : ℕ) → 1 ≤ site → site ≤ sites + 1 → (site ≡ sites + 1) ⊎ (site ≡ sites + 1 → ⊥) → HasCrew site workers duties
    by site some most (inl e) = subst (λ s. HasCrew s workers duties) (sym e) crew
    by site some most (inr apart) = has.all site some (omega (arith, most, apart))

pub ruleset crews = (crew_none, crews_none, crew_more, crews_stay, crews_more)

-- a worker more
pub seen_more : (h later : History) (before : List Worked) (worked : Worked) → All (HasSeen h) before → Extends later h → worked.ended ≡ true → Extends later worked.pass.seen
    → All (HasSeen later) (before ++ worked ∷ [])
seen_more h later before worked have more ended its = All-push (HasSeen later) before worked
    (All-weaker (HasSeen h) (HasSeen later) (λ w seen. record { ended = seen.ended; extends = extends_trans more seen.extends }) before have)
    (record { ended = ended; extends = its })

-- what the worker at a place of the list has done
pub record IsWorkAt (office : Office) (jobs : List Job) (place : ℕ) (worked : Worked) : Type 0 where
  pub job : Job
  pub at : (d : Job) → slice_index_or jobs place d ≡ job
  pub work : IsWork office job.duty worked

-- a worker's duty is done in a history that extends what it has seen
done_in : (office : Office) (duty : Duty) (worked : Worked) (h : History) → HasSeen h worked → IsWork office duty worked → IsDone (document_of office.hub.name) office.workers h duty
done_in office duty worked h seen work = record {
  sessions = λ k listed its. has_ended_still (document_of office.hub.name) worked.pass.seen h k seen.extends ((work.done seen.ended).sessions k listed its);
}

-- so it is with each duty for which there is a worker
done_by : (office : Office) (jobs : List Job) (worked : List Worked) (h : History) (d : Worked) → All (HasSeen h) worked → length worked ≡ length jobs
    → ((place : ℕ) (e : Worked) → place < length jobs → IsWorkAt office jobs place (slice_index_or worked place e)) → (duty : Duty) → Contains (duties_in jobs) duty
    → IsDone (document_of office.hub.name) office.workers h duty
done_by office jobs worked h d seen long each duty (place, less, is) =
    let within : place < length jobs = omega (arith, less, length-map jobs (λ (job : Job). job.duty)) in
    let here = each place d within in
    let its : here.job.duty ≡ duty = sym (ap (λ (job : Job). job.duty) (here.at here.job)) ∙ sym (get_or-map (λ (job : Job). job.duty) jobs place here.job duty within) ∙ is in
    subst (IsDone (document_of office.hub.name) office.workers h) its
    (done_in office here.job.duty (slice_index_or worked place d) h (seen place d (omega (arith, within, long))) here.work)

-- where each session has a worker, and all of them have done their duties, all sessions have ended
pub all_ended : (office : Office) (jobs : List Job) (worked : List Worked) (h : History) → office.sites ≡ office.hub.name.sites → 1 ≤ office.sites → 1 ≤ office.workers
    → HasCrews office.sites office.workers (duties_in jobs) → All (HasSeen h) worked → length worked ≡ length jobs
    → ((place : ℕ) (e : Worked) → place < length jobs → IsWorkAt office jobs place (slice_index_or worked place e)) → AllEnded (document_of office.hub.name) h
all_ended office jobs worked h sites some many crews seen long each = record { sessions = λ k listed. by worked seen long each k listed (its k) }
  where
    sites_of : ℕ → ℕ
    sites_of k = 1 + (k - 1) % office.sites

    worker_of : ℕ → ℕ
    worker_of k = (k - 1) / office.sites % office.workers

    its : (k : ℕ) → Contains (duties_in jobs) (Requests (sites_of k) (worker_of k))
    its k =
        let site : (k - 1) % office.sites < office.sites = mod_below (k - 1) office.sites some in
        (crews.all (sites_of k) (omega arith) (omega (arith, site))).all (worker_of k) (mod_below ((k - 1) / office.sites) office.workers many)

    answers : (k : ℕ) → Answers office.hub.name.sites office.workers (Requests (sites_of k) (worker_of k)) k
    answers k = subst (λ s. Answers s office.workers (Requests (sites_of k) (worker_of k)) k) sites (refl, refl)

    by : (ws : List Worked) → All (HasSeen h) ws → length ws ≡ length jobs → ((place : ℕ) (e : Worked) → place < length jobs → IsWorkAt office jobs place (slice_index_or ws place e))
        → (k : ℕ) → IsListedSession (document_of office.hub.name) k → Contains (duties_in jobs) (Requests (sites_of k) (worker_of k)) → HasEnded (document_of office.hub.name) h k
    by [] seen long each k listed (place, less, is) = absurd (omega (arith, less, long, length-map jobs (λ (job : Job). job.duty)))
    by (w ∷ ws) seen long each k listed c =
        (done_by office jobs (w ∷ ws) h w seen long each (Requests (sites_of k) (worker_of k)) c).sessions k listed (answers k)
