-- Which worker answers which session, and what workers have done.
use Rattle.std.specs.Prelude.{◌≡◌, ◌≤◌, ◌<◌, ℕ, ◌+◌, ◌-◌, ◌/◌, ◌%◌, true, List, All, map, length}
use Rattle.std.specs.List.{Contains}
use Rattle.sv_hub.specs.Extends.{Extends}
use Rattle.sv_hub.specs.Sight.{Belongs}
use Rattle.sv_post.specs.Sight.{Belongs as IsPassOf}
use Rattle.sv_core.specs.Document.{Document, document_of}
use Rattle.sv_core.specs.History.{History}
use Rattle.sv_core.specs.Sound.{IsSite}
use Rattle.sv_live.specs.Receipts.{IsEnded, IsListedSession}
use Rattle.sv_live.specs.declared.crews.Duty.{Duty}
use Rattle.sv_live.specs.declared.crews.Duty.TheVariants.{Requests, Deliveries}
use Rattle.sv_live.specs.declared.crews.Job.{Job}
use Rattle.sv_live.specs.declared.offices.Office.{Office}
use Rattle.sv_live.specs.declared.crews.Plan.{Plan}
use Rattle.sv_live.specs.declared.crews.Worked.{Worked}
use Rattle.sv_live.specs.declared.offices.Passes.{Passes}

-- a session is answered by a worker of the site at which it begins; the sessions of a site go to its workers in turn
abbrev pub Answers : ℕ → ℕ → Duty → ℕ → Type 0
Answers sites workers (Requests site worker) session = (site ≡ 1 + (session - 1) % sites) × (worker ≡ (session - 1) / sites % workers)
Answers sites workers (Deliveries site) session = ⊥

-- these are the sessions of the duty among the first ones that the document lists
pub record Gathers (doc : Document) (workers : ℕ) (duty : Duty) (first : ℕ) (sessions : List ℕ) : Type 0 where
  pub listed : All (IsListedSession doc) sessions
  pub all : (session : ℕ) → IsListedSession doc session → session ≤ first → Answers doc.sites workers duty session → Contains sessions session

-- the history extends one in which all items of the session were done
pub record HasEnded (doc : Document) (h : History) (session : ℕ) : Type 0 where
  pub then : History
  pub extends : Extends h then
  pub ended : IsEnded doc then session

-- so it is with all sessions of this duty
pub record IsDone (doc : Document) (workers : ℕ) (h : History) (duty : Duty) : Type 0 where
  pub sessions : (session : ℕ) → IsListedSession doc session → Answers doc.sites workers duty session → HasEnded doc h session

-- and with all sessions that the document lists
pub record AllEnded (doc : Document) (h : History) : Type 0 where
  pub sessions : (session : ℕ) → IsListedSession doc session → HasEnded doc h session

abbrev pub site_in : Duty → ℕ
site_in (Requests site worker) = site
site_in (Deliveries site) = site

-- the passes are those of the office
pub record AreOf (office : Office) (passes : Passes) : Type 0 where
  pub world : Belongs office.hub passes.world
  pub mail : IsPassOf office.post passes.mail

-- and the duty's site is one of the document's
pub record IsJobOf (office : Office) (job : Job) : Type 0 where
  pub passes : AreOf office job.passes
  pub site : IsSite (document_of office.hub.name) (site_in job.duty)

-- what a worker gives back: its pass, and if it tells that its sessions ended, they have
pub record IsWork (office : Office) (duty : Duty) (worked : Worked) : Type 0 where
  pub pass : Belongs office.hub worked.pass
  pub done : worked.ended ≡ true → IsDone (document_of office.hub.name) office.workers worked.pass.seen duty

pub record IsPlanOf (office : Office) (plan : Plan) : Type 0 where
  pub passes : AreOf office plan.passes
  pub jobs : All (IsJobOf office) plan.jobs.items

abbrev pub duties_in : List Job → List Duty
duties_in jobs = map (λ job. job.duty) jobs

-- there are so many workers for the requests of the site
pub record HasCrew (site workers : ℕ) (duties : List Duty) : Type 0 where
  pub all : (worker : ℕ) → worker < workers → Contains duties (Requests site worker)

-- and so for each of so many sites
pub record HasCrews (sites workers : ℕ) (duties : List Duty) : Type 0 where
  pub all : (site : ℕ) → 1 ≤ site → site ≤ sites → HasCrew site workers duties

-- the worker's sessions ended, and the history extends what it has seen
pub record HasSeen (h : History) (worked : Worked) : Type 0 where
  pub ended : worked.ended ≡ true
  pub extends : Extends h worked.pass.seen
