-- What was found of an entry: it isn't the next one; it is, and publishes nothing; or it is, and publishes this operation.
use Rattle.std.specs.Prelude.{◌≡◌, ℕ, List, [], map, Option, Some, None}
use Rattle.sv_value.specs.Cuts.{origin}
use Rattle.sv_app.specs.declared.requests.Request.{Request}
use Rattle.sv_effect.specs.declared.ops.Op.{Op}
use Rattle.sv_effect.specs.declared.ops.RowEffect.{RowEffect}
use Rattle.sv_effect.specs.BareTables.{bare}
use Rattle.sv_effect.specs.Cut.{as_deps}
use Rattle.sv_effect.specs.RunChanges.{effect_of}
use Rattle.sv_core.specs.declared.entries.Entry.{Entry}
use Rattle.sv_core.specs.declared.prepared.Prepared.{Prepared}
use Rattle.sv_core.specs.Document.{Document}
use Rattle.sv_core.specs.History.{History, news, published, run_then, tables_then}
use Rattle.sv_core.specs.Judged.{IsJudged, made_by}
use Rattle.sv_core.specs.Legal.{IsNext}
use Rattle.sv_core.specs.Made.{NeedsOf}
use Rattle.sv_legal.specs.declared.answers.Finding.{Finding}
use Rattle.sv_legal.specs.declared.answers.Finding.TheVariants.{Illegal, Silent, Publishes}

abbrev pub IsFinding : Document → History → Entry → Finding → Type 0
IsFinding doc h e Illegal = IsNext doc h e → ⊥
IsFinding doc h e Silent = IsNext doc h e × (news doc (published doc h) h e ≡ None)
IsFinding doc h e (Publishes packet op) = IsNext doc h e × (news doc (published doc h) h e ≡ Some (origin packet, op))

-- what was prepared is right on the site's tables at the place `at`
pub record IsPrepared (doc : Document) (h : History) (session index : ℕ) (request : Request) (site at : ℕ) (p : Prepared) : Type 0 where
  pub judged : IsJudged doc.schema (bare (tables_then doc (published doc h) h site at)) (run_then doc (published doc h) h session index request site at) p.reply p.label
  pub effects : map effect_of p.effects ≡ made_by p.reply (run_then doc (published doc h) h session index request site at).effects
  pub needs : NeedsOf p.reply (run_then doc (published doc h) h session index request site at).needs p.needs

-- an operation that makes these changes: what is due depends on its changes alone
abbrev pub op_making : List RowEffect → Op
op_making es = record { time = 0; site = 0; deps = as_deps (λ o. 0); effects = es; needs = [] }
