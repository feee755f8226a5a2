-- The run of a request of a session on tables, and the operation that its changes and needs make.
use Rattle.std.specs.Prelude.{ℕ}
use Rattle.sv_app.specs.declared.requests.Request.{Request}
use Rattle.sv_app.specs.Draws.{first_key}
use Rattle.sv_app.specs.Tables.{Tables}
use Rattle.sv_effect.specs.declared.ops.RowEffect.{RowEffect}
use Rattle.sv_effect.specs.Run.{RunResult, run}
use Rattle.sv_effect.specs.RunChanges.{Effect}
use Rattle.sv_core.specs.Document.{Document}

-- a change as operations carry it
abbrev pub carried : Effect → RowEffect
carried e = record { table = e.place.table; key = e.place.key; act = e.act; writes = record { items = e.writes }; instance = e.instance }

-- the keys that it draws are those of its session and its index
abbrev pub run_of : Document → ℕ → ℕ → Request → Tables → RunResult
run_of doc session index request t = run doc.schema doc.txns request (first_key session index) t
