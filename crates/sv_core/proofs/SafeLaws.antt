-- What is prepared blue is safe.
use Rattle.std.proofs.Common.{◌≡◌, List, map, refl, ap, subst, ◌∙◌}
use Rattle.sv_app.specs.Draws.{first_key}
use Rattle.sv_app.specs.Schema.{Declaration}
use Rattle.sv_effect.specs.declared.ops.Need.{Need}
use Rattle.sv_effect.specs.Run.{RunResult}
use Rattle.sv_effect.specs.RunChanges.{Effect, effect_of}
use Rattle.sv_effect.specs.Threatened.{Unthreatened}
use Rattle.sv_safety.proofs.Promises as safety
use Rattle.sv_threat.specs.declared.label.Label.TheVariants.{Blue}
use Rattle.sv_threat.specs.Labels.{IsLabel}
use Rattle.sv_core.specs.declared.entries.Reply.{Reply}
use Rattle.sv_core.specs.declared.entries.Reply.TheVariants.{Ran, Refused, Full}
use Rattle.sv_core.specs.Judged.{made_by}
use Rattle.sv_core.specs.Made.{NeedsOf, IsRight, PreparedIsSafe}
use Rattle.sv_core.specs.Runs.{run_of}

-- what a blue reply stands for: all changes of the run, and its needs
record IsWhole (schema : List Declaration) (ran : RunResult) (effects : List Effect) (needs : List Need) : Type 0 where
  changes : effects ≡ ran.effects
  needed : needs ≡ ran.needs
  free : Unthreatened schema ran.effects

whole : (schema : List Declaration) (ran : RunResult) (reply : Reply) (needs : List Need) → NeedsOf reply ran.needs needs → IsLabel schema (made_by reply ran.effects) Blue
    → IsWhole schema ran (made_by reply ran.effects) needs
whole schema ran (Ran outcome) needs n l = record { changes = refl; needed = n; free = l.1 }
whole schema ran (Refused inv) needs n l = absurd (l.0 refl)
whole schema ran (Full which used) needs n l = absurd n

pub prepared_is_safe : PreparedIsSafe
prepared_is_safe doc p t op accepted made valid rows agrees blue of =
    safety.blue_runs_are_safe doc.schema doc.txns p.request (first_key p.session p.index) t op
    (record { accepted = accepted; txn = made.asked.txn; among = made.asked.among; fits = made.asked.args }) rows
    (record { changes = ap (map effect_of) of.effects ∙ r.effects ∙ w.changes; needs = of.needs ∙ w.needed; time = of.time }) w.free
  where
    r : IsRight doc p t
    r = made.right t valid rows agrees

    w : IsWhole doc.schema (run_of doc p.session p.index p.request t) (made_by p.reply (run_of doc p.session p.index p.request t).effects) p.needs
    w = whole doc.schema (run_of doc p.session p.index p.request t) p.reply p.needs r.needs (subst (IsLabel doc.schema (made_by p.reply (run_of doc p.session p.index p.request t).effects)) blue r.judged.labelled)
