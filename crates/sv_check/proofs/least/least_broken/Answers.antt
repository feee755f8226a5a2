use Rattle.std.proofs.Common.{◌≡◌, subst}
use Rattle.sv_app.specs.Schema.{schema_of}
use Rattle.sv_effect.specs.Follows.{Follows}
use Rattle.sv_effect.specs.Overlays.{over}
use Rattle.sv_check.specs.Least.{IsLeast}
use Rattle.sv_check.specs.Clashes.{values_at, Clashes}
use Rattle.sv_check.proofs.LeastBrokenLaws.{clash_broken}
use Rattle.sv_check.proofs.least.least_broken.Goals as goal

pub returns-in_ok-found-in-Unique-clause-followed : goal.returns-in_ok-found-in-Unique-clause-followed
returns-in_ok-found-in-Unique-clause-followed g c =
    clash_broken _ _ _ _ _ _ (schema_of c.args.app.now.tables.items) c.args.left.now c.args.table c.args.inv.now.body c.in-Unique.col c.in_ok-keys-in-Unique.keys.items c.in_ok-pairs-in-Unique.pairs.items
    c.in_ok-found-in-Unique.found c.in_ok-keys-in-Unique.ensures.followed c.in-Unique.is
    (subst (λ ks. Follows (g.R.Rows.face c.candidates.new.rows) (g.R.Rows.face c.present_values.new.rows) (g.R.Rows.noted c.candidates.new.rows) (g.R.Rows.noted c.present_values.new.rows)
    (λ t. c.in_ok-pairs-in-Unique.pairs.items ≡ values_at (over c.args.left.now t) c.args.table c.in-Unique.col ks)) c.deref.ensures.value c.in_ok-pairs-in-Unique.ensures.followed)
    (subst (λ ps. IsLeast (Clashes ps) c.in_ok-found-in-Unique.found) c.deref-in-Unique.ensures.value c.in_ok-found-in-Unique.ensures)
