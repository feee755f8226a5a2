use Rattle.std.proofs.Common.{◌≡◌, true, cond, subst}
use Rattle.std.specs.BTreeSet.{contains}
use Rattle.std.specs.Ordering.{eq_by_cmp}
use Rattle.sv_app.specs.declared.places.Place.{Place}
use Rattle.sv_app.specs.Tables.{place_cmp}
use Rattle.sv_workload.proofs.PlaceLaws.{more_stand}
use Rattle.sv_workload.proofs.so_far.RowsSoFar.and.Goals as goal

pub invariant_of-result : goal.invariant_of-result
invariant_of-result c = record {
  stand = more_stand c.args.self.places c.insert.new.self c.args.self.rows c.push.new.self c.args.row c.args.self.stand
      (subst (λ (p : Place). (q : Place) → contains place_cmp c.insert.new.self q ≡ cond (eq_by_cmp place_cmp p q) true (contains place_cmp c.args.self.places q)) c.place_of.ensures c.in_ok-insert.ensures.updates.0)
      c.in_ok-push.ensures.ok;
}
