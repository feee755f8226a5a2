use Rattle.std.proofs.Common.{◌≡◌, [], ap}
use Rattle.std.specs.Prelude.{replicate}
use Rattle.sv_core.proofs.PublicationLaws.{blues_in, blues_none}
use Rattle.sv_core.proofs.publications.Publications.start.Goals as goal

pub returns : goal.returns
returns c =
    let lists = c.in_ok-empty_lists.field-0.items in
    let none : blues_in c.in_ok-reserve.field-0.values lists ≡ replicate 8 [] =
    blues_none c.in_ok-reserve.field-0.values 8 lists c.in_ok-empty_lists.ensures.long c.in_ok-empty_lists.ensures.empty in
    λ i. record {
      blues = none i;
      reds = ap (λ r. r.ops) c.in_ok-start.ensures i;
      order = c.in_ok-with_capacity.ensures.items i;
      inserts = 0;
      changes = 0;
      room = c.args.room;
    }
