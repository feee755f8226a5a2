use Rattle.std.proofs.Common.{Some, ap, ◌∙◌}
use Rattle.std.specs.Prelude.{map}
use Rattle.sv_core.specs.History.{with_news}
use Rattle.sv_plain.specs.Held.{medium_of}
use Rattle.sv_legal.proofs.PublishedLaws.{publish_is}
use Rattle.sv_legal.proofs.lists.publish.Goals as goal

pub returns-clause-lists : goal.returns-clause-lists
returns-clause-lists c = λ o.
    publish_is (λ v. v.items) c.args.lists.now.items c.index_mut.result.now c.push.new.self c.origin_of.result c.args.op c.requires c.origin_of.ensures.small
    c.index_mut.ensures.value c.in_ok-push.ensures.items o
    ∙ ap (λ n. with_news (Some (n, c.args.op)) (medium_of (map (λ ops. ops.items) c.args.lists.now.items)) o) c.origin_of.ensures.value
