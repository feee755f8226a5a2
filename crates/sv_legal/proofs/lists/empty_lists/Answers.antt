use Rattle.std.proofs.Common.{◌+◌, length, ap, ◌∙◌}
use Rattle.std.specs.Prelude.{map}
use Rattle.std.proofs.lemmas.List.{length_push}
use Rattle.sv_plain.specs.Held.{medium_of}
use Rattle.sv_legal.proofs.PublishedLaws.{empty_more}
use Rattle.sv_legal.proofs.lists.empty_lists.Goals as goal

pub loop-preserved : goal.loop-preserved
loop-preserved c = record {
  long = ap length c.in_ok-push.ensures.items ∙ length_push c.loop.lists.items c.new.result ∙ ap (λ n. n + 1) c.loop.invariant.long;
  empty = λ o. ap (λ vs. medium_of (map (λ ops. ops.items) vs) o) c.in_ok-push.ensures.items ∙ empty_more (λ v. v.items) c.loop.lists.items c.new.result c.new.ensures.items c.loop.invariant.empty o;
}
