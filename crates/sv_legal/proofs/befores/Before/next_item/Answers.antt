use Rattle.std.proofs.Common.{slice_get, ◌∙◌}
use Rattle.sv_legal.proofs.befores.Before.next_item.Goals as goal

pub returns : goal.returns
returns c = c.item_at.ensures ∙ (λ i. slice_get (c.items_of.ensures i) (c.done.ensures i))
