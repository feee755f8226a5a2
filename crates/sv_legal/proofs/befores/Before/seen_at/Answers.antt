use Rattle.std.proofs.Common.{sym, ap, ◌∙◌}
use Rattle.std.specs.Prelude.{map}
use Rattle.sv_core.specs.History.{seen_of}
use Rattle.sv_legal.specs.Before.{doc_of}
use Rattle.sv_legal.proofs.PastLaws.{back_is}
use Rattle.sv_legal.proofs.ToldLaws.{fits_before}
use Rattle.sv_legal.proofs.befores.Before.seen_at.Goals as goal

pub seen_of-requires : goal.seen_of-requires
seen_of-requires c = λ s o. fits_before (doc_of c.args.self.now) c.args.self.now.history.now (map (λ ops. ops.items) c.args.self.now.published.now) c.requires.told c.args.at s o

pub returns : goal.returns
returns c = λ o. c.seen_of.ensures o ∙ ap (λ h. seen_of h c.args.session o) (sym (back_is c.args.self.now.history.now c.args.at))
