use Rattle.std.proofs.Common.{sym, ap, ◌∙◌}
use Rattle.std.specs.Prelude.{map}
use Rattle.sv_core.specs.History.{cut_of}
use Rattle.sv_legal.specs.Before.{doc_of}
use Rattle.sv_legal.proofs.PastLaws.{back_is}
use Rattle.sv_legal.proofs.ToldLaws.{fits_before}
use Rattle.sv_legal.proofs.befores.Before.cut_at.Goals as goal

pub cut_of-requires : goal.cut_of-requires
cut_of-requires c = λ o. fits_before (doc_of c.args.self.now) c.args.self.now.history.now (map (λ ops. ops.items) c.args.self.now.published.now) c.requires.told c.args.at c.args.site o

pub returns : goal.returns
returns c = λ o. c.cut_of.ensures o ∙ ap (λ h. cut_of h c.args.site o) (sym (back_is c.args.self.now.history.now c.args.at))
