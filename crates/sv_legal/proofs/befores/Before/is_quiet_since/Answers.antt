use Rattle.std.proofs.Common.{sym, ap, ◌∙◌}
use Rattle.std.specs.List.{list_all}
use Rattle.std.proofs.lemmas.List.{take_rest}
use Rattle.sv_legal.specs.Turns.{is_other}
use Rattle.sv_legal.proofs.PastLaws.{quiet_from, quiet_to}
use Rattle.sv_legal.proofs.befores.Before.is_quiet_since.Goals as goal

pub returns : goal.returns
returns c = (
  λ yes. quiet_from c.args.session c.args.self.now.history.now c.args.at
      (sym (ap (list_all (is_other c.args.session)) (take_rest c.args.self.now.history.now c.args.at)) ∙ sym c.is_quiet.ensures ∙ yes),
  λ quiet. c.is_quiet.ensures ∙ ap (list_all (is_other c.args.session)) (take_rest c.args.self.now.history.now c.args.at)
      ∙ quiet_to c.args.session c.args.self.now.history.now c.args.at quiet,
)
