-- The laws of the definitions.
use Rattle.sv_effect.specs.Laws as law
use Rattle.sv_effect.proofs.TableLaws.{tables_of-more}
use Rattle.sv_effect.proofs.CommuteLaws.{unthreatened}
use Rattle.sv_effect.proofs.KeptLaws.{fits_kept}
use Rattle.sv_effect.proofs.SequenceLaws.{any}
use Rattle.sv_effect.proofs.GreatestLaws.{one_of, above_all}

pub one_more : law.OneMore
one_more schema init m cut o op allowed differ blues small next = tables_of-more schema init m cut o op allowed differ blues small next

pub unthreatened_commute : law.UnthreatenedCommute
unthreatened_commute schema op fits safe = unthreatened schema op safe

pub any_sequence : law.AnySequence
any_sequence schema init m cut xs allowed differ blues own eight sequence = any schema init m allowed differ blues own eight cut xs sequence

pub greatest_is : law.GreatestIs
greatest_is = (λ first others. (one_of first others, λ x h. above_all first others x h), λ first others. (one_of first others, λ x h. above_all first others x h))

pub fitting_kept : law.FittingKept
fitting_kept schema op t none_lists fits tables = fits_kept schema op t none_lists fits tables
