use Rattle.sv_right.proofs.laws.frugal_is_right.Goals as goal

pub returns : goal.returns
returns c = λ schema txns groups accepted frugal. record {
  covers = c.frugal_covers.ensures schema txns groups accepted frugal;
  decides = c.frugal_decides.ensures schema txns groups accepted frugal;
}
