use Rattle.std.proofs.Common.{length}
use Rattle.sv_wp.proofs.listing.+put_questions.Given as goal

abbrev pub decreases-put_questions : goal.decreases-put_questions
decreases-put_questions g l = length l.questions.now
