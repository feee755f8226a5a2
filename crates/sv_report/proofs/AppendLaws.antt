-- What is appended in pieces is appended as a whole.
use Rattle.std.proofs.Common.{append_assoc, append-nil}

pub ruleset appends = (append_assoc, append-nil)
