-- What consumed bytes say of those that were left.
use Rattle.std.proofs.Common.{◌≡◌, ℕ, ◌+◌, ◌≤◌, List, [], ◌++◌, length, take, Option, None, Some, IfSome, refl, sym, ap, ◌∙◌, subst, arith, append-nil}
use Rattle.std.proofs.lemmas.List.{length-append, length-take}
use Rattle.std.proofs.Math.Seq.{drop-append_seam}
use Rattle.std.specs.Io.KnownBytes.{Consumes, IsAtEnd}
use Rattle.std.proofs.KnownBytes.{Consumes-nil, Consumes-trans}
use Rattle.sv_io.specs.Flows.{Passed, PassedUpTo}

-- at the end all bytes were consumed
pub all_consumed : (old new : Option (List ℕ)) (bytes : List ℕ) → Consumes old new bytes → IsAtEnd new → IfSome old (λ all. bytes ≡ all)
all_consumed None new bytes consumed end = tt
all_consumed (Some all) None bytes consumed end = absurd consumed
all_consumed (Some all) (Some rest) bytes consumed end = sym (consumed ∙ ap (λ xs. bytes ++ xs) end ∙ append-nil bytes)

-- a read of no bytes changes nothing
pub consumed_none : (old mid new : Option (List ℕ)) (bytes : List ℕ) → Consumes old mid bytes → Consumes mid new [] → Consumes old new bytes
consumed_none old mid new bytes first second = subst (Consumes old new) (append-nil bytes) (Consumes-trans old mid new bytes [] first second)

pub passed : (old new : Option (List ℕ)) (bytes : List ℕ) → Consumes old new bytes → Passed old new (length bytes)
passed None new bytes consumed = tt
passed (Some all) None bytes consumed = absurd consumed
passed (Some all) (Some rest) bytes consumed = (
  rw (consumed, length-append) (omega arith),
  rw (consumed, drop-append_seam) refl,
)

pub passed_count : (old new : Option (List ℕ)) (bytes : List ℕ) (count : ℕ) → Consumes old new bytes → length bytes ≡ count → Passed old new count
passed_count old new bytes count consumed same = subst (Passed old new) same (passed old new bytes consumed)

pub passed_few : (old new : Option (List ℕ)) (bytes : List ℕ) (most : ℕ) → Consumes old new bytes → length bytes ≤ most → PassedUpTo old new most
passed_few old new bytes most consumed few = record { count = length bytes; few = few; passed = passed old new bytes consumed }

-- where a read failed
pub passed_kept : (old mid new : Option (List ℕ)) (bytes : List ℕ) (most : ℕ) → Consumes old mid bytes → new ≡ mid → length bytes ≤ most → PassedUpTo old new most
passed_kept old mid new bytes most consumed stands few = subst (λ left. PassedUpTo old left most) (sym stands) (passed_few old mid bytes most consumed few)

-- where what was read could not be kept
pub passed_more : (old mid new : Option (List ℕ)) (bytes piece : List ℕ) (count most : ℕ) → Consumes old mid bytes → Consumes mid new (take count piece) → length bytes + count ≤ most → PassedUpTo old new most
passed_more old mid new bytes piece count most first second few =
    passed_few old new (bytes ++ take count piece) most (Consumes-trans old mid new bytes (take count piece) first second) (rw length-append (omega (arith, few, length-take count piece)))

pub ruleset reading = (Consumes-nil, Consumes-trans, all_consumed, consumed_none, passed, passed_count, passed_few, passed_kept, passed_more)
