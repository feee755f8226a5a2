-- What calls do to the bytes that a source has left and to those that a sink took, where these are told.
use Rattle.std.specs.Prelude.{Option, Result, ◌≡◌, ℕ, ◌<◌, ◌≤◌, List, ◌++◌, length, take, drop, ⊤, None, Some, IfSome, MatchResult}
use Rattle.std.specs.Io.KnownBytes.{Consumes, IsAtEnd}

-- the most bytes of an input
abbrev pub most_bytes : ℕ
most_bytes = 1048576

-- a read gives the first of the bytes left, none of them only at the end or into an empty buffer; a failed one leaves them
abbrev pub GivesFront : {E : Type 0} → Option (List ℕ) → Option (List ℕ) → Result ℕ E → List ℕ → Type 0
GivesFront old new result buf = MatchResult result (λ count. Consumes old new (take count buf) × (count ≡ 0 → 0 < length buf → IsAtEnd new)) (λ _. new ≡ old)

-- of the bytes left, the first `count` are gone
abbrev pub Passed : Option (List ℕ) → Option (List ℕ) → ℕ → Type 0
Passed old new count = IfSome old (λ bytes. (count ≤ length bytes) × (new ≡ Some (drop count bytes)))

-- of the bytes left, some first ones are gone, at most `most`
pub record PassedUpTo (old new : Option (List ℕ)) (most : ℕ) : Type 0 where
  pub count : ℕ
  pub few : count ≤ most
  pub passed : Passed old new count

-- where the bytes taken are told now, they were told before and grew by these
abbrev pub Grew : Option (List ℕ) → Option (List ℕ) → List ℕ → Type 0
Grew old None bytes = ⊤
Grew None (Some new) bytes = ⊥
Grew (Some old) (Some new) bytes = new ≡ old ++ bytes

-- a write takes the first bytes of the piece, at least one unless it is empty; a failed one takes none
abbrev pub TakesFront : {E : Type 0} → Option (List ℕ) → Option (List ℕ) → Result ℕ E → List ℕ → Type 0
TakesFront old new result piece = MatchResult result (λ count. Grew old new (take count piece) × (0 < length piece → 0 < count)) (λ _. new ≡ old)

-- the bytes taken grew by a front of these, which left out the rest
pub record TookBefore (old new : Option (List ℕ)) (bytes rest : List ℕ) : Type 0 where
  pub front : List ℕ
  pub split : bytes ≡ front ++ rest
  pub grew : Grew old new front

-- the bytes taken grew by a front of these
pub record TookFront (old new : Option (List ℕ)) (bytes : List ℕ) : Type 0 where
  pub rest : List ℕ
  pub took : TookBefore old new bytes rest
