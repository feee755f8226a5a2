-- Bytes in an array of a fixed width, with zeros behind them.
use Rattle.std.specs.Prelude.{◌≡◌, ℕ, ◌-◌, ◌≤◌, List, ◌++◌, length, take, drop, replicate, refl}
use Rattle.std.proofs.Common.{arith, length-append}
use Rattle.std.proofs.lemmas.List.{length-replicate, length-take-le, take-append-drop}
use Rattle.std.proofs.Math.Seq.{take-append_seam, drop-append_seam}

abbrev pub padded : ℕ → List ℕ → List ℕ
padded width bytes = bytes ++ replicate (width - length bytes) 0

-- the first so many cells hold the bytes, the others are zero
pub record IsPadded (width len : ℕ) (cells : List ℕ) : Type 0 where
  pub whole : length cells ≡ width
  pub fits : len ≤ width
  pub zeros : drop len cells ≡ replicate (width - len) 0

pub length-take-padded : {width len : ℕ} {cells : List ℕ} → IsPadded width len cells → length (take len cells) ≡ len
length-take-padded {width} {len} {cells} p = length-take-le len cells (omega (arith, p.whole, p.fits))

pub padded-take : {width len : ℕ} {cells : List ℕ} → IsPadded width len cells → padded width (take len cells) ≡ cells
padded-take {width} {len} {cells} p = rw (length-take-padded p, ← p.zeros) (take-append-drop len cells)

pub IsPadded-padded : (width : ℕ) (bytes cells : List ℕ) → length bytes ≤ width → cells ≡ padded width bytes → IsPadded width (length bytes) cells
IsPadded-padded width bytes cells h e = record {
  whole = rw (e, length-append, length-replicate) (omega (arith, h));
  fits = h;
  zeros = rw (e, drop-append_seam) refl;
}

pub take-padded : (width : ℕ) (bytes : List ℕ) → take (length bytes) (padded width bytes) ≡ bytes
take-padded width bytes = take-append_seam bytes (replicate (width - length bytes) 0)
