-- Writes to a row leave room for those that follow.
use Rattle.std.proofs.Common.{◌≡◌, ℕ, zero, suc, ◌<◌, ◌≤◌, pos, List, [], ◌∷◌, length, refl, sym, subst, arith}
use Rattle.std.proofs.lemmas.Int.{ints}
use Rattle.sv_app.specs.declared.gots.Got.{Got}
use Rattle.sv_app.specs.declared.gots.Got.TheVariants.{Num, Text}
use Rattle.sv_app.specs.Slots.{with_item}
use Rattle.sv_effect.specs.declared.ops.Write.{Write}
use Rattle.sv_effect.specs.declared.ops.Write.TheVariants.{Delta, Set}
use Rattle.sv_effect.specs.BareTables.{got_of}
use Rattle.sv_effect.specs.Room.{HasRoom, HaveRoom, IsWordWrite}
use Rattle.sv_effect.specs.RunChanges.{written_got, with_write}
use Rattle.sv_effect.specs.RunValues.{column}
use Rattle.sv_effect.specs.Words.{IsWordGot}
use Rattle.sv_effect.proofs.WordLaws.{set_word}

-- what holds of each column holds still where an item of which it holds is put
pub put_all : (P : ℕ → Got → Type 0) (row : List Got) (c : ℕ) (x : Got) → ((d : ℕ) → P d (column row d)) → P c x
    → (d : ℕ) → P d (column (with_item (Num (pos 0)) c x row) d)
put_all P [] zero x h p zero = p
put_all P [] zero x h p (suc d) = h (suc d)
put_all P [] (suc c) x h p zero = h zero
put_all P [] (suc c) x h p (suc d) = put_all (λ n. P (suc n)) [] c x (λ n. h (suc n)) p d
put_all P (y ∷ row) zero x h p zero = p
put_all P (y ∷ row) zero x h p (suc d) = h (suc d)
put_all P (y ∷ row) (suc c) x h p zero = h zero
put_all P (y ∷ row) (suc c) x h p (suc d) = put_all (λ n. P (suc n)) row c x (λ n. h (suc n)) p d

-- behind the end stands zero
pub behind : (row : List Got) → column row (length row) ≡ Num (pos 0)
behind [] = refl
behind (x ∷ row) = behind row

pub room_less : (k m : ℕ) (got : Got) → k ≤ m → HasRoom m got → HasRoom k got
room_less k m (Num n) le h = (omega (arith, ints, le, h.0), omega (arith, ints, le, h.1))
room_less k m (Text text) le h = tt

-- a word has as much room as zero with one write more
word_room : (k : ℕ) (got : Got) → HasRoom (suc k) (Num (pos 0)) → IsWordGot got → HasRoom k got
word_room k (Num n) zeroes h = (omega (arith, ints, zeroes.0, zeroes.1, h.0, h.1), omega (arith, ints, zeroes.0, zeroes.1, h.0, h.1))
word_room k (Text text) zeroes h = tt

written_room : (k : ℕ) (w : Write) (got : Got) → HasRoom (suc k) (Num (pos 0)) → HasRoom (suc k) got → IsWordWrite w
    → HasRoom k (written_got w got)
written_room k (Set v) got zeroes h word = word_room k (got_of v) zeroes (set_word v word)
written_room k (Delta d) (Num n) zeroes h word = (omega (arith, ints, h.0, h.1, word.0, word.1), omega (arith, ints, h.0, h.1, word.0, word.1))
written_room k (Delta d) (Text text) zeroes h word = tt

pub write_room : (k n : ℕ) (w : ℕ × Write) (row : List Got) → k < n → HaveRoom n row → IsWordWrite w.1
    → HaveRoom k (with_write w row)
write_room k n w row less h word = record {
  each = put_all (λ c. HasRoom k) row w.0 (written_got w.1 (column row w.0)) (λ c. room_less k n (column row c) (omega (arith, less)) (h.each c))
      (written_room k w.1 (column row w.0) (subst (HasRoom (suc k)) (behind row) (more (length row))) (more w.0) word);
}
  where
    more : (c : ℕ) → HasRoom (suc k) (column row c)
    more c = room_less (suc k) n (column row c) (omega (arith, less)) (h.each c)

pub room_few : (k n : ℕ) (old new : List Got) → k ≤ n → new ≡ old → HaveRoom n old → HaveRoom k new
room_few k n old new le is h = subst (HaveRoom k) (sym is) (record { each = λ c. room_less k n (column old c) le (h.each c) })

-- room for writes in the code
pub first_room : (k : ℕ) (row : List Got) (c : ℕ) → HaveRoom k row → 1 ≤ k → HasRoom 1 (column row c)
first_room k row c h le = room_less 1 k (column row c) le (h.each c)

pub rest_room : (k n : ℕ) (c : ℕ) (w : Write) (row new : List Got) → HaveRoom n row → k < n → IsWordWrite w
    → new ≡ with_write (c, w) row → HaveRoom k new
rest_room k n c w row new h less word is = subst (HaveRoom k) (sym is) (write_room k n (c, w) row less h word)

pub ruleset writing = (first_room, rest_room)
