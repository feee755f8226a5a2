-- Keys that are drawn: each request has 64 keys of its own, by its session and by how many requests of the session came before it.
use Rattle.std.specs.Prelude.{◌≡◌, ◌<◌, ◌≤◌, ℕ, ℤ, pos, ◌+◌, ◌*◌, ◌-◌, ◌+ℤ◌}

-- smaller keys are left to initial rows
abbrev pub first_of_all : ℤ
first_of_all = pos 1000000000000

-- the first key of a request; sessions are numbered from 1, the requests of a session from 0
abbrev pub first_key : ℕ → ℕ → ℤ
first_key session index = first_of_all +ℤ pos (4096 * index + 64 * (session - 1))

pub record AreSame (s t i j n m : ℕ) : Type 0 where
  pub session : s ≡ t
  pub index : i ≡ j
  pub number : n ≡ m

-- no key is drawn twice: neither by two requests of the 64 sessions nor twice by one
abbrev pub DrawsDiffer : Type 0
DrawsDiffer = (s t i j n m : ℕ) → 1 ≤ s → s ≤ 64 → 1 ≤ t → t ≤ 64 → n < 64 → m < 64
    → first_key s i +ℤ pos n ≡ first_key t j +ℤ pos m → AreSame s t i j n m
