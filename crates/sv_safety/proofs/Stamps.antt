-- Stamps of one operation rise by place, are greater than what was there from the start, and a cell below them is set by each of them.
use Rattle.std.proofs.Common.{◌≡◌, ℕ, suc, ◌<◌, ◌≤◌, ◌==◌, if◌then◌else◌, cond, Bool, true, false, Option, Some, None, ap, ◌∙◌, arith}
use Rattle.std.specs.Prelude.{nat_lt}
use Rattle.std.specs.Ordering.{is_lt, nat_cmp, ordering_then}
use Rattle.std.specs.declared.cmp.Ordering.TheVariants.{Less, Equal, Greater}
use Rattle.std.proofs.lemmas.Bool.Decides.{nat_tests}
use Rattle.sv_value.specs.declared.stamps.Stamp.{Stamp}
use Rattle.sv_value.specs.declared.values.Val.{Val}
use Rattle.sv_value.specs.declared.values.Val.TheVariants.{Int, Text as IsText}
use Rattle.sv_value.specs.Orders.{stamp_cmp}
use Rattle.sv_app.specs.declared.schemas.Merge.{Merge}
use Rattle.sv_app.specs.declared.schemas.Merge.TheVariants as merges
use Rattle.sv_effect.specs.declared.cells.Cell.{Cell}
use Rattle.sv_effect.specs.declared.cells.Cell.TheVariants.{Count, Last, Plain}
use Rattle.sv_effect.specs.declared.ops.Op.{Op}
use Rattle.sv_effect.specs.declared.ops.Write.{Write}
use Rattle.sv_effect.specs.declared.ops.Write.TheVariants.{Delta, Set}
use Rattle.sv_effect.specs.Newer.{IsEarlier}
use Rattle.sv_effect.specs.RowChange.{last_cell, cell_from}
use Rattle.sv_effect.specs.StampedTables.{zero_stamp}
use Rattle.sv_safety.proofs.Cells.{by_write}

abbrev pub stamp_of : Op → ℕ → Stamp
stamp_of op n = record { time = op.time; site = op.site; place = n }

pub zero_loses : (s : Stamp) → 1 ≤ s.time → is_lt (stamp_cmp zero_stamp s) ≡ true
zero_loses s some = let first : nat_lt 0 s.time ≡ true = grind (arith, nat_tests, some) in ap (λ b. is_lt (ordering_then (cond b Less (cond (0 == s.time) Equal Greater)) (ordering_then (nat_cmp 0 s.site) (nat_cmp 0 s.place)))) first

earlier_loses : (s : Stamp) (op : Op) (m : ℕ) → s.time < op.time → is_lt (stamp_cmp s (stamp_of op m)) ≡ true
earlier_loses s op m lt = let first : nat_lt s.time op.time ≡ true = grind (arith, nat_tests, lt) in
    ap (λ b. is_lt (ordering_then (cond b Less (cond (s.time == op.time) Equal Greater)) (ordering_then (nat_cmp s.site op.site) (nat_cmp s.place m)))) first

cmp_itself : (n : ℕ) → nat_cmp n n ≡ Equal
cmp_itself n = grind (arith, nat_tests)

pub stamps_rise : (op : Op) (n m : ℕ) → n < m → is_lt (stamp_cmp (stamp_of op n) (stamp_of op m)) ≡ true
stamps_rise op n m lt =
    let less : nat_lt n m ≡ true = grind (arith, nat_tests, lt) in
    (λ i. is_lt (ordering_then (cmp_itself op.time i) (ordering_then (cmp_itself op.site i) (nat_cmp n m))))
    ∙ ap (λ b. is_lt (cond b Less (cond (n == m) Equal Greater))) less

-- changes from the n-th on have greater stamps than the cell
abbrev pub Beaten : Op → ℕ → Cell → Type 0
Beaten op n (Count k) = Unit {0}
Beaten op n (Last v s) = (m : ℕ) → n ≤ m → is_lt (stamp_cmp s (stamp_of op m)) ≡ true
Beaten op n (Plain v) = Unit {0}

pub beaten_more : (op : Op) (n : ℕ) (cell : Cell) → Beaten op n cell → Beaten op (suc n) cell
beaten_more op n (Count k) h = tt
beaten_more op n (Last v s) h = λ m le. h m (omega (arith, le))
beaten_more op n (Plain v) h = tt

pub beaten_written : (op : Op) (n : ℕ) (w : Option Write) (cell : Cell) → Beaten op n cell → Beaten op (suc n) (by_write (stamp_of op n) w cell)
beaten_written op n None cell b = beaten_more op n cell b
beaten_written op n (Some (Delta d)) (Count k) b = tt
beaten_written op n (Some (Delta d)) (Last v t) b = beaten_more op n (Last v t) b
beaten_written op n (Some (Delta d)) (Plain v) b = tt
beaten_written op n (Some (Set v)) (Count k) b = tt
beaten_written op n (Some (Set v)) (Plain x) b = tt
beaten_written op n (Some (Set v)) (Last x t) b = by (is_lt (stamp_cmp t (stamp_of op n)))
  where
    by : (r : Bool) → Beaten op (suc n) (last_cell (if r then (record { value = v; stamp = stamp_of op n }) else (record { value = x; stamp = t })))
    by true = λ m le. stamps_rise op n m (omega (arith, le))
    by false = beaten_more op n (Last x t) b

pub beaten_zero : (op : Op) (n : ℕ) (merge : Merge) (v : Val) → 1 ≤ op.time → Beaten op n (cell_from merge v)
beaten_zero op n merges.Plain v some = tt
beaten_zero op n merges.Fresh v some = tt
beaten_zero op n merges.Lww v some = λ m le. zero_loses (stamp_of op m) some
beaten_zero op n merges.NumDelta (Int k) some = tt
beaten_zero op n merges.NumDelta (IsText b) some = tt

pub beaten_earlier : (op : Op) (cell : Cell) → IsEarlier op.time cell → Beaten op 0 cell
beaten_earlier op (Count n) e = tt
beaten_earlier op (Last v s) e = λ m le. earlier_loses s op m e
beaten_earlier op (Plain v) e = tt
