-- Operations that are applied one after the other, and asks that are answered one after the other.
use Rattle.std.proofs.Common.{◌≡◌, ℕ, zero, suc, ◌+◌, ◌≤◌, List, [], ◌∷◌, ◌++◌, length, drop, map, take, Some, slice_get, refl, sym, ap, subst, ◌∙◌, arith}
use Rattle.std.proofs.lemmas.List.{length_push, take_all}
use Rattle.sv_app.specs.Schema.{Declaration}
use Rattle.sv_app.specs.Tables.{Tables}
use Rattle.sv_effect.specs.declared.ops.Op.{Op}
use Rattle.sv_effect.specs.declared.reads.Ask.{Ask}
use Rattle.sv_effect.specs.declared.reads.Told.{Told}
use Rattle.sv_effect.specs.Agrees.{Gives}
use Rattle.sv_effect.specs.Applied.{applied}
use Rattle.sv_effect.specs.BareTables.{how_many}
use Rattle.sv_effect.specs.Reads.{answer_of}
use Rattle.sv_effect.specs.StampedTables.{StampedTables}
use Rattle.sv_effect.specs.Takes.{inserts}
use Rattle.sv_core.specs.Applying.{CanApply, CanApplyAll, GiveAll, applied_in_order}
use Rattle.sv_core.specs.Room.{inserts_in}

-- of the operations these are left: what they lead to is what all of them lead to
pub record AreLeft (schema : List Declaration) (ops left : List Op) (before now : StampedTables) (room room_now : ℕ) : Type 0 where
  pub leads : applied_in_order schema left now ≡ applied_in_order schema ops before
  pub can : CanApplyAll schema left now
  pub fits : inserts_in left ≤ room_now
  pub kept : room + how_many before ≤ room_now + how_many now
  pub spent : room + inserts_in left ≤ room_now + inserts_in ops

pub none_applied : (schema : List Declaration) (ops : List Op) (t : StampedTables) (room : ℕ) → CanApplyAll schema ops t → inserts_in ops ≤ room → AreLeft schema ops ops t t room room
none_applied schema ops t room can fits = record { leads = refl; can = can; fits = fits; kept = omega arith; spent = omega arith }

-- the next one
pub record IsFirstLeft (schema : List Declaration) (op : Op) (rest : List Op) (now : StampedTables) (room_now : ℕ) : Type 0 where
  pub can : CanApply schema op now
  pub fits : inserts op.effects ≤ room_now

from_drop : {A : Type 0} (xs : List A) (i : ℕ) (x : A) → slice_get xs i ≡ Some x → drop i xs ≡ x ∷ drop (suc i) xs
from_drop [] i x at = absurd cc
from_drop (y ∷ xs) zero x at = let same : y ≡ x = cc in ap (λ z. z ∷ xs) same
from_drop (y ∷ xs) (suc i) x at = from_drop xs i x at

pub next_left : (schema : List Declaration) (ops : List Op) (i : ℕ) (op : Op) (before now : StampedTables) (room room_now : ℕ) → AreLeft schema ops (drop i ops) before now room room_now
    → slice_get ops i ≡ Some op → IsFirstLeft schema op (drop (suc i) ops) now room_now
next_left schema ops i op before now room room_now left at =
    let is : AreLeft schema ops (op ∷ drop (suc i) ops) before now room room_now = subst (λ l. AreLeft schema ops l before now room room_now) (from_drop ops i op at) left in
    record { can = is.can.0; fits = omega (arith, is.fits) }

pub one_applied : (schema : List Declaration) (ops : List Op) (i : ℕ) (op : Op) (before now after : StampedTables) (room room_now room_after : ℕ)
    → AreLeft schema ops (drop i ops) before now room room_now → slice_get ops i ≡ Some op → after ≡ applied schema op now
    → room_now + how_many now ≤ room_after + how_many after → room_now ≤ room_after + inserts op.effects
    → AreLeft schema ops (drop (i + 1) ops) before after room room_after
one_applied schema ops i op before now after room room_now room_after left at is keeps spends =
    let whole : AreLeft schema ops (op ∷ drop (suc i) ops) before now room room_now = subst (λ l. AreLeft schema ops l before now room room_now) (from_drop ops i op at) left in
    let next : suc i ≡ i + 1 = omega arith in
    subst (λ n. AreLeft schema ops (drop n ops) before after room room_after) next
    (record {
      leads = ap (applied_in_order schema (drop (suc i) ops)) is ∙ whole.leads;
      can = subst (CanApplyAll schema (drop (suc i) ops)) (sym is) whole.can.1;
      fits = omega (arith, whole.fits, spends);
      kept = omega (arith, whole.kept, keeps);
      spent = omega (arith, whole.spent, spends);
    })

-- none is left
pub record AllApplied (schema : List Declaration) (ops : List Op) (before now : StampedTables) (room room_now : ℕ) : Type 0 where
  pub tables : now ≡ applied_in_order schema ops before
  pub kept : room + how_many before ≤ room_now + how_many now
  pub spent : room ≤ room_now + inserts_in ops

drop_all : {A : Type 0} (xs : List A) (i : ℕ) → length xs ≤ i → drop i xs ≡ []
drop_all [] zero le = refl
drop_all [] (suc i) le = refl
drop_all (x ∷ xs) zero le = absurd (omega (arith, le))
drop_all (x ∷ xs) (suc i) le = drop_all xs i (omega (arith, le))

pub all_applied : (schema : List Declaration) (ops : List Op) (i : ℕ) (before now : StampedTables) (room room_now : ℕ) → AreLeft schema ops (drop i ops) before now room room_now → length ops ≤ i
    → AllApplied schema ops before now room room_now
all_applied schema ops i before now room room_now left past =
    let is : AreLeft schema ops [] before now room room_now = subst (λ l. AreLeft schema ops l before now room room_now) (drop_all ops i past) left in
    record { tables = is.leads; kept = is.kept; spent = omega (arith, is.spent) }

-- one ask more is answered
pub one_told : (t : Tables) (asks : List Ask) (i : ℕ) (ask : Ask) (told after : List Told) (now : Told) → GiveAll t (take i asks) (map answer_of told) → slice_get asks i ≡ Some ask
    → Gives t ask (answer_of now) → after ≡ told ++ now ∷ [] → GiveAll t (take (i + 1) asks) (map answer_of after)
one_told t asks i ask told after now given at gives grown =
    let next : suc i ≡ i + 1 = omega arith in
    subst (λ l. GiveAll t (take (i + 1) asks) (map answer_of l)) (sym grown)
    (subst (λ n. GiveAll t (take n asks) (map answer_of (told ++ now ∷ []))) next (from asks i told given at))
  where
    from : (asks : List Ask) (i : ℕ) (told : List Told) → GiveAll t (take i asks) (map answer_of told) → slice_get asks i ≡ Some ask → GiveAll t (take (suc i) asks) (map answer_of (told ++ now ∷ []))
    from [] i told given at = absurd cc
    from (a ∷ asks) zero [] given at = let same : ask ≡ a = cc in (subst (λ x. Gives t x (answer_of now)) same gives, tt)
    from (a ∷ asks) zero (x ∷ told) given at = absurd given
    from (a ∷ asks) (suc i) [] given at = absurd given
    from (a ∷ asks) (suc i) (x ∷ told) given at = (given.0, from asks i told given.1 at)

-- the space that is left
pub one_less : (asks : List Ask) (i : ℕ) (told after : List Told) (now : Told) (space later : ℕ) → length asks + length told ≤ space + i → after ≡ told ++ now ∷ [] → later ≡ space
    → length asks + length after ≤ later + (i + 1)
one_less asks i told after now space later room grown same = omega (arith, room, ap length grown ∙ length_push told now, same)

pub all_told : (t : Tables) (asks : List Ask) (i : ℕ) (told : List Told) → GiveAll t (take i asks) (map answer_of told) → length asks ≤ i → GiveAll t asks (map answer_of told)
all_told t asks i told given past = subst (λ l. GiveAll t l (map answer_of told)) (take_all i asks past) given

pub none_told : (t : Tables) (told : List Told) → told ≡ [] → GiveAll t [] (map answer_of told)
none_told t told empty = subst (λ l. GiveAll t [] (map answer_of l)) (sym empty) tt
