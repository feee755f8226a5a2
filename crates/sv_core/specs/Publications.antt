-- What contracts see of the operations that were published: the blue ones of each of eight sites, the red ones by their slots, the packets of all in the
-- order of publishing, what they use of the room, and how many more there is space for.
use Rattle.std.specs.Prelude.{◌≡◌, ℕ, zero, suc, ◌+◌, ◌-◌, ◌<◌, ◌≤◌, ◌^◌, List, [], ◌∷◌, ◌++◌, All, length, set, get_or, Option, Some, None, slice_get}
use Rattle.std.specs.Global.{Vec}
use Rattle.std.specs.Vec.{vec_capacity}
use Rattle.sv_value.specs.declared.packets.Packet.{Packet}
use Rattle.sv_value.specs.declared.packets.Packet.TheVariants.{Blue, Red}
use Rattle.sv_effect.specs.declared.ops.Op.{Op}
use Rattle.sv_effect.specs.Cut.{Medium}
use Rattle.sv_effect.specs.Takes.{inserts}
use Rattle.sv_effect.specs.TablesOfCut.{all_to}
use Rattle.sv_order.specs.Slots.{Slots}
use Rattle.sv_pool.specs.declared.regions.Slot.{Slot}
use Rattle.sv_pool.specs.Placed.{Placed}
use Rattle.sv_core.specs.Document.{Document}
use Rattle.sv_core.specs.History.{History, published}
use Rattle.sv_core.specs.Packets.{packets_in}
use Rattle.sv_core.specs.Room.{inserts_in, changes_used}

pub record Published : Type 0 where
  pub blues : List (List Op)
  pub reds : List Op
  pub order : List Packet
  pub inserts : ℕ
  pub changes : ℕ
  pub room : ℕ

-- the lists by origin
abbrev pub medium_in : Published → Medium
medium_in k zero = k.reds
medium_in k (suc place) = get_or k.blues place []

abbrev pub with_blue : Published → ℕ → Op → Published
with_blue k site op = record {
  blues = set k.blues (site - 1) (get_or k.blues (site - 1) [] ++ op ∷ []);
  reds = k.reds;
  order = k.order ++ Blue site (length (get_or k.blues (site - 1) [])) ∷ [];
  inserts = k.inserts + inserts op.effects;
  changes = k.changes + length op.effects;
  room = k.room - 1;
}

abbrev pub with_red : Published → Op → Published
with_red k op = record {
  blues = k.blues;
  reds = k.reds ++ op ∷ [];
  order = k.order ++ Red (length k.reds) ∷ [];
  inserts = k.inserts + inserts op.effects;
  changes = k.changes + length op.effects;
  room = k.room - 1;
}

-- the operation that the packet names
abbrev pub with_op : Published → Packet → Op → Published
with_op k (Blue site seq) op = with_blue k site op
with_op k (Red slot) op = with_red k op

-- it names one of eight sites, or a slot
abbrev pub IsNamed : Packet → Type 0
IsNamed (Blue site seq) = (1 ≤ site) × (site ≤ 8)
IsNamed (Red slot) = Unit {0}

-- the values that stand in these slots
abbrev pub with_front : {A : Type 0} → Option A → List A → List A
with_front None xs = xs
with_front (Some x) xs = x ∷ xs

abbrev pub picked : List Op → List Slot → List Op
picked values [] = []
picked values (slot ∷ slots) = with_front (slice_get values slot.number) (picked values slots)

-- the operations are those that the history published
pub record ArePublished (doc : Document) (h : History) (k : Published) : Type 0 where
  pub eight : length k.blues ≡ 8
  pub lists : (o : ℕ) → medium_in k o ≡ published doc h o
  pub order : k.order ≡ packets_in h
  pub inserts : k.inserts ≡ inserts_in (all_to (published doc h) 9)
  pub changes : k.changes ≡ changes_used (published doc h)
  pub room : k.room + length k.order ≡ doc.asks

-- each slot was given by the region, and there is space for so many further operations in it, in each list, in the order of reds and in the order of
-- publishing, and a number for each
pub record HasSpace (blues : Placed Op) (lists : List (Vec Slot)) (reds : Slots) (capacity long room : ℕ) : Type 0 where
  pub eight : length lists ≡ 8
  pub given : (place : ℕ) (slots : Vec Slot) → slice_get lists place ≡ Some slots → All (λ slot. slot.number < length blues.values) slots.items
  pub lists_space : (place : ℕ) (slots : Vec Slot) → slice_get lists place ≡ Some slots → length slots.items + room ≤ vec_capacity slots
  pub lists_few : (place : ℕ) (slots : Vec Slot) → slice_get lists place ≡ Some slots → length slots.items + room < 2 ^ 32
  pub blues_space : room ≤ blues.spare
  pub reds_space : room ≤ reds.room
  pub order_space : long + room ≤ capacity

-- so many lists, in none of which a slot stands and each of which has space for so many
pub record AreSlots (many room : ℕ) (lists : List (Vec Slot)) : Type 0 where
  pub long : length lists ≡ many
  pub empty : (place : ℕ) (slots : Vec Slot) → slice_get lists place ≡ Some slots → slots.items ≡ []
  pub space : (place : ℕ) (slots : Vec Slot) → slice_get lists place ≡ Some slots → room ≤ vec_capacity slots
