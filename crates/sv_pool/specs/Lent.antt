-- What a region ends as, where a value of it was lent: it has what was last written there, and all else as before.
use Rattle.std.specs.Borrow.{Lends, Fml, RattleType, MutBor}
use Rattle.sv_pool.specs.declared.regions.Slot.{Slot}
use Rattle.sv_pool.specs.Placed.{Placed, with_value}
use Rattle.sv_pool.specs.contracts.regions.Region.{the_row}

abbrev pub lends_value : (T : RattleType) → MutBor (Placed T.Denot) → Slot → MutBor T.Denot → Fml
lends_value T s slot r = Lends (the_row T) T s r (with_value s.now slot)
