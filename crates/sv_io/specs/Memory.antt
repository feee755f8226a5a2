-- What sources and sinks in memory hold, and what a call of them does.
use Rattle.std.specs.Prelude.{Option, Result, ◌≡◌, ℕ, ◌-◌, ◌<◌, List, Bool, ◌&&◌, nat_le, ◌++◌, length, take, drop, min, Contains, None, Some, Ok, Err, if◌then◌else◌}
use Rattle.sv_io.specs.Faults.{raised}

-- the numbers, from 1, of the calls that fail; how many calls were made; how many faults came
pub record Calls : Type 0 where
  pub fail : List ℕ
  pub made : ℕ
  pub faults : ℕ

-- the number of the next call stands among those that fail
abbrev pub FailsNext : Calls → Type 0
FailsNext calls = Contains calls.fail (raised calls.made)

-- one more call was made
abbrev pub called : Calls → Calls
called calls = record calls { made = raised calls.made }

-- one more call was made, and it failed
abbrev pub failed : Calls → Calls
failed calls = record { fail = calls.fail; made = raised calls.made; faults = raised calls.faults }

-- the calls after one that answered so
abbrev pub after_call : {A E : Type 0} → Result A E → Calls → Calls
after_call (Ok _) calls = called calls
after_call (Err _) calls = failed calls

-- the bytes that a source has left, the most that a call gives, and its calls
pub record Feed : Type 0 where
  pub left : List ℕ
  pub step : ℕ
  pub calls : Calls

-- how many bytes a call gives into a buffer of `room` bytes
abbrev pub given : Feed → ℕ → ℕ
given feed room = min room (min feed.step (length feed.left))

-- the source after a call that answered so
abbrev pub after_read : {E : Type 0} → Result ℕ E → Feed → Feed
after_read (Ok count) feed = record { left = drop count feed.left; step = feed.step; calls = called feed.calls }
after_read (Err _) feed = record { left = feed.left; step = feed.step; calls = failed feed.calls }

-- the bytes that a sink keeps, and how many it has room for
pub record Held : Type 0 where
  pub bytes : List ℕ
  pub room : ℕ

-- what a sink took, the most that a call takes, and its calls
pub record Tray : Type 0 where
  pub held : Held
  pub step : ℕ
  pub calls : Calls

-- how many more bytes there is room for
abbrev pub free : Held → ℕ
free held = held.room - length held.bytes

-- the room is used up, and the piece isn't empty
abbrev pub IsFull : Held → List ℕ → Type 0
IsFull held piece = (free held ≡ 0) × (0 < length piece)

-- these bytes are kept behind the others
abbrev pub keeping : Held → List ℕ → Held
keeping held bytes = record { bytes = held.bytes ++ bytes; room = held.room }

-- how many of `count` bytes a call takes
abbrev pub accepted : Tray → ℕ → ℕ
accepted tray count = min count (min tray.step (free tray.held))

-- the sink after a call with this piece that answered so
abbrev pub after_write : {E : Type 0} → Result ℕ E → List ℕ → Tray → Tray
after_write (Ok count) piece tray = record { held = keeping tray.held (take count piece); step = tray.step; calls = called tray.calls }
after_write (Err _) piece tray = record { held = tray.held; step = tray.step; calls = failed tray.calls }

-- the bytes that a sink keeps, and whether they are all that came
pub record Sure : Type 0 where
  pub held : Held
  pub whole : Bool

-- the bytes, where they are all that came
abbrev pub told : Sure → Option (List ℕ)
told sure = if sure.whole then Some sure.held.bytes else None

-- the sink after this piece: it keeps the first bytes that it has room for
abbrev pub after_piece : List ℕ → Sure → Sure
after_piece piece sure = record { held = keeping sure.held (take (free sure.held) piece); whole = sure.whole && nat_le (length piece) (free sure.held) }
