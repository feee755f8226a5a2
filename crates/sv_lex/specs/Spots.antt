-- Lines and columns: both count from 1, a line ends at a line feed, and columns count bytes.
use Rattle.std.specs.Prelude.{ℕ, ◌+◌, Bool, List, length, take, reverse, ◌==◌, not, count_by, take_while}
use Rattle.sv_value.specs.declared.spots.Spot.{Spot}

abbrev pub is_line_feed : ℕ → Bool
is_line_feed byte = byte == 10

abbrev pub is_in_line : ℕ → Bool
is_in_line byte = not (is_line_feed byte)

-- the place past these bytes: how many line feeds are in them, and how many bytes come after the last of these
unfoldable pub spot_past : List ℕ → Spot
spot_past bytes = record {
  line = 1 + count_by is_line_feed bytes;
  col = 1 + length (take_while is_in_line (reverse bytes));
}

-- the line and the column of a place
abbrev pub spot_at : List ℕ → ℕ → Spot
spot_at bytes at = spot_past (take at bytes)
