-- What a text is: at most 40 printable ASCII bytes without the quote.
use Rattle.std.specs.Prelude.{ℕ, Bool, List, length, nat_le, ◌==◌, ◌&&◌, not}
use Rattle.std.specs.List.{list_all}

abbrev pub is_text_byte : ℕ → Bool
is_text_byte byte = nat_le 32 byte && nat_le byte 126 && not (byte == 39)

abbrev pub is_text : List ℕ → Bool
is_text bytes = nat_le (length bytes) 40 && list_all is_text_byte bytes
