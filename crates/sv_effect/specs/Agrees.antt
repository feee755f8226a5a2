-- What tables answer to an ask, and tables that agree with reads: each row and each next key that was answered is what the tables give.
use Rattle.std.specs.Prelude.{◌≡◌, ℕ, Bool, true, false, List, [], ◌∷◌, Option, Some, None}
use denote.Bor.{Bor}
use Rattle.std.specs.Option.{option_map}
use Rattle.std.specs.Ordering.{is_lt}
use Rattle.std.specs.FinMap.{get}
use Rattle.sv_value.specs.Orders.{key_cmp}
use Rattle.sv_value.specs.declared.values.Key.{Key}
use Rattle.sv_app.specs.declared.places.Place.{Place}
use Rattle.sv_app.specs.Tables as tables
use Rattle.sv_app.specs.Tables.{Tables}
pub use Rattle.sv_app.specs.Valid.{place_at}
use Rattle.sv_effect.specs.declared.reads.Ask.{Ask}
use Rattle.sv_effect.specs.declared.reads.Ask.TheVariants.{Row, Next}
use Rattle.sv_effect.specs.Reads.{SeenValue, Answer, IsRow, IsKey, ReadValue}

-- the key behind a reference, if there is one
abbrev pub key_behind : Option (Bor Key) → Option Key
key_behind after = option_map (λ key. key.now) after

-- a row that is kept has its values; one that isn't has none, and isn't present
abbrev pub seen_in : Option tables.Row → SeenValue
seen_in None = record { kept = false; present = false; values = [] }
seen_in (Some row) = record { kept = true; present = row.present; values = row.values }

abbrev pub seen_at : Tables → Place → SeenValue
seen_at t place = seen_in (get t place)

abbrev pub is_present : Tables → ℕ → Key → Bool
is_present t table key = (seen_at t (place_at table key)).present

abbrev pub is_after : Option Key → Key → Bool
is_after None key = true
is_after (Some after) key = is_lt (key_cmp after key)

-- the least key after the given one at which the test holds, or none
abbrev pub IsNextBy : (Key → Bool) → Option Key → Option Key → Type 0
IsNextBy p after None = (key : Key) → is_after after key ≡ true → p key ≡ false
IsNextBy p after (Some next) =
    (is_after after next ≡ true) × (p next ≡ true)
    × ((key : Key) → is_after after key ≡ true → is_lt (key_cmp key next) ≡ true → p key ≡ false)

-- the least key after the given one whose row is present, or none if there is none
abbrev pub IsNextKey : Tables → ℕ → Option Key → Option Key → Type 0
IsNextKey t table after None = IsNextBy (is_present t table) after None
IsNextKey t table after (Some next) = IsNextBy (is_present t table) after (Some next)

-- the answer is what the tables give
abbrev pub Gives : Tables → Ask → Answer → Type 0
Gives t (Row table key) (IsRow seen) = seen_at t (place_at table key) ≡ seen
Gives t (Next table after) (IsKey next) = IsNextKey t table after next
Gives _ _ _ = ⊥

abbrev pub Agrees : Tables → List ReadValue → Type 0
Agrees t [] = Unit {0}
Agrees t (read ∷ reads) = Gives t read.ask read.answer × Agrees t reads
