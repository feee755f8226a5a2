-- What a call learned of rows: there are reads that it made; they are just what was noted, and what the tables give, where these are told; and a fact
-- holds of all tables that agree with them.
use Rattle.std.specs.Prelude.{◌≡◌, List, ◌++◌, Option, MatchOption}
use Rattle.std.specs.Option.{option_map}
use Rattle.sv_app.specs.Tables.{Tables}
use Rattle.sv_effect.specs.Faces.{Face}
use Rattle.sv_effect.specs.Reads.{ReadValue}
use Rattle.sv_effect.specs.Agrees.{Agrees}

-- the list of reads with these behind it, where it is told
abbrev pub noted_more : List ReadValue → Option (List ReadValue) → Option (List ReadValue)
noted_more reads noted = option_map (λ earlier. earlier ++ reads) noted

-- the tables that are told agree with the reads
abbrev pub TableAgrees : Option Tables → List ReadValue → Type 0
TableAgrees told reads = MatchOption told (Unit {0}) (λ t. Agrees t reads)

pub record Follows (face_before face_now : Face) (before now : Option (List ReadValue)) (Fact : Tables → Type 0) : Type 0 where
  pub reads : List ReadValue
  pub same : face_now ≡ face_before
  pub noted : now ≡ noted_more reads before
  pub honest : TableAgrees face_before.tables reads
  pub holds : (t : Tables) → Agrees t reads → Fact t
