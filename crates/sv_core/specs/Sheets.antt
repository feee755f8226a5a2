-- What a sheet knows: the answers that were fetched, in the order in which they came; and for how many more there is room.
use Rattle.std.specs.Prelude.{◌≡◌, ℕ, ◌<◌, ◌≤◌, ◌+◌, ◌-◌, ◌==◌, ◌&&◌, Bool, true, false, List, [], ◌∷◌, ◌++◌, All, length, Option, Some, None, slice_get}
use Rattle.std.specs.List.{filter, list_any}
use Rattle.std.specs.Option.{option_cmp}
use Rattle.std.specs.Ordering.{eq_by_cmp}
use Rattle.sv_value.specs.declared.values.Key.{Key}
use Rattle.sv_value.specs.Orders.{key_cmp}
use Rattle.sv_app.specs.Schema.{Declaration, schema_of}
use Rattle.sv_app.specs.Tables.{Tables}
use Rattle.sv_effect.specs.declared.reads.Ask.{Ask}
use Rattle.sv_effect.specs.declared.reads.Read.{Read}
use Rattle.sv_effect.specs.declared.reads.Ask.TheVariants.{Row, Next}
use Rattle.sv_effect.specs.Agrees.{Agrees, Gives, is_after, is_present, place_at}
use Rattle.sv_effect.specs.Reads.{Answer, IsRow, IsKey, ReadValue}
use Rattle.sv_effect.specs.RowsFit.{KeyIsOf, SeenFits}
use Rattle.sv_effect.specs.TablesOfCut.{is_place}
use Rattle.sv_core.specs.declared.docs.Doc.{Doc}

pub record SheetView : Type 0 where
  pub doc : Doc
  pub known : List ReadValue
  pub room : ℕ

abbrev pub is_ask : Ask → Ask → Bool
is_ask (Row table key) (Row other asked) = is_place (place_at table key) (place_at other asked)
is_ask (Row table key) (Next other after) = false
is_ask (Next table after) (Row other asked) = false
is_ask (Next table after) (Next other behind) = (table == other) && eq_by_cmp (option_cmp key_cmp) after behind

-- whether the ask has an answer among these
abbrev pub is_known : List ReadValue → Ask → Bool
is_known known ask = list_any (λ read. is_ask ask read.ask) known

-- the answer to the ask stands at the place
pub record IsAnswered (reads : List Read) (ask : Ask) (place : ℕ) : Type 0 where
  pub read : Read
  pub stands : slice_get reads place ≡ Some read
  pub is : read.ask ≡ ask

-- none of the reads from the one place on and before the other answers the ask
pub record AreOthers (reads : List Read) (ask : Ask) (from to : ℕ) : Type 0 where
  pub none : (place : ℕ) (read : Read) → from ≤ place → place < to → slice_get reads place ≡ Some read → is_ask ask read.ask ≡ false

-- the answer is such as tables of the application give
abbrev pub AnswerFits : List Declaration → Ask → Answer → Type 0
AnswerFits schema (Row table key) (IsRow seen) = SeenFits schema (place_at table key) seen
AnswerFits schema (Row table key) (IsKey next) = ⊥
AnswerFits schema (Next table after) (IsRow seen) = ⊥
AnswerFits schema (Next table after) (IsKey None) = Unit {0}
AnswerFits schema (Next table after) (IsKey (Some key)) = KeyIsOf schema (place_at table key) × (is_after after key ≡ true)

abbrev pub ReadsFit : List Declaration → List ReadValue → Type 0
ReadsFit schema known = All (λ read. AnswerFits schema read.ask read.answer) known

-- the read tells a key of the table that comes behind that one
abbrev pub tells_key : ℕ → Option Key → Ask → Answer → Bool
tells_key table after (Next asked from) (IsKey (Some key)) = (asked == table) && is_after after key
tells_key table after (Next asked from) (IsKey None) = false
tells_key table after (Next asked from) (IsRow seen) = false
tells_key table after (Row asked key) answer = false

abbrev pub is_telling : ℕ → Option Key → ReadValue → Bool
is_telling table after read = tells_key table after read.ask read.answer

-- how many of the keys that are known to follow another come behind that one
abbrev pub rest_in : List ReadValue → ℕ → Option Key → ℕ
rest_in known table after = length (filter (is_telling table after) known)

-- the sheet has this answer to the ask
pub record Knows (sheet : SheetView) (ask : Ask) (answer : Answer) : Type 0 where
  pub place : ℕ
  pub stands : slice_get sheet.known place ≡ Some (record { ask = ask; answer = answer })
  pub fits : AnswerFits (schema_of sheet.doc.app.tables.items) ask answer

abbrev pub with_read : SheetView → ReadValue → SheetView
with_read sheet read = record { doc = sheet.doc; known = sheet.known ++ read ∷ []; room = sheet.room - 1 }

-- the ask was answered by what the tables give, and nothing else was added
pub record IsAdded (t : Tables) (ask : Ask) (before after : SheetView) : Type 0 where
  pub answer : Answer
  pub gives : Gives t ask answer
  pub is : after ≡ with_read before (record { ask = ask; answer = answer })

-- the row of a key, or the ask for what follows it
abbrev pub IsOfKey : ℕ → Key → Ask → Type 0
IsOfKey table key (Row other asked) = (other ≡ table) × (asked ≡ key)
IsOfKey table key (Next other None) = ⊥
IsOfKey table key (Next other (Some asked)) = (other ≡ table) × (asked ≡ key)

-- a row of the table that is present behind the key, or the ask for what follows it
abbrev pub IsBehind : Tables → ℕ → Option Key → Ask → Type 0
IsBehind t table after (Row other key) = (other ≡ table) × (is_after after key ≡ true) × (is_present t table key ≡ true)
IsBehind t table after (Next other None) = ⊥
IsBehind t table after (Next other (Some key)) = (other ≡ table) × (is_after after key ≡ true) × (is_present t table key ≡ true)

-- nothing follows a row; what follows the ask for a next key is what is behind the key that it was asked after
abbrev pub Follows : Tables → Ask → Ask → Type 0
Follows t (Row table key) other = ⊥
Follows t (Next table after) other = IsBehind t table after other

-- none of these was known before it came
abbrev pub AreNew : List ReadValue → List ReadValue → Type 0
AreNew known [] = Unit {0}
AreNew known (read ∷ more) = (is_known known read.ask ≡ false) × AreNew (known ++ read ∷ []) more

-- so many reads were added: they weren't known, are of this kind, and have the answers that the tables give
pub record Adds (t : Tables) (Kind : Ask → Type 0) (before : SheetView) (count : ℕ) (after : SheetView) : Type 0 where
  pub more : List ReadValue
  pub doc : after.doc ≡ before.doc
  pub known : after.known ≡ before.known ++ more
  pub many : count ≡ length more
  pub room : after.room + count ≡ before.room
  pub new : AreNew before.known more
  pub given : Agrees t more
  pub kinds : All (λ read. Kind read.ask) more

-- the ask has its answer then, and all else that was added follows it
pub record IsFetch (t : Tables) (ask : Ask) (before : SheetView) (count : ℕ) (after : SheetView) : Type 0 where
  pub between : SheetView
  pub first : Adds t (λ asked. asked ≡ ask) before 1 between
  pub rest : ℕ
  pub follow : Adds t (Follows t ask) between rest after
  pub many : count ≡ rest + 1
