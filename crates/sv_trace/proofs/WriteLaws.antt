-- Writes that fit their table, in column order, and the types of a row after them.
use Rattle.std.proofs.Common.{◌≡◌, ◌∙◌, ℕ, zero, suc, ◌+◌, ◌<◌, ◌==◌, ◌||◌, if◌then◌else◌, Bool, true, false, List, [], ◌∷◌, ◌++◌, map, Some, slice_get, pos, refl, sym, ap, subst, arith}
use Rattle.std.specs.Option.{option_map}
use Rattle.std.proofs.lemmas.Option.{slice_get-map}
use Rattle.sv_value.specs.declared.values.Val.{Val}
use Rattle.sv_value.specs.declared.values.Val.TheVariants as vals
use Rattle.sv_app.specs.declared.apps.Ident.{Ident}
use Rattle.sv_app.specs.declared.gots.Got.{Got}
use Rattle.sv_app.specs.declared.gots.Got.TheVariants as gots
use Rattle.sv_app.specs.declared.schemas.Column.{Column}
use Rattle.sv_app.specs.declared.schemas.Ty.{Ty}
use Rattle.sv_app.specs.declared.schemas.Ty.TheVariants as types
use Rattle.sv_app.specs.Fitting.{HasType}
use Rattle.sv_app.specs.Paths.{type_in}
use Rattle.sv_app.specs.Schema.{Declaration}
use Rattle.sv_app.specs.Slots.{with_item}
use Rattle.sv_app.specs.Symbols as symbols
use Rattle.sv_effect.specs.declared.ops.Write.{Write}
use Rattle.sv_effect.specs.declared.ops.Write.TheVariants.{Delta, Set}
use Rattle.sv_effect.specs.BareTables.{got_of}
use Rattle.sv_effect.specs.Fits.{is_key_column, WriteFits, IsWrite, AreWrites, AllAbove, Ascending, columns_written}
use Rattle.sv_effect.specs.RunChanges.{written_got, with_write, with_writes, writes_at, in_order}
use Rattle.sv_effect.specs.RunValues.{column}
use Rattle.sv_app.proofs.TestLaws.{test_same}
use Rattle.sv_trace.specs.Standing.{type_of_val, type_of_got}
use Rattle.sv_trace.proofs.TermLaws.{type_at, type_of_column}

pub has_type : (ty : Ty) (v : Val) → type_of_val v ≡ ty → HasType ty v
has_type ty (vals.Int n) e = subst (λ t. HasType t (vals.Int n)) e tt
has_type ty (vals.Text text) e = subst (λ t. HasType t (vals.Text text)) e tt

pub type_had : (ty : Ty) (v : Val) → HasType ty v → type_of_val v ≡ ty
type_had types.Int (vals.Int n) has = refl
type_had types.Int (vals.Text text) has = absurd has
type_had types.Text (vals.Int n) has = absurd has
type_had types.Text (vals.Text text) has = refl
type_had types.Ints (vals.Int n) has = absurd has
type_had types.Ints (vals.Text text) has = absurd has

pub key_same : (key : List Ident) (n : ℕ) → is_key_column key n ≡ symbols.is_key_column key n
key_same [] n = refl
key_same (name ∷ names) n = ap (λ b. (name.num == n) || b) (key_same names n)

-- a write to a column fits it, if the column is there
abbrev pub Suited : List Column → List (ℕ × Write) → Type 0
Suited columns [] = Unit {0}
Suited columns (w ∷ ws) = ((column : Column) → slice_get columns w.0 ≡ Some column → WriteFits column w.1) × Suited columns ws

-- one write to the column, or none
abbrev pub AtMostOne : Declaration → ℕ → List (ℕ × Write) → Type 0
AtMostOne table c [] = Unit {0}
AtMostOne table c (w ∷ []) = (w.0 ≡ c) × IsWrite table w.0 w.1
AtMostOne table c (w ∷ v ∷ ws) = ⊥

front_writes : (table : Declaration) (c : ℕ) (front rest : List (ℕ × Write)) → AtMostOne table c front → AreWrites table rest → AreWrites table (front ++ rest)
front_writes table c [] rest one more = more
front_writes table c (w ∷ []) rest one more = (one.1, more)
front_writes table c (w ∷ v ∷ ws) rest one more = absurd one

front_above : (table : Declaration) (n c : ℕ) (front rest : List (ℕ × Write)) → n < c → AtMostOne table c front → AllAbove n (columns_written rest) → AllAbove n (columns_written (front ++ rest))
front_above table n c [] rest less one more = more
front_above table n c (w ∷ []) rest less one more = (omega (arith, less, one.0), more)
front_above table n c (w ∷ v ∷ ws) rest less one more = absurd one

front_order : (table : Declaration) (c : ℕ) (front rest : List (ℕ × Write)) → AtMostOne table c front → AllAbove c (columns_written rest) → Ascending (columns_written rest) → Ascending (columns_written (front ++ rest))
front_order table c [] rest one above more = more
front_order table c (w ∷ []) rest one above more = (subst (λ n. AllAbove n (columns_written rest)) (sym one.0) above, more)
front_order table c (w ∷ v ∷ ws) rest one above more = absurd one

one_at : (table : Declaration) (c : ℕ) (k : Column) (ws : List (ℕ × Write)) → slice_get table.columns c ≡ Some k → is_key_column table.key c ≡ false → Suited table.columns ws → AtMostOne table c (writes_at c ws)
one_at table c k [] at outside suited = tt
one_at table c k (w ∷ ws) at outside suited = by_test (w.0 == c) refl (one_at table c k ws at outside suited.1)
  where
    by_test : (b : Bool) → (w.0 == c) ≡ b → AtMostOne table c (writes_at c ws) → AtMostOne table c (if b then w ∷ [] else writes_at c ws)
    by_test true e rest =
        let same : w.0 ≡ c = test_same w.0 c e in
        let here : slice_get table.columns w.0 ≡ Some k = ap (slice_get table.columns) same ∙ at in
        (same, record { column = k; declared = here; outside = ap (is_key_column table.key) same ∙ outside; fits = suited.0 k here })
    by_test false e rest = rest

-- the columns are those of the table from so many on
abbrev pub AreFrom : Declaration → ℕ → List Column → Type 0
AreFrom table c columns = (j : ℕ) → slice_get columns j ≡ slice_get table.columns (c + j)

pub from_next : (table : Declaration) (c : ℕ) (k : Column) (columns : List Column) → AreFrom table c (k ∷ columns) → AreFrom table (suc c) columns
from_next table c k columns from j = from (suc j) ∙ (let e : (c + suc j) ≡ (suc c + j) = omega arith in ap (slice_get table.columns) e)

pub from_here : (table : Declaration) (c : ℕ) (k : Column) (columns : List Column) → AreFrom table c (k ∷ columns) → slice_get table.columns c ≡ Some k
from_here table c k columns from = (let e : c ≡ (c + 0) = omega arith in ap (slice_get table.columns) e) ∙ sym (from 0)

pub from_start : (table : Declaration) → AreFrom table 0 table.columns
from_start table j = let e : j ≡ (0 + j) = omega arith in ap (slice_get table.columns) e

-- the writes of one column, none where it is of the key
front_one : (table : Declaration) (c : ℕ) (k : Column) (ws : List (ℕ × Write)) (b : Bool) → symbols.is_key_column table.key c ≡ b → slice_get table.columns c ≡ Some k → Suited table.columns ws
    → AtMostOne table c (if b then [] else writes_at c ws)
front_one table c k ws true is at suited = tt
front_one table c k ws false is at suited = one_at table c k ws at (key_same table.key c ∙ is) suited

pub ordered_writes : (table : Declaration) (c : ℕ) (columns : List Column) (ws : List (ℕ × Write)) → AreFrom table c columns → Suited table.columns ws → AreWrites table (in_order table c columns ws)
ordered_writes table c [] ws from suited = tt
ordered_writes table c (k ∷ columns) ws from suited =
    front_writes table c (if symbols.is_key_column table.key c then [] else writes_at c ws) (in_order table (suc c) columns ws)
    (front_one table c k ws (symbols.is_key_column table.key c) refl (from_here table c k columns from) suited) (ordered_writes table (suc c) columns ws (from_next table c k columns from) suited)

ordered_above : (table : Declaration) (n c : ℕ) (columns : List Column) (ws : List (ℕ × Write)) → n < c → AreFrom table c columns → Suited table.columns ws → AllAbove n (columns_written (in_order table c columns ws))
ordered_above table n c [] ws less from suited = tt
ordered_above table n c (k ∷ columns) ws less from suited =
    front_above table n c (if symbols.is_key_column table.key c then [] else writes_at c ws) (in_order table (suc c) columns ws) less
    (front_one table c k ws (symbols.is_key_column table.key c) refl (from_here table c k columns from) suited) (ordered_above table n (suc c) columns ws (omega (arith, less)) (from_next table c k columns from) suited)

pub ordered : (table : Declaration) (c : ℕ) (columns : List Column) (ws : List (ℕ × Write)) → AreFrom table c columns → Suited table.columns ws → Ascending (columns_written (in_order table c columns ws))
ordered table c [] ws from suited = tt
ordered table c (k ∷ columns) ws from suited =
    front_order table c (if symbols.is_key_column table.key c then [] else writes_at c ws) (in_order table (suc c) columns ws)
    (front_one table c k ws (symbols.is_key_column table.key c) refl (from_here table c k columns from) suited)
    (ordered_above table c (suc c) columns ws (omega arith) (from_next table c k columns from) suited) (ordered table (suc c) columns ws (from_next table c k columns from) suited)

-- a value of the type that stands there keeps the types of a row
put_typed : (row : List Got) (tys : List Ty) (c : ℕ) (d g : Got) → map type_of_got row ≡ tys → slice_get tys c ≡ Some (type_of_got g) → map type_of_got (with_item d c g row) ≡ tys
put_typed row [] c d g e at = absurd cc
put_typed [] (t ∷ ts) c d g e at = absurd cc
put_typed (y ∷ ys) (t ∷ ts) zero d g e at =
    let same : t ≡ type_of_got g = cc in
    let rest : map type_of_got ys ≡ ts = cc in
    λ i. sym same i ∷ rest i
put_typed (y ∷ ys) (t ∷ ts) (suc c) d g e at =
    let same : type_of_got y ≡ t = cc in
    let rest : map type_of_got ys ≡ ts = cc in
    let more : map type_of_got (with_item d c g ys) ≡ ts = put_typed ys ts c d g rest at in
    λ i. same i ∷ more i

of_val : (v : Val) → type_of_got (got_of v) ≡ type_of_val v
of_val (vals.Int n) = refl
of_val (vals.Text text) = refl

pub got_type : (v : Val) → type_of_got (got_of v) ≡ type_of_val v
got_type v = of_val v

written_type : (k : Column) (w : Write) (g : Got) → WriteFits k w → type_of_got g ≡ k.ty → type_of_got (written_got w g) ≡ k.ty
written_type k (Delta d) (gots.Num n) fits typed = typed
written_type k (Delta d) (gots.Text text) fits typed = typed
written_type k (Set v) g fits typed = of_val v ∙ type_had k.ty v fits.1

pub written_types : (table : Declaration) (ws : List (ℕ × Write)) (row : List Got) → AreWrites table ws → map type_of_got row ≡ map (λ (k : Column). k.ty) table.columns
    → map type_of_got (with_writes ws row) ≡ map (λ (k : Column). k.ty) table.columns
written_types table [] row writes typed = typed
written_types table (w ∷ ws) row writes typed =
    let k : Column = writes.0.column in
    let was : type_of_got (column row w.0) ≡ k.ty = type_at (map (λ (x : Column). x.ty) table.columns) row w.0 typed ∙ type_of_column table.columns w.0 ∙ ap type_in writes.0.declared in
    let is : type_of_got (written_got w.1 (column row w.0)) ≡ k.ty = written_type k w.1 (column row w.0) writes.0.fits was in
    let at : slice_get (map (λ (x : Column). x.ty) table.columns) w.0 ≡ Some (type_of_got (written_got w.1 (column row w.0))) =
    slice_get-map (λ (x : Column). x.ty) table.columns w.0 ∙ ap (λ o. option_map (λ (x : Column). x.ty) o) writes.0.declared ∙ ap (λ t. Some t) (sym is) in
    written_types table ws (with_write w row) writes.1 (put_typed row (map (λ (x : Column). x.ty) table.columns) w.0 (gots.Num (pos 0)) (written_got w.1 (column row w.0)) typed at)
