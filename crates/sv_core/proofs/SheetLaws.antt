-- What is known of a sheet, and what is added to it.
use Rattle.std.proofs.Common.{◌≡◌, ◌⊎◌, inl, inr, ⊎_elim, ℕ, zero, suc, ◌+◌, ◌-◌, ◌<◌, ◌≤◌, ◌==◌, ◌&&◌, ◌||◌, cond, Bool, true, false, List, [], ◌∷◌, ◌++◌, All, length, get_or, Option, Some, None, slice_get, refl, sym, ap, subst, ◌∙◌, arith}
use Rattle.std.specs.Prelude.{map, filter, IfSome, MatchOption}
use Rattle.std.specs.List.{list_any}
use Rattle.std.specs.Option.{option_cmp}
use Rattle.std.specs.Ordering.{is_eq, is_lt, eq_by_cmp}
use Rattle.std.specs.declared.cmp.Ordering.{Ordering}
use Rattle.std.specs.declared.cmp.Ordering.TheVariants.{Less, Equal, Greater}
use Rattle.std.specs.Cmp.{Equal-is}
use Rattle.std.proofs.lemmas.Bool.{cases_lt}
use Rattle.std.proofs.lemmas.Bool.Decides.{nat_tests, eqb_tells}
use Rattle.std.proofs.lemmas.Cmp.{eq_by_cmp_equiv}
use Rattle.std.proofs.lemmas.Option.{get_or_from_slice_get, slice_get_within}
use Rattle.std.proofs.lemmas.Map.Lookups.{CmpEqualImpliesEq}
use Rattle.std.proofs.lemmas.Map.Views.{tells_apart}
use Rattle.sv_value.specs.declared.values.Key.{Key}
use Rattle.sv_value.specs.Orders.{key_cmp}
use Rattle.sv_value.proofs.OrderLaws.{exact_keys, key_total}
use Rattle.sv_app.specs.declared.places.Place.{Place}
use Rattle.sv_app.specs.Schema.{Declaration, schema_of}
use Rattle.sv_app.proofs.PlaceLaws.{exact_places, place_total}
use Rattle.sv_effect.specs.declared.reads.Ask.{Ask}
use Rattle.sv_effect.specs.declared.reads.Ask.TheVariants.{Row, Next}
use Rattle.sv_effect.specs.declared.reads.Read.{Read}
use Rattle.sv_effect.specs.Agrees.{is_after, place_at}
use Rattle.sv_effect.specs.Reads.{Answer, IsRow, IsKey, ReadValue, SeenValue, answer_of, read_of}
use Rattle.sv_effect.specs.RowsFit.{KeyIsOf, SeenFits}
use Rattle.sv_core.specs.declared.docs.Doc.{Doc}
use Rattle.sv_core.specs.Sheets.{AnswerFits, AreOthers, IsAnswered, Knows, ReadsFit, SheetView, is_ask, is_known, is_telling, rest_in, tells_key}

both_true : (a b : Bool) → (a && b) ≡ true → (a ≡ true) × (b ≡ true)
both_true true b e = (refl, e)
both_true false b e = absurd cc

exact_options : CmpEqualImpliesEq (option_cmp key_cmp)
exact_options None None h = refl
exact_options None (Some y) h = cc
exact_options (Some x) None h = cc
exact_options (Some x) (Some y) h = ap (λ a. Some a) (exact_keys x y h)

-- asks that pass the test are the same
pub exact_asks : (a b : Ask) → is_ask a b ≡ true → b ≡ a
exact_asks (Row table key) (Row other asked) is = let same : place_at table key ≡ place_at other asked = tells_apart exact_places (place_at table key) (place_at other asked) is in
    sym (ap (λ (p : Place). Row p.table p.key) same)
exact_asks (Row table key) (Next other after) is = absurd cc
exact_asks (Next table after) (Row other asked) is = absurd cc
exact_asks (Next table after) (Next other behind) is =
    let parts = both_true (table == other) (eq_by_cmp (option_cmp key_cmp) after behind) is in
    let tables : table ≡ other = grind (arith, nat_tests, parts.0) in
    let keys : after ≡ behind = tells_apart exact_options after behind parts.1 in
    sym (ap (λ n. Next n after) tables ∙ ap (Next other) keys)

pub others_none : (reads : List Read) (ask : Ask) (from : ℕ) → AreOthers reads ask from from
others_none reads ask from = record { none = λ place read at below stands. absurd (omega (arith, at, below)) }

pub others_more : (reads : List Read) (ask : Ask) (from to : ℕ) (read : Read) → slice_get reads to ≡ Some read → is_ask ask read.ask ≡ false → AreOthers reads ask from to → AreOthers reads ask from (to + 1)
others_more reads ask from to read at other before = record { none = λ place one here below stands. by place one here below stands (eqb_tells place to) }
  where
    by : (place : ℕ) (one : Read) → from ≤ place → place < to + 1 → slice_get reads place ≡ Some one → ((place == to ≡ true) × (place ≡ to)) ⊎ ((place == to ≡ false) × (place ≡ to → ⊥)) → is_ask ask one.ask ≡ false
    by place one here below stands (inl same) =
        let is : Some read ≡ Some one = sym at ∙ ap (slice_get reads) (sym same.1) ∙ stands in
        let same_read : read ≡ one = cc in
        ap (λ (r : Read). is_ask ask r.ask) (sym same_read) ∙ other
    by place one here below stands (inr apart) = before.none place one here (omega (arith, below, apart.1)) stands

none_known : (reads : List Read) (ask : Ask) → ((place : ℕ) (read : Read) → slice_get reads place ≡ Some read → is_ask ask read.ask ≡ false) → is_known (map read_of reads) ask ≡ false
none_known [] ask none = refl
none_known (read ∷ reads) ask none = rw (none 0 read refl) (none_known reads ask (λ place r at. none (suc place) r at))

pub others_all : (reads : List Read) (ask : Ask) (next : ℕ) → AreOthers reads ask next (length reads) → AreOthers reads ask 0 next → is_known (map read_of reads) ask ≡ false
others_all reads ask next behind before = none_known reads ask (λ place read at. ⊎_elim (λ low. before.none place read (omega arith) low at) (λ high. behind.none place read high (slice_get_within reads place read at) at) (cases_lt place next))

pub answered_or : (reads : List Read) (ask : Ask) (next : ℕ) (result : Option ℕ) → AreOthers reads ask next (length reads) → MatchOption result (AreOthers reads ask 0 next) (λ place. IsAnswered reads ask place)
    → MatchOption result (is_known (map read_of reads) ask ≡ false) (λ place. IsAnswered reads ask place)
answered_or reads ask next None behind before = others_all reads ask next behind before
answered_or reads ask next (Some place) behind is = is

map_get : (reads : List Read) (place : ℕ) (read : Read) → slice_get reads place ≡ Some read → slice_get (map read_of reads) place ≡ Some (read_of read)
map_get [] place read at = absurd cc
map_get (x ∷ reads) zero read at = ap (λ r. Some r) (let same : x ≡ read = cc in ap read_of same)
map_get (x ∷ reads) (suc place) read at = map_get reads place read at

fits_get : (P : ReadValue → Type 0) (known : List ReadValue) (place : ℕ) (read : ReadValue) → All P known → slice_get known place ≡ Some read → P read
fits_get P known place read all at = subst P (get_or_from_slice_get known place read read at) (all place read (slice_get_within known place read at))

-- an answer that stands among the reads of a sheet is known
pub known_in : (doc : Doc) (reads items : List Read) (room : ℕ) (sheet : SheetView) (asked : Ask) (place : ℕ) (read : Read) → record { doc = doc; known = map read_of reads; room = room } ≡ sheet
    → ReadsFit (schema_of doc.app.tables.items) (map read_of reads) → items ≡ reads → IsAnswered items asked place → read ≡ get_or reads place read → Knows sheet asked (answer_of read.told)
known_in doc reads items room sheet asked place read view fits same is at = subst (λ s. Knows s asked (answer_of read.told)) view record {
  place = place;
  stands = stands;
  fits = fits_get (λ x. AnswerFits (schema_of doc.app.tables.items) x.ask x.answer) (map read_of reads) place (record { ask = asked; answer = answer_of read.told }) fits stands;
}
  where
    there : slice_get reads place ≡ Some is.read
    there = ap (λ l. slice_get l place) (sym same) ∙ is.stands

    one : read ≡ is.read
    one = at ∙ get_or_from_slice_get reads place is.read read there

    stands : slice_get (map read_of reads) place ≡ Some (record { ask = asked; answer = answer_of read.told })
    stands = map_get reads place is.read there ∙ ap (λ (r : Read). Some (read_of r)) (sym one) ∙ ap (λ a. Some (record { ask = a; answer = answer_of read.told })) (ap (λ (r : Read). r.ask) one ∙ is.is)

tied_options : (a : Option Key) → eq_by_cmp (option_cmp key_cmp) a a ≡ true
tied_options None = refl
tied_options (Some key) = (eq_by_cmp_equiv key_total).refl key

-- an ask asks for the same as itself
pub same_ask : (ask : Ask) → is_ask ask ask ≡ true
same_ask (Row table key) = (eq_by_cmp_equiv place_total).refl (place_at table key)
same_ask (Next table after) = let same : (table == table) ≡ true = grind (arith, nat_tests) in rw same (tied_options after)

any_at : (known : List ReadValue) (ask : Ask) (answer : Answer) (place : ℕ) → slice_get known place ≡ Some (record { ask = ask; answer = answer }) → is_known known ask ≡ true
any_at [] ask answer place at = absurd cc
any_at (read ∷ known) ask answer zero at = let is : read ≡ record { ask = ask; answer = answer } = cc in rw (ap (λ (r : ReadValue). is_ask ask r.ask) is ∙ same_ask ask) refl
any_at (read ∷ known) ask answer (suc place) at = either (is_ask ask read.ask) (any_at known ask answer place at)
  where
    either : (a : Bool) → is_known known ask ≡ true → (a || is_known known ask) ≡ true
    either true is = refl
    either false is = is

pub known_is : (sheet : SheetView) (ask : Ask) (answer : Answer) → Knows sheet ask answer → is_known sheet.known ask ≡ true
known_is sheet ask answer k = any_at sheet.known ask answer k.place k.stands

pub answered_known : (reads items : List Read) (ask : Ask) (place : ℕ) (known : List ReadValue) → items ≡ reads → map read_of reads ≡ known → IsAnswered items ask place → is_known known ask ≡ true
answered_known reads items ask place known same are is =
    subst (λ l. is_known l ask ≡ true) are
    (any_at (map read_of reads) ask (answer_of is.read.told) place
    (map_get reads place is.read (ap (λ l. slice_get l place) (sym same) ∙ is.stands) ∙ ap (λ a. Some (record { ask = a; answer = answer_of is.read.told })) is.is))

pub row_fits : (sheet : SheetView) (table : ℕ) (key : Key) (seen : SeenValue) → Knows sheet (Row table key) (IsRow seen) → (schema : List Declaration) → schema ≡ schema_of sheet.doc.app.tables.items
    → SeenFits schema (place_at table key) seen
row_fits sheet table key seen k schema is = subst (λ s. SeenFits s (place_at table key) seen) (sym is) k.fits

pub key_fits : (sheet : SheetView) (table : ℕ) (after next : Option Key) → Knows sheet (Next table after) (IsKey next)
    → IfSome next (λ key. (schema : List Declaration) → schema ≡ schema_of sheet.doc.app.tables.items → KeyIsOf schema (place_at table key))
key_fits sheet table after None k = tt
key_fits sheet table after (Some key) k = λ schema is. subst (λ s. KeyIsOf s (place_at table key)) (sym is) k.fits.0

pub key_rises : (sheet : SheetView) (table : ℕ) (after next : Option Key) → Knows sheet (Next table after) (IsKey next) → IfSome next (λ key. is_after after key ≡ true)
key_rises sheet table after None k = tt
key_rises sheet table after (Some key) k = k.fits.1

lower : (o : Ordering) → is_lt o ≡ true → o ≡ Less
lower Less e = refl
lower Equal e = absurd cc
lower Greater e = absurd cc

not_lower : (o : Ordering) → is_eq o ≡ true → is_lt o ≡ false
not_lower Less e = absurd cc
not_lower Equal e = refl
not_lower Greater e = absurd cc

-- what comes behind a later key comes behind the earlier one
pub later : (after : Option Key) (key other : Key) → is_after after key ≡ true → is_lt (key_cmp key other) ≡ true → is_after after other ≡ true
later None key other a lt = refl
later (Some first) key other a lt = ap is_lt (key_total.trans first key other (lower (key_cmp first key) a) (lower (key_cmp key other) lt))

-- fewer pass a narrower test
fewer : (p q : ReadValue → Bool) → ((x : ReadValue) → p x ≡ true → q x ≡ true) → (known : List ReadValue) → length (filter p known) ≤ length (filter q known)
fewer p q narrower [] = omega arith
fewer p q narrower (read ∷ known) = split (p read) (q read) (narrower read) (fewer p q narrower known)
  where
    split : (a b : Bool) → (a ≡ true → b ≡ true) → length (filter p known) ≤ length (filter q known)
        → length (cond a (read ∷ filter p known) (filter p known)) ≤ length (cond b (read ∷ filter q known) (filter q known))
    split true true h le = omega (arith, le)
    split true false h le = absurd (let e : false ≡ true = h refl in cc)
    split false true h le = omega (arith, le)
    split false false h le = le

-- and fewer still, where one that is there is left out
one_fewer : (p q : ReadValue → Bool) → ((x : ReadValue) → p x ≡ true → q x ≡ true) → (read : ReadValue) → p read ≡ false → q read ≡ true → (known : List ReadValue) (place : ℕ)
    → slice_get known place ≡ Some read → length (filter p known) < length (filter q known)
one_fewer p q narrower read out among [] place at = absurd cc
one_fewer p q narrower read out among (x ∷ known) zero at = let same : x ≡ read = cc in counted (p x) (q x) (ap p same ∙ out) (ap q same ∙ among) (fewer p q narrower known)
  where
    counted : (a b : Bool) → a ≡ false → b ≡ true → length (filter p known) ≤ length (filter q known) → length (cond a (x ∷ filter p known) (filter p known)) < length (cond b (x ∷ filter q known) (filter q known))
    counted true b e f le = absurd cc
    counted false true e f le = omega (arith, le)
    counted false false e f le = absurd cc
one_fewer p q narrower read out among (x ∷ known) (suc place) at = past (p x) (q x) (narrower x) (one_fewer p q narrower read out among known place at)
  where
    past : (a b : Bool) → (a ≡ true → b ≡ true) → length (filter p known) < length (filter q known) → length (cond a (x ∷ filter p known) (filter p known)) < length (cond b (x ∷ filter q known) (filter q known))
    past true true h lt = omega (arith, lt)
    past true false h lt = absurd (let e : false ≡ true = h refl in cc)
    past false true h lt = omega (arith, lt)
    past false false h lt = lt

narrower : (table : ℕ) (after : Option Key) (key : Key) → is_after after key ≡ true → (asked : Ask) (answer : Answer) → tells_key table (Some key) asked answer ≡ true → tells_key table after asked answer ≡ true
narrower table after key a (Next asked from) (IsKey (Some told)) is = let parts = both_true (asked == table) (is_lt (key_cmp key told)) is in rw parts.0 (later after key told a parts.1)
narrower table after key a (Next asked from) (IsKey None) is = absurd cc
narrower table after key a (Next asked from) (IsRow seen) is = absurd cc
narrower table after key a (Row asked told) answer is = absurd cc

-- fewer keys are known behind the next one
pub known_falls : (sheet : SheetView) (table : ℕ) (after : Option Key) (next : Option Key) → Knows sheet (Next table after) (IsKey next) → IfSome next (λ key. rest_in sheet.known table (Some key) < rest_in sheet.known table after)
known_falls sheet table after None k = tt
known_falls sheet table after (Some key) k =
    one_fewer (is_telling table (Some key)) (is_telling table after) (λ x. narrower table after key k.fits.1 x.ask x.answer) (record { ask = Next table after; answer = IsKey (Some key) })
    (rw same_table (not_lower (key_cmp key key) ((eq_by_cmp_equiv key_total).refl key))) (rw same_table k.fits.1) sheet.known k.place k.stands
  where
    same_table : (table == table) ≡ true
    same_table = grind (arith, nat_tests)

pub place_within : (reads items : List Read) (ask : Ask) (place : ℕ) → items ≡ reads → IsAnswered items ask place → place + 1 ≤ length reads
place_within reads items ask place same is = let within = slice_get_within items place is.read is.stands in omega (arith, within, ap (λ l. length l) same)
