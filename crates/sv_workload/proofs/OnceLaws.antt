-- A document gets one refusal, or is read in one way.
use Rattle.std.proofs.Common.{◌≡◌, ◌≢◌, ◌∙◌, ℕ, suc, ◌-◌, ◌<◌, ◌≤◌, max, ◌⊎◌, inl, inr, List, [], ◌∷◌, length, map, drop, Some, Ok, Err, refl, sym, ap, subst, arith}
use Rattle.std.specs.List.{slice_get}
use Rattle.std.proofs.lemmas.List.{length-map}
use Rattle.sv_value.specs.declared.spots.Spot.{Spot}
use Rattle.sv_lex.specs.declared.tokens.Token.{Token}
use Rattle.sv_app.specs.declared.refusals.Code.{Code}
use Rattle.sv_app.specs.declared.refusals.Refusal.{Refusal}
use Rattle.sv_app.specs.declared.requests.InitRow.{InitRow}
use Rattle.sv_app.specs.Codes.{number_of}
use Rattle.sv_app.specs.Schema.{Declaration}
use Rattle.sv_app.specs.Trees.{Transaction}
use Rattle.sv_app.specs.Valid.{Valid}
use Rattle.sv_check.specs.Initial.{initial_tables}
use Rattle.sv_check.specs.Initial as checked
use Rattle.sv_check.proofs.AnswerLaws.{not_valid}
use Rattle.sv_effect.specs.Initial.{AreDistinct}
use Rattle.sv_reader.specs.Places.{spot_of}
use Rattle.sv_reader.specs.Reading.{Read, IsLeft}
use Rattle.sv_workload.specs.declared.parts.Parts.{Parts}
use Rattle.sv_workload.specs.declared.written.Row.{Row}
use Rattle.sv_workload.specs.declared.parts.Work.{Work}
use Rattle.sv_workload.specs.declared.parts.Work.TheVariants as works
use Rattle.sv_workload.specs.declared.written.Given.{Given}
use Rattle.sv_workload.specs.declared.written.PartHead.TheVariants.{Replay as ReplayHead, Run as RunHead}
use Rattle.sv_workload.specs.Documents.{parts_of, AreRows, AreGood, AreParts, IsRefused, InInit, ByInvariant, InLast}
use Rattle.sv_workload.specs.Elements.{Refusals, IsFirst, AreNone}
use Rattle.sv_workload.specs.Grammar.{last_part}
use Rattle.sv_workload.specs.LastRefused.{LastRefused}
use Rattle.sv_workload.specs.Laws.{IsSame, RefusedOnce}
use Rattle.sv_workload.specs.Reading.{init_from}
use Rattle.sv_workload.specs.Rows.{init_row}
use Rattle.sv_workload.specs.Stops.{last_from}
use Rattle.sv_workload.specs.Written.{Last, Absent, Replay, Run}
use Rattle.sv_workload.proofs.DocumentLaws.{suffix_at, no_head}
use Rattle.sv_workload.proofs.InitLaws.{init_judged}
use Rattle.sv_workload.proofs.JudgeLaws.{Alike, reads}
use Rattle.sv_workload.proofs.KeptLaws.{rows_distinct}
use Rattle.sv_workload.proofs.LastPartLaws.{made_set}
use Rattle.sv_workload.proofs.SuffixLaws.{Suffix, init_suffix, last_suffix}
use Rattle.sv_workload.proofs.WorkLaws.{last_fails, last_only, last_reads, last_wrong}

-- two refusals that are the first

first_once : {R : Refusals} {c d : Code} {h k : List Token} → IsFirst R c h → IsFirst R d k → (length h ≡ length k) × (number_of c ≡ number_of d)
first_once {R} {c} {d} {h} {k} a b = by_order (a.first d k b.is) (b.first c h a.is)
  where
    by_order : (length k < length h) ⊎ ((length k ≡ length h) × (number_of c ≤ number_of d)) → (length h < length k) ⊎ ((length h ≡ length k) × (number_of d ≤ number_of c))
        → (length h ≡ length k) × (number_of c ≡ number_of d)
    by_order (inl x) (inl y) = absurd (omega (arith, x, y))
    by_order (inl x) (inr y) = absurd (omega (arith, x, y.0))
    by_order (inr x) (inl y) = absurd (omega (arith, x.0, y))
    by_order (inr x) (inr y) = (sym x.0, omega (arith, x.1, y.1))

same_suffix : (tokens h k : List Token) → Suffix tokens h → Suffix tokens k → length h ≡ length k → h ≡ k
same_suffix tokens h k s t e = sym (suffix_at tokens s.front h s.whole) ∙ ap (λ n. drop (length tokens - n) tokens) e ∙ suffix_at tokens t.front k t.whole

placed_once : (tokens : List Token) (end : Spot) (c d : Code) (h k : List Token) (a b : Refusal) → a ≡ record { spot = spot_of end h; code = c } → b ≡ record { spot = spot_of end k; code = d }
    → Suffix tokens h → Suffix tokens k → (length h ≡ length k) × (number_of c ≡ number_of d) → IsSame a b
placed_once tokens end c d h k a b pa pb s t same = (
  ap (λ (r : Refusal). r.spot) pa ∙ ap (spot_of end) (same_suffix tokens h k s t same.0) ∙ sym (ap (λ (r : Refusal). r.spot) pb),
  ap (λ (r : Refusal). number_of r.code) pa ∙ same.1 ∙ sym (ap (λ (r : Refusal). number_of r.code) pb),
)

module _ (schema : List Declaration) where
  broken_once : (init : List InitRow) (i j n m : ℕ) → checked.IsFirst schema init i n → checked.IsFirst schema init j m → i ≡ j
  broken_once init i j n m a b = by_order (a.first j m b.breaks) (b.first i n a.breaks)
    where
      by_order : (i < j) ⊎ ((i ≡ j) × (n ≤ m)) → (j < i) ⊎ ((j ≡ i) × (m ≤ n)) → i ≡ j
      by_order (inl x) (inl y) = absurd (omega (arith, x, y))
      by_order (inl x) (inr y) = sym y.0
      by_order (inr x) y = x.0

  module _ (tokens : List Token) where
    rows_once : (rows others : List Row) (rest last : List Token) → AreRows schema tokens rows rest → AreRows schema tokens others last
        → Alike (map (init_row schema) rows) (map (init_row schema) others) rest last
    rows_once rows others rest last a b =
        (init_judged schema tokens).unique (map (init_row schema) rows) (map (init_row schema) others) rest last (record { rows = rows; are = a.are; made = refl }) (record { rows = others; are = b.are; made = refl })

    apart : (rows : List Row) (rest : List Token) → AreRows schema tokens rows rest → AreDistinct (map (init_row schema) rows)
    apart rows rest a =
        let read : init_from schema tokens ≡ Ok (map (init_row schema) rows, rest)
        = reads (init_judged schema tokens) (map (init_row schema) rows) rest (record { rows = rows; are = a.are; made = refl }) a.right in
        rows_distinct schema tokens (map (init_row schema) rows) (length rest)
        (subst (λ (r : Read (List InitRow)). IsLeft r (map (init_row schema) rows) (length rest)) (sym read) (refl, refl))

    not_good : (rows others : List Row) (rest last : List Token) (row number : ℕ) → AreRows schema tokens rows rest → checked.IsFirst schema (map (init_row schema) rows) row number
        → AreGood schema tokens others last → ⊥
    not_good rows others rest last row number a first good =
        not_valid schema (map (init_row schema) rows) row number (apart rows rest a) first.breaks
        (subst (λ l. Valid schema (initial_tables l)) (sym (rows_once rows others rest last a good.read).items) good.valid)

pub refused_once : RefusedOnce
refused_once schema txns tokens end a b (InInit c h first pa) (InInit d k other pb) =
    placed_once tokens end c d h k a b pa pb (init_suffix schema tokens c h first.is) (init_suffix schema tokens d k other.is) (first_once first other)
refused_once schema txns tokens end a b (InInit c h first pa) (ByInvariant rows rest row number of are broken at pb) = absurd (are.right c h first.is)
refused_once schema txns tokens end a b (InInit c h first pa) (InLast rows rest d k good other pb) = absurd (good.read.right c h first.is)
refused_once schema txns tokens end a b (ByInvariant rows rest row number of are broken at pa) (InInit d k other pb) = absurd (are.right d k other.is)
refused_once schema txns tokens end a b (ByInvariant rows rest row number of are broken at pa) (ByInvariant others last place code found were first there pb) =
    let same = (rows_once schema tokens rows others rest last are were).items in
    let placed : row ≡ place = broken_once schema (map (init_row schema) others) row place number code (subst (λ l. checked.IsFirst schema l row number) same broken) first in
    let stands : Some of ≡ Some found = sym at ∙ (λ i. slice_get (same i) (placed i)) ∙ there in
    let one : of ≡ found = cc in (
      ap (λ (r : Refusal). r.spot) pa ∙ ap (λ (r : InitRow). r.spot) one ∙ sym (ap (λ (r : Refusal). r.spot) pb),
      ap (λ (r : Refusal). number_of r.code) pa ∙ sym (ap (λ (r : Refusal). number_of r.code) pb),
    )
refused_once schema txns tokens end a b (ByInvariant rows rest row number of are broken at pa) (InLast others last d k good other pb) = absurd (not_good schema tokens rows others rest last row number are broken good)
refused_once schema txns tokens end a b (InLast rows rest c h good first pa) (InInit d k other pb) = absurd (good.read.right d k other.is)
refused_once schema txns tokens end a b (InLast rows rest c h good first pa) (ByInvariant others last row number of are broken at pb) = absurd (not_good schema tokens others rows last rest row number are broken good)
refused_once schema txns tokens end a b (InLast rows rest c h good first pa) (InLast others last d k well other pb) =
    let same = rows_once schema tokens rows others rest last good.read well.read in
    let count : length rows ≡ length others = sym (length-map rows (init_row schema)) ∙ ap length same.items ∙ length-map others (init_row schema) in
    let here : IsFirst (LastRefused schema txns (length others) last) c h = subst (λ (x : ℕ × List Token). IsFirst (LastRefused schema txns x.0 x.1) c h) (λ i. (count i, same.rests i)) first in
    placed_once last end c d h k a b pa pb (last_suffix schema txns (length others) last c h here.is) (last_suffix schema txns (length others) last d k other.is) (first_once here other)

-- parts that are read aren't refused
pub parts_apart : (schema : List Declaration) (transactions : List Transaction) (tokens : List Token) (end : Spot) (refusal : Refusal) (p : Parts) → AreParts schema transactions tokens p → IsRefused schema transactions tokens end refusal → ⊥
parts_apart schema transactions tokens end refusal p are (InInit code here first place) = are.init.read.right code here first.is
parts_apart schema transactions tokens end refusal p are (ByInvariant rows rest row number of were broken at place) = not_good schema tokens rows are.rows rest are.rest row number were broken are.init
parts_apart schema transactions tokens end refusal p are (InLast rows rest code here good first place) =
    let same = rows_once schema tokens rows are.rows rest are.rest good.read are.init.read in
    let count : length rows ≡ length are.rows = sym (length-map rows (init_row schema)) ∙ ap length same.items ∙ length-map are.rows (init_row schema) in
    let here_is : IsFirst (LastRefused schema transactions (length are.rows) are.rest) code here = subst (λ (x : ℕ × List Token). IsFirst (LastRefused schema transactions x.0 x.1) code here) (λ i. (count i, same.rests i)) first in
    are.right code here here_is.is

-- where nothing stands there is no last part
absent_only : (l : Last) → last_part l [] → l ≡ Absent
absent_only Absent is = refl
absent_only (Replay settings ls) is = absurd (no_head ReplayHead is.front is.back is.whole is.first)
absent_only (Run settings sessions) is = absurd (no_head RunHead is.front is.back is.whole is.first)

-- a last part of which nothing is refused is read in one way
last_once : (schema : List Declaration) (txns : List Transaction) (rows others : List Row) (rest : List Token) (l m : Last) → map (init_row schema) rows ≡ map (init_row schema) others
    → last_part l rest → last_part m rest → AreNone (LastRefused schema txns (length rows) rest) → parts_of schema txns rows l ≡ parts_of schema txns others m
last_once schema txns rows others [] l m same is are right = alike (absent_only l is) (absent_only m are)
  where
    count : length rows ≡ length others
    count = sym (length-map rows (init_row schema)) ∙ ap length same ∙ length-map others (init_row schema)

    alike : l ≡ Absent → m ≡ Absent → parts_of schema txns rows l ≡ parts_of schema txns others m
    alike a b = ap (parts_of schema txns rows) a
        ∙ (λ i. record { init = same i; sites = 1; rows = max 1024 (count i); changes = 8192; work = works.Nothing })
        ∙ sym (ap (parts_of schema txns others) b)
last_once schema txns rows others (token ∷ rest) l m same is are right = by (last_from schema txns (length rows) (token ∷ rest)) refl
  where
    some : token ∷ rest ≢ []
    some e = let bad : suc (length rest) ≡ 0 = ap length e in absurd (omega (arith, bad))

    by : (read : Read (Given × Work)) → last_from schema txns (length rows) (token ∷ rest) ≡ read → parts_of schema txns rows l ≡ parts_of schema txns others m
    by (Err fault) e =
        let found = last_wrong schema txns (length rows) (token ∷ rest) some fault (last_fails schema txns (length rows) (token ∷ rest) fault e) in absurd (right fault.code found.here found.first.is)
    by (Ok ((g, work), left)) e =
        let read = last_reads schema txns (length rows) (token ∷ rest) g work left e in
        let one = last_only schema txns (length rows) (token ∷ rest) g work read l is in
        let other = last_only schema txns (length rows) (token ∷ rest) g work read m are in
        sym (made_set schema txns (map (init_row schema) rows) rows refl g work l one.0 one.1)
        ∙ made_set schema txns (map (init_row schema) rows) others same g work m other.0 other.1

pub parts_once : (schema : List Declaration) (txns : List Transaction) (tokens : List Token) (p q : Parts) → AreParts schema txns tokens p → AreParts schema txns tokens q → p ≡ q
parts_once schema txns tokens p q a b =
    let same = rows_once schema tokens a.rows b.rows a.rest b.rest a.init.read b.init.read in
    a.made ∙ last_once schema txns a.rows b.rows a.rest a.last b.last same.items a.is (subst (last_part b.last) (sym same.rests) b.is) a.right ∙ sym b.made
