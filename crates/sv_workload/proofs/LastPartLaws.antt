-- The parts of a document by what was read of its last part.
use Rattle.std.proofs.Common.{◌≡◌, ◌≢◌, ◌∙◌, ℕ, ◌-◌, max, List, [], ◌++◌, length, drop, map, refl, sym, ap, subst}
use Rattle.std.specs.Option.{unwrap_or}
use Rattle.std.proofs.lemmas.List.{length-map}
use Rattle.sv_value.specs.declared.spots.Spot.{Spot}
use Rattle.sv_lex.specs.declared.tokens.Token.{Token}
use Rattle.sv_app.specs.declared.refusals.Refusal.{Refusal}
use Rattle.sv_app.specs.declared.requests.InitRow.{InitRow}
use Rattle.sv_app.specs.Schema.{Declaration}
use Rattle.sv_app.specs.Trees.{Transaction}
use Rattle.sv_reader.specs.Places.{spot_of}
use Rattle.sv_workload.specs.declared.parts.Parts.{Parts}
use Rattle.sv_workload.specs.declared.parts.Work.{Work}
use Rattle.sv_workload.specs.declared.written.Given.{Given}
use Rattle.sv_workload.specs.declared.written.Row.{Row}
use Rattle.sv_workload.specs.declared.written.Setting.TheVariants.{Sites, Rows, Changes}
use Rattle.sv_workload.specs.Documents.{settings_of, work_of, parts_of, AreParts, IsRefused, InLast}
use Rattle.sv_workload.specs.Elements.{IsFirst, AreNone}
use Rattle.sv_workload.specs.Grammar.{last_part}
use Rattle.sv_workload.specs.InitRefused.{AreInit, NoInit, Init}
use Rattle.sv_workload.specs.LastRefused.{LastRefused}
use Rattle.sv_workload.specs.LastRefused as last
use Rattle.sv_workload.specs.Rows.{init_row}
use Rattle.sv_workload.specs.Stops.{InitKept, last_from, set_parts, LastKept, LastStops}
use Rattle.sv_workload.specs.Written.{Last}
use Rattle.sv_workload.proofs.DocumentLaws.{suffix_at, same_init, good_of}
use Rattle.sv_workload.proofs.KeptLaws.{Kept, kept}
use Rattle.sv_workload.proofs.LastLaws.{LastFound}
use Rattle.sv_workload.proofs.SettingLaws.{state}
use Rattle.sv_workload.proofs.SuffixLaws.{last_suffix}
use Rattle.sv_workload.proofs.WorkLaws.{LastRead, last_reads, last_fails, last_is, last_only, last_right, last_wrong}

init_front : (tokens : List Token) (rows : List Row) (rest : List Token) → AreInit tokens rows rest → (front : List Token) × (tokens ≡ front ++ rest)
init_front tokens _ _ (NoInit begins) = ([], refl)
init_front tokens _ _ (Init rows front rest whole is ends) = (front, whole)

module _ (schema : List Declaration) (txns : List Transaction) where
  pub made_set : (rows : List InitRow) (written : List Row) → rows ≡ map (init_row schema) written → (g : Given) (work : Work) (l : Last) → g ≡ state (settings_of l) → work ≡ work_of schema txns l
      → set_parts rows g work ≡ parts_of schema txns written l
  made_set rows written e g work l givens works = (λ i. set_parts (e i) (givens i) (works i))
      ∙ ap (λ n. let p : Parts = record {
        init = map (init_row schema) written;
        sites = unwrap_or (last.given Sites (settings_of l)) 1;
        rows = unwrap_or (last.given Rows (settings_of l)) (max 1024 n);
        changes = unwrap_or (last.given Changes (settings_of l)) 8192;
        work = work_of schema txns l;
      } in p) (length-map written (init_row schema))

  module _ (tokens : List Token) (rows : List InitRow) (left : ℕ) (is : InitKept schema tokens rows left) where
    abbrev rest_here : List Token
    rest_here = drop (length tokens - left) tokens

    k : Kept schema tokens rows left
    k = kept schema tokens rows left is.read

    same_rest : rest_here ≡ k.rest
    same_rest = let f = init_front tokens k.written k.rest k.are in ap (λ n. drop (length tokens - n) tokens) (sym k.count) ∙ suffix_at tokens f.0 k.rest f.1

    same_count : length rows ≡ length k.written
    same_count = ap length k.made ∙ length-map k.written (init_row schema)

    read_of : (parts : Parts) (f : LastKept schema txns rows rest_here parts) → LastRead schema txns (length rows) k.rest f.given f.work
    read_of parts f = last_reads schema txns (length rows) k.rest f.given f.work f.rest (ap (last_from schema txns (length rows)) (sym same_rest) ∙ f.read)

    pub last_read : (parts : Parts) → LastKept schema txns rows rest_here parts → AreParts schema txns tokens parts
    last_read parts f =
        let read = read_of parts f in
        let l = last_is schema txns (length rows) k.rest f.given f.work read in
        record {
          rows = k.written;
          last = l.last;
          rest = k.rest;
          init = good_of schema txns tokens rows left k is.valid;
          is = l.is;
          right = subst (λ n. AreNone (LastRefused schema txns n k.rest)) same_count (last_right schema txns (length rows) k.rest f.given f.work read);
          made = f.made ∙ made_set rows k.written k.made f.given f.work l.last l.givens l.works;
        }

    -- what stands there is what was read

    right_here : (parts : Parts) (are : AreParts schema txns tokens parts) → AreNone (LastRefused schema txns (length rows) k.rest)
    right_here parts are =
        let same = same_init schema txns tokens rows left k are.rows are.rest are.init.read.are in
        let counts : length are.rows ≡ length rows = sym (ap length same.0 ∙ length-map are.rows (init_row schema)) in
        subst (λ l. AreNone (LastRefused schema txns (length rows) l)) (sym same.1) (subst (λ n. AreNone (LastRefused schema txns n are.rest)) counts are.right)

    pub last_all : (found : Parts) → LastKept schema txns rows rest_here found → (parts : Parts) → AreParts schema txns tokens parts → found ≡ parts
    last_all found f parts are =
        let same = same_init schema txns tokens rows left k are.rows are.rest are.init.read.are in
        let one = last_only schema txns (length rows) k.rest f.given f.work (read_of found f) are.last (subst (λ l. last_part are.last l) (sym same.1) are.is) in
        f.made ∙ made_set rows are.rows same.0 f.given f.work are.last one.0 one.1 ∙ sym are.made

    rest_some : left ≢ 0 → k.rest ≢ []
    rest_some some e = some (sym k.count ∙ ap length e)

    found_of : left ≢ 0 → (end : Spot) (refusal : Refusal) (f : LastStops schema txns (length rows) rest_here end refusal) → LastFound schema txns (length rows) k.rest f.fault
    found_of some end refusal f = last_wrong schema txns (length rows) k.rest (rest_some some) f.fault (last_fails schema txns (length rows) k.rest f.fault (ap (last_from schema txns (length rows)) (sym same_rest) ∙ f.read))

    pub last_stopped : left ≢ 0 → (end : Spot) (refusal : Refusal) → LastStops schema txns (length rows) rest_here end refusal → (parts : Parts) → AreParts schema txns tokens parts → ⊥
    last_stopped some end refusal f parts are = let found = found_of some end refusal f in right_here parts are f.fault.code found.here found.first.is

    pub last_refused : left ≢ 0 → (end : Spot) (refusal : Refusal) → LastStops schema txns (length rows) rest_here end refusal → IsRefused schema txns tokens end refusal
    last_refused some end refusal f =
        let found = found_of some end refusal f in
        let s = last_suffix schema txns (length rows) k.rest f.fault.code found.here found.first.is in
        let place : drop (length rest_here - f.fault.left) rest_here ≡ found.here
        = ap (λ l. drop (length l - f.fault.left) l) same_rest ∙ ap (λ n. drop (length k.rest - n) k.rest) found.place ∙ suffix_at k.rest s.front found.here s.whole in
        InLast k.written k.rest f.fault.code found.here (good_of schema txns tokens rows left k is.valid)
        (subst (λ n. IsFirst (LastRefused schema txns n k.rest) f.fault.code found.here) same_count found.first)
        (f.place ∙ (λ i. record { spot = spot_of end (place i); code = f.fault.code }))
