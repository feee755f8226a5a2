-- The parts of a document by what was read of them.
use Rattle.std.proofs.Common.{◌≡◌, ◌∙◌, ℕ, ◌-◌, max, List, [], ◌∷◌, ◌++◌, length, drop, map, Some, slice_get, Ok, Err, refl, sym, ap, subst, append_assoc, arith}
use Rattle.std.specs.Prelude.{Result, IfOk}
use Rattle.std.proofs.lemmas.List.{length-append, length-map}
use Rattle.sv_value.specs.declared.spots.Spot.{Spot}
use Rattle.sv_lex.specs.declared.tokens.Token.{Token}
use Rattle.sv_app.specs.declared.refusals.Code.{Code}
use Rattle.sv_app.specs.declared.refusals.Refusal.{Refusal}
use Rattle.sv_app.specs.declared.refusals.Stop.{Stop}
use Rattle.sv_app.specs.declared.refusals.Stop.TheVariants.{Refused, NoMemory}
use Rattle.sv_app.specs.declared.requests.InitRow.{InitRow}
use Rattle.sv_app.specs.Schema.{Declaration}
use Rattle.sv_app.specs.Trees.{Transaction}
use Rattle.sv_app.specs.Valid.{Valid}
use Rattle.sv_check.specs.Initial.{initial_tables}
use Rattle.sv_check.specs.Initial as checked
use Rattle.sv_reader.specs.Places.{spot_of}
use Rattle.sv_workload.specs.declared.parts.Parts.{Parts}
use Rattle.sv_workload.specs.declared.parts.Work.TheVariants as works
use Rattle.sv_workload.specs.declared.written.PartHead.{PartHead}
use Rattle.sv_workload.specs.declared.written.PartHead.TheVariants.{Replay as ReplayHead, Run as RunHead}
use Rattle.sv_workload.specs.declared.written.Row.{Row}
use Rattle.sv_workload.specs.Documents.{parts_of, AreGood, AreParts, IsAnswer, IsRefused, InInit, ByInvariant}
use Rattle.sv_workload.specs.Elements.{AreNone}
use Rattle.sv_workload.specs.Grammar.{last_part}
use Rattle.sv_workload.specs.InitRefused.{AreInit}
use Rattle.sv_workload.specs.LastRefused.{LastRefused, NoPart, InSettings, NoSites, InLines, InSessions, part_head}
use Rattle.sv_workload.specs.Rows.{init_row}
use Rattle.sv_workload.specs.Stops.{InitStops, ByFault, ByRow, InitKept}
use Rattle.sv_workload.specs.Written.{Last, Absent, Replay, Run}
use Rattle.sv_workload.proofs.InitLaws.{InitRows, init_judged}
use Rattle.sv_workload.proofs.KeptLaws.{Kept, kept}
use Rattle.sv_workload.proofs.SuffixLaws.{init_suffix}

-- the tokens from a place on, by how many they are
pub suffix_at : (tokens front here : List Token) → tokens ≡ front ++ here → drop (length tokens - length here) tokens ≡ here
suffix_at tokens front here e = subst (λ l. drop (length l - length here) l ≡ here) (sym e) (ap (λ n. drop n (front ++ here)) (omega (arith, length-append front here)) ∙ drop_front front here)
  where
    drop_front : (front here : List Token) → drop (length front) (front ++ here) ≡ here
    drop_front [] here = refl
    drop_front (x ∷ front) here = drop_front front here

pub none_left : (l : List Token) → length l ≡ 0 → l ≡ []
none_left [] e = refl
none_left (x ∷ l) e = absurd cc

-- what isn't refused may be read
pub no_answer : (stop : Stop) (parts : Parts) → ((refusal : Refusal) → stop ≡ Refused refusal → ⊥) → IsAnswer (Err stop) parts
no_answer (Refused refusal) parts none = none refusal refl
no_answer NoMemory parts none = tt

pub ok_map : {A : Type 0} {P Q : A → Type 0} (result : Result A Stop) → ((a : A) → P a → Q a) → IfOk result P → IfOk result Q
ok_map (Ok a) map is = map a is
ok_map (Err stop) map is = tt

pub ok_at : {A : Type 0} (P : A → Type 0) (result : Result A Stop) (a : A) → IfOk result P → result ≡ Ok a → P a
ok_at {A} P (Ok b) a is e = let same : b ≡ a = cc in subst P same is
ok_at P (Err stop) a is e = absurd cc

pub last_answer : (result : Result Parts Stop) (parts : Parts) → ((found : Parts) → result ≡ Ok found → found ≡ parts) → ((refusal : Refusal) → result ≡ Err (Refused refusal) → ⊥) → IsAnswer result parts
last_answer (Ok found) parts same none = same found refl
last_answer (Err (Refused refusal)) parts same none = none refusal refl
last_answer (Err NoMemory) parts same none = tt

part_some : (head : PartHead) → part_head head [] → ⊥
part_some ReplayHead is = let bad : is.first.token ∷ is.back ≡ [] = sym (is.whole ∙ ap (λ l. l ++ is.back) is.first.only) in absurd cc
part_some RunHead is = let bad : is.first.token ∷ is.back ≡ [] = sym (is.whole ∙ ap (λ l. l ++ is.back) is.first.only) in absurd cc

front_empty : (front rest : List Token) → [] ≡ front ++ rest → front ≡ []
front_empty [] rest e = refl
front_empty (x ∷ front) rest e = absurd cc

pub no_head : (head : PartHead) (front rest : List Token) → [] ≡ front ++ rest → part_head head front → ⊥
no_head head front rest e is = part_some head (subst (λ l. part_head head l) (front_empty front rest e) is)

module _ (schema : List Declaration) (txns : List Transaction) where
  -- where nothing stands, nothing is refused
  pub nothing_refused : (count : ℕ) → AreNone (LastRefused schema txns count [])
  nothing_refused count code here refused = by_case code here [] refl refused
    where
      by_case : (code : Code) (here tokens : List Token) → tokens ≡ [] → LastRefused schema txns count tokens code here → ⊥
      by_case _ _ tokens e (NoPart here some is) = some e
      by_case _ _ tokens e (InSettings head front rest code here w is among) = no_head head front rest (sym e ∙ w) is
      by_case _ _ tokens e (NoSites head settings front here w is ends none) = no_head head is.front (is.back ++ here) (sym e ∙ w ∙ ap (λ l. l ++ here) is.whole ∙ append_assoc is.front is.back here) is.first
      by_case _ _ tokens e (InLines settings front rest code here w is ends among) = no_head ReplayHead is.front (is.back ++ rest) (sym e ∙ w ∙ ap (λ l. l ++ rest) is.whole ∙ append_assoc is.front is.back rest) is.first
      by_case _ _ tokens e (InSessions settings front rest code here w is ends among) = no_head RunHead is.front (is.back ++ rest) (sym e ∙ w ∙ ap (λ l. l ++ rest) is.whole ∙ append_assoc is.front is.back rest) is.first

  pub is_absent : (last : Last) (tokens : List Token) → tokens ≡ [] → last_part last tokens → last ≡ Absent
  is_absent Absent tokens e is = refl
  is_absent (Replay settings lines) tokens e is = absurd (no_head ReplayHead is.front is.back (sym e ∙ is.whole) is.first)
  is_absent (Run settings sessions) tokens e is = absurd (no_head RunHead is.front is.back (sym e ∙ is.whole) is.first)

  module _ (tokens : List Token) where
    -- what was read of the initial rows is what stands there
    pub same_init : (rows : List InitRow) (left : ℕ) (k : Kept schema tokens rows left) (written : List Row) (rest : List Token) → AreInit tokens written rest → (rows ≡ map (init_row schema) written) × (k.rest ≡ rest)
    same_init rows left k written rest are =
        let same = (init_judged schema tokens).unique rows (map (init_row schema) written) k.rest rest (record { rows = k.written; are = k.are; made = k.made }) (record { rows = written; are = are; made = refl }) in
        (same.items, same.rests)

    pub good_of : (rows : List InitRow) (left : ℕ) (k : Kept schema tokens rows left) → Valid schema (initial_tables rows) → AreGood schema tokens k.written k.rest
    good_of rows left k valid = record { read = record { are = k.are; right = k.right }; valid = subst (λ l. Valid schema (initial_tables l)) k.made valid }

    -- where initial rows stop, nothing is read
    pub stopped : (end : Spot) (refusal : Refusal) → InitStops schema tokens end refusal → (parts : Parts) → AreParts schema txns tokens parts → ⊥
    stopped end refusal (ByFault fault e place) parts are = let found = (init_judged schema tokens).wrong fault e in are.init.read.right fault.code found.here found.first.is
    stopped end refusal (ByRow rows rest e bad) parts are =
        let took = (init_judged schema tokens).took rows rest e in
        let same = (init_judged schema tokens).unique rows (map (init_row schema) are.rows) rest are.rest took (record { rows = are.rows; are = are.init.read.are; made = refl }) in
        bad.wrong (subst (λ l. Valid schema (initial_tables l)) (sym same.items) are.init.valid)

    pub refused : (end : Spot) (refusal : Refusal) → InitStops schema tokens end refusal → IsRefused schema txns tokens end refusal
    refused end refusal (ByFault fault e place) =
        let found = (init_judged schema tokens).wrong fault e in
        let split = init_suffix schema tokens fault.code found.here found.first.is in
        InInit fault.code found.here found.first
        (place ∙ (λ i. record { spot = spot_of end ((ap (λ n. drop (length tokens - n) tokens) found.place ∙ suffix_at tokens split.front found.here split.whole) i); code = fault.code }))
    refused end refusal (ByRow rows rest e bad) = by_took ((init_judged schema tokens).took rows rest e)
      where
        by_took : InitRows schema tokens rows rest → IsRefused schema txns tokens end refusal
        by_took took = ByInvariant took.rows rest bad.row bad.number bad.of (record { are = took.are; right = (init_judged schema tokens).right rows rest e })
            (subst (λ l. checked.IsFirst schema l bad.row bad.number) took.made bad.first) (subst (λ l. slice_get l bad.row ≡ Some bad.of) took.made bad.at) bad.place

    -- the parts that have nothing behind the initial rows
    abbrev pub bare : List InitRow → Parts
    bare rows = record { init = rows; sites = 1; rows = max 1024 (length rows); changes = 8192; work = works.Nothing }

    made_bare : (rows : List InitRow) (written : List Row) → rows ≡ map (init_row schema) written → bare rows ≡ parts_of schema txns written Absent
    made_bare rows written e = ap bare e
        ∙ ap (λ n. let p : Parts = record { init = map (init_row schema) written; sites = 1; rows = max 1024 n; changes = 8192; work = works.Nothing } in p) (length-map written (init_row schema))

    pub bare_read : (rows : List InitRow) → InitKept schema tokens rows 0 → AreParts schema txns tokens (bare rows)
    bare_read rows is =
        let k = kept schema tokens rows 0 is.read in
        let none = none_left k.rest k.count in
        record {
          rows = k.written;
          last = Absent;
          rest = k.rest;
          init = good_of rows 0 k is.valid;
          is = none;
          right = subst (λ l. AreNone (LastRefused schema txns (length k.written) l)) (sym none) (nothing_refused (length k.written));
          made = made_bare rows k.written k.made;
        }

    pub bare_all : (rows : List InitRow) → InitKept schema tokens rows 0 → (parts : Parts) → AreParts schema txns tokens parts → bare rows ≡ parts
    bare_all rows is parts are =
        let k = kept schema tokens rows 0 is.read in
        let same = same_init rows 0 k are.rows are.rest are.init.read.are in
        let absent = is_absent are.last are.rest (sym same.1 ∙ none_left k.rest k.count) are.is in
        made_bare rows are.rows same.0 ∙ ap (parts_of schema txns are.rows) (sym absent) ∙ sym are.made
