-- Parts of which nothing is refused fit the application, and keep the limits.
use Rattle.std.proofs.Common.{◌≡◌, ◌∙◌, ℕ, ◌+◌, ◌≤◌, List, [], ◌∷◌, ◌++◌, length, map, refl, sym, ap, subst, append_assoc, append-nil, arith, codes}
use Rattle.std.specs.List.{All}
use Rattle.std.proofs.lemmas.List.{length-append, length-map}
use Rattle.std.proofs.lemmas.List.Elements.{All-cons, All-nil}
use Rattle.sv_lex.specs.declared.tokens.Token.{Token}
use Rattle.sv_app.specs.declared.refusals.Code.TheVariants.{Many}
use Rattle.sv_app.specs.declared.requests.InitRow.{InitRow}
use Rattle.sv_app.specs.declared.requests.Request.{Request}
use Rattle.sv_app.specs.Accepted.{AcceptedSchema}
use Rattle.sv_app.specs.Schema.{Declaration}
use Rattle.sv_app.specs.Trees.{Transaction}
use Rattle.sv_app.specs.Valid.{Valid}
use Rattle.sv_check.specs.Initial.{initial_tables}
use Rattle.sv_check.proofs.StartLaws.{stores_start}
use Rattle.sv_effect.specs.BareTables.{bare}
use Rattle.sv_effect.specs.Cut.{empty}
use Rattle.sv_effect.specs.Initial.{InitFits}
use Rattle.sv_effect.specs.TablesOfCut.{tables_held}
use Rattle.sv_reader.specs.Grammar.{◌·◌}
use Rattle.sv_reader.proofs.PartLaws.{both_assoc}
use Rattle.sv_workload.specs.declared.parts.Parts.{Parts}
use Rattle.sv_workload.specs.declared.written.Call.{Call}
use Rattle.sv_workload.specs.declared.written.PartHead.{PartHead}
use Rattle.sv_workload.specs.declared.written.PartHead.TheVariants.{Replay as ReplayHead, Run as RunHead}
use Rattle.sv_workload.specs.declared.written.Setting.{Setting}
use Rattle.sv_workload.specs.Documents.{request_of, settings_of, work_of, AreParts}
use Rattle.sv_workload.specs.Elements.{Among, AreNone}
use Rattle.sv_workload.specs.Grammar.{many, setting, entry, session, last_part}
use Rattle.sv_workload.specs.InitRefused.{BeginsName}
use Rattle.sv_workload.specs.LastRefused.{BeginsWord, CallRefused, total, BeginsCall, EntryRefused, requests_in, SessionRefused, InCalls, SettingRefused, part_head, sites_set, LastRefused, InSettings, InLines, InSessions}
use Rattle.sv_workload.specs.LastRefused as last
use Rattle.sv_workload.specs.PartsFit.{IsRequestOf, WorkFits, PartsFit}
use Rattle.sv_workload.specs.Rows.{init_row}
use Rattle.sv_workload.specs.Written.{Session, Last, Absent, Replay, Run}
use Rattle.sv_workload.proofs.FitLaws.{all_fit, distinct, few_rows}
use Rattle.sv_workload.proofs.FrontLaws.{no_setting}
use Rattle.sv_workload.proofs.KeptLaws.{good}
use Rattle.sv_workload.proofs.LastLaws.{lines_unset, sessions_unset}
use Rattle.sv_workload.proofs.RightLaws.{below, total_ones, RightAt, AllRight, all_right, few_of, each_of}
use Rattle.sv_workload.proofs.SettingFitLaws.{Sized, none_sized, settings_sized}
use Rattle.sv_workload.proofs.StepFitLaws.{call_right, lines_fit}

-- the sessions of a run

module _ (txns : List Transaction) where
  calls_fit : (count : ℕ) (before calls : List Call) → AllRight entry (EntryRefused txns count) before calls → All (IsRequestOf txns) (map (request_of txns) calls)
  calls_fit count before [] right = All-nil (IsRequestOf txns)
  calls_fit count before (c ∷ calls) right = All-cons (IsRequestOf txns) (request_of txns c) (map (request_of txns) calls) (its_call right.0) (calls_fit count (before ++ c ∷ []) calls right.1)
    where
      its_call : RightAt entry (EntryRefused txns count) before c → IsRequestOf txns (request_of txns c)
      its_call r =
          let whole : r.is.front ++ (r.is.back ++ r.rest) ≡ r.front ++ r.rest = sym (ap (λ l. l ++ r.rest) r.is.whole ∙ append_assoc r.is.front r.is.back r.rest) in
          call_right txns c r.is.front (r.is.back ++ r.rest) r.is.first (λ code here wrong. r.right code here (last.InCall code here (subst (λ l. CallRefused txns l code here) whole wrong)))

  call_opens : (c : Call) (front rest : List Token) → entry c front → BeginsCall (front ++ rest)
  call_opens c front rest is = record {
    txn = c.txn;
    is = subst (λ l. BeginsName c.txn l)
        (sym (ap (λ l. l ++ rest) (is.whole ∙ ap (λ l. l ++ is.back) (is.first.whole ∙ ap (λ l. l ++ is.first.back) is.first.first.only)))) is.first.first.holds;
  }

  few_calls : (count : ℕ) (before calls : List Call) → AllRight entry (EntryRefused txns count) before calls → count + length before ≤ 8192 → count + length before + length calls ≤ 8192
  few_calls count before [] right le = omega (arith, le)
  few_calls count before (c ∷ calls) right le =
      let r = right.0 in
      let lt = below (count + length before) 8192 (λ many. r.right Many (r.front ++ r.rest) (last.TooMany (call_opens c r.front r.rest r.is) many)) in
      let same = length-append before (c ∷ []) in
      let more = few_calls count (before ++ c ∷ []) calls right.1 (omega (arith, lt, same)) in
      omega (arith, more, same)

  abbrev RightSession : List Session → Session → Type 0
  RightSession = RightAt session (SessionRefused txns)

  calls_right : (before : List Session) (s : Session) → RightSession before s → AllRight entry (EntryRefused txns (requests_in before)) [] s.calls
  calls_right before s r =
      all_right entry (EntryRefused txns (requests_in before)) [] s.calls (r.is.back ++ r.rest) r.is.then.front (r.is.then.back ++ r.rest)
      (ap (λ l. l ++ r.rest) r.is.then.whole ∙ append_assoc r.is.then.front r.is.then.back r.rest) r.is.then.first
      (λ code here among. r.right code here (InCalls s.number r.is.front (r.is.back ++ r.rest) code here (ap (λ l. l ++ r.rest) r.is.whole ∙ append_assoc r.is.front r.is.back r.rest) r.is.first among))

  few_sessions : (before : List Session) (s : Session) → RightSession before s → total (λ (s : Session). 1) before ≤ 64 → total (λ (s : Session). 1) before + 1 ≤ 64
  few_sessions before s r le =
      let b = both_assoc r.is in
      let begins : BeginsWord (codes "session") (r.front ++ r.rest) = subst (λ l. BeginsWord (codes "session") (l ++ r.rest))
      (sym (r.is.whole ∙ ap (λ l. l ++ r.is.back) (r.is.first.whole ∙ ap (λ l. l ++ r.is.first.back) r.is.first.first.only))) r.is.first.first.holds in
      let lt = below (length before) 64 (λ many. r.right Many (r.front ++ r.rest) (last.TooMany begins many)) in
      omega (arith, lt, total_ones before)

  few_requests : (before : List Session) (s : Session) → RightSession before s → requests_in before ≤ 8192 → requests_in before + length s.calls ≤ 8192
  few_requests before s r le = let few = few_calls (requests_in before) [] s.calls (calls_right before s r) (omega (arith, le)) in omega (arith, few)

  abbrev seen : Session → List Request
  seen s = map (request_of txns) s.calls

  seen_count : (sessions : List Session) → total length (map seen sessions) ≡ requests_in sessions
  seen_count [] = refl
  seen_count (s ∷ sessions) = λ i. length-map s.calls (request_of txns) i + seen_count sessions i

  sessions_fit : (schema : List Declaration) (settings : List (Setting × ℕ)) (sessions : List Session) (tokens : List Token) → many session sessions tokens → AreNone (Among session (SessionRefused txns) [] tokens)
      → WorkFits schema txns (sites_set settings) (work_of schema txns (Run settings sessions))
  sessions_fit schema settings sessions tokens is right =
      let all = all_right session (SessionRefused txns) [] sessions tokens tokens [] (sym (append-nil tokens)) is right in
      let count = few_of session (SessionRefused txns) (λ (s : Session). 1) 64 few_sessions [] sessions all (omega arith) in
      let asking = few_of session (SessionRefused txns) (λ (s : Session). length s.calls) 8192 few_requests [] sessions all (omega arith) in
      record {
        each = each_of session (SessionRefused txns) (All (IsRequestOf txns)) seen
            (λ before s r. calls_fit (requests_in before) [] s.calls (calls_right before s r)) [] sessions all;
        asks = omega (arith, asking, seen_count sessions);
        moves = omega arith;
        short = omega (arith, count, total_ones sessions, length-map sessions seen);
      }

module _ (schema : List Declaration) (txns : List Transaction) where
  -- settings that stand in a last part of which nothing is refused
  set_right : (count : ℕ) (head : PartHead) (settings : List (Setting × ℕ)) (Rest : List Token → Type 0) (tokens : List Token)
      → (part_head head · many setting settings · Rest) tokens
      → AreNone (LastRefused schema txns count tokens) → count ≤ 4096 → Sized count settings
  set_right count head settings Rest tokens is right few =
      settings_sized count settings
      (all_right setting (SettingRefused count) [] settings is.back is.then.front is.then.back is.then.whole is.then.first (λ code here among. right code here (InSettings head is.front is.back code here is.whole is.first among))) few

  last_sized : (count : ℕ) (l : Last) (tokens : List Token) → last_part l tokens → AreNone (LastRefused schema txns count tokens) → count ≤ 4096
      → Sized count (settings_of l)
  last_sized count Absent tokens is right few = none_sized count few
  last_sized count (Replay settings lines) tokens is right few = set_right count ReplayHead settings _ tokens is right few
  last_sized count (Run settings sessions) tokens is right few = set_right count RunHead settings _ tokens is right few

  work_fits : (count : ℕ) (l : Last) (tokens : List Token) → last_part l tokens → AreNone (LastRefused schema txns count tokens)
      → WorkFits schema txns (sites_set (settings_of l)) (work_of schema txns l)
  work_fits count Absent tokens is right = record { each = tt; asks = omega arith; moves = omega arith; short = tt }
  work_fits count (Replay settings lines) tokens is right =
      let b = both_assoc is in
      lines_fit schema txns (sites_set settings) settings lines b.back b.then
      (λ code here among. right code here (InLines settings b.front b.back code here b.whole b.first (no_setting count tokens b.back (lines_unset lines b.back b.then)) among))
  work_fits count (Run settings sessions) tokens is right =
      let b = both_assoc is in
      sessions_fit txns schema settings sessions b.back b.then
      (λ code here among. right code here (InSessions settings b.front b.back code here b.whole b.first (no_setting count tokens b.back (sessions_unset sessions b.back b.then)) among))

  rows_valid : (rows : List InitRow) → AcceptedSchema schema → All (InitFits schema) rows → Valid schema (initial_tables rows)
      → Valid schema (bare (tables_held schema rows empty))
  rows_valid rows accepted fits valid = subst (λ tables. Valid schema tables) (sym (stores_start schema rows accepted fits)) valid

  -- parts of which nothing is refused fit
  pub parts_fit : (tokens : List Token) (parts : Parts) → AcceptedSchema schema → AreParts schema txns tokens parts → PartsFit schema txns parts
  parts_fit tokens parts accepted are =
      let its = good schema tokens [] 0 are.rows are.rest are.init.read.are are.init.read.right in
      let kept = few_rows schema [] are.rows its (omega arith) in
      let few : length are.rows ≤ 4096 = omega (arith, kept) in
      let fits = all_fit schema accepted [] are.rows its in
      let count = length-map are.rows (init_row schema) in
      let sizes = last_sized (length are.rows) are.last are.rest are.is are.right few in
      subst (λ p. PartsFit schema txns p) (sym are.made) (record {
        rows = fits;
        distinct = distinct schema [] are.rows its;
        valid = rows_valid (map (init_row schema) are.rows) accepted fits are.init.valid;
        few = omega (arith, few, count);
        sizes = record {
          some = sizes.sites.0;
          sites = sizes.sites.1;
          room = omega (arith, sizes.rows.0, count);
          rows = sizes.rows.1;
          change = sizes.changes.0;
          changes = sizes.changes.1;
        };
        work = work_fits (length are.rows) are.last are.rest are.is are.right;
      })
