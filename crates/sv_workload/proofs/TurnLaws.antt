-- One turn more of a loop that reads elements.
use Rattle.std.proofs.Common.{◌≡◌, ◌∙◌, ◌<◌, true, false, List, [], ◌∷◌, ◌++◌, length, ℕ, Ok, Err, sym, ap}
use Rattle.sv_lex.specs.declared.tokens.Token.{Token}
use Rattle.sv_app.specs.declared.requests.InitRow.{InitRow}
use Rattle.sv_app.specs.Schema.{Declaration}
use Rattle.sv_reader.specs.declared.faults.ReadFault.{ReadFault}
use Rattle.sv_reader.specs.Reading.{Read, is_name}
use Rattle.sv_reader.proofs.AnswerLaws.{same_read}
use Rattle.sv_workload.specs.declared.written.Given.{Given}
use Rattle.sv_workload.specs.declared.written.Setting.{Setting}
use Rattle.sv_workload.specs.Reading.{as_item, row_from, rows_from, begins_setting, setting_from, settings_from, with_setting}
use Rattle.sv_workload.specs.Rows.{init_row}
use Rattle.sv_workload.proofs.InitLaws.{row_steps, row_shrinks}
use Rattle.sv_workload.proofs.LoopLaws.{more, fault, end}
use Rattle.sv_workload.proofs.SettingLaws.{setting_steps, setting_shrinks}

-- what was read, before it became something else
pub record Before {A B : Type 0} (view : A → B) (read : Read A) (b : B) (rest : List Token) : Type 0 where
  pub item : A
  pub is : read ≡ Ok (item, rest)
  pub made : b ≡ view item

pub before : {A B : Type 0} (view : A → B) (read : Read A) (b : B) (rest : List Token) → as_item view read ≡ Ok (b, rest) → Before view read b rest
before view (Err f) b rest e = absurd cc
before view (Ok (a, r)) b rest e = let same = same_read e in record { item = a; is = ap (λ l. Ok (a, l)) same.rests; made = sym same.item }

pub before_err : {A B : Type 0} (view : A → B) (read : Read A) (f : ReadFault) → as_item view read ≡ Err f → read ≡ Err f
before_err view (Ok read) f e = absurd cc
before_err view (Err g) f e = let same : g ≡ f = cc in ap Err same

pub rows_more : (schema : List Declaration) (rows : List InitRow) (tokens : List Token) (row : InitRow) (rest : List Token)
    → is_name tokens ≡ true → as_item (init_row schema) (row_from schema rows tokens) ≡ Ok (row, rest) → rows_from schema rows tokens ≡ rows_from schema (rows ++ row ∷ []) rest
rows_more schema rows tokens row rest t e = let b = before (init_row schema) (row_from schema rows tokens) row rest e in
    more (row_steps schema) rows tokens b.item rest t b.is ∙ ap (λ x. rows_from schema (rows ++ x ∷ []) rest) (sym b.made)

pub rows_less : (schema : List Declaration) (rows : List InitRow) (tokens : List Token) (row : InitRow) (rest : List Token)
    → is_name tokens ≡ true → as_item (init_row schema) (row_from schema rows tokens) ≡ Ok (row, rest) → length rest < length tokens
rows_less schema rows tokens row rest t e = let b = before (init_row schema) (row_from schema rows tokens) row rest e in row_shrinks schema rows tokens b.item rest t b.is

pub rows_err : (schema : List Declaration) (rows : List InitRow) (tokens : List Token) (f : ReadFault)
    → is_name tokens ≡ true → as_item (init_row schema) (row_from schema rows tokens) ≡ Err f → rows_from schema rows tokens ≡ Err f
rows_err schema rows tokens f t e = fault (row_steps schema) rows tokens f t (before_err (init_row schema) (row_from schema rows tokens) f e)

pub rows_end : (schema : List Declaration) (rows : List InitRow) (tokens : List Token) → is_name tokens ≡ false → rows_from schema rows tokens ≡ Ok (rows, tokens)
rows_end schema rows tokens t = end (row_steps schema) rows tokens t

pub ruleset rows = (rows_more, rows_less, rows_err, rows_end)

pub settings_more : (count : ℕ) (g : Given) (tokens : List Token) (s : Setting × ℕ) (rest : List Token)
    → begins_setting tokens ≡ true → setting_from count g tokens ≡ Ok (s, rest) → settings_from count g tokens ≡ settings_from count (with_setting g s) rest
settings_more count g tokens s rest t e = more (setting_steps count) g tokens s rest t e

pub settings_less : (count : ℕ) (g : Given) (tokens : List Token) (s : Setting × ℕ) (rest : List Token)
    → begins_setting tokens ≡ true → setting_from count g tokens ≡ Ok (s, rest) → length rest < length tokens
settings_less count g tokens s rest t e = setting_shrinks count g tokens s rest t e

pub settings_err : (count : ℕ) (g : Given) (tokens : List Token) (f : ReadFault) → begins_setting tokens ≡ true → setting_from count g tokens ≡ Err f → settings_from count g tokens ≡ Err f
settings_err count g tokens f t e = fault (setting_steps count) g tokens f t e

pub settings_end : (count : ℕ) (g : Given) (tokens : List Token) → begins_setting tokens ≡ false → settings_from count g tokens ≡ Ok (g, tokens)
settings_end count g tokens t = end (setting_steps count) g tokens t

pub ruleset settings = (settings_more, settings_less, settings_err, settings_end)
