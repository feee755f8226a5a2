-- One turn more of a loop that reads elements behind commas, or tables.
use Rattle.std.proofs.Common.{◌≡◌, ℕ, ◌<◌, true, false, List, length, Ok, Err, refl, sym, ap, subst}
use Rattle.sv_value.specs.declared.spots.Spot.{Spot}
use Rattle.sv_lex.specs.declared.marks.Mark.TheVariants.{RightParen, Comma, At}
use Rattle.sv_lex.specs.declared.tokens.Token.{Token}
use Rattle.sv_lex.specs.declared.tokens.TokenKind.TheVariants.{Mark}
use Rattle.sv_app.specs.Schema.{Declaration}
use Rattle.sv_reader.specs.declared.faults.ReadFault.{ReadFault}
use Rattle.sv_reader.specs.Reading.{Read, is_kind, is_next, kind_at, turns_at, others_at}
use Rattle.sv_schema_reader.specs.Reading.{text_step, item_step, begins_table, table_step, tables_at}
use Rattle.sv_schema_reader.proofs.ItemStepLaws.{add_item, item_stepping, item_step_is}
use Rattle.sv_schema_reader.proofs.SchemaLaws.{table_stepping, table_turning, keep, step_is as table_step_is}
use Rattle.sv_reader.proofs.StepLaws.{one_step, comma_turning}
use Rattle.sv_reader.proofs.ListLaws.{snoc}
use Rattle.sv_schema_reader.proofs.TextLaws.{text_stepping, step_is as text_step_is}
use Rattle.sv_reader.proofs.TurnLaws.{shorter, turn_read, turn_err, end_read}
use Rattle.sv_reader.proofs.LoopLaws.{Loops, loops_of}

text_loops : Loops text_step
text_loops = subst (λ step. Loops step) (λ i texts tokens. sym (text_step_is texts tokens) i) (loops_of (comma_turning text_stepping snoc (λ token l e. refl) (λ token l e. refl)))

item_loops : (count : ℕ) → Loops (item_step count)
item_loops count = subst (λ step. Loops step) (λ i d tokens. sym (item_step_is count d tokens) i)
    (loops_of (comma_turning item_stepping (add_item count) (λ token l e. ap (λ k. is_kind (Mark At) k) e) (λ token l e. ap (λ k. is_kind (Mark At) k) e)))

-- texts

pub text_more : (s : List (List ℕ)) (tokens : List Token) (spot : Spot) (r : List Token) (m : List (List ℕ)) (rest : List Token)
    → is_next (Mark Comma) tokens ≡ true → kind_at (Mark Comma) tokens ≡ Ok (spot, r) → text_step s r ≡ Ok (m, rest) → others_at text_step s tokens ≡ others_at text_step m rest
text_more s tokens spot r m rest t k e = text_loops.more s tokens spot r m rest t k e

pub text_less : (s : List (List ℕ)) (tokens : List Token) (spot : Spot) (r : List Token) (m : List (List ℕ)) (rest : List Token)
    → is_next (Mark Comma) tokens ≡ true → kind_at (Mark Comma) tokens ≡ Ok (spot, r) → text_step s r ≡ Ok (m, rest) → length rest < length tokens
text_less s tokens spot r m rest t k e = text_loops.less s tokens spot r m rest t k e

pub text_comma_err : (s : List (List ℕ)) (tokens : List Token) (fault : ReadFault) → is_next (Mark Comma) tokens ≡ true → kind_at (Mark Comma) tokens ≡ Err fault → others_at text_step s tokens ≡ Err fault
text_comma_err s tokens fault t k = text_loops.comma_err s tokens fault t k

pub text_step_err : (s : List (List ℕ)) (tokens : List Token) (spot : Spot) (r : List Token) (fault : ReadFault)
    → is_next (Mark Comma) tokens ≡ true → kind_at (Mark Comma) tokens ≡ Ok (spot, r) → text_step s r ≡ Err fault → others_at text_step s tokens ≡ Err fault
text_step_err s tokens spot r fault t k e = text_loops.step_err s tokens spot r fault t k e

pub text_close : (s : List (List ℕ)) (tokens : List Token) (spot : Spot) (r : List Token) → is_next (Mark Comma) tokens ≡ false → kind_at (Mark RightParen) tokens ≡ Ok (spot, r) → others_at text_step s tokens ≡ Ok (s, r)
text_close s tokens spot r t k = text_loops.close s tokens spot r t k

pub text_close_err : (s : List (List ℕ)) (tokens : List Token) (fault : ReadFault) → is_next (Mark Comma) tokens ≡ false → kind_at (Mark RightParen) tokens ≡ Err fault → others_at text_step s tokens ≡ Err fault
text_close_err s tokens fault t k = text_loops.close_err s tokens fault t k

-- items

pub item_more : (count : ℕ) (s : Declaration) (tokens : List Token) (spot : Spot) (r : List Token) (m : Declaration) (rest : List Token)
    → is_next (Mark Comma) tokens ≡ true → kind_at (Mark Comma) tokens ≡ Ok (spot, r) → item_step count s r ≡ Ok (m, rest) → others_at (item_step count) s tokens ≡ others_at (item_step count) m rest
item_more count s tokens spot r m rest t k e = (item_loops count).more s tokens spot r m rest t k e

pub item_less : (count : ℕ) (s : Declaration) (tokens : List Token) (spot : Spot) (r : List Token) (m : Declaration) (rest : List Token)
    → is_next (Mark Comma) tokens ≡ true → kind_at (Mark Comma) tokens ≡ Ok (spot, r) → item_step count s r ≡ Ok (m, rest) → length rest < length tokens
item_less count s tokens spot r m rest t k e = (item_loops count).less s tokens spot r m rest t k e

pub item_comma_err : (count : ℕ) (s : Declaration) (tokens : List Token) (fault : ReadFault) → is_next (Mark Comma) tokens ≡ true → kind_at (Mark Comma) tokens ≡ Err fault → others_at (item_step count) s tokens ≡ Err fault
item_comma_err count s tokens fault t k = (item_loops count).comma_err s tokens fault t k

pub item_step_err : (count : ℕ) (s : Declaration) (tokens : List Token) (spot : Spot) (r : List Token) (fault : ReadFault)
    → is_next (Mark Comma) tokens ≡ true → kind_at (Mark Comma) tokens ≡ Ok (spot, r) → item_step count s r ≡ Err fault → others_at (item_step count) s tokens ≡ Err fault
item_step_err count s tokens spot r fault t k e = (item_loops count).step_err s tokens spot r fault t k e

pub item_close : (count : ℕ) (s : Declaration) (tokens : List Token) (spot : Spot) (r : List Token) → is_next (Mark Comma) tokens ≡ false → kind_at (Mark RightParen) tokens ≡ Ok (spot, r) → others_at (item_step count) s tokens ≡ Ok (s, r)
item_close count s tokens spot r t k = (item_loops count).close s tokens spot r t k

pub item_close_err : (count : ℕ) (s : Declaration) (tokens : List Token) (fault : ReadFault) → is_next (Mark Comma) tokens ≡ false → kind_at (Mark RightParen) tokens ≡ Err fault → others_at (item_step count) s tokens ≡ Err fault
item_close_err count s tokens fault t k = (item_loops count).close_err s tokens fault t k

-- tables

tables_are : table_step ≡ one_step table_stepping snoc
tables_are = λ i ds tokens. table_step_is ds tokens i

pub table_more : (ds : List Declaration) (tokens : List Token) (m : List Declaration) (rest : List Token) → begins_table tokens ≡ true → table_step ds tokens ≡ Ok (m, rest) → tables_at ds tokens ≡ tables_at m rest
table_more ds tokens m rest t e =
    subst (λ (step : List Declaration → List Token → Read (List Declaration)). step ds tokens ≡ Ok (m, rest) → turns_at begins_table step keep ds tokens ≡ turns_at begins_table step keep m rest) (sym tables_are)
    (λ e. turn_read table_turning ds tokens m rest t e) e

pub table_less : (ds : List Declaration) (tokens : List Token) (m : List Declaration) (rest : List Token) → begins_table tokens ≡ true → table_step ds tokens ≡ Ok (m, rest) → length rest < length tokens
table_less ds tokens m rest t e =
    subst (λ (step : List Declaration → List Token → Read (List Declaration)). step ds tokens ≡ Ok (m, rest) → length rest < length tokens) (sym tables_are) (λ e. shorter table_turning ds tokens m rest t e) e

pub table_err : (ds : List Declaration) (tokens : List Token) (fault : ReadFault) → begins_table tokens ≡ true → table_step ds tokens ≡ Err fault → tables_at ds tokens ≡ Err fault
table_err ds tokens fault t e =
    subst (λ (step : List Declaration → List Token → Read (List Declaration)). step ds tokens ≡ Err fault → turns_at begins_table step keep ds tokens ≡ Err fault) (sym tables_are)
    (λ e. turn_err table_turning ds tokens fault t e) e

pub table_end : (ds : List Declaration) (tokens : List Token) → begins_table tokens ≡ false → tables_at ds tokens ≡ Ok (ds, tokens)
table_end ds tokens t =
    subst (λ (step : List Declaration → List Token → Read (List Declaration)). turns_at begins_table step keep ds tokens ≡ Ok (ds, tokens)) (sym tables_are) (end_read table_turning ds tokens t)

pub ruleset texts = (text_more, text_less, text_comma_err, text_step_err, text_close, text_close_err)

pub ruleset items = (item_more, item_less, item_comma_err, item_step_err, item_close, item_close_err)

pub ruleset all_tables = (table_more, table_less, table_err, table_end)
