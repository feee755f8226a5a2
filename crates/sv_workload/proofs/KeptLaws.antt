-- What is known of initial rows that were read.
use Rattle.std.proofs.Common.{◌≡◌, ◌∙◌, ℕ, ◌≤◌, List, [], ◌++◌, length, map, Ok, Err, refl, sym, ap, subst, append_assoc, arith}
use Rattle.std.specs.List.{All}
use Rattle.std.proofs.lemmas.List.{length-map}
use Rattle.sv_lex.specs.declared.tokens.Token.{Token}
use Rattle.sv_app.specs.declared.requests.InitRow.{InitRow}
use Rattle.sv_app.specs.Accepted.{AcceptedSchema}
use Rattle.sv_app.specs.Schema.{Declaration}
use Rattle.sv_effect.specs.Initial.{InitFits, AreDistinct}
use Rattle.sv_reader.specs.Reading.{Read, IsLeft}
use Rattle.sv_workload.specs.declared.written.Row.{Row}
use Rattle.sv_workload.specs.Elements.{AreNone}
use Rattle.sv_workload.specs.InitRefused.{InitRefused, InRows, AreInit, NoInit, Init}
use Rattle.sv_workload.specs.Reading.{init_from}
use Rattle.sv_workload.specs.Rows.{init_row}
use Rattle.sv_workload.proofs.FitLaws.{GoodFrom, good_from, all_fit, distinct, few_rows}
use Rattle.sv_workload.proofs.InitLaws.{init_judged}

-- rows of which none is refused
pub record Kept (schema : List Declaration) (tokens : List Token) (rows : List InitRow) (left : ℕ) : Type 0 where
  pub written : List Row
  pub rest : List Token
  pub is : init_from schema tokens ≡ Ok (rows, rest)
  pub are : AreInit tokens written rest
  pub right : AreNone (InitRefused schema tokens)
  pub made : rows ≡ map (init_row schema) written
  pub count : length rest ≡ left

module _ (schema : List Declaration) (tokens : List Token) (rows : List InitRow) (left : ℕ) where
  pub kept : IsLeft (init_from schema tokens) rows left → Kept schema tokens rows left
  kept is = by_read (init_from schema tokens) refl is
    where
      by_read : (read : Read (List InitRow)) → init_from schema tokens ≡ read → IsLeft read rows left → Kept schema tokens rows left
      by_read (Err fault) e is = absurd is
      by_read (Ok (found, rest)) e is =
          let read : init_from schema tokens ≡ Ok (rows, rest) = e ∙ ap (λ (x : List InitRow). Ok (x, rest)) is.0 in
          let took = (init_judged schema tokens).took rows rest read in
          record { written = took.rows; rest = rest; is = read; are = took.are; right = (init_judged schema tokens).right rows rest read; made = took.made; count = is.1 }

  pub good : (written : List Row) (rest : List Token) → AreInit tokens written rest → AreNone (InitRefused schema tokens) → GoodFrom schema [] written
  good _ _ (NoInit begins) right = tt
  good _ _ (Init written front rest whole is ends) right =
      good_from schema [] written (is.back ++ rest) is.back rest refl is.then
      (λ code here among. right code here (InRows is.front (is.back ++ rest) code here (whole ∙ ap (λ l. l ++ rest) is.whole ∙ append_assoc is.front is.back rest) is.first among))

  its : (k : Kept schema tokens rows left) → GoodFrom schema [] k.written
  its k = good k.written k.rest k.are k.right

  pub rows_fit : AcceptedSchema schema → IsLeft (init_from schema tokens) rows left → All (InitFits schema) rows
  rows_fit accepted is = let k = kept is in subst (λ l. All (InitFits schema) l) (sym k.made) (all_fit schema accepted [] k.written (its k))

  pub rows_distinct : IsLeft (init_from schema tokens) rows left → AreDistinct rows
  rows_distinct is = let k = kept is in subst (λ l. AreDistinct l) (sym k.made) (distinct schema [] k.written (its k))

  pub rows_few : IsLeft (init_from schema tokens) rows left → length rows ≤ 4096
  rows_few is = let k = kept is in let few = few_rows schema [] k.written (its k) (omega arith) in omega (arith, few, ap length k.made, length-map k.written (init_row schema))
