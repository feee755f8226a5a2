-- One turn more of the loop that reads steps; and what was read of a step keeps its bounds.
use Rattle.std.proofs.Common.{◌≡◌, ◌∙◌, ℕ, ◌<◌, ◌≤◌, nat_lt, Bool, true, false, ◌||◌, List, [], ◌∷◌, ◌++◌, length, Option, Some, None, Ok, Err, refl, sym, ap, append_assoc, arith}
use Rattle.std.proofs.lemmas.Bool.Decides.{nat_tests}
use Rattle.std.proofs.lemmas.List.{length-append}
use Rattle.sv_lex.specs.declared.tokens.Token.{Token}
use Rattle.sv_app.specs.declared.refusals.Code.{Code}
use Rattle.sv_app.specs.declared.refusals.Code.TheVariants.{BadStep}
use Rattle.sv_app.specs.Schema.{Declaration}
use Rattle.sv_app.specs.Trees.{Transaction}
use Rattle.sv_reader.specs.declared.faults.ReadFault.{ReadFault}
use Rattle.sv_reader.specs.Grammar.{◌·◌, word}
use Rattle.sv_reader.specs.Reading.{Read, given}
use Rattle.sv_reader.proofs.ReadLaws.{Took}
use Rattle.sv_workload.specs.declared.lines.PlainStep.{PlainStep}
use Rattle.sv_workload.specs.declared.lines.Steps.{Steps}
use Rattle.sv_workload.specs.declared.parts.Step.{Step}
use Rattle.sv_workload.specs.declared.parts.Step.TheVariants as steps
use Rattle.sv_workload.specs.declared.written.Color.TheVariants as colors
use Rattle.sv_workload.specs.declared.written.Verb.{Verb}
use Rattle.sv_workload.specs.declared.written.Verb.TheVariants as verbs
use Rattle.sv_workload.specs.Documents.{step_of}
use Rattle.sv_workload.specs.Grammar.{number, packet, line}
use Rattle.sv_workload.specs.LineReading.{line_of, full_mark, most_number, most_packet, sent_mark, packet_mark, tail_mark, number_mark, verb_mark, line_mark, line_from, lines_from, step_asks, step_shows, with_step, no_steps, is_more, IsSite, IsBoundedPacket, IsBoundedLine, IsCounted}
use Rattle.sv_workload.specs.Reading.{natural_of, count_at, is_out, out_mark, from_read, or_else, line_at, as_item}
use Rattle.sv_workload.specs.Written.{Sent, Blue, Red, Line, Ask, Order, Deliver, Settle, Catch, Show, Cut, Move}
use Rattle.sv_workload.proofs.LineLaws.{verb_word, line_law}
use Rattle.sv_workload.proofs.LineMarkLaws.{verb_is, line_steps, line_shrinks}
use Rattle.sv_workload.proofs.LoopLaws.{more, fault, end}
use Rattle.sv_workload.proofs.NumberMarkLaws.{color_is}
use Rattle.sv_workload.proofs.SettingLaws.{count_law, second_none, given_false}
use Rattle.sv_workload.proofs.TurnLaws.{before, before_err}
use Rattle.sv_workload.proofs.ValueLaws.{natural_there}

pub lines_more : (schema : List Declaration) (txns : List Transaction) (sites : ℕ) (s : Steps) (tokens : List Token) (step : Step) (rest : List Token)
    → is_more tokens ≡ true → as_item (step_of schema txns) (line_from schema txns sites s tokens) ≡ Ok (step, rest) → lines_from schema txns sites s tokens ≡ lines_from schema txns sites (with_step s step) rest
lines_more schema txns sites s tokens step rest t e = let b = before (step_of schema txns) (line_from schema txns sites s tokens) step rest e in
    more (line_steps schema txns sites) s tokens b.item rest t b.is ∙ ap (λ x. lines_from schema txns sites (with_step s x) rest) (sym b.made)

pub lines_less : (schema : List Declaration) (txns : List Transaction) (sites : ℕ) (s : Steps) (tokens : List Token) (step : Step) (rest : List Token)
    → is_more tokens ≡ true → as_item (step_of schema txns) (line_from schema txns sites s tokens) ≡ Ok (step, rest) → length rest < length tokens
lines_less schema txns sites s tokens step rest t e = let b = before (step_of schema txns) (line_from schema txns sites s tokens) step rest e in line_shrinks schema txns sites s tokens b.item rest t b.is

pub lines_err : (schema : List Declaration) (txns : List Transaction) (sites : ℕ) (s : Steps) (tokens : List Token) (f : ReadFault)
    → is_more tokens ≡ true → as_item (step_of schema txns) (line_from schema txns sites s tokens) ≡ Err f → lines_from schema txns sites s tokens ≡ Err f
lines_err schema txns sites s tokens f t e = fault (line_steps schema txns sites) s tokens f t (before_err (step_of schema txns) (line_from schema txns sites s tokens) f e)

pub lines_end : (schema : List Declaration) (txns : List Transaction) (sites : ℕ) (s : Steps) (tokens : List Token) → is_more tokens ≡ false → lines_from schema txns sites s tokens ≡ Ok (s, tokens)
lines_end schema txns sites s tokens t = end (line_steps schema txns sites) s tokens t

pub counted_none : IsCounted no_steps
counted_none = record { asks = omega arith; shows = omega arith }

pub counted_with : (s : Steps) (step : Step) → IsCounted s → IsCounted (with_step s step)
counted_with s step is = let a = asks_few step in let b = shows_few step in record {
  asks = omega (arith, is.asks, a, length-append s.steps (step ∷ []));
  shows = omega (arith, is.shows, b, length-append s.steps (step ∷ []));
}
  where
    asks_few : (step : Step) → step_asks step ≤ 1
    asks_few (steps.Ask n c) = omega arith
    asks_few (steps.Order n) = omega arith
    asks_few (steps.Deliver n p) = omega arith
    asks_few (steps.Settle n) = omega arith
    asks_few (steps.Catch n) = omega arith
    asks_few (steps.Show n t) = omega arith
    asks_few (steps.ShowCut n) = omega arith
    asks_few (steps.Move n s) = omega arith

    shows_few : (step : Step) → step_shows step ≤ 1
    shows_few (steps.Ask n c) = omega arith
    shows_few (steps.Order n) = omega arith
    shows_few (steps.Deliver n p) = omega arith
    shows_few (steps.Settle n) = omega arith
    shows_few (steps.Catch n) = omega arith
    shows_few (steps.Show n t) = omega arith
    shows_few (steps.ShowCut n) = omega arith
    shows_few (steps.Move n s) = omega arith

pub ruleset lines = (lines_more, lines_less, lines_err, lines_end, counted_none, counted_with)

-- bounds

first_none : {A : Type 0} (a b : Option A) → or_else a b ≡ None → a ≡ None
first_none None b e = refl
first_none (Some a) b e = absurd cc

both_false : (a b : Bool) → a || b ≡ false → (a ≡ false) × (b ≡ false)
both_false true b e = absurd cc
both_false false b e = (refl, e)

abbrev place_fault : Code → List Token → ReadFault
place_fault wanted tokens = record { code = wanted; left = length tokens }

in_bounds : (wanted : Code) (least most n : ℕ) (tokens front rest : List Token) → out_mark wanted least most tokens ≡ None → tokens ≡ front ++ rest → number n front → (least ≤ n) × (n ≤ most)
in_bounds wanted least most n tokens front rest e w is = by_tests (both_false (nat_lt n least) (nat_lt most n) (sym tests ∙ given_false (is_out least most (natural_of is.token.kind)) (place_fault wanted (is.token ∷ rest)) none))
  where
    none : given (is_out least most (natural_of is.token.kind)) (place_fault wanted (is.token ∷ rest)) ≡ None
    none = ap (out_mark wanted least most) (sym (w ∙ ap (λ l. l ++ rest) is.only)) ∙ e

    tests : is_out least most (natural_of is.token.kind) ≡ nat_lt n least || nat_lt most n
    tests = ap (is_out least most) (ap natural_of is.holds ∙ natural_there n)

    not_less : (a b : ℕ) → nat_lt a b ≡ false → b ≤ a
    not_less a b t = grind (arith, nat_tests, t)

    by_tests : (nat_lt n least ≡ false) × (nat_lt most n ≡ false) → (least ≤ n) × (n ≤ most)
    by_tests t = (not_less n least t.0, not_less most n t.1)

behind_count : (n : ℕ) (tokens front rest : List Token) (next : List Token → Option ReadFault) → tokens ≡ front ++ rest → number n front → from_read (count_at tokens) next ≡ None → next rest ≡ None
behind_count n tokens front rest next w is e = ap (λ (r : Read ℕ). from_read r next) (sym (ap count_at w ∙ count_law.reads n front rest is refl)) ∙ e

packet_bounded : (sites : ℕ) (sent : Sent) (tokens front rest : List Token) → sites ≤ 8 → packet_mark sites tokens ≡ None → tokens ≡ front ++ rest → packet sent front → IsBoundedPacket sent
packet_bounded sites (Blue site seq) tokens front rest few e w is =
    let none : sent_mark sites (Some colors.Blue) (is.back ++ rest) ≡ None
    = ap (λ c. sent_mark sites c (is.back ++ rest)) (sym (color_is is.first.token colors.Blue is.first.holds)) ∙ ap (packet_mark sites) (sym (w ∙ ap (λ l. l ++ rest) (is.whole ∙ ap (λ l. l ++ is.back) is.first.only))) ∙ e in
    let whole : is.back ++ rest ≡ is.then.front ++ (is.then.back ++ rest) = ap (λ l. l ++ rest) is.then.whole ∙ append_assoc is.then.front is.then.back rest in
    let site_in = in_bounds BadStep 1 sites site (is.back ++ rest) is.then.front (is.then.back ++ rest)
    (first_none (out_mark BadStep 1 sites (is.back ++ rest)) (from_read (count_at (is.back ++ rest)) (λ r. out_mark BadStep 0 most_packet r)) none) whole is.then.first in
    let last = behind_count site (is.back ++ rest) is.then.front (is.then.back ++ rest) (λ r. out_mark BadStep 0 most_packet r) whole is.then.first
    (second_none (out_mark BadStep 1 sites (is.back ++ rest)) (from_read (count_at (is.back ++ rest)) (λ r. out_mark BadStep 0 most_packet r)) none) in
    let seq_in = in_bounds BadStep 0 most_packet seq (is.then.back ++ rest) is.then.back rest last refl is.then.then in
    ((site_in.0, omega (arith, site_in.1, few)), seq_in.1)
packet_bounded sites (Red slot) tokens front rest few e w is =
    let none : sent_mark sites (Some colors.Red) (is.back ++ rest) ≡ None
    = ap (λ c. sent_mark sites c (is.back ++ rest)) (sym (color_is is.first.token colors.Red is.first.holds)) ∙ ap (packet_mark sites) (sym (w ∙ ap (λ l. l ++ rest) (is.whole ∙ ap (λ l. l ++ is.back) is.first.only))) ∙ e in
    (in_bounds BadStep 0 most_packet slot (is.back ++ rest) is.back rest none refl is.then).1

module _ (schema : List Declaration) (txns : List Transaction) (sites : ℕ) (s : Steps) where
  -- the number of a step is in its bounds, and nothing is refused behind it
  record Within (v : Verb) (n : ℕ) (tail : List Token) : Type 0 where
    pub least : 1 ≤ n
    pub most : n ≤ most_number sites v
    pub none : tail_mark schema txns sites v tail ≡ None

  within : (v : Verb) (n : ℕ) (Rest : List Token → Type 0) (tokens front rest : List Token) → line_mark schema txns sites s tokens ≡ None → tokens ≡ front ++ rest → (is : (word (verb_word v) · number n · Rest) front) → Within v n (is.then.back ++ rest)
  within v n Rest tokens front rest e w is =
      let none : verb_mark schema txns sites s (Some v) is.first.token (is.back ++ rest) ≡ None
      = ap (λ o. verb_mark schema txns sites s o is.first.token (is.back ++ rest)) (sym (verb_is is.first.token v is.first.holds))
      ∙ ap (line_mark schema txns sites s) (sym (w ∙ ap (λ l. l ++ rest) (is.whole ∙ ap (λ l. l ++ is.back) is.first.only))) ∙ e in
      let numbers = second_none (full_mark s v (is.first.token ∷ (is.back ++ rest))) (number_mark schema txns sites v (is.back ++ rest)) none in
      let whole : is.back ++ rest ≡ is.then.front ++ (is.then.back ++ rest) = ap (λ l. l ++ rest) is.then.whole ∙ append_assoc is.then.front is.then.back rest in
      let bounds = in_bounds BadStep 1 (most_number sites v) n (is.back ++ rest) is.then.front (is.then.back ++ rest)
      (first_none (out_mark BadStep 1 (most_number sites v) (is.back ++ rest)) (from_read (count_at (is.back ++ rest)) (λ r. tail_mark schema txns sites v r)) numbers) whole is.then.first in
      record {
        least = bounds.0;
        most = bounds.1;
        none = behind_count n (is.back ++ rest) is.then.front (is.then.back ++ rest) (λ r. tail_mark schema txns sites v r) whole is.then.first
            (second_none (out_mark BadStep 1 (most_number sites v) (is.back ++ rest)) (from_read (count_at (is.back ++ rest)) (λ r. tail_mark schema txns sites v r)) numbers);
      }

  pub line_bounded : (l : Line) (tokens rest : List Token) → sites ≤ 8 → line_mark schema txns sites s tokens ≡ None → line_at tokens ≡ Ok (l, rest) → IsBoundedLine l
  line_bounded l tokens rest few e read = by_line l took.front took.whole took.is
    where
      took : Took line line_at tokens l rest
      took = line_law.took tokens l rest read

      site : (n : ℕ) → 1 ≤ n → n ≤ sites → IsSite n
      site n least most = (least, omega (arith, most, few))

      by_line : (l : Line) (front : List Token) → tokens ≡ front ++ rest → line l front → IsBoundedLine l
      by_line (Ask n c) front w is = (within verbs.Ask n _ tokens front rest e w is).most
      by_line (Order n) front w is = (within verbs.Order n _ tokens front rest e w is).most
      by_line (Deliver n sent) front w is = let b = within verbs.Deliver n _ tokens front rest e w is in (
        site n b.least b.most,
        packet_bounded sites sent (is.then.back ++ rest) is.then.then.front (is.then.then.back ++ rest) few b.none
            (ap (λ l. l ++ rest) is.then.then.whole ∙ append_assoc is.then.then.front is.then.then.back rest) is.then.then.first,
      )
      by_line (Settle n) front w is = let b = within verbs.Settle n _ tokens front rest e w is in site n b.least b.most
      by_line (Catch n) front w is = let b = within verbs.Catch n _ tokens front rest e w is in site n b.least b.most
      by_line (Show n t) front w is = let b = within verbs.Show n _ tokens front rest e w is in site n b.least b.most
      by_line (Cut n) front w is = let b = within verbs.Cut n _ tokens front rest e w is in site n b.least b.most
      by_line (Move n s) front w is =
          let b = within verbs.Move n _ tokens front rest e w is in
          let bounds = in_bounds BadStep 1 sites s (is.then.back ++ rest) is.then.then.front (is.then.then.back ++ rest) b.none
          (ap (λ l. l ++ rest) is.then.then.whole ∙ append_assoc is.then.then.front is.then.then.back rest) is.then.then.first in
          (b.most, site s bounds.0 bounds.1)

pub step_bounded : (schema : List Declaration) (txns : List Transaction) (sites : ℕ) (s : Steps) (step : PlainStep) (tokens rest : List Token) → sites ≤ 8 → line_mark schema txns sites s tokens ≡ None → line_at tokens ≡ Ok (line_of step, rest) → IsBoundedLine (line_of step)
step_bounded schema txns sites s step tokens rest few e read = line_bounded schema txns sites s (line_of step) tokens rest few e read

pub ruleset bounds = (step_bounded)
