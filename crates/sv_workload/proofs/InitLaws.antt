-- The initial rows are judged.
use Rattle.std.proofs.Common.{◌≡◌, ◌∙◌, ◌<◌, ◌≤◌, inr, Bool, true, false, if◌then◌else◌, List, [], ◌∷◌, ◌++◌, length, drop, map, Option, Some, None, Ok, pos, refl, sym, ap, subst, append_assoc, arith, codes}
use Rattle.std.proofs.lemmas.List.{length-append}
use Rattle.sv_lex.specs.declared.marks.Mark.TheVariants.{LeftParen, RightParen, Semi, Percents}
use Rattle.sv_lex.specs.declared.tokens.Token.{Token}
use Rattle.sv_lex.specs.declared.tokens.TokenKind.TheVariants.{Name, Number, Mark as OfMark}
use Rattle.sv_value.specs.declared.values.Val.TheVariants as vals
use Rattle.sv_app.specs.declared.apps.Ident.{Ident}
use Rattle.sv_app.specs.declared.refusals.Code.{Code}
use Rattle.sv_app.specs.declared.requests.InitRow.{InitRow}
use Rattle.sv_app.specs.Schema.{Declaration}
use Rattle.sv_reader.specs.declared.faults.ReadFault.{ReadFault}
use Rattle.sv_reader.specs.Grammar.{IsName}
use Rattle.sv_reader.specs.Reading.{Read, is_kind, is_some, name_of, is_name}
use Rattle.sv_reader.proofs.KindLaws.{token_of, kind_is, kind_same}
use Rattle.sv_reader.proofs.PartLaws.{name_is, name_next}
use Rattle.sv_reader.proofs.PartLaws as parts
use Rattle.sv_reader.proofs.AnswerLaws.{same_read}
use Rattle.sv_workload.specs.declared.written.Row.{Row}
use Rattle.sv_workload.specs.Elements.{Refusals, Begins, Among, AreNone}
use Rattle.sv_workload.specs.Grammar.{many, row, init_head, Plain}
use Rattle.sv_workload.specs.InitRefused.{BeginsName, BeginsRow, RowRefused, Misplaced as RowMisplaced, NoTable, Unfit, Repeated, LeftToDraw, TooMany, InitRefused, InRows, BeginsInit, AreInit, NoInit, Init}
use Rattle.sv_workload.specs.Reading.{settled, at_front, row_code, table_meant, row_at, row_from, rows_from, begins_init, init_from}
use Rattle.sv_workload.specs.Rows.{init_row}
use Rattle.sv_workload.proofs.JudgeLaws.{Alike, Judged, judged_map}
use Rattle.sv_workload.proofs.LoopLaws.{Element, Elements, Steps, judged_loop}
use Rattle.sv_workload.proofs.MarkLaws.{FirstMark, Marks, Standing, Mark, Misplaced, judged_marked}
use Rattle.sv_workload.proofs.RowLaws.{Wrong, Nameless, Misfit, Again, Crowd, Left, Tells, tells, both_true, true_both}
use Rattle.sv_workload.proofs.ValueLaws.{row_law}

-- the name at the front

pub record Named (token : Token) : Type 0 where
  pub ident : Ident
  pub is : name_of token ≡ Some ident

pub named : (token : Token) → is_some (name_of token) ≡ true → Named token
named token e = by_name (name_of token) refl e
  where
    by_name : (n : Option Ident) → name_of token ≡ n → is_some n ≡ true → Named token
    by_name (Some ident) n e = record { ident = ident; is = n }
    by_name None n e = absurd cc

pub name_begins : (ident : Ident) (tokens : List Token) → BeginsName ident tokens → is_name tokens ≡ true
name_begins ident [] is = absurd is
name_begins ident (token ∷ others) is = ap is_some (parts.is_named ident token is)

pub begins_row : (tokens : List Token) → is_name tokens ≡ true → BeginsRow tokens
begins_row [] e = absurd cc
begins_row (token ∷ others) e = let n = named token e in record { table = n.ident; is = name_is token.spot token.kind n.ident n.is }

pub contra : {b : Bool} → b ≡ true → b ≡ false → ⊥
contra t f = let bad : true ≡ false = sym t ∙ f in absurd cc

pub row_opens : (r : Row) (front rest : List Token) → row r front → is_name (front ++ rest) ≡ true
row_opens r front rest is = name_next r.table _ front rest is

row_some : (r : Row) → row r [] → ⊥
row_some r is = let bad : is.first.token ∷ is.back ≡ [] = sym (is.whole ∙ ap (λ l. l ++ is.back) is.first.only) in absurd cc

row_begins : (token : Token) (ident : Ident) → IsName ident token → Begins row (token ∷ [])
row_begins token ident is = record {
  more = token_of (OfMark LeftParen) ∷ token_of (Number (pos 0)) ∷ token_of (OfMark RightParen) ∷ token_of (OfMark Semi) ∷ [];
  item = record { table = ident; values = vals.Int (pos 0) ∷ [] };
  is = record {
    front = token ∷ [];
    back = token_of (OfMark LeftParen) ∷ token_of (Number (pos 0)) ∷ token_of (OfMark RightParen) ∷ token_of (OfMark Semi) ∷ [];
    whole = refl;
    first = record { token = token; only = refl; holds = is };
    then = record {
      front = token_of (OfMark LeftParen) ∷ [];
      back = token_of (Number (pos 0)) ∷ token_of (OfMark RightParen) ∷ token_of (OfMark Semi) ∷ [];
      whole = refl;
      first = record { token = token_of (OfMark LeftParen); only = refl; holds = refl };
      then = record {
        front = token_of (Number (pos 0)) ∷ [];
        back = token_of (OfMark RightParen) ∷ token_of (OfMark Semi) ∷ [];
        whole = refl;
        first = record {
          front = token_of (Number (pos 0)) ∷ [];
          back = [];
          whole = refl;
          first = Plain 0 (token_of (Number (pos 0)) ∷ []) (record { token = token_of (Number (pos 0)); only = refl; holds = refl });
          then = refl;
        };
        then = record {
          front = token_of (OfMark RightParen) ∷ [];
          back = token_of (OfMark Semi) ∷ [];
          whole = refl;
          first = record { token = token_of (OfMark RightParen); only = refl; holds = refl };
          then = record { token = token_of (OfMark Semi); only = refl; holds = refl };
        };
      };
    };
  };
}

module _ (schema : List Declaration) where
  abbrev marked : List Row → List Token → Refusals
  marked before tokens code here = Wrong schema before tokens code × (here ≡ tokens)

  row_marks : (before : List Row) (token : Token) (others : List Token) (ident : Ident) → name_of token ≡ Some ident
      → Marks row (token ∷ others) (marked before (token ∷ others)) (at_front (row_code schema (table_meant schema (token ∷ others)) (map (init_row schema) before) (row_at (token ∷ others))) (token ∷ others))
  row_marks before token others ident n = by_code (row_code schema (table_meant schema (token ∷ others)) (map (init_row schema) before) (row_at (token ∷ others))) (tells schema before token others ident n)
    where
      within : (code : Code) (here : List Token) → marked before (token ∷ others) code here → length here ≤ length (token ∷ others)
      within code here is = omega (arith, ap length is.1)

      by_code : (code : Option Code) → Tells schema before (token ∷ others) code → Marks row (token ∷ others) (marked before (token ∷ others)) (at_front code (token ∷ others))
      by_code None none = record { none = λ e code here is. none code is.0; some = λ fault e. absurd cc; within = within }
      by_code (Some code) low = record {
        none = λ e. absurd cc;
        some = λ fault e. let same : record { code = code; left = length (token ∷ others) } ≡ fault = cc in
            subst (λ f. FirstMark row (token ∷ others) (marked before (token ∷ others)) f) same (record {
              pre = [];
              token = token;
              others = others;
              whole = refl;
              begins = row_begins token ident (name_is token.spot token.kind ident n);
              place = refl;
              first = record { is = (low.is, refl); first = λ other there is. inr (ap length is.1, low.low other is.0) };
            });
        within = within;
      }

  row_judged : (before : List Row) (tokens : List Token) → is_name tokens ≡ true → Judged (Element row tokens) (RowRefused schema before tokens) tokens (row_from schema (map (init_row schema) before) tokens)
  unfolding row_from
  row_judged before [] e = absurd cc
  row_judged before (token ∷ others) e = by_name (named token e)
    where
      into : (code : Code) (here : List Token) → Standing row_law (token ∷ others) (marked before (token ∷ others)) code here → RowRefused schema before (token ∷ others) code here
      into code here (Misplaced s is) = subst (λ c. RowRefused schema before (token ∷ others) c here) (sym s) (RowMisplaced here (begins_row (token ∷ others) e) is)
      into code here (Mark is) = subst (λ l. RowRefused schema before (token ∷ others) code l) (sym is.1) (by_wrong is.0)
        where
          by_wrong : Wrong schema before (token ∷ others) code → RowRefused schema before (token ∷ others) code (token ∷ others)
          by_wrong (Nameless c table is none) = subst (λ x. RowRefused schema before (token ∷ others) x (token ∷ others)) (sym c) (NoTable table is none)
          by_wrong (Misfit c r front rest table whole is its misfit) = subst (λ x. RowRefused schema before (token ∷ others) x (token ∷ others)) (sym c) (Unfit r front rest table whole is its misfit)
          by_wrong (Again c r front rest table whole is its long again) = subst (λ x. RowRefused schema before (token ∷ others) x (token ∷ others)) (sym c) (Repeated r front rest table whole is its long again)
          by_wrong (Left c r front rest table whole is its left) = subst (λ x. RowRefused schema before (token ∷ others) x (token ∷ others)) (sym c) (LeftToDraw r front rest table whole is its left)
          by_wrong (Crowd c many) = subst (λ x. RowRefused schema before (token ∷ others) x (token ∷ others)) (sym c) (TooMany (begins_row (token ∷ others) e) many)

      out : (tokens : List Token) (code : Code) (here : List Token) → RowRefused schema before tokens code here → Standing row_law tokens (marked before tokens) code here
      out tokens _ _ (RowMisplaced here begins is) = Misplaced refl is
      out tokens _ _ (NoTable table is none) = Mark (Nameless refl table is none, refl)
      out tokens _ _ (Unfit r front rest table whole is its misfit) = Mark (Misfit refl r front rest table whole is its misfit, refl)
      out tokens _ _ (Repeated r front rest table whole is its long again) = Mark (Again refl r front rest table whole is its long again, refl)
      out tokens _ _ (LeftToDraw r front rest table whole is its left) = Mark (Left refl r front rest table whole is its left, refl)
      out tokens _ _ (TooMany begins many) = Mark (Crowd refl many, refl)

      by_name : Named token → Judged (Element row (token ∷ others)) (RowRefused schema before (token ∷ others)) (token ∷ others)
          (settled (at_front (row_code schema (table_meant schema (token ∷ others)) (map (init_row schema) before) (row_at (token ∷ others))) (token ∷ others)) (row_at (token ∷ others)))
      by_name n = judged_map refl (λ a rest is. is) (λ a rest is. is) into (λ code here is. out (token ∷ others) code here is)
          (judged_marked row_law (token ∷ others) (marked before (token ∷ others)) (at_front (row_code schema (table_meant schema (token ∷ others)) (map (init_row schema) before) (row_at (token ∷ others))) (token ∷ others))
          (row_marks before token others n.ident n.is))

  pub row_shrinks : (rows : List InitRow) (tokens : List Token) (r : Row) (rest : List Token) → is_name tokens ≡ true → row_from schema rows tokens ≡ Ok (r, rest) → length rest < length tokens
  unfolding row_from
  row_shrinks rows tokens r rest t e = by_mark (at_front (row_code schema (table_meant schema tokens) rows (row_at tokens)) tokens) e
    where
      by_front : (front : List Token) → row r front → tokens ≡ front ++ rest → length rest < length tokens
      by_front [] is w = absurd (row_some r is)
      by_front (x ∷ front) is w = omega (arith, ap length w, length-append front rest)

      by_mark : (mark : Option ReadFault) → settled mark (row_at tokens) ≡ Ok (r, rest) → length rest < length tokens
      by_mark (Some fault) e = absurd cc
      by_mark None e = let took = row_law.took tokens r rest e in by_front took.front took.is took.whole

  row_stops : (before : List Row) (tokens : List Token) → is_name tokens ≡ false → AreNone (RowRefused schema before tokens)
  row_stops before tokens t code here is = by_case code here is
    where
      no_row : (r : Row) (front rest : List Token) → tokens ≡ front ++ rest → row r front → ⊥
      no_row r front rest w is = contra (ap is_name w ∙ row_opens r front rest is) t

      by_case : (code : Code) (here : List Token) → RowRefused schema before tokens code here → ⊥
      by_case _ _ (RowMisplaced here begins is) = contra (name_begins begins.table tokens begins.is) t
      by_case _ _ (NoTable table is none) = contra (name_begins table tokens is) t
      by_case _ _ (Unfit r front rest table whole is its misfit) = no_row r front rest whole is
      by_case _ _ (Repeated r front rest table whole is its long again) = no_row r front rest whole is
      by_case _ _ (LeftToDraw r front rest table whole is its left) = no_row r front rest whole is
      by_case _ _ (TooMany begins many) = contra (name_begins begins.table tokens begins.is) t

  pub row_steps : Steps is_name (row_from schema) (λ rows r. rows ++ init_row schema r ∷ []) (map (init_row schema)) row (RowRefused schema)
  row_steps = record {
    judges = row_judged;
    shrinks = row_shrinks;
    some = row_some;
    opens = row_opens;
    stops = row_stops;
    adds = λ before r. map_push before r;
  }
    where
      map_push : (before : List Row) (r : Row) → map (init_row schema) (before ++ r ∷ []) ≡ map (init_row schema) before ++ init_row schema r ∷ []
      map_push [] r = refl
      map_push (x ∷ before) r = ap (λ l. init_row schema x ∷ l) (map_push before r)

  -- the initial rows that are read
  pub record InitRows (tokens : List Token) (s : List InitRow) (rest : List Token) : Type 0 where
    pub rows : List Row
    pub are : AreInit tokens rows rest
    pub made : s ≡ map (init_row schema) rows

  begins_by : (tokens : List Token) → BeginsInit tokens → begins_init tokens ≡ true
  begins_by [] is = absurd is
  begins_by (mark ∷ []) is = absurd is
  begins_by (mark ∷ word ∷ others) is = true_both (is_kind (OfMark Percents) mark.kind) (is_kind (Name (codes "init")) word.kind)
      (ap (is_kind (OfMark Percents)) is.0 ∙ kind_same (OfMark Percents)) (ap (is_kind (Name (codes "init"))) is.1 ∙ kind_same (Name (codes "init")))

  by_begins : (mark word : Token) (others : List Token) → begins_init (mark ∷ word ∷ others) ≡ true → (mark.kind ≡ OfMark Percents) × (word.kind ≡ Name (codes "init"))
  by_begins mark word others e = let both = both_true (is_kind (OfMark Percents) mark.kind) (is_kind (Name (codes "init")) word.kind) e in
      (kind_is (OfMark Percents) mark.kind both.0, kind_is (Name (codes "init")) word.kind both.1)

  -- the tokens behind the head of initial rows
  pub record Headed (tokens front rest : List Token) : Type 0 where
    pub begins : BeginsInit tokens
    pub behind : drop 2 tokens ≡ rest

  pub headed : (tokens front rest : List Token) → tokens ≡ front ++ rest → init_head front → Headed tokens front rest
  headed tokens front rest w is = subst (λ l. Headed l front rest) (sym whole) (record { begins = (is.first.holds, is.then.holds); behind = refl })
    where
      whole : tokens ≡ is.first.token ∷ is.then.token ∷ rest
      whole = w ∙ ap (λ l. l ++ rest) (is.whole ∙ ap (λ l. l ++ is.back) is.first.only ∙ ap (λ l. is.first.token ∷ l) is.then.only)

  no_init : (tokens : List Token) → begins_init tokens ≡ false → Judged (InitRows tokens) (InitRefused schema tokens) tokens (Ok ([], tokens))
  no_init tokens t = record {
    took = λ s rest e. let same = same_read e in record { rows = []; are = subst (λ l. AreInit tokens [] l) same.rests (NoInit (λ is. contra (begins_by tokens is) t)); made = sym same.item };
    right = λ s rest e. none;
    wrong = λ fault e. absurd cc;
    unique = λ a b r s is was. let x = only a r is.rows is.made is.are in let y = only b s was.rows was.made was.are in record { items = x.items ∙ sym y.items; rests = x.rests ∙ sym y.rests };
    within = λ code here is. absurd (none code here is);
    shorter = λ s rest is. let x = only s rest is.rows is.made is.are in omega (arith, ap length x.rests);
  }
    where
      none : AreNone (InitRefused schema tokens)
      none code here (InRows front rest _ _ whole is among) = contra (begins_by tokens (headed tokens front rest whole is).begins) t

      only : (s : List InitRow) (rest : List Token) (rows : List Row) → s ≡ map (init_row schema) rows → AreInit tokens rows rest → Alike s [] rest tokens
      only s _ _ made (NoInit begins) = record { items = made; rests = refl }
      only s _ _ made (Init rows front rest whole is ends) = absurd (contra
          (begins_by tokens (headed tokens is.front (is.back ++ rest) (whole ∙ ap (λ l. l ++ rest) is.whole ∙ append_assoc is.front is.back rest) is.first).begins) t)

  some_init : (tokens : List Token) → begins_init tokens ≡ true → Judged (InitRows tokens) (InitRefused schema tokens) tokens (rows_from schema [] (drop 2 tokens))
  some_init [] e = absurd cc
  some_init (mark ∷ []) e = absurd cc
  some_init (mark ∷ word ∷ behind) e = longer (judged_map refl into out refused_into refused_out (judged_loop row_steps [] behind))
    where
      head : init_head (mark ∷ word ∷ [])
      head = let k = by_begins mark word behind e in record {
        front = mark ∷ [];
        back = word ∷ [];
        whole = refl;
        first = record { token = mark; only = refl; holds = k.0 };
        then = record { token = word; only = refl; holds = k.1 };
      }

      longer : {L : List InitRow → List Token → Type 0} {R : Refusals} {read : Read (List InitRow)} → Judged L R behind read → Judged L R (mark ∷ word ∷ behind) read
      longer judged = record {
        took = judged.took;
        right = judged.right;
        wrong = judged.wrong;
        unique = judged.unique;
        within = λ code here is. let le = judged.within code here is in omega (arith, le);
        shorter = λ a rest is. let le = judged.shorter a rest is in omega (arith, le);
      }

      into : (s : List InitRow) (rest : List Token) → Elements is_name (map (init_row schema)) row [] behind s rest → InitRows (mark ∷ word ∷ behind) s rest
      into s rest is = record {
        rows = is.items;
        are = Init is.items (mark ∷ word ∷ is.front) rest (ap (λ l. mark ∷ word ∷ l) is.whole)
            (record { front = mark ∷ word ∷ []; back = is.front; whole = refl; first = head; then = is.are }) (λ begins. contra (name_begins begins.table rest begins.is) is.ends);
        made = is.made;
      }

      ends_here : (rest : List Token) → (BeginsRow rest → ⊥) → is_name rest ≡ false
      ends_here rest ends = by_test (is_name rest) refl
        where
          by_test : (b : Bool) → is_name rest ≡ b → b ≡ false
          by_test false t = refl
          by_test true t = absurd (ends (begins_row rest t))

      by_init : (tokens : List Token) (s : List InitRow) (rest : List Token) (rows : List Row) → tokens ≡ mark ∷ word ∷ behind → s ≡ map (init_row schema) rows → AreInit tokens rows rest
          → Elements is_name (map (init_row schema)) row [] behind s rest
      by_init tokens s _ _ w made (NoInit begins) = absurd (begins (subst (λ l. BeginsInit l) (sym w) (by_begins mark word behind e)))
      by_init tokens s _ _ w made (Init rows front rest whole is ends) = record {
        items = rows;
        front = is.back;
        whole = sym (ap (λ l. drop 2 l) w) ∙ (headed tokens is.front (is.back ++ rest) (whole ∙ ap (λ l. l ++ rest) is.whole ∙ append_assoc is.front is.back rest) is.first).behind;
        are = is.then;
        made = made;
        ends = ends_here rest ends;
      }

      out : (s : List InitRow) (rest : List Token) → InitRows (mark ∷ word ∷ behind) s rest → Elements is_name (map (init_row schema)) row [] behind s rest
      out s rest is = by_init (mark ∷ word ∷ behind) s rest is.rows refl is.made is.are

      refused_into : (code : Code) (here : List Token) → Among row (RowRefused schema) [] behind code here → InitRefused schema (mark ∷ word ∷ behind) code here
      refused_into code here is = InRows (mark ∷ word ∷ []) behind code here refl head is

      refused_out : (code : Code) (here : List Token) → InitRefused schema (mark ∷ word ∷ behind) code here → Among row (RowRefused schema) [] behind code here
      refused_out code here (InRows front rest _ _ whole is among) =
          subst (λ l. Among row (RowRefused schema) [] l code here) (sym (headed (mark ∷ word ∷ behind) front rest whole is).behind) among

  pub init_judged : (tokens : List Token) → Judged (InitRows tokens) (InitRefused schema tokens) tokens (init_from schema tokens)
  unfolding init_from
  init_judged tokens = by_test (begins_init tokens) refl
    where
      by_test : (b : Bool) → begins_init tokens ≡ b → Judged (InitRows tokens) (InitRefused schema tokens) tokens (if b then rows_from schema [] (drop 2 tokens) else Ok ([], tokens))
      by_test true t = some_init tokens t
      by_test false t = no_init tokens t
