-- Settings: the loop that reads them judges them.
use Rattle.std.proofs.Common.{◌≡◌, ◌∙◌, ℕ, ℤ, pos, nat_abs, ◌<◌, ◌≤◌, ◌⊎◌, inl, inr, nat_lt, Bool, true, false, ◌||◌, if◌then◌else◌, bytes_eq, List, [], ◌∷◌, ◌++◌, length, Option, Some, None, Ok, Err, refl, sym, ap, subst, append_assoc, arith, codes}
use Rattle.std.specs.Prelude.{Result, IfOk}
use Rattle.std.proofs.lemmas.Bool.Decides.{nat_tests}
use Rattle.std.proofs.lemmas.List.{length-append}
use Rattle.std.proofs.lemmas.Slice.Eq.{bytes_eq-Decides}
use Rattle.sv_lex.specs.declared.marks.Mark.TheVariants.{Eq}
use Rattle.sv_lex.specs.declared.tokens.Token.{Token}
use Rattle.sv_lex.specs.declared.tokens.TokenKind.{TokenKind}
use Rattle.sv_lex.specs.declared.tokens.TokenKind.TheVariants.{Name, Number, Text, Mark}
use Rattle.sv_app.specs.declared.refusals.Code.{Code}
use Rattle.sv_app.specs.declared.refusals.Code.TheVariants as codes_of
use Rattle.sv_reader.specs.declared.faults.ReadFault.{ReadFault}
use Rattle.sv_reader.specs.declared.faults.ReadStop.{ReadStop}
use Rattle.sv_reader.specs.Grammar.{word, mark}
use Rattle.sv_reader.specs.Reading.{Read, Reads, is_kind, is_some, by_word, given, token_at}
use Rattle.sv_reader.proofs.KindLaws.{token_of, kind_is, kind_same}
use Rattle.sv_reader.proofs.MadeLaws.{Made, take_last, take_plain, skip_plain}
use Rattle.sv_reader.proofs.AnswerLaws.{anything}
use Rattle.sv_reader.proofs.ReadLaws.{Took, Plain, leaf, same_plain}
use Rattle.sv_workload.specs.declared.written.Given.{Given}
use Rattle.sv_workload.specs.declared.written.Setting.{Setting}
use Rattle.sv_workload.specs.declared.written.Setting.TheVariants.{Sites, Rows, Changes}
use Rattle.sv_workload.specs.Elements.{Refusals, Begins, IsMisplaced, AreNone}
use Rattle.sv_workload.specs.Grammar.{number, setting_word, setting}
use Rattle.sv_workload.specs.LastRefused.{BeginsWith, IsOutside, Sets, BeginsSetting, least_of, most_of, SettingRefused, Misplaced as SettingMisplaced, Repeated, Outside}
use Rattle.sv_workload.specs.LastRefused as last
use Rattle.sv_workload.specs.Reading.{natural_of, count_at, setting_named, setting_of, begins_setting, setting_at, is_out, out_mark, given_of, with_setting, again_mark, number_mark, marks_by, setting_mark, setting_from, settled, or_else, unset, IsBounded}
use Rattle.sv_workload.proofs.JudgeLaws.{Judged, judged_map}
use Rattle.sv_workload.proofs.LoopLaws.{Element, Steps}
use Rattle.sv_workload.proofs.MarkLaws.{Marks, At, Before, no_marks, place_marks, marks_or, marks_map, Standing, Mark as OfMark, Misplaced, judged_marked}
use Rattle.sv_workload.proofs.ValueLaws.{Natural, natural_law, natural_is, number_of as number_read, of_number, natural_there, head_same}
use Rattle.sv_workload.proofs.InitLaws.{contra}
use Rattle.sv_reader.proofs.MatterLaws.{bare}

pub count_law : Plain bare anything number count_at
count_law = same_plain (take_last nat_abs natural_law) into out
  where
    into : (n : ℕ) (l : List Token) → Made nat_abs Natural n l → number n l
    into n l m = let found = number_read m.«from» l m.is in subst (λ x. number x l) (ap nat_abs (sym found.1) ∙ sym m.made) found.2

    out : (n : ℕ) (l : List Token) → number n l → Made nat_abs Natural n l
    out n l is = record { «from» = pos n; is = of_number n l is; made = refl }

-- the settings by their words

setting_back : (bytes : List ℕ) (which : Setting) → setting_named bytes ≡ Some which → bytes ≡ setting_word which
setting_back bytes which e = by_sites (bytes_eq bytes (codes "sites")) refl e
  where
    by_changes : (b : Bool) → bytes_eq bytes (codes "changes") ≡ b → (if b then Some Changes else None) ≡ Some which → bytes ≡ setting_word which
    by_changes true t e = let same : Changes ≡ which = cc in (bytes_eq-Decides bytes (codes "changes")).0 t ∙ ap setting_word same
    by_changes false t e = absurd cc

    by_rows : (b : Bool) → bytes_eq bytes (codes "rows") ≡ b → (if b then Some Rows else if bytes_eq bytes (codes "changes") then Some Changes else None) ≡ Some which → bytes ≡ setting_word which
    by_rows true t e = let same : Rows ≡ which = cc in (bytes_eq-Decides bytes (codes "rows")).0 t ∙ ap setting_word same
    by_rows false t e = by_changes (bytes_eq bytes (codes "changes")) refl e

    by_sites : (b : Bool) → bytes_eq bytes (codes "sites") ≡ b
        → (if b then Some Sites else if bytes_eq bytes (codes "rows") then Some Rows else if bytes_eq bytes (codes "changes") then Some Changes else None) ≡ Some which → bytes ≡ setting_word which
    by_sites true t e = let same : Sites ≡ which = cc in (bytes_eq-Decides bytes (codes "sites")).0 t ∙ ap setting_word same
    by_sites false t e = by_rows (bytes_eq bytes (codes "rows")) refl e

setting_there : (which : Setting) → setting_named (setting_word which) ≡ Some which
setting_there Sites = refl
setting_there Rows = refl
setting_there Changes = refl

pub sets : (token : Token) (which : Setting) → setting_of token ≡ Some which → token.kind ≡ Name (setting_word which)
sets token which e = by_kind token.kind e
  where
    by_kind : (k : TokenKind) → by_word setting_named k ≡ Some which → k ≡ Name (setting_word which)
    by_kind (Name bytes) e = ap Name (setting_back bytes which e)
    by_kind (Number n) e = absurd cc
    by_kind (Text bytes) e = absurd cc
    by_kind (Mark m) e = absurd cc

pub set_by : (token : Token) (which : Setting) → token.kind ≡ Name (setting_word which) → setting_of token ≡ Some which
set_by token which e = ap (by_word setting_named) e ∙ setting_there which

setting_leaf : Plain bare anything (λ which. word (setting_word which)) (token_at setting_of)
setting_leaf = same_plain (leaf bare anything setting_of (token_of (Name (codes "sites"))) Sites refl)
    (λ which l m. record { token = m.token; only = m.only; holds = sets m.token which m.holds }) (λ which l w. record { token = w.token; only = w.only; holds = set_by w.token which w.holds })

abbrev setting_made : Setting → ℕ → Setting × ℕ
setting_made which n = (which, n)

pub setting_law : Plain bare anything setting setting_at
unfolding setting_at
setting_law = same_plain (take_plain setting_made setting_leaf (λ which. skip_plain (Mark Eq) (setting_made which) (take_last (setting_made which) count_law)))
    (λ s l m. subst (λ x. setting x l) (sym m.made) m.is) (λ s l is. record { «from» = s; is = is; made = refl })

-- numbers outside bounds

pub out_is : (least most : ℕ) (token : Token) (others : List Token) → is_out least most (natural_of token.kind) ≡ true → IsOutside least most (token ∷ others)
out_is least most token others e = by_number (natural_of token.kind) refl e
  where
    by_out : (n : ℕ) → nat_lt n least || nat_lt most n ≡ true → (n < least) ⊎ (most < n)
    by_out n e = by_low (nat_lt n least) refl e
      where
        by_low : (b : Bool) → nat_lt n least ≡ b → b || nat_lt most n ≡ true → (n < least) ⊎ (most < n)
        by_low true t e = inl (grind (arith, nat_tests, t))
        by_low false t e = inr (grind (arith, nat_tests, e))

    by_number : (z : Option ℤ) → natural_of token.kind ≡ z → is_out least most z ≡ true → IsOutside least most (token ∷ others)
    by_number None n e = absurd cc
    by_number (Some z) n e = let is = natural_is token.kind z n in record { n = is.n; is = is.is; out = by_out is.n (subst (λ x. nat_lt (nat_abs x) least || nat_lt most (nat_abs x) ≡ true) is.value e) }

pub is_out_by : (least most : ℕ) (token : Token) (others : List Token) → IsOutside least most (token ∷ others) → is_out least most (natural_of token.kind) ≡ true
is_out_by least most token others is = ap (is_out least most) natural ∙ by_out is.out
  where
    natural : natural_of token.kind ≡ Some (pos is.n)
    natural = ap natural_of is.is ∙ natural_there is.n

    or_true : (b : Bool) → b || true ≡ true
    or_true true = refl
    or_true false = refl

    by_out : (is.n < least) ⊎ (most < is.n) → nat_lt is.n least || nat_lt most is.n ≡ true
    by_out (inl lt) = ap (λ b. b || nat_lt most is.n) (let t : nat_lt is.n least ≡ true = grind (arith, nat_tests, lt) in t)
    by_out (inr lt) = ap (λ b. nat_lt is.n least || b) (let t : nat_lt most is.n ≡ true = grind (arith, nat_tests, lt) in t) ∙ or_true (nat_lt is.n least)

-- what is set

abbrev pub state : List (Setting × ℕ) → Given
state before = record { sites = last.given Sites before; rows = last.given Rows before; changes = last.given Changes before }

given_is : (which : Setting) (before : List (Setting × ℕ)) → given_of which (state before) ≡ last.given which before
given_is Sites before = refl
given_is Rows before = refl
given_is Changes before = refl

given_push : (which w : Setting) (n : ℕ) (xs : List (Setting × ℕ)) → last.given which (xs ++ (w, n) ∷ []) ≡ or_else (last.given which xs) (last.given which ((w, n) ∷ []))
given_push which w n [] = by_which which
  where
    by_which : (which : Setting) → last.given which ((w, n) ∷ []) ≡ or_else (last.given which []) (last.given which ((w, n) ∷ []))
    by_which Sites = refl
    by_which Rows = refl
    by_which Changes = refl
given_push Sites w n ((Sites, m) ∷ xs) = refl
given_push Rows w n ((Rows, m) ∷ xs) = refl
given_push Changes w n ((Changes, m) ∷ xs) = refl
given_push Sites w n ((Rows, m) ∷ xs) = given_push Sites w n xs
given_push Sites w n ((Changes, m) ∷ xs) = given_push Sites w n xs
given_push Rows w n ((Sites, m) ∷ xs) = given_push Rows w n xs
given_push Rows w n ((Changes, m) ∷ xs) = given_push Rows w n xs
given_push Changes w n ((Sites, m) ∷ xs) = given_push Changes w n xs
given_push Changes w n ((Rows, m) ∷ xs) = given_push Changes w n xs

or_none : {A : Type 0} (a : Option A) → or_else a None ≡ a
or_none None = refl
or_none (Some a) = refl

state_push : (before : List (Setting × ℕ)) (s : Setting × ℕ) → state (before ++ s ∷ []) ≡ with_setting (state before) s
state_push before (Sites, n) = λ i. record {
  sites = given_push Sites Sites n before i;
  rows = (given_push Rows Sites n before ∙ or_none (last.given Rows before)) i;
  changes = (given_push Changes Sites n before ∙ or_none (last.given Changes before)) i;
}
state_push before (Rows, n) = λ i. record {
  sites = (given_push Sites Rows n before ∙ or_none (last.given Sites before)) i;
  rows = given_push Rows Rows n before i;
  changes = (given_push Changes Rows n before ∙ or_none (last.given Changes before)) i;
}
state_push before (Changes, n) = λ i. record {
  sites = (given_push Sites Changes n before ∙ or_none (last.given Sites before)) i;
  rows = (given_push Rows Changes n before ∙ or_none (last.given Rows before)) i;
  changes = given_push Changes Changes n before i;
}

-- what begins a setting

pub set_begins : (which : Setting) (tokens : List Token) → Sets which tokens → begins_setting tokens ≡ true
set_begins which [] is = absurd is
set_begins which (token ∷ others) is = ap is_some (set_by token which is)

pub begins_set : (tokens : List Token) → begins_setting tokens ≡ true → BeginsSetting tokens
begins_set [] e = absurd cc
begins_set (token ∷ others) e = by_setting (setting_of token) refl e
  where
    by_setting : (s : Option Setting) → setting_of token ≡ s → is_some s ≡ true → BeginsSetting (token ∷ others)
    by_setting None s e = absurd cc
    by_setting (Some which) s e = record { which = which; is = sets token which s }

setting_some : (s : Setting × ℕ) → setting s [] → ⊥
setting_some s is = let bad : is.first.token ∷ is.back ≡ [] = sym (is.whole ∙ ap (λ l. l ++ is.back) is.first.only) in absurd cc

pub setting_opens : (s : Setting × ℕ) (front rest : List Token) → setting s front → begins_setting (front ++ rest) ≡ true
setting_opens s front rest is = ap (λ l. begins_setting (l ++ rest)) (is.whole ∙ ap (λ l. l ++ is.back) is.first.only) ∙ set_begins s.0 (is.first.token ∷ (is.back ++ rest)) is.first.holds

-- a setting may begin with its word, and with its word, the sign and a number
word_begins : (token : Token) (which : Setting) → token.kind ≡ Name (setting_word which) → Begins setting (token ∷ [])
word_begins token which e = record {
  more = token_of (Mark Eq) ∷ token_of (Number (pos 0)) ∷ [];
  item = (which, 0);
  is = record {
    front = token ∷ [];
    back = token_of (Mark Eq) ∷ token_of (Number (pos 0)) ∷ [];
    whole = refl;
    first = record { token = token; only = refl; holds = e };
    then = record {
      front = token_of (Mark Eq) ∷ [];
      back = token_of (Number (pos 0)) ∷ [];
      whole = refl;
      first = record { token = token_of (Mark Eq); only = refl; holds = refl };
      then = record { token = token_of (Number (pos 0)); only = refl; holds = refl };
    };
  };
}

number_begins : (first sign found : Token) (which : Setting) (n : ℕ) → first.kind ≡ Name (setting_word which) → sign.kind ≡ Mark Eq → found.kind ≡ Number (pos n) → Begins setting (first ∷ sign ∷ found ∷ [])
number_begins first sign found which n e s f = record {
  more = [];
  item = (which, n);
  is = record {
    front = first ∷ [];
    back = sign ∷ found ∷ [];
    whole = refl;
    first = record { token = first; only = refl; holds = e };
    then = record { front = sign ∷ []; back = found ∷ []; whole = refl; first = record { token = sign; only = refl; holds = s }; then = record { token = found; only = refl; holds = f } };
  };
}

module _ (count : ℕ) where
  module _ (before : List (Setting × ℕ)) (token : Token) (others : List Token) (which : Setting) (w : token.kind ≡ Name (setting_word which)) where
    abbrev tokens : List Token
    tokens = token ∷ others

    abbrev IsGiven : Type 0
    IsGiven = (n : ℕ) × (last.given which before ≡ Some n)

    again_marks : Marks setting tokens (At codes_of.Twice tokens IsGiven) (again_mark (given_of which (state before)) tokens)
    again_marks = by_given (given_of which (state before)) (given_is which before)
      where
        by_given : (g : Option ℕ) → g ≡ last.given which before → Marks setting tokens (At codes_of.Twice tokens IsGiven) (again_mark g tokens)
        by_given None e = place_marks setting tokens [] token others codes_of.Twice IsGiven false refl (word_begins token which w) (λ t. absurd cc) (λ is. let bad : None ≡ Some is.0 = e ∙ is.1 in absurd cc)
        by_given (Some n) e = place_marks setting tokens [] token others codes_of.Twice IsGiven true refl (word_begins token which w) (λ t. (n, sym e)) (λ is. refl)

    -- a number outside the bounds, behind the word and the sign
    pub record IsOut (code : Code) (here : List Token) : Type 0 where
      pub is_many : code ≡ codes_of.Many
      pub sign : Token
      pub whole : others ≡ sign ∷ here
      pub equals : sign.kind ≡ Mark Eq
      pub out : IsOutside (least_of count which) (most_of which) here

    abbrev pub Out : Refusals
    Out = IsOut

  out_marks : (before : List (Setting × ℕ)) (token : Token) (others : List Token) (which : Setting) (w : token.kind ≡ Name (setting_word which))
      → Marks setting (token ∷ others) (IsOut before token others which w) (number_mark count which (token ∷ others))
  out_marks before token [] which w = marks_map (λ code here is. absurd is) (λ code here is. let bad : [] ≡ is.sign ∷ here = is.whole in absurd cc) (no_marks setting (token ∷ []))
  out_marks before token (sign ∷ rest) which w = by_sign (is_kind (Mark Eq) sign.kind) refl rest refl
    where
      none : (rest : List Token) → ((code : Code) (here : List Token) → IsOut before token (sign ∷ rest) which w code here → ⊥) → Marks setting (token ∷ sign ∷ rest) (IsOut before token (sign ∷ rest) which w) None
      none rest never = marks_map (λ code here is. absurd is) never (no_marks setting (token ∷ sign ∷ rest))

      by_sign : (b : Bool) → is_kind (Mark Eq) sign.kind ≡ b → (r : List Token) → rest ≡ r
          → Marks setting (token ∷ sign ∷ r) (IsOut before token (sign ∷ r) which w) (if b then out_mark codes_of.Many (least_of count which) (most_of which) r else None)
      by_sign false t r e = none r (λ code here is.
          let same : sign ≡ is.sign = head_same is.whole in
          contra (ap (λ (x : Token). is_kind (Mark Eq) x.kind) same ∙ ap (is_kind (Mark Eq)) is.equals ∙ kind_same (Mark Eq)) t)
      by_sign true t [] e = none [] (λ code here is. no_number here is.whole is.out)
        where
          no_number : {s : Token} (here : List Token) → sign ∷ [] ≡ s ∷ here → IsOutside (least_of count which) (most_of which) here → ⊥
          no_number [] e out = out.is
          no_number (x ∷ here) e out = absurd cc
      by_sign true t (found ∷ more) e = by_out (is_out (least_of count which) (most_of which) (natural_of found.kind)) refl
        where
          equals : sign.kind ≡ Mark Eq
          equals = kind_is (Mark Eq) sign.kind t

          by_out : (b : Bool) → is_out (least_of count which) (most_of which) (natural_of found.kind) ≡ b
              → Marks setting (token ∷ sign ∷ found ∷ more) (IsOut before token (sign ∷ found ∷ more) which w) (given b (record { code = codes_of.Many; left = length (found ∷ more) }))
          by_out false o = none (found ∷ more) (λ code here is. no_out here is.whole is.out)
            where
              no_out : {s : Token} (here : List Token) → sign ∷ found ∷ more ≡ s ∷ here → IsOutside (least_of count which) (most_of which) here → ⊥
              no_out here e out = contra (is_out_by (least_of count which) (most_of which) found more
                  (subst (λ l. IsOutside (least_of count which) (most_of which) l) (let same : found ∷ more ≡ here = cc in sym same) out)) o
          by_out true o = let out = out_is (least_of count which) (most_of which) found more o in
              marks_map
              (λ code here is. record { is_many = is.0; sign = sign; whole = ap (λ l. sign ∷ l) (sym is.1); equals = equals; out = subst (λ l. IsOutside (least_of count which) (most_of which) l) (sym is.1) out })
              (λ code here is. (is.is_many, let same : found ∷ more ≡ here = rests is.whole in sym same, tt))
              (place_marks setting (token ∷ sign ∷ found ∷ more) (token ∷ sign ∷ []) found more codes_of.Many (Unit {0}) true refl (number_begins token sign found which out.n w equals out.is) (λ t. tt) (λ is. refl))
            where
              rests : {s : Token} {here : List Token} → sign ∷ found ∷ more ≡ s ∷ here → found ∷ more ≡ here
              rests e = cc

  -- all that is refused of a setting besides the grammar
  pub setting_marks : (before : List (Setting × ℕ)) (token : Token) (others : List Token) (which : Setting) (w : token.kind ≡ Name (setting_word which))
      → Marks setting (token ∷ others) (λ code here. At codes_of.Twice (token ∷ others) (IsGiven before token others which w) code here ⊎ IsOut before token others which w code here) (setting_mark count (state before) (token ∷ others))
  setting_marks before token others which w =
      subst (λ (s : Option Setting). Marks setting (token ∷ others) (λ code here. At codes_of.Twice (token ∷ others) (IsGiven before token others which w) code here ⊎ IsOut before token others which w code here)
      (marks_by count (state before) s (token ∷ others))) (sym (set_by token which w))
      (marks_or (again_marks before token others which w) (out_marks before token others which w) order)
    where
      order : (fault : ReadFault) → again_mark (given_of which (state before)) (token ∷ others) ≡ Some fault → (code : Code) (here : List Token) → IsOut before token others which w code here → Before fault code here
      order fault e code here is = by_given (given_of which (state before)) e
        where
          by_given : (g : Option ℕ) → again_mark g (token ∷ others) ≡ Some fault → Before fault code here
          by_given None e = absurd cc
          by_given (Some n) e = let same : record { code = codes_of.Twice; left = length (token ∷ others) } ≡ fault = cc in
              inl (omega (arith, ap (λ (f : ReadFault). f.left) same, ap length is.whole))

  word_head : (which : Setting) (front rest : List Token) (token : Token) (others : List Token) → token ∷ others ≡ front ++ rest → word (setting_word which) front → (token.kind ≡ Name (setting_word which)) × (others ≡ rest)
  word_head which front rest token others e is =
      let whole : token ∷ others ≡ is.token ∷ rest = e ∙ ap (λ l. l ++ rest) is.only in
      (ap (λ (t : Token). t.kind) (head_same whole) ∙ is.holds, tail whole)
    where
      tail : {x y : Token} {xs ys : List Token} → x ∷ xs ≡ y ∷ ys → xs ≡ ys
      tail e = cc

  -- the sign at the front
  sign_split : (front rest others : List Token) → others ≡ front ++ rest → mark Eq front → (sign : Token) × (others ≡ sign ∷ rest) × (sign.kind ≡ Mark Eq)
  sign_split front rest others e is = (is.token, e ∙ ap (λ l. l ++ rest) is.only, is.holds)

  one_word : (token : Token) (a b : Setting) → token.kind ≡ Name (setting_word a) → token.kind ≡ Name (setting_word b) → a ≡ b
  one_word token a b e f = let same : Some a ≡ Some b = sym (set_by token a e) ∙ set_by token b f in cc

  setting_judged : (before : List (Setting × ℕ)) (tokens : List Token) → begins_setting tokens ≡ true → Judged (Element setting tokens) (SettingRefused count before tokens) tokens (setting_from count (state before) tokens)
  unfolding setting_from
  setting_judged before [] e = absurd cc
  setting_judged before (token ∷ others) e = by_begins (begins_set (token ∷ others) e)
    where
      by_begins : BeginsSetting (token ∷ others) → Judged (Element setting (token ∷ others)) (SettingRefused count before (token ∷ others)) (token ∷ others) (settled (setting_mark count (state before) (token ∷ others)) (setting_at (token ∷ others)))
      by_begins b = judged_map refl (λ a rest is. is) (λ a rest is. is) into (λ code here is. out code here (token ∷ others) refl is)
          (judged_marked setting_law (token ∷ others) marked (setting_mark count (state before) (token ∷ others)) (setting_marks before token others b.which b.is))
        where
          marked : Refusals
          marked code here = At codes_of.Twice (token ∷ others) (IsGiven before token others b.which b.is) code here ⊎ IsOut before token others b.which b.is code here

          into : (code : Code) (here : List Token) → Standing setting_law (token ∷ others) marked code here → SettingRefused count before (token ∷ others) code here
          into code here (Misplaced s is) = subst (λ c. SettingRefused count before (token ∷ others) c here) (sym s) (SettingMisplaced here b is)
          into code here (OfMark (inl is)) =
              subst (λ c. SettingRefused count before (token ∷ others) c here) (sym is.0) (subst (λ l. SettingRefused count before (token ∷ others) codes_of.Twice l) (sym is.1) (Repeated b.which is.2.0 b.is is.2.1))
          into code here (OfMark (inr is)) = subst (λ c. SettingRefused count before (token ∷ others) c here) (sym is.is_many)
              (Outside b.which (token ∷ is.sign ∷ []) here (ap (λ l. token ∷ l) is.whole)
              (record { front = token ∷ []; back = is.sign ∷ []; whole = refl; first = record { token = token; only = refl; holds = b.is }; then = record { token = is.sign; only = refl; holds = is.equals } }) is.out)

          its : (which : Setting) → token.kind ≡ Name (setting_word which) → which ≡ b.which
          its which w = one_word token which b.which w b.is

          out : (code : Code) (here all : List Token) → all ≡ token ∷ others → SettingRefused count before all code here → Standing setting_law (token ∷ others) marked code here
          out _ _ all e (SettingMisplaced here begins is) = Misplaced refl (subst (λ l. IsMisplaced setting l here) e is)
          out _ _ all e (Repeated which n is earlier) =
              let same = its which (subst (λ l. Sets which l) e is) in
              OfMark (inl (refl, e, (n, ap (λ w. last.given w before) (sym same) ∙ earlier)))
          out _ _ all e (Outside which front here whole is outside) =
              let head = word_head which is.front (is.back ++ here) token others (sym e ∙ whole ∙ ap (λ l. l ++ here) is.whole ∙ append_assoc is.front is.back here) is.first in
              let sign = sign_split is.back here others head.1 is.then in
              OfMark (inr (record {
                is_many = refl;
                sign = sign.0;
                whole = sign.1;
                equals = sign.2;
                out = subst (λ w. IsOutside (least_of count w) (most_of w) here) (its which head.0) outside;
              }))

  pub setting_shrinks : (g : Given) (tokens : List Token) (s : Setting × ℕ) (rest : List Token) → begins_setting tokens ≡ true → setting_from count g tokens ≡ Ok (s, rest) → length rest < length tokens
  unfolding setting_from
  setting_shrinks g tokens s rest t e = by_mark (setting_mark count g tokens) e
    where
      by_front : (front : List Token) → setting s front → tokens ≡ front ++ rest → length rest < length tokens
      by_front [] is w = absurd (setting_some s is)
      by_front (x ∷ front) is w = omega (arith, ap length w, length-append front rest)

      by_mark : (mark : Option ReadFault) → settled mark (setting_at tokens) ≡ Ok (s, rest) → length rest < length tokens
      by_mark (Some fault) e = absurd cc
      by_mark None e = let took = setting_law.took tokens s rest e in by_front took.front took.is took.whole

  setting_stops : (before : List (Setting × ℕ)) (tokens : List Token) → begins_setting tokens ≡ false → AreNone (SettingRefused count before tokens)
  setting_stops before tokens t code here is = by_case code here is
    where
      by_case : (code : Code) (here : List Token) → SettingRefused count before tokens code here → ⊥
      by_case _ _ (SettingMisplaced here begins is) = contra (set_begins begins.which tokens begins.is) t
      by_case _ _ (Repeated which n is earlier) = contra (set_begins which tokens is) t
      by_case _ _ (Outside which front here whole is outside) =
          contra (ap begins_setting (whole ∙ ap (λ l. l ++ here) (is.whole ∙ ap (λ l. l ++ is.back) is.first.only)) ∙ set_begins which (is.first.token ∷ (is.back ++ here)) is.first.holds) t

  pub setting_steps : Steps begins_setting (setting_from count) with_setting state setting (SettingRefused count)
  setting_steps = record { judges = setting_judged; shrinks = setting_shrinks; some = setting_some; opens = setting_opens; stops = setting_stops; adds = state_push }

-- what was set keeps its bounds

pub none_settled : {A : Type 0} (mark : Option ReadFault) (read : Read A) (a : A) (rest : List Token) → settled mark read ≡ Ok (a, rest) → (mark ≡ None) × (read ≡ Ok (a, rest))
none_settled None read a rest e = (refl, e)
none_settled (Some fault) read a rest e = absurd cc

pub second_none : {A : Type 0} (a b : Option A) → or_else a b ≡ None → b ≡ None
second_none None b e = e
second_none (Some a) b e = absurd cc

pub given_false : {A : Type 0} (b : Bool) (a : A) → given b a ≡ None → b ≡ false
given_false true a e = absurd cc
given_false false a e = refl

abbrev late_fault : List Token → ReadFault
late_fault tokens = record { code = codes_of.Many; left = length tokens }

pub setting_bounded : (count : ℕ) (g : Given) (tokens : List Token) (s : Setting × ℕ) (rest : List Token) → setting_from count g tokens ≡ Ok (s, rest) → s.1 ≤ most_of s.0
unfolding setting_from
setting_bounded count g tokens s rest e = by_read (none_settled (setting_mark count g tokens) (setting_at tokens) s rest e)
  where
    by_read : (setting_mark count g tokens ≡ None) × (setting_at tokens ≡ Ok (s, rest)) → s.1 ≤ most_of s.0
    by_read read = by_parts took.is
      where
        took : Took setting setting_at tokens s rest
        took = setting_law.took tokens s rest read.1

        by_parts : setting s took.front → s.1 ≤ most_of s.0
        by_parts is = by_out (is_out (least_of count s.0) (most_of s.0) (natural_of found.kind)) refl
          where
            first : Token
            first = is.first.token

            sign : Token
            sign = is.then.first.token

            found : Token
            found = is.then.then.token

            whole : tokens ≡ first ∷ sign ∷ found ∷ rest
            whole = took.whole ∙ ap (λ l. l ++ rest) (is.whole ∙ ap (λ l. l ++ is.back) is.first.only ∙ ap (λ l. first ∷ l) (is.then.whole ∙ ap (λ l. l ++ is.then.back) is.then.first.only ∙ ap (λ l. sign ∷ l) is.then.then.only))

            mark_none : marks_by count g (Some s.0) (first ∷ sign ∷ found ∷ rest) ≡ None
            mark_none = ap (λ (w : Option Setting). marks_by count g w (first ∷ sign ∷ found ∷ rest)) (sym (set_by first s.0 is.first.holds)) ∙ sym (ap (setting_mark count g) whole) ∙ read.0

            number_none : number_mark count s.0 (first ∷ sign ∷ found ∷ rest) ≡ None
            number_none = second_none (again_mark (given_of s.0 g) (first ∷ sign ∷ found ∷ rest)) (number_mark count s.0 (first ∷ sign ∷ found ∷ rest)) mark_none

            out_none : given (is_out (least_of count s.0) (most_of s.0) (natural_of found.kind)) (late_fault (found ∷ rest)) ≡ None
            out_none = ap (λ b. if b then out_mark codes_of.Many (least_of count s.0) (most_of s.0) (found ∷ rest) else None) (sym (ap (is_kind (Mark Eq)) is.then.first.holds ∙ kind_same (Mark Eq))) ∙ number_none

            natural : natural_of found.kind ≡ Some (pos s.1)
            natural = ap natural_of is.then.then.holds ∙ natural_there s.1

            second_false : (a b : Bool) → a || b ≡ false → b ≡ false
            second_false true b e = absurd cc
            second_false false b e = e

            by_out : (b : Bool) → is_out (least_of count s.0) (most_of s.0) (natural_of found.kind) ≡ b → s.1 ≤ most_of s.0
            by_out true o = absurd (contra o (given_false (is_out (least_of count s.0) (most_of s.0) (natural_of found.kind)) (late_fault (found ∷ rest)) out_none))
            by_out false o =
                let both : nat_lt s.1 (least_of count s.0) || nat_lt (most_of s.0) s.1 ≡ false = ap (is_out (least_of count s.0) (most_of s.0)) (sym natural) ∙ o in
                let high = second_false (nat_lt s.1 (least_of count s.0)) (nat_lt (most_of s.0) s.1) both in
                grind (arith, nat_tests, high)

or_bounded : (most n m : ℕ) (a : Option ℕ) → ((k : ℕ) → a ≡ Some k → k ≤ most) → n ≤ most → or_else a (Some n) ≡ Some m → m ≤ most
or_bounded most n m None old new e = let same : n ≡ m = cc in omega (arith, same, new)
or_bounded most n m (Some k) old new e = old m e

pub bounded_with : (g : Given) (which : Setting) (n : ℕ) → IsBounded g → n ≤ most_of which → IsBounded (with_setting g (which, n))
bounded_with g Sites n is le = record { sites = λ m e. or_bounded 8 n m g.sites is.sites le e; rows = is.rows; changes = is.changes }
bounded_with g Rows n is le = record { sites = is.sites; rows = λ m e. or_bounded 4096 n m g.rows is.rows le e; changes = is.changes }
bounded_with g Changes n is le = record { sites = is.sites; rows = is.rows; changes = λ m e. or_bounded 65536 n m g.changes is.changes le e }

pub unset_bounded : IsBounded unset
unset_bounded = record { sites = λ n e. absurd cc; rows = λ n e. absurd cc; changes = λ n e. absurd cc }

pub ruleset bounds = (setting_bounded, bounded_with, unset_bounded)

pub bounded_read : (count : ℕ) (g : Given) (tokens : List Token) (result : Result (Setting × ℕ) ReadStop) (rest : List Token) → setting_mark count g tokens ≡ None → Reads (λ s. s) result rest (setting_at tokens)
    → IfOk result (λ s. s.1 ≤ most_of s.0)
unfolding setting_from
bounded_read count g all (Ok s) rest none read = setting_bounded count g all s rest (ap (λ (m : Option ReadFault). settled m (setting_at all)) none ∙ read)
bounded_read count g all (Err halt) rest none read = tt
