-- The first element of a list argument that passes the limit.
use Rattle.std.proofs.Common.{◌≡◌, ◌∙◌, ℕ, ℤ, pos, neg_ℤ, zero, suc, ◌<◌, ◌≤◌, Bool, true, false, ◌||◌, if◌then◌else◌, List, [], ◌∷◌, ◌++◌, length, Option, Some, None, Ok, Err, refl, sym, ap, subst, append_assoc, append-nil, arith}
use Rattle.std.proofs.lemmas.List.{length-append}
use Rattle.sv_lex.specs.declared.marks.Mark.TheVariants.{LeftBracket, RightBracket, Comma, Minus}
use Rattle.sv_lex.specs.declared.tokens.Token.{Token}
use Rattle.sv_lex.specs.declared.tokens.TokenKind.TheVariants.{Number, Mark}
use Rattle.sv_app.specs.declared.requests.Arg.{Arg}
use Rattle.sv_app.specs.declared.requests.Arg.TheVariants as args
use Rattle.sv_reader.specs.Grammar.{Both, ◌·◌, mark, others}
use Rattle.sv_reader.specs.Reading.{Read, is_kind, is_some, given}
use Rattle.sv_reader.proofs.KindLaws.{token_of, kind_is, kind_same}
use Rattle.sv_reader.proofs.MadeLaws.{take_plain, skip_last}
use Rattle.sv_reader.proofs.AnswerLaws.{anything}
use Rattle.sv_reader.proofs.ReadLaws.{Plain, same_plain}
use Rattle.sv_reader.proofs.PartLaws.{both_assoc, assoc_both}
use Rattle.sv_workload.specs.Elements.{Begins}
use Rattle.sv_workload.specs.Grammar.{listed, IsInteger, Plain as PlainInteger, Negated, argument}
use Rattle.sv_workload.specs.LastRefused.{each_comma, BeginsInteger, Sign, Plain as PlainBegins}
use Rattle.sv_workload.specs.Reading.{natural_of, integer_at, argument_at, begins_integer, comma_after, from_read, long_in, list_long, long_args, or_else}
use Rattle.sv_workload.proofs.CallLaws.{argument_law}
use Rattle.sv_workload.proofs.MarkLaws.{past}
use Rattle.sv_workload.proofs.ValueLaws.{integer_law, natural_is, natural_there}
use Rattle.sv_reader.proofs.MatterLaws.{bare}

-- where an integer begins, by test

pub integer_there : (tokens : List Token) → BeginsInteger tokens → begins_integer tokens ≡ true
integer_there [] (Sign is) = absurd is
integer_there [] (PlainBegins n is) = absurd is
integer_there (token ∷ rest) (Sign is) = ap (λ b. b || is_some (natural_of token.kind)) (ap (is_kind (Mark Minus)) is ∙ kind_same (Mark Minus))
integer_there (token ∷ rest) (PlainBegins n is) = ap (λ b. is_kind (Mark Minus) token.kind || b) (ap (λ z. is_some z) (ap natural_of is ∙ natural_there n)) ∙ or_true (is_kind (Mark Minus) token.kind)
  where
    or_true : (b : Bool) → b || true ≡ true
    or_true true = refl
    or_true false = refl

pub there_integer : (tokens : List Token) → begins_integer tokens ≡ true → BeginsInteger tokens
there_integer [] e = absurd cc
there_integer (token ∷ rest) e = by_sign (is_kind (Mark Minus) token.kind) refl e
  where
    by_number : (z : Option ℤ) → natural_of token.kind ≡ z → is_some z ≡ true → BeginsInteger (token ∷ rest)
    by_number None n e = absurd cc
    by_number (Some z) n e = let is = natural_is token.kind z n in PlainBegins is.n is.is

    by_sign : (b : Bool) → is_kind (Mark Minus) token.kind ≡ b → b || is_some (natural_of token.kind) ≡ true → BeginsInteger (token ∷ rest)
    by_sign true s e = Sign (kind_is (Mark Minus) token.kind s)
    by_sign false s e = by_number (natural_of token.kind) refl e

-- an element and a comma
pub comma_law : {A : Type 0} {X : A → List Token → Type 0} {x : List Token → Read A} → Plain bare anything X x → Plain bare anything (λ a. X a · mark Comma) (comma_after x)
comma_law {A} {X} {x} law = same_plain (take_plain (λ a (last : Unit {0}). a) law (λ a. skip_last bare anything (Mark Comma) a))
    (λ a l m. subst (λ y. (X y · mark Comma) l) (sym m.made) m.is) (λ a l is. record { «from» = (a, tt); is = is; made = refl })

pub taken : {A B : Type 0} (read : Read A) (more : List Token → Option B) (a : A) (rest : List Token) → read ≡ Ok (a, rest) → from_read read more ≡ more rest
taken {A} {B} read more a rest e = ap (λ (r : Read A). from_read r more) e

-- what was taken
pub record Taken {A B : Type 0} (read : Read A) (more : List Token → Option B) (b : B) : Type 0 where
  pub item : A
  pub rest : List Token
  pub is : read ≡ Ok (item, rest)
  pub left : more rest ≡ Some b

pub taken_some : {A B : Type 0} (read : Read A) (more : List Token → Option B) (b : B) → from_read read more ≡ Some b → Taken read more b
taken_some (Err fault) more b e = absurd cc
taken_some (Ok (a, rest)) more b e = record { item = a; rest = rest; is = refl; left = e }

-- one list

pub record InList (count : ℕ) (tokens here : List Token) : Type 0 where
  pub elements : List ℤ
  pub front : List Token
  pub whole : tokens ≡ front ++ here
  pub are : each_comma IsInteger elements front
  pub many : length elements ≡ count
  pub begins : BeginsInteger here

pub in_list : (count : ℕ) (elements : List ℤ) (front here : List Token) → each_comma IsInteger elements front → length elements ≡ count → BeginsInteger here → long_in count (front ++ here) ≡ Some here
in_list zero [] front here are many begins = ap (λ l. long_in 0 (l ++ here)) are ∙ ap (λ b. given b here) (integer_there here begins)
in_list zero (z ∷ zs) front here are many begins = absurd cc
in_list (suc count) [] front here are many begins = absurd cc
in_list (suc count) (z ∷ zs) front here are many begins =
    let b = both_assoc are in
    ap (λ l. long_in (suc count) l) (ap (λ l. l ++ here) b.whole ∙ append_assoc b.front b.back here)
    ∙ taken (comma_after integer_at (b.front ++ (b.back ++ here))) (λ r. long_in count r) z (b.back ++ here) ((comma_law integer_law).reads z b.front (b.back ++ here) b.first refl)
    ∙ in_list count zs b.back here b.then (let same : length zs ≡ count = cc in same) begins

pub list_in : (count : ℕ) (tokens here : List Token) → long_in count tokens ≡ Some here → InList count tokens here
list_in zero tokens here e = by_begins (begins_integer tokens) refl e
  where
    by_begins : (b : Bool) → begins_integer tokens ≡ b → given b tokens ≡ Some here → InList 0 tokens here
    by_begins false t e = absurd cc
    by_begins true t e = let same : tokens ≡ here = cc in record { elements = []; front = []; whole = same; are = refl; many = refl; begins = subst (λ l. BeginsInteger l) same (there_integer tokens t) }
list_in (suc count) tokens here e = by_taken (λ r e. list_in count r here e) (taken_some (comma_after integer_at tokens) (λ r. long_in count r) here e)
  where
    by_taken : ((r : List Token) → long_in count r ≡ Some here → InList count r here) → Taken (comma_after integer_at tokens) (λ r. long_in count r) here → InList (suc count) tokens here
    by_taken others_in t = let took = (comma_law integer_law).took tokens t.item t.rest t.is in let more = others_in t.rest t.left in record {
      elements = t.item ∷ more.elements;
      front = took.front ++ more.front;
      whole = took.whole ∙ ap (λ l. took.front ++ l) more.whole ∙ sym (append_assoc took.front more.front here);
      are = assoc_both (record { front = took.front; back = more.front; whole = refl; first = took.is; then = more.are });
      many = ap suc more.many;
      begins = more.begins;
    }

-- an argument may begin with a list up to one more element

-- elements and commas, and one element more, are a list
pub joined_to : {A : Type 0} (X : A → List Token → Type 0) (xs : List A) (a : A) (front back : List Token) → each_comma X xs front → X a back → listed X (xs ++ a ∷ []) (front ++ back)
joined_to X [] a front back are is = record { front = back; back = []; whole = ap (λ l. l ++ back) are ∙ sym (append-nil back); first = is; then = refl }
joined_to {A} X (x ∷ xs) a front back are is = record {
  front = are.front;
  back = are.back ++ back;
  whole = ap (λ l. l ++ back) are.whole ∙ append_assoc are.front are.back back;
  first = are.first;
  then = behind xs are.back are.then;
}
  where
    behind : (xs : List A) (l : List Token) → (mark Comma · each_comma X xs) l → others X (xs ++ a ∷ []) (l ++ back)
    behind [] l b = record {
      front = b.front;
      back = back ++ [];
      whole = ap (λ y. y ++ back) (b.whole ∙ ap (λ y. b.front ++ y) b.then ∙ append-nil b.front) ∙ ap (λ y. b.front ++ y) (sym (append-nil back));
      first = b.first;
      then = record { front = back; back = []; whole = refl; first = is; then = refl };
    }
    behind (y ∷ ys) l b = record {
      front = b.front;
      back = b.back ++ back;
      whole = ap (λ x. x ++ back) b.whole ∙ append_assoc b.front b.back back;
      first = b.first;
      then = record {
        front = b.then.front;
        back = b.then.back ++ back;
        whole = ap (λ x. x ++ back) b.then.whole ∙ append_assoc b.then.front b.then.back back;
        first = b.then.first;
        then = behind ys b.then.back b.then.then;
      };
    }

abbrev zero_number : Token
zero_number = token_of (Number (pos 0))

pub argument_begins : (bracket token : Token) (others' : List Token) (elements : List ℤ) (front : List Token) → bracket.kind ≡ Mark LeftBracket → each_comma IsInteger elements front → BeginsInteger (token ∷ others') → Begins argument (bracket ∷ front ++ token ∷ [])
argument_begins bracket token others' elements front k are (Sign sign) = record {
  more = zero_number ∷ token_of (Mark RightBracket) ∷ [];
  item = args.Ints (elements ++ neg_ℤ (pos 0) ∷ []);
  is = record {
    front = bracket ∷ [];
    back = front ++ (token ∷ zero_number ∷ []) ++ token_of (Mark RightBracket) ∷ [];
    whole = ap (λ l. bracket ∷ l) (append_assoc front (token ∷ []) (zero_number ∷ token_of (Mark RightBracket) ∷ []) ∙ sym (append_assoc front (token ∷ zero_number ∷ []) (token_of (Mark RightBracket) ∷ [])));
    first = record { token = bracket; only = refl; holds = k };
    then = record {
      front = front ++ (token ∷ zero_number ∷ []);
      back = token_of (Mark RightBracket) ∷ [];
      whole = refl;
      first = joined_to IsInteger elements (neg_ℤ (pos 0)) front (token ∷ zero_number ∷ []) are (Negated 0 (token ∷ zero_number ∷ [])
          (record { front = token ∷ []; back = zero_number ∷ []; whole = refl; first = record { token = token; only = refl; holds = sign }; then = record { token = zero_number; only = refl; holds = refl } }));
      then = record { token = token_of (Mark RightBracket); only = refl; holds = refl };
    };
  };
}
argument_begins bracket token others' elements front k are (PlainBegins n is) = record {
  more = token_of (Mark RightBracket) ∷ [];
  item = args.Ints (elements ++ pos n ∷ []);
  is = record {
    front = bracket ∷ [];
    back = front ++ (token ∷ []) ++ token_of (Mark RightBracket) ∷ [];
    whole = refl;
    first = record { token = bracket; only = refl; holds = k };
    then = record {
      front = front ++ (token ∷ []);
      back = token_of (Mark RightBracket) ∷ [];
      whole = refl;
      first = joined_to IsInteger elements (pos n) front (token ∷ []) are (PlainInteger n (token ∷ []) (record { token = token; only = refl; holds = is }));
      then = record { token = token_of (Mark RightBracket); only = refl; holds = refl };
    };
  };
}

-- the arguments up to an element that passes the limit
pub record InArgs (tokens here : List Token) : Type 0 where
  pub args : List Arg
  pub elements : List ℤ
  pub front : List Token
  pub whole : tokens ≡ front ++ here
  pub are : (each_comma argument args · mark LeftBracket · each_comma IsInteger elements) front
  pub many : length elements ≡ 64
  pub begins : BeginsInteger here

-- a list that begins here, and its element that passes the limit
record Bracketed (tokens here : List Token) : Type 0 where
  pub bracket : Token
  pub rest : List Token
  pub whole : tokens ≡ bracket ∷ rest
  pub opens : bracket.kind ≡ Mark LeftBracket
  pub inside : InList 64 rest here

bracketed : (tokens here : List Token) → list_long tokens ≡ Some here → Bracketed tokens here
bracketed [] here e = absurd cc
bracketed (bracket ∷ rest) here e = by_test (is_kind (Mark LeftBracket) bracket.kind) refl e
  where
    by_test : (b : Bool) → is_kind (Mark LeftBracket) bracket.kind ≡ b → (if b then long_in 64 rest else None) ≡ Some here → Bracketed (bracket ∷ rest) here
    by_test false t e = absurd cc
    by_test true t e = record { bracket = bracket; rest = rest; whole = refl; opens = kind_is (Mark LeftBracket) bracket.kind t; inside = list_in 64 rest here e }

long_list : (bracket : Token) (rest here : List Token) → bracket.kind ≡ Mark LeftBracket → long_in 64 rest ≡ Some here → list_long (bracket ∷ rest) ≡ Some here
long_list bracket rest here k e = ap (λ b. if b then long_in 64 rest else None) (ap (is_kind (Mark LeftBracket)) k ∙ kind_same (Mark LeftBracket)) ∙ e

pub args_in : (fuel : ℕ) (tokens here : List Token) → long_args fuel tokens ≡ Some here → InArgs tokens here
args_in zero tokens here e = absurd cc
args_in (suc fuel) tokens here e = by_list (list_long tokens) refl (λ r more. args_in fuel r here more) e
  where
    by_taken : ((r : List Token) → long_args fuel r ≡ Some here → InArgs r here) → Taken (comma_after argument_at tokens) (λ r. long_args fuel r) here → InArgs tokens here
    by_taken more t = let took = (comma_law argument_law).took tokens t.item t.rest t.is in let in_rest = more t.rest t.left in record {
      args = t.item ∷ in_rest.args;
      elements = in_rest.elements;
      front = took.front ++ in_rest.front;
      whole = took.whole ∙ ap (λ l. took.front ++ l) in_rest.whole ∙ sym (append_assoc took.front in_rest.front here);
      are = record {
        front = took.front ++ in_rest.are.front;
        back = in_rest.are.back;
        whole = ap (λ l. took.front ++ l) in_rest.are.whole ∙ sym (append_assoc took.front in_rest.are.front in_rest.are.back);
        first = assoc_both (record { front = took.front; back = in_rest.are.front; whole = refl; first = took.is; then = in_rest.are.first });
        then = in_rest.are.then;
      };
      many = in_rest.many;
      begins = in_rest.begins;
    }

    by_list : (l : Option (List Token)) → list_long tokens ≡ l → ((r : List Token) → long_args fuel r ≡ Some here → InArgs r here)
        → or_else l (from_read (comma_after argument_at tokens) (λ r. long_args fuel r)) ≡ Some here → InArgs tokens here
    by_list (Some found) s more e = by_bracketed (bracketed tokens here (s ∙ e))
      where
        by_bracketed : Bracketed tokens here → InArgs tokens here
        by_bracketed b = record {
          args = [];
          elements = b.inside.elements;
          front = b.bracket ∷ b.inside.front;
          whole = b.whole ∙ ap (λ l. b.bracket ∷ l) b.inside.whole;
          are = record {
            front = [];
            back = b.bracket ∷ b.inside.front;
            whole = refl;
            first = refl;
            then = record { front = b.bracket ∷ []; back = b.inside.front; whole = refl; first = record { token = b.bracket; only = refl; holds = b.opens }; then = b.inside.are };
          };
          many = b.inside.many;
          begins = b.inside.begins;
        }
    by_list None s more e = by_taken more (taken_some (comma_after argument_at tokens) (λ r. long_args fuel r) here e)

-- the first one that is there
pub record FirstLong (fuel : ℕ) (tokens there : List Token) : Type 0 where
  pub here : List Token
  pub is : long_args fuel tokens ≡ Some here
  pub low : length there ≤ length here

pub integer_split : (here : List Token) → BeginsInteger here → (token : Token) × (others' : List Token) × (here ≡ token ∷ others')
integer_split [] (Sign is) = absurd is
integer_split [] (PlainBegins n is) = absurd is
integer_split (token ∷ others') begins = (token, others', refl)

pub first_args : (fuel : ℕ) (passed : List Arg) (tokens front there : List Token) (elements : List ℤ) → length tokens < fuel → tokens ≡ front ++ there
    → (each_comma argument passed · mark LeftBracket · each_comma IsInteger elements) front → length elements ≡ 64 → BeginsInteger there → FirstLong fuel tokens there
first_args zero passed tokens front there elements lt w are many begins = absurd (omega (arith, lt))
first_args (suc fuel) [] tokens front there elements lt w are many begins = record { here = there; is = ap (λ l. or_else (list_long l) (from_read (comma_after argument_at l) (λ r. long_args fuel r))) whole ∙ ap (λ l. or_else l (from_read (comma_after argument_at (bracket ∷ (inner.back ++ there))) (λ r. long_args fuel r))) found; low = omega arith }
  where
    inner : (mark LeftBracket · each_comma IsInteger elements) are.back
    inner = are.then

    bracket : Token
    bracket = inner.first.token

    whole : tokens ≡ bracket ∷ (inner.back ++ there)
    whole = w ∙ ap (λ l. l ++ there) (are.whole ∙ ap (λ l. l ++ are.back) are.first ∙ inner.whole ∙ ap (λ l. l ++ inner.back) inner.first.only)

    found : list_long (bracket ∷ (inner.back ++ there)) ≡ Some there
    found = long_list bracket (inner.back ++ there) there inner.first.holds (in_list 64 elements inner.back there inner.then many begins)
first_args (suc fuel) (a ∷ passed) tokens front there elements lt w are many begins = by_list (list_long tokens) refl (λ less. first_args fuel passed rest (split.back ++ are.back) there elements less refl (record { front = split.back; back = are.back; whole = refl; first = split.then; then = are.then }) many begins)
  where
    split : Both (λ l. (argument a · mark Comma) l) (each_comma argument passed) are.front
    split = both_assoc are.first

    rest : List Token
    rest = split.back ++ are.back ++ there

    whole : tokens ≡ split.front ++ rest
    whole = w ∙ ap (λ l. l ++ there) (are.whole ∙ ap (λ l. l ++ are.back) split.whole ∙ append_assoc split.front split.back are.back) ∙ append_assoc split.front (split.back ++ are.back) there

    read : comma_after argument_at tokens ≡ Ok (a, rest)
    read = ap (comma_after argument_at) whole ∙ (comma_law argument_law).reads a split.front rest split.first refl

    behind_argument : tokens ≡ split.first.front ++ (split.first.back ++ rest)
    behind_argument = whole ∙ ap (λ l. l ++ rest) split.first.whole ∙ append_assoc split.first.front split.first.back rest

    low_rest : length there ≤ length rest
    low_rest = omega (arith, length-append (split.back ++ are.back) there)

    by_list : (l : Option (List Token)) → list_long tokens ≡ l → (length rest < fuel → FirstLong fuel rest there) → FirstLong (suc fuel) tokens there
    by_list (Some here) s more = by_bracketed (bracketed tokens here s)
      where
        by_split : (b : Bracketed tokens here) → (token : Token) × (others' : List Token) × (here ≡ token ∷ others') → length there ≤ length here
        by_split b p =
            let lower = past argument_law tokens (b.bracket ∷ b.inside.front) p.0 p.1 a split.first.front (split.first.back ++ rest)
            (b.whole ∙ ap (λ l. b.bracket ∷ l) (b.inside.whole ∙ ap (λ l. b.inside.front ++ l) p.2))
            (argument_begins b.bracket p.0 p.1 b.inside.elements b.inside.front b.opens b.inside.are (subst (λ l. BeginsInteger l) p.2 b.inside.begins)) behind_argument split.first.first in
            omega (arith, lower, low_rest, ap length p.2, length-append split.first.back rest)

        by_bracketed : Bracketed tokens here → FirstLong (suc fuel) tokens there
        by_bracketed b = record {
          here = here;
          is = ap (λ l. or_else l (from_read (comma_after argument_at tokens) (λ r. long_args fuel r))) s;
          low = by_split b (integer_split here b.inside.begins);
        }
    by_list None s more = by_more (more (omega (arith, lt, ap length whole, length-append split.front rest, some_front)))
      where
        some_front : 1 ≤ length split.front
        some_front = omega (arith, ap length split.first.whole, length-append split.first.front split.first.back, ap length split.first.then.only)

        by_more : FirstLong fuel rest there → FirstLong (suc fuel) tokens there
        by_more f = record {
          here = f.here;
          is = ap (λ l. or_else l (from_read (comma_after argument_at tokens) (λ r. long_args fuel r))) s ∙ taken (comma_after argument_at tokens) (λ r. long_args fuel r) a rest read ∙ f.is;
          low = f.low;
        }
