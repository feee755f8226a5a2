-- What is refused of a call besides the grammar.
use Rattle.std.proofs.Common.{◌≡◌, ◌∙◌, suc, ◌<◌, ◌≤◌, ◌⊎◌, inl, inr, Bool, true, false, if◌then◌else◌, List, [], ◌∷◌, ◌++◌, length, Option, Some, None, Ok, Err, refl, sym, ap, subst, append_assoc, arith}
use Rattle.std.proofs.Math.Nat.{eq-or-lt_of_le}
use Rattle.std.proofs.lemmas.List.{length-append}
use Rattle.sv_lex.specs.declared.marks.Mark.TheVariants.{LeftParen, RightParen, LeftBracket}
use Rattle.sv_lex.specs.declared.tokens.Token.{Token}
use Rattle.sv_lex.specs.declared.tokens.TokenKind.TheVariants.{Mark}
use Rattle.sv_app.specs.declared.apps.Ident.{Ident}
use Rattle.sv_app.specs.declared.refusals.Code.{Code}
use Rattle.sv_app.specs.declared.refusals.Code.TheVariants.{Unknown, Typing, Many}
use Rattle.sv_app.specs.declared.requests.Arg.{Arg}
use Rattle.sv_app.specs.declared.requests.Arg.TheVariants as args
use Rattle.sv_app.specs.declared.schemas.Ty.{Ty}
use Rattle.sv_app.specs.declared.schemas.Ty.TheVariants as types
use Rattle.sv_app.specs.Codes.{number_of}
use Rattle.sv_app.specs.Trees.{Transaction}
use Rattle.sv_reader.specs.declared.faults.ReadFault.{ReadFault}
use Rattle.sv_reader.specs.Grammar.{◌·◌, mark, name, IsName}
use Rattle.sv_reader.specs.Reading.{Read, name_of}
use Rattle.sv_reader.proofs.KindLaws.{token_of}
use Rattle.sv_reader.proofs.MadeLaws.{take_plain, skip_last}
use Rattle.sv_reader.proofs.PartLaws.{name_is, name_law}
use Rattle.sv_reader.proofs.PartLaws as parts
use Rattle.sv_reader.proofs.AnswerLaws.{anything, same_read}
use Rattle.sv_reader.proofs.ReadLaws.{Plain, Took, same_plain}
use Rattle.sv_reader.proofs.PartLaws.{both_assoc, assoc_both}
use Rattle.sv_workload.specs.declared.written.Call.{Call}
use Rattle.sv_workload.specs.Elements.{Refusals, Begins}
use Rattle.sv_workload.specs.Fits.{ArgFits, ArgsFit, CallFits, txn_of}
use Rattle.sv_workload.specs.Grammar.{IsInteger, argument, call}
use Rattle.sv_workload.specs.InitRefused.{BeginsName}
use Rattle.sv_workload.specs.LastRefused.{each_comma, BeginsInteger, IsInList, CallRefused, NoTxn, Unfit, LongList}
use Rattle.sv_workload.specs.Reading.{arg_fits, args_fit, txn_named, txn_meant, call_code, opening_at, long_call, long_args, long_among, long_fault, call_mark, call_at, at_front}
use Rattle.sv_workload.proofs.CallLaws.{call_law}
use Rattle.sv_workload.proofs.LongLaws.{joined_to, InArgs, args_in, first_args, argument_begins, integer_split, Taken, taken, taken_some}
use Rattle.sv_workload.proofs.MarkLaws.{FirstMark, Marks, Before, marks_or, marks_map}
use Rattle.sv_workload.proofs.RowLaws.{both_true, true_both}
use Rattle.sv_workload.proofs.ValueLaws.{head_same}
use Rattle.sv_reader.proofs.MatterLaws.{bare}

-- arguments by test

arg_fit : (ty : Ty) (a : Arg) → arg_fits ty a ≡ true → ArgFits ty a
arg_fit types.Int (args.Int n) e = tt
arg_fit types.Text (args.Text t) e = tt
arg_fit types.Ints (args.Ints ns) e = tt
arg_fit types.Int (args.Text t) e = absurd cc
arg_fit types.Int (args.Ints ns) e = absurd cc
arg_fit types.Text (args.Int n) e = absurd cc
arg_fit types.Text (args.Ints ns) e = absurd cc
arg_fit types.Ints (args.Int n) e = absurd cc
arg_fit types.Ints (args.Text t) e = absurd cc

fit_arg : (ty : Ty) (a : Arg) → ArgFits ty a → arg_fits ty a ≡ true
fit_arg types.Int (args.Int n) is = refl
fit_arg types.Text (args.Text t) is = refl
fit_arg types.Ints (args.Ints ns) is = refl
fit_arg types.Int (args.Text t) is = absurd is
fit_arg types.Int (args.Ints ns) is = absurd is
fit_arg types.Text (args.Int n) is = absurd is
fit_arg types.Text (args.Ints ns) is = absurd is
fit_arg types.Ints (args.Int n) is = absurd is
fit_arg types.Ints (args.Text t) is = absurd is

pub args_fitting : (params : List (Ident × Ty)) (passed : List Arg) → args_fit params passed ≡ true → ArgsFit params passed
args_fitting [] [] e = tt
args_fitting [] (a ∷ passed) e = absurd cc
args_fitting (p ∷ ps) [] e = absurd cc
args_fitting (p ∷ ps) (a ∷ passed) e = let both = both_true (arg_fits p.1 a) (args_fit ps passed) e in (arg_fit p.1 a both.0, args_fitting ps passed both.1)

pub fitting_args : (params : List (Ident × Ty)) (passed : List Arg) → ArgsFit params passed → args_fit params passed ≡ true
fitting_args [] [] is = refl
fitting_args [] (a ∷ passed) is = absurd is
fitting_args (p ∷ ps) [] is = absurd is
fitting_args (p ∷ ps) (a ∷ passed) is = true_both (arg_fits p.1 a) (args_fit ps passed) (fit_arg p.1 a is.0) (fitting_args ps passed is.1)

-- a name and a parenthesis
opening_law : Plain bare anything (λ txn. name txn · mark LeftParen) opening_at
opening_law = same_plain (take_plain (λ txn (last : Unit {0}). txn) (name_law bare anything) (λ txn. skip_last bare anything (Mark LeftParen) txn))
    (λ txn l m. subst (λ x. (name x · mark LeftParen) l) (sym m.made) m.is) (λ txn l is. record { «from» = (txn, tt); is = is; made = refl })

-- a call may begin with its opening, arguments, and what an argument may begin with
call_begins : (txn : Ident) (passed : List Arg) (opening middle part : List Token) → (name txn · mark LeftParen) opening → each_comma argument passed middle → Begins argument part → Begins call (opening ++ (middle ++ part))
call_begins txn passed opening middle part o m b = record {
  more = b.more ++ token_of (Mark RightParen) ∷ [];
  item = record { txn = txn; args = passed ++ b.item ∷ [] };
  is = record {
    front = o.front;
    back = o.back ++ ((middle ++ (part ++ b.more)) ++ token_of (Mark RightParen) ∷ []);
    whole = append_assoc opening (middle ++ part) (b.more ++ token_of (Mark RightParen) ∷ [])
        ∙ ap (λ l. opening ++ l) (append_assoc middle part (b.more ++ token_of (Mark RightParen) ∷ []) ∙ ap (λ l. middle ++ l) (sym (append_assoc part b.more (token_of (Mark RightParen) ∷ []))) ∙ sym (append_assoc middle (part ++ b.more) (token_of (Mark RightParen) ∷ [])))
        ∙ ap (λ l. l ++ ((middle ++ (part ++ b.more)) ++ token_of (Mark RightParen) ∷ [])) o.whole ∙ append_assoc o.front o.back ((middle ++ (part ++ b.more)) ++ token_of (Mark RightParen) ∷ []);
    first = o.first;
    then = record {
      front = o.back;
      back = (middle ++ (part ++ b.more)) ++ token_of (Mark RightParen) ∷ [];
      whole = refl;
      first = o.then;
      then = record {
        front = middle ++ (part ++ b.more);
        back = token_of (Mark RightParen) ∷ [];
        whole = refl;
        first = joined_to argument passed b.item middle (part ++ b.more) m b.is;
        then = record { token = token_of (Mark RightParen); only = refl; holds = refl };
      };
    };
  };
}

-- an element of a list that passes the limit

pub record InCallList (tokens here : List Token) : Type 0 where
  pub front : List Token
  pub whole : tokens ≡ front ++ here
  pub is : IsInList 64 front
  pub begins : BeginsInteger here

abbrev pub LongAt : List Token → Refusals
LongAt tokens code here = (code ≡ Many) × InCallList tokens here

-- the same by the opening of the call and its arguments
record Opened (tokens here : List Token) : Type 0 where
  pub txn : Ident
  pub opening : List Token
  pub rest : List Token
  pub whole : tokens ≡ opening ++ rest
  pub is : (name txn · mark LeftParen) opening
  pub inside : InArgs rest here

opened_list : (tokens here : List Token) → Opened tokens here → InCallList tokens here
opened_list tokens here o = record {
  front = o.opening ++ o.inside.front;
  whole = o.whole ∙ ap (λ l. o.opening ++ l) o.inside.whole ∙ sym (append_assoc o.opening o.inside.front here);
  is = record {
    txn = o.txn;
    args = o.inside.args;
    elements = o.inside.elements;
    is = assoc_both (record { front = o.opening; back = o.inside.front; whole = refl; first = o.is; then = o.inside.are });
    many = o.inside.many;
  };
  begins = o.inside.begins;
}

list_opened : (tokens here : List Token) → InCallList tokens here → Opened tokens here
list_opened tokens here l = let b = both_assoc l.is.is in record {
  txn = l.is.txn;
  opening = b.front;
  rest = b.back ++ here;
  whole = l.whole ∙ ap (λ x. x ++ here) b.whole ∙ append_assoc b.front b.back here;
  is = b.first;
  inside = record { args = l.is.args; elements = l.is.elements; front = b.back; whole = refl; are = b.then; many = l.is.many; begins = l.begins };
}

-- where one is, the first one is found
record Finds (tokens there : List Token) : Type 0 where
  pub here : List Token
  pub is : long_call tokens ≡ Some here
  pub low : length there ≤ length here

finds : (tokens there : List Token) → Opened tokens there → Finds tokens there
unfolding long_call long_among
finds tokens there o =
    let first = first_args (suc (length o.rest)) o.inside.args o.rest o.inside.front there o.inside.elements (omega arith) o.inside.whole o.inside.are o.inside.many o.inside.begins in
    record {
      here = first.here;
      is = taken (opening_at tokens) (λ r. long_args (suc (length r)) r) o.txn o.rest (ap opening_at o.whole ∙ opening_law.reads o.txn o.opening o.rest o.is refl) ∙ first.is;
      low = first.low;
    }

found_opened : (tokens here : List Token) → long_call tokens ≡ Some here → Opened tokens here
unfolding long_call long_among
found_opened tokens here e = by_taken (taken_some (opening_at tokens) (λ r. long_args (suc (length r)) r) here e)
  where
    by_taken : Taken (opening_at tokens) (λ r. long_args (suc (length r)) r) here → Opened tokens here
    by_taken t = let took = opening_law.took tokens t.item t.rest t.is in
        record { txn = t.item; opening = took.front; rest = t.rest; whole = took.whole; is = took.is; inside = args_in (suc (length t.rest)) t.rest here t.left }

pub long_marks : (tokens : List Token) → Marks call tokens (LongAt tokens) (long_fault (long_call tokens))
long_marks tokens = by_call (long_call tokens) refl
  where
    within : (code : Code) (here : List Token) → LongAt tokens code here → length here ≤ length tokens
    within code here is = omega (arith, ap length is.1.whole, length-append is.1.front here)

    by_call : (found : Option (List Token)) → long_call tokens ≡ found → Marks call tokens (LongAt tokens) (long_fault found)
    by_call None e = record {
      none = λ n code here is. let f = finds tokens here (list_opened tokens here is.1) in let bad : None ≡ Some f.here = sym e ∙ f.is in absurd cc;
      some = λ fault s. absurd cc;
      within = within;
    }
    by_call (Some here) e = record {
      none = λ n. absurd cc;
      some = λ fault s. let same : record { code = Many; left = length here } ≡ fault = cc in subst (λ f. FirstMark call tokens (LongAt tokens) f) same (by_opened (found_opened tokens here e));
      within = within;
    }
      where
        by_opened : Opened tokens here → FirstMark call tokens (LongAt tokens) (record { code = Many; left = length here })
        by_opened o = by_split (integer_split here o.inside.begins)
          where
            by_split : (token : Token) × (others' : List Token) × (here ≡ token ∷ others') → FirstMark call tokens (LongAt tokens) (record { code = Many; left = length here })
            by_split p = record {
              pre = o.opening ++ o.inside.front;
              token = p.0;
              others = p.1;
              whole = o.whole ∙ ap (λ l. o.opening ++ l) (o.inside.whole ∙ ap (λ l. o.inside.front ++ l) p.2) ∙ sym (append_assoc o.opening o.inside.front (p.0 ∷ p.1));
              begins = subst (λ l. Begins call l) joined (call_begins o.txn o.inside.args o.opening o.inside.are.front (inner.first.token ∷ inner.back ++ p.0 ∷ []) o.is o.inside.are.first
                  (argument_begins inner.first.token p.0 p.1 o.inside.elements inner.back inner.first.holds inner.then (subst (λ l. BeginsInteger l) p.2 o.inside.begins)));
              place = ap length p.2;
              first = record {
                is = (refl, opened_list tokens (p.0 ∷ p.1) (subst (λ l. Opened tokens l) p.2 o));
                first = λ other there is. by_there other there is;
              };
            }
              where
                inner : (mark LeftBracket · each_comma IsInteger o.inside.elements) o.inside.are.back
                inner = o.inside.are.then

                inside_whole : o.inside.front ≡ o.inside.are.front ++ (inner.first.token ∷ inner.back)
                inside_whole = o.inside.are.whole ∙ ap (λ l. o.inside.are.front ++ l) (inner.whole ∙ ap (λ l. l ++ inner.back) inner.first.only)

                joined : o.opening ++ (o.inside.are.front ++ (inner.first.token ∷ inner.back ++ p.0 ∷ [])) ≡ o.opening ++ o.inside.front ++ p.0 ∷ []
                joined = ap (λ l. o.opening ++ l) (sym (append_assoc o.inside.are.front (inner.first.token ∷ inner.back) (p.0 ∷ [])) ∙ ap (λ l. l ++ p.0 ∷ []) (sym inside_whole)) ∙ sym (append_assoc o.opening o.inside.front (p.0 ∷ []))

                by_there : (other : Code) (there : List Token) → LongAt tokens other there → (length there < length (p.0 ∷ p.1)) ⊎ ((length there ≡ length (p.0 ∷ p.1)) × (number_of Many ≤ number_of other))
                by_there other there is = by_order (eq-or-lt_of_le (omega (arith, f.low, ap length same, ap length p.2)))
                  where
                    f : Finds tokens there
                    f = finds tokens there (list_opened tokens there is.1)

                    same : f.here ≡ here
                    same = let e' : Some f.here ≡ Some here = sym f.is ∙ e in cc

                    by_order : (length there ≡ length (p.0 ∷ p.1)) ⊎ (length there < length (p.0 ∷ p.1)) → (length there < length (p.0 ∷ p.1)) ⊎ ((length there ≡ length (p.0 ∷ p.1)) × (number_of Many ≤ number_of other))
                    by_order (inr lt) = inl lt
                    by_order (inl s) = inr (s, subst (λ c. 6 ≤ number_of c) (sym is.0) (omega arith))

-- what is wrong where a call begins

pub data CallWrong (txns : List Transaction) (tokens : List Token) (code : Code) : Type 0 where
  Nameless : code ≡ Unknown → (txn : Ident) → BeginsName txn tokens → txn_of txns txn ≡ None → CallWrong txns tokens code
  Misfit : code ≡ Typing → (c : Call) (front rest : List Token) (txn : Transaction) → tokens ≡ front ++ rest → call c front → txn_of txns c.txn ≡ Some txn → (CallFits txn c → ⊥) → CallWrong txns tokens code

abbrev pub CallAt : List Transaction → List Token → Refusals
CallAt txns tokens code here = CallWrong txns tokens code × (here ≡ tokens)

pub name_begins_call : (token : Token) (ident : Ident) → IsName ident token → Begins call (token ∷ [])
name_begins_call token ident is = record {
  more = token_of (Mark LeftParen) ∷ token_of (Mark RightParen) ∷ [];
  item = record { txn = ident; args = [] };
  is = record {
    front = token ∷ [];
    back = token_of (Mark LeftParen) ∷ token_of (Mark RightParen) ∷ [];
    whole = refl;
    first = record { token = token; only = refl; holds = is };
    then = record {
      front = token_of (Mark LeftParen) ∷ [];
      back = token_of (Mark RightParen) ∷ [];
      whole = refl;
      first = record { token = token_of (Mark LeftParen); only = refl; holds = refl };
      then = record { front = []; back = token_of (Mark RightParen) ∷ []; whole = refl; first = refl; then = record { token = token_of (Mark RightParen); only = refl; holds = refl } };
    };
  };
}

module _ (txns : List Transaction) (token : Token) (others' : List Token) (ident : Ident) (n : name_of token ≡ Some ident) where
  abbrev tokens : List Token
  tokens = token ∷ others'

  is_name_here : IsName ident token
  is_name_here = name_is token.spot token.kind ident n

  begins_same : (txn : Ident) → BeginsName txn tokens → txn ≡ ident
  begins_same txn is = let same : Some txn ≡ Some ident = sym (parts.is_named txn token is) ∙ n in cc

  call_name : (c : Call) (front rest : List Token) → tokens ≡ front ++ rest → call c front → c.txn ≡ ident
  call_name c front rest e is =
      let first : token ≡ is.first.token = head_same (e ∙ ap (λ l. l ++ rest) (is.whole ∙ ap (λ l. l ++ is.back) is.first.only)) in
      let same : Some c.txn ≡ Some ident = sym (parts.is_named c.txn is.first.token is.first.holds) ∙ ap name_of (sym first) ∙ n in
      cc

  one_mark : (code : Code) → CallWrong txns tokens code → ((other : Code) → CallWrong txns tokens other → number_of code ≤ number_of other) → Marks call tokens (CallAt txns tokens) (at_front (Some code) tokens)
  one_mark code wrong low = record {
    none = λ e. absurd cc;
    some = λ fault e. let same : record { code = code; left = length tokens } ≡ fault = cc in subst (λ f. FirstMark call tokens (CallAt txns tokens) f) same (record {
      pre = [];
      token = token;
      others = others';
      whole = refl;
      begins = name_begins_call token ident is_name_here;
      place = refl;
      first = record { is = (wrong, refl); first = λ other there is. inr (ap length is.1, low other is.0) };
    });
    within = λ code here is. omega (arith, ap length is.1);
  }

  no_mark : ((code : Code) → CallWrong txns tokens code → ⊥) → Marks call tokens (CallAt txns tokens) None
  no_mark never = record { none = λ e code here is. never code is.0; some = λ fault e. absurd cc; within = λ code here is. omega (arith, ap length is.1) }

  unknown_mark : txn_of txns ident ≡ None → Marks call tokens (CallAt txns tokens) (at_front (Some Unknown) tokens)
  unknown_mark t = one_mark Unknown (Nameless refl ident is_name_here t) low
    where
      low : (other : Code) → CallWrong txns tokens other → number_of Unknown ≤ number_of other
      low other (Nameless e txn is none) = subst (λ c. 2 ≤ number_of c) (sym e) (omega arith)
      low other (Misfit e c front rest txn w is its misfit) = subst (λ c. 2 ≤ number_of c) (sym e) (omega arith)

  known : (t : Transaction) → txn_of txns ident ≡ Some t → (txn : Ident) → BeginsName txn tokens → txn_of txns txn ≡ None → ⊥
  known t e txn is none = let bad : Some t ≡ None = sym e ∙ ap (txn_of txns) (sym (begins_same txn is)) ∙ none in absurd cc

  read_mark : (t : Transaction) → txn_of txns ident ≡ Some t → (read : Read Call) → call_at tokens ≡ read → Marks call tokens (CallAt txns tokens) (at_front (call_code (Some t) read) tokens)
  read_mark t e (Err fault) r = no_mark never
    where
      never : (code : Code) → CallWrong txns tokens code → ⊥
      never code (Nameless s txn is none) = known t e txn is none
      never code (Misfit s c front rest txn w is its misfit) = let bad : ◌≡◌ {A = Read Call} (Ok (c, rest)) (Err fault) = sym (call_law.reads c front rest is refl) ∙ ap call_at (sym w) ∙ r in absurd cc
  read_mark t e (Ok (c, rest)) r = by_fit (args_fit t.params c.args) refl
    where
      took : Took call call_at tokens c rest
      took = call_law.took tokens c rest r

      of_txn : txn_of txns c.txn ≡ Some t
      of_txn = ap (txn_of txns) (call_name c took.front rest took.whole took.is) ∙ e

      its : (d : Call) (front behind : List Token) (txn : Transaction) → tokens ≡ front ++ behind → call d front → txn_of txns d.txn ≡ Some txn → (d ≡ c) × (txn ≡ t)
      its d front behind txn w is found =
          let same = same_read (sym (call_law.reads d front behind is refl) ∙ ap call_at (sym w) ∙ r) in
          let txn_same : Some txn ≡ Some t = sym found ∙ ap (λ (x : Call). txn_of txns x.txn) same.item ∙ of_txn in
          (same.item, cc)

      by_fit : (b : Bool) → args_fit t.params c.args ≡ b → Marks call tokens (CallAt txns tokens) (at_front (if b then None else Some Typing) tokens)
      by_fit true f = no_mark never
        where
          never : (code : Code) → CallWrong txns tokens code → ⊥
          never code (Nameless s txn is none) = known t e txn is none
          never code (Misfit s d front behind txn w is found misfit) = let same = its d front behind txn w is found in
              misfit (subst (λ x. CallFits x d) (sym same.1) (subst (λ x. CallFits t x) (sym same.0) (args_fitting t.params c.args f)))
      by_fit false f = one_mark Typing (Misfit refl c took.front rest t took.whole took.is of_txn (λ fits. let bad : true ≡ false = sym (fitting_args t.params c.args fits) ∙ f in absurd cc)) low
        where
          low : (other : Code) → CallWrong txns tokens other → number_of Typing ≤ number_of other
          low other (Nameless s txn is none) = absurd (known t e txn is none)
          low other (Misfit s d front behind txn w is found misfit) = subst (λ x. 5 ≤ number_of x) (sym s) (omega arith)

  front_marks : Marks call tokens (CallAt txns tokens) (at_front (call_code (txn_meant txns tokens) (call_at tokens)) tokens)
  front_marks = subst (λ (t : Option Transaction). Marks call tokens (CallAt txns tokens) (at_front (call_code t (call_at tokens)) tokens)) (ap (txn_named txns) (sym n)) (by_txn (txn_of txns ident) refl)
    where
      by_txn : (t : Option Transaction) → txn_of txns ident ≡ t → Marks call tokens (CallAt txns tokens) (at_front (call_code t (call_at tokens)) tokens)
      by_txn None e = unknown_mark e
      by_txn (Some t) e = read_mark t e (call_at tokens) refl

  -- all that is refused of a call besides the grammar
  pub call_marks : Marks call tokens (CallRefused txns tokens) (call_mark txns tokens)
  call_marks = marks_map into (λ code here is. out code here tokens refl is) (marks_or front_marks (long_marks tokens) order)
    where
      order : (fault : ReadFault) → at_front (call_code (txn_meant txns tokens) (call_at tokens)) tokens ≡ Some fault → (code : Code) (here : List Token) → LongAt tokens code here → Before fault code here
      order fault e code here is = by_code (call_code (txn_meant txns tokens) (call_at tokens)) e
        where
          some_front : (front : List Token) → IsInList 64 front → 1 ≤ length front
          some_front front l = omega (arith, ap length l.is.whole, length-append l.is.front l.is.back, ap length l.is.first.only)

          by_code : (c : Option Code) → at_front c tokens ≡ Some fault → Before fault code here
          by_code None e = absurd cc
          by_code (Some c) e = let same : record { code = c; left = length tokens } ≡ fault = cc in
              inl (omega (arith, ap (λ (f : ReadFault). f.left) same, ap length is.1.whole, length-append is.1.front here, some_front is.1.front is.1.is))

      by_wrong : (code : Code) → CallWrong txns tokens code → CallRefused txns tokens code tokens
      by_wrong code (Nameless s txn is none) = subst (λ c. CallRefused txns tokens c tokens) (sym s) (NoTxn txn is none)
      by_wrong code (Misfit s c front rest txn w is found misfit) = subst (λ c. CallRefused txns tokens c tokens) (sym s) (Unfit c front rest txn w is found misfit)

      into : (code : Code) (here : List Token) → CallAt txns tokens code here ⊎ LongAt tokens code here → CallRefused txns tokens code here
      into code here (inl is) = subst (λ l. CallRefused txns tokens code l) (sym is.1) (by_wrong code is.0)
      into code here (inr is) = subst (λ c. CallRefused txns tokens c here) (sym is.0) (LongList is.1.front here is.1.whole is.1.is is.1.begins)

      out : (code : Code) (here all : List Token) → all ≡ tokens → CallRefused txns all code here → CallAt txns tokens code here ⊎ LongAt tokens code here
      out _ _ all e (NoTxn txn is none) = inl (Nameless refl txn (subst (λ l. BeginsName txn l) e is) none, e)
      out _ _ all e (Unfit c front rest txn w is found misfit) = inl (Misfit refl c front rest txn (sym e ∙ w) is found misfit, e)
      out _ _ all e (LongList front here w is begins) = inr (refl, record { front = front; whole = sym e ∙ w; is = is; begins = begins })
