-- What is refused at a number and behind it, and of packets, names of tables and calls that stand in a step.
use Rattle.std.proofs.Common.{◌≡◌, ◌∙◌, ℕ, pos, ◌<◌, ◌⊎◌, inl, Bool, true, false, not, if◌then◌else◌, List, [], ◌∷◌, ◌++◌, length, Option, Some, None, Ok, Err, refl, sym, ap, subst, arith}
use Rattle.std.proofs.lemmas.List.{length-append}
use Rattle.sv_lex.specs.declared.tokens.Token.{Token}
use Rattle.sv_lex.specs.declared.tokens.TokenKind.TheVariants.{Name, Number}
use Rattle.sv_app.specs.declared.apps.Ident.{Ident}
use Rattle.sv_app.specs.declared.refusals.Code.{Code}
use Rattle.sv_app.specs.declared.refusals.Code.TheVariants.{Unknown, BadStep}
use Rattle.sv_app.specs.Lookups.{table_of}
use Rattle.sv_app.specs.Schema.{Declaration}
use Rattle.sv_app.specs.Trees.{Transaction}
use Rattle.sv_reader.specs.declared.faults.ReadFault.{ReadFault}
use Rattle.sv_reader.specs.Grammar.{name, IsName}
use Rattle.sv_reader.specs.Reading.{Read, is_name, is_some, name_of, given}
use Rattle.sv_reader.proofs.KindLaws.{token_of}
use Rattle.sv_reader.proofs.PartLaws.{name_is, is_named, name_next}
use Rattle.sv_reader.proofs.AnswerLaws.{same_read}
use Rattle.sv_reader.proofs.ReadLaws.{Took}
use Rattle.sv_workload.specs.declared.written.Color.{Color}
use Rattle.sv_workload.specs.declared.written.Color.TheVariants as colors
use Rattle.sv_workload.specs.Elements.{Refusals, Begins, AreNone}
use Rattle.sv_workload.specs.Grammar.{number, packet, call}
use Rattle.sv_workload.specs.InitRefused.{BeginsName}
use Rattle.sv_workload.specs.LastRefused.{IsOutside, CallRefused, NoTxn, Unfit, LongList}
use Rattle.sv_workload.specs.LineReading.{most_packet, sent_mark, packet_mark, unnamed_mark, table_mark, asked_mark}
use Rattle.sv_workload.specs.Reading.{natural_of, count_at, is_out, out_mark, from_read, color_named, color_of, call_mark}
use Rattle.sv_workload.specs.Written.{Blue, Red}
use Rattle.sv_workload.proofs.CallMarkLaws.{call_marks}
use Rattle.sv_workload.proofs.InitLaws.{contra}
use Rattle.sv_workload.proofs.LineLaws.{named, color_word, color_back, color_there}
use Rattle.sv_workload.proofs.MarkLaws.{Marks, At, Before, no_marks, place_marks, marks_or, marks_map}
use Rattle.sv_workload.proofs.SettingLaws.{count_law, out_is, is_out_by}
use Rattle.sv_workload.proofs.ValueLaws.{head_same}

pub tail_same : {x y : Token} {xs ys : List Token} → x ∷ xs ≡ y ∷ ys → xs ≡ ys
tail_same e = cc

-- a number outside its bounds

abbrev pub OutAt : Code → ℕ → ℕ → List Token → Refusals
OutAt wanted least most place = At wanted place (IsOutside least most place)

pub out_marks : {A : Type 0} (P : A → List Token → Type 0) (tokens pre others : List Token) (wanted : Code) (least most : ℕ) → tokens ≡ pre ++ others
    → ((found : Token) (n : ℕ) → found.kind ≡ Number (pos n) → Begins P (pre ++ found ∷ [])) → Marks P tokens (OutAt wanted least most others) (out_mark wanted least most others)
out_marks P tokens pre [] wanted least most w begins = marks_map (λ code here is. absurd is) (λ code here is. is.2.is) (no_marks P tokens)
out_marks P tokens pre (found ∷ more) wanted least most w begins = by_out (is_out least most (natural_of found.kind)) refl
  where
    by_out : (b : Bool) → is_out least most (natural_of found.kind) ≡ b → Marks P tokens (OutAt wanted least most (found ∷ more)) (given b (record { code = wanted; left = length (found ∷ more) }))
    by_out false o = marks_map (λ code here is. absurd is) (λ code here is. contra (is_out_by least most found more is.2) o) (no_marks P tokens)
    by_out true o = let out = out_is least most found more o in place_marks P tokens pre found more wanted (IsOutside least most (found ∷ more)) true w (begins found out.n out.is) (λ t. out) (λ is. refl)

pub out_place : (wanted : Code) (least most : ℕ) (tokens : List Token) (fault : ReadFault) → out_mark wanted least most tokens ≡ Some fault → fault.left ≡ length tokens
out_place wanted least most [] fault e = absurd cc
out_place wanted least most (token ∷ others) fault e = by_out (is_out least most (natural_of token.kind)) e
  where
    by_out : (b : Bool) → given b (record { code = wanted; left = length (token ∷ others) }) ≡ Some fault → fault.left ≡ length (token ∷ others)
    by_out false e = absurd cc
    by_out true e = let same : record { code = wanted; left = length (token ∷ others) } ≡ fault = cc in sym (ap (λ (f : ReadFault). f.left) same)

-- behind a number

pub record BehindNumber (R : List Token → Refusals) (tokens : List Token) (code : Code) (here : List Token) : Type 0 where
  pub n : ℕ
  pub front : List Token
  pub rest : List Token
  pub whole : tokens ≡ front ++ rest
  pub is : number n front
  pub refused : R rest code here

pub number_less : (n : ℕ) (tokens front rest : List Token) → tokens ≡ front ++ rest → number n front → length rest < length tokens
number_less n tokens front rest w is = omega (arith, ap length w, length-append front rest, ap length is.only)

pub behind_marks : {A : Type 0} (P : A → List Token → Type 0) (tokens pre others : List Token) (R : List Token → Refusals) (mark : List Token → Option ReadFault) → tokens ≡ pre ++ others
    → ((found : Token) (n : ℕ) (rest : List Token) → found.kind ≡ Number (pos n) → Marks P (pre ++ found ∷ rest) (R rest) (mark rest)) → Marks P tokens (BehindNumber R others) (from_read (count_at others) mark)
behind_marks P tokens pre others R mark w marks = by_count (count_at others) refl
  where
    by_count : (read : Read ℕ) → count_at others ≡ read → Marks P tokens (BehindNumber R others) (from_read read mark)
    by_count (Err fault) e = marks_map (λ code here is. absurd is) (λ code here is. never is) (no_marks P tokens)
      where
        never : {code : Code} {here : List Token} → BehindNumber R others code here → ⊥
        never is = let bad : ◌≡◌ {A = Read ℕ} (Ok (is.n, is.rest)) (Err fault) = sym (count_law.reads is.n is.front is.rest is.is refl) ∙ ap count_at (sym is.whole) ∙ e in absurd cc
    by_count (Ok (n, rest)) e = subst (λ l. Marks P l (BehindNumber R others) (mark rest)) (sym (w ∙ ap (λ l. pre ++ l) (took.whole ∙ ap (λ l. l ++ rest) took.is.only)))
        (marks_map into out (marks took.is.token n rest took.is.holds))
      where
        took : Took number count_at others n rest
        took = count_law.took others n rest e

        into : (code : Code) (here : List Token) → R rest code here → BehindNumber R others code here
        into code here r = record { n = n; front = took.front; rest = rest; whole = took.whole; is = took.is; refused = r }

        out : (code : Code) (here : List Token) → BehindNumber R others code here → R rest code here
        out code here is = subst (λ l. R l code here) (same_read (sym (count_law.reads is.n is.front is.rest is.is refl) ∙ ap count_at (sym is.whole) ∙ e)).rests is.refused

-- packets

pub is_color : (token : Token) (c : Color) → color_of token ≡ Some c → token.kind ≡ Name (color_word c)
is_color token c e = named color_named color_word color_back token.kind c e

pub color_is : (token : Token) (c : Color) → token.kind ≡ Name (color_word c) → color_of token ≡ Some c
color_is token c e = ap (λ k. color_of (record token { kind = k })) e ∙ color_there c

abbrev pub SentRefused : ℕ → Color → List Token → Refusals
SentRefused sites colors.Blue others code here = OutAt BadStep 1 sites others code here ⊎ BehindNumber (λ rest. OutAt BadStep 0 most_packet rest) others code here
SentRefused sites colors.Red others code here = OutAt BadStep 0 most_packet others code here

pub record PacketRefused (sites : ℕ) (tokens : List Token) (code : Code) (here : List Token) : Type 0 where
  pub color : Color
  pub word : Token
  pub others : List Token
  pub whole : tokens ≡ word ∷ others
  pub is : word.kind ≡ Name (color_word color)
  pub refused : SentRefused sites color others code here

module _ (sites : ℕ) (word : Token) (others : List Token) where
  one_number : word.kind ≡ Name (color_word colors.Blue) → (found : Token) (n : ℕ) → found.kind ≡ Number (pos n) → Begins packet (word ∷ found ∷ [])
  one_number w found n k = record {
    more = token_of (Number (pos 0)) ∷ [];
    item = Blue n 0;
    is = record {
      front = word ∷ [];
      back = found ∷ token_of (Number (pos 0)) ∷ [];
      whole = refl;
      first = record { token = word; only = refl; holds = w };
      then = record {
        front = found ∷ [];
        back = token_of (Number (pos 0)) ∷ [];
        whole = refl;
        first = record { token = found; only = refl; holds = k };
        then = record { token = token_of (Number (pos 0)); only = refl; holds = refl };
      };
    };
  }

  two_numbers : word.kind ≡ Name (color_word colors.Blue) → (first second : Token) (n m : ℕ) → first.kind ≡ Number (pos n) → second.kind ≡ Number (pos m) → Begins packet (word ∷ first ∷ second ∷ [])
  two_numbers w first second n m k j = record {
    more = [];
    item = Blue n m;
    is = record {
      front = word ∷ [];
      back = first ∷ second ∷ [];
      whole = refl;
      first = record { token = word; only = refl; holds = w };
      then = record { front = first ∷ []; back = second ∷ []; whole = refl; first = record { token = first; only = refl; holds = k }; then = record { token = second; only = refl; holds = j } };
    };
  }

  red_number : word.kind ≡ Name (color_word colors.Red) → (found : Token) (n : ℕ) → found.kind ≡ Number (pos n) → Begins packet (word ∷ found ∷ [])
  red_number w found n k = record {
    more = [];
    item = Red n;
    is = record { front = word ∷ []; back = found ∷ []; whole = refl; first = record { token = word; only = refl; holds = w }; then = record { token = found; only = refl; holds = k } };
  }

  sent_marks : (c : Color) → word.kind ≡ Name (color_word c) → Marks packet (word ∷ others) (SentRefused sites c others) (sent_mark sites (Some c) others)
  sent_marks colors.Red w = out_marks packet (word ∷ others) (word ∷ []) others BadStep 0 most_packet refl (red_number w)
  sent_marks colors.Blue w = marks_or (out_marks packet (word ∷ others) (word ∷ []) others BadStep 1 sites refl (one_number w))
      (behind_marks packet (word ∷ others) (word ∷ []) others (λ rest. OutAt BadStep 0 most_packet rest) (λ rest. out_mark BadStep 0 most_packet rest) refl
      (λ first n rest k. out_marks packet (word ∷ first ∷ rest) (word ∷ first ∷ []) rest BadStep 0 most_packet refl (λ second m j. two_numbers w first second n m k j)))
      order
    where
      order : (fault : ReadFault) → out_mark BadStep 1 sites others ≡ Some fault → (code : Code) (here : List Token) → BehindNumber (λ rest. OutAt BadStep 0 most_packet rest) others code here → Before fault code here
      order fault e code here is = let lt = number_less is.n others is.front is.rest is.whole is.is in let place = out_place BadStep 1 sites others fault e in inl (omega (arith, lt, place, ap length is.refused.1))

pub packet_marks : (sites : ℕ) (tokens : List Token) → Marks packet tokens (PacketRefused sites tokens) (packet_mark sites tokens)
packet_marks sites [] = marks_map (λ code here is. absurd is) (λ code here is. let bad : [] ≡ is.word ∷ is.others = is.whole in absurd cc) (no_marks packet [])
packet_marks sites (word ∷ others) = by_color (color_of word) refl
  where
    by_color : (c : Option Color) → color_of word ≡ c → Marks packet (word ∷ others) (PacketRefused sites (word ∷ others)) (sent_mark sites c others)
    by_color None e = marks_map (λ code here is. absurd is) (λ code here is. let bad : Some is.color ≡ None = sym (color_is is.word is.color is.is) ∙ ap color_of (sym (head_same is.whole)) ∙ e in absurd cc)
        (no_marks packet (word ∷ others))
    by_color (Some c) e = marks_map (λ code here r. record { color = c; word = word; others = others; whole = refl; is = is_color word c e; refused = r }) (λ code here is. out code here is)
        (sent_marks sites word others c (is_color word c e))
      where
        out : (code : Code) (here : List Token) → PacketRefused sites (word ∷ others) code here → SentRefused sites c others code here
        out code here is =
            let same : Some is.color ≡ Some c = sym (color_is is.word is.color is.is) ∙ ap color_of (sym (head_same is.whole)) ∙ e in
            let one : is.color ≡ c = cc in
            subst (λ x. SentRefused sites x others code here) one (subst (λ l. SentRefused sites is.color l code here) (sym (tail_same is.whole)) is.refused)

-- names of tables

abbrev pub TableRefused : List Declaration → List Token → Refusals
TableRefused schema tokens = At Unknown tokens ((table : Ident) × BeginsName table tokens × (table_of schema table ≡ None))

pub table_marks : (schema : List Declaration) (tokens : List Token) → Marks name tokens (TableRefused schema tokens) (table_mark schema tokens)
table_marks schema [] = marks_map (λ code here is. absurd is) (λ code here is. is.2.1) (no_marks name [])
table_marks schema (token ∷ others) = by_name (name_of token) refl
  where
    by_name : (i : Option Ident) → name_of token ≡ i → Marks name (token ∷ others) (TableRefused schema (token ∷ others)) (unnamed_mark schema i (token ∷ others))
    by_name None e = marks_map (λ code here is. absurd is) (λ code here is. let bad : Some is.2.0 ≡ None = sym (is_named is.2.0 token is.2.1) ∙ e in absurd cc) (no_marks name (token ∷ others))
    by_name (Some ident) e = place_marks name (token ∷ others) [] token others Unknown ((table : Ident) × BeginsName table (token ∷ others) × (table_of schema table ≡ None)) (not (is_some (table_of schema ident))) refl
        (record { more = []; item = ident; is = record { token = token; only = refl; holds = named_here } }) (λ t. (ident, named_here, none (table_of schema ident) t))
        (λ is. ap (λ o. not (is_some o)) (ap (table_of schema) (same is.0 is.1) ∙ is.2))
      where
        named_here : IsName ident token
        named_here = name_is token.spot token.kind ident e

        none : (o : Option Declaration) → not (is_some o) ≡ true → o ≡ None
        none None t = refl
        none (Some table) t = absurd cc

        same : (table : Ident) → IsName table token → ident ≡ table
        same table is = let one : Some ident ≡ Some table = sym e ∙ is_named table token is in cc

-- calls, where one begins

no_call : (txns : List Transaction) (tokens : List Token) → is_name tokens ≡ false → AreNone (CallRefused txns tokens)
no_call txns tokens t code here is = by_case code here tokens refl is
  where
    begins : (txn : Ident) (all : List Token) → all ≡ tokens → BeginsName txn all → ⊥
    begins txn [] e is = is
    begins txn (token ∷ others) e is = contra (ap (λ o. is_some o) (is_named txn token is)) (ap is_name e ∙ t)

    by_case : (code : Code) (here all : List Token) → all ≡ tokens → CallRefused txns all code here → ⊥
    by_case _ _ all e (NoTxn txn is none) = begins txn all e is
    by_case _ _ all e (Unfit c front rest txn w is found misfit) = contra (name_next c.txn _ front rest is) (ap is_name (sym w ∙ e) ∙ t)
    by_case _ _ all e (LongList front here w is begins) = contra (name_next is.txn _ front here is.is) (ap is_name (sym w ∙ e) ∙ t)

pub asked_marks : (txns : List Transaction) (tokens : List Token) → Marks call tokens (CallRefused txns tokens) (asked_mark txns tokens)
asked_marks txns [] = marks_map (λ code here is. absurd is) (λ code here is. no_call txns [] refl code here is) (no_marks call [])
asked_marks txns (token ∷ others) = by_name (name_of token) refl
  where
    by_name : (i : Option Ident) → name_of token ≡ i → Marks call (token ∷ others) (CallRefused txns (token ∷ others)) (if is_some i then call_mark txns (token ∷ others) else None)
    by_name None e = marks_map (λ code here is. absurd is) (λ code here is. no_call txns (token ∷ others) (ap (λ o. is_some o) e) code here is) (no_marks call (token ∷ others))
    by_name (Some ident) e = call_marks txns token others ident e
