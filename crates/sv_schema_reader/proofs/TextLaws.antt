-- Lists of texts.
use Rattle.std.proofs.Common.{◌≡◌, ◌∙◌, ℕ, ◌+◌, ◌<◌, ◌≤◌, Bool, true, false, ◌&&◌, nat_le, List, [], ◌∷◌, ◌++◌, length, refl, sym, ap, subst, arith, codes}
use Rattle.std.proofs.lemmas.List.{length-append}
use Rattle.std.proofs.lemmas.Bool.Decides.{nat_tests}
use Rattle.sv_lex.specs.declared.marks.Mark.TheVariants.{LeftParen, RightParen, Comma}
use Rattle.sv_lex.specs.declared.tokens.Token.{Token}
use Rattle.sv_lex.specs.declared.tokens.TokenKind.{TokenKind}
use Rattle.sv_lex.specs.declared.tokens.TokenKind.TheVariants.{Name, Number, Text, Mark}
use Rattle.sv_app.specs.declared.apps.Ident.{Ident}
use Rattle.sv_app.specs.Schema.{OneOf}
use Rattle.sv_reader.specs.Grammar.{◌·◌, word, mark, text}
use Rattle.sv_reader.specs.Reading.{token_at, text_of, bytes_of, is_some, is_text, list_at}
use Rattle.sv_schema_reader.specs.Reading.{text_step, texts_at}
use Rattle.sv_schema_reader.specs.Refused.{IsFirst}
use Rattle.sv_reader.proofs.ListLaws.{Rooms, Listed, Any, list, list_limited, snoc, all_snoc, any_rooms}
use Rattle.sv_reader.proofs.MadeLaws.{Made, take_limited, skip_limited, skip_last}
use Rattle.sv_reader.proofs.AnswerLaws.{next_alike, anything}
use Rattle.sv_reader.proofs.PartLaws.{text_law}
use Rattle.sv_reader.proofs.ReadLaws.{Start, Limited, limited, same_limited}
use Rattle.sv_reader.proofs.StepLaws.{Stepping, one_step}
use Rattle.sv_schema_reader.proofs.MatterLaws.{schemas}

abbrev pub more_texts : List (List ℕ) → List Token → Bool
more_texts texts tokens = is_text tokens && nat_le 16 (length texts)

abbrev pub TextRoom : List (List ℕ) → List ℕ → Type 0
TextRoom texts bytes = length texts < 16

text_next : (bytes : List ℕ) (front rest : List Token) → text bytes front → is_text (front ++ rest) ≡ true
text_next bytes front rest is = ap (λ l. is_text (l ++ rest)) is.only ∙ ap (λ k. is_some (bytes_of k)) is.holds

roomy : (a : Bool) (n : ℕ) → a ≡ true → a && nat_le 16 n ≡ false → n < 16
roomy true n t e = grind (arith, nat_tests, e)
roomy false n t e = absurd cc

room : (a : Bool) (n : ℕ) → n < 16 → a && nat_le 16 n ≡ false
room true n lt = grind (arith, nat_tests, lt)
room false n lt = refl

and_first : (a b : Bool) → a && b ≡ true → a ≡ true
and_first true b e = refl
and_first false b e = absurd cc

passing_text : (token : Token) (k : TokenKind) → token.kind ≡ k → is_some (bytes_of k) ≡ true → IsFirst token.kind × Start text (token ∷ [])
passing_text token (Text bytes) e t = (subst (λ k. IsFirst k) (sym e) tt, record { more = []; item = bytes; is = record { token = token; only = refl; holds = e } })
passing_text token (Name bytes) e t = absurd cc
passing_text token (Number n) e t = absurd cc
passing_text token (Mark m) e t = absurd cc

no_comma : (bytes : List ℕ) (token : Token) (l : List Token) → text bytes (token ∷ l) → token.kind ≡ Mark Comma → ⊥
no_comma bytes token l is e =
    let first : token ≡ is.token = cons_first is.only in
    let bad : Text bytes ≡ Mark Comma = sym is.holds ∙ ap (λ (t : Token). t.kind) (sym first) ∙ e in
    absurd cc
  where
    cons_first : {x y : Token} {xs ys : List Token} → x ∷ xs ≡ y ∷ ys → x ≡ y
    cons_first e = cc

pub text_stepping : Stepping schemas anything more_texts (λ _. token_at text_of) (λ _. text) (λ _. text) TextRoom
text_stepping = record {
  alike = λ texts a b alike. ap (λ t. t && nat_le 16 (length texts)) (next_alike (λ token. is_some (text_of token)) a b alike);
  law = λ _. limited (text_law schemas anything);
  some = λ _ bytes l is e. let bad : is.token ∷ [] ≡ [] = sym is.only ∙ e in absurd cc;
  fits = λ texts bytes front rest is e. roomy (is_text (front ++ rest)) (length texts) (text_next bytes front rest is) e;
  roomy = λ texts bytes front rest is lt. room (is_text (front ++ rest)) (length texts) lt;
  ends = λ _. refl;
  passing = λ texts token l e. passing_text token token.kind refl (and_first (is_some (text_of token)) (nat_le 16 (length texts)) e);
  no_comma = λ _ bytes token l is e. no_comma bytes token l is e;
}

text_rooms : (xs ys : List (List ℕ)) → Rooms snoc TextRoom xs ys → length xs ≤ 16 → length xs + length ys ≤ 16
text_rooms xs [] rooms le = omega (arith, le)
text_rooms xs (y ∷ ys) rooms le = let more = text_rooms (xs ++ y ∷ []) ys rooms.1 (omega (arith, rooms.0, length-append xs (y ∷ []))) in omega (arith, more, length-append xs (y ∷ []))

rooms_text : (xs ys : List (List ℕ)) → length xs + length ys ≤ 16 → Rooms snoc TextRoom xs ys
rooms_text xs [] le = tt
rooms_text xs (y ∷ ys) le = (omega (arith, le), rooms_text (xs ++ y ∷ []) ys (omega (arith, le, length-append xs (y ∷ []))))

pub step_is : (texts : List (List ℕ)) (tokens : List Token) → text_step texts tokens ≡ one_step text_stepping snoc texts tokens
unfolding text_step
step_is texts tokens = refl

abbrev few_texts : List (List ℕ) → List Token → Type 0
few_texts texts l = list text texts l × (length texts ≤ 16)

pub text_list_law : Limited schemas anything (list text) few_texts (list_at text_step [])
unfolding text_step
text_list_law = same_limited (list_limited text_stepping snoc (λ token l e. refl) (λ token l e. refl) [] (λ l. none l) (λ x. omega arith)) into out small_into small_out
  where
    none : (l : List Token) → is_text l && nat_le 16 0 ≡ false
    none l = room (is_text l) 0 (omega arith)

    into : (texts : List (List ℕ)) (l : List Token) → Listed snoc Any (list text) [] texts l → list text texts l
    into texts l listed = subst (λ x. list text x l) (sym (listed.made ∙ all_snoc [] listed.items)) listed.is

    out : (texts : List (List ℕ)) (l : List Token) → list text texts l → Listed snoc Any (list text) [] texts l
    out texts l is = record { items = texts; made = sym (all_snoc [] texts); is = is; rooms = any_rooms snoc [] texts }

    small_into : (texts : List (List ℕ)) (l : List Token) → Listed snoc TextRoom (list text) [] texts l → few_texts texts l
    small_into texts l listed = subst (λ x. few_texts x l) (sym (listed.made ∙ all_snoc [] listed.items))
        (listed.is, let le = text_rooms [] listed.items listed.rooms (omega arith) in omega (arith, le))

    small_out : (texts : List (List ℕ)) (l : List Token) → few_texts texts l → Listed snoc TextRoom (list text) [] texts l
    small_out texts l is = record { items = texts; made = sym (all_snoc [] texts); is = is.0; rooms = rooms_text [] texts (omega (arith, is.1)) }

-- what stands behind the column of a list

abbrev pub text_rule : List (List ℕ) → List Token → Type 0
text_rule texts = word (codes "in") · mark LeftParen · list text texts · mark RightParen

abbrev pub few_text_rule : List (List ℕ) → List Token → Type 0
few_text_rule texts l = text_rule texts l × (length texts ≤ 16)

pub texts_law : (col : Ident) → Limited schemas anything (Made (OneOf col) text_rule) (Made (OneOf col) few_text_rule) (texts_at col)
unfolding texts_at
texts_law col = same_limited
    (skip_limited (Name (codes "in")) (λ (x : List (List ℕ) × Unit {0}). OneOf col x.0) (skip_limited (Mark LeftParen) (λ (x : List (List ℕ) × Unit {0}). OneOf col x.0)
    (take_limited (λ texts (_ : Unit {0}). OneOf col texts) text_list_law (λ texts. limited (skip_last schemas anything (Mark RightParen) (OneOf col texts))) (λ a t tokens rest is ends. refl))))
    (λ r l m. record { «from» = m.«from».0; is = m.is; made = m.made }) (λ r l m. record { «from» = (m.«from», tt); is = m.is; made = m.made })
    (λ r l m. record {
      «from» = m.«from».0;
      is = (
        record {
          front = m.is.front;
          back = m.is.back;
          whole = m.is.whole;
          first = m.is.first;
          then = record {
            front = m.is.then.front;
            back = m.is.then.back;
            whole = m.is.then.whole;
            first = m.is.then.first;
            then = record { front = m.is.then.then.front; back = m.is.then.then.back; whole = m.is.then.then.whole; first = m.is.then.then.first.0; then = m.is.then.then.then };
          };
        },
        m.is.then.then.first.1,
      );
      made = m.made;
    })
    (λ r l m. record {
      «from» = (m.«from», tt);
      is = record {
        front = m.is.0.front;
        back = m.is.0.back;
        whole = m.is.0.whole;
        first = m.is.0.first;
        then = record {
          front = m.is.0.then.front;
          back = m.is.0.then.back;
          whole = m.is.0.then.whole;
          first = m.is.0.then.first;
          then = record { front = m.is.0.then.then.front; back = m.is.0.then.then.back; whole = m.is.0.then.then.whole; first = (m.is.0.then.then.first, m.is.1); then = m.is.0.then.then.then };
        };
      };
      made = m.made;
    })
