-- Arguments and calls: each reading reads just the tokens that the grammar gives.
use Rattle.std.proofs.Common.{◌≡◌, ◌∙◌, ℤ, false, List, ◌++◌, refl, sym, ap, subst}
use Rattle.sv_value.specs.declared.values.Val.{Val}
use Rattle.sv_value.specs.declared.values.Val.TheVariants as vals
use Rattle.sv_lex.specs.declared.marks.Mark.{Mark as IsMark}
use Rattle.sv_lex.specs.declared.marks.Mark.TheVariants.{LeftParen, RightParen, LeftBracket, RightBracket, Minus}
use Rattle.sv_lex.specs.declared.tokens.Token.{Token}
use Rattle.sv_lex.specs.declared.tokens.TokenKind.TheVariants.{Mark}
use Rattle.sv_app.specs.declared.apps.Ident.{Ident}
use Rattle.sv_app.specs.declared.requests.Arg.{Arg}
use Rattle.sv_app.specs.declared.requests.Arg.TheVariants as args
use Rattle.sv_reader.specs.Grammar.{◌·◌, mark}
use Rattle.sv_reader.specs.Reading.{is_kind, is_next}
use Rattle.sv_reader.proofs.MadeLaws.{Made, take_last, take_plain, skip_plain}
use Rattle.sv_reader.proofs.AnswerLaws.{next_alike}
use Rattle.sv_reader.proofs.PartLaws.{kind_next, name_law}
use Rattle.sv_reader.proofs.AnswerLaws.{anything}
use Rattle.sv_reader.proofs.ReadLaws.{Plain, Either, Left, Right, either, same_plain}
use Rattle.sv_workload.specs.declared.written.Call.{Call}
use Rattle.sv_workload.specs.Grammar.{listed, IsInteger, Plain as PlainInteger, Negated, value, argument, call}
use Rattle.sv_workload.specs.Reading.{listed_to, integers_at, arg_of, argument_at, call_at}
use Rattle.sv_workload.proofs.ManyLaws.{listed_law}
use Rattle.sv_workload.proofs.ValueLaws.{integer_law, value_law}
use Rattle.sv_reader.proofs.MatterLaws.{bare}

-- no integer, value or argument begins with another mark

pub integer_mark : (m : IsMark) → is_kind (Mark m) (Mark Minus) ≡ false → (z : ℤ) (front rest : List Token) → IsInteger z front → is_next (Mark m) (front ++ rest) ≡ false
integer_mark m apart _ _ rest (PlainInteger n l is) = ap (λ x. is_next (Mark m) (x ++ rest)) is.only ∙ ap (is_kind (Mark m)) is.holds
integer_mark m apart _ _ rest (Negated n l is) = ap (λ x. is_next (Mark m) (x ++ rest)) (is.whole ∙ ap (λ x. x ++ is.back) is.first.only) ∙ ap (is_kind (Mark m)) is.first.holds ∙ apart

value_mark : (m : IsMark) → is_kind (Mark m) (Mark Minus) ≡ false → (v : Val) (front rest : List Token) → value v front → is_next (Mark m) (front ++ rest) ≡ false
value_mark m apart (vals.Int z) front rest is = integer_mark m apart z front rest is
value_mark m apart (vals.Text t) front rest is = ap (λ x. is_next (Mark m) (x ++ rest)) is.only ∙ ap (is_kind (Mark m)) is.holds

pub integers_law : Plain bare anything (λ ns. listed IsInteger ns · mark RightBracket) integers_at
unfolding integers_at
integers_law = listed_law (Mark RightBracket) integer_law refl (integer_mark RightBracket refl)

abbrev IntsArg : Arg → List Token → Type 0
IntsArg = Made (λ ns. args.Ints ns) (λ ns. mark LeftBracket · listed IsInteger ns · mark RightBracket)

abbrev ValueArg : Arg → List Token → Type 0
ValueArg = Made arg_of value

pub argument_law : Plain bare anything argument argument_at
unfolding argument_at
argument_law = same_plain
    (either (is_next (Mark LeftBracket)) (next_alike (λ token. is_kind (Mark LeftBracket) token.kind))
    (skip_plain (Mark LeftBracket) (λ ns. args.Ints ns) (take_last (λ ns. args.Ints ns) integers_law)) (take_last arg_of value_law)
    (λ a front rest m. kind_next (Mark LeftBracket) (λ l. (listed IsInteger m.«from» · mark RightBracket) l) front rest m.is) (λ a front rest m ends. value_mark LeftBracket refl m.«from» front rest m.is)
    (λ tokens fault t is. is) (λ tokens fault t is. is))
    into out
  where
    by_value : (v : Val) (l : List Token) → value v l → argument (arg_of v) l
    by_value (vals.Int z) l is = is
    by_value (vals.Text t) l is = is

    into : (a : Arg) (l : List Token) → Either IntsArg ValueArg a l → argument a l
    into a l (Left m) = subst (λ x. argument x l) (sym m.made) m.is
    into a l (Right m) = subst (λ x. argument x l) (sym m.made) (by_value m.«from» l m.is)

    out : (a : Arg) (l : List Token) → argument a l → Either IntsArg ValueArg a l
    out (args.Int z) l is = Right (record { «from» = vals.Int z; is = is; made = refl })
    out (args.Text t) l is = Right (record { «from» = vals.Text t; is = is; made = refl })
    out (args.Ints ns) l is = Left (record { «from» = ns; is = is; made = refl })

pub argument_mark : (a : Arg) (front rest : List Token) → argument a front → is_next (Mark RightParen) (front ++ rest) ≡ false
argument_mark (args.Int z) front rest is = integer_mark RightParen refl z front rest is
argument_mark (args.Text t) front rest is = ap (λ x. is_next (Mark RightParen) (x ++ rest)) is.only ∙ ap (is_kind (Mark RightParen)) is.holds
argument_mark (args.Ints ns) front rest is = ap (λ x. is_next (Mark RightParen) (x ++ rest)) (is.whole ∙ ap (λ x. x ++ is.back) is.first.only) ∙ ap (is_kind (Mark RightParen)) is.first.holds

pub arguments_law : Plain bare anything (λ arguments. listed argument arguments · mark RightParen) (listed_to (Mark RightParen) argument_at)
arguments_law = listed_law (Mark RightParen) argument_law refl argument_mark

abbrev call_made : Ident → List Arg → Call
call_made txn arguments = record { txn = txn; args = arguments }

pub call_law : Plain bare anything call call_at
unfolding call_at
call_law = same_plain (take_plain call_made (name_law bare anything) (λ txn. skip_plain (Mark LeftParen) (call_made txn) (take_last (call_made txn) arguments_law)))
    (λ c l m. subst (λ x. call x l) (sym m.made) m.is) (λ c l is. record { «from» = (c.txn, c.args); is = is; made = refl })
