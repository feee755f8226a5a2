-- Single tokens and words: each reading reads just the tokens that the grammar gives.
use Rattle.std.proofs.Common.{◌≡◌, ◌∙◌, ℕ, ℤ, pos, Bool, true, false, not, if◌then◌else◌, List, [], ◌++◌, Option, Some, refl, sym, ap, subst, cond, bytes_eq, codes, append_assoc}
use Rattle.std.proofs.lemmas.Slice.Eq.{bytes_eq-Decides}
use Rattle.sv_value.specs.declared.spots.Spot.{Spot}
use Rattle.sv_lex.specs.declared.tokens.Token.{Token}
use Rattle.sv_lex.specs.declared.tokens.TokenKind.{TokenKind}
use Rattle.sv_lex.specs.declared.tokens.TokenKind.TheVariants.{Name, Number, Text, Mark}
use Rattle.sv_app.specs.declared.apps.Ident.{Ident}
use Rattle.sv_app.specs.Words.{is_reserved}
use Rattle.sv_reader.proofs.MatterLaws.{Matter}
use Rattle.sv_reader.specs.Grammar.{Both, kind, IsName, name, text}
use Rattle.sv_reader.specs.Reading.{Read, is_kind, is_next, given, token_at, ident_of, name_of, name_at, is_name, is_some, int_of, int_at, bytes_of, text_of, by_word}
use Rattle.sv_reader.proofs.KindLaws.{kind_same, token_of}
use Rattle.sv_reader.proofs.MadeLaws.{Made, given_some}
use Rattle.sv_reader.proofs.ReadLaws.{Plain, Means, leaf, same_plain}

-- what begins with a token of a kind
pub kind_next : (k : TokenKind) (Rest : List Token → Type 0) (front rest : List Token) → Both (kind k) Rest front → is_next k (front ++ rest) ≡ true
kind_next k Rest front rest b =
    ap (λ l. is_next k (l ++ rest)) (b.whole ∙ ap (λ l. l ++ b.back) b.first.only) ∙ ap (λ found. is_kind k found) b.first.holds ∙ kind_same k

pub nothing_next : (test : List Token → Bool) (front rest : List Token) → front ≡ [] → test rest ≡ false → test (front ++ rest) ≡ false
nothing_next test front rest e t = ap (λ l. test (l ++ rest)) e ∙ t

pub name_is : (spot : Spot) (k : TokenKind) (ident : Ident) → ident_of spot k ≡ Some ident → (k ≡ Name ident.name) × (is_reserved ident.name ≡ false) × (spot ≡ ident.spot) × (ident.num ≡ 0)
name_is spot (Name bytes) ident e =
    let g = given_some (not (is_reserved bytes)) (record { name = bytes; spot = spot; num = 0 }) ident e in
    let free : is_reserved bytes ≡ false = not_true (is_reserved bytes) g.0 in
    (λ i. Name (g.1 i).name, subst (λ (x : Ident). is_reserved x.name ≡ false) g.1 free, λ i. (g.1 i).spot, λ i. (sym g.1 i).num)
  where
    not_true : (b : Bool) → not b ≡ true → b ≡ false
    not_true true e = absurd cc
    not_true false e = refl
name_is spot (Number n) ident e = absurd cc
name_is spot (Text bytes) ident e = absurd cc
name_is spot (Mark m) ident e = absurd cc

pub is_named : (ident : Ident) (token : Token) → IsName ident token → name_of token ≡ Some ident
is_named ident token is =
    ap (λ k. ident_of token.spot k) is.0 ∙ ap (λ b. given (not b) (record { name = ident.name; spot = token.spot; num = 0 })) is.1
    ∙ (λ i. Some (record { name = ident.name; spot = is.2 i; num = sym is.3 i }))

pub name_law : (matter : Matter) (clash : List Token → Bool) → Plain matter clash name name_at
unfolding is_reserved
name_law matter clash = same_plain (leaf matter clash name_of (token_of (Name (codes "a"))) some refl) into out
  where
    some : Ident
    some = record { name = codes "a"; spot = record { line = 1; col = 1 }; num = 0 }

    into : (ident : Ident) (l : List Token) → Means name_of ident l → name ident l
    into ident l m = record { token = m.token; only = m.only; holds = name_is m.token.spot m.token.kind ident m.holds }

    out : (ident : Ident) (l : List Token) → name ident l → Means name_of ident l
    out ident l n = record { token = n.token; only = n.only; holds = is_named ident n.token n.holds }

pub name_next : (ident : Ident) (Rest : List Token → Type 0) (front rest : List Token) → Both (name ident) Rest front → is_name (front ++ rest) ≡ true
name_next ident Rest front rest b =
    ap (λ l. is_name (l ++ rest)) (b.whole ∙ ap (λ l. l ++ b.back) b.first.only) ∙ ap is_some (is_named ident b.first.token b.first.holds)

int_is : (k : TokenKind) (n : ℤ) → int_of k ≡ Some n → k ≡ Number n
int_is (Number m) n e = let same : m ≡ n = cc in ap Number same
int_is (Name bytes) n e = absurd cc
int_is (Text bytes) n e = absurd cc
int_is (Mark m) n e = absurd cc

pub int_law : (matter : Matter) (clash : List Token → Bool) → Plain matter clash (λ n. kind (Number n)) int_at
int_law matter clash = same_plain (leaf matter clash (λ token. int_of token.kind) (token_of (Number (pos 0))) (pos 0) refl) into out
  where
    into : (n : ℤ) (l : List Token) → Means (λ token. int_of token.kind) n l → kind (Number n) l
    into n l m = record { token = m.token; only = m.only; holds = int_is m.token.kind n m.holds }

    out : (n : ℤ) (l : List Token) → kind (Number n) l → Means (λ token. int_of token.kind) n l
    out n l k = record { token = k.token; only = k.only; holds = ap int_of k.holds }

text_is : (k : TokenKind) (bytes : List ℕ) → bytes_of k ≡ Some bytes → k ≡ Text bytes
text_is (Text other) bytes e = let same : other ≡ bytes = cc in ap Text same
text_is (Name other) bytes e = absurd cc
text_is (Number n) bytes e = absurd cc
text_is (Mark m) bytes e = absurd cc

pub text_law : (matter : Matter) (clash : List Token → Bool) → Plain matter clash text (token_at text_of)
text_law matter clash = same_plain (leaf matter clash text_of (token_of (Text [])) [] refl) into out
  where
    into : (bytes : List ℕ) (l : List Token) → Means text_of bytes l → text bytes l
    into bytes l m = record { token = m.token; only = m.only; holds = text_is m.token.kind bytes m.holds }

    out : (bytes : List ℕ) (l : List Token) → text bytes l → Means text_of bytes l
    out bytes l k = record { token = k.token; only = k.only; holds = ap bytes_of k.holds }

pub chosen : {A : Type 0} (written wanted : List ℕ) (a : A) (others : Option A) (x : A) (P : A → Type 0) → (written ≡ wanted → P a) → (others ≡ Some x → P x)
    → (if bytes_eq written wanted then Some a else others) ≡ Some x → P x
chosen {A} written wanted a others x P here more e = by_test (bytes_eq written wanted) refl e
  where
    by_test : (b : Bool) → bytes_eq written wanted ≡ b → cond b (Some a) others ≡ Some x → P x
    by_test true t e = let same : a ≡ x = cc in subst P same (here ((bytes_eq-Decides written wanted).0 t))
    by_test false t e = more e

pub worded : {A : Type 0} (meaning : List ℕ → Option A) (Written : A → List ℕ → Type 0) → ((bytes : List ℕ) (a : A) → meaning bytes ≡ Some a → Written a bytes)
    → (k : TokenKind) (a : A) → by_word meaning k ≡ Some a → (bytes : List ℕ) × (k ≡ Name bytes) × Written a bytes
worded meaning Written back (Name bytes) a e = (bytes, refl, back bytes a e)
worded meaning Written back (Number n) a e = absurd cc
worded meaning Written back (Text bytes) a e = absurd cc
worded meaning Written back (Mark m) a e = absurd cc

pub word_is : (token : Token) (only : List ℕ) (bytes : List ℕ) → token.kind ≡ Name bytes → bytes ≡ only → token.kind ≡ Name only
word_is token only bytes k e = k ∙ ap Name e

-- a reading whose value is what its last part reads
pub itself : {matter : Matter} {A : Type 0} {clash : List Token → Bool} {P : A → List Token → Type 0} {read : List Token → Read A} → Plain matter clash P read → Plain matter clash (Made (λ a. a) P) read
itself {matter} {A} {clash} {P} law = same_plain law (λ a l is. record { «from» = a; is = is; made = refl }) (λ a l m. subst (λ x. P x l) (sym m.made) m.is)

-- which kind the first token has
pub kind_first : (j k : TokenKind) (Rest : List Token → Type 0) (front rest : List Token) → Both (kind k) Rest front → is_next j (front ++ rest) ≡ is_kind j k
kind_first j k Rest front rest b =
    ap (λ l. is_next j (l ++ rest)) (b.whole ∙ ap (λ l. l ++ b.back) b.first.only) ∙ ap (λ found. is_kind j found) b.first.holds

pub only_first : (j k : TokenKind) (front rest : List Token) → kind k front → is_next j (front ++ rest) ≡ is_kind j k
only_first j k front rest is = ap (λ l. is_next j (l ++ rest)) is.only ∙ ap (λ found. is_kind j found) is.holds

pub both_assoc : {P Q R : List Token → Type 0} {l : List Token} → Both P (Both Q R) l → Both (Both P Q) R l
both_assoc b = record {
  front = b.front ++ b.then.front;
  back = b.then.back;
  whole = b.whole ∙ ap (λ l. b.front ++ l) b.then.whole ∙ sym (append_assoc b.front b.then.front b.then.back);
  first = record { front = b.front; back = b.then.front; whole = refl; first = b.first; then = b.then.first };
  then = b.then.then;
}

pub assoc_both : {P Q R : List Token → Type 0} {l : List Token} → Both (Both P Q) R l → Both P (Both Q R) l
assoc_both b = record {
  front = b.first.front;
  back = b.first.back ++ b.back;
  whole = b.whole ∙ ap (λ l. l ++ b.back) b.first.whole ∙ append_assoc b.first.front b.first.back b.back;
  first = b.first.first;
  then = record { front = b.first.back; back = b.back; whole = refl; first = b.first.then; then = b.then };
}
