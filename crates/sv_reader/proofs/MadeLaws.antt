-- Readings whose value is made of what their parts read.
use Rattle.std.proofs.Common.{◌≡◌, ◌∙◌, Bool, true, false, List, [], ◌++◌, Some, Ok, refl, sym, ap, subst, append-nil}
use Rattle.sv_value.specs.declared.spots.Spot.{Spot}
use Rattle.sv_lex.specs.declared.tokens.Token.{Token}
use Rattle.sv_lex.specs.declared.tokens.TokenKind.{TokenKind}
use Rattle.sv_reader.proofs.MatterLaws.{Matter}
use Rattle.sv_reader.specs.declared.faults.ReadFault.{ReadFault}
use Rattle.sv_reader.specs.Grammar.{Both, ◌·◌, One, nothing, kind}
use Rattle.sv_reader.specs.Reading.{Read, ◌>>=◌, is_kind, given, kind_at}
use Rattle.sv_reader.proofs.AnswerLaws.{anything}
use Rattle.sv_reader.proofs.ReadLaws.{Took, Lawful, Plain, Means, leaf, Is, ret, Then, after, same_languages, Limited, limited, same_limited, after_limited}
use Rattle.sv_reader.proofs.KindLaws.{kind_is, kind_same, token_of}

-- a value that is made of something with a language
pub record Made {A B : Type 0} (f : A → B) (R : A → List Token → Type 0) (item : B) (tokens : List Token) : Type 0 where
  pub «from» : A
  pub is : R «from» tokens
  pub made : item ≡ f «from»

pub given_some : {A : Type 0} (b : Bool) (a x : A) → given b a ≡ Some x → (b ≡ true) × (a ≡ x)
given_some true a x e = (refl, cc)
given_some false a x e = absurd cc

-- a token of a kind, with its place
abbrev pub placed : TokenKind → Spot → List Token → Type 0
placed wanted spot = One (λ token. (token.kind ≡ wanted) × (token.spot ≡ spot))

pub kind_law : (matter : Matter) (clash : List Token → Bool) (k : TokenKind) → Plain matter clash (placed k) (kind_at k)
kind_law matter clash k = same_languages (leaf matter clash (λ token. given (is_kind k token.kind) token.spot) (token_of k) (token_of k).spot (ap (λ b. given b (token_of k).spot) (kind_same k)))
    into out into out (λ tokens fault is. is)
  where
    into : (spot : Spot) (l : List Token) → Means (λ token. given (is_kind k token.kind) token.spot) spot l → placed k spot l
    into spot l m = let g = given_some (is_kind k m.token.kind) m.token.spot spot m.holds in
        record { token = m.token; only = m.only; holds = (kind_is k m.token.kind g.0, g.1) }

    out : (spot : Spot) (l : List Token) → placed k spot l → Means (λ token. given (is_kind k token.kind) token.spot) spot l
    out spot l p = record {
      token = p.token;
      only = p.only;
      holds = ap (λ wanted. given (is_kind k wanted) p.token.spot) p.holds.0 ∙ ap (λ b. given b p.token.spot) (kind_same k) ∙ ap Some p.holds.1;
    }

kind_some : (k : TokenKind) (spot : Spot) (l : List Token) → placed k spot l → kind k l
kind_some k spot l p = record { token = p.token; only = p.only; holds = p.holds.0 }

kind_placed : (k : TokenKind) (l : List Token) (w : kind k l) → placed k w.token.spot l
kind_placed k l w = record { token = w.token; only = w.only; holds = (w.holds, refl) }

pub both_map : {P Q R S : List Token → Type 0} {l : List Token} → ((front : List Token) → P front → R front) → ((back : List Token) → Q back → S back) → Both P Q l → Both R S l
both_map first second b = record { front = b.front; back = b.back; whole = b.whole; first = first b.front b.first; then = second b.back b.then }

-- nothing stands behind the last part
last_part : {A B : Type 0} {P : A → List Token → Type 0} (f : A → B) (b : B) (l : List Token) (t : Then P (λ a. Is (f a)) b l) → P t.head l
last_part {A} {B} {P} f b l t =
    subst (λ x. P t.head x) (sym (t.parts.whole ∙ ap (λ x. t.parts.front ++ x) t.parts.then.empty ∙ append-nil t.parts.front)) t.parts.first

part_last : {A B : Type 0} {P : A → List Token → Type 0} (f : A → B) (b : B) (l : List Token) → Made f P b l → Then P (λ a. Is (f a)) b l
part_last f b l m = record { head = m.«from»; parts = record { front = l; back = []; whole = sym (append-nil l); first = m.is; then = record { empty = refl; is = m.made } } }

last_made : {A B : Type 0} (P : A → List Token → Type 0) (f : A → B) (b : B) (l : List Token) → Then P (λ a. Is (f a)) b l → Made f P b l
last_made P f b l t = record { «from» = t.head; is = last_part f b l t; made = t.parts.then.is }

-- a value made of two parts, and of one behind a token

two_made : {A T B : Type 0} (f : A → T → B) (P : A → List Token → Type 0) (R : A → T → List Token → Type 0) (b : B) (l : List Token) → Then P (λ a. Made (f a) (R a)) b l → Made (λ (x : A × T). f x.0 x.1) (λ x. P x.0 · R x.0 x.1) b l
two_made f P R b l t = record {
  «from» = (t.head, t.parts.then.«from»);
  is = record { front = t.parts.front; back = t.parts.back; whole = t.parts.whole; first = t.parts.first; then = t.parts.then.is };
  made = t.parts.then.made;
}

made_two : {A T B : Type 0} (f : A → T → B) (P : A → List Token → Type 0) (R : A → T → List Token → Type 0) (b : B) (l : List Token) → Made (λ (x : A × T). f x.0 x.1) (λ x. P x.0 · R x.0 x.1) b l → Then P (λ a. Made (f a) (R a)) b l
made_two f P R b l m = record {
  head = m.«from».0;
  parts = record { front = m.is.front; back = m.is.back; whole = m.is.whole; first = m.is.first; then = record { «from» = m.«from».1; is = m.is.then; made = m.made } };
}

token_made : {T B : Type 0} (k : TokenKind) (f : T → B) (R : T → List Token → Type 0) (b : B) (l : List Token) → Then (placed k) (λ _. Made f R) b l → Made f (λ t. kind k · R t) b l
token_made k f R b l t = record {
  «from» = t.parts.then.«from»;
  is = record { front = t.parts.front; back = t.parts.back; whole = t.parts.whole; first = kind_some k t.head t.parts.front t.parts.first; then = t.parts.then.is };
  made = t.parts.then.made;
}

made_token : {T B : Type 0} (k : TokenKind) (f : T → B) (R : T → List Token → Type 0) (b : B) (l : List Token) → Made f (λ t. kind k · R t) b l → Then (placed k) (λ _. Made f R) b l
made_token k f R b l m = record {
  head = m.is.first.token.spot;
  parts = record { front = m.is.front; back = m.is.back; whole = m.is.whole; first = kind_placed k m.is.front m.is.first; then = record { «from» = m.«from»; is = m.is.then; made = m.made } };
}

-- the last part, of which the value is made
pub take_last : {matter : Matter} {A B : Type 0} {clash : List Token → Bool} {P PS : A → List Token → Type 0} {Bad : List Token → ReadFault → Type 0} {p : List Token → Read A} (f : A → B)
    → Lawful matter clash P PS Bad p → Lawful matter clash (Made f P) (Made f PS) Bad (λ tokens. p tokens >>= λ a r. Ok (f a, r))
take_last {matter} {A} {B} {clash} {P} {PS} {Bad} {p} f law = same_languages
    (after law (λ a. ret matter clash (f a)) (λ a b tokens rest is ends. subst (λ l. clash (l ++ rest) ≡ false) (sym is.empty) ends) (λ tokens fault is. is) (λ tokens a rest fault took is. absurd is))
    (last_made P f) (part_last f) (last_made PS f) (part_last f) (λ tokens fault is. is)

-- a part, and behind it others
pub take : {matter : Matter} {A T B : Type 0} {before clash : List Token → Bool} {P PS : A → List Token → Type 0} {R RS : A → T → List Token → Type 0} {PBad Bad : List Token → ReadFault → Type 0} {QBad : A → List Token → ReadFault → Type 0}
    {p : List Token → Read A} {q : A → List Token → Read B} (f : A → T → B)
    → Lawful matter before P PS PBad p → ((a : A) → Lawful matter clash (Made (f a) (R a)) (Made (f a) (RS a)) (QBad a) (q a))
    → ((a : A) (t : T) (tokens rest : List Token) → R a t tokens → clash rest ≡ false → before (tokens ++ rest) ≡ false)
    → ((tokens : List Token) (fault : ReadFault) → PBad tokens fault → Bad tokens fault)
    → ((tokens : List Token) (a : A) (rest : List Token) (fault : ReadFault) → Took PS p tokens a rest → QBad a rest fault → Bad tokens fault)
    → Lawful matter clash (Made (λ (x : A × T). f x.0 x.1) (λ x. P x.0 · R x.0 x.1)) (Made (λ (x : A × T). f x.0 x.1) (λ x. PS x.0 · RS x.0 x.1)) Bad (λ tokens. p tokens >>= q)
take {matter} {A} {T} {B} {before} {clash} {P} {PS} {R} {RS} {PBad} {Bad} {QBad} {p} {q} f first second clear bad worse = same_languages
    (after first second (λ a b tokens rest is ends. clear a is.«from» tokens rest is.is ends) bad worse)
    (two_made f P R) (made_two f P R) (two_made f PS RS) (made_two f PS RS) (λ tokens fault is. is)

-- where the first part may be followed by anything, and nothing passes a limit
pub take_plain : {matter : Matter} {A T B : Type 0} {clash : List Token → Bool} {P : A → List Token → Type 0} {R : A → T → List Token → Type 0} {p : List Token → Read A} {q : A → List Token → Read B} (f : A → T → B)
    → Plain matter anything P p → ((a : A) → Plain matter clash (Made (f a) (R a)) (q a)) → Plain matter clash (Made (λ (x : A × T). f x.0 x.1) (λ x. P x.0 · R x.0 x.1)) (λ tokens. p tokens >>= q)
take_plain {matter} f first second = take f first second (λ a t tokens rest is ends. refl) (λ tokens fault is. is) (λ tokens a rest fault took is. is)

-- a token of which only the kind counts, and behind it others
pub skip : {matter : Matter} {T B : Type 0} {clash : List Token → Bool} {R RS : T → List Token → Type 0} {QBad Bad : List Token → ReadFault → Type 0} {q : List Token → Read B} (k : TokenKind) (f : T → B)
    → Lawful matter clash (Made f R) (Made f RS) QBad q
    → ((tokens : List Token) (spot : Spot) (rest : List Token) (fault : ReadFault) → Took (placed k) (kind_at k) tokens spot rest → QBad rest fault → Bad tokens fault)
    → Lawful matter clash (Made f (λ t. kind k · R t)) (Made f (λ t. kind k · RS t)) Bad (λ tokens. kind_at k tokens >>= λ _ r. q r)
skip {matter} {T} {B} {clash} {R} {RS} {QBad} {Bad} {q} k f law worse = same_languages
    (after (kind_law matter anything k) (λ _. law) (λ a b tokens rest is ends. refl) (λ tokens fault is. absurd is) worse)
    (token_made k f R) (made_token k f R) (token_made k f RS) (made_token k f RS) (λ tokens fault is. is)

pub skip_plain : {matter : Matter} {T B : Type 0} {clash : List Token → Bool} {R : T → List Token → Type 0} {q : List Token → Read B} (k : TokenKind) (f : T → B)
    → Plain matter clash (Made f R) q → Plain matter clash (Made f (λ t. kind k · R t)) (λ tokens. kind_at k tokens >>= λ _ r. q r)
skip_plain {matter} k f law = skip k f law (λ tokens spot rest fault took is. is)

-- the last token, behind which the value is complete
pub skip_last : (matter : Matter) {B : Type 0} (clash : List Token → Bool) (k : TokenKind) (b : B) → Plain matter clash (Made (λ (_ : Unit {0}). b) (λ _. kind k)) (λ tokens. kind_at k tokens >>= λ _ r. Ok (b, r))
skip_last matter {B} clash k b = same_languages (take_last (λ _. b) (kind_law matter clash k)) into out into out (λ tokens fault is. is)
  where
    into : (x : B) (l : List Token) → Made (λ _. b) (placed k) x l → Made (λ (_ : Unit {0}). b) (λ _. kind k) x l
    into x l m = record { «from» = tt; is = kind_some k m.«from» l m.is; made = m.made }

    out : (x : B) (l : List Token) → Made (λ (_ : Unit {0}). b) (λ _. kind k) x l → Made (λ _. b) (placed k) x l
    out x l m = record { «from» = m.is.token.spot; is = kind_placed k l m.is; made = m.made }

-- nothing more, where the value is complete
pub ended : (matter : Matter) {B : Type 0} (clash : List Token → Bool) (b : B) → Plain matter clash (Made (λ (_ : Unit {0}). b) (λ _. nothing)) (λ tokens. Ok (b, tokens))
ended matter {B} clash b = same_languages (ret matter clash b) into out into out (λ tokens fault is. is)
  where
    into : (x : B) (l : List Token) → Is b x l → Made (λ (_ : Unit {0}). b) (λ _. nothing) x l
    into x l is = record { «from» = tt; is = is.empty; made = is.is }

    out : (x : B) (l : List Token) → Made (λ (_ : Unit {0}). b) (λ _. nothing) x l → Is b x l
    out x l m = record { empty = m.is; is = m.made }

-- the same where a part may pass a limit

pub take_last_limited : {matter : Matter} {A B : Type 0} {clash : List Token → Bool} {P PS : A → List Token → Type 0} {p : List Token → Read A} (f : A → B)
    → Limited matter clash P PS p → Limited matter clash (Made f P) (Made f PS) (λ tokens. p tokens >>= λ a r. Ok (f a, r))
take_last_limited {matter} {A} {B} {clash} {P} {PS} {p} f law = same_limited
    (after_limited law (λ a. limited (ret matter clash (f a))) (λ a b tokens rest is ends. subst (λ l. clash (l ++ rest) ≡ false) (sym is.empty) ends))
    (last_made P f) (part_last f) (last_made PS f) (part_last f)

pub take_limited : {matter : Matter} {A T B : Type 0} {before clash : List Token → Bool} {P PS : A → List Token → Type 0} {R RS : A → T → List Token → Type 0} {p : List Token → Read A} {q : A → List Token → Read B} (f : A → T → B)
    → Limited matter before P PS p → ((a : A) → Limited matter clash (Made (f a) (R a)) (Made (f a) (RS a)) (q a))
    → ((a : A) (t : T) (tokens rest : List Token) → R a t tokens → clash rest ≡ false → before (tokens ++ rest) ≡ false)
    → Limited matter clash (Made (λ (x : A × T). f x.0 x.1) (λ x. P x.0 · R x.0 x.1)) (Made (λ (x : A × T). f x.0 x.1) (λ x. PS x.0 · RS x.0 x.1)) (λ tokens. p tokens >>= q)
take_limited {matter} {A} {T} {B} {before} {clash} {P} {PS} {R} {RS} {p} {q} f first second clear = same_limited
    (after_limited first second (λ a b tokens rest is ends. clear a is.«from» tokens rest is.is ends))
    (two_made f P R) (made_two f P R) (two_made f PS RS) (made_two f PS RS)

pub skip_limited : {matter : Matter} {T B : Type 0} {clash : List Token → Bool} {R RS : T → List Token → Type 0} {q : List Token → Read B} (k : TokenKind) (f : T → B)
    → Limited matter clash (Made f R) (Made f RS) q → Limited matter clash (Made f (λ t. kind k · R t)) (Made f (λ t. kind k · RS t)) (λ tokens. kind_at k tokens >>= λ _ r. q r)
skip_limited {matter} {T} {B} {clash} {R} {RS} {q} k f law = same_limited
    (after_limited (limited (kind_law matter anything k)) (λ _. law) (λ a b tokens rest is ends. refl))
    (token_made k f R) (made_token k f R) (token_made k f RS) (made_token k f RS)
