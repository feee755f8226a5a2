-- Items of a table.
use Rattle.std.proofs.Common.{◌≡◌, ◌∙◌, ℕ, ◌⊎◌, inl, inr, Bool, true, false, not, ◌||◌, if◌then◌else◌, List, ◌∷◌, ◌++◌, Option, Ok, refl, sym, ap, subst, codes}
use Rattle.sv_value.specs.declared.spots.Spot.{Spot}
use Rattle.sv_lex.specs.declared.marks.Mark.TheVariants.{LeftParen, RightParen, At}
use Rattle.sv_lex.specs.declared.tokens.Token.{Token}
use Rattle.sv_lex.specs.declared.tokens.TokenKind.{TokenKind}
use Rattle.sv_lex.specs.declared.tokens.TokenKind.TheVariants.{Name, Mark}
use Rattle.sv_app.specs.declared.apps.Ident.{Ident}
use Rattle.sv_app.specs.Schema.{Bound, OneOf, Different, Refers}
use Rattle.sv_app.specs.Words.{is_reserved}
use Rattle.sv_reader.specs.Grammar.{◌·◌, word, word_at, mark, IsName, name}
use Rattle.sv_schema_reader.specs.Grammar.{column, invariant, Item, Field, Key, Demand, item}
use Rattle.sv_schema_reader.specs.Limits.{IsSmallRule, IsSmallItem}
use Rattle.sv_reader.specs.Reading.{Read, ◌>>=◌, given, is_kind, is_next, is_name, is_some, name_of, ident_of}
use Rattle.sv_schema_reader.specs.Reading.{column_at, key_at, Demanded, unique_at, foreign_at, demanded_at, demands}
use Rattle.sv_schema_reader.proofs.BodyLaws.{check_body}
use Rattle.sv_schema_reader.proofs.CheckedLaws.{check_words, small_check, check_law}
use Rattle.sv_reader.proofs.MadeLaws.{Made, placed, kind_law, take_plain, take_last_limited, skip_plain, skip_last}
use Rattle.sv_reader.proofs.AnswerLaws.{next_alike, Alike, anything}
use Rattle.sv_reader.proofs.PartLaws.{is_named, name_law, kind_next}
use Rattle.sv_schema_reader.proofs.PartLaws.{column_law}
use Rattle.sv_reader.proofs.ReadLaws.{Plain, Limited, Either, Left, Right, limited, same_limited, either_limited, any_clash}
use Rattle.sv_schema_reader.proofs.SideLaws.{key_written, key_law}
use Rattle.sv_schema_reader.proofs.MatterLaws.{schemas}

-- invariants by their first words

abbrev unique_words : Demanded → List Token → Type 0
unique_words d = Made (λ (x : Spot × (Ident × Unit {0})). let e : Demanded = (x.0, Different x.1.0) in e) (λ x. placed (Name (codes "unique")) x.0 · mark LeftParen · name x.1.0 · mark RightParen) d

unique_law : Plain schemas anything unique_words unique_at
unfolding unique_at
unique_law = take_plain (λ spot (x : Ident × Unit {0}). let e : Demanded = (spot, Different x.0) in e) (kind_law schemas anything (Name (codes "unique")))
    (λ spot. skip_plain (Mark LeftParen) (λ (x : Ident × Unit {0}). let e : Demanded = (spot, Different x.0) in e)
    (take_plain (λ col (_ : Unit {0}). let e : Demanded = (spot, Different col) in e) (name_law schemas anything) (λ col. skip_last schemas {B = Demanded} anything (Mark RightParen) (spot, Different col))))

abbrev Foreign : Type 0
Foreign = Spot × (Ident × (Ident × (Ident × Unit {0})))

abbrev foreign_of : Foreign → Demanded
foreign_of x = (x.0, Refers x.1.0 x.1.1.0 x.1.1.1.0)

abbrev foreign_words : Demanded → List Token → Type 0
foreign_words = Made foreign_of (λ x. placed (Name (codes "foreign")) x.0 · word (codes "key") · mark LeftParen · name x.1.0 · mark RightParen
    · word (codes "references") · name x.1.1.0 · mark LeftParen · name x.1.1.1.0 · mark RightParen)

foreign_law : Plain schemas anything foreign_words foreign_at
unfolding foreign_at
foreign_law = take_plain (λ spot (x : Ident × (Ident × (Ident × Unit {0}))). foreign_of (spot, x)) (kind_law schemas anything (Name (codes "foreign")))
    (λ spot. skip_plain (Name (codes "key")) (λ (x : Ident × (Ident × (Ident × Unit {0}))). foreign_of (spot, x)) (skip_plain (Mark LeftParen) (λ (x : Ident × (Ident × (Ident × Unit {0}))). foreign_of (spot, x))
    (take_plain (λ col (x : Ident × (Ident × Unit {0})). foreign_of (spot, (col, x))) (name_law schemas anything)
    (λ col. skip_plain (Mark RightParen) (λ (x : Ident × (Ident × Unit {0})). foreign_of (spot, (col, x))) (skip_plain (Name (codes "references")) (λ (x : Ident × (Ident × Unit {0})). foreign_of (spot, (col, x)))
    (take_plain (λ table (x : Ident × Unit {0}). foreign_of (spot, (col, (table, x)))) (name_law schemas anything)
    (λ table. skip_plain (Mark LeftParen) (λ (x : Ident × Unit {0}). foreign_of (spot, (col, (table, x))))
    (take_plain (λ target (_ : Unit {0}). foreign_of (spot, (col, (table, (target, tt))))) (name_law schemas anything) (λ target. skip_last schemas {B = Demanded} anything (Mark RightParen) (spot, Refers col table target))))))))))

-- which word comes first

first_word : (j : TokenKind) (bytes : List ℕ) (spot : Spot) (R : List Token → Type 0) (front rest : List Token) → (placed (Name bytes) spot · R) front → is_next j (front ++ rest) ≡ is_kind j (Name bytes)
first_word j bytes spot R front rest b = ap (λ l. is_next j (l ++ rest)) (b.whole ∙ ap (λ l. l ++ b.back) b.first.only) ∙ ap (λ found. is_kind j found) b.first.holds.0

pub next_kind : (k : TokenKind) (a b : List Token) → Alike a b → is_next k a ≡ is_next k b
next_kind k a b alike = next_alike (λ token. is_kind k token.kind) a b alike

abbrev rest_words : Demanded → List Token → Type 0
rest_words = Either check_words foreign_words

abbrev all_words : Demanded → List Token → Type 0
all_words = Either unique_words rest_words

abbrev small_words : Demanded → List Token → Type 0
small_words = Either unique_words (Either small_check foreign_words)

words_law : Limited schemas anything all_words small_words demanded_at
unfolding demanded_at
words_law = either_limited (is_next (Name (codes "unique"))) (next_kind (Name (codes "unique"))) (limited unique_law)
    (either_limited (is_next (Name (codes "check"))) (next_kind (Name (codes "check"))) check_law (limited foreign_law)
    (λ d front rest c. first_word (Name (codes "check")) (codes "check") d.0 (mark LeftParen · check_body d.1) front rest c)
    (λ d front rest m ends. first_word (Name (codes "check")) (codes "foreign") m.«from».0 _ front rest m.is))
    (λ d front rest m. first_word (Name (codes "unique")) (codes "unique") m.«from».0 _ front rest m.is)
    (λ d front rest is ends. not_unique d front rest is)
  where
    not_unique : (d : Demanded) (front rest : List Token) → rest_words d front → is_next (Name (codes "unique")) (front ++ rest) ≡ false
    not_unique d front rest (Left c) = first_word (Name (codes "unique")) (codes "check") d.0 (mark LeftParen · check_body d.1) front rest c
    not_unique d front rest (Right m) = first_word (Name (codes "unique")) (codes "foreign") m.«from».0 _ front rest m.is

-- as the grammar has it

abbrev pub demanded : Demanded → List Token → Type 0
demanded d = invariant d.0 d.1

abbrev pub small_demanded : Demanded → List Token → Type 0
small_demanded d l = demanded d l × IsSmallRule d.1

check_in : (d : Demanded) (l : List Token) → check_words d l → demanded d l
check_in (spot, Bound check) l c = c
check_in (spot, OneOf col texts) l c = c
check_in (spot, Different col) l c = absurd c.then.then
check_in (spot, Refers col table target) l c = absurd c.then.then

all_in : (d : Demanded) (l : List Token) → all_words d l → demanded d l
all_in d l (Left m) = subst (λ x. demanded x l) (sym m.made) m.is
all_in d l (Right (Left c)) = check_in d l c
all_in d l (Right (Right m)) = subst (λ x. demanded x l) (sym m.made) m.is

all_out : (d : Demanded) (l : List Token) → demanded d l → all_words d l
all_out (spot, Different col) l is = Left (record { «from» = (spot, (col, tt)); is = is; made = refl })
all_out (spot, Bound check) l is = Right (Left is)
all_out (spot, OneOf col texts) l is = Right (Left is)
all_out (spot, Refers col table target) l is = Right (Right (record { «from» = (spot, (col, (table, (target, tt)))); is = is; made = refl }))

small_in : (d : Demanded) (l : List Token) → small_words d l → small_demanded d l
small_in d l (Left m) = subst (λ x. small_demanded x l) (sym m.made) (m.is, tt)
small_in d l (Right (Left c)) = (check_in d l c.0, c.1)
small_in d l (Right (Right m)) = subst (λ x. small_demanded x l) (sym m.made) (m.is, tt)

small_out : (d : Demanded) (l : List Token) → small_demanded d l → small_words d l
small_out (spot, Different col) l is = Left (record { «from» = (spot, (col, tt)); is = is.0; made = refl })
small_out (spot, Bound check) l is = Right (Left is)
small_out (spot, OneOf col texts) l is = Right (Left is)
small_out (spot, Refers col table target) l is = Right (Right (record { «from» = (spot, (col, (table, (target, tt)))); is = is.0; made = refl }))

pub demanded_law : Limited schemas anything demanded small_demanded demanded_at
demanded_law = same_limited words_law all_in all_out small_in small_out

-- items

abbrev pub item_at : List Token → Read Item
item_at tokens =
    if is_name tokens then (column_at tokens >>= λ c r. Ok (Field c, r))
    else if is_next (Name (codes "primary")) tokens then (key_at tokens >>= λ key r. Ok (Key key.0 key.1, r))
    else (demanded_at tokens >>= λ d r. Ok (Demand d.0 d.1, r))

abbrev pub small_item : Item → List Token → Type 0
small_item x l = item x l × IsSmallItem x

abbrev key_item : Ident × Option Ident → Item
key_item key = Key key.0 key.1

abbrev demand_item : Demanded → Item
demand_item d = Demand d.0 d.1

-- the first token of an item tells which it is
abbrev pub FirstOf : Item → Token → Type 0
FirstOf (Field c) token = is_some (name_of token) ≡ true
FirstOf (Key first second) token = token.kind ≡ Name (codes "primary")
FirstOf (Demand spot rule) token = (token.kind ≡ Name (codes "unique")) ⊎ ((token.kind ≡ Name (codes "check")) ⊎ (token.kind ≡ Name (codes "foreign")))

pub record Begun (x : Item) (l : List Token) : Type 0 where
  pub token : Token
  pub back : List Token
  pub whole : l ≡ token ∷ back
  pub first : FirstOf x token

begun_word : (x : Item) (bytes : List ℕ) (spot : Spot) (R : List Token → Type 0) (l : List Token) → ((token : Token) → token.kind ≡ Name bytes → FirstOf x token) → (word_at spot bytes · R) l → Begun x l
begun_word x bytes spot R l first b = record { token = b.first.token; back = b.back; whole = b.whole ∙ ap (λ y. y ++ b.back) b.first.only; first = first b.first.token b.first.holds.0 }

pub begun : (x : Item) (l : List Token) → item x l → Begun x l
begun (Field c) l b = record { token = b.first.token; back = b.back; whole = b.whole ∙ ap (λ y. y ++ b.back) b.first.only; first = name_some c.name b.first.token b.first.holds }
  where
    name_some : (ident : Ident) (token : Token) → IsName ident token → is_some (name_of token) ≡ true
    name_some ident token is = ap is_some (is_named ident token is)
begun (Key first second) l b = record { token = b.first.token; back = b.back; whole = b.whole ∙ ap (λ y. y ++ b.back) b.first.only; first = b.first.holds }
begun (Demand spot (Different col)) l b = begun_word (Demand spot (Different col)) (codes "unique") spot _ l (λ token k. inl k) b
begun (Demand spot (Bound check)) l b = begun_word (Demand spot (Bound check)) (codes "check") spot _ l (λ token k. inr (inl k)) b
begun (Demand spot (OneOf col texts)) l b = begun_word (Demand spot (OneOf col texts)) (codes "check") spot _ l (λ token k. inr (inl k)) b
begun (Demand spot (Refers col table target)) l b = begun_word (Demand spot (Refers col table target)) (codes "foreign") spot _ l (λ token k. inr (inr k)) b

-- a reserved word is no name
no_name : (token : Token) (bytes : List ℕ) → token.kind ≡ Name bytes → is_reserved bytes ≡ true → is_some (name_of token) ≡ false
no_name token bytes k e = ap (λ x. is_some (ident_of token.spot x)) k ∙ ap (λ b. is_some {A = Ident} (given (not b) (record { name = bytes; spot = token.spot; num = 0 }))) e

pub demand_no_name : (x : Item) (token : Token) → (token.kind ≡ Name (codes "unique")) ⊎ ((token.kind ≡ Name (codes "check")) ⊎ (token.kind ≡ Name (codes "foreign"))) → is_some (name_of token) ≡ false
unfolding is_reserved
demand_no_name x token (inl k) = no_name token (codes "unique") k refl
demand_no_name x token (inr (inl k)) = no_name token (codes "check") k refl
demand_no_name x token (inr (inr k)) = no_name token (codes "foreign") k refl

pub key_no_name : (token : Token) → token.kind ≡ Name (codes "primary") → is_some (name_of token) ≡ false
unfolding is_reserved
key_no_name token k = no_name token (codes "primary") k refl

pub demand_no_key : (token : Token) → (token.kind ≡ Name (codes "unique")) ⊎ ((token.kind ≡ Name (codes "check")) ⊎ (token.kind ≡ Name (codes "foreign"))) → is_kind (Name (codes "primary")) token.kind ≡ false
demand_no_key token (inl k) = ap (λ x. is_kind (Name (codes "primary")) x) k
demand_no_key token (inr (inl k)) = ap (λ x. is_kind (Name (codes "primary")) x) k
demand_no_key token (inr (inr k)) = ap (λ x. is_kind (Name (codes "primary")) x) k

pub demand_demands : (token : Token) (l : List Token) → (token.kind ≡ Name (codes "unique")) ⊎ ((token.kind ≡ Name (codes "check")) ⊎ (token.kind ≡ Name (codes "foreign"))) → demands (token ∷ l) ≡ true
demand_demands token l (inl k) = ap (λ x. is_kind (Name (codes "unique")) x || (is_kind (Name (codes "check")) x || is_kind (Name (codes "foreign")) x)) k
demand_demands token l (inr (inl k)) = ap (λ x. is_kind (Name (codes "unique")) x || (is_kind (Name (codes "check")) x || is_kind (Name (codes "foreign")) x)) k
demand_demands token l (inr (inr k)) = ap (λ x. is_kind (Name (codes "unique")) x || (is_kind (Name (codes "check")) x || is_kind (Name (codes "foreign")) x)) k

-- what a test of the first token answers
pub begun_test : (test : List Token → Bool) (x : Item) (front rest : List Token) (answer : Bool) → item x front → ((token : Token) (l : List Token) → FirstOf x token → test (token ∷ l) ≡ answer) → test (front ++ rest) ≡ answer
begun_test test x front rest answer is first = let b = begun x front is in ap (λ l. test (l ++ rest)) b.whole ∙ first b.token (b.back ++ rest) b.first

abbrev rest_items : Item → List Token → Type 0
rest_items = Either (Made key_item key_written) (Made demand_item demanded)

abbrev small_rest_items : Item → List Token → Type 0
small_rest_items = Either (Made key_item key_written) (Made demand_item small_demanded)

rest_law : Limited schemas (is_next (Mark At)) rest_items small_rest_items
    (λ tokens. if is_next (Name (codes "primary")) tokens then (key_at tokens >>= λ key r. Ok (Key key.0 key.1, r)) else (demanded_at tokens >>= λ d r. Ok (Demand d.0 d.1, r)))
rest_law = either_limited (is_next (Name (codes "primary"))) (next_kind (Name (codes "primary")))
    (any_clash (is_next (Mark At)) (take_last_limited key_item (limited key_law))) (any_clash (is_next (Mark At)) (take_last_limited demand_item demanded_law))
    (λ x front rest m. kind_next (Name (codes "primary")) _ front rest m.is)
    (λ x front rest m ends. begun_test (is_next (Name (codes "primary"))) (demand_item m.«from») front rest false m.is (λ token l f. demand_no_key token f))

in_rest : (x : Item) (l : List Token) → rest_items x l → item x l
in_rest x l (Left m) = subst (λ y. item y l) (sym m.made) m.is
in_rest x l (Right m) = subst (λ y. item y l) (sym m.made) m.is

rest_no_name : (x : Item) (front rest : List Token) → rest_items x front → is_name (front ++ rest) ≡ false
rest_no_name x front rest (Left m) = begun_test is_name (key_item m.«from») front rest false m.is (λ token l f. key_no_name token f)
rest_no_name x front rest (Right m) = begun_test is_name (demand_item m.«from») front rest false m.is (λ token l f. demand_no_name (demand_item m.«from») token f)

pub item_law : Limited schemas (is_next (Mark At)) item small_item item_at
item_law = same_limited
    (either_limited is_name (next_alike (λ token. is_some (name_of token))) (take_last_limited Field (limited column_law)) rest_law
    (λ x front rest m. begun_test is_name (Field m.«from») front rest true m.is (λ token l f. f))
    (λ x front rest is ends. rest_no_name x front rest is))
    into out small_into small_out'
  where
    into : (x : Item) (l : List Token) → Either (Made Field column) rest_items x l → item x l
    into x l (Left m) = subst (λ y. item y l) (sym m.made) m.is
    into x l (Right is) = in_rest x l is

    out : (x : Item) (l : List Token) → item x l → Either (Made Field column) rest_items x l
    out (Field c) l is = Left (record { «from» = c; is = is; made = refl })
    out (Key first second) l is = Right (Left (record { «from» = (first, second); is = is; made = refl }))
    out (Demand spot rule) l is = Right (Right (record { «from» = (spot, rule); is = is; made = refl }))

    small_into : (x : Item) (l : List Token) → Either (Made Field column) small_rest_items x l → small_item x l
    small_into x l (Left m) = subst (λ y. small_item y l) (sym m.made) (m.is, tt)
    small_into x l (Right (Left m)) = subst (λ y. small_item y l) (sym m.made) (m.is, tt)
    small_into x l (Right (Right m)) = subst (λ y. small_item y l) (sym m.made) m.is

    small_out' : (x : Item) (l : List Token) → small_item x l → Either (Made Field column) small_rest_items x l
    small_out' (Field c) l is = Left (record { «from» = c; is = is.0; made = refl })
    small_out' (Key first second) l is = Right (Left (record { «from» = (first, second); is = is.0; made = refl }))
    small_out' (Demand spot rule) l is = Right (Right (record { «from» = (spot, rule); is = is; made = refl }))
