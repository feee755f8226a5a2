-- Items that are added to a table, one after another.
use Rattle.std.proofs.Common.{◌≡◌, ◌∙◌, ℕ, ◌<◌, inl, inr, Bool, true, false, ◌||◌, if◌then◌else◌, nat_le, List, [], ◌∷◌, ◌++◌, length, Option, Some, None, Ok, Err, refl, sym, ap, subst, arith, cond, codes}
use Rattle.std.proofs.lemmas.Bool.Decides.{nat_tests}
use Rattle.sv_lex.specs.declared.marks.Mark.TheVariants.{LeftParen, RightParen, Comma, At}
use Rattle.sv_lex.specs.declared.tokens.Token.{Token}
use Rattle.sv_lex.specs.declared.tokens.TokenKind.{TokenKind}
use Rattle.sv_lex.specs.declared.tokens.TokenKind.TheVariants.{Name, Mark}
use Rattle.sv_app.specs.declared.apps.Ident.{Ident}
use Rattle.sv_app.specs.declared.refusals.Code.TheVariants.{Syntax, Many}
use Rattle.sv_app.specs.declared.schemas.Merge.TheVariants as merges
use Rattle.sv_app.specs.declared.schemas.Ty.TheVariants as types
use Rattle.sv_app.specs.Schema.{Rule, Bound, OneOf, Different, Refers, Declaration}
use Rattle.sv_app.specs.Words.{is_reserved}
use Rattle.sv_reader.specs.Grammar.{Both, kind, word_at, IsName, name}
use Rattle.sv_schema_reader.specs.Grammar.{Item, Field, Key, Demand, item}
use Rattle.sv_reader.specs.Reading.{Read, ◌>>=◌, refuse, found_at, given, is_kind, is_next, is_name, is_some, name_of, ident_of, kind_at}
use Rattle.sv_schema_reader.specs.Reading.{column_at, key_at, unique_at, check_at, foreign_at, demanded_at, demands, Demanded, with_column, with_key, with_rule, item_step}
use Rattle.sv_schema_reader.specs.Refused.{IsFirst}
use Rattle.sv_schema_reader.proofs.BodyLaws.{check_body, small_body, body_law}
use Rattle.sv_schema_reader.proofs.CheckedLaws.{words_behind}
use Rattle.sv_reader.proofs.KindLaws.{kind_is, token_of}
use Rattle.sv_schema_reader.proofs.ItemLaws.{FirstOf, next_kind, item_at, small_item, item_law, begun, begun_test, demand_demands, demand_no_name, demand_no_key, key_no_name}
use Rattle.sv_reader.proofs.AnswerLaws.{next_alike, Alike, then_err}
use Rattle.sv_reader.proofs.PartLaws.{name_is}
use Rattle.sv_reader.proofs.ReadLaws.{Start}
use Rattle.sv_reader.proofs.StepLaws.{Stepping, one_step}
use Rattle.sv_schema_reader.proofs.MatterLaws.{schemas}

abbrev pub add_item : ℕ → Declaration → Item → Declaration
add_item count d (Field c) = with_column d c
add_item count d (Key first second) = with_key d first second
add_item count d (Demand spot rule) = with_rule count d (spot, rule)

-- whether the item that begins here is one too many
abbrev pub more_items : Declaration → List Token → Bool
more_items d tokens =
    if is_name tokens then nat_le 16 (length d.columns) else if is_next (Name (codes "primary")) tokens then false
    else if demands tokens then nat_le 16 (length d.invs) else false

abbrev pub ItemRoom : Declaration → Item → Type 0
ItemRoom d (Field c) = length d.columns < 16
ItemRoom d (Key first second) = Unit {0}
ItemRoom d (Demand spot rule) = length d.invs < 16

abbrev more_by : Declaration → Bool → Bool → Bool → Bool
more_by d a b c = if a then nat_le 16 (length d.columns) else if b then false else if c then nat_le 16 (length d.invs) else false

small_test : (n : ℕ) → nat_le 16 n ≡ false → n < 16
small_test n e = grind (arith, nat_tests, e)

test_small : (n : ℕ) → n < 16 → nat_le 16 n ≡ false
test_small n lt = grind (arith, nat_tests, lt)

-- the tests of a whole item
more_is : (d : Declaration) (tokens : List Token) (a b c : Bool) → is_name tokens ≡ a → is_next (Name (codes "primary")) tokens ≡ b → demands tokens ≡ c → more_items d tokens ≡ more_by d a b c
more_is d tokens a b c e f g = λ i. more_by d (e i) (f i) (g i)

begun_more : (d : Declaration) (x : Item) (front rest : List Token) → item x front → (more_items d (front ++ rest) ≡ false → ItemRoom d x) × (ItemRoom d x → more_items d (front ++ rest) ≡ false)
begun_more d (Field c) front rest is =
    let e : is_name (front ++ rest) ≡ true = begun_test is_name (Field c) front rest true is (λ token l f. f) in
    let m : more_items d (front ++ rest) ≡ nat_le 16 (length d.columns) = more_is d (front ++ rest) true _ _ e refl refl in
    (λ few. small_test (length d.columns) (sym m ∙ few), λ room. m ∙ test_small (length d.columns) room)
begun_more d (Key first second) front rest is =
    let e : is_name (front ++ rest) ≡ false = begun_test is_name (Key first second) front rest false is (λ token l f. key_no_name token f) in
    let f : is_next (Name (codes "primary")) (front ++ rest) ≡ true = begun_test (is_next (Name (codes "primary"))) (Key first second) front rest true is (λ token l k. ap (λ x. is_kind (Name (codes "primary")) x) k) in
    let m : more_items d (front ++ rest) ≡ false = more_is d (front ++ rest) false true _ e f refl in
    (λ few. tt, λ room. m)
begun_more d (Demand spot rule) front rest is =
    let e : is_name (front ++ rest) ≡ false = begun_test is_name (Demand spot rule) front rest false is (λ token l f. demand_no_name (Demand spot rule) token f) in
    let f : is_next (Name (codes "primary")) (front ++ rest) ≡ false = begun_test (is_next (Name (codes "primary"))) (Demand spot rule) front rest false is (λ token l f. demand_no_key token f) in
    let g : demands (front ++ rest) ≡ true = begun_test demands (Demand spot rule) front rest true is (λ token l f. demand_demands token l f) in
    let m : more_items d (front ++ rest) ≡ nat_le 16 (length d.invs) = more_is d (front ++ rest) false false true e f g in
    (λ few. small_test (length d.invs) (sym m ∙ few), λ room. m ∙ test_small (length d.invs) room)

demands_alike : (a b : List Token) → Alike a b → demands a ≡ demands b
demands_alike a b alike = λ i. next_kind (Name (codes "unique")) a b alike i || (next_kind (Name (codes "check")) a b alike i || next_kind (Name (codes "foreign")) a b alike i)

more_alike : (d : Declaration) (a b : List Token) → Alike a b → more_items d a ≡ more_items d b
more_alike d a b alike = λ i. more_by d (next_alike (λ token. is_some (name_of token)) a b alike i) (next_kind (Name (codes "primary")) a b alike i) (demands_alike a b alike i)

-- what an item may begin with

abbrev pub a_name : Ident
a_name = record { name = codes "a"; spot = record { line = 1; col = 1 }; num = 0 }

abbrev pub name_token : Token
name_token = token_of (Name (codes "a"))

pub is_a_name : name a_name (name_token ∷ [])
unfolding is_reserved
is_a_name = record { token = name_token; only = refl; holds = (refl, refl, refl, refl) }

pub one_kind : (k : TokenKind) → kind k (token_of k ∷ [])
one_kind k = record { token = token_of k; only = refl; holds = refl }

pub both : {P Q : List Token → Type 0} (front back : List Token) → P front → Q back → Both P Q (front ++ back)
both front back p q = record { front = front; back = back; whole = refl; first = p; then = q }

column_begins : (token : Token) (ident : Ident) → IsName ident token → Start item (token ∷ [])
column_begins token ident is = record {
  more = token_of (Name (codes "int")) ∷ [];
  item = Field (record { name = ident; ty = types.Int; merge = merges.Plain });
  is = both (token ∷ []) (token_of (Name (codes "int")) ∷ []) (record { token = token; only = refl; holds = is }) (both (token_of (Name (codes "int")) ∷ []) [] (one_kind (Name (codes "int"))) refl);
}

first_at : (token : Token) (bytes : List ℕ) → token.kind ≡ Name bytes → word_at token.spot bytes (token ∷ [])
first_at token bytes k = record { token = token; only = refl; holds = (k, refl) }

unique_begins : (token : Token) → token.kind ≡ Name (codes "unique") → Start item (token ∷ [])
unique_begins token k = record {
  more = token_of (Mark LeftParen) ∷ name_token ∷ token_of (Mark RightParen) ∷ [];
  item = Demand token.spot (Different a_name);
  is = both (token ∷ []) _ (first_at token (codes "unique") k) (both (token_of (Mark LeftParen) ∷ []) _ (one_kind (Mark LeftParen)) (both (name_token ∷ []) _ is_a_name (one_kind (Mark RightParen))));
}

foreign_begins : (token : Token) → token.kind ≡ Name (codes "foreign") → Start item (token ∷ [])
foreign_begins token k = record {
  more = token_of (Name (codes "key")) ∷ token_of (Mark LeftParen) ∷ name_token ∷ token_of (Mark RightParen) ∷ token_of (Name (codes "references")) ∷ name_token ∷ token_of (Mark LeftParen) ∷ name_token ∷ token_of (Mark RightParen) ∷ [];
  item = Demand token.spot (Refers a_name a_name a_name);
  is = both (token ∷ []) _ (first_at token (codes "foreign") k) (both (token_of (Name (codes "key")) ∷ []) _ (one_kind (Name (codes "key"))) (both (token_of (Mark LeftParen) ∷ []) _ (one_kind (Mark LeftParen))
      (both (name_token ∷ []) _ is_a_name (both (token_of (Mark RightParen) ∷ []) _ (one_kind (Mark RightParen)) (both (token_of (Name (codes "references")) ∷ []) _ (one_kind (Name (codes "references")))
      (both (name_token ∷ []) _ is_a_name (both (token_of (Mark LeftParen) ∷ []) _ (one_kind (Mark LeftParen)) (both (name_token ∷ []) _ is_a_name (one_kind (Mark RightParen))))))))));
}

check_begins : (token : Token) → token.kind ≡ Name (codes "check") → Start item (token ∷ [])
check_begins token k = by_rule some.item some.more some.is.0
  where
    some : Start small_body []
    some = (body_law 0).some

    by_rule : (rule : Rule) (l : List Token) → check_body rule l → Start item (token ∷ [])
    by_rule (Bound check) l b = record { more = token_of (Mark LeftParen) ∷ l; item = Demand token.spot (Bound check); is = words_behind token (token_of (Mark LeftParen)) (Bound check) l k refl b }
    by_rule (OneOf col texts) l b = record { more = token_of (Mark LeftParen) ∷ l; item = Demand token.spot (OneOf col texts); is = words_behind token (token_of (Mark LeftParen)) (OneOf col texts) l k refl b }
    by_rule (Different col) l b = absurd b
    by_rule (Refers col table target) l b = absurd b

some_name : (token : Token) → is_some (name_of token) ≡ true → (ident : Ident) × IsName ident token
some_name token e = by_name (name_of token) refl e
  where
    by_name : (found : Option Ident) → name_of token ≡ found → is_some found ≡ true → (ident : Ident) × IsName ident token
    by_name None f e = absurd cc
    by_name (Some ident) f e = (ident, name_is token.spot token.kind ident f)

-- a token of a kind that isn't wanted
kind_apart : (wanted : TokenKind) (token : Token) → is_kind wanted token.kind ≡ true → token.kind ≡ wanted
kind_apart wanted token e = kind_is wanted token.kind e

name_first : (token : Token) (bytes : List ℕ) → token.kind ≡ Name bytes → IsFirst token.kind
name_first token bytes k = subst (λ x. IsFirst x) (sym k) tt

item_passing : (d : Declaration) (token : Token) (l : List Token) → more_items d (token ∷ l) ≡ true → IsFirst token.kind × Start item (token ∷ [])
item_passing d token l e = by_name (is_name (token ∷ l)) refl e
  where
    by_foreign : (c : Bool) → is_kind (Name (codes "foreign")) token.kind ≡ c → cond c (nat_le 16 (length d.invs)) false ≡ true → IsFirst token.kind × Start item (token ∷ [])
    by_foreign true k e = let is = kind_is (Name (codes "foreign")) token.kind k in (name_first token (codes "foreign") is, foreign_begins token is)
    by_foreign false k e = absurd cc

    by_check : (c : Bool) → is_kind (Name (codes "check")) token.kind ≡ c → cond (c || is_kind (Name (codes "foreign")) token.kind) (nat_le 16 (length d.invs)) false ≡ true → IsFirst token.kind × Start item (token ∷ [])
    by_check true k e = let is = kind_is (Name (codes "check")) token.kind k in (name_first token (codes "check") is, check_begins token is)
    by_check false k e = by_foreign (is_kind (Name (codes "foreign")) token.kind) refl e

    by_unique : (c : Bool) → is_kind (Name (codes "unique")) token.kind ≡ c → cond (c || (is_kind (Name (codes "check")) token.kind || is_kind (Name (codes "foreign")) token.kind)) (nat_le 16 (length d.invs)) false ≡ true → IsFirst token.kind × Start item (token ∷ [])
    by_unique true k e = let is = kind_is (Name (codes "unique")) token.kind k in (name_first token (codes "unique") is, unique_begins token is)
    by_unique false k e = by_check (is_kind (Name (codes "check")) token.kind) refl e

    by_key : (b : Bool) → cond b false (cond (demands (token ∷ l)) (nat_le 16 (length d.invs)) false) ≡ true → IsFirst token.kind × Start item (token ∷ [])
    by_key true e = absurd cc
    by_key false e = by_unique (is_kind (Name (codes "unique")) token.kind) refl e

    by_name : (a : Bool) → is_name (token ∷ l) ≡ a → more_by d a (is_next (Name (codes "primary")) (token ∷ l)) (demands (token ∷ l)) ≡ true → IsFirst token.kind × Start item (token ∷ [])
    by_name true n e = let some = some_name token n in (name_first token some.0.name some.1.0, column_begins token some.0 some.1)
    by_name false n e = by_key (is_next (Name (codes "primary")) (token ∷ l)) e

no_comma : (x : Item) (token : Token) (l : List Token) → item x (token ∷ l) → token.kind ≡ Mark Comma → ⊥
no_comma x token l is e = let b = begun x (token ∷ l) is in
    by_item x b.token b.first (let same : token ≡ b.token = cons_first b.whole in sym (ap (λ (t : Token). t.kind) same) ∙ e)
  where
    cons_first : {x y : Token} {xs ys : List Token} → x ∷ xs ≡ y ∷ ys → x ≡ y
    cons_first e = cc

    by_item : (x : Item) (t : Token) → FirstOf x t → t.kind ≡ Mark Comma → ⊥
    by_item (Field c) t f e = let bad : true ≡ false = sym f ∙ ap (λ k. is_some (ident_of t.spot k)) e in absurd cc
    by_item (Key first second) t f e = let bad : Name (codes "primary") ≡ Mark Comma = sym f ∙ e in absurd cc
    by_item (Demand spot rule) t (inl f) e = let bad : Name (codes "unique") ≡ Mark Comma = sym f ∙ e in absurd cc
    by_item (Demand spot rule) t (inr (inl f)) e = let bad : Name (codes "check") ≡ Mark Comma = sym f ∙ e in absurd cc
    by_item (Demand spot rule) t (inr (inr f)) e = let bad : Name (codes "foreign") ≡ Mark Comma = sym f ∙ e in absurd cc

pub item_stepping : Stepping schemas (is_next (Mark At)) more_items (λ _. item_at) (λ _. item) (λ _. small_item) ItemRoom
item_stepping = record {
  alike = more_alike;
  law = λ d. item_law;
  some = λ d x l is e. let b = begun x l is in let bad : b.token ∷ b.back ≡ [] = sym b.whole ∙ e in absurd cc;
  fits = λ d x front rest is few. (begun_more d x front rest is.0).0 few;
  roomy = λ d x front rest is room. (begun_more d x front rest is).1 room;
  ends = λ d. refl;
  passing = item_passing;
  no_comma = λ d x token l is e. no_comma x token l is e;
}

-- the step of the reading

pub kind_misread : (k : TokenKind) (tokens : List Token) → is_next k tokens ≡ false → kind_at k tokens ≡ refuse Syntax tokens
kind_misread k [] e = refl
kind_misread k (token ∷ rest) e = ap (λ (b : Bool). found_at (given b token.spot) token rest) e

none_demanded : (tokens : List Token) → demands tokens ≡ false → demanded_at tokens ≡ refuse Syntax tokens
unfolding demanded_at foreign_at
none_demanded tokens e = by_unique (is_next (Name (codes "unique")) tokens) e
  where
    by_check : (b : Bool) → b || is_next (Name (codes "foreign")) tokens ≡ false → cond b (check_at tokens) (foreign_at tokens) ≡ refuse Syntax tokens
    by_check true e = absurd cc
    by_check false e = then_err _ (kind_misread (Name (codes "foreign")) tokens e)

    by_unique : (a : Bool) → a || (is_next (Name (codes "check")) tokens || is_next (Name (codes "foreign")) tokens) ≡ false
        → cond a (unique_at tokens) (cond (is_next (Name (codes "check")) tokens) (check_at tokens) (foreign_at tokens)) ≡ refuse Syntax tokens
    by_unique true e = absurd cc
    by_unique false e = by_check (is_next (Name (codes "check")) tokens) e

then_added : {A B C : Type 0} (read : Read A) (f : A → B) (g : B → C) → (read >>= λ a r. Ok (g (f a), r)) ≡ ((read >>= λ a r. Ok (f a, r)) >>= λ b r. Ok (g b, r))
then_added (Ok (a, r)) f g = refl
then_added (Err fault) f g = refl

pub item_step_is : (count : ℕ) (d : Declaration) (tokens : List Token) → item_step count d tokens ≡ one_step item_stepping (add_item count) d tokens
unfolding item_step
item_step_is count d tokens = by_tests (is_name tokens) (is_next (Name (codes "primary")) tokens) (demands tokens) refl
  where
    by_column : (m : Bool) → (if m then refuse Many tokens else (column_at tokens >>= λ c r. Ok (with_column d c, r)))
        ≡ (if m then refuse Many tokens else ((column_at tokens >>= λ c r. Ok (Field c, r)) >>= λ x r. Ok (add_item count d x, r)))
    by_column true = refl
    by_column false = then_added (column_at tokens) Field (add_item count d)

    by_demand : (m : Bool) → (if m then refuse Many tokens else (demanded_at tokens >>= λ e r. Ok (with_rule count d e, r)))
        ≡ (if m then refuse Many tokens else ((demanded_at tokens >>= λ e r. Ok (Demand e.0 e.1, r)) >>= λ x r. Ok (add_item count d x, r)))
    by_demand true = refl
    by_demand false = then_added (demanded_at tokens) (λ e. Demand e.0 e.1) (add_item count d)

    by_tests : (a b c : Bool) → demands tokens ≡ c
        → (if a then (if nat_le 16 (length d.columns) then refuse Many tokens else (column_at tokens >>= λ x r. Ok (with_column d x, r)))
        else if b then (key_at tokens >>= λ key r. Ok (with_key d key.0 key.1, r))
        else if c then (if nat_le 16 (length d.invs) then refuse Many tokens else (demanded_at tokens >>= λ e r. Ok (with_rule count d e, r)))
        else refuse Syntax tokens)
        ≡ (if more_by d a b c then refuse Many tokens else ((if a then (column_at tokens >>= λ x r. Ok (Field x, r)) else if b then (key_at tokens >>= λ key r. Ok (Key key.0 key.1, r)) else (demanded_at tokens >>= λ e r. Ok (Demand e.0 e.1, r)))
        >>= λ x r. Ok (add_item count d x, r)))
    by_tests true b c e = by_column (nat_le 16 (length d.columns))
    by_tests false true c e = then_added (key_at tokens) (λ key. Key key.0 key.1) (add_item count d)
    by_tests false false true e = by_demand (nat_le 16 (length d.invs))
    by_tests false false false e = sym (ap (λ (read : Read Demanded). (read >>= λ e r. Ok (Demand e.0 e.1, r)) >>= λ x r. Ok (add_item count d x, r)) (none_demanded tokens e))
