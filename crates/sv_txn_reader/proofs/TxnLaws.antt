-- Transactions.
use Rattle.std.proofs.Common.{◌≡◌, ◌∙◌, ℕ, suc, ◌<◌, inl, Bool, true, false, not, ◌&&◌, ◌||◌, if◌then◌else◌, nat_le, List, [], ◌∷◌, ◌++◌, length, Option, Some, None, Ok, Err, refl, sym, ap, subst, codes, arith, bytes_eq, append_assoc, append-nil}
use Rattle.std.proofs.lemmas.List.{length-append}
use Rattle.std.proofs.lemmas.Slice.Eq.{bytes_eq-Decides}
use Rattle.sv_value.specs.declared.spots.Spot.{Spot}
use Rattle.sv_lex.specs.declared.marks.Mark.TheVariants as marks
use Rattle.sv_lex.specs.declared.tokens.Token.{Token}
use Rattle.sv_lex.specs.declared.tokens.TokenKind.{TokenKind}
use Rattle.sv_lex.specs.declared.tokens.TokenKind.TheVariants.{Name, Number, Text, Mark}
use Rattle.sv_app.specs.declared.apps.Ident.{Ident}
use Rattle.sv_app.specs.declared.refusals.Code.TheVariants.{Syntax, Many}
use Rattle.sv_app.specs.declared.schemas.Ty.{Ty}
use Rattle.sv_app.specs.declared.schemas.Ty.TheVariants as types
use Rattle.sv_app.specs.Trees.{Transaction, block_from}
use Rattle.sv_reader.specs.declared.faults.ReadFault.{ReadFault}
use Rattle.sv_reader.specs.Reading.{Read, ◌>>=◌, refuse, by_word, given, found_at, next, is_kind, is_next, is_some, name_of, is_name, name_at, kind_at, token_at, turns_at}
use Rattle.sv_reader.proofs.KindLaws.{kind_is, token_of}
use Rattle.sv_txn_reader.specs.Grammar.{◌·◌, nothing, mark, word, name, block, type_word, param, more_params, params, transaction, transactions}
use Rattle.sv_reader.specs.Reading.{keep}
use Rattle.sv_txn_reader.specs.Reading.{Several, type_named, param_at, params_at, item_turn, list_of, block_at, txn_at, begins_txn, txn_step, txns_at}
use Rattle.sv_txn_reader.specs.Standing.{counts, outside, plus, block_counts}
use Rattle.sv_txn_reader.proofs.BlockLaws.{as_kind, block_law}
use Rattle.sv_txn_reader.proofs.CommandLaws.{Blk, commands_of, from_commands}
use Rattle.sv_txn_reader.proofs.HeadLaws.{name_misplaced, name_read}
use Rattle.sv_reader.proofs.AnswerLaws.{anything, then_ok, then_err}
use Rattle.sv_txn_reader.proofs.PlacedLaws.{Law, map_law, read_law, clash_law}
use Rattle.sv_txn_reader.proofs.LimitLaws.{places, Limited, limited_law, Goes, Short}
use Rattle.sv_txn_reader.proofs.ListLaws.{Listed, more_items, list_law, item_turning, or_false}
use Rattle.sv_reader.proofs.AnswerLaws.{next_alike}
use Rattle.sv_reader.proofs.FuelLaws.{turn_read, turn_err, end_read}
use Rattle.sv_txn_reader.proofs.PieceLaws.{leaf_law, kind_next, name_law, name_next, Made, take, take_last, skip, ended, Either, Left, Right, either_law, Turns, Stop, Turn, Turning, lawful_turning, turns_law, shorter, stopped}

-- types of parameters

named_type : (w : List ℕ) (ty : Ty) → type_named w ≡ Some ty → w ≡ type_word ty
named_type w ty e = first (bytes_eq w (codes "int")) (bytes_eq w (codes "text")) (bytes_eq w (codes "ints")) refl refl refl e
  where
    word_of : (x ty : Ty) → ◌≡◌ {A = Option Ty} (Some x) (Some ty) → w ≡ type_word x → w ≡ type_word ty
    word_of x ty e same = let is : x ≡ ty = cc in same ∙ ap type_word is

    first : (a b c : Bool) → bytes_eq w (codes "int") ≡ a → bytes_eq w (codes "text") ≡ b → bytes_eq w (codes "ints") ≡ c
        → (if a then Some types.Int else if b then Some types.Text else if c then Some types.Ints else None) ≡ Some ty → w ≡ type_word ty
    first true b c p q r e = word_of types.Int ty e ((bytes_eq-Decides w (codes "int")).0 p)
    first false true c p q r e = word_of types.Text ty e ((bytes_eq-Decides w (codes "text")).0 q)
    first false false true p q r e = word_of types.Ints ty e ((bytes_eq-Decides w (codes "ints")).0 r)
    first false false false p q r e = absurd cc

type_is : (k : TokenKind) (ty : Ty) → by_word type_named k ≡ Some ty → k ≡ Name (type_word ty)
type_is (Name w) ty e = ap Name (named_type w ty e)
type_is (Number n) ty e = absurd cc
type_is (Text t) ty e = absurd cc
type_is (Mark m) ty e = absurd cc

is_type : (ty : Ty) → type_named (type_word ty) ≡ Some ty
is_type types.Int = refl
is_type types.Text = refl
is_type types.Ints = refl

type_law : (clash : List Token → Bool) → Law places clash (λ _ ty. word (type_word ty)) (token_at (λ token. by_word type_named token.kind))
type_law clash = map_law (leaf_law places clash (λ token. by_word type_named token.kind) (token_of (Name (codes "int"))) types.Int refl)
    (λ i ty l r m. record { token = m.token; next = m.next; holds = type_is m.token.kind ty m.holds }) (λ i ty l r k. record { token = k.token; next = k.next; holds = ap (by_word type_named) k.holds ∙ is_type ty })

-- parameters

abbrev Parameter : Type 0
Parameter = Ident × Ty

typed : Ident → List Token → Read Parameter
typed x r1 = kind_at (Mark marks.Colon) r1 >>= λ _ r2. token_at (λ token. by_word type_named token.kind) r2 >>= λ ty r3. Ok ((x, ty), r3)

plain_param : Law places anything (λ _ p. param p) (λ l. name_at l >>= typed)
unfolding typed
plain_param = map_law (take {before = anything} (λ (x : Ident) (ty : Ty). (x, ty)) (name_law places anything) (λ x. skip (Mark marks.Colon) (λ (ty : Ty). (x, ty)) (take_last (λ (ty : Ty). (x, ty)) (type_law anything))) (λ i x t l r is clear. refl))
    (λ i p l r m. subst (λ y. param y l r) (sym m.made) m.is) (λ i p l r is. record { «from» = p; is = is; made = refl })

abbrev pub Param : List Parameter → ℕ → Parameter → List Token → List Token → Type 0
Param ps = Limited 16 (length ps) (λ _ p. param p)

param_law : (ps : List Parameter) → Law places anything (Param ps) (param_at ps)
unfolding param_at typed
param_law ps = limited_law is_name 16 (length ps) (next_alike (λ token. is_some (name_of token))) refl plain_param (λ i p l r is. name_next p.0 l is.middle is.first)
    (λ l e. then_err typed (name_misplaced l e)) (λ token others t. Short (then_ok typed (name_read token [] t).1))

abbrev pub is_comma : List Token → Bool
is_comma = is_next (Mark marks.Comma)

pub param_turning : Turning places anything is_comma is_comma (item_turn param_at) (λ s. Made (λ (a : Parameter). s ++ a ∷ []) (λ i a. mark marks.Comma · Param s i a))
param_turning = item_turning param_law (λ l r is. refl) (λ l clear. refl) (λ l clear. clear)

longer : (s : List Parameter) (a : Parameter) → length (s ++ a ∷ []) ≡ suc (length s)
longer s a = length-append s (a ∷ []) ∙ omega arith

items_params : (i : ℕ) (s more : List Parameter) (l r : List Token) → more_items Param i s more l r → more_params i (length s) more l r
items_params i s [] l r is = is
items_params i s (a ∷ more) l r is = record {
  middle = is.middle;
  first = is.first;
  second = record {
    middle = is.middle;
    first = (refl, is.second.first.0);
    second = record { middle = is.second.middle; first = is.second.first.1; second = subst (λ n. more_params i n more is.second.middle r) (longer s a) (items_params i (s ++ a ∷ []) more is.second.middle r is.second.second) };
  };
}

params_items : (i : ℕ) (s more : List Parameter) (l r : List Token) → more_params i (length s) more l r → more_items Param i s more l r
params_items i s [] l r is = is
params_items i s (a ∷ more) l r is = record {
  middle = is.middle;
  first = is.first;
  second = record {
    middle = is.second.second.middle;
    first = (is.second.first.1, subst (λ x. param a x is.second.second.middle) (sym is.second.first.0) is.second.second.first);
    second = params_items i (s ++ a ∷ []) more is.second.second.middle r (subst (λ n. more_params i n more is.second.second.middle r) (sym (longer s a)) is.second.second.second);
  };
}

abbrev closes : List Token → Bool
closes l = is_comma l || not (is_next (Mark marks.RightParen) l)

name_no_paren : (x : Ident) (l r : List Token) → name x l r → not (is_next (Mark marks.RightParen) l) ≡ true
name_no_paren x l r is = ap (λ y. not (is_next (Mark marks.RightParen) y)) is.next ∙ ap (λ k. not (is_kind (Mark marks.RightParen) k)) is.holds.0

pub params_law : Law places closes params params_at
unfolding params_at
params_law = map_law (read_law same (either_law (λ l. not (is_next (Mark marks.RightParen) l)) (λ a b alike. ap not (next_alike (λ token. is_kind (Mark marks.RightParen) token.kind) a b alike))
    (clash_law (λ l clear. (or_false (is_comma l) (not (is_next (Mark marks.RightParen) l)) clear).0) (list_law param_law (λ l r is. refl) (λ l clear. refl) (λ l clear. clear)))
    (ended places closes []) (λ i ps l r x. name_no_paren x.head.0 l x.first.1.middle x.first.1.first)
    (λ i ps l r m clear. subst (λ y. not (is_next (Mark marks.RightParen) y) ≡ false) (sym m.is) (or_false (is_comma r) (not (is_next (Mark marks.RightParen) r)) clear).1)))
    into out
  where
    by_test : (b : Bool) (l : List Token) → Read (List Parameter)
    by_test b l = if b then Ok ([], l) else list_of param_at l

    same : (l : List Token) → by_test (is_next (Mark marks.RightParen) l) l ≡ (if not (is_next (Mark marks.RightParen) l) then list_of param_at l else Ok ([], l))
    same l = by_bool (is_next (Mark marks.RightParen) l)
      where
        by_bool : (b : Bool) → by_test b l ≡ (if not b then list_of param_at l else Ok ([], l))
        by_bool true = refl
        by_bool false = refl

    into : (i : ℕ) (ps : List Parameter) (l r : List Token) → Either (Listed Param) (Made (λ (_ : Unit {0}). []) (λ _ _. nothing)) i ps l r → params i ps l r
    into i ps l r (Left x) = subst (λ y. params i y l r) (sym x.made) (record { middle = x.middle; first = x.first.1; second = items_params i (x.head ∷ []) x.more x.middle r x.next })
    into i ps l r (Right m) = subst (λ y. params i y l r) (sym m.made) m.is

    out : (i : ℕ) (ps : List Parameter) (l r : List Token) → params i ps l r → Either (Listed Param) (Made (λ (_ : Unit {0}). []) (λ _ _. nothing)) i ps l r
    out i [] l r is = Right (record { «from» = tt; is = is; made = refl })
    out i (p ∷ ps) l r is = Left (record { head = p; more = ps; middle = is.middle; first = (inl (omega arith), is.first); next = params_items i (p ∷ []) ps is.middle r is.second; made = refl })

-- transactions

abbrev Parts : Type 0
Parts = Ident × (List Parameter × Several)

abbrev txn_of : Parts → Transaction
txn_of x = record { name = x.0; params = x.1.0; body = block_from x.1.1.0 }

paren_closes : (l r : List Token) → mark marks.RightParen l r → closes l ≡ false
paren_closes l r is = ap closes is.next ∙ ap (λ k. is_kind (Mark marks.Comma) k || not (is_kind (Mark marks.RightParen) k)) is.holds

txn_law : Law places anything transaction txn_at
unfolding txn_at
txn_law = map_law (skip (Name (codes "txn")) txn_of (take {before = anything} (λ (x : Ident) (y : List Parameter × Several). txn_of (x, y)) (name_law places anything)
    (λ x. skip (Mark marks.LeftParen) (λ (y : List Parameter × Several). txn_of (x, y)) (take (λ (ps : List Parameter) (s : Several). txn_of (x, (ps, s))) params_law
    (λ ps. skip (Mark marks.RightParen) (λ (s : Several). txn_of (x, (ps, s))) (take_last (λ (s : Several). txn_of (x, (ps, s))) (block_law 8 0 refl false (counts 0 0 0))))
    (λ i ps s l r is clear. paren_closes l is.middle is.first))) (λ i x y l r is clear. refl)))
    into out
  where
    into : (i : ℕ) (t : Transaction) (l r : List Token)
        → Made txn_of (λ i x. word (codes "txn") · name x.0 · mark marks.LeftParen · params i x.1.0 · mark marks.RightParen · Blk 0 false (counts 0 0 0) i x.1.1) i t l r → transaction i t l r
    into i t l r m = subst (λ y. transaction i y l r) (sym m.made) (record {
      middle = m.is.middle;
      first = m.is.first;
      second = record {
        middle = m.is.second.middle;
        first = m.is.second.first;
        second = record {
          middle = m.is.second.second.middle;
          first = m.is.second.second.first;
          second = record {
            middle = m.is.second.second.second.middle;
            first = m.is.second.second.second.first;
            second = record { middle = m.is.second.second.second.second.middle; first = m.is.second.second.second.second.first; second = m.is.second.second.second.second.second.is };
          };
        };
      };
    })

    out : (i : ℕ) (t : Transaction) (l r : List Token) → transaction i t l r
        → Made txn_of (λ i x. word (codes "txn") · name x.0 · mark marks.LeftParen · params i x.1.0 · mark marks.RightParen · Blk 0 false (counts 0 0 0) i x.1.1) i t l r
    out i t l r is =
        let same : block_from (commands_of t.body) ≡ t.body = from_commands t.body in
        let x = is.second.second.second.second in record {
          «from» = (t.name, (t.params, (commands_of t.body, plus (counts 0 0 0) (block_counts (block_from (commands_of t.body))))));
          is = record {
            middle = is.middle;
            first = is.first;
            second = record {
              middle = is.second.middle;
              first = is.second.first;
              second = record {
                middle = is.second.second.middle;
                first = is.second.second.first;
                second = record {
                  middle = is.second.second.second.middle;
                  first = is.second.second.second.first;
                  second = record { middle = x.middle; first = x.first; second = record { is = subst (λ b. block i outside b x.middle r) (sym same) x.second; after = refl } };
                };
              };
            };
          };
          made = λ j. record { name = t.name; params = t.params; body = sym same j };
        }

-- transactions one after another

abbrev pub Txn : List Transaction → ℕ → List Transaction → List Token → List Token → Type 0
Txn s = Made (λ (t : Transaction). s ++ t ∷ []) (λ i t. Limited 32 (length s) transaction i t)

txn_first : (i : ℕ) (t : Transaction) (l r : List Token) → transaction i t l r → begins_txn l ≡ true
txn_first i t l r is = kind_next (Name (codes "txn")) l is.middle is.first

txn_misplaced : (l : List Token) → begins_txn l ≡ false → txn_at l ≡ refuse Syntax l
unfolding txn_at
txn_misplaced [] e = refl
txn_misplaced (token ∷ l) e = ap (λ b. after (given b token.spot)) e
  where
    after : Option Spot → Read Transaction
    after o = found_at o token l >>= λ _ r1. name_at r1 >>= λ name r2. kind_at (Mark marks.LeftParen) r2 >>= λ _ r3. params_at r3 >>= λ params r4.
        kind_at (Mark marks.RightParen) r4 >>= λ _ r5. block_at 8 false (counts 0 0 0) r5 >>= λ body r6. Ok (record { name = name; params = params; body = block_from body.0 }, r6)

txn_short : (token : Token) → txn_at (record { kind = Name (codes "txn"); «from» = token.«from»; to = token.to; spot = token.spot } ∷ []) ≡ refuse Syntax []
unfolding txn_at
txn_short token = refl

step_law : (s : List Transaction) → Law places anything (Txn s) (txn_step s)
unfolding txn_step
step_law s = read_law same (take_last (λ (t : Transaction). s ++ t ∷ [])
    (limited_law begins_txn 32 (length s) (next_alike (λ token. is_kind (Name (codes "txn")) token.kind)) refl txn_law txn_first txn_misplaced begins))
  where
    more : Transaction → List Token → Read (List Transaction)
    more t r = Ok (s ++ t ∷ [], r)

    direct : Bool → List Token → Read (List Transaction)
    direct b l = if b then refuse Many l else (txn_at l >>= more)

    asked : Bool → List Token → Read Transaction
    asked b l = if b then refuse Many l else txn_at l

    same : (l : List Token) → direct (begins_txn l && nat_le 32 (length s)) l ≡ (asked (begins_txn l && nat_le 32 (length s)) l >>= more)
    same l = by_test (begins_txn l && nat_le 32 (length s))
      where
        by_test : (b : Bool) → direct b l ≡ (asked b l >>= more)
        by_test true = refl
        by_test false = refl

    begins : (token : Token) (others : List Token) → begins_txn (token ∷ others) ≡ true → Goes token (txn_at (token ∷ []))
    begins token others t = Short (ap (λ x. txn_at (x ∷ [])) (as_kind token (Name (codes "txn")) (kind_is (Name (codes "txn")) token.kind t)) ∙ short)
      where
        short : txn_at (record { kind = Name (codes "txn"); «from» = token.«from»; to = token.to; spot = token.spot } ∷ []) ≡ refuse Syntax []
        short = txn_short token

pub txn_turning : Turning places anything begins_txn begins_txn txn_step Txn
txn_turning = lawful_turning (next_alike (λ token. is_kind (Name (codes "txn")) token.kind)) refl step_law (λ s i m l r t. txn_first i t.«from» l r t.is.1) (λ s i m l r t. refl) (λ l clear. refl) (λ l clear. clear)

one_more : (s : List Transaction) (a : Transaction) → length (s ++ a ∷ []) ≡ suc (length s)
one_more s a = length-append s (a ∷ []) ∙ omega arith

record Said (i : ℕ) (s e : List Transaction) (l r : List Token) : Type 0 where
  pub more : List Transaction
  pub made : e ≡ s ++ more
  pub is : transactions i (length s) more l r

said : (i : ℕ) (s e : List Transaction) (l r : List Token) → Turns Txn i s e l r → Said i s e l r
said i _ _ _ _ (Stop s l r same) = record { more = []; made = sym (append-nil s); is = same }
said i _ _ _ _ (Turn s m e l middle r first next) = let rest = said i m e middle r next in record {
  more = first.«from» ∷ rest.more;
  made = rest.made ∙ ap (λ x. x ++ rest.more) first.made ∙ append_assoc s (first.«from» ∷ []) rest.more;
  is = record {
    middle = l;
    first = (refl, first.is.0);
    second = record { middle = middle; first = first.is.1; second = subst (λ n. transactions i n rest.more middle r) (ap length first.made ∙ one_more s first.«from») rest.is };
  };
}

turned : (i : ℕ) (s more : List Transaction) (l r : List Token) → transactions i (length s) more l r → Turns Txn i s (s ++ more) l r
turned i s [] l r is = subst (λ x. Turns Txn i s x l r) (sym (append-nil s)) (Stop s l r is)
turned i s (t ∷ more) l r is = Turn s (s ++ t ∷ []) (s ++ t ∷ more) l is.second.middle r
    (record { «from» = t; is = (is.first.1, subst (λ x. transaction i t x is.second.middle) (sym is.first.0) is.second.first); made = refl })
    (subst (λ x. Turns Txn i (s ++ t ∷ []) x is.second.middle r) (append_assoc s (t ∷ []) more) (turned i (s ++ t ∷ []) more is.second.middle r (subst (λ n. transactions i n more is.second.middle r) (sym (one_more s t)) is.second.second)))

pub txns_law : Law places begins_txn (λ i ts. transactions i 0 ts) txns_at
unfolding txns_at
txns_law = map_law (turns_law 0 txn_turning []) (λ i ts l r t. let x = said i [] ts l r t in subst (λ y. transactions i 0 y l r) (sym x.made) x.is) (λ i ts l r is. turned i [] ts l r is)

pub txns_stop : (tokens : List Token) (ts : List Transaction) (rest : List Token) → txns_at tokens ≡ Ok (ts, rest) → begins_txn rest ≡ false
unfolding txns_at
txns_stop tokens ts rest e = stopped begins_txn txn_step (shorter 0 txn_turning) [] tokens ts rest e

pub param_more : (a m : List (Ident × Ty)) (tokens rest : List Token) → (is_next (Mark marks.Comma)) tokens ≡ true → item_turn param_at a tokens ≡ Ok (m, rest) → turns_at (is_next (Mark marks.Comma)) (item_turn param_at) keep a tokens ≡ turns_at (is_next (Mark marks.Comma)) (item_turn param_at) keep m rest
param_more a m tokens rest t e = turn_read (is_next (Mark marks.Comma)) (item_turn param_at) keep (shorter 0 param_turning) a tokens m rest t e

pub param_less : (a m : List (Ident × Ty)) (tokens rest : List Token) → (is_next (Mark marks.Comma)) tokens ≡ true → item_turn param_at a tokens ≡ Ok (m, rest) → length rest < length tokens
param_less a m tokens rest t e = shorter 0 param_turning a tokens m rest t e

pub param_err : (a : List (Ident × Ty)) (tokens : List Token) (fault : ReadFault) → (is_next (Mark marks.Comma)) tokens ≡ true → item_turn param_at a tokens ≡ Err fault → turns_at (is_next (Mark marks.Comma)) (item_turn param_at) keep a tokens ≡ Err fault
param_err a tokens fault t e = turn_err (is_next (Mark marks.Comma)) (item_turn param_at) keep (shorter 0 param_turning) a tokens fault t e

pub param_end : (a : List (Ident × Ty)) (tokens : List Token) → (is_next (Mark marks.Comma)) tokens ≡ false → turns_at (is_next (Mark marks.Comma)) (item_turn param_at) keep a tokens ≡ Ok (a, tokens)
param_end a tokens t = end_read (is_next (Mark marks.Comma)) (item_turn param_at) keep (shorter 0 param_turning) a tokens t

pub ruleset all_params = (param_more, param_less, param_err, param_end)

pub txn_more : (a m : List Transaction) (tokens rest : List Token) → begins_txn tokens ≡ true → txn_step a tokens ≡ Ok (m, rest) → turns_at begins_txn (txn_step) keep a tokens ≡ turns_at begins_txn (txn_step) keep m rest
txn_more a m tokens rest t e = turn_read begins_txn (txn_step) keep (shorter 0 txn_turning) a tokens m rest t e

pub txn_less : (a m : List Transaction) (tokens rest : List Token) → begins_txn tokens ≡ true → txn_step a tokens ≡ Ok (m, rest) → length rest < length tokens
txn_less a m tokens rest t e = shorter 0 txn_turning a tokens m rest t e

pub txn_err : (a : List Transaction) (tokens : List Token) (fault : ReadFault) → begins_txn tokens ≡ true → txn_step a tokens ≡ Err fault → turns_at begins_txn (txn_step) keep a tokens ≡ Err fault
txn_err a tokens fault t e = turn_err begins_txn (txn_step) keep (shorter 0 txn_turning) a tokens fault t e

pub txn_end : (a : List Transaction) (tokens : List Token) → begins_txn tokens ≡ false → turns_at begins_txn (txn_step) keep a tokens ≡ Ok (a, tokens)
txn_end a tokens t = end_read begins_txn (txn_step) keep (shorter 0 txn_turning) a tokens t

pub ruleset all_txns = (txn_more, txn_less, txn_err, txn_end)
