-- Lists between commas.
use Rattle.std.proofs.Common.{◌≡◌, ◌∙◌, ℕ, ◌<◌, Bool, true, false, ◌||◌, if◌then◌else◌, List, [], ◌∷◌, ◌++◌, length, Ok, Err, refl, sym, ap, subst, append_assoc, append-nil}
use Rattle.sv_lex.specs.declared.marks.Mark.TheVariants as marks
use Rattle.sv_lex.specs.declared.tokens.Token.{Token}
use Rattle.sv_lex.specs.declared.tokens.TokenKind.TheVariants.{Mark}
use Rattle.sv_app.specs.declared.apps.Ident.{Ident}
use Rattle.sv_app.specs.Trees.{Term}
use Rattle.sv_reader.specs.declared.faults.ReadFault.{ReadFault}
use Rattle.sv_reader.specs.Reading.{Read, ◌>>=◌, is_kind, is_next, kind_at, turns_at}
use Rattle.sv_txn_reader.specs.Grammar.{◌·◌, nothing, mark, others, separated, expr, keys, index, setting}
use Rattle.sv_reader.specs.Reading.{keep}
use Rattle.sv_txn_reader.specs.Reading.{expr_at, keys_at, index_at, setting_at, item_step, item_turn, list_of, value_at, set_at}
use Rattle.sv_txn_reader.proofs.ExprLaws.{expr_law}
use Rattle.sv_txn_reader.proofs.FactorLaws.{adds}
use Rattle.sv_reader.proofs.AnswerLaws.{anything}
use Rattle.sv_txn_reader.proofs.PlacedLaws.{Law, map_law, clash_law, Then, then_law}
use Rattle.sv_txn_reader.proofs.LimitLaws.{places}
use Rattle.sv_reader.proofs.AnswerLaws.{next_alike}
use Rattle.sv_reader.proofs.FuelLaws.{turn_read, turn_err, end_read}
use Rattle.sv_txn_reader.proofs.PieceLaws.{kind_next, name_law, Made, take, take_last, skip, skip_last, ended, Either, Left, Right, either_law, Turns, Stop, Turn, Turning, lawful_turning, turns_law, shorter}

abbrev pub joins : List Token → Bool
joins tokens = adds tokens || is_next (Mark marks.Comma) tokens

pub or_false : (a b : Bool) → a || b ≡ false → (a ≡ false) × (b ≡ false)
or_false false false e = (refl, refl)
or_false false true e = absurd cc
or_false true b e = absurd cc

pub comma_clear : (l r : List Token) → mark marks.Comma l r → adds l ≡ false
comma_clear l r is = ap adds is.next ∙ ap (λ k. (is_kind (Mark marks.Dot) k || is_kind (Mark marks.Star) k) || (is_kind (Mark marks.Plus) k || is_kind (Mark marks.Minus) k)) is.holds

-- keys

abbrev MoreKeys : Term → ℕ → List Term → List Token → List Token → Type 0
MoreKeys first = Either (Made (λ (second : Term). first ∷ second ∷ []) (λ i second. mark marks.Comma · expr i second)) (Made (λ (_ : Unit {0}). first ∷ []) (λ _ _. nothing))

more_keys : (first : Term) → Law places joins (MoreKeys first)
    (λ r1. if is_next (Mark marks.Comma) r1 then (kind_at (Mark marks.Comma) r1 >>= λ _ r2. expr_at r2 >>= λ second r3. Ok (first ∷ second ∷ [], r3)) else Ok (first ∷ [], r1))
more_keys first = either_law (is_next (Mark marks.Comma)) (next_alike (λ token. is_kind (Mark marks.Comma) token.kind))
    (skip (Mark marks.Comma) (λ (second : Term). first ∷ second ∷ []) (take_last (λ (second : Term). first ∷ second ∷ []) (clash_law (λ l clear. (or_false (adds l) (is_next (Mark marks.Comma) l) clear).0) expr_law)))
    (ended places joins (first ∷ []))
    (λ i ks l r m. kind_next (Mark marks.Comma) l m.is.middle m.is.first)
    (λ i ks l r m clear. subst (λ x. is_next (Mark marks.Comma) x ≡ false) (sym m.is) (or_false (adds r) (is_next (Mark marks.Comma) r) clear).1)

pub keys_law : Law places joins keys keys_at
unfolding keys_at
keys_law = map_law (then_law places expr MoreKeys expr_at
    (λ first r1. if is_next (Mark marks.Comma) r1 then (kind_at (Mark marks.Comma) r1 >>= λ _ r2. expr_at r2 >>= λ second r3. Ok (first ∷ second ∷ [], r3)) else Ok (first ∷ [], r1))
    expr_law more_keys near) into out
  where
    near : (i : ℕ) (first : Term) (ks : List Term) (l r : List Token) → MoreKeys first i ks l r → joins r ≡ false → adds l ≡ false
    near i first ks l r (Left m) clear = comma_clear l m.is.middle m.is.first
    near i first ks l r (Right m) clear = subst (λ x. adds x ≡ false) (sym m.is) (or_false (adds r) (is_next (Mark marks.Comma) r) clear).0

    into : (i : ℕ) (ks : List Term) (l r : List Token) → Then expr MoreKeys i ks l r → keys i ks l r
    into i ks l r t = by_more t.second
      where
        by_more : MoreKeys t.head i ks t.middle r → keys i ks l r
        by_more (Left m) = subst (λ x. keys i x l r) (sym m.made) (record { middle = t.middle; first = t.first; second = m.is })
        by_more (Right m) = subst (λ x. keys i x l r) (sym m.made) (subst (λ x. expr i t.head l x) m.is t.first)

    out : (i : ℕ) (ks : List Term) (l r : List Token) → keys i ks l r → Then expr MoreKeys i ks l r
    out i [] l r is = absurd is
    out i (e ∷ []) l r is = record { head = e; middle = r; first = is; second = Right (record { «from» = tt; is = refl; made = refl }) }
    out i (e ∷ f ∷ []) l r is = record { head = e; middle = is.middle; first = is.first; second = Left (record { «from» = f; is = is.second; made = refl }) }
    out i (e ∷ f ∷ g ∷ ks) l r is = absurd is

bracket_clear : (l r : List Token) → mark marks.RightBracket l r → joins l ≡ false
bracket_clear l r is = ap joins is.next
    ∙ ap (λ k. ((is_kind (Mark marks.Dot) k || is_kind (Mark marks.Star) k) || (is_kind (Mark marks.Plus) k || is_kind (Mark marks.Minus) k)) || is_kind (Mark marks.Comma) k) is.holds

pub index_law : (clash : List Token → Bool) → Law places clash index index_at
unfolding index_at
index_law clash = map_law (skip (Mark marks.LeftBracket) (λ (x : List Term × Unit {0}). x.0) (take (λ (ks : List Term) (_ : Unit {0}). ks) keys_law (λ ks. skip_last places clash (Mark marks.RightBracket) ks) (λ i ks t l r is clear. bracket_clear l r is)))
    (λ i ks l r m. subst (λ x. index i x l r) (sym m.made) m.is) (λ i ks l r is. record { «from» = (ks, tt); is = is; made = refl })

pub setting_law : Law places adds setting setting_at
unfolding setting_at
setting_law = map_law (take {before = anything} (λ (x : Ident) (e : Term). (x, e)) (name_law places anything) (λ x. skip (Mark marks.Eq) (λ (e : Term). (x, e)) (take_last (λ (e : Term). (x, e)) expr_law)) (λ i x e l r is clear. refl))
    (λ i s l r m. subst (λ x. setting i x l r) (sym m.made) m.is) (λ i s l r is. record { «from» = s; is = is; made = refl })

-- items

-- {"," item}, behind others
abbrev pub more_items : {A : Type 0} → (List A → ℕ → A → List Token → List Token → Type 0) → ℕ → List A → List A → List Token → List Token → Type 0
more_items X i s [] = nothing
more_items X i s (a ∷ more) = mark marks.Comma · X s i a · more_items X i (s ++ a ∷ []) more

pub record Listed {A : Type 0} (X : List A → ℕ → A → List Token → List Token → Type 0) (i : ℕ) (items : List A) (tokens rest : List Token) : Type 0 where
  pub head : A
  pub more : List A
  pub middle : List Token
  pub first : X [] i head tokens middle
  pub next : more_items X i (head ∷ []) more middle rest
  pub made : items ≡ head ∷ more

module _ {A : Type 0} {before clash : List Token → Bool} {X : List A → ℕ → A → List Token → List Token → Type 0} {read : List A → List Token → Read A}
    (law : (s : List A) → Law places before (X s) (read s))
    (comma : (l r : List Token) → mark marks.Comma l r → before l ≡ false)
    (ends : (l : List Token) → clash l ≡ false → before l ≡ false) (stops : (l : List Token) → clash l ≡ false → is_next (Mark marks.Comma) l ≡ false) where
  abbrev pub ItemTurn : List A → ℕ → List A → List Token → List Token → Type 0
  ItemTurn s = Made (λ (a : A). s ++ a ∷ []) (λ i a. mark marks.Comma · X s i a)

  step_law : (s : List A) → Law places before (Made (λ (a : A). s ++ a ∷ []) (X s)) (item_step read s)
  unfolding item_step
  step_law s = take_last (λ (a : A). s ++ a ∷ []) (law s)

  turn_law : (s : List A) → Law places before (ItemTurn s) (item_turn read s)
  unfolding item_turn
  turn_law s = skip (Mark marks.Comma) (λ (a : A). s ++ a ∷ []) (step_law s)

  pub item_turning : Turning places before clash (is_next (Mark marks.Comma)) (item_turn read) ItemTurn
  item_turning = lawful_turning (next_alike (λ token. is_kind (Mark marks.Comma) token.kind)) refl turn_law (λ s i m l r t. kind_next (Mark marks.Comma) l t.is.middle t.is.first) (λ s i m l r t. comma l t.is.middle t.is.first) ends stops

  -- turns are items
  pub record Items (s : List A) (i : ℕ) (e : List A) (l r : List Token) : Type 0 where
    pub more : List A
    pub made : e ≡ s ++ more
    pub is : more_items X i s more l r

  turns_items : (i : ℕ) (s e : List A) (l r : List Token) → Turns ItemTurn i s e l r → Items s i e l r
  turns_items i _ _ _ _ (Stop s l r is) = record { more = []; made = sym (append-nil s); is = is }
  turns_items i _ _ _ _ (Turn s m e l middle r first next) =
      let rest = turns_items i m e middle r next in record {
        more = first.«from» ∷ rest.more;
        made = rest.made ∙ ap (λ x. x ++ rest.more) first.made ∙ append_assoc s (first.«from» ∷ []) rest.more;
        is = record { middle = first.is.middle; first = first.is.first; second = record { middle = middle; first = first.is.second; second = subst (λ x. more_items X i x rest.more middle r) first.made rest.is } };
      }

  items_turns : (i : ℕ) (s more : List A) (l r : List Token) → more_items X i s more l r → Turns ItemTurn i s (s ++ more) l r
  items_turns i s [] l r is = subst (λ x. Turns ItemTurn i s x l r) (sym (append-nil s)) (Stop s l r is)
  items_turns i s (a ∷ more) l r is = Turn s (s ++ a ∷ []) (s ++ a ∷ more) l is.second.middle r (record { «from» = a; is = record { middle = is.middle; first = is.first; second = is.second.first }; made = refl })
      (subst (λ x. Turns ItemTurn i (s ++ a ∷ []) x is.second.middle r) (append_assoc s (a ∷ []) more) (items_turns i (s ++ a ∷ []) more is.second.middle r is.second.second))

  pub list_law : Law places clash (Listed X) (list_of read)
  unfolding list_of
  list_law = map_law (then_law places (Made (λ (a : A). a ∷ []) (X [])) (λ s i. Turns ItemTurn i s) (item_step read []) (λ s r. turns_at (is_next (Mark marks.Comma)) (item_turn read) keep s r)
      (step_law []) (λ s. turns_law 0 item_turning s) near) into out
    where
      near : (i : ℕ) (s e : List A) (l r : List Token) → Turns ItemTurn i s e l r → clash r ≡ false → before l ≡ false
      near i _ _ _ _ (Stop s l r is) clear = ends l (subst (λ x. clash x ≡ false) (sym is) clear)
      near i _ _ _ _ (Turn s m e l middle r first next) clear = comma l first.is.middle first.is.first

      into : (i : ℕ) (e : List A) (l r : List Token) → Then (Made (λ (a : A). a ∷ []) (X [])) (λ s i. Turns ItemTurn i s) i e l r → Listed X i e l r
      into i e l r t = let more = turns_items i t.head e t.middle r t.second in record {
        head = t.first.«from»;
        more = more.more;
        middle = t.middle;
        first = t.first.is;
        next = subst (λ s. more_items X i s more.more t.middle r) t.first.made more.is;
        made = more.made ∙ ap (λ x. x ++ more.more) t.first.made;
      }

      out : (i : ℕ) (e : List A) (l r : List Token) → Listed X i e l r → Then (Made (λ (a : A). a ∷ []) (X [])) (λ s i. Turns ItemTurn i s) i e l r
      out i e l r x = record {
        head = x.head ∷ [];
        middle = x.middle;
        first = record { «from» = x.head; is = x.first; made = refl };
        second = subst (λ y. Turns ItemTurn i (x.head ∷ []) y x.middle r) (sym x.made) (items_turns i (x.head ∷ []) x.more x.middle r x.next);
      }

-- lists of the grammar

constant_items : {A : Type 0} (X : ℕ → A → List Token → List Token → Type 0) (i : ℕ) (s more : List A) (l r : List Token) → more_items (λ _. X) i s more l r → others (X i) more l r
constant_items X i s [] l r is = is
constant_items X i s (a ∷ more) l r is = record { middle = is.middle; first = is.first; second = record { middle = is.second.middle; first = is.second.first; second = constant_items X i (s ++ a ∷ []) more is.second.middle r is.second.second } }

items_constant : {A : Type 0} (X : ℕ → A → List Token → List Token → Type 0) (i : ℕ) (s more : List A) (l r : List Token) → others (X i) more l r → more_items (λ _. X) i s more l r
items_constant X i s [] l r is = is
items_constant X i s (a ∷ more) l r is = record { middle = is.middle; first = is.first; second = record { middle = is.second.middle; first = is.second.first; second = items_constant X i (s ++ a ∷ []) more is.second.middle r is.second.second } }

listed_separated : {A : Type 0} (X : ℕ → A → List Token → List Token → Type 0) (i : ℕ) (items : List A) (l r : List Token) → Listed (λ _. X) i items l r → separated (X i) items l r
listed_separated X i items l r x = subst (λ y. separated (X i) y l r) (sym x.made) (record { middle = x.middle; first = x.first; second = constant_items X i (x.head ∷ []) x.more x.middle r x.next })

separated_listed : {A : Type 0} (X : ℕ → A → List Token → List Token → Type 0) (i : ℕ) (items : List A) (l r : List Token) → separated (X i) items l r → Listed (λ _. X) i items l r
separated_listed X i [] l r is = absurd is
separated_listed X i (a ∷ more) l r is = record { head = a; more = more; middle = is.middle; first = is.first; next = items_constant X i (a ∷ []) more is.middle r is.second; made = refl }

joins_adds : (l : List Token) → joins l ≡ false → adds l ≡ false
joins_adds l clear = (or_false (adds l) (is_next (Mark marks.Comma) l) clear).0

joins_comma : (l : List Token) → joins l ≡ false → is_next (Mark marks.Comma) l ≡ false
joins_comma l clear = (or_false (adds l) (is_next (Mark marks.Comma) l) clear).1

value_law : (s : List Term) → Law places adds expr (value_at s)
unfolding value_at
value_law s = expr_law

set_law : (s : List (Ident × Term)) → Law places adds setting (set_at s)
unfolding set_at
set_law s = setting_law

pub values_law : Law places joins (λ i. separated (expr i)) (list_of value_at)
values_law = map_law (list_law value_law comma_clear joins_adds joins_comma) (listed_separated expr) (separated_listed expr)

pub sets_law : Law places joins (λ i. separated (setting i)) (list_of set_at)
sets_law = map_law (list_law set_law comma_clear joins_adds joins_comma) (listed_separated setting) (separated_listed setting)

-- one turn more

value_turning : Turning places adds joins (is_next (Mark marks.Comma)) (item_turn value_at) (λ s. Made (λ (a : Term). s ++ a ∷ []) (λ i a. mark marks.Comma · expr i a))
value_turning = item_turning value_law comma_clear joins_adds joins_comma

set_turning : Turning places adds joins (is_next (Mark marks.Comma)) (item_turn set_at) (λ s. Made (λ (a : Ident × Term). s ++ a ∷ []) (λ i a. mark marks.Comma · setting i a))
set_turning = item_turning set_law comma_clear joins_adds joins_comma

pub value_more : (a m : List Term) (tokens rest : List Token) → (is_next (Mark marks.Comma)) tokens ≡ true → item_turn value_at a tokens ≡ Ok (m, rest) → turns_at (is_next (Mark marks.Comma)) (item_turn value_at) keep a tokens ≡ turns_at (is_next (Mark marks.Comma)) (item_turn value_at) keep m rest
value_more a m tokens rest t e = turn_read (is_next (Mark marks.Comma)) (item_turn value_at) keep (shorter 0 value_turning) a tokens m rest t e

pub value_less : (a m : List Term) (tokens rest : List Token) → (is_next (Mark marks.Comma)) tokens ≡ true → item_turn value_at a tokens ≡ Ok (m, rest) → length rest < length tokens
value_less a m tokens rest t e = shorter 0 value_turning a tokens m rest t e

pub value_err : (a : List Term) (tokens : List Token) (fault : ReadFault) → (is_next (Mark marks.Comma)) tokens ≡ true → item_turn value_at a tokens ≡ Err fault → turns_at (is_next (Mark marks.Comma)) (item_turn value_at) keep a tokens ≡ Err fault
value_err a tokens fault t e = turn_err (is_next (Mark marks.Comma)) (item_turn value_at) keep (shorter 0 value_turning) a tokens fault t e

pub value_end : (a : List Term) (tokens : List Token) → (is_next (Mark marks.Comma)) tokens ≡ false → turns_at (is_next (Mark marks.Comma)) (item_turn value_at) keep a tokens ≡ Ok (a, tokens)
value_end a tokens t = end_read (is_next (Mark marks.Comma)) (item_turn value_at) keep (shorter 0 value_turning) a tokens t

pub ruleset values = (value_more, value_less, value_err, value_end)

pub set_more : (a m : List (Ident × Term)) (tokens rest : List Token) → (is_next (Mark marks.Comma)) tokens ≡ true → item_turn set_at a tokens ≡ Ok (m, rest) → turns_at (is_next (Mark marks.Comma)) (item_turn set_at) keep a tokens ≡ turns_at (is_next (Mark marks.Comma)) (item_turn set_at) keep m rest
set_more a m tokens rest t e = turn_read (is_next (Mark marks.Comma)) (item_turn set_at) keep (shorter 0 set_turning) a tokens m rest t e

pub set_less : (a m : List (Ident × Term)) (tokens rest : List Token) → (is_next (Mark marks.Comma)) tokens ≡ true → item_turn set_at a tokens ≡ Ok (m, rest) → length rest < length tokens
set_less a m tokens rest t e = shorter 0 set_turning a tokens m rest t e

pub set_err : (a : List (Ident × Term)) (tokens : List Token) (fault : ReadFault) → (is_next (Mark marks.Comma)) tokens ≡ true → item_turn set_at a tokens ≡ Err fault → turns_at (is_next (Mark marks.Comma)) (item_turn set_at) keep a tokens ≡ Err fault
set_err a tokens fault t e = turn_err (is_next (Mark marks.Comma)) (item_turn set_at) keep (shorter 0 set_turning) a tokens fault t e

pub set_end : (a : List (Ident × Term)) (tokens : List Token) → (is_next (Mark marks.Comma)) tokens ≡ false → turns_at (is_next (Mark marks.Comma)) (item_turn set_at) keep a tokens ≡ Ok (a, tokens)
set_end a tokens t = end_read (is_next (Mark marks.Comma)) (item_turn set_at) keep (shorter 0 set_turning) a tokens t

pub ruleset sets = (set_more, set_less, set_err, set_end)
