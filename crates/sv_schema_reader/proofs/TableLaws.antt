-- Tables: what their items declare, and the limits that they keep.
use Rattle.std.proofs.Common.{◌≡◌, ◌∙◌, ℕ, suc, ◌+◌, ◌≤◌, Bool, true, false, if◌then◌else◌, List, [], ◌∷◌, ◌++◌, length, option_to_list, Option, Some, None, refl, sym, ap, arith, append_assoc, append-nil, cond, codes}
use Rattle.std.specs.List.{AllByRecursion}
use Rattle.std.proofs.lemmas.List.{length-append}
use Rattle.sv_lex.specs.declared.marks.Mark.TheVariants.{LeftParen, RightParen, Comma, Semi, At}
use Rattle.sv_lex.specs.declared.tokens.Token.{Token}
use Rattle.sv_lex.specs.declared.tokens.TokenKind.TheVariants.{Name, Mark}
use Rattle.sv_app.specs.declared.apps.Ident.{Ident}
use Rattle.sv_app.specs.declared.schemas.Kind.{Kind}
use Rattle.sv_app.specs.Schema.{Invariant, Declaration}
use Rattle.sv_schema_reader.specs.Declarations.{columns_of, keys_of, first_key, second_key, invariants_of, declared}
use Rattle.sv_reader.specs.Grammar.{◌·◌, kind, word, name, mark, others, separated}
use Rattle.sv_schema_reader.specs.Grammar.{table_kind, Item, Field, Key, Demand, item, Written, table}
use Rattle.sv_schema_reader.specs.Limits.{IsSmallItem, IsSmallTable}
use Rattle.sv_reader.specs.Reading.{Read, is_kind, is_next, is_name, list_at}
use Rattle.sv_schema_reader.specs.Reading.{demands, with_column, with_key, with_second, with_rule, is_empty, undeclared, item_step, table_at}
use Rattle.sv_schema_reader.proofs.ItemLaws.{small_item}
use Rattle.sv_schema_reader.proofs.ItemStepLaws.{add_item, more_items, ItemRoom, item_stepping, item_step_is}
use Rattle.sv_reader.proofs.ListLaws.{all_added, Rooms, Listed, Any, list, list_limited}
use Rattle.sv_reader.proofs.MadeLaws.{Made, take_limited, skip_limited, skip_last}
use Rattle.sv_reader.proofs.PartLaws.{name_law, assoc_both, both_assoc, kind_first}
use Rattle.sv_schema_reader.proofs.PartLaws.{table_kind_law}
use Rattle.sv_reader.proofs.AnswerLaws.{anything}
use Rattle.sv_reader.proofs.ReadLaws.{Limited, limited, same_limited, same_reading_limited}
use Rattle.sv_schema_reader.proofs.MatterLaws.{schemas}

-- items one after another

columns_append : (xs ys : List Item) → columns_of (xs ++ ys) ≡ columns_of xs ++ columns_of ys
columns_append [] ys = refl
columns_append (Field c ∷ xs) ys = ap (λ l. c ∷ l) (columns_append xs ys)
columns_append (Key first second ∷ xs) ys = columns_append xs ys
columns_append (Demand spot rule ∷ xs) ys = columns_append xs ys

keys_append : (xs ys : List Item) → keys_of (xs ++ ys) ≡ keys_of xs ++ keys_of ys
keys_append [] ys = refl
keys_append (Field c ∷ xs) ys = keys_append xs ys
keys_append (Key first second ∷ xs) ys = ap (λ (l : List (Ident × Option Ident)). (first, second) ∷ l) (keys_append xs ys)
keys_append (Demand spot rule ∷ xs) ys = keys_append xs ys

invariants_append : (count : ℕ) (xs ys : List Item) → invariants_of count (xs ++ ys) ≡ invariants_of count xs ++ invariants_of (count + length (invariants_of count xs)) ys
invariants_append count [] ys = let n : count ≡ count + 0 = omega arith in ap (λ k. invariants_of k ys) n
invariants_append count (Field c ∷ xs) ys = invariants_append count xs ys
invariants_append count (Key first second ∷ xs) ys = invariants_append count xs ys
invariants_append count (Demand spot rule ∷ xs) ys =
    let i : Invariant = record { number = suc count; rule = rule; spot = spot } in
    let n : suc count + length (invariants_of (suc count) xs) ≡ count + suc (length (invariants_of (suc count) xs)) = omega arith in
    ap (λ l. i ∷ l) (invariants_append (suc count) xs ys ∙ ap (λ k. invariants_of (suc count) xs ++ invariants_of k ys) n)

abbrev pub written : Kind → Ident → List Item → Written
written kind name items = record { kind = kind; name = name; items = items }

key_added : (ks : List (Ident × Option Ident)) (d : Declaration) (first : Ident) (second : Option Ident) → d.key ≡ first_key ks → d.second_key ≡ second_key ks
    → with_key d first second ≡ record d { key = first_key (ks ++ (first, second) ∷ []); second_key = second_key (ks ++ (first, second) ∷ []) }
key_added [] d first second k s = ap (λ b. cond b (record d { key = first ∷ option_to_list second }) (with_second d first d.second_key)) (ap is_empty k) ∙ (λ i. record d { key = first ∷ option_to_list second; second_key = s i })
key_added (key ∷ []) d first second k s = ap (λ b. cond b (record d { key = first ∷ option_to_list second }) (with_second d first d.second_key)) (ap is_empty k) ∙ ap (λ x. with_second d first x) s ∙ (λ i. record d { key = k i; second_key = Some first })
key_added (key ∷ other ∷ ks) d first second k s = ap (λ b. cond b (record d { key = first ∷ option_to_list second }) (with_second d first d.second_key)) (ap is_empty k) ∙ ap (λ x. with_second d first x) s ∙ (λ i. record d { key = k i; second_key = s i })

one_added : (count : ℕ) (kind : Kind) (name : Ident) (xs : List Item) (x : Item) → add_item count (declared count (written kind name xs)) x ≡ declared count (written kind name (xs ++ x ∷ []))
one_added count kind name xs (Field c) =
    let cs = columns_append xs (Field c ∷ []) in
    let ks : keys_of (xs ++ Field c ∷ []) ≡ keys_of xs = keys_append xs (Field c ∷ []) ∙ append-nil (keys_of xs) in
    let is : invariants_of count (xs ++ Field c ∷ []) ≡ invariants_of count xs = invariants_append count xs (Field c ∷ []) ∙ append-nil (invariants_of count xs) in
    λ i. record { name = name; kind = kind; columns = sym cs i; key = first_key (sym ks i); second_key = second_key (sym ks i); invs = sym is i }
one_added count kind name xs (Key first second) =
    let cs : columns_of (xs ++ Key first second ∷ []) ≡ columns_of xs = columns_append xs (Key first second ∷ []) ∙ append-nil (columns_of xs) in
    let ks = keys_append xs (Key first second ∷ []) in
    let is : invariants_of count (xs ++ Key first second ∷ []) ≡ invariants_of count xs = invariants_append count xs (Key first second ∷ []) ∙ append-nil (invariants_of count xs) in
    key_added (keys_of xs) (declared count (written kind name xs)) first second refl refl
    ∙ (λ i. record { name = name; kind = kind; columns = sym cs i; key = first_key (sym ks i); second_key = second_key (sym ks i); invs = sym is i })
one_added count kind name xs (Demand spot rule) =
    let cs : columns_of (xs ++ Demand spot rule ∷ []) ≡ columns_of xs = columns_append xs (Demand spot rule ∷ []) ∙ append-nil (columns_of xs) in
    let ks : keys_of (xs ++ Demand spot rule ∷ []) ≡ keys_of xs = keys_append xs (Demand spot rule ∷ []) ∙ append-nil (keys_of xs) in
    let is = invariants_append count xs (Demand spot rule ∷ []) in
    let n : count + length (invariants_of count xs) + 1 ≡ suc (count + length (invariants_of count xs)) = omega arith in
    (λ i. record {
      name = name;
      kind = kind;
      columns = columns_of xs;
      key = first_key (keys_of xs);
      second_key = second_key (keys_of xs);
      invs = invariants_of count xs ++ record { number = n i; rule = rule; spot = spot } ∷ [];
    })
    ∙ (λ i. record { name = name; kind = kind; columns = sym cs i; key = first_key (sym ks i); second_key = second_key (sym ks i); invs = sym is i })

pub declared_all : (count : ℕ) (kind : Kind) (name : Ident) (xs ys : List Item) → all_added (add_item count) (declared count (written kind name xs)) ys ≡ declared count (written kind name (xs ++ ys))
declared_all count kind name xs [] = ap (λ l. declared count (written kind name l)) (sym (append-nil xs))
declared_all count kind name xs (y ∷ ys) =
    ap (λ d. all_added (add_item count) d ys) (one_added count kind name xs y) ∙ declared_all count kind name (xs ++ y ∷ []) ys
    ∙ ap (λ l. declared count (written kind name l)) (append_assoc xs (y ∷ []) ys)

-- the limits of a table

abbrev Fits : Declaration → List Item → Type 0
Fits d xs = (length d.columns + length (columns_of xs) ≤ 16) × (length d.invs + length (invariants_of 0 xs) ≤ 16)

invariants_length : (n k : ℕ) (xs : List Item) → length (invariants_of n xs) ≡ length (invariants_of k xs)
invariants_length n k [] = refl
invariants_length n k (Field c ∷ xs) = invariants_length n k xs
invariants_length n k (Key first second ∷ xs) = invariants_length n k xs
invariants_length n k (Demand spot rule ∷ xs) = ap suc (invariants_length (suc n) (suc k) xs)

key_same : (d : Declaration) (first : Ident) (second : Option Ident) → ((with_key d first second).columns ≡ d.columns) × ((with_key d first second).invs ≡ d.invs)
key_same d first second = by_empty (is_empty d.key) d.second_key
  where
    by_empty : (b : Bool) (x : Option Ident) → ((cond b (record d { key = first ∷ option_to_list second }) (with_second d first x)).columns ≡ d.columns) × ((cond b (record d { key = first ∷ option_to_list second }) (with_second d first x)).invs ≡ d.invs)
    by_empty true x = (refl, refl)
    by_empty false None = (refl, refl)
    by_empty false (Some y) = (refl, refl)

pub rooms_fit : (count : ℕ) (d : Declaration) (xs : List Item) → length d.columns ≤ 16 → length d.invs ≤ 16 → Rooms (add_item count) ItemRoom d xs → Fits d xs
rooms_fit count d [] c i rooms = (omega (arith, c), omega (arith, i))
rooms_fit count d (Field x ∷ xs) c i rooms =
    let more = rooms_fit count (with_column d x) xs (omega (arith, rooms.0, length-append d.columns (x ∷ []))) i rooms.1 in
    (omega (arith, more.0, length-append d.columns (x ∷ [])), more.1)
rooms_fit count d (Key first second ∷ xs) c i rooms =
    let same = key_same d first second in
    let more = rooms_fit count (with_key d first second) xs (rw same.0 c) (rw same.1 i) rooms.1 in
    (omega (arith, more.0, ap length same.0), omega (arith, more.1, ap length same.1))
rooms_fit count d (Demand spot rule ∷ xs) c i rooms =
    let e = with_rule count d (spot, rule) in
    let one : Invariant = record { number = count + length d.invs + 1; rule = rule; spot = spot } in
    let longer : length (d.invs ++ one ∷ []) ≡ length d.invs + 1 = length-append d.invs (one ∷ []) in
    let more = rooms_fit count e xs c (omega (arith, rooms.0, longer)) rooms.1 in
    (more.0, omega (arith, more.1, longer, invariants_length 1 0 xs))

pub fit_rooms : (count : ℕ) (d : Declaration) (xs : List Item) → Fits d xs → Rooms (add_item count) ItemRoom d xs
fit_rooms count d [] fits = tt
fit_rooms count d (Field x ∷ xs) fits = (omega (arith, fits.0), fit_rooms count (with_column d x) xs (omega (arith, fits.0, length-append d.columns (x ∷ [])), fits.1))
fit_rooms count d (Key first second ∷ xs) fits =
    let same = key_same d first second in
    (tt, fit_rooms count (with_key d first second) xs (omega (arith, fits.0, ap length same.0), omega (arith, fits.1, ap length same.1)))
fit_rooms count d (Demand spot rule ∷ xs) fits =
    let one : Invariant = record { number = count + length d.invs + 1; rule = rule; spot = spot } in
    let longer : length (d.invs ++ one ∷ []) ≡ length d.invs + 1 = length-append d.invs (one ∷ []) in
    (omega (arith, fits.1), fit_rooms count (with_rule count d (spot, rule)) xs (fits.0, omega (arith, fits.1, longer, invariants_length 1 0 xs)))

-- elements each of which is small

others_small : (xs : List Item) (l : List Token) → others small_item xs l → others item xs l × AllByRecursion IsSmallItem xs
others_small [] l is = (is, tt)
others_small (x ∷ xs) l b = let more = others_small xs b.then.back b.then.then in
    (record { front = b.front; back = b.back; whole = b.whole; first = b.first; then = record { front = b.then.front; back = b.then.back; whole = b.then.whole; first = b.then.first.0; then = more.0 } }, (b.then.first.1, more.1))

small_others : (xs : List Item) (l : List Token) → others item xs l → AllByRecursion IsSmallItem xs → others small_item xs l
small_others [] l is all = is
small_others (x ∷ xs) l b all = record {
  front = b.front;
  back = b.back;
  whole = b.whole;
  first = b.first;
  then = record { front = b.then.front; back = b.then.back; whole = b.then.whole; first = (b.then.first, all.0); then = small_others xs b.then.back b.then.then all.1 };
}

separated_small : (xs : List Item) (l : List Token) → separated small_item xs l → separated item xs l × AllByRecursion IsSmallItem xs
separated_small [] l never = absurd never
separated_small (x ∷ xs) l b = let more = others_small xs b.back b.then in
    (record { front = b.front; back = b.back; whole = b.whole; first = b.first.0; then = more.0 }, (b.first.1, more.1))

small_separated : (xs : List Item) (l : List Token) → separated item xs l → AllByRecursion IsSmallItem xs → separated small_item xs l
small_separated [] l never all = absurd never
small_separated (x ∷ xs) l b all = record { front = b.front; back = b.back; whole = b.whole; first = (b.first, all.0); then = small_others xs b.back b.then all.1 }

-- the items of a table

abbrev pub small_items : Kind → Ident → List Item → List Token → Type 0
small_items kind name items l = list item items l × IsSmallTable (written kind name items)

pub items_law : (count : ℕ) (kind : Kind) (name : Ident) → Limited schemas anything (Made (λ items. declared count (written kind name items)) (list item)) (Made (λ items. declared count (written kind name items)) (small_items kind name))
    (list_at (item_step count) (undeclared kind name))
items_law count kind name = same_limited
    (same_reading_limited (λ l. ap (λ (step : Declaration → List Token → Read Declaration). list_at step (undeclared kind name) l) (λ i d tokens. item_step_is count d tokens i))
    (list_limited item_stepping (add_item count) comma paren (undeclared kind name) free room))
    into out small_into small_out
  where
    comma : (token : Token) (l : List Token) → token.kind ≡ Mark Comma → is_next (Mark At) (token ∷ l) ≡ false
    comma token l e = ap (λ k. is_kind (Mark At) k) e

    paren : (token : Token) (l : List Token) → token.kind ≡ Mark RightParen → is_next (Mark At) (token ∷ l) ≡ false
    paren token l e = ap (λ k. is_kind (Mark At) k) e

    free : (l : List Token) → more_items (undeclared kind name) l ≡ false
    free l = none (is_name l) (is_next (Name (codes "primary")) l) (demands l)
      where
        none : (a b c : Bool) → (if a then false else if b then false else if c then false else false) ≡ false
        none true b c = refl
        none false true c = refl
        none false false true = refl
        none false false false = refl

    room : (x : Item) → ItemRoom (undeclared kind name) x
    room (Field c) = omega arith
    room (Key first second) = tt
    room (Demand spot rule) = omega arith

    into : (d : Declaration) (l : List Token) → Listed (add_item count) Any (list item) (undeclared kind name) d l → Made (λ items. declared count (written kind name items)) (list item) d l
    into d l listed = record { «from» = listed.items; is = listed.is; made = listed.made ∙ declared_all count kind name [] listed.items }

    any_rooms : (d : Declaration) (xs : List Item) → Rooms (add_item count) Any d xs
    any_rooms d [] = tt
    any_rooms d (x ∷ xs) = (tt, any_rooms (add_item count d x) xs)

    out : (d : Declaration) (l : List Token) → Made (λ items. declared count (written kind name items)) (list item) d l → Listed (add_item count) Any (list item) (undeclared kind name) d l
    out d l m = record { items = m.«from»; made = m.made ∙ sym (declared_all count kind name [] m.«from»); is = m.is; rooms = any_rooms (undeclared kind name) m.«from» }

    small_into : (d : Declaration) (l : List Token) → Listed (add_item count) ItemRoom (list small_item) (undeclared kind name) d l → Made (λ items. declared count (written kind name items)) (small_items kind name) d l
    small_into d l listed =
        let parts = separated_small listed.items listed.is.front listed.is.first in
        let fits = rooms_fit count (undeclared kind name) listed.items (omega arith) (omega arith) listed.rooms in record {
          «from» = listed.items;
          is = (
            record { front = listed.is.front; back = listed.is.back; whole = listed.is.whole; first = parts.0; then = listed.is.then },
            record { columns = omega (arith, fits.0); invariants = omega (arith, fits.1); items = parts.1 },
          );
          made = listed.made ∙ declared_all count kind name [] listed.items;
        }

    small_out : (d : Declaration) (l : List Token) → Made (λ items. declared count (written kind name items)) (small_items kind name) d l → Listed (add_item count) ItemRoom (list small_item) (undeclared kind name) d l
    small_out d l m = record {
      items = m.«from»;
      made = m.made ∙ sym (declared_all count kind name [] m.«from»);
      is = record { front = m.is.0.front; back = m.is.0.back; whole = m.is.0.whole; first = small_separated m.«from» m.is.0.front m.is.0.first m.is.1.items; then = m.is.0.then };
      rooms = fit_rooms count (undeclared kind name) m.«from» (omega (arith, m.is.1.columns), omega (arith, m.is.1.invariants));
    }

-- tables

abbrev pub small_table : Written → List Token → Type 0
small_table t l = table t l × IsSmallTable t

-- a table, with its parentheses grouped as they are read
abbrev grouped : (Kind → Ident → List Item → List Token → Type 0) → Kind → Ident → List Item → List Token → Type 0
grouped Items kind n items = table_kind kind · word (codes "create") · word (codes "table") · name n · mark LeftParen · Items kind n items · mark Semi

abbrev any_items : Kind → Ident → List Item → List Token → Type 0
any_items kind n = list item

abbrev Parts : Type 0
Parts = Kind × (Ident × (Declaration × Unit {0}))

abbrev parts : (Kind → Ident → Declaration → List Token → Type 0) → Declaration → List Token → Type 0
parts D = Made (λ (x : Parts). x.1.1.0) (λ x. table_kind x.0 · word (codes "create") · word (codes "table") · name x.1.0 · mark LeftParen · D x.0 x.1.0 x.1.1.0 · mark Semi)

parts_law : (count : ℕ) → Limited schemas anything (parts (λ kind n. Made (λ items. declared count (written kind n items)) (list item))) (parts (λ kind n. Made (λ items. declared count (written kind n items)) (small_items kind n))) (table_at count)
unfolding table_at
parts_law count = take_limited (λ kind (x : Ident × (Declaration × Unit {0})). x.1.0) (limited table_kind_law)
    (λ kind. skip_limited (Name (codes "create")) (λ (x : Ident × (Declaration × Unit {0})). x.1.0) (skip_limited (Name (codes "table")) (λ (x : Ident × (Declaration × Unit {0})). x.1.0)
    (take_limited (λ n (x : Declaration × Unit {0}). x.0) (limited (name_law schemas anything))
    (λ n. skip_limited (Mark LeftParen) (λ (x : Declaration × Unit {0}). x.0)
    (take_limited (λ d (_ : Unit {0}). d) (items_law count kind n) (λ d. limited (skip_last schemas anything (Mark Semi) d)) (λ d t tokens rest is ends. refl)))
    (λ n t tokens rest is ends. refl))))
    (λ kind x tokens rest is ends. kind_first (Mark At) (Name (codes "create")) _ tokens rest is)

-- the items come last in a table, before its end
regroup : (Items : Kind → Ident → List Item → List Token → Type 0) (count : ℕ) (d : Declaration) (l : List Token)
    → parts (λ kind n. Made (λ items. declared count (written kind n items)) (Items kind n)) d l → Made (λ (t : Written). declared count t) (λ t. grouped Items t.kind t.name t.items) d l
regroup Items count d l m =
    let x = m.«from» in
    let a = m.is in
    let b = a.then in
    let c = b.then in
    let e = c.then in
    let f = e.then in
    let g = f.then in record {
      «from» = written x.0 x.1.0 g.first.«from»;
      is = record {
        front = a.front;
        back = a.back;
        whole = a.whole;
        first = a.first;
        then = record {
          front = b.front;
          back = b.back;
          whole = b.whole;
          first = b.first;
          then = record {
            front = c.front;
            back = c.back;
            whole = c.whole;
            first = c.first;
            then = record {
              front = e.front;
              back = e.back;
              whole = e.whole;
              first = e.first;
              then = record { front = f.front; back = f.back; whole = f.whole; first = f.first; then = record { front = g.front; back = g.back; whole = g.whole; first = g.first.is; then = g.then } };
            };
          };
        };
      };
      made = m.made ∙ g.first.made;
    }

ungroup : (Items : Kind → Ident → List Item → List Token → Type 0) (count : ℕ) (d : Declaration) (l : List Token)
    → Made (λ (t : Written). declared count t) (λ t. grouped Items t.kind t.name t.items) d l → parts (λ kind n. Made (λ items. declared count (written kind n items)) (Items kind n)) d l
ungroup Items count d l m =
    let t = m.«from» in
    let a = m.is in
    let b = a.then in
    let c = b.then in
    let e = c.then in
    let f = e.then in
    let g = f.then in record {
      «from» = (t.kind, (t.name, (declared count t, tt)));
      is = record {
        front = a.front;
        back = a.back;
        whole = a.whole;
        first = a.first;
        then = record {
          front = b.front;
          back = b.back;
          whole = b.whole;
          first = b.first;
          then = record {
            front = c.front;
            back = c.back;
            whole = c.whole;
            first = c.first;
            then = record {
              front = e.front;
              back = e.back;
              whole = e.whole;
              first = e.first;
              then = record {
                front = f.front;
                back = f.back;
                whole = f.whole;
                first = f.first;
                then = record {
                  front = g.front;
                  back = g.back;
                  whole = g.whole;
                  first = record { «from» = t.items; is = g.first; made = refl };
                  then = g.then;
                };
              };
            };
          };
        };
      };
      made = m.made;
    }

-- as the grammar has it

-- behind the first parenthesis
deep : {Q R : List Token → Type 0} (t : Written) → ((l : List Token) → Q l → R l) → (l : List Token) → (table_kind t.kind · word (codes "create") · word (codes "table") · name t.name · mark LeftParen · Q) l
    → (table_kind t.kind · word (codes "create") · word (codes "table") · name t.name · mark LeftParen · R) l
deep t map l a =
    let b = a.then in
    let c = b.then in
    let e = c.then in
    let f = e.then in
    record {
      front = a.front;
      back = a.back;
      whole = a.whole;
      first = a.first;
      then = record {
        front = b.front;
        back = b.back;
        whole = b.whole;
        first = b.first;
        then = record {
          front = c.front;
          back = c.back;
          whole = c.whole;
          first = c.first;
          then = record {
            front = e.front;
            back = e.back;
            whole = e.whole;
            first = e.first;
            then = record { front = f.front; back = f.back; whole = f.whole; first = f.first; then = map f.back f.then };
          };
        };
      };
    }

small_of : (t : Written) (l : List Token) → grouped small_items t.kind t.name t.items l → IsSmallTable t
small_of t l a = a.then.then.then.then.then.first.1

pub table_law : (count : ℕ) → Limited schemas anything (Made (λ (t : Written). declared count t) table) (Made (λ (t : Written). declared count t) small_table) (table_at count)
table_law count = same_limited (parts_law count)
    (λ d l p. let m = regroup any_items count d l p in record { «from» = m.«from»; is = deep m.«from» (λ x b. assoc_both b) l m.is; made = m.made })
    (λ d l m. ungroup any_items count d l (record { «from» = m.«from»; is = deep m.«from» (λ x b. both_assoc b) l m.is; made = m.made }))
    (λ d l p. let m = regroup small_items count d l p in record {
      «from» = m.«from»;
      is = (deep m.«from» (λ x b. assoc_both (record { front = b.front; back = b.back; whole = b.whole; first = b.first.0; then = b.then })) l m.is, small_of m.«from» l m.is);
      made = m.made;
    })
    (λ d l m. ungroup small_items count d l (record {
      «from» = m.«from»;
      is = deep m.«from» (λ x b. let c = both_assoc b in record { front = c.front; back = c.back; whole = c.whole; first = (c.first, m.is.1); then = c.then }) l m.is.0;
      made = m.made;
    }))
