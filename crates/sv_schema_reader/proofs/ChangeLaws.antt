-- A check that begins in a schema may be changed: another invariant that keeps the limits stands there as well.
use Rattle.std.proofs.Common.{◌≡◌, ◌∙◌, ℕ, suc, ◌≤◌, ◌⊎◌, inl, inr, true, false, List, [], ◌∷◌, ◌++◌, length, Option, Some, None, refl, sym, ap, subst, arith, append_assoc, codes}
use Rattle.std.specs.List.{AllByRecursion}
use Rattle.sv_value.specs.declared.spots.Spot.{Spot}
use Rattle.sv_lex.specs.declared.marks.Mark.TheVariants.{LeftParen, RightParen, Comma, Semi, At}
use Rattle.sv_lex.specs.declared.tokens.Token.{Token}
use Rattle.sv_lex.specs.declared.tokens.TokenKind.{TokenKind}
use Rattle.sv_lex.specs.declared.tokens.TokenKind.TheVariants.{Name, Text, Mark}
use Rattle.sv_app.specs.Words.{is_reserved}
use Rattle.sv_app.specs.declared.apps.Ident.{Ident}
use Rattle.sv_app.specs.declared.schemas.Column.{Column}
use Rattle.sv_app.specs.declared.schemas.Kind.{Kind}
use Rattle.sv_app.specs.declared.schemas.Kind.TheVariants as kinds
use Rattle.sv_app.specs.declared.schemas.Merge.{Merge}
use Rattle.sv_app.specs.declared.schemas.Merge.TheVariants as merges
use Rattle.sv_app.specs.declared.schemas.Ty.{Ty}
use Rattle.sv_app.specs.declared.schemas.Ty.TheVariants as types
use Rattle.sv_app.specs.Schema.{Rule, Bound, OneOf, Different, Refers}
use Rattle.sv_reader.specs.Grammar.{◌·◌, Both, One, kind, mark, IsName, name, text, others, separated}
use Rattle.sv_reader.specs.Reading.{is_kind}
use Rattle.sv_reader.proofs.KindLaws.{kind_same}
use Rattle.sv_schema_reader.specs.Declarations.{columns_of, invariants_of}
use Rattle.sv_schema_reader.specs.Grammar.{table_kind, column_type, merge_kind, column, key_names, invariant, Item, Field, Key, Demand, item, Written, table, tables, schema}
use Rattle.sv_schema_reader.specs.Limits.{IsSmallRule, IsSmallItem, IsSmallTable, AreSmall}
use Rattle.sv_schema_reader.proofs.ClearLaws.{Clear, tail_of, Past, Inside, either_part, nowhere, skip, kind_clear, both_clear}
use Rattle.sv_schema_reader.proofs.InCheckLaws.{names_clear, side_clear, order_clear}

abbrev pub IsCheckWord : TokenKind → Type 0
IsCheckWord k = k ≡ Name (codes "check")

other_kind : (k : TokenKind) → is_kind (Name (codes "check")) k ≡ false → IsCheckWord k → ⊥
other_kind k other e = let bad : true ≡ false = sym (kind_same (Name (codes "check"))) ∙ ap (λ x. is_kind (Name (codes "check")) x) (sym e) ∙ other in absurd cc

free_name : (bytes : List ℕ) → is_reserved bytes ≡ false → IsCheckWord (Name bytes) → ⊥
unfolding is_reserved
free_name bytes free e = let same : bytes ≡ codes "check" = cc in let bad : true ≡ false = ap is_reserved (sym same) ∙ free in absurd cc

no_name : (ident : Ident) (token : Token) → IsName ident token → IsCheckWord token.kind → ⊥
no_name ident token is e = free_name ident.name is.1 (sym is.0 ∙ e)

-- parts with no such word

abbrev W : TokenKind → Type 0
W = IsCheckWord

by_kind : (k : TokenKind) (l : List Token) → kind k l → is_kind (Name (codes "check")) k ≡ false → Clear W l
by_kind k l is other = kind_clear W k l is (other_kind k other)

by_name : (ident : Ident) (l : List Token) → name ident l → Clear W l
by_name = names_clear W no_name (λ n e. absurd cc) (λ e. absurd cc) (λ e. absurd cc)

two_kinds : (j k : TokenKind) (l : List Token) → (kind j · kind k) l → is_kind (Name (codes "check")) j ≡ false → is_kind (Name (codes "check")) k ≡ false → Clear W l
two_kinds j k l b e f = both_clear W l b (by_kind j b.front b.first e) (by_kind k b.back b.then f)

none_clear : (l : List Token) → l ≡ [] → Clear W l
none_clear l e = subst (Clear W) (sym e) tt

table_kind_clear : (k : Kind) (l : List Token) → table_kind k l → Clear W l
table_kind_clear kinds.Plain l is = none_clear l is
table_kind_clear kinds.Aoset l is = two_kinds (Mark At) (Name (codes "AOSET")) l is refl refl
table_kind_clear kinds.Uoset l is = two_kinds (Mark At) (Name (codes "UOSET")) l is refl refl
table_kind_clear kinds.Auset l is = two_kinds (Mark At) (Name (codes "AUSET")) l is refl refl
table_kind_clear kinds.Arset l is = two_kinds (Mark At) (Name (codes "ARSET")) l is refl refl

type_clear : (ty : Ty) (l : List Token) → column_type ty l → Clear W l
type_clear types.Int l is = by_kind (Name (codes "int")) l is refl
type_clear types.Text l is = by_kind (Name (codes "text")) l is refl
type_clear types.Ints l is = absurd is

merge_clear : (m : Merge) (l : List Token) → merge_kind m l → Clear W l
merge_clear merges.Plain l is = none_clear l is
merge_clear merges.Lww l is = two_kinds (Mark At) (Name (codes "LWW")) l is refl refl
merge_clear merges.NumDelta l is = two_kinds (Mark At) (Name (codes "NUMDELTA")) l is refl refl
merge_clear merges.Fresh l is = two_kinds (Mark At) (Name (codes "FRESH")) l is refl refl

column_clear : (c : Column) (l : List Token) → column c l → Clear W l
column_clear c l b = both_clear W l b (by_name c.name b.front b.first) (both_clear W b.back b.then (type_clear c.ty b.then.front b.then.first) (merge_clear c.merge b.then.back b.then.then))

key_names_clear : (first : Ident) (second : Option Ident) (l : List Token) → key_names first second l → Clear W l
key_names_clear first None l is = by_name first l is
key_names_clear first (Some second) l b = both_clear W l b (by_name first b.front b.first) (both_clear W b.back b.then (by_kind (Mark Comma) b.then.front b.then.first refl) (by_name second b.then.back b.then.then))

paren_clear : {F : List Token → Type 0} (l : List Token) (b : Both F (mark RightParen) l) → Clear W b.front → Clear W l
paren_clear {F} l b f = both_clear W l b f (by_kind (Mark RightParen) b.back b.then refl)

key_clear : (first : Ident) (second : Option Ident) (l : List Token) → item (Key first second) l → Clear W l
key_clear first second l b =
    let c = b.then in
    let d = c.then in
    both_clear W l b (by_kind (Name (codes "primary")) b.front b.first refl) (both_clear W b.back c (by_kind (Name (codes "key")) c.front c.first refl)
    (both_clear W c.back d (by_kind (Mark LeftParen) d.front d.first refl) (paren_clear d.back d.then (key_names_clear first second d.then.front d.then.first))))

others_texts : (texts : List (List ℕ)) (l : List Token) → others text texts l → Clear W l
others_texts [] l is = none_clear l is
others_texts (t ∷ texts) l b = both_clear W l b (by_kind (Mark Comma) b.front b.first refl) (both_clear W b.back b.then (by_kind (Text t) b.then.front b.then.first refl) (others_texts texts b.then.back b.then.then))

texts_clear : (texts : List (List ℕ)) (l : List Token) → separated text texts l → Clear W l
texts_clear [] l never = absurd never
texts_clear (t ∷ texts) l b = both_clear W l b (by_kind (Text t) b.front b.first refl) (others_texts texts b.back b.then)

-- an invariant has it at most in front
pub record Tailed (tokens : List Token) : Type 0 where
  pub token : Token
  pub others : List Token
  pub whole : tokens ≡ token ∷ others
  pub clear : Clear IsCheckWord others

tailed : {Holds : Token → Type 0} {G : List Token → Type 0} (l : List Token) (b : Both (One Holds) G l) → Clear W b.back → Tailed l
tailed {Holds} {G} l b clear = record { token = b.first.token; others = b.back; whole = b.whole ∙ ap (λ x. x ++ b.back) b.first.only; clear = clear }

pub demand_tailed : (spot : Spot) (rule : Rule) (l : List Token) → invariant spot rule l → Tailed l
demand_tailed spot (Different col) l b =
    let c = b.then in
    tailed l b (both_clear W b.back c (by_kind (Mark LeftParen) c.front c.first refl) (paren_clear c.back c.then (by_name col c.then.front c.then.first)))
demand_tailed spot (OneOf col texts) l b =
    let c = b.then in
    let d = c.then in
    let e = d.then in
    let f = e.then in
    tailed l b (both_clear W b.back c (by_kind (Mark LeftParen) c.front c.first refl) (both_clear W c.back d (by_name col d.front d.first) (both_clear W d.back e (by_kind (Name (codes "in")) e.front e.first refl)
    (both_clear W e.back f (by_kind (Mark LeftParen) f.front f.first refl) (both_clear W f.back f.then (texts_clear texts f.then.front f.then.first) (two_kinds (Mark RightParen) (Mark RightParen) f.then.back f.then.then refl refl))))))
demand_tailed spot (Bound check) l b =
    let c = b.then in
    let d = c.then in
    let w = d.first.written in
    let sides = side_clear W no_name (λ n e. absurd cc) (λ e. absurd cc) (λ e. absurd cc) in
    tailed l b (both_clear W b.back c (by_kind (Mark LeftParen) c.front c.first refl) (paren_clear c.back d
    (both_clear W d.front w (sides d.first.left w.front w.first)
    (both_clear W w.back w.then (order_clear W (λ e. absurd cc) (λ e. absurd cc) (λ e. absurd cc) (λ e. absurd cc) d.first.by w.then.front w.then.first) (sides d.first.right w.then.back w.then.then)))))
demand_tailed spot (Refers col target column) l b =
    let c = b.then in
    let d = c.then in
    let e = d.then in
    let f = e.then in
    let g = f.then in
    let h = g.then in
    let j = h.then in
    tailed l b (both_clear W b.back c (by_kind (Name (codes "key")) c.front c.first refl) (both_clear W c.back d (by_kind (Mark LeftParen) d.front d.first refl) (both_clear W d.back e (by_name col e.front e.first)
    (both_clear W e.back f (by_kind (Mark RightParen) f.front f.first refl) (both_clear W f.back g (by_kind (Name (codes "references")) g.front g.first refl) (both_clear W g.back h (by_name target h.front h.first)
    (both_clear W h.back j (by_kind (Mark LeftParen) j.front j.first refl) (paren_clear j.back j.then (by_name column j.then.front j.then.first)))))))))

abbrev IsDemand : Item → Type 0
IsDemand (Field c) = ⊥
IsDemand (Key first second) = ⊥
IsDemand (Demand spot rule) = Unit {0}

joined : {F G : List Token → Type 0} (before front rest tail : List Token) → before ≡ front ++ rest → F front → G (rest ++ tail) → Both F G (before ++ tail)
joined {F} {G} before front rest tail e f g = record { front = front; back = rest ++ tail; whole = ap (λ l. l ++ tail) e ∙ append_assoc front rest tail; first = f; then = g }

others_of : (xs : List Item) (a b : List Token) → mark Comma a → separated item xs b → others item xs (a ++ b)
others_of [] a b comma never = absurd never
others_of (x ∷ xs) a b comma is = record { front = a; back = b; whole = refl; first = comma; then = is }

columns_more : (i : Item) (xs ys : List Item) → columns_of xs ≡ columns_of ys → columns_of (i ∷ xs) ≡ columns_of (i ∷ ys)
columns_more (Field c) xs ys e = ap (λ l. c ∷ l) e
columns_more (Key first second) xs ys e = e
columns_more (Demand spot rule) xs ys e = e

abbrev SameCount : List Item → List Item → Type 0
SameCount xs ys = (n : ℕ) → length (invariants_of n xs) ≡ length (invariants_of n ys)

count_more : (i : Item) (xs ys : List Item) → SameCount xs ys → SameCount (i ∷ xs) (i ∷ ys)
count_more (Field c) xs ys e n = e n
count_more (Key first second) xs ys e n = e n
count_more (Demand spot rule) xs ys e n = ap suc (e (suc n))

as_tables : (ts : List Written) (l : List Token) → schema ts l → tables ts l
as_tables [] l never = absurd never
as_tables (t ∷ ts) l is = is

as_schema : (now ts : List Written) (l m : List Token) → length now ≡ length ts → schema ts l → tables now m → schema now m
as_schema now [] l m e never is = absurd never
as_schema [] (t ∷ ts) l m e was is = absurd (omega (arith, e))
as_schema (t ∷ now) (u ∷ ts) l m e was is = is

module _ (word : Token) (w : IsCheckWord word.kind) (spot : Spot) (rule : Rule) (inside : List Token) (new : item (Demand spot rule) (word ∷ inside)) (fits : IsSmallRule rule) where
  abbrev behind : List Token → List Token
  behind rest = word ∷ (inside ++ rest)

  one_item : (i : Item) (l before more : List Token) → item i l → l ≡ before ++ word ∷ more → (before ≡ []) × IsDemand i
  one_item (Field c) l before more is e = absurd (nowhere IsCheckWord l before more word (column_clear c l is) w e)
  one_item (Key first second) l before more is e = absurd (nowhere IsCheckWord l before more word (key_clear first second l is) w e)
  one_item (Demand place other) l before more is e = (by_before before e, tt)
    where
      t : Tailed l
      t = demand_tailed place other l is

      by_before : (b : List Token) → l ≡ b ++ word ∷ more → b ≡ []
      by_before [] e = refl
      by_before (y ∷ b) e = absurd (nowhere IsCheckWord t.others b more word t.clear w (tail_of (sym t.whole ∙ e)))

  record ChangedItems (L : List Item → List Token → Type 0) (items : List Item) (before : List Token) : Type 0 where
    pub now : List Item
    pub rest : List Token
    pub is : L now (before ++ behind rest)
    pub columns : columns_of now ≡ columns_of items
    pub count : SameCount now items
    pub small : AllByRecursion IsSmallItem items → AllByRecursion IsSmallItem now

  changed_pair : (i : Item) (items : List Item) → ((l before more : List Token) → others item items l → l ≡ before ++ word ∷ more → ChangedItems (others item) items before)
      → (l before more : List Token) → separated item (i ∷ items) l → l ≡ before ++ word ∷ more → ChangedItems (separated item) (i ∷ items) before
  changed_pair i items ih l before more b e = by_part (either_part b.front b.back before more word (sym b.whole ∙ e))
    where
      same_columns : (i : Item) → IsDemand i → columns_of items ≡ columns_of (i ∷ items)
      same_columns (Field c) never = absurd never
      same_columns (Key first second) never = absurd never
      same_columns (Demand place other) is = refl

      same_count : (i : Item) → IsDemand i → SameCount (Demand spot rule ∷ items) (i ∷ items)
      same_count (Field c) never = absurd never
      same_count (Key first second) never = absurd never
      same_count (Demand place other) is = λ n. refl

      by_part : Inside b.front b.back before word more ⊎ Past b.front b.back before word more → ChangedItems (separated item) (i ∷ items) before
      by_part (inl a) = let one = one_item i b.front before a.rest b.first a.front_is in record {
        now = Demand spot rule ∷ items;
        rest = b.back;
        is = record { front = word ∷ inside; back = b.back; whole = ap (λ x. x ++ behind b.back) one.0; first = new; then = b.then };
        columns = same_columns i one.1;
        count = same_count i one.1;
        small = λ all. (fits, all.1);
      }
      by_part (inr a) = let next = ih b.back a.rest more b.then a.back_is in record {
        now = i ∷ next.now;
        rest = next.rest;
        is = joined _ _ _ (behind next.rest) a.before_is b.first next.is;
        columns = columns_more i next.now items next.columns;
        count = count_more i next.now items next.count;
        small = λ all. (all.0, next.small all.1);
      }

  changed_others : (items : List Item) (l before more : List Token) → others item items l → l ≡ before ++ word ∷ more → ChangedItems (others item) items before
  changed_others [] l before more is e = absurd (nowhere IsCheckWord [] before more word tt w (sym is ∙ e))
  changed_others (i ∷ items) l before more b e =
      let p = skip IsCheckWord b.front b.back before more word (by_kind (Mark Comma) b.front b.first refl) w (sym b.whole ∙ e) in
      let next = changed_pair i items (changed_others items) b.back p.rest more b.then p.back_is in record {
        now = next.now;
        rest = next.rest;
        is = subst (others item next.now) (sym (ap (λ x. x ++ behind next.rest) p.before_is ∙ append_assoc b.front p.rest (behind next.rest))) (others_of next.now b.front (p.rest ++ behind next.rest) b.first next.is);
        columns = next.columns;
        count = next.count;
        small = next.small;
      }

  changed_separated : (items : List Item) (l before more : List Token) → separated item items l → l ≡ before ++ word ∷ more → ChangedItems (separated item) items before
  changed_separated [] l before more never e = absurd never
  changed_separated (i ∷ items) l before more b e = changed_pair i items (changed_others items) l before more b e

  record ChangedTable (t : Written) (before : List Token) : Type 0 where
    pub now : Written
    pub rest : List Token
    pub is : table now (before ++ behind rest)
    pub small : IsSmallTable t → IsSmallTable now

  changed_table : (t : Written) (l before more : List Token) → table t l → l ≡ before ++ word ∷ more → ChangedTable t before
  changed_table t l before more b e =
      let p1 = skip IsCheckWord b.front b.back before more word (table_kind_clear t.kind b.front b.first) w (sym b.whole ∙ e) in
      let b2 = b.then in
      let p2 = skip IsCheckWord b2.front b2.back p1.rest more word (by_kind (Name (codes "create")) b2.front b2.first refl) w (sym b2.whole ∙ p1.back_is) in
      let b3 = b2.then in
      let p3 = skip IsCheckWord b3.front b3.back p2.rest more word (by_kind (Name (codes "table")) b3.front b3.first refl) w (sym b3.whole ∙ p2.back_is) in
      let b4 = b3.then in
      let p4 = skip IsCheckWord b4.front b4.back p3.rest more word (by_name t.name b4.front b4.first) w (sym b4.whole ∙ p3.back_is) in
      let b5 = b4.then in
      let p5 = skip IsCheckWord b5.front b5.back p4.rest more word (by_kind (Mark LeftParen) b5.front b5.first refl) w (sym b5.whole ∙ p4.back_is) in
      let b6 = b5.then in
      let next = by_part b6.front b6.back p5.rest b6.first b6.then (either_part b6.front b6.back p5.rest more word (sym b6.whole ∙ p5.back_is)) in
      let tail = behind (next.rest ++ b6.back) in
      let same : p5.rest ++ tail ≡ (p5.rest ++ behind next.rest) ++ b6.back
      = ap (λ x. p5.rest ++ (word ∷ x)) (sym (append_assoc inside next.rest b6.back)) ∙ sym (append_assoc p5.rest (behind next.rest) b6.back) in record {
        now = record { kind = t.kind; name = t.name; items = next.now };
        rest = next.rest ++ b6.back;
        is = joined _ _ _ tail p1.before_is b.first (joined _ _ _ tail p2.before_is b2.first (joined _ _ _ tail p3.before_is b3.first (joined _ _ _ tail p4.before_is b4.first (joined _ _ _ tail p5.before_is b5.first
            (record { front = p5.rest ++ behind next.rest; back = b6.back; whole = same; first = next.is; then = b6.then })))));
        small = λ s. record {
          columns = subst (λ x. length x ≤ 16) (sym next.columns) s.columns;
          invariants = subst (λ n. n ≤ 16) (sym (next.count 0)) s.invariants;
          items = next.small s.items;
        };
      }
    where
      by_part : (front back start : List Token) → separated item t.items front → (mark RightParen · mark Semi) back → Inside front back start word more ⊎ Past front back start word more
          → ChangedItems (separated item) t.items start
      by_part front back start is close (inl a) = changed_separated t.items front start a.rest is a.front_is
      by_part front back start is close (inr a) = absurd (nowhere IsCheckWord back a.rest more word (two_kinds (Mark RightParen) (Mark Semi) back close refl refl) w a.back_is)

  record ChangedTables (ts : List Written) (before : List Token) : Type 0 where
    pub now : List Written
    pub rest : List Token
    pub is : tables now (before ++ behind rest)
    pub count : length now ≡ length ts
    pub small : AllByRecursion IsSmallTable ts → AllByRecursion IsSmallTable now

  changed_tables : (ts : List Written) (l before more : List Token) → tables ts l → l ≡ before ++ word ∷ more → ChangedTables ts before
  changed_tables [] l before more is e = absurd (nowhere IsCheckWord [] before more word tt w (sym is ∙ e))
  changed_tables (t ∷ ts) l before more b e = by_part (λ start. changed_tables ts b.back start more b.then) (either_part b.front b.back before more word (sym b.whole ∙ e))
    where
      by_part : ((start : List Token) → b.back ≡ start ++ word ∷ more → ChangedTables ts start) → Inside b.front b.back before word more ⊎ Past b.front b.back before word more → ChangedTables (t ∷ ts) before
      by_part ih (inl a) = let next = changed_table t b.front before a.rest b.first a.front_is in record {
        now = next.now ∷ ts;
        rest = next.rest ++ b.back;
        is = record {
          front = before ++ behind next.rest;
          back = b.back;
          whole = ap (λ x. before ++ (word ∷ x)) (sym (append_assoc inside next.rest b.back)) ∙ sym (append_assoc before (behind next.rest) b.back);
          first = next.is;
          then = b.then;
        };
        count = refl;
        small = λ all. (next.small all.0, all.1);
      }
      by_part ih (inr a) = let next = ih a.rest a.back_is in record {
        now = t ∷ next.now;
        rest = next.rest;
        is = joined _ _ _ (behind next.rest) a.before_is b.first next.is;
        count = ap suc next.count;
        small = λ all. (all.0, next.small all.1);
      }

  -- a schema that keeps the limits, and the changed one
  pub record Changed (before : List Token) : Type 0 where
    pub now : List Written
    pub rest : List Token
    pub is : schema now (before ++ (word ∷ (inside ++ rest)))
    pub small : AreSmall now

  pub changed : (ts : List Written) (before more : List Token) → schema ts (before ++ word ∷ more) → AreSmall ts → Changed before
  changed ts before more is small = let next = changed_tables ts (before ++ word ∷ more) before more (as_tables ts (before ++ word ∷ more) is) refl in record {
    now = next.now;
    rest = next.rest;
    is = as_schema next.now ts (before ++ word ∷ more) (before ++ behind next.rest) next.count is next.is;
    small = record { count = subst (λ n. n ≤ 16) (sym next.count) small.count; each = next.small small.each };
  }
