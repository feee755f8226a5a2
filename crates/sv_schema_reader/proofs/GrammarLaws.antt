-- Tables that were read keep the grammar, and their invariants are numbered in order of writing.
use Rattle.std.proofs.Common.{◌≡◌, ◌≢◌, ℕ, suc, ◌+◌, ◌≤◌, List, [], ◌∷◌, ◌++◌, length, Option, Some, None, refl, sym, subst, arith}
use Rattle.std.specs.List.{All, AllByRecursion, flat_map}
use Rattle.std.proofs.lemmas.List.Elements.{All-nil, All-cons}
use Rattle.sv_lex.specs.declared.tokens.Token.{Token}
use Rattle.sv_app.specs.declared.apps.Ident.{Ident}
use Rattle.sv_app.specs.declared.schemas.Ty.{Ty}
use Rattle.sv_app.specs.declared.schemas.Ty.TheVariants as types
use Rattle.sv_app.specs.Conditions.{KeepsRule, KeepsTable, KeepsGrammar, AreNumberedFrom, AreNumbered}
use Rattle.sv_app.specs.Schema.{Bound, OneOf, Different, Refers, Invariant, Declaration}
use Rattle.sv_schema_reader.specs.Declarations.{columns_of, keys_of, first_key, invariants_of, declared, declared_behind, all_declared}
use Rattle.sv_reader.specs.Grammar.{text, others, separated}
use Rattle.sv_schema_reader.specs.Grammar.{Item, Field, Key, Demand, Written, column_type, item, table, tables, schema}
use Rattle.sv_schema_reader.specs.Refused.{IsRead}

not_list : (ty : Ty) (tokens : List Token) → column_type ty tokens → ty ≢ types.Ints
not_list types.Int tokens is = λ e. absurd cc
not_list types.Text tokens is = λ e. absurd cc
not_list types.Ints tokens is = λ e. absurd is

some_texts : (texts : List (List ℕ)) (tokens : List Token) → separated text texts tokens → 1 ≤ length texts
some_texts [] tokens is = absurd is
some_texts (t ∷ texts) tokens is = omega arith

-- what an item keeps
abbrev Keeps : Item → Type 0
Keeps (Field c) = c.ty ≢ types.Ints
Keeps (Key first second) = Unit {0}
Keeps (Demand spot rule) = KeepsRule rule

kept_item : (i : Item) (tokens : List Token) → item i tokens → Keeps i
kept_item (Field c) tokens is = not_list c.ty is.then.front is.then.first
kept_item (Key first second) tokens is = tt
kept_item (Demand spot (Bound check)) tokens is = tt
kept_item (Demand spot (OneOf col texts)) tokens is = some_texts texts is.then.then.then.then.then.front is.then.then.then.then.then.first
kept_item (Demand spot (Different col)) tokens is = tt
kept_item (Demand spot (Refers col referred target)) tokens is = tt

kept_others : (items : List Item) (tokens : List Token) → others item items tokens → AllByRecursion Keeps items
kept_others [] tokens are = tt
kept_others (i ∷ items) tokens are = (kept_item i are.then.front are.then.first, kept_others items are.then.back are.then.then)

kept_items : (items : List Item) (tokens : List Token) → separated item items tokens → AllByRecursion Keeps items
kept_items [] tokens are = absurd are
kept_items (i ∷ items) tokens are = (kept_item i are.front are.first, kept_others items are.back are.then)

some_items : (items : List Item) (tokens : List Token) → separated item items tokens → 1 ≤ length items
some_items [] tokens are = absurd are
some_items (i ∷ items) tokens are = omega arith

kept_columns : (items : List Item) → AllByRecursion Keeps items → All (λ c. c.ty ≢ types.Ints) (columns_of items)
kept_columns [] kept = All-nil (λ c. c.ty ≢ types.Ints)
kept_columns (Field c ∷ items) kept = All-cons (λ c. c.ty ≢ types.Ints) c (columns_of items) kept.0 (kept_columns items kept.1)
kept_columns (Key first second ∷ items) kept = kept_columns items kept.1
kept_columns (Demand spot rule ∷ items) kept = kept_columns items kept.1

kept_rules : (count : ℕ) (items : List Item) → AllByRecursion Keeps items → All (λ inv. KeepsRule inv.rule) (invariants_of count items)
kept_rules count [] kept = All-nil (λ inv. KeepsRule inv.rule)
kept_rules count (Field c ∷ items) kept = kept_rules count items kept.1
kept_rules count (Key first second ∷ items) kept = kept_rules count items kept.1
kept_rules count (Demand spot rule ∷ items) kept =
    All-cons (λ inv. KeepsRule inv.rule) (record { number = suc count; rule = rule; spot = spot }) (invariants_of (suc count) items) kept.0 (kept_rules (suc count) items kept.1)

few_names : (keys : List (Ident × Option Ident)) → length (first_key keys) ≤ 2
few_names [] = omega arith
few_names ((first, None) ∷ others) = omega arith
few_names ((first, Some second) ∷ others) = omega arith

some_part : (count : ℕ) (items : List Item) → 1 ≤ length items → 1 ≤ length (columns_of items) + length (first_key (keys_of items)) + length (invariants_of count items)
some_part count [] some = absurd (omega (arith, some))
some_part count (Field c ∷ items) some = omega arith
some_part count (Key first second ∷ items) some = omega arith
some_part count (Demand spot rule ∷ items) some = omega arith

kept_table : (count : ℕ) (t : Written) (tokens : List Token) → table t tokens → KeepsTable (declared count t)
kept_table count t tokens is =
    let kept : AllByRecursion Keeps t.items = kept_items t.items is.then.then.then.then.then.front is.then.then.then.then.then.first in
    let some : 1 ≤ length t.items = some_items t.items is.then.then.then.then.then.front is.then.then.then.then.then.first in
    record {
      any = some_part count t.items some;
      key = few_names (keys_of t.items);
      columns = kept_columns t.items kept;
      rules = kept_rules count t.items kept;
    }

kept_tables : (count : ℕ) (ts : List Written) (tokens : List Token) → tables ts tokens → All KeepsTable (declared_behind count ts)
kept_tables count [] tokens are = All-nil KeepsTable
kept_tables count (t ∷ ts) tokens are =
    All-cons KeepsTable (declared count t) (declared_behind (count + length (invariants_of count t.items)) ts)
    (kept_table count t are.front are.first) (kept_tables (count + length (invariants_of count t.items)) ts are.back are.then)

kept_schema : (ts : List Written) (tokens : List Token) → schema ts tokens → KeepsGrammar (all_declared ts)
kept_schema [] tokens is = absurd is
kept_schema (t ∷ ts) tokens is = record { any = omega arith; each = kept_tables 0 (t ∷ ts) tokens is }

pub grammar_of : (tokens rest : List Token) (declarations : List Declaration) → IsRead tokens rest declarations → KeepsGrammar declarations
grammar_of tokens rest declarations read = subst KeepsGrammar (sym read.declares) (kept_schema read.tables tokens read.is)

numbered_on : (number : ℕ) (xs ys : List Invariant) → AreNumberedFrom number xs → AreNumberedFrom (number + length xs) ys → AreNumberedFrom number (xs ++ ys)
numbered_on number [] ys first rest = let same : number + 0 ≡ number = omega arith in subst (λ n. AreNumberedFrom n ys) same rest
numbered_on number (x ∷ xs) ys first rest =
    let same : number + suc (length xs) ≡ suc number + length xs = omega arith in (first.0, numbered_on (suc number) xs ys first.1 (subst (λ n. AreNumberedFrom n ys) same rest))

numbered_items : (count : ℕ) (items : List Item) → AreNumberedFrom (suc count) (invariants_of count items)
numbered_items count [] = tt
numbered_items count (Field c ∷ items) = numbered_items count items
numbered_items count (Key first second ∷ items) = numbered_items count items
numbered_items count (Demand spot rule ∷ items) = (refl, numbered_items (suc count) items)

numbered_tables : (count : ℕ) (ts : List Written) → AreNumberedFrom (suc count) (flat_map (λ t. t.invs) (declared_behind count ts))
numbered_tables count [] = tt
numbered_tables count (t ∷ ts) =
    let same : suc (count + length (invariants_of count t.items)) ≡ suc count + length (invariants_of count t.items) = omega arith in
    numbered_on (suc count) (invariants_of count t.items) (flat_map (λ u. u.invs) (declared_behind (count + length (invariants_of count t.items)) ts)) (numbered_items count t.items)
    (subst (λ n. AreNumberedFrom n (flat_map (λ u. u.invs) (declared_behind (count + length (invariants_of count t.items)) ts))) same (numbered_tables (count + length (invariants_of count t.items)) ts))

pub numbers_of : (tokens rest : List Token) (declarations : List Declaration) → IsRead tokens rest declarations → AreNumbered declarations
numbers_of tokens rest declarations read = subst AreNumbered (sym read.declares) (numbered_tables 0 read.tables)
