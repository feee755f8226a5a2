-- Tables that were read keep the limits of acceptance.
use Rattle.std.proofs.Common.{◌≡◌, ℕ, suc, ◌+◌, List, [], ◌∷◌, length, refl, sym, ap, subst, arith}
use Rattle.std.specs.List.{All, AllByRecursion}
use Rattle.std.proofs.lemmas.List.Elements.{All-nil, All-cons}
use Rattle.sv_lex.specs.declared.tokens.Token.{Token}
use Rattle.sv_app.specs.Conditions as conditions
use Rattle.sv_app.specs.Conditions.{KeepsLimits}
use Rattle.sv_app.specs.Schema.{Rule, Bound, OneOf, Different, Refers, Invariant, Declaration}
use Rattle.sv_schema_reader.specs.Declarations.{invariants_of, declared, declared_behind, all_declared}
use Rattle.sv_schema_reader.specs.Grammar.{Item, Field, Key, Demand, Written}
use Rattle.sv_schema_reader.specs.Limits.{IsSmallRule, IsSmallItem, IsSmallTable, AreSmall}
use Rattle.sv_schema_reader.specs.Refused.{IsRead}

small_rule : (rule : Rule) → IsSmallRule rule → conditions.IsSmallRule rule
small_rule (Bound check) small = tt
small_rule (OneOf col texts) small = small
small_rule (Different col) small = tt
small_rule (Refers col table target) small = tt

abbrev Small : Invariant → Type 0
Small inv = conditions.IsSmallRule inv.rule

small_rules : (count : ℕ) (items : List Item) → AllByRecursion IsSmallItem items → All Small (invariants_of count items)
small_rules count [] small = All-nil Small
small_rules count (Field c ∷ items) small = small_rules count items small.1
small_rules count (Key first second ∷ items) small = small_rules count items small.1
small_rules count (Demand spot rule ∷ items) small =
    All-cons Small (record { number = suc count; rule = rule; spot = spot }) (invariants_of (suc count) items) (small_rule rule small.0) (small_rules (suc count) items small.1)

same_count : (a b : ℕ) (items : List Item) → length (invariants_of a items) ≡ length (invariants_of b items)
same_count a b [] = refl
same_count a b (Field c ∷ items) = same_count a b items
same_count a b (Key first second ∷ items) = same_count a b items
same_count a b (Demand spot rule ∷ items) = ap suc (same_count (suc a) (suc b) items)

small_table : (count : ℕ) (t : Written) → IsSmallTable t → conditions.IsSmallTable (declared count t)
small_table count t small = record {
  columns = small.columns;
  invariants = let same : length (invariants_of count t.items) ≡ length (invariants_of 0 t.items) = same_count count 0 t.items in omega (arith, same, small.invariants);
  rules = small_rules count t.items small.items;
}

small_tables : (count : ℕ) (tables : List Written) → AllByRecursion IsSmallTable tables → All conditions.IsSmallTable (declared_behind count tables)
small_tables count [] small = All-nil conditions.IsSmallTable
small_tables count (t ∷ tables) small =
    All-cons conditions.IsSmallTable (declared count t) (declared_behind (count + length (invariants_of count t.items)) tables)
    (small_table count t small.0) (small_tables (count + length (invariants_of count t.items)) tables small.1)

same_tables : (count : ℕ) (tables : List Written) → length (declared_behind count tables) ≡ length tables
same_tables count [] = refl
same_tables count (t ∷ tables) = ap suc (same_tables (count + length (invariants_of count t.items)) tables)

-- tables that keep the limits of the grammar keep those of acceptance
pub small_limits : (tables : List Written) → AreSmall tables → KeepsLimits (all_declared tables)
small_limits tables small = record {
  count = let same : length (all_declared tables) ≡ length tables = same_tables 0 tables in omega (arith, same, small.count);
  each = small_tables 0 tables small.each;
}

pub limits_of : (tokens rest : List Token) (declarations : List Declaration) → IsRead tokens rest declarations → KeepsLimits declarations
limits_of tokens rest declarations read = subst KeepsLimits (sym read.declares) (small_limits read.tables read.small)
