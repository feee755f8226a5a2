-- The first invariant that passes a test is the least; and the first reason is that of the first way in which a change threatens one.
use Rattle.std.proofs.Common.{◌≡◌, ◌∙◌, ◌⊎◌, inl, inr, ℕ, zero, suc, ◌+◌, ◌-◌, ◌<◌, ◌≤◌, Bool, true, false, List, [], ◌∷◌, ◌++◌, length, map, take, drop, get_or, Option, Some, None, slice_get, refl, sym, ap, subst, arith}
use Rattle.std.specs.Prelude.{if◌then◌else◌, IfSome}
use Rattle.std.specs.List.{flat_map, Contains}
use Rattle.std.proofs.lemmas.List.{take_all}
use Rattle.sv_app.specs.declared.reasons.Reason.{Reason}
use Rattle.sv_app.specs.declared.reasons.Reason.TheVariants as reasons
use Rattle.sv_app.specs.declared.schemas.Inv.{Inv}
use Rattle.sv_app.specs.declared.schemas.Table.{Table}
use Rattle.sv_app.specs.Accepted.{AcceptedSchema}
use Rattle.sv_app.specs.Conditions.{AreNumberedFrom}
use Rattle.sv_app.specs.Schema.{Rule, Invariant, Declaration, declaration_of, schema_of, invariant_of}
use Rattle.sv_app.specs.Valid.{IsInvariant}
use Rattle.sv_app.proofs.ListLaws.{Stands, contained, contains_at, flat_stands, stands_in, StandsIn, same_some}
use Rattle.sv_effect.specs.declared.ops.RowEffect.{RowEffect}
use Rattle.sv_effect.specs.Fits.{SuitsTable, FitsSchema}
use Rattle.sv_effect.specs.RunChanges.{Effect, effect_of}
use Rattle.sv_effect.specs.Threatened.{is_plain_change, IsThreat, Threatened}
use Rattle.sv_gains.specs.Gains.{Teller, AreGains}
use Rattle.sv_threat.specs.declared.ways.Way.{Way}
use Rattle.sv_threat.specs.declared.ways.Way.TheVariants.{Unique, Child, Parent, Check as Checked, List as Listed}
use Rattle.sv_threat.specs.First.{IsReason, IsFirstReason}
use Rattle.sv_threat.specs.FirstThreat.{rank, invariant_in, IsBefore}
use Rattle.sv_threat.specs.Tests.{threatens, By, reason_by, first_number, rules_of, is_anywhere, rules_for, least_by, reason_or, first_among, in_order, is_plain_in, AreTold}
use Rattle.sv_threat.proofs.PlainLaws.{plain_in, unplain_in}
use Rattle.sv_threat.proofs.TestLaws.{IsOwn, threat_means, means_threat, own_table, parent_means, means_parent, apart}

-- ---- what the functions answer, step by step

pub found_front : (test : Rule → Bool) (xs ys : List Invariant) (o : Option ℕ) (n : ℕ) → o ≡ first_number test xs → o ≡ Some n → Some n ≡ first_number test (xs ++ ys)
found_front test [] ys o n is found = absurd cc
found_front test (x ∷ xs) ys o n is found = by (test x.rule) (λ is. found_front test xs ys o n is found) is
  where
    by : (b : Bool) → (o ≡ first_number test xs → Some n ≡ first_number test (xs ++ ys)) → o ≡ (if b then Some x.number else first_number test xs)
        → Some n ≡ (if b then Some x.number else first_number test (xs ++ ys))
    by true ih is = sym found ∙ is
    by false ih is = ih is

pub found_back : (test : Rule → Bool) (xs ys : List Invariant) (o r : Option ℕ) → o ≡ first_number test xs → o ≡ None → r ≡ first_number test ys → r ≡ first_number test (xs ++ ys)
found_back test [] ys o r is none_found later = later
found_back test (x ∷ xs) ys o r is none_found later = by (test x.rule) (λ is. found_back test xs ys o r is none_found later) is
  where
    by : (b : Bool) → (o ≡ first_number test xs → r ≡ first_number test (xs ++ ys)) → o ≡ (if b then Some x.number else first_number test xs)
        → r ≡ (if b then Some x.number else first_number test (xs ++ ys))
    by true ih is = let clash : Some x.number ≡ None = sym is ∙ none_found in absurd cc
    by false ih is = ih is

-- the first of a list of tables
pub found_first : (test : Rule → Bool) (tables : List Table) (table : Table) (o : Option ℕ) (n : ℕ) → 1 ≤ length tables → table ≡ get_or tables 0 table → o ≡ first_number test (map invariant_of table.invs.items)
    → o ≡ Some n → Some n ≡ first_number test (flat_map (λ t. t.invs) (schema_of tables))
found_first test [] table o n some is found number = absurd (omega (arith, some))
found_first test (x ∷ tables) table o n some is found number =
    found_front test (map invariant_of x.invs.items) (flat_map (λ t. t.invs) (schema_of tables)) o n (found ∙ ap (λ (t : Table). first_number test (map invariant_of t.invs.items)) is) number

whole_rest : (x : Table) (tables : List Table) → take (length (x ∷ tables) - 1) tables ≡ tables
whole_rest x tables = take_all (length (x ∷ tables) - 1) tables (omega arith)

pub found_later : (test : Rule → Bool) (tables : List Table) (table : Table) (o r : Option ℕ) → 1 ≤ length tables → table ≡ get_or tables 0 table → o ≡ first_number test (map invariant_of table.invs.items)
    → o ≡ None → r ≡ first_number test (flat_map (λ t. t.invs) (schema_of (take (length tables - 1) (drop 1 tables)))) → r ≡ first_number test (flat_map (λ t. t.invs) (schema_of tables))
found_later test [] table o r some is found none_found later = absurd (omega (arith, some))
found_later test (x ∷ tables) table o r some is found none_found later =
    found_back test (map invariant_of x.invs.items) (flat_map (λ t. t.invs) (schema_of tables)) o r (found ∙ ap (λ (t : Table). first_number test (map invariant_of t.invs.items)) is) none_found
    (later ∙ ap (λ ts. first_number test (flat_map (λ t. t.invs) (schema_of ts))) (whole_rest x tables))

rules_here : (tables : List Table) (n : ℕ) (table : Table) → n < length tables → table ≡ get_or tables n table → slice_get (schema_of tables) n ≡ Some (declaration_of table)
rules_here [] n table less is = absurd (omega (arith, less))
rules_here (x ∷ tables) zero table less is = ap (λ (t : Table). Some (declaration_of t)) (sym is)
rules_here (x ∷ tables) (suc n) table less is = rules_here tables n table (omega (arith, less)) is

pub table_here : (tables : List Table) (n : ℕ) (table : Table) → n < length tables → table ≡ get_or tables n table → slice_get (schema_of tables) n ≡ Some (declaration_of table)
table_here tables n table less is = rules_here tables n table less is

pub within_tables : (tables : List Table) (n : ℕ) (d : Declaration) → slice_get (schema_of tables) n ≡ Some d → n < length tables
within_tables [] n d at = absurd cc
within_tables (x ∷ tables) zero d at = omega arith
within_tables (x ∷ tables) (suc n) d at = omega (arith, within_tables tables n d at)

pub table_fits : (tables : List Table) (e : RowEffect) → FitsSchema (schema_of tables) e → e.table < length tables
table_fits tables e fits = within_tables tables e.table fits.table fits.declared

pub own_least : (way : Way) (tables : List Table) (told : Teller) (e : RowEffect) (table : Table) (r : Option ℕ) → e.table < length tables → table ≡ get_or tables e.table table → is_anywhere way ≡ false
    → r ≡ first_number (threatens way (schema_of tables) told (effect_of e)) (map invariant_of table.invs.items) → r ≡ least_by way (schema_of tables) told (effect_of e)
own_least way tables told e table r less is own found =
    found ∙ (λ i. first_number (threatens way (schema_of tables) told (effect_of e)) (rules_of (sym (rules_here tables e.table table less is) i)))
    ∙ (λ i. first_number (threatens way (schema_of tables) told (effect_of e)) (if sym own i then flat_map (λ t. t.invs) (schema_of tables) else rules_of (slice_get (schema_of tables) e.table)))

pub all_least : (way : Way) (tables : List Table) (told : Teller) (e : RowEffect) (r : Option ℕ) → is_anywhere way ≡ true
    → r ≡ first_number (threatens way (schema_of tables) told (effect_of e)) (flat_map (λ t. t.invs) (schema_of tables)) → r ≡ least_by way (schema_of tables) told (effect_of e)
all_least way tables told e r anywhere found =
    found ∙ (λ i. first_number (threatens way (schema_of tables) told (effect_of e)) (if sym anywhere i then flat_map (λ t. t.invs) (schema_of tables) else rules_of (slice_get (schema_of tables) e.table)))

pub reason_some : (way : Way) (o least : Option ℕ) (n : ℕ) (r : Reason) (other : Option Reason) → o ≡ least → o ≡ Some n → r ≡ reason_by way n → Some r ≡ reason_or way least other
reason_some way o least n r other is found same = ap (λ x. Some x) same ∙ ap (λ x. reason_or way x other) (sym found ∙ is)

pub reason_none : (way : Way) (o least : Option ℕ) (r other : Option Reason) → o ≡ least → o ≡ None → r ≡ other → r ≡ reason_or way least other
reason_none way o least r other is found same = same ∙ ap (λ x. reason_or way x other) (sym found ∙ is)

pub ruleset searching = (table_fits, own_least, all_least, reason_some, reason_none)

-- ---- the least

abbrev IsLeast : (ℕ → Type 0) → Option ℕ → Type 0
IsLeast P None = (n : ℕ) → P n → ⊥
IsLeast P (Some n) = P n × ((other : ℕ) → P other → other < n → ⊥)

record Passed (test : Rule → Bool) (invs : List Invariant) (n : ℕ) : Type 0 where
  place : ℕ
  inv : Invariant
  at : slice_get invs place ≡ Some inv
  is : test inv.rule ≡ true
  named : inv.number ≡ n
  before : (earlier : ℕ) (other : Invariant) → earlier < place → slice_get invs earlier ≡ Some other → test other.rule ≡ false

inv_same : (a b : Invariant) → Some a ≡ Some b → a ≡ b
inv_same a b e = cc

none_passed : (test : Rule → Bool) (invs : List Invariant) → first_number test invs ≡ None → (place : ℕ) (inv : Invariant) → slice_get invs place ≡ Some inv → test inv.rule ≡ false
none_passed test [] found place inv at = absurd cc
none_passed test (x ∷ invs) found place inv at = by (test x.rule) refl found (none_passed test invs) place at
  where
    by : (b : Bool) → test x.rule ≡ b → (if b then Some x.number else first_number test invs) ≡ None
        → (first_number test invs ≡ None → (place : ℕ) (inv : Invariant) → slice_get invs place ≡ Some inv → test inv.rule ≡ false) → (place : ℕ) → slice_get (x ∷ invs) place ≡ Some inv → test inv.rule ≡ false
    by true is found ih place at = absurd cc
    by false is found ih zero at = ap (λ (v : Invariant). test v.rule) (sym (inv_same x inv at)) ∙ is
    by false is found ih (suc place) at = ih found place inv at

number_same : (a b : ℕ) → Some a ≡ Some b → a ≡ b
number_same a b e = cc

some_passed : (test : Rule → Bool) (invs : List Invariant) (n : ℕ) → first_number test invs ≡ Some n → Passed test invs n
some_passed test [] n found = absurd cc
some_passed test (x ∷ invs) n found = by (test x.rule) refl found (some_passed test invs n)
  where
    by : (b : Bool) → test x.rule ≡ b → (if b then Some x.number else first_number test invs) ≡ Some n → (first_number test invs ≡ Some n → Passed test invs n) → Passed test (x ∷ invs) n
    by true is found ih = record { place = 0; inv = x; at = refl; is = is; named = number_same x.number n found; before = λ earlier other less at. absurd (omega (arith, less)) }
    by false is found ih =
        let later : Passed test invs n = ih found in
        record { place = suc later.place; inv = later.inv; at = later.at; is = later.is; named = later.named; before = earlier_fails later }
      where
        earlier_fails : (later : Passed test invs n) (earlier : ℕ) (other : Invariant) → earlier < suc later.place → slice_get (x ∷ invs) earlier ≡ Some other → test other.rule ≡ false
        earlier_fails later zero other less at = ap (λ (v : Invariant). test v.rule) (sym (inv_same x other at)) ∙ is
        earlier_fails later (suc earlier) other less at = later.before earlier other (omega (arith, less)) at

numbers_from : (first : ℕ) (invs : List Invariant) (k : ℕ) (inv : Invariant) → AreNumberedFrom first invs → slice_get invs k ≡ Some inv → inv.number ≡ first + k
numbers_from first [] k inv numbered at = absurd cc
numbers_from first (x ∷ invs) zero inv numbered at = let same : x.number ≡ inv.number = ap (λ (v : Invariant). v.number) (inv_same x inv at) in omega (arith, same, numbered.0)
numbers_from first (x ∷ invs) (suc k) inv numbered at = let later : inv.number ≡ suc first + k = numbers_from (suc first) invs k inv numbered.1 at in omega (arith, later)

numbered_front : (first : ℕ) (xs ys : List Invariant) → AreNumberedFrom first (xs ++ ys) → AreNumberedFrom first xs
numbered_front first [] ys numbered = tt
numbered_front first (x ∷ xs) ys numbered = (numbered.0, numbered_front (suc first) xs ys numbered.1)

numbered_back : (first : ℕ) (xs ys : List Invariant) → AreNumberedFrom first (xs ++ ys) → AreNumberedFrom (first + length xs) ys
numbered_back first [] ys numbered = subst (λ n. AreNumberedFrom n ys) (omega arith) numbered
numbered_back first (x ∷ xs) ys numbered = subst (λ n. AreNumberedFrom n ys) (omega arith) (numbered_back (suc first) xs ys numbered.1)

record AreInOrder (invs : List Invariant) : Type 0 where
  from : ℕ
  numbered : AreNumberedFrom from invs

table_order : (first : ℕ) (schema : List Declaration) (table : ℕ) (d : Declaration) → AreNumberedFrom first (flat_map (λ t. t.invs) schema) → slice_get schema table ≡ Some d → AreInOrder d.invs
table_order first [] table d numbered at = absurd cc
table_order first (t ∷ schema) zero d numbered at =
    subst (λ (x : Declaration). AreInOrder x.invs) (table_same t d at) (record { from = first; numbered = numbered_front first t.invs (flat_map (λ t. t.invs) schema) numbered })
  where
    table_same : (a b : Declaration) → Some a ≡ Some b → a ≡ b
    table_same a b e = cc
table_order first (t ∷ schema) (suc table) d numbered at = table_order (first + length t.invs) schema table d (numbered_back first t.invs (flat_map (λ t. t.invs) schema) numbered) at

-- an invariant of a list that passes the test
record Passes (test : Rule → Bool) (invs : List Invariant) (n : ℕ) : Type 0 where
  place : ℕ
  inv : Invariant
  at : slice_get invs place ≡ Some inv
  is : test inv.rule ≡ true
  named : inv.number ≡ n

first_is_least : (P : ℕ → Type 0) (test : Rule → Bool) (invs : List Invariant) → AreInOrder invs → ((place : ℕ) (inv : Invariant) → slice_get invs place ≡ Some inv → test inv.rule ≡ true → P inv.number)
    → ((n : ℕ) → P n → Passes test invs n) → IsLeast P (first_number test invs)
first_is_least P test invs order right all = by (first_number test invs) refl
  where
    by : (o : Option ℕ) → first_number test invs ≡ o → IsLeast P o
    by None e = λ n is. let found : Passes test invs n = all n is in apart (test found.inv.rule) found.is (none_passed test invs e found.place found.inv found.at)
    by (Some n) e =
        let found : Passed test invs n = some_passed test invs n e in
        let mine : found.inv.number ≡ order.from + found.place = numbers_from order.from invs found.place found.inv order.numbered found.at in (
          subst P found.named (right found.place found.inv found.at found.is),
          λ other is less.
              let its : Passes test invs other = all other is in
              let number : its.inv.number ≡ order.from + its.place = numbers_from order.from invs its.place its.inv order.numbered its.at in
              apart (test its.inv.rule) its.is (found.before its.place its.inv (omega (arith, less, mine, number, found.named, its.named)) its.at),
        )

-- ---- each way

abbrev InWay : Way → List Declaration → Effect → ℕ → Type 0
InWay way schema e n = IsThreat schema n (By way schema e)

own_way : (way : Way) (schema : List Declaration) (table : Declaration) (e : Effect) (told : Teller) → IsOwn schema table e told → is_anywhere way ≡ false
    → IsLeast (InWay way schema e) (first_number (threatens way schema told e) table.invs)
own_way way schema table e told own not_else =
    first_is_least (InWay way schema e) (threatens way schema told e) table.invs (table_order 1 schema e.place.table table own.accepted.invariants own.declared)
    (λ place inv at is. record {
      table = e.place.table;
      inv = inv;
      among = record { declaration = table; declared = own.declared; among = contains_at table.invs place inv at };
      numbered = refl;
      by = threat_means way schema table e told inv inv.rule own (contains_at table.invs place inv at) refl is;
    })
    (λ n threat. passes n threat)
  where
    passes : (n : ℕ) → InWay way schema e n → Passes (threatens way schema told e) table.invs n
    passes n threat =
        let here : e.place.table ≡ threat.table = own_table way schema e threat.table threat.among.declaration threat.inv.rule not_else threat.by in
        let same : threat.among.declaration ≡ table = same_some (slice_get schema threat.table) threat.among.declaration table threat.among.declared (ap (slice_get schema) (sym here) ∙ own.declared) in
        let among : Contains table.invs threat.inv = subst (λ (d : Declaration). Contains d.invs threat.inv) same threat.among.among in
        let stands : Stands table.invs threat.inv = contained table.invs threat.inv among in
        record {
          place = stands.number;
          inv = threat.inv;
          at = stands.at;
          is = means_threat way schema table e told threat.inv threat.inv.rule own among refl
              (subst (λ (p : ℕ × Declaration). By way schema e p.0 p.1 threat.inv.rule) (λ i. (sym here i, same i)) threat.by);
          named = threat.numbered;
        }

all_way : (way : Way) (schema : List Declaration) (e : Effect) (told : Teller) → AcceptedSchema schema → is_anywhere way ≡ true
    → IsLeast (InWay way schema e) (first_number (threatens way schema told e) (flat_map (λ t. t.invs) schema))
all_way way schema e told accepted anywhere =
    first_is_least (InWay way schema e) (threatens way schema told e) (flat_map (λ t. t.invs) schema) (record { from = 1; numbered = accepted.invariants })
    (λ place inv at is. right place inv at is (stands_in (λ t. t.invs) schema place inv at))
    (λ n threat. passes n threat)
  where
    right : (place : ℕ) (inv : Invariant) → slice_get (flat_map (λ t. t.invs) schema) place ≡ Some inv → threatens way schema told e inv.rule ≡ true → StandsIn (λ t. t.invs) schema inv → InWay way schema e inv.number
    right place inv at is found = record {
      table = found.number;
      inv = inv;
      among = record { declaration = found.x; declared = found.at; among = contains_at found.x.invs found.here.number inv found.here.at };
      numbered = refl;
      by = parent_means way schema e told found.number found.x inv.rule anywhere is;
    }

    passes : (n : ℕ) → InWay way schema e n → Passes (threatens way schema told e) (flat_map (λ t. t.invs) schema) n
    passes n threat =
        let inside : Stands threat.among.declaration.invs threat.inv = contained threat.among.declaration.invs threat.inv threat.among.among in
        let stands : Stands (flat_map (λ t. t.invs) schema) threat.inv = flat_stands (λ t. t.invs) schema threat.table threat.among.declaration threat.inv threat.among.declared inside in
        record {
          place = stands.number;
          inv = threat.inv;
          at = stands.at;
          is = means_parent way schema e told threat.table threat.among.declaration threat.inv.rule anywhere threat.by;
          named = threat.numbered;
        }

each_way : (way : Way) (schema : List Declaration) (table : Declaration) (e : Effect) (told : Teller) → IsOwn schema table e told → IsLeast (InWay way schema e) (least_by way schema told e)
each_way way schema table e told own = by (is_anywhere way) refl
  where
    by : (b : Bool) → is_anywhere way ≡ b → IsLeast (InWay way schema e) (first_number (threatens way schema told e) (if is_anywhere way then flat_map (λ t. t.invs) schema else rules_of (slice_get schema e.place.table)))
    by true is = subst (λ b. IsLeast (InWay way schema e) (first_number (threatens way schema told e) (if b then flat_map (λ t. t.invs) schema else rules_of (slice_get schema e.place.table)))) (sym is)
        (all_way way schema e told own.accepted is)
    by false is = subst (λ b. IsLeast (InWay way schema e) (first_number (threatens way schema told e) (if b then flat_map (λ t. t.invs) schema else rules_of (slice_get schema e.place.table)))) (sym is)
        (subst (λ o. IsLeast (InWay way schema e) (first_number (threatens way schema told e) (rules_of o))) (sym own.declared) (own_way way schema table e told own is))

-- ---- all ways

abbrev rank_of : Way → ℕ
rank_of Unique = 1
rank_of Child = 2
rank_of Parent = 3
rank_of Checked = 4
rank_of Listed = 5

ranked : (way : Way) (n : ℕ) → rank (reason_by way n) ≡ rank_of way
ranked Unique n = refl
ranked Child n = refl
ranked Parent n = refl
ranked Checked n = refl
ranked Listed n = refl

numbered_by : (way : Way) (n : ℕ) → invariant_in (reason_by way n) ≡ n
numbered_by Unique n = refl
numbered_by Child n = refl
numbered_by Parent n = refl
numbered_by Checked n = refl
numbered_by Listed n = refl

by_way : (way : Way) (schema : List Declaration) (e : Effect) (n : ℕ) → InWay way schema e n → Threatened schema e (reason_by way n)
by_way Unique schema e n is = is
by_way Child schema e n is = is
by_way Parent schema e n is = is
by_way Checked schema e n is = is
by_way Listed schema e n is = is

abbrev AllAfter : Way → List Way → Type 0
AllAfter way [] = Unit {0}
AllAfter way (w ∷ ways) = (rank_of way < rank_of w) × AllAfter way ways

abbrev InRanks : List Way → Type 0
InRanks [] = Unit {0}
InRanks (way ∷ ways) = AllAfter way ways × InRanks ways

after_at : (way : Way) (ways : List Way) (k : ℕ) (w : Way) → AllAfter way ways → slice_get ways k ≡ Some w → rank_of way < rank_of w
after_at way [] k w after at = absurd cc
after_at way (x ∷ ways) zero w after at = let same : x ≡ w = cc in subst (λ y. rank_of way < rank_of y) same after.0
after_at way (x ∷ ways) (suc k) w after at = after_at way ways k w after.1 at

record IsFirstWay (schema : List Declaration) (e : Effect) (ways : List Way) (reason : Reason) : Type 0 where
  threatened : Threatened schema e reason
  first : (k : ℕ) (way : Way) (n : ℕ) → slice_get ways k ≡ Some way → InWay way schema e n → IsBefore (reason_by way n) reason → ⊥

abbrev IsFirstIn : List Declaration → Effect → List Way → Option Reason → Type 0
IsFirstIn schema e ways None = (k : ℕ) (way : Way) (n : ℕ) → slice_get ways k ≡ Some way → InWay way schema e n → ⊥
IsFirstIn schema e ways (Some reason) = IsFirstWay schema e ways reason

way_same : (a b : Way) → Some a ≡ Some b → a ≡ b
way_same a b e = cc

not_before : (way : Way) (a b : ℕ) → (a < b → ⊥) → IsBefore (reason_by way a) (reason_by way b) → ⊥
not_before way a b least (inl less) = omega (arith, less, ranked way a, ranked way b)
not_before way a b least (inr (same, less)) = least (omega (arith, less, numbered_by way a, numbered_by way b))

later_way : (way later : Way) (n m : ℕ) → rank_of way < rank_of later → IsBefore (reason_by later m) (reason_by way n) → ⊥
later_way way later n m order (inl less) = omega (arith, less, order, ranked way n, ranked later m)
later_way way later n m order (inr (same, less)) = omega (arith, same, order, ranked way n, ranked later m)

ways_first : (schema : List Declaration) (table : Declaration) (e : Effect) (told : Teller) → IsOwn schema table e told → (ways : List Way) → InRanks ways → IsFirstIn schema e ways (first_among ways schema told e)
ways_first schema table e told own [] order = λ k way n at is. absurd (nothing_at k way at)
  where
    nothing_at : (k : ℕ) (way : Way) → slice_get [] k ≡ Some way → ⊥
    nothing_at k way at = cc
ways_first schema table e told own (way ∷ ways) order =
    by (least_by way schema told e) (each_way way schema table e told own) (first_among ways schema told e) (ways_first schema table e told own ways order.1)
  where
    none_of : IsLeast (InWay way schema e) None → ((k : ℕ) (w : Way) (n : ℕ) → slice_get ways k ≡ Some w → InWay w schema e n → ⊥) → (k : ℕ) (w : Way) (n : ℕ) → slice_get (way ∷ ways) k ≡ Some w → InWay w schema e n → ⊥
    none_of least rest zero w n at is = least n (subst (λ x. InWay x schema e n) (sym (way_same way w at)) is)
    none_of least rest (suc k) w n at is = rest k w n at is

    later_of : (reason : Reason) → IsLeast (InWay way schema e) None → IsFirstWay schema e ways reason → (k : ℕ) (w : Way) (n : ℕ) → slice_get (way ∷ ways) k ≡ Some w → InWay w schema e n
        → IsBefore (reason_by w n) reason → ⊥
    later_of reason least rest zero w n at is before = least n (subst (λ x. InWay x schema e n) (sym (way_same way w at)) is)
    later_of reason least rest (suc k) w n at is before = rest.first k w n at is before

    here : (m : ℕ) → IsLeast (InWay way schema e) (Some m) → (k : ℕ) (w : Way) (n : ℕ) → slice_get (way ∷ ways) k ≡ Some w → InWay w schema e n → IsBefore (reason_by w n) (reason_by way m) → ⊥
    here m least zero w n at is before =
        not_before way n m (least.1 n (subst (λ x. InWay x schema e n) (sym (way_same way w at)) is)) (subst (λ x. IsBefore (reason_by x n) (reason_by way m)) (sym (way_same way w at)) before)
    here m least (suc k) w n at is before = later_way way w m n (after_at way ways k w order.0 at) before

    by : (o : Option ℕ) → IsLeast (InWay way schema e) o → (r : Option Reason) → IsFirstIn schema e ways r → IsFirstIn schema e (way ∷ ways) (reason_or way o r)
    by None least None rest = none_of least rest
    by None least (Some reason) rest = record { threatened = rest.threatened; first = later_of reason least rest }
    by (Some m) least r rest = record { threatened = by_way way schema e m least.0; first = here m least }

all_in_order : InRanks in_order
all_in_order = ((omega arith, (omega arith, (omega arith, (omega arith, tt)))), ((omega arith, (omega arith, (omega arith, tt))), ((omega arith, (omega arith, tt)), ((omega arith, tt), (tt, tt)))))

-- every reason but the first is one of these
none_threatens : (schema : List Declaration) (e : Effect) → is_plain_change schema e ≡ false → IsFirstIn schema e in_order None → (reason : Reason) → Threatened schema e reason → ⊥
none_threatens schema e plain none_in reasons.Plain is = apart (is_plain_change schema e) is plain
none_threatens schema e plain none_in (reasons.Unique n) is = none_in 0 Unique n refl is
none_threatens schema e plain none_in (reasons.Child n) is = none_in 1 Child n refl is
none_threatens schema e plain none_in (reasons.Parent n) is = none_in 2 Parent n refl is
none_threatens schema e plain none_in (reasons.Check n) is = none_in 3 Checked n refl is
none_threatens schema e plain none_in (reasons.List n) is = none_in 4 Listed n refl is

none_sooner : (schema : List Declaration) (e : Effect) (reason : Reason) → is_plain_change schema e ≡ false → IsFirstWay schema e in_order reason → (other : Reason) → Threatened schema e other → IsBefore other reason → ⊥
none_sooner schema e reason plain way reasons.Plain is before = apart (is_plain_change schema e) is plain
none_sooner schema e reason plain way (reasons.Unique n) is before = way.first 0 Unique n refl is before
none_sooner schema e reason plain way (reasons.Child n) is before = way.first 1 Child n refl is before
none_sooner schema e reason plain way (reasons.Parent n) is before = way.first 2 Parent n refl is before
none_sooner schema e reason plain way (reasons.Check n) is before = way.first 3 Checked n refl is before
none_sooner schema e reason plain way (reasons.List n) is before = way.first 4 Listed n refl is before

first_of_ways : (schema : List Declaration) (e : Effect) (o : Option Reason) → is_plain_change schema e ≡ false → IsFirstIn schema e in_order o → IsFirstReason schema e o
first_of_ways schema e None plain none_in = none_threatens schema e plain none_in
first_of_ways schema e (Some reason) plain way = record { threatened = way.threatened; first = none_sooner schema e reason plain way }

own_of : (tables : List Table) (e : RowEffect) (told : Teller) (table : Table) → AcceptedSchema (schema_of tables) → FitsSchema (schema_of tables) e → AreTold (schema_of tables) e.table told → e.table < length tables
    → table ≡ get_or tables e.table table → is_plain_in (declaration_of table) (effect_of e) ≡ false → IsOwn (schema_of tables) (declaration_of table) (effect_of e) told
own_of tables e told table accepted fits gains less is plain =
    let at : slice_get (schema_of tables) e.table ≡ Some (declaration_of table) = rules_here tables e.table table less is in
    record {
      accepted = accepted;
      declared = at;
      fits = subst (λ d. SuitsTable d (effect_of e)) (same_some (slice_get (schema_of tables) e.table) fits.table (declaration_of table) fits.declared at) fits.fits;
      unplain = unplain_in (declaration_of table) (effect_of e) plain;
      gains = subst (λ d. AreGains d told) (same_some (slice_get (schema_of tables) e.table) gains.table (declaration_of table) gains.declared at) gains.gains;
    }

-- the change is plain
pub plain_first : (tables : List Table) (e : RowEffect) (table : Table) (b : Bool) → e.table < length tables → table ≡ get_or tables e.table table → b ≡ is_plain_in (declaration_of table) (effect_of e) → b ≡ true
    → IsFirstReason (schema_of tables) (effect_of e) (Some reasons.Plain)
plain_first tables e table b less is same plain = record {
  threatened = plain_in (schema_of tables) (declaration_of table) (effect_of e) (rules_here tables e.table table less is) ∙ sym same ∙ plain;
  first = λ other is before. nothing_before other before;
}
  where
    nothing_before : (other : Reason) → IsBefore other reasons.Plain → ⊥
    nothing_before other (inl less) = omega (arith, less)
    nothing_before other (inr (same, less)) = omega (arith, less)

-- it isn't
pub reason_first : (tables : List Table) (e : RowEffect) (told : Teller) (table : Table) (b : Bool) (r : Option Reason) → AcceptedSchema (schema_of tables) → FitsSchema (schema_of tables) e
    → AreTold (schema_of tables) e.table told → e.table < length tables → table ≡ get_or tables e.table table → b ≡ is_plain_in (declaration_of table) (effect_of e) → b ≡ false
    → r ≡ first_among in_order (schema_of tables) told (effect_of e) → IsFirstReason (schema_of tables) (effect_of e) r
reason_first tables e told table b r accepted fits gains less is same plain found =
    let unplain : is_plain_in (declaration_of table) (effect_of e) ≡ false = sym same ∙ plain in
    let own : IsOwn (schema_of tables) (declaration_of table) (effect_of e) told = own_of tables e told table accepted fits gains less is unplain in
    subst (IsFirstReason (schema_of tables) (effect_of e)) (sym found)
    (first_of_ways (schema_of tables) (effect_of e) (first_among in_order (schema_of tables) told (effect_of e))
    (plain_in (schema_of tables) (declaration_of table) (effect_of e) own.declared ∙ unplain)
    (ways_first (schema_of tables) (declaration_of table) (effect_of e) told own in_order all_in_order))

pub ruleset judging = (table_fits, plain_first)
