-- The atoms of one change in forms: together they say that no reason threatens it. They stand in the order of reasons, up to and with the first
-- test that nothing meets.
use Rattle.std.specs.Prelude.{ℕ, zero, suc, ℤ, pos, ◌-ℤ◌, ◌==◌, ◌&&◌, ◌||◌, not, nat_eq, bytes_eq, int_le, Bool, true, false, if◌then◌else◌, List, [], ◌∷◌, ◌++◌, map, Option, Some, None, slice_get}
use Rattle.std.specs.List.{list_any, flat_map}
use Rattle.std.specs.Ordering.{int_eq}
use Rattle.sv_app.specs.declared.acts.Act.{Act}
use Rattle.sv_app.specs.declared.acts.Act.TheVariants.{Insert, Fresh, Update, Remove}
use Rattle.sv_app.specs.declared.apps.Ident.{Ident}
use Rattle.sv_app.specs.declared.reasons.Reason.{Reason}
use Rattle.sv_app.specs.declared.reasons.Reason.TheVariants as reasons
use Rattle.sv_app.specs.declared.schemas.Check.{Check}
use Rattle.sv_app.specs.declared.schemas.Column.{Column}
use Rattle.sv_app.specs.Kinds.{is_unmerged, is_annotated, is_grow_only}
use Rattle.sv_app.specs.Satisfiable.{number_of}
use Rattle.sv_app.specs.Schema.{Rule, Bound, OneOf, Different, Refers, Invariant, Declaration}
use Rattle.sv_linear.specs.Effects.{Number, TextIs, TextSymbol, SymWrite, Delta, Set, SymEffect, linear}
use Rattle.sv_linear.specs.Forms.{Form, number, sub, is_narrow}
use Rattle.sv_linear.specs.Tests.{Test, AtMost, InList, Never, Atom}

-- the greatest a - b over numbers that meet the checks of the table with this number, where there is one; a side that is none counts as zero
abbrev pub Gain : Type 0
Gain = ℕ → Option ℕ → Option ℕ → Option ℤ

abbrev pub is_insert : Act → Bool
is_insert Insert = true
is_insert Fresh = true
is_insert Update = false
is_insert Remove = false

abbrev pub is_draw : Act → Bool
is_draw Insert = false
is_draw Fresh = true
is_draw Update = false
is_draw Remove = false

abbrev pub is_remove : Act → Bool
is_remove Insert = false
is_remove Fresh = false
is_remove Update = false
is_remove Remove = true

-- the write to a column
abbrev pub write_to : ℕ → List (ℕ × SymWrite) → Option SymWrite
write_to c [] = None
write_to c (w ∷ ws) = if w.0 == c then Some w.1 else write_to c ws

abbrev pub write_at : Option ℕ → List (ℕ × SymWrite) → Option SymWrite
write_at None ws = None
write_at (Some c) ws = write_to c ws

abbrev pub is_delta : Option SymWrite → Bool
is_delta None = false
is_delta (Some (Delta f)) = true
is_delta (Some (Set v)) = false

abbrev pub is_set : Option SymWrite → Bool
is_set None = false
is_set (Some (Delta f)) = false
is_set (Some (Set v)) = true

-- what a write adds to the column
abbrev pub added_by : Option SymWrite → Form
added_by None = number (pos 0)
added_by (Some (Delta f)) = f
added_by (Some (Set v)) = number (pos 0)

-- what a write makes of zero
abbrev pub made_by : Option SymWrite → Form
made_by None = number (pos 0)
made_by (Some (Delta f)) = f
made_by (Some (Set v)) = linear v

-- a case of a check: a form and what it may be at most; none where no number is great enough
pub record Case : Type 0 where
  pub left : Form
  pub most : Option ℤ

-- what is left of a bound
abbrev pub less : ℤ → Option ℤ → Option ℤ
less c None = None
less c (Some g) = Some (c -ℤ g)

abbrev pub case_if : Bool → Form → Form → Option ℤ → List Case
case_if asked f g most = if asked then record { left = sub f g; most = most } ∷ [] else []

-- the cases of a check a - b <= c where rows are kept: the writes of a and of b both lose, one of them wins, both win
abbrev pub kept_cases : (Option ℕ → Option ℕ → Option ℤ) → Option ℕ → Option ℕ → ℤ → Option SymWrite → Option SymWrite → List Case
kept_cases gain a b c x y =
    case_if (is_delta x || is_delta y) (added_by x) (added_by y) (less c (gain a b))
    ++ case_if (is_set x) (made_by x) (added_by y) (less c (gain None b))
    ++ case_if (is_set y) (added_by x) (made_by y) (less c (gain a None))
    ++ case_if (is_set x && is_set y) (made_by x) (made_by y) (Some c)

-- and the row that an insert makes from nothing
abbrev pub cases_of : (Option ℕ → Option ℕ → Option ℤ) → Act → List (ℕ × SymWrite) → Check → List Case
cases_of gain act writes check =
    let a = number_of check.hi in
    let b = number_of check.lo in
    let x = write_at a writes in
    let y = write_at b writes in
    (if is_draw act then [] else kept_cases gain a b check.most x y) ++ case_if (is_insert act) (made_by x) (made_by y) (Some check.most)

-- the constant of a form moves to the right; without symbols a test holds or nothing meets it
abbrev pub terms_at_most : List (ℕ × ℤ) → ℤ → List Test
terms_at_most [] most = if int_le (pos 0) most then [] else Never ∷ []
terms_at_most (t ∷ ts) most = AtMost (record { terms = t ∷ ts; plus = pos 0 }) most ∷ []

abbrev pub tests_by : Form → Option ℤ → List Test
tests_by f None = Never ∷ []
tests_by f (Some most) = terms_at_most f.terms (most -ℤ f.plus)

abbrev pub same_terms : List (ℕ × ℤ) → List (ℕ × ℤ) → Bool
same_terms [] [] = true
same_terms [] (u ∷ us) = false
same_terms (t ∷ ts) [] = false
same_terms (t ∷ ts) (u ∷ us) = nat_eq t.0 u.0 && int_eq t.1 u.1 && same_terms ts us

abbrev pub same_test : Test → Test → Bool
same_test (AtMost f m) (AtMost g n) = same_terms f.terms g.terms && int_eq f.plus g.plus && int_eq m n
same_test (AtMost f m) (InList s i) = false
same_test (AtMost f m) Never = false
same_test (InList s i) (InList t j) = nat_eq s t && nat_eq i j
same_test (InList s i) (AtMost f m) = false
same_test (InList s i) Never = false
same_test Never Never = true
same_test Never (AtMost f m) = false
same_test Never (InList s i) = false

-- each test once, behind those that stand before
abbrev pub each_once : List Test → List Test → List Test
each_once before [] = []
each_once before (t ∷ ts) = if list_any (same_test t) before then each_once before ts else t ∷ each_once (before ++ t ∷ []) ts

abbrev pub is_plain_at : List Column → ℕ → Bool
is_plain_at [] number = false
is_plain_at (column ∷ columns) zero = is_unmerged column.merge
is_plain_at (column ∷ columns) (suc number) = is_plain_at columns number

-- it writes a plain column, or inserts into or removes from an unannotated table
abbrev pub is_plain_change : Option Declaration → SymEffect → Bool
is_plain_change None e = false
is_plain_change (Some d) e = list_any (λ w. is_plain_at d.columns w.0) e.writes || ((is_insert e.act || is_remove e.act) && not (is_annotated d.kind))

-- it inserts, or sets the column
abbrev pub touches : SymEffect → Ident → Bool
touches e column = is_insert e.act || is_set (write_to column.num e.writes)

-- a text that is set is one of the list, and a symbol is to be one
abbrev pub list_tests : ℕ → List (List ℕ) → Option SymWrite → List Test
list_tests number texts None = []
list_tests number texts (Some (Delta f)) = []
list_tests number texts (Some (Set (Number f))) = Never ∷ []
list_tests number texts (Some (Set (TextIs t))) = if list_any (bytes_eq t) texts then [] else Never ∷ []
list_tests number texts (Some (Set (TextSymbol n))) = InList n number ∷ []

-- what is asked of a change: a case of a check, or a test
pub data Asked : Type 0 where
  ByCase : Case → Asked
  ByTest : Test → Asked

abbrev pub asked_tests : Asked → List Test
asked_tests (ByCase q) = tests_by q.left q.most
asked_tests (ByTest t) = t ∷ []

-- the constant and each coefficient of the form are to be of 64 bits, where the form is needed
abbrev pub is_wide_case : Form → Option ℤ → Bool
is_wide_case f None = false
is_wide_case f (Some most) = not (is_narrow f)

abbrev pub is_wide : Asked → Bool
is_wide (ByCase q) = is_wide_case q.left q.most
is_wide (ByTest t) = false

-- what is asked for one reason
pub record Group : Type 0 where
  pub reason : Reason
  pub asked : List Asked

abbrev pub never_where : Bool → List Asked
never_where threatens = if threatens then ByTest Never ∷ [] else []

abbrev pub by_unique : SymEffect → ℕ → Rule → List Asked
by_unique e table (Different column) = never_where (e.table == table && touches e column)
by_unique e table (Bound check) = []
by_unique e table (OneOf column texts) = []
by_unique e table (Refers column parent target) = []

abbrev pub grows : Option Declaration → Bool
grows None = false
grows (Some d) = is_grow_only d.kind

abbrev pub by_child : List Declaration → SymEffect → ℕ → Rule → List Asked
by_child schema e table (Refers column parent target) = never_where (not (grows (slice_get schema parent.num)) && e.table == table && touches e column)
by_child schema e table (Bound check) = []
by_child schema e table (OneOf column texts) = []
by_child schema e table (Different column) = []

abbrev pub by_parent : SymEffect → Rule → List Asked
by_parent e (Refers column parent target) = never_where (e.table == parent.num && is_remove e.act)
by_parent e (Bound check) = []
by_parent e (OneOf column texts) = []
by_parent e (Different column) = []

abbrev pub by_check : Gain → SymEffect → ℕ → Rule → List Asked
by_check gain e table (Bound check) = if e.table == table then map (λ q. ByCase q) (cases_of (gain table) e.act e.writes check) else []
by_check gain e table (OneOf column texts) = []
by_check gain e table (Different column) = []
by_check gain e table (Refers column parent target) = []

abbrev pub by_list : SymEffect → ℕ → ℕ → Rule → List Asked
by_list e number table (OneOf column texts) = if e.table == table then map (λ t. ByTest t) (list_tests number texts (write_to column.num e.writes)) else []
by_list e number table (Bound check) = []
by_list e number table (Different column) = []
by_list e number table (Refers column parent target) = []

-- a group for each invariant, in their order; tables count from this number
abbrev pub for_each : (ℕ → Invariant → Group) → ℕ → List Declaration → List Group
for_each group table [] = []
for_each group table (d ∷ ds) = map (group table) d.invs ++ for_each group (suc table) ds

-- all that is asked, in the order of reasons
abbrev pub groups : Gain → List Declaration → SymEffect → List Group
groups gain schema e =
    record { reason = reasons.Plain; asked = never_where (is_plain_change (slice_get schema e.table) e) }
    ∷ for_each (λ table inv. record { reason = reasons.Unique inv.number; asked = by_unique e table inv.rule }) 0 schema
    ++ for_each (λ table inv. record { reason = reasons.Child inv.number; asked = by_child schema e table inv.rule }) 0 schema
    ++ for_each (λ table inv. record { reason = reasons.Parent inv.number; asked = by_parent e inv.rule }) 0 schema
    ++ for_each (λ table inv. record { reason = reasons.Check inv.number; asked = by_check gain e table inv.rule }) 0 schema
    ++ for_each (λ table inv. record { reason = reasons.List inv.number; asked = by_list e inv.number table inv.rule }) 0 schema

abbrev pub group_atoms : ℕ → Group → List Atom
group_atoms place g = map (λ t. record { place = place; reason = g.reason; test = t }) (each_once [] (flat_map asked_tests g.asked))

abbrev pub is_never : Test → Bool
is_never Never = true
is_never (AtMost f most) = false
is_never (InList symbol number) = false

abbrev pub to_never : List Atom → List Atom
to_never [] = []
to_never (a ∷ more) = if is_never a.test then a ∷ [] else a ∷ to_never more

-- the atoms of the change that has this place
abbrev pub atoms : Gain → List Declaration → SymEffect → ℕ → List Atom
atoms gain schema e place = to_never (flat_map (group_atoms place) (groups gain schema e))

abbrev pub meets_wide : List Asked → Bool
meets_wide [] = false
meets_wide (q ∷ qs) = is_wide q || (not (list_any is_never (asked_tests q)) && meets_wide qs)

-- a wide form is asked for before anything that nothing meets
abbrev pub is_wide_change : Gain → List Declaration → SymEffect → Bool
is_wide_change gain schema e = meets_wide (flat_map (λ g. g.asked) (groups gain schema e))
