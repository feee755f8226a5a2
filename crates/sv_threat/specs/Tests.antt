-- Tests: whether a case of a check fails, in which way a change threatens a rule, and by which reason it is threatened first.
use Rattle.std.specs.Prelude.{◌≡◌, ℕ, ◌^◌, ℤ, int_le, ◌==◌, ◌&&◌, ◌||◌, not, if◌then◌else◌, Bool, true, false, List, [], ◌∷◌, Option, Some, None, slice_get}
use Rattle.std.specs.List.{flat_map, list_any}
use Rattle.std.specs.Ordering.{eq_by_cmp}
use Rattle.sv_value.specs.declared.values.Val.{Val}
use Rattle.sv_value.specs.declared.values.Val.TheVariants as vals
use Rattle.sv_value.specs.Orders.{text_cmp}
use Rattle.sv_app.specs.declared.acts.Act.{Act}
use Rattle.sv_app.specs.declared.reasons.Reason.{Reason}
use Rattle.sv_app.specs.declared.reasons.Reason.TheVariants as reasons
use Rattle.sv_app.specs.declared.schemas.Check.{Check}
use Rattle.sv_app.specs.Kinds.{is_annotated}
use Rattle.sv_app.specs.Satisfiable.{number_of}
use Rattle.sv_app.specs.Schema.{Rule, Bound, OneOf, Different, Refers, Invariant, Declaration}
use Rattle.sv_bounds.specs.Differences.{Within}
use Rattle.sv_effect.specs.declared.ops.Write.{Write}
use Rattle.sv_effect.specs.declared.ops.Write.TheVariants.{Delta, Set}
use Rattle.sv_effect.specs.Acts.{is_insert, is_draw}
use Rattle.sv_effect.specs.Needs.{grows}
use Rattle.sv_effect.specs.RowChange.{turn_of}
use Rattle.sv_effect.specs.RunChanges.{Effect}
use Rattle.sv_effect.specs.Threatened.{is_plain_change, writes_plain, turns, write_to, removes_from, ByUnique, ByChild, ByParent, ByCheck, ByList}
use Rattle.sv_effect.specs.Threatened.{is_set as is_written}
use Rattle.sv_gains.specs.Gains.{Teller, AreGains}
use Rattle.sv_threat.specs.declared.moves.Move.{Move}
use Rattle.sv_threat.specs.declared.moves.Case.{Case}
use Rattle.sv_threat.specs.declared.moves.Case.TheVariants.{BothLose, HiWins, LoWins, BothWin, FromNothing}
use Rattle.sv_threat.specs.declared.ways.Way.{Way}
use Rattle.sv_threat.specs.declared.ways.Way.TheVariants.{Unique, Child, Parent, Check as Checked, List as Listed}
use Rattle.sv_threat.specs.Cases.{is_added, is_set, made, added, move_at, given, bound_of, moves_of}

-- it stays far from the bounds of 128 bits
pub record IsShortMove (move : Move) : Type 0 where
  pub made : Within (2 ^ 64) (made move)
  pub added : Within (2 ^ 64) (added move)

abbrev pub is_asked : Act → Move → Move → Case → Bool
is_asked act hi lo BothLose = not (is_draw act) && (is_added hi || is_added lo)
is_asked act hi lo HiWins = not (is_draw act) && is_set hi
is_asked act hi lo LoWins = not (is_draw act) && is_set lo
is_asked act hi lo BothWin = not (is_draw act) && is_set hi && is_set lo
is_asked act hi lo FromNothing = is_insert act

abbrev pub is_at_most : ℤ → Option ℤ → Bool
is_at_most n None = false
is_at_most n (Some most) = int_le n most

abbrev pub case_fails : Teller → Check → Act → Move → Move → Case → Bool
case_fails told check act hi lo kase = is_asked act hi lo kase && not (is_at_most (given hi lo kase) (bound_of told check kase))

abbrev pub any_fails : Teller → Check → Act → Move → Move → List Case → Bool
any_fails told check act hi lo cases = list_any (λ kase. case_fails told check act hi lo kase) cases

abbrev pub all_cases : List Case
all_cases = BothLose ∷ HiWins ∷ LoWins ∷ BothWin ∷ FromNothing ∷ []

abbrev pub check_fails : Teller → Check → Effect → Bool
check_fails told check e = any_fails told check e.act (move_at (moves_of e) (number_of check.hi)) (move_at (moves_of e) (number_of check.lo)) all_cases

-- a text outside the list is set
abbrev pub is_text_of : Val → List (List ℕ) → Bool
is_text_of (vals.Int n) texts = false
is_text_of (vals.Text text) texts = list_any (eq_by_cmp text_cmp text) texts

abbrev pub sets_unlisted : Option Write → List (List ℕ) → Bool
sets_unlisted None texts = false
sets_unlisted (Some (Delta d)) texts = false
sets_unlisted (Some (Set v)) texts = not (is_text_of v texts)

-- it inserts, or sets the column
abbrev pub gives : Effect → ℕ → Bool
gives e column = is_insert e.act || is_written (write_to column e.writes)

-- the change threatens a rule of its table in this way; a reference to its table is of any table
abbrev pub threatens : Way → List Declaration → Teller → Effect → Rule → Bool
threatens Unique schema told e (Different column) = gives e column.num
threatens Unique schema told e (Bound check) = false
threatens Unique schema told e (OneOf column texts) = false
threatens Unique schema told e (Refers column parent target) = false
threatens Child schema told e (Refers column parent target) = not (grows (slice_get schema parent.num)) && gives e column.num
threatens Child schema told e (Bound check) = false
threatens Child schema told e (OneOf column texts) = false
threatens Child schema told e (Different column) = false
threatens Parent schema told e (Refers column parent target) = removes_from e parent.num
threatens Parent schema told e (Bound check) = false
threatens Parent schema told e (OneOf column texts) = false
threatens Parent schema told e (Different column) = false
threatens Checked schema told e (Bound check) = check_fails told check e
threatens Checked schema told e (OneOf column texts) = false
threatens Checked schema told e (Different column) = false
threatens Checked schema told e (Refers column parent target) = false
threatens Listed schema told e (OneOf column texts) = sets_unlisted (write_to column.num e.writes) texts
threatens Listed schema told e (Bound check) = false
threatens Listed schema told e (Different column) = false
threatens Listed schema told e (Refers column parent target) = false

-- what it means
abbrev pub By : Way → List Declaration → Effect → ℕ → Declaration → Rule → Type 0
By Unique schema e = ByUnique e
By Child schema e = ByChild schema e
By Parent schema e = ByParent e
By Checked schema e = ByCheck e
By Listed schema e = ByList e

abbrev pub reason_by : Way → ℕ → Reason
reason_by Unique number = reasons.Unique number
reason_by Child number = reasons.Child number
reason_by Parent number = reasons.Parent number
reason_by Checked number = reasons.Check number
reason_by Listed number = reasons.List number

-- the number of the first invariant that passes a test
abbrev pub first_number : (Rule → Bool) → List Invariant → Option ℕ
first_number test [] = None
first_number test (inv ∷ invs) = if test inv.rule then Some inv.number else first_number test invs

abbrev pub rules_of : Option Declaration → List Invariant
rules_of None = []
rules_of (Some table) = table.invs

-- a reference to the change's table may be of any table
abbrev pub is_anywhere : Way → Bool
is_anywhere Unique = false
is_anywhere Child = false
is_anywhere Parent = true
is_anywhere Checked = false
is_anywhere Listed = false

abbrev pub rules_for : Way → List Declaration → ℕ → List Invariant
rules_for way schema table = if is_anywhere way then flat_map (λ t. t.invs) schema else rules_of (slice_get schema table)

abbrev pub least_by : Way → List Declaration → Teller → Effect → Option ℕ
least_by way schema told e = first_number (threatens way schema told e) (rules_for way schema e.place.table)

abbrev pub reason_or : Way → Option ℕ → Option Reason → Option Reason
reason_or way None other = other
reason_or way (Some number) other = Some (reason_by way number)

abbrev pub first_among : List Way → List Declaration → Teller → Effect → Option Reason
first_among [] schema told e = None
first_among (way ∷ ways) schema told e = reason_or way (least_by way schema told e) (first_among ways schema told e)

abbrev pub in_order : List Way
in_order = Unique ∷ Child ∷ Parent ∷ Checked ∷ Listed ∷ []

-- it writes a plain column of its table, or inserts into or removes from it where it isn't annotated
abbrev pub is_plain_in : Declaration → Effect → Bool
is_plain_in table e = writes_plain table.columns e.writes || (turns (turn_of e.act) && not (is_annotated table.kind))

abbrev pub reason_of : List Declaration → Teller → Effect → Option Reason
reason_of schema told e = if is_plain_change schema e then Some reasons.Plain else first_among in_order schema told e

-- what tells the greatest differences of the table of this number
pub record AreTold (schema : List Declaration) (number : ℕ) (told : Teller) : Type 0 where
  pub table : Declaration
  pub declared : slice_get schema number ≡ Some table
  pub gains : AreGains table told
