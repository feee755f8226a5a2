-- The tests answer as the cases and the rules are meant.
use Rattle.std.proofs.Common.{◌≡◌, ◌∙◌, ℕ, Bool, true, false, List, [], ◌∷◌, Option, Some, None, slice_get, ℤ, refl, sym, ap, subst, arith}
use Rattle.std.specs.Prelude.{◌==◌, ◌&&◌, ◌||◌, not, int_le, ◌≤ℤ◌}
use Rattle.std.specs.List.{Contains, list_any}
use Rattle.std.specs.Ordering.{eq_by_cmp}
use Rattle.std.proofs.lemmas.Int.{ints}
use Rattle.std.proofs.lemmas.Cmp.{eq_by_cmp_equiv}
use Rattle.std.proofs.lemmas.Map.Views.{tells_apart, Contains-from_any, list_any-from_Contains}
use Rattle.sv_value.specs.declared.values.Val.{Val}
use Rattle.sv_value.specs.declared.values.Val.TheVariants as vals
use Rattle.sv_value.specs.Orders.{text_cmp}
use Rattle.sv_value.proofs.OrderLaws.{text_total, exact_texts}
use Rattle.sv_app.specs.declared.acts.Act.{Act}
use Rattle.sv_app.specs.declared.acts.Act.TheVariants.{Insert, Fresh, Update, Remove}
use Rattle.sv_app.specs.declared.apps.Ident.{Ident}
use Rattle.sv_app.specs.declared.schemas.Check.{Check}
use Rattle.sv_app.specs.Accepted.{AcceptedSchema}
use Rattle.sv_app.specs.Satisfiable.{number_of}
use Rattle.sv_app.specs.Schema.{Rule, Bound, OneOf, Different, Refers, Invariant, Declaration}
use Rattle.sv_app.specs.Valid.{IsListed}
use Rattle.sv_app.proofs.ListLaws.{Passes, any_passes, any_at}
use Rattle.sv_app.proofs.TestLaws.{same_test, test_same}
use Rattle.sv_effect.specs.declared.ops.Write.{Write}
use Rattle.sv_effect.specs.declared.ops.Write.TheVariants.{Delta, Set}
use Rattle.sv_effect.specs.Acts.{is_insert, is_draw}
use Rattle.sv_effect.specs.BareTables.{got_of}
use Rattle.sv_effect.specs.Fits.{SuitsTable}
use Rattle.sv_effect.specs.Needs.{grows}
use Rattle.sv_effect.specs.RunChanges.{Effect}
use Rattle.sv_effect.specs.Threatened.{write_to, touches, removes_from, writes_plain, is_remove, SetsUnlisted, ByUnique, ByChild, ByParent, ByCheck, ByList}
use Rattle.sv_gains.specs.Gains.{Teller, AreGains}
use Rattle.sv_threat.specs.declared.moves.Move.{Move}
use Rattle.sv_threat.specs.declared.moves.Case.{Case}
use Rattle.sv_threat.specs.declared.moves.Case.TheVariants.{BothLose, HiWins, LoWins, BothWin, FromNothing}
use Rattle.sv_threat.specs.declared.ways.Way.{Way}
use Rattle.sv_threat.specs.declared.ways.Way.TheVariants.{Unique, Child, Parent, Check as Checked, List as Listed}
use Rattle.sv_threat.specs.Cases.{is_added, is_set, move_at, IsAsked, given, bound_of, IsAtMost, Fails, SomeFails, moves_of}
use Rattle.sv_threat.specs.Laws.{IsJudged}
use Rattle.sv_threat.specs.Tests.{is_asked, is_at_most, case_fails, all_cases, check_fails, is_text_of, sets_unlisted, gives, threatens, By, is_anywhere}
use Rattle.sv_threat.proofs.CaseLaws.{cases_decide}

pub and_left : (a b : Bool) → (a && b) ≡ true → a ≡ true
and_left true b e = refl
and_left false b e = absurd cc

pub and_right : (a b : Bool) → (a && b) ≡ true → b ≡ true
and_right true b e = e
and_right false b e = absurd cc

pub not_false : (b : Bool) → not b ≡ true → b ≡ false
not_false true e = absurd cc
not_false false e = refl

pub apart : {P : Type 0} (b : Bool) → b ≡ true → b ≡ false → P
apart true e f = absurd cc
apart false e f = absurd cc

-- ---- cases

asked_means : (act : Act) (hi lo : Move) (kase : Case) → is_asked act hi lo kase ≡ true → IsAsked act hi lo kase
asked_means act hi lo BothLose e = (not_false (is_draw act) (and_left (not (is_draw act)) _ e), and_right (not (is_draw act)) _ e)
asked_means act hi lo HiWins e = (not_false (is_draw act) (and_left (not (is_draw act)) _ e), and_right (not (is_draw act)) _ e)
asked_means act hi lo LoWins e = (not_false (is_draw act) (and_left (not (is_draw act)) _ e), and_right (not (is_draw act)) _ e)
asked_means act hi lo BothWin e = both (is_draw act) (is_set hi) (is_set lo) e
  where
    both : (d a b : Bool) → (not d && a && b) ≡ true → (d ≡ false) × (a ≡ true) × (b ≡ true)
    both true a b e = absurd (no a b e)
      where
        no : (a b : Bool) → (false && a && b) ≡ true → ⊥
        no true true e = cc
        no true false e = cc
        no false true e = cc
        no false false e = cc
    both false true true e = (refl, refl, refl)
    both false true false e = absurd cc
    both false false true e = absurd cc
    both false false false e = absurd cc
asked_means act hi lo FromNothing e = e

means_asked : (act : Act) (hi lo : Move) (kase : Case) → IsAsked act hi lo kase → is_asked act hi lo kase ≡ true
means_asked act hi lo BothLose asked = (λ i. not (asked.0 i) && asked.1 i)
means_asked act hi lo HiWins asked = (λ i. not (asked.0 i) && asked.1 i)
means_asked act hi lo LoWins asked = (λ i. not (asked.0 i) && asked.1 i)
means_asked act hi lo BothWin asked = (λ i. not (asked.0 i) && asked.1 i && asked.2 i)
means_asked act hi lo FromNothing asked = asked

most_means : (n : ℤ) (bound : Option ℤ) → is_at_most n bound ≡ true → IsAtMost n bound
most_means n None e = absurd cc
most_means n (Some most) e = omega (arith, ints, e)

means_most : (n : ℤ) (bound : Option ℤ) → is_at_most n bound ≡ false → IsAtMost n bound → ⊥
means_most n None e within = within
means_most n (Some most) e within = absurd (omega (arith, ints, e, within))

fails_means : (told : Teller) (check : Check) (act : Act) (hi lo : Move) (kase : Case) → case_fails told check act hi lo kase ≡ true → Fails told check act hi lo kase
fails_means told check act hi lo kase e = record {
  asked = asked_means act hi lo kase (and_left (is_asked act hi lo kase) _ e);
  fails = means_most (given hi lo kase) (bound_of told check kase) (not_false (is_at_most (given hi lo kase) (bound_of told check kase)) (and_right (is_asked act hi lo kase) _ e));
}

means_fails : (told : Teller) (check : Check) (act : Act) (hi lo : Move) (kase : Case) → Fails told check act hi lo kase → case_fails told check act hi lo kase ≡ true
means_fails told check act hi lo kase is = by (is_at_most (given hi lo kase) (bound_of told check kase)) refl
  where
    by : (b : Bool) → is_at_most (given hi lo kase) (bound_of told check kase) ≡ b → case_fails told check act hi lo kase ≡ true
    by true e = absurd (is.fails (most_means (given hi lo kase) (bound_of told check kase) e))
    by false e = (λ i. means_asked act hi lo kase is.asked i && not (e i))

case_stands : (kase : Case) → (k : ℕ) × (slice_get all_cases k ≡ Some kase)
case_stands BothLose = (0, refl)
case_stands HiWins = (1, refl)
case_stands LoWins = (2, refl)
case_stands BothWin = (3, refl)
case_stands FromNothing = (4, refl)

check_means : (told : Teller) (check : Check) (e : Effect) → check_fails told check e ≡ true → SomeFails told check e.act (moves_of e)
check_means told check e any =
    let found : Passes (λ kase. case_fails told check e.act (move_at (moves_of e) (number_of check.hi)) (move_at (moves_of e) (number_of check.lo)) kase) all_cases = any_passes _ all_cases any in
    record { kase = found.x; fails = fails_means told check e.act (move_at (moves_of e) (number_of check.hi)) (move_at (moves_of e) (number_of check.lo)) found.x found.is }

means_check : (told : Teller) (check : Check) (e : Effect) → SomeFails told check e.act (moves_of e) → check_fails told check e ≡ true
means_check told check e is =
    any_at (λ kase. case_fails told check e.act (move_at (moves_of e) (number_of check.hi)) (move_at (moves_of e) (number_of check.lo)) kase) all_cases (case_stands is.kase).0 is.kase (case_stands is.kase).1
    (means_fails told check e.act (move_at (moves_of e) (number_of check.hi)) (move_at (moves_of e) (number_of check.lo)) is.kase is.fails)

-- ---- lists

listed_means : (v : Val) (texts : List (List ℕ)) → is_text_of v texts ≡ true → IsListed (got_of v) texts
listed_means (vals.Int n) texts e = absurd cc
listed_means (vals.Text text) texts e = Contains-from_any (λ x y h. tells_apart exact_texts x y h) text texts e

means_listed : (v : Val) (texts : List (List ℕ)) → IsListed (got_of v) texts → is_text_of v texts ≡ true
means_listed (vals.Int n) texts h = absurd h
means_listed (vals.Text text) texts h = list_any-from_Contains (eq_by_cmp_equiv text_total) text texts h

unlisted_means : (w : Option Write) (texts : List (List ℕ)) → sets_unlisted w texts ≡ true → (v : Val) × (w ≡ Some (Set v)) × (IsListed (got_of v) texts → ⊥)
unlisted_means None texts e = absurd cc
unlisted_means (Some (Delta d)) texts e = absurd cc
unlisted_means (Some (Set v)) texts e = (v, refl, λ listed. apart (is_text_of v texts) (means_listed v texts listed) (not_false (is_text_of v texts) e))

means_unlisted : (w : Option Write) (v : Val) (texts : List (List ℕ)) → w ≡ Some (Set v) → (IsListed (got_of v) texts → ⊥) → sets_unlisted w texts ≡ true
means_unlisted w v texts is unlisted = ap (λ o. sets_unlisted o texts) is ∙ by (is_text_of v texts) refl
  where
    by : (b : Bool) → is_text_of v texts ≡ b → not (is_text_of v texts) ≡ true
    by true e = absurd (unlisted (listed_means v texts e))
    by false e = ap not e

-- ---- rules

touch : (e : Effect) (column : Ident) → gives e column.num ≡ true → touches e e.place.table column ≡ true
touch e column is = (λ i. same_test e.place.table e.place.table refl i && is i)

-- a change of a declared table that writes no plain column, and what tells its differences
pub record IsOwn (schema : List Declaration) (table : Declaration) (e : Effect) (told : Teller) : Type 0 where
  pub accepted : AcceptedSchema schema
  pub declared : slice_get schema e.place.table ≡ Some table
  pub fits : SuitsTable table e
  pub unplain : writes_plain table.columns e.writes ≡ false
  pub gains : AreGains table told

judged : (schema : List Declaration) (table : Declaration) (e : Effect) (told : Teller) (inv : Invariant) (check : Check) → IsOwn schema table e told → Contains table.invs inv → inv.rule ≡ Bound check
    → IsJudged schema table e inv check
judged schema table e told inv check own among rule = record {
  accepted = own.accepted;
  declared = own.declared;
  fits = own.fits;
  unplain = own.unplain;
  among = among;
  rule = rule;
}

pub threat_means : (way : Way) (schema : List Declaration) (table : Declaration) (e : Effect) (told : Teller) (inv : Invariant) (rule : Rule) → IsOwn schema table e told → Contains table.invs inv
    → inv.rule ≡ rule → threatens way schema told e rule ≡ true → By way schema e e.place.table table rule
threat_means Unique schema table e told inv (Different column) own among is t = touch e column t
threat_means Unique schema table e told inv (Bound check) own among is t = cc
threat_means Unique schema table e told inv (OneOf column texts) own among is t = cc
threat_means Unique schema table e told inv (Refers column parent target) own among is t = cc
threat_means Child schema table e told inv (Refers column parent target) own among is t =
    (not_false (grows (slice_get schema parent.num)) (and_left (not (grows (slice_get schema parent.num))) _ t), touch e column (and_right (not (grows (slice_get schema parent.num))) _ t))
threat_means Child schema table e told inv (Bound check) own among is t = cc
threat_means Child schema table e told inv (OneOf column texts) own among is t = cc
threat_means Child schema table e told inv (Different column) own among is t = cc
threat_means Parent schema table e told inv (Refers column parent target) own among is t = t
threat_means Parent schema table e told inv (Bound check) own among is t = cc
threat_means Parent schema table e told inv (OneOf column texts) own among is t = cc
threat_means Parent schema table e told inv (Different column) own among is t = cc
threat_means Checked schema table e told inv (Bound check) own among is t =
    subst (ByCheck e e.place.table table) is ((cases_decide schema table e inv check told (judged schema table e told inv check own among is) own.gains).1 (check_means told check e t))
threat_means Checked schema table e told inv (OneOf column texts) own among is t = cc
threat_means Checked schema table e told inv (Different column) own among is t = cc
threat_means Checked schema table e told inv (Refers column parent target) own among is t = cc
threat_means Listed schema table e told inv (OneOf column texts) own among is t =
    let found : (v : Val) × (write_to column.num e.writes ≡ Some (Set v)) × (IsListed (got_of v) texts → ⊥) = unlisted_means (write_to column.num e.writes) texts t in
    (refl, record { val = found.0; set = found.1; unlisted = found.2 })
threat_means Listed schema table e told inv (Bound check) own among is t = cc
threat_means Listed schema table e told inv (Different column) own among is t = cc
threat_means Listed schema table e told inv (Refers column parent target) own among is t = cc

given_so : (e : Effect) (table : ℕ) (column : Ident) → touches e table column ≡ true → gives e column.num ≡ true
given_so e table column t = and_right (e.place.table == table) (gives e column.num) t

pub means_threat : (way : Way) (schema : List Declaration) (table : Declaration) (e : Effect) (told : Teller) (inv : Invariant) (rule : Rule) → IsOwn schema table e told → Contains table.invs inv
    → inv.rule ≡ rule → By way schema e e.place.table table rule → threatens way schema told e rule ≡ true
means_threat Unique schema table e told inv (Different column) own among is by = given_so e e.place.table column by
means_threat Unique schema table e told inv (Bound check) own among is by = absurd by
means_threat Unique schema table e told inv (OneOf column texts) own among is by = absurd by
means_threat Unique schema table e told inv (Refers column parent target) own among is by = absurd by
means_threat Child schema table e told inv (Refers column parent target) own among is by = (λ i. not (by.0 i) && given_so e e.place.table column by.1 i)
means_threat Child schema table e told inv (Bound check) own among is by = absurd by
means_threat Child schema table e told inv (OneOf column texts) own among is by = absurd by
means_threat Child schema table e told inv (Different column) own among is by = absurd by
means_threat Parent schema table e told inv (Refers column parent target) own among is by = by
means_threat Parent schema table e told inv (Bound check) own among is by = absurd by
means_threat Parent schema table e told inv (OneOf column texts) own among is by = absurd by
means_threat Parent schema table e told inv (Different column) own among is by = absurd by
means_threat Checked schema table e told inv (Bound check) own among is by =
    means_check told check e ((cases_decide schema table e inv check told (judged schema table e told inv check own among is) own.gains).0 (subst (ByCheck e e.place.table table) (sym is) by))
means_threat Checked schema table e told inv (OneOf column texts) own among is by = absurd by
means_threat Checked schema table e told inv (Different column) own among is by = absurd by
means_threat Checked schema table e told inv (Refers column parent target) own among is by = absurd by
means_threat Listed schema table e told inv (OneOf column texts) own among is by = means_unlisted (write_to column.num e.writes) by.1.val texts by.1.set by.1.unlisted
means_threat Listed schema table e told inv (Bound check) own among is by = absurd by
means_threat Listed schema table e told inv (Different column) own among is by = absurd by
means_threat Listed schema table e told inv (Refers column parent target) own among is by = absurd by

-- but for references to it, the rule is of the change's table
pub own_table : (way : Way) (schema : List Declaration) (e : Effect) (table : ℕ) (d : Declaration) (rule : Rule) → is_anywhere way ≡ false → By way schema e table d rule → e.place.table ≡ table
own_table Unique schema e table d (Different column) own by = test_same e.place.table table (and_left (e.place.table == table) (gives e column.num) by)
own_table Unique schema e table d (Bound check) own by = absurd by
own_table Unique schema e table d (OneOf column texts) own by = absurd by
own_table Unique schema e table d (Refers column parent target) own by = absurd by
own_table Child schema e table d (Refers column parent target) own by = test_same e.place.table table (and_left (e.place.table == table) (gives e column.num) by.1)
own_table Child schema e table d (Bound check) own by = absurd by
own_table Child schema e table d (OneOf column texts) own by = absurd by
own_table Child schema e table d (Different column) own by = absurd by
own_table Parent schema e table d rule own by = absurd cc
own_table Checked schema e table d (Bound check) own by = by.0
own_table Checked schema e table d (OneOf column texts) own by = absurd by
own_table Checked schema e table d (Different column) own by = absurd by
own_table Checked schema e table d (Refers column parent target) own by = absurd by
own_table Listed schema e table d (OneOf column texts) own by = by.0
own_table Listed schema e table d (Bound check) own by = absurd by
own_table Listed schema e table d (Different column) own by = absurd by
own_table Listed schema e table d (Refers column parent target) own by = absurd by

-- a reference, whatever its table
pub parent_means : (way : Way) (schema : List Declaration) (e : Effect) (told : Teller) (table : ℕ) (d : Declaration) (rule : Rule) → is_anywhere way ≡ true → threatens way schema told e rule ≡ true → By way schema e table d rule
parent_means Parent schema e told table d (Refers column parent target) is t = t
parent_means Parent schema e told table d (Bound check) is t = cc
parent_means Parent schema e told table d (OneOf column texts) is t = cc
parent_means Parent schema e told table d (Different column) is t = cc
parent_means Unique schema e told table d rule is t = absurd cc
parent_means Child schema e told table d rule is t = absurd cc
parent_means Checked schema e told table d rule is t = absurd cc
parent_means Listed schema e told table d rule is t = absurd cc

pub means_parent : (way : Way) (schema : List Declaration) (e : Effect) (told : Teller) (table : ℕ) (d : Declaration) (rule : Rule) → is_anywhere way ≡ true → By way schema e table d rule → threatens way schema told e rule ≡ true
means_parent Parent schema e told table d (Refers column parent target) is by = by
means_parent Parent schema e told table d (Bound check) is by = absurd by
means_parent Parent schema e told table d (OneOf column texts) is by = absurd by
means_parent Parent schema e told table d (Different column) is by = absurd by
means_parent Unique schema e told table d rule is by = absurd cc
means_parent Child schema e told table d rule is by = absurd cc
means_parent Checked schema e told table d rule is by = absurd cc
means_parent Listed schema e told table d rule is by = absurd cc
