-- Two that tell the greatest differences right ask the same of each change.
use Rattle.std.proofs.Common.{◌≡◌, ◌∙◌, ℕ, zero, suc, ◌+◌, Bool, true, false, List, [], ◌∷◌, ◌++◌, map, Option, Some, None, slice_get, ℤ, ◌<ℤ◌, ◌≤ℤ◌, refl, sym, ap, subst, arith, All}
use Rattle.std.specs.Prelude.{◌==◌, ◌&&◌, ◌||◌, length, ◌<◌, if◌then◌else◌}
use Rattle.std.proofs.lemmas.List.{append_assoc}
use Rattle.std.specs.List.{Contains, flat_map}
use Rattle.std.proofs.lemmas.Int.{ints}
use Rattle.sv_app.specs.declared.acts.Act.{Act}
use Rattle.sv_app.specs.declared.reasons.Reason.TheVariants as reasons
use Rattle.sv_app.specs.declared.schemas.Check.{Check}
use Rattle.sv_app.specs.Satisfiable.{checks_of, number_of}
use Rattle.sv_app.specs.Schema.{Rule, Bound, OneOf, Different, Refers, Invariant, Declaration}
use Rattle.sv_app.proofs.AcceptedLaws.{all_at}
use Rattle.sv_app.proofs.ListLaws.{Stands, contains_at}
use Rattle.sv_gains.specs.Gains.{IsGain, Tells, AreGains}
use Rattle.sv_linear.specs.Atoms.{Gain, Asked, ByCase, Group, less, case_if, write_at, is_delta, is_set, added_by, made_by, is_draw, is_insert, kept_cases, cases_of, by_check, for_each, groups, atoms, to_never, group_atoms, meets_wide, is_wide_change, never_where, is_plain_change, by_unique, by_child, by_parent, by_list}
use Rattle.sv_linear.specs.Effects.{SymWrite, SymEffect}
use Rattle.sv_threat.proofs.SideLaws.{check_stands}
use Rattle.sv_wp.specs.Told.{TellsGreatest}
use Rattle.sv_dict.specs.Laws.{AskAlike, AtomsOnce}

equal : (m n : ℤ) → m ≤ℤ n → n ≤ℤ m → m ≡ n
equal m n up down = omega (arith, ints, up, down)

apart : (m n : ℤ) {Q : Type 0} → m ≤ℤ n → n <ℤ m → Q
apart m n up down = absurd (omega (arith, ints, up, down))

-- of two sides there is one greatest difference, or none
pub gain_once : (table : Declaration) (hi lo : Option ℕ) (x y : Option ℤ) → IsGain table hi lo x → IsGain table hi lo y → x ≡ y
gain_once table hi lo None None is has = refl
gain_once table hi lo (Some m) None is has = let e = has m in apart _ _ (is.bound e.numbers e.met) e.more
gain_once table hi lo None (Some n) is has = let e = is n in apart _ _ (has.bound e.numbers e.met) e.more
gain_once table hi lo (Some m) (Some n) is has =
    ap (λ k. Some k) (equal m n (subst (λ k. k ≤ℤ n) is.reached (has.bound is.numbers is.met)) (subst (λ k. k ≤ℤ m) has.reached (is.bound has.numbers has.met)))

zero_more : (n : ℕ) → n + 0 ≡ n
zero_more n = omega arith

first_more : (n : ℕ) → n ≡ 0 + n
first_more n = omega arith

suc_more : (n k : ℕ) → n + suc k ≡ suc n + k
suc_more n k = omega arith

behind_at : {A : Type 0} (front back : List A) (x : A) → slice_get (front ++ x ∷ back) (length front) ≡ Some x
behind_at [] back x = refl
behind_at (y ∷ front) back x = behind_at front back x

in_midst : {A : Type 0} (front back : List A) (x : A) → Contains (front ++ x ∷ back) x
in_midst front back x = contains_at (front ++ x ∷ back) (length front) x (behind_at front back x)

module _ (schema : List Declaration) (told other : Gain) (e : SymEffect) where
  -- a check of a table for which both are right
  cases_once : (number : ℕ) (table : Declaration) (check : Check) → Tells table (told number) check → Tells table (other number) check
      → cases_of (told number) e.act e.writes check ≡ cases_of (other number) e.act e.writes check
  cases_once number table check is has =
      let a = number_of check.hi in
      let b = number_of check.lo in
      let x = write_at a e.writes in
      let y = write_at b e.writes in
      let both : told number a b ≡ other number a b = gain_once table a b _ _ is.both has.both in
      let lesser : told number None b ≡ other number None b = gain_once table None b _ _ is.lesser has.lesser in
      let greater : told number a None ≡ other number a None = gain_once table a None _ _ is.greater has.greater in
      λ i. (if is_draw e.act then [] else
      (case_if (is_delta x || is_delta y) (added_by x) (added_by y) (less check.most (both i))
      ++ case_if (is_set x) (made_by x) (added_by y) (less check.most (lesser i))
      ++ case_if (is_set y) (added_by x) (made_by y) (less check.most (greater i))
      ++ case_if (is_set x && is_set y) (made_by x) (made_by y) (Some check.most)))
      ++ case_if (is_insert e.act) (made_by x) (made_by y) (Some check.most)

  -- both are right of the table with this number
  abbrev Right : ℕ → Declaration → Type 0
  Right number table = AreGains table (told number) × AreGains table (other number)

  asked_once : (number : ℕ) (table : Declaration) (rule : Rule) → ((check : Check) → rule ≡ Bound check → Stands (checks_of table) check) → Right number table
      → by_check told e number rule ≡ by_check other e number rule
  asked_once number table (Bound check) among right =
      let at : Stands (checks_of table) check = among check refl in
      ap (λ qs. if e.table == number then map (λ q. ByCase q) qs else [])
      (cases_once number table check (all_at (Tells table (told number)) (checks_of table) at.number check right.0 at.at) (all_at (Tells table (other number)) (checks_of table) at.number check right.1 at.at))
  asked_once number table (OneOf column texts) among right = refl
  asked_once number table (Different column) among right = refl
  asked_once number table (Refers column parent target) among right = refl

  abbrev check_group : Gain → ℕ → Invariant → Group
  check_group gain number inv = record { reason = reasons.Check inv.number; asked = by_check gain e number inv.rule }

  invs_once : (number : ℕ) (table : Declaration) → Right number table → (front back : List Invariant) → table.invs ≡ front ++ back
      → map (check_group told number) back ≡ map (check_group other number) back
  invs_once number table right front [] is = refl
  invs_once number table right front (inv ∷ back) is =
      let here : Contains table.invs inv = subst (λ is. Contains is inv) (sym is) (in_midst front back inv) in
      (λ i. record { reason = reasons.Check inv.number; asked = asked_once number table inv.rule (λ check rule. check_stands table inv check here rule) right i } ∷ map (check_group told number) back)
      ∙ ap (λ gs. check_group other number inv ∷ gs) (invs_once number table right (front ++ inv ∷ []) back (is ∙ sym (append_assoc front (inv ∷ []) back)))

  tables_once : (start : ℕ) (tables : List Declaration) → ((k : ℕ) (table : Declaration) → slice_get tables k ≡ Some table → Right (start + k) table)
      → for_each (check_group told) start tables ≡ for_each (check_group other) start tables
  tables_once start [] right = refl
  tables_once start (d ∷ ds) right =
      let here : Right start d = subst (λ n. Right n d) (zero_more start) (right 0 d refl) in
      ap (λ gs. gs ++ for_each (check_group told) (suc start) ds) (invs_once start d here [] d.invs refl)
      ∙ ap (λ gs. map (check_group other start) d.invs ++ gs) (tables_once (suc start) ds (λ k table at. subst (λ n. Right n table) (suc_more start k) (right (suc k) table at)))

  groups_once : TellsGreatest schema told → TellsGreatest schema other → groups told schema e ≡ groups other schema e
  groups_once is has =
      ap (λ gs. record { reason = reasons.Plain; asked = never_where (is_plain_change (slice_get schema e.table) e) }
      ∷ for_each (λ table inv. record { reason = reasons.Unique inv.number; asked = by_unique e table inv.rule }) 0 schema
      ++ for_each (λ table inv. record { reason = reasons.Child inv.number; asked = by_child schema e table inv.rule }) 0 schema
      ++ for_each (λ table inv. record { reason = reasons.Parent inv.number; asked = by_parent e inv.rule }) 0 schema
      ++ gs
      ++ for_each (λ table inv. record { reason = reasons.List inv.number; asked = by_list e inv.number table inv.rule }) 0 schema)
      (tables_once 0 schema (λ k table at. subst (λ n. Right n table) (first_more k) (is.each k table at, has.each k table at)))

pub atoms_once : AtomsOnce
atoms_once schema told other e place is has =
    let same : groups told schema e ≡ groups other schema e = groups_once schema told other e is has in
    record {
      atoms = ap (λ gs. to_never (flat_map (group_atoms place) gs)) same;
      wide = ap (λ gs. meets_wide (flat_map (λ g. g.asked) gs)) same;
    }
