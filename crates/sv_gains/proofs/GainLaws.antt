-- From what the solver answers on the rows of a table's checks to greatest differences of its columns.
use Rattle.std.proofs.Common.{◌≡◌, ℕ, zero, suc, ◌+◌, ◌<◌, Bool, true, false, List, [], ◌∷◌, ◌++◌, length, map, take, get_or, Option, Some, None, All, ℤ, pos, ◌-ℤ◌, ◌<ℤ◌, ◌≤ℤ◌, slice_get, refl, sym, ap, subst, ◌∙◌, arith}
use Rattle.std.specs.Prelude.{◌&&◌, if◌then◌else◌}
use Rattle.std.proofs.lemmas.Bool.{eqb-true, eq-eqb}
use Rattle.std.proofs.lemmas.List.{map-append, take_more}
use Rattle.std.proofs.lemmas.List.Elements.{All-push}
use Rattle.sv_app.specs.declared.schemas.Check.{Check}
use Rattle.sv_app.specs.Satisfiable.{checks_of, number_of, IsSatisfiable}
use Rattle.sv_app.specs.Schema.{Declaration}
use Rattle.sv_app.proofs.ListLaws.{Stands, get_at, flat_stands, same_some}
use Rattle.sv_bounds.specs.declared.systems.System.{System}
use Rattle.sv_bounds.specs.declared.systems.Widest.{Widest}
use Rattle.sv_bounds.specs.declared.systems.Widest.TheVariants.{Most, Unbounded}
use Rattle.sv_bounds.specs.Answers.{IsSystem, IsMost, IsWidest, assigned}
use Rattle.sv_bounds.specs.Differences.{Meets, IsSolvable, IsUnbounded}
use Rattle.sv_gains.specs.declared.gains.Gain.{Gain}
use Rattle.sv_gains.specs.Asked.{asked_by, asked_in, IsCheckSystem, IsRight, most_of, sides_of}
use Rattle.sv_gains.specs.Gains.{difference_of, IsGreatest, Exceeds, IsGain, AreGains, IsShort, is_side, noted_in}
use Rattle.sv_gains.specs.Systems.{variable_of, row_of, IsCheckRow}
use Rattle.sv_gains.proofs.ShortLaws.{most_short}
use Rattle.sv_gains.proofs.SystemLaws.{numbers_meet, value_same, with_zero, with_zero_at, rows_meet}

-- the difference of two variables is that of the columns
seen_at : (v : ℕ → ℤ) (hi lo : Option ℕ) → v 0 ≡ pos 0 → (v (variable_of hi) -ℤ v (variable_of lo)) ≡ difference_of (λ column. v (suc column)) hi lo
seen_at v hi lo e = (λ i. value_same v hi e i -ℤ value_same v lo e i)

told_at : (numbers : ℕ → ℤ) (hi lo : Option ℕ) → (with_zero numbers (variable_of hi) -ℤ with_zero numbers (variable_of lo)) ≡ difference_of numbers hi lo
told_at numbers hi lo = (λ i. with_zero_at numbers hi i -ℤ with_zero_at numbers lo i)

greatest_of : (s : System) (table : Declaration) (hi lo : Option ℕ) (most : ℤ) (values : List ℤ) (chain : List ℕ) → s.rows ≡ map row_of (checks_of table)
    → IsMost s (variable_of hi) (variable_of lo) most values chain → IsGreatest table hi lo most
greatest_of s table hi lo most values chain rows is =
    let meets : Meets (map row_of (checks_of table)) (assigned values) = subst (λ rs. Meets rs (assigned values)) rows is.solution.meets in
    record {
      bound = λ numbers met. subst (λ d. d ≤ℤ most) (told_at numbers hi lo)
          (is.greatest (with_zero numbers) (subst (λ rs. Meets rs (with_zero numbers)) (sym rows) (rows_meet (checks_of table) numbers met)));
      numbers = λ column. assigned values (suc column);
      met = numbers_meet (checks_of table) (assigned values) meets;
      reached = sym (seen_at (assigned values) hi lo meets.zero_first) ∙ is.reached;
    }

exceeds_of : (s : System) (table : Declaration) (hi lo : Option ℕ) → s.rows ≡ map row_of (checks_of table) → IsUnbounded s.rows (variable_of hi) (variable_of lo) → (most : ℤ) → Exceeds table hi lo most
exceeds_of s table hi lo rows unbounded most = by (unbounded most)
  where
    by : ((v : ℕ → ℤ) × Meets s.rows v × (most <ℤ (v (variable_of hi) -ℤ v (variable_of lo)))) → Exceeds table hi lo most
    by (v, is, more) =
        let meets : Meets (map row_of (checks_of table)) v = subst (λ rs. Meets rs v) rows is in
        record {
          numbers = λ column. v (suc column);
          met = numbers_meet (checks_of table) v meets;
          more = subst (λ d. most <ℤ d) (seen_at v hi lo meets.zero_first) more;
        }

-- the answer where there is a greatest difference, and where there is none
most_right : (s : System) (hi lo : Option ℕ) (most : ℤ) (values : List ℤ) (chain : List ℕ) → IsCheckSystem s → IsWidest s (variable_of hi) (variable_of lo) (Most most values chain)
    → IsRight s (record { hi = hi; lo = lo; most = Some most })
most_right s hi lo most values chain is widest = record {
  gain = λ table rows. greatest_of s table hi lo most values chain rows widest;
  short = most_short s (variable_of hi) (variable_of lo) most values chain is.vars is.solvable is.system.rows is.within widest;
}

none_right : (s : System) (hi lo : Option ℕ) → IsWidest s (variable_of hi) (variable_of lo) Unbounded → IsRight s (record { hi = hi; lo = lo; most = None })
none_right s hi lo widest = record {
  gain = λ table rows. exceeds_of s table hi lo rows widest;
  short = tt;
}

-- checks that some numbers meet give rows that some assignment meets
rows_solvable : (s : System) (table : Declaration) → s.rows ≡ map row_of (checks_of table) → IsSatisfiable table → IsSolvable s.rows
rows_solvable s table rows met = (with_zero met.values, subst (λ rs. Meets rs (with_zero met.values)) (sym rows) (rows_meet (checks_of table) met.values met.met))

pub widest_right : (s : System) (hi lo : Option ℕ) (widest : Widest) → IsCheckSystem s → IsWidest s (variable_of hi) (variable_of lo) widest → IsRight s (record { hi = hi; lo = lo; most = most_of widest })
widest_right s hi lo (Most most values chain) is widest = most_right s hi lo most values chain is widest
widest_right s hi lo Unbounded is widest = none_right s hi lo widest

pub system_right : (s : System) (table : Declaration) → IsSystem s → s.vars ≡ 17 → s.rows ≡ map row_of (checks_of table) → All IsCheckRow s.rows → IsSatisfiable table → IsCheckSystem s
system_right s table system vars rows within met = record { system = system; vars = vars; within = within; solvable = rows_solvable s table rows met }

-- one more answer
pub one_answer : (asked : List (Option ℕ × Option ℕ)) (i : ℕ) (sides : Option ℕ × Option ℕ) (gains now : List Gain) (gain : Gain) → i < length asked → sides ≡ get_or asked i sides
    → map sides_of gains ≡ take i asked → sides_of gain ≡ sides → now ≡ gains ++ gain ∷ [] → map sides_of now ≡ take (i + 1) asked
one_answer asked i sides gains now gain less is before one step =
    ap (map sides_of) step ∙ map-append sides_of gains (gain ∷ []) ∙ (λ k. before k ++ (one ∙ is) k ∷ []) ∙ sym (take_more asked i sides less)

pub one_right : (s : System) (gains now : List Gain) (gain : Gain) → All (IsRight s) gains → IsRight s gain → now ≡ gains ++ gain ∷ [] → All (IsRight s) now
one_right s gains now gain all right step = subst (All (IsRight s)) (sym step) (All-push (IsRight s) gains gain all right)

-- the answer that is noted first is that of a right one, where one is noted
same_side : (a b : Option ℕ) → is_side a b ≡ true → a ≡ b
same_side None None e = refl
same_side None (Some b) e = absurd cc
same_side (Some a) None e = absurd cc
same_side (Some a) (Some b) e = ap (λ n. Some n) (eqb-true a b e)

side_itself : (a : Option ℕ) → is_side a a ≡ true
side_itself None = refl
side_itself (Some a) = eq-eqb a a refl

and_left : (a b : Bool) → (a && b) ≡ true → a ≡ true
and_left true b e = refl
and_left false b e = absurd cc

and_right : (a b : Bool) → (a && b) ≡ true → b ≡ true
and_right true b e = e
and_right false b e = absurd cc

noted_right : (table : Declaration) (gains : List Gain) (hi lo : Option ℕ) → All (λ gain. IsGain table gain.hi gain.lo gain.most) gains → (k : ℕ) → slice_get (map sides_of gains) k ≡ Some (hi, lo)
    → IsGain table hi lo (noted_in gains hi lo)
noted_right table [] hi lo all k at = absurd cc
noted_right table (gain ∷ gains) hi lo all k at =
    split (is_side gain.hi hi && is_side gain.lo lo) refl k at (λ j there. noted_right table gains hi lo (λ n d less. all (suc n) d (omega (arith, less))) j there)
  where
    split : (b : Bool) → (is_side gain.hi hi && is_side gain.lo lo) ≡ b → (k : ℕ) → slice_get (map sides_of (gain ∷ gains)) k ≡ Some (hi, lo)
        → ((j : ℕ) → slice_get (map sides_of gains) j ≡ Some (hi, lo) → IsGain table hi lo (noted_in gains hi lo)) → IsGain table hi lo (if b then gain.most else noted_in gains hi lo)
    split true is k at ih =
        let one : gain.hi ≡ hi = same_side gain.hi hi (and_left _ _ is) in
        let other : gain.lo ≡ lo = same_side gain.lo lo (and_right (is_side gain.hi hi) _ is) in
        subst (λ (p : Option ℕ × Option ℕ). IsGain table p.0 p.1 gain.most) (λ i. (one i, other i)) (all 0 gain (omega arith))
    split false is (suc k) at ih = ih k at
    split false is zero at ih =
        let same : sides_of gain ≡ (hi, lo) = same_some (Some (sides_of gain)) (sides_of gain) (hi, lo) refl at in
        let back : (hi, lo) ≡ sides_of gain = sym same in
        let itself : (is_side gain.hi hi && is_side gain.lo lo) ≡ true = (λ i. is_side gain.hi (back i).0 && is_side gain.lo (back i).1) ∙ (λ i. side_itself gain.hi i && side_itself gain.lo i) in
        absurd (apart _ itself is)
      where
        apart : (b : Bool) → b ≡ true → b ≡ false → ⊥
        apart true e f = cc
        apart false e f = cc

-- what is asked of each check was answered
pub all_told : (table : Declaration) (s : System) (gains : List Gain) → s.rows ≡ map row_of (checks_of table) → map sides_of gains ≡ asked_in (checks_of table) → All (IsRight s) gains
    → AreGains table (noted_in gains)
all_told table s gains rows sides all k d less =
    let check : Check = get_or (checks_of table) k d in
    let at : slice_get (checks_of table) k ≡ Some check = get_at (checks_of table) k d less in
    record {
      both = told (number_of check.hi) (number_of check.lo) (flat_stands asked_by (checks_of table) k check _ at (record { number = 0; at = refl }));
      lesser = told None (number_of check.lo) (flat_stands asked_by (checks_of table) k check _ at (record { number = 1; at = refl }));
      greater = told (number_of check.hi) None (flat_stands asked_by (checks_of table) k check _ at (record { number = 2; at = refl }));
    }
  where
    told : (hi lo : Option ℕ) → Stands (asked_in (checks_of table)) (hi, lo) → IsGain table hi lo (noted_in gains hi lo)
    told hi lo stands = noted_right table gains hi lo (λ n d less. (all n d less).gain table rows) stands.number (ap (λ l. slice_get l stands.number) sides ∙ stands.at)

pub all_short : (s : System) (gains : List Gain) → All (IsRight s) gains → All (λ gain. IsShort gain.most) gains
all_short s gains all k d less = (all k d less).short
