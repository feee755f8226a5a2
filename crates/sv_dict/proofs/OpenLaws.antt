-- A dictionary with one template more; and where that passes a limit.
use Rattle.std.proofs.Common.{◌≡◌, ◌∙◌, ◌≤◌, ◌<◌, nat_eq, ◌&&◌, cond, ℕ, suc, ◌+◌, Bool, true, false, List, [], ◌∷◌, ◌++◌, map, length, Option, Some, None, refl, sym, ap, subst, arith, All}
use Rattle.std.specs.Bool.{beq}
use Rattle.std.specs.Cmp.Lexicographic.{pointwise, slice_cmp}
use Rattle.std.specs.List.{AllByRecursion, filter}
use Rattle.std.specs.List.Sorted.{IsStrictlySortedBy}
use Rattle.std.specs.Ordering.{bool_cmp}
use Rattle.std.specs.declared.cmp.Ordering.TheVariants.{Less}
use Rattle.std.proofs.lemmas.List.{length-map, length-append, append_assoc, append-nil, map-append}
use Rattle.std.proofs.lemmas.List.Elements.{All-head, All-tail, All-cons, All-nil, All-append}
use Rattle.sv_app.specs.Schema.{Declaration}
use Rattle.sv_app.specs.Trees.{Block, Transaction}
use Rattle.sv_linear.specs.Codes.{left_of}
use Rattle.sv_paths.specs.declared.answers.Path.{Path}
use Rattle.sv_paths.specs.Numbered.{Part}
use Rattle.sv_paths.specs.Paths.{AreAllPaths, FitsLimit}
use Rattle.sv_paths.proofs.OrderLaws.{all_paths_are_one}
use Rattle.sv_label.specs.declared.templates.Template.{Template}
use Rattle.sv_label.specs.Groups.{Group, is_of, template_of, found, with_template, added, entries}
use Rattle.sv_listing.specs.Frugal.{IsTemplate, HaveTemplates, leads_on, choices_on, IsGroup, AreGroups, NoUnits, WithGroup, WithNone}
use Rattle.sv_listing.specs.TooMuch.{atoms_left, atoms_of, atoms_in, AreFew}
use Rattle.sv_dict.specs.Standing.{Holds, IsOpen, Unopened, Opened, HoldsIn, HasRoom}
use Rattle.sv_dict.proofs.GroupLaws.{entries_append, atoms_in_append, atoms_of_append, Alike, alike, groups_once, joins, Parted, parted}
use Rattle.sv_dict.proofs.TemplateLaws.{template_once, atoms_same}

-- ---- what is listed counts in any dictionary of these units

module _ (schema : List Declaration) (txns : List Transaction) (part : Part) where
  abbrev Is : List Bool × Template → Type 0
  Is e = IsTemplate schema txns part e.0 e.1

  record AtLeast (es os : List (List Bool × Template)) (t : Template) : Type 0 where
    many : suc (length es) ≤ length os
    atoms : atoms_of es + atoms_left (left_of t.left) ≤ atoms_of os

  same_atoms : (c d : List Bool) (t u : Template) → c ≡ d → IsTemplate schema txns part c t → IsTemplate schema txns part d u → atoms_left (left_of t.left) ≡ atoms_left (left_of u.left)
  same_atoms c d t u e is has = atoms_same (left_of t.left) (left_of u.left) (template_once schema txns part c t u is (subst (λ c. IsTemplate schema txns part c u) (sym e) has)).left

  at_least : (es os : List (List Bool × Template)) (c : List Bool) (rest : List (List Bool)) (t : Template) → map (λ e. e.0) os ≡ map (λ e. e.0) es ++ c ∷ rest → All Is es → IsTemplate schema txns part c t → All Is os
      → AtLeast es os t
  at_least [] [] c rest t same is one has = absurd cc
  at_least [] (o ∷ os) c rest t same is one has =
      let first : o.0 ≡ c = cc in
      let here : atoms_left (left_of t.left) ≡ atoms_left (left_of o.1.left) = same_atoms c o.0 t o.1 (sym first) one (All-head Is o os has) in
      record { many = omega arith; atoms = omega (arith, here) }
  at_least (e ∷ es) [] c rest t same is one has = absurd cc
  at_least (e ∷ es) (o ∷ os) c rest t same is one has =
      let first : o.0 ≡ e.0 = cc in
      let behind : map (λ e. e.0) os ≡ map (λ e. e.0) es ++ c ∷ rest = cc in
      let here : atoms_left (left_of e.1.left) ≡ atoms_left (left_of o.1.left) = same_atoms e.0 o.0 e.1 o.1 (sym first) (All-head Is e es is) (All-head Is o os has) in
      let later = at_least es os c rest t behind (All-tail Is e es is) one (All-tail Is o os has) in
      let many : suc (length es) ≤ length os = later.many in
      let atoms : atoms_of es + atoms_left (left_of t.left) ≤ atoms_of os = later.atoms in
      record { many = omega (arith, many); atoms = omega (arith, atoms, here) }

  -- the templates of the open group
  record InOpen (before groups : List Group) (choices : List (List Bool)) : Type 0 where
    templates : List (List Bool × Template)
    choices_are : map (λ e. e.0) templates ≡ choices
    each : All Is templates
    many : entries groups ≡ entries before + length templates
    atoms : atoms_in groups ≡ atoms_in before + atoms_of templates

  in_open : (before groups : List Group) (choices : List (List Bool)) → IsOpen schema txns part before choices groups → InOpen before groups choices
  in_open before groups choices Unopened = record { templates = []; choices_are = refl; each = All-nil Is; many = omega arith; atoms = omega arith }
  in_open before groups choices (Opened _ g txn unit some have) =
      let many : entries (before ++ g ∷ []) ≡ entries before + entries (g ∷ []) = entries_append before (g ∷ []) in
      let atoms : atoms_in (before ++ g ∷ []) ≡ atoms_in before + atoms_in (g ∷ []) = atoms_in_append before (g ∷ []) in
      record { templates = g.templates; choices_are = have.choices_are; each = have.each; many = omega (arith, many); atoms = omega (arith, atoms) }

  counted_on : (more : List Part) (paths : List Path) (before groups back : List Group) (passed : List (List Bool)) (c : List Bool) (rest : List (List Bool)) (t : Template) (atoms : ℕ)
      → InOpen before groups passed → atoms ≡ atoms_in groups → IsTemplate schema txns part c t → AreAllPaths part.body paths → choices_on paths ≡ passed ++ c ∷ rest
      → AreGroups schema txns (part ∷ more) back → (front : List Group) → entries before ≡ entries front → atoms_in before ≡ atoms_in front → AreFew (front ++ back)
      → HasRoom groups atoms (atoms_left (left_of t.left))
  counted_on more paths before groups back passed c rest t atoms o counted one all split (WithGroup _ _ others g later every has behind) front many listed few =
      let l = at_least o.templates g.templates c rest t
      (has.templates.choices_are ∙ ap choices_on (all_paths_are_one part.body others paths every all) ∙ split ∙ ap (λ cs. cs ++ c ∷ rest) (sym o.choices_are)) o.each one has.templates.each in
      let m : suc (length o.templates) ≤ length g.templates = l.many in
      let a : atoms_of o.templates + atoms_left (left_of t.left) ≤ atoms_of g.templates = l.atoms in
      let em : entries groups ≡ entries before + length o.templates = o.many in
      let ea : atoms_in groups ≡ atoms_in before + atoms_of o.templates = o.atoms in
      let fm : entries (front ++ g ∷ later) ≡ entries front + entries (g ∷ later) = entries_append front (g ∷ later) in
      let fa : atoms_in (front ++ g ∷ later) ≡ atoms_in front + atoms_in (g ∷ later) = atoms_in_append front (g ∷ later) in
      let t8 : entries (front ++ g ∷ later) ≤ 8192 = few.templates in
      let t6 : atoms_in (front ++ g ∷ later) ≤ 65536 = few.atoms in
      record { templates = omega (arith, m, em, fm, many, t8); atoms = omega (arith, a, ea, fa, listed, counted, t6) }
  counted_on more paths before groups back passed c rest t atoms o counted one all split (WithNone _ _ others later every none behind) front many listed few =
      absurd (no_choice passed c rest (sym none ∙ ap choices_on (all_paths_are_one part.body others paths every all) ∙ split))
    where
      no_choice : (passed : List (List Bool)) (c : List Bool) (rest : List (List Bool)) → [] ≡ passed ++ c ∷ rest → ⊥
      no_choice [] c rest e = cc
      no_choice (p ∷ passed) c rest e = cc

-- any few groups of these units leave room for one template more
pub room_left : (schema : List Declaration) (txns : List Transaction) (done more : List Part) (part : Part) (paths : List Path) (groups others : List Group) (passed : List (List Bool)) (c : List Bool) (rest : List (List Bool))
    (t : Template) (atoms : ℕ) → HoldsIn schema txns done part passed groups atoms → IsTemplate schema txns part c t → AreAllPaths part.body paths → choices_on paths ≡ passed ++ c ∷ rest
    → AreGroups schema txns (done ++ part ∷ more) others → AreFew others → HasRoom groups atoms (atoms_left (left_of t.left))
room_left schema txns done more part paths groups others passed c rest t atoms holds one all split are few =
    let p = parted schema txns done (part ∷ more) others are in
    let same = alike holds.before p.front (groups_once schema txns done holds.before p.front holds.are p.first) in
    counted_on schema txns part more paths holds.before groups p.back passed c rest t atoms (in_open schema txns part holds.before groups passed holds.opened) holds.counted one all split p.behind p.front
    same.many same.atoms (subst AreFew p.whole few)

-- ---- one template more

abbrev pub NoneOf : ℕ → ℕ → List Group → Type 0
NoneOf txn unit groups = AllByRecursion (λ g. is_of txn unit g ≡ false) groups

abbrev pub NoneLike : List Bool → List (List Bool) → Type 0
NoneLike c choices = AllByRecursion (λ d. pointwise beq c d ≡ false) choices

past : (txn unit : ℕ) (c : List Bool) (before groups : List Group) → NoneOf txn unit before → found (before ++ groups) txn unit c ≡ found groups txn unit c
past txn unit c [] groups none = refl
past txn unit c (g ∷ before) groups none = ap (λ b. cond b (template_of c g.templates) (found (before ++ groups) txn unit c)) none.0 ∙ past txn unit c before groups none.1

none_like : (c : List Bool) (es : List (List Bool × Template)) → NoneLike c (map (λ e. e.0) es) → template_of c es ≡ None
none_like c [] none = refl
none_like c (e ∷ es) none = ap (λ b. cond b (Some e.1) (template_of c es)) none.0 ∙ none_like c es none.1

put_past : (txn unit : ℕ) (c : List Bool) (t : Template) (before groups : List Group) → NoneOf txn unit before → added (before ++ groups) txn unit c t ≡ before ++ added groups txn unit c t
put_past txn unit c t [] groups none = refl
put_past txn unit c t (g ∷ before) groups none =
    ap (λ b. cond b (with_template g c t ∷ (before ++ groups)) (g ∷ added (before ++ groups) txn unit c t)) none.0 ∙ ap (λ gs. g ∷ gs) (put_past txn unit c t before groups none.1)

is_its : (txn unit : ℕ) (g : Group) → g.txn ≡ txn → g.unit ≡ unit → is_of txn unit g ≡ true
is_its txn unit g e f = (λ i. nat_eq txn (e i) && nat_eq unit (f i)) ∙ both txn unit
  where
    both : (a b : ℕ) → (nat_eq a a && nat_eq b b) ≡ true
    both a b = grind arith

pub absent : (schema : List Declaration) (txns : List Transaction) (part : Part) (before groups : List Group) (choices : List (List Bool)) (c : List Bool) → IsOpen schema txns part before choices groups
    → NoneOf part.txn part.number before → NoneLike c choices → found groups part.txn part.number c ≡ None
absent schema txns part before groups choices c Unopened none apart = ap (λ gs. found gs part.txn part.number c) (sym (append-nil before)) ∙ past part.txn part.number c before [] none
absent schema txns part before groups choices c (Opened _ g txn unit some have) none apart =
    past part.txn part.number c before (g ∷ []) none ∙ ap (λ b. cond b (template_of c g.templates) None) (is_its part.txn part.number g txn unit)
    ∙ none_like c g.templates (subst (NoneLike c) (sym have.choices_are) apart)

more_templates : (schema : List Declaration) (txns : List Transaction) (part : Part) (choices : List (List Bool)) (es : List (List Bool × Template)) (c : List Bool) (t : Template)
    → HaveTemplates schema txns part choices es → IsTemplate schema txns part c t → HaveTemplates schema txns part (choices ++ c ∷ []) (es ++ (c, t) ∷ [])
more_templates schema txns part choices es c t have one = record {
  choices_are = map-append (λ e. e.0) es ((c, t) ∷ []) ∙ ap (λ cs. cs ++ c ∷ []) have.choices_are;
  each = All-append (Is schema txns part) es ((c, t) ∷ []) have.each (All-cons (Is schema txns part) (c, t) [] one (All-nil (Is schema txns part)));
}

first_template : (schema : List Declaration) (txns : List Transaction) (part : Part) (c : List Bool) (t : Template) → IsTemplate schema txns part c t → HaveTemplates schema txns part (c ∷ []) ((c, t) ∷ [])
first_template schema txns part c t one = record { choices_are = refl; each = All-cons (Is schema txns part) (c, t) [] one (All-nil (Is schema txns part)) }

opened_more : (schema : List Declaration) (txns : List Transaction) (part : Part) (before groups : List Group) (choices : List (List Bool)) (c : List Bool) (t : Template)
    → IsOpen schema txns part before choices groups → NoneOf part.txn part.number before → IsTemplate schema txns part c t
    → IsOpen schema txns part before (choices ++ c ∷ []) (added groups part.txn part.number c t)
opened_more schema txns part before groups choices c t Unopened none one =
    let new : Group = record { txn = part.txn; unit = part.number; templates = (c, t) ∷ [] } in
    let same : added before part.txn part.number c t ≡ before ++ new ∷ [] = ap (λ gs. added gs part.txn part.number c t) (sym (append-nil before)) ∙ put_past part.txn part.number c t before [] none in
    subst (IsOpen schema txns part before (c ∷ [])) (sym same) (Opened (c ∷ []) new refl refl (omega arith) (first_template schema txns part c t one))
opened_more schema txns part before groups choices c t (Opened _ g txn unit some have) none one =
    let same : added (before ++ g ∷ []) part.txn part.number c t ≡ before ++ with_template g c t ∷ [] =
    put_past part.txn part.number c t before (g ∷ []) none ∙ ap (λ b. before ++ cond b (with_template g c t ∷ []) (g ∷ added [] part.txn part.number c t)) (is_its part.txn part.number g txn unit) in
    let long : length (g.templates ++ (c, t) ∷ []) ≡ length g.templates + 1 = length-append g.templates ((c, t) ∷ []) in
    subst (IsOpen schema txns part before (choices ++ c ∷ [])) (sym same)
    (Opened (choices ++ c ∷ []) (with_template g c t) txn unit (omega (arith, long)) (more_templates schema txns part choices g.templates c t have one))

entries_by : (b : Bool) (g : Group) (gs now : List Group) (c : List Bool) (t : Template) → entries now ≡ suc (entries gs) → entries (cond b (with_template g c t ∷ gs) (g ∷ now)) ≡ suc (entries (g ∷ gs))
entries_by true g gs now c t e = let long : length (g.templates ++ (c, t) ∷ []) ≡ length g.templates + 1 = length-append g.templates ((c, t) ∷ []) in omega (arith, long)
entries_by false g gs now c t e = omega (arith, e)

entries_added : (gs : List Group) (txn unit : ℕ) (c : List Bool) (t : Template) → entries (added gs txn unit c t) ≡ suc (entries gs)
entries_added [] txn unit c t = refl
entries_added (g ∷ gs) txn unit c t = entries_by (is_of txn unit g) g gs (added gs txn unit c t) c t (entries_added gs txn unit c t)

atoms_by : (b : Bool) (g : Group) (gs now : List Group) (c : List Bool) (t : Template) → atoms_in now ≡ atoms_in gs + atoms_left (left_of t.left)
    → atoms_in (cond b (with_template g c t ∷ gs) (g ∷ now)) ≡ atoms_in (g ∷ gs) + atoms_left (left_of t.left)
atoms_by true g gs now c t e = let more : atoms_of (g.templates ++ (c, t) ∷ []) ≡ atoms_of g.templates + atoms_of ((c, t) ∷ []) = atoms_of_append g.templates ((c, t) ∷ []) in omega (arith, more)
atoms_by false g gs now c t e = omega (arith, e)

atoms_added : (gs : List Group) (txn unit : ℕ) (c : List Bool) (t : Template) → atoms_in (added gs txn unit c t) ≡ atoms_in gs + atoms_left (left_of t.left)
atoms_added [] txn unit c t = omega arith
atoms_added (g ∷ gs) txn unit c t = atoms_by (is_of txn unit g) g gs (added gs txn unit c t) c t (atoms_added gs txn unit c t)

pub holds_more : (schema : List Declaration) (txns : List Transaction) (done : List Part) (part : Part) (choices : List (List Bool)) (groups now : List Group) (c : List Bool) (t : Template) (atoms : ℕ)
    → HoldsIn schema txns done part choices groups atoms → IsTemplate schema txns part c t → ((before : List Group) → AreGroups schema txns done before → NoneOf part.txn part.number before)
    → HasRoom groups atoms (atoms_left (left_of t.left)) → now ≡ added groups part.txn part.number c t
    → HoldsIn schema txns done part (choices ++ c ∷ []) now (atoms + atoms_left (left_of t.left))
holds_more schema txns done part choices groups now c t atoms holds one none room is =
    let many : entries (added groups part.txn part.number c t) ≡ suc (entries groups) = entries_added groups part.txn part.number c t in
    let listed : atoms_in (added groups part.txn part.number c t) ≡ atoms_in groups + atoms_left (left_of t.left) = atoms_added groups part.txn part.number c t in
    let counted : atoms ≡ atoms_in groups = holds.counted in
    let room_t : entries groups < 8192 = room.templates in
    let room_a : atoms + atoms_left (left_of t.left) ≤ 65536 = room.atoms in
    subst (λ gs. HoldsIn schema txns done part (choices ++ c ∷ []) gs (atoms + atoms_left (left_of t.left))) (sym is) (record {
      before = holds.before;
      are = holds.are;
      fit = holds.fit;
      opened = opened_more schema txns part holds.before groups choices c t holds.opened (none holds.before holds.are) one;
      counted = omega (arith, listed, counted);
      few = record { templates = omega (arith, many, room_t); atoms = omega (arith, listed, counted, room_a) };
    })

pub opens : (schema : List Declaration) (txns : List Transaction) (done : List Part) (part : Part) (groups : List Group) (atoms : ℕ) → Holds schema txns done groups atoms → HoldsIn schema txns done part [] groups atoms
opens schema txns done part groups atoms holds = record { before = groups; are = holds.are; fit = holds.fit; opened = Unopened; counted = holds.counted; few = holds.few }

closed : (schema : List Declaration) (txns : List Transaction) (done : List Part) (part : Part) (paths : List Path) (before groups : List Group) (choices : List (List Bool)) → AreAllPaths part.body paths
    → choices ≡ choices_on paths → AreGroups schema txns done before → IsOpen schema txns part before choices groups → AreGroups schema txns (done ++ part ∷ []) groups
closed schema txns done part paths before groups choices all whole are Unopened =
    subst (AreGroups schema txns (done ++ part ∷ [])) (append-nil before) (joins schema txns done (part ∷ []) before [] are (WithNone part [] paths [] all (sym whole) NoUnits))
closed schema txns done part paths before groups choices all whole are (Opened _ g txn unit some have) =
    joins schema txns done (part ∷ []) before (g ∷ []) are (WithGroup part [] paths g [] all
    (record { txn_is = txn; unit_is = unit; some = some; templates = record { choices_are = have.choices_are ∙ whole; each = have.each } }) NoUnits)

pub closes : (schema : List Declaration) (txns : List Transaction) (done : List Part) (part : Part) (paths : List Path) (groups : List Group) (atoms : ℕ) → HoldsIn schema txns done part (choices_on paths) groups atoms
    → AreAllPaths part.body paths → FitsLimit part.body → Holds schema txns (done ++ part ∷ []) groups atoms
closes schema txns done part paths groups atoms holds all fits = record {
  are = closed schema txns done part paths holds.before groups (choices_on paths) all refl holds.are holds.opened;
  fit = All-append (λ (p : Part). FitsLimit p.body) done (part ∷ []) holds.fit (All-cons (λ (p : Part). FitsLimit p.body) part [] fits (All-nil (λ (p : Part). FitsLimit p.body)));
  counted = holds.counted;
  few = holds.few;
}
