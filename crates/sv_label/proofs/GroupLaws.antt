-- The groups of a dictionary as they are kept.
use Rattle.std.proofs.Common.{◌≡◌, ◌∙◌, ap, sym, subst, refl, ◌<◌, ◌≤◌, ◌+◌, nat_eq, ◌&&◌, ℕ, zero, suc, cond, Bool, true, false, List, [], ◌∷◌, ◌++◌, length, Option, Some, None, slice_get, arith}
use Rattle.std.proofs.lemmas.List.{map-append, length-append}
use Rattle.std.specs.Bool.{beq}
use Rattle.std.specs.Cmp.Lexicographic.{pointwise}
use Rattle.std.specs.Global.{Vec}
use Rattle.std.specs.Map.{lookup, set_value}
use Rattle.indexmap.specs.IndexMap.{IndexMap, insert_entry}
use Rattle.sv_label.specs.declared.templates.Template.{Template}
use Rattle.sv_label.specs.Groups.{Group, is_of, template_of, found, with_template, added, entries, group_at}
use Rattle.sv_label.specs.Stored.{templates_in, group_of, groups_in, AreSome, Keeps}

abbrev pub is_unit : ℕ → ℕ → ℕ × ℕ → Bool
is_unit txn unit k = nat_eq txn k.0 && nat_eq unit k.1

abbrev pub has_choices : List Bool → Vec Bool → Bool
has_choices choices k = pointwise beq choices k.items

abbrev pub template_in : {S : Type 0} → List Bool → Option (IndexMap (Vec Bool) Template S) → Option Template
template_in choices None = None
template_in choices (Some m) = lookup (has_choices choices) m.entries

pub template_is : (choices : List Bool) (es : List (Vec Bool × Template)) → template_of choices (templates_in es) ≡ lookup (has_choices choices) es
template_is choices [] = refl
template_is choices (e ∷ es) = ap (λ o. cond (pointwise beq choices e.0.items) (Some e.1) o) (template_is choices es)

found_by : {S : Type 0} (b : Bool) (m : IndexMap (Vec Bool) Template S) (choices : List Bool) (rest : Option Template) (o : Option (IndexMap (Vec Bool) Template S)) → rest ≡ template_in choices o
    → cond b (template_of choices (templates_in m.entries)) rest ≡ template_in choices (cond b (Some m) o)
found_by true m choices rest o e = template_is choices m.entries
found_by false m choices rest o e = e

-- a look-up in two steps
pub found_is : {S : Type 0} (es : List ((ℕ × ℕ) × IndexMap (Vec Bool) Template S)) (txn unit : ℕ) (choices : List Bool)
    → found (groups_in es) txn unit choices ≡ template_in choices (lookup (is_unit txn unit) es)
found_is [] txn unit choices = refl
found_is (e ∷ es) txn unit choices = found_by (is_unit txn unit e.0) e.1 choices (found (groups_in es) txn unit choices) (lookup (is_unit txn unit) es) (found_is es txn unit choices)

-- a new group is the last
added_by_none : {S : Type 0} (b : Bool) (m : IndexMap (Vec Bool) Template S) (o : Option (IndexMap (Vec Bool) Template S)) → cond b (Some m) o ≡ None → (b ≡ false) × (o ≡ None)
added_by_none true m o e = absurd cc
added_by_none false m o e = (refl, e)

pub added_last : {S : Type 0} (es : List ((ℕ × ℕ) × IndexMap (Vec Bool) Template S)) (txn unit : ℕ) (choices : List Bool) (t : Template) → lookup (is_unit txn unit) es ≡ None
    → added (groups_in es) txn unit choices t ≡ groups_in es ++ record { txn = txn; unit = unit; templates = (choices, t) ∷ [] } ∷ []
added_last [] txn unit choices t none = refl
added_last (e ∷ es) txn unit choices t none =
    let both : (is_unit txn unit e.0 ≡ false) × (lookup (is_unit txn unit) es ≡ None) = added_by_none (is_unit txn unit e.0) e.1 (lookup (is_unit txn unit) es) none in
    ap (λ b. cond b (with_template (group_of e) choices t ∷ groups_in es) (group_of e ∷ added (groups_in es) txn unit choices t)) both.0 ∙ ap (λ gs. group_of e ∷ gs) (added_last es txn unit choices t both.1)

-- one more in a group that is there
more_in : {S : Type 0} (k : ℕ × ℕ) (m w : IndexMap (Vec Bool) Template S) (choices : Vec Bool) (t : Template) → w.entries ≡ m.entries ++ (choices, t) ∷ []
    → group_of (k, w) ≡ with_template (group_of (k, m)) choices.items t
more_in k m w choices t e = ap (λ ts. record { txn = k.0; unit = k.1; templates = ts }) (ap templates_in e ∙ map-append (λ e. (e.0.items, e.1)) m.entries ((choices, t) ∷ []))

set_by : {S : Type 0} (b : Bool) (e : (ℕ × ℕ) × IndexMap (Vec Bool) Template S) (es : List ((ℕ × ℕ) × IndexMap (Vec Bool) Template S)) (m w : IndexMap (Vec Bool) Template S) (choices : Vec Bool) (t : Template) (later now : List ((ℕ × ℕ) × IndexMap (Vec Bool) Template S))
    (gs : List Group) (o : Option (IndexMap (Vec Bool) Template S)) → cond b (Some e.1) o ≡ Some m → w.entries ≡ m.entries ++ (choices, t) ∷ [] → (o ≡ Some m → groups_in now ≡ gs)
    → groups_in (cond b ((e.0, w) ∷ es) (e ∷ now)) ≡ cond b (with_template (group_of e) choices.items t ∷ groups_in es) (group_of e ∷ gs)
set_by true e es m w choices t later now gs o is more ih =
    let same : e.1 ≡ m = cc in
    ap (λ g. g ∷ groups_in es) (more_in e.0 e.1 w choices t (subst (λ m. w.entries ≡ m.entries ++ (choices, t) ∷ []) (sym same) more))
set_by false e es m w choices t later now gs o is more ih = ap (λ gs. group_of e ∷ gs) (ih is)

pub added_there : {S : Type 0} (es : List ((ℕ × ℕ) × IndexMap (Vec Bool) Template S)) (txn unit : ℕ) (m w : IndexMap (Vec Bool) Template S) (choices : Vec Bool) (t : Template)
    → lookup (is_unit txn unit) es ≡ Some m → w.entries ≡ m.entries ++ (choices, t) ∷ []
    → groups_in (set_value (is_unit txn unit) es w) ≡ added (groups_in es) txn unit choices.items t
added_there [] txn unit m w choices t is more = absurd cc
added_there (e ∷ es) txn unit m w choices t is more =
    set_by (is_unit txn unit e.0) e es m w choices t es (set_value (is_unit txn unit) es w) (added (groups_in es) txn unit choices.items t) (lookup (is_unit txn unit) es) is more (λ h. added_there es txn unit m w choices t h more)

-- a group that stays as it was
unset_by : {S : Type 0} (b : Bool) (e : (ℕ × ℕ) × IndexMap (Vec Bool) Template S) (es now : List ((ℕ × ℕ) × IndexMap (Vec Bool) Template S)) (m w : IndexMap (Vec Bool) Template S) (o : Option (IndexMap (Vec Bool) Template S))
    → cond b (Some e.1) o ≡ Some m → w.entries ≡ m.entries → (o ≡ Some m → groups_in now ≡ groups_in es) → groups_in (cond b ((e.0, w) ∷ es) (e ∷ now)) ≡ groups_in (e ∷ es)
unset_by true e es now m w o is same ih =
    let one : e.1 ≡ m = cc in
    ap (λ ts. record { txn = e.0.0; unit = e.0.1; templates = templates_in ts } ∷ groups_in es) (same ∙ ap (λ m. m.entries) (sym one))
unset_by false e es now m w o is same ih = ap (λ gs. group_of e ∷ gs) (ih is)

pub same_there : {S : Type 0} (es : List ((ℕ × ℕ) × IndexMap (Vec Bool) Template S)) (txn unit : ℕ) (m w : IndexMap (Vec Bool) Template S) → lookup (is_unit txn unit) es ≡ Some m
    → w.entries ≡ m.entries → groups_in (set_value (is_unit txn unit) es w) ≡ groups_in es
same_there [] txn unit m w is same = absurd cc
same_there (e ∷ es) txn unit m w is same =
    unset_by (is_unit txn unit e.0) e es (set_value (is_unit txn unit) es w) m w (lookup (is_unit txn unit) es) is same (λ h. same_there es txn unit m w h same)

-- counts
long_more : (g : Group) (choices : List Bool) (t : Template) → length (with_template g choices t).templates ≡ suc (length g.templates)
long_more g choices t = let long : length (g.templates ++ (choices, t) ∷ []) ≡ length g.templates + 1 = length-append g.templates ((choices, t) ∷ []) in omega (arith, long)

entries_by : (b : Bool) (g : Group) (gs now : List Group) (choices : List Bool) (t : Template) → entries now ≡ suc (entries gs)
    → entries (cond b (with_template g choices t ∷ gs) (g ∷ now)) ≡ suc (entries (g ∷ gs))
entries_by true g gs now choices t e = let long : length (with_template g choices t).templates ≡ suc (length g.templates) = long_more g choices t in omega (arith, long)
entries_by false g gs now choices t e = let more : entries now ≡ suc (entries gs) = e in omega (arith, more)

pub entries_added : (gs : List Group) (txn unit : ℕ) (choices : List Bool) (t : Template) → entries (added gs txn unit choices t) ≡ suc (entries gs)
entries_added [] txn unit choices t = refl
entries_added (g ∷ gs) txn unit choices t = entries_by (is_of txn unit g) g gs (added gs txn unit choices t) choices t (entries_added gs txn unit choices t)

some_by : (b : Bool) (g : Group) (gs now : List Group) (choices : List Bool) (t : Template) → AreSome (g ∷ gs) → AreSome now → AreSome (cond b (with_template g choices t ∷ gs) (g ∷ now))
some_by true g gs now choices t some more = (let long : length (with_template g choices t).templates ≡ suc (length g.templates) = long_more g choices t in omega (arith, long), some.1)
some_by false g gs now choices t some more = (some.0, more)

some_added : (gs : List Group) (txn unit : ℕ) (choices : List Bool) (t : Template) → AreSome gs → AreSome (added gs txn unit choices t)
some_added [] txn unit choices t some = (omega arith, tt)
some_added (g ∷ gs) txn unit choices t some = some_by (is_of txn unit g) g gs (added gs txn unit choices t) choices t some (some_added gs txn unit choices t some.1)

pub keeps_added : (gs now : List Group) (count : ℕ) (txn unit : ℕ) (choices : List Bool) (t : Template) → Keeps gs count → entries gs < 8192 → now ≡ added gs txn unit choices t → Keeps now (count + 1)
keeps_added gs now count txn unit choices t k room is =
    let more : entries (added gs txn unit choices t) ≡ suc (entries gs) = entries_added gs txn unit choices t in
    let counted : count ≡ entries gs = k.counted in
    subst (λ l. Keeps l (count + 1)) (sym is) (record { counted = omega (arith, more, counted); few = omega (arith, more, room); some = some_added gs txn unit choices t k.some })

pub keeps_none : Keeps [] 0
keeps_none = record { counted = refl; few = omega arith; some = tt }

groups_few : (gs : List Group) → AreSome gs → length gs ≤ entries gs
groups_few [] some = omega arith
groups_few (g ∷ gs) some = let less : length gs ≤ entries gs = groups_few gs some.1 in let one : 1 ≤ length g.templates = some.0 in omega (arith, less, one)

pub few_groups : (gs : List Group) (count : ℕ) → Keeps gs count → length gs ≤ 8192
few_groups gs count k = let less : length gs ≤ entries gs = groups_few gs k.some in let few : entries gs ≤ 8192 = k.few in omega (arith, less, few)

group_few : (gs : List Group) (g : ℕ) → g < length gs → length (group_at gs g).templates ≤ entries gs
group_few [] g h = absurd (omega (arith, h))
group_few (x ∷ gs) zero h = omega arith
group_few (x ∷ gs) (suc g) h = let less : length (group_at gs g).templates ≤ entries gs = group_few gs g (omega (arith, h)) in omega (arith, less)

pub few_templates : (gs : List Group) (count g : ℕ) → Keeps gs count → g < length gs → length (group_at gs g).templates ≤ 8192
few_templates gs count g k h = let less : length (group_at gs g).templates ≤ entries gs = group_few gs g h in let few : entries gs ≤ 8192 = k.few in omega (arith, less, few)

pub long_groups : {S : Type 0} (es : List ((ℕ × ℕ) × IndexMap (Vec Bool) Template S)) → length (groups_in es) ≡ length es
long_groups [] = refl
long_groups (e ∷ es) = ap (λ n. suc n) (long_groups es)

pub long_templates : (es : List (Vec Bool × Template)) → length (templates_in es) ≡ length es
long_templates [] = refl
long_templates (e ∷ es) = ap (λ n. suc n) (long_templates es)

-- what stands at a place
pub group_there : {S : Type 0} (es : List ((ℕ × ℕ) × IndexMap (Vec Bool) Template S)) (g : ℕ) (e : (ℕ × ℕ) × IndexMap (Vec Bool) Template S) → slice_get es g ≡ Some e
    → group_at (groups_in es) g ≡ group_of e
group_there [] g e is = absurd cc
group_there (x ∷ es) zero e is = let same : x ≡ e = cc in ap group_of same
group_there (x ∷ es) (suc g) e is = group_there es g e is

pub template_there : (es : List (Vec Bool × Template)) (at : ℕ) (e : Vec Bool × Template) → slice_get es at ≡ Some e → slice_get (templates_in es) at ≡ Some (e.0.items, e.1)
template_there [] at e is = absurd cc
template_there (x ∷ es) zero e is = let same : x ≡ e = cc in ap (λ e. Some (e.0.items, e.1)) same
template_there (x ∷ es) (suc at) e is = template_there es at e is

-- what a look-up finds, by the groups that contracts see
pub look_none : {S : Type 0} (es : List ((ℕ × ℕ) × IndexMap (Vec Bool) Template S)) (gs : List Group) (txn unit : ℕ) (choices : List Bool) → groups_in es ≡ gs
    → lookup (is_unit txn unit) es ≡ None → found gs txn unit choices ≡ None
look_none es gs txn unit choices e none = subst (λ gs. found gs txn unit choices ≡ None) e (found_is es txn unit choices ∙ ap (template_in choices) none)

pub look_some : {S : Type 0} (es : List ((ℕ × ℕ) × IndexMap (Vec Bool) Template S)) (gs : List Group) (txn unit : ℕ) (choices : List Bool) (m : IndexMap (Vec Bool) Template S)
    → groups_in es ≡ gs → lookup (is_unit txn unit) es ≡ Some m
    → found gs txn unit choices ≡ lookup (has_choices choices) m.entries
look_some es gs txn unit choices m e some = subst (λ gs. found gs txn unit choices ≡ lookup (has_choices choices) m.entries) e (found_is es txn unit choices ∙ ap (template_in choices) some)

-- what is inserted first stands alone
pub insert_first : {K X : Type 0} (eq : K → K → Bool) (old now : List (K × X)) (k : K) (x : X) → old ≡ [] → now ≡ insert_entry eq old k x → now ≡ (k, x) ∷ []
insert_first eq old now k x none is = is ∙ ap (λ es. insert_entry eq es k x) none

pub group_seen : {S : Type 0} (es : List ((ℕ × ℕ) × IndexMap (Vec Bool) Template S)) (gs : List Group) (g : ℕ) (e : (ℕ × ℕ) × IndexMap (Vec Bool) Template S) → groups_in es ≡ gs
    → slice_get es g ≡ Some e → group_at gs g ≡ group_of e
group_seen es gs g e is at = subst (λ gs. group_at gs g ≡ group_of e) is (group_there es g e at)
