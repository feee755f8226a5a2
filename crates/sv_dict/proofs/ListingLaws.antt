-- The steps of the code, by the paths, units and transactions that are passed.
use Rattle.std.proofs.Common.{◌≡◌, ◌∙◌, ◌≤◌, ◌<◌, ◌+◌, ℕ, zero, suc, Bool, true, false, List, [], ◌∷◌, ◌++◌, map, length, take, drop, get_or, Option, Some, None, slice_get, refl, sym, ap, subst, arith, All}
use Rattle.std.proofs.lemmas.List.{take_all, length-map, append-nil}
use Rattle.std.proofs.lemmas.Option.{slice_get_within, get_or_from_slice_get}
use Rattle.std.proofs.lemmas.List.Elements.{All-nil}
use Rattle.sv_app.specs.declared.txns.Txn.{Txn}
use Rattle.sv_app.specs.Accepted.{AcceptedApp}
use Rattle.sv_app.specs.Schema.{Declaration}
use Rattle.sv_app.specs.Trees.{Block, Transaction, transaction_of}
use Rattle.sv_app.proofs.AcceptedLaws.{all_at}
use Rattle.sv_app.proofs.ListLaws.{get_at, contains_at, same_some}
use Rattle.sv_linear.specs.Codes.{left_of}
use Rattle.sv_paths.specs.declared.answers.Path.{Path}
use Rattle.sv_paths.specs.declared.bodies.Unit.{Unit}
use Rattle.sv_paths.specs.Numbered.{Part, part_of, bodies_of, numbered_from}
use Rattle.sv_paths.specs.Paths.{AreAllPaths, FitsLimit, IsShort}
use Rattle.sv_label.specs.declared.templates.Template.{Template}
use Rattle.sv_label.specs.Groups.{Group, found, added}
use Rattle.sv_listing.specs.Frugal.{IsTemplate, choices_on, NoUnits, parts_from}
use Rattle.sv_listing.specs.TooMuch.{atoms_left, atoms_in, TooMuch, KeepsLimits}
use Rattle.sv_symbolic.specs.Laws.{RoutesArePaths}
use Rattle.sv_paths.proofs.FewLaws.{units_are_few}
use Rattle.sv_dict.specs.declared.answers.Excess.{Excess}
use Rattle.sv_dict.specs.declared.answers.Excess.TheVariants as excesses
use Rattle.sv_dict.specs.Refused.{IsExcess, IsRefusal, stop_at}
use Rattle.sv_dict.specs.declared.listing.Counted.{Counted}
use Rattle.sv_dict.specs.declared.settings.Setting.{Setting}
use Rattle.sv_dict.specs.Standing.{schema_in, txns_in, parts_at, parts_before, IsUnit, IsPathOf, ArePathsOf, IsTemplateAt, HasRoom, Holds, HoldsIn, IsReady, HasUnits, HasPaths}
use Rattle.sv_dict.proofs.ExcessLaws.{room_excess}
use Rattle.sv_dict.proofs.LimitLaws.{mapped_at, none_asks, keeps_limits}
use Rattle.sv_dict.proofs.OpenLaws.{absent, holds_more, opens, closes}
use Rattle.sv_dict.proofs.PartLaws.{apart_from, none_before, on_more, on_same, one_done, all_done}

some_there : {A : Type 0} (xs : List A) (k : ℕ) → k < length xs → (x : A) × (slice_get xs k ≡ Some x)
some_there [] k less = absurd (omega (arith, less))
some_there (x ∷ xs) zero less = (x, refl)
some_there (x ∷ xs) (suc k) less = some_there xs k (omega (arith, less))

-- ---- paths

pub path_here : (txns : List Transaction) (part : Part) (paths : List Path) (at : ℕ) (path : Path) → ArePathsOf txns part paths → at < length paths → path ≡ get_or paths at path → path.aborts ≡ false
    → IsPathOf txns part path
path_here txns part paths at path its within is goes =
    let here : slice_get paths at ≡ Some path = get_at paths at path within ∙ ap (λ p. Some p) (sym is) in
    record {
      unit = its.unit;
      path_is = (its.all.each path).0 (contains_at paths at path here);
      short = all_at IsShort paths at path its.short here;
      goes_on = goes;
    }

pub template_here : (schema : List Declaration) (txns : List Transaction) (part : Part) (paths : List Path) (at : ℕ) (path : Path) (t : Template) → ArePathsOf txns part paths → at < length paths → path ≡ get_or paths at path
    → path.aborts ≡ false → IsTemplate schema txns part path.choices t → IsTemplateAt schema txns part paths at t
template_here schema txns part paths at path t its within is goes one = record {
  its = its;
  path = path;
  here = get_at paths at path within ∙ ap (λ p. Some p) (sym is);
  goes_on = goes;
  template = one;
}

pub aborts_here : (g : Setting) (part : Part) (paths : List Path) (at : ℕ) (path : Path) (c : Counted) → at < length paths → path ≡ get_or paths at path → path.aborts ≡ true
    → HasPaths g part (take at paths) c → HasPaths g part (take (suc at) paths) c
aborts_here g part paths at path c within is stops has =
    let here : slice_get paths at ≡ Some path = get_at paths at path within ∙ ap (λ p. Some p) (sym is) in
    subst (λ cs. HoldsIn (schema_in g) (txns_in g) (parts_before (txns_in g) part.txn part.number) part cs c.dict c.atoms) (sym (on_same paths at path here stops)) has

pub within_at : (schema : List Declaration) (txns : List Transaction) (part : Part) (paths : List Path) (at : ℕ) (t : Template) → IsTemplateAt schema txns part paths at t → at < length paths
within_at schema txns part paths at t is = slice_get_within paths at is.path is.here

same_path : (schema : List Declaration) (txns : List Transaction) (part : Part) (paths : List Path) (at : ℕ) (t : Template) (path : Path) → (is : IsTemplateAt schema txns part paths at t) → path ≡ get_or paths at path → path ≡ is.path
same_path schema txns part paths at t path is e = e ∙ get_or_from_slice_get paths at is.path path is.here

pub absent_here : (g : Setting) (part : Part) (paths : List Path) (at : ℕ) (t : Template) (path : Path) (c : Counted) → IsTemplateAt (schema_in g) (txns_in g) part paths at t → path ≡ get_or paths at path
    → HasPaths g part (take at paths) c → found c.dict part.txn part.number path.choices ≡ None
absent_here g part paths at t path c is e has =
    subst (λ (p : Path). found c.dict part.txn part.number p.choices ≡ None) (sym (same_path (schema_in g) (txns_in g) part paths at t path is e))
    (absent (schema_in g) (txns_in g) part has.before c.dict (choices_on (take at paths)) is.path.choices has.opened
    (none_before (schema_in g) (txns_in g) part.txn part.number has.before has.are) (apart_from part.body paths at is.path is.its.all is.here))

pub one_more : (g : Setting) (part : Part) (paths : List Path) (at : ℕ) (t : Template) (path : Path) (c now : Counted) → IsTemplateAt (schema_in g) (txns_in g) part paths at t → path ≡ get_or paths at path
    → HasPaths g part (take at paths) c → HasRoom c.dict c.atoms (atoms_left (left_of t.left)) → now.dict ≡ added c.dict part.txn part.number path.choices t → now.atoms ≡ c.atoms + atoms_left (left_of t.left)
    → HasPaths g part (take (suc at) paths) now
one_more g part paths at t path c now is e has room put sum =
    let same : path ≡ is.path = same_path (schema_in g) (txns_in g) part paths at t path is e in
    let there : now.dict ≡ added c.dict part.txn part.number is.path.choices t = put ∙ ap (λ (p : Path). added c.dict part.txn part.number p.choices t) same in
    let more = holds_more (schema_in g) (txns_in g) (parts_before (txns_in g) part.txn part.number) part (choices_on (take at paths)) c.dict now.dict is.path.choices t c.atoms has is.template
    (λ before are. none_before (schema_in g) (txns_in g) part.txn part.number before are) room there in
    subst (λ cs. HoldsIn (schema_in g) (txns_in g) (parts_before (txns_in g) part.txn part.number) part cs now.dict now.atoms) (sym (on_more paths at is.path is.here is.goes_on))
    (subst (λ n. HoldsIn (schema_in g) (txns_in g) (parts_before (txns_in g) part.txn part.number) part (choices_on (take at paths) ++ is.path.choices ∷ []) now.dict n) (sym sum) more)

pub full : (g : Setting) (part : Part) (paths : List Path) (at : ℕ) (t : Template) (c : Counted) → IsTemplateAt (schema_in g) (txns_in g) part paths at t → HasPaths g part (take at paths) c
    → (HasRoom c.dict c.atoms (atoms_left (left_of t.left)) → ⊥) → TooMuch (schema_in g) (txns_in g) part.txn
full g part paths at t c is has none =
    room_excess (schema_in g) (txns_in g) part is.its.unit paths at is.path c.dict c.atoms t has is.its is.here is.goes_on is.template none

pub few_atoms : (g : Setting) (part : Part) (paths : List Path) (c : Counted) → HasPaths g part paths c → c.atoms ≤ 65536
few_atoms g part paths c has = let few : atoms_in c.dict ≤ 65536 = has.few.atoms in let is : c.atoms ≡ atoms_in c.dict = has.counted in omega (arith, few, is)

-- ---- units

pub unit_opens : (g : Setting) (part : Part) (c : Counted) → HasUnits g (parts_before (txns_in g) part.txn part.number) c → HasPaths g part [] c
unit_opens g part c has = opens (schema_in g) (txns_in g) (parts_before (txns_in g) part.txn part.number) part c.dict c.atoms has

pub unit_closes : (g : Setting) (part : Part) (paths all : List Path) (c : Counted) → paths ≡ all → HasPaths g part paths c → IsUnit (txns_in g) part → AreAllPaths part.body all → FitsLimit part.body
    → HasUnits g (parts_before (txns_in g) part.txn (suc part.number)) c
unit_closes g part paths all c same has is every fits =
    subst (λ ps. HasUnits g ps c) (one_done (txns_in g) part is)
    (closes (schema_in g) (txns_in g) (parts_before (txns_in g) part.txn part.number) part paths c.dict c.atoms has (subst (AreAllPaths part.body) (sym same) every) fits)

numbered_is : (start number : ℕ) (bodies : List Block) (k : ℕ) (part : Part) → slice_get (numbered_from start number bodies) k ≡ Some part → (part.txn ≡ number) × (part.number ≡ start + k)
numbered_is start number [] k part at = absurd cc
numbered_is start number (body ∷ bodies) zero part at =
    let same : record { txn = number; number = start; body = body } ≡ part = cc in
    let zero_more : start ≡ start + 0 = omega arith in
    (ap (λ (p : Part). p.txn) (sym same), ap (λ (p : Part). p.number) (sym same) ∙ zero_more)
numbered_is start number (body ∷ bodies) (suc k) part at =
    let later = numbered_is (suc start) number bodies k part at in
    let suc_more : suc start + k ≡ start + suc k = omega arith in
    (later.0, later.1 ∙ suc_more)

-- the unit with this number, of the list of all of a transaction
pub record IsUnitAt (txns : List Transaction) (number at : ℕ) (unit : Unit) : Type 0 where
  pub is : IsUnit txns (part_of unit)
  pub txn : unit.txn ≡ number
  pub number_is : unit.number ≡ at

pub unit_here : (txns : List Transaction) (number : ℕ) (units : List Unit) (at : ℕ) (unit : Unit) → map part_of units ≡ parts_at txns number → at < length units → unit ≡ get_or units at unit → IsUnitAt txns number at unit
unit_here txns number units at unit all within is =
    let here : slice_get units at ≡ Some unit = get_at units at unit within ∙ ap (λ u. Some u) (sym is) in
    let there : slice_get (parts_at txns number) at ≡ Some (part_of unit) = ap (λ ps. slice_get ps at) (sym all) ∙ mapped_at part_of units at unit here in
    let n = numbered_is 0 number (bodies_of (slice_get txns number)) at (part_of unit) there in
    let place : unit.number ≡ at = let e : unit.number ≡ 0 + at = n.1 in omega (arith, e) in
    record { is = (λ i. slice_get (parts_at txns (n.0 i)) (place i)) ∙ there; txn = n.0; number_is = place }

pub all_units : (g : Setting) (number : ℕ) (units : List Unit) (at : ℕ) (c : Counted) → number < length (txns_in g) → map part_of units ≡ parts_at (txns_in g) number → length units ≤ at
    → HasUnits g (parts_before (txns_in g) number at) c → HasUnits g (parts_from 0 (take (suc number) (txns_in g))) c
all_units g number units at c within all long has =
    let txn = some_there (txns_in g) number within in
    let count : length (parts_at (txns_in g) number) ≡ length units = ap length (sym all) ∙ length-map units part_of in
    subst (λ ps. HasUnits g ps c) (all_done (txns_in g) number at txn.0 txn.1 (omega (arith, count, long))) has

pub unit_has : (g : Setting) (number at : ℕ) (unit : Unit) (c : Counted) → IsUnitAt (txns_in g) number at unit → HasUnits g (parts_before (txns_in g) number at) c
    → HasUnits g (parts_before (txns_in g) unit.txn unit.number) c
unit_has g number at unit c is has =
    subst (λ n. HasUnits g (parts_before (txns_in g) n unit.number) c) (sym is.txn) (subst (λ k. HasUnits g (parts_before (txns_in g) number k) c) (sym is.number_is) has)

pub unit_next : (g : Setting) (number at next : ℕ) (unit : Unit) (c : Counted) → IsUnitAt (txns_in g) number at unit → next ≡ suc at → HasUnits g (parts_before (txns_in g) unit.txn (suc unit.number)) c
    → HasUnits g (parts_before (txns_in g) number next) c
unit_next g number at next unit c is more has =
    subst (λ k. HasUnits g (parts_before (txns_in g) number k) c) (ap suc is.number_is ∙ sym more) (subst (λ n. HasUnits g (parts_before (txns_in g) n (suc unit.number)) c) is.txn has)

pub unit_excess : (g : Setting) (number at : ℕ) (unit : Unit) (excess : Excess) → IsUnitAt (txns_in g) number at unit → IsExcess (schema_in g) (txns_in g) unit.txn excess
    → IsExcess (schema_in g) (txns_in g) number excess
unit_excess g number at unit excess is cause = subst (λ n. IsExcess (schema_in g) (txns_in g) n excess) is.txn cause

pub few_bodies : (schema : List Declaration) (txns : List Transaction) (number : ℕ) → AcceptedApp schema txns → length (bodies_of (slice_get txns number)) ≤ 65536
few_bodies schema txns number accepted = let few : length (bodies_of (slice_get txns number)) ≤ 16 = units_are_few schema txns number accepted in omega (arith, few)

-- ---- transactions

pub starts : (g : Setting) (c : Counted) → c.dict ≡ [] → c.atoms ≡ 0 → HasUnits g (parts_from 0 (take 0 (txns_in g))) c
starts g c none zero_of = subst (λ gs. Holds (schema_in g) (txns_in g) [] gs c.atoms) (sym none) (record {
  are = NoUnits;
  fit = All-nil (λ (p : Part). FitsLimit p.body);
  counted = zero_of;
  few = record { templates = omega arith; atoms = omega arith };
})

pub few_txns : (g : Setting) → IsReady g → length g.app.now.txns.items ≤ 65535
few_txns g ready =
    let few : length (txns_in g) ≤ 32 = ready.accepted.limits.count in
    let long : length (txns_in g) ≡ length g.app.now.txns.items = length-map g.app.now.txns.items transaction_of in
    omega (arith, few, long)

pub txn_within : (g : Setting) (number : ℕ) → number < length g.app.now.txns.items → number < length (txns_in g)
txn_within g number within = let long : length (txns_in g) ≡ length g.app.now.txns.items = length-map g.app.now.txns.items transaction_of in omega (arith, within, long)

named_at : (g : Setting) (number : ℕ) (txn : Txn) (t : Transaction) → number < length g.app.now.txns.items → txn ≡ get_or g.app.now.txns.items number txn → slice_get (txns_in g) number ≡ Some t → t ≡ transaction_of txn
named_at g number txn t within is at =
    let here : slice_get g.app.now.txns.items number ≡ Some txn = get_at g.app.now.txns.items number txn within ∙ ap (λ x. Some x) (sym is) in
    same_some (slice_get (txns_in g) number) t (transaction_of txn) at (mapped_at transaction_of g.app.now.txns.items number txn here)

-- the first that asks for too much is refused at its name
pub refused_at : RoutesArePaths → (g : Setting) (number : ℕ) (txn : Txn) (c : Counted) (excess : Excess) → number < length g.app.now.txns.items → txn ≡ get_or g.app.now.txns.items number txn
    → HasUnits g (parts_from 0 (take number (txns_in g))) c → IsExcess (schema_in g) (txns_in g) number excess → IsRefusal (schema_in g) (txns_in g) (stop_at excess txn.name.spot)
refused_at routes g number txn c excesses.TooMuch within is has cause = record {
  number = number;
  too_much = cause;
  first = λ earlier less. none_asks routes (schema_in g) (txns_in g) number c.dict c.atoms has earlier less;
  spot_is = ap (λ (t : Transaction). t.name.spot) (sym (named_at g number txn cause.txn within is cause.declared));
  code_is = refl;
}
refused_at routes g number txn c excesses.NoMemory within is has cause = tt

pub all_txns : (g : Setting) (upto : ℕ) (c : Counted) → length g.app.now.txns.items ≤ upto → HasUnits g (parts_from 0 (take upto (txns_in g))) c → HasUnits g (parts_from 0 (txns_in g)) c
all_txns g upto c all has =
    let long : length (txns_in g) ≡ length g.app.now.txns.items = length-map g.app.now.txns.items transaction_of in
    subst (λ ts. HasUnits g (parts_from 0 ts) c) (take_all upto (txns_in g) (omega (arith, all, long))) has

pub fitting : RoutesArePaths → (g : Setting) (upto : ℕ) (c : Counted) → length g.app.now.txns.items ≤ upto → HasUnits g (parts_from 0 (take upto (txns_in g))) c → KeepsLimits (schema_in g) (txns_in g)
fitting routes g upto c all has =
    let long : length (txns_in g) ≡ length g.app.now.txns.items = length-map g.app.now.txns.items transaction_of in
    keeps_limits routes (schema_in g) (txns_in g) upto c.dict c.atoms (omega (arith, all, long)) has
