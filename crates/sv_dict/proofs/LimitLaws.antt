-- Where a dictionary of few templates has what all units of some transactions need, none of these asks for too much.
use Rattle.std.proofs.Common.{◌≡◌, ◌∙◌, ◌≤◌, ◌<◌, cond, not, ℕ, zero, suc, ◌+◌, Bool, true, false, List, [], ◌∷◌, ◌++◌, map, length, take, drop, Option, Some, None, slice_get, refl, sym, ap, subst, arith, All}
use Rattle.std.specs.List.{Contains, filter}
use Rattle.std.proofs.lemmas.List.{take_all}
use Rattle.std.proofs.lemmas.List.Elements.{All-head, All-tail, All-contains, Contains-append_left, Contains-append_right}
use Rattle.std.proofs.lemmas.Option.{slice_get_within}
use Rattle.sv_app.specs.Schema.{Declaration}
use Rattle.sv_app.specs.Trees.{Block, Transaction}
use Rattle.sv_app.specs.Units.{units}
use Rattle.sv_app.proofs.AcceptedLaws.{all_at}
use Rattle.sv_app.proofs.ListLaws.{Stands, contained, contains_at, same_some}
use Rattle.sv_bounds.specs.declared.systems.Diff.{Diff}
use Rattle.sv_linear.specs.Effects.{SymEffect}
use Rattle.sv_paths.specs.declared.answers.Path.{Path}
use Rattle.sv_paths.specs.Laws.{IsThrough}
use Rattle.sv_paths.specs.Numbered.{Part, bodies_of, numbered_from}
use Rattle.sv_paths.specs.Paths.{IsPath, AreAllPaths, HasTooMany, FitsLimit}
use Rattle.sv_paths.proofs.WayLaws.{unit_paths}
use Rattle.sv_symbolic.specs.Executes.{IsExecuted}
use Rattle.sv_symbolic.specs.Laws.{path_in, RoutesArePaths}
use Rattle.sv_symbolic.specs.Routes.{Executed, Many, Wide, Shape, Leads}
use Rattle.sv_linear.specs.Atoms.{Gain}
use Rattle.sv_wp.specs.Told.{TellsGreatest}
use Rattle.sv_label.specs.declared.templates.Template.{Template}
use Rattle.sv_label.specs.Groups.{Group}
use Rattle.sv_listing.specs.Frugal.{IsTemplate, HaveTemplates, leads_on, choices_on, IsGroup, AreGroups, NoUnits, WithGroup, WithNone, parts_from}
use Rattle.sv_listing.specs.Listed.{is_wide_path}
use Rattle.sv_listing.specs.TooMuch.{AreFew, SomePath, WidePath, AsksTooMuch, ManyPaths, ManySymbols, WideForm, WideAtom, PassesLimit, TooMuch, KeepsLimits}
use Rattle.sv_dict.specs.Standing.{parts_at, Holds}
use Rattle.sv_dict.proofs.GroupLaws.{parted, few_front}
use Rattle.sv_dict.proofs.PartLaws.{front_of, whole_more}
use Rattle.sv_dict.proofs.TemplateLaws.{executed_once, effects_once, wide_once}

-- ---- a path that comes to something is one that doesn't abort

in_filter : (p : Path → Bool) (xs : List Path) (k : ℕ) (x : Path) → slice_get xs k ≡ Some x → p x ≡ true → Stands (filter p xs) x
in_filter p [] k x at is = absurd cc
in_filter p (y ∷ xs) zero x at is = let same : y ≡ x = cc in by (p y) (ap p same ∙ is)
  where
    by : (b : Bool) → b ≡ true → Stands (cond b (y ∷ filter p xs) (filter p xs)) x
    by true e = record { number = 0; at = at }
    by false e = absurd cc
in_filter p (y ∷ xs) (suc k) x at is = by (p y) (in_filter p xs k x at is)
  where
    by : (b : Bool) → Stands (filter p xs) x → Stands (cond b (y ∷ filter p xs) (filter p xs)) x
    by true s = record { number = suc s.number; at = s.at }
    by false s = s

pub mapped_at : {A B : Type 0} (f : A → B) (xs : List A) (k : ℕ) (x : A) → slice_get xs k ≡ Some x → slice_get (map f xs) k ≡ Some (f x)
mapped_at f [] k x at = absurd cc
mapped_at f (y ∷ xs) zero x at = let same : y ≡ x = cc in ap (λ z. Some (f z)) same
mapped_at f (y ∷ xs) (suc k) x at = mapped_at f xs k x at

is_path : RoutesArePaths → (schema : List Declaration) (txns : List Transaction) (number : ℕ) (body : Block) (choices : List Bool) (answer : Executed) → IsExecuted schema txns number body choices answer → IsPath body false choices
is_path routes schema txns number body choices answer is =
    (unit_paths schema is.txn body false choices).1
    (subst (IsThrough false) (sym (ap path_in is.route) ∙ routes schema is.txn body choices) (refl, is.whole))

goes_on : RoutesArePaths → (schema : List Declaration) (txns : List Transaction) (number : ℕ) (body : Block) (choices : List Bool) (answer : Executed) (paths : List Path) → IsExecuted schema txns number body choices answer
    → AreAllPaths body paths → Stands (choices_on paths) choices
goes_on routes schema txns number body choices answer paths is all =
    let p : Path = record { choices = choices; aborts = false } in
    let s = contained paths p ((all.each p).1 (is_path routes schema txns number body choices answer is)) in
    let f = in_filter leads_on paths s.number p s.at refl in
    record { number = f.number; at = mapped_at (λ (q : Path). q.choices) (filter leads_on paths) f.number p f.at }

-- ---- the template of a path of a unit

record IsListedIn (schema : List Declaration) (txns : List Transaction) (part : Part) (choices : List Bool) : Type 0 where
  template : Template
  is : IsTemplate schema txns part choices template

listed_at : (schema : List Declaration) (txns : List Transaction) (part : Part) (es : List (List Bool × Template)) (choices : List (List Bool)) (k : ℕ) (c : List Bool) → map (λ e. e.0) es ≡ choices
    → All (λ e. IsTemplate schema txns part e.0 e.1) es → slice_get choices k ≡ Some c → IsListedIn schema txns part c
listed_at schema txns part [] choices k c same each at = absurd (nothing k (ap (λ l. slice_get l k) same ∙ at))
  where
    nothing : (k : ℕ) → slice_get [] k ≡ Some c → ⊥
    nothing k at = cc
listed_at schema txns part (e ∷ es) [] k c same each at = absurd cc
listed_at schema txns part (e ∷ es) (d ∷ choices) zero c same each at =
    let first : e.0 ≡ c = cc in
    record { template = e.1; is = subst (λ c. IsTemplate schema txns part c e.1) first (All-head (λ e. IsTemplate schema txns part e.0 e.1) e es each) }
listed_at schema txns part (e ∷ es) (d ∷ choices) (suc k) c same each at =
    let behind : map (λ e. e.0) es ≡ choices = cc in
    listed_at schema txns part es choices k c behind (All-tail (λ e. IsTemplate schema txns part e.0 e.1) e es each) at

listed_for : RoutesArePaths → (schema : List Declaration) (txns : List Transaction) (parts : List Part) (gs : List Group) (k : ℕ) (part : Part) (choices : List Bool) (answer : Executed) → AreGroups schema txns parts gs
    → slice_get parts k ≡ Some part → IsExecuted schema txns part.txn part.body choices answer → IsListedIn schema txns part choices
listed_for routes schema txns parts gs k part choices answer NoUnits at is = absurd (nothing k at)
  where
    nothing : (k : ℕ) → slice_get [] k ≡ Some part → ⊥
    nothing k at = cc
listed_for routes schema txns parts gs zero part choices answer (WithGroup one rest paths g groups all has later) at is =
    let same : one ≡ part = cc in
    let s = goes_on routes schema txns part.txn part.body choices answer paths is (subst (λ (p : Part). AreAllPaths p.body paths) same all) in
    subst (λ p. IsListedIn schema txns p choices) same (listed_at schema txns one g.templates (choices_on paths) s.number choices has.templates.choices_are has.templates.each s.at)
listed_for routes schema txns parts gs zero part choices answer (WithNone one rest paths groups all none later) at is =
    let same : one ≡ part = cc in
    let s = goes_on routes schema txns part.txn part.body choices answer paths is (subst (λ (p : Part). AreAllPaths p.body paths) same all) in
    absurd (nothing s.number (ap (λ l. slice_get l s.number) (sym none) ∙ s.at))
  where
    nothing : (k : ℕ) → slice_get [] k ≡ Some choices → ⊥
    nothing k at = cc
listed_for routes schema txns parts gs (suc k) part choices answer (WithGroup one rest paths g groups all has later) at is = listed_for routes schema txns rest groups k part choices answer later at is
listed_for routes schema txns parts gs (suc k) part choices answer (WithNone one rest paths groups all none later) at is = listed_for routes schema txns rest groups k part choices answer later at is

-- ---- the unit of a body

pub record IsUnitOf (txns : List Transaction) (number : ℕ) (body : Block) (parts : List Part) : Type 0 where
  pub at : ℕ
  pub part : Part
  pub stands : slice_get parts at ≡ Some part
  pub txn : part.txn ≡ number
  pub body_is : part.body ≡ body

numbered_at : (txns : List Transaction) (start number : ℕ) (bodies : List Block) (k : ℕ) (body : Block) → slice_get bodies k ≡ Some body → IsUnitOf txns number body (numbered_from start number bodies)
numbered_at txns start number [] k body at = absurd cc
numbered_at txns start number (b ∷ bodies) zero body at =
    let same : b ≡ body = cc in record { at = 0; part = record { txn = number; number = start; body = b }; stands = refl; txn = refl; body_is = same }
numbered_at txns start number (b ∷ bodies) (suc k) body at =
    let later = numbered_at txns (suc start) number bodies k body at in
    record { at = suc later.at; part = later.part; stands = later.stands; txn = later.txn; body_is = later.body_is }

further : (txns : List Transaction) (number : ℕ) (body : Block) (front parts : List Part) → IsUnitOf txns number body parts → IsUnitOf txns number body (front ++ parts)
further txns number body [] parts is = is
further txns number body (p ∷ front) parts is =
    let later = further txns number body front parts is in
    record { at = suc later.at; part = later.part; stands = later.stands; txn = later.txn; body_is = later.body_is }

front_at : {A : Type 0} (xs ys : List A) (k : ℕ) (x : A) → slice_get xs k ≡ Some x → slice_get (xs ++ ys) k ≡ Some x
front_at [] ys k x at = absurd cc
front_at (y ∷ xs) ys zero x at = at
front_at (y ∷ xs) ys (suc k) x at = front_at xs ys k x at

unit_at : (txns : List Transaction) (number upto : ℕ) (txn : Transaction) (body : Block) → slice_get txns number ≡ Some txn → Contains (units txn.body) body → number < upto
    → IsUnitOf txns number body (parts_from 0 (take upto txns))
unit_at txns number upto txn body declared unit less =
    let s = contained (units txn.body) body unit in
    let own : IsUnitOf txns number body (parts_at txns number) =
    subst (λ o. IsUnitOf txns number body (numbered_from 0 number (bodies_of o))) (sym declared) (numbered_at txns 0 number (units txn.body) s.number body s.at) in
    let here : IsUnitOf txns number body (parts_from 0 (take (suc number) txns)) =
    subst (IsUnitOf txns number body) (sym (whole_more txns number txn declared)) (further txns number body (parts_from 0 (take number txns)) (parts_at txns number) own) in
    let front = front_of txns (suc number) upto less in
    subst (IsUnitOf txns number body) (sym front.1) (record {
      at = here.at;
      part = here.part;
      stands = front_at (parts_from 0 (take (suc number) txns)) front.0 here.at here.part here.stands;
      txn = here.txn;
      body_is = here.body_is;
    })

-- ---- none asks for too much

-- the answer of a path of which there is a template
record HasShape (schema : List Declaration) (answer : Executed) : Type 0 where
  facts : List Diff
  effects : List SymEffect
  symbols : ℕ
  is : answer ≡ Shape facts effects symbols
  narrow : (told : Gain) → TellsGreatest schema told → is_wide_path told schema effects ≡ false

shaped : RoutesArePaths → (schema : List Declaration) (txns : List Transaction) (number upto : ℕ) (txn : Transaction) (gs : List Group) (answer : Executed) → AreGroups schema txns (parts_from 0 (take upto txns)) gs
    → slice_get txns number ≡ Some txn → number < upto → SomePath schema txns number txn answer → HasShape schema answer
shaped routes schema txns number upto txn gs answer are declared less path =
    let u = unit_at txns number upto txn path.body declared path.unit less in
    let comes : IsExecuted schema txns u.part.txn u.part.body path.choices answer =
    subst (λ n. IsExecuted schema txns n u.part.body path.choices answer) (sym u.txn) (subst (λ b. IsExecuted schema txns number b path.choices answer) (sym u.body_is) path.comes) in
    let l = listed_for routes schema txns (parts_from 0 (take upto txns)) gs u.at u.part path.choices answer are u.stands comes in
    record {
      facts = l.template.facts;
      effects = l.is.listed.effects;
      symbols = l.template.symbols;
      is = executed_once schema txns u.part.txn u.part.body path.choices answer (Shape l.template.facts l.is.listed.effects l.template.symbols) comes l.is.listed.executed;
      narrow = λ told right. wide_once schema told l.is.listed.told right l.is.listed.right l.is.listed.effects ∙ l.is.listed.narrow;
    }

asks_not : RoutesArePaths → (schema : List Declaration) (txns : List Transaction) (number upto : ℕ) (txn : Transaction) (gs : List Group) (atoms : ℕ) → Holds schema txns (parts_from 0 (take upto txns)) gs atoms
    → slice_get txns number ≡ Some txn → number < upto → AsksTooMuch schema txns number txn → ⊥
asks_not routes schema txns number upto txn gs atoms holds declared less (ManyPaths body unit many) =
    let u = unit_at txns number upto txn body declared unit less in
    all_at (λ (p : Part). FitsLimit p.body) (parts_from 0 (take upto txns)) u.at u.part holds.fit u.stands (subst HasTooMany (sym u.body_is) many)
asks_not routes schema txns number upto txn gs atoms holds declared less (ManySymbols path) =
    let s = shaped routes schema txns number upto txn gs Many holds.are declared less path in
    let no : Many ≡ Shape s.facts s.effects s.symbols = s.is in cc
asks_not routes schema txns number upto txn gs atoms holds declared less (WideForm path) =
    let s = shaped routes schema txns number upto txn gs Wide holds.are declared less path in
    let no : Wide ≡ Shape s.facts s.effects s.symbols = s.is in cc
asks_not routes schema txns number upto txn gs atoms holds declared less (WideAtom wide) =
    let s = shaped routes schema txns number upto txn gs (Shape wide.facts wide.effects wide.symbols) holds.are declared less wide.path in
    let same : wide.effects ≡ s.effects = effects_once wide.facts s.facts wide.effects s.effects wide.symbols s.symbols s.is in
    let no : true ≡ false = sym wide.wide ∙ ap (is_wide_path wide.told schema) same ∙ s.narrow wide.told wide.right in
    cc
asks_not routes schema txns number upto txn gs atoms holds declared less (PassesLimit none) =
    let front = front_of txns (suc number) upto less in
    let p = parted schema txns (parts_from 0 (take (suc number) txns)) front.0 gs (subst (λ ps. AreGroups schema txns ps gs) front.1 holds.are) in
    none p.front p.first (few_front p.front p.back (subst AreFew p.whole holds.few))

pub none_asks : RoutesArePaths → (schema : List Declaration) (txns : List Transaction) (upto : ℕ) (gs : List Group) (atoms : ℕ) → Holds schema txns (parts_from 0 (take upto txns)) gs atoms
    → (number : ℕ) → number < upto → TooMuch schema txns number → ⊥
none_asks routes schema txns upto gs atoms holds number less too_much = asks_not routes schema txns number upto too_much.txn gs atoms holds too_much.declared less too_much.asks

pub keeps_limits : RoutesArePaths → (schema : List Declaration) (txns : List Transaction) (upto : ℕ) (gs : List Group) (atoms : ℕ) → length txns ≤ upto → Holds schema txns (parts_from 0 (take upto txns)) gs atoms → KeepsLimits schema txns
keeps_limits routes schema txns upto gs atoms all holds number too_much =
    let within : number < length txns = slice_get_within txns number too_much.txn too_much.declared in
    none_asks routes schema txns upto gs atoms holds number (omega (arith, within, all)) too_much
