-- What a frugal dictionary decides for the trace of a run is the first threat of the run's changes.
use Rattle.std.proofs.Common.{◌≡◌, ◌∙◌, inl, inr, ℕ, suc, ◌+◌, ◌<◌, List, false, length, take, Some, None, slice_get, refl, sym, subst, ap, arith, All}
use Rattle.std.proofs.lemmas.List.Elements.{All-filter}
use Rattle.sv_app.specs.declared.instances.Instance.{Instance}
use Rattle.sv_app.specs.Accepted.{AcceptedSchema}
use Rattle.sv_app.specs.Schema.{Declaration}
use Rattle.sv_app.specs.Shaped.{Shaped}
use Rattle.sv_app.specs.Trees.{Block, Transaction}
use Rattle.sv_app.specs.Units.{units}
use Rattle.sv_app.proofs.AcceptedLaws.{all_at}
use Rattle.sv_app.proofs.ListLaws.{same_some}
use Rattle.sv_bounds.specs.declared.systems.Diff.{Diff}
use Rattle.sv_effect.specs.Fits.{EffectFits}
use Rattle.sv_effect.specs.Room.{AreWordWrites}
use Rattle.sv_effect.specs.Run.{RunResult}
use Rattle.sv_effect.specs.RunChanges.{Effect}
use Rattle.sv_effect.specs.Threatened.{Threatened}
use Rattle.sv_linear.specs.declared.tests.Atom.{Atom as Coded}
use Rattle.sv_linear.specs.Atoms.{Gain}
use Rattle.sv_linear.specs.Codes.{test_of, atom_of, left_of}
use Rattle.sv_linear.specs.Effects.{SymEffect}
use Rattle.sv_linear.specs.Left.{IsLeft}
use Rattle.sv_linear.specs.Tests.{Atom, TestHolds}
use Rattle.sv_paths.specs.Paths.{IsPath}
use Rattle.sv_paths.specs.Laws.{IsThrough}
use Rattle.sv_paths.proofs.WayLaws.{unit_paths}
use Rattle.sv_symbolic.specs.Executes.{IsExecuted, TellsOf}
use Rattle.sv_symbolic.specs.Routes.{Shape}
use Rattle.sv_threat.specs.declared.label.Label.{Label}
use Rattle.sv_threat.specs.declared.label.Label.TheVariants.{Nothing, Blue, Red}
use Rattle.sv_threat.specs.First.{IsFirstReason}
use Rattle.sv_threat.specs.FirstThreat as threats
use Rattle.sv_threat.specs.FirstThreat.{Threat}
use Rattle.sv_threat.specs.Labels as labels
use Rattle.sv_trace.specs.Entries.{HasEntry}
use Rattle.sv_trace.specs.Laws.{IsShapedRun}
use Rattle.sv_wp.specs.Gives.{IsMetOn}
use Rattle.sv_label.specs.declared.templates.Template.{Template}
use Rattle.sv_label.specs.Decided.{asked, Failure, IsSooner, IsDecided}
use Rattle.sv_label.specs.Groups.{Group, found}
use Rattle.sv_listing.specs.Frugal.{Frugal, IsTemplate}
use Rattle.sv_listing.specs.Listed.{path_atoms}
use Rattle.sv_listing.specs.Right.{AreWords, IsFirstThreat, DecidesFor}
use Rattle.sv_right.proofs.FoundLaws.{HasFound, part_for, found_template}
use Rattle.sv_right.proofs.LeftLaws.{IsLeftOf, StandsBehind, all_met, first_unmet}
use Rattle.sv_right.proofs.PathLaws.{AreOn, IsFirstAt, rises, reads, safe, first}
use Rattle.sv_right.proofs.PlaceLaws.{is_in, own, own_changes, IsOwn, of_own, in_own, sooner_own, are_on}

-- what is known of a run of a transaction
pub record IsRun (schema : List Declaration) (txns : List Transaction) (number : ℕ) (txn : Transaction) (ran : RunResult) : Type 0 where
  pub accepted : AcceptedSchema schema
  pub declared : slice_get txns number ≡ Some txn
  pub shaped : IsShapedRun schema txn ran
  pub entries : All (HasEntry txn ran.trace) ran.effects
  pub words : AreWords ran.effects
  pub tells : (n : ℕ) (instance : Instance) (body : Block) (facts : List Diff) (effects : List SymEffect) (symbols : ℕ) → slice_get ran.trace n ≡ Some instance → slice_get (units txn.body) instance.unit ≡ Some body
      → IsExecuted schema txns number body instance.choices (Shape facts effects symbols) → TellsOf facts effects symbols n instance ran

module _ (schema : List Declaration) (txns : List Transaction) (groups : List Group) (frugal : Frugal schema txns groups) (number : ℕ) (txn : Transaction) (ran : RunResult) (is : IsRun schema txns number txn ran) where
  abbrev Fails : Instance → Coded → Type 0
  Fails instance a = TestHolds schema instance.tape (test_of a.test) → ⊥

  abbrev IsSafe : Effect → Type 0
  IsSafe e = IsFirstReason schema e None

  -- the template of an entry of the trace, and what its path's effects stand for
  record HasAtoms (n : ℕ) (instance : Instance) : Type 0 where
    template : Template
    stands : found groups number instance.unit instance.choices ≡ Some template
    told : Gain
    effects : List SymEffect
    on : AreOn schema instance.tape told effects (own n ran.effects)
    left : IsLeftOf schema instance.tape template (path_atoms told schema effects)

  is_path : (instance : Instance) (shaped : Shaped schema txn instance) → IsPath shaped.body false instance.choices
  is_path instance shaped = (unit_paths schema txn shaped.body false instance.choices).1 (subst (IsThrough false) (sym shaped.path) (refl, shaped.whole))

  has_atoms : (n : ℕ) (instance : Instance) → slice_get ran.trace n ≡ Some instance → HasAtoms n instance
  has_atoms n instance at =
      let shaped : Shaped schema txn instance = all_at (Shaped schema txn) ran.trace n instance is.shaped.trace at in
      let one : HasFound schema txns (part_for number instance.unit shaped.body) instance.choices groups =
      found_template schema txns groups frugal number instance.unit txn shaped.body instance.choices is.declared shaped.unit (is_path instance shaped) in
      let template : Template = one.template in
      let its : IsTemplate schema txns (part_for number instance.unit shaped.body) instance.choices template = one.is in
      let tells : TellsOf template.facts its.listed.effects template.symbols n instance ran =
      is.tells n instance shaped.body template.facts its.listed.effects template.symbols at shaped.unit its.listed.executed in
      let on : AreOn schema instance.tape its.listed.told its.listed.effects (own n ran.effects) =
      are_on schema instance.tape its.listed.told its.listed.effects (own n ran.effects) is.accepted its.listed.right (tells.effects_are ∙ own_changes n ran.effects)
      (All-filter (is_in n) (EffectFits schema) ran.effects is.shaped.changes)
      (All-filter (is_in n) (λ (e : Effect). AreWordWrites e.writes) ran.effects is.words) in
      record {
        template = template;
        stands = one.stands;
        told = its.listed.told;
        effects = its.listed.effects;
        on = on;
        left = record {
          left = subst (λ list. IsLeft template.facts template.symbols list (left_of template.left)) its.listed.atoms_are its.left;
          facts = tells.facts_are;
          reads = reads schema instance.tape its.listed.told 1 its.listed.effects (own n ran.effects) on its.listed.narrow;
          rising = (rises schema instance.tape its.listed.told 1 its.listed.effects).rising;
        };
      }

  -- an atom that fails, of an entry of the trace
  abbrev failing : (n : ℕ) (instance : Instance) (at : slice_get ran.trace n ≡ Some instance) (h : HasAtoms n instance) (m : ℕ) (a : Coded) → slice_get (asked h.template) m ≡ Some a → Fails instance a
      → Failure schema groups number ran.trace
  failing n instance at h m a listed fails = record { instance = n; number = m; ran = instance; template = h.template; atom = a; at = at; stands = h.stands; listed = listed; fails = fails }

  -- where none fails no change of the entry is threatened
  quiet : (n : ℕ) (instance : Instance) → slice_get ran.trace n ≡ Some instance → ((failure : Failure schema groups number ran.trace) → failure.instance ≡ n → ⊥) → All IsSafe (own n ran.effects)
  quiet n instance at none =
      let h : HasAtoms n instance = has_atoms n instance at in
      safe schema instance.tape h.told 1 h.effects (own n ran.effects) h.on
      (all_met schema instance.tape h.template (path_atoms h.told schema h.effects) h.left (λ m a listed fails. none (failing n instance at h m a listed fails) refl))

  unthreatened : (k : ℕ) (e : Effect) → slice_get ran.effects k ≡ Some e → ((failure : Failure schema groups number ran.trace) → failure.instance ≡ e.instance → ⊥) → IsSafe e
  unthreatened k e at none =
      let entry : HasEntry txn ran.trace e = all_at (HasEntry txn ran.trace) ran.effects k e is.entries at in
      all_at IsSafe (own e.instance ran.effects) (length (own e.instance (take k ran.effects))) e (quiet e.instance entry.entry entry.at none) (in_own e.instance ran.effects k e at refl)

  -- ---- the first failure

  module _ (failure : Failure schema groups number ran.trace) (none_sooner : (other : Failure schema groups number ran.trace) → IsSooner other failure → ⊥) where
    h : HasAtoms failure.instance failure.ran
    h = has_atoms failure.instance failure.ran failure.at

    abbrev changes : List Effect
    changes = own failure.instance ran.effects

    same_template : failure.template ≡ h.template
    same_template = same_some (found groups number failure.ran.unit failure.ran.choices) failure.template h.template failure.stands h.stands

    listed : slice_get (asked h.template) failure.number ≡ Some failure.atom
    listed = subst (λ (t : Template). slice_get (asked t) failure.number ≡ Some failure.atom) same_template failure.listed

    abbrev Met : Atom → Type 0
    Met a = IsMetOn schema failure.ran.tape a.test

    behind : StandsBehind Met (path_atoms h.told schema h.effects) (atom_of failure.atom) × (Met (atom_of failure.atom) → ⊥)
    behind = first_unmet schema failure.ran.tape h.template (path_atoms h.told schema h.effects) h.left failure.number failure.atom listed failure.fails
        (λ j y at fails sooner. none_sooner (failing failure.instance failure.ran failure.at h j y at fails) (inr (refl, sooner)))

    first_at : IsFirstAt schema failure.ran.tape h.told 1 changes (atom_of failure.atom)
    first_at = first schema failure.ran.tape h.told 1 h.effects changes behind.0.before behind.0.after (atom_of failure.atom) h.on behind.0.whole behind.0.met behind.1

    stands : IsOwn failure.instance ran.effects first_at.number first_at.change
    stands = of_own failure.instance ran.effects first_at.number first_at.change first_at.at

    abbrev threat : Threat schema ran.effects
    threat = record { number = stands.number; e = first_at.change; reason = failure.atom.reason; at = stands.at; threatened = first_at.reason.threatened }

    earlier : (other : Threat schema ran.effects) → threats.IsSooner other threat → ⊥
    earlier other (inl less) =
        unthreatened other.number other.e other.at (λ found same. none_sooner found (inl (omega (arith, same, less, stands.instance)))) other.reason other.threatened
    earlier other (inr (same, inl less)) =
        let inside : other.e.instance ≡ failure.instance = same ∙ stands.instance in
        first_at.before (length (own failure.instance (take other.number ran.effects))) other.e
        (subst (λ p. length (own failure.instance (take other.number ran.effects)) < p) stands.place_is (sooner_own failure.instance ran.effects other.number stands.number other.e less other.at inside))
        (in_own failure.instance ran.effects other.number other.e other.at inside) other.reason other.threatened
    earlier other (inr (same, inr (number_is, sooner))) =
        let this : other.e ≡ first_at.change = same_some (slice_get ran.effects stands.number) other.e first_at.change (subst (λ k. slice_get ran.effects k ≡ Some other.e) number_is other.at) stands.at in
        first_at.reason.first other.reason (subst (λ (e : Effect). Threatened schema e other.reason) this other.threatened) sooner

    placed : suc (length (own failure.instance (take stands.number ran.effects))) ≡ failure.atom.place
    placed = let place : failure.atom.place ≡ 1 + first_at.number = first_at.place in omega (arith, place, stands.place_is)

    red : labels.IsRed schema ran.effects failure.instance failure.atom.place failure.atom.reason
    red = record {
      threat = threat;
      first = earlier;
      instance_is = stands.instance;
      place_is = ap (λ n. suc (length (own n (take stands.number ran.effects)))) stands.instance ∙ placed;
      reason_is = refl;
    }

  decided : (label : Label) → IsDecided schema groups number ran.trace label → IsFirstThreat schema ran.effects label
  decided Nothing d = d
  decided Blue none = λ k e reason at threatened. unthreatened k e at (λ failure same. none failure) reason threatened
  decided (Red instance place reason) d =
      subst (λ r. labels.IsRed schema ran.effects instance place r) d.reason_is
      (subst (λ p. labels.IsRed schema ran.effects instance p d.failure.atom.reason) d.place_is
      (subst (λ n. labels.IsRed schema ran.effects n d.failure.atom.place d.failure.atom.reason) d.instance_is (red d.failure d.first)))

  pub decides_for : DecidesFor schema txns groups number ran
  decides_for = record { shaped = record { txn = txn; is = is.declared; each = is.shaped.trace }; label = decided }
