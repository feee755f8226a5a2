-- What each step tells the thread that makes it, of what it knew and held before and after.
use Rattle.std.specs.Prelude.{◌≡◌, ◌≢◌, ◌⊎◌, ℕ, List, ◌∷◌, Option, Some}
use Rattle.atomic_table.specs.Table.{Me, Step, rest}
use Rattle.sv_hub.specs.declared.views.View.{View}
use Rattle.sv_hub.specs.Extends.{Extends}
use Rattle.sv_hub.specs.Views.{knowing, holding}

module _ {V N I : Type 0} (name_of : V → N) (past_of : V → List I) where
  -- the turn was free, and is held with the value
  pub record Took (before after : Me (Option V) (View N I)) : Type 0 where
    pub value : V
    pub view : after.0 ≡ holding before.0 (past_of value)
    pub slot : after.1 ≡ (0, Some value) ∷ before.1
    pub named : before.0.name ≡ Some (name_of value)
    pub seen : Extends (past_of value) before.0.seen

  -- the turn is taken where the word was 0, and otherwise nothing changes
  abbrev pub Takes : Step (Option V) → Me (Option V) (View N I) → ℕ → Me (Option V) (View N I) → Type 0
  Takes step before found after = (found ≡ 0 → Took before after) × (found ≢ 0 → after ≡ before)

-- the value that was held went home, and all of its past was seen
abbrev pub Gives : {V N I : Type 0} → (V → List I) → Step (Option V) → Me (Option V) (View N I) → ℕ → Me (Option V) (View N I) → Type 0
Gives {V} past_of step before found after = (value : V) × (before.1 ≡ (0, Some value) ∷ rest before.1)
    × (after.0 ≡ knowing before.0.name (past_of value)) × (after.1 ≡ rest before.1)

-- what was seen is one of the two lists that were joined, and extends both
pub record Looks {S N I : Type 0} (step : Step S) (before : Me S (View N I)) (found : ℕ) (after : Me S (View N I)) : Type 0 where
  pub same : after ≡ before
  pub one : Extends before.0.seen before.0.joined.0
  pub other : Extends before.0.seen before.0.joined.1
  pub either : (before.0.seen ≡ before.0.joined.0) ⊎ (before.0.seen ≡ before.0.joined.1)
