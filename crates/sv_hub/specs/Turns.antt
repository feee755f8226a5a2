-- The rule of the turn. At each moment the value has one past, which all have seen a part of, and one thread at most holds the turn.
use Rattle.std.specs.Prelude.{◌≡◌, ◌⊎◌, ℕ, List, [], ◌∷◌, Option, Some, None, true, false}
use mathlib.Core.Option.{some, none}
use lib.ListN.{get_elem?}
use Rattle.atomic_table.specs.Table.{State}
use Rattle.sv_hub.specs.declared.views.View.{View}
use Rattle.sv_hub.specs.Extends.{Extends}

-- what is known is the name, if any, and what the past extends
pub record Knows {N I : Type 0} (name : N) (past : List I) (v : View N I) : Type 0 where
  pub named : (v.name ≡ Some name) ⊎ (v.name ≡ None)
  pub seen : Extends past v.seen
  pub one : Extends past v.joined.0
  pub other : Extends past v.joined.1

-- each view, with its number
abbrev pub EachView : {N I : Type 0} → List (View N I) → (ℕ → View N I → Type 0) → Type 0
EachView {N} {I} views P = (j : ℕ) (v : View N I) → get_elem? views j ≡ some v → P j v

module _ {V N I : Type 0} (name_of : V → N) (past_of : V → List I) where
  -- nobody holds the turn: the word is 0, and the value is in its slot
  pub record IsFree (name : N) (past : List I) (s : State (Option V) (View N I)) : Type 0 where
    pub value : V
    pub words : s.words ≡ 0 ∷ []
    pub homes : s.homes ≡ some (Some value) ∷ []
    pub named : name_of value ≡ name
    pub past_is : past_of value ≡ past
    pub nobody : EachView s.views (λ j v. v.holds ≡ false)

  -- just one view holds the turn, and has seen the past that it found: the word is 1, and the slot is out with its seat
  pub record IsHeld (name : N) (past : List I) (s : State (Option V) (View N I)) : Type 0 where
    pub seat : ℕ
    pub words : s.words ≡ 1 ∷ []
    pub homes : s.homes ≡ none ∷ []
    pub holder : (v : View N I) × (get_elem? s.views seat ≡ some v) × (v.holds ≡ true)
    pub alone : EachView s.views (λ j v. v.holds ≡ true → (j ≡ seat) × (v.seen ≡ past))

  pub record IsKept (name : N) (s : State (Option V) (View N I)) : Type 0 where
    pub past : List I
    pub known : EachView s.views (λ j v. Knows name past v)
    pub turn : IsFree name past s ⊎ IsHeld name past s
