-- What belongs together, of the parts of a hub and of a pass.
use Rattle.std.proofs.Common.{◌≡◌, List, Some, sym, ap, ◌∙◌, subst}
use Rattle.atomic_table.specs.Seated.{TableId}
use Rattle.sv_hub.specs.declared.views.View.{View}
use Rattle.sv_hub.specs.Extends.{Extends}
use Rattle.sv_hub.specs.Sight.{HubSight, PassSight, TurnSight, Belongs, pass_sight}

pub own_inside : {N I : Type 0} {hub : HubSight N} {pass : PassSight N I} (table : TableId) (name : N) (mine : TableId) (v : View N I)
    → record { table = table; name = name } ≡ hub → pass_sight mine v ≡ pass → Belongs hub pass → (mine ≡ table) × (v.name ≡ Some name)
own_inside table name mine v is own b = (
  ap (λ p. p.table) own ∙ b.table ∙ sym (ap (λ h. h.table) is),
  ap (λ p. p.name) own ∙ b.name ∙ sym (ap (λ h. Some h.name) is),
)

pub given_inside : {V N I : Type 0} (name_of : V → N) (past_of : V → List I) {hub : HubSight N} {turn : TurnSight V N I} (table : TableId) (name : N) (value : V) (mine : TableId) (v : View N I)
    → record { table = table; name = name } ≡ hub → record { value = value; pass = pass_sight mine v } ≡ turn
    → Belongs hub turn.pass → name_of turn.value ≡ hub.name → Extends (past_of turn.value) turn.pass.seen
    → (mine ≡ table) × (v.name ≡ Some (name_of value)) × Extends (past_of value) v.seen
given_inside name_of past_of table name value mine v is given own named past =
    let inside = own_inside table name mine v is (ap (λ t. t.pass) given) own in
    let known : name_of value ≡ name = ap (λ t. name_of t.value) given ∙ named ∙ sym (ap (λ h. h.name) is) in (
      inside.0,
      inside.1 ∙ ap Some (sym known),
      subst (λ t. Extends (past_of t.value) t.pass.seen) (sym given) past,
    )
