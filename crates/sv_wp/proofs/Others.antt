-- The reasons that need no numbers: what is asked for them is met exactly where they don't threaten the change.
use Rattle.std.proofs.Common.{◌≡◌, ◌∙◌, ℕ, zero, suc, Bool, true, false, List, [], ◌∷◌, Option, Some, None, refl, sym, ap, subst, slice_get}
use Rattle.std.specs.Prelude.{◌==◌, ◌&&◌, ◌||◌, not, ◌↔◌}
use Rattle.std.specs.List.{list_any}
use Rattle.std.proofs.lemmas.List.Elements.{All-nil, All-head}
use Rattle.sv_value.specs.declared.values.Val.{Val}
use Rattle.sv_app.specs.declared.acts.Act.{Act}
use Rattle.sv_app.specs.declared.acts.Act.TheVariants.{Insert, Fresh, Update, Remove}
use Rattle.sv_app.specs.declared.apps.Ident.{Ident}
use Rattle.sv_app.specs.declared.schemas.Column.{Column}
use Rattle.sv_app.specs.Kinds.{is_annotated}
use Rattle.sv_app.specs.Schema.{Bound, OneOf, Different, Refers, Declaration}
use Rattle.sv_effect.specs.Acts as acts
use Rattle.sv_effect.specs.Applied.{columns_of, annotation_of}
use Rattle.sv_effect.specs.Needs as needs
use Rattle.sv_effect.specs.RowChange.{turn_of}
use Rattle.sv_effect.specs.RunChanges.{Effect}
use Rattle.sv_effect.specs.Threatened as threats
use Rattle.sv_effect.specs.Threatened.{turns, writes_plain, is_plain_column, removes_from, ByUnique, ByChild, ByParent}
use Rattle.sv_linear.specs.Atoms.{is_insert, is_remove, touches, grows, never_where, is_plain_at, is_plain_change}
use Rattle.sv_linear.specs.Effects.{SymWrite, SymEffect}
use Rattle.sv_linear.specs.Tests.{Never}
use Rattle.sv_wp.specs.Gives.{writes_on, StandsFor, IsMetOn, AreMet}
use Rattle.sv_wp.specs.Laws.{PlainDecides, UniqueDecides, ChildDecides, ParentDecides}
use Rattle.sv_wp.proofs.Moves.{set_stands}

-- ---- what nothing meets, where something holds

pub nothing_asked : (schema : List Declaration) (tape : List Val) → AreMet schema tape [] ↔ (⊥ → ⊥)
nothing_asked schema tape = (λ met h. h, λ h. All-nil (IsMetOn schema tape))

never_met : (schema : List Declaration) (tape : List Val) (b c : Bool) → b ≡ c → AreMet schema tape (never_where b) ↔ (c ≡ true → ⊥)
never_met schema tape true c e = (λ met h. absurd (All-head (IsMetOn schema tape) Never [] met), λ h. absurd (h (sym e)))
never_met schema tape false c e = (λ met h. let p : false ≡ true = e ∙ h in absurd cc, λ h. All-nil (IsMetOn schema tape))

-- ---- acts

insert_same : (act : Act) → is_insert act ≡ acts.is_insert act
insert_same Insert = refl
insert_same Fresh = refl
insert_same Update = refl
insert_same Remove = refl

remove_same : (act : Act) → is_remove act ≡ threats.is_remove act
remove_same Insert = refl
remove_same Fresh = refl
remove_same Update = refl
remove_same Remove = refl

turn_same : (act : Act) → (is_insert act || is_remove act) ≡ turns (turn_of act)
turn_same Insert = refl
turn_same Fresh = refl
turn_same Update = refl
turn_same Remove = refl

grows_same : (d : Option Declaration) → grows d ≡ needs.grows d
grows_same None = refl
grows_same (Some d) = refl

-- ---- plain changes

pub plain_same : (columns : List Column) (n : ℕ) → is_plain_at columns n ≡ is_plain_column columns n
plain_same [] n = refl
plain_same (c ∷ cs) zero = refl
plain_same (c ∷ cs) (suc n) = plain_same cs n

plain_writes : (columns : List Column) (tape : List Val) (ws : List (ℕ × SymWrite)) → list_any (λ w. is_plain_at columns w.0) ws ≡ writes_plain columns (writes_on tape ws)
plain_writes columns tape [] = refl
plain_writes columns tape (w ∷ ws) = λ i. plain_same columns w.0 i || plain_writes columns tape ws i

pub plain_change : (schema : List Declaration) (d : Declaration) (tape : List Val) (e : SymEffect) (change : Effect) → slice_get schema change.place.table ≡ Some d → StandsFor tape e change
    → is_plain_change (slice_get schema e.table) e ≡ threats.is_plain_change schema change
plain_change schema d tape e change at s =
    ap (λ n. is_plain_change (slice_get schema n) e) s.table ∙ ap (λ o. is_plain_change o e) at
    ∙ (λ i. (plain_writes d.columns tape e.writes ∙ ap (writes_plain d.columns) s.writes) i || ((turn_same e.act ∙ ap (λ a. turns (turn_of a)) s.act) i && not (is_annotated d.kind)))
    ∙ sym (ap by_declaration at)
  where
    by_declaration : Option Declaration → Bool
    by_declaration o = writes_plain (columns_of o) change.writes || (turns (turn_of change.act) && not (annotation_of o))

pub plain_decides : PlainDecides
plain_decides schema d change tape e at s = never_met schema tape (is_plain_change (slice_get schema e.table) e) (threats.is_plain_change schema change) (plain_change schema d tape e change at s)

-- ---- references and unique columns

touches_same : (tape : List Val) (e : SymEffect) (change : Effect) (table : ℕ) (column : Ident) → StandsFor tape e change → (e.table == table && touches e column) ≡ threats.touches change table column
touches_same tape e change table column s = λ i. (s.table i == table) && ((insert_same e.act ∙ ap acts.is_insert s.act) i || set_stands tape e change s column.num i)

pub unique_decides : UniqueDecides
unique_decides schema change tape e table d (Different column) s = never_met schema tape (e.table == table && touches e column) (threats.touches change table column) (touches_same tape e change table column s)
unique_decides schema change tape e table d (Bound check) s = nothing_asked schema tape
unique_decides schema change tape e table d (OneOf column texts) s = nothing_asked schema tape
unique_decides schema change tape e table d (Refers column parent target) s = nothing_asked schema tape

removes_same : (tape : List Val) (e : SymEffect) (change : Effect) (table : ℕ) → StandsFor tape e change → (e.table == table && is_remove e.act) ≡ removes_from change table
removes_same tape e change table s = λ i. (s.table i == table) && (remove_same e.act ∙ ap threats.is_remove s.act) i

pub parent_decides : ParentDecides
parent_decides schema change tape e table d (Refers column parent target) s = never_met schema tape (e.table == parent.num && is_remove e.act) (removes_from change parent.num) (removes_same tape e change parent.num s)
parent_decides schema change tape e table d (Bound check) s = nothing_asked schema tape
parent_decides schema change tape e table d (OneOf column texts) s = nothing_asked schema tape
parent_decides schema change tape e table d (Different column) s = nothing_asked schema tape

bound_child : (a b c : Bool) → (((not a && b) && c) ≡ true) ↔ ((a ≡ false) × ((b && c) ≡ true))
bound_child true b c = (λ h. absurd cc, λ h. let p : true ≡ false = h.0 in absurd cc)
bound_child false b c = (λ h. (refl, h), λ h. h.1)

child_met : (schema : List Declaration) (tape : List Val) (b : Bool) (P : Type 0) → ((b ≡ true) ↔ P) → AreMet schema tape (never_where b) ↔ (P → ⊥)
child_met schema tape b P is = (λ met p. (never_met schema tape b b refl).0 met (is.1 p), λ safe. (never_met schema tape b b refl).1 (λ h. safe (is.0 h)))

child_asked : (schema : List Declaration) (tape : List Val) (e : SymEffect) (change : Effect) (table parent : ℕ) (column : Ident) → StandsFor tape e change
    → ((not (grows (slice_get schema parent)) && e.table == table && touches e column) ≡ true) ↔ ((needs.grows (slice_get schema parent) ≡ false) × (threats.touches change table column ≡ true))
child_asked schema tape e change table parent column s =
    subst (λ T. T) (λ i. ((not (grows (slice_get schema parent)) && e.table == table && touches e column) ≡ true) ↔ ((grows_same (slice_get schema parent) i ≡ false) × (touches_same tape e change table column s i ≡ true)))
    (bound_child (grows (slice_get schema parent)) (e.table == table) (touches e column))

pub child_decides : ChildDecides
child_decides schema change tape e table d (Refers column parent target) s =
    child_met schema tape (not (grows (slice_get schema parent.num)) && e.table == table && touches e column) ((needs.grows (slice_get schema parent.num) ≡ false) × (threats.touches change table column ≡ true)) (child_asked schema tape e change table parent.num column s)
child_decides schema change tape e table d (Bound check) s = nothing_asked schema tape
child_decides schema change tape e table d (OneOf column texts) s = nothing_asked schema tape
child_decides schema change tape e table d (Different column) s = nothing_asked schema tape
