-- What a predicate on stands is, of flows: it holds wherever the run goes on.
use Rattle.std.proofs.Common.{◌≡◌, if◌then◌else◌, Bool, true, false, List, [], ◌∷◌, Option, Some, None, refl}
use Rattle.sv_value.specs.declared.values.Key.{Key}
use Rattle.sv_app.specs.Schema.{Declaration}
use Rattle.sv_app.specs.Tables.{Row}
use Rattle.sv_effect.specs.declared.outcomes.Outcome.TheVariants as outcomes
use Rattle.sv_effect.specs.Run.{Stand, Flow, Goes, Ends, then_do, with_scope, on_value, on_truth, on_present, on_table, on_keys, turns, if_present}
use Rattle.sv_effect.specs.RunValues.{Scope, Evaluated, Leaves, Gives}
use Rattle.sv_trace.proofs.StillLaws.{tag, Still}

abbrev pub Kept : (Stand → Type 0) → Flow → Type 0
Kept P (Goes st) = P st
Kept P (Ends o) = Unit {0}

-- behind another flow
pub then_kept : (P Q : Stand → Type 0) (flow : Flow) (go : Stand → Flow) → Kept P flow → ((st : Stand) → P st → Kept Q (go st)) → Kept Q (then_do flow go)
then_kept P Q (Goes st) go h each = each st h
then_kept P Q (Ends o) go h each = tt

module _ (P : Stand → Type 0) where
  pub value_kept : {A : Type 0} (x : Evaluated A) (st : Stand) (go : A → Stand → Flow) → Still st.scope x → ((v : A) (s : Scope) → tag s ≡ tag st.scope → Kept P (go v (with_scope st s))) → Kept P (on_value x st go)
  value_kept Leaves st go still each = tt
  value_kept (Gives v s) st go still each = each v s still

  pub truth_kept : (x : Evaluated Bool) (st : Stand) (f g : Stand → Flow) → Still st.scope x → ((s : Scope) → tag s ≡ tag st.scope → Kept P (f (with_scope st s))) → ((s : Scope) → tag s ≡ tag st.scope → Kept P (g (with_scope st s)))
      → Kept P (on_truth x st f g)
  truth_kept Leaves st f g still a b = tt
  truth_kept (Gives true s) st f g still a b = a s still
  truth_kept (Gives false s) st f g still a b = b s still

  pub present_kept : (o : Option Row) (go : Row → Flow) → ((row : Row) → o ≡ Some row → row.present ≡ true → Kept P (go row)) → Kept P (on_present o go)
  present_kept None go each = tt
  present_kept (Some row) go each = by row.present refl
    where
      by : (b : Bool) → row.present ≡ b → Kept P (if b then go row else Ends outcomes.NoRow)
      by true is = each row refl is
      by false is = tt

  pub table_kept : (o : Option Declaration) (go : Declaration → Flow) → ((d : Declaration) → o ≡ Some d → Kept P (go d)) → Kept P (on_table o go)
  table_kept None go each = tt
  table_kept (Some d) go each = each d refl

  pub keys_kept : (o : Option (List Key)) (go : List Key → Flow) → ((ks : List Key) → Kept P (go ks)) → Kept P (on_keys o go)
  keys_kept None go each = tt
  keys_kept (Some ks) go each = each ks

  pub if_present_kept : (o : Option Row) (go : Row → Stand → Flow) (st : Stand) → P st → ((row : Row) → Kept P (go row st)) → Kept P (if_present o go st)
  if_present_kept None go st h each = h
  if_present_kept (Some row) go st h each = by row.present
    where
      by : (b : Bool) → Kept P (if b then go row st else Goes st)
      by true = each row
      by false = h

  pub turns_kept : {A : Type 0} (xs : List A) (turn : A → Stand → Flow) → ((x : A) (z : Stand) → P z → Kept P (turn x z)) → (st : Stand) → P st → Kept P (turns xs turn st)
  turns_kept [] turn each st h = h
  turns_kept (x ∷ xs) turn each st h = then_kept P P (turn x st) (turns xs turn) (each x st h) (turns_kept xs turn each)
