-- Statements behind one another, and what holds with fewer names.
use Rattle.std.proofs.Common.{◌≡◌, [], ◌++◌, None, refl, sym, ap, ◌∙◌, append_assoc, append-nil, inr}
use Rattle.sv_app.specs.declared.apps.Ident.{Ident}
use Rattle.sv_app.specs.declared.names.Meaning.{Meaning}
use Rattle.sv_app.specs.Paths.{Way, Path, Leads, then_lead, command_path, block_path}
use Rattle.sv_app.specs.Scopes.{Scope, knowing}
use Rattle.sv_app.specs.Trees.{Command, Declare, Assign, Fetch, Choose, ForRows, ForEach, Insert, Fresh, Update, Remove, Abort, Reply, Block, Finish, Then}
use Rattle.sv_app.specs.TxnTyping.{behind}
use Rattle.sv_effect.specs.Run.{Stand, with_scope}
use Rattle.sv_effect.specs.RunValues.{Progress, Scope as Values}
use Rattle.sv_trace.specs.Standing.{Frame, names_in, BlockIn, CommandIn, Sees, Holds, way_of, Along, Passes, Makes}

-- with another scope of which the same is known
pub holds_with : (f : Frame) (at to : Scope) (st : Stand) (s : Values) → Holds f at st → Sees f to s → Holds f to (with_scope st s)
holds_with f at to st s holds sees = record { sees = sees; tables = holds.tables; effects = holds.effects; few = holds.few; shaped = holds.shaped }

pub sees_fewer : (f : Frame) (at : Scope) (x : Ident) (m : Meaning) (s : Values) → Sees f (knowing at x m) s → Sees f at s
sees_fewer f at x m s sees = record { values = λ y known. sees.values y (inr known); rows = λ r known. sees.rows r (inr known) }

pub holds_fewer : (f : Frame) (at : Scope) (x : Ident) (m : Meaning) (st : Stand) → Holds f (knowing at x m) st → Holds f at st
holds_fewer f at x m st holds = record { sees = sees_fewer f at x m st.scope holds.sees; tables = holds.tables; effects = holds.effects; few = holds.few; shaped = holds.shaped }

pub holds_before : (f : Frame) (at : Scope) (c : Command) (st : Stand) → Holds f (behind at c) st → Holds f at st
holds_before f at (Declare x e) st holds = holds_fewer f at x _ st holds
holds_before f at (Assign x e) st holds = holds
holds_before f at (Fetch r t k) st holds = holds_fewer f at r _ st holds
holds_before f at (Choose test ys ns) st holds = holds
holds_before f at (ForRows r t test body) st holds = holds
holds_before f at (ForEach x l body) st holds = holds
holds_before f at (Insert t es) st holds = holds
holds_before f at (Fresh x t es) st holds = holds_fewer f at x _ st holds
holds_before f at (Update t k sets) st holds = holds
holds_before f at (Remove t k) st holds = holds
holds_before f at (Abort n) st holds = holds
holds_before f at (Reply e) st holds = holds

outside_behind : (at : Scope) (c : Command) → at.updated ≡ None → (behind at c).updated ≡ None
outside_behind at (Declare x e) outside = outside
outside_behind at (Assign x e) outside = outside
outside_behind at (Fetch r t k) outside = outside
outside_behind at (Choose test ys ns) outside = outside
outside_behind at (ForRows r t test body) outside = outside
outside_behind at (ForEach x l body) outside = outside
outside_behind at (Insert t es) outside = outside
outside_behind at (Fresh x t es) outside = outside
outside_behind at (Update t k sets) outside = outside
outside_behind at (Remove t k) outside = outside
outside_behind at (Abort n) outside = outside
outside_behind at (Reply e) outside = outside

pub first_in : (f : Frame) (at : Scope) (c : Command) (b : Block) → BlockIn f at (Then c b) → CommandIn f at c
first_in f at c b block = record { frame = block.frame; outside = block.outside; suits = block.suits.0 }

pub rest_in : (f : Frame) (at : Scope) (c : Command) (b : Block) → BlockIn f at (Then c b) → BlockIn f (behind at c) b
rest_in f at c b block = record { frame = block.frame; outside = outside_behind at c block.outside; suits = block.suits.1 }

pub along_none : (p : Progress) → Along (λ w. Leads w) p p
along_none p = record { grown = []; unit = refl; choices = sym (append-nil p.choices); leads = λ left. refl }

pub along_then : (a b : Way → Path) (p q r : Progress) → Along a p q → Along b q r → Along (λ w. then_lead (a w) b) p r
along_then a b p q r first second = record {
  grown = first.grown ++ second.grown;
  unit = second.unit ∙ first.unit;
  choices = second.choices ∙ ap (λ l. l ++ second.grown) first.choices ∙ append_assoc p.choices first.grown second.grown;
  leads = λ left.
      ap (λ l. then_lead (a (way_of l p)) b) (append_assoc first.grown second.grown left)
      ∙ ap (λ path. then_lead path b) (first.leads (second.grown ++ left))
      ∙ second.leads left;
}

pub passes_finish : (f : Frame) (at : Scope) (st : Stand) → Holds f at st → Passes f at Finish st st
passes_finish f at st holds = record { holds = holds; along = along_none st.scope.progress }

pub passes_then : (f : Frame) (at : Scope) (c : Command) (b : Block) (st mid end : Stand) → Makes f at c st mid → Passes f (behind at c) b mid end → Passes f at (Then c b) st end
passes_then f at c b st mid end makes passes = record {
  holds = holds_before f at c end passes.holds;
  along = along_then (command_path f.schema (names_in f) c) (block_path f.schema (names_in f) b) st.scope.progress mid.scope.progress end.scope.progress makes.along passes.along;
}
