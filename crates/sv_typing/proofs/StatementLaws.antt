-- What is noted of a statement and of those behind it.
use Rattle.std.proofs.Common.{◌≡◌, ℕ, ◌+◌, ◌<◌, List, [], ◌∷◌, ◌++◌, length, drop, get_or, refl, sym, ap, ◌∙◌, Option, Some, None}
use Rattle.sv_app.specs.declared.refusals.Refusal.{Refusal}
use Rattle.sv_app.specs.declared.schemas.Ty.{Ty}
use Rattle.sv_app.specs.declared.txns.Stmt.{Stmt}
use Rattle.sv_app.specs.Scopes.{Scope}
use Rattle.sv_app.specs.Trees.{command_of, block_of}
use Rattle.sv_app.specs.TxnTyping.{type_if_right, behind, command_faults, inner_faults, block_faults}
use Rattle.sv_typing.specs.Noted.{noted}
use Rattle.sv_typing.proofs.FirstLaws.{noted_is_none}
use Rattle.sv_typing.proofs.LookupLaws.{at_drop}
use Rattle.sv_typing.proofs.NotedLaws.{noted_append}

pub type_right : (faults : List Refusal) (ty : Option Ty) → faults ≡ [] → ty ≡ type_if_right faults ty
type_right [] ty e = refl
type_right (fault ∷ faults) ty e = absurd cc

pub wrong_has_none : (held : Option Refusal) (r : Refusal) (faults : List Refusal) (ty : Option Ty) → held ≡ Some r → held ≡ noted None faults → None ≡ type_if_right faults ty
wrong_has_none held r [] ty some e = absurd cc
wrong_has_none held r (fault ∷ faults) ty some e = refl

pub right_has_type : (held : Option Refusal) (faults : List Refusal) (ty : Option Ty) → held ≡ None → held ≡ noted None faults → ty ≡ type_if_right faults ty
right_has_type held faults ty empty e = type_right faults ty (noted_is_none faults (sym e ∙ empty))

pub ruleset rights = (wrong_has_none, right_has_type)

-- one more statement was looked at
pub one_statement : (at next : Scope) (ss : List Stmt) (i : ℕ) (s : Stmt) (held own now goal : Option Refusal) → i < length ss → s ≡ get_or ss i s
    → noted held (block_faults at (block_of (drop i ss))) ≡ goal → own ≡ noted held (command_faults at (command_of s)) → now ≡ noted own (inner_faults at (command_of s))
    → behind at (command_of s) ≡ next → noted now (block_faults next (block_of (drop (i + 1) ss))) ≡ goal
one_statement at next ss i s held own now goal h e before step inner moved =
    let more : List Refusal = block_faults next (block_of (drop (i + 1) ss)) in
    let split : noted held (block_faults at (block_of (drop i ss))) ≡ noted held (command_faults at (command_of s) ++ inner_faults at (command_of s) ++ more) = rw (at_drop ss i s h e, moved) refl in
    let first : now ≡ noted held (command_faults at (command_of s) ++ inner_faults at (command_of s)) =
    inner ∙ ap (λ o. noted o (inner_faults at (command_of s))) step ∙ sym (noted_append held (command_faults at (command_of s)) (inner_faults at (command_of s))) in
    ap (λ o. noted o more) first ∙ sym (noted_append held (command_faults at (command_of s) ++ inner_faults at (command_of s)) more) ∙ sym split ∙ before

pub ruleset walking = (one_statement)
