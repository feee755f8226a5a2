-- The names that statements declare, one by one from the front.
use Rattle.std.proofs.Common.{◌≡◌, ℕ, ◌+◌, ◌<◌, List, [], ◌∷◌, ◌++◌, length, drop, get_or, refl, sym, ap, ◌∙◌, append_assoc, map}
use Rattle.std.specs.List.{flat_map}
use Rattle.std.proofs.lemmas.Grind.{flat_map-append}
use Rattle.sv_app.specs.declared.names.Declared.{Declared}
use Rattle.sv_app.specs.declared.txns.Stmt.{Stmt}
use Rattle.sv_app.specs.declared.txns.Txn.{Txn}
use Rattle.sv_app.specs.Statements.{inner_statements, block_statements}
use Rattle.sv_app.specs.Trees.{Command, Transaction, command_of, block_of, transactions_of}
use Rattle.sv_app.specs.TxnNames.{declared_by}
use Rattle.sv_typing.proofs.LookupLaws.{at_drop}

-- those of one more statement stand behind the others
pub one_more : (ss : List Stmt) (i : ℕ) (s : Stmt) (names own now goal : List Declared) → i < length ss → s ≡ get_or ss i s
    → names ++ flat_map declared_by (block_statements (block_of (drop i ss))) ≡ goal → own ≡ names ++ declared_by (command_of s)
    → now ≡ own ++ flat_map declared_by (inner_statements (command_of s)) → now ++ flat_map declared_by (block_statements (block_of (drop (i + 1) ss))) ≡ goal
one_more ss i s names own now goal h e before step inner =
    let c : Command = command_of s in
    let within : List Declared = flat_map declared_by (inner_statements c) in
    let more : List Declared = flat_map declared_by (block_statements (block_of (drop (i + 1) ss))) in
    let split : flat_map declared_by (block_statements (block_of (drop i ss))) ≡ declared_by c ++ (within ++ more) =
    ap (λ rest. flat_map declared_by (block_statements (block_of rest))) (at_drop ss i s h e)
    ∙ ap (λ l. declared_by c ++ l) (flat_map-append declared_by (inner_statements c) (block_statements (block_of (drop (i + 1) ss)))) in
    ap (λ l. l ++ more) (inner ∙ ap (λ l. l ++ within) step) ∙ append_assoc (names ++ declared_by c) within more ∙ append_assoc names (declared_by c) (within ++ more)
    ∙ ap (λ l. names ++ l) (sym split) ∙ before

-- those of two blocks stand behind each other
pub two_blocks : (front back : List Command) (names middle now : List Declared) → middle ≡ names ++ flat_map declared_by front → now ≡ middle ++ flat_map declared_by back
    → now ≡ names ++ flat_map declared_by (front ++ back)
two_blocks front back names middle now first second =
    second ∙ ap (λ l. l ++ flat_map declared_by back) first ∙ append_assoc names (flat_map declared_by front) (flat_map declared_by back)
    ∙ ap (λ l. names ++ l) (sym (flat_map-append declared_by front back))

pub ruleset declaring = (one_more, two_blocks)

-- the names of transactions are those that they carry
pub txn_names_are : (txns : List Txn) → map (λ (t : Transaction). t.name) (transactions_of txns) ≡ map (λ (t : Txn). t.name) txns
txn_names_are [] = refl
txn_names_are (t ∷ ts) = ap (λ names. t.name ∷ names) (txn_names_are ts)
