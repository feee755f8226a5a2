-- In an accepted application transactions, and the names that a transaction declares, have their places as numbers.
use Rattle.std.proofs.Common.{◌≡◌, ℕ, List, [], ◌∷◌, ◌++◌, refl, sym, ap, ◌∙◌, map, Some}
use Rattle.std.specs.List.{slice_get, flat_map}
use Rattle.std.proofs.lemmas.List.{map-append}
use Rattle.sv_app.specs.declared.apps.Ident.{Ident}
use Rattle.sv_app.specs.declared.names.Declared.{Declared}
use Rattle.sv_app.specs.declared.schemas.Ty.{Ty}
use Rattle.sv_app.specs.Acceptance.{IsAccepted}
use Rattle.sv_app.specs.Schema.{Declaration}
use Rattle.sv_app.specs.Statements.{block_statements}
use Rattle.sv_app.specs.Trees.{Command, Declare, Assign, Fetch, Choose, ForRows, ForEach, Insert, Fresh, Update, Remove, Abort, Reply, Transaction}
use Rattle.sv_app.specs.TxnNames.{plain_name, declared_by, names_of}
use Rattle.sv_app.specs.TxnNumbers.{Naming, naming, numbered_name, numbered_command, numbered_parameter, txn_names, numbered_txn, numbered_txns}
use Rattle.sv_app.specs.TxnTyping.{block_faults, txn_faults}
use Rattle.sv_app.specs.Scopes.{opening}
use Rattle.sv_app.specs.Typing.{repeats}
use Rattle.sv_app.proofs.ListLaws.{map_map}
use Rattle.sv_typing.proofs.NumberedSchema.{map_same}
use Rattle.sv_typing.proofs.NumberedTxns.{statements_numbered}
use Rattle.sv_app.proofs.AcceptedLaws.{front_none, back_none, each_none}
use Rattle.sv_typing.proofs.PlaceLaws.{mapped_at, map_at, own_number, txns_right}

abbrev name_in : Declared → Ident
name_in d = d.name

pub txns_by_place : (schema : List Declaration) (txns : List Transaction) (place : ℕ) (t : Transaction) → IsAccepted schema txns → slice_get (numbered_txns schema txns) place ≡ Some t → t.name.num ≡ place
txns_by_place schema txns place t accepted s =
    let found : (u : Transaction) × (slice_get txns place ≡ Some u) × (numbered_txn schema txns u ≡ t) = mapped_at (numbered_txn schema txns) txns place t s in
    let once : repeats (txn_names txns) ≡ [] = front_none (repeats (txn_names txns)) (flat_map (λ u. txn_faults schema u) txns) (txns_right schema txns accepted.typed) in
    ap (λ (u : Transaction). u.name.num) (sym found.2) ∙ own_number (txn_names txns) place found.0.name once (map_at (λ (u : Transaction). u.name) txns place found.0 found.1)

own_name : (by : Naming) (c : Command) → map name_in (declared_by (numbered_command by c)) ≡ map (numbered_name by) (map name_in (declared_by c))
own_name by (Declare x e) = refl
own_name by (Assign x e) = refl
own_name by (Fetch r t k) = refl
own_name by (Choose c ys ns) = refl
own_name by (ForRows r t c body) = refl
own_name by (ForEach x l body) = refl
own_name by (Insert t vs) = refl
own_name by (Fresh x t vs) = refl
own_name by (Update t k ss) = refl
own_name by (Remove t k) = refl
own_name by (Abort n) = refl
own_name by (Reply e) = refl

all_names : (by : Naming) (cs : List Command) → map name_in (flat_map declared_by (map (numbered_command by) cs)) ≡ map (numbered_name by) (map name_in (flat_map declared_by cs))
all_names by [] = refl
all_names by (c ∷ cs) =
    map-append name_in (declared_by (numbered_command by c)) (flat_map declared_by (map (numbered_command by) cs))
    ∙ (λ i. own_name by c i ++ all_names by cs i)
    ∙ sym (map-append (numbered_name by) (map name_in (declared_by c)) (map name_in (flat_map declared_by cs)))
    ∙ ap (map (numbered_name by)) (sym (map-append name_in (declared_by c) (flat_map declared_by cs)))

-- the names of a numbered transaction are its names with numbers
names_numbered : (schema : List Declaration) (txns : List Transaction) (txn : Transaction) → names_of (numbered_txn schema txns txn) ≡ map (numbered_name (naming schema txn)) (names_of txn)
names_numbered schema txns txn =
    let by : Naming = naming schema txn in
    let front : List Declared = map (λ (p : Ident × Ty). plain_name p.0) txn.params in
    let back : List Declared = flat_map declared_by (block_statements txn.body) in
    let params : map name_in (map (λ (p : Ident × Ty). plain_name p.0) (map (numbered_parameter by) txn.params)) ≡ map (numbered_name by) (map name_in front) =
    map_map (λ (p : Ident × Ty). plain_name p.0) name_in (map (numbered_parameter by) txn.params)
    ∙ map_same (numbered_parameter by) (λ (p : Ident × Ty). p.0) (λ p. numbered_name by p.0) txn.params (λ p. refl)
    ∙ sym (ap (map (numbered_name by)) (map_map (λ (p : Ident × Ty). plain_name p.0) name_in txn.params) ∙ map_map (λ (p : Ident × Ty). p.0) (numbered_name by) txn.params) in
    let body : map name_in (flat_map declared_by (block_statements (numbered_txn schema txns txn).body)) ≡ map (numbered_name by) (map name_in back) =
    ap (λ cs. map name_in (flat_map declared_by cs)) (statements_numbered by txn.body) ∙ all_names by (block_statements txn.body) in
    map-append name_in (map (λ (p : Ident × Ty). plain_name p.0) (map (numbered_parameter by) txn.params)) (flat_map declared_by (block_statements (numbered_txn schema txns txn).body))
    ∙ (λ i. params i ++ body i)
    ∙ sym (map-append (numbered_name by) (map name_in front) (map name_in back))
    ∙ ap (map (numbered_name by)) (sym (map-append name_in front back))

pub names_by_place : (schema : List Declaration) (txns : List Transaction) (txn place : ℕ) (t : Transaction) (name : Ident) → IsAccepted schema txns
    → slice_get (numbered_txns schema txns) txn ≡ Some t → slice_get (names_of t) place ≡ Some name → name.num ≡ place
names_by_place schema txns txn place t name accepted s at_place =
    let found : (u : Transaction) × (slice_get txns txn ≡ Some u) × (numbered_txn schema txns u ≡ t) = mapped_at (numbered_txn schema txns) txns txn t s in
    let by : Naming = naming schema found.0 in
    let stands : slice_get (map (numbered_name by) (names_of found.0)) place ≡ Some name =
    ap (λ (names : List Ident). slice_get names place) (sym (names_numbered schema txns found.0)) ∙ ap (λ (u : Transaction). slice_get (names_of u) place) found.2 ∙ at_place in
    let own : (x : Ident) × (slice_get (names_of found.0) place ≡ Some x) × (numbered_name by x ≡ name) = mapped_at (numbered_name by) (names_of found.0) place name stands in
    let each : flat_map (λ u. txn_faults schema u) txns ≡ [] = back_none (repeats (txn_names txns)) _ (txns_right schema txns accepted.typed) in
    let whole : txn_faults schema found.0 ≡ [] = each_none (λ u. txn_faults schema u) txns txn found.0 each found.1 in
    let once : repeats (names_of found.0) ≡ [] = front_none (repeats (names_of found.0)) (block_faults (opening schema found.0.params) found.0.body) whole in
    ap (λ (x : Ident). x.num) (sym own.2) ∙ own_number (names_of found.0) place own.0 once own.1
