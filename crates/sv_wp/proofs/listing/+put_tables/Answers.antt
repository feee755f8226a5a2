use Rattle.std.proofs.Common.{◌≡◌, ◌+◌, suc, ◌∷◌, ◌++◌, List, map, ap, subst, arith}
use Rattle.sv_app.specs.declared.schemas.Table.{Table}
use Rattle.sv_app.specs.Schema.{schema_of, invariant_of}
use Rattle.sv_linear.specs.Atoms.{Group, for_each}
use Rattle.sv_linear.specs.Codes.{atom_of, effect_of}
use Rattle.sv_wp.specs.Listing.{group_by, asked_of, IsStopIn, Lists}
use Rattle.sv_wp.proofs.ArmLaws.{ended_arm, going_arm, stop_arm, later_stop_arm}
use Rattle.sv_wp.proofs.listing.+put_tables.Goals as goal

pub returns-in-Err-clause-wide : goal.returns-in-Err-clause-wide
returns-in-Err-clause-wide g t c =
    let group = group_by c.args.question (g.G.GainTeller.told c.args.subject.now.gains.now) (schema_of c.args.subject.now.tables.now) (effect_of c.args.subject.now.e.now) in
    let first : Table → List Group = λ table. map (group c.args.table) (map invariant_of table.invs.items) in
    let all : List Table → List Group = λ tables. for_each group c.args.table (schema_of tables) in
    let behind : List Table → List Group = λ tables. for_each group (c.args.table + 1) (schema_of tables) in
    let next : suc c.args.table ≡ c.args.table + 1 = omega arith in
    let made : (table : Table) (tables : List Table) → all (table ∷ tables) ≡ first table ++ behind tables = λ table tables. ap (λ n. first table ++ for_each group n (schema_of tables)) next in
    stop_arm c.args.subject.now.place first all behind made c.args.tables.now c.first-item.result c.in-len1-up.len_at_least c.first-item.is
    c.in-Err.stop (subst (λ invs. IsStopIn (asked_of (map (group c.args.table) (map invariant_of invs))) c.in-Err.stop) c.as_slice.ensures.value c.in-Err.ensures.wide)

pub returns-in-Ok-true-clause-listed : goal.returns-in-Ok-true-clause-listed
returns-in-Ok-true-clause-listed g t c =
    let group = group_by c.args.question (g.G.GainTeller.told c.args.subject.now.gains.now) (schema_of c.args.subject.now.tables.now) (effect_of c.args.subject.now.e.now) in
    let first : Table → List Group = λ table. map (group c.args.table) (map invariant_of table.invs.items) in
    let all : List Table → List Group = λ tables. for_each group c.args.table (schema_of tables) in
    let behind : List Table → List Group = λ tables. for_each group (c.args.table + 1) (schema_of tables) in
    let next : suc c.args.table ≡ c.args.table + 1 = omega arith in
    let made : (table : Table) (tables : List Table) → all (table ∷ tables) ≡ first table ++ behind tables = λ table tables. ap (λ n. first table ++ for_each group n (schema_of tables)) next in
    ended_arm c.args.subject.now.place first all behind made c.args.tables.now c.first-item.result c.in-len1-up.len_at_least c.first-item.is
    (map atom_of c.args.atoms.now) (map atom_of c.put_invs.new.atoms) c.in-Ok-true.field-0
    (subst (λ invs. Lists c.args.subject.now.place (map (group c.args.table) (map invariant_of invs)) (map atom_of c.args.atoms.now) (map atom_of c.put_invs.new.atoms) c.in-Ok-true.field-0) c.as_slice.ensures.value c.in-Ok-true.ensures.listed) c.in-Ok-true.field-0-test

pub returns-in-Ok-false-clause-listed : goal.returns-in-Ok-false-clause-listed
returns-in-Ok-false-clause-listed g t c =
    let group = group_by c.args.question (g.G.GainTeller.told c.args.subject.now.gains.now) (schema_of c.args.subject.now.tables.now) (effect_of c.args.subject.now.e.now) in
    let first : Table → List Group = λ table. map (group c.args.table) (map invariant_of table.invs.items) in
    let all : List Table → List Group = λ tables. for_each group c.args.table (schema_of tables) in
    let behind : List Table → List Group = λ tables. for_each group (c.args.table + 1) (schema_of tables) in
    let next : suc c.args.table ≡ c.args.table + 1 = omega arith in
    let made : (table : Table) (tables : List Table) → all (table ∷ tables) ≡ first table ++ behind tables = λ table tables. ap (λ n. first table ++ for_each group n (schema_of tables)) next in
    going_arm c.args.subject.now.place first all behind made c.args.tables.now c.first-item.result c.in-len1-up.len_at_least c.first-item.is
    c.put_tables.result (map atom_of c.args.atoms.now) (map atom_of c.put_invs.new.atoms) (map atom_of c.put_tables.new.atoms) c.in-Ok-false.field-0
    (subst (λ invs. Lists c.args.subject.now.place (map (group c.args.table) (map invariant_of invs)) (map atom_of c.args.atoms.now) (map atom_of c.put_invs.new.atoms) c.in-Ok-false.field-0) c.as_slice.ensures.value c.in-Ok-false.ensures.listed) c.in-Ok-false.field-0-test c.put_tables.ensures.listed

pub returns-in-Ok-false-clause-wide : goal.returns-in-Ok-false-clause-wide
returns-in-Ok-false-clause-wide g t c =
    let group = group_by c.args.question (g.G.GainTeller.told c.args.subject.now.gains.now) (schema_of c.args.subject.now.tables.now) (effect_of c.args.subject.now.e.now) in
    let first : Table → List Group = λ table. map (group c.args.table) (map invariant_of table.invs.items) in
    let all : List Table → List Group = λ tables. for_each group c.args.table (schema_of tables) in
    let behind : List Table → List Group = λ tables. for_each group (c.args.table + 1) (schema_of tables) in
    let next : suc c.args.table ≡ c.args.table + 1 = omega arith in
    let made : (table : Table) (tables : List Table) → all (table ∷ tables) ≡ first table ++ behind tables = λ table tables. ap (λ n. first table ++ for_each group n (schema_of tables)) next in
    later_stop_arm c.args.subject.now.place first all behind made c.args.tables.now c.first-item.result c.in-len1-up.len_at_least c.first-item.is
    c.put_tables.result (map atom_of c.args.atoms.now) (map atom_of c.put_invs.new.atoms) c.in-Ok-false.field-0
    (subst (λ invs. Lists c.args.subject.now.place (map (group c.args.table) (map invariant_of invs)) (map atom_of c.args.atoms.now) (map atom_of c.put_invs.new.atoms) c.in-Ok-false.field-0) c.as_slice.ensures.value c.in-Ok-false.ensures.listed) c.in-Ok-false.field-0-test c.put_tables.ensures.wide
