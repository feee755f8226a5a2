use Rattle.std.proofs.Common.{[], ◌∷◌, List, map, refl}
use Rattle.sv_app.specs.declared.schemas.Inv.{Inv}
use Rattle.sv_app.specs.Schema.{schema_of, invariant_of}
use Rattle.sv_linear.specs.Atoms.{Group}
use Rattle.sv_linear.specs.Codes.{atom_of, effect_of}
use Rattle.sv_wp.specs.Listing.{group_by}
use Rattle.sv_wp.proofs.ArmLaws.{ended_arm, going_arm, stop_arm, later_stop_arm}
use Rattle.sv_wp.proofs.listing.+put_invs.Goals as goal

pub returns-in-Err-clause-wide : goal.returns-in-Err-clause-wide
returns-in-Err-clause-wide g t c =
    let group = group_by c.args.question (g.G.GainTeller.told c.args.subject.now.gains.now) (schema_of c.args.subject.now.tables.now) (effect_of c.args.subject.now.e.now) c.args.table in
    let all : List Inv → List Group = λ invs. map group (map invariant_of invs) in
    stop_arm c.args.subject.now.place (λ (inv : Inv). group (invariant_of inv) ∷ []) all all (λ inv invs. refl) c.args.invs.now c.inv-item.result c.in-len1-up.len_at_least c.inv-item.is
    c.in-Err.stop c.in-Err.ensures.wide

pub returns-in-Ok-true-clause-listed : goal.returns-in-Ok-true-clause-listed
returns-in-Ok-true-clause-listed g t c =
    let group = group_by c.args.question (g.G.GainTeller.told c.args.subject.now.gains.now) (schema_of c.args.subject.now.tables.now) (effect_of c.args.subject.now.e.now) c.args.table in
    let all : List Inv → List Group = λ invs. map group (map invariant_of invs) in
    ended_arm c.args.subject.now.place (λ (inv : Inv). group (invariant_of inv) ∷ []) all all (λ inv invs. refl) c.args.invs.now c.inv-item.result c.in-len1-up.len_at_least c.inv-item.is
    (map atom_of c.args.atoms.now) (map atom_of c.put_group.new.atoms) c.in-Ok-true.field-0 c.in-Ok-true.ensures.listed c.in-Ok-true.field-0-test

pub returns-in-Ok-false-clause-listed : goal.returns-in-Ok-false-clause-listed
returns-in-Ok-false-clause-listed g t c =
    let group = group_by c.args.question (g.G.GainTeller.told c.args.subject.now.gains.now) (schema_of c.args.subject.now.tables.now) (effect_of c.args.subject.now.e.now) c.args.table in
    let all : List Inv → List Group = λ invs. map group (map invariant_of invs) in
    going_arm c.args.subject.now.place (λ (inv : Inv). group (invariant_of inv) ∷ []) all all (λ inv invs. refl) c.args.invs.now c.inv-item.result c.in-len1-up.len_at_least c.inv-item.is
    c.put_invs.result (map atom_of c.args.atoms.now) (map atom_of c.put_group.new.atoms) (map atom_of c.put_invs.new.atoms) c.in-Ok-false.field-0 c.in-Ok-false.ensures.listed c.in-Ok-false.field-0-test
    c.put_invs.ensures.listed

pub returns-in-Ok-false-clause-wide : goal.returns-in-Ok-false-clause-wide
returns-in-Ok-false-clause-wide g t c =
    let group = group_by c.args.question (g.G.GainTeller.told c.args.subject.now.gains.now) (schema_of c.args.subject.now.tables.now) (effect_of c.args.subject.now.e.now) c.args.table in
    let all : List Inv → List Group = λ invs. map group (map invariant_of invs) in
    later_stop_arm c.args.subject.now.place (λ (inv : Inv). group (invariant_of inv) ∷ []) all all (λ inv invs. refl) c.args.invs.now c.inv-item.result c.in-len1-up.len_at_least c.inv-item.is
    c.put_invs.result (map atom_of c.args.atoms.now) (map atom_of c.put_group.new.atoms) c.in-Ok-false.field-0 c.in-Ok-false.ensures.listed c.in-Ok-false.field-0-test c.put_invs.ensures.wide
