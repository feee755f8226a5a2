use Rattle.std.proofs.Common.{List, map, refl}
use Rattle.std.specs.List.{flat_map}
use Rattle.sv_app.specs.Schema.{schema_of}
use Rattle.sv_linear.specs.Atoms.{Group, for_each}
use Rattle.sv_linear.specs.Codes.{atom_of, effect_of}
use Rattle.sv_wp.specs.declared.questions.Question.{Question}
use Rattle.sv_wp.specs.Listing.{group_by}
use Rattle.sv_wp.proofs.ArmLaws.{first_at, ended_arm, going_arm, stop_arm, later_stop_arm}
use Rattle.sv_wp.proofs.listing.+put_questions.Goals as goal

pub returns-in-Err-clause-wide : goal.returns-in-Err-clause-wide
returns-in-Err-clause-wide g t c =
    let first : Question → List Group = λ question. for_each (group_by question (g.G.GainTeller.told c.args.subject.now.gains.now) (schema_of c.args.subject.now.tables.now) (effect_of c.args.subject.now.e.now)) 0
    (schema_of c.args.subject.now.tables.now) in
    let all : List Question → List Group = λ questions. flat_map first questions in
    stop_arm c.args.subject.now.place first all all (λ question questions. refl) c.args.questions.now _ c.in-len1-up.len_at_least (first_at c.args.questions.now _ c.in-len1-up.len_at_least)
    c.in-Err.stop c.in-Err.ensures.wide

pub returns-in-Ok-true-clause-listed : goal.returns-in-Ok-true-clause-listed
returns-in-Ok-true-clause-listed g t c =
    let first : Question → List Group = λ question. for_each (group_by question (g.G.GainTeller.told c.args.subject.now.gains.now) (schema_of c.args.subject.now.tables.now) (effect_of c.args.subject.now.e.now)) 0
    (schema_of c.args.subject.now.tables.now) in
    let all : List Question → List Group = λ questions. flat_map first questions in
    ended_arm c.args.subject.now.place first all all (λ question questions. refl) c.args.questions.now _ c.in-len1-up.len_at_least (first_at c.args.questions.now _ c.in-len1-up.len_at_least)
    (map atom_of c.args.atoms.now) (map atom_of c.put_tables.new.atoms) c.in-Ok-true.field-0 c.in-Ok-true.ensures.listed c.in-Ok-true.field-0-test

pub returns-in-Ok-false-clause-listed : goal.returns-in-Ok-false-clause-listed
returns-in-Ok-false-clause-listed g t c =
    let first : Question → List Group = λ question. for_each (group_by question (g.G.GainTeller.told c.args.subject.now.gains.now) (schema_of c.args.subject.now.tables.now) (effect_of c.args.subject.now.e.now)) 0
    (schema_of c.args.subject.now.tables.now) in
    let all : List Question → List Group = λ questions. flat_map first questions in
    going_arm c.args.subject.now.place first all all (λ question questions. refl) c.args.questions.now _ c.in-len1-up.len_at_least (first_at c.args.questions.now _ c.in-len1-up.len_at_least)
    c.put_questions.result (map atom_of c.args.atoms.now) (map atom_of c.put_tables.new.atoms) (map atom_of c.put_questions.new.atoms) c.in-Ok-false.field-0 c.in-Ok-false.ensures.listed
    c.in-Ok-false.field-0-test c.put_questions.ensures.listed

pub returns-in-Ok-false-clause-wide : goal.returns-in-Ok-false-clause-wide
returns-in-Ok-false-clause-wide g t c =
    let first : Question → List Group = λ question. for_each (group_by question (g.G.GainTeller.told c.args.subject.now.gains.now) (schema_of c.args.subject.now.tables.now) (effect_of c.args.subject.now.e.now)) 0
    (schema_of c.args.subject.now.tables.now) in
    let all : List Question → List Group = λ questions. flat_map first questions in
    later_stop_arm c.args.subject.now.place first all all (λ question questions. refl) c.args.questions.now _ c.in-len1-up.len_at_least (first_at c.args.questions.now _ c.in-len1-up.len_at_least)
    c.put_questions.result (map atom_of c.args.atoms.now) (map atom_of c.put_tables.new.atoms) c.in-Ok-false.field-0 c.in-Ok-false.ensures.listed c.in-Ok-false.field-0-test
    c.put_questions.ensures.wide
