use Rattle.std.proofs.Common.{rules, ◌≡◌, ◌≤◌, false, List, length, slice_index_or, map, subst, IfOk}
use Rattle.std.specs.List.{flat_map, list_any}
use Rattle.sv_linear.specs.Atoms.{Asked, is_never}
use Rattle.sv_linear.specs.Codes.{atom_of, effect_of}
use Rattle.sv_linear.specs.Tests.{Test}
use Rattle.sv_threat.specs.declared.moves.Case.{Case}
use Rattle.sv_threat.specs.declared.moves.Case.TheVariants.{BothLose}
use Rattle.sv_wp.specs.Cases.{asked_in}
use Rattle.sv_wp.specs.Listing.{tests_from, ListsAsked}
use Rattle.sv_wp.proofs.ArmLaws.{first_at, later, ended_case, going_case, stop_case, later_stop_case, behind_held, none_behind, still_within}
use Rattle.sv_wp.proofs.listing.+put_cases.Goals as goal

pub put_cases-requires : goal.put_cases-requires
put_cases-requires g t c =
    let asked : Case → List Asked = asked_in (g.G.GainTeller.told c.args.subject.now.gains.now c.args.subject.now.e.now.table) (effect_of c.args.subject.now.e.now) c.args.check.now in
    let held : List Test = tests_from c.args.start c.args.atoms.now in
    let here : List Asked = asked (slice_index_or c.args.cases.now 0 BothLose) in
    let within : c.args.start ≤ length c.put_case.new.atoms = still_within c.args.start c.args.atoms.now c.put_case.new.atoms _ c.requires.within c.in-Ok-false.ensures.listed.listed in
    let going : list_any is_never (tests_from c.args.start c.put_case.new.atoms) ≡ false =
    none_behind c.args.subject.now.place c.args.reason c.args.start c.args.atoms.now c.put_case.new.atoms here c.requires.within c.requires.going
    (subst (λ b. ListsAsked c.args.subject.now.place c.args.reason held here (map atom_of c.args.atoms.now) (map atom_of c.put_case.new.atoms) b) c.in-Ok-false.field-0-test c.in-Ok-false.ensures.listed) in
    search rules

pub returns-in-Err-clause-wide : goal.returns-in-Err-clause-wide
returns-in-Err-clause-wide g t c =
    let asked : Case → List Asked = asked_in (g.G.GainTeller.told c.args.subject.now.gains.now c.args.subject.now.e.now.table) (effect_of c.args.subject.now.e.now) c.args.check.now in
    let held : List Test = tests_from c.args.start c.args.atoms.now in
    stop_case c.args.subject.now.place c.args.reason asked held c.requires.going c.args.cases.now _ c.in-len1-up.len_at_least (first_at c.args.cases.now _ c.in-len1-up.len_at_least)
    c.in-Err.stop c.in-Err.ensures.wide

pub returns-in-Ok-true-clause-listed : goal.returns-in-Ok-true-clause-listed
returns-in-Ok-true-clause-listed g t c =
    let asked : Case → List Asked = asked_in (g.G.GainTeller.told c.args.subject.now.gains.now c.args.subject.now.e.now.table) (effect_of c.args.subject.now.e.now) c.args.check.now in
    let held : List Test = tests_from c.args.start c.args.atoms.now in
    ended_case c.args.subject.now.place c.args.reason asked held c.requires.going c.args.cases.now _ c.in-len1-up.len_at_least (first_at c.args.cases.now _ c.in-len1-up.len_at_least)
    (map atom_of c.args.atoms.now) (map atom_of c.put_case.new.atoms) c.in-Ok-true.field-0 c.in-Ok-true.ensures.listed c.in-Ok-true.field-0-test

pub returns-in-Ok-false-clause-listed : goal.returns-in-Ok-false-clause-listed
returns-in-Ok-false-clause-listed g t c =
    let asked : Case → List Asked = asked_in (g.G.GainTeller.told c.args.subject.now.gains.now c.args.subject.now.e.now.table) (effect_of c.args.subject.now.e.now) c.args.check.now in
    let held : List Test = tests_from c.args.start c.args.atoms.now in
    let here : List Asked = asked (slice_index_or c.args.cases.now 0 BothLose) in
    going_case c.args.subject.now.place c.args.reason asked held c.requires.going c.args.cases.now _ c.in-len1-up.len_at_least (first_at c.args.cases.now _ c.in-len1-up.len_at_least)
    c.put_cases.result (map atom_of c.args.atoms.now) (map atom_of c.put_case.new.atoms) (map atom_of c.put_cases.new.atoms) c.in-Ok-false.field-0 c.in-Ok-false.ensures.listed c.in-Ok-false.field-0-test
    (subst (λ tests. IfOk c.put_cases.result (λ ended. ListsAsked c.args.subject.now.place c.args.reason tests (flat_map asked (later c.args.cases.now)) (map atom_of c.put_case.new.atoms)
    (map atom_of c.put_cases.new.atoms) ended))
    (behind_held c.args.subject.now.place c.args.reason c.args.start c.args.atoms.now c.put_case.new.atoms here c.requires.within c.requires.going
    (subst (λ b. ListsAsked c.args.subject.now.place c.args.reason held here (map atom_of c.args.atoms.now) (map atom_of c.put_case.new.atoms) b) c.in-Ok-false.field-0-test c.in-Ok-false.ensures.listed))
    c.put_cases.ensures.listed)

pub returns-in-Ok-false-clause-wide : goal.returns-in-Ok-false-clause-wide
returns-in-Ok-false-clause-wide g t c =
    let asked : Case → List Asked = asked_in (g.G.GainTeller.told c.args.subject.now.gains.now c.args.subject.now.e.now.table) (effect_of c.args.subject.now.e.now) c.args.check.now in
    let held : List Test = tests_from c.args.start c.args.atoms.now in
    later_stop_case c.args.subject.now.place c.args.reason asked held c.requires.going c.args.cases.now _ c.in-len1-up.len_at_least (first_at c.args.cases.now _ c.in-len1-up.len_at_least)
    c.put_cases.result (map atom_of c.args.atoms.now) (map atom_of c.put_case.new.atoms) c.in-Ok-false.field-0 c.in-Ok-false.ensures.listed c.in-Ok-false.field-0-test c.put_cases.ensures.wide
