use Rattle.std.proofs.Common.{◌≡◌, ◌+◌, ◌-◌, [], ◌∷◌, ◌++◌, suc, List, None, refl, sym, ap, subst, ◌∙◌, arith}
use Rattle.sv_core.specs.declared.sessions.Session.{Session}
use Rattle.sv_core.specs.Document.{document_of}
use Rattle.sv_core.specs.History.{home}
use Rattle.sv_core.specs.MediumState.{AreFreshSessions}
use Rattle.sv_core.proofs.SessionLaws.{new_more, new_state}
use Rattle.sv_core.proofs.sessions.fresh_sessions.Goals as goal

pub loop-number-preserved : goal.loop-number-preserved
loop-number-preserved c =
    let doc = document_of c.args.doc.now in
    let number = c.loop-number.number in
    let state : Session = record { answered = 0; moved = 0; site = c.home.result; seen = c.empty.result; proposal = None } in
    let at : number ≡ suc (number - 1) = omega (arith, c.loop-number.auto.number) in
    let same : number - 1 + 1 ≡ number + 1 - 1 = omega (arith, c.loop-number.auto.number) in
    subst (λ xs. AreFreshSessions doc (number + 1 - 1) xs) (sym {A = List Session} c.in_ok-push.ensures.items)
    (subst (λ n. AreFreshSessions doc n (c.loop-number.sessions.items ++ state ∷ [])) same
    (new_more doc (number - 1) c.loop-number.sessions.items state c.loop-number.invariant
    (new_state doc (suc (number - 1)) state refl refl (c.home.ensures ∙ ap (home doc) at) c.empty.ensures refl) refl))
