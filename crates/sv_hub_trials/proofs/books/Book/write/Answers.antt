use Rattle.std.proofs.Common.{List, [], ◌∷◌, ◌++◌, ap, ◌∙◌}
use Rattle.std.specs.Prelude.{reverse}
use Rattle.std.proofs.lemmas.List.{reverse-append}
use Rattle.sv_hub_trials.specs.declared.books.Line.{Line}
use Rattle.sv_hub_trials.proofs.books.Book.write.Goals as goal

pub returns-clause-grows : goal.returns-clause-grows
returns-clause-grows c =
    let line = c.args.line in
    let lines = c.self.inside.lines.items in
    let pushed = c.push_reserved.ensures.items ∙ ap (λ (l : List Line). l ++ line ∷ []) c.reserve.ensures.items in
    record { more = line ∷ []; is = ap reverse pushed ∙ reverse-append lines (line ∷ []) ∙ ap (λ (l : List Line). line ∷ l) (ap (λ b. b.lines) c.self.view_is) }
