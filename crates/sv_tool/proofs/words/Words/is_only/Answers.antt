use Rattle.std.proofs.Common.{◌≡◌, [], ◌∷◌, List, ℕ, sym, ap, ◌∙◌, Vec, Global}
use Rattle.std.specs.Prelude.{map}
use Rattle.sv_tool.proofs.WordLaws.{only_one}
use Rattle.sv_tool.proofs.words.Words.is_only.Goals as goal

pub returns-in-len1 : goal.returns-in-len1
returns-in-len1 c =
    let bytes_of : Vec ℕ Global → List ℕ = λ word. word.items in
    let one : map bytes_of c.as_slice.result.now ≡ c.only-item.result.items ∷ [] =
    only_one bytes_of c.as_slice.result.now c.only-item.result c.in-len1.len_at_least c.in-len1.len_below c.only-item.is in
    let words : c.args.self.now ≡ c.deref.result.now ∷ [] =
    sym c.self.view_is ∙ ap (map bytes_of) (sym c.as_slice.ensures.value) ∙ one ∙ ap (λ w. w ∷ []) (sym c.deref.ensures.value) in
    (λ t. words ∙ ap (λ w. w ∷ []) (c.is_word.ensures.0 t), λ e. c.is_word.ensures.1 cc)
