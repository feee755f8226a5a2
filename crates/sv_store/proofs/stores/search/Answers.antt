use Rattle.std.proofs.Common.{rules}
use Rattle.std.proofs.lemmas.List.Sorted.{answers_always}
use Rattle.sv_store.proofs.RowLaws.{searched}
use Rattle.sv_store.proofs.stores.search.Goals as goal

-- the closure gives a row's place
pub returns : goal.returns
returns c =
    let facts = c.binary_search_by_key.ensures in
    let by_place = facts.position (λ row. row.place) (answers_always _ _ _ (λ f a r g called. search rules)) in
    searched _ c.requires c.args.place.now _ facts.bound by_place
