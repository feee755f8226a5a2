use Rattle.std.proofs.Common.{rules, ◌≡◌, ◌≤◌, ◌∷◌, [], false, length}
use Rattle.sv_app.specs.Trees.{block_of}
use Rattle.sv_paths.specs.Listing.{without_choice, block_paths}
use Rattle.sv_paths.proofs.OrderLaws.{all_of, fits_limit}
use Rattle.sv_paths.proofs.listing.paths.Goals as goal

pub returns-in-Some-clause-all : goal.returns-in-Some-clause-all
returns-in-Some-clause-all c =
    let listed : c.in-Some.paths.items ≡ block_paths (block_of c.args.unit.now.body.now) (without_choice false ∷ []) = search rules in
    all_of (block_of c.args.unit.now.body.now) c.in-Some.paths.items listed

pub returns-in-Some-clause-fits : goal.returns-in-Some-clause-fits
returns-in-Some-clause-fits c =
    let listed : c.in-Some.paths.items ≡ block_paths (block_of c.args.unit.now.body.now) (without_choice false ∷ []) = search rules in
    let few : length c.in-Some.paths.items ≤ 1024 = search rules in
    fits_limit (block_of c.args.unit.now.body.now) c.in-Some.paths.items (all_of (block_of c.args.unit.now.body.now) c.in-Some.paths.items listed) few
