-- The parts of a statement, as what the statement says.
use Rattle.std.specs.Option.{option_map}
use Rattle.sv_app.specs.declared.parts.Parts.{Parts}
use Rattle.sv_app.specs.declared.parts.Parts.TheVariants as parts
use Rattle.sv_app.specs.Trees.{Command, Declare, Assign, Fetch, Choose, ForRows, ForEach, Insert, Fresh, Update, Remove, Abort, Reply, term_of, test_of, terms_of, sets_of, block_of}

abbrev pub command_of_parts : Parts → Command
command_of_parts (parts.Let x e) = Declare x (term_of e.now)
command_of_parts (parts.Assign x e) = Assign x (term_of e.now)
command_of_parts (parts.Get r t k) = Fetch r t (terms_of k.now)
command_of_parts (parts.If c ys ns) = Choose (test_of c.now) (block_of ys.now) (block_of ns.now)
command_of_parts (parts.Rows r t c body) = ForRows r t (option_map test_of c.now) (block_of body.now)
command_of_parts (parts.Each x l body) = ForEach x l (block_of body.now)
command_of_parts (parts.Insert t vs) = Insert t (terms_of vs.now)
command_of_parts (parts.Fresh x t vs) = Fresh x t (terms_of vs.now)
command_of_parts (parts.Update t k ss) = Update t (terms_of k.now) (sets_of ss.now)
command_of_parts (parts.Remove t k) = Remove t (terms_of k.now)
command_of_parts (parts.Abort n) = Abort n
command_of_parts (parts.Reply e) = Reply (term_of e.now)
