-- How many tables, transactions and invariants were accepted, as the code counts them.
use Rattle.sv_tool.specs.declared.texts.Accepted.{Accepted}
use Rattle.sv_tool.specs.CheckText.{Sizes}

abbrev pub sizes_said : Accepted → Sizes
sizes_said accepted = record { tables = accepted.tables; txns = accepted.txns; invariants = accepted.invariants }
