-- How much a document may hold, and a run may make.
use Rattle.std.specs.Prelude.{ℕ}

-- tables of a document; columns and invariants of a table; texts in the list of an invariant
abbrev pub most_tables : ℕ
most_tables = 16

abbrev pub most_columns : ℕ
most_columns = 16

abbrev pub most_invariants : ℕ
most_invariants = 16

abbrev pub most_texts : ℕ
most_texts = 16

-- transactions of a document; parameters, statements, loops and variables of a transaction
abbrev pub most_txns : ℕ
most_txns = 32

abbrev pub most_params : ℕ
most_params = 16

abbrev pub most_statements : ℕ
most_statements = 128

abbrev pub most_loops : ℕ
most_loops = 15

abbrev pub most_variables : ℕ
most_variables = 32

-- how deep blocks stand in each other, and how deep expressions and conditions are
abbrev pub most_blocks : ℕ
most_blocks = 8

abbrev pub most_depth : ℕ
most_depth = 16

-- the greatest number of an abort
abbrev pub most_code : ℕ
most_code = 999

-- initial rows; steps of a replay; requests of a document; steps that show rows; sessions; numbers of a list argument
abbrev pub most_init_rows : ℕ
most_init_rows = 4096

abbrev pub most_steps : ℕ
most_steps = 65536

abbrev pub most_requests : ℕ
most_requests = 8192

abbrev pub most_shows : ℕ
most_shows = 64

abbrev pub most_sessions : ℕ
most_sessions = 64

abbrev pub most_elements : ℕ
most_elements = 64

-- changes of a run, and values of a reply
abbrev pub most_effects : ℕ
most_effects = 64

abbrev pub most_replies : ℕ
most_replies = 16
