-- What is known before an entry: the document, the history so far, and the lists that it published.
use Rattle.std.specs.Prelude.{map, reverse}
use Rattle.sv_listing.specs.Right.{Right}
use Rattle.sv_core.specs.Document.{Document, document_of}
use Rattle.sv_core.specs.History.{History}
use Rattle.sv_legal.specs.declared.befores.Before.{Before}
use Rattle.sv_legal.specs.Told.{Told}

abbrev pub doc_of : Before → Document
doc_of b = document_of b.doc.now

-- the newest entry first
abbrev pub past_of : Before → History
past_of b = reverse b.history.now

abbrev pub IsTold : Before → Type 0
IsTold b = Told (doc_of b) (past_of b) (map (λ ops. ops.items) b.published.now)

-- the dictionary is right for the document
abbrev pub IsRuled : Before → Type 0
IsRuled b = Right (doc_of b).schema (doc_of b).txns b.doc.now.dict
