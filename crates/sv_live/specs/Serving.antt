-- What is served.
use Rattle.std.specs.Prelude.{◌≡◌}
use Rattle.std.specs.Fn.{FnReturnsAt}
use denote.Ref.{Bor}
use denote.Param.Members.{Shared}
use Rattle.sv_core.specs.declared.docs.Doc.{Doc}
use Rattle.sv_core.specs.Document.{document_of}
use Rattle.sv_core.specs.Legal.{Legal, Completed}
use Rattle.sv_core.specs.Mediums.{WorldView}

-- a world of the document with a legal history, in which all items of all sessions are done and every site has all that is published
pub record IsServed (doc : Doc) (w : WorldView) : Type 0 where
  pub same_doc : w.medium.doc ≡ doc
  pub legal : Legal (document_of doc) w.medium.history
  pub completed : Completed (document_of doc) w.medium.history

-- each such world may be told of
abbrev pub MayTell : {F R : Type 0} → Shared F (Bor WorldView × Unit {0}) R → F → Doc → Type 0
MayTell g f doc = (w : Bor WorldView) → IsServed doc w.now → g.pre f (w, tt)

-- this is told of such a world
pub record IsTold {F R : Type 0} (g : Shared F (Bor WorldView × Unit {0}) R) (f : F) (doc : Doc) (told : R) : Type 0 where
  pub world : WorldView
  pub served : IsServed doc world
  pub is : FnReturnsAt g f world told
