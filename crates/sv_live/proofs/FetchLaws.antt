-- What a turn fetched, said of the history that the pass has seen then.
use Rattle.std.proofs.Common.{◌≡◌, ℕ, subst}
use Rattle.sv_effect.specs.declared.reads.Ask.{Ask}
use Rattle.sv_effect.specs.BareTables.{bare}
use Rattle.sv_core.specs.declared.docs.Doc.{Doc}
use Rattle.sv_core.specs.Document.{document_of}
use Rattle.sv_core.specs.History.{History, tables_at}
use Rattle.sv_core.specs.Mediums.{MediumView, doc_of}
use Rattle.sv_core.specs.Sheets.{IsFetch, SheetView}
use Rattle.sv_live.specs.Fetches.{IsFetched}

pub fetched_there : (m : MediumView) (doc : Doc) (h : History) (site count : ℕ) (ask : Ask) (before after : SheetView) → m.doc ≡ doc → m.history ≡ h
    → IsFetch (bare (tables_at (doc_of m) m.history site)) ask before count after → IsFetched (bare (tables_at (document_of doc) h site)) ask before after
fetched_there m doc h site count ask before after named past is = record {
  count = count;
  is = subst (λ d. IsFetch (bare (tables_at (document_of d) h site)) ask before count after) named (subst (λ l. IsFetch (bare (tables_at (doc_of m) l site)) ask before count after) past is);
}
