-- A cut prints as its counts do.
use Rattle.std.proofs.Common.{◌≡◌, ℕ, ◌≤◌, List, ◌++◌, refl, sym, subst}
use Rattle.sv_value.specs.declared.cuts.Cut.{Cut}
use Rattle.sv_value.specs.Cuts.{counts}
use Rattle.sv_core.specs.declared.docs.Doc.{Doc}
use Rattle.sv_core.specs.Document.{document_of}
use Rattle.sv_core.specs.History.{History, cut_of}
use Rattle.sv_core.specs.Laws.{IsLawful}
use Rattle.sv_core.specs.Mediums.{WorldView, doc_of}
use Rattle.sv_report.specs.Lines.{cut_line}
use Rattle.sv_report.specs.Steps.{Stepped}
use Rattle.sv_workload.specs.declared.parts.Step.TheVariants as steps

pub cuts_step : (before now : List ℕ) (w : WorldView) (site sites : ℕ) (cut : Cut) → sites ≡ (doc_of w.medium).sites → ((o : ℕ) → counts cut o ≡ cut_of w.medium.history site o)
    → now ≡ before ++ cut_line sites (counts cut) → Stepped before w (steps.ShowCut site) now w
cuts_step before now w site sites cut many same grown = record {
  line = cut_line sites (counts cut);
  is = (λ i. cut_line (many i) (λ o. same o i), refl);
  grown = grown;
}

pub some_sites : (doc : Doc) (h : History) (sites : ℕ) → IsLawful (document_of doc) h → sites ≡ doc.sites → 1 ≤ sites
some_sites doc h sites lawful is = subst (λ n. 1 ≤ n) (sym is) lawful.sound.some

pub few_sites : (doc : Doc) (h : History) (sites : ℕ) → IsLawful (document_of doc) h → sites ≡ doc.sites → sites ≤ 8
few_sites doc h sites lawful is = subst (λ n. n ≤ 8) (sym is) lawful.sound.sites

pub ruleset cutting = (cuts_step, some_sites, few_sites)
