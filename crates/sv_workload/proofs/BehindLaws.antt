-- What stands behind the head and the settings of a last part, and what is refused there.
use Rattle.std.proofs.Common.{◌≡◌, ◌∙◌, ℕ, false, List, [], ◌++◌, Option, Some, None, Ok, refl, sym, ap, subst, append_assoc}
use Rattle.sv_lex.specs.declared.tokens.Token.{Token}
use Rattle.sv_app.specs.declared.refusals.Code.{Code}
use Rattle.sv_app.specs.declared.refusals.Code.TheVariants.{Syntax}
use Rattle.sv_app.specs.Schema.{Declaration}
use Rattle.sv_app.specs.Trees.{Transaction}
use Rattle.sv_reader.specs.Grammar.{◌·◌}
use Rattle.sv_workload.specs.declared.written.Given.{Given}
use Rattle.sv_workload.specs.declared.written.PartHead.{PartHead}
use Rattle.sv_workload.specs.declared.written.PartHead.TheVariants.{Replay as ReplayHead, Run as RunHead}
use Rattle.sv_workload.specs.declared.written.Setting.{Setting}
use Rattle.sv_workload.specs.declared.written.Setting.TheVariants.{Sites}
use Rattle.sv_workload.specs.Elements.{Refusals, Among, AreNone}
use Rattle.sv_workload.specs.Grammar.{many, setting, line, session}
use Rattle.sv_workload.specs.LastRefused.{BeginsSetting, part_head, LineRefused, SessionRefused, LastRefused, NoPart, InSettings, NoSites, InLines, InSessions}
use Rattle.sv_workload.specs.LastRefused as last
use Rattle.sv_workload.specs.Reading.{front_from, begins_setting}
use Rattle.sv_workload.specs.Stops.{sites_in}
use Rattle.sv_workload.proofs.FrontLaws.{FrontIs, FrontRefused, front_judged, setting_none}
use Rattle.sv_workload.proofs.InitLaws.{contra}
use Rattle.sv_workload.proofs.JudgeLaws.{InFirst, InSecond}
use Rattle.sv_workload.proofs.LastLaws.{Through, through, sited, siteless}
use Rattle.sv_workload.proofs.MarkLaws.{Misplaced}
use Rattle.sv_workload.proofs.SettingLaws.{state, set_begins}

module _ (schema : List Declaration) (txns : List Transaction) (count : ℕ) (tokens : List Token) where
  -- the head and the settings at the front of the tokens
  pub record Opened (head : PartHead) (g : Given) (rest : List Token) : Type 0 where
    pub settings : List (Setting × ℕ)
    pub front : List Token
    pub whole : tokens ≡ front ++ rest
    pub is : (part_head head · many setting settings) front
    pub ends : begins_setting rest ≡ false
    pub made : g ≡ state settings

  pub opened : (head : PartHead) (g : Given) (rest : List Token) → front_from count tokens ≡ Ok ((head, g), rest) → Opened head g rest
  opened head g rest e = by_took ((front_judged count tokens).took (head, g) rest e)
    where
      by_took : FrontIs count tokens (head, g) rest → Opened head g rest
      by_took took =
          let set = took.second.first in
          let site = took.second.second in
          let heads : took.head ≡ head = sym (ap (λ (p : PartHead × Given). p.0) site.made) in
          let rests : took.second.middle ≡ rest = sym site.rests in
          record {
            settings = set.items;
            front = took.first.front ++ set.front;
            whole = took.first.whole ∙ ap (λ l. took.first.front ++ l) (set.whole ∙ ap (λ l. set.front ++ l) rests) ∙ sym (append_assoc took.first.front set.front rest);
            is = record { front = took.first.front; back = set.front; whole = refl; first = subst (λ h. part_head h took.first.front) heads took.first.is; then = set.are };
            ends = subst (λ l. begins_setting l ≡ false) rests set.ends;
            made = ap (λ (p : PartHead × Given). p.1) site.made ∙ set.made;
          }

  -- the same front
  pub record Same (head other : PartHead) (g : Given) (settings : List (Setting × ℕ)) (rest behind : List Token) : Type 0 where
    pub heads : head ≡ other
    pub givens : g ≡ state settings
    pub rests : rest ≡ behind

  module _ (head : PartHead) (g : Given) (rest : List Token) (read : front_from count tokens ≡ Ok ((head, g), rest)) where
    right : AreNone (FrontRefused count tokens)
    right = (front_judged count tokens).right (head, g) rest read

    -- one front at most stands there
    pub only : (other : PartHead) (settings : List (Setting × ℕ)) (front behind : List Token) → tokens ≡ front ++ behind → (part_head other · many setting settings) front → begins_setting behind ≡ false
        → Same head other g settings rest behind
    only other settings front behind w is ends = by_sites (last.given Sites settings) refl
      where
        t : Through schema txns count tokens other settings behind
        t = through schema txns count tokens other settings front behind w is ends

        by_sites : (n : Option ℕ) → last.given Sites settings ≡ n → Same head other g settings rest behind
        by_sites None e = absurd (right Syntax behind (siteless schema txns count tokens other settings behind t e))
        by_sites (Some n) e =
            let same = (front_judged count tokens).unique (head, g) (other, state settings) rest behind ((front_judged count tokens).took (head, g) rest read) (sited schema txns count tokens other settings behind n t e) in
            record { heads = ap (λ (p : PartHead × Given). p.0) same.items; givens = ap (λ (p : PartHead × Given). p.1) same.items; rests = same.rests }

  -- what is refused behind the settings
  abbrev pub BehindRefused : PartHead → ℕ → List Token → Refusals
  BehindRefused ReplayHead sites rest = Among line (LineRefused schema txns sites) [] rest
  BehindRefused RunHead sites rest = Among session (SessionRefused txns) [] rest

  -- where the front is read, this is all that is refused

  pub behind_in : (head : PartHead) (g : Given) (rest : List Token) → front_from count tokens ≡ Ok ((head, g), rest)
      → (code : Code) (here : List Token) → BehindRefused head (sites_in g) rest code here → LastRefused schema txns count tokens code here
  behind_in ReplayHead g rest read code here among = let o = opened ReplayHead g rest read in
      InLines o.settings o.front rest code here o.whole o.is (λ begins. contra (set_begins begins.which rest begins.is) o.ends)
      (subst (λ n. Among line (LineRefused schema txns n) [] rest code here) (ap sites_in o.made) among)
  behind_in RunHead g rest read code here among = let o = opened RunHead g rest read in
      InSessions o.settings o.front rest code here o.whole o.is (λ begins. contra (set_begins begins.which rest begins.is) o.ends) among

  pub behind_out : (head : PartHead) (g : Given) (rest : List Token) → front_from count tokens ≡ Ok ((head, g), rest)
      → (code : Code) (here : List Token) → LastRefused schema txns count tokens code here → BehindRefused head (sites_in g) rest code here
  behind_out head g rest read code here refused = by_case code here refused
    where
      wrong : AreNone (FrontRefused count tokens)
      wrong = (front_judged count tokens).right (head, g) rest read

      by_case : (code : Code) (here : List Token) → LastRefused schema txns count tokens code here → BehindRefused head (sites_in g) rest code here
      by_case _ _ (NoPart there some is) = absurd (wrong Syntax there (InFirst (Misplaced refl is)))
      by_case _ _ (InSettings h front behind code there w is among) = absurd (wrong code there (InSecond h behind (record { front = front; whole = w; is = is }) (InFirst among)))
      by_case _ _ (NoSites h settings front there w is ends none) =
          absurd (wrong Syntax there (siteless schema txns count tokens h settings there (through schema txns count tokens h settings front there w is (setting_none count tokens there ends)) none))
      by_case _ _ (InLines settings front behind code there w is ends among) =
          let s = only head g rest read ReplayHead settings front behind w is (setting_none count tokens behind ends) in
          subst (λ h. BehindRefused h (sites_in g) rest code there) (sym s.heads) (subst (λ l. Among line (LineRefused schema txns (sites_in g)) [] l code there) (sym s.rests)
          (subst (λ n. Among line (LineRefused schema txns n) [] behind code there) (sym (ap sites_in s.givens)) among))
      by_case _ _ (InSessions settings front behind code there w is ends among) =
          let s = only head g rest read RunHead settings front behind w is (setting_none count tokens behind ends) in
          subst (λ h. BehindRefused h (sites_in g) rest code there) (sym s.heads) (subst (λ l. Among session (SessionRefused txns) [] l code there) (sym s.rests) among)
