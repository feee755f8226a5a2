-- The head of a last part and its settings are judged.
use Rattle.std.proofs.Common.{◌≡◌, ◌≢◌, ◌∙◌, ℕ, ◌≤◌, inr, Bool, true, false, if◌then◌else◌, bytes_eq, List, [], ◌++◌, length, Option, Some, None, refl, sym, ap, subst, append_assoc, arith, codes}
use Rattle.std.proofs.lemmas.Slice.Eq.{bytes_eq-Decides}
use Rattle.sv_lex.specs.declared.marks.Mark.TheVariants.{Percents}
use Rattle.sv_lex.specs.declared.tokens.Token.{Token}
use Rattle.sv_lex.specs.declared.tokens.TokenKind.{TokenKind}
use Rattle.sv_lex.specs.declared.tokens.TokenKind.TheVariants.{Name, Number, Text, Mark}
use Rattle.sv_app.specs.declared.refusals.Code.{Code}
use Rattle.sv_app.specs.declared.refusals.Code.TheVariants.{Syntax}
use Rattle.sv_app.specs.Codes.{number_of}
use Rattle.sv_app.specs.Schema.{Declaration}
use Rattle.sv_app.specs.Trees.{Transaction}
use Rattle.sv_reader.specs.Grammar.{◌·◌, kind, word}
use Rattle.sv_reader.specs.Reading.{◌>>=◌, by_word, token_at}
use Rattle.sv_reader.proofs.KindLaws.{token_of}
use Rattle.sv_reader.proofs.MadeLaws.{take_last, skip_plain}
use Rattle.sv_reader.proofs.AnswerLaws.{anything, same_read}
use Rattle.sv_reader.proofs.ReadLaws.{Plain, leaf, same_plain}
use Rattle.sv_workload.specs.declared.written.Given.{Given}
use Rattle.sv_workload.specs.declared.written.PartHead.{PartHead}
use Rattle.sv_workload.specs.declared.written.PartHead.TheVariants.{Replay as ReplayHead, Run as RunHead}
use Rattle.sv_workload.specs.Elements.{Refusals, Among}
use Rattle.sv_workload.specs.Grammar.{setting}
use Rattle.sv_workload.specs.LastRefused.{BeginsSetting, SettingRefused, part_head, LastRefused, NoPart, InSettings, NoSites}
use Rattle.sv_workload.specs.Reading.{part_named, part_of, head_at, unset, with_sites, front_from, settings_from, begins_setting}
use Rattle.sv_workload.proofs.JudgeLaws as judge
use Rattle.sv_workload.proofs.JudgeLaws.{Judged, Found, Alike, judged_map, judged_then, Either, InFirst, InSecond}
use Rattle.sv_workload.proofs.LoopLaws.{Element, Elements, judged_loop}
use Rattle.sv_workload.proofs.MarkLaws.{no_marks, Standing, Mark as OfMark, Misplaced, judged_marked}
use Rattle.sv_workload.proofs.SettingLaws.{state, begins_set, set_begins, setting_steps}
use Rattle.sv_workload.proofs.InitLaws.{contra}
use Rattle.sv_reader.proofs.MatterLaws.{bare}

-- the heads by their words

abbrev head_word : PartHead → List ℕ
head_word ReplayHead = codes "replay"
head_word RunHead = codes "run"

head_back : (bytes : List ℕ) (head : PartHead) → part_named bytes ≡ Some head → bytes ≡ head_word head
head_back bytes head e = by_replay (bytes_eq bytes (codes "replay")) refl e
  where
    by_run : (b : Bool) → bytes_eq bytes (codes "run") ≡ b → (if b then Some RunHead else None) ≡ Some head → bytes ≡ head_word head
    by_run true t e = let same : RunHead ≡ head = cc in (bytes_eq-Decides bytes (codes "run")).0 t ∙ ap head_word same
    by_run false t e = absurd cc

    by_replay : (b : Bool) → bytes_eq bytes (codes "replay") ≡ b → (if b then Some ReplayHead else if bytes_eq bytes (codes "run") then Some RunHead else None) ≡ Some head → bytes ≡ head_word head
    by_replay true t e = let same : ReplayHead ≡ head = cc in (bytes_eq-Decides bytes (codes "replay")).0 t ∙ ap head_word same
    by_replay false t e = by_run (bytes_eq bytes (codes "run")) refl e

head_there : (head : PartHead) → part_named (head_word head) ≡ Some head
head_there ReplayHead = refl
head_there RunHead = refl

heads : (k : TokenKind) (head : PartHead) → by_word part_named k ≡ Some head → k ≡ Name (head_word head)
heads (Name bytes) head e = ap Name (head_back bytes head e)
heads (Number n) head e = absurd cc
heads (Text bytes) head e = absurd cc
heads (Mark m) head e = absurd cc

head_leaf : Plain bare anything (λ head. word (head_word head)) (token_at part_of)
head_leaf = same_plain (leaf bare anything part_of (token_of (Name (codes "run"))) RunHead refl)
    (λ head l m. record { token = m.token; only = m.only; holds = heads m.token.kind head m.holds })
    (λ head l w. record { token = w.token; only = w.only; holds = ap (by_word part_named) w.holds ∙ head_there head })

head_written : (head : PartHead) (l : List Token) → (kind (Mark Percents) · word (head_word head)) l → part_head head l
head_written ReplayHead l is = is
head_written RunHead l is = is

written_head : (head : PartHead) (l : List Token) → part_head head l → (kind (Mark Percents) · word (head_word head)) l
written_head ReplayHead l is = is
written_head RunHead l is = is

pub head_law : Plain bare anything part_head head_at
unfolding head_at
head_law = same_plain (skip_plain (Mark Percents) (λ head. head) (take_last (λ head. head) head_leaf))
    (λ head l m. subst (λ x. part_head x l) (sym m.made) (head_written m.«from» l m.is)) (λ head l is. record { «from» = head; is = written_head head l is; made = refl })

-- the sites are set

pub record Sited (head : PartHead) (g : Given) (rest : List Token) (found : PartHead × Given) (behind : List Token) : Type 0 where
  pub sites : ℕ
  pub is : g.sites ≡ Some sites
  pub made : found ≡ (head, g)
  pub rests : behind ≡ rest

pub record Siteless (g : Given) (rest : List Token) (code : Code) (here : List Token) : Type 0 where
  pub none : g.sites ≡ None
  pub syntax : code ≡ Syntax
  pub place : here ≡ rest

sites_judged : (head : PartHead) (g : Given) (rest : List Token) → Judged (Sited head g rest) (Siteless g rest) rest (with_sites head g g.sites rest)
sites_judged head g rest = by_sites g.sites refl
  where
    unique : (a b : PartHead × Given) (r s : List Token) → Sited head g rest a r → Sited head g rest b s → Alike a b r s
    unique a b r s is was = record { items = is.made ∙ sym was.made; rests = is.rests ∙ sym was.rests }

    within : (code : Code) (here : List Token) → Siteless g rest code here → length here ≤ length rest
    within code here is = omega (arith, ap length is.place)

    shorter : (a : PartHead × Given) (behind : List Token) → Sited head g rest a behind → length behind ≤ length rest
    shorter a behind is = omega (arith, ap length is.rests)

    by_sites : (n : Option ℕ) → g.sites ≡ n → Judged (Sited head g rest) (Siteless g rest) rest (with_sites head g n rest)
    by_sites None e = record {
      took = λ a r t. absurd cc;
      right = λ a r t. absurd cc;
      wrong = λ fault t. let same : record { code = Syntax; left = length rest } ≡ fault = cc in subst (λ f. Found (Sited head g rest) (Siteless g rest) f) same (record {
        here = rest;
        first = record {
          is = record { none = e; syntax = refl; place = refl };
          first = λ code there is. inr (ap length is.place, subst (λ c. 1 ≤ number_of c) (sym is.syntax) (omega arith));
        };
        place = refl;
        inside = λ a behind is. let bad : None ≡ Some is.sites = sym e ∙ is.is in absurd cc;
      });
      unique = unique;
      within = within;
      shorter = shorter;
    }
    by_sites (Some n) e = record {
      took = λ a r t. let same = same_read t in record { sites = n; is = e; made = sym same.item; rests = sym same.rests };
      right = λ a r t code here is. let bad : Some n ≡ None = sym e ∙ is.none in absurd cc;
      wrong = λ fault t. absurd cc;
      unique = unique;
      within = within;
      shorter = shorter;
    }

module _ (count : ℕ) (tokens : List Token) where
  abbrev pub HeadIs : PartHead → List Token → Type 0
  HeadIs = Element part_head tokens

  abbrev pub Set : List Token → Given → List Token → Type 0
  Set middle = Elements begins_setting state setting [] middle

  abbrev pub FrontIs : PartHead × Given → List Token → Type 0
  FrontIs = judge.Both HeadIs (λ head middle. judge.Both (Set middle) (λ g rest. Sited head g rest))

  abbrev pub FrontRefused : Refusals
  FrontRefused = Either HeadIs (Standing head_law tokens (λ code here. ⊥)) (λ head middle. Either (Set middle) (Among setting (SettingRefused count) [] middle) (λ g rest. Siteless g rest))

  pub front_judged : Judged FrontIs FrontRefused tokens (front_from count tokens)
  unfolding front_from
  front_judged = judged_then (λ head r1. settings_from count unset r1 >>= λ g r2. with_sites head g g.sites r2)
      (judged_marked head_law tokens (λ code here. ⊥) None (no_marks part_head tokens))
      (λ head middle is. judged_then (λ g r2. with_sites head g g.sites r2) (judged_loop (setting_steps count) [] middle) (λ g rest was. sites_judged head g rest))

  pub no_setting : (rest : List Token) → begins_setting rest ≡ false → BeginsSetting rest → ⊥
  no_setting rest t is = contra (set_begins is.which rest is.is) t

  pub setting_none : (rest : List Token) → (BeginsSetting rest → ⊥) → begins_setting rest ≡ false
  setting_none rest none = by_test (begins_setting rest) refl
    where
      by_test : (b : Bool) → begins_setting rest ≡ b → b ≡ false
      by_test true t = absurd (none (begins_set rest t))
      by_test false t = refl

  module _ (schema : List Declaration) (txns : List Transaction) where
    -- what is refused of the front is refused of the last part
    pub front_in : tokens ≢ [] → (code : Code) (here : List Token) → FrontRefused code here → LastRefused schema txns count tokens code here
    front_in some code here (InFirst (OfMark is)) = absurd is
    front_in some code here (InFirst (Misplaced s is)) = subst (λ c. LastRefused schema txns count tokens c here) (sym s) (NoPart here some is)
    front_in some code here (InSecond head middle is (InFirst among)) = InSettings head is.front middle code here is.whole is.is among
    front_in some code here (InSecond head middle is (InSecond g rest was none)) =
        subst (λ c. LastRefused schema txns count tokens c here) (sym none.syntax) (subst (λ l. LastRefused schema txns count tokens Syntax l) (sym none.place)
        (NoSites head was.items (is.front ++ was.front) rest (is.whole ∙ ap (λ l. is.front ++ l) was.whole ∙ sym (append_assoc is.front was.front rest))
        (record { front = is.front; back = was.front; whole = refl; first = is.is; then = was.are }) (no_setting rest was.ends) (sym (ap (λ (g : Given). g.sites) was.made) ∙ none.none)))
