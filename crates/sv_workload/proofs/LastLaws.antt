-- The head and the settings of a last part: where they are refused, and that no step and no session begins a setting.
use Rattle.std.proofs.Common.{◌≡◌, ◌≢◌, ◌∙◌, ℕ, ◌<◌, ◌≤◌, ◌⊎◌, inl, inr, false, List, [], ◌∷◌, ◌++◌, length, Option, Some, None, Err, refl, sym, ap, subst, append_assoc, arith, codes}
use Rattle.std.proofs.Math.Nat.{eq-or-lt_of_le}
use Rattle.std.proofs.lemmas.List.{length-append}
use Rattle.sv_lex.specs.declared.tokens.Token.{Token}
use Rattle.sv_lex.specs.declared.tokens.TokenKind.TheVariants.{Name}
use Rattle.sv_app.specs.declared.refusals.Code.{Code}
use Rattle.sv_app.specs.declared.refusals.Code.TheVariants.{Syntax, Unknown, Twice, Kind, Typing, Many, Cyclic, Unsatisfiable, BadInit, TooLong, BadStep, Reserved}
use Rattle.sv_app.specs.Codes.{number_of}
use Rattle.sv_app.specs.Schema.{Declaration}
use Rattle.sv_app.specs.Trees.{Transaction}
use Rattle.sv_reader.specs.declared.faults.ReadFault.{ReadFault}
use Rattle.sv_reader.specs.Grammar.{◌·◌, word}
use Rattle.sv_workload.specs.declared.written.PartHead.{PartHead}
use Rattle.sv_workload.specs.declared.written.PartHead.TheVariants.{Replay as ReplayHead, Run as RunHead}
use Rattle.sv_workload.specs.declared.written.Setting.{Setting}
use Rattle.sv_workload.specs.declared.written.Setting.TheVariants.{Sites}
use Rattle.sv_workload.specs.Elements.{IsFirst, AreNone}
use Rattle.sv_workload.specs.Grammar.{many, setting, line, session}
use Rattle.sv_workload.specs.LastRefused.{BeginsWord, BeginsSetting, part_head, sites_set, LineRefused, SessionRefused, TooManyAsks, TooManyShows, BadSession, BadSite, BadOrigin, BadSeq, BadSlot, BadTarget, BadNumber, InCalls, NoEnd, LastRefused, NoPart, InSettings, NoSites, InLines, InSessions}
use Rattle.sv_workload.specs.LastRefused as last
use Rattle.sv_workload.specs.Reading.{front_from, begins_setting}
use Rattle.sv_workload.specs.Written.{Line, Ask, Order, Deliver, Settle, Catch, Show, Cut, Move, Session}
use Rattle.sv_workload.proofs.FrontLaws.{FrontIs, FrontRefused, front_judged, front_in, setting_none}
use Rattle.sv_workload.proofs.JudgeLaws.{Found, InFirst, InSecond}
use Rattle.sv_workload.proofs.LoopLaws.{Element, Elements}
use Rattle.sv_workload.proofs.MarkLaws.{Misplaced}
use Rattle.sv_workload.proofs.SettingLaws.{state}
use Rattle.sv_workload.proofs.SuffixLaws.{Suffix, among_suffix, line_suffix, session_suffix}

word_some : (bytes : List ℕ) → word bytes [] → ⊥
word_some bytes is = let bad : [] ≡ is.token ∷ [] = is.only in absurd cc

first_word : (bytes : List ℕ) (Rest : List Token → Type 0) → (word bytes · Rest) [] → ⊥
first_word bytes Rest is = let bad : [] ≡ is.first.token ∷ is.back = is.whole ∙ ap (λ l. l ++ is.back) is.first.only in absurd cc

pub line_some : (l : Line) → line l [] → ⊥
line_some (Ask n c) is = first_word (codes "ask") _ is
line_some (Order n) is = first_word (codes "order") _ is
line_some (Deliver n p) is = first_word (codes "deliver") _ is
line_some (Settle n) is = first_word (codes "settle") _ is
line_some (Catch n) is = first_word (codes "catch") _ is
line_some (Show n t) is = first_word (codes "show") _ is
line_some (Cut n) is = first_word (codes "cut") _ is
line_some (Move n site) is = first_word (codes "move") _ is

session_some : (s : Session) → session s [] → ⊥
session_some s is = let bad : [] ≡ is.first.first.token ∷ (is.first.back ++ is.back) = is.whole ∙ ap (λ l. l ++ is.back) (is.first.whole ∙ ap (λ l. l ++ is.first.back) is.first.first.only) in absurd cc

front_empty : (front rest : List Token) → [] ≡ front ++ rest → front ≡ []
front_empty [] rest e = refl
front_empty (x ∷ front) rest e = absurd cc

-- nothing is refused where nothing stands

word_front : (bytes : List ℕ) (Rest : List Token → Type 0) (front here tokens : List Token) → tokens ≡ [] → tokens ≡ front ++ here → (word bytes · Rest) front → ⊥
word_front bytes Rest front here tokens e w is = first_word bytes Rest (subst (λ l. (word bytes · Rest) l) (front_empty front here (sym e ∙ w)) is)

word_alone : (bytes : List ℕ) (front here tokens : List Token) → tokens ≡ [] → tokens ≡ front ++ here → word bytes front → ⊥
word_alone bytes front here tokens e w is = word_some bytes (subst (λ l. word bytes l) (front_empty front here (sym e ∙ w)) is)

pub line_none : (schema : List Declaration) (txns : List Transaction) (sites : ℕ) (before : List Line) → AreNone (LineRefused schema txns sites before [])
line_none schema txns sites before code here is = by_case code here [] refl is
  where
    by_case : (code : Code) (here tokens : List Token) → tokens ≡ [] → LineRefused schema txns sites before tokens code here → ⊥
    by_case _ _ tokens e (last.Misplaced here some is) = some e
    by_case _ _ tokens e (last.TooMany bytes has is many) = subst (λ l. BeginsWord bytes l) e is
    by_case _ _ tokens e (TooManyAsks is many) = subst (λ l. BeginsWord (codes "ask") l) e is
    by_case _ _ tokens e (TooManyShows is many) = subst (λ l. BeginsWord (codes "show") l) e is
    by_case _ _ tokens e (BadSession bytes front here w has is out) = word_alone bytes front here tokens e w is
    by_case _ _ tokens e (BadSite bytes front here w has is out) = word_alone bytes front here tokens e w is
    by_case _ _ tokens e (BadOrigin at front here w is out) = word_front (codes "deliver") _ front here tokens e w is
    by_case _ _ tokens e (BadSeq at origin front here w is out) = word_front (codes "deliver") _ front here tokens e w is
    by_case _ _ tokens e (BadSlot at front here w is out) = word_front (codes "deliver") _ front here tokens e w is
    by_case _ _ tokens e (BadTarget of front here w is out) = word_front (codes "move") _ front here tokens e w is
    by_case _ _ tokens e (last.NoTable at front here table w is begins none) = word_front (codes "show") _ front here tokens e w is
    by_case _ _ tokens e (last.InCall n front rest code here w is refused) = word_front (codes "ask") _ front rest tokens e w is

pub session_none : (txns : List Transaction) (before : List Session) → AreNone (SessionRefused txns before [])
session_none txns before code here is = by_case code here [] refl is
  where
    by_case : (code : Code) (here tokens : List Token) → tokens ≡ [] → SessionRefused txns before tokens code here → ⊥
    by_case _ _ tokens e (last.Misplaced here some is) = some e
    by_case _ _ tokens e (last.TooMany is many) = subst (λ l. BeginsWord (codes "session") l) e is
    by_case _ _ tokens e (BadNumber front here w is out) = word_alone (codes "session") front here tokens e w is
    by_case _ _ tokens e (InCalls n front rest code here w is among) = word_front (codes "session") _ front rest tokens e w is
    by_case _ _ tokens e (NoEnd n calls front here w is ends brace) = word_front (codes "session") _ is.front (is.back ++ here) tokens e (w ∙ ap (λ l. l ++ here) is.whole ∙ append_assoc is.front is.back here) is.first

-- no step and no session begins a setting

word_unset : (bytes : List ℕ) (Rest : List Token → Type 0) (front rest : List Token) → (word bytes · Rest) front → begins_setting (front ++ rest) ≡ begins_setting (record { kind = Name bytes; «from» = 0; to = 0; spot = record { line = 1; col = 1 } } ∷ [])
word_unset bytes Rest front rest is = ap (λ l. begins_setting (l ++ rest)) (is.whole ∙ ap (λ l. l ++ is.back) is.first.only)
    ∙ ap (λ k. begins_setting (record { kind = k; «from» = 0; to = 0; spot = record { line = 1; col = 1 } } ∷ [])) is.first.holds

line_unset : (l : Line) (front rest : List Token) → line l front → begins_setting (front ++ rest) ≡ false
line_unset (Ask n c) front rest is = word_unset (codes "ask") _ front rest is
line_unset (Order n) front rest is = word_unset (codes "order") _ front rest is
line_unset (Deliver n p) front rest is = word_unset (codes "deliver") _ front rest is
line_unset (Settle n) front rest is = word_unset (codes "settle") _ front rest is
line_unset (Catch n) front rest is = word_unset (codes "catch") _ front rest is
line_unset (Show n t) front rest is = word_unset (codes "show") _ front rest is
line_unset (Cut n) front rest is = word_unset (codes "cut") _ front rest is
line_unset (Move n site) front rest is = word_unset (codes "move") _ front rest is

session_unset : (s : Session) (front rest : List Token) → session s front → begins_setting (front ++ rest) ≡ false
session_unset s front rest is = ap (λ l. begins_setting (l ++ rest)) is.whole ∙ ap begins_setting (append_assoc is.front is.back rest) ∙ word_unset (codes "session") _ is.front (is.back ++ rest) is.first

pub lines_unset : (ls : List Line) (l : List Token) → many line ls l → begins_setting l ≡ false
lines_unset [] l is = ap begins_setting is
lines_unset (x ∷ ls) l is = ap begins_setting is.whole ∙ line_unset x is.front is.back is.first

pub sessions_unset : (ss : List Session) (l : List Token) → many session ss l → begins_setting l ≡ false
sessions_unset [] l is = ap begins_setting is
sessions_unset (x ∷ ss) l is = ap begins_setting is.whole ∙ session_unset x is.front is.back is.first

code_some : (code : Code) → 1 ≤ number_of code
code_some Syntax = omega arith
code_some Unknown = omega arith
code_some Twice = omega arith
code_some Kind = omega arith
code_some Typing = omega arith
code_some Many = omega arith
code_some Cyclic = omega arith
code_some (Unsatisfiable table cycle) = omega arith
code_some (BadInit inv row) = omega arith
code_some TooLong = omega arith
code_some BadStep = omega arith
code_some Reserved = omega arith

module _ (schema : List Declaration) (txns : List Transaction) (count : ℕ) (tokens : List Token) where
  -- the tokens behind the head and the settings
  pub record Through (head : PartHead) (settings : List (Setting × ℕ)) (rest : List Token) : Type 0 where
    pub middle : List Token
    pub head_is : Element part_head tokens head middle
    pub settings_are : Elements begins_setting state setting [] middle (state settings) rest
    pub count_is : settings_are.items ≡ settings

  pub through : (head : PartHead) (settings : List (Setting × ℕ)) (front rest : List Token) → tokens ≡ front ++ rest → (part_head head · many setting settings) front → begins_setting rest ≡ false → Through head settings rest
  through head settings front rest w is ends = record {
    middle = is.back ++ rest;
    head_is = record { front = is.front; whole = w ∙ ap (λ l. l ++ rest) is.whole ∙ append_assoc is.front is.back rest; is = is.first };
    settings_are = record { items = settings; front = is.back; whole = refl; are = is.then; made = refl; ends = ends };
    count_is = refl;
  }

  pub sited : (head : PartHead) (settings : List (Setting × ℕ)) (rest : List Token) (n : ℕ) → Through head settings rest → last.given Sites settings ≡ Some n → FrontIs count tokens (head, state settings) rest
  sited head settings rest n t e = record {
    head = head;
    middle = t.middle;
    first = t.head_is;
    second = record { head = state settings; middle = rest; first = t.settings_are; second = record { sites = n; is = e; made = refl; rests = refl } };
  }

  pub siteless : (head : PartHead) (settings : List (Setting × ℕ)) (rest : List Token) → Through head settings rest → last.given Sites settings ≡ None → FrontRefused count tokens Syntax rest
  siteless head settings rest t e = InSecond head t.middle t.head_is (InSecond (state settings) rest t.settings_are (record { none = e; syntax = refl; place = refl }))

  pub record LastFound (fault : ReadFault) : Type 0 where
    pub here : List Token
    pub first : IsFirst (LastRefused schema txns count tokens) fault.code here
    pub place : fault.left ≡ length here

  pub front_wrong : tokens ≢ [] → (fault : ReadFault) → front_from count tokens ≡ Err fault → LastFound fault
  front_wrong some fault e = by_found ((front_judged count tokens).wrong fault e)
    where
      by_found : Found (FrontIs count tokens) (FrontRefused count tokens) fault → LastFound fault
      by_found found = record {
        here = found.here;
        first = record { is = front_in count tokens schema txns some fault.code found.here found.first.is; first = λ code there other. by_other code there other };
        place = found.place;
      }
        where
          Behind' : Code → List Token → Type 0
          Behind' code there = (length there < length found.here) ⊎ ((length there ≡ length found.here) × (number_of fault.code ≤ number_of code))

          later : (code : Code) (there rest : List Token) (head : PartHead) (settings : List (Setting × ℕ)) → Through head settings rest → length there ≤ length rest → Behind' code there
          later code there rest head settings t low = by_sites (last.given Sites settings) refl
            where
              by_place : (length rest < length found.here) ⊎ ((length rest ≡ length found.here) × (number_of fault.code ≤ 1)) → (length there ≡ length rest) ⊎ (length there < length rest) → Behind' code there
              by_place (inl lt) order = inl (omega (arith, low, lt))
              by_place (inr same) (inr lt) = inl (omega (arith, lt, same.0))
              by_place (inr same) (inl e) = inr (e ∙ same.0, omega (arith, same.1, code_some code))

              by_sites : (n : Option ℕ) → last.given Sites settings ≡ n → Behind' code there
              by_sites (Some n) e = let lt = found.inside (head, state settings) rest (sited head settings rest n t e) in inl (omega (arith, low, lt))
              by_sites None e = by_place (found.first.first Syntax rest (siteless head settings rest t e)) (eq-or-lt_of_le low)

          low_of : (rest there : List Token) → Suffix rest there → length there ≤ length rest
          low_of rest there s = omega (arith, ap length s.whole, length-append s.front there)

          by_other : (code : Code) (there : List Token) → LastRefused schema txns count tokens code there → Behind' code there
          by_other _ _ (NoPart there some is) = found.first.first Syntax there (InFirst (Misplaced refl is))
          by_other _ _ (InSettings head front rest code there w is among) = found.first.first code there (InSecond head rest (record { front = front; whole = w; is = is }) (InFirst among))
          by_other _ _ (NoSites head settings front there w is ends none) = found.first.first Syntax there (siteless head settings there (through head settings front there w is (setting_none count tokens there ends)) none)
          by_other _ _ (InLines settings front rest code there w is ends among) =
              later code there rest ReplayHead settings (through ReplayHead settings front rest w is (setting_none count tokens rest ends))
              (low_of rest there (among_suffix {element = line} (line_suffix schema txns (sites_set settings)) [] rest code there among))
          by_other _ _ (InSessions settings front rest code there w is ends among) =
              later code there rest RunHead settings (through RunHead settings front rest w is (setting_none count tokens rest ends))
              (low_of rest there (among_suffix {element = session} (session_suffix txns) [] rest code there among))
