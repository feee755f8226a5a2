-- Steps: an element is read and added, unless it passes a limit.
use Rattle.std.proofs.Common.{◌≡◌, ◌∙◌, ◌⊎◌, inl, inr, Bool, true, false, if◌then◌else◌, List, [], ◌∷◌, ◌++◌, length, Ok, Err, refl, sym, ap, subst, append-nil, cond}
use Rattle.sv_value.specs.declared.spots.Spot.{Spot}
use Rattle.sv_lex.specs.declared.marks.Mark.TheVariants.{RightParen, Comma}
use Rattle.sv_lex.specs.declared.tokens.Token.{Token}
use Rattle.sv_lex.specs.declared.tokens.TokenKind.{TokenKind}
use Rattle.sv_lex.specs.declared.tokens.TokenKind.TheVariants.{Mark}
use Rattle.sv_app.specs.declared.refusals.Code.TheVariants.{Many}
use Rattle.sv_reader.specs.declared.faults.ReadFault.{ReadFault}
use Rattle.sv_reader.specs.Grammar.{◌·◌, kind, mark, others}
use Rattle.sv_reader.specs.Reading.{Read, ◌>>=◌, refuse, found_at, given, is_kind, is_next, kind_at, comma_turn, closed_at, list_at}
use Rattle.sv_reader.proofs.MatterLaws.{Matter, OneComma}
use Rattle.sv_reader.proofs.MadeLaws.{Made, placed, kind_law, take_last_limited, skip_last}
use Rattle.sv_reader.proofs.AnswerLaws.{next_alike, Alike, alike_behind, anything, bound, then_ok}
use Rattle.sv_reader.proofs.PartLaws.{kind_next, only_first}
use Rattle.sv_reader.proofs.ReadLaws.{Start, Open, Took, StuckAt, OverAt, Misread, Passes, Limited, Then, start_map, open_map, took_same, same_limited, same_reading_limited, after_limited, took_then, read_same, misread_behind}
use Rattle.sv_reader.proofs.TurnLaws.{Words, Promising, TurnStuck, TurnOver, Turning, turns_law, near_words}

-- what is asked of an element, and of the test that tells whether one more passes a limit
pub record Stepping (matter : Matter) {S A : Type 0} (before : List Token → Bool) (over : S → List Token → Bool) (p : S → List Token → Read A) (P PS : S → A → List Token → Type 0) (Room : S → A → Type 0) : Type 0 where
  pub alike : (s : S) (a b : List Token) → Alike a b → over s a ≡ over s b
  pub law : (s : S) → Limited matter before (P s) (PS s) (p s)
  pub some : (s : S) (x : A) (l : List Token) → P s x l → l ≡ [] → ⊥
  pub fits : (s : S) (x : A) (front rest : List Token) → PS s x front → over s (front ++ rest) ≡ false → Room s x
  pub roomy : (s : S) (x : A) (front rest : List Token) → P s x front → Room s x → over s (front ++ rest) ≡ false
  pub ends : (s : S) → over s [] ≡ false
  pub passing : (s : S) (token : Token) (l : List Token) → over s (token ∷ l) ≡ true → matter.IsFirst token.kind × Start (P s) (token ∷ [])
  pub no_comma : (s : S) (x : A) (token : Token) (l : List Token) → P s x (token ∷ l) → token.kind ≡ Mark Comma → ⊥

module _ {matter : Matter} {S A : Type 0} {before : List Token → Bool} {over : S → List Token → Bool} {p : S → List Token → Read A} {P PS : S → A → List Token → Type 0} {Room : S → A → Type 0}
    (stepping : Stepping matter before over p P PS Room) (add : S → A → S) where
  abbrev pub one_step : S → List Token → Read S
  one_step s tokens = if over s tokens then refuse Many tokens else (p s tokens >>= λ x r. Ok (add s x, r))

  abbrev pub Step : S → S → List Token → Type 0
  Step s = Made (add s) (P s)

  abbrev pub SmallStep : S → S → List Token → Type 0
  SmallStep s = Made (add s) (λ x l. PS s x l × Room s x)

  -- the same without the test
  added : (s : S) → Limited matter before (Made (add s) (P s)) (Made (add s) (PS s)) (λ tokens. p s tokens >>= λ x r. Ok (add s x, r))
  added s = take_last_limited (add s) (stepping.law s)

  free_read : (s : S) (tokens : List Token) → over s tokens ≡ false → one_step s tokens ≡ (p s tokens >>= λ x r. Ok (add s x, r))
  free_read s tokens o = ap (λ b. cond b (refuse Many tokens) (p s tokens >>= λ x r. Ok (add s x, r))) o

  over_read : (s : S) (tokens : List Token) → over s tokens ≡ true → one_step s tokens ≡ refuse Many tokens
  over_read s tokens o = ap (λ b. cond b (refuse Many tokens) (p s tokens >>= λ x r. Ok (add s x, r))) o

  pub step_inside : (s m : S) (l : List Token) → SmallStep s m l → Step s m l
  step_inside s m l is = record { «from» = is.«from»; is = (stepping.law s).inside is.«from» l is.is.0; made = is.made }

  small_added : (s m : S) (l : List Token) → SmallStep s m l → Made (add s) (PS s) m l
  small_added s m l is = record { «from» = is.«from»; is = is.is.0; made = is.made }

  pub step_some : (s m : S) (l : List Token) → Step s m l → l ≡ [] → ⊥
  step_some s m l is e = stepping.some s is.«from» l is.is e

  pub step_took : (s : S) (tokens : List Token) (m : S) (rest : List Token) → one_step s tokens ≡ Ok (m, rest) → Took (SmallStep s) (one_step s) tokens m rest
  step_took s tokens m rest e = by_test (over s tokens) refl e
    where
      by_took : over s tokens ≡ false → (took : Took (Made (add s) (PS s)) (λ tokens. p s tokens >>= λ x r. Ok (add s x, r)) tokens m rest) → Took (SmallStep s) (one_step s) tokens m rest
      by_took o took = record {
        front = took.front;
        whole = took.whole;
        is = record { «from» = took.is.«from»; is = (took.is.is, stepping.fits s took.is.«from» took.front rest took.is.is (subst (λ l. over s l ≡ false) took.whole o)); made = took.is.made };
        again = λ last alike.
            let all : Alike tokens (took.front ++ last) = subst (λ l. Alike l (took.front ++ last)) (sym took.whole) (alike_behind took.front rest last alike) in
            free_read s (took.front ++ last) (sym (stepping.alike s tokens (took.front ++ last) all) ∙ o) ∙ took.again last alike;
      }

      by_test : (b : Bool) → over s tokens ≡ b → cond b (refuse Many tokens) (p s tokens >>= λ x r. Ok (add s x, r)) ≡ Ok (m, rest) → Took (SmallStep s) (one_step s) tokens m rest
      by_test true o e = absurd cc
      by_test false o e = by_took o ((added s).took tokens m rest e)

  pub step_reads : (s m : S) (front rest : List Token) → SmallStep s m front → before rest ≡ false → one_step s (front ++ rest) ≡ Ok (m, rest)
  step_reads s m front rest is clear =
      free_read s (front ++ rest) (stepping.roomy s is.«from» front rest ((stepping.law s).inside is.«from» front is.is.0) is.is.1) ∙ (added s).reads m front rest (small_added s m front is) clear

  pub step_all : (s m : S) (front rest : List Token) → Step s m front → before rest ≡ false → (one_step s (front ++ rest) ≡ Ok (m, rest)) ⊎ Passes (one_step s (front ++ rest))
  step_all s m front rest is clear = by_test (over s (front ++ rest)) refl
    where
      by_test : (b : Bool) → over s (front ++ rest) ≡ b → (one_step s (front ++ rest) ≡ Ok (m, rest)) ⊎ Passes (one_step s (front ++ rest))
      by_test true o = inr (record { left = length (front ++ rest); is = over_read s (front ++ rest) o })
      by_test false o = read_same (free_read s (front ++ rest) o) ((added s).all m front rest is clear)

  -- a part that something small begins with leaves room for it, where the test lets its first token through
  open_step : (s : S) (tokens front rest : List Token) → over s tokens ≡ false → tokens ≡ front ++ rest → Start (Step s) front → Open matter (Made (add s) (PS s)) front → Open matter (SmallStep s) front ⊎ (front ≡ [])
  open_step s tokens [] rest o whole begins opened = inr refl
  open_step s tokens (u ∷ front) rest o whole begins opened = inl (by_shorter opened.shorter opened.part opened.whole opened.start opened.is)
    where
      smaller : (shorter : List Token) → Alike tokens shorter → Start (Made (add s) (PS s)) shorter → Start (SmallStep s) shorter
      smaller shorter alike start = record {
        more = start.more;
        item = start.item;
        is = record {
          «from» = start.is.«from»;
          is = (
            start.is.is,
            stepping.fits s start.is.«from» (shorter ++ start.more) [] start.is.is
                (subst (λ l. over s l ≡ false) (sym (append-nil (shorter ++ start.more))) (sym (stepping.alike s tokens (shorter ++ start.more) (longer shorter start.more alike)) ∙ o)),
          );
          made = start.is.made;
        };
      }
        where
          longer : (l more : List Token) → Alike tokens l → Alike tokens (l ++ more)
          longer [] more alike = absurd (empty tokens whole alike)
            where
              empty : (t : List Token) → t ≡ u ∷ front ++ rest → Alike t [] → ⊥
              empty [] e alike = absurd cc
              empty (x ∷ t) e alike = alike
          longer (x ∷ l) more alike = same tokens alike
            where
              same : (t : List Token) → Alike t (x ∷ l) → Alike t (x ∷ l ++ more)
              same [] alike = alike
              same (y ∷ t) alike = alike

      no_part : (part : List Token) → u ∷ front ≡ part → (part ≡ []) ⊎ OneComma part → ⊥
      no_part part e (inl none) = let bad : u ∷ front ≡ [] = e ∙ none in absurd cc
      no_part part e (inr one) =
          let all : u ∷ front ≡ one.comma ∷ [] = e ∙ one.only in
          let first : u ≡ one.comma = cc in
          stepping.no_comma s begins.is.«from» u (front ++ begins.more) begins.is.is (ap (λ (t : Token). t.kind) first ∙ one.is)

      by_shorter : (shorter part : List Token) → u ∷ front ≡ shorter ++ part → Start (Made (add s) (PS s)) shorter → matter.IsPart shorter part → Open matter (SmallStep s) (u ∷ front)
      by_shorter [] part e start is = absurd (no_part part e (matter.alone part is))
      by_shorter (v ∷ shorter) part e start is = record {
        shorter = v ∷ shorter;
        part = part;
        whole = e;
        start = smaller (v ∷ shorter) (let same : u ≡ v = cc in subst (λ l. Alike l (v ∷ shorter)) (sym whole) same) start;
        is = is;
      }

  -- a front that is small, or empty where nothing small begins
  abbrev pub Beginning : S → List Token → Type 0
  Beginning s front = Open matter (SmallStep s) front ⊎ (front ≡ [])

  abbrev pub StepStuck : S → List Token → ReadFault → Type 0
  StepStuck s tokens fault = StuckAt (Step s) (Beginning s) (one_step s) tokens fault

  abbrev pub StepOver : S → List Token → ReadFault → Type 0
  StepOver s tokens fault = OverAt matter (Step s) (Beginning s) (one_step s) tokens fault

  pub step_fails : (s : S) (tokens : List Token) (fault : ReadFault) → one_step s tokens ≡ Err fault → StepStuck s tokens fault ⊎ StepOver s tokens fault
  step_fails s tokens fault e = by_test (over s tokens) refl e
    where
      by_over : (t : List Token) → tokens ≡ t → over s t ≡ true → fault ≡ record { code = Many; left = length t } → StepOver s tokens fault
      by_over [] same o place = let never : true ≡ false = sym o ∙ stepping.ends s in absurd cc
      by_over (token ∷ others) same o place = let passing = stepping.passing s token others o in record {
        front = [];
        element = token ∷ [];
        rest = others;
        whole = same;
        place = place;
        is = matter.first token passing.0;
        small = inr refl;
        begins = start_map (add s) (λ x l is. record { «from» = x; is = is; made = refl }) (token ∷ []) passing.1;
        again = λ last. over_read s (token ∷ last) (stepping.alike s (token ∷ last) (token ∷ others) refl ∙ o);
      }

      by_fault : over s tokens ≡ false → Misread matter (Made (add s) (P s)) (Open matter (Made (add s) (PS s))) (λ tokens. p s tokens >>= λ x r. Ok (add s x, r)) tokens fault → StepStuck s tokens fault ⊎ StepOver s tokens fault
      by_fault o misread = misread_behind [] refl (λ l start. start) (λ front more whole begins opened. open_step s tokens front more o whole begins opened)
          (λ last alike other e. free_read s last (sym (stepping.alike s tokens last alike) ∙ o) ∙ e) misread

      by_test : (b : Bool) → over s tokens ≡ b → cond b (refuse Many tokens) (p s tokens >>= λ x r. Ok (add s x, r)) ≡ Err fault → StepStuck s tokens fault ⊎ StepOver s tokens fault
      by_test true o e = inr (by_over tokens refl o (let same : record { code = Many; left = length tokens } ≡ fault = cc in sym same))
      by_test false o e = by_fault o ((added s).fails tokens fault e)

  -- the first step, from a state where there is room for everything
  pub first_law : (s : S) → ((l : List Token) → over s l ≡ false) → ((x : A) → Room s x) → Limited matter before (Step s) (SmallStep s) (one_step s)
  first_law s free room = same_limited (free_law (added s)) (λ m l is. is) (λ m l is. is) into small_added'
    where
      free_law : Limited matter before (Made (add s) (P s)) (Made (add s) (PS s)) (λ tokens. p s tokens >>= λ x r. Ok (add s x, r)) → Limited matter before (Made (add s) (P s)) (Made (add s) (PS s)) (one_step s)
      free_law law = same_reading_limited (λ l. free_read s l (free l)) law

      into : (m : S) (l : List Token) → Made (add s) (PS s) m l → SmallStep s m l
      into m l is = record { «from» = is.«from»; is = (is.is, room is.«from»); made = is.made }

      small_added' : (m : S) (l : List Token) → SmallStep s m l → Made (add s) (PS s) m l
      small_added' m l is = small_added s m l is

-- a test that a token of some kind comes next, and the token
pub kind_read : (k : TokenKind) (tokens : List Token) → is_next k tokens ≡ true → (spot : Spot) × (rest : List Token) × (kind_at k tokens ≡ Ok (spot, rest))
kind_read k [] e = absurd cc
kind_read k (token ∷ rest) e = (token.spot, rest, ap (λ b. found_at (given b token.spot) token rest) e)

-- steps behind commas

module _ {matter : Matter} {S A : Type 0} {before : List Token → Bool} {over : S → List Token → Bool} {p : S → List Token → Read A} {P PS : S → A → List Token → Type 0} {Room : S → A → Type 0}
    (stepping : Stepping matter before over p P PS Room) (add : S → A → S)
    (comma : (token : Token) (l : List Token) → token.kind ≡ Mark Comma → before (token ∷ l) ≡ false) (paren : (token : Token) (l : List Token) → token.kind ≡ Mark RightParen → before (token ∷ l) ≡ false) where
  abbrev step_at : S → List Token → Read S
  step_at = one_step stepping add

  abbrev pub CommaStep : S → S → List Token → Type 0
  CommaStep s m = mark Comma · Step stepping add s m

  abbrev pub SmallCommaStep : S → S → List Token → Type 0
  SmallCommaStep s m = mark Comma · SmallStep stepping add s m

  turn_took : (s : S) (tokens : List Token) (m : S) (rest : List Token) → comma_turn step_at s tokens ≡ Ok (m, rest) → Took (SmallCommaStep s) (comma_turn step_at s) tokens m rest
  turn_took s tokens m rest e =
      let b = bound (kind_at (Mark Comma) tokens) (λ _ r. step_at s r) (m, rest) e in
      took_same tokens m rest into (λ l alike. refl)
      (took_then (kind_at (Mark Comma)) (λ _ r. step_at s r) tokens b.item b.rest m rest ((kind_law matter anything (Mark Comma)).took tokens b.item b.rest b.is) (step_took stepping add s b.rest m rest b.left))
    where
      into : (l : List Token) → Then (placed (Mark Comma)) (λ _. SmallStep stepping add s) m l → SmallCommaStep s m l
      into l t = record {
        front = t.parts.front;
        back = t.parts.back;
        whole = t.parts.whole;
        first = record { token = t.parts.first.token; only = t.parts.first.only; holds = t.parts.first.holds.0 };
        then = t.parts.then;
      }

  turn_split : (X : S → S → List Token → Type 0) (s m : S) (front rest : List Token) (is : (mark Comma · X s m) front)
      → comma_turn step_at s (front ++ rest) ≡ step_at s (is.back ++ rest)
  turn_split X s m front rest is =
      ap (λ l. comma_turn step_at s (l ++ rest)) (is.whole ∙ ap (λ l. l ++ is.back) is.first.only)
      ∙ ap (λ (b : Bool). found_at (given b is.first.token.spot) is.first.token (is.back ++ rest) >>= λ _ r. step_at s r) (ap (λ k. is_kind (Mark Comma) k) is.first.holds)

  turn_all : (s m : S) (front rest : List Token) → CommaStep s m front → before rest ≡ false → (comma_turn step_at s (front ++ rest) ≡ Ok (m, rest)) ⊎ Passes (comma_turn step_at s (front ++ rest))
  turn_all s m front rest is clear = read_same (turn_split (Step stepping add) s m front rest is) (step_all stepping add s m is.back rest is.then clear)

  comma_start : (X : S → S → List Token → Type 0) (s : S) (token : Token) → token.kind ≡ Mark Comma → (front : List Token) → Start (X s) front → Start (λ m. mark Comma · X s m) (token ∷ front)
  comma_start X s token k front start = record {
    more = start.more;
    item = start.item;
    is = record { front = token ∷ []; back = front ++ start.more; whole = refl; first = record { token = token; only = refl; holds = k }; then = start.is };
  }

  turn_small : (s : S) (token : Token) → token.kind ≡ Mark Comma → (front : List Token) → Beginning stepping add s front → Promising matter (SmallCommaStep s) (token ∷ front)
  turn_small s token k front (inl opened) = inl (open_map (token ∷ []) (λ l start. comma_start (SmallStep stepping add) s token k l start) opened)
  turn_small s token k front (inr e) = inr (subst (λ l. matter.IsPart [] (token ∷ l)) (sym e) (matter.comma [] token k))

  turn_fails : (s : S) (tokens : List Token) (fault : ReadFault) → is_next (Mark Comma) tokens ≡ true → comma_turn step_at s tokens ≡ Err fault
      → TurnStuck matter (CommaStep s) (SmallCommaStep s) (comma_turn step_at s) tokens fault ⊎ TurnOver matter (CommaStep s) (SmallCommaStep s) (comma_turn step_at s) tokens fault
  turn_fails s tokens fault t e =
      let read = kind_read (Mark Comma) tokens t in
      by_took ((kind_law matter anything (Mark Comma)).took tokens read.0 read.1 read.2) (step_fails stepping add s read.1 fault (sym (then_ok (λ _ r. step_at s r) read.2) ∙ e))
    where
      comma_read : (token : Token) (l : List Token) → token.kind ≡ Mark Comma → comma_turn step_at s (token ∷ l) ≡ step_at s l
      comma_read token l k = ap (λ (b : Bool). found_at (given b token.spot) token l >>= λ _ r. step_at s r) (ap (λ x. is_kind (Mark Comma) x) k)

      by_took : {spot : Spot} {rest : List Token} → Took (placed (Mark Comma)) (kind_at (Mark Comma)) tokens spot rest → StepStuck stepping add s rest fault ⊎ StepOver stepping add s rest fault
          → TurnStuck matter (CommaStep s) (SmallCommaStep s) (comma_turn step_at s) tokens fault ⊎ TurnOver matter (CommaStep s) (SmallCommaStep s) (comma_turn step_at s) tokens fault
      by_took {spot} {rest} took misread = let token = took.is.token in
          misread_behind (token ∷ []) (took.whole ∙ ap (λ l. l ++ rest) took.is.only) (comma_start (Step stepping add) s token took.is.holds.0)
          (λ front more whole begins small. turn_small s token took.is.holds.0 front small) (λ last alike other e. comma_read token last took.is.holds.0 ∙ e) misread

  first_kind : (test : List Token → Bool) (X : List Token → Type 0) (k : TokenKind) (front rest : List Token) → ((token : Token) (l : List Token) → token.kind ≡ k → test (token ∷ l) ≡ false) → (kind k · X) front → test (front ++ rest) ≡ false
  first_kind test X k front rest clear b = ap (λ l. test (l ++ rest)) (b.whole ∙ ap (λ l. l ++ b.back) b.first.only) ∙ clear b.first.token (b.back ++ rest) b.first.holds

  pub comma_turning : Turning matter before anything (is_next (Mark Comma)) (comma_turn step_at) closed_at CommaStep SmallCommaStep (mark RightParen)
  comma_turning = record {
    alike = next_alike (λ token. is_kind (Mark Comma) token.kind);
    inside = λ s m l b. record { front = b.front; back = b.back; whole = b.whole; first = b.first; then = step_inside stepping add s m b.back b.then };
    some = λ s m l b e. let bad : b.first.token ∷ b.back ≡ [] = sym (b.whole ∙ ap (λ x. x ++ b.back) b.first.only) ∙ e in absurd cc;
    took = λ s tokens m rest t e. turn_took s tokens m rest e;
    reads = λ s m front rest is clear. turn_split (SmallStep stepping add) s m front rest is ∙ step_reads stepping add s m is.back rest is.then clear;
    all = turn_all;
    first = λ s m front rest is. kind_next (Mark Comma) (Step stepping add s m) front rest is;
    fails = turn_fails;
    ends = λ s. skip_last matter anything (Mark RightParen) s;
    stop = λ l rest is clear. only_first (Mark Comma) (Mark RightParen) l rest is;
    near_turn = λ s m front rest is. first_kind before (Step stepping add s m) (Mark Comma) front rest comma is;
    near_end = λ l rest is clear. ap (λ x. before (x ++ rest)) is.only ∙ paren is.token rest is.holds;
  }

  pub list_law : (s : S) → ((l : List Token) → over s l ≡ false) → ((x : A) → Room s x)
      → Limited matter anything (Then (Step stepping add s) (λ m. Words CommaStep (mark RightParen) m)) (Then (SmallStep stepping add s) (λ m. Words SmallCommaStep (mark RightParen) m)) (list_at step_at s)
  unfolding list_at
  list_law s free room = after_limited (first_law stepping add s free room) (λ m. turns_law comma_turning m) (λ m e tokens rest is clear. near_words comma_turning m e tokens rest is clear)
