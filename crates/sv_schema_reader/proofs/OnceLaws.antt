-- Tokens get one refusal.
use Rattle.std.proofs.Common.{◌≡◌, ◌∙◌, ◌⊎◌, inl, inr, List, [], ◌∷◌, ◌++◌, refl, sym, ap, subst, append_assoc, append-nil, codes}
use Rattle.sv_value.specs.declared.spots.Spot.{Spot}
use Rattle.sv_lex.specs.declared.marks.Mark.TheVariants.{RightParen, Comma}
use Rattle.sv_lex.specs.declared.tokens.Token.{Token}
use Rattle.sv_lex.specs.declared.tokens.TokenKind.{TokenKind}
use Rattle.sv_lex.specs.declared.tokens.TokenKind.TheVariants.{Name, Mark}
use Rattle.sv_app.specs.declared.refusals.Code.TheVariants.{Syntax, Many}
use Rattle.sv_app.specs.declared.refusals.Refusal.{Refusal}
use Rattle.sv_app.specs.declared.schemas.Check.{Check}
use Rattle.sv_app.specs.Schema.{Bound}
use Rattle.sv_reader.specs.Places.{spot_of}
use Rattle.sv_reader.proofs.CutLaws.{Ahead, compared}
use Rattle.sv_schema_reader.specs.Grammar.{schema, item, Demand}
use Rattle.sv_schema_reader.specs.Laws.{RefusedOnce}
use Rattle.sv_schema_reader.specs.Refused.{Begins, BeginsSmall, IsPart, Empty, AfterComma, InCheck, PassesNone, IsMisplaced, IsFirst, IsElement, First, Outside, IsTooMany}
use Rattle.sv_schema_reader.proofs.ChangeLaws.{IsCheckWord, Tailed, demand_tailed, changed}
use Rattle.sv_schema_reader.proofs.ClearLaws.{Clear, head_of, tail_of, no_tokens, EndsIn, ends_in, nowhere}
use Rattle.sv_schema_reader.proofs.InCheckLaws.{IsClose, parts_of, close_last, completed}

small_front : (front back : List Token) → BeginsSmall (front ++ back) → BeginsSmall front
small_front front back b = record { more = back ++ b.more; tables = b.tables; is = subst (schema b.tables) (append_assoc front back b.more) b.is; small = b.small }

begins_front : (front back : List Token) → Begins (front ++ back) → Begins front
begins_front front back b = record { more = back ++ b.more; tables = b.tables; is = subst (schema b.tables) (append_assoc front back b.more) b.is }

-- with each name of a check that began, the limits are kept as with its first word
named_small : (before : List Token) (word : Token) (inner more : List Token) (token : Token) (spot : Spot) (check : Check) → BeginsSmall (before ++ word ∷ []) → item (Demand spot (Bound check)) (word ∷ (inner ++ token ∷ more))
    → IsFirst token.kind → BeginsSmall (before ++ (word ∷ (inner ++ token ∷ [])))
named_small before word inner more token spot check begins is first =
    let c = completed spot check word inner more token is first in
    let p = parts_of spot check (word ∷ (inner ++ token ∷ more)) is in
    let here : IsCheckWord word.kind = ap (λ (t : Token). t.kind) (head_of p.whole) ∙ p.here.0 in
    let inside : List Token = inner ++ token ∷ c.rest in
    let change = changed word here spot (Bound c.check) inside c.is c.small begins.tables before begins.more (subst (schema begins.tables) (append_assoc before (word ∷ []) begins.more) begins.is) begins.small in
    let ends : inside ++ change.rest ≡ (inner ++ token ∷ []) ++ (c.rest ++ change.rest)
    = append_assoc inner (token ∷ c.rest) change.rest ∙ sym (append_assoc inner (token ∷ []) (c.rest ++ change.rest)) in record {
      more = c.rest ++ change.rest;
      tables = change.now;
      is = subst (schema change.now) (ap (λ l. before ++ (word ∷ l)) ends ∙ sym (append_assoc before (word ∷ (inner ++ token ∷ [])) (c.rest ++ change.rest))) change.is;
      small = change.small;
    }

-- the last token of an element

record ByFirst (element : List Token) : Type 0 where
  pub token : Token
  pub only : element ≡ token ∷ []
  pub first : IsFirst token.kind

record ByClose (element : List Token) : Type 0 where
  pub spot : Spot
  pub check : Check
  pub is : item (Demand spot (Bound check)) element
  pub init : List Token
  pub close : Token
  pub whole : element ≡ init ++ close ∷ []
  pub closes : IsClose close.kind

element_end : (element : List Token) → IsElement element → ByFirst element ⊎ ByClose element
element_end _ (First token is) = inl (record { token = token; only = refl; first = is })
element_end _ (Outside spot check tokens is out) =
    let p = parts_of spot check tokens is in
    let body : List Token = p.word ∷ (p.paren ∷ (p.first ++ (p.middle ++ p.second))) in
    let ends : body ++ p.close ∷ [] ≡ p.word ∷ (p.paren ∷ (p.first ++ (p.middle ++ (p.second ++ p.close ∷ []))))
    = ap (λ l. p.word ∷ (p.paren ∷ l)) (append_assoc p.first (p.middle ++ p.second) (p.close ∷ []) ∙ ap (λ l. p.first ++ l) (append_assoc p.middle p.second (p.close ∷ []))) in
    inr (record { spot = spot; check = check; is = is; init = body; close = p.close; whole = p.whole ∙ sym ends; closes = p.closes })

first_no_close : (k : TokenKind) → IsFirst k → IsClose k → ⊥
first_no_close k first closes = no_close (subst IsFirst closes first)
  where
    no_close : IsFirst (Mark RightParen) → ⊥
    no_close f = absurd cc

-- an element ends behind a place, or at it

behind_first : (front : List Token) (element : List Token) (f : ByFirst element) (start ys : List Token) (y : Token) → front ++ element ≡ start ++ y ∷ ys → EndsIn front start (y ∷ ys) f.token
behind_first front element f start ys y e = ends_in front start ys f.token y (ap (λ l. front ++ l) (sym f.only) ∙ e)

behind_close : (front : List Token) (element : List Token) (c : ByClose element) (start ys : List Token) (y : Token) → front ++ element ≡ start ++ y ∷ ys → EndsIn (front ++ c.init) start (y ∷ ys) c.close
behind_close front element c start ys y e = ends_in (front ++ c.init) start ys c.close y (append_assoc front c.init (c.close ∷ []) ∙ ap (λ l. front ++ l) (sym c.whole) ∙ e)

-- no check goes on behind its closing parenthesis
not_inside : (word : Token) (spot : Spot) (check : Check) (tokens inner more : List Token) (token : Token) → item (Demand spot (Bound check)) tokens → tokens ≡ word ∷ (inner ++ token ∷ more) → IsClose token.kind → (more ≡ [] → ⊥) → ⊥
not_inside word spot check tokens inner more token is e closes some = some (close_last spot check tokens (word ∷ inner) more token is closes e)

-- tokens that pass no limit keep them with each element that ends in them
module _ (tokens : List Token) (passes : PassesNone tokens) (front element rest : List Token) (is : IsElement element) (whole : tokens ≡ (front ++ element) ++ rest) where
  in_part : (start part : List Token) → IsPart start part → BeginsSmall start → (y : Token) (ys : List Token) → part ≡ (y ∷ ys) ++ rest → front ++ element ≡ start ++ y ∷ ys → BeginsSmall (front ++ element)
  in_part _ _ (Empty start) begins y ys e ends = absurd cc
  in_part _ _ (AfterComma start comma kind) begins y ys e ends = absurd (by_end (element_end element is))
    where
      first_no_comma : IsFirst comma.kind → ⊥
      first_no_comma f = no_first (subst IsFirst kind f)
        where
          no_first : IsFirst (Mark Comma) → ⊥
          no_first f = absurd cc

      comma_no_close : IsClose comma.kind → ⊥
      comma_no_close c = let bad : Mark Comma ≡ Mark RightParen = sym kind ∙ c in absurd cc

      by_end : ByFirst element ⊎ ByClose element → ⊥
      by_end (inl f) = let x = behind_first front element f start ys y ends in
          nowhere IsFirst (comma ∷ []) x.rest rest f.token (first_no_comma, tt) f.first (e ∙ ap (λ l. l ++ rest) x.is ∙ append_assoc x.rest (f.token ∷ []) rest)
      by_end (inr c) = let x = behind_close front element c start ys y ends in
          nowhere IsClose (comma ∷ []) x.rest rest c.close (comma_no_close, tt) c.closes (e ∙ ap (λ l. l ++ rest) x.is ∙ append_assoc x.rest (c.close ∷ []) rest)
  in_part _ _ (InCheck start before word inside more spot check begun item_is some) begins y ys e ends = by_end (element_end element is)
    where
      tail_is : (inner : List Token) (token : Token) → y ∷ ys ≡ inner ++ token ∷ [] → inside ++ more ≡ inner ++ token ∷ (rest ++ more)
      tail_is inner token x = ap (λ l. l ++ more) (e ∙ ap (λ l. l ++ rest) x ∙ append_assoc inner (token ∷ []) rest) ∙ append_assoc inner (token ∷ rest) more

      by_end : ByFirst element ⊎ ByClose element → BeginsSmall (front ++ element)
      by_end (inl f) =
          let x = behind_first front element f start ys y ends in
          let here : item (Demand spot (Bound check)) (word ∷ (x.rest ++ f.token ∷ (rest ++ more))) = subst (λ l. item (Demand spot (Bound check)) (word ∷ l)) (tail_is x.rest f.token x.is) item_is in
          let small = named_small before word x.rest (rest ++ more) f.token spot check (subst BeginsSmall begun begins) here f.first in
          subst BeginsSmall (sym (ends ∙ (λ i. begun i ++ x.is i) ∙ append_assoc before (word ∷ []) (x.rest ++ f.token ∷ []))) small
      by_end (inr c) =
          let x = behind_close front element c start ys y ends in
          absurd (not_inside word spot check (word ∷ (inside ++ more)) x.rest (rest ++ more) c.close item_is (ap (λ l. word ∷ l) (tail_is x.rest c.close x.is)) c.closes (λ none. some (no_tokens rest more none)))

  small_part : BeginsSmall (front ++ element)
  small_part = by_order (compared passes.front (front ++ element) passes.part rest (sym passes.whole ∙ whole))
    where
      by_order : Ahead passes.front (front ++ element) passes.part rest ⊎ (Ahead (front ++ element) passes.front rest passes.part ⊎ ((passes.front ≡ front ++ element) × (passes.part ≡ rest))) → BeginsSmall (front ++ element)
      by_order (inl a) = in_part passes.front passes.part passes.is passes.begins a.token a.extra a.left a.longer
      by_order (inr (inl a)) = small_front (front ++ element) (a.token ∷ a.extra) (subst BeginsSmall a.longer passes.begins)
      by_order (inr (inr same)) = subst BeginsSmall same.0 passes.begins

-- elements of the same tokens begin at one place

same_place : (end : Spot) (front other a b : List Token) (x y : Token) (xs ys : List Token) → a ≡ x ∷ xs → b ≡ y ∷ ys → x ≡ y → spot_of end a ≡ spot_of end b
same_place end front other a b x y xs ys ea eb e = ap (spot_of end) ea ∙ ap (λ (t : Token). t.spot) e ∙ sym (ap (spot_of end) eb)

last_one : (front other : List Token) (x y : Token) → front ++ x ∷ [] ≡ other ++ y ∷ [] → x ≡ y
last_one front other x y e = let ends = ends_in front other [] x y e in by_rest ends.rest ends.is
  where
    by_rest : (rest : List Token) → y ∷ [] ≡ rest ++ x ∷ [] → x ≡ y
    by_rest [] e = sym (head_of e)
    by_rest (z ∷ rest) e = let bad : x ∷ [] ≡ [] = no_tokens rest (x ∷ []) (sym (tail_of e)) in absurd cc

-- one whole check of the two that end at one place
one_check : (front other a b : List Token) (s : Tailed a) (t : Tailed b) → IsCheckWord s.token.kind → IsCheckWord t.token.kind → front ++ a ≡ other ++ b → s.token ≡ t.token
one_check front other a b s t ws wt e = by_order (compared front other (s.token ∷ s.others) (t.token ∷ t.others) whole)
  where
    whole : front ++ s.token ∷ s.others ≡ other ++ t.token ∷ t.others
    whole = ap (λ l. front ++ l) (sym s.whole) ∙ e ∙ ap (λ l. other ++ l) t.whole

    inside : {x : Token} {xs : List Token} (y : Token) (ys extra : List Token) (token : Token) → Clear IsCheckWord xs → IsCheckWord y.kind → x ∷ xs ≡ token ∷ extra ++ y ∷ ys → ⊥
    inside {x} {xs} y ys extra token clear w e = nowhere IsCheckWord xs extra ys y clear w (tail_of e)

    by_order : Ahead front other (s.token ∷ s.others) (t.token ∷ t.others) ⊎ (Ahead other front (t.token ∷ t.others) (s.token ∷ s.others) ⊎ ((front ≡ other) × (s.token ∷ s.others ≡ t.token ∷ t.others))) → s.token ≡ t.token
    by_order (inl a) = absurd (inside t.token t.others a.extra a.token s.clear wt a.left)
    by_order (inr (inl a)) = absurd (inside s.token s.others a.extra a.token t.clear ws a.left)
    by_order (inr (inr same)) = head_of same.1

check_word : (spot : Spot) (check : Check) (tokens : List Token) (is : item (Demand spot (Bound check)) tokens) (t : Tailed tokens) → IsCheckWord t.token.kind
check_word spot check tokens is t = let p = parts_of spot check tokens is in ap (λ (x : Token). x.kind) (head_of (sym t.whole ∙ p.whole)) ∙ p.here.0

module _ (end : Spot) where
  same_end : (front other a b : List Token) → IsElement a → IsElement b → front ++ a ≡ other ++ b → spot_of end a ≡ spot_of end b
  same_end front other a b ia ib e = by_ends (element_end a ia) (element_end b ib)
    where
      by_ends : ByFirst a ⊎ ByClose a → ByFirst b ⊎ ByClose b → spot_of end a ≡ spot_of end b
      by_ends (inl f) (inl g) =
          same_place end front other a b f.token g.token [] [] f.only g.only (last_one front other f.token g.token (ap (λ l. front ++ l) (sym f.only) ∙ e ∙ ap (λ l. other ++ l) g.only))
      by_ends (inl f) (inr c) =
          let same = last_one front (other ++ c.init) f.token c.close (ap (λ l. front ++ l) (sym f.only) ∙ e ∙ ap (λ l. other ++ l) c.whole ∙ sym (append_assoc other c.init (c.close ∷ []))) in
          absurd (first_no_close f.token.kind f.first (ap (λ (t : Token). t.kind) same ∙ c.closes))
      by_ends (inr c) (inl f) =
          let same = last_one other (front ++ c.init) f.token c.close (ap (λ l. other ++ l) (sym f.only) ∙ sym e ∙ ap (λ l. front ++ l) c.whole ∙ sym (append_assoc front c.init (c.close ∷ []))) in
          absurd (first_no_close f.token.kind f.first (ap (λ (t : Token). t.kind) same ∙ c.closes))
      by_ends (inr c) (inr d) =
          let s = demand_tailed c.spot (Bound c.check) a c.is in
          let t = demand_tailed d.spot (Bound d.check) b d.is in
          same_place end front other a b s.token t.token s.others t.others s.whole t.whole (one_check front other a b s t (check_word c.spot c.check a c.is s) (check_word d.spot d.check b d.is t) e)

  -- the first of two elements that pass a limit
  sooner : (front element other later : List Token) → IsElement element → IsElement later → PassesNone front → PassesNone other → (BeginsSmall (front ++ element) → ⊥) → (token : Token) (extra : List Token)
      → other ++ later ≡ (front ++ element) ++ token ∷ extra → spot_of end element ≡ spot_of end later
  sooner front element other later ie il none_front none_other past token extra e = by_order (compared other (front ++ element) later (token ∷ extra) e)
    where
      by_order : Ahead other (front ++ element) later (token ∷ extra) ⊎ (Ahead (front ++ element) other (token ∷ extra) later ⊎ ((other ≡ front ++ element) × (later ≡ token ∷ extra))) → spot_of end element ≡ spot_of end later
      by_order (inr (inl a)) = absurd (past (small_part other none_other front element (a.token ∷ a.extra) ie a.longer))
      by_order (inr (inr same)) = absurd (past (small_part other none_other front element [] ie (same.0 ∙ sym (append-nil (front ++ element)))))
      by_order (inl a) = by_later (element_end later il)
        where
          by_later : ByFirst later ⊎ ByClose later → spot_of end element ≡ spot_of end later
          by_later (inl f) = let bad : [] ≡ a.extra ++ token ∷ extra = tail_of (sym f.only ∙ a.left) in absurd (some (no_tokens a.extra (token ∷ extra) (sym bad)))
            where
              some : token ∷ extra ≡ [] → ⊥
              some e = absurd cc
          by_later (inr c) = by_extra a.extra a.longer a.left (element_end element ie)
            where
              after : token ∷ extra ≡ [] → ⊥
              after e = absurd cc

              by_extra : (ys : List Token) → front ++ element ≡ other ++ a.token ∷ ys → later ≡ a.token ∷ (ys ++ token ∷ extra) → ByFirst element ⊎ ByClose element → spot_of end element ≡ spot_of end later
              by_extra [] longer left (inl f) =
                  same_place end front other element later f.token a.token [] (token ∷ extra) f.only left (last_one front other f.token a.token (ap (λ l. front ++ l) (sym f.only) ∙ longer))
              by_extra [] longer left (inr d) =
                  let same = last_one (front ++ d.init) other d.close a.token (append_assoc front d.init (d.close ∷ []) ∙ ap (λ l. front ++ l) (sym d.whole) ∙ longer) in
                  let p = parts_of c.spot c.check later c.is in
                  let word : IsCheckWord a.token.kind = ap (λ (t : Token). t.kind) (head_of (sym left ∙ p.whole)) ∙ p.here.0 in
                  let bad : Mark RightParen ≡ Name (codes "check") = sym d.closes ∙ ap (λ (t : Token). t.kind) same ∙ word in absurd cc
              by_extra (y ∷ ys) longer left (inl f) =
                  let x = ends_in front (other ++ a.token ∷ []) ys f.token y (ap (λ l. front ++ l) (sym f.only) ∙ longer ∙ sym (append_assoc other (a.token ∷ []) (y ∷ ys))) in
                  let small = small_part front none_front other (a.token ∷ []) x.rest (word_first left) x.before_is in
                  let whole : later ≡ a.token ∷ (x.rest ++ f.token ∷ (token ∷ extra)) = left ∙ ap (λ l. a.token ∷ l) (ap (λ l. l ++ token ∷ extra) x.is ∙ append_assoc x.rest (f.token ∷ []) (token ∷ extra)) in
                  let named = named_small other a.token x.rest (token ∷ extra) f.token c.spot c.check small (subst (item (Demand c.spot (Bound c.check))) whole c.is) f.first in
                  absurd (past (subst BeginsSmall (sym (longer ∙ ap (λ l. other ++ (a.token ∷ l)) x.is)) named))
                where
                  word_first : later ≡ a.token ∷ (y ∷ ys ++ token ∷ extra) → IsElement (a.token ∷ [])
                  word_first left = let p = parts_of c.spot c.check later c.is in
                      First a.token (subst IsFirst (sym (ap (λ (t : Token). t.kind) (head_of (sym left ∙ p.whole)) ∙ p.here.0)) tt)
              by_extra (y ∷ ys) longer left (inr d) =
                  let x = ends_in (front ++ d.init) (other ++ a.token ∷ []) ys d.close y (append_assoc front d.init (d.close ∷ []) ∙ ap (λ l. front ++ l) (sym d.whole) ∙ longer ∙ sym (append_assoc other (a.token ∷ []) (y ∷ ys))) in
                  let whole : later ≡ a.token ∷ (x.rest ++ d.close ∷ (token ∷ extra)) = left ∙ ap (λ l. a.token ∷ l) (ap (λ l. l ++ token ∷ extra) x.is ∙ append_assoc x.rest (d.close ∷ []) (token ∷ extra)) in
                  absurd (not_inside a.token c.spot c.check later x.rest (token ∷ extra) d.close c.is whole d.closes after)

module _ (tokens : List Token) (end : Spot) where
  closed_at : (a : Refusal) (m : IsMisplaced tokens end a) (other last : List Token) → Begins other → Ahead m.front other m.rest last → ⊥
  closed_at a m other last begins ahead =
      m.closed ahead.token (ahead.extra ++ last) ahead.left
      (begins_front (m.front ++ ahead.token ∷ []) ahead.extra (subst Begins (ahead.longer ∙ sym (append_assoc m.front (ahead.token ∷ []) ahead.extra)) begins))

  never_both : (a b : Refusal) → IsMisplaced tokens end a → IsTooMany tokens end b → ⊥
  never_both a b m t = by_order (compared m.front (t.front ++ t.element) m.rest t.rest (sym m.whole ∙ t.whole))
    where
      by_order : Ahead m.front (t.front ++ t.element) m.rest t.rest ⊎ (Ahead (t.front ++ t.element) m.front t.rest m.rest ⊎ ((m.front ≡ t.front ++ t.element) × (m.rest ≡ t.rest))) → ⊥
      by_order (inl ahead) = closed_at a m (t.front ++ t.element) t.rest t.begins ahead
      by_order (inr (inl ahead)) = t.past (small_part m.front m.small t.front t.element (ahead.token ∷ ahead.extra) t.is ahead.longer)
      by_order (inr (inr same)) = t.past (small_part m.front m.small t.front t.element [] t.is (same.0 ∙ sym (append-nil (t.front ++ t.element))))

  one_rest : (a b : Refusal) (m : IsMisplaced tokens end a) (n : IsMisplaced tokens end b) → m.rest ≡ n.rest
  one_rest a b m n = by_order (compared m.front n.front m.rest n.rest (sym m.whole ∙ n.whole))
    where
      by_order : Ahead m.front n.front m.rest n.rest ⊎ (Ahead n.front m.front n.rest m.rest ⊎ ((m.front ≡ n.front) × (m.rest ≡ n.rest))) → m.rest ≡ n.rest
      by_order (inl ahead) = absurd (closed_at a m n.front n.rest n.begins ahead)
      by_order (inr (inl ahead)) = absurd (closed_at b n m.front m.rest m.begins ahead)
      by_order (inr (inr same)) = same.1

  one_element : (a b : Refusal) (t : IsTooMany tokens end a) (u : IsTooMany tokens end b) → spot_of end t.element ≡ spot_of end u.element
  one_element a b t u = by_order (compared (t.front ++ t.element) (u.front ++ u.element) t.rest u.rest (sym t.whole ∙ u.whole))
    where
      by_order : Ahead (t.front ++ t.element) (u.front ++ u.element) t.rest u.rest ⊎ (Ahead (u.front ++ u.element) (t.front ++ t.element) u.rest t.rest ⊎ ((t.front ++ t.element ≡ u.front ++ u.element) × (t.rest ≡ u.rest)))
          → spot_of end t.element ≡ spot_of end u.element
      by_order (inl ahead) = sooner end t.front t.element u.front u.element t.is u.is t.small u.small t.past ahead.token ahead.extra ahead.longer
      by_order (inr (inl ahead)) = sym (sooner end u.front u.element t.front t.element u.is t.is u.small t.small u.past ahead.token ahead.extra ahead.longer)
      by_order (inr (inr same)) = same_end end t.front u.front t.element u.element t.is u.is same.0

pub refused_once : RefusedOnce
refused_once tokens end a b (inl m) (inl n) = m.place ∙ (λ i. record { spot = spot_of end (one_rest tokens end a b m n i); code = Syntax }) ∙ sym n.place
refused_once tokens end a b (inl m) (inr t) = absurd (never_both tokens end a b m t)
refused_once tokens end a b (inr t) (inl m) = absurd (never_both tokens end b a m t)
refused_once tokens end a b (inr t) (inr u) = t.place ∙ (λ i. record { spot = one_element tokens end a b t u i; code = Many }) ∙ sym u.place
