-- The tables of a document.
use Rattle.std.proofs.Common.{◌≡◌, ◌∙◌, ℕ, suc, ◌+◌, ◌<◌, ◌≤◌, ◌⊎◌, inl, inr, Bool, true, false, ◌&&◌, ◌||◌, nat_le, List, [], ◌∷◌, ◌++◌, length, Ok, refl, sym, ap, subst, arith, append_assoc, append-nil, codes}
use Rattle.std.specs.List.{AllByRecursion}
use Rattle.std.proofs.lemmas.List.{length-append}
use Rattle.std.proofs.lemmas.Bool.Decides.{nat_tests}
use Rattle.sv_lex.specs.declared.marks.Mark.TheVariants.{LeftParen, RightParen, Comma, Semi, At}
use Rattle.sv_lex.specs.declared.tokens.Token.{Token}
use Rattle.sv_lex.specs.declared.tokens.TokenKind.TheVariants.{Name, Mark}
use Rattle.sv_app.specs.declared.schemas.Kind.{Kind}
use Rattle.sv_app.specs.declared.schemas.Kind.TheVariants as kinds
use Rattle.sv_app.specs.declared.schemas.Merge.TheVariants as merges
use Rattle.sv_app.specs.declared.schemas.Ty.TheVariants as types
use Rattle.sv_app.specs.Schema.{Declaration}
use Rattle.sv_reader.specs.declared.faults.ReadFault.{ReadFault}
use Rattle.sv_schema_reader.specs.Declarations.{invariants_of, declared, declared_behind, all_declared}
use Rattle.sv_reader.specs.Grammar.{◌·◌, nothing, word, name, mark, separated}
use Rattle.sv_schema_reader.specs.Grammar.{table_kind, column, Field, item, Written, table, tables, schema}
use Rattle.sv_schema_reader.specs.Limits.{IsSmallTable, AreSmall}
use Rattle.sv_reader.specs.Reading.{Read, is_kind}
use Rattle.sv_schema_reader.specs.Reading.{table_at, begins_table, invs_in, table_step, schema_at}
use Rattle.sv_schema_reader.specs.Refused.{IsPart, Empty, IsFirst}
use Rattle.sv_schema_reader.proofs.ItemLaws.{next_kind}
use Rattle.sv_schema_reader.proofs.ItemStepLaws.{a_name, name_token, is_a_name, one_kind, both}
use Rattle.sv_reader.proofs.KindLaws.{kind_is, token_of}
use Rattle.sv_reader.proofs.ListLaws.{words_map, snoc}
use Rattle.sv_reader.proofs.MadeLaws.{Made, ended}
use Rattle.sv_reader.proofs.AnswerLaws.{Alike, anything}
use Rattle.sv_reader.proofs.ReadLaws.{Start, Open, Limited, Then, same_limited, after_limited}
use Rattle.sv_reader.proofs.StepLaws.{Stepping, one_step, Step, SmallStep, StepStuck, StepOver, step_inside, step_some, step_took, step_reads, step_all, step_fails, first_law}
use Rattle.sv_schema_reader.proofs.TableLaws.{written, small_table, table_law}
use Rattle.sv_reader.proofs.TurnLaws.{Words, Last, More, TurnStuck, TurnOver, Turning, turns_law}
use Rattle.sv_schema_reader.proofs.MatterLaws.{schemas}

abbrev pub more_tables : List Declaration → List Token → Bool
more_tables ds tokens = begins_table tokens && nat_le 16 (length ds)

abbrev pub TableRoom : List Declaration → Declaration → Type 0
TableRoom ds d = length ds < 16

abbrev pub AnyTable : List Declaration → Declaration → List Token → Type 0
AnyTable ds = Made (λ (t : Written). declared (invs_in ds) t) table

abbrev pub SmallTable : List Declaration → Declaration → List Token → Type 0
SmallTable ds = Made (λ (t : Written). declared (invs_in ds) t) small_table

-- the first token of a table

abbrev pub Opens : Token → Type 0
Opens token = (token.kind ≡ Mark At) ⊎ (token.kind ≡ Name (codes "create"))

record Opened (l : List Token) : Type 0 where
  pub token : Token
  pub back : List Token
  pub whole : l ≡ token ∷ back
  pub is : Opens token

opened_at : (w : List ℕ) (R : List Token → Type 0) (l : List Token) → ((mark At · word w) · R) l → Opened l
opened_at w R l b = record {
  token = b.first.first.token;
  back = b.first.back ++ b.back;
  whole = b.whole ∙ ap (λ x. x ++ b.back) (b.first.whole ∙ ap (λ x. x ++ b.first.back) b.first.first.only);
  is = inl b.first.first.holds;
}

opened : (t : Written) (l : List Token) → table t l → Opened l
opened t l b = by_kind t.kind b
  where
    by_kind : (k : Kind) → (table_kind k · word (codes "create") · word (codes "table") · name t.name · mark LeftParen · separated item t.items · mark RightParen · mark Semi) l → Opened l
    by_kind kinds.Plain b = record {
      token = b.then.first.token;
      back = b.then.back;
      whole = b.whole ∙ ap (λ x. x ++ b.back) b.first ∙ b.then.whole ∙ ap (λ x. x ++ b.then.back) b.then.first.only;
      is = inr b.then.first.holds;
    }
    by_kind kinds.Aoset b = opened_at (codes "AOSET") _ l b
    by_kind kinds.Uoset b = opened_at (codes "UOSET") _ l b
    by_kind kinds.Auset b = opened_at (codes "AUSET") _ l b
    by_kind kinds.Arset b = opened_at (codes "ARSET") _ l b

pub opens_table : (token : Token) (l : List Token) → Opens token → begins_table (token ∷ l) ≡ true
opens_table token l (inl k) = ap (λ x. is_kind (Mark At) x || is_kind (Name (codes "create")) x) k
opens_table token l (inr k) = ap (λ x. is_kind (Mark At) x || is_kind (Name (codes "create")) x) k

pub table_opens : (token : Token) (l : List Token) → begins_table (token ∷ l) ≡ true → Opens token
table_opens token l e = by_at (is_kind (Mark At) token.kind) refl e
  where
    by_at : (a : Bool) → is_kind (Mark At) token.kind ≡ a → a || is_kind (Name (codes "create")) token.kind ≡ true → Opens token
    by_at true a e = inl (kind_is (Mark At) token.kind a)
    by_at false a e = inr (kind_is (Name (codes "create")) token.kind e)

begins_alike : (a b : List Token) → Alike a b → begins_table a ≡ begins_table b
begins_alike a b alike = λ i. next_kind (Mark At) a b alike i || next_kind (Name (codes "create")) a b alike i

table_begins : (t : Written) (front rest : List Token) → table t front → begins_table (front ++ rest) ≡ true
table_begins t front rest is = let o = opened t front is in ap (λ l. begins_table (l ++ rest)) o.whole ∙ opens_table o.token (o.back ++ rest) o.is

-- a table may begin so

a_column : (column (record { name = a_name; ty = types.Int; merge = merges.Plain })) (name_token ∷ token_of (Name (codes "int")) ∷ [])
a_column = both (name_token ∷ []) (token_of (Name (codes "int")) ∷ []) is_a_name (both (token_of (Name (codes "int")) ∷ []) [] (one_kind (Name (codes "int"))) refl)

abbrev a_table : Kind → Written
a_table k = written k a_name (Field (record { name = a_name; ty = types.Int; merge = merges.Plain }) ∷ [])

abbrev behind_create : List Token
behind_create = token_of (Name (codes "table")) ∷ name_token ∷ token_of (Mark LeftParen) ∷ name_token ∷ token_of (Name (codes "int")) ∷ token_of (Mark RightParen) ∷ token_of (Mark Semi) ∷ []

created : (token : Token) → token.kind ≡ Name (codes "create")
    → (word (codes "create") · word (codes "table") · name a_name · mark LeftParen · separated item (a_table kinds.Plain).items · mark RightParen · mark Semi) (token ∷ behind_create)
created token k = both (token ∷ []) behind_create (record { token = token; only = refl; holds = k })
    (both (token_of (Name (codes "table")) ∷ []) _ (one_kind (Name (codes "table"))) (both (name_token ∷ []) _ is_a_name (both (token_of (Mark LeftParen) ∷ []) _ (one_kind (Mark LeftParen))
    (both (name_token ∷ token_of (Name (codes "int")) ∷ []) _ (both (name_token ∷ token_of (Name (codes "int")) ∷ []) [] a_column refl)
    (both (token_of (Mark RightParen) ∷ []) _ (one_kind (Mark RightParen)) (one_kind (Mark Semi)))))))

pub start_table : (count : ℕ) (token : Token) → Opens token → Start (Made (λ (t : Written). declared count t) table) (token ∷ [])
start_table count token (inr k) = record {
  more = behind_create;
  item = declared count (a_table kinds.Plain);
  is = record { «from» = a_table kinds.Plain; is = both [] (token ∷ behind_create) refl (created token k); made = refl };
}
start_table count token (inl k) = record {
  more = token_of (Name (codes "UOSET")) ∷ token_of (Name (codes "create")) ∷ behind_create;
  item = declared count (a_table kinds.Uoset);
  is = record {
    «from» = a_table kinds.Uoset;
    is = both (token ∷ token_of (Name (codes "UOSET")) ∷ []) (token_of (Name (codes "create")) ∷ behind_create)
        (both (token ∷ []) (token_of (Name (codes "UOSET")) ∷ []) (record { token = token; only = refl; holds = k }) (one_kind (Name (codes "UOSET")))) (created (token_of (Name (codes "create"))) refl);
    made = refl;
  };
}

first_opens : (token : Token) → Opens token → IsFirst token.kind
first_opens token (inl k) = subst (λ x. IsFirst x) (sym k) refl
first_opens token (inr k) = subst (λ x. IsFirst x) (sym k) tt

and_first : (a b : Bool) → a && b ≡ true → a ≡ true
and_first true b e = refl
and_first false b e = absurd cc

roomy : (a : Bool) (n : ℕ) → a ≡ true → a && nat_le 16 n ≡ false → n < 16
roomy true n t e = grind (arith, nat_tests, e)
roomy false n t e = absurd cc

room : (a : Bool) (n : ℕ) → n < 16 → a && nat_le 16 n ≡ false
room true n lt = grind (arith, nat_tests, lt)
room false n lt = refl

pub table_stepping : Stepping schemas anything more_tables (λ ds. table_at (invs_in ds)) AnyTable SmallTable TableRoom
table_stepping = record {
  alike = λ ds a b alike. ap (λ t. t && nat_le 16 (length ds)) (begins_alike a b alike);
  law = λ ds. table_law (invs_in ds);
  some = λ ds d l m e. let o = opened m.«from» l m.is in let bad : o.token ∷ o.back ≡ [] = sym o.whole ∙ e in absurd cc;
  fits = λ ds d front rest m e. roomy (begins_table (front ++ rest)) (length ds) (table_begins m.«from» front rest m.is.0) e;
  roomy = λ ds d front rest m lt. room (begins_table (front ++ rest)) (length ds) lt;
  ends = λ ds. refl;
  passing = λ ds token l e. let o = table_opens token l (and_first (begins_table (token ∷ l)) (nat_le 16 (length ds)) e) in (first_opens token o, start_table (invs_in ds) token o);
  no_comma = λ ds d token l m e. comma_opens token (opened_first token l (opened m.«from» (token ∷ l) m.is)) e;
}
  where
    cons_first : {x y : Token} {xs ys : List Token} → x ∷ xs ≡ y ∷ ys → x ≡ y
    cons_first e = cc

    opened_first : (token : Token) (l : List Token) → Opened (token ∷ l) → Opens token
    opened_first token l o = subst (λ t. Opens t) (sym (cons_first o.whole)) o.is

    comma_opens : (token : Token) → Opens token → token.kind ≡ Mark Comma → ⊥
    comma_opens token (inl k) e = let bad : At ≡ Comma = let marks : Mark At ≡ Mark Comma = sym k ∙ e in cc in absurd cc
    comma_opens token (inr k) e = let bad : Name (codes "create") ≡ Mark Comma = sym k ∙ e in absurd cc

abbrev pub AnyStep : List Declaration → List Declaration → List Token → Type 0
AnyStep = Step table_stepping snoc

abbrev pub SmallOne : List Declaration → List Declaration → List Token → Type 0
SmallOne = SmallStep table_stepping snoc

abbrev pub keep : List Declaration → List Token → Read (List Declaration)
keep ds tokens = Ok (ds, tokens)

pub table_turning : Turning schemas anything begins_table begins_table (one_step table_stepping snoc) keep AnyStep SmallOne nothing
table_turning = record {
  alike = begins_alike;
  inside = step_inside table_stepping snoc;
  some = λ s m l is e. step_some table_stepping snoc s m l (step_inside table_stepping snoc s m l is) e;
  took = λ s tokens m rest t e. step_took table_stepping snoc s tokens m rest e;
  reads = λ s m front rest is clear. step_reads table_stepping snoc s m front rest is clear;
  all = λ s m front rest is clear. step_all table_stepping snoc s m front rest is clear;
  first = λ s m front rest m'. table_begins m'.is.«from» front rest m'.is.is;
  fails = λ s tokens fault t e. by_fault s tokens fault (step_fails table_stepping snoc s tokens fault e);
  ends = λ s. ended schemas begins_table s;
  stop = λ l rest is clear. ap (λ x. begins_table (x ++ rest)) is ∙ clear;
  near_turn = λ s m front rest is. refl;
  near_end = λ l rest is clear. refl;
}
  where
    small : (s : List Declaration) (front : List Token) → Open schemas (SmallOne s) front ⊎ (front ≡ []) → Open schemas (SmallOne s) front ⊎ IsPart [] front
    small s front (inl opened) = inl opened
    small s front (inr e) = inr (subst (λ l. IsPart [] l) (sym e) (Empty []))

    by_fault : (s : List Declaration) (tokens : List Token) (fault : ReadFault) → StepStuck table_stepping snoc s tokens fault ⊎ StepOver table_stepping snoc s tokens fault
        → TurnStuck schemas (AnyStep s) (SmallOne s) (one_step table_stepping snoc s) tokens fault ⊎ TurnOver schemas (AnyStep s) (SmallOne s) (one_step table_stepping snoc s) tokens fault
    by_fault s tokens fault (inl stuck) = inl (record { front = stuck.front; rest = stuck.rest; whole = stuck.whole; place = stuck.place; small = small s stuck.front stuck.small; begins = stuck.begins; again = stuck.again })
    by_fault s tokens fault (inr over) = inr (record { front = over.front; element = over.element; rest = over.rest; whole = over.whole; place = over.place; is = over.is; small = small s over.front over.small; begins = over.begins; again = over.again })

-- tables one after another

pub invs_more : (ds : List Declaration) (d : Declaration) → invs_in (ds ++ d ∷ []) ≡ invs_in ds + length d.invs
invs_more [] d = omega arith
invs_more (e ∷ ds) d = let more = invs_more ds d in omega (arith, more)

abbrev Rooms : (ℕ → Type 0) → ℕ → List Written → Type 0
Rooms R n [] = Unit {0}
Rooms R n (t ∷ ts) = R n × Rooms R (suc n) ts

-- a table of which something holds, behind so many others
abbrev SuchStep : (Written → Type 0) → (ℕ → Type 0) → List Declaration → List Declaration → List Token → Type 0
SuchStep V R ds = Made (snoc ds) (λ d l. Made (λ (t : Written). declared (invs_in ds) t) (λ t l. table t l × V t) d l × R (length ds))

record Tabled (V : Written → Type 0) (R : ℕ → Type 0) (ds e : List Declaration) (l : List Token) : Type 0 where
  pub written : List Written
  pub made : e ≡ ds ++ declared_behind (invs_in ds) written
  pub is : tables written l
  pub each : AllByRecursion V written
  pub rooms : Rooms R (length ds) written

module _ (V : Written → Type 0) (R : ℕ → Type 0) where
  tabled_more : (ds m e : List Declaration) (front back : List Token) → SuchStep V R ds m front → Tabled V R m e back → Tabled V R ds e (front ++ back)
  tabled_more ds m e front back step more =
      let t = step.is.0.«from» in
      let one : m ≡ ds ++ declared (invs_in ds) t ∷ [] = step.made ∙ ap (λ d. ds ++ d ∷ []) step.is.0.made in
      let count : invs_in (ds ++ declared (invs_in ds) t ∷ []) ≡ invs_in ds + length (invariants_of (invs_in ds) t.items) = invs_more ds (declared (invs_in ds) t) in
      let many : length (ds ++ declared (invs_in ds) t ∷ []) ≡ suc (length ds) = length-append ds (declared (invs_in ds) t ∷ []) ∙ omega arith in record {
        written = t ∷ more.written;
        made = more.made ∙ ap (λ x. x ++ declared_behind (invs_in x) more.written) one
            ∙ ap (λ n. ds ++ declared (invs_in ds) t ∷ [] ++ declared_behind n more.written) count
            ∙ append_assoc ds (declared (invs_in ds) t ∷ []) (declared_behind (invs_in ds + length (invariants_of (invs_in ds) t.items)) more.written);
        is = record { front = front; back = back; whole = refl; first = step.is.0.is.0; then = more.is };
        each = (step.is.0.is.1, more.each);
        rooms = (step.is.1, subst (λ n. Rooms R n more.written) (ap length one ∙ many) more.rooms);
      }

  words_tabled : (ds e : List Declaration) (l : List Token) → Words (SuchStep V R) nothing ds e l → Tabled V R ds e l
  words_tabled _ _ _ (Last ds l is) = record { written = []; made = sym (append-nil ds); is = is; each = tt; rooms = tt }
  words_tabled _ _ _ (More ds m e front back step more) = tabled_more ds m e front back step (words_tabled m e back more)

  tabled_words : (ds : List Declaration) (ts : List Written) (l : List Token) → tables ts l → AllByRecursion V ts → Rooms R (length ds) ts → Words (SuchStep V R) nothing ds (ds ++ declared_behind (invs_in ds) ts) l
  tabled_words ds [] l is each rooms = subst (λ e. Words (SuchStep V R) nothing ds e l) (sym (append-nil ds)) (Last ds l is)
  tabled_words ds (t ∷ ts) l b each rooms =
      let one : Declaration = declared (invs_in ds) t in
      let count : invs_in (ds ++ one ∷ []) ≡ invs_in ds + length (invariants_of (invs_in ds) t.items) = invs_more ds one in
      let many : length (ds ++ one ∷ []) ≡ suc (length ds) = length-append ds (one ∷ []) ∙ omega arith in
      let end : ds ++ one ∷ [] ++ declared_behind (invs_in (ds ++ one ∷ [])) ts ≡ ds ++ declared_behind (invs_in ds) (t ∷ ts)
      = ap (λ n. ds ++ one ∷ [] ++ declared_behind n ts) count ∙ append_assoc ds (one ∷ []) (declared_behind (invs_in ds + length (invariants_of (invs_in ds) t.items)) ts) in
      subst (λ x. Words (SuchStep V R) nothing ds (ds ++ declared_behind (invs_in ds) (t ∷ ts)) x) (sym b.whole)
      (subst (λ e. Words (SuchStep V R) nothing ds e (b.front ++ b.back)) end
      (More ds (ds ++ one ∷ []) (ds ++ one ∷ [] ++ declared_behind (invs_in (ds ++ one ∷ [])) ts) b.front b.back
      (record { «from» = one; is = (record { «from» = t; is = (b.first, each.0); made = refl }, rooms.0); made = refl })
      (tabled_words (ds ++ one ∷ []) ts b.back b.then each.1 (subst (λ n. Rooms R n ts) (sym many) rooms.1))))

  -- with at least one table

  first_tabled : (e : List Declaration) (l : List Token) → Then (SuchStep V R []) (λ m. Words (SuchStep V R) nothing m) e l → Made all_declared (λ ts l. schema ts l × (AllByRecursion V ts × Rooms R 0 ts)) e l
  unfolding tabled_more
  first_tabled e l t =
      let more = tabled_more [] t.head e t.parts.front t.parts.back t.parts.first (words_tabled t.head e t.parts.back t.parts.then) in record {
        «from» = more.written;
        is = (subst (λ x. schema more.written x) (sym t.parts.whole) more.is, (more.each, more.rooms));
        made = more.made;
      }

  tabled_first : (e : List Declaration) (l : List Token) → Made all_declared (λ ts l. schema ts l × (AllByRecursion V ts × Rooms R 0 ts)) e l → Then (SuchStep V R []) (λ m. Words (SuchStep V R) nothing m) e l
  tabled_first e l m = by_tables m.«from» m.made m.is.0 m.is.1.0 m.is.1.1
    where
      by_tables : (ts : List Written) → e ≡ all_declared ts → schema ts l → AllByRecursion V ts → Rooms R 0 ts → Then (SuchStep V R []) (λ m. Words (SuchStep V R) nothing m) e l
      by_tables [] made never each rooms = absurd never
      by_tables (t ∷ ts) made b each rooms =
          let one : Declaration = declared 0 t in
          let count : length (invariants_of 0 t.items) + 0 ≡ 0 + length (invariants_of 0 t.items) = omega arith in
          let end : one ∷ declared_behind (length (invariants_of 0 t.items) + 0) ts ≡ e = ap (λ n. one ∷ declared_behind n ts) count ∙ sym made in record {
            head = one ∷ [];
            parts = record {
              front = b.front;
              back = b.back;
              whole = b.whole;
              first = record { «from» = one; is = (record { «from» = t; is = (b.first, each.0); made = refl }, rooms.0); made = refl };
              then = subst (λ x. Words (SuchStep V R) nothing (one ∷ []) x b.back) end (tabled_words (one ∷ []) ts b.back b.then each.1 rooms.1);
            };
          }

abbrev AnyOf : Written → Type 0
AnyOf t = Unit {0}

abbrev AnyRoom : ℕ → Type 0
AnyRoom n = Unit {0}

abbrev FewRoom : ℕ → Type 0
FewRoom n = n < 16

every : (ts : List Written) → AllByRecursion AnyOf ts
every [] = tt
every (t ∷ ts) = (tt, every ts)

all_rooms : (n : ℕ) (ts : List Written) → Rooms AnyRoom n ts
all_rooms n [] = tt
all_rooms n (t ∷ ts) = (tt, all_rooms (suc n) ts)

few_rooms : (n : ℕ) (ts : List Written) → n ≤ 16 → Rooms FewRoom n ts → n + length ts ≤ 16
few_rooms n [] le rooms = omega (arith, le)
few_rooms n (t ∷ ts) le rooms = let more = few_rooms (suc n) ts (omega (arith, rooms.0)) rooms.1 in omega (arith, more)

rooms_few : (n : ℕ) (ts : List Written) → n + length ts ≤ 16 → Rooms FewRoom n ts
rooms_few n [] le = tt
rooms_few n (t ∷ ts) le = (omega (arith, le), rooms_few (suc n) ts (omega (arith, le)))

any_such : (ds m : List Declaration) (l : List Token) → AnyStep ds m l → SuchStep AnyOf AnyRoom ds m l
any_such ds m l s = record { «from» = s.«from»; is = (record { «from» = s.is.«from»; is = (s.is.is, tt); made = s.is.made }, tt); made = s.made }

such_any : (ds m : List Declaration) (l : List Token) → SuchStep AnyOf AnyRoom ds m l → AnyStep ds m l
such_any ds m l s = record { «from» = s.«from»; is = record { «from» = s.is.0.«from»; is = s.is.0.is.0; made = s.is.0.made }; made = s.made }

then_words : {X Y : List Declaration → List Declaration → List Token → Type 0} → ((ds m : List Declaration) (l : List Token) → X ds m l → Y ds m l)
    → (e : List Declaration) (l : List Token) → Then (X []) (λ m. Words X nothing m) e l → Then (Y []) (λ m. Words Y nothing m) e l
then_words map e l t = record { head = t.head; parts = record { front = t.parts.front; back = t.parts.back; whole = t.parts.whole; first = map [] t.head t.parts.front t.parts.first; then = words_map map t.head e t.parts.back t.parts.then } }

abbrev pub small_schema : List Written → List Token → Type 0
small_schema ts l = schema ts l × AreSmall ts

pub step_is : (ds : List Declaration) (tokens : List Token) → table_step ds tokens ≡ one_step table_stepping snoc ds tokens
unfolding table_step
step_is ds tokens = refl

pub schema_law : Limited schemas begins_table (Made all_declared schema) (Made all_declared small_schema) schema_at
unfolding schema_at table_step
schema_law = same_limited
    (after_limited (first_law table_stepping snoc [] free (λ d. omega arith)) (λ m. turns_law table_turning m) (λ m e tokens rest is ends. refl))
    (λ e l t. let m = first_tabled AnyOf AnyRoom e l (then_words any_such e l t) in record { «from» = m.«from»; is = m.is.0; made = m.made })
    (λ e l m. then_words such_any e l (tabled_first AnyOf AnyRoom e l (record { «from» = m.«from»; is = (m.is, (every m.«from», all_rooms 0 m.«from»)); made = m.made })))
    (λ e l t. let m = first_tabled IsSmallTable FewRoom e l t in record { «from» = m.«from»; is = (m.is.0, record { count = let le = few_rooms 0 m.«from» (omega arith) m.is.1.1 in omega (arith, le); each = m.is.1.0 }); made = m.made })
    (λ e l m. tabled_first IsSmallTable FewRoom e l (record { «from» = m.«from»; is = (m.is.0, (m.is.1.each, rooms_few 0 m.«from» (omega (arith, m.is.1.count)))); made = m.made }))
  where
    free : (l : List Token) → more_tables [] l ≡ false
    free l = room (begins_table l) 0 (omega arith)
