-- Reading equals the grammar: what is read is in it, what is in it is read, and where it is refused.
use Rattle.std.proofs.Common.{◌≡◌, ◌∙◌, ℕ, ◌+◌, ◌-◌, ◌≤◌, ◌⊎◌, inl, inr, Bool, true, false, List, [], ◌∷◌, ◌++◌, length, take, drop, Ok, Err, refl, sym, ap, subst, arith, append_assoc, append-nil}
use Rattle.std.proofs.lemmas.List.{length-append, length-drop, drop-drop}
use Rattle.sv_value.specs.declared.spots.Spot.{Spot}
use Rattle.sv_lex.specs.declared.tokens.Token.{Token}
use Rattle.sv_app.specs.declared.refusals.Code.TheVariants.{Syntax, Many}
use Rattle.sv_app.specs.Schema.{Declaration}
use Rattle.sv_reader.specs.declared.faults.ReadFault.{ReadFault}
use Rattle.sv_schema_reader.specs.Declarations.{declared, all_declared}
use Rattle.sv_schema_reader.specs.Grammar.{Written, table, tables, schema}
use Rattle.sv_schema_reader.specs.Limits.{AreSmall}
use Rattle.sv_reader.specs.Reading.{Read, refuse, IsLeft}
use Rattle.sv_schema_reader.specs.Reading.{begins_table, schema_at}
use Rattle.sv_reader.specs.Places.{spot_of}
use Rattle.sv_schema_reader.specs.Refused.{Begins, BeginsSmall, PassesNone, IsMisplaced, IsTooMany, IsRefused, BeginsTable, IsRead}
use Rattle.sv_reader.proofs.MadeLaws.{Made}
use Rattle.sv_reader.proofs.AnswerLaws.{Alike, alike_same, same_read, many_syntax, left_read}
use Rattle.sv_reader.proofs.ReadLaws.{Start, Open, Took, Stuck, Over, Passes}
use Rattle.sv_schema_reader.proofs.SchemaLaws.{small_schema, schema_law, start_table, table_opens, opens_table}
use Rattle.sv_schema_reader.proofs.MatterLaws.{schemas}
use Rattle.sv_reader.proofs.CutLaws.{cut_at}

abbrev Whole : List Declaration → List Token → Type 0
Whole = Made all_declared schema

abbrev SmallWhole : List Declaration → List Token → Type 0
SmallWhole = Made all_declared small_schema

-- a table begins where the test says so

no_table : (tokens : List Token) → (BeginsTable tokens → ⊥) → begins_table tokens ≡ false
no_table [] never = refl
no_table (token ∷ others) never = by_test (begins_table (token ∷ others)) refl
  where
    by_test : (b : Bool) → begins_table (token ∷ others) ≡ b → b ≡ false
    by_test true e = absurd (never (table_opens token others e))
    by_test false e = refl

table_none : (tokens : List Token) → begins_table tokens ≡ false → BeginsTable tokens → ⊥
table_none [] e never = never
table_none (token ∷ others) e opens = let bad : true ≡ false = sym (opens_table token others opens) ∙ e in absurd cc

-- what is read

-- one table more

tables_more : (ts : List Written) (t : Written) (front back : List Token) → tables ts front → table t back → tables (ts ++ t ∷ []) (front ++ back)
tables_more [] t front back none is = record { front = back; back = []; whole = ap (λ l. l ++ back) none ∙ sym (append-nil back); first = is; then = refl }
tables_more (u ∷ ts) t front back b is = record {
  front = b.front;
  back = b.back ++ back;
  whole = ap (λ l. l ++ back) b.whole ∙ append_assoc b.front b.back back;
  first = b.first;
  then = tables_more ts t b.back back b.then is;
}

schema_more : (ts : List Written) (t : Written) (front back : List Token) → schema ts front → table t back → schema (ts ++ t ∷ []) (front ++ back)
schema_more [] t front back never is = absurd never
schema_more (u ∷ ts) t front back b is = tables_more (u ∷ ts) t front back b is

opens : (tokens : List Token) → begins_table tokens ≡ true → (token : Token) × (others : List Token) × (tokens ≡ token ∷ others) × Start (Made (λ (t : Written). declared 0 t) table) (token ∷ [])
opens [] e = absurd cc
opens (token ∷ others) e = (token, others, refl, start_table 0 token (table_opens token others e))

-- behind whole tables stands no other one that was not read
not_before : (front rest : List Token) (ts : List Written) (answer : Read (List Declaration)) → schema ts front → begins_table rest ≡ true
    → ((last : List Token) → Alike rest last → (schema_at (front ++ last) ≡ refuse Syntax last) ⊎ ((ds : List Declaration) × (schema_at (front ++ last) ≡ Ok (ds, last)))) → ⊥
not_before front rest ts answer is e again =
    let o = opens rest e in
    let start = o.3 in
    let last : List Token = o.0 ∷ start.more in
    by_answer o.0 start.more (schema_law.all (all_declared (ts ++ start.is.«from» ∷ [])) (front ++ last) [] (record { «from» = ts ++ start.is.«from» ∷ []; is = schema_more ts start.is.«from» front last is start.is.is; made = refl }) refl)
    (again last (subst (λ l. Alike l last) (sym o.2) refl))
  where
    by_answer : (token : Token) (more : List Token) {ds : List Declaration} → (schema_at (front ++ token ∷ more ++ []) ≡ Ok (ds, [])) ⊎ Passes (schema_at (front ++ token ∷ more ++ []))
        → (schema_at (front ++ token ∷ more) ≡ refuse Syntax (token ∷ more)) ⊎ ((ds : List Declaration) × (schema_at (front ++ token ∷ more) ≡ Ok (ds, token ∷ more))) → ⊥
    by_answer token more {ds} read answer = by_both (subst (λ l. (schema_at l ≡ Ok (ds, [])) ⊎ Passes (schema_at l)) (append-nil (front ++ token ∷ more)) read) answer
      where
        by_both : (schema_at (front ++ token ∷ more) ≡ Ok (ds, [])) ⊎ Passes (schema_at (front ++ token ∷ more))
            → (schema_at (front ++ token ∷ more) ≡ refuse Syntax (token ∷ more)) ⊎ ((ds : List Declaration) × (schema_at (front ++ token ∷ more) ≡ Ok (ds, token ∷ more))) → ⊥
        by_both (inl a) (inl b) = let bad : ◌≡◌ {A = Read (List Declaration)} (Ok (ds, [])) (refuse Syntax (token ∷ more)) = sym a ∙ b in absurd cc
        by_both (inl a) (inr b) = let rests : [] ≡ token ∷ more = (same_read (sym a ∙ b.1)).rests in absurd cc
        by_both (inr many) (inl b) = many_syntax many.left (length (token ∷ more)) (sym many.is ∙ b)
        by_both (inr many) (inr b) = let bad : ◌≡◌ {A = Read (List Declaration)} (Err (record { code = Many; left = many.left })) (Ok (b.0, token ∷ more)) = sym many.is ∙ b.1 in absurd cc

-- what is read are tables that keep the limits
pub record Found (tokens : List Token) (ds : List Declaration) (left : ℕ) : Type 0 where
  pub fits : left ≤ length tokens
  pub is : IsRead (take (length tokens - left) tokens) (drop (length tokens - left) tokens) ds

pub found : (tokens : List Token) (ds : List Declaration) (left : ℕ) → IsLeft (schema_at tokens) ds left → Found tokens ds left
found tokens ds left is =
    let read = left_read (schema_at tokens) ds left is in
    let took = schema_law.took tokens ds read.0 read.1 in
    let cut = cut_at took.front read.0 tokens left took.whole read.2 in
    let m = took.is in record {
      fits = cut.fits;
      is = record {
        tables = m.«from»;
        is = subst (λ l. schema m.«from» l) (sym cut.first) m.is.0;
        small = m.is.1;
        declares = m.made;
        ends = subst (λ l. BeginsTable l → ⊥) (sym cut.last) (table_none read.0 (by_test (begins_table read.0) refl took));
      };
    }
  where
    by_test : {rest : List Token} (b : Bool) → begins_table rest ≡ b → Took SmallWhole schema_at tokens ds rest → b ≡ false
    by_test false e took = refl
    by_test {rest} true e took = absurd (not_before took.front rest took.is.«from» (Ok (ds, rest)) took.is.is.0 e (λ last alike. inr (ds, took.again last alike)))

-- tables that keep the limits are read
pub all_found : (front rest : List Token) (ts : List Written) → schema ts front → AreSmall ts → (BeginsTable rest → ⊥) → schema_at (front ++ rest) ≡ Ok (all_declared ts, rest)
all_found front rest ts is small ends = schema_law.reads (all_declared ts) front rest (record { «from» = ts; is = (is, small); made = refl }) (no_table rest ends)

-- where tokens are refused

passes_none : (front : List Token) → Open schemas SmallWhole front → PassesNone front
passes_none front opened = record {
  front = opened.shorter;
  part = opened.part;
  whole = opened.whole;
  begins = record { more = opened.start.more; tables = opened.start.is.«from»; is = opened.start.is.is.0; small = opened.start.is.is.1 };
  is = opened.is;
}

begins_of : (front : List Token) → Start Whole front → Begins front
begins_of front start = record { more = start.more; tables = start.is.«from»; is = start.is.is }

not_stuck : (front last : List Token) (ts : List Written) → schema ts front → begins_table last ≡ false → schema_at (front ++ last) ≡ refuse Syntax last → ⊥
not_stuck front last ts is ends e = by_read (schema_law.all (all_declared ts) front last (record { «from» = ts; is = is; made = refl }) ends)
  where
    by_read : (schema_at (front ++ last) ≡ Ok (all_declared ts, last)) ⊎ Passes (schema_at (front ++ last)) → ⊥
    by_read (inl a) = let bad : ◌≡◌ {A = Read (List Declaration)} (Ok (all_declared ts, last)) (refuse Syntax last) = sym a ∙ e in absurd cc
    by_read (inr many) = many_syntax many.left (length last) (sym many.is ∙ e)

misplaced : (tokens : List Token) (end : Spot) (fault : ReadFault) → Stuck schemas Whole SmallWhole schema_at tokens fault
    → IsMisplaced tokens end (record { spot = spot_of end (drop (length tokens - fault.left) tokens); code = fault.code })
misplaced tokens end fault stuck =
    let left : fault.left ≡ length stuck.rest = λ i. (stuck.place i).left in
    let cut = cut_at stuck.front stuck.rest tokens fault.left stuck.whole (sym left) in record {
      front = stuck.front;
      rest = stuck.rest;
      whole = stuck.whole;
      place = λ i. record { spot = spot_of end (cut.last i); code = (stuck.place i).code };
      small = passes_none stuck.front stuck.small;
      begins = begins_of stuck.front stuck.begins;
      unfinished = λ ts is. by_rest ts is (begins_table stuck.rest) refl;
      closed = closed;
    }
  where
    by_rest : (ts : List Written) → schema ts stuck.front → (b : Bool) → begins_table stuck.rest ≡ b → ⊥
    by_rest ts is false e = not_stuck stuck.front stuck.rest ts is e (stuck.again stuck.rest (alike_same stuck.rest))
    by_rest ts is true e = not_before stuck.front stuck.rest ts (refuse Syntax stuck.rest) is e (λ last alike. inl (stuck.again last alike))

    closed : (token : Token) (others : List Token) → stuck.rest ≡ token ∷ others → Begins (stuck.front ++ token ∷ []) → ⊥
    closed token others e begins =
        let last : List Token = token ∷ begins.more in
        let whole : stuck.front ++ token ∷ [] ++ begins.more ≡ stuck.front ++ last = append_assoc stuck.front (token ∷ []) begins.more in
        not_whole last (subst (λ l. schema begins.tables l) whole begins.is) (stuck.again last (subst (λ l. Alike l last) (sym e) refl))
      where
        not_whole : (last : List Token) → schema begins.tables (stuck.front ++ last) → schema_at (stuck.front ++ last) ≡ refuse Syntax last → ⊥
        not_whole last is e = by_read (schema_law.all (all_declared begins.tables) (stuck.front ++ last) [] (record { «from» = begins.tables; is = is; made = refl }) refl)
          where
            same : stuck.front ++ last ++ [] ≡ stuck.front ++ last
            same = append-nil (stuck.front ++ last)

            by_read : (schema_at (stuck.front ++ last ++ []) ≡ Ok (all_declared begins.tables, [])) ⊎ Passes (schema_at (stuck.front ++ last ++ [])) → ⊥
            by_read (inl a) = let bad : ◌≡◌ {A = Read (List Declaration)} (Ok (all_declared begins.tables, [])) (refuse Syntax last) = sym a ∙ ap schema_at same ∙ e in absurd cc
            by_read (inr many) = many_syntax many.left (length last) (sym many.is ∙ ap schema_at same ∙ e)

too_many : (tokens : List Token) (end : Spot) (fault : ReadFault) → Over schemas Whole SmallWhole schema_at tokens fault
    → IsTooMany tokens end (record { spot = spot_of end (drop (length tokens - fault.left) tokens); code = fault.code })
too_many tokens end fault over =
    let left : fault.left ≡ length (over.element ++ over.rest) = λ i. (over.place i).left in
    let cut = cut_at over.front (over.element ++ over.rest) tokens fault.left (over.whole ∙ append_assoc over.front over.element over.rest) (sym left) in
    let some = schemas.headed over.element over.is in
    let spot : spot_of end (over.element ++ over.rest) ≡ spot_of end over.element = subst (λ l. spot_of end (l ++ over.rest) ≡ spot_of end l) (sym some.whole) refl in record {
      front = over.front;
      element = over.element;
      rest = over.rest;
      whole = over.whole;
      place = (λ i. record { spot = spot_of end (cut.last i); code = (over.place i).code }) ∙ (λ i. record { spot = spot i; code = Many });
      is = over.is;
      small = passes_none over.front over.small;
      begins = begins_of (over.front ++ over.element) over.begins;
      past = past;
    }
  where
    past : BeginsSmall (over.front ++ over.element) → ⊥
    past small =
        let read = schema_law.reads (all_declared small.tables) (over.front ++ over.element ++ small.more) [] (record { «from» = small.tables; is = (small.is, small.small); made = refl }) refl in
        let bad : ◌≡◌ {A = Read (List Declaration)} (Ok (all_declared small.tables, [])) (refuse Many (over.element ++ small.more))
        = sym read ∙ ap schema_at (append-nil (over.front ++ over.element ++ small.more)) ∙ over.again small.more in
        absurd cc

pub refused : (tokens : List Token) (end : Spot) (fault : ReadFault) → schema_at tokens ≡ Err fault → IsRefused tokens end (record { spot = spot_of end (drop (length tokens - fault.left) tokens); code = fault.code })
refused tokens end fault e = by_fault (schema_law.fails tokens fault e)
  where
    by_fault : Stuck schemas Whole SmallWhole schema_at tokens fault ⊎ Over schemas Whole SmallWhole schema_at tokens fault → IsRefused tokens end (record { spot = spot_of end (drop (length tokens - fault.left) tokens); code = fault.code })
    by_fault (inl stuck) = inl (misplaced tokens end fault stuck)
    by_fault (inr over) = inr (too_many tokens end fault over)

-- from a place on

pub record FoundAt (tokens : List Token) (at : ℕ) (ds : List Declaration) (left : ℕ) : Type 0 where
  pub fits : left ≤ length tokens
  pub behind : at ≤ length tokens - left
  pub is : IsRead (take (length tokens - left - at) (drop at tokens)) (drop (length tokens - left) tokens) ds
  pub all : (front rest : List Token) (ts : List Written) → drop at tokens ≡ front ++ rest → schema ts front → AreSmall ts → (BeginsTable rest → ⊥) → (ds ≡ all_declared ts) × (length tokens - left ≡ at + length front)

pub found_at : (tokens : List Token) (at : ℕ) (ds : List Declaration) (left : ℕ) → at ≤ length tokens → IsLeft (schema_at (drop at tokens)) ds left → FoundAt tokens at ds left
found_at tokens at ds left le is =
    let f = found (drop at tokens) ds left is in
    let n : length (drop at tokens) ≡ length tokens - at = length-drop at tokens in
    let first : length (drop at tokens) - left ≡ length tokens - left - at = omega (arith, n) in
    let last : drop (length (drop at tokens) - left) (drop at tokens) ≡ drop (length tokens - left) tokens
    = drop-drop (length (drop at tokens) - left) at tokens ∙ (let k : at + (length (drop at tokens) - left) ≡ length tokens - left = omega (arith, n, f.fits, le) in ap (λ m. drop m tokens) k) in record {
      fits = omega (arith, n, f.fits);
      behind = omega (arith, n, f.fits, le);
      is = subst (λ l. IsRead (take (length tokens - left - at) (drop at tokens)) l ds) last (subst (λ m. IsRead (take m (drop at tokens)) (drop (length (drop at tokens) - left) (drop at tokens)) ds) first f.is);
      all = λ front rest ts whole written small ends.
          let read : schema_at (drop at tokens) ≡ Ok (all_declared ts, rest) = ap schema_at whole ∙ all_found front rest ts written small ends in
          let here : IsLeft (Ok (all_declared ts, rest)) ds left = subst (λ (r : Read (List Declaration)). IsLeft r ds left) read is in
          let long : length (drop at tokens) ≡ length front + length rest = ap length whole ∙ length-append front rest in
          (sym here.0, omega (arith, n, long, here.1, le));
    }

-- what is refused is no schema that keeps the limits
pub refused_none : (tokens front rest : List Token) (ts : List Written) (fault : ReadFault) → schema_at tokens ≡ Err fault → tokens ≡ front ++ rest → schema ts front → AreSmall ts → (BeginsTable rest → ⊥) → ⊥
refused_none tokens front rest ts fault e whole written small ends =
    let bad : ◌≡◌ {A = Read (List Declaration)} (Ok (all_declared ts, rest)) (Err fault) = sym (all_found front rest ts written small ends) ∙ ap schema_at (sym whole) ∙ e in absurd cc
