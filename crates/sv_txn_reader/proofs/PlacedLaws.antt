-- What it means that a reading reads a language, and how readings are put together.
use Rattle.std.proofs.Common.{◌≡◌, ◌∙◌, ℕ, ◌⊎◌, inl, inr, Bool, false, List, [], ◌∷◌, ◌++◌, length, Ok, Err, sym, ap, subst, append_assoc}
use Rattle.sv_lex.specs.declared.tokens.Token.{Token}
use Rattle.sv_app.specs.declared.refusals.Code.{Code}
use Rattle.sv_app.specs.declared.refusals.Code.TheVariants.{Syntax, Many}
use Rattle.sv_reader.specs.declared.faults.ReadFault.{ReadFault}
use Rattle.sv_reader.specs.Reading.{Read, ◌>>=◌, refuse}
use Rattle.sv_reader.proofs.AnswerLaws.{near, Alike, Bound, bound, bound_err, then_ok, then_err}

-- which limits count: Loose tells of an index that what begins from a place on, of which nothing was read yet, may pass them; Free, that whatever begins from it on may; Late, that they may be passed where so many tokens are left
pub record Mode : Type 1 where
  pub Index : Type 0
  pub Loose : Index → List Token → Type 0
  pub Free : Index → List Token → Type 0
  pub Late : Index → ℕ → Type 0
  pub loose_behind : (i : Index) (a b : List Token) → Loose i (a ++ b) → Loose i b
  pub free_behind : (i : Index) (a b : List Token) → Free i (a ++ b) → Free i b
  pub free_loose : (i : Index) (l : List Token) → Free i l → Loose i l

-- a language: what is said is written from a place up to another
abbrev pub Tongue : Mode → Type 0 → Type 1
Tongue M A = M.Index → A → List Token → List Token → Type 0

module _ (M : Mode) {A : Type 0} (G : M.Index → A → List Token → List Token → Type 0) where
  -- something that keeps the limits may begin with these tokens
  pub record Opens (front : List Token) : Type 0 where
    pub more : List Token
    pub item : A
    pub is : (i : M.Index) (m : List Token) → M.Loose i (more ++ m) → G i item (front ++ (more ++ m)) m

  -- something may begin with these tokens
  pub record Passes (front : List Token) : Type 0 where
    pub more : List Token
    pub item : A
    pub is : (i : M.Index) (m : List Token) → M.Free i (front ++ (more ++ m)) → G i item (front ++ (more ++ m)) m

  -- what was read is in the language, and is read again whatever stands behind it, if that begins alike
  pub record Took (read : List Token → Read A) (tokens : List Token) (item : A) (rest : List Token) : Type 0 where
    pub front : List Token
    pub whole : tokens ≡ front ++ rest
    pub is : (i : M.Index) (m : List Token) → G i item (front ++ m) m
    pub again : (last : List Token) → Alike rest last → read (front ++ last) ≡ Ok (item, last)

  -- why what stands behind the front is refused
  pub data Cause (front : List Token) : Code → List Token → Type 0 where
    Misplaced : (rest : List Token) → Cause front Syntax rest
    TooMany : (token : Token) (others : List Token) → Passes (front ++ token ∷ []) → Cause front Many (token ∷ others)

  -- the front may begin something, and with what stands behind it that is no longer so
  pub record Stuck (read : List Token → Read A) (tokens : List Token) (fault : ReadFault) : Type 0 where
    pub front : List Token
    pub rest : List Token
    pub code : Code
    pub whole : tokens ≡ front ++ rest
    pub place : fault ≡ record { code = code; left = length rest }
    pub opens : Opens front
    pub cause : Cause front code rest
    pub again : (last : List Token) → Alike rest last → read (front ++ last) ≡ refuse code last

-- a limit is passed where it may be
pub record Exceeds (M : Mode) {A : Type 0} (i : M.Index) (answer : Read A) : Type 0 where
  pub left : ℕ
  pub is : answer ≡ Err (record { code = Many; left = left })
  pub late : M.Late i left

-- what is said is read, unless a limit is passed
abbrev pub Reads : (M : Mode) {A : Type 0} → M.Index → Read A → A → List Token → Type 0
Reads M i answer item rest = (answer ≡ Ok (item, rest)) ⊎ Exceeds M i answer

-- a reading reads a language, and what it reads isn't followed by what clashes
pub record Law (M : Mode) {A : Type 0} (clash : List Token → Bool) (G : M.Index → A → List Token → List Token → Type 0) (read : List Token → Read A) : Type 0 where
  pub some : Opens M G []
  pub took : (tokens : List Token) (item : A) (rest : List Token) → read tokens ≡ Ok (item, rest) → Took M G read tokens item rest
  pub all : (i : M.Index) (item : A) (tokens rest : List Token) → G i item tokens rest → clash rest ≡ false → Reads M i (read tokens) item rest
  pub fails : (tokens : List Token) (fault : ReadFault) → read tokens ≡ Err fault → Stuck M G read tokens fault

pub exceeds_same : {M : Mode} {A B : Type 0} {i : M.Index} {a : Read A} {b : Read B} → ((fault : ReadFault) → a ≡ Err fault → b ≡ Err fault) → Exceeds M i a → Exceeds M i b
exceeds_same same e = record { left = e.left; is = same (record { code = Many; left = e.left }) e.is; late = e.late }

pub reads_same : {M : Mode} {A : Type 0} {i : M.Index} {a b : Read A} {item : A} {rest : List Token} → a ≡ b → Reads M i b item rest → Reads M i a item rest
reads_same {M} {A} {i} {a} {b} {item} {rest} e r = subst (λ (x : Read A). Reads M i x item rest) (sym e) r

-- other languages, and readings that answer the same where the tokens begin alike

module _ {M : Mode} {A B : Type 0} {G : M.Index → A → List Token → List Token → Type 0} {H : M.Index → B → List Token → List Token → Type 0} (f : A → B)
    (into : (i : M.Index) (a : A) (l r : List Token) → G i a l r → H i (f a) l r) where
  pub opens_map : (front : List Token) → Opens M G front → Opens M H front
  opens_map front o = record { more = o.more; item = f o.item; is = λ i m loose. into i o.item (front ++ (o.more ++ m)) m (o.is i m loose) }

  pub passes_map : (front : List Token) → Passes M G front → Passes M H front
  passes_map front o = record { more = o.more; item = f o.item; is = λ i m free. into i o.item (front ++ (o.more ++ m)) m (o.is i m free) }

  pub cause_map : {front : List Token} {code : Code} {rest : List Token} → Cause M G front code rest → Cause M H front code rest
  cause_map {front} (Misplaced rest) = Misplaced rest
  cause_map {front} (TooMany token others passes) = TooMany token others (passes_map (front ++ token ∷ []) passes)

  pub took_map : {read : List Token → Read A} {other : List Token → Read B} {tokens : List Token} {item : A} {rest : List Token}
      → ((last : List Token) (m : List Token) → Alike tokens last → read last ≡ Ok (item, m) → other last ≡ Ok (f item, m)) → Took M G read tokens item rest → Took M H other tokens (f item) rest
  took_map {read} {other} {tokens} {item} {rest} same t = record {
    front = t.front;
    whole = t.whole;
    is = λ i m. into i item (t.front ++ m) m (t.is i m);
    again = λ last alike. same (t.front ++ last) last (near t.front rest last tokens t.whole alike) (t.again last alike);
  }

  pub stuck_map : {read : List Token → Read A} {other : List Token → Read B} {tokens : List Token} {fault : ReadFault}
      → ((last : List Token) (fault : ReadFault) → Alike tokens last → read last ≡ Err fault → other last ≡ Err fault) → Stuck M G read tokens fault → Stuck M H other tokens fault
  stuck_map {read} {other} {tokens} {fault} same s = record {
    front = s.front;
    rest = s.rest;
    code = s.code;
    whole = s.whole;
    place = s.place;
    opens = opens_map s.front s.opens;
    cause = cause_map s.cause;
    again = λ last alike. same (s.front ++ last) (record { code = s.code; left = length last }) (near s.front s.rest last tokens s.whole alike) (s.again last alike);
  }

pub map_law : {M : Mode} {A : Type 0} {clash : List Token → Bool} {G H : M.Index → A → List Token → List Token → Type 0} {read : List Token → Read A}
    → Law M clash G read → ((i : M.Index) (a : A) (l r : List Token) → G i a l r → H i a l r) → ((i : M.Index) (a : A) (l r : List Token) → H i a l r → G i a l r) → Law M clash H read
map_law {M} {A} {clash} {G} {H} {read} law into out = record {
  some = opens_map (λ a. a) into [] law.some;
  took = λ tokens item rest e. took_map (λ a. a) into (λ last m alike e. e) (law.took tokens item rest e);
  all = λ i item tokens rest is ends. law.all i item tokens rest (out i item tokens rest is) ends;
  fails = λ tokens fault e. stuck_map (λ a. a) into (λ last fault alike e. e) (law.fails tokens fault e);
}

pub read_law : {M : Mode} {A : Type 0} {clash : List Token → Bool} {G : M.Index → A → List Token → List Token → Type 0} {read other : List Token → Read A}
    → ((l : List Token) → other l ≡ read l) → Law M clash G read → Law M clash G other
read_law {M} {A} {clash} {G} {read} {other} same law = record {
  some = law.some;
  took = λ tokens item rest e. took_map (λ a. a) (λ i a l r is. is) (λ last m alike e. same last ∙ e) (law.took tokens item rest (sym (same tokens) ∙ e));
  all = λ i item tokens rest is ends. reads_same (same tokens) (law.all i item tokens rest is ends);
  fails = λ tokens fault e. stuck_map (λ a. a) (λ i a l r is. is) (λ last fault alike e. same last ∙ e) (law.fails tokens fault (sym (same tokens) ∙ e));
}

pub clash_law : {M : Mode} {A : Type 0} {clash other : List Token → Bool} {G : M.Index → A → List Token → List Token → Type 0} {read : List Token → Read A}
    → ((l : List Token) → other l ≡ false → clash l ≡ false) → Law M clash G read → Law M other G read
clash_law clear law = record { some = law.some; took = law.took; all = λ i item tokens rest is ends. law.all i item tokens rest is (clear rest ends); fails = law.fails }

-- one reading behind another

-- a part and, behind it, one that may depend on it
pub record Then {I A B : Type 0} (P : I → A → List Token → List Token → Type 0) (Q : A → I → B → List Token → List Token → Type 0) (i : I) (item : B) (tokens rest : List Token) : Type 0 where
  pub head : A
  pub middle : List Token
  pub first : P i head tokens middle
  pub second : Q head i item middle rest

module _ (M : Mode) {A B : Type 0} (P : M.Index → A → List Token → List Token → Type 0) (Q : A → M.Index → B → List Token → List Token → Type 0) (p : List Token → Read A) (q : A → List Token → Read B) where
  -- the first part stands whole before the other
  behind : (head : A) (front : List Token) → ((i : M.Index) (m : List Token) → P i head (front ++ m) m) → (i : M.Index) (item : B) (l r : List Token) → Q head i item l r → Then P Q i item (front ++ l) r
  behind head front first i item l r second = record { head = head; middle = l; first = first i l; second = second }

  pub took_then : {tokens middle rest : List Token} {head : A} {item : B} → Took M P p tokens head middle → Took M (Q head) (q head) middle item rest → Took M (Then P Q) (λ l. p l >>= q) tokens item rest
  took_then {tokens} {middle} {rest} {head} {item} first second = record {
    front = first.front ++ second.front;
    whole = first.whole ∙ ap (λ l. first.front ++ l) second.whole ∙ sym (append_assoc first.front second.front rest);
    is = λ i m. subst (λ l. Then P Q i item l m) (sym (append_assoc first.front second.front m)) (behind head first.front first.is i item (second.front ++ m) m (second.is i m));
    again = λ last alike. ap (λ l. p l >>= q) (append_assoc first.front second.front last)
        ∙ then_ok q (first.again (second.front ++ last) (near second.front rest last middle second.whole alike)) ∙ second.again last alike;
  }

  first_opens : ((a : A) → Opens M (Q a) []) → (front : List Token) → Opens M P front → Opens M (Then P Q) front
  first_opens some front o = let next = some o.item in record {
    more = o.more ++ next.more;
    item = next.item;
    is = λ i m loose.
        let e : (o.more ++ next.more) ++ m ≡ o.more ++ (next.more ++ m) = append_assoc o.more next.more m in
        let all : M.Loose i (o.more ++ (next.more ++ m)) = subst (λ l. M.Loose i l) e loose in
        subst (λ l. Then P Q i next.item (front ++ l) m) (sym e)
        (record { head = o.item; middle = next.more ++ m; first = o.is i (next.more ++ m) all; second = next.is i m (M.loose_behind i o.more (next.more ++ m) all) });
  }

  first_passes : ((a : A) → Opens M (Q a) []) → (front : List Token) → Passes M P front → Passes M (Then P Q) front
  first_passes some front o = let next = some o.item in record {
    more = o.more ++ next.more;
    item = next.item;
    is = λ i m free.
        let e : (o.more ++ next.more) ++ m ≡ o.more ++ (next.more ++ m) = append_assoc o.more next.more m in
        let all : M.Free i (front ++ (o.more ++ (next.more ++ m))) = subst (λ l. M.Free i (front ++ l)) e free in
        let loose : M.Loose i (next.more ++ m) = M.free_loose i (next.more ++ m) (M.free_behind i o.more (next.more ++ m) (M.free_behind i front (o.more ++ (next.more ++ m)) all)) in
        subst (λ l. Then P Q i next.item (front ++ l) m) (sym e)
        (record { head = o.item; middle = next.more ++ m; first = o.is i (next.more ++ m) all; second = next.is i m loose });
  }

  first_cause : ((a : A) → Opens M (Q a) []) → {front : List Token} {code : Code} {rest : List Token} → Cause M P front code rest → Cause M (Then P Q) front code rest
  first_cause some {front} (Misplaced rest) = Misplaced rest
  first_cause some {front} (TooMany token others passes) = TooMany token others (first_passes some (front ++ token ∷ []) passes)

  pub stuck_first : {tokens : List Token} {fault : ReadFault} → ((a : A) → Opens M (Q a) []) → Stuck M P p tokens fault → Stuck M (Then P Q) (λ l. p l >>= q) tokens fault
  stuck_first {tokens} {fault} some s = record {
    front = s.front;
    rest = s.rest;
    code = s.code;
    whole = s.whole;
    place = s.place;
    opens = first_opens some s.front s.opens;
    cause = first_cause some s.cause;
    again = λ last alike. then_err q (s.again last alike);
  }

  second_opens : (head : A) (before : List Token) → ((i : M.Index) (m : List Token) → P i head (before ++ m) m) → (front : List Token) → Opens M (Q head) front → Opens M (Then P Q) (before ++ front)
  second_opens head before first front o = record {
    more = o.more;
    item = o.item;
    is = λ i m loose. subst (λ l. Then P Q i o.item l m) (sym (append_assoc before front (o.more ++ m))) (behind head before first i o.item (front ++ (o.more ++ m)) m (o.is i m loose));
  }

  second_passes : (head : A) (before : List Token) → ((i : M.Index) (m : List Token) → P i head (before ++ m) m) → (front : List Token) → Passes M (Q head) front → Passes M (Then P Q) (before ++ front)
  second_passes head before first front o = record {
    more = o.more;
    item = o.item;
    is = λ i m free.
        let e : (before ++ front) ++ (o.more ++ m) ≡ before ++ (front ++ (o.more ++ m)) = append_assoc before front (o.more ++ m) in
        subst (λ l. Then P Q i o.item l m) (sym e)
        (behind head before first i o.item (front ++ (o.more ++ m)) m (o.is i m (M.free_behind i before (front ++ (o.more ++ m)) (subst (λ l. M.Free i l) e free))));
  }

  second_cause : (head : A) (before : List Token) → ((i : M.Index) (m : List Token) → P i head (before ++ m) m) → {front : List Token} {code : Code} {rest : List Token}
      → Cause M (Q head) front code rest → Cause M (Then P Q) (before ++ front) code rest
  second_cause head before first {front} (Misplaced rest) = Misplaced rest
  second_cause head before first {front} (TooMany token others passes) =
      TooMany token others (subst (λ l. Passes M (Then P Q) l) (sym (append_assoc before front (token ∷ []))) (second_passes head before first (front ++ token ∷ []) passes))

  pub stuck_second : {tokens middle : List Token} {head : A} {fault : ReadFault} → Took M P p tokens head middle → Stuck M (Q head) (q head) middle fault → Stuck M (Then P Q) (λ l. p l >>= q) tokens fault
  stuck_second {tokens} {middle} {head} {fault} first s = record {
    front = first.front ++ s.front;
    rest = s.rest;
    code = s.code;
    whole = first.whole ∙ ap (λ l. first.front ++ l) s.whole ∙ sym (append_assoc first.front s.front s.rest);
    place = s.place;
    opens = second_opens head first.front first.is s.front s.opens;
    cause = second_cause head first.front first.is s.cause;
    again = λ last alike. ap (λ l. p l >>= q) (append_assoc first.front s.front last)
        ∙ then_ok q (first.again (s.front ++ last) (near s.front s.rest last middle s.whole alike)) ∙ s.again last alike;
  }

  pub reads_then : {i : M.Index} {tokens middle rest : List Token} {head : A} {item : B} → Reads M i (p tokens) head middle → Reads M i (q head middle) item rest → Reads M i (p tokens >>= q) item rest
  reads_then (inl e) second = reads_same (then_ok q e) second
  reads_then (inr over) second = inr (exceeds_same (λ fault e. then_err q e) over)

  pub then_law : {before clash : List Token → Bool} → Law M before P p → ((a : A) → Law M clash (Q a) (q a))
      → ((i : M.Index) (a : A) (b : B) (tokens rest : List Token) → Q a i b tokens rest → clash rest ≡ false → before tokens ≡ false) → Law M clash (Then P Q) (λ l. p l >>= q)
  then_law {before} {clash} first second clear = record {
    some = first_opens (λ a. (second a).some) [] first.some;
    took = λ tokens item rest e. by_bound tokens (bound (p tokens) q (item, rest) e);
    all = λ i item tokens rest is ends.
        reads_then (first.all i is.head tokens is.middle is.first (clear i is.head item is.middle rest is.second ends)) ((second is.head).all i item is.middle rest is.second ends);
    fails = λ tokens fault e. by_fails tokens fault (bound_err (p tokens) q fault e);
  }
    where
      by_bound : (tokens : List Token) {item : B} {rest : List Token} → Bound (p tokens) q (Ok (item, rest)) → Took M (Then P Q) (λ l. p l >>= q) tokens item rest
      by_bound tokens {item} {rest} b = took_then (first.took tokens b.item b.rest b.is) ((second b.item).took b.rest item rest b.left)

      by_fails : (tokens : List Token) (fault : ReadFault) → (p tokens ≡ Err fault) ⊎ Bound (p tokens) q (Err fault) → Stuck M (Then P Q) (λ l. p l >>= q) tokens fault
      by_fails tokens fault (inl e) = stuck_first (λ a. (second a).some) (first.fails tokens fault e)
      by_fails tokens fault (inr b) = stuck_second (first.took tokens b.item b.rest b.is) ((second b.item).fails b.rest fault b.left)
