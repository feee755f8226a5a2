-- Statements without loops: the run goes along the route.
use Rattle.std.proofs.Common.{◌≡◌, ℕ, zero, suc, ◌<◌, ◌≤◌, nat_lt, ◌==◌, ◌||◌, if◌then◌else◌, Bool, true, false, List, [], ◌∷◌, ◌++◌, length, map, Some, slice_get, refl, sym, ap, subst, ◌∙◌, append_assoc, arith}
use Rattle.std.specs.List.{list_any}
use Rattle.std.proofs.lemmas.Bool.Decides.{nat_tests}
use Rattle.std.proofs.lemmas.List.{map-append}
use Rattle.std.specs.FinMap.{insert}
use Rattle.sv_value.specs.declared.values.Val.{Val}
use Rattle.sv_app.specs.declared.gots.Got.{Got}
use Rattle.sv_app.specs.declared.instances.Instance.{Instance}
use Rattle.sv_app.specs.declared.instances.Source.{Source}
use Rattle.sv_app.specs.declared.instances.Source.TheVariants as sources
use Rattle.sv_app.specs.Slots.{item, with_item}
use Rattle.sv_app.specs.Symbols.{is_same_source, is_known}
use Rattle.sv_app.specs.Tables.{Row}
use Rattle.sv_effect.specs.declared.outcomes.Outcome.TheVariants as outcomes
use Rattle.sv_effect.specs.Run.{Stand, Goes, Ends, with_scope, with_value, is_formed, with_row, changed}
use Rattle.sv_effect.specs.RunChanges.{Effect}
use Rattle.sv_effect.specs.RunValues.{nothing, Progress, Scope as Values, with_progress, column}
use Rattle.sv_app.proofs.TestLaws.{test_same, same_test, other_test, or_right}
use Rattle.sv_trace.specs.Standing.{Frame}
use Rattle.sv_trace.proofs.SlotLaws.{item_here, item_other}
use Rattle.sv_trace.proofs.StatementLaws.{same_stand}
use Rattle.sv_linear.specs.Effects.{SymValue, SymEffect}
use Rattle.sv_symbolic.specs.Drawn.{IsDrawn, change_of, change_on, changes_in}
use Rattle.sv_trace.specs.Places.{KnownBelow}
use Rattle.sv_symbolic.specs.Sketches.{Drawing, Sketch, form_of, with_source}
use Rattle.sv_symbolic.specs.Routes.{Route, Leads, with_effect, then_route}
use Rattle.sv_symbolic.proofs.Following.{AllUpTo, own_number, last_number, Fits, Kept, Follows}
use Rattle.sv_symbolic.proofs.Relation.{Stands, val_in, read_in, Agrees, sketch_at, Later}
use Rattle.sv_symbolic.proofs.DrawLaws.{known_end}
use Rattle.sv_symbolic.proofs.TryLaws.{later_none, later_then}

test_differs : (a b : ℕ) → (a == b) ≡ false → b ≡ a → ⊥
test_differs a b e same = grind (arith, nat_tests, e, same)

-- the same instance has the same changes on a longer tape
changes_later : (st : Stand) (d after : Drawing) (p : Progress) (grown : List Bool) → Later st.scope.progress p grown → after.effects ≡ d.effects
    → ((rest : List Val) → map (change_on (st.scope.progress.tape ++ rest)) d.effects ≡ changes_in st.scope.progress.number st.effects) → (rest : List Val) → map (change_on (p.tape ++ rest)) after.effects ≡ changes_in p.number st.effects
changes_later st d after p grown later same changes rest =
    (λ i. map (change_on (tape_is i)) (same i)) ∙ changes (later.more ++ rest) ∙ ap (λ n. changes_in n st.effects) (sym later.number)
  where
    tape_is : p.tape ++ rest ≡ st.scope.progress.tape ++ (later.more ++ rest)
    tape_is = ap (λ l. l ++ rest) later.tape ∙ append_assoc st.scope.progress.tape later.more rest

pub fits_scope : (f : Frame) (outer : Bool) (st : Stand) (d after : Drawing) (s : Values) (grown : List Bool) → Agrees ⊥ s after → Later st.scope.progress s.progress grown → after.effects ≡ d.effects → Fits f outer st d → Fits f outer (with_scope st s) after
fits_scope f outer st d after s grown agrees later same fits = record {
  agrees = agrees;
  changes = changes_later st d after s.progress grown later same fits.changes;
  number = later.number ∙ fits.number;
  few = fits.few;
  told = fits.told;
}

-- what was kept
pub kept_none : (k : ℕ) (xs : List ℕ) (s : Values) → Kept k xs s s
kept_none k xs s = record { values = λ y less other. refl; rows = λ r less. refl }

pub kept_alone : (k : ℕ) (xs : List ℕ) (s z : Values) → z ≡ with_progress s z.progress → Kept k xs s z
kept_alone k xs s z alone = record { values = λ y less other. ap (λ (q : Values). item nothing q.values y) alone; rows = λ r less. ap (λ (q : Values). item [] q.rows r) alone }

pub kept_then : (k : ℕ) (xs : List ℕ) (s u z : Values) → Kept k xs s u → Kept k xs u z → Kept k xs s z
kept_then k xs s u z p q = record { values = λ y less other. q.values y less other ∙ p.values y less other; rows = λ r less. q.rows r less ∙ p.rows r less }

none_left : {A : Type 0} (test : A → Bool) (xs ys : List A) → list_any test (xs ++ ys) ≡ false → list_any test xs ≡ false
none_left test [] ys e = refl
none_left test (x ∷ xs) ys e = by_test (test x) (none_left test xs ys) e
  where
    by_test : (b : Bool) → (list_any test (xs ++ ys) ≡ false → list_any test xs ≡ false) → (b || list_any test (xs ++ ys)) ≡ false → (b || list_any test xs) ≡ false
    by_test true ih h = h
    by_test false ih h = ih h

none_right : {A : Type 0} (test : A → Bool) (xs ys : List A) → list_any test (xs ++ ys) ≡ false → list_any test ys ≡ false
none_right test [] ys e = e
none_right test (x ∷ xs) ys e = none_right test xs ys (or_right (test x) (list_any test (xs ++ ys)) e)

pub kept_left : (j k : ℕ) (xs ys : List ℕ) (s z : Values) → k ≤ j → Kept j xs s z → Kept k (xs ++ ys) s z
kept_left j k xs ys s z le kept = record { values = λ y less other. kept.values y (omega (arith, le, less)) (none_left (λ x. y == x) xs ys other); rows = λ r less. kept.rows r (omega (arith, le, less)) }

pub kept_right : (j k : ℕ) (xs ys : List ℕ) (s z : Values) → k ≤ j → Kept j ys s z → Kept k (xs ++ ys) s z
kept_right j k xs ys s z le kept = record { values = λ y less other. kept.values y (omega (arith, le, less)) (none_right (λ x. y == x) xs ys other); rows = λ r less. kept.rows r (omega (arith, le, less)) }

-- a variable of a later name, or one that is assigned
pub kept_value : (k : ℕ) (xs : List ℕ) (x : ℕ) (v : Val) (s : Values) → ((y : ℕ) → y < k → list_any (λ z. y == z) xs ≡ false → x ≡ y → ⊥) → Kept k xs s (with_value x v s)
kept_value k xs x v s differ = record { values = λ y less other. item_other nothing v x y s.values (differ y less other); rows = λ r less. refl }

pub kept_row : (k : ℕ) (xs : List ℕ) (x : ℕ) (row : List Got) (s : Values) → k ≤ x → Kept k xs s (with_row x row s)
kept_row k xs x row s le = record { values = λ y less other. refl; rows = λ r less. item_other [] row x r s.rows (λ same. omega (arith, le, less, same)) }

-- the relation behind an assignment
pub agrees_assigned : (x : ℕ) (v : Val) (form : SymValue) (s : Values) (d : Drawing) → Stands s.progress.tape form v → Agrees ⊥ s d → Agrees ⊥ (with_progress (with_value x v s) (is_formed x s.progress)) (with_source (sources.Variable x) form d)
agrees_assigned x v form s d stands agrees = record { sources = λ q is. by_source q is; olds = λ i c is. absurd i; facts = agrees.facts }
  where
    Goal : Bool → Source → Type 0
    Goal b q = Stands s.progress.tape (if b then form else form_of d.sources q) (read_in q (with_item nothing x v s.values) s.rows)

    at_variable : (y : ℕ) (b : Bool) → (y == x) ≡ b → is_known (sources.Variable y) (s.progress.known ++ sources.Variable x ∷ []) ≡ true → Goal b (sources.Variable y)
    at_variable y true same is = subst (λ w. Stands s.progress.tape form w) (sym (ap (λ n. item nothing (with_item nothing x v s.values) n) (test_same y x same) ∙ item_here nothing v x s.values)) stands
    at_variable y false other is =
        subst (λ w. Stands s.progress.tape (form_of d.sources (sources.Variable y)) w) (sym (item_other nothing v x y s.values (test_differs y x other)))
        (agrees.sources (sources.Variable y) (known_end (is_same_source (sources.Variable y)) s.progress.known (sources.Variable x) other is))

    by_source : (q : Source) → is_known q (s.progress.known ++ sources.Variable x ∷ []) ≡ true → Goal (is_same_source q (sources.Variable x)) q
    by_source (sources.Variable y) is = at_variable y (y == x) refl is
    by_source (sources.Column r c) is = agrees.sources (sources.Column r c) (known_end (is_same_source (sources.Column r c)) s.progress.known (sources.Variable x) refl is)

-- a new row variable, of which no column is known
pub agrees_row : (k r : ℕ) (row : List Got) (s : Values) (d : Drawing) → r ≡ k → KnownBelow k s.progress.known → Agrees ⊥ s d → Agrees ⊥ (with_row r row s) d
agrees_row k r row s d number below agrees = record { sources = λ q is. by_source q is; olds = λ i c is. absurd i; facts = agrees.facts }
  where
    by_source : (q : Source) → is_known q s.progress.known ≡ true → Stands s.progress.tape (form_of d.sources q) (read_in q s.values (with_item [] r row s.rows))
    by_source (sources.Variable y) is = agrees.sources (sources.Variable y) is
    by_source (sources.Column p c) is =
        let less : p < k = below.each (sources.Column p c) is in
        let differ : r ≡ p → ⊥ = λ same. omega (arith, less, number, same) in
        subst (λ (l : List Got). Stands s.progress.tape (form_of d.sources (sources.Column p c)) (val_in (column l c))) (sym (item_other [] row r p s.rows differ)) (agrees.sources (sources.Column p c) is)

-- changes
changes_end : (n : ℕ) (es : List Effect) (e : Effect) → e.instance ≡ n → changes_in n (es ++ e ∷ []) ≡ changes_in n es ++ change_of e ∷ []
changes_end n [] e same = rw (same_test e.instance n same) refl
changes_end n (x ∷ es) e same = by_test (x.instance == n) (changes_end n es e same)
  where
    by_test : (b : Bool) → changes_in n (es ++ e ∷ []) ≡ changes_in n es ++ change_of e ∷ []
        → (if b then change_of x ∷ changes_in n (es ++ e ∷ []) else changes_in n (es ++ e ∷ [])) ≡ (if b then change_of x ∷ changes_in n es else changes_in n es) ++ change_of e ∷ []
    by_test true ih = ap (λ l. change_of x ∷ l) ih
    by_test false ih = ih

changes_other : (n : ℕ) (es : List Effect) (e : Effect) → (e.instance ≡ n → ⊥) → changes_in n (es ++ e ∷ []) ≡ changes_in n es
changes_other n [] e differ = rw (other_test e.instance n differ) refl
changes_other n (x ∷ es) e differ = by_test (x.instance == n) (changes_other n es e differ)
  where
    by_test : (b : Bool) → changes_in n (es ++ e ∷ []) ≡ changes_in n es
        → (if b then change_of x ∷ changes_in n (es ++ e ∷ []) else changes_in n (es ++ e ∷ [])) ≡ (if b then change_of x ∷ changes_in n es else changes_in n es)
    by_test true ih = ap (λ l. change_of x ∷ l) ih
    by_test false ih = ih

few_end : (n : ℕ) (es : List Effect) (e : Effect) → AllUpTo n es → e.instance ≤ n → AllUpTo n (es ++ e ∷ [])
few_end n [] e all le = (le, tt)
few_end n (x ∷ es) e all le = (all.0, few_end n es e all.1 le)

slice_short : {A : Type 0} (xs : List A) (n : ℕ) (x : A) → slice_get xs n ≡ Some x → n < length xs
slice_short [] n x e = absurd (none n e)
  where
    none : (n : ℕ) → slice_get [] n ≡ Some x → ⊥
    none zero e = cc
    none (suc n) e = cc
slice_short (y ∷ ys) zero x e = omega arith
slice_short (y ∷ ys) (suc n) x e = let less : n < length ys = slice_short ys n x e in omega (arith, less)

own_differs : (outer : Bool) (is : List Instance) (n m : ℕ) → m ≡ own_number outer is → n < length is → m ≡ suc n → ⊥
own_differs true is n m own less same = omega (arith, own, same)
own_differs false is n m own less same = omega (arith, own, same, less)

own_last : (outer : Bool) (is : List Instance) (m : ℕ) → m ≡ own_number outer is → m ≤ last_number outer is
own_last true is m own = omega (arith, own)
own_last false is m own = omega (arith, own)

pub fits_effect : (f : Frame) (outer : Bool) (st : Stand) (d : Drawing) (se : SymEffect) (e : Effect) (row : Row) (end : Stand) → e.instance ≡ st.scope.progress.number
    → ((rest : List Val) → change_on (st.scope.progress.tape ++ rest) se ≡ change_of e) → changed e row st ≡ Goes end → Fits f outer st d
    → Fits f outer end (record d { effects = d.effects ++ se ∷ [] }) × (end.scope ≡ st.scope) × (outer ≡ false → changes_in 0 end.effects ≡ changes_in 0 st.effects)
fits_effect f outer st d se e row end own same is fits = by_test (nat_lt (length st.effects) 64) is
  where
    after : Stand
    after = record st { tables = insert st.tables e.place row; effects = st.effects ++ e ∷ [] }

    not_zero : (b : Bool) → e.instance ≡ own_number b st.instances → b ≡ false → e.instance ≡ 0 → ⊥
    not_zero true is i same = cc
    not_zero false is i same = omega (arith, is, same)

    drawing : Drawing
    drawing = record d { effects = d.effects ++ se ∷ [] }

    kept : Fits f outer after drawing
    kept = record {
      agrees = record { sources = fits.agrees.sources; olds = fits.agrees.olds; facts = fits.agrees.facts };
      changes = λ rest.
          map-append (change_on (st.scope.progress.tape ++ rest)) d.effects (se ∷ [])
          ∙ (λ i. fits.changes rest i ++ same rest i ∷ [])
          ∙ sym (changes_end st.scope.progress.number st.effects e own);
      number = fits.number;
      few = few_end (last_number outer st.instances) st.effects e fits.few (own_last outer st.instances e.instance (own ∙ fits.number));
      told = λ n i at. subst (λ c. IsDrawn f.schema f.txn c i) (sym (changes_other (suc n) st.effects e (own_differs outer st.instances n e.instance (own ∙ fits.number) (slice_short st.instances n i at)))) (fits.told n i at);
    }

    by_test : (b : Bool) → (if b then Goes after else Ends outcomes.TooLarge) ≡ Goes end → Fits f outer end drawing × (end.scope ≡ st.scope) × (outer ≡ false → changes_in 0 end.effects ≡ changes_in 0 st.effects)
    by_test true e' = subst (λ (q : Stand). Fits f outer q drawing × (q.scope ≡ st.scope) × (outer ≡ false → changes_in 0 q.effects ≡ changes_in 0 st.effects)) (same_stand after end e') (kept, refl, λ inner. changes_other 0 st.effects e (not_zero outer (own ∙ fits.number) inner))
    by_test false e' = absurd cc

-- statements behind one another
pub follows_none : (f : Frame) (outer : Bool) (k : ℕ) (xs : List ℕ) (st : Stand) (d : Drawing) → Fits f outer st d → Follows f outer k xs (λ w. Leads w) st d st
follows_none f outer k xs st d fits = record { grown = []; after = d; leads = λ left. refl; fits = fits; later = later_none st.scope.progress; kept = kept_none k xs st.scope; zero = λ i. refl }

pub follows_then : (f : Frame) (outer : Bool) (j k : ℕ) (xs ys : List ℕ) (a b : Sketch → Route) (st : Stand) (d : Drawing) (mid end : Stand) (first : Follows f outer k xs a st d mid) → k ≤ j → Follows f outer j ys b mid first.after end
    → Follows f outer k (xs ++ ys) (λ w. then_route (a w) b) st d end
follows_then f outer j k xs ys a b st d mid end first le second = record {
  grown = first.grown ++ second.grown;
  after = second.after;
  leads = λ left.
      ap (λ l. then_route (a (sketch_at l st.scope.progress d)) b) (append_assoc first.grown second.grown left)
      ∙ ap (λ r. then_route r b) (first.leads (second.grown ++ left))
      ∙ second.leads left;
  fits = second.fits;
  later = later_then st.scope.progress mid.scope.progress end.scope.progress first.grown second.grown first.later second.later;
  kept = kept_then k (xs ++ ys) st.scope mid.scope end.scope (kept_left k k xs ys st.scope mid.scope (omega arith) first.kept) (kept_right j k xs ys mid.scope end.scope le second.kept);
  zero = λ i. second.zero i ∙ first.zero i;
}

-- a statement without choices
pub follows_scope : (f : Frame) (outer : Bool) (k : ℕ) (xs : List ℕ) (route : Sketch → Route) (st : Stand) (d after : Drawing) (s : Values) → ((left : List Bool) → route (sketch_at left st.scope.progress d) ≡ Leads (sketch_at left s.progress after))
    → Agrees ⊥ s after → Later st.scope.progress s.progress [] → after.effects ≡ d.effects → Kept k xs st.scope s → Fits f outer st d → Follows f outer k xs route st d (with_scope st s)
follows_scope f outer k xs route st d after s leads agrees later same kept fits = record { grown = []; after = after; leads = leads; fits = fits_scope f outer st d after s [] agrees later same fits; later = later; kept = kept; zero = λ i. refl }

pub follows_effect : (f : Frame) (outer : Bool) (k : ℕ) (xs : List ℕ) (route : Sketch → Route) (st : Stand) (d after : Drawing) (s : Values) (se : SymEffect) (e : Effect) (row : Row) (end : Stand)
    → ((left : List Bool) → route (sketch_at left st.scope.progress d) ≡ Leads (with_effect se (sketch_at left s.progress after))) → Agrees ⊥ s after → Later st.scope.progress s.progress [] → after.effects ≡ d.effects → Kept k xs st.scope s
    → Fits f outer st d → e.instance ≡ s.progress.number → ((rest : List Val) → change_on (s.progress.tape ++ rest) se ≡ change_of e) → changed e row (with_scope st s) ≡ Goes end → Follows f outer k xs route st d end
follows_effect f outer k xs route st d after s se e row end leads agrees later same kept fits own says is =
    let done = fits_effect f outer (with_scope st s) after se e row end own says is (fits_scope f outer st d after s [] agrees later same fits) in
    let drawing : Drawing = record after { effects = after.effects ++ se ∷ [] } in
    let back : s ≡ end.scope = sym done.1 in
    record {
      grown = [];
      after = drawing;
      leads = λ left. leads left ∙ ap (λ (q : Values). Leads (sketch_at left q.progress drawing)) back;
      fits = done.0;
      later = subst (λ (q : Values). Later st.scope.progress q.progress []) back later;
      kept = subst (λ (q : Values). Kept k xs st.scope q) back kept;
      zero = done.2;
    }
