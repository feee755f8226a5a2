-- The changes of one instance of a run, and their places in it.
use Rattle.std.proofs.Common.{◌≡◌, ◌∙◌, ℕ, zero, suc, ◌<◌, ◌^◌, Bool, true, false, List, [], ◌∷◌, length, map, take, cond, Some, slice_get, refl, sym, subst, ap, arith, All, ℤ}
use Rattle.std.specs.Prelude.{◌==◌, if◌then◌else◌}
use Rattle.std.specs.List.{filter}
use Rattle.std.proofs.lemmas.Int.{ints}
use Rattle.std.proofs.lemmas.List.Elements.{All-nil, All-cons, All-head, All-tail}
use Rattle.sv_value.specs.declared.values.Val.{Val}
use Rattle.sv_value.specs.declared.values.Val.TheVariants as vals
use Rattle.sv_app.specs.Accepted.{AcceptedSchema}
use Rattle.sv_app.specs.Schema.{Declaration}
use Rattle.sv_bounds.specs.Differences.{Within}
use Rattle.sv_effect.specs.declared.ops.Write.{Write}
use Rattle.sv_effect.specs.declared.ops.Write.TheVariants as writes
use Rattle.sv_effect.specs.Fits.{EffectFits}
use Rattle.sv_effect.specs.Room.{AreWordWrites}
use Rattle.sv_effect.specs.RowsFit.{IsWord}
use Rattle.sv_effect.specs.RunChanges.{Effect}
use Rattle.sv_linear.specs.Atoms.{Gain}
use Rattle.sv_linear.specs.Effects.{SymWrite, Delta, Set, SymEffect}
use Rattle.sv_symbolic.specs.Drawn.{Change, change_on, change_of, changes_in}
use Rattle.sv_symbolic.specs.Drawn as drawn
use Rattle.sv_wp.specs.Gives.{StandsFor, write_on, writes_on}
use Rattle.sv_wp.specs.Reads.{IsShortWrite}
use Rattle.sv_wp.specs.Told.{TellsGreatest}
use Rattle.sv_wp.proofs.DecideLaws.{atoms_decide}
use Rattle.sv_right.proofs.PathLaws.{AreOn}

abbrev pub is_in : ℕ → Effect → Bool
is_in n e = e.instance == n

-- the changes of an instance
abbrev pub own : ℕ → List Effect → List Effect
own n es = filter (is_in n) es

pub own_changes : (n : ℕ) (es : List Effect) → changes_in n es ≡ map change_of (own n es)
own_changes n [] = refl
own_changes n (e ∷ es) = by (is_in n e) (own_changes n es)
  where
    by : (b : Bool) → changes_in n es ≡ map change_of (own n es) → (if b then change_of e ∷ changes_in n es else changes_in n es) ≡ map change_of (cond b (e ∷ own n es) (own n es))
    by true ih = ap (λ cs. change_of e ∷ cs) ih
    by false ih = ih

-- ---- places

is_same : (m n : ℕ) → (m == n) ≡ true → m ≡ n
is_same m n e = grind (arith, e)

same_is : (m n : ℕ) → m ≡ n → (m == n) ≡ true
same_is m n e = grind (arith, e)

-- a change of the instance with this number among those of it
pub record IsOwn (n : ℕ) (es : List Effect) (place : ℕ) (e : Effect) : Type 0 where
  pub number : ℕ
  pub at : slice_get es number ≡ Some e
  pub instance : e.instance ≡ n
  pub place_is : length (own n (take number es)) ≡ place

pub of_own : (n : ℕ) (es : List Effect) (place : ℕ) (e : Effect) → slice_get (own n es) place ≡ Some e → IsOwn n es place e
of_own n [] place e at = absurd cc
of_own n (x ∷ es) place e at = by (is_in n x) refl place at (λ p here. of_own n es p e here)
  where
    later : (b : Bool) → is_in n x ≡ b → (p q : ℕ) → cond b (suc p) p ≡ q → IsOwn n es p e → IsOwn n (x ∷ es) q e
    later b is p q long o = record {
      number = suc o.number;
      at = o.at;
      instance = o.instance;
      place_is = ap (λ c. length (cond c (x ∷ own n (take o.number es)) (own n (take o.number es)))) is ∙ counted b (own n (take o.number es)) p o.place_is ∙ long;
    }
      where
        counted : (b : Bool) (ys : List Effect) (p : ℕ) → length ys ≡ p → length (cond b (x ∷ ys) ys) ≡ cond b (suc p) p
        counted true ys p e = ap (λ n. suc n) e
        counted false ys p e = e

    by : (b : Bool) → is_in n x ≡ b → (place : ℕ) → slice_get (cond b (x ∷ own n es) (own n es)) place ≡ Some e → ((p : ℕ) → slice_get (own n es) p ≡ Some e → IsOwn n es p e) → IsOwn n (x ∷ es) place e
    by true is zero at ih = let same : x ≡ e = cc in record {
      number = 0;
      at = ap (λ (y : Effect). Some y) same;
      instance = ap (λ (y : Effect). y.instance) (sym same) ∙ is_same x.instance n is;
      place_is = refl;
    }
    by true is (suc p) at ih = later true is p (suc p) refl (ih p at)
    by false is p at ih = later false is p p refl (ih p at)

pub in_own : (n : ℕ) (es : List Effect) (k : ℕ) (e : Effect) → slice_get es k ≡ Some e → e.instance ≡ n → slice_get (own n es) (length (own n (take k es))) ≡ Some e
in_own n [] k e at is = absurd cc
in_own n (x ∷ es) zero e at is =
    let same : x ≡ e = cc in
    ap (λ b. slice_get (cond b (x ∷ own n es) (own n es)) 0) (same_is x.instance n (ap (λ (y : Effect). y.instance) same ∙ is)) ∙ ap (λ (y : Effect). Some y) same
in_own n (x ∷ es) (suc k) e at is = by (is_in n x) (in_own n es k e at is)
  where
    by : (b : Bool) → slice_get (own n es) (length (own n (take k es))) ≡ Some e → slice_get (cond b (x ∷ own n es) (own n es)) (length (cond b (x ∷ own n (take k es)) (own n (take k es)))) ≡ Some e
    by true ih = ih
    by false ih = ih

-- an earlier change of the instance has a lesser place
pub sooner_own : (n : ℕ) (es : List Effect) (j k : ℕ) (e : Effect) → j < k → slice_get es j ≡ Some e → e.instance ≡ n → length (own n (take j es)) < length (own n (take k es))
sooner_own n [] j k e less at is = absurd cc
sooner_own n (x ∷ es) j zero e less at is = absurd (omega (arith, less))
sooner_own n (x ∷ es) zero (suc k) e less at is =
    let same : x ≡ e = cc in
    subst (λ b. 0 < length (cond b (x ∷ own n (take k es)) (own n (take k es)))) (sym (same_is x.instance n (ap (λ (y : Effect). y.instance) same ∙ is))) (omega arith)
sooner_own n (x ∷ es) (suc j) (suc k) e less at is = by (is_in n x) (sooner_own n es j k e (omega (arith, less)) at is)
  where
    by : (b : Bool) → length (own n (take j es)) < length (own n (take k es))
        → length (cond b (x ∷ own n (take j es)) (own n (take j es))) < length (cond b (x ∷ own n (take k es)) (own n (take k es)))
    by true ih = omega (arith, ih)
    by false ih = ih

-- ---- what effects stand for

same_write : (tape : List Val) (w : SymWrite) → write_on tape w ≡ drawn.write_on tape w
same_write tape (Delta f) = refl
same_write tape (Set v) = refl

same_writes : (tape : List Val) (ws : List (ℕ × SymWrite)) → writes_on tape ws ≡ drawn.writes_on tape ws
same_writes tape [] = refl
same_writes tape (w ∷ ws) = λ i. (w.0, same_write tape w.1 i) ∷ same_writes tape ws i

word_short : (n : ℤ) → IsWord n → Within (2 ^ 64) n
word_short n w = record { low = omega (arith, ints, w.0); high = omega (arith, ints, w.1) }

short_writes : (ws : List (ℕ × Write)) → AreWordWrites ws → All (λ (w : ℕ × Write). IsShortWrite w.1) ws
short_writes [] words = All-nil (λ (w : ℕ × Write). IsShortWrite w.1)
short_writes ((c, writes.Delta d) ∷ ws) words = All-cons (λ (w : ℕ × Write). IsShortWrite w.1) (c, writes.Delta d) ws (word_short d words.0) (short_writes ws words.1)
short_writes ((c, writes.Set (vals.Int n)) ∷ ws) words = All-cons (λ (w : ℕ × Write). IsShortWrite w.1) (c, writes.Set (vals.Int n)) ws (word_short n words.0) (short_writes ws words.1)
short_writes ((c, writes.Set (vals.Text text)) ∷ ws) words =
    All-cons (λ (w : ℕ × Write). IsShortWrite w.1) (c, writes.Set (vals.Text text)) ws (record { low = omega (arith, ints); high = omega (arith, ints) }) (short_writes ws words.1)

stands_for : (tape : List Val) (e : SymEffect) (change : Effect) → change_on tape e ≡ change_of change → StandsFor tape e change
stands_for tape e change same = record {
  table = ap (λ (c : Change). c.table) same;
  act = ap (λ (c : Change). c.act) same;
  writes = same_writes tape e.writes ∙ ap (λ (c : Change). c.writes) same;
}

pub are_on : (schema : List Declaration) (tape : List Val) (told : Gain) (effects : List SymEffect) (changes : List Effect) → AcceptedSchema schema → TellsGreatest schema told
    → map (change_on tape) effects ≡ map change_of changes → All (EffectFits schema) changes → All (λ (e : Effect). AreWordWrites e.writes) changes → AreOn schema tape told effects changes
are_on schema tape told [] [] accepted right same fit words = tt
are_on schema tape told [] (c ∷ changes) accepted right same fit words = absurd cc
are_on schema tape told (e ∷ effects) [] accepted right same fit words = absurd cc
are_on schema tape told (e ∷ effects) (c ∷ changes) accepted right same fit words =
    let one : change_on tape e ≡ change_of c = cc in
    let more : map (change_on tape) effects ≡ map change_of changes = cc in
    let stands : StandsFor tape e c = stands_for tape e c one in (
      record {
        stands = stands;
        short = short_writes c.writes (All-head (λ (e : Effect). AreWordWrites e.writes) c changes words);
        decides = λ place. atoms_decide schema c tape e told place accepted (All-head (EffectFits schema) c changes fit) right stands;
      },
      are_on schema tape told effects changes accepted right more (All-tail (EffectFits schema) c changes fit) (All-tail (λ (e : Effect). AreWordWrites e.writes) c changes words),
    )
