-- What was told: the test that the same was told, the one answer that tables give to an ask, and reads that agree with tables up to the first that doesn't.
use Rattle.std.proofs.Common.{◌≡◌, ℕ, zero, suc, ◌+◌, ◌<◌, Bool, true, false, List, [], ◌∷◌, map, take, Option, Some, None, slice_get, refl, sym, ap, subst, ◌∙◌, arith}
use Rattle.std.specs.declared.cmp.Ordering.{Ordering}
use Rattle.std.specs.declared.cmp.Ordering.TheVariants.{Less, Equal, Greater}
use Rattle.std.specs.Bool.{Decides}
use Rattle.std.specs.Cmp.{booleans_Decides}
use Rattle.std.specs.Option.{option_eq, option_map}
use Rattle.std.specs.Ordering.{is_lt}
use Rattle.std.proofs.lemmas.Bool.Decides.{Decides-and, Decides-eqb, Decides-int_eq, Decides-like}
use Rattle.std.proofs.lemmas.Option.{slice_get-map}
use Rattle.std.proofs.lemmas.Slice.Eq.{slice_eq-Decides}
use Rattle.sv_value.specs.declared.values.Val.{Val}
use Rattle.sv_value.specs.declared.values.Val.TheVariants.{Int, Text as ValText}
use Rattle.sv_value.specs.declared.values.Key.{Key}
use Rattle.sv_value.specs.Orders.{key_cmp}
use Rattle.sv_value.proofs.OrderLaws.{exact_keys}
use Rattle.sv_value.specs.contracts.values.ValPartialEq.TheImpl as val_test
use Rattle.sv_value.specs.contracts.values.KeyPartialEq.TheImpl as key_test
use Rattle.sv_app.specs.declared.gots.Got.{Got}
use Rattle.sv_app.specs.declared.gots.Got.TheVariants.{Num, Text}
use Rattle.sv_app.specs.contracts.gots.GotPartialEq.TheImpl as got_test
use Rattle.sv_app.specs.Tables.{Tables}
use Rattle.sv_effect.specs.declared.reads.Ask.{Ask}
use Rattle.sv_effect.specs.declared.reads.Ask.TheVariants as asks
use Rattle.sv_effect.specs.declared.reads.Read.{Read}
use Rattle.sv_effect.specs.declared.reads.Seen.{Seen}
use Rattle.sv_effect.specs.declared.reads.Told.{Told}
use Rattle.sv_effect.specs.declared.reads.Told.TheVariants.{Row, Next}
use Rattle.sv_effect.specs.contracts.reads.SeenPartialEq.TheImpl as seen_test
use Rattle.sv_effect.specs.contracts.reads.ToldPartialEq.TheImpl as told_test
use Rattle.sv_effect.specs.Agrees.{Agrees, Gives, IsNextKey}
use Rattle.sv_effect.specs.Reads.{Answer, IsRow, IsKey, ReadValue, seen_of, answer_of, read_of}
use Rattle.sv_effect.proofs.KeyLaws.{below_of}
use Rattle.sv_core.specs.Events.{IsFirstChange}
use Rattle.sv_core.proofs.JudgedLaws.{level}

option_decides : {A : Type 0} {E : A → A → Bool} → ((a b : A) → Decides (E a b) (a ≡ b)) → (a b : Option A) → Decides (option_eq E a b) (a ≡ b)
option_decides decides None None = (λ t. refl, λ e. refl)
option_decides decides None (Some b) = (λ t. absurd cc, λ e. absurd cc)
option_decides decides (Some a) None = (λ t. absurd cc, λ e. absurd cc)
option_decides {A} {E} decides (Some a) (Some b) = Decides-like (E a b) (λ e. ap (λ x. Some x) e) inside (decides a b)
  where
    inside : ◌≡◌ {A = Option A} (Some a) (Some b) → a ≡ b
    inside e = cc

val_decides : (a b : Val) → Decides ((val_test.ghosts).eq a b) (a ≡ b)
val_decides (Int x) (Int y) = Decides-like _ (λ e. ap (λ n. Int n) e) inside (Decides-int_eq x y)
  where
    inside : Int x ≡ Int y → x ≡ y
    inside e = cc
val_decides (Int x) (ValText b) = (λ t. absurd cc, λ e. absurd cc)
val_decides (ValText a) (Int y) = (λ t. absurd cc, λ e. absurd cc)
val_decides (ValText a) (ValText b) = Decides-like _ (λ e. ap (λ s. ValText s) e) inside (slice_eq-Decides Decides-eqb a b _ refl)
  where
    inside : ValText a ≡ ValText b → a ≡ b
    inside e = cc

key_decides : (a b : Key) → Decides ((key_test.ghosts).eq a b) (a ≡ b)
key_decides a b =
    Decides-like _ (λ h i. record { first = h.0 i; second = h.1 i }) (λ e. (ap (λ k. k.first) e, ap (λ k. k.second) e))
    (Decides-and _ _ (val_decides a.first b.first) (option_decides val_decides a.second b.second))

got_decides : (a b : Got) → Decides ((got_test.ghosts).eq a b) (a ≡ b)
got_decides (Num x) (Num y) = Decides-like _ (λ e. ap (λ n. Num n) e) inside (Decides-int_eq x y)
  where
    inside : Num x ≡ Num y → x ≡ y
    inside e = cc
got_decides (Num x) (Text b) = (λ t. absurd cc, λ e. absurd cc)
got_decides (Text a) (Num y) = (λ t. absurd cc, λ e. absurd cc)
got_decides (Text a) (Text b) = Decides-like _ (λ e. ap (λ s. Text s) e) inside (slice_eq-Decides Decides-eqb a b _ refl)
  where
    inside : Text a ≡ Text b → a ≡ b
    inside e = cc

seen_decides : (a b : Seen) → Decides ((seen_test.ghosts).eq a b) (seen_of a ≡ seen_of b)
seen_decides a b =
    Decides-like _ (λ h i. record { kept = h.0 i; present = h.1.0 i; values = h.1.1 i })
    (λ e. (ap (λ s. s.kept) e, (ap (λ s. s.present) e, ap (λ s. s.values) e)))
    (Decides-and _ _ (booleans_Decides a.kept b.kept)
    (Decides-and _ _ (booleans_Decides a.present b.present) (slice_eq-Decides got_decides a.values.items b.values.items _ refl)))

told_decides : (a b : Told) → Decides ((told_test.ghosts).eq a b) (answer_of a ≡ answer_of b)
told_decides (Row a) (Row b) = Decides-like _ (λ e. ap (λ s. IsRow s) e) inside (seen_decides a b)
  where
    inside : IsRow (seen_of a) ≡ IsRow (seen_of b) → seen_of a ≡ seen_of b
    inside e = cc
told_decides (Row a) (Next k) = (λ t. absurd cc, λ e. absurd cc)
told_decides (Next k) (Row b) = (λ t. absurd cc, λ e. absurd cc)
told_decides (Next k) (Next l) = Decides-like _ (λ e. ap (λ s. IsKey s) e) inside (option_decides key_decides k l)
  where
    inside : IsKey k ≡ IsKey l → k ≡ l
    inside e = cc

pub told_same : (a b : Told) (r : Bool) → r ≡ (told_test.ghosts).eq a b → Decides r (answer_of a ≡ answer_of b)
told_same a b r e = rw e (told_decides a b)

-- one read more agrees
pub agrees_more : (t : Tables) (reads : List Read) (i : ℕ) (read : Read) (now : Told) → slice_get reads i ≡ Some read → Agrees t (take i (map read_of reads))
    → Gives t read.ask (answer_of now) → answer_of now ≡ answer_of read.told → Agrees t (take (i + 1) (map read_of reads))
agrees_more t reads i read now get before gives same =
    let more : suc i ≡ i + 1 = omega arith in subst (λ n. Agrees t (take n (map read_of reads))) more (from reads i get before)
  where
    from : (reads : List Read) (i : ℕ) → slice_get reads i ≡ Some read → Agrees t (take i (map read_of reads)) → Agrees t (take (suc i) (map read_of reads))
    from [] i get before = absurd cc
    from (x ∷ reads) zero get before = let is : read ≡ x = cc in (subst (λ y. Gives t y.ask (answer_of y.told)) is (subst (Gives t read.ask) same gives), tt)
    from (x ∷ reads) (suc i) get before = (before.0, from reads i get before.1)

-- the first read that doesn't agree
pub first_changed : (t : Tables) (reads : List Read) (i : ℕ) (read : Read) (now : Told) → slice_get reads i ≡ Some read → Agrees t (take i (map read_of reads))
    → Gives t read.ask (answer_of now) → (answer_of now ≡ answer_of read.told → ⊥) → IsFirstChange t (map read_of reads) i (answer_of now)
first_changed t reads i read now get before gives other = record {
  read = read_of read;
  stands = slice_get-map read_of reads i ∙ ap (option_map read_of) get;
  gives = gives;
  differs = λ e. other (sym e);
  before = before;
}

-- tables give one answer to an ask
next_once : (t : Tables) (table : ℕ) (after a b : Option Key) → IsNextKey t table after a → IsNextKey t table after b → a ≡ b
next_once t table after None None x y = refl
next_once t table after None (Some k) x y = let bad : true ≡ false = sym y.1 ∙ x k y.0 in absurd cc
next_once t table after (Some k) None x y = let bad : true ≡ false = sym x.1 ∙ y k x.0 in absurd cc
next_once t table after (Some j) (Some k) x y = by (key_cmp j k) refl
  where
    by : (o : Ordering) → key_cmp j k ≡ o → Some j ≡ Some k
    by Less e = let bad : true ≡ false = sym x.1 ∙ y.2 j x.0 (ap is_lt e) in absurd cc
    by Equal e = ap Some (exact_keys j k e)
    by Greater e = let bad : true ≡ false = sym y.1 ∙ x.2 k y.0 (ap is_lt (below_of j k e)) in absurd cc

given_once : (t : Tables) (ask : Ask) (a b : Answer) → Gives t ask a → Gives t ask b → a ≡ b
given_once t (asks.Row table key) (IsRow x) (IsRow y) p q = ap IsRow (sym p ∙ q)
given_once t (asks.Row table key) (IsRow x) (IsKey y) p q = absurd q
given_once t (asks.Row table key) (IsKey x) b p q = absurd p
given_once t (asks.Next table after) (IsRow x) b p q = absurd p
given_once t (asks.Next table after) (IsKey x) (IsRow y) p q = absurd q
given_once t (asks.Next table after) (IsKey x) (IsKey y) p q = ap IsKey (next_once t table after x y p q)

agrees_at : (t : Tables) (reads : List ReadValue) (place : ℕ) (read : ReadValue) → Agrees t reads → slice_get reads place ≡ Some read → Gives t read.ask read.answer
agrees_at t [] place read agrees at = absurd cc
agrees_at t (r ∷ reads) zero read agrees at = let same : r ≡ read = cc in subst (λ x. Gives t x.ask x.answer) same agrees.0
agrees_at t (r ∷ reads) (suc place) read agrees at = agrees_at t reads place read agrees.1 at

-- tables that agree with all reads agree with the first that isn't so
pub unchanged : (t : Tables) (reads : List ReadValue) (place : ℕ) (now : Answer) → Agrees t reads → IsFirstChange t reads place now → ⊥
unchanged t reads place now agrees change =
    change.differs (given_once t change.read.ask change.read.answer now (agrees_at t reads place change.read agrees change.stands) change.gives)

agrees_before : (t : Tables) (reads : List ReadValue) (i j : ℕ) (read : ReadValue) → Agrees t (take j reads) → i < j → slice_get reads i ≡ Some read → Gives t read.ask read.answer
agrees_before t reads i zero read agrees lt at = absurd (omega (arith, lt))
agrees_before t [] i (suc j) read agrees lt at = absurd cc
agrees_before t (r ∷ reads) zero (suc j) read agrees lt at = let same : r ≡ read = cc in subst (λ x. Gives t x.ask x.answer) same agrees.0
agrees_before t (r ∷ reads) (suc i) (suc j) read agrees lt at = agrees_before t reads i j read agrees.1 (omega (arith, lt)) at

-- the first read that isn't what the tables give is one
pub record SameChange (i j : ℕ) (a b : Answer) : Type 0 where
  pub places : i ≡ j
  pub answers : a ≡ b

pub change_once : (t : Tables) (reads : List ReadValue) (i j : ℕ) (a b : Answer) → IsFirstChange t reads i a → IsFirstChange t reads j b → SameChange i j a b
change_once t reads i j a b x y = record { places = places; answers = given_once t y.read.ask a b (subst (λ r. Gives t r.ask a) read x.gives) y.gives }
  where
    sooner : (k l : ℕ) (c d : Answer) → IsFirstChange t reads k c → IsFirstChange t reads l d → k < l → ⊥
    sooner k l c d first then lt = first.differs (given_once t first.read.ask first.read.answer c (agrees_before t reads k l first.read then.before lt first.stands) first.gives)

    places : i ≡ j
    places = level i j (sooner i j a b x y) (sooner j i b a y x)

    read : x.read ≡ y.read
    read = let same : Some x.read ≡ Some y.read = sym x.stands ∙ ap (slice_get reads) places ∙ y.stands in cc

-- what was told is one where contracts see the same
pub told_one : (a b : Told) → answer_of a ≡ answer_of b → a ≡ b
told_one (Row a) (Row b) e =
    let same : seen_of a ≡ seen_of b = cc in
    λ i. Row (record { kept = (same i).kept; present = (same i).present; values = record { items = (same i).values } })
told_one (Row a) (Next k) e = absurd cc
told_one (Next k) (Row b) e = absurd cc
told_one (Next k) (Next l) e = let same : k ≡ l = cc in ap Next same
