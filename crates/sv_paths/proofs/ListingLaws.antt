-- What is listed are the paths.
use Rattle.std.proofs.Common.{◌≡◌, Bool, true, false, not, ◌&&◌, ◌||◌, List, [], ◌∷◌, ◌++◌, map, refl, sym, ap, ◌∙◌, subst, ◌⊎◌, inl, inr}
use Rattle.sv_app.specs.Trees.{Test, Compare, Negation, Both, Either, Command, Declare, Assign, Fetch, Choose, ForRows, ForEach, Insert, Fresh, Update, Remove, Abort, Reply, Block, Finish, Then}
use Rattle.sv_paths.specs.declared.answers.Path.{Path}
use Rattle.sv_paths.specs.Listing.{without_choice, taking, test_paths, command_paths, block_paths}
use Rattle.sv_paths.specs.Paths.{Next, OneOf, Ends, Judges, IsStep, IsPath}
use Rattle.sv_paths.proofs.MemberLaws.{In, Taken, in_left, in_right, in_either, in_taking, in_taken}
use Rattle.sv_paths.proofs.NextLaws.{mapped, regroup, group, ended, ending, alone, lone, joined, joining, twice}

-- the paths of a list that abort, or don't
abbrev pub Lists : List Path → Bool → List Bool → Type 0
Lists xs aborts choices = In (record { choices = choices; aborts = aborts }) xs

abbrev pub side : List Path → List Path → Bool → List Path
side ys ns true = ys
side ys ns false = ns

abbrev Sides : Bool → List Path → List Path → Bool → List Bool → Type 0
Sides aborts ys ns holds = Lists (side ys ns holds) aborts

-- behind a comparison
sides_of : (aborts : Bool) (ys ns : List Path) (value : Bool) (cs : List Bool) → Taken value (record { choices = cs; aborts = aborts }) (side ys ns value)
    → Next (λ v ds. ds ≡ v ∷ []) (Sides aborts ys ns) cs
sides_of aborts ys ns value cs t = record {
  value = value;
  front = value ∷ [];
  back = t.path.choices;
  whole = ap (λ p. p.choices) t.is;
  first = refl;
  following = subst (λ b. In (record { choices = t.path.choices; aborts = b }) (side ys ns value)) (sym (ap (λ p. p.aborts) t.is)) t.inside;
}

compared : (aborts : Bool) (ys ns : List Path) (cs : List Bool) → Lists (map (taking false) ns ++ map (taking true) ys) aborts cs → Next (λ v ds. ds ≡ v ∷ []) (Sides aborts ys ns) cs
compared aborts ys ns cs i = by (in_either (record { choices = cs; aborts = aborts }) (map (taking false) ns) (map (taking true) ys) i)
  where
    by : In (record { choices = cs; aborts = aborts }) (map (taking false) ns) ⊎ In (record { choices = cs; aborts = aborts }) (map (taking true) ys) → Next (λ v ds. ds ≡ v ∷ []) (Sides aborts ys ns) cs
    by (inl j) = sides_of aborts ys ns false cs (in_taken false (record { choices = cs; aborts = aborts }) ns j)
    by (inr j) = sides_of aborts ys ns true cs (in_taken true (record { choices = cs; aborts = aborts }) ys j)

comparing : (aborts : Bool) (ys ns : List Path) (cs : List Bool) → Next (λ v ds. ds ≡ v ∷ []) (Sides aborts ys ns) cs → Lists (map (taking false) ns ++ map (taking true) ys) aborts cs
comparing aborts ys ns cs n = subst (Lists (map (taking false) ns ++ map (taking true) ys) aborts) (sym (n.whole ∙ ap (λ l. l ++ n.back) n.first)) (by n.value n.following)
  where
    by : (v : Bool) → Sides aborts ys ns v n.back → Lists (map (taking false) ns ++ map (taking true) ys) aborts (v ∷ n.back)
    by true i = in_right (record { choices = true ∷ n.back; aborts = aborts }) (map (taking false) ns) (map (taking true) ys) (in_taking true (record { choices = n.back; aborts = aborts }) ys i)
    by false i = in_left (record { choices = false ∷ n.back; aborts = aborts }) (map (taking false) ns) (map (taking true) ys) (in_taking false (record { choices = n.back; aborts = aborts }) ns i)

-- behind a negation
swapped : (aborts : Bool) (ys ns : List Path) (v : Bool) (cs : List Bool) → Sides aborts ns ys v cs → Sides aborts ys ns (not v) cs
swapped aborts ys ns true cs s = s
swapped aborts ys ns false cs s = s

turned : (F : Bool → List Bool → Type 0) (aborts : Bool) (ys ns : List Path) (cs : List Bool) → Next F (Sides aborts ns ys) cs → Next (λ v. F (not v)) (Sides aborts ys ns) cs
turned F aborts ys ns cs n = record {
  value = not n.value;
  front = n.front;
  back = n.back;
  whole = n.whole;
  first = twice F n.value n.front n.first;
  following = swapped aborts ys ns n.value n.back n.following;
}

turning : (F : Bool → List Bool → Type 0) (aborts : Bool) (ys ns : List Path) (cs : List Bool) → Next (λ v. F (not v)) (Sides aborts ys ns) cs → Next F (Sides aborts ns ys) cs
turning F aborts ys ns cs n = record {
  value = not n.value;
  front = n.front;
  back = n.back;
  whole = n.whole;
  first = n.first;
  following = swapped aborts ns ys n.value n.back n.following;
}

-- behind the first part of `and` and of `or`
one_side : (aborts : Bool) (xs : List Path) (k : Bool) (cs : List Bool) → Sides aborts xs xs k cs → Lists xs aborts cs
one_side aborts xs true cs i = i
one_side aborts xs false cs i = i

each_side : (aborts : Bool) (xs : List Path) (k : Bool) (cs : List Bool) → Lists xs aborts cs → Sides aborts xs xs k cs
each_side aborts xs true cs i = i
each_side aborts xs false cs i = i

abbrev IsIn : Test → Bool → List Path → List Path → Type 0
IsIn q aborts ys ns = (cs : List Bool) → Lists (test_paths q ys ns) aborts cs → Next (Judges q) (Sides aborts ys ns) cs

abbrev IsOut : Test → Bool → List Path → List Path → Type 0
IsOut q aborts ys ns = (cs : List Bool) → Next (Judges q) (Sides aborts ys ns) cs → Lists (test_paths q ys ns) aborts cs

both_in : (q : Test) (aborts : Bool) (ys ns : List Path) → IsIn q aborts ys ns → IsIn q aborts ns ns → (h : Bool) (cs : List Bool) → Sides aborts (test_paths q ys ns) (test_paths q ns ns) h cs
    → Next (Judges q) (λ k. Sides aborts ys ns (h && k)) cs
both_in q aborts ys ns f g true cs i = f cs i
both_in q aborts ys ns f g false cs i = mapped (Judges q) (Sides aborts ns ns) (λ k. Lists ns aborts) (one_side aborts ns) cs (g cs i)

both_out : (q : Test) (aborts : Bool) (ys ns : List Path) → IsOut q aborts ys ns → IsOut q aborts ns ns → (h : Bool) (cs : List Bool) → Next (Judges q) (λ k. Sides aborts ys ns (h && k)) cs
    → Sides aborts (test_paths q ys ns) (test_paths q ns ns) h cs
both_out q aborts ys ns f g true cs n = f cs n
both_out q aborts ys ns f g false cs n = g cs (mapped (Judges q) (λ k. Lists ns aborts) (Sides aborts ns ns) (each_side aborts ns) cs n)

either_in : (q : Test) (aborts : Bool) (ys ns : List Path) → IsIn q aborts ys ys → IsIn q aborts ys ns → (h : Bool) (cs : List Bool) → Sides aborts (test_paths q ys ys) (test_paths q ys ns) h cs
    → Next (Judges q) (λ k. Sides aborts ys ns (h || k)) cs
either_in q aborts ys ns f g true cs i = mapped (Judges q) (Sides aborts ys ys) (λ k. Lists ys aborts) (one_side aborts ys) cs (f cs i)
either_in q aborts ys ns f g false cs i = g cs i

either_out : (q : Test) (aborts : Bool) (ys ns : List Path) → IsOut q aborts ys ys → IsOut q aborts ys ns → (h : Bool) (cs : List Bool) → Next (Judges q) (λ k. Sides aborts ys ns (h || k)) cs
    → Sides aborts (test_paths q ys ys) (test_paths q ys ns) h cs
either_out q aborts ys ns f g true cs n = f cs (mapped (Judges q) (λ k. Lists ys aborts) (Sides aborts ys ys) (each_side aborts ys) cs n)
either_out q aborts ys ns f g false cs n = g cs n

pub test_in : (t : Test) (aborts : Bool) (ys ns : List Path) → IsIn t aborts ys ns
test_in (Compare a r b) aborts ys ns cs i = compared aborts ys ns cs i
test_in (Negation t) aborts ys ns cs i = turned (Judges t) aborts ys ns cs (test_in t aborts ns ys cs i)
test_in (Both t q) aborts ys ns cs i =
    joining ◌&&◌ (Judges t) (Judges q) (Sides aborts ys ns) cs
    (mapped (Judges t) (Sides aborts (test_paths q ys ns) (test_paths q ns ns)) (λ h. Next (Judges q) (λ k. Sides aborts ys ns (h && k)))
    (both_in q aborts ys ns (test_in q aborts ys ns) (test_in q aborts ns ns)) cs (test_in t aborts (test_paths q ys ns) (test_paths q ns ns) cs i))
test_in (Either t q) aborts ys ns cs i =
    joining ◌||◌ (Judges t) (Judges q) (Sides aborts ys ns) cs
    (mapped (Judges t) (Sides aborts (test_paths q ys ys) (test_paths q ys ns)) (λ h. Next (Judges q) (λ k. Sides aborts ys ns (h || k)))
    (either_in q aborts ys ns (test_in q aborts ys ys) (test_in q aborts ys ns)) cs (test_in t aborts (test_paths q ys ys) (test_paths q ys ns) cs i))

pub test_out : (t : Test) (aborts : Bool) (ys ns : List Path) → IsOut t aborts ys ns
test_out (Compare a r b) aborts ys ns cs n = comparing aborts ys ns cs n
test_out (Negation t) aborts ys ns cs n = test_out t aborts ns ys cs (turning (Judges t) aborts ys ns cs n)
test_out (Both t q) aborts ys ns cs n =
    test_out t aborts (test_paths q ys ns) (test_paths q ns ns) cs
    (mapped (Judges t) (λ h. Next (Judges q) (λ k. Sides aborts ys ns (h && k))) (Sides aborts (test_paths q ys ns) (test_paths q ns ns))
    (both_out q aborts ys ns (test_out q aborts ys ns) (test_out q aborts ns ns)) cs (joined ◌&&◌ (Judges t) (Judges q) (Sides aborts ys ns) cs n))
test_out (Either t q) aborts ys ns cs n =
    test_out t aborts (test_paths q ys ys) (test_paths q ys ns) cs
    (mapped (Judges t) (λ h. Next (Judges q) (λ k. Sides aborts ys ns (h || k))) (Sides aborts (test_paths q ys ys) (test_paths q ys ns))
    (either_out q aborts ys ns (test_out q aborts ys ys) (test_out q aborts ys ns)) cs (joined ◌||◌ (Judges t) (Judges q) (Sides aborts ys ns) cs n))

-- behind a statement: nothing where it aborts
abbrev pub Behind : Bool → List Path → Bool → List Bool → Type 0
Behind aborts rest true = Ends true aborts
Behind aborts rest false = Lists rest aborts

abbrev Enters : (Bool → List Bool → Type 0) → List Path → Bool → List Path → Type 0
Enters F xs aborts rest = (cs : List Bool) → Lists xs aborts cs → Next F (Behind aborts rest) cs

abbrev Leaves : (Bool → List Bool → Type 0) → List Path → Bool → List Path → Type 0
Leaves F xs aborts rest = (cs : List Bool) → Next F (Behind aborts rest) cs → Lists xs aborts cs

chosen : (aborts : Bool) (ys ns : Block) (rest : List Path) → Enters (IsPath ys) (block_paths ys rest) aborts rest → Enters (IsPath ns) (block_paths ns rest) aborts rest
    → (h : Bool) (cs : List Bool) → Sides aborts (block_paths ys rest) (block_paths ns rest) h cs → Next (λ v. OneOf h (IsPath ys v) (IsPath ns v)) (Behind aborts rest) cs
chosen aborts ys ns rest f g true cs i = f cs i
chosen aborts ys ns rest f g false cs i = g cs i

choosing : (aborts : Bool) (ys ns : Block) (rest : List Path) → Leaves (IsPath ys) (block_paths ys rest) aborts rest → Leaves (IsPath ns) (block_paths ns rest) aborts rest
    → (h : Bool) (cs : List Bool) → Next (λ v. OneOf h (IsPath ys v) (IsPath ns v)) (Behind aborts rest) cs → Sides aborts (block_paths ys rest) (block_paths ns rest) h cs
choosing aborts ys ns rest f g true cs n = f cs n
choosing aborts ys ns rest f g false cs n = g cs n

followed : (aborts : Bool) (b : Block) (rest : List Path) → Enters (IsPath b) (block_paths b rest) aborts rest
    → (x : Bool) (cs : List Bool) → Behind aborts (block_paths b rest) x cs → Next (λ v. OneOf x (Ends true v) (IsPath b v)) (Behind aborts rest) cs
followed aborts b rest f true cs e = ending true (Behind aborts rest) cs e
followed aborts b rest f false cs i = f cs i

following : (aborts : Bool) (b : Block) (rest : List Path) → Leaves (IsPath b) (block_paths b rest) aborts rest
    → (x : Bool) (cs : List Bool) → Next (λ v. OneOf x (Ends true v) (IsPath b v)) (Behind aborts rest) cs → Behind aborts (block_paths b rest) x cs
following aborts b rest f true cs n = ended true (Behind aborts rest) cs n
following aborts b rest f false cs n = f cs n

ends_of : (is aborts : Bool) (cs : List Bool) → Lists (without_choice is ∷ []) aborts cs → Ends is aborts cs
ends_of is aborts cs (inl e) = (sym (ap (λ p. p.aborts) e), sym (ap (λ p. p.choices) e))
ends_of is aborts cs (inr i) = absurd i

ends_in : (is aborts : Bool) (cs : List Bool) → Ends is aborts cs → Lists (without_choice is ∷ []) aborts cs
ends_in is aborts cs e = inl (λ i. record { choices = sym e.1 i; aborts = sym e.0 i })

mutual
  pub command_in : (c : Command) (aborts : Bool) (rest : List Path) → Enters (IsStep c) (command_paths c rest) aborts rest
  command_in (Declare x e) aborts rest cs i = ending false (Behind aborts rest) cs i
  command_in (Assign x e) aborts rest cs i = ending false (Behind aborts rest) cs i
  command_in (Fetch r t k) aborts rest cs i = ending false (Behind aborts rest) cs i
  command_in (Choose c ys ns) aborts rest cs i =
      group (Judges c) (λ h v. OneOf h (IsPath ys v) (IsPath ns v)) (Behind aborts rest) cs
      (mapped (Judges c) (Sides aborts (block_paths ys rest) (block_paths ns rest)) (λ h. Next (λ v. OneOf h (IsPath ys v) (IsPath ns v)) (Behind aborts rest))
      (chosen aborts ys ns rest (block_in ys aborts rest) (block_in ns aborts rest)) cs (test_in c aborts (block_paths ys rest) (block_paths ns rest) cs i))
  command_in (ForRows r t c body) aborts rest cs i = ending false (Behind aborts rest) cs i
  command_in (ForEach x l body) aborts rest cs i = ending false (Behind aborts rest) cs i
  command_in (Insert t vs) aborts rest cs i = ending false (Behind aborts rest) cs i
  command_in (Fresh x t vs) aborts rest cs i = ending false (Behind aborts rest) cs i
  command_in (Update t k ss) aborts rest cs i = ending false (Behind aborts rest) cs i
  command_in (Remove t k) aborts rest cs i = ending false (Behind aborts rest) cs i
  command_in (Abort n) aborts rest cs i = ending true (Behind aborts rest) cs (ends_of true aborts cs i)
  command_in (Reply e) aborts rest cs i = ending false (Behind aborts rest) cs i

  pub block_in : (b : Block) (aborts : Bool) (rest : List Path) → Enters (IsPath b) (block_paths b rest) aborts rest
  block_in Finish aborts rest cs i = ending false (Behind aborts rest) cs i
  block_in (Then c b) aborts rest cs i =
      group (IsStep c) (λ x v. OneOf x (Ends true v) (IsPath b v)) (Behind aborts rest) cs
      (mapped (IsStep c) (Behind aborts (block_paths b rest)) (λ x. Next (λ v. OneOf x (Ends true v) (IsPath b v)) (Behind aborts rest))
      (followed aborts b rest (block_in b aborts rest)) cs (command_in c aborts (block_paths b rest) cs i))

mutual
  pub command_out : (c : Command) (aborts : Bool) (rest : List Path) → Leaves (IsStep c) (command_paths c rest) aborts rest
  command_out (Declare x e) aborts rest cs n = ended false (Behind aborts rest) cs n
  command_out (Assign x e) aborts rest cs n = ended false (Behind aborts rest) cs n
  command_out (Fetch r t k) aborts rest cs n = ended false (Behind aborts rest) cs n
  command_out (Choose c ys ns) aborts rest cs n =
      test_out c aborts (block_paths ys rest) (block_paths ns rest) cs
      (mapped (Judges c) (λ h. Next (λ v. OneOf h (IsPath ys v) (IsPath ns v)) (Behind aborts rest)) (Sides aborts (block_paths ys rest) (block_paths ns rest))
      (choosing aborts ys ns rest (block_out ys aborts rest) (block_out ns aborts rest)) cs (regroup (Judges c) (λ h v. OneOf h (IsPath ys v) (IsPath ns v)) (Behind aborts rest) cs n))
  command_out (ForRows r t c body) aborts rest cs n = ended false (Behind aborts rest) cs n
  command_out (ForEach x l body) aborts rest cs n = ended false (Behind aborts rest) cs n
  command_out (Insert t vs) aborts rest cs n = ended false (Behind aborts rest) cs n
  command_out (Fresh x t vs) aborts rest cs n = ended false (Behind aborts rest) cs n
  command_out (Update t k ss) aborts rest cs n = ended false (Behind aborts rest) cs n
  command_out (Remove t k) aborts rest cs n = ended false (Behind aborts rest) cs n
  command_out (Abort n) aborts rest cs m = ends_in true aborts cs (ended true (Behind aborts rest) cs m)
  command_out (Reply e) aborts rest cs n = ended false (Behind aborts rest) cs n

  pub block_out : (b : Block) (aborts : Bool) (rest : List Path) → Leaves (IsPath b) (block_paths b rest) aborts rest
  block_out Finish aborts rest cs n = ended false (Behind aborts rest) cs n
  block_out (Then c b) aborts rest cs n =
      command_out c aborts (block_paths b rest) cs
      (mapped (IsStep c) (λ x. Next (λ v. OneOf x (Ends true v) (IsPath b v)) (Behind aborts rest)) (Behind aborts (block_paths b rest))
      (following aborts b rest (block_out b aborts rest)) cs (regroup (IsStep c) (λ x v. OneOf x (Ends true v) (IsPath b v)) (Behind aborts rest) cs n))

-- behind a whole block there is nothing
last_in : (aborts v : Bool) (cs : List Bool) → Behind aborts (without_choice false ∷ []) v cs → Ends v aborts cs
last_in aborts true cs e = e
last_in aborts false cs i = ends_of false aborts cs i

last_out : (aborts v : Bool) (cs : List Bool) → Ends v aborts cs → Behind aborts (without_choice false ∷ []) v cs
last_out aborts true cs e = e
last_out aborts false cs e = ends_in false aborts cs e

pub listed_is_path : (b : Block) (p : Path) → In p (block_paths b (without_choice false ∷ [])) → IsPath b p.aborts p.choices
listed_is_path b p i =
    alone (IsPath b) p.aborts p.choices
    (mapped (IsPath b) (Behind p.aborts (without_choice false ∷ [])) (λ v. Ends v p.aborts) (last_in p.aborts) p.choices (block_in b p.aborts (without_choice false ∷ []) p.choices i))

pub path_is_listed : (b : Block) (p : Path) → IsPath b p.aborts p.choices → In p (block_paths b (without_choice false ∷ []))
path_is_listed b p h =
    block_out b p.aborts (without_choice false ∷ []) p.choices
    (mapped (IsPath b) (λ v. Ends v p.aborts) (Behind p.aborts (without_choice false ∷ [])) (last_out p.aborts) p.choices (lone (IsPath b) p.aborts p.choices h))
