-- How calls that read rows follow each other.
use Rattle.std.proofs.Common.{◌≡◌, ℕ, List, [], ◌∷◌, ◌++◌, Option, Some, None, MatchOption, refl, sym, ap, subst, ◌∙◌, append_assoc, append-nil}
use Rattle.sv_value.specs.declared.values.Key.{Key}
use Rattle.sv_app.specs.Tables.{Tables}
use Rattle.sv_effect.specs.declared.reads.Ask.{Ask}
use Rattle.sv_effect.specs.declared.reads.Ask.TheVariants as ask
use Rattle.sv_effect.specs.Reads.{SeenValue, Answer, IsRow, IsKey, ReadValue}
use Rattle.sv_effect.specs.Agrees.{place_at, seen_at, IsNextKey, Gives, Agrees}
use Rattle.sv_effect.specs.Faces.{Face}
use Rattle.sv_effect.specs.Follows.{noted_more, TableAgrees, Follows}

noted_none : (noted : Option (List ReadValue)) → noted ≡ noted_more [] noted
noted_none None = refl
noted_none (Some reads) = ap (λ l. Some l) (sym (append-nil reads))

none_read : (told : Option Tables) → TableAgrees told []
none_read None = tt
none_read (Some t) = tt

pub Agrees-append : (t : Tables) (xs ys : List ReadValue) → Agrees t xs → Agrees t ys → Agrees t (xs ++ ys)
Agrees-append t [] ys first second = second
Agrees-append t (x ∷ xs) ys first second = (first.0, Agrees-append t xs ys first.1 second)

pub Agrees-parts : (t : Tables) (xs ys : List ReadValue) → Agrees t (xs ++ ys) → Agrees t xs × Agrees t ys
Agrees-parts t [] ys all = (tt, all)
Agrees-parts t (x ∷ xs) ys all = let parts = Agrees-parts t xs ys all.1 in ((all.0, parts.0), parts.1)

noted_both : (noted : Option (List ReadValue)) (xs ys : List ReadValue) → noted_more ys (noted_more xs noted) ≡ noted_more (xs ++ ys) noted
noted_both None xs ys = refl
noted_both (Some reads) xs ys = ap (λ l. Some l) (append_assoc reads xs ys)

told_both : (told : Option Tables) (xs ys : List ReadValue) → TableAgrees told xs → TableAgrees told ys → TableAgrees told (xs ++ ys)
told_both None xs ys first second = tt
told_both (Some t) xs ys first second = Agrees-append t xs ys first second

-- nothing was read
pub quiet : (t n : Face) (a b : Option (List ReadValue)) (P : Tables → Type 0) → n ≡ t → b ≡ a → ((x : Tables) → P x) → Follows t n a b P
quiet t n a b P same stands h = record { reads = []; same = same; noted = stands ∙ noted_none a; honest = none_read t.tables; holds = λ x agrees. h x }

-- what follows from the fact
pub so : (t n : Face) (a b : Option (List ReadValue)) (P Q : Tables → Type 0) → Follows t n a b P → ((x : Tables) → P x → Q x) → Follows t n a b Q
so t n a b P Q f h = record { reads = f.reads; same = f.same; noted = f.noted; honest = f.honest; holds = λ x agrees. h x (f.holds x agrees) }

-- one call, and then another
pub next_to : (t m n : Face) (a b c : Option (List ReadValue)) (P Q R : Tables → Type 0) → Follows t m a b P → Follows m n b c Q
    → ((x : Tables) → P x → Q x → R x) → Follows t n a c R
next_to t m n a b c P Q R f g h = record {
  reads = f.reads ++ g.reads;
  same = g.same ∙ f.same;
  noted = g.noted ∙ ap (noted_more g.reads) f.noted ∙ noted_both a f.reads g.reads;
  honest = told_both t.tables f.reads g.reads f.honest (subst (λ face. TableAgrees face.tables g.reads) f.same g.honest);
  holds = λ x agrees. let parts = Agrees-parts x f.reads g.reads agrees in h x (f.holds x parts.0) (g.holds x parts.1);
}

-- what one ask tells
one_read : (t n : Face) (a b : Option (List ReadValue)) (asked : Ask) (answer : Answer) → n ≡ t → MatchOption t.tables (Unit {0}) (λ x. Gives x asked answer)
    → b ≡ noted_more (record { ask = asked; answer = answer } ∷ []) a → Follows t n a b (λ x. Gives x asked answer)
one_read t n a b asked answer same gives noted = record {
  reads = record { ask = asked; answer = answer } ∷ [];
  same = same;
  noted = noted;
  honest = told t.tables gives;
  holds = λ x agrees. agrees.0;
}
  where
    told : (o : Option Tables) → MatchOption o (Unit {0}) (λ x. Gives x asked answer) → TableAgrees o (record { ask = asked; answer = answer } ∷ [])
    told None h = tt
    told (Some x) h = (h, tt)

pub row_told : (t n : Face) (a b : Option (List ReadValue)) (table : ℕ) (key : Key) (seen : SeenValue) → n ≡ t
    → MatchOption t.tables (Unit {0}) (λ x. seen_at x (place_at table key) ≡ seen)
    → b ≡ noted_more (record { ask = ask.Row table key; answer = IsRow seen } ∷ []) a → Follows t n a b (λ x. seen_at x (place_at table key) ≡ seen)
row_told t n a b table key seen same gives noted = one_read t n a b (ask.Row table key) (IsRow seen) same gives noted

pub key_told : (t n : Face) (a b : Option (List ReadValue)) (table : ℕ) (after next : Option Key) → n ≡ t
    → MatchOption t.tables (Unit {0}) (λ x. IsNextKey x table after next)
    → b ≡ noted_more (record { ask = ask.Next table after; answer = IsKey next } ∷ []) a → Follows t n a b (λ x. IsNextKey x table after next)
key_told t n a b table after next same gives noted = one_read t n a b (ask.Next table after) (IsKey next) same gives noted

-- all that was noted, where nothing was noted before
first_noted : (noted xs reads : List ReadValue) → noted ≡ [] → Some xs ≡ noted_more reads (Some noted) → xs ≡ reads
first_noted noted xs reads none e = let is : Some xs ≡ Some (noted ++ reads) = e in let same : xs ≡ noted ++ reads = cc in same ∙ ap (λ l. l ++ reads) none

pub all_honest : (t n : Face) (noted xs : List ReadValue) (P : Tables → Type 0) → noted ≡ [] → Follows t n (Some noted) (Some xs) P → TableAgrees t.tables xs
all_honest t n noted xs P none f = subst (TableAgrees t.tables) (sym (first_noted noted xs f.reads none f.noted)) f.honest

pub all_hold : (t n : Face) (noted xs : List ReadValue) (P : Tables → Type 0) → noted ≡ [] → Follows t n (Some noted) (Some xs) P → (x : Tables) → Agrees x xs → P x
all_hold t n noted xs P none f x agrees = f.holds x (subst (Agrees x) (first_noted noted xs f.reads none f.noted) agrees)

pub ruleset following = (quiet, so, next_to)
