-- One part behind another: how they are grouped, and what may be put in a part's place.
use Rattle.std.proofs.Common.{◌≡◌, Bool, true, false, not, List, [], ◌++◌, refl, sym, ap, ◌∙◌, append_assoc, append-nil, subst}
use Rattle.sv_paths.specs.Paths.{Next, Ends}

pub mapped : (F : Bool → List Bool → Type 0) (G H : Bool → List Bool → Type 0) → ((v : Bool) (cs : List Bool) → G v cs → H v cs) → (cs : List Bool) → Next F G cs → Next F H cs
mapped F G H f cs n = record { value = n.value; front = n.front; back = n.back; whole = n.whole; first = n.first; following = f n.value n.back n.following }

-- the second part's own parts
pub regroup : (F : Bool → List Bool → Type 0) (G : Bool → Bool → List Bool → Type 0) (H : Bool → List Bool → Type 0) → (cs : List Bool)
    → Next (λ v. Next F (λ a. G a v)) H cs → Next F (λ a. Next (G a) H) cs
regroup F G H cs n = record {
  value = n.first.value;
  front = n.first.front;
  back = n.first.back ++ n.back;
  whole = n.whole ∙ ap (λ l. l ++ n.back) n.first.whole ∙ append_assoc n.first.front n.first.back n.back;
  first = n.first.first;
  following = record { value = n.value; front = n.first.back; back = n.back; whole = refl; first = n.first.following; following = n.following };
}

pub group : (F : Bool → List Bool → Type 0) (G : Bool → Bool → List Bool → Type 0) (H : Bool → List Bool → Type 0) → (cs : List Bool)
    → Next F (λ a. Next (G a) H) cs → Next (λ v. Next F (λ a. G a v)) H cs
group F G H cs n = record {
  value = n.following.value;
  front = n.front ++ n.following.front;
  back = n.following.back;
  whole = n.whole ∙ ap (λ l. n.front ++ l) n.following.whole ∙ sym (append_assoc n.front n.following.front n.following.back);
  first = record { value = n.value; front = n.front; back = n.following.front; whole = refl; first = n.first; following = n.following.first };
  following = n.following.following;
}

-- a part without choices
pub ended : (is : Bool) (H : Bool → List Bool → Type 0) (cs : List Bool) → Next (Ends is) H cs → H is cs
ended is H cs n =
    let back : cs ≡ n.back = n.whole ∙ ap (λ l. l ++ n.back) n.first.1 in
    subst (λ v. H v cs) n.first.0 (subst (H n.value) (sym back) n.following)

pub ending : (is : Bool) (H : Bool → List Bool → Type 0) (cs : List Bool) → H is cs → Next (Ends is) H cs
ending is H cs h = record { value = is; front = []; back = cs; whole = refl; first = (refl, refl); following = h }

-- nothing behind a part
pub alone : (F : Bool → List Bool → Type 0) (value : Bool) (cs : List Bool) → Next F (λ v. Ends v value) cs → F value cs
alone F value cs n =
    let front : cs ≡ n.front = n.whole ∙ ap (λ l. n.front ++ l) n.following.1 ∙ append-nil n.front in
    subst (λ v. F v cs) (sym n.following.0) (subst (F n.value) (sym front) n.first)

pub lone : (F : Bool → List Bool → Type 0) (value : Bool) (cs : List Bool) → F value cs → Next F (λ v. Ends v value) cs
lone F value cs f = record { value = value; front = cs; back = []; whole = sym (append-nil cs); first = f; following = (refl, refl) }

-- two parts that come to one value
pub joined : (join : Bool → Bool → Bool) (F G H : Bool → List Bool → Type 0) (cs : List Bool)
    → Next (λ v. Next F (λ h. Next G (λ k. Ends (join h k) v))) H cs → Next F (λ h. Next G (λ k. H (join h k))) cs
joined join F G H cs n =
    mapped F (λ h. Next (λ v. Next G (λ k. Ends (join h k) v)) H) (λ h. Next G (λ k. H (join h k)))
    (λ h ds m. mapped G (λ k. Next (Ends (join h k)) H) (λ k. H (join h k)) (λ k es. ended (join h k) H es) ds (regroup G (λ k. Ends (join h k)) H ds m)) cs
    (regroup F (λ h v. Next G (λ k. Ends (join h k) v)) H cs n)

pub joining : (join : Bool → Bool → Bool) (F G H : Bool → List Bool → Type 0) (cs : List Bool)
    → Next F (λ h. Next G (λ k. H (join h k))) cs → Next (λ v. Next F (λ h. Next G (λ k. Ends (join h k) v))) H cs
joining join F G H cs n =
    group F (λ h v. Next G (λ k. Ends (join h k) v)) H cs
    (mapped F (λ h. Next G (λ k. H (join h k))) (λ h. Next (λ v. Next G (λ k. Ends (join h k) v)) H)
    (λ h ds m. group G (λ k. Ends (join h k)) H ds (mapped G (λ k. H (join h k)) (λ k. Next (Ends (join h k)) H) (λ k es. ending (join h k) H es) ds m)) cs n)

-- of a value negated twice
pub twice : (F : Bool → List Bool → Type 0) (v : Bool) (cs : List Bool) → F v cs → F (not (not v)) cs
twice F true cs f = f
twice F false cs f = f
