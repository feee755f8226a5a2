-- A history that is read from its oldest entry on.
use Rattle.std.proofs.Common.{◌≡◌, ◌⊎◌, inl, inr, ℕ, zero, suc, ◌+◌, ◌-◌, ◌<◌, ◌≤◌, ◌==◌, ◌&&◌, if◌then◌else◌, Bool, true, false, List, [], ◌∷◌, ◌++◌, length, take, drop, get_or, Option, Some, None, refl, sym, ap, subst, ◌∙◌, arith}
use Rattle.std.specs.Prelude.{reverse, count_by, cond, max, All, not}
use Rattle.std.specs.List.{list_all}
use Rattle.std.proofs.Math.Seq.{drop-append_seam, take-append_seam}
use Rattle.std.proofs.lemmas.List.{take_more, take-append-drop, reverse-append, reverse-reverse, length-reverse, length-drop}
use Rattle.std.proofs.lemmas.List.Elements.{All-cons, All-head, All-tail, All-push, All-same, All-nil}
use Rattle.std.proofs.lemmas.List.Recursion.{is_count_by}
use Rattle.sv_effect.specs.Cut.{Cut}
use Rattle.sv_core.specs.declared.entries.Entry.{Entry}
use Rattle.sv_core.specs.declared.entries.Entry.TheVariants.{Answer, Apply, Move}
use Rattle.sv_core.specs.Document.{Document}
use Rattle.sv_core.specs.History.{History, answered, back_to, count_where, cut_of, is_of, moved, seen_of, site_of}
use Rattle.sv_core.specs.Legal.{Legal, IsNext}
use Rattle.sv_core.proofs.HistoryLaws.{cut_grows}
use Rattle.sv_legal.specs.Grown.{site_answered, site_behind, with_brought}
use Rattle.sv_legal.specs.Turns.{is_other, IsQuietSince}

-- how many entries pass a test, in either direction
one_where : (b : Bool) (m n : ℕ) → (if b then suc (m + n) else (m + n)) ≡ (if b then suc m else m) + n
one_where true m n = omega arith
one_where false m n = refl

where-append : (p : Entry → Bool) (g h : History) → count_where p (g ++ h) ≡ count_where p g + count_where p h
where-append p [] h = omega arith
where-append p (e ∷ g) h = ap (λ n. if p e then suc n else n) (where-append p g h) ∙ one_where (p e) (count_where p g) (count_where p h)

where-reverse : (p : Entry → Bool) (h : History) → count_where p (reverse h) ≡ count_where p h
where-reverse p [] = refl
where-reverse p (e ∷ h) =
    ap (count_where p) (reverse-append (e ∷ []) h)
    ∙ where-append p (reverse h) (e ∷ [])
    ∙ ap (λ n. n + count_where p (e ∷ [])) (where-reverse p h)
    ∙ last (p e) (count_where p h)
  where
    last : (b : Bool) (n : ℕ) → n + (if b then suc 0 else 0) ≡ (if b then suc n else n)
    last true n = omega arith
    last false n = omega arith

pub count_reverse : (p : Entry → Bool) (entries : List Entry) → count_by p entries ≡ count_where p (reverse entries)
count_reverse p entries = sym (where-reverse p entries ∙ is_count_by (count_where p) p refl (λ e h. one (p e) (count_where p h)) entries)
  where
    one : (b : Bool) (n : ℕ) → (if b then suc n else n) ≡ cond b (1 + n) n
    one true n = omega arith
    one false n = refl

-- the answers and the moves of a session
of_session : (h : History) (k : ℕ) → count_where (is_of k) h ≡ answered h k + moved h k
of_session [] k = omega arith
of_session (Answer session index request site at reply label packet ∷ h) k = by (k == session) (of_session h k)
  where
    by : (b : Bool) → count_where (is_of k) h ≡ answered h k + moved h k
        → (if b then suc (count_where (is_of k) h) else count_where (is_of k) h) ≡ (if b then suc (answered h k) else answered h k) + moved h k
    by true ih = omega (arith, ih)
    by false ih = ih
of_session (Apply site packet ∷ h) k = of_session h k
of_session (Move session site ∷ h) k = by (k == session) (of_session h k)
  where
    by : (b : Bool) → count_where (is_of k) h ≡ answered h k + moved h k
        → (if b then suc (count_where (is_of k) h) else count_where (is_of k) h) ≡ answered h k + (if b then suc (moved h k) else moved h k)
    by true ih = omega (arith, ih)
    by false ih = ih

pub done_reverse : (k : ℕ) (entries : List Entry) → count_by (is_of k) entries ≡ answered (reverse entries) k + moved (reverse entries) k
done_reverse k entries = count_reverse (is_of k) entries ∙ of_session (reverse entries) k

-- one entry more
pub reverse_more : (entries : List Entry) (i : ℕ) (e : Entry) → i < length entries → e ≡ get_or entries i e → reverse (take (i + 1) entries) ≡ e ∷ reverse (take i entries)
reverse_more entries i e lt is =
    ap reverse (take_more entries i e lt)
    ∙ reverse-append (take i entries) (get_or entries i e ∷ [])
    ∙ ap (λ x. x ∷ reverse (take i entries)) (sym is)

-- a history ends with each of its beginnings
pub reverse_parts : (entries : List Entry) (k : ℕ) → reverse entries ≡ reverse (drop k entries) ++ reverse (take k entries)
reverse_parts entries k = ap reverse (sym (take-append-drop k entries)) ∙ reverse-append (take k entries) (drop k entries)

behind : (entries : List Entry) (at : ℕ) → length (reverse entries) - at ≡ length (reverse (drop at entries))
behind entries at = omega (arith, length-reverse entries, length-reverse (drop at entries), length-drop at entries)

-- the history as it stood at a place, and what was added since
pub back_is : (entries : List Entry) (at : ℕ) → back_to at (reverse entries) ≡ reverse (take at entries)
back_is entries at =
    (λ i. drop (behind entries at i) (reverse_parts entries at i)) ∙ drop-append_seam (reverse (drop at entries)) (reverse (take at entries))

since_is : (entries : List Entry) (at : ℕ) → take (length (reverse entries) - at) (reverse entries) ≡ reverse (drop at entries)
since_is entries at =
    (λ i. take (behind entries at i) (reverse_parts entries at i)) ∙ take-append_seam (reverse (drop at entries)) (reverse (take at entries))

-- a fact of all entries, in either direction
All-reverse : (P : Entry → Type 0) (entries : List Entry) → All P entries → All P (reverse entries)
All-reverse P [] all = all
All-reverse P (e ∷ entries) all =
    All-same P (reverse (e ∷ entries)) (reverse entries ++ e ∷ []) (reverse-append (e ∷ []) entries)
    (All-push P (reverse entries) e (All-reverse P entries (All-tail P e entries all)) (All-head P e entries all))

all_off : (session : ℕ) (entries : List Entry) → list_all (is_other session) entries ≡ true → All (λ e. is_of session e ≡ false) entries
all_off session [] all = All-nil (λ e. is_of session e ≡ false)
all_off session (e ∷ entries) all = by (is_of session e) refl all (λ t. all_off session entries t)
  where
    by : (b : Bool) → is_of session e ≡ b → (not b && list_all (is_other session) entries) ≡ true
        → (list_all (is_other session) entries ≡ true → All (λ x. is_of session x ≡ false) entries) → All (λ x. is_of session x ≡ false) (e ∷ entries)
    by true is t ih = absurd cc
    by false is t ih = All-cons (λ x. is_of session x ≡ false) e entries is (ih t)

off_all : (session : ℕ) (entries : List Entry) → All (λ e. is_of session e ≡ false) entries → list_all (is_other session) entries ≡ true
off_all session [] all = refl
off_all session (e ∷ entries) all =
    ap (λ b. not b && list_all (is_other session) entries) (All-head (λ x. is_of session x ≡ false) e entries all)
    ∙ off_all session entries (All-tail (λ x. is_of session x ≡ false) e entries all)

pub quiet_from : (session : ℕ) (entries : List Entry) (at : ℕ) → list_all (is_other session) (drop at entries) ≡ true → IsQuietSince (reverse entries) session at
quiet_from session entries at all =
    subst (All (λ e. is_of session e ≡ false)) (sym (since_is entries at)) (All-reverse (λ e. is_of session e ≡ false) (drop at entries) (all_off session (drop at entries) all))

pub quiet_to : (session : ℕ) (entries : List Entry) (at : ℕ) → IsQuietSince (reverse entries) session at → list_all (is_other session) (drop at entries) ≡ true
quiet_to session entries at quiet =
    off_all session (drop at entries)
    (subst (All (λ e. is_of session e ≡ false)) (reverse-reverse (drop at entries))
    (All-reverse (λ e. is_of session e ≡ false) (reverse (drop at entries)) (subst (All (λ e. is_of session e ≡ false)) (since_is entries at) quiet)))

-- what a site has at the beginnings of a history
cut_behind : (g h : History) (s o : ℕ) → cut_of h s o ≤ cut_of (g ++ h) s o
cut_behind [] h s o = omega arith
cut_behind (e ∷ g) h s o = let ih : cut_of h s o ≤ cut_of (g ++ h) s o = cut_behind g h s o in let more = cut_grows e (g ++ h) s o in omega (arith, ih, more)

pub cut_before : (entries : List Entry) (k s o : ℕ) → cut_of (reverse (take k entries)) s o ≤ cut_of (reverse entries) s o
cut_before entries k s o =
    subst (λ h. cut_of (reverse (take k entries)) s o ≤ cut_of h s o) (sym (reverse_parts entries k)) (cut_behind (reverse (drop k entries)) (reverse (take k entries)) s o)

pub before_fits : (entries : List Entry) (k s o : ℕ) → ((s o : ℕ) → cut_of (reverse entries) s o ≤ 4294967295) → cut_of (reverse (take k entries)) s o ≤ 4294967295
before_fits entries k s o fits =
    let a : cut_of (reverse (take k entries)) s o ≤ cut_of (reverse entries) s o = cut_before entries k s o in let b : cut_of (reverse entries) s o ≤ 4294967295 = fits s o in omega (arith, a, b)

-- and with one entry more
pub cut_more : (entries : List Entry) (i : ℕ) (e : Entry) (s : ℕ) (cut : Cut) → i < length entries → e ≡ get_or entries i e → ((o : ℕ) → cut o ≡ cut_of (reverse (take i entries)) s o)
    → (o : ℕ) → with_brought e s cut o ≡ cut_of (reverse (take (i + 1) entries)) s o
cut_more entries i e s cut lt is same o = (λ k. with_brought e s (λ x. same x k) o) ∙ ap (λ h. cut_of h s o) (sym (reverse_more entries i e lt is))

pub cut_fits : (entries : List Entry) (i : ℕ) (e : Entry) (s : ℕ) (cut : Cut) → i < length entries → e ≡ get_or entries i e → ((o : ℕ) → cut o ≡ cut_of (reverse (take i entries)) s o)
    → ((o : ℕ) → cut_of (reverse entries) s o ≤ 4294967295) → (o : ℕ) → with_brought e s cut o ≤ 4294967295
cut_fits entries i e s cut lt is same fits o =
    let a : with_brought e s cut o ≡ cut_of (reverse (take (i + 1) entries)) s o = cut_more entries i e s cut lt is same o in
    let b : cut_of (reverse (take (i + 1) entries)) s o ≤ cut_of (reverse entries) s o = cut_before entries (i + 1) s o in
    let d : cut_of (reverse entries) s o ≤ 4294967295 = fits o in
    omega (arith, a, b, d)

-- where a session is
site_step : (doc : Document) (e : Entry) (h : History) (k before : ℕ) → before ≡ site_of doc h k → site_behind e k before ≡ site_of doc (e ∷ h) k
site_step doc (Answer session index request site at reply label packet) h k before is = is
site_step doc (Apply site packet) h k before is = is
site_step doc (Move session site) h k before is = ap (λ n. if k == session then site else n) is

pub site_more : (doc : Document) (entries : List Entry) (i : ℕ) (e : Entry) (k before : ℕ) → i < length entries → e ≡ get_or entries i e
    → before ≡ site_of doc (reverse (take i entries)) k → site_behind e k before ≡ site_of doc (reverse (take (i + 1) entries)) k
site_more doc entries i e k before lt is was =
    site_step doc e (reverse (take i entries)) k before was ∙ ap (λ h. site_of doc h k) (sym (reverse_more entries i e lt is))

-- what a session has seen
seen_answered : (e : Entry) (h : History) (k site o : ℕ) → site_answered e k ≡ Some site → seen_of (e ∷ h) k o ≡ max (seen_of h k o) (cut_of (e ∷ h) site o)
seen_answered (Answer session index request s at reply label packet) h k site o is = by (k == session) is
  where
    e : Entry
    e = Answer session index request s at reply label packet

    by : (b : Bool) → (if b then Some s else None) ≡ Some site → (if b then max (seen_of h k o) (cut_of (e ∷ h) s o) else seen_of h k o) ≡ max (seen_of h k o) (cut_of (e ∷ h) site o)
    by true same = let at : s ≡ site = cc in ap (λ x. max (seen_of h k o) (cut_of (e ∷ h) x o)) at
    by false same = absurd cc
seen_answered (Apply s packet) h k site o is = absurd cc
seen_answered (Move session s) h k site o is = absurd cc

seen_same : (e : Entry) (h : History) (k o : ℕ) → site_answered e k ≡ None → seen_of (e ∷ h) k o ≡ seen_of h k o
seen_same (Answer session index request s at reply label packet) h k o is = by (k == session) is
  where
    e : Entry
    e = Answer session index request s at reply label packet

    by : (b : Bool) → ◌≡◌ {A = Option ℕ} (if b then Some s else None) None → (if b then max (seen_of h k o) (cut_of (e ∷ h) s o) else seen_of h k o) ≡ seen_of h k o
    by true none = absurd cc
    by false none = refl
seen_same (Apply s packet) h k o is = refl
seen_same (Move session s) h k o is = refl

pub seen_more : (entries : List Entry) (i : ℕ) (e : Entry) (k site : ℕ) (seen cut now : Cut) → i < length entries → e ≡ get_or entries i e → site_answered e k ≡ Some site
    → ((o : ℕ) → seen o ≡ seen_of (reverse (take i entries)) k o) → ((o : ℕ) → cut o ≡ cut_of (reverse (take (i + 1) entries)) site o) → ((o : ℕ) → now o ≡ max (seen o) (cut o))
    → (o : ℕ) → now o ≡ seen_of (reverse (take (i + 1) entries)) k o
seen_more entries i e k site seen cut now lt is at was had raised o =
    raised o ∙ (λ j. max (was o j) (cut_is j)) ∙ sym (seen_answered e (reverse (take i entries)) k site o at) ∙ ap (λ h. seen_of h k o) (sym (reverse_more entries i e lt is))
  where
    cut_is : cut o ≡ cut_of (e ∷ reverse (take i entries)) site o
    cut_is = had o ∙ ap (λ h. cut_of h site o) (reverse_more entries i e lt is)

pub seen_kept : (entries : List Entry) (i : ℕ) (e : Entry) (k : ℕ) (seen : Cut) → i < length entries → e ≡ get_or entries i e → site_answered e k ≡ None
    → ((o : ℕ) → seen o ≡ seen_of (reverse (take i entries)) k o) → (o : ℕ) → seen o ≡ seen_of (reverse (take (i + 1) entries)) k o
seen_kept entries i e k seen lt is none was o =
    was o ∙ sym (seen_same e (reverse (take i entries)) k o none) ∙ ap (λ h. seen_of h k o) (sym (reverse_more entries i e lt is))

-- a legal history has legal beginnings
legal_behind : (doc : Document) (g h : History) → Legal doc (g ++ h) → Legal doc h
legal_behind doc [] h legal = legal
legal_behind doc (e ∷ g) h legal = legal_behind doc g h legal.1

pub next_of : (doc : Document) (entries : List Entry) (i : ℕ) (e : Entry) → i < length entries → e ≡ get_or entries i e → Legal doc (reverse entries) → IsNext doc (reverse (take i entries)) e
next_of doc entries i e lt is legal = before.0
  where
    beginning : Legal doc (reverse (take (i + 1) entries))
    beginning = legal_behind doc (reverse (drop (i + 1) entries)) (reverse (take (i + 1) entries)) (subst (Legal doc) (reverse_parts entries (i + 1)) legal)

    before : Legal doc (e ∷ reverse (take i entries))
    before = subst (Legal doc) (reverse_more entries i e lt is) beginning
