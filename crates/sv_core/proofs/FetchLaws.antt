-- What is added to a sheet, of one kind of asks and of several.
use Rattle.std.proofs.Common.{◌≡◌, ℕ, zero, suc, ◌+◌, ◌-◌, ◌<◌, ◌≤◌, ◌||◌, Bool, true, false, List, [], ◌∷◌, ◌++◌, All, length, Option, Some, None, refl, sym, ap, subst, ◌∙◌, arith, append_assoc, append-nil, length-append}
use Rattle.std.specs.Ordering.{is_lt}
use Rattle.std.proofs.lemmas.List.Elements.{All-append, All-cons, All-head}
use Rattle.sv_value.specs.declared.values.Key.{Key}
use Rattle.sv_value.specs.Orders.{key_cmp}
use Rattle.sv_app.specs.Schema.{schema_of}
use Rattle.sv_app.specs.Tables.{Tables}
use Rattle.sv_effect.specs.declared.reads.Ask.{Ask}
use Rattle.sv_effect.specs.declared.reads.Ask.TheVariants.{Row, Next}
use Rattle.sv_effect.specs.Agrees.{Agrees, IsNextKey, is_after}
use Rattle.sv_effect.specs.Reads.{ReadValue}
use Rattle.sv_effect.proofs.FollowLaws.{Agrees-append}
use Rattle.sv_core.specs.Sheets.{Adds, AreNew, Follows, IsAdded, IsBehind, IsFetch, IsOfKey, SheetView, is_ask, is_known, with_read}
use Rattle.sv_core.proofs.SheetLaws.{later, same_ask}

nothing : (P : ReadValue → Type 0) → All P []
nothing P k d lt = absurd (omega (arith, lt))

pub adds_none : (t : Tables) (Kind : Ask → Type 0) (s : SheetView) → Adds t Kind s 0 s
adds_none t Kind s = record { more = []; doc = refl; known = sym (append-nil s.known); many = refl; room = omega arith; new = tt; given = tt; kinds = nothing (λ read. Kind read.ask) }

pub adds_one : (t : Tables) (ask : Ask) (before after : SheetView) → 1 ≤ before.room → is_known before.known ask ≡ false → IsAdded t ask before after → Adds t (λ asked. asked ≡ ask) before 1 after
adds_one t ask before after room unknown added = record {
  more = record { ask = ask; answer = added.answer } ∷ [];
  doc = ap (λ s. s.doc) added.is;
  known = ap (λ s. s.known) added.is;
  many = refl;
  room = omega (arith, room, ap (λ s. s.room) added.is);
  new = (unknown, tt);
  given = (added.gives, tt);
  kinds = All-cons (λ read. read.ask ≡ ask) (record { ask = ask; answer = added.answer }) [] refl (nothing (λ read. read.ask ≡ ask));
}

new_both : (known more further : List ReadValue) → AreNew known more → AreNew (known ++ more) further → AreNew known (more ++ further)
new_both known [] further new later = subst (λ l. AreNew l further) (append-nil known) later
new_both known (read ∷ more) further new later = (new.0, new_both (known ++ read ∷ []) more further new.1 (subst (λ l. AreNew l further) (sym (append_assoc known (read ∷ []) more)) later))

pub adds_both : (t : Tables) (Kind : Ask → Type 0) (a : SheetView) (m : ℕ) (b : SheetView) (n : ℕ) (c : SheetView) → Adds t Kind a m b → Adds t Kind b n c → Adds t Kind a (m + n) c
adds_both t Kind a m b n c p q = record {
  more = p.more ++ q.more;
  doc = q.doc ∙ p.doc;
  known = q.known ∙ ap (λ l. l ++ q.more) p.known ∙ append_assoc a.known p.more q.more;
  many = omega (arith, p.many, q.many, length-append p.more q.more);
  room = omega (arith, p.room, q.room);
  new = new_both a.known p.more q.more p.new (subst (λ l. AreNew l q.more) p.known q.new);
  given = Agrees-append t p.more q.more p.given q.given;
  kinds = All-append (λ read. Kind read.ask) p.more q.more p.kinds q.kinds;
}

pub adds_wider : (t : Tables) (Kind Wider : Ask → Type 0) (a : SheetView) (n : ℕ) (b : SheetView) → ((ask : Ask) → Kind ask → Wider ask) → Adds t Kind a n b → Adds t Wider a n b
adds_wider t Kind Wider a n b h p = record { more = p.more; doc = p.doc; known = p.known; many = p.many; room = p.room; new = p.new; given = p.given; kinds = λ k d lt. h _ (p.kinds k d lt) }

-- the row and the next key of a key that was found
pub adds_found : (t : Tables) (table : ℕ) (key : Key) (a : SheetView) (m : ℕ) (b : SheetView) (n : ℕ) (c : SheetView) → Adds t (λ asked. asked ≡ Row table key) a m b
    → Adds t (λ asked. asked ≡ Next table (Some key)) b n c → Adds t (IsOfKey table key) a (m + n) c
adds_found t table key a m b n c p q =
    adds_both t (IsOfKey table key) a m b n c (adds_wider t (λ asked. asked ≡ Row table key) (IsOfKey table key) a m b (λ asked is. subst (IsOfKey table key) (sym is) (refl, refl)) p)
    (adds_wider t (λ asked. asked ≡ Next table (Some key)) (IsOfKey table key) b n c (λ asked is. subst (IsOfKey table key) (sym is) (refl, refl)) q)

-- so many were added behind a key, and what follows the last of them follows it
pub record FetchesBehind (t : Tables) (table : ℕ) (after last : Option Key) (a : SheetView) (n : ℕ) (b : SheetView) : Type 0 where
  pub adds : Adds t (IsBehind t table after) a n b
  pub onward : (key : Key) → is_after last key ≡ true → is_after after key ≡ true

pub behind_none : (t : Tables) (table : ℕ) (after : Option Key) (a : SheetView) → FetchesBehind t table after after a 0 a
behind_none t table after a = record { adds = adds_none t (IsBehind t table after) a; onward = λ key is. is }

of_key : (t : Tables) (table : ℕ) (after last : Option Key) (key : Key) → ((k : Key) → is_after last k ≡ true → is_after after k ≡ true) → IsNextKey t table last (Some key) → (ask : Ask) → IsOfKey table key ask → IsBehind t table after ask
of_key t table after last key onward next (Row other asked) is = subst (λ k. IsBehind t table after (Row other k)) (sym is.1) (is.0, onward key next.0, next.1)
of_key t table after last key onward next (Next other None) is = absurd is
of_key t table after last key onward next (Next other (Some asked)) is = subst (λ k. IsBehind t table after (Next other (Some k))) (sym is.1) (is.0, onward key next.0, next.1)

pub behind_more : (t : Tables) (table : ℕ) (after last next : Option Key) (key : Key) (a : SheetView) (m : ℕ) (b : SheetView) (n : ℕ) (c : SheetView) → FetchesBehind t table after last a m b → next ≡ Some key
    → IsNextKey t table last next → Adds t (IsOfKey table key) b n c → FetchesBehind t table after next a (m + n) c
behind_more t table after last next key a m b n c f found is p = record {
  adds = adds_both t (IsBehind t table after) a m b n c f.adds (adds_wider t (IsOfKey table key) (IsBehind t table after) b n c (of_key t table after last key f.onward one) p);
  onward = λ other lt. f.onward other (later last key other one.0 (sym (ap (λ k. is_after k other) found) ∙ lt));
}
  where
    one : IsNextKey t table last (Some key)
    one = subst (IsNextKey t table last) found is

-- one answer, and what follows it
pub fetched : (t : Tables) (ask : Ask) (a b : SheetView) (n : ℕ) (c : SheetView) → 1 ≤ a.room → is_known a.known ask ≡ false → IsAdded t ask a b → Adds t (Follows t ask) b n c → IsFetch t ask a (n + 1) c
fetched t ask a b n c room unknown added p = record { between = b; first = adds_one t ask a b room unknown added; rest = n; follow = p; many = refl }

any_behind : (xs ys : List ReadValue) (ask : Ask) → is_known ys ask ≡ true → is_known (xs ++ ys) ask ≡ true
any_behind [] ys ask is = is
any_behind (x ∷ xs) ys ask is = or_true (is_ask ask x.ask) (is_known (xs ++ ys) ask) (any_behind xs ys ask is)
  where
    or_true : (a b : Bool) → b ≡ true → (a || b) ≡ true
    or_true true b e = refl
    or_true false b e = e

any_before : (xs ys : List ReadValue) (ask : Ask) → is_known xs ask ≡ true → is_known (xs ++ ys) ask ≡ true
any_before [] ys ask is = absurd cc
any_before (x ∷ xs) ys ask is = split (is_ask ask x.ask) is (λ later. any_before xs ys ask later)
  where
    split : (a : Bool) → (a || is_known xs ask) ≡ true → (is_known xs ask ≡ true → is_known (xs ++ ys) ask ≡ true) → (a || is_known (xs ++ ys) ask) ≡ true
    split true e ih = refl
    split false e ih = ih e

one_known : (more : List ReadValue) (ask : Ask) → 1 ≡ length more → All (λ read. read.ask ≡ ask) more → is_known more ask ≡ true
one_known [] ask many kinds = absurd (omega (arith, many))
one_known (read ∷ more) ask many kinds = rw (ap (λ asked. is_ask ask asked) (All-head (λ x. x.ask ≡ ask) read more kinds) ∙ same_ask ask) refl

-- the ask is known then
pub fetched_known : (t : Tables) (ask : Ask) (before : SheetView) (count : ℕ) (after : SheetView) → IsFetch t ask before count after → is_known after.known ask ≡ true
fetched_known t ask before count after f =
    subst (λ l. is_known l ask ≡ true) (sym f.follow.known)
    (any_before f.between.known f.follow.more ask
    (subst (λ l. is_known l ask ≡ true) (sym f.first.known) (any_behind before.known f.first.more ask (one_known f.first.more ask f.first.many f.first.kinds))))
