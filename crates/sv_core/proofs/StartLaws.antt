-- The medium to which nothing has happened, and the room that is lacked.
use Rattle.std.proofs.Common.{◌≡◌, ℕ, zero, suc, ◌+◌, ◌*◌, ◌<◌, ◌≤◌, nat_lt, if◌then◌else◌, true, false, List, [], ◌∷◌, length, get_or, Option, Some, None, slice_get, refl, sym, ap, subst, ◌∙◌, arith}
use Rattle.std.specs.Prelude.{All, replicate}
use Rattle.std.specs.Option.{option_map}
use Rattle.std.proofs.lemmas.Bool.Decides.{nat_tests}
use Rattle.sv_effect.specs.declared.ops.Op.{Op}
use Rattle.sv_effect.specs.declared.ops.RowEffect.{RowEffect}
use Rattle.sv_effect.specs.Cut.{Medium}
use Rattle.sv_effect.specs.Takes.{inserts}
use Rattle.sv_core.specs.declared.entries.Which.{Which}
use Rattle.sv_core.specs.declared.entries.Which.TheVariants.{Rows, Changes}
use Rattle.sv_core.specs.declared.sessions.Session.{Session}
use Rattle.sv_core.specs.Counts.{HasShortValues}
use Rattle.sv_core.specs.Document.{Document}
use Rattle.sv_core.specs.History.{published}
use Rattle.sv_core.specs.Mediums.{how_many_pending}
use Rattle.sv_core.specs.MediumState.{AreFreshSessions, Keeps, shown, proposals_in}
use Rattle.sv_core.specs.Publications.{Published, ArePublished, medium_in}
use Rattle.sv_core.specs.Room.{Lack, lack_of, inserts_in, changes_in, rows_used, changes_used}
use Rattle.sv_core.specs.Sound.{Sound}
use Rattle.sv_core.proofs.SumLaws.{inserts_add_up, changes_add_up, all_none}

-- no session has a proposal
pub none_wait : (sessions : List Session) (n : ℕ) → length sessions ≡ n
    → ((place : ℕ) (state : Session) → slice_get sessions place ≡ Some state → state.proposal ≡ None)
    → proposals_in sessions ≡ replicate n None
none_wait [] zero long none = refl
none_wait [] (suc n) long none = absurd (omega (arith, long))
none_wait (s ∷ sessions) zero long none = absurd (omega (arith, long))
none_wait (s ∷ sessions) (suc n) long none =
    λ i. shown (none 0 s refl i) ∷ none_wait sessions n (omega (arith, long)) (λ place state get. none (suc place) state get) i

none_count : (n : ℕ) → how_many_pending (replicate n None) ≡ 0
none_count zero = refl
none_count (suc n) = let ih : how_many_pending (replicate n None) ≡ 0 = none_count n in omega (arith, ih)

empty_at : (n place : ℕ) → get_or {A = List Op} (replicate n []) place [] ≡ []
empty_at zero place = refl
empty_at (suc n) zero = refl
empty_at (suc n) (suc place) = empty_at n place

-- nothing is published
abbrev pub nothing : ℕ → Published
nothing room = record { blues = replicate 8 []; reds = []; order = []; inserts = 0; changes = 0; room = room }

none_published : (doc : Document) → ArePublished doc [] (nothing doc.asks)
none_published doc = record {
  eight = refl;
  lists = lists;
  order = refl;
  inserts = sym (all_none inserts_in inserts_add_up (published doc []) (λ o. refl));
  changes = sym (all_none changes_in changes_add_up (published doc []) (λ o. refl));
  room = omega arith;
}
  where
    lists : (o : ℕ) → medium_in (nothing doc.asks) o ≡ published doc [] o
    lists zero = refl
    lists (suc place) = empty_at 8 place

pub keeps_start : (doc : Document) (k : Published) (sessions : List Session) (capacity : ℕ) → Sound doc → All HasShortValues doc.init → k ≡ nothing doc.asks
    → AreFreshSessions doc 64 sessions
    → 9 * doc.asks + doc.moves ≤ capacity → Keeps doc [] k sessions capacity
keeps_start doc k sessions capacity sound short is fresh space = record {
  lawful = record { sound = sound; legal = tt };
  short = record { init = short; adds = λ o q op get. absurd cc };
  ops = subst (ArePublished doc []) (sym is) (none_published doc);
  long = fresh.long;
  states = fresh.states;
  awaited = let none : how_many_pending (proposals_in sessions) ≡ 0 =
      ap how_many_pending (none_wait sessions 64 fresh.long fresh.none) ∙ none_count 64 in omega (arith, none);
  space = space;
}

-- what is lacked, and how much of it is used
abbrev pub parts : Option Lack → Option (Which × ℕ)
parts lack = option_map (λ l. (l.which, l.used)) lack

pub lacks_rows : (doc : Document) (m : Medium) (es : List RowEffect) (used : ℕ) → used ≡ rows_used doc m → doc.rows < used + inserts es
    → Some (Rows, used) ≡ parts (lack_of doc m es)
lacks_rows doc m es used is more =
    let test : nat_lt doc.rows (rows_used doc m + inserts es) ≡ true = grind (arith, nat_tests, is, more) in
    (λ i. Some (Rows, is i)) ∙ sym (ap (λ b. parts (if b then Some (record { which = Rows; used = rows_used doc m })
    else if nat_lt doc.changes (changes_used m + length es) then Some (record { which = Changes; used = changes_used m }) else None)) test)

pub lacks_changes : (doc : Document) (m : Medium) (es : List RowEffect) (rows used : ℕ) → rows ≡ rows_used doc m → used ≡ changes_used m
    → rows + inserts es ≤ doc.rows → doc.changes < used + length es
    → Some (Changes, used) ≡ parts (lack_of doc m es)
lacks_changes doc m es rows used rows_is is fit more =
    let first : nat_lt doc.rows (rows_used doc m + inserts es) ≡ false = grind (arith, nat_tests, rows_is, fit) in
    let second : nat_lt doc.changes (changes_used m + length es) ≡ true = grind (arith, nat_tests, is, more) in
    (λ i. Some (Changes, is i)) ∙ sym (λ i. parts (if first i then Some (record { which = Rows; used = rows_used doc m })
    else if second i then Some (record { which = Changes; used = changes_used m }) else None))

pub lacks_nothing : (doc : Document) (m : Medium) (es : List RowEffect) (rows used : ℕ) → rows ≡ rows_used doc m → used ≡ changes_used m
    → rows + inserts es ≤ doc.rows → used + length es ≤ doc.changes
    → None ≡ parts (lack_of doc m es)
lacks_nothing doc m es rows used rows_is is fit others =
    let first : nat_lt doc.rows (rows_used doc m + inserts es) ≡ false = grind (arith, nat_tests, rows_is, fit) in
    let second : nat_lt doc.changes (changes_used m + length es) ≡ false = grind (arith, nat_tests, is, others) in
    sym (λ i. parts (if first i then Some (record { which = Rows; used = rows_used doc m })
    else if second i then Some (record { which = Changes; used = changes_used m }) else None))
