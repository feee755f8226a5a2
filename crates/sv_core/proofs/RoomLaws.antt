-- How much there can be of a legal history: entries, packets, published operations, times, and what is used of the room for rows and changes.
use Rattle.std.proofs.Common.{◌≡◌, ◌⊎◌, inl, inr, ℕ, zero, suc, ◌<◌, ◌≤◌, ◌+◌, ◌*◌, ◌==◌, ◌&&◌, if◌then◌else◌, Bool, true, false, List, [], ◌∷◌, ◌++◌, length, Option, Some, None, slice_get, refl, ap, ◌∙◌, arith}
use Rattle.std.specs.Prelude.{nat_lt}
use Rattle.std.proofs.lemmas.Bool.Decides.{nat_tests}
use Rattle.std.proofs.lemmas.List.{length_push}
use Rattle.sv_value.specs.declared.packets.Packet.{Packet}
use Rattle.sv_value.specs.declared.packets.Packet.TheVariants as packets
use Rattle.sv_value.specs.Cuts.{origin, number}
use Rattle.sv_app.specs.declared.requests.Request.{Request}
use Rattle.sv_app.proofs.TestLaws.{same_test, other_test}
use Rattle.sv_effect.specs.declared.ops.Op.{Op}
use Rattle.sv_effect.specs.declared.ops.RowEffect.{RowEffect}
use Rattle.sv_effect.specs.Cut.{Medium}
use Rattle.sv_effect.specs.TablesOfCut.{all_to}
use Rattle.sv_effect.specs.Takes.{inserts}
use Rattle.sv_effect.specs.Threatened.{Unthreatened}
use Rattle.sv_effect.proofs.Members.{Grown}
use Rattle.sv_threat.specs.declared.label.Label.{Label}
use Rattle.sv_threat.specs.declared.label.Label.TheVariants.{Nothing, Blue, Red}
use Rattle.sv_core.specs.declared.entries.Reply.{Reply}
use Rattle.sv_core.specs.declared.entries.Which.TheVariants.{Rows, Changes}
use Rattle.sv_core.specs.declared.entries.Entry.{Entry}
use Rattle.sv_core.specs.declared.entries.Entry.TheVariants.{Answer, Apply, Move}
use Rattle.sv_core.specs.Clock.{latest_in}
use Rattle.sv_core.specs.Document.{Document}
use Rattle.sv_core.specs.History.{History, brings, cut_of, back_to, run_then, op_of, news, published, answers, moves}
use Rattle.sv_core.specs.Laws.{IsLawful}
use Rattle.sv_core.specs.Legal.{IsDue, Shows, IsJudgedThen}
use Rattle.sv_core.specs.Packets.{packets_in}
use Rattle.sv_core.specs.Room.{rows_used, changes_used, inserts_in, changes_in, Lack, lack_of}
use Rattle.sv_core.specs.Sound.{IsSite}
use Rattle.sv_core.specs.WorldLaws.{AllFew}
use Rattle.sv_core.proofs.BirthLaws.{lawful_before, same_pair}
use Rattle.sv_core.proofs.ClockLaws.{latest_below}
use Rattle.sv_core.proofs.FactLaws.{small_origin}
use Rattle.sv_core.proofs.HistoryLaws.{none_some, due_of, asked_there, within}
use Rattle.sv_core.proofs.MediumLaws.{news_get, news_long}
use Rattle.sv_core.proofs.SumLaws.{sum_below, sum_below-same, sum_below-one, sum_below-le, sum_below-most, AddsUp, inserts_add_up, changes_add_up, all_grown, all_none}

-- where the packet of an answer came to
pub record IsSmall (site : ℕ) (packet : Packet) : Type 0 where
  pub from : 1 ≤ site
  pub to : site ≤ 8
  pub small : origin packet < 9

pub small_packet : (doc : Document) (h : History) (session index : ℕ) (request : Request) (site at : ℕ) (reply : Reply) (label : Label) (packet : Packet)
    → IsLawful doc (Answer session index request site at reply label (Some packet) ∷ h) → IsSmall site packet
small_packet doc h session index request site at reply label packet lawful =
    record { from = there.0; to = to; small = by (due_of doc h session index request site at reply label packet lawful.legal.0).kind }
  where
    there : IsSite doc site
    there = asked_there doc h lawful.sound.some lawful.legal.1 session index request site at lawful.legal.0.asked

    to : site ≤ 8
    to = let a : site ≤ doc.sites = there.1 in let b : doc.sites ≤ 8 = lawful.sound.sites in omega (arith, a, b)

    by : ((origin packet ≡ site) × (at ≡ length h) × Unthreatened doc.schema (run_then doc (published doc h) h session index request site at).effects)
        ⊎ ((origin packet ≡ 0) × (cut_of (back_to at h) site 0 ≡ length (published doc h 0))) → origin packet < 9
    by (inl k) = let is : origin packet ≡ site = k.0 in omega (arith, is, to)
    by (inr k) = let is : origin packet ≡ 0 = k.0 in omega (arith, is)

-- what stands published, and what the sites have
abbrev pub stand : Medium → ℕ
stand m = sum_below (λ o. length (m o)) 9

abbrev had : History → ℕ → ℕ
had h place = sum_below (λ o. cut_of h (suc place) o) 9

abbrev had_all : History → ℕ
had_all h = sum_below (had h) 8

had_more : (h : History) (e : Entry) (site o : ℕ) → 1 ≤ site → site ≤ 8 → o < 9 → ((s x : ℕ) → brings e s x ≡ (s == site && x == o))
    → had_all (e ∷ h) ≡ had_all h + 1
had_more h e zero o one eight small is = absurd (omega (arith, one))
had_more h e (suc place) o one eight small is = sum_below-one (had h) (had (e ∷ h)) 8 place 1 (omega (arith, eight)) here others
  where
    rises : (s x : ℕ) (b : Bool) → brings e s x ≡ b → cut_of (e ∷ h) s x ≡ (if b then suc (cut_of h s x) else cut_of h s x)
    rises s x b e = rw e refl

    one_here : cut_of (e ∷ h) (suc place) o ≡ cut_of h (suc place) o + 1
    one_here =
        let up : cut_of (e ∷ h) (suc place) o ≡ suc (cut_of h (suc place) o) =
        rises (suc place) o true (is (suc place) o ∙ rw (same_test (suc place) (suc place) refl, same_test o o refl) refl) in
        omega (arith, up)

    here : had (e ∷ h) place ≡ had h place + 1
    here = sum_below-one (λ x. cut_of h (suc place) x) (λ x. cut_of (e ∷ h) (suc place) x) 9 o 1 small one_here
        (λ x apart. rises (suc place) x false (is (suc place) x ∙ rw (same_test (suc place) (suc place) refl, other_test x o apart) refl))

    others : (p : ℕ) → (p ≡ place → ⊥) → had (e ∷ h) p ≡ had h p
    others p apart = sum_below-same (λ x. cut_of (e ∷ h) (suc p) x) (λ x. cut_of h (suc p) x) 9
        (λ x lt. rises (suc p) x false (is (suc p) x ∙ rw (other_test (suc p) (suc place) (λ e. apart (omega (arith, e)))) refl))

-- each entry answers a request, moves a session or brings a site one operation
long_few : (doc : Document) (h : History) → IsLawful doc h → length h ≤ answers h + had_all h + moves h
unfolding sum_below
long_few doc [] lawful = omega arith
long_few doc (Answer session index request site at reply label None ∷ h) lawful =
    let ih : length h ≤ answers h + had_all h + moves h = long_few doc h (lawful_before doc _ h lawful) in omega (arith, ih)
long_few doc (Answer session index request site at reply label (Some packet) ∷ h) lawful =
    let ih : length h ≤ answers h + had_all h + moves h = long_few doc h (lawful_before doc _ h lawful) in
    let s : IsSmall site packet = small_packet doc h session index request site at reply label packet lawful in
    let rise : had_all (Answer session index request site at reply label (Some packet) ∷ h) ≡ had_all h + 1 =
    had_more h (Answer session index request site at reply label (Some packet)) site (origin packet) s.from s.to s.small (λ s x. refl) in
    omega (arith, ih, rise)
long_few doc (Apply site packet ∷ h) lawful =
    let before : IsLawful doc h = lawful_before doc _ h lawful in
    let ih : length h ≤ answers h + had_all h + moves h = long_few doc h before in
    let most : site ≤ doc.sites = lawful.legal.0.there.1 in
    let eight : doc.sites ≤ 8 = lawful.sound.sites in
    let rise : had_all (Apply site packet ∷ h) ≡ had_all h + 1 =
    had_more h (Apply site packet) site (origin packet) lawful.legal.0.there.0 (omega (arith, most, eight))
    (small_origin doc h (origin packet) (number packet) lawful.legal.0.op before lawful.legal.0.stands) (λ s x. refl) in
    omega (arith, ih, rise)
long_few doc (Move session site ∷ h) lawful =
    let ih : length h ≤ answers h + had_all h + moves h = long_few doc h (lawful_before doc _ h lawful) in omega (arith, ih)

-- each published operation has a packet
one_long : (doc : Document) (h : History) (session index : ℕ) (request : Request) (site at : ℕ) (packet : Packet) (o : ℕ) (b : Bool)
    → length (published doc h o) ≤ length (packets_in h)
    → (if b then suc (length (published doc h o)) else length (published doc h o)) ≤ length (packets_in h ++ packet ∷ [])
one_long doc h session index request site at packet o true le = let a = length_push (packets_in h) packet in omega (arith, a, le)
one_long doc h session index request site at packet o false le = let a = length_push (packets_in h) packet in omega (arith, a, le)

pub published_few : (doc : Document) (h : History) (o : ℕ) → length (published doc h o) ≤ length (packets_in h)
published_few doc [] o = omega arith
published_few doc (Answer session index request site at reply label None ∷ h) o = published_few doc h o
published_few doc (Answer session index request site at reply label (Some packet) ∷ h) o =
    rw (news_long (origin packet, op_of doc (published doc h) h session index request site at) (published doc h) o)
    (one_long doc h session index request site at packet o (o == origin packet) (published_few doc h o))
published_few doc (Apply site packet ∷ h) o = published_few doc h o
published_few doc (Move session site ∷ h) o = published_few doc h o

-- what an answer publishes
published_grown : (doc : Document) (h : History) (session index : ℕ) (request : Request) (site at : ℕ) (reply : Reply) (label : Label) (packet : Packet)
    → Grown (published doc h) (published doc (Answer session index request site at reply label (Some packet) ∷ h)) (origin packet)
    (op_of doc (published doc h) h session index request site at ∷ [])
published_grown doc h session index request site at reply label packet = record {
  here = rw (same_test (origin packet) (origin packet) refl) refl;
  others = λ o apart. rw (other_test o (origin packet) apart) refl;
}

pub stand_few : (doc : Document) (h : History) → IsLawful doc h → stand (published doc h) ≤ length (packets_in h)
unfolding sum_below
stand_few doc [] lawful = omega arith
stand_few doc (Answer session index request site at reply label None ∷ h) lawful = stand_few doc h (lawful_before doc _ h lawful)
stand_few doc (Answer session index request site at reply label (Some packet) ∷ h) lawful =
    let ih : stand (published doc h) ≤ length (packets_in h) = stand_few doc h (lawful_before doc _ h lawful) in
    let small : origin packet < 9 = (small_packet doc h session index request site at reply label packet lawful).small in
    let op : Op = op_of doc (published doc h) h session index request site at in
    let grown = published_grown doc h session index request site at reply label packet in
    let up : length (published doc h (origin packet) ++ op ∷ []) ≡ length (published doc h (origin packet)) + 1 =
    (let more = length_push (published doc h (origin packet)) op in omega (arith, more)) in
    let rise : stand (published doc (Answer session index request site at reply label (Some packet) ∷ h)) ≡ stand (published doc h) + 1 =
    sum_below-one (λ o. length (published doc h o)) _ 9 (origin packet) 1 small (ap length grown.here ∙ up) (λ o apart. ap length (grown.others o apart)) in
    let long = length_push (packets_in h) packet in
    omega (arith, ih, rise, long)
stand_few doc (Apply site packet ∷ h) lawful = stand_few doc h (lawful_before doc _ h lawful)
stand_few doc (Move session site ∷ h) lawful = stand_few doc h (lawful_before doc _ h lawful)

had_few : (doc : Document) (h : History) → IsLawful doc h → had_all h ≤ 8 * stand (published doc h)
had_few doc h lawful =
    sum_below-most (had h) 8 (stand (published doc h))
    (λ p. sum_below-le (λ o. cut_of h (suc p) o) (λ o. length (published doc h o)) 9 (λ o. within doc h lawful.legal (suc p) o))

-- each packet is an answer's
packets_few : (h : History) → length (packets_in h) ≤ answers h
packets_few [] = omega arith
packets_few (Answer session index request site at reply label None ∷ h) = let ih : length (packets_in h) ≤ answers h = packets_few h in omega (arith, ih)
packets_few (Answer session index request site at reply label (Some packet) ∷ h) =
    let ih : length (packets_in h) ≤ answers h = packets_few h in let long = length_push (packets_in h) packet in omega (arith, ih, long)
packets_few (Apply site packet ∷ h) = packets_few h
packets_few (Move session site ∷ h) = packets_few h

answers_few : (doc : Document) (h : History) → IsLawful doc h → answers h ≤ doc.asks
answers_few doc [] lawful = omega arith
answers_few doc (Answer session index request site at reply label packet ∷ h) lawful =
    let lt : answers h < doc.asks = lawful.legal.0.asked.awaited in omega (arith, lt)
answers_few doc (Apply site packet ∷ h) lawful = answers_few doc h (lawful_before doc _ h lawful)
answers_few doc (Move session site ∷ h) lawful = answers_few doc h (lawful_before doc _ h lawful)

moves_few : (doc : Document) (h : History) → IsLawful doc h → moves h ≤ doc.moves
moves_few doc [] lawful = omega arith
moves_few doc (Answer session index request site at reply label packet ∷ h) lawful = moves_few doc h (lawful_before doc _ h lawful)
moves_few doc (Apply site packet ∷ h) lawful = moves_few doc h (lawful_before doc _ h lawful)
moves_few doc (Move session site ∷ h) lawful = let lt : moves h < doc.moves = lawful.legal.0.awaited in omega (arith, lt)

-- a time is one more than that of an earlier operation
news_early : (doc : Document) (m : Medium) (h : History) (e : Entry) (o : ℕ) (op : Op) (n : ℕ) → ((s : ℕ) → latest_in m (cut_of h s) ≤ n)
    → news doc m h e ≡ Some (o, op) → op.time ≤ suc n
news_early doc m h (Answer session index request site at reply label None) o op n below is = absurd cc
news_early doc m h (Answer session index request site at reply label (Some packet)) o op n below is =
    let new : ℕ × Op = (origin packet, op_of doc m h session index request site at) in
    let old : ℕ × Op = (o, op) in
    let time : suc (latest_in m (cut_of h site)) ≡ op.time = ap (λ (n : ℕ × Op). n.1.time) (same_pair new old is) in
    let le : latest_in m (cut_of h site) ≤ n = below site in
    omega (arith, time, le)
news_early doc m h (Apply site packet) o op n below is = absurd cc
news_early doc m h (Move session site) o op n below is = absurd cc

early : (doc : Document) (h : History) (o q : ℕ) (op : Op) → slice_get (published doc h o) q ≡ Some op → op.time ≤ length h
early doc [] o q op get = absurd cc
early doc (e ∷ h) o q op get = from (early doc h) (news_get (news doc (published doc h) h e) (published doc h) o q op get)
  where
    from : ((p r : ℕ) (x : Op) → slice_get (published doc h p) r ≡ Some x → x.time ≤ length h)
        → (slice_get (published doc h o) q ≡ Some op) ⊎ ((q ≡ length (published doc h o)) × (news doc (published doc h) h e ≡ Some (o, op)))
        → op.time ≤ suc (length h)
    from ih (inl old) = let le : op.time ≤ length h = ih o q op old in omega (arith, le)
    from ih (inr new) = news_early doc (published doc h) h e o op (length h) (λ s. latest_below (published doc h) (cut_of h s) (length h) ih) new.1

-- what an operation has room for
record IsRoom (doc : Document) (m : Medium) (es : List RowEffect) : Type 0 where
  rows : rows_used doc m + inserts es ≤ doc.rows
  changes : changes_used m + length es ≤ doc.changes

nothing_lacks : (doc : Document) (m : Medium) (es : List RowEffect) → lack_of doc m es ≡ None → IsRoom doc m es
nothing_lacks doc m es none = by (nat_lt doc.rows (rows_used doc m + inserts es)) refl (nat_lt doc.changes (changes_used m + length es)) refl none
  where
    no_rows : Lack
    no_rows = record { which = Rows; used = rows_used doc m }

    no_changes : Lack
    no_changes = record { which = Changes; used = changes_used m }

    by : (a : Bool) → nat_lt doc.rows (rows_used doc m + inserts es) ≡ a → (b : Bool) → nat_lt doc.changes (changes_used m + length es) ≡ b
        → (if a then Some no_rows else if b then Some no_changes else None) ≡ None → IsRoom doc m es
    by true is b at e = absurd (none_some no_rows e)
    by false is true at e = absurd (none_some no_changes e)
    by false is false at e = record { rows = grind (arith, nat_tests, is); changes = grind (arith, nat_tests, at) }

-- an answer with a packet lacked nothing
shows_room : (doc : Document) (m : Medium) (es : List RowEffect) (judged : Reply) (label : Label) (due : Packet) (reply : Reply) (show : Label)
    (packet : Packet) → Shows (lack_of doc m es) judged label due reply show (Some packet) → IsRoom doc m es
shows_room doc m es judged label due reply show packet shows = by (lack_of doc m es) refl shows
  where
    by : (lack : Option Lack) → lack_of doc m es ≡ lack → Shows lack judged label due reply show (Some packet) → IsRoom doc m es
    by (Some lack) is s = absurd (none_some packet s.2)
    by None is s = nothing_lacks doc m es is

room_of : (doc : Document) (h : History) (session index : ℕ) (request : Request) (site at : ℕ) (reply : Reply) (show : Label) (packet : Packet)
    → IsJudgedThen doc h session index request site at reply show (Some packet)
    → IsRoom doc (published doc h) (op_of doc (published doc h) h session index request site at).effects
room_of doc h session index request site at reply show packet j = by j.label j.due
  where
    op : Op
    op = op_of doc (published doc h) h session index request site at

    by : (label : Label) → IsDue doc h site at op j.judged label reply show (Some packet) → IsRoom doc (published doc h) op.effects
    by Nothing d = absurd (none_some packet d.3)
    by Blue d = shows_room doc (published doc h) op.effects j.judged Blue (packets.Blue site (length (published doc h site))) reply show packet d.1
    by (Red instance place reason) d =
        shows_room doc (published doc h) op.effects j.judged (Red instance place reason) (packets.Red (length (published doc h 0))) reply show packet d.1

-- a measure of what is published, under a bound that each answer kept
used_few : (doc : Document) (F : List Op → ℕ) (start most : ℕ) → AddsUp F → start ≤ most
    → ((m : Medium) (op : Op) → IsRoom doc m op.effects → start + F (all_to m 9) + F (op ∷ []) ≤ most)
    → (h : History) → IsLawful doc h → start + F (all_to (published doc h) 9) ≤ most
used_few doc F start most adds some room [] lawful = let a : F (all_to (published doc []) 9) ≡ 0 = all_none F adds (published doc []) (λ o. refl) in omega (arith, a, some)
used_few doc F start most adds some room (Answer session index request site at reply label None ∷ h) lawful =
    used_few doc F start most adds some room h (lawful_before doc _ h lawful)
used_few doc F start most adds some room (Answer session index request site at reply label (Some packet) ∷ h) lawful =
    let op : Op = op_of doc (published doc h) h session index request site at in
    let a : F (all_to (published doc (Answer session index request site at reply label (Some packet) ∷ h)) 9) ≡ F (all_to (published doc h) 9) + F (op ∷ []) =
    all_grown F adds (published doc h) (published doc (Answer session index request site at reply label (Some packet) ∷ h)) (origin packet) (op ∷ [])
    (published_grown doc h session index request site at reply label packet)
    (small_packet doc h session index request site at reply label packet lawful).small in
    let b : start + F (all_to (published doc h) 9) + F (op ∷ []) ≤ most =
    room (published doc h) op (room_of doc h session index request site at reply label packet lawful.legal.0.given) in
    omega (arith, a, b)
used_few doc F start most adds some room (Apply site packet ∷ h) lawful = used_few doc F start most adds some room h (lawful_before doc _ h lawful)
used_few doc F start most adds some room (Move session site ∷ h) lawful = used_few doc F start most adds some room h (lawful_before doc _ h lawful)

rows_few : (doc : Document) (h : History) → IsLawful doc h → rows_used doc (published doc h) ≤ doc.rows
rows_few doc h lawful = used_few doc inserts_in (length doc.init) doc.rows inserts_add_up lawful.sound.room one h lawful
  where
    one : (m : Medium) (op : Op) → IsRoom doc m op.effects → length doc.init + inserts_in (all_to m 9) + inserts_in (op ∷ []) ≤ doc.rows
    one m op room = let a : rows_used doc m + inserts op.effects ≤ doc.rows = room.rows in omega (arith, a)

changes_few : (doc : Document) (h : History) → IsLawful doc h → changes_used (published doc h) ≤ doc.changes
changes_few doc h lawful = let a = used_few doc changes_in 0 doc.changes changes_add_up (omega arith) one h lawful in omega (arith, a)
  where
    one : (m : Medium) (op : Op) → IsRoom doc m op.effects → 0 + changes_in (all_to m 9) + changes_in (op ∷ []) ≤ doc.changes
    one m op room = let a : changes_used m + length op.effects ≤ doc.changes = room.changes in omega (arith, a)

pub all_few : AllFew
all_few doc h lawful = record {
  asked = answers_few doc h lawful;
  moved = moves_few doc h lawful;
  long =
      let a : length h ≤ answers h + had_all h + moves h = long_few doc h lawful in
      let b : had_all h ≤ 8 * stand (published doc h) = had_few doc h lawful in
      let c : stand (published doc h) ≤ length (packets_in h) = stand_few doc h lawful in
      let d : length (packets_in h) ≤ answers h = packets_few h in
      omega (arith, a, b, c, d);
  packets = packets_few h;
  lists = published_few doc h;
  latest = λ s. latest_below (published doc h) (cut_of h s) (length h) (early doc h);
  rows = rows_few doc h lawful;
  changes = changes_few doc h lawful;
}
