-- The packets of a site: no more came than were published, and the first ones that it has it keeps.
use Rattle.std.proofs.Common.{◌≡◌, ◌⊎◌, inl, inr, ℕ, suc, ◌<◌, ◌≤◌, ◌+◌, ◌==◌, ◌&&◌, if◌then◌else◌, Bool, true, false, [], ◌∷◌, length, Some, None, slice_get, refl, ◌∙◌, arith}
use Rattle.std.proofs.lemmas.Bool.{cases_eq}
use Rattle.std.proofs.lemmas.List.{length_push}
use Rattle.sv_value.specs.declared.packets.Packet.{Packet}
use Rattle.sv_value.specs.Cuts.{origin, number}
use Rattle.sv_app.proofs.TestLaws.{same_test, other_test}
use Rattle.sv_core.specs.declared.entries.Entry.{Entry}
use Rattle.sv_core.specs.declared.entries.Entry.TheVariants.{Answer, Apply, Move}
use Rattle.sv_core.specs.Document.{Document}
use Rattle.sv_core.specs.History.{History, brings, cut_of, published}
use Rattle.sv_core.specs.Laws.{IsLawful}
use Rattle.sv_core.specs.Packets.{packets_in, packets_to, if_here}
use Rattle.sv_core.specs.Standing.{HasFirst}
use Rattle.sv_core.proofs.BirthLaws.{lawful_before}
use Rattle.sv_core.proofs.FactLaws.{small_origin}
use Rattle.sv_core.proofs.HistoryLaws.{cut_grows, within}
use Rattle.sv_core.proofs.ListLaws.{get_pushed}
use Rattle.sv_core.proofs.RoomLaws.{IsSmall, small_packet, stand, stand_few}
use Rattle.sv_core.proofs.SumLaws.{sum_below, sum_below-same, sum_below-one, sum_below-le}

-- how many packets of all origins a site has
abbrev here : History → ℕ → ℕ
here h s = sum_below (λ o. cut_of h s o) 9

brought_one : (e : Entry) (h : History) (s site : ℕ) (packet : Packet) → origin packet < 9 → ((x : ℕ) → brings e s x ≡ (s == site && x == origin packet))
    → length (packets_to h s) ≤ here h s → length (if_here s site packet (packets_to h s)) ≤ here (e ∷ h) s
brought_one e h s site packet small is le = split (cases_eq s site)
  where
    rises : (x : ℕ) (b : Bool) → brings e s x ≡ b → cut_of (e ∷ h) s x ≡ (if b then suc (cut_of h s x) else cut_of h s x)
    rises x b at = rw at refl

    split : (s ≡ site) ⊎ (s ≡ site → ⊥) → length (if_here s site packet (packets_to h s)) ≤ here (e ∷ h) s
    split (inl same) =
        let up : cut_of (e ∷ h) s (origin packet) ≡ suc (cut_of h s (origin packet)) =
        rises (origin packet) true (is (origin packet) ∙ rw (same_test s site same, same_test (origin packet) (origin packet) refl) refl) in
        let sum : here (e ∷ h) s ≡ here h s + 1 =
        sum_below-one (λ o. cut_of h s o) (λ o. cut_of (e ∷ h) s o) 9 (origin packet) 1 small (omega (arith, up))
        (λ x apart. rises x false (is x ∙ rw (same_test s site same, other_test x (origin packet) apart) refl)) in
        let more = length_push (packets_to h s) packet in
        rw (same_test s site same) (omega (arith, le, sum, more))
    split (inr other) =
        let sum : here (e ∷ h) s ≡ here h s =
        sum_below-same (λ o. cut_of (e ∷ h) s o) (λ o. cut_of h s o) 9 (λ x lt. rises x false (is x ∙ rw (other_test s site other) refl)) in
        rw (other_test s site other) (omega (arith, le, sum))

came_here : (doc : Document) (h : History) (s : ℕ) → IsLawful doc h → length (packets_to h s) ≤ here h s
came_here doc [] s lawful = omega arith
came_here doc (Answer session index request site at reply label None ∷ h) s lawful =
    let ih : length (packets_to h s) ≤ here h s = came_here doc h s (lawful_before doc _ h lawful) in
    let sum : here (Answer session index request site at reply label None ∷ h) s ≡ here h s = sum_below-same _ _ 9 (λ x lt. refl) in
    omega (arith, ih, sum)
came_here doc (Answer session index request site at reply label (Some packet) ∷ h) s lawful =
    let small : IsSmall site packet = small_packet doc h session index request site at reply label packet lawful in
    brought_one (Answer session index request site at reply label (Some packet)) h s site packet small.small (λ x. refl)
    (came_here doc h s (lawful_before doc _ h lawful))
came_here doc (Apply site packet ∷ h) s lawful =
    let before : IsLawful doc h = lawful_before doc _ h lawful in
    brought_one (Apply site packet) h s site packet
    (small_origin doc h (origin packet) (number packet) lawful.legal.0.op before lawful.legal.0.stands) (λ x. refl) (came_here doc h s before)
came_here doc (Move session site ∷ h) s lawful =
    let ih : length (packets_to h s) ≤ here h s = came_here doc h s (lawful_before doc _ h lawful) in
    let sum : here (Move session site ∷ h) s ≡ here h s = sum_below-same _ _ 9 (λ x lt. refl) in
    omega (arith, ih, sum)

-- no more packets came to a site than were published
pub came_few : (doc : Document) (h : History) (s : ℕ) → IsLawful doc h → length (packets_to h s) ≤ length (packets_in h)
came_few doc h s lawful =
    let a : length (packets_to h s) ≤ here h s = came_here doc h s lawful in
    let b : here h s ≤ stand (published doc h) =
    sum_below-le (λ o. cut_of h s o) (λ o. length (published doc h o)) 9 (λ o. within doc h lawful.legal s o) in
    let c : stand (published doc h) ≤ length (packets_in h) = stand_few doc h lawful in
    omega (arith, a, b, c)

-- what was published before an entry stands in front
older_packets : (e : Entry) (h : History) → length (packets_in h) ≤ length (packets_in (e ∷ h))
older_packets (Answer session index request site at reply label None) h = omega arith
older_packets (Answer session index request site at reply label (Some packet)) h = let more = length_push (packets_in h) packet in omega (arith, more)
older_packets (Apply site packet) h = omega arith
older_packets (Move session site) h = omega arith

older_packet : (e : Entry) (h : History) (place : ℕ) (packet : Packet) → place < length (packets_in h) → slice_get (packets_in (e ∷ h)) place ≡ Some packet
    → slice_get (packets_in h) place ≡ Some packet
older_packet (Answer session index request site at reply label None) h place packet lt get = get
older_packet (Answer session index request site at reply label (Some new)) h place packet lt get = by (get_pushed (packets_in h) new place packet get)
  where
    by : (slice_get (packets_in h) place ≡ Some packet) ⊎ ((place ≡ length (packets_in h)) × (new ≡ packet)) → slice_get (packets_in h) place ≡ Some packet
    by (inl old) = old
    by (inr last) = absurd (omega (arith, lt, last.0))
older_packet (Apply site new) h place packet lt get = get
older_packet (Move session site) h place packet lt get = get

-- a site keeps what it has
pub has_first_more : (doc : Document) (e : Entry) (h : History) (s many : ℕ) → HasFirst h s many → HasFirst (e ∷ h) s many
has_first_more doc e h s many has = record {
  within = let a : many ≤ length (packets_in h) = has.within in let b = older_packets e h in omega (arith, a, b);
  had = λ place packet lt get.
      let le : many ≤ length (packets_in h) = has.within in
      let old : number packet < cut_of h s (origin packet) = has.had place packet lt (older_packet e h place packet (omega (arith, lt, le)) get) in
      let grows = cut_grows e h s (origin packet) in
      omega (arith, old, grows);
}
