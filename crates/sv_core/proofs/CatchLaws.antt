-- What a site lacks, in the order of publishing: it has all before the first of it, so it can apply the first, and then lacks the others.
use Rattle.std.proofs.Common.{◌≡◌, ◌⊎◌, inl, inr, ℕ, suc, ◌<◌, ◌≤◌, ◌==◌, ◌&&◌, cond, if◌then◌else◌, Bool, true, false, List, [], ◌∷◌, ◌++◌, drop, length, Some, None, slice_get, refl, sym, ap, subst, ◌∙◌, arith}
use Rattle.std.specs.Prelude.{nat_le}
use Rattle.std.specs.List.{filter}
use Rattle.std.proofs.lemmas.Bool.{cases_eq}
use Rattle.std.proofs.lemmas.Bool.Decides.{nat_tests}
use Rattle.std.proofs.lemmas.List.Elements.{filter-append}
use Rattle.sv_value.specs.declared.packets.Packet.{Packet}
use Rattle.sv_value.specs.Cuts.{counts, Covers, more, origin, number}
use Rattle.sv_app.specs.declared.requests.Request.{Request}
use Rattle.sv_app.proofs.TestLaws.{same_test, other_test}
use Rattle.sv_effect.specs.declared.ops.Op.{Op}
use Rattle.sv_effect.specs.Cut.{Cut, Medium}
use Rattle.sv_causal.specs.Inboxes.{lacks}
use Rattle.sv_threat.specs.declared.label.Label.{Label}
use Rattle.sv_core.specs.declared.entries.Reply.{Reply}
use Rattle.sv_core.specs.declared.entries.Entry.{Entry}
use Rattle.sv_core.specs.declared.entries.Entry.TheVariants.{Answer, Apply, Move}
use Rattle.sv_core.specs.Document.{Document}
use Rattle.sv_core.specs.History.{History, cut_of, op_of, news, published}
use Rattle.sv_core.specs.Laws.{IsLawful}
use Rattle.sv_core.specs.Packets.{packets_in}
use Rattle.sv_core.specs.WorldLaws.{FirstIsReady, NoneLacked}
use Rattle.sv_core.proofs.BirthLaws.{New, new_op, lawful_before, past_lies, made_cut, deps_own}
use Rattle.sv_core.proofs.FactLaws.{more_low, more_here}
use Rattle.sv_core.proofs.HistoryLaws.{due_of, within}
use Rattle.sv_core.proofs.ListLaws.{get_last, get_within}
use Rattle.sv_core.proofs.MediumLaws.{news_stay, news_long}

-- the packets that a cut lacks, and one of them
abbrev lacking : Cut → History → List Packet
lacking cut h = filter (lacks cut) (packets_in h)

abbrev one_lacking : Cut → Packet → List Packet
one_lacking cut packet = cond (lacks cut packet) (packet ∷ []) []

none_both : {A : Type 0} (xs ys : List A) → xs ++ ys ≡ [] → (xs ≡ []) × (ys ≡ [])
none_both [] ys e = (refl, e)
none_both (x ∷ xs) ys e = absurd cc

lacks_true : (cut : Cut) (packet : Packet) → lacks cut packet ≡ true → cut (origin packet) ≤ number packet
lacks_true cut packet e = grind (arith, nat_tests, e)

lacks_false : (cut : Cut) (packet : Packet) → lacks cut packet ≡ false → number packet < cut (origin packet)
lacks_false cut packet e = grind (arith, nat_tests, e)

true_lacks : (cut : Cut) (packet : Packet) → cut (origin packet) ≤ number packet → lacks cut packet ≡ true
true_lacks cut packet le = grind (arith, nat_tests, le)

false_lacks : (cut : Cut) (packet : Packet) → number packet < cut (origin packet) → lacks cut packet ≡ false
false_lacks cut packet lt = grind (arith, nat_tests, lt)

one_had : (cut : Cut) (packet : Packet) → one_lacking cut packet ≡ [] → number packet < cut (origin packet)
one_had cut packet none = by (lacks cut packet) refl none
  where
    by : (b : Bool) → lacks cut packet ≡ b → cond b (packet ∷ []) [] ≡ [] → number packet < cut (origin packet)
    by true is e = absurd cc
    by false is e = lacks_false cut packet is

-- the number of an answer's packet
number_is : (doc : Document) (h : History) (session index : ℕ) (request : Request) (site at : ℕ) (reply : Reply) (label : Label) (packet : Packet)
    → IsLawful doc (Answer session index request site at reply label (Some packet) ∷ h) → number packet ≡ length (published doc h (origin packet))
number_is doc h session index request site at reply label packet lawful =
    (due_of doc h session index request site at reply label packet lawful.legal.0).number_is

-- with an operation of one origin more, a bound of each length is one still
pushed_within : (m : Medium) (new : ℕ × Op) (cut : Cut) (o : ℕ) → length (m o) ≤ cut o → length (m new.0) < cut new.0
    → (if o == new.0 then suc (length (m o)) else length (m o)) ≤ cut o
pushed_within m new cut o le lt = by (cases_eq o new.0)
  where
    by : (o ≡ new.0) ⊎ (o ≡ new.0 → ⊥) → (if o == new.0 then suc (length (m o)) else length (m o)) ≤ cut o
    by (inl is) = rw (same_test o new.0 is) (subst (λ p. length (m p) < cut p) (sym is) lt)
    by (inr apart) = rw (other_test o new.0 apart) le

-- a cut that lacks nothing has all that is published
all_had : (doc : Document) (h : History) → IsLawful doc h → (cut : Cut) → lacking cut h ≡ [] → (o : ℕ) → length (published doc h o) ≤ cut o
all_had doc [] lawful cut none o = omega arith
all_had doc (Answer session index request site at reply label None ∷ h) lawful cut none o = all_had doc h (lawful_before doc _ h lawful) cut none o
all_had doc (Answer session index request site at reply label (Some packet) ∷ h) lawful cut none o =
    let parts : (lacking cut h ≡ []) × (one_lacking cut packet ≡ []) =
    none_both (lacking cut h) (one_lacking cut packet) (sym (filter-append (lacks cut) (packets_in h) (packet ∷ [])) ∙ none) in
    let ih : length (published doc h o) ≤ cut o = all_had doc h (lawful_before doc _ h lawful) cut parts.0 o in
    let new : ℕ × Op = (origin packet, op_of doc (published doc h) h session index request site at) in
    let lt : length (published doc h (origin packet)) < cut (origin packet) =
    subst (λ n. n < cut (origin packet)) (number_is doc h session index request site at reply label packet lawful) (one_had cut packet parts.1) in
    rw (news_long new (published doc h) o) (pushed_within (published doc h) new cut o ih lt)
all_had doc (Apply site packet ∷ h) lawful cut none o = all_had doc h (lawful_before doc _ h lawful) cut none o
all_had doc (Move session site ∷ h) lawful cut none o = all_had doc h (lawful_before doc _ h lawful) cut none o

pub none_lacked : NoneLacked
none_lacked doc h s o lawful none =
    let a : length (published doc h o) ≤ cut_of h s o = all_had doc h lawful (cut_of h s) none o in
    let b : cut_of h s o ≤ length (published doc h o) = within doc h lawful.legal s o in
    omega (arith, a, b)

-- a published packet that a cut lacks, and of whose operation it has the deps
record IsReady (doc : Document) (h : History) (cut : Cut) (packet : Packet) : Type 0 where
  op : Op
  stands : slice_get (published doc h (origin packet)) (number packet) ≡ Some op
  lacked : cut (origin packet) ≤ number packet
  covers : Covers cut (counts op.deps)

older_ready : (doc : Document) (e : Entry) (h : History) (cut : Cut) (packet : Packet) → IsReady doc h cut packet → IsReady doc (e ∷ h) cut packet
older_ready doc e h cut packet r = record {
  op = r.op;
  stands = news_stay (news doc (published doc h) h e) (published doc h) (origin packet) (number packet) r.op r.stands;
  lacked = r.lacked;
  covers = r.covers;
}

-- one that a cut lacks, of a cut that has all that was published before
newest_ready : (doc : Document) (h : History) (session index : ℕ) (request : Request) (site at : ℕ) (reply : Reply) (label : Label) (packet : Packet)
    → IsLawful doc (Answer session index request site at reply label (Some packet) ∷ h) → (cut : Cut) → lacking cut h ≡ [] → lacks cut packet ≡ true
    → IsReady doc (Answer session index request site at reply label (Some packet) ∷ h) cut packet
newest_ready doc h session index request site at reply label packet lawful cut none is =
    record { op = op; stands = stands; lacked = lacks_true cut packet is; covers = covers }
  where
    e : Entry
    e = Answer session index request site at reply label (Some packet)

    before : IsLawful doc h
    before = lawful_before doc _ h lawful

    op : Op
    op = op_of doc (published doc h) h session index request site at

    old : List Op
    old = published doc h (origin packet)

    stands : slice_get (published doc (e ∷ h) (origin packet)) (number packet) ≡ Some op
    stands =
        subst (λ n. slice_get (published doc (e ∷ h) (origin packet)) n ≡ Some op)
        (sym (number_is doc h session index request site at reply label packet lawful))
        (subst (λ b. slice_get (if b then old ++ op ∷ [] else old) (length old) ≡ Some op) (sym (same_test (origin packet) (origin packet) refl))
        (get_last old op))

    new : New doc h e (origin packet) op
    new = new_op doc h e (origin packet) op lawful refl

    covers : Covers cut (counts op.deps)
    covers x =
        let a : counts op.deps x ≡ cut_of (drop new.back h) op.site x =
        λ i. made_cut doc h before (origin packet) op new.session new.index new.request new.back new.made i x in
        let b : cut_of (drop new.back h) op.site x ≤ length (published doc h x) = past_lies doc new.back h before.legal op.site x in
        let c : length (published doc h x) ≤ cut x = all_had doc h before cut none x in
        omega (arith, a, b, c)

-- what is lacked of one packet
record IsOne (cut : Cut) (packet first : Packet) (rest : List Packet) : Type 0 where
  same : packet ≡ first
  lacked : lacks cut packet ≡ true
  none : rest ≡ []

is_one : (cut : Cut) (packet first : Packet) (rest : List Packet) → one_lacking cut packet ≡ first ∷ rest → IsOne cut packet first rest
is_one cut packet first rest e = by (lacks cut packet) refl e
  where
    by : (b : Bool) → lacks cut packet ≡ b → cond b (packet ∷ []) [] ≡ first ∷ rest → IsOne cut packet first rest
    by true is e = record { same = cc; lacked = is; none = cc }
    by false is e = absurd cc

-- the first packet that a cut lacks
ready : (doc : Document) (h : History) → IsLawful doc h → (cut : Cut) (packet : Packet) (rest : List Packet) → lacking cut h ≡ packet ∷ rest
    → IsReady doc h cut packet
ready doc [] lawful cut packet rest is = absurd cc
ready doc (Answer session index request site at reply label None ∷ h) lawful cut packet rest is =
    older_ready doc (Answer session index request site at reply label None) h cut packet (ready doc h (lawful_before doc _ h lawful) cut packet rest is)
ready doc (Answer session index request site at reply label (Some last) ∷ h) lawful cut packet rest is =
    by (λ x xs e. ready doc h (lawful_before doc _ h lawful) cut x xs e) (lacking cut h) refl
    (sym (filter-append (lacks cut) (packets_in h) (last ∷ [])) ∙ is)
  where
    by : ((x : Packet) (xs : List Packet) → lacking cut h ≡ x ∷ xs → IsReady doc h cut x) → (xs : List Packet) → lacking cut h ≡ xs
        → xs ++ one_lacking cut last ≡ packet ∷ rest
        → IsReady doc (Answer session index request site at reply label (Some last) ∷ h) cut packet
    by ih [] none e =
        let one : IsOne cut last packet rest = is_one cut last packet rest e in
        subst (IsReady doc (Answer session index request site at reply label (Some last) ∷ h) cut) one.same
        (newest_ready doc h session index request site at reply label last lawful cut none one.lacked)
    by ih (x ∷ xs) some e =
        let same : x ≡ packet = cc in
        older_ready doc (Answer session index request site at reply label (Some last)) h cut packet (subst (IsReady doc h cut) same (ih x xs some))
ready doc (Apply site last ∷ h) lawful cut packet rest is =
    older_ready doc (Apply site last) h cut packet (ready doc h (lawful_before doc _ h lawful) cut packet rest is)
ready doc (Move session site ∷ h) lawful cut packet rest is =
    older_ready doc (Move session site) h cut packet (ready doc h (lawful_before doc _ h lawful) cut packet rest is)

-- a cut with one more lacks no more
none_more : (cut : Cut) (o : ℕ) (packets : List Packet) → filter (lacks cut) packets ≡ [] → filter (lacks (more cut o)) packets ≡ []
none_more cut o [] none = refl
none_more cut o (packet ∷ packets) none = by (lacks cut packet) refl none (none_more cut o packets)
  where
    by : (b : Bool) → lacks cut packet ≡ b → cond b (packet ∷ filter (lacks cut) packets) (filter (lacks cut) packets) ≡ []
        → (filter (lacks cut) packets ≡ [] → filter (lacks (more cut o)) packets ≡ [])
        → cond (lacks (more cut o) packet) (packet ∷ filter (lacks (more cut o)) packets) (filter (lacks (more cut o)) packets) ≡ []
    by true is e ih = absurd cc
    by false is e ih =
        let lt : number packet < cut (origin packet) = lacks_false cut packet is in
        let le : cut (origin packet) ≤ more cut o (origin packet) = more_low cut o (origin packet) in
        let has : lacks (more cut o) packet ≡ false = false_lacks (more cut o) packet (omega (arith, lt, le)) in
        ap (λ b. cond b (packet ∷ filter (lacks (more cut o)) packets) (filter (lacks (more cut o)) packets)) has ∙ ih e

-- the next of an origin changes nothing for packets behind it, and none of other origins
still_lacks : (cut : Cut) (o : ℕ) (packet : Packet) → (o ≡ origin packet → cut o < number packet) → lacks (more cut o) packet ≡ lacks cut packet
still_lacks cut o packet behind = by (cases_eq (origin packet) o)
  where
    by : (origin packet ≡ o) ⊎ (origin packet ≡ o → ⊥) → lacks (more cut o) packet ≡ lacks cut packet
    by (inr apart) = ap (λ b. nat_le (if b then suc (cut (origin packet)) else cut (origin packet)) (number packet)) (other_test (origin packet) o apart)
    by (inl is) =
        let lt : cut o < number packet = behind (sym is) in
        let here : cut (origin packet) ≡ cut o = ap cut is in
        let up : more cut o (origin packet) ≡ suc (cut o) = ap (more cut o) is ∙ more_here cut o in
        true_lacks (more cut o) packet (omega (arith, up, lt)) ∙ sym (true_lacks cut packet (omega (arith, here, lt)))

-- the others are lacked still when a cut has the first
rest_lacked : (doc : Document) (h : History) → IsLawful doc h → (cut : Cut) (packet : Packet) (rest : List Packet) → lacking cut h ≡ packet ∷ rest
    → cut (origin packet) ≡ number packet
    → lacking (more cut (origin packet)) h ≡ rest
rest_lacked doc [] lawful cut packet rest is at = absurd cc
rest_lacked doc (Answer session index request site place reply label None ∷ h) lawful cut packet rest is at =
    rest_lacked doc h (lawful_before doc _ h lawful) cut packet rest is at
rest_lacked doc (Answer session index request site place reply label (Some last) ∷ h) lawful cut packet rest is at =
    filter-append (lacks after) (packets_in h) (last ∷ [])
    ∙ by (λ xs e. rest_lacked doc h (lawful_before doc _ h lawful) cut packet xs e at) (lacking cut h) refl
    (sym (filter-append (lacks cut) (packets_in h) (last ∷ [])) ∙ is)
  where
    after : Cut
    after = more cut (origin packet)

    before : IsLawful doc h
    before = lawful_before doc _ h lawful

    -- a packet that stood before has a lower number
    behind : (xs : List Packet) → lacking cut h ≡ packet ∷ xs → origin packet ≡ origin last → cut (origin packet) < number last
    behind xs e same =
        let r : IsReady doc h cut packet = ready doc h before cut packet xs e in
        let lt : number packet < length (published doc h (origin packet)) = get_within (published doc h (origin packet)) (number packet) r.op r.stands in
        let long : length (published doc h (origin packet)) ≡ length (published doc h (origin last)) = λ i. length (published doc h (same i)) in
        let n : number last ≡ length (published doc h (origin last)) = number_is doc h session index request site place reply label last lawful in
        omega (arith, lt, long, n, at)

    by : ((xs : List Packet) → lacking cut h ≡ packet ∷ xs → lacking after h ≡ xs) → (xs : List Packet) → lacking cut h ≡ xs
        → xs ++ one_lacking cut last ≡ packet ∷ rest
        → lacking after h ++ one_lacking after last ≡ rest
    by ih [] none e =
        let one : IsOne cut last packet rest = is_one cut last packet rest e in
        let up : after (origin packet) ≡ suc (cut (origin packet)) = more_here cut (origin packet) in
        let has : lacks after last ≡ false = ap (lacks after) one.same ∙ false_lacks after packet (omega (arith, up, at)) in
        (λ i. none_more cut (origin packet) (packets_in h) none i ++ cond (has i) (last ∷ []) []) ∙ sym one.none
    by ih (x ∷ xs) some e =
        let same : x ≡ packet = cc in
        let tail : xs ++ one_lacking cut last ≡ rest = cc in
        let first : lacking cut h ≡ packet ∷ xs = some ∙ ap (λ y. y ∷ xs) same in
        let still : lacks after last ≡ lacks cut last = still_lacks cut (origin packet) last (behind xs first) in
        (λ i. ih xs first i ++ cond (still i) (last ∷ []) []) ∙ tail
rest_lacked doc (Apply site last ∷ h) lawful cut packet rest is at = rest_lacked doc h (lawful_before doc _ h lawful) cut packet rest is at
rest_lacked doc (Move session site ∷ h) lawful cut packet rest is at = rest_lacked doc h (lawful_before doc _ h lawful) cut packet rest is at

pub first_is_ready : FirstIsReady
first_is_ready doc h s packet rest lawful there is = record {
  next = record { op = r.op; stands = r.stands; lacks = r.lacked; covers = r.covers; there = there };
  left = (λ i. filter (lacks (λ o. if same_test s s refl i && o == origin packet then suc (cut_of h s o) else cut_of h s o)) (packets_in h))
      ∙ rest_lacked doc h lawful (cut_of h s) packet rest is at;
}
  where
    r : IsReady doc h (cut_of h s) packet
    r = ready doc h lawful (cut_of h s) packet rest is

    at : cut_of h s (origin packet) ≡ number packet
    at =
        let own : counts r.op.deps (origin packet) ≡ number packet = deps_own doc h lawful (origin packet) (number packet) r.op r.stands in
        let covers : counts r.op.deps (origin packet) ≤ cut_of h s (origin packet) = r.covers (origin packet) in
        let lacks : cut_of h s (origin packet) ≤ number packet = r.lacked in
        omega (arith, own, covers, lacks)
