-- Each step at a mailbox keeps its rule.
use Rattle.std.proofs.Common.{◌≡◌, ℕ, List, [], ◌∷◌, ◌++◌, drop, set, Result, Ok, Err, refl, sym, ap, subst}
use Rattle.std.specs.Prelude.{MatchResult}
use Rattle.crossbeam_queue.specs.Fifo.{Pushes, Pops, Forks, Learns}
use Rattle.sv_value.specs.declared.packets.Packet.{Packet}
use Rattle.sv_hub.specs.Extends.{Extends}
use Rattle.sv_hub.proofs.ExtendsLaws.{extends_same, extends_cons, extends_trans}
use Rattle.sv_hub.proofs.ListLaws.{each_one, each_set, each_more}
use Rattle.sv_post.specs.declared.logs.Event.{Event}
use Rattle.sv_post.specs.declared.logs.Event.TheVariants.{Put, Taken}
use Rattle.sv_post.specs.declared.logs.Log.{Log}
use Rattle.sv_post.specs.Logs.{Holds, IsLogged, Puts, Takes, contents, seeing}

-- after one event more, of which a pass has seen all
more : (packets : List Packet) (views : List Log) (e : Event) (k : IsLogged packets views) (i : ℕ) (now : List Packet) → now ≡ contents (e ∷ k.log) → IsLogged now (set views i (seeing (e ∷ k.log)))
more packets views e k i now is = record {
  log = e ∷ k.log;
  are = is;
  known = each_set (λ j v. Extends (e ∷ k.log) v.seen) views i (seeing (e ∷ k.log)) (λ j v _ at. extends_trans (extends_cons e k.log) (k.known j v at)) (extends_same (e ∷ k.log));
}

pub begins : IsLogged [] (seeing [] ∷ [])
begins = record { log = []; are = refl; known = each_one (λ j v. Extends [] v.seen) (seeing []) (extends_same []) }

pub puts : (n pass : ℕ) (v : Log) (packet : Packet) → Pushes IsLogged n pass v packet (λ w. Puts v.seen packet w.seen)
puts n pass v packet items views _ k at = (
  seeing (Put packet ∷ k.log),
  more items views (Put packet) k pass (items ++ packet ∷ []) (ap (λ l. l ++ packet ∷ []) k.are),
  record { log = k.log; extends = k.known pass v at; is = refl },
)

pub takes : (pass : ℕ) (v : Log) → Pops IsLogged pass v (λ packet w. Takes v.seen packet w.seen)
takes pass v packet items views k at = (
  seeing (Taken ∷ k.log),
  more (packet ∷ items) views Taken k pass items (ap (drop 1) k.are),
  record { log = k.log; rest = items; extends = k.known pass v at; oldest = sym k.are; is = refl },
)

pub forks : (pass : ℕ) (v : Log) → Forks IsLogged pass v v v
forks pass v items views k at = record {
  log = k.log;
  are = k.are;
  known =
      each_more (λ j u. Extends k.log u.seen) (set views pass v) v
      (each_set (λ j u. Extends k.log u.seen) views pass v (λ j u _ e. k.known j u e) (k.known pass v at))
      (λ j. k.known pass v at);
}

pub learns : (pass : ℕ) (v : Log) → Learns IsLogged pass v (λ packets. Holds v.seen packets)
learns pass v items views k at = record { log = k.log; extends = k.known pass v at; are = k.are }

put_seen : {before after : List Event} {packet : Packet} → Puts before packet after → Extends after before
put_seen {before} {after} {packet} p = subst (λ l. Extends l before) (sym p.is) (extends_trans (extends_cons (Put packet) p.log) p.extends)

-- a push that may fail has seen what was seen before
pub put_extends : (result : Result (Unit {0}) Packet) (before after : Log) (packet : Packet) (P : Packet → Type 0)
    → MatchResult result (λ _. Puts before.seen packet after.seen) (λ x. (x ≡ packet) × (after ≡ before) × P x) → Extends after.seen before.seen
put_extends (Ok x) before after packet P p = put_seen p
put_extends (Err x) before after packet P p = subst (λ (l : Log). Extends l.seen before.seen) (sym p.1) (extends_same before.seen)
