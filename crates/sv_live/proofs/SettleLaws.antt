-- Settling ends: each packet that is applied leaves the inbox.
use Rattle.std.proofs.Common.{◌≡◌, ℕ, ◌+◌, ◌<◌, ◌≤◌, ◌∷◌, [], List, length, Option, Some, None, Bool, true, false, ap, ◌∙◌, arith, length-append}
use Rattle.std.specs.List.{filter}
use Rattle.std.specs.Prelude.{if◌then◌else◌, is_some, suc}
use Rattle.sv_value.specs.declared.packets.Packet.{Packet}
use Rattle.sv_causal.specs.Inboxes.{lacks}
use Rattle.sv_core.specs.Document.{Document}
use Rattle.sv_core.specs.Events.{IsSettled}
use Rattle.sv_core.specs.History.{History, cut_of}

filtered : (test : Packet → Bool) (xs : List Packet) → length (filter test xs) ≤ length xs
filtered test [] = omega arith
filtered test (x ∷ xs) = by (test x) (filtered test xs)
  where
    by : (b : Bool) → length (filter test xs) ≤ length xs → length (if b then x ∷ filter test xs else filter test xs) ≤ suc (length xs)
    by true ih = omega (arith, ih)
    by false ih = omega (arith, ih)

settled_one : (doc : Document) (h after : History) (site : ℕ) (inbox left : List Packet) (packet : Packet) → IsSettled doc h site inbox (Some packet) left after → length left < length inbox
settled_one doc h after site inbox left packet is =
    let most : length (filter (lacks (cut_of h site)) inbox) ≤ length inbox = filtered (lacks (cut_of h site)) inbox in
    let was : length (filter (lacks (cut_of h site)) inbox) ≡ length is.0.before + length (packet ∷ is.0.behind) = ap length is.0.stands ∙ length-append is.0.before (packet ∷ is.0.behind) in
    let now : length left ≡ length is.0.before + length is.0.behind = ap length is.0.rest ∙ length-append is.0.before is.0.behind in
    omega (arith, most, was, now)

pub settled_fewer : (doc : Document) (h after : History) (site : ℕ) (inbox left : List Packet) (answer : Option Packet) → IsSettled doc h site inbox answer left after → true ≡ is_some answer
    → length left < length inbox
settled_fewer doc h after site inbox left None is some = absurd cc
settled_fewer doc h after site inbox left (Some packet) is some = settled_one doc h after site inbox left packet is
