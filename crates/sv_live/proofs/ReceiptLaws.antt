-- Where answers stand in a history.
use Rattle.std.proofs.Common.{◌≡◌, ℕ, ◌+◌, ◌≤◌, List, [], ◌∷◌, ◌++◌, length, reverse, Option, Some, None, slice_get, refl, sym, ap, subst, ◌∙◌, arith, length-append}
use Rattle.std.proofs.lemmas.List.{reverse-append, length-reverse}
use Rattle.sv_app.specs.declared.requests.Request.{Request}
use Rattle.sv_hub.specs.Extends.{Extends}
use Rattle.sv_hub.proofs.ExtendsLaws.{extends_trans}
use Rattle.sv_core.specs.declared.entries.Entry.{Entry}
use Rattle.sv_core.specs.declared.entries.Entry.TheVariants.{Answer}
use Rattle.sv_core.specs.Document.{Document}
use Rattle.sv_core.specs.Events.{AddsAnswer}
use Rattle.sv_core.specs.History.{History}
use Rattle.sv_core.specs.Mediums.{MediumView}
use Rattle.sv_live.specs.declared.answers.Receipt.{Receipt}
use Rattle.sv_live.specs.declared.answers.Receipt.TheVariants.{Answered, Ended}
use Rattle.sv_live.specs.Receipts.{HasAnswer, IsReceipt, IsReceiptIfAny}
use Rattle.sv_live.specs.declared.turns.Entered.{Entered}
use Rattle.sv_live.specs.Dues.{IsEntryIfAny}

-- the newest entry is the last one in order
at_end : (entries : List Entry) (e : Entry) → slice_get (entries ++ e ∷ []) (length entries) ≡ Some e
at_end [] e = refl
at_end (x ∷ entries) e = at_end entries e

pub newest_stands : (h : History) (e : Entry) → slice_get (reverse (e ∷ h)) (length h) ≡ Some e
newest_stands h e =
    ap (λ l. slice_get l (length h)) (reverse-append (e ∷ []) h)
    ∙ ap (λ n. slice_get (reverse h ++ e ∷ []) n) (sym (length-reverse h))
    ∙ at_end (reverse h) e

-- an answer that was added stands at its place
pub added_stands : (before after : MediumView) (session index : ℕ) (request : Request) (site at place : ℕ) → AddsAnswer before session index request site at place after
    → HasAnswer after.history session place
added_stands before after session index request site at place adds = record {
  index = index;
  packet = adds.packet;
  answer = record {
    request = request;
    site = site;
    at = at;
    reply = adds.reply;
    label = adds.label;
    stands = ap (λ x. slice_get (reverse x.history) place) adds.added ∙ ap (λ n. slice_get (reverse (entry ∷ before.history)) n) adds.stands ∙ newest_stands before.history entry;
  };
}
  where
    entry : Entry
    entry = Answer session index request site at adds.reply adds.label adds.packet

-- what was seen before is no longer than what was seen later
pub extends_longer : {later earlier : History} → Extends later earlier → length earlier ≤ length later
extends_longer {later} {earlier} grown = let e : length later ≡ length grown.more + length earlier = ap length grown.is ∙ length-append grown.more earlier in omega (arith, e)

-- what is new to a later pass is new to the earlier one
pub receipt_earlier : (doc : Document) (before middle after : History) (session : ℕ) (receipt : Receipt) → Extends middle before → IsReceipt doc middle after session receipt
    → IsReceipt doc before after session receipt
receipt_earlier doc before middle after session (Answered place index) grown is = let long : length before ≤ length middle = extends_longer grown in
    record { packet = is.packet; answer = is.answer; unseen = omega (arith, long, is.unseen) }
receipt_earlier doc before middle after session (Ended count) grown is = is

pub receipt_if_any : (doc : Document) (before middle after : History) (session : ℕ) (receipt : Option Receipt) → Extends middle before → IsReceiptIfAny doc middle after session receipt
    → IsReceiptIfAny doc before after session receipt
receipt_if_any doc before middle after session None grown is = is
receipt_if_any doc before middle after session (Some receipt) grown is = receipt_earlier doc before middle after session receipt grown is

pub entry_earlier : (before middle after : History) (session : ℕ) (entered : Option Entered) → Extends middle before → IsEntryIfAny middle after session entered
    → IsEntryIfAny before after session entered
entry_earlier before middle after session None grown is = is
entry_earlier before middle after session (Some e) grown is =
    let long : length before ≤ length middle = extends_longer grown in record { answer = is.answer; unseen = omega (arith, long, is.unseen) }

-- the same, said of what the passes have seen
pub entry_there : (before middle after seen : History) (session : ℕ) (entered : Option Entered) → Extends middle before → seen ≡ after → IsEntryIfAny middle after session entered
    → IsEntryIfAny before seen session entered
entry_there before middle after seen session entered grown same is =
    subst (λ h. IsEntryIfAny before h session entered) (sym same) (entry_earlier before middle after session entered grown is)

-- what a pass has seen behind a turn in which the history grew
pub seen_later : (before found was after seen : History) → Extends found before → was ≡ found → Extends after was → seen ≡ after → Extends seen before
seen_later before found was after seen entered same grown left = subst (λ h. Extends h before) (sym left) (extends_trans (subst (λ h. Extends after h) same grown) entered)
