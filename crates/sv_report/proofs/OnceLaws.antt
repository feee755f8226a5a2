-- The steps of a world have one text, and leave one state.
use Rattle.std.proofs.Common.{◌≡◌, ℕ, List, [], ◌∷◌, ◌++◌, length, refl, sym, ap, subst, ◌∙◌}
use Rattle.sv_app.specs.declared.requests.Request.{Request}
use Rattle.sv_effect.specs.BareTables.{bare}
use Rattle.sv_threat.specs.declared.label.Label.{Label}
use Rattle.sv_causal.proofs.CauseLaws.{not_covered, same_missing}
use Rattle.sv_core.specs.declared.entries.Entry.TheVariants.{Answer}
use Rattle.sv_core.specs.declared.entries.Reply.{Reply}
use Rattle.sv_core.specs.Events.{IsRed, after_delivery, inbox_after}
use Rattle.sv_core.specs.History.{answered, cut_of, seen_of, tables_at}
use Rattle.sv_core.specs.Mediums.{MediumView, WorldView, doc_of, inbox_of, with_entry, with_history, with_inbox}
use Rattle.sv_core.specs.Runs.{run_of}
use Rattle.sv_core.proofs.JudgedLaws.{judged_once}
use Rattle.sv_core.proofs.OnceLaws.{AreShown, delivery_once, go_once, judged_then_once, no_wait, order_once, settle_once, waits_alike}
use Rattle.sv_report.specs.Laws.{AreSame, ReplaysAreOne}
use Rattle.sv_report.specs.Lines.{answer_line, caught_line, delivered_line, settled_line, short_line, waiting_line}
use Rattle.sv_report.specs.ReplayText.{AreSteps, IsAsk, Waits, Lacks, Proposes, Answers, IsAskedNow, IsStep, here, ordered_line, with_medium}
use Rattle.sv_report.specs.Told.{gone_line}
use Rattle.sv_workload.specs.declared.parts.Step.{Step}
use Rattle.sv_workload.specs.declared.parts.Step.TheVariants as steps

-- the lines and the states of two readings of one step of the medium
record AreAlike (l k : List ℕ) (a b : MediumView) : Type 0 where
  pub lines : l ≡ k
  pub states : a ≡ b

labels_alike : (m : MediumView) (session : ℕ) (request : Request) (a b : Reply) (l k : Label) → IsAskedNow m session request a l → IsAskedNow m session request b k → l ≡ k
labels_alike m session request a b l k x y =
    (judged_once (doc_of m).schema (bare (tables_at (doc_of m) m.history (here m session)))
    (run_of (doc_of m) session (answered m.history session) request (bare (tables_at (doc_of m) m.history (here m session)))) a b l k x.judged y.judged).labels

ask_once : (m : MediumView) (session : ℕ) (request : Request) (l k : List ℕ) (a b : MediumView) → IsAsk m session request l a → IsAsk m session request k b → AreAlike l k a b
ask_once m session request l k a b (Waits p x) (Waits q y) = record { lines = ap (λ r. waiting_line r.index) (waits_alike m session p q x y); states = refl }
ask_once m session request l k a b (Waits p x) (Lacks missing none first) = no_wait m session p x none
ask_once m session request l k a b (Waits p x) (Proposes reply label now red) = no_wait m session p x now.none
ask_once m session request l k a b (Waits p x) (Answers reply shown label shown_label packet now blue next) = no_wait m session p x now.none
ask_once m session request l k a b (Lacks missing none first) (Waits q y) = no_wait m session q y none
ask_once m session request l k a b (Lacks missing none first) (Lacks other never then) = record { lines = ap short_line (same_missing (cut_of m.history (here m session)) (seen_of m.history session) missing other first then); states = refl }
ask_once m session request l k a b (Lacks missing none first) (Proposes reply label now red) = absurd (not_covered (cut_of m.history (here m session)) (seen_of m.history session) missing first now.covers)
ask_once m session request l k a b (Lacks missing none first) (Answers reply shown label shown_label packet now blue next) =
    absurd (not_covered (cut_of m.history (here m session)) (seen_of m.history session) missing first now.covers)
ask_once m session request l k a b (Proposes reply label now red) (Waits q y) = no_wait m session q y now.none
ask_once m session request l k a b (Proposes reply label now red) (Lacks other never then) = absurd (not_covered (cut_of m.history (here m session)) (seen_of m.history session) other then now.covers)
ask_once m session request l k a b (Proposes reply label now red) (Proposes reply2 label2 now2 red2) = record { lines = refl; states = refl }
ask_once m session request l k a b (Proposes reply label now red) (Answers reply2 shown label2 shown_label packet now2 blue next) =
    absurd (blue (subst IsRed (labels_alike m session request reply reply2 label label2 now now2) red))
ask_once m session request l k a b (Answers reply shown label shown_label packet now blue next) (Waits q y) = no_wait m session q y now.none
ask_once m session request l k a b (Answers reply shown label shown_label packet now blue next) (Lacks other never then) =
    absurd (not_covered (cut_of m.history (here m session)) (seen_of m.history session) other then now.covers)
ask_once m session request l k a b (Answers reply shown label shown_label packet now blue next) (Proposes reply2 label2 now2 red) =
    absurd (blue (subst IsRed (labels_alike m session request reply2 reply label2 label now2 now) red))
ask_once m session request l k a b (Answers reply shown label shown_label packet now blue next) (Answers reply2 shown2 label2 shown_label2 packet2 now2 blue2 next2) = record {
  lines = λ i. answer_line session (answered m.history session) (same.replies i) (same.labels i) (same.packets i);
  states = λ i. with_entry m (Answer session (answered m.history session) request (here m session) (length m.history) (same.replies i) (same.labels i) (same.packets i));
}
  where
    same : AreShown shown shown2 shown_label shown_label2 packet packet2
    same = judged_then_once (doc_of m) m.history session (answered m.history session) request (here m session) (length m.history) shown shown2 shown_label shown_label2 packet packet2 next.given next2.given

-- from what the sites share to the world
whole_once : (w n v : WorldView) (l k : List ℕ) → AreAlike l k n.medium v.medium → n ≡ with_medium w n.medium → v ≡ with_medium w v.medium → AreSame l k n v
whole_once w n v l k same x y = record { texts = same.lines; states = x ∙ ap (with_medium w) same.states ∙ sym y }

step_once : (w n v : WorldView) (step : Step) (l k : List ℕ) → IsStep w step l n → IsStep w step k v → AreSame l k n v
step_once w n v (steps.Ask session request) l k (x, xs) (y, ys) = whole_once w n v l k (ask_once w.medium session request l k n.medium v.medium x y) xs ys
step_once w n v (steps.Order session) l k (o, x, text, xs) (p, y, other, ys) =
    let same = order_once w.medium n.medium v.medium session o p x y in
    whole_once w n v l k (record { lines = text ∙ (λ i. ordered_line (same.answers i) (same.leaves i).history) ∙ sym other; states = same.leaves }) xs ys
step_once w n v (steps.Deliver site packet) l k (d, x, text, xs) (e, y, other, ys) =
    let same = delivery_once (doc_of w.medium) w.medium.history site packet d e x y in
    record {
      texts = text ∙ ap delivered_line same ∙ sym other;
      states = xs ∙ ap (λ f. with_inbox (with_medium w (with_history w.medium (after_delivery f site packet w.medium.history))) site (inbox_after f packet (inbox_of w site))) same ∙ sym ys;
    }
step_once w n v (steps.Settle site) l k (p, x, text, xs) (q, y, other, ys) =
    let same = settle_once (doc_of w.medium) w.medium.history site (inbox_of w site) (inbox_of n site) (inbox_of v site) p q n.medium.history v.medium.history x y in
    record {
      texts = text ∙ ap settled_line same.answers ∙ sym other;
      states = xs ∙ (λ i. with_inbox (with_medium w (with_history w.medium (same.leaves i).1)) site (same.leaves i).0) ∙ sym ys;
    }
step_once w n v (steps.Catch site) l k (c, x, text, xs) (d, y, other, ys) = record {
  texts = text ∙ ap caught_line (x.many ∙ sym y.many) ∙ sym other;
  states = xs ∙ ap (λ h. with_medium w (with_history w.medium h)) (x.all ∙ sym y.all) ∙ sym ys;
}
step_once w n v (steps.Show site table) l k (text, xs) (other, ys) = record { texts = text ∙ sym other; states = xs ∙ sym ys }
step_once w n v (steps.ShowCut site) l k (text, xs) (other, ys) = record { texts = text ∙ sym other; states = xs ∙ sym ys }
step_once w n v (steps.Move session site) l k (g, x, text, xs) (f, y, other, ys) =
    let same = go_once w.medium n.medium v.medium session site g f x y in
    whole_once w n v l k (record { lines = text ∙ ap (gone_line session site) same.answers ∙ sym other; states = same.leaves }) xs ys

pub replays_are_one : ReplaysAreOne
replays_are_one w [] text other after last (none, x) (never, y) = record { texts = none ∙ sym never; states = x ∙ sym y }
replays_are_one w (step ∷ all) text other after last (l, ls, n, x, xs, whole) (k, ks, v, y, ys, all_of) =
    let first = step_once w n v step l k x y in
    let rest = replays_are_one v all ls ks after last (subst (λ u. AreSteps u all ls after) first.states xs) ys in
    record { texts = whole ∙ (λ i. first.texts i ++ rest.texts i) ∙ sym all_of; states = rest.states }
