-- What `plain` leaves, by how it ends: with words that are no command, with the answer of a command, or with none.
use Rattle.std.proofs.Common.{◌≡◌, ◌∙◌, ◌⊎◌, inl, inr, ⊎_elim, ℕ, ◌≤◌, List, [], ◌∷◌, length, Option, Some, None, refl, sym, ap, subst, arith, IfSome}
use Rattle.std.specs.Prelude.{codes}
use Rattle.std.specs.Io.KnownBytes.{IsAtEnd}
use Rattle.sv_io.specs.Faults.{Rose}
use Rattle.sv_io.specs.Flows.{TookFront}
use Rattle.sv_tool.specs.declared.answers.Halt.{Halt}
use Rattle.sv_tool.specs.declared.answers.Halt.TheVariants as halts
use Rattle.sv_tool.specs.declared.words.Command.{Command}
use Rattle.sv_tool.specs.declared.words.Command.TheVariants.{Replay}
use Rattle.sv_tool.specs.declared.statuses.Status.{Status}
use Rattle.sv_tool.specs.declared.statuses.Status.TheVariants.{Done, Refused, Usage, SourceFailed, SinkFailed, NoMemory}
use Rattle.sv_tool.specs.Answer.{Answer}
use Rattle.sv_tool.specs.Commands.{IsWordOf, IsAnswerOf, IsCommand, usage, IsAnswer, Of, Other, IsAnswerTo}
use Rattle.sv_tool.specs.Headline.{Told, Headline}
use Rattle.sv_tool.specs.ReplayAnswer.{IsLegalReplay, IsReplay}
use Rattle.sv_tool.specs.Statuses.{status_number, status_of, Writes, Whole, Front}
use Rattle.sv_tool.proofs.OneLaws.{one_command}

other_status : (answer : Answer) → answer ≡ usage → answer.status ≡ Done → ⊥
other_status answer is done = let two : 2 ≡ 0 = ap (λ (a : Answer). status_number a.status) (sym is) ∙ ap status_number done in omega (arith, two)

-- the bytes that are told, or none
told : Option (List ℕ) → List ℕ
told None = []
told (Some bytes) = bytes

are_told : (left : Option (List ℕ)) → IfSome left (λ bytes. bytes ≡ told left)
unfolding told
are_told None = tt
are_told (Some bytes) = refl

at_bytes : (P : List ℕ → Type 0) (left : Option (List ℕ)) (bytes : List ℕ) → left ≡ Some bytes → IfSome left P → P bytes
at_bytes P left bytes is h = subst (λ o. IfSome o P) is h

of_command : {left : Option (List ℕ)} (answer : Answer) (command : Command) (words : List (List ℕ)) → IsWordOf command words → IsAnswerTo (IsAnswerOf command) left answer → IsAnswerTo (IsAnswer words) left answer
of_command answer command words is a = record { bytes = a.bytes; are = a.are; is = Of command is a.is }

-- ---- ways to end

module _ {S K : Type 0} (left : S → Option (List ℕ)) (source_faults : S → ℕ) (taken : K → Option (List ℕ)) (sink_faults : K → ℕ) (words : List (List ℕ)) (input read : S) (out written : K) (status : ℕ) where
  abbrev Leaves : Type 0
  Leaves = Headline left source_faults taken sink_faults words input read out written status

  abbrev Wrote : Status → List ℕ → Type 0
  Wrote of text = Writes (taken out) (taken written) (sink_faults out) (sink_faults written) of text status

  failed : (answer : Answer) → status ≡ 4 → IsAnswerTo (IsAnswer words) (left input) answer → ((IsCommand words → ⊥) → read ≡ input) → TookFront (taken out) (taken written) answer.text
      → Rose (sink_faults out) (sink_faults written) → Leaves
  failed answer four asked unread took rose = record {
    answered = λ h. absurd (omega (arith, four, h));
    end = λ h. absurd (omega (arith, four, h));
    usage = λ h. absurd (omega (arith, four, h));
    other_words = λ h. inr four;
    unread = unread;
    source = λ h. absurd (omega (arith, four, h));
    sink = λ h. rose;
    front = λ h. (answer, asked, took);
    unwritten = λ h. absurd (⊎_elim (λ e. omega (arith, four, e)) (λ e. omega (arith, four, e)) h);
    range = omega (arith, four);
    complete = λ bytes other is a done source sink. absurd (sink rose);
  }

  asked_usage : (IsCommand words → ⊥) → IsAnswerTo (IsAnswer words) (left input) usage
  asked_usage none = record { bytes = told (left input); are = are_told (left input); is = Other none refl }

  pub usage_told : (IsCommand words → ⊥) → read ≡ input → Wrote Usage (codes "usage\n") → Leaves
  usage_told none same (Whole two grew) = record {
    answered = λ h. (usage, asked_usage none, record { ended = two; grew = grew });
    end = λ h. absurd (omega (arith, two, h));
    usage = λ h. none;
    other_words = λ h. inl two;
    unread = λ h. same;
    source = λ h. absurd (omega (arith, two, h));
    sink = λ h. absurd (omega (arith, two, h));
    front = λ h. absurd (omega (arith, two, h));
    unwritten = λ h. absurd (⊎_elim (λ e. omega (arith, two, e)) (λ e. omega (arith, two, e)) h);
    range = omega (arith, two);
    complete = λ bytes other is a done source sink. absurd (never other bytes a done);
  }
    where
      never : (other : Answer) (bytes : List ℕ) → IsAnswer words bytes other → other.status ≡ Done → ⊥
      never other bytes (Of command is a) done = none (command, is)
      never other bytes (Other other_words is) done = other_status other is done
  usage_told none same (Front four took rose) = failed usage four (asked_usage none) (λ h. same) took rose

  -- only of a command, whatever is written
  module _ (command : Command) (is : IsWordOf command words) where
    known : IsCommand words
    known = (command, is)

    pub answer_told : (answer : Answer) → IsAnswerTo (IsAnswerOf command) (left input) answer
        → IfSome (left input) (λ bytes. (other : Answer) → IsAnswerOf command bytes other → other.status ≡ Done → answer ≡ other)
        → (answer.status ≡ Done) ⊎ (answer.status ≡ Refused) → (answer.status ≡ Done → IsAtEnd (left read)) → Wrote answer.status answer.text → Leaves
    answer_told answer asked only ends end (Whole number grew) = record {
      answered = λ h. (answer, of_command answer command words is asked, whole);
      end = at_end;
      usage = λ h. absurd (omega (arith, few, h));
      other_words = λ h. absurd (h known);
      unread = λ h. absurd (h known);
      source = λ h. absurd (omega (arith, few, h));
      sink = λ h. absurd (omega (arith, few, h));
      front = λ h. absurd (omega (arith, few, h));
      unwritten = λ h. absurd (⊎_elim (λ e. omega (arith, few, e)) (λ e. omega (arith, few, e)) h);
      range = omega (arith, few);
      complete = λ bytes other told a done source sink. inl (subst (λ x. Told (taken out) (taken written) x status) (same bytes other told a done) whole);
    }
      where
        whole : Told (taken out) (taken written) answer status
        whole = record { ended = number; grew = grew }

        few : status ≤ 1
        few = ⊎_elim (λ e. let zero : status ≡ 0 = number ∙ ap status_number e in omega (arith, zero)) (λ e. let one : status ≡ 1 = number ∙ ap status_number e in omega (arith, one)) ends

        at_end : status ≡ 0 → IsAtEnd (left read)
        at_end h = ⊎_elim (λ e. end e) (λ e. let one : status ≡ 1 = number ∙ ap status_number e in absurd (omega (arith, one, h))) ends

        same : (bytes : List ℕ) (other : Answer) → left input ≡ Some bytes → IsAnswer words bytes other → other.status ≡ Done → answer ≡ other
        same bytes other told (Of another its a) done =
            at_bytes (λ bytes. (other : Answer) → IsAnswerOf command bytes other → other.status ≡ Done → answer ≡ other) (left input) bytes told only other
            (subst (λ c. IsAnswerOf c bytes other) (one_command another command words its is) a) done
        same bytes other told (Other none its) done = absurd (none known)
    answer_told answer asked only ends end (Front four took rose) = failed answer four (of_command answer command words is asked) (λ h. absurd (h known)) took rose

    halted : status ≡ 5 → written ≡ out → Leaves
    halted five same = record {
      answered = λ h. absurd (omega (arith, five, h));
      end = λ h. absurd (omega (arith, five, h));
      usage = λ h. absurd (omega (arith, five, h));
      other_words = λ h. absurd (h known);
      unread = λ h. absurd (h known);
      source = λ h. absurd (omega (arith, five, h));
      sink = λ h. absurd (omega (arith, five, h));
      front = λ h. absurd (omega (arith, five, h));
      unwritten = λ h. same;
      range = omega (arith, five);
      complete = λ bytes other told a done source sink. inr (five, same);
    }

    unread_all : status ≡ 3 → Rose (source_faults input) (source_faults read) → written ≡ out → Leaves
    unread_all three rose same = record {
      answered = λ h. absurd (omega (arith, three, h));
      end = λ h. absurd (omega (arith, three, h));
      usage = λ h. absurd (omega (arith, three, h));
      other_words = λ h. absurd (h known);
      unread = λ h. absurd (h known);
      source = λ h. rose;
      sink = λ h. absurd (omega (arith, three, h));
      front = λ h. absurd (omega (arith, three, h));
      unwritten = λ h. same;
      range = omega (arith, three);
      complete = λ bytes other told a done source sink. absurd (source rose);
    }

    pub none_told : (halt : Halt) → (halt ≡ halts.SourceFailed → Rose (source_faults input) (source_faults read)) → status ≡ status_number (status_of halt) → written ≡ out → Leaves
    none_told halts.SourceFailed rose number same = unread_all number (rose refl) same
    none_told halts.NoMemory rose number same = halted number same

pub ruleset headlines = (usage_told, answer_told, none_told)

-- ---- the history of a replay

done_at : (status : Status) → status_number status ≡ 0 → status ≡ Done
done_at Done e = refl
done_at Refused e = absurd (omega (arith, e))
done_at Usage e = absurd (omega (arith, e))
done_at SourceFailed e = absurd (omega (arith, e))
done_at SinkFailed e = absurd (omega (arith, e))
done_at NoMemory e = absurd (omega (arith, e))

done_by : (taken now : Option (List ℕ)) (faults faults_now : ℕ) (status : Status) (text : List ℕ) (number : ℕ) → Writes taken now faults faults_now status text number → number ≡ 0 → status ≡ Done
done_by taken now faults faults_now status text number (Whole is grew) zero = done_at status (sym is ∙ zero)
done_by taken now faults faults_now status text number (Front four took rose) zero = absurd (omega (arith, four, zero))

pub legal_told : (words : List (List ℕ)) (command : Command) (left taken now : Option (List ℕ)) (faults faults_now : ℕ) (status : Status) (text : List ℕ) (number : ℕ) → IsWordOf command words
    → (command ≡ Replay → status ≡ Done → IfSome left IsLegalReplay) → Writes taken now faults faults_now status text number → number ≡ 0 → IsReplay words → IfSome left IsLegalReplay
legal_told words command left taken now faults faults_now status text number is legal writes zero replay =
    legal (one_command command Replay words is replay) (done_by taken now faults faults_now status text number writes zero)

pub usage_unlegal : (words : List (List ℕ)) (left : Option (List ℕ)) → (IsCommand words → ⊥) → IsReplay words → IfSome left IsLegalReplay
usage_unlegal words left none replay = absurd (none (Replay, replay))

pub halt_unlegal : (left : Option (List ℕ)) (halt : Halt) (number : ℕ) → number ≡ status_number (status_of halt) → number ≡ 0 → IfSome left IsLegalReplay
halt_unlegal left halts.SourceFailed number is zero = absurd (omega (arith, is, zero))
halt_unlegal left halts.NoMemory number is zero = absurd (omega (arith, is, zero))

pub ruleset histories = (legal_told, usage_unlegal, halt_unlegal)
