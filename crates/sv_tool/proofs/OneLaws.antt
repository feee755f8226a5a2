-- Words and bytes ask for one answer.
use Rattle.std.proofs.Common.{◌≡◌, ◌∙◌, ◌⊎◌, inl, inr, ℕ, zero, suc, ◌≤◌, ◌<◌, List, [], ◌∷◌, ◌++◌, length, Option, Some, slice_get, Result, Ok, Err, refl, sym, ap, subst, arith, codes}
use Rattle.std.specs.Fmt.{decimal}
use Rattle.sv_io.specs.Flows.{most_bytes}
use Rattle.sv_value.specs.declared.spots.Spot.{Spot}
use Rattle.sv_lex.specs.declared.tokens.Token.{Token}
use Rattle.sv_lex.specs.Spots.{spot_at}
use Rattle.sv_lex.specs.Standing.{place_of}
use Rattle.sv_lex.specs.Tokens.{Fault, lexed}
use Rattle.sv_app.specs.declared.refusals.Refusal.{Refusal}
use Rattle.sv_app.specs.Codes.{number_of}
use Rattle.sv_app.specs.Numbers.{numbered}
use Rattle.sv_app.specs.Schema.{Declaration}
use Rattle.sv_app.specs.Trees.{Transaction}
use Rattle.sv_app.specs.TxnNumbers.{numbered_txns}
use Rattle.sv_label.specs.Groups.{Group}
use Rattle.sv_listing.specs.Frugal.{Frugal}
use Rattle.sv_listing.specs.TooMuch.{IsRefusedFor}
use Rattle.sv_dict.proofs.GroupLaws.{frugal_once}
use Rattle.sv_schema_reader.proofs.ApartLaws.{tables_once, tables_apart}
use Rattle.sv_schema_reader.proofs.OnceLaws as tables
use Rattle.sv_txn_reader.specs.Refused.{AreRead}
use Rattle.sv_txn_reader.proofs.ApartLaws.{txns_apart}
use Rattle.sv_txn_reader.proofs.FoundLaws.{read_once}
use Rattle.sv_txn_reader.proofs.OnceLaws as transactions
use Rattle.sv_typing.proofs.PlaceLaws as typing
use Rattle.sv_core.specs.declared.docs.Doc.{Doc}
use Rattle.sv_report.specs.ReplayText.{IsReplayText}
use Rattle.sv_report.proofs.CompileLaws.{same_compiled}
use Rattle.sv_report.proofs.DocumentLaws.{texts_are_one}
use Rattle.sv_workload.specs.declared.parts.Parts.{Parts}
use Rattle.sv_workload.specs.declared.parts.Step.{Step}
use Rattle.sv_workload.specs.declared.parts.Work.{Work}
use Rattle.sv_workload.specs.declared.parts.Work.TheVariants as works
use Rattle.sv_workload.proofs.OnceLaws as parts
use Rattle.sv_workload.proofs.OnceLaws.{parts_apart, parts_once}
use Rattle.sv_tool.specs.declared.statuses.Status.TheVariants.{Done, Refused}
use Rattle.sv_tool.specs.declared.words.Command.{Command}
use Rattle.sv_tool.specs.declared.words.Command.TheVariants.{Replay, Check, Compile}
use Rattle.sv_tool.specs.Answer.{Answer, refused_with}
use Rattle.sv_tool.specs.CheckText.{sizes_of, accepted_with, IsCheckAnswer, Accepts}
use Rattle.sv_tool.specs.CheckText as check
use Rattle.sv_tool.specs.Commands.{IsWordOf, IsAnswerOf, Of, Other}
use Rattle.sv_tool.specs.Documents.{AreWhole, AreBehind, AreAccepted, IsDocument, IsLater, Unaccepted, TooMuch, InParts, IsRefusalBehind, UnreadTxns, Later, IsRefusal, Unread, Behind, IsRefusedAt, Long, Faulty, InTokens, code_of}
use Rattle.sv_tool.specs.CompileAnswer.{IsCompileAnswer, Compiles, compiled_with}
use Rattle.sv_tool.specs.CompileAnswer as compile
use Rattle.sv_tool.specs.Laws.{OneAnswer}
use Rattle.sv_tool.specs.ReplayAnswer.{HasNoSteps, IsReplayAnswer, IsReplayOf, NoSteps, Replays, replay_document}
use Rattle.sv_tool.specs.ReplayAnswer as replay
use Rattle.sv_tool.proofs.DocumentLaws.{tokens_of_document, no_document}

-- the same text of two refusals
abbrev Shown : Refusal → Refusal → Type 0
Shown a b = refused_with a ≡ refused_with b

shown : (a b : Refusal) → a.spot.line ≡ b.spot.line → a.spot.col ≡ b.spot.col → number_of a.code ≡ number_of b.code → Shown a b
shown a b lines cols numbers =
    λ i. record { status = Refused; text = codes "refused " ++ decimal (lines i) ++ codes ":" ++ decimal (cols i) ++ codes " " ++ decimal (numbers i) ++ codes "\n" }

-- the first transaction that asks for too much is one
same_txn : (x y : Transaction) → ◌≡◌ {A = Option Transaction} (Some x) (Some y) → x ≡ y
same_txn x y e = cc

order : (a b : ℕ) → (a < b) ⊎ ((a ≡ b) ⊎ (b < a))
order zero zero = inr (inl refl)
order zero (suc b) = inl (omega arith)
order (suc a) zero = inr (inr (omega arith))
order (suc a) (suc b) = by (order a b)
  where
    by : (a < b) ⊎ ((a ≡ b) ⊎ (b < a)) → (suc a < suc b) ⊎ ((suc a ≡ suc b) ⊎ (suc b < suc a))
    by (inl lt) = inl (omega (arith, lt))
    by (inr (inl is)) = inr (inl (ap suc is))
    by (inr (inr lt)) = inr (inr (omega (arith, lt)))

asked_once : (schema : List Declaration) (txns : List Transaction) (a b : Refusal) → IsRefusedFor schema txns a → IsRefusedFor schema txns b → Shown a b
asked_once schema txns a b x y = by (order x.number y.number)
  where
    spots : x.number ≡ y.number → a.spot ≡ b.spot
    spots is =
        let txn : x.too_much.txn ≡ y.too_much.txn = same_txn x.too_much.txn y.too_much.txn (sym x.too_much.declared ∙ ap (slice_get txns) is ∙ y.too_much.declared) in
        x.spot_is ∙ ap (λ (t : Transaction). t.name.spot) txn ∙ sym y.spot_is

    by : (x.number < y.number) ⊎ ((x.number ≡ y.number) ⊎ (y.number < x.number)) → Shown a b
    by (inl before) = absurd (y.first x.number before x.too_much)
    by (inr (inl is)) = shown a b (ap (λ (s : Spot). s.line) (spots is)) (ap (λ (s : Spot). s.col) (spots is)) (ap number_of (x.code_is ∙ sym y.code_is))
    by (inr (inr before)) = absurd (x.first y.number before y.too_much)

-- behind tables and transactions

module _ (schema : List Declaration) (txns : List Transaction) (rest : List Token) (end : Spot) where
  later_apart : (read : Parts) (refusal : Refusal) → AreWhole schema txns rest read → IsLater schema txns rest end refusal → ⊥
  later_apart read refusal whole (Unaccepted is) = typing.never_both schema txns refusal whole.accepted is
  later_apart read refusal whole (TooMuch accepted is) = whole.limits is.number is.too_much
  later_apart read refusal whole (InParts accepted limits is) = parts_apart (numbered schema) (numbered_txns schema txns) rest end refusal read whole.behind is

  later_once : (a b : Refusal) → IsLater schema txns rest end a → IsLater schema txns rest end b → Shown a b
  later_once a b (Unaccepted x) (Unaccepted y) = let same = typing.refused_once schema txns a b x y in shown a b same.0 same.1 same.2
  later_once a b (Unaccepted x) (TooMuch accepted y) = absurd (typing.never_both schema txns a accepted x)
  later_once a b (Unaccepted x) (InParts accepted limits y) = absurd (typing.never_both schema txns a accepted x)
  later_once a b (TooMuch accepted x) (Unaccepted y) = absurd (typing.never_both schema txns b accepted y)
  later_once a b (TooMuch accepted x) (TooMuch again y) = asked_once (numbered schema) (numbered_txns schema txns) a b x y
  later_once a b (TooMuch accepted x) (InParts again limits y) = absurd (limits x.number x.too_much)
  later_once a b (InParts accepted limits x) (Unaccepted y) = absurd (typing.never_both schema txns b accepted y)
  later_once a b (InParts accepted limits x) (TooMuch again y) = absurd (limits y.number y.too_much)
  later_once a b (InParts accepted limits x) (InParts again kept y) =
      let same = parts.refused_once (numbered schema) (numbered_txns schema txns) rest end a b x y in shown a b (ap (λ (s : Spot). s.line) same.0) (ap (λ (s : Spot). s.col) same.0) same.1

-- behind tables

module _ (schema : List Declaration) (tokens : List Token) (end : Spot) where
  behind_apart : (ts : List Transaction) (read : Parts) (refusal : Refusal) → AreBehind schema tokens ts read → IsRefusalBehind schema tokens end refusal → ⊥
  behind_apart ts read refusal are (UnreadTxns is) = txns_apart tokens ts are.rest end refusal are.txns is
  behind_apart ts read refusal are (Later us rest seen is) =
      let same = read_once tokens us ts rest are.rest seen are.txns in
      later_apart schema ts are.rest end read refusal are.whole (subst (λ (p : List Transaction × List Token). IsLater schema p.0 p.1 end refusal) (λ i. (same.item i, same.rests i)) is)

  behind_once : (a b : Refusal) → IsRefusalBehind schema tokens end a → IsRefusalBehind schema tokens end b → Shown a b
  behind_once a b (UnreadTxns x) (UnreadTxns y) = ap refused_with (transactions.refused_once tokens end a b x y)
  behind_once a b (UnreadTxns x) (Later us rest read y) = absurd (txns_apart tokens us rest end a read x)
  behind_once a b (Later us rest read x) (UnreadTxns y) = absurd (txns_apart tokens us rest end b read y)
  behind_once a b (Later us rest read x) (Later ts last are y) =
      let same = read_once tokens us ts rest last read are in
      later_once schema ts last end a b (subst (λ (p : List Transaction × List Token). IsLater schema p.0 p.1 end a) (λ i. (same.item i, same.rests i)) x) y

-- of all tokens

there : (schema other : List Declaration) (rest last : List Token) (end : Spot) (refusal : Refusal) → schema ≡ other → rest ≡ last → IsRefusalBehind schema rest end refusal → IsRefusalBehind other last end refusal
there schema other rest last end refusal tables tokens is = subst (λ (p : List Declaration × List Token). IsRefusalBehind p.0 p.1 end refusal) (λ i. (tables i, tokens i)) is

-- the same tables, transactions and parts
record SameDocument (ds es : List Declaration) (ts us : List Transaction) (p q : Parts) : Type 0 where
  pub tables : ds ≡ es
  pub txns : ts ≡ us
  pub parts : p ≡ q

module _ (tokens : List Token) where
  accepted_once : (ds es : List Declaration) (ts us : List Transaction) (p q : Parts) → AreAccepted tokens ds ts p → AreAccepted tokens es us q → SameDocument ds es ts us p q
  accepted_once ds es ts us p q a b =
      let same = tables_once a.front b.front a.rest b.rest ds es a.tables b.tables (sym a.whole ∙ b.whole) in
      let read : AreRead ts b.rest a.behind.rest = subst (λ l. AreRead ts l a.behind.rest) same.rests a.behind.txns in
      let txns = read_once b.rest ts us a.behind.rest b.behind.rest read b.behind.txns in
      let whole : AreWhole es us b.behind.rest p
      = subst (λ (x : List Declaration × List Transaction × List Token). AreWhole x.0 x.1 x.2 p) (λ i. (same.item i, txns.item i, txns.rests i)) a.behind.whole in
      record { tables = same.item; txns = txns.item; parts = parts_once (numbered es) (numbered_txns es us) b.behind.rest p q whole.behind b.behind.whole.behind }

  module _ (end : Spot) where
    accepted_apart : (ds : List Declaration) (ts : List Transaction) (read : Parts) (refusal : Refusal) → AreAccepted tokens ds ts read → IsRefusal tokens end refusal → ⊥
    accepted_apart ds ts read refusal a (Unread is) = tables_apart a.front a.rest ds a.tables tokens end refusal a.whole is
    accepted_apart ds ts read refusal a (Behind front rest schema whole seen is) =
        let same = tables_once front a.front rest a.rest schema ds seen a.tables (sym whole ∙ a.whole) in behind_apart ds a.rest end ts read refusal a.behind (there schema ds rest a.rest end refusal same.item same.rests is)

    refusal_once : (a b : Refusal) → IsRefusal tokens end a → IsRefusal tokens end b → Shown a b
    refusal_once a b (Unread x) (Unread y) = ap refused_with (tables.refused_once tokens end a b x y)
    refusal_once a b (Unread x) (Behind front rest schema whole read y) = absurd (tables_apart front rest schema read tokens end a whole x)
    refusal_once a b (Behind front rest schema whole read x) (Unread y) = absurd (tables_apart front rest schema read tokens end b whole y)
    refusal_once a b (Behind front rest schema whole read x) (Behind other last declared all are y) =
        let same = tables_once front other rest last schema declared read are (sym whole ∙ all) in behind_once declared last end a b (there schema declared rest last end a same.item same.rests x) y

-- of a document

too_long : {A : Type 0} (bytes : List ℕ) → length bytes ≤ most_bytes → most_bytes < length bytes → A
too_long bytes short long = absurd (omega (arith, short, long))

same_tokens : (a b : List Token) → ◌≡◌ {A = Result (List Token) Fault} (Ok a) (Ok b) → a ≡ b
same_tokens a b e = cc

same_fault : (a b : Fault) → ◌≡◌ {A = Result (List Token) Fault} (Err a) (Err b) → a ≡ b
same_fault a b e = cc

not_both : {A : Type 0} (tokens : List Token) (fault : Fault) (bytes : List ℕ) → lexed bytes ≡ Ok tokens → lexed bytes ≡ Err fault → A
not_both tokens fault bytes e f = let bad : ◌≡◌ {A = Result (List Token) Fault} (Ok tokens) (Err fault) = sym e ∙ f in absurd cc

module _ (bytes : List ℕ) where
  document_once : (ds es : List Declaration) (ts us : List Transaction) (p q : Parts) → IsDocument bytes ds ts p → IsDocument bytes es us q → SameDocument ds es ts us p q
  document_once ds es ts us p q d e = accepted_once e.tokens ds es ts us p q (tokens_of_document bytes e.tokens ds ts p e.are d) e.accepted

  -- an accepted document isn't refused
  document_apart : {A : Type 0} (ds : List Declaration) (ts : List Transaction) (read : Parts) (refusal : Refusal) → IsDocument bytes ds ts read → IsRefusedAt bytes refusal → A
  document_apart ds ts read refusal d (Long long) = too_long bytes d.short long
  document_apart ds ts read refusal d (Faulty fault short is) = absurd (no_document bytes fault ds ts read is d)
  document_apart ds ts read refusal d (InTokens tokens why short are is) =
      absurd (accepted_apart tokens (spot_at bytes (length bytes)) ds ts read refusal (tokens_of_document bytes tokens ds ts read are d) is)

  fault_once : (f g : Fault) → lexed bytes ≡ Err f → lexed bytes ≡ Err g → refused_with (record { spot = spot_at bytes (place_of f); code = code_of f }) ≡ refused_with (record { spot = spot_at bytes (place_of g); code = code_of g })
  fault_once f g e h = ap (λ fault. refused_with (record { spot = spot_at bytes (place_of fault); code = code_of fault })) (same_fault f g (sym e ∙ h))

  tokens_once : (tokens seen : List Token) (a b : Refusal) → lexed bytes ≡ Ok tokens → lexed bytes ≡ Ok seen → IsRefusal tokens (spot_at bytes (length bytes)) a → IsRefusal seen (spot_at bytes (length bytes)) b → Shown a b
  tokens_once tokens seen a b e f x y = refusal_once seen (spot_at bytes (length bytes)) a b (subst (λ l. IsRefusal l (spot_at bytes (length bytes)) a) (same_tokens tokens seen (sym e ∙ f)) x) y

  refused_once : (a b : Refusal) → IsRefusedAt bytes a → IsRefusedAt bytes b → Shown a b
  refused_once a b (Long long) (Long more) = refl
  refused_once a b (Long long) (Faulty fault short is) = too_long bytes short long
  refused_once a b (Long long) (InTokens tokens why short are is) = too_long bytes short long
  refused_once a b (Faulty fault short is) (Long long) = too_long bytes short long
  refused_once a b (Faulty f short e) (Faulty g brief h) = fault_once f g e h
  refused_once a b (Faulty fault short e) (InTokens tokens why brief are is) = not_both tokens fault bytes are e
  refused_once a b (InTokens tokens why short are is) (Long long) = too_long bytes short long
  refused_once a b (InTokens tokens why brief are is) (Faulty fault short e) = not_both tokens fault bytes are e
  refused_once a b (InTokens tokens why short e x) (InTokens seen how brief f y) = tokens_once tokens seen a b e f x y

  check_once : (a b : Answer) → IsCheckAnswer bytes a → IsCheckAnswer bytes b → a ≡ b
  check_once a b (Accepts ds ts p d) (Accepts es us q e) = let same = document_once ds es ts us p q d e in λ i. accepted_with (sizes_of (same.tables i) (same.txns i))
  check_once a b (Accepts ds ts p d) (check.Refuses refusal is) = document_apart ds ts p refusal d is
  check_once a b (check.Refuses refusal is) (Accepts ds ts p d) = document_apart ds ts p refusal d is
  check_once a b (check.Refuses x is) (check.Refuses y its) = refused_once x y is its

  compile_once : (a b : Answer) → IsCompileAnswer bytes a → IsCompileAnswer bytes b → a ≡ b
  compile_once a b (Compiles ds ts p groups d frugal) (Compiles es us q others e lean) =
      let same = document_once ds es ts us p q d e in
      let there : Frugal (numbered es) (numbered_txns es us) groups = subst (λ (x : List Declaration × List Transaction). Frugal (numbered x.0) (numbered_txns x.0 x.1) groups) (λ i. (same.tables i, same.txns i)) frugal in
      (λ i. compiled_with (numbered_txns (same.tables i) (same.txns i)) groups)
      ∙ ap (λ l. record { status = Done; text = l }) (same_compiled (numbered_txns es us) groups others (frugal_once (numbered es) (numbered_txns es us) groups others there lean))
  compile_once a b (Compiles ds ts p groups d frugal) (compile.Refuses refusal is) = document_apart ds ts p refusal d is
  compile_once a b (compile.Refuses refusal is) (Compiles ds ts p groups d frugal) = document_apart ds ts p refusal d is
  compile_once a b (compile.Refuses x is) (compile.Refuses y its) = refused_once x y is its

  same_steps : (xs ys : List Step) → ◌≡◌ {A = Work} (works.Replay xs) (works.Replay ys) → xs ≡ ys
  same_steps xs ys e = cc

  no_steps : {A : Type 0} (doc : Doc) (xs : List Step) (ds : List Declaration) (ts : List Transaction) (p : Parts) → IsReplayOf bytes doc xs → IsDocument bytes ds ts p → HasNoSteps p.work → A
  no_steps doc xs ds ts p of d none =
      let same = document_once of.schema ds of.txns ts of.parts p of.is d in absurd (subst HasNoSteps (ap (λ (q : Parts). q.work) (sym same.parts) ∙ of.work) none)

  texts_once : (a b : Doc) (xs ys : List Step) (x y : List ℕ) → IsReplayOf bytes a xs → IsReplayOf bytes b ys → IsReplayText a xs x → IsReplayText b ys y → x ≡ y
  texts_once a b xs ys x y of its text other =
      let same = document_once of.schema its.schema of.txns its.txns of.parts its.parts of.is its.is in
      let steps : xs ≡ ys = same_steps xs ys (sym of.work ∙ ap (λ (p : Parts). p.work) same.parts ∙ its.work) in
      texts_are_one a b ys x y (of.document ∙ (λ i. replay_document (numbered (same.tables i)) (numbered_txns (same.tables i) (same.txns i)) (same.parts i) (steps i)) ∙ sym its.document)
      (subst (λ l. IsReplayText a l x) steps text) other

  replay_once : (a b : Answer) → IsReplayAnswer bytes a → IsReplayAnswer bytes b → a ≡ b
  replay_once a b (Replays doc xs x of text) (Replays other ys y its words) = ap (λ l. record { status = Done; text = l }) (texts_once doc other xs ys x y of its text words)
  replay_once a b (Replays doc xs x of text) (NoSteps ds ts p d none) = no_steps doc xs ds ts p of d none
  replay_once a b (Replays doc xs x of text) (replay.Refuses refusal is) = document_apart of.schema of.txns of.parts refusal of.is is
  replay_once a b (NoSteps ds ts p d none) (Replays doc xs x of text) = no_steps doc xs ds ts p of d none
  replay_once a b (NoSteps ds ts p d none) (NoSteps es us q e never) = refl
  replay_once a b (NoSteps ds ts p d none) (replay.Refuses refusal is) = document_apart ds ts p refusal d is
  replay_once a b (replay.Refuses refusal is) (Replays doc xs x of text) = document_apart of.schema of.txns of.parts refusal of.is is
  replay_once a b (replay.Refuses refusal is) (NoSteps ds ts p d none) = document_apart ds ts p refusal d is
  replay_once a b (replay.Refuses x is) (replay.Refuses y its) = refused_once x y is its

-- a command has one answer to bytes
pub answer_once : (command : Command) (bytes : List ℕ) (a b : Answer) → IsAnswerOf command bytes a → IsAnswerOf command bytes b → a ≡ b
answer_once Replay bytes a b x y = replay_once bytes a b x y
answer_once Check bytes a b x y = check_once bytes a b x y
answer_once Compile bytes a b x y = compile_once bytes a b x y

-- the words of two commands differ: they are of different lengths
first_length : List (List ℕ) → ℕ
first_length [] = 0
first_length (word ∷ others) = length word

two_words : {A : Type 0} (words : List (List ℕ)) (m n : ℕ) → first_length words ≡ m → first_length words ≡ n → (m ≡ n → ⊥) → A
two_words words m n is its apart = absurd (apart (sym is ∙ its))

-- so words are of one command
pub one_command : (a b : Command) (words : List (List ℕ)) → IsWordOf a words → IsWordOf b words → a ≡ b
unfolding first_length
one_command Replay Replay words v w = refl
one_command Replay Check words v w = two_words words 6 5 (ap first_length v) (ap first_length w) (λ e. omega (arith, e))
one_command Replay Compile words v w = two_words words 6 7 (ap first_length v) (ap first_length w) (λ e. omega (arith, e))
one_command Check Replay words v w = two_words words 5 6 (ap first_length v) (ap first_length w) (λ e. omega (arith, e))
one_command Check Check words v w = refl
one_command Check Compile words v w = two_words words 5 7 (ap first_length v) (ap first_length w) (λ e. omega (arith, e))
one_command Compile Replay words v w = two_words words 7 6 (ap first_length v) (ap first_length w) (λ e. omega (arith, e))
one_command Compile Check words v w = two_words words 7 5 (ap first_length v) (ap first_length w) (λ e. omega (arith, e))
one_command Compile Compile words v w = refl

command_once : (words : List (List ℕ)) (bytes : List ℕ) (a b : Answer) (c d : Command) → IsWordOf c words → IsWordOf d words → IsAnswerOf c bytes a → IsAnswerOf d bytes b → a ≡ b
command_once words bytes a b c d v w x y = answer_once d bytes a b (subst (λ command. IsAnswerOf command bytes a) (one_command c d words v w) x) y

pub one_answer : OneAnswer
one_answer words bytes a b (Of c v x) (Of d w y) = command_once words bytes a b c d v w x y
one_answer words bytes a b (Of c v x) (Other none y) = absurd (none (c, v))
one_answer words bytes a b (Other none x) (Of c v y) = absurd (none (c, v))
one_answer words bytes a b (Other none x) (Other never y) = x ∙ sym y
