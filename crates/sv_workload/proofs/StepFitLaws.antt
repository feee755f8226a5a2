-- The steps of a replay of which nothing is refused fit the application, and keep the limits.
use Rattle.std.proofs.Common.{◌≡◌, ◌∙◌, ℕ, ◌+◌, ◌<◌, ◌≤◌, Bool, true, false, List, [], ◌∷◌, ◌++◌, length, map, Option, Some, None, slice_get, refl, sym, ap, subst, append_assoc, append-nil, arith, codes}
use Rattle.std.specs.List.{Contains}
use Rattle.std.specs.Option.{unwrap_or}
use Rattle.std.proofs.lemmas.List.{length-map}
use Rattle.std.proofs.lemmas.Option.{slice_get_within}
use Rattle.sv_lex.specs.declared.marks.Mark.TheVariants.{Semi}
use Rattle.sv_lex.specs.declared.tokens.Token.{Token}
use Rattle.sv_app.specs.declared.apps.Ident.{Ident}
use Rattle.sv_app.specs.declared.refusals.Code.TheVariants.{Unknown, Typing, Many, BadStep}
use Rattle.sv_app.specs.Lookups.{table_of}
use Rattle.sv_app.specs.Schema.{Declaration}
use Rattle.sv_app.specs.Trees.{Transaction}
use Rattle.sv_app.proofs.SchemaLaws.{placed}
use Rattle.sv_reader.specs.Grammar.{◌·◌, word, mark, name}
use Rattle.sv_reader.proofs.PartLaws.{both_assoc, assoc_both}
use Rattle.sv_workload.specs.declared.parts.Step.{Step}
use Rattle.sv_workload.specs.declared.parts.Step.TheVariants as steps
use Rattle.sv_workload.specs.declared.written.Call.{Call}
use Rattle.sv_workload.specs.declared.written.Setting.{Setting}
use Rattle.sv_workload.specs.declared.written.Verb.{Verb}
use Rattle.sv_workload.specs.declared.written.Verb.TheVariants as verbs
use Rattle.sv_workload.specs.Documents.{request_of, packet_of, step_of, work_of}
use Rattle.sv_workload.specs.Elements.{Among, AreNone}
use Rattle.sv_workload.specs.Fits.{txn_of}
use Rattle.sv_workload.specs.Grammar.{many, number, call, line}
use Rattle.sv_workload.specs.InitRefused.{BeginsName}
use Rattle.sv_workload.specs.LastRefused.{BeginsWord, CallRefused, NoTxn, Unfit, asks, shows, total, session_words, site_words, LineRefused, TooMany, TooManyAsks, TooManyShows, BadSession, BadSite, BadOrigin, BadTarget, InCall}
use Rattle.sv_workload.specs.LastRefused as last
use Rattle.sv_workload.specs.LineReading.{step_asks, step_shows}
use Rattle.sv_workload.specs.PartsFit.{IsRequestOf, step_moves, IsSession, IsSiteOf, PacketFits, StepFits, WorkFits}
use Rattle.sv_workload.specs.Reading.{args_fit}
use Rattle.sv_workload.specs.Rows.{table_number}
use Rattle.sv_workload.specs.Written.{Sent, Blue, Red, Line, Ask, Order, Deliver, Settle, Catch, Show, Cut, Move, Replay}
use Rattle.sv_workload.proofs.CallMarkLaws.{args_fitting, fitting_args}
use Rattle.sv_workload.proofs.LineLaws.{verb_word}
use Rattle.sv_workload.proofs.LineMarkLaws.{word_any, asks_same, shows_same}
use Rattle.sv_workload.proofs.RightLaws.{below, total_ones, RightAt, all_right, few_of, each_of, begins_word, inside, two_then, three_then}

-- a call of which nothing is refused
pub call_right : (txns : List Transaction) (c : Call) (front rest : List Token) → call c front → AreNone (CallRefused txns (front ++ rest)) → IsRequestOf txns (request_of txns c)
call_right txns c front rest is right = by_txn (txn_of txns c.txn) refl
  where
    name_here : BeginsName c.txn (front ++ rest)
    name_here = subst (λ l. BeginsName c.txn l) (sym (ap (λ l. l ++ rest) (is.whole ∙ ap (λ l. l ++ is.back) is.first.only))) is.first.holds

    by_fit : (txn : Transaction) → txn_of txns c.txn ≡ Some txn → (b : Bool) → args_fit txn.params c.args ≡ b → IsRequestOf txns (request_of txns c)
    by_fit txn e true f = let p = placed (λ (t : Transaction). t.name) txns c.txn txn e in record {
      txn = txn;
      among = subst (λ n. slice_get txns n ≡ Some txn) (ap (λ found. unwrap_or found 0) (sym p.named)) p.at;
      fits = args_fitting txn.params c.args f;
    }
    by_fit txn e false f = absurd (right Typing (front ++ rest) (Unfit c front rest txn refl is e (λ fits. let bad : true ≡ false = sym (fitting_args txn.params c.args fits) ∙ f in absurd cc)))

    by_txn : (found : Option Transaction) → txn_of txns c.txn ≡ found → IsRequestOf txns (request_of txns c)
    by_txn None e = absurd (right Unknown (front ++ rest) (NoTxn c.txn name_here e))
    by_txn (Some txn) e = by_fit txn e (args_fit txn.params c.args) refl

-- the steps of a replay

module _ (schema : List Declaration) (txns : List Transaction) (sites : ℕ) where
  abbrev RightLine : List Line → Line → Type 0
  RightLine = RightAt line (LineRefused schema txns sites)

  ask_right : (before : List Line) (n : ℕ) (c : Call) → RightLine before (Ask n c) → IsRequestOf txns (request_of txns c)
  ask_right before n c r =
      let b = both_assoc r.is in
      call_right txns c b.then.front (b.then.back ++ r.rest) b.then.first
      (λ code here wrong. r.right code here
      (InCall n b.front (b.then.front ++ (b.then.back ++ r.rest)) code here (three_then b r.rest) b.first wrong))

  -- the number behind the word of a step
  session_kept : (before : List Line) (l : Line) (bytes : List ℕ) (n : ℕ) (Rest : List Token → Type 0) → Contains session_words bytes
      → (r : RightLine before l) → (word bytes · number n · Rest) r.front → IsSession n
  session_kept before l bytes n Rest has r is = inside 1 64 n is.then.front (is.then.back ++ r.rest) is.then.first
      (λ out. r.right BadStep (is.then.front ++ (is.then.back ++ r.rest))
      (BadSession bytes is.front (is.then.front ++ (is.then.back ++ r.rest)) (three_then is r.rest) has is.first out))

  site_kept : (before : List Line) (l : Line) (bytes : List ℕ) (n : ℕ) (Rest : List Token → Type 0) → Contains site_words bytes
      → (r : RightLine before l) → (word bytes · number n · Rest) r.front → IsSiteOf sites n
  site_kept before l bytes n Rest has r is = inside 1 sites n is.then.front (is.then.back ++ r.rest) is.then.first
      (λ out. r.right BadStep (is.then.front ++ (is.then.back ++ r.rest))
      (BadSite bytes is.front (is.then.front ++ (is.then.back ++ r.rest)) (three_then is r.rest) has is.first out))

  -- the numbers and the name that stand behind it
  packet_kept : (before : List Line) (n : ℕ) (sent : Sent) → RightLine before (Deliver n sent) → PacketFits sites (packet_of sent)
  packet_kept before n (Red slot) r = tt
  packet_kept before n (Blue site seq) r =
      let b = both_assoc r.is in
      let p = b.then.first in
      let rest = b.then.back ++ r.rest in
      let here = p.then.front ++ (p.then.back ++ rest) in
      let whole : r.front ++ r.rest ≡ (b.front ++ p.front) ++ here
      = two_then b r.rest ∙ ap (λ l. b.front ++ l) (two_then b.then r.rest ∙ three_then p rest) ∙ sym (append_assoc b.front p.front here) in
      inside 1 sites site p.then.front (p.then.back ++ rest) p.then.first
      (λ out. r.right BadStep here
      (BadOrigin n (b.front ++ p.front) here whole (assoc_both (record { front = b.front; back = p.front; whole = refl; first = b.first; then = p.first })) out))

  target_kept : (before : List Line) (n site : ℕ) → RightLine before (Move n site) → IsSiteOf sites site
  target_kept before n site r =
      let b = both_assoc r.is in
      let here = b.then.front ++ (b.then.back ++ r.rest) in
      inside 1 sites site b.then.front (b.then.back ++ r.rest) b.then.first
      (λ out. r.right BadStep here (BadTarget n b.front here (three_then b r.rest) b.first out))

  table_kept : (before : List Line) (n : ℕ) (table : Ident) → RightLine before (Show n table) → table_number schema table < length schema
  table_kept before n table r = by_table (table_of schema table) refl
    where
      b : ((word (codes "show") · number n) · (name table · mark Semi)) r.front
      b = both_assoc r.is

      here : List Token
      here = b.then.front ++ (b.then.back ++ r.rest)

      begins : BeginsName table here
      begins = subst (λ l. BeginsName table l) (sym (ap (λ l. l ++ (b.then.back ++ r.rest)) b.then.first.only)) b.then.first.holds

      by_table : (found : Option Declaration) → table_of schema table ≡ found → table_number schema table < length schema
      by_table None e = absurd (r.right Unknown here
          (last.NoTable n b.front here table (three_then b r.rest) b.first begins e))
      by_table (Some t) e =
          let p = placed (λ (d : Declaration). d.name) schema table t e in
          slice_get_within schema (table_number schema table) t
          (subst (λ k. slice_get schema k ≡ Some t) (ap (λ found. unwrap_or found 0) (sym p.named)) p.at)

  step_fits : (before : List Line) (l : Line) → RightLine before l → StepFits schema txns sites (step_of schema txns l)
  step_fits before (Ask n c) r = (session_kept before (Ask n c) (codes "ask") n _ (0, omega arith, refl) r r.is, ask_right before n c r)
  step_fits before (Order n) r = session_kept before (Order n) (codes "order") n _ (1, omega arith, refl) r r.is
  step_fits before (Deliver n sent) r = (site_kept before (Deliver n sent) (codes "deliver") n _ (0, omega arith, refl) r r.is, packet_kept before n sent r)
  step_fits before (Settle n) r = site_kept before (Settle n) (codes "settle") n _ (1, omega arith, refl) r r.is
  step_fits before (Catch n) r = site_kept before (Catch n) (codes "catch") n _ (2, omega arith, refl) r r.is
  step_fits before (Show n t) r = (site_kept before (Show n t) (codes "show") n _ (3, omega arith, refl) r r.is, table_kept before n t r)
  step_fits before (Cut n) r = site_kept before (Cut n) (codes "cut") n _ (4, omega arith, refl) r r.is
  step_fits before (Move n s) r = (session_kept before (Move n s) (codes "move") n _ (2, omega arith, refl) r r.is, target_kept before n s r)

  line_opens : (l : Line) (front rest : List Token) → line l front → (v : Verb) × BeginsWord (verb_word v) (front ++ rest)
  line_opens (Ask n c) front rest is = (verbs.Ask, begins_word (codes "ask") _ front rest is)
  line_opens (Order n) front rest is = (verbs.Order, begins_word (codes "order") _ front rest is)
  line_opens (Deliver n sent) front rest is = (verbs.Deliver, begins_word (codes "deliver") _ front rest is)
  line_opens (Settle n) front rest is = (verbs.Settle, begins_word (codes "settle") _ front rest is)
  line_opens (Catch n) front rest is = (verbs.Catch, begins_word (codes "catch") _ front rest is)
  line_opens (Show n t) front rest is = (verbs.Show, begins_word (codes "show") _ front rest is)
  line_opens (Cut n) front rest is = (verbs.Cut, begins_word (codes "cut") _ front rest is)
  line_opens (Move n s) front rest is = (verbs.Move, begins_word (codes "move") _ front rest is)

  few_steps : (before : List Line) (l : Line) → RightLine before l → total (λ (l : Line). 1) before ≤ 65536 → total (λ (l : Line). 1) before + 1 ≤ 65536
  few_steps before l r le =
      let o = line_opens l r.front r.rest r.is in
      let lt = below (length before) 65536 (λ many. r.right Many (r.front ++ r.rest) (TooMany (verb_word o.0) (word_any o.0) o.1 many)) in
      omega (arith, lt, total_ones before)

  few_asks : (before : List Line) (l : Line) → RightLine before l → total asks before ≤ 8192 → total asks before + asks l ≤ 8192
  few_asks before (Ask n c) r le =
      let lt = below (total asks before) 8192 (λ many. r.right Many (r.front ++ r.rest) (TooManyAsks (begins_word (codes "ask") _ r.front r.rest r.is) many)) in omega (arith, lt)
  few_asks before (Order n) r le = omega (arith, le)
  few_asks before (Deliver n sent) r le = omega (arith, le)
  few_asks before (Settle n) r le = omega (arith, le)
  few_asks before (Catch n) r le = omega (arith, le)
  few_asks before (Show n t) r le = omega (arith, le)
  few_asks before (Cut n) r le = omega (arith, le)
  few_asks before (Move n s) r le = omega (arith, le)

  few_shows : (before : List Line) (l : Line) → RightLine before l → total shows before ≤ 64 → total shows before + shows l ≤ 64
  few_shows before (Show n t) r le =
      let lt = below (total shows before) 64 (λ many. r.right Many (r.front ++ r.rest) (TooManyShows (begins_word (codes "show") _ r.front r.rest r.is) many)) in omega (arith, lt)
  few_shows before (Ask n c) r le = omega (arith, le)
  few_shows before (Order n) r le = omega (arith, le)
  few_shows before (Deliver n sent) r le = omega (arith, le)
  few_shows before (Settle n) r le = omega (arith, le)
  few_shows before (Catch n) r le = omega (arith, le)
  few_shows before (Cut n) r le = omega (arith, le)
  few_shows before (Move n s) r le = omega (arith, le)

  asks_count : (lines : List Line) → total step_asks (map (step_of schema txns) lines) ≡ total asks lines
  asks_count [] = refl
  asks_count (l ∷ lines) = λ i. sym (asks_same schema txns l) i + asks_count lines i

  shows_count : (lines : List Line) → total step_shows (map (step_of schema txns) lines) ≡ total shows lines
  shows_count [] = refl
  shows_count (l ∷ lines) = λ i. sym (shows_same schema txns l) i + shows_count lines i

  few_moves : (all : List Step) → total step_moves all ≤ length all
  few_moves [] = omega arith
  few_moves (step ∷ all) = let few = one step in let more = few_moves all in omega (arith, few, more)
    where
      one : (step : Step) → step_moves step ≤ 1
      one (steps.Ask n c) = omega arith
      one (steps.Order n) = omega arith
      one (steps.Deliver n p) = omega arith
      one (steps.Settle n) = omega arith
      one (steps.Catch n) = omega arith
      one (steps.Show n t) = omega arith
      one (steps.ShowCut n) = omega arith
      one (steps.Move n s) = omega arith

  pub lines_fit : (settings : List (Setting × ℕ)) (lines : List Line) (tokens : List Token) → many line lines tokens → AreNone (Among line (LineRefused schema txns sites) [] tokens)
      → WorkFits schema txns sites (work_of schema txns (Replay settings lines))
  lines_fit settings lines tokens is right =
      let all = all_right line (LineRefused schema txns sites) [] lines tokens tokens [] (sym (append-nil tokens)) is right in
      let count = few_of line (LineRefused schema txns sites) (λ (l : Line). 1) 65536 few_steps [] lines all (omega arith) in
      let asking = few_of line (LineRefused schema txns sites) asks 8192 few_asks [] lines all (omega arith) in
      let showing = few_of line (LineRefused schema txns sites) shows 64 few_shows [] lines all (omega arith) in
      let moving = few_moves (map (step_of schema txns) lines) in
      let most : length (map (step_of schema txns) lines) ≤ 65536 = omega (arith, count, total_ones lines, length-map lines (step_of schema txns)) in
      record {
        each = each_of line (LineRefused schema txns sites) (StepFits schema txns sites) (step_of schema txns) step_fits [] lines all;
        asks = omega (arith, asking, asks_count lines);
        moves = omega (arith, moving, most);
        short = (most, omega (arith, showing, shows_count lines));
      }
