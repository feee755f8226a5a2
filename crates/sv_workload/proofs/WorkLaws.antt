-- A last part as a whole: what is read of it, and which refusal is its first.
use Rattle.std.proofs.Common.{◌≡◌, ◌≢◌, ◌∙◌, ℕ, false, List, [], ◌∷◌, ◌++◌, map, Ok, Err, refl, sym, ap, subst, append_assoc, append-nil}
use Rattle.sv_lex.specs.declared.tokens.Token.{Token}
use Rattle.sv_app.specs.declared.requests.Request.{Request}
use Rattle.sv_app.specs.Schema.{Declaration}
use Rattle.sv_app.specs.Trees.{Transaction}
use Rattle.sv_reader.specs.declared.faults.ReadFault.{ReadFault}
use Rattle.sv_reader.specs.Grammar.{◌·◌}
use Rattle.sv_reader.specs.Reading.{Read, ◌>>=◌}
use Rattle.sv_reader.proofs.AnswerLaws.{Bound, bound, same_read}
use Rattle.sv_workload.specs.declared.lines.Steps.{Steps}
use Rattle.sv_workload.specs.declared.parts.Work.{Work}
use Rattle.sv_workload.specs.declared.parts.Work.TheVariants as works
use Rattle.sv_workload.specs.declared.written.Given.{Given}
use Rattle.sv_workload.specs.declared.written.PartHead.{PartHead}
use Rattle.sv_workload.specs.declared.written.PartHead.TheVariants.{Replay as ReplayHead, Run as RunHead}
use Rattle.sv_workload.specs.declared.written.Setting.{Setting}
use Rattle.sv_workload.specs.Documents.{settings_of, work_of, step_of}
use Rattle.sv_workload.specs.Elements.{Among, AreNone}
use Rattle.sv_workload.specs.Grammar.{many, setting, line, session, last_part}
use Rattle.sv_workload.specs.LastRefused.{part_head, LineRefused, LastRefused}
use Rattle.sv_workload.specs.LineReading.{lines_from, no_steps, is_more}
use Rattle.sv_workload.specs.Reading.{front_from, begins_setting}
use Rattle.sv_workload.specs.SessionReading.{sessions_from}
use Rattle.sv_workload.specs.Stops.{sites_in, work_from, last_from}
use Rattle.sv_workload.specs.Written.{Last, Absent, Replay, Run}
use Rattle.sv_workload.proofs.BehindLaws.{Opened, opened, Same, only, BehindRefused, behind_in, behind_out}
use Rattle.sv_workload.proofs.DocumentLaws.{no_head}
use Rattle.sv_workload.proofs.JudgeLaws.{Judged, Found}
use Rattle.sv_workload.proofs.LastLaws.{LastFound, front_wrong, lines_unset, sessions_unset}
use Rattle.sv_workload.proofs.LineMarkLaws as lines
use Rattle.sv_workload.proofs.LineMarkLaws.{line_steps}
use Rattle.sv_workload.proofs.LoopLaws.{Elements, judged_loop}
use Rattle.sv_workload.proofs.SessionLaws.{sessions_seen, sessions_judged}
use Rattle.sv_workload.proofs.SettingLaws.{state}

abbrev paired : Given → Work → List Token → Read (Given × Work)
paired g work tokens = Ok ((g, work), tokens)

abbrev behind : List Declaration → List Transaction → PartHead × Given → List Token → Read (Given × Work)
behind schema txns front tokens = work_from schema txns front.0 (sites_in front.1) tokens >>= paired front.1

none_more : (tokens : List Token) → is_more tokens ≡ false → tokens ≡ []
none_more [] e = refl
none_more (token ∷ others) e = absurd cc

module _ (schema : List Declaration) (txns : List Transaction) where
  abbrev pub Lines : List Token → Steps → List Token → Type 0
  Lines tokens = Elements is_more (lines.state schema txns) line [] tokens

  pub lines_judged : (sites : ℕ) (tokens : List Token) → Judged (Lines tokens) (Among line (LineRefused schema txns sites) [] tokens) tokens (lines_from schema txns sites no_steps tokens)
  lines_judged sites tokens = judged_loop (line_steps schema txns sites) [] tokens

module _ (schema : List Declaration) (txns : List Transaction) (count : ℕ) (tokens : List Token) where
  -- the two kinds of a last part that was read
  pub data LastRead (g : Given) (work : Work) : Type 0 where
    Replayed : (rest : List Token) (all : Steps) → front_from count tokens ≡ Ok ((ReplayHead, g), rest) → lines_from schema txns (sites_in g) no_steps rest ≡ Ok (all, []) → work ≡ works.Replay all.steps → LastRead g work
    Ran : (rest : List Token) (sessions : List (List Request)) → front_from count tokens ≡ Ok ((RunHead, g), rest) → sessions_from txns [] rest ≡ Ok (sessions, []) → work ≡ works.Sessions sessions → LastRead g work

  pub data LastFails (fault : ReadFault) : Type 0 where
    InFront : front_from count tokens ≡ Err fault → LastFails fault
    InReplay : (g : Given) (rest : List Token) → front_from count tokens ≡ Ok ((ReplayHead, g), rest) → lines_from schema txns (sites_in g) no_steps rest ≡ Err fault → LastFails fault
    InRun : (g : Given) (rest : List Token) → front_from count tokens ≡ Ok ((RunHead, g), rest) → sessions_from txns [] rest ≡ Err fault → LastFails fault

  -- a last part is read up to the end
  pub last_reads : (g : Given) (work : Work) (left : List Token) → last_from schema txns count tokens ≡ Ok ((g, work), left) → LastRead g work
  unfolding last_from
  last_reads g work left e = by_front (bound (front_from count tokens) (behind schema txns) ((g, work), left) e)
    where
      by_head : (head : PartHead) (h : Given) (rest : List Token) → front_from count tokens ≡ Ok ((head, h), rest) → (work_from schema txns head (sites_in h) rest >>= paired h) ≡ Ok ((g, work), left) → LastRead g work
      by_head ReplayHead h rest read e = by_lines (lines_from schema txns (sites_in h) no_steps rest) refl e
        where
          by_lines : (found : Read Steps) → lines_from schema txns (sites_in h) no_steps rest ≡ found → ((found >>= λ all r. Ok (works.Replay all.steps, r)) >>= paired h) ≡ Ok ((g, work), left) → LastRead g work
          by_lines (Err f) s e = absurd cc
          by_lines (Ok (all, r)) s e =
              let same = same_read e in
              let givens : h ≡ g = ap (λ (p : Given × Work). p.0) same.item in
              let ends = none_more r ((lines_judged schema txns (sites_in h) rest).took all r s).ends in
              Replayed rest all (read ∙ (λ i. Ok ((ReplayHead, givens i), rest))) (ap (λ x. lines_from schema txns (sites_in x) no_steps rest) (sym givens) ∙ s ∙ (λ i. Ok (all, ends i)))
              (sym (ap (λ (p : Given × Work). p.1) same.item))
      by_head RunHead h rest read e = by_sessions (sessions_from txns [] rest) refl e
        where
          by_sessions : (found : Read (List (List Request))) → sessions_from txns [] rest ≡ found → ((found >>= λ sessions r. Ok (works.Sessions sessions, r)) >>= paired h) ≡ Ok ((g, work), left) → LastRead g work
          by_sessions (Err f) s e = absurd cc
          by_sessions (Ok (sessions, r)) s e =
              let same = same_read e in
              let ends = none_more r ((sessions_judged txns rest).took sessions r s).ends in
              Ran rest sessions (read ∙ (λ i. Ok ((RunHead, (same.item i).0), rest))) (s ∙ (λ i. Ok (sessions, ends i))) (sym (ap (λ (p : Given × Work). p.1) same.item))

      by_front : Bound (front_from count tokens) (behind schema txns) (Ok ((g, work), left)) → LastRead g work
      by_front b = by_head b.item.0 b.item.1 b.rest b.is b.left

  pub last_fails : (fault : ReadFault) → last_from schema txns count tokens ≡ Err fault → LastFails fault
  unfolding last_from
  last_fails fault e = by_front (front_from count tokens) refl e
    where
      by_head : (head : PartHead) (h : Given) (rest : List Token) → front_from count tokens ≡ Ok ((head, h), rest) → (work_from schema txns head (sites_in h) rest >>= paired h) ≡ Err fault → LastFails fault
      by_head ReplayHead h rest read e = by_lines (lines_from schema txns (sites_in h) no_steps rest) refl e
        where
          by_lines : (found : Read Steps) → lines_from schema txns (sites_in h) no_steps rest ≡ found → ((found >>= λ all r. Ok (works.Replay all.steps, r)) >>= paired h) ≡ Err fault → LastFails fault
          by_lines (Err f) s e = let same : f ≡ fault = cc in InReplay h rest read (s ∙ ap Err same)
          by_lines (Ok (all, r)) s e = absurd cc
      by_head RunHead h rest read e = by_sessions (sessions_from txns [] rest) refl e
        where
          by_sessions : (found : Read (List (List Request))) → sessions_from txns [] rest ≡ found → ((found >>= λ sessions r. Ok (works.Sessions sessions, r)) >>= paired h) ≡ Err fault → LastFails fault
          by_sessions (Err f) s e = let same : f ≡ fault = cc in InRun h rest read (s ∙ ap Err same)
          by_sessions (Ok (sessions, r)) s e = absurd cc

      by_front : (found : Read (PartHead × Given)) → front_from count tokens ≡ found → (found >>= behind schema txns) ≡ Err fault → LastFails fault
      by_front (Err f) r e = let same : f ≡ fault = cc in InFront (r ∙ ap Err same)
      by_front (Ok ((head, h), rest)) r e = by_head head h rest r e

  -- what was read stands there
  pub record LastIs (g : Given) (work : Work) : Type 0 where
    pub last : Last
    pub is : last_part last tokens
    pub givens : g ≡ state (settings_of last)
    pub works : work ≡ work_of schema txns last

  opened_part : (head : PartHead) (g : Given) (rest : List Token) (o : Opened schema txns count tokens head g rest) (Rest : List Token → Type 0) → Rest rest → (part_head head · many setting o.settings · Rest) tokens
  opened_part head g rest o Rest is = record {
    front = o.is.front;
    back = o.is.back ++ rest;
    whole = o.whole ∙ ap (λ l. l ++ rest) o.is.whole ∙ append_assoc o.is.front o.is.back rest;
    first = o.is.first;
    then = record { front = o.is.back; back = rest; whole = refl; first = o.is.then; then = is };
  }

  pub last_is : (g : Given) (work : Work) → LastRead g work → LastIs g work
  last_is g work (Replayed rest all read s w) =
      let o = opened schema txns count tokens ReplayHead g rest read in
      let are = (lines_judged schema txns (sites_in g) rest).took all [] s in
      record {
        last = Replay o.settings are.items;
        is = opened_part ReplayHead g rest o (λ l. many line are.items l) (subst (λ l. many line are.items l) (sym (are.whole ∙ append-nil are.front)) are.are);
        givens = o.made;
        works = w ∙ ap (λ (x : Steps). works.Replay x.steps) are.made;
      }
  last_is g work (Ran rest sessions read s w) =
      let o = opened schema txns count tokens RunHead g rest read in
      let are = (sessions_judged txns rest).took sessions [] s in
      record {
        last = Run o.settings are.items;
        is = opened_part RunHead g rest o (λ l. many session are.items l) (subst (λ l. many session are.items l) (sym (are.whole ∙ append-nil are.front)) are.are);
        givens = o.made;
        works = w ∙ ap works.Sessions are.made;
      }

  -- and nothing else

  same_last : (head other : PartHead) (g : Given) (rest : List Token) → front_from count tokens ≡ Ok ((head, g), rest) → (settings : List (Setting × ℕ)) (Rest : List Token → Type 0)
      → (b : (part_head other · many setting settings · Rest) tokens) → begins_setting b.then.back ≡ false → Same schema txns count tokens head other g settings rest b.then.back
  same_last head other g rest read settings Rest b ends = only schema txns count tokens head g rest read other settings (b.front ++ b.then.front) b.then.back
      (b.whole ∙ ap (λ l. b.front ++ l) b.then.whole ∙ sym (append_assoc b.front b.then.front b.then.back))
      (record { front = b.front; back = b.then.front; whole = refl; first = b.first; then = b.then.first }) ends

  pub last_only : (g : Given) (work : Work) → LastRead g work → (last : Last) → last_part last tokens → (g ≡ state (settings_of last)) × (work ≡ work_of schema txns last)
  last_only g work read Absent none = absurd (by_read read)
    where
      not_none : (head : PartHead) (g : Given) (rest : List Token) → Opened schema txns count tokens head g rest → ⊥
      not_none head g rest o = no_head head o.is.front (o.is.back ++ rest) (sym none ∙ o.whole ∙ ap (λ l. l ++ rest) o.is.whole ∙ append_assoc o.is.front o.is.back rest) o.is.first

      by_read : LastRead g work → ⊥
      by_read (Replayed rest all read s w) = not_none ReplayHead g rest (opened schema txns count tokens ReplayHead g rest read)
      by_read (Ran rest sessions read s w) = not_none RunHead g rest (opened schema txns count tokens RunHead g rest read)
  last_only g work read (Replay settings ls) b = by_read read
    where
      same : (head : PartHead) (rest : List Token) → front_from count tokens ≡ Ok ((head, g), rest) → Same schema txns count tokens head ReplayHead g settings rest b.then.back
      same head rest read = same_last head ReplayHead g rest read settings (many line ls) b (lines_unset ls b.then.back b.then.then)

      by_read : LastRead g work → (g ≡ state settings) × (work ≡ works.Replay (map (step_of schema txns) ls))
      by_read (Ran rest sessions read s w) = let bad : RunHead ≡ ReplayHead = (same RunHead rest read).heads in absurd cc
      by_read (Replayed rest all read s w) =
          let front = same ReplayHead rest read in
          let there : Lines schema txns rest (lines.state schema txns ls) []
          = record { items = ls; front = b.then.back; whole = front.rests ∙ sym (append-nil b.then.back); are = b.then.then; made = refl; ends = refl } in (
            front.givens,
            w ∙ ap (λ (x : Steps). works.Replay x.steps)
                ((lines_judged schema txns (sites_in g) rest).unique all (lines.state schema txns ls) [] [] ((lines_judged schema txns (sites_in g) rest).took all [] s) there).items,
          )
  last_only g work read (Run settings sessions) b = by_read read
    where
      same : (head : PartHead) (rest : List Token) → front_from count tokens ≡ Ok ((head, g), rest) → Same schema txns count tokens head RunHead g settings rest b.then.back
      same head rest read = same_last head RunHead g rest read settings (many session sessions) b (sessions_unset sessions b.then.back b.then.then)

      by_read : LastRead g work → (g ≡ state settings) × (work ≡ works.Sessions (sessions_seen txns sessions))
      by_read (Replayed rest all read s w) = let bad : ReplayHead ≡ RunHead = (same ReplayHead rest read).heads in absurd cc
      by_read (Ran rest found read s w) =
          let front = same RunHead rest read in
          let there : Elements is_more (sessions_seen txns) session [] rest (sessions_seen txns sessions) []
          = record { items = sessions; front = b.then.back; whole = front.rests ∙ sym (append-nil b.then.back); are = b.then.then; made = refl; ends = refl } in
          (front.givens, w ∙ ap works.Sessions ((sessions_judged txns rest).unique found (sessions_seen txns sessions) [] [] ((sessions_judged txns rest).took found [] s) there).items)

  -- nothing of what was read is refused
  pub last_right : (g : Given) (work : Work) → LastRead g work → AreNone (LastRefused schema txns count tokens)
  last_right g work (Replayed rest all read s w) = λ code here refused.
      (lines_judged schema txns (sites_in g) rest).right all [] s code here (behind_out schema txns count tokens ReplayHead g rest read code here refused)
  last_right g work (Ran rest sessions read s w) = λ code here refused.
      (sessions_judged txns rest).right sessions [] s code here (behind_out schema txns count tokens RunHead g rest read code here refused)

  -- a fault behind the front is the first refusal
  behind_found : {A : Type 0} {L : A → List Token → Type 0} (head : PartHead) (g : Given) (rest : List Token) → front_from count tokens ≡ Ok ((head, g), rest) → (fault : ReadFault)
      → Found L (BehindRefused schema txns count tokens head (sites_in g) rest) fault → LastFound schema txns count tokens fault
  behind_found head g rest read fault found = record {
    here = found.here;
    first = record {
      is = behind_in schema txns count tokens head g rest read fault.code found.here found.first.is;
      first = λ code there other. found.first.first code there (behind_out schema txns count tokens head g rest read code there other);
    };
    place = found.place;
  }

  -- a fault is the first refusal
  pub last_wrong : tokens ≢ [] → (fault : ReadFault) → LastFails fault → LastFound schema txns count tokens fault
  last_wrong some fault (InFront read) = front_wrong schema txns count tokens some fault read
  last_wrong some fault (InReplay g rest read s) = behind_found ReplayHead g rest read fault ((lines_judged schema txns (sites_in g) rest).wrong fault s)
  last_wrong some fault (InRun g rest read s) = behind_found RunHead g rest read fault ((sessions_judged txns rest).wrong fault s)
