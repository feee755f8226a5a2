-- One turn more of the loops that read the calls of a session, and sessions.
use Rattle.std.proofs.Common.{◌≡◌, ◌∙◌, ℕ, zero, suc, ◌+◌, ◌<◌, ◌≤◌, nat_le, nat_lt, Bool, true, false, if◌then◌else◌, cond, List, [], ◌∷◌, ◌++◌, length, map, Option, Some, None, Ok, Err, refl, sym, ap, arith}
use Rattle.std.proofs.lemmas.Bool.Decides.{nat_tests}
use Rattle.std.proofs.lemmas.List.{length-append, length-map}
use Rattle.sv_value.specs.declared.spots.Spot.{Spot}
use Rattle.sv_lex.specs.declared.marks.Mark.TheVariants.{RightBrace}
use Rattle.sv_lex.specs.declared.tokens.Token.{Token}
use Rattle.sv_lex.specs.declared.tokens.TokenKind.TheVariants.{Mark}
use Rattle.sv_app.specs.declared.refusals.Code.TheVariants.{Many}
use Rattle.sv_app.specs.declared.requests.Request.{Request}
use Rattle.sv_app.specs.Trees.{Transaction}
use Rattle.sv_reader.specs.declared.faults.ReadFault.{ReadFault}
use Rattle.sv_reader.specs.Reading.{Read, ◌>>=◌, given, found_at, is_kind, is_name, turns_from}
use Rattle.sv_workload.specs.declared.written.Call.{Call}
use Rattle.sv_workload.specs.Documents.{request_of}
use Rattle.sv_workload.specs.LastRefused.{total}
use Rattle.sv_workload.specs.Reading.{as_item, at_front, settled, call_mark}
use Rattle.sv_workload.specs.LineReading.{is_more}
use Rattle.sv_workload.specs.SessionReading.{entry_at, sooner, crowd_mark, entry_mark, entry_from, entries_from, requests_from, session_head_from, closed, session_from, session_requests, sessions_from}
use Rattle.sv_workload.proofs.EntryLaws.{entry_shrinks, entry_steps}
use Rattle.sv_reader.specs.Reading.{keep}
use Rattle.sv_workload.proofs.LineMarkLaws.{total_more}
use Rattle.sv_workload.proofs.LoopLaws.{more, fault, end}
use Rattle.sv_workload.proofs.SessionLaws.{seen, session_shrinks, session_steps}
use Rattle.sv_workload.proofs.TurnLaws.{before, before_err}

module _ (txns : List Transaction) (count : ℕ) where
  pub requests_more : (requests : List Request) (tokens : List Token) (request : Request) (rest : List Token)
      → is_name tokens ≡ true → as_item (request_of txns) (entry_from txns (count + length requests) tokens) ≡ Ok (request, rest) → requests_from txns count requests tokens ≡ requests_from txns count (requests ++ request ∷ []) rest
  requests_more requests tokens request rest t e = let b = before (request_of txns) (entry_from txns (count + length requests) tokens) request rest e in
      more (entry_steps txns (request_of txns) count) requests tokens b.item rest t b.is ∙ ap (λ x. requests_from txns count (requests ++ x ∷ []) rest) (sym b.made)

  pub requests_less : (requests : List Request) (tokens : List Token) (request : Request) (rest : List Token)
      → is_name tokens ≡ true → as_item (request_of txns) (entry_from txns (count + length requests) tokens) ≡ Ok (request, rest) → length rest < length tokens
  requests_less requests tokens request rest t e = let b = before (request_of txns) (entry_from txns (count + length requests) tokens) request rest e in
      entry_shrinks txns (request_of txns) count requests tokens b.item rest t b.is

  pub requests_err : (requests : List Request) (tokens : List Token) (f : ReadFault)
      → is_name tokens ≡ true → as_item (request_of txns) (entry_from txns (count + length requests) tokens) ≡ Err f → requests_from txns count requests tokens ≡ Err f
  requests_err requests tokens f t e = fault (entry_steps txns (request_of txns) count) requests tokens f t (before_err (request_of txns) (entry_from txns (count + length requests) tokens) f e)

  pub requests_end : (requests : List Request) (tokens : List Token) → is_name tokens ≡ false → requests_from txns count requests tokens ≡ Ok (requests, tokens)
  requests_end requests tokens t = end (entry_steps txns (request_of txns) count) requests tokens t

-- a call that was read found room

sooner_none : (first second : Option ReadFault) → sooner first second ≡ None → second ≡ None
sooner_none None second e = e
sooner_none (Some f) None e = refl
sooner_none (Some f) (Some g) e = by_test (nat_lt f.left g.left) e
  where
    by_test : (b : Bool) → (if b then Some g else Some f) ≡ None → Some g ≡ None
    by_test true e = absurd cc
    by_test false e = absurd cc

pub entry_room : (txns : List Transaction) (count : ℕ) (tokens : List Token) (c : Call) (rest : List Token) → entry_from txns count tokens ≡ Ok (c, rest) → count < 8192
unfolding entry_from
entry_room txns count tokens c rest e = by_mark (entry_mark txns count tokens) refl e
  where
    by_crowd : (b : Bool) → nat_le 8192 count ≡ b → at_front (given b Many) tokens ≡ None → count < 8192
    by_crowd true t n = absurd cc
    by_crowd false t n = grind (arith, nat_tests, t)

    by_mark : (mark : Option ReadFault) → entry_mark txns count tokens ≡ mark → settled mark (entry_at tokens) ≡ Ok (c, rest) → count < 8192
    by_mark (Some f) m e = absurd cc
    by_mark None m e = by_crowd (nat_le 8192 count) refl (sooner_none (call_mark txns tokens) (crowd_mark count tokens) m)

pub request_room : (txns : List Transaction) (count : ℕ) (requests : List Request) (tokens : List Token) (request : Request) (rest : List Token)
    → as_item (request_of txns) (entry_from txns (count + length requests) tokens) ≡ Ok (request, rest) → count + length (requests ++ request ∷ []) ≤ 8192
request_room txns count requests tokens request rest e =
    let b = before (request_of txns) (entry_from txns (count + length requests) tokens) request rest e in
    let lt = entry_room txns (count + length requests) tokens b.item rest b.is in
    omega (arith, lt, length-append requests (request ∷ []))

pub ruleset requests = (requests_more, requests_less, requests_err, requests_end, request_room)

-- the same loop over calls, seen as requests

module _ {S T : Type 0} (test : List Token → Bool) (turn : S → List Token → Read S) (other : T → List Token → Read T) (view : S → T) (same : (s : S) (tokens : List Token) → other (view s) tokens ≡ as_item view (turn s tokens)) where
  pub seen_from : (n : ℕ) (s : S) (tokens : List Token) → turns_from test other keep n (view s) tokens ≡ as_item view (turns_from test turn keep n s tokens)
  unfolding turns_from
  seen_from zero s tokens = refl
  seen_from (suc n) s tokens = by_test (λ m rest. seen_from n m rest) (test tokens)
    where
      next : ((m : S) (rest : List Token) → turns_from test other keep n (view m) rest ≡ as_item view (turns_from test turn keep n m rest)) → (found : Read S)
          → (as_item view found >>= λ m rest. turns_from test other keep n m rest) ≡ as_item view (found >>= λ m rest. turns_from test turn keep n m rest)
      next others (Err fault) = refl
      next others (Ok (m, rest)) = others m rest

      by_test : ((m : S) (rest : List Token) → turns_from test other keep n (view m) rest ≡ as_item view (turns_from test turn keep n m rest)) → (b : Bool)
          → cond b (other (view s) tokens >>= λ m rest. turns_from test other keep n m rest) (keep (view s) tokens)
          ≡ as_item view (cond b (turn s tokens >>= λ m rest. turns_from test turn keep n m rest) (keep s tokens))
      by_test others false = refl
      by_test others true = ap (λ (found : Read T). found >>= λ m rest. turns_from test other keep n m rest) (same s tokens) ∙ next others (turn s tokens)

module _ (txns : List Transaction) where
  map_push : (calls : List Call) (c : Call) → map (request_of txns) (calls ++ c ∷ []) ≡ map (request_of txns) calls ++ request_of txns c ∷ []
  map_push [] c = refl
  map_push (x ∷ calls) c = ap (λ l. request_of txns x ∷ l) (map_push calls c)

  requests_seen : (count : ℕ) (calls : List Call) (tokens : List Token) → requests_from txns count (map (request_of txns) calls) tokens ≡ as_item (map (request_of txns)) (entries_from txns count calls tokens)
  requests_seen count calls tokens = seen_from is_name (λ cs l. entry_from txns (count + length cs) l >>= λ c r. Ok (cs ++ c ∷ [], r))
      (λ rs l. entry_from txns (count + length rs) l >>= λ c r. Ok (rs ++ request_of txns c ∷ [], r)) (map (request_of txns)) same (suc (length tokens)) calls tokens
    where
      by_read : (calls : List Call) (found : Read Call) → (found >>= λ c r. Ok (map (request_of txns) calls ++ request_of txns c ∷ [], r)) ≡ as_item (map (request_of txns)) (found >>= λ c r. Ok (calls ++ c ∷ [], r))
      by_read calls (Err f) = refl
      by_read calls (Ok (c, r)) = ap (λ (l : List Request). Ok (l, r)) (sym (map_push calls c))

      same : (cs : List Call) (l : List Token) → (entry_from txns (count + length (map (request_of txns) cs)) l >>= λ c r. Ok (map (request_of txns) cs ++ request_of txns c ∷ [], r))
          ≡ as_item (map (request_of txns)) (entry_from txns (count + length cs) l >>= λ c r. Ok (cs ++ c ∷ [], r))
      same cs l = ap (λ n. entry_from txns (count + n) l >>= λ c r. Ok (map (request_of txns) cs ++ request_of txns c ∷ [], r)) (length-map cs (request_of txns)) ∙ by_read cs (entry_from txns (count + length cs) l)

  session_seen : (index count : ℕ) (tokens : List Token) → session_requests txns index count tokens ≡ as_item (seen txns) (session_from txns index count tokens)
  unfolding session_requests session_from
  session_seen index count tokens = by_head (session_head_from index tokens)
    where
      by_closed : (n : ℕ) (calls : List Call) (rest : List Token) → closed (map (request_of txns) calls) rest ≡ as_item (seen txns) (closed (record { number = n; calls = calls }) rest)
      by_closed n calls [] = refl
      by_closed n calls (token ∷ others) = by_given (given (is_kind (Mark RightBrace) token.kind) token.spot)
        where
          by_given : (found : Option Spot) → (found_at found token others >>= λ _ r. Ok (map (request_of txns) calls, r)) ≡ as_item (seen txns) (found_at found token others >>= λ _ r. Ok (record { number = n; calls = calls }, r))
          by_given None = refl
          by_given (Some spot) = refl

      by_calls : (n : ℕ) (found : Read (List Call)) → (as_item (map (request_of txns)) found >>= λ rs r. closed rs r) ≡ as_item (seen txns) (found >>= λ calls r. closed (record { number = n; calls = calls }) r)
      by_calls n (Err f) = refl
      by_calls n (Ok (calls, rest)) = by_closed n calls rest

      by_head : (found : Read ℕ) → (found >>= λ n r1. requests_from txns count [] r1 >>= λ rs r2. closed rs r2)
          ≡ as_item (seen txns) (found >>= λ n r1. entries_from txns count [] r1 >>= λ calls r2. closed (record { number = n; calls = calls }) r2)
      by_head (Err f) = refl
      by_head (Ok (n, rest)) = ap (λ (found : Read (List Request)). found >>= λ rs r2. closed rs r2) (requests_seen count [] rest) ∙ by_calls n (entries_from txns count [] rest)

  pub sessions_more : (sessions : List (List Request)) (tokens : List Token) (requests : List Request) (rest : List Token)
      → is_more tokens ≡ true → session_requests txns (length sessions) (total length sessions) tokens ≡ Ok (requests, rest) → sessions_from txns sessions tokens ≡ sessions_from txns (sessions ++ requests ∷ []) rest
  sessions_more sessions tokens requests rest t e =
      let b = before (seen txns) (session_from txns (length sessions) (total length sessions) tokens) requests rest (sym (session_seen (length sessions) (total length sessions) tokens) ∙ e) in
      more (session_steps txns) sessions tokens b.item rest t b.is ∙ ap (λ x. sessions_from txns (sessions ++ x ∷ []) rest) (sym b.made)

  pub sessions_less : (index count : ℕ) (tokens : List Token) (requests : List Request) (rest : List Token)
      → is_more tokens ≡ true → session_requests txns index count tokens ≡ Ok (requests, rest) → length rest < length tokens
  sessions_less index count tokens requests rest t e =
      let b = before (seen txns) (session_from txns index count tokens) requests rest (sym (session_seen index count tokens) ∙ e) in session_shrinks txns index count tokens b.item rest t b.is

  pub sessions_err : (sessions : List (List Request)) (tokens : List Token) (f : ReadFault)
      → is_more tokens ≡ true → session_requests txns (length sessions) (total length sessions) tokens ≡ Err f → sessions_from txns sessions tokens ≡ Err f
  sessions_err sessions tokens f t e = fault (session_steps txns) sessions tokens f t
      (before_err (seen txns) (session_from txns (length sessions) (total length sessions) tokens) f (sym (session_seen (length sessions) (total length sessions) tokens) ∙ e))

  pub sessions_end : (sessions : List (List Request)) (tokens : List Token) → is_more tokens ≡ false → sessions_from txns sessions tokens ≡ Ok (sessions, tokens)
  sessions_end sessions tokens t = end (session_steps txns) sessions tokens t

pub total_push : (sessions : List (List Request)) (requests : List Request) → total length (sessions ++ requests ∷ []) ≡ total length sessions + length requests
total_push sessions requests = total_more length sessions requests

pub ruleset sessions = (sessions_more, sessions_less, sessions_err, sessions_end, total_push)
