-- What comes of the tokens and the bytes of a document.
use Rattle.std.proofs.Common.{◌≡◌, ◌∙◌, ℕ, zero, suc, ◌-◌, ◌≤◌, List, [], ◌∷◌, ◌++◌, length, take, drop, Option, Some, None, Result, Ok, Err, IfOk, IfSome, MatchOption, refl, sym, ap, subst, arith}
use Rattle.std.proofs.lemmas.List.{take-append-drop}
use Rattle.std.proofs.Math.Seq.{take-length}
use Rattle.sv_value.specs.declared.spots.Spot.{Spot}
use Rattle.sv_io.specs.Flows.{most_bytes}
use Rattle.sv_lex.specs.declared.tokens.Token.{Token}
use Rattle.sv_lex.specs.Spots.{spot_at, spot_past}
use Rattle.sv_lex.specs.Standing.{place_of}
use Rattle.sv_lex.specs.Tokens.{Fault, lexed}
use Rattle.sv_app.specs.declared.refusals.Refusal.{Refusal}
use Rattle.sv_app.specs.declared.refusals.Stop.{Stop}
use Rattle.sv_app.specs.declared.refusals.Stop.TheVariants.{Refused, NoMemory}
use Rattle.sv_app.specs.Acceptance.{IsAccepted}
use Rattle.sv_app.specs.Numbers.{numbered}
use Rattle.sv_app.specs.Schema.{Declaration}
use Rattle.sv_app.specs.Trees.{Transaction}
use Rattle.sv_app.specs.TxnNumbers.{numbered_txns}
use Rattle.sv_dict.specs.Refused.{IsRefusal as IsStop}
use Rattle.sv_listing.specs.TooMuch.{KeepsLimits}
use Rattle.sv_schema_reader.specs.Refused.{IsRead}
use Rattle.sv_txn_reader.specs.Refused.{AreRead}
use Rattle.sv_workload.specs.declared.parts.Parts.{Parts}
use Rattle.sv_workload.specs.Documents.{AreParts}
use Rattle.sv_workload.specs.Documents as workload
use Rattle.sv_tool.specs.declared.documents.Checked.{Checked}
use Rattle.sv_tool.specs.Documents.{AreWhole, AreAccepted, IsDocument, IsLater, TooMuch, InParts, IsRefusalBehind, IsRefusal, Behind, IsRefusedAt, Faulty, InTokens, code_of}
use Rattle.sv_tool.specs.ReadDocument.{IsAppOf, IsBehind, IsOfBytes, IsOfTokens}

-- the parts of an accepted application
module _ (declarations applied : List Declaration) (txns numbers : List Transaction) (rest : List Token) where
  parts_there : applied ≡ numbered declarations → numbers ≡ numbered_txns declarations txns → (parts : Parts) → AreParts applied numbers rest parts
      → AreParts (numbered declarations) (numbered_txns declarations txns) rest parts
  parts_there tables are parts x = subst (λ (p : List Declaration × List Transaction). AreParts p.0 p.1 rest parts) (λ i. (tables i, are i)) x

  limits_there : applied ≡ numbered declarations → numbers ≡ numbered_txns declarations txns → KeepsLimits applied numbers → KeepsLimits (numbered declarations) (numbered_txns declarations txns)
  limits_there tables are x = subst (λ (p : List Declaration × List Transaction). KeepsLimits p.0 p.1) (λ i. (tables i, are i)) x

  pub whole_read : (parts : Parts) → IsAccepted declarations txns → applied ≡ numbered declarations → numbers ≡ numbered_txns declarations txns → KeepsLimits applied numbers → AreParts applied numbers rest parts
      → AreWhole declarations txns rest parts
  whole_read parts accepted tables are limits x = record { accepted = accepted; limits = limits_there tables are limits; behind = parts_there tables are parts x }

  pub asks_too_much : (end : Spot) (stop : Stop) (refusal : Refusal) → IsAccepted declarations txns → applied ≡ numbered declarations → numbers ≡ numbered_txns declarations txns
      → IsStop applied numbers stop → ◌≡◌ {A = Result Checked Stop} (Err stop) (Err (Refused refusal)) → IsLater declarations txns rest end refusal
  asks_too_much end stop refusal accepted tables are x e =
      let same : stop ≡ Refused refusal = cc in
      TooMuch accepted (subst (λ (p : List Declaration × List Transaction). IsStop p.0 p.1 (Refused refusal)) (λ i. (tables i, are i)) (subst (IsStop applied numbers) same x))

  pub parts_refused : (end : Spot) (refusal : Refusal) → IsAccepted declarations txns → applied ≡ numbered declarations → numbers ≡ numbered_txns declarations txns → KeepsLimits applied numbers
      → workload.IsRefused applied numbers rest end refusal → IsLater declarations txns rest end refusal
  parts_refused end refusal accepted tables are limits x = InParts accepted (limits_there tables are limits) (subst (λ (p : List Declaration × List Transaction). workload.IsRefused p.0 p.1 rest end refusal) (λ i. (tables i, are i)) x)

-- transactions behind tables
pub accepted_behind : (result : Result Checked Stop) (declarations : List Declaration) (txns : List Transaction) (tokens behind : List Token) → AreRead txns tokens behind
    → IfOk result (λ checked. AreWhole declarations txns behind checked.parts) → IfOk result (λ checked. IsAppOf declarations txns checked.app) → IfOk result (IsBehind declarations tokens)
accepted_behind (Ok checked) declarations txns tokens behind read whole of = record { txns = txns; are = record { rest = behind; txns = read; whole = whole }; of = of }
accepted_behind (Err stop) declarations txns tokens behind read whole of = tt

from_zero : (at : ℕ) → at - 0 ≡ at
from_zero at = omega arith

abbrev ReadAt : List Token → ℕ → List Declaration → Type 0
ReadAt tokens at declarations = IsRead (take (at - 0) tokens) (drop at tokens) declarations

split_at : (tokens : List Token) (at : ℕ) → tokens ≡ take (at - 0) tokens ++ drop at tokens
split_at tokens at = sym (take-append-drop at tokens) ∙ ap (λ n. take n tokens ++ drop at tokens) (sym (from_zero at))

pub accepted_tokens : (result : Result Checked Stop) (tokens : List Token) (at : ℕ) (declarations : List Declaration) → ReadAt tokens at declarations
    → IfOk result (IsBehind declarations (drop at tokens)) → IfOk result (IsOfTokens tokens)
accepted_tokens (Ok checked) tokens at declarations read behind = record {
  schema = declarations;
  txns = behind.txns;
  are = record { front = take (at - 0) tokens; rest = drop at tokens; whole = split_at tokens at; tables = read; behind = behind.are };
  of = behind.of;
}
accepted_tokens (Err stop) tokens at declarations read behind = tt

pub refused_tokens : (tokens : List Token) (at : ℕ) (end : Spot) (declarations : List Declaration) (refusal : Refusal) → ReadAt tokens at declarations
    → IsRefusalBehind declarations (drop at tokens) end refusal → IsRefusal tokens end refusal
refused_tokens tokens at end declarations refusal read behind = Behind (take (at - 0) tokens) (drop at tokens) declarations (split_at tokens at) read behind

-- a place past the end is the end
pub spot_past_end : (bytes : List ℕ) (at : ℕ) → length bytes ≤ at → spot_at bytes (length bytes) ≡ spot_at bytes at
spot_past_end bytes at past = ap spot_past (take-length bytes ∙ sym (take_past bytes at past))
  where
    take_past : (bytes : List ℕ) (at : ℕ) → length bytes ≤ at → take at bytes ≡ bytes
    take_past [] zero past = refl
    take_past [] (suc at) past = refl
    take_past (byte ∷ bytes) zero past = absurd (omega (arith, past))
    take_past (byte ∷ bytes) (suc at) past = ap (λ l. byte ∷ l) (take_past bytes at (omega (arith, past)))

-- a document by its tokens
pub document_of_tokens : (bytes : List ℕ) (tokens : List Token) (result : Result Checked Stop) → length bytes ≤ most_bytes → lexed bytes ≡ Ok tokens → IfOk result (IsOfTokens tokens)
    → IfOk result (IsOfBytes bytes)
document_of_tokens bytes tokens (Ok checked) short are x =
    record { schema = x.schema; txns = x.txns; is = record { short = short; tokens = tokens; are = are; accepted = x.are }; of = x.of }
document_of_tokens bytes tokens (Err stop) short are x = tt

same_tokens : (a b : List Token) → ◌≡◌ {A = Result (List Token) Fault} (Ok a) (Ok b) → a ≡ b
same_tokens a b e = cc

pub tokens_of_document : (bytes : List ℕ) (tokens : List Token) (declarations : List Declaration) (txns : List Transaction) (parts : Parts) → lexed bytes ≡ Ok tokens
    → IsDocument bytes declarations txns parts → AreAccepted tokens declarations txns parts
tokens_of_document bytes tokens declarations txns parts are d = subst (λ l. AreAccepted l declarations txns parts) (same_tokens d.tokens tokens (sym d.are ∙ are)) d.accepted

pub no_document : (bytes : List ℕ) (fault : Fault) (declarations : List Declaration) (txns : List Transaction) (parts : Parts) → lexed bytes ≡ Err fault → IsDocument bytes declarations txns parts → ⊥
no_document bytes fault declarations txns parts is d = let no : ◌≡◌ {A = Result (List Token) Fault} (Err fault) (Ok d.tokens) = sym is ∙ d.are in absurd cc

pub refuses : (bytes : List ℕ) (tokens seen : List Token) (end : Spot) (refusal : Refusal) → length bytes ≤ most_bytes → lexed bytes ≡ Ok tokens → seen ≡ tokens → end ≡ spot_at bytes (length bytes)
    → IsRefusal seen end refusal → IsRefusedAt bytes refusal
refuses bytes tokens seen end refusal short are same at is = InTokens tokens refusal short are (subst (λ (p : List Token × Spot). IsRefusal p.0 p.1 refusal) (λ i. (same i, at i)) is)

same_refusal : (stop : Stop) (a b : Refusal) → stop ≡ Refused a → ◌≡◌ {A = Result Checked Stop} (Err stop) (Err (Refused b)) → a ≡ b
same_refusal stop a b is e = let same : stop ≡ Refused b = cc in let both : ◌≡◌ {A = Stop} (Refused a) (Refused b) = sym is ∙ same in cc

pub faulty : (bytes : List ℕ) (found : Option Fault) (stop : Stop) (refusal : Refusal) → length bytes ≤ most_bytes → IfSome found (λ fault. lexed bytes ≡ Err fault)
    → MatchOption found (stop ≡ NoMemory) (λ fault. stop ≡ Refused (record { spot = spot_at bytes (place_of fault); code = code_of fault })) → ◌≡◌ {A = Result Checked Stop} (Err stop) (Err (Refused refusal))
    → IsRefusedAt bytes refusal
faulty bytes None stop refusal short is at e = let same : stop ≡ Refused refusal = cc in let no : ◌≡◌ {A = Stop} NoMemory (Refused refusal) = sym at ∙ same in absurd cc
faulty bytes (Some fault) stop refusal short is at e =
    subst (IsRefusedAt bytes) (same_refusal stop (record { spot = spot_at bytes (place_of fault); code = code_of fault }) refusal at e) (Faulty fault short is)

pub ruleset documents = document_of_tokens
