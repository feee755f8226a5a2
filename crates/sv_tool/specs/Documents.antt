-- Which bytes are a document that is accepted, and why others are refused, whatever the command. Refusals come in this order: too many bytes, tokens, tables,
-- transactions, names and types, cycles, checks that no row meets, transactions that ask for too much before any run, initial rows, and the last part.
use Rattle.std.specs.Prelude.{◌≡◌, ℕ, ◌<◌, ◌≤◌, List, ◌++◌, length, Ok, Err}
use Rattle.sv_io.specs.Flows.{most_bytes}
use Rattle.sv_value.specs.declared.spots.Spot.{Spot}
use Rattle.sv_lex.specs.declared.tokens.Token.{Token}
use Rattle.sv_lex.specs.Spots.{spot_at}
use Rattle.sv_lex.specs.Standing.{place_of}
use Rattle.sv_lex.specs.Tokens.{Fault, BadByte, LongNumber, LongText, LongName, lexed}
use Rattle.sv_app.specs.declared.refusals.Code.{Code}
use Rattle.sv_app.specs.declared.refusals.Code.TheVariants.{Syntax, Many, TooLong}
use Rattle.sv_app.specs.declared.refusals.Refusal.{Refusal}
use Rattle.sv_app.specs.Acceptance.{IsAccepted, IsRefused as IsUnaccepted}
use Rattle.sv_app.specs.Numbers.{numbered}
use Rattle.sv_app.specs.Schema.{Declaration}
use Rattle.sv_app.specs.Trees.{Transaction}
use Rattle.sv_app.specs.TxnNumbers.{numbered_txns}
use Rattle.sv_listing.specs.TooMuch.{KeepsLimits, IsRefusedFor}
use Rattle.sv_schema_reader.specs.Refused.{IsRefused, IsRead}
use Rattle.sv_txn_reader.specs.Refused.{AreRead}
use Rattle.sv_txn_reader.specs.Refused as txns
use Rattle.sv_workload.specs.declared.parts.Parts.{Parts}
use Rattle.sv_workload.specs.Documents.{AreParts}
use Rattle.sv_workload.specs.Documents as parts
use Rattle.sv_tool.specs.Answer.{at_the_front}

-- a byte that can't stand there is written wrong, and the other faults of tokens are limits
abbrev pub code_of : Fault → Code
code_of (BadByte at) = Syntax
code_of (LongNumber at) = Many
code_of (LongText at) = Many
code_of (LongName at) = Many

-- the application is accepted and asks for no more than a dictionary may hold, and the tokens behind its transactions are these parts, of which nothing is refused
pub record AreWhole (schema : List Declaration) (transactions : List Transaction) (rest : List Token) (read : Parts) : Type 0 where
  pub accepted : IsAccepted schema transactions
  pub limits : KeepsLimits (numbered schema) (numbered_txns schema transactions)
  pub behind : AreParts (numbered schema) (numbered_txns schema transactions) rest read

-- tokens of transactions and parts that are accepted with these tables before them
pub record AreBehind (schema : List Declaration) (tokens : List Token) (transactions : List Transaction) (read : Parts) : Type 0 where
  pub rest : List Token
  pub txns : AreRead transactions tokens rest
  pub whole : AreWhole schema transactions rest read

-- tokens of tables, transactions and parts that are accepted
pub record AreAccepted (tokens : List Token) (schema : List Declaration) (transactions : List Transaction) (read : Parts) : Type 0 where
  pub front : List Token
  pub rest : List Token
  pub whole : tokens ≡ front ++ rest
  pub tables : IsRead front rest schema
  pub behind : AreBehind schema rest transactions read

-- the bytes are a document of accepted tables, transactions and parts
pub record IsDocument (bytes : List ℕ) (schema : List Declaration) (transactions : List Transaction) (read : Parts) : Type 0 where
  pub short : length bytes ≤ most_bytes
  pub tokens : List Token
  pub are : lexed bytes ≡ Ok tokens
  pub accepted : AreAccepted tokens schema transactions read

-- why tables and transactions are refused that were read, or the tokens behind them, where the document ends there
pub data IsLater (schema : List Declaration) (transactions : List Transaction) (rest : List Token) (end : Spot) (refusal : Refusal) : Type 0 where
  Unaccepted : IsUnaccepted schema transactions refusal → IsLater schema transactions rest end refusal
  TooMuch : IsAccepted schema transactions → IsRefusedFor (numbered schema) (numbered_txns schema transactions) refusal → IsLater schema transactions rest end refusal
  InParts : IsAccepted schema transactions → KeepsLimits (numbered schema) (numbered_txns schema transactions) → parts.IsRefused (numbered schema) (numbered_txns schema transactions) rest end refusal → IsLater schema transactions rest end refusal

-- why tokens behind these tables are refused
pub data IsRefusalBehind (schema : List Declaration) (tokens : List Token) (end : Spot) (refusal : Refusal) : Type 0 where
  UnreadTxns : txns.IsRefused tokens end refusal → IsRefusalBehind schema tokens end refusal
  Later : (transactions : List Transaction) (rest : List Token) → AreRead transactions tokens rest → IsLater schema transactions rest end refusal → IsRefusalBehind schema tokens end refusal

-- why tokens are refused, where the document ends there
pub data IsRefusal (tokens : List Token) (end : Spot) (refusal : Refusal) : Type 0 where
  Unread : IsRefused tokens end refusal → IsRefusal tokens end refusal
  Behind : (front rest : List Token) (schema : List Declaration) → tokens ≡ front ++ rest → IsRead front rest schema → IsRefusalBehind schema rest end refusal → IsRefusal tokens end refusal

-- why bytes are refused
pub data IsRefusedAt (bytes : List ℕ) : Refusal → Type 0 where
  Long : most_bytes < length bytes → IsRefusedAt bytes (at_the_front TooLong)
  Faulty : (fault : Fault) → length bytes ≤ most_bytes → lexed bytes ≡ Err fault → IsRefusedAt bytes (record { spot = spot_at bytes (place_of fault); code = code_of fault })
  InTokens : (tokens : List Token) (refusal : Refusal) → length bytes ≤ most_bytes → lexed bytes ≡ Ok tokens → IsRefusal tokens (spot_at bytes (length bytes)) refusal → IsRefusedAt bytes refusal
