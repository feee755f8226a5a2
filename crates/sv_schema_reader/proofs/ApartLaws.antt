-- Tables that are read aren't refused, and are read in one way.
use Rattle.std.proofs.Common.{◌≡◌, ◌∙◌, ◌⊎◌, inl, inr, List, [], ◌∷◌, ◌++◌, Ok, Err, refl, sym, ap, subst, append_assoc, append-nil}
use Rattle.sv_value.specs.declared.spots.Spot.{Spot}
use Rattle.sv_lex.specs.declared.tokens.Token.{Token}
use Rattle.sv_app.specs.declared.refusals.Code.TheVariants.{Many}
use Rattle.sv_app.specs.declared.refusals.Refusal.{Refusal}
use Rattle.sv_app.specs.Schema.{Declaration}
use Rattle.sv_reader.specs.Reading.{Read}
use Rattle.sv_reader.proofs.AnswerLaws.{Same, same_read}
use Rattle.sv_reader.proofs.CutLaws.{Ahead, compared}
use Rattle.sv_reader.proofs.ReadLaws.{Passes}
use Rattle.sv_schema_reader.specs.Declarations.{all_declared}
use Rattle.sv_schema_reader.specs.Grammar.{schema}
use Rattle.sv_schema_reader.specs.Reading.{schema_at}
use Rattle.sv_schema_reader.specs.Refused.{Begins, BeginsTable, IsRefused, IsRead}
use Rattle.sv_schema_reader.proofs.FoundLaws.{all_found}
use Rattle.sv_schema_reader.proofs.SchemaLaws.{schema_law}

pub tables_once : (front other rest last : List Token) (ds es : List Declaration) → IsRead front rest ds → IsRead other last es → front ++ rest ≡ other ++ last → Same ds es rest last
tables_once front other rest last ds es a b e =
    let first = all_found front rest a.tables a.is a.small a.ends in
    let second = all_found other last b.tables b.is b.small b.ends in
    let same = same_read (sym first ∙ ap schema_at e ∙ second) in
    record { item = a.declares ∙ same.item ∙ sym b.declares; rests = same.rests }

module _ (front rest : List Token) (ds : List Declaration) (read : IsRead front rest ds) where
  -- no tables begin with more tokens than those that are read
  no_longer : (token : Token) (extra last : List Token) → rest ≡ token ∷ extra ++ last → Begins (front ++ token ∷ extra) → ⊥
  no_longer token extra last e begins = by_read (schema_law.all (all_declared begins.tables) whole [] (record { «from» = begins.tables; is = begins.is; made = refl }) refl)
    where
      more : List Token
      more = token ∷ (extra ++ begins.more)

      whole : List Token
      whole = (front ++ token ∷ extra) ++ begins.more

      ends : BeginsTable more → ⊥
      ends b = read.ends (subst BeginsTable (sym e) b)

      here : schema_at (whole ++ []) ≡ Ok (all_declared read.tables, more)
      here = ap schema_at (append-nil whole ∙ append_assoc front (token ∷ extra) begins.more) ∙ all_found front more read.tables read.is read.small ends

      by_read : (schema_at (whole ++ []) ≡ Ok (all_declared begins.tables, [])) ⊎ Passes (schema_at (whole ++ [])) → ⊥
      by_read (inl a) = let bad : [] ≡ more = (same_read (sym a ∙ here)).rests in absurd cc
      by_read (inr many) = let bad : ◌≡◌ {A = Read (List Declaration)} (Err (record { code = Many; left = many.left })) (Ok (all_declared read.tables, more)) = sym many.is ∙ here in absurd cc

  pub tables_apart : (tokens : List Token) (end : Spot) (refusal : Refusal) → tokens ≡ front ++ rest → IsRefused tokens end refusal → ⊥
  tables_apart tokens end refusal whole (inl m) = by_order (compared m.front front m.rest rest (sym m.whole ∙ whole))
    where
      by_order : Ahead m.front front m.rest rest ⊎ (Ahead front m.front rest m.rest ⊎ ((m.front ≡ front) × (m.rest ≡ rest))) → ⊥
      by_order (inl a) = m.closed a.token (a.extra ++ rest) a.left
          (record { more = a.extra; tables = read.tables; is = subst (schema read.tables) (a.longer ∙ sym (append_assoc m.front (a.token ∷ []) a.extra)) read.is })
      by_order (inr (inl a)) = no_longer a.token a.extra m.rest a.left (subst Begins a.longer m.begins)
      by_order (inr (inr same)) = m.unfinished read.tables (subst (schema read.tables) (sym same.0) read.is)
  tables_apart tokens end refusal whole (inr t) = by_order (compared (t.front ++ t.element) front t.rest rest (sym t.whole ∙ whole))
    where
      by_order : Ahead (t.front ++ t.element) front t.rest rest ⊎ (Ahead front (t.front ++ t.element) rest t.rest ⊎ ((t.front ++ t.element ≡ front) × (t.rest ≡ rest))) → ⊥
      by_order (inl a) = t.past (record { more = a.token ∷ a.extra; tables = read.tables; is = subst (schema read.tables) a.longer read.is; small = read.small })
      by_order (inr (inl a)) = no_longer a.token a.extra t.rest a.left (subst Begins a.longer t.begins)
      by_order (inr (inr same)) = t.past (record { more = []; tables = read.tables; is = subst (schema read.tables) (sym same.0 ∙ sym (append-nil (t.front ++ t.element))) read.is; small = read.small })
