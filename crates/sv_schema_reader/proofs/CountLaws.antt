-- How many invariants stand in tables, and tokens that begin no table.
use Rattle.std.proofs.Common.{◌≡◌, ◌∙◌, ℕ, ◌+◌, ◌&&◌, ◌||◌, Bool, true, false, Ok, nat_le, List, [], ◌∷◌, ◌++◌, length, refl, ap, cond, codes}
use Rattle.std.proofs.lemmas.List.{length-map, map-append}
use Rattle.sv_lex.specs.declared.marks.Mark.TheVariants.{At}
use Rattle.sv_lex.specs.declared.tokens.Token.{Token}
use Rattle.sv_lex.specs.declared.tokens.TokenKind.TheVariants.{Name, Mark}
use Rattle.sv_app.specs.declared.refusals.Code.TheVariants.{Syntax, Many}
use Rattle.sv_app.specs.declared.schemas.Kind.{Kind}
use Rattle.sv_app.specs.declared.schemas.Kind.TheVariants as kinds
use Rattle.sv_app.specs.declared.schemas.Table.{Table}
use Rattle.sv_app.specs.Schema.{Declaration, invariant_of, declaration_of, schema_of}
use Rattle.sv_reader.specs.Reading.{Read, ◌>>=◌, refuse, is_next, token_at, kind_at, by_word}
use Rattle.sv_schema_reader.specs.Reading.{kind_named, table_kind_at, table_at, begins_table, invs_in, table_step, schema_at}
use Rattle.sv_schema_reader.proofs.ItemStepLaws.{kind_misread}
use Rattle.sv_reader.proofs.AnswerLaws.{then_ok, then_err}
use Rattle.sv_schema_reader.proofs.SchemaLaws.{invs_more}

pub counted : (tables : List Table) (table : Table) → invs_in (schema_of (tables ++ table ∷ [])) ≡ invs_in (schema_of tables) + length table.invs.items
counted tables table = ap invs_in (map-append declaration_of tables (table ∷ [])) ∙ invs_more (schema_of tables) (declaration_of table)
    ∙ ap (λ n. invs_in (schema_of tables) + n) (length-map table.invs.items invariant_of)

kind_none : (tokens : List Token) → is_next (Mark At) tokens ≡ false → table_kind_at tokens ≡ Ok (kinds.Plain, tokens)
unfolding table_kind_at
kind_none tokens e = ap (λ b. cond {A = Read Kind} b (kind_at (Mark At) tokens >>= λ _ r. token_at (λ token. by_word kind_named token.kind) r) (Ok (kinds.Plain, tokens))) e

or_first : (a b : Bool) → a || b ≡ false → (a ≡ false) × (b ≡ false)
or_first true b e = absurd cc
or_first false b e = (refl, e)

none_read : (count : ℕ) (tokens : List Token) → begins_table tokens ≡ false → table_at count tokens ≡ refuse Syntax tokens
unfolding table_at
none_read count tokens e =
    let both = or_first (is_next (Mark At) tokens) (is_next (Name (codes "create")) tokens) e in
    then_ok _ (kind_none tokens both.0) ∙ then_err _ (kind_misread (Name (codes "create")) tokens both.1)

none_step : (tokens : List Token) → begins_table tokens ≡ false → table_step [] tokens ≡ refuse Syntax tokens
unfolding table_step
none_step tokens e =
    ap (λ b. cond {A = Read (List Declaration)} (b && nat_le 16 0) (refuse Many tokens) (table_at 0 tokens >>= λ d r. Ok (d ∷ [], r))) e ∙ then_err _ (none_read 0 tokens e)

pub none_begins : (tokens : List Token) → begins_table tokens ≡ false → schema_at tokens ≡ refuse Syntax tokens
unfolding schema_at
none_begins tokens e = then_err _ (none_step tokens e)

pub ruleset counts = (counted, none_begins)
