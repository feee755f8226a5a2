-- The parts of tables without limits: each reading reads just the tokens that the grammar gives.
use Rattle.std.proofs.Common.{◌≡◌, ◌∙◌, ℕ, Bool, List, [], ◌∷◌, Some, None, refl, sym, ap, subst, codes}
use Rattle.sv_lex.specs.declared.marks.Mark.TheVariants.{At}
use Rattle.sv_lex.specs.declared.tokens.Token.{Token}
use Rattle.sv_lex.specs.declared.tokens.TokenKind.TheVariants.{Name, Mark}
use Rattle.sv_app.specs.declared.schemas.Kind.{Kind}
use Rattle.sv_app.specs.declared.schemas.Kind.TheVariants as kinds
use Rattle.sv_app.specs.declared.schemas.Merge.{Merge}
use Rattle.sv_app.specs.declared.schemas.Merge.TheVariants as merges
use Rattle.sv_app.specs.declared.schemas.Ty.{Ty}
use Rattle.sv_app.specs.declared.schemas.Ty.TheVariants as types
use Rattle.sv_reader.specs.Grammar.{Both, ◌·◌, nothing, kind, word}
use Rattle.sv_schema_reader.specs.Grammar.{table_kind, column_type, merge_kind, column}
use Rattle.sv_reader.specs.Reading.{is_kind, is_next, token_at, by_word}
use Rattle.sv_schema_reader.specs.Reading.{kind_named, type_named, merge_named, table_kind_at, column_type_at, merge_kind_at, column_at}
use Rattle.sv_reader.proofs.KindLaws.{token_of}
use Rattle.sv_reader.proofs.MadeLaws.{Made, take_last, take_plain, skip_plain, ended}
use Rattle.sv_reader.proofs.AnswerLaws.{anything, next_alike}
use Rattle.sv_reader.proofs.ReadLaws.{Plain, Means, leaf, Either, Left, Right, either, same_plain}
use Rattle.sv_schema_reader.proofs.MatterLaws.{schemas}
use Rattle.sv_reader.proofs.PartLaws.{kind_next, nothing_next, name_law, chosen, worded, itself}

-- names

-- numbers and texts

-- words that mean something

abbrev kind_written : Kind → List ℕ → Type 0
kind_written kinds.Plain bytes = ⊥
kind_written kinds.Aoset bytes = bytes ≡ codes "AOSET"
kind_written kinds.Uoset bytes = bytes ≡ codes "UOSET"
kind_written kinds.Auset bytes = bytes ≡ codes "AUSET"
kind_written kinds.Arset bytes = bytes ≡ codes "ARSET"

abbrev kind_word : Kind → List Token → Type 0
kind_word kinds.Plain = λ _. ⊥
kind_word kinds.Aoset = word (codes "AOSET")
kind_word kinds.Uoset = word (codes "UOSET")
kind_word kinds.Auset = word (codes "AUSET")
kind_word kinds.Arset = word (codes "ARSET")

kind_back : (bytes : List ℕ) (k : Kind) → kind_named bytes ≡ Some k → kind_written k bytes
kind_back bytes k e =
    chosen bytes (codes "AOSET") kinds.Aoset _ k (λ x. kind_written x bytes) (λ is. is)
    (chosen bytes (codes "UOSET") kinds.Uoset _ k (λ x. kind_written x bytes) (λ is. is)
    (chosen bytes (codes "AUSET") kinds.Auset _ k (λ x. kind_written x bytes) (λ is. is)
    (chosen bytes (codes "ARSET") kinds.Arset None k (λ x. kind_written x bytes) (λ is. is) (λ none. absurd cc)))) e

kind_word_law : (clash : List Token → Bool) → Plain schemas clash kind_word (token_at (λ token. by_word kind_named token.kind))
kind_word_law clash = same_plain (leaf schemas clash (λ token. by_word kind_named token.kind) (token_of (Name (codes "UOSET"))) kinds.Uoset refl) into out
  where
    by_kind : (k : Kind) (l : List Token) (token : Token) → l ≡ token ∷ [] → (bytes : List ℕ) × (token.kind ≡ Name bytes) × kind_written k bytes → kind_word k l
    by_kind kinds.Plain l token only w = w.2
    by_kind kinds.Aoset l token only w = record { token = token; only = only; holds = w.1 ∙ ap Name w.2 }
    by_kind kinds.Uoset l token only w = record { token = token; only = only; holds = w.1 ∙ ap Name w.2 }
    by_kind kinds.Auset l token only w = record { token = token; only = only; holds = w.1 ∙ ap Name w.2 }
    by_kind kinds.Arset l token only w = record { token = token; only = only; holds = w.1 ∙ ap Name w.2 }

    into : (k : Kind) (l : List Token) → Means (λ token. by_word kind_named token.kind) k l → kind_word k l
    into k l m = by_kind k l m.token m.only (worded kind_named kind_written kind_back m.token.kind k m.holds)

    out : (k : Kind) (l : List Token) → kind_word k l → Means (λ token. by_word kind_named token.kind) k l
    out kinds.Plain l w = absurd w
    out kinds.Aoset l w = record { token = w.token; only = w.only; holds = ap (by_word kind_named) w.holds }
    out kinds.Uoset l w = record { token = w.token; only = w.only; holds = ap (by_word kind_named) w.holds }
    out kinds.Auset l w = record { token = w.token; only = w.only; holds = ap (by_word kind_named) w.holds }
    out kinds.Arset l w = record { token = w.token; only = w.only; holds = ap (by_word kind_named) w.holds }

pub table_kind_law : Plain schemas (is_next (Mark At)) table_kind table_kind_at
unfolding table_kind_at
table_kind_law = same_plain
    (either (is_next (Mark At)) (next_alike (λ token. is_kind (Mark At) token.kind)) (skip_plain (Mark At) (λ k. k) (itself (kind_word_law (is_next (Mark At))))) (ended schemas (is_next (Mark At)) kinds.Plain)
    (λ k front rest m. kind_next (Mark At) (kind_word m.«from») front rest m.is) (λ k front rest m ends. nothing_next (is_next (Mark At)) front rest m.is ends) (λ tokens fault t is. is) (λ tokens fault t is. is))
    into out
  where
    by_kind : (k : Kind) (l : List Token) → Both (kind (Mark At)) (kind_word k) l → table_kind k l
    by_kind kinds.Plain l b = absurd b.then
    by_kind kinds.Aoset l b = b
    by_kind kinds.Uoset l b = b
    by_kind kinds.Auset l b = b
    by_kind kinds.Arset l b = b

    into : (k : Kind) (l : List Token) → Either (Made (λ k. k) (λ k. kind (Mark At) · kind_word k)) (Made (λ (_ : Unit {0}). kinds.Plain) (λ _. nothing)) k l → table_kind k l
    into k l (Left m) = subst (λ x. table_kind x l) (sym m.made) (by_kind m.«from» l m.is)
    into k l (Right m) = subst (λ x. table_kind x l) (sym m.made) m.is

    out : (k : Kind) (l : List Token) → table_kind k l → Either (Made (λ k. k) (λ k. kind (Mark At) · kind_word k)) (Made (λ (_ : Unit {0}). kinds.Plain) (λ _. nothing)) k l
    out kinds.Plain l is = Right (record { «from» = tt; is = is; made = refl })
    out kinds.Aoset l is = Left (record { «from» = kinds.Aoset; is = is; made = refl })
    out kinds.Uoset l is = Left (record { «from» = kinds.Uoset; is = is; made = refl })
    out kinds.Auset l is = Left (record { «from» = kinds.Auset; is = is; made = refl })
    out kinds.Arset l is = Left (record { «from» = kinds.Arset; is = is; made = refl })

-- columns

abbrev type_written : Ty → List ℕ → Type 0
type_written types.Int bytes = bytes ≡ codes "int"
type_written types.Text bytes = bytes ≡ codes "text"
type_written types.Ints bytes = ⊥

type_back : (bytes : List ℕ) (ty : Ty) → type_named bytes ≡ Some ty → type_written ty bytes
type_back bytes ty e =
    chosen bytes (codes "int") types.Int _ ty (λ x. type_written x bytes) (λ is. is)
    (chosen bytes (codes "text") types.Text None ty (λ x. type_written x bytes) (λ is. is) (λ none. absurd cc)) e

pub column_type_law : (clash : List Token → Bool) → Plain schemas clash column_type column_type_at
column_type_law clash = same_plain (leaf schemas clash (λ token. by_word type_named token.kind) (token_of (Name (codes "int"))) types.Int refl) into out
  where
    by_type : (ty : Ty) (l : List Token) (token : Token) → l ≡ token ∷ [] → (bytes : List ℕ) × (token.kind ≡ Name bytes) × type_written ty bytes → column_type ty l
    by_type types.Int l token only w = record { token = token; only = only; holds = w.1 ∙ ap Name w.2 }
    by_type types.Text l token only w = record { token = token; only = only; holds = w.1 ∙ ap Name w.2 }
    by_type types.Ints l token only w = w.2

    into : (ty : Ty) (l : List Token) → Means (λ token. by_word type_named token.kind) ty l → column_type ty l
    into ty l m = by_type ty l m.token m.only (worded type_named type_written type_back m.token.kind ty m.holds)

    out : (ty : Ty) (l : List Token) → column_type ty l → Means (λ token. by_word type_named token.kind) ty l
    out types.Int l w = record { token = w.token; only = w.only; holds = ap (by_word type_named) w.holds }
    out types.Text l w = record { token = w.token; only = w.only; holds = ap (by_word type_named) w.holds }
    out types.Ints l w = absurd w

abbrev merge_written : Merge → List ℕ → Type 0
merge_written merges.Plain bytes = ⊥
merge_written merges.Lww bytes = bytes ≡ codes "LWW"
merge_written merges.NumDelta bytes = bytes ≡ codes "NUMDELTA"
merge_written merges.Fresh bytes = bytes ≡ codes "FRESH"

abbrev merge_word : Merge → List Token → Type 0
merge_word merges.Plain = λ _. ⊥
merge_word merges.Lww = word (codes "LWW")
merge_word merges.NumDelta = word (codes "NUMDELTA")
merge_word merges.Fresh = word (codes "FRESH")

merge_back : (bytes : List ℕ) (m : Merge) → merge_named bytes ≡ Some m → merge_written m bytes
merge_back bytes m e =
    chosen bytes (codes "LWW") merges.Lww _ m (λ x. merge_written x bytes) (λ is. is)
    (chosen bytes (codes "NUMDELTA") merges.NumDelta _ m (λ x. merge_written x bytes) (λ is. is)
    (chosen bytes (codes "FRESH") merges.Fresh None m (λ x. merge_written x bytes) (λ is. is) (λ none. absurd cc))) e

merge_word_law : (clash : List Token → Bool) → Plain schemas clash merge_word (token_at (λ token. by_word merge_named token.kind))
merge_word_law clash = same_plain (leaf schemas clash (λ token. by_word merge_named token.kind) (token_of (Name (codes "LWW"))) merges.Lww refl) into out
  where
    by_merge : (m : Merge) (l : List Token) (token : Token) → l ≡ token ∷ [] → (bytes : List ℕ) × (token.kind ≡ Name bytes) × merge_written m bytes → merge_word m l
    by_merge merges.Plain l token only w = w.2
    by_merge merges.Lww l token only w = record { token = token; only = only; holds = w.1 ∙ ap Name w.2 }
    by_merge merges.NumDelta l token only w = record { token = token; only = only; holds = w.1 ∙ ap Name w.2 }
    by_merge merges.Fresh l token only w = record { token = token; only = only; holds = w.1 ∙ ap Name w.2 }

    into : (m : Merge) (l : List Token) → Means (λ token. by_word merge_named token.kind) m l → merge_word m l
    into m l is = by_merge m l is.token is.only (worded merge_named merge_written merge_back is.token.kind m is.holds)

    out : (m : Merge) (l : List Token) → merge_word m l → Means (λ token. by_word merge_named token.kind) m l
    out merges.Plain l w = absurd w
    out merges.Lww l w = record { token = w.token; only = w.only; holds = ap (by_word merge_named) w.holds }
    out merges.NumDelta l w = record { token = w.token; only = w.only; holds = ap (by_word merge_named) w.holds }
    out merges.Fresh l w = record { token = w.token; only = w.only; holds = ap (by_word merge_named) w.holds }

pub merge_kind_law : Plain schemas (is_next (Mark At)) merge_kind merge_kind_at
unfolding merge_kind_at
merge_kind_law = same_plain
    (either (is_next (Mark At)) (next_alike (λ token. is_kind (Mark At) token.kind)) (skip_plain (Mark At) (λ m. m) (itself (merge_word_law (is_next (Mark At))))) (ended schemas (is_next (Mark At)) merges.Plain)
    (λ k front rest m. kind_next (Mark At) (merge_word m.«from») front rest m.is) (λ k front rest m ends. nothing_next (is_next (Mark At)) front rest m.is ends) (λ tokens fault t is. is) (λ tokens fault t is. is))
    into out
  where
    by_merge : (m : Merge) (l : List Token) → Both (kind (Mark At)) (merge_word m) l → merge_kind m l
    by_merge merges.Plain l b = absurd b.then
    by_merge merges.Lww l b = b
    by_merge merges.NumDelta l b = b
    by_merge merges.Fresh l b = b

    into : (m : Merge) (l : List Token) → Either (Made (λ m. m) (λ m. kind (Mark At) · merge_word m)) (Made (λ (_ : Unit {0}). merges.Plain) (λ _. nothing)) m l → merge_kind m l
    into m l (Left is) = subst (λ x. merge_kind x l) (sym is.made) (by_merge is.«from» l is.is)
    into m l (Right is) = subst (λ x. merge_kind x l) (sym is.made) is.is

    out : (m : Merge) (l : List Token) → merge_kind m l → Either (Made (λ m. m) (λ m. kind (Mark At) · merge_word m)) (Made (λ (_ : Unit {0}). merges.Plain) (λ _. nothing)) m l
    out merges.Plain l is = Right (record { «from» = tt; is = is; made = refl })
    out merges.Lww l is = Left (record { «from» = merges.Lww; is = is; made = refl })
    out merges.NumDelta l is = Left (record { «from» = merges.NumDelta; is = is; made = refl })
    out merges.Fresh l is = Left (record { «from» = merges.Fresh; is = is; made = refl })

pub column_law : Plain schemas (is_next (Mark At)) column column_at
unfolding column_at
column_law = same_plain
    (take_plain (λ n x. record { name = n; ty = x.0; merge = x.1 }) (name_law schemas anything)
    (λ n. take_plain (λ ty m. record { name = n; ty = ty; merge = m }) (column_type_law anything) (λ ty. take_last (λ m. record { name = n; ty = ty; merge = m }) merge_kind_law)))
    (λ c l m. subst (λ x. column x l) (sym m.made) m.is)
    (λ c l is. record { «from» = (c.name, (c.ty, c.merge)); is = is; made = refl })
