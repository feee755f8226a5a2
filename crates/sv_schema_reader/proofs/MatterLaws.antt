-- The parts of tables that pass no limit by themselves, and the elements that may pass one.
use Rattle.std.proofs.Common.{◌≡◌, ◌∙◌, ◌⊎◌, inl, inr, List, [], ◌∷◌, ◌++◌, refl, sym, ap, append_assoc}
use Rattle.sv_lex.specs.declared.tokens.Token.{Token}
use Rattle.sv_reader.proofs.MatterLaws.{Matter, Headed, OneComma}
use Rattle.sv_schema_reader.specs.Refused.{IsPart, Empty, AfterComma, InCheck, IsFirst, IsElement, First, Outside}

pub part_behind : (pre front part : List Token) → IsPart front part → IsPart (pre ++ front) part
part_behind pre _ _ (Empty front) = Empty (pre ++ front)
part_behind pre _ _ (AfterComma front comma is) = AfterComma (pre ++ front) comma is
part_behind pre _ _ (InCheck front before word inside more spot check whole is some) =
    InCheck (pre ++ front) (pre ++ before) word inside more spot check (ap (λ l. pre ++ l) whole ∙ sym (append_assoc pre before (word ∷ []))) is some

nothing_before : (l : List Token) (word : Token) → l ++ word ∷ [] ≡ [] → ⊥
nothing_before [] word e = absurd cc
nothing_before (x ∷ l) word e = absurd cc

pub part_alone : (front part : List Token) → front ≡ [] → IsPart front part → (part ≡ []) ⊎ OneComma part
part_alone _ _ none (Empty front) = inl refl
part_alone _ _ none (AfterComma front comma is) = inr (record { comma = comma; is = is; only = refl })
part_alone _ _ none (InCheck front before word inside more spot check whole is some) = absurd (nothing_before before word (sym whole ∙ none))

pub element_headed : (element : List Token) → IsElement element → Headed element
element_headed _ (First token is) = record { token = token; others = []; whole = refl }
element_headed _ (Outside spot check tokens is out) = record { token = is.first.token; others = is.back; whole = is.whole ∙ ap (λ l. l ++ is.back) is.first.only }

abbrev pub schemas : Matter
schemas = record {
  IsPart = IsPart;
  IsElement = IsElement;
  IsFirst = IsFirst;
  empty = Empty;
  comma = AfterComma;
  behind = part_behind;
  alone = λ part is. part_alone [] part refl is;
  first = First;
  headed = element_headed;
}
