-- Kinds of tokens, told apart by tests.
use Rattle.std.proofs.Common.{◌≡◌, ◌∙◌, true, Some, refl, sym, ap}
use Rattle.std.proofs.lemmas.Bool.Decides.{Decides-int_eq}
use Rattle.std.proofs.lemmas.Slice.Eq.{bytes_eq-Decides}
use Rattle.sv_lex.specs.declared.marks.Mark.{Mark as IsMark}
use Rattle.sv_lex.specs.declared.marks.Mark.TheVariants.{LeftParen}
use Rattle.sv_lex.specs.declared.tokens.Token.{Token}
use Rattle.sv_lex.specs.declared.tokens.TokenKind.{TokenKind}
use Rattle.sv_lex.specs.declared.tokens.TokenKind.TheVariants.{Name, Number, Text, Mark}
use Rattle.sv_lex.specs.Marks.{mark_bytes, longest_mark}
use Rattle.sv_reader.specs.Reading.{is_kind}

-- a mark is told by its bytes
mark_back : (m : IsMark) → longest_mark (mark_bytes m) ≡ Some m
unfolding longest_mark
mark_back LeftParen = refl
mark_back _ = refl

same_mark : (a b : IsMark) → mark_bytes a ≡ mark_bytes b → a ≡ b
same_mark a b e = let same : Some a ≡ Some b = sym (mark_back a) ∙ ap longest_mark e ∙ mark_back b in cc

pub kind_is : (wanted found : TokenKind) → is_kind wanted found ≡ true → found ≡ wanted
kind_is (Name wanted) (Name found) e = ap Name ((bytes_eq-Decides found wanted).0 e)
kind_is (Number wanted) (Number found) e = ap Number ((Decides-int_eq found wanted).0 e)
kind_is (Text wanted) (Text found) e = ap Text ((bytes_eq-Decides found wanted).0 e)
kind_is (Mark wanted) (Mark found) e = ap Mark (same_mark found wanted ((bytes_eq-Decides (mark_bytes found) (mark_bytes wanted)).0 e))
kind_is _ _ e = absurd cc

pub kind_same : (k : TokenKind) → is_kind k k ≡ true
kind_same (Name name) = (bytes_eq-Decides name name).1 refl
kind_same (Number n) = (Decides-int_eq n n).1 refl
kind_same (Text text) = (bytes_eq-Decides text text).1 refl
kind_same (Mark m) = (bytes_eq-Decides (mark_bytes m) (mark_bytes m)).1 refl

-- some token of a kind
abbrev pub token_of : TokenKind → Token
token_of k = record { kind = k; «from» = 0; to = 0; spot = record { line = 1; col = 1 } }
