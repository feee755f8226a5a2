-- The marks, and which of them some bytes begin with.
use Rattle.std.specs.Prelude.{ℕ, List, [], ◌∷◌, Option, find, nat_eq, codes}
use Rattle.std.specs.List.{starts_with}
use Rattle.sv_lex.specs.declared.marks.Mark.{Mark}
use Rattle.sv_lex.specs.declared.marks.Mark.TheVariants.{LeftParen, RightParen, LeftBrace, RightBrace, LeftBracket, RightBracket, Comma, Semi, Dot, Colon, Eq, Ne, Lt, Le, Gt, Ge, Plus, Minus, Star, At, Percents}

abbrev pub mark_bytes : Mark → List ℕ
mark_bytes LeftParen = codes "("
mark_bytes RightParen = codes ")"
mark_bytes LeftBrace = codes "{"
mark_bytes RightBrace = codes "}"
mark_bytes LeftBracket = codes "["
mark_bytes RightBracket = codes "]"
mark_bytes Comma = codes ","
mark_bytes Semi = codes ";"
mark_bytes Dot = codes "."
mark_bytes Colon = codes ":"
mark_bytes Eq = codes "="
mark_bytes Ne = codes "!="
mark_bytes Lt = codes "<"
mark_bytes Le = codes "<="
mark_bytes Gt = codes ">"
mark_bytes Ge = codes ">="
mark_bytes Plus = codes "+"
mark_bytes Minus = codes "-"
mark_bytes Star = codes "*"
mark_bytes At = codes "@"
mark_bytes Percents = codes "%%"

-- every mark, a longer one before a shorter one
abbrev pub marks : List Mark
marks = Ne ∷ Le ∷ Ge ∷ Percents ∷ LeftParen ∷ RightParen ∷ LeftBrace ∷ RightBrace ∷ LeftBracket ∷ RightBracket ∷ Comma ∷ Semi ∷ Dot ∷ Colon ∷ Eq ∷ Lt ∷ Gt ∷ Plus ∷ Minus ∷ Star ∷ At ∷ []

-- the longest mark that the bytes begin with
unfoldable pub longest_mark : List ℕ → Option Mark
longest_mark bytes = find (λ mark. starts_with nat_eq bytes (mark_bytes mark)) marks
