-- The words that name nothing: a name is free if it is none of them.
use Rattle.std.specs.Prelude.{ℕ, Bool, List, [], ◌∷◌, ◌||◌, false, bytes_eq, codes}

abbrev pub is_among : List (List ℕ) → List ℕ → Bool
is_among [] word = false
is_among (other ∷ others) word = bytes_eq word other || is_among others word

abbrev pub schema_words : List (List ℕ)
schema_words = codes "create" ∷ codes "table" ∷ codes "primary" ∷ codes "key" ∷ codes "unique" ∷ codes "check" ∷ codes "foreign" ∷ codes "references" ∷ []

abbrev pub type_words : List (List ℕ)
type_words = codes "in" ∷ codes "int" ∷ codes "text" ∷ codes "ints" ∷ []

abbrev pub control_words : List (List ℕ)
control_words = codes "txn" ∷ codes "let" ∷ codes "get" ∷ codes "if" ∷ codes "else" ∷ codes "for" ∷ codes "each" ∷ codes "abort" ∷ codes "reply" ∷ []

abbrev pub change_words : List (List ℕ)
change_words = codes "insert" ∷ codes "fresh" ∷ codes "update" ∷ codes "remove" ∷ codes "set" ∷ codes "where" ∷ codes "and" ∷ codes "or" ∷ codes "not" ∷ codes "old" ∷ []

unfoldable pub is_reserved : List ℕ → Bool
is_reserved word = is_among schema_words word || is_among type_words word || is_among control_words word || is_among change_words word
