-- What contracts see of a book.
use Rattle.std.specs.Prelude.{ℕ, List}
use Rattle.sv_hub_trials.specs.declared.books.Line.{Line}

pub record BookSight : Type 0 where
  pub title : ℕ
  pub lines : List Line
