-- What a call on rows leaves of them: they stay, whatever came of it; and where it says that an answer is missing, they don't know the answer to that ask.
use Rattle.std.specs.Prelude.{◌≡◌, false, List, Result, Err}
use Rattle.sv_app.specs.Schema.{Declaration}
use Rattle.sv_effect.specs.declared.reads.Ask.{Ask}
use Rattle.sv_effect.specs.declared.reads.Halt.{Halt}
use Rattle.sv_effect.specs.declared.reads.Halt.TheVariants.{Missing}
use Rattle.sv_effect.specs.Faces.{Face}

pub record Asked {Rows A : Type 0} (Stays : Rows → Rows → Type 0) (face : Rows → Face) (before after : Rows) (result : Result A Halt) : Type 0 where
  pub stays : Stays before after
  pub missing : (a : Ask) → result ≡ Err (Missing a) → (face before).knows a ≡ false

-- Rows that stay stay at each step, show the same face, and are of the same applications.
pub record StaysLaws {Rows : Type 0} (is_of : Rows → List Declaration → Type 0) (face : Rows → Face) (stays : Rows → Rows → Type 0) : Type 0 where
  pub none : (a : Rows) → stays a a
  pub both : (a b c : Rows) → stays a b → stays b c → stays a c
  pub same_face : (a b : Rows) → stays a b → face b ≡ face a
  pub same_app : (a b : Rows) (schema : List Declaration) → stays a b → is_of a schema → is_of b schema
