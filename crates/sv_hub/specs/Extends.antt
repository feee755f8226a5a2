-- One list extends another. A past has its newest item in front.
use Rattle.std.specs.Prelude.{◌≡◌, List, ◌++◌}

-- more stands in front of the earlier list
pub record Extends {A : Type 0} (later earlier : List A) : Type 0 where
  pub more : List A
  pub is : later ≡ more ++ earlier
