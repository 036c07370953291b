-- The list of drivers that a cycle gives new values.
use Rattle.std.specs.Prelude.{ℕ, List}

-- The drivers that are listed, and for how many there is room.
pub record DueList : Type 0 where
  pub listed : List ℕ
  pub room : ℕ
