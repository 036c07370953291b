-- A shelf over the files of the system.
use Rattle.std.specs.Prelude.{ℕ, Bool}

-- A shelf over files that it does not tell: is a file open, and how many faults there were.
pub record FileShelfState : Type 0 where
  pub is_open : Bool
  pub faults : ℕ
