-- A sink over memory.
use Rattle.std.specs.Prelude.{ℕ, List}

-- A sink over memory: the bytes that it got, the most that a write takes, the numbers of the writes that fail, counted from 1,
-- and how many writes and faults there were.
pub record MemSinkState : Type 0 where
  pub bytes : List ℕ
  pub piece : ℕ
  pub fails : List ℕ
  pub calls : ℕ
  pub faults : ℕ
