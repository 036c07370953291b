use Rattle.std.proofs.Common.{ℕ, ◌≤◌, take, All}
use Rattle.vital_ll.specs.Table.{IsBelow}
use Rattle.vital_ll.proofs.width.widest.Given as goal

abbrev pub invariant-loop-symbol : goal.invariant-loop-symbol
invariant-loop-symbol l =
    (l.width ≤ l.widest) × (l.widest ≤ 65536) × All (IsBelow l.widest) (take l.symbol-index l.symbols)
    × ((n : ℕ) → l.width ≤ n → All (IsBelow n) l.symbols → l.widest ≤ n)
