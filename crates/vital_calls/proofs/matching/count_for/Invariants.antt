use Rattle.std.proofs.Common.{◌≡◌, ◌+◌, ◌≤◌, drop}
use Rattle.std.specs.List.{count_by, enumerate_from}
use Rattle.vital_calls.specs.Formals.{lent}
use Rattle.vital_calls.specs.Matching.{count_for, is_for}
use Rattle.vital_calls.proofs.matching.count_for.Given as goal

abbrev pub invariant-loop-position : goal.invariant-loop-position
invariant-loop-position l =
    (l.count ≤ l.position)
    × (l.count + count_by (λ e. is_for l.name (lent l.formals) e.0 e.1) (enumerate_from l.position (drop l.position l.items)) ≡ count_for l.name (lent l.formals) l.items)
