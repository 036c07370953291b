use Rattle.std.proofs.Common.{◌≡◌, drop}
use Rattle.std.specs.List.{enumerate_from, find}
use Rattle.vital_calls.specs.Formals.{lent}
use Rattle.vital_calls.specs.Matching.{is_for}
use Rattle.vital_calls.proofs.matching.actual_of.Given as goal

abbrev pub invariant-loop-position : goal.invariant-loop-position
invariant-loop-position l =
    find (λ e. is_for l.name (lent l.formals) e.0 e.1) (enumerate_from l.position (drop l.position l.items))
    ≡ find (λ e. is_for l.name (lent l.formals) e.0 e.1) (enumerate_from 0 l.items)
