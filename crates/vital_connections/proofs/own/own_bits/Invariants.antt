use Rattle.std.proofs.Common.{◌≡◌, ◌++◌, drop, map}
use Rattle.vital_connections.specs.Objects.{lent}
use Rattle.vital_connections.specs.Own.{all_gaps}
use Rattle.vital_connections.specs.Runs.{bits_of_runs}
use Rattle.vital_connections.proofs.own.own_bits.Given as goal

abbrev pub invariant-loop-number : goal.invariant-loop-number
invariant-loop-number l =
    bits_of_runs l.runs.items ++ all_gaps l.number (map lent (drop l.number l.ports)) l.rest ≡ all_gaps 0 (map lent l.ports) l.spans
