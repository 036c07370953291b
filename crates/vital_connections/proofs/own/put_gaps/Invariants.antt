use Rattle.std.proofs.Common.{◌≡◌, ◌++◌, drop}
use Rattle.vital_connections.specs.Objects.{lent}
use Rattle.vital_connections.specs.Own.{gaps}
use Rattle.vital_connections.specs.Runs.{bits_of_runs}
use Rattle.vital_connections.proofs.own.put_gaps.Given as goal
use Rattle.vital_structure.specs.Shapes.{bits_of}

abbrev pub invariant-loop-span : goal.invariant-loop-span
invariant-loop-span l =
    bits_of_runs l.runs.items ++ gaps l.port (bits_of (lent l.object).shape) (drop l.span-index l.spans) l.from
    ≡ bits_of_runs l.initial.runs.items ++ gaps l.port (bits_of (lent l.object).shape) l.spans 0
