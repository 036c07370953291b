use Rattle.std.proofs.Common.{◌≡◌, map, take}
use Rattle.std.specs.List.{enumerate_from}
use Rattle.vital_connections.specs.Objects.{bits_of_all, lent}
use Rattle.vital_connections.specs.Runs.{bits_of_runs}
use Rattle.vital_netlist.proofs.unit.bits_from.Given as goal

abbrev pub invariant-loop-number : goal.invariant-loop-number
invariant-loop-number l = bits_of_runs l.runs.items ≡ bits_of_all (enumerate_from l.first (map lent (take l.number l.objects)))
