use Rattle.std.proofs.Common.{◌≡◌, ◌++◌, map, take}
use Rattle.vital_connections.specs.Objects.{lent}
use Rattle.vital_netlist.specs.CellObjects.{object_of_internal}
use Rattle.vital_netlist.proofs.object.put_internals.Given as goal

abbrev pub invariant-loop-signal : goal.invariant-loop-signal
invariant-loop-signal l = map lent l.objects.items ≡ map lent l.initial.objects.items ++ map object_of_internal (take l.signal-index l.signals)
