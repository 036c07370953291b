use Rattle.std.proofs.Common.{◌≡◌, map, take}
use Rattle.vital_connections.specs.Objects as spec
use Rattle.vital_connections.proofs.object.objects_of_signals.Given as goal
use Rattle.vital_structure.specs.Signals.{lent}

abbrev pub invariant-loop-signal : goal.invariant-loop-signal
invariant-loop-signal l = map spec.lent l.objects.items ≡ map spec.object_of_signal (map lent (take l.signal-index l.signals))
