use Rattle.std.proofs.Common.{◌≡◌, take}
use Rattle.std.specs.List.{filter_map}
use Rattle.vital_objects.specs.Signals.{signal}
use Rattle.vital_objects.proofs.signal.read_signals.Given as goal

abbrev pub invariant-loop-declaration : goal.invariant-loop-declaration
invariant-loop-declaration l = l.signals.items ≡ filter_map signal (take l.declaration-index l.declaration-items)
