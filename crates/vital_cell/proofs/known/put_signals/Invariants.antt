use Rattle.std.proofs.Common.{◌≡◌, ◌++◌, map, take}
use Rattle.vital_cell.proofs.known.put_signals.Given as goal

abbrev pub invariant-loop-signal : goal.invariant-loop-signal
invariant-loop-signal l = map (λ name. name.now) l.names.items ≡ map (λ name. name.now) l.fn.names.items ++ map (λ x. x.name) (take l.signal-index l.signals)
