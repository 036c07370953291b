use Rattle.std.proofs.Common.{◌≡◌, map, take}
use Rattle.vital_machine.specs.Machine.{timed}
use Rattle.vital_machine.specs.Seen.{lent}
use Rattle.vital_machine.proofs.path_delays.put_paths.Given as goal

abbrev pub invariant-loop-number : goal.invariant-loop-number
invariant-loop-number l = take l.number l.places ≡ map (timed (lent l.seen)) (take l.number l.steps)
