use Rattle.std.proofs.Common.{◌≡◌, map, take}
use Rattle.vital_machine.proofs.store.first_slots.Given as goal

abbrev pub invariant-loop-process : goal.invariant-loop-process
invariant-loop-process l = map (λ s. s.items) l.slots.items ≡ map (λ p. p.first) (take l.process-index l.processes)
