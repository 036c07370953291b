use Rattle.std.proofs.Common.{◌≤◌, take}
use Rattle.std.specs.Prelude.{All}
use Rattle.vital_machine.specs.Fits.{most_effects_of}
use Rattle.vital_machine.proofs.program.most_effects.Given as goal

abbrev pub invariant-loop-process : goal.invariant-loop-process
invariant-loop-process l = All (λ p. most_effects_of p.steps ≤ l.most) (take l.process-index l.processes)
