use Rattle.std.proofs.Common.{take}
use Rattle.std.specs.Prelude.{All}
use Rattle.vital_machine.specs.Fits.{HasRoom}
use Rattle.vital_machine.proofs.program.most_paths.Given as goal

abbrev pub invariant-loop-process : goal.invariant-loop-process
invariant-loop-process l = All (λ p. HasRoom l.most p.steps) (take l.process-index l.processes)
