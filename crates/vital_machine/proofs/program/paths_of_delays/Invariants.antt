use Rattle.std.proofs.Common.{◌≤◌, length, take}
use Rattle.std.specs.Prelude.{All}
use Rattle.vital_machine.proofs.program.paths_of_delays.Given as goal

abbrev pub invariant-loop-delay : goal.invariant-loop-delay
invariant-loop-delay l = All (λ d. length d.paths ≤ l.most) (take l.delay-index l.delays)
