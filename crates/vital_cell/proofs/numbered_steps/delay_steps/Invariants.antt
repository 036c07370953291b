use Rattle.std.proofs.Common.{take}
use Rattle.std.specs.List.{AllZip, enumerate_from}
use Rattle.vital_cell.specs.Scopes.{lent}
use Rattle.vital_cell.specs.Steps.{IsDelayStep}
use Rattle.vital_cell.proofs.numbered_steps.delay_steps.Given as goal

abbrev pub invariant-loop-number : goal.invariant-loop-number
invariant-loop-number l = AllZip (IsDelayStep (lent l.scope)) (enumerate_from l.first_driver (take l.number l.delays)) l.steps.items
