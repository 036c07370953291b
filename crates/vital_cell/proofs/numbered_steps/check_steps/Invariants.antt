use Rattle.std.proofs.Common.{take}
use Rattle.std.specs.List.{AllZip}
use Rattle.vital_cell.specs.Scopes.{lent}
use Rattle.vital_cell.specs.Steps.{IsCheckStep}
use Rattle.vital_cell.proofs.numbered_steps.check_steps.Given as goal

abbrev pub invariant-loop-check : goal.invariant-loop-check
invariant-loop-check l = AllZip (IsCheckStep (lent l.scope)) (take l.check-index l.checks) l.steps.items
