use Rattle.std.proofs.Common.{take}
use Rattle.std.specs.List.{AllZip}
use Rattle.vital_cell.specs.Scopes.{lent}
use Rattle.vital_cell.specs.Steps.{IsFunctionalStep}
use Rattle.vital_cell.proofs.numbered_steps.functional_steps.Given as goal

abbrev pub invariant-loop-statement : goal.invariant-loop-statement
invariant-loop-statement l = AllZip (IsFunctionalStep (lent l.scope)) (take l.statement-index l.statements) l.steps.items
