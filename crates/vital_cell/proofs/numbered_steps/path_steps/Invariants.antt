use Rattle.std.proofs.Common.{take}
use Rattle.std.specs.List.{AllZip}
use Rattle.vital_cell.specs.Scopes.{lent}
use Rattle.vital_cell.specs.Steps.{IsPathStep}
use Rattle.vital_cell.proofs.numbered_steps.path_steps.Given as goal

abbrev pub invariant-loop-path : goal.invariant-loop-path
invariant-loop-path l = AllZip (IsPathStep (lent l.scope)) (take l.path-index l.paths) l.steps.items
