use Rattle.std.proofs.Common.{take}
use Rattle.std.specs.List.{AllZip}
use Rattle.vital_cell.specs.Scopes.{lent}
use Rattle.vital_cell.specs.Values.{IsBegun}
use Rattle.vital_cell.proofs.slots.begun_slots.Given as goal

abbrev pub invariant-loop-variable : goal.invariant-loop-variable
invariant-loop-variable l = AllZip (IsBegun (lent l.scope)) (take l.variable-index l.variables) l.slots.items
