use Rattle.std.proofs.Common.{◌≡◌, map, take}
use Rattle.vital_cell.proofs.variable_numbers.names_of.Given as goal

abbrev pub invariant-loop-variable : goal.invariant-loop-variable
invariant-loop-variable l = map (λ name. name.now) l.names.items ≡ map (λ variable. variable.name) (take l.variable-index l.variables)
