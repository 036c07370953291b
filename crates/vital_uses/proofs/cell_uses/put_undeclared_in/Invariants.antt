use Rattle.std.proofs.Common.{◌≡◌, take, ◌++◌}
use Rattle.std.specs.List.{flat_map}
use Rattle.vital_uses.specs.Undeclared.{undeclared_in}
use Rattle.vital_uses.proofs.cell_uses.put_undeclared_in.Given as goal

abbrev pub invariant-loop-process : goal.invariant-loop-process
invariant-loop-process l = l.places.items ≡ l.initial.places.items ++ flat_map (λ u. undeclared_in u.0 u.1) (take l.process-index l.processes)
