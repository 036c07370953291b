use Rattle.std.proofs.Common.{◌≡◌, take, ◌++◌}
use Rattle.std.specs.List.{flat_map}
use Rattle.vital_uses.specs.Reads.{unlisted}
use Rattle.vital_uses.proofs.cell_uses.put_all_unlisted.Given as goal

abbrev pub invariant-loop-process : goal.invariant-loop-process
invariant-loop-process l = l.places.items ≡ l.initial.places.items ++ flat_map (λ u. unlisted u.0 u.1) (take l.process-index l.processes)
