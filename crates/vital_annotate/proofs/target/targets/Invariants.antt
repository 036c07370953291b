use Rattle.std.proofs.Common.{◌≡◌, map, take}
use Rattle.std.specs.List.{enumerate_from, filter_map}
use Rattle.vital_annotate.specs.Indexes.{found}
use Rattle.vital_annotate.specs.Instances.{cell_instance}
use Rattle.vital_netlist.specs.Designs.{lent_instance}
use Rattle.vital_annotate.proofs.target.targets.Given as goal

abbrev pub invariant-loop-number : goal.invariant-loop-number
invariant-loop-number l = map (found l.design) l.targets.items ≡ filter_map (cell_instance l.design) (enumerate_from 0 (map lent_instance (take l.number l.instances)))
