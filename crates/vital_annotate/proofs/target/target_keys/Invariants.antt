use Rattle.std.proofs.Common.{◌≡◌, map, take}
use Rattle.vital_annotate.specs.PathKeys as keys
use Rattle.vital_netlist.specs.Designs.{labels}
use Rattle.vital_annotate.proofs.target.target_keys.Given as goal

abbrev pub invariant-loop-target : goal.invariant-loop-target
invariant-loop-target l = map (λ k. k.items) l.found.items ≡ map (λ t. keys.labels_key (labels l.design t.instance)) (take l.target-index l.targets)
