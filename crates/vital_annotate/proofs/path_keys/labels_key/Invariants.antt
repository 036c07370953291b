use Rattle.std.proofs.Common.{◌≡◌, map, take}
use Rattle.vital_annotate.specs.PathKeys as spec
use Rattle.vital_annotate.proofs.path_keys.labels_key.Given as goal

abbrev pub invariant-loop-label : goal.invariant-loop-label
invariant-loop-label l = l.key.items ≡ spec.labels_key (map (λ label. label.now) (take l.label-index l.labels))
