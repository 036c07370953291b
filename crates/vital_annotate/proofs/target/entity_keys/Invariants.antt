use Rattle.std.proofs.Common.{◌≡◌, map, take}
use Rattle.vital_annotate.specs.PathKeys as keys
use Rattle.vital_annotate.proofs.target.entity_keys.Given as goal

abbrev pub invariant-loop-target : goal.invariant-loop-target
invariant-loop-target l = map (λ k. k.items) l.found.items ≡ map (λ t. keys.label_key t.entity.now) (take l.target-index l.targets)
