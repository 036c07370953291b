use Rattle.std.proofs.Common.{◌≡◌, map, take}
use Rattle.vital_annotate.specs.PathKeys as spec
use Rattle.vital_annotate.proofs.path_keys.put_path_key.Given as goal

abbrev pub invariant-loop-part : goal.invariant-loop-part
invariant-loop-part l = l.key.items ≡ spec.path_key (map (λ part. part.now) (take l.part-index l.parts))
