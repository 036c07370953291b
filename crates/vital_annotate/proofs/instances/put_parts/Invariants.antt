use Rattle.std.proofs.Common.{◌≡◌, ◌++◌, map, take}
use Rattle.vital_annotate.proofs.instances.put_parts.Given as goal

abbrev pub invariant-loop-name : goal.invariant-loop-name
invariant-loop-name l = map (λ part. part.now) l.parts.items ≡ map (λ part. part.now) l.initial.parts.items ++ take l.name-index l.names
