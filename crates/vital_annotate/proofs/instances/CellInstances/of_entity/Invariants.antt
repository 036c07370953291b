use Rattle.std.proofs.Common.{◌≡◌, take}
use Rattle.std.specs.Prelude.{filter}
use Rattle.vital_annotate.specs.Keyed.{is_of}
use Rattle.vital_annotate.proofs.instances.CellInstances.of_entity.Given as goal

abbrev pub invariant-loop-number : goal.invariant-loop-number
invariant-loop-number l = l.numbers.items ≡ filter (is_of l.self l.entity) (take l.number-index l.group)
