use Rattle.std.proofs.Common.{◌≡◌, ◌++◌, map, take}
use Rattle.std.specs.List.{flat_map}
use Rattle.vital_nodes.specs.Nodes.{parts_of_suffix}
use Rattle.vital_nodes.specs.Seen.{seen}
use Rattle.vital_nodes.proofs.expression_parts.put_parts_of_name.Given as goal

abbrev pub invariant-loop-suffix : goal.invariant-loop-suffix
invariant-loop-suffix l = map seen l.nodes.items ≡ map seen l.initial.nodes.items ++ flat_map parts_of_suffix (take l.suffix-index l.suffix-items)
