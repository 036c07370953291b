use Rattle.std.proofs.Common.{◌≡◌, ◌++◌, map, take}
use Rattle.vital_nodes.specs.Nodes.{Name}
use Rattle.vital_nodes.specs.Seen.{seen}
use Rattle.vital_uses.proofs.nodes.put_names.Given as goal

abbrev pub invariant-loop-name : goal.invariant-loop-name
invariant-loop-name l = map seen l.nodes.items ≡ map seen l.initial.nodes.items ++ map (λ x. Name x) (take l.name-index l.all)
