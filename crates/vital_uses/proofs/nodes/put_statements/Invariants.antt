use Rattle.std.proofs.Common.{◌≡◌, ◌++◌, map, take}
use Rattle.vital_nodes.specs.Nodes.{Sequential}
use Rattle.vital_nodes.specs.Seen.{seen}
use Rattle.vital_uses.proofs.nodes.put_statements.Given as goal

abbrev pub invariant-loop-stmt : goal.invariant-loop-stmt
invariant-loop-stmt l = map seen l.nodes.items ≡ map seen l.initial.nodes.items ++ map (λ x. Sequential x) (take l.stmt-index l.all)
