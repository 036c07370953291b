use Rattle.std.proofs.Common.{◌≡◌, ◌++◌, map, take}
use Rattle.vital_nodes.specs.Nodes.{Expression}
use Rattle.vital_nodes.specs.Seen.{seen}
use Rattle.vital_nodes.proofs.put.put_operands.Given as goal

abbrev pub invariant-loop-operand : goal.invariant-loop-operand
invariant-loop-operand g l = map seen l.nodes.items ≡ map seen l.initial.nodes.items ++ map (λ operand. Expression operand.1) (take l.operand-index l.operands)
