use Rattle.std.proofs.Common.{◌≡◌, ◌++◌, map, take}
use Rattle.vital_nodes.specs.Nodes.{Expression}
use Rattle.vital_nodes.specs.Seen.{seen}
use Rattle.vital_uses.proofs.reads.put_conditions.Given as goal

abbrev pub invariant-loop-branch : goal.invariant-loop-branch
invariant-loop-branch l = map seen l.parts.items ≡ map seen l.initial.parts.items ++ map (λ b. Expression b.condition) (take l.branch-index l.branches)
