use Rattle.std.proofs.Common.{◌≡◌, ◌++◌, map, take}
use Rattle.std.specs.List.{flat_map}
use Rattle.vital_nodes.specs.Nodes.{parts_of_branch}
use Rattle.vital_nodes.specs.Seen.{seen}
use Rattle.vital_nodes.proofs.statement_parts.put_parts_of_branches.Given as goal

abbrev pub invariant-loop-branch : goal.invariant-loop-branch
invariant-loop-branch l = map seen l.nodes.items ≡ map seen l.initial.nodes.items ++ flat_map parts_of_branch (take l.branch-index l.branches)
