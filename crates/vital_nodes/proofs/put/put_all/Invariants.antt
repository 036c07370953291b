use Rattle.std.proofs.Common.{◌≡◌, ◌++◌, map, take}
use Rattle.vital_nodes.specs.Seen.{seen}
use Rattle.vital_nodes.proofs.put.put_all.Given as goal

abbrev pub invariant-loop-one : goal.invariant-loop-one
invariant-loop-one g l = map seen l.nodes.items ≡ map seen l.initial.nodes.items ++ map g.T.OneKind.node_of (take l.one-index l.all)
