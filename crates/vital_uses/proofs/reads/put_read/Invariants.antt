use Rattle.std.proofs.Common.{◌≡◌, map, take, ◌++◌}
use Rattle.std.specs.Prelude.{filter}
use Rattle.vital_uses.specs.Reads.{is_read}
use Rattle.vital_nodes.specs.Seen.{seen}
use Rattle.vital_uses.proofs.reads.put_read.Given as goal

abbrev pub invariant-loop-node : goal.invariant-loop-node
invariant-loop-node l = map seen l.parts.items ≡ map seen l.initial.parts.items ++ filter is_read (map seen (take l.node-index l.all))
