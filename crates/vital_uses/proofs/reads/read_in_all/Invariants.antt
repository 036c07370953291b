use Rattle.std.proofs.Common.{◌≡◌, map, take}
use Rattle.std.specs.List.{flat_map}
use Rattle.vital_uses.specs.Reads.{read_in}
use Rattle.vital_nodes.specs.Seen.{seen}
use Rattle.vital_uses.proofs.reads.read_in_all.Given as goal

abbrev pub invariant-loop-stmt : goal.invariant-loop-stmt
invariant-loop-stmt l = map seen l.parts.items ≡ flat_map read_in (map (λ y. y.now) (take l.stmt-index l.statements))
