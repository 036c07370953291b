use Rattle.std.proofs.Common.{◌≡◌, map, take}
use Rattle.std.specs.List.{filter_map}
use Rattle.vital_nodes.specs.Names.{plain_identifier}
use Rattle.vital_uses.specs.NamesAt.{at, lent_name}
use Rattle.vital_uses.proofs.reads.listed.Given as goal

abbrev pub invariant-loop-name : goal.invariant-loop-name
invariant-loop-name l = map lent_name l.listed.items ≡ map at (filter_map plain_identifier (take l.name-index l.sensitivity))
