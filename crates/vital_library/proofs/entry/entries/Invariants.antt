use Rattle.std.proofs.Common.{◌≡◌, take, map}
use Rattle.vital_library.specs.Entries.{shown, entities_with_positions, with_group}
use Rattle.vital_library.specs.Positions.{seen}
use Rattle.vital_library.proofs.entry.entries.Given as goal

abbrev pub invariant-loop-at : goal.invariant-loop-at
invariant-loop-at l = map shown l.entries.items ≡ map (with_group l.groups) (entities_with_positions (map seen (take l.at-index l.units)))
