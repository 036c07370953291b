use Rattle.std.proofs.Common.{◌≡◌, ℕ, List, take, map}
use Rattle.vital_library.specs.Entries.{group_of, positions_of_archs}
use Rattle.vital_library.specs.Positions.{seen}
use Rattle.vital_library.proofs.entry.archs_by_entity.Given as goal

abbrev pub invariant-loop-at : goal.invariant-loop-at
invariant-loop-at l = (name : List ℕ) → group_of l.groups name ≡ positions_of_archs name (map seen (take l.at-index l.units))
