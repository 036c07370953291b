use Rattle.std.proofs.Common.{◌≡◌, map, take}
use Rattle.std.specs.List.{fold}
use Rattle.vital_cell.specs.Values.{suited}
use Rattle.vital_cell.proofs.slots.suit_checks.Given as goal

abbrev pub invariant-loop-check : goal.invariant-loop-check
invariant-loop-check l = l.slots ≡ fold (suited (map (λ v. v.name) l.numbers)) l.fn.slots (take l.check-index l.checks)
