use Rattle.std.proofs.Common.{◌≡◌, ℕ, ◌≤◌, List, length, take}
use Rattle.std.specs.List.{position_from}
use Rattle.vital_library.specs.Numbers.{is_named, number_of}
use Rattle.vital_library.specs.Positions.{units_in}
use Rattle.vital_library.specs.Units.{entities_among}
use Rattle.vital_library.proofs.numbers.numbers.Given as goal

abbrev pub invariant-loop-at : goal.invariant-loop-at
invariant-loop-at l = record {
  numbers : (name : List ℕ) → number_of l.numbers name ≡ position_from (is_named name) 0 (entities_among (units_in (take l.at-index l.units)));
  count : l.count ≡ length (entities_among (units_in (take l.at-index l.units)));
  few : l.count ≤ l.at-index;
}
