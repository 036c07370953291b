use Rattle.std.proofs.Common.{◌≡◌, ◌++◌, take}
use Rattle.std.specs.List.{filter_map}
use Rattle.vital_level1.specs.Kept.{HasMoreWrong}
use Rattle.vital_level1.specs.Uses.{wrong_use}
use Rattle.vital_level1.proofs.symbols.put_wrong.Given as goal

abbrev pub invariant-loop-used : goal.invariant-loop-used
invariant-loop-used l = record {
  places : l.places.items ≡ l.initial.places.items ++ filter_map (wrong_use l.names) (take l.used-index l.uses);
  numbers : HasMoreWrong l.numbers l.initial.numbers l.names.files (take l.used-index l.uses);
}
