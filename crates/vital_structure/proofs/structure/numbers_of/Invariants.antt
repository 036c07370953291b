use Rattle.std.proofs.Common.{◌≡◌, ℕ, List, map, take}
use Rattle.std.specs.List.{position_from}
use Rattle.vital_names.specs.FirstNames.{first_in}
use Rattle.vital_structure.specs.Faults.{is_named}
use Rattle.vital_structure.specs.Signals.{lent}
use Rattle.vital_structure.proofs.structure.numbers_of.Given as goal

abbrev pub invariant-loop-number : goal.invariant-loop-number
invariant-loop-number l = (name : List ℕ) → first_in l.numbers name ≡ position_from (λ s. is_named s name) 0 (map lent (take l.number l.signals))
