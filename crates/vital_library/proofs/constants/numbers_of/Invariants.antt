use Rattle.std.proofs.Common.{◌≡◌, ℕ, List, take}
use Rattle.std.specs.List.{position_from}
use Rattle.vital_library.specs.Constants.{has_name, lent}
use Rattle.vital_library.specs.Numbers.{number_of}
use Rattle.vital_library.proofs.constants.numbers_of.Given as goal

abbrev pub invariant-loop-number : goal.invariant-loop-number
invariant-loop-number l = (name : List ℕ) → number_of l.numbers name ≡ position_from (has_name name) 0 (lent (take l.number l.constants))
