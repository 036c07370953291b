use Rattle.std.proofs.Common.{◌≡◌, ℕ, List, take}
use Rattle.vital_annotate.specs.Generics.{number_named}
use Rattle.vital_names.specs.FirstNames.{first_in}
use Rattle.vital_annotate.proofs.cell_index.numbers_of.Given as goal

abbrev pub invariant-loop-number : goal.invariant-loop-number
invariant-loop-number l = (name : List ℕ) → first_in l.numbers name ≡ number_named (take l.number l.generics) name
