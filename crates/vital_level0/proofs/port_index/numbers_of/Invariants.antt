use Rattle.std.proofs.Common.{◌≡◌, ℕ, List, take}
use Rattle.vital_level0.specs.PortIndexes.{number_in}
use Rattle.vital_level0.specs.Ports.{number_of}
use Rattle.vital_level0.proofs.port_index.numbers_of.Given as goal

abbrev pub invariant-loop-number : goal.invariant-loop-number
invariant-loop-number l = (name : List ℕ) → number_in l.numbers name ≡ number_of (take l.number l.ports) name
