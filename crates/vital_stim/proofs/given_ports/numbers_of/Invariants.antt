use Rattle.std.proofs.Common.{◌≡◌, ℕ, List, take}
use Rattle.vital_stim.specs.GivenPorts.{number_in, number_of}
use Rattle.vital_stim.proofs.given_ports.numbers_of.Given as goal

abbrev pub invariant-loop-number : goal.invariant-loop-number
invariant-loop-number l = (name : List ℕ) → number_in l.numbers name ≡ number_of (take l.number l.ports) name
