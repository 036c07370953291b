use Rattle.std.proofs.Common.{◌≡◌, false, drop}
use Rattle.vital_identifiers.proofs.RunLemmas.{runs}
use Rattle.vital_identifiers.proofs.identifier.are_runs.Given as goal

abbrev pub invariant-loop-byte : goal.invariant-loop-byte
invariant-loop-byte l = runs l.in_run (drop l.byte-index l.bytes) ≡ runs false l.bytes
