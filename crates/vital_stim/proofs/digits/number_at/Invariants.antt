use Rattle.std.proofs.Common.{◌≡◌, ◌<◌, ◌≤◌, ◌^◌, length}
use Rattle.vital_stim.proofs.NumberLemmas.{number_from}
use Rattle.vital_stim.proofs.digits.number_at.Given as goal

abbrev pub invariant-loop-rest : goal.invariant-loop-rest
invariant-loop-rest l = record {
  reads : number_from l.value l.count l.rest ≡ number_from 0 0 l.bytes;
  few : l.count ≤ 19;
  small : l.value < 10 ^ l.count;
}

abbrev pub decreases-loop-rest : goal.decreases-loop-rest
decreases-loop-rest l = length l.rest
