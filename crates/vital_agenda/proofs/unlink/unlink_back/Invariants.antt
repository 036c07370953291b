use Rattle.std.proofs.Common.{length}
use Rattle.vital_agenda.specs.Queues.{KeepsOthers, chain_of, later_than}
use Rattle.vital_agenda.proofs.Unlinks.{Back}
use Rattle.vital_agenda.proofs.unlink.unlink_back.Given as goal

abbrev pub invariant-loop-last : goal.invariant-loop-last
invariant-loop-last l = record {
  chain : Back l.last (later_than l.fn.last (chain_of l.driver l.fn.queue.entries)) (chain_of l.driver l.queue.entries);
  others : KeepsOthers l.driver l.fn.queue.entries l.queue.entries;
}

abbrev pub decreases-loop-last : goal.decreases-loop-last
decreases-loop-last l = length (chain_of l.driver l.queue.entries)
