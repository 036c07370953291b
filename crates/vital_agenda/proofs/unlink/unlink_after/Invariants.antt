use Rattle.std.proofs.Common.{length}
use Rattle.vital_agenda.specs.Queues.{KeepsOthers, chain_of}
use Rattle.vital_agenda.proofs.Unlinks.{After}
use Rattle.vital_agenda.proofs.unlink.unlink_after.Given as goal

abbrev pub invariant-loop-late : goal.invariant-loop-late
invariant-loop-late l = record {
  chain : After l.time l.last (chain_of l.driver l.fn.queue.entries) (chain_of l.driver l.queue.entries);
  others : KeepsOthers l.driver l.fn.queue.entries l.queue.entries;
}

abbrev pub decreases-loop-late : goal.decreases-loop-late
decreases-loop-late l = length (chain_of l.driver l.queue.entries)
