use Rattle.vital_agenda.specs.Queues.{chain_of}
use Rattle.vital_agenda.proofs.Parts.{back_from}
use Rattle.vital_agenda.proofs.Walks.{Walk, room_of}
use Rattle.vital_agenda.proofs.walk.walk.Given as goal

abbrev pub invariant-loop-entry : goal.invariant-loop-entry
invariant-loop-entry l = Walk l.stay (back_from l.fn.last (chain_of l.driver l.queue.entries)) l.kept l.rest

abbrev pub decreases-loop-entry : goal.decreases-loop-entry
decreases-loop-entry l = room_of l.rest
