use Rattle.vital_ll.proofs.Entries.{IsChosen}
use Rattle.vital_ll.proofs.rows.choose.Given as goal

abbrev pub invariant-loop-left : goal.invariant-loop-left
invariant-loop-left l = IsChosen l.initial.choices l.mask l.alternative l.left l.choices

abbrev pub decreases-loop-left : goal.decreases-loop-left
decreases-loop-left l = l.left
