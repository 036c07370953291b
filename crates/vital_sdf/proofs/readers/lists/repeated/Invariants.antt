use Rattle.vital_sdf.specs.Reading.{Reader, repeated}
use Rattle.vital_sdf.specs.Reads.{MakesBy}
use Rattle.vital_sdf.proofs.Turns.{IsRead}
use Rattle.vital_sdf.proofs.readers.lists.repeated.Given as goal

abbrev pub invariant-loop-turn : goal.invariant-loop-turn
invariant-loop-turn g l =
    (reader : _ → Reader _) → MakesBy reader (goal.F-post g l.item)
    → IsRead reader l._turn-end l._turn l.made l.cursor (repeated reader l.fn.made l.fn.cursor)
