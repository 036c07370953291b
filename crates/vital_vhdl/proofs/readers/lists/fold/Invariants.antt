use Rattle.std.proofs.Common.{ℕ, List}
use Rattle.vital_shapes.specs.Reading.{Reader, more_lists}
use Rattle.vital_vhdl.specs.Reads.{AddsBy}
use Rattle.vital_vhdl.proofs.Turns.{IsRead}
use Rattle.vital_vhdl.proofs.readers.lists.fold.Given as goal

abbrev pub invariant-loop-turn : goal.invariant-loop-turn
invariant-loop-turn g l =
    (item : ℕ → Reader (List _)) → AddsBy item (goal.F-post g l.add)
    → IsRead item l._turn-end l._turn l.found l.cursor (more_lists item l.fn.found l.fn.cursor)
