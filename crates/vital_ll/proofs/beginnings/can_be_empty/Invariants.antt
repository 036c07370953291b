use Rattle.std.proofs.Common.{◌≡◌, ◌&&◌, drop}
use Rattle.vital_ll.specs.Marks.{has, marked, empties}
use Rattle.vital_ll.specs.Passes.{EachBit}
use Rattle.vital_ll.proofs.beginnings.can_be_empty.Given as goal

abbrev pub invariant-loop-symbol : goal.invariant-loop-symbol
invariant-loop-symbol l =
    EachBit (λ i. (has l.empty i && empties (marked l.nullable i) (drop l.symbol-index l.symbols)) ≡ empties (marked l.nullable i) l.symbols)
