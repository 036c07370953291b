use Rattle.std.proofs.Common.{◌≡◌, ◌+◌, ◌&&◌, ◌||◌, drop}
use Rattle.vital_ll.specs.Marks.{has, marked, begins}
use Rattle.vital_ll.specs.Masks.{token_at}
use Rattle.vital_ll.specs.Passes.{EachBit}
use Rattle.vital_ll.proofs.beginnings.can_begin.Given as goal

abbrev pub invariant-loop-symbol : goal.invariant-loop-symbol
invariant-loop-symbol l =
    EachBit (λ i. (has l.found i || (has l.empty i && begins (marked l.nullable i) (marked l.first i) (token_at (l.base + i)) (has l.after i) (drop l.symbol-index l.symbols)))
    ≡ begins (marked l.nullable i) (marked l.first i) (token_at (l.base + i)) (has l.after i) l.symbols)
