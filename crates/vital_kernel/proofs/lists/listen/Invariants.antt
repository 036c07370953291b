use Rattle.std.proofs.Common.{◌≡◌, map, take}
use Rattle.vital_kernel.specs.Lists.{listening}
use Rattle.vital_kernel.proofs.lists.listen.Given as goal

abbrev pub invariant-loop-number : goal.invariant-loop-number
invariant-loop-number l =
    map (λ list. list.items) l.lists.items ≡ listening l.process (map (λ list. list.items) l.initial.lists.items) (take l.number-index l.sensitivity)
