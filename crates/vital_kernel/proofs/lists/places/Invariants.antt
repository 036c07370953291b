use Rattle.std.proofs.Common.{◌≡◌, length, map, sum_by, take}
use Rattle.vital_kernel.proofs.lists.places.Given as goal

abbrev pub invariant-loop-list : goal.invariant-loop-list
invariant-loop-list l = l.count ≡ sum_by (λ list. length list) (map (λ list. list.items) (take l.list-index l.lists))
