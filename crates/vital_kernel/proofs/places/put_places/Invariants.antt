use Rattle.std.proofs.Common.{◌≡◌, ◌++◌, map}
use Rattle.std.specs.List.{range_with_len}
use Rattle.vital_kernel.specs.Places.{place_in}
use Rattle.vital_kernel.proofs.places.put_places.Given as goal

abbrev pub invariant-loop-number : goal.invariant-loop-number
invariant-loop-number l =
    l.places.items ≡ l.initial.places.items ++ map (place_in l.instance) (range_with_len 0 l.number)
