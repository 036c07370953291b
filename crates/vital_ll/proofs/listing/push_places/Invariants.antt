use Rattle.std.proofs.Common.{◌≡◌, ◌++◌}
use Rattle.vital_ll.specs.Listing.{places_of}
use Rattle.vital_ll.proofs.listing.push_places.Given as goal

abbrev pub invariant-loop-symbol : goal.invariant-loop-symbol
invariant-loop-symbol l = l.places.items ≡ l.initial.places.items ++ places_of l.step l.symbol
