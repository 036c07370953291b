use Rattle.std.proofs.Common.{take}
use Rattle.vital_ll.specs.Listing.{ListsPlaces}
use Rattle.vital_ll.proofs.listing.places.Given as goal

abbrev pub invariant-loop-step : goal.invariant-loop-step
invariant-loop-step l = ListsPlaces l.rules (take l.step-index l.steps) l.places.items
