use Rattle.std.proofs.Common.{◌≡◌, ◌++◌, ℕ, List, map, take}
use Rattle.std.specs.List.{list_any}
use Rattle.vital_drivers.specs.Clauses.{drives, places_12_at}
use Rattle.vital_drivers.specs.Kept.{has_name}
use Rattle.vital_statements.specs.Lists.{each}
use Rattle.vital_drivers.specs.PathDelays.{lent}
use Rattle.vital_drivers.proofs.driver.put_calls.Given as goal

abbrev pub invariant-loop-delay : goal.invariant-loop-delay
invariant-loop-delay l = record {
  places : l.places.items ≡ l.initial.places.items ++ each places_12_at (map lent (take l.delay-index l.delays));
  driven : (name : List ℕ) → has_name l.driven name ≡ list_any (drives name) (map lent (take l.delay-index l.delays));
}
