use Rattle.std.proofs.Common.{◌≡◌, ℕ, List, map, take}
use Rattle.std.specs.List.{list_any}
use Rattle.vital_drivers.specs.Clauses.{drives}
use Rattle.vital_drivers.specs.Kept.{has_name}
use Rattle.vital_drivers.specs.PathDelays.{lent}
use Rattle.vital_drivers.proofs.driver.driven_names.Given as goal

abbrev pub invariant-loop-delay : goal.invariant-loop-delay
invariant-loop-delay l = (name : List ℕ) → has_name l.names name ≡ list_any (drives name) (map lent (take l.delay-index l.delays))
