use Rattle.std.proofs.Common.{◌≡◌, ℕ, List, map, take}
use Rattle.std.specs.List.{list_any}
use Rattle.std.specs.Str.{bytes_eq}
use Rattle.vital_drivers.specs.Clauses.{undriven_at}
use Rattle.vital_drivers.specs.Kept.{has_name}
use Rattle.vital_statements.specs.Lists.{each}
use Rattle.vital_drivers.specs.PathDelays.{lent}
use Rattle.vital_drivers.proofs.driver.undriven.Given as goal

abbrev pub invariant-loop-port : goal.invariant-loop-port
invariant-loop-port l = record {
  places : l.places.items ≡ each (undriven_at (map lent l.delays)) (take l.port-index l.ports);
  earlier : (name : List ℕ) → has_name l.earlier name ≡ list_any (λ i. bytes_eq i.identifier.name name) (take l.port-index l.ports);
}
