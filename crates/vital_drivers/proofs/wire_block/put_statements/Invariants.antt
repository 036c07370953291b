use Rattle.std.proofs.Common.{◌≡◌, ◌++◌, take}
use Rattle.std.specs.List.{filter_map, list_any}
use Rattle.vital_drivers.specs.Clauses.{places_6_at}
use Rattle.vital_drivers.specs.Kept.{shares_any}
use Rattle.vital_statements.specs.Lists.{each}
use Rattle.vital_drivers.specs.Wires.{Wire, shares, wire_of}
use Rattle.vital_drivers.proofs.wire_block.put_statements.Given as goal

abbrev pub invariant-loop-conc : goal.invariant-loop-conc
invariant-loop-conc l = record {
  places : l.places.items ≡ l.initial.places.items ++ each (places_6_at l.names) (take l.conc-index l.statements);
  joined : (w : Wire) → shares_any l.joined w ≡ list_any (λ v. shares v w) (filter_map (wire_of l.names) (take l.conc-index l.statements));
}
