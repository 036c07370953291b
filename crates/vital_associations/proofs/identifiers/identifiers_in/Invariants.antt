use Rattle.std.proofs.Common.{◌≡◌, ◌++◌, ◌-◌, map}
use Rattle.vital_associations.specs.Identifiers.{identifiers_in, identifiers_to, most_nested}
use Rattle.vital_nodes.specs.Seen.{seen}
use Rattle.vital_associations.proofs.identifiers.identifiers_in.Given as goal

abbrev pub invariant-loop : goal.invariant-loop
invariant-loop l = map (λ i. i.now) l.found.items ++ identifiers_to (most_nested - l.counter) (map seen l.level.items) ≡ identifiers_in (map seen l.fn.parts.items)
