use Rattle.std.proofs.Common.{◌≡◌, ◌++◌, map, take}
use Rattle.std.specs.List.{filter_map}
use Rattle.vital_associations.specs.Identifiers.{identifier_of_suffix}
use Rattle.vital_associations.proofs.identifiers.put_identifiers_of_suffixes.Given as goal

abbrev pub invariant-loop-suffix : goal.invariant-loop-suffix
invariant-loop-suffix l = map (λ i. i.now) l.found.items ≡ map (λ i. i.now) l.initial.found.items ++ filter_map identifier_of_suffix (take l.suffix-index l.suffixes)
