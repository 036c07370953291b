use Rattle.std.proofs.Common.{◌≡◌, length, map, take}
use Rattle.std.specs.List.{filter_map, fold}
use Rattle.vital_limits.specs.ConstantLimits.{named_at}
use Rattle.vital_package_constants.specs.Breaches.{breaches_at, joined}
use Rattle.vital_nodes.specs.Seen.{seen}
use Rattle.vital_package_constants.proofs.breaches.joined_with.Given as goal

abbrev pub invariant-loop-node : goal.invariant-loop-node
invariant-loop-node l =
    l.breaches ≡ fold (λ a n. joined a (breaches_at l.known n)) l.initial.breaches (filter_map (named_at l.library (length l.known)) (map seen (take l.node-index l.nodes)))
