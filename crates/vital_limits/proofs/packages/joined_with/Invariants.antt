use Rattle.std.proofs.Common.{◌≡◌, length, map, take}
use Rattle.std.specs.List.{filter_map, fold}
use Rattle.vital_limits.specs.ConstantLimits.{joined, limits_at, named_at}
use Rattle.vital_nodes.specs.Seen.{seen}
use Rattle.vital_limits.proofs.packages.joined_with.Given as goal

abbrev pub invariant-loop-node : goal.invariant-loop-node
invariant-loop-node l =
    l.limits ≡ fold (λ a n. joined a (limits_at l.known n)) l.initial.limits (filter_map (named_at l.library (length l.known)) (map seen (take l.node-index l.nodes)))
