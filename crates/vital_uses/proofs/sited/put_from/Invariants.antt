use Rattle.std.proofs.Common.{◌≡◌, ◌++◌, map, take}
use Rattle.vital_names.specs.Sites as sites
use Rattle.vital_nodes.specs.Seen.{seen}
use Rattle.vital_uses.specs.Sited.{lent_node}
use Rattle.vital_uses.proofs.sited.put_from.Given as goal

abbrev pub invariant-loop-node : goal.invariant-loop-node
invariant-loop-node l = map lent_node l.all.items ≡ map lent_node l.initial.all.items ++ map (λ v. record { site = sites.lent l.site; node = v }) (map seen (take l.node-index l.nodes))
