use Rattle.std.proofs.Common.{◌≡◌, ◌++◌, map, take}
use Rattle.std.specs.Option.{option_copied}
use Rattle.vital_nodes.specs.Places.{place_of}
use Rattle.vital_nodes.specs.Seen.{seen}
use Rattle.vital_uses.specs.Sited.{lent_node, own_site}
use Rattle.vital_uses.proofs.sited.put_from_themselves.Given as goal

abbrev pub invariant-loop-node : goal.invariant-loop-node
invariant-loop-node l = map lent_node l.all.items ≡ map lent_node l.initial.all.items ++ map (λ v. record { site = own_site (option_copied l.process) (place_of v); node = v }) (map seen (take l.node-index l.nodes))
