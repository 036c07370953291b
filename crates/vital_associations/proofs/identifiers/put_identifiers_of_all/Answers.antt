use Rattle.std.proofs.Common.{map, take, ◌++◌, sym, ◌∙◌, ap, append_assoc, arith}
use Rattle.std.specs.List.{flat_map}
use Rattle.vital_associations.specs.Identifiers.{identifiers_of_node}
use Rattle.vital_nodes.specs.Seen.{seen}
use Rattle.vital_nodes.proofs.Lists.{flat_map-seen}
use Rattle.vital_associations.proofs.identifiers.put_identifiers_of_all.Goals as goal

pub loop-node-preserved : goal.loop-node-preserved
loop-node-preserved c =
    let vs = c.args.nodes.now in
    let k = c.loop-node.node-index in
    let v = c.node-item.result in
    let first = map (λ i. i.now) c.args.found.now.items in
    let last = identifiers_of_node (seen v) in
    c.in_ok-put_identifiers.ensures
    ∙ ap (λ is. is ++ last) c.loop-node.invariant
    ∙ append_assoc first (flat_map identifiers_of_node (map seen (take k vs))) last
    ∙ ap (λ is. first ++ is) (sym (flat_map-seen seen identifiers_of_node vs k v (omega arith) c.node-item.is))
