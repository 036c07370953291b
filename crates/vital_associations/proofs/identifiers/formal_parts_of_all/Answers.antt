use Rattle.std.proofs.Common.{◌++◌, sym, ◌∙◌, ap, arith}
use Rattle.vital_associations.specs.Identifiers.{formal_parts}
use Rattle.vital_nodes.specs.Seen.{seen}
use Rattle.vital_nodes.proofs.Lists.{flat_map-seen}
use Rattle.vital_associations.proofs.identifiers.formal_parts_of_all.Goals as goal

pub loop-node-preserved : goal.loop-node-preserved
loop-node-preserved c =
    c.in_ok-put_formal_parts.ensures
    ∙ ap (λ vs. vs ++ formal_parts (seen c.node-item.result)) c.loop-node.invariant
    ∙ sym (flat_map-seen seen formal_parts c.args.nodes.now c.loop-node.node-index c.node-item.result (omega arith) c.node-item.is)
