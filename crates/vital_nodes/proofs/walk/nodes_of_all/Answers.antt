use Rattle.vital_nodes.specs.Seen.{seen}
use Rattle.vital_nodes.proofs.Turns.{ahead-taken, begun, fewer, turned}
use Rattle.vital_nodes.proofs.walk.nodes_of_all.Goals as goal

pub loop-node-init : goal.loop-node-init
loop-node-init c = begun c.new-nodes.result.items c.reverse.new.self.items c.args.parts.items c.new-nodes.ensures.items c.reverse.ensures.items

pub loop-node-smaller : goal.loop-node-smaller
loop-node-smaller c =
    fewer _ _ (seen c.in-Some.node)
    (ahead-taken c.walked_in_preorder.ensures c.pop.new.self.items c.loop-node.waiting.items c.put_parts_reversed.new.waiting.items c.in-Some.node
    c.in-Some.ensures.items c.in_ok-put_parts_reversed.ensures)

pub loop-node-preserved : goal.loop-node-preserved
loop-node-preserved c =
    turned c.loop-node.nodes.items c.push.new.self.items c.in-Some.node _ _ _ c.in_ok-push.ensures.items
    (ahead-taken c.walked_in_preorder.ensures c.pop.new.self.items c.loop-node.waiting.items c.put_parts_reversed.new.waiting.items c.in-Some.node
    c.in-Some.ensures.items c.in_ok-put_parts_reversed.ensures)
    c.loop-node.invariant
