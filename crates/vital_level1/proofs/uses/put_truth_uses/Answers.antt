use Rattle.std.proofs.Common.{refl, arith}
use Rattle.vital_table_uses.specs.TableUses.{truth_use_at}
use Rattle.vital_expr.specs.Seen.{lent}
use Rattle.vital_nodes.specs.Seen.{seen}
use Rattle.vital_nodes.proofs.Lists.{filter_map-seen, turn-behind}
use Rattle.vital_level1.proofs.uses.put_truth_uses.Goals as goal

pub loop-node-preserved : goal.loop-node-preserved
loop-node-preserved c =
    turn-behind _ _ _ _ _ _ _ c.in_ok-put_truth_use.ensures c.loop-node.invariant refl
    (filter_map-seen seen (truth_use_at (lent c.args.reader.now)) c.args.nodes.now c.loop-node.node-index c.node-item.result (omega arith) c.node-item.is)
