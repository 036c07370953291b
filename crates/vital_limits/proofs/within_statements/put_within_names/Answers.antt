use Rattle.std.proofs.Common.{arith}
use Rattle.vital_nodes.specs.Nodes.{Name}
use Rattle.vital_limits.proofs.WithinLemmas.{node-put}
use Rattle.vital_limits.proofs.within_statements.put_within_names.Goals as goal

pub loop-name-preserved : goal.loop-name-preserved
loop-name-preserved c =
    node-put (λ x. Name x) _ _ _ c.args.list.now c.loop-name.name-index c.name-item.result c.in_ok-put_within_name.ensures c.loop-name.invariant (omega arith) c.name-item.is
