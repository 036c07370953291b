use Rattle.std.proofs.Common.{arith}
use Rattle.vital_nodes.specs.Nodes.{Declaration}
use Rattle.vital_limits.proofs.WithinLemmas.{node-put}
use Rattle.vital_limits.proofs.within_declarations.put_within_decls.Goals as goal

pub loop-decl-preserved : goal.loop-decl-preserved
loop-decl-preserved c =
    node-put (λ x. Declaration x) _ _ _ c.args.decls.now c.loop-decl.decl-index c.decl-item.result c.in_ok-put_within_decl.ensures c.loop-decl.invariant (omega arith) c.decl-item.is
