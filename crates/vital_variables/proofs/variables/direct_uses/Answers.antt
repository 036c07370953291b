use Rattle.std.proofs.Common.{arith, refl}
use Rattle.std.specs.List.{filter_map}
use Rattle.vital_uses.specs.NamesAt.{lent_name}
use Rattle.vital_variables.specs.Variables.{direct_use}
use Rattle.vital_nodes.proofs.Lists.{filter_map-seen, put-said, turn}
use Rattle.vital_variables.proofs.variables.direct_uses.Goals as goal

pub loop-identifier-preserved : goal.loop-identifier-preserved
loop-identifier-preserved c =
    turn _ _ _ _ _ _ (put-said _ _ _ _ c.in_ok-put_use.ensures c.direct_use.ensures) c.loop-identifier.invariant refl
    (filter_map-seen (λ y. y.now) (direct_use c.args.names.now c.args.process.now) c.args.identifiers.now c.loop-identifier.identifier-index c.identifier-item.result (omega arith) c.identifier-item.is)
