use Rattle.std.proofs.Common.{arith, refl}
use Rattle.std.specs.List.{filter_map}
use Rattle.vital_uses.specs.NamesAt.{lent_name}
use Rattle.vital_variables.specs.Variables.{use_through}
use Rattle.vital_nodes.proofs.Lists.{filter_map-seen, put-said, turn}
use Rattle.vital_variables.proofs.variables.uses_through.Goals as goal

pub loop-identifier-preserved : goal.loop-identifier-preserved
loop-identifier-preserved c =
    turn _ _ _ _ _ _ (put-said _ _ _ _ c.in_ok-put_use.ensures c.use_through.ensures) c.loop-identifier.invariant refl
    (filter_map-seen (λ y. y.now) (use_through c.args.names.now c.args.process.now) c.args.identifiers.now c.loop-identifier.identifier-index c.identifier-item.result (omega arith) c.identifier-item.is)
