use Rattle.std.proofs.Common.{refl, arith}
use Rattle.vital_typed_declarations.specs.Declarations as spec
use Rattle.vital_typed_declarations.specs.Declarations.{lent_sited}
use Rattle.vital_nodes.proofs.Lists.{flat_map-seen, turn-behind}
use Rattle.vital_typed_declarations.proofs.interface.put_broken_generics.Goals as goal

pub loop-generic-preserved : goal.loop-generic-preserved
loop-generic-preserved c =
    turn-behind _ _ _ _ _ _ _ c.in_ok-put_broken_generic.ensures c.loop-generic.invariant refl
    (flat_map-seen lent_sited (spec.broken_generic c.args.names.now c.args.faults.now) c.args.generics.now c.loop-generic.generic-index c.generic-item.result (omega arith) c.generic-item.is)
