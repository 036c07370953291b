use Rattle.std.proofs.Common.{refl, arith}
use Rattle.vital_typed_declarations.specs.Declarations as spec
use Rattle.vital_nodes.proofs.Lists.{flat_map-one, turn-behind}
use Rattle.vital_typed_declarations.proofs.declaration.put_broken_in_regions.Goals as goal

pub loop-region-preserved : goal.loop-region-preserved
loop-region-preserved c =
    turn-behind _ _ _ _ _ _ _ c.in_ok-put_broken_in_region.ensures c.loop-region.invariant refl
    (flat_map-one (spec.broken_in_region c.args.names.now c.args.faults.now) c.args.regions.now c.loop-region.region-index c.region-item.result (omega arith) c.region-item.is)
