use Rattle.std.proofs.Common.{refl, arith}
use Rattle.vital_level1.specs.Forms as spec
use Rattle.vital_nodes.proofs.Lists.{flat_map-one, turn-behind}
use Rattle.vital_level1.proofs.uses.put_of_regions.Goals as goal

pub loop-region-preserved : goal.loop-region-preserved
loop-region-preserved c =
    turn-behind _ _ _ _ _ _ _ c.in_ok-put_of_region.ensures c.loop-region.invariant refl
    (flat_map-one (spec.uses_of_region c.args.names.now c.args.faults.now) c.args.regions.now c.loop-region.region-index c.region-item.result (omega arith) c.region-item.is)
