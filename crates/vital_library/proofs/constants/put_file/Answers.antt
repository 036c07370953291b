use Rattle.std.proofs.Common.{arith}
use Rattle.vital_library.specs.Constants.{constants_in}
use Rattle.vital_library.proofs.ConstantLemmas.{flat_map-take, put-more}
use Rattle.vital_library.proofs.constants.put_file.Goals as goal

pub loop-unit-preserved : goal.loop-unit-preserved
loop-unit-preserved c = put-more _ _ _ _ _ _ c.in_ok-put_unit.ensures c.loop-unit.invariant (flat_map-take constants_in c.args.units.now c.loop-unit.unit-index c.unit-item.result (omega arith) c.unit-item.is)
