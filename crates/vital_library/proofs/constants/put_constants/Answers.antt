use Rattle.std.proofs.Common.{arith}
use Rattle.vital_library.specs.Constants.{as_constant}
use Rattle.vital_library.proofs.ConstantLemmas.{filter_map-take, put-more}
use Rattle.vital_library.proofs.constants.put_constants.Goals as goal

pub loop-declaration-preserved : goal.loop-declaration-preserved
loop-declaration-preserved c = put-more _ _ _ _ _ _ c.in_ok-put_constant.ensures c.loop-declaration.invariant (filter_map-take as_constant c.args.declarations.now c.loop-declaration.declaration-index c.declaration-item.result (omega arith) c.declaration-item.is)
