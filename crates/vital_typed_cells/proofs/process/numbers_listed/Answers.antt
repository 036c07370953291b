use Rattle.std.proofs.Common.{arith, refl}
use Rattle.vital_typed_cells.specs.Processes.{number_listed}
use Rattle.vital_nodes.proofs.Lists.{filter_map-one, turn}
use Rattle.vital_typed_cells.proofs.process.numbers_listed.Goals as goal

pub loop-name-preserved : goal.loop-name-preserved
loop-name-preserved c =
    turn _ _ _ _ _ _ c.in_ok-put_number.ensures c.loop-name.invariant refl
    (filter_map-one (number_listed c.args.bits.now) c.args.names.now c.loop-name.name-index c.name-item.result (omega arith) c.name-item.is)
