use Rattle.std.proofs.Common.{arith, refl}
use Rattle.vital_nodes.specs.Names.{plain_identifier}
use Rattle.vital_uses.specs.NamesAt.{at}
use Rattle.vital_nodes.proofs.Lists.{map_filter_map-one, turn}
use Rattle.vital_uses.proofs.reads.listed.Goals as goal

pub loop-name-preserved : goal.loop-name-preserved
loop-name-preserved c =
    turn _ _ _ _ _ _ c.in_ok-put_listed.ensures c.loop-name.invariant refl
    (map_filter_map-one at plain_identifier c.args.sensitivity.now c.loop-name.name-index c.name-item.result (omega arith) c.name-item.is)
