use Rattle.std.proofs.Common.{arith}
use Rattle.vital_uses.proofs.BesideLemmas.{nodes_end}
use Rattle.vital_uses.proofs.nodes.put_nodes_beside.Goals as goal

pub returns : goal.returns
returns g c =
    nodes_end g.P.PartsOf.parts_are _ _ c.loop-declaration.places.now c.args.declarations.now c.loop-declaration.declaration-index _ _ (omega arith) c.loop-declaration.invariant
