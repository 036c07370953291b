use Rattle.std.proofs.Common.{arith}
use Rattle.vital_names.proofs.ViewpointLemmas.{viewpoint-more}
use Rattle.vital_names.proofs.viewpoint.viewpoints.Goals as goal

pub loop-declaration-preserved : goal.loop-declaration-preserved
loop-declaration-preserved g c =
    viewpoint-more g.T.HasPlace.place_is g.T.DeclaredTogether.last_is c.args.declarations.now c.loop-declaration.declaration-index c.declaration-item.result
    c.loop-declaration.begun _ _ _ _ _ _ _ (omega arith) c.declaration-item.is
    c.place.ensures c.first_place-place.ensures c.is_last.ensures c.still_begun-begun.ensures c.in_ok-push.ensures.items c.loop-declaration.invariant
