use Rattle.std.proofs.Common.{refl, arith}
use Rattle.vital_typed_declarations.specs.Declarations as spec
use Rattle.vital_typed_declarations.specs.Declarations.{lent_sited}
use Rattle.vital_nodes.proofs.Lists.{flat_map-seen, turn-behind}
use Rattle.vital_typed_declarations.proofs.declaration.put_broken_among.Goals as goal

pub loop-declaration-preserved : goal.loop-declaration-preserved
loop-declaration-preserved c =
    turn-behind _ _ _ _ _ _ _ c.in_ok-put_broken_at.ensures c.loop-declaration.invariant refl
    (flat_map-seen lent_sited (spec.broken_at c.args.names.now c.args.faults.now) c.args.declarations.now c.loop-declaration.declaration-index c.declaration-item.result (omega arith) c.declaration-item.is)
