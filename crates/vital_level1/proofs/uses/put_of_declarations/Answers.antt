use Rattle.std.proofs.Common.{refl, arith}
use Rattle.vital_level1.specs.Forms as spec
use Rattle.vital_typed_declarations.specs.Declarations.{lent_sited}
use Rattle.vital_nodes.proofs.Lists.{flat_map-seen, turn-behind}
use Rattle.vital_level1.proofs.uses.put_of_declarations.Goals as goal

pub loop-declaration-preserved : goal.loop-declaration-preserved
loop-declaration-preserved c =
    turn-behind _ _ _ _ _ _ _ c.in_ok-put_of_declaration.ensures c.loop-declaration.invariant refl
    (flat_map-seen lent_sited (spec.uses_of_declaration c.args.names.now c.args.faults.now) c.args.declarations.now c.loop-declaration.declaration-index c.declaration-item.result (omega arith) c.declaration-item.is)
