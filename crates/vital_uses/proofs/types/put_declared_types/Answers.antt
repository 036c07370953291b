use Rattle.std.proofs.Common.{arith, refl}
use Rattle.vital_uses.specs.Parts.{type_of_decl}
use Rattle.vital_nodes.proofs.Lists.{filter_map-one, put-said, turn-behind}
use Rattle.vital_uses.proofs.types.put_declared_types.Goals as goal

pub loop-declaration-preserved : goal.loop-declaration-preserved
loop-declaration-preserved c =
    turn-behind _ _ _ _ _ _ _ (put-said _ _ _ _ c.in_ok-put_if_there.ensures c.type_of_decl.ensures) c.loop-declaration.invariant refl
    (filter_map-one type_of_decl c.args.declarations.now c.loop-declaration.declaration-index c.declaration-item.result (omega arith) c.declaration-item.is)
