use Rattle.std.proofs.Common.{arith, refl}
use Rattle.std.specs.Prelude.{is_none}
use Rattle.vital_nodes.specs.Places.{place_of_name}
use Rattle.vital_names.specs.TypeNames.{type_named}
use Rattle.vital_nodes.proofs.Lists.{map_filter-seen, turn-behind}
use Rattle.vital_uses.proofs.undeclared.put_unknown_types.Goals as goal

pub loop-name-preserved : goal.loop-name-preserved
loop-name-preserved c =
    turn-behind _ _ _ _ _ _ _ c.in_ok-put_if_unknown.ensures c.loop-name.invariant refl
    (map_filter-seen (λ y. y.now) (λ r. is_none (type_named r)) place_of_name c.args.types.now c.loop-name.name-index c.name-item.result (omega arith) c.name-item.is)
