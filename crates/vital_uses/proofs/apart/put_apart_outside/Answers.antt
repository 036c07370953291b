use Rattle.std.proofs.Common.{arith, refl}
use Rattle.vital_uses.specs.Apart.{apart_outside}
use Rattle.vital_nodes.proofs.Lists.{flat_map-seen, turn-behind}
use Rattle.vital_uses.proofs.apart.put_apart_outside.Goals as goal

pub loop-conc-preserved : goal.loop-conc-preserved
loop-conc-preserved c =
    turn-behind _ _ _ _ _ _ _ c.in_ok-put_apart_of_conc.ensures c.loop-conc.invariant refl
    (flat_map-seen (λ y. y.now) apart_outside c.args.statements.now c.loop-conc.conc-index c.conc-item.result (omega arith) c.conc-item.is)
