use Rattle.std.proofs.Common.{refl, arith}
use Rattle.vital_level1.specs.Forms as spec
use Rattle.vital_nodes.proofs.Lists.{flat_map-seen, turn-behind}
use Rattle.vital_level1.proofs.forms.put_of_all_concurrent.Goals as goal

pub loop-conc-preserved : goal.loop-conc-preserved
loop-conc-preserved c = record {
  broken = turn-behind _ _ _ _ _ _ _ c.in_ok-put_of_concurrent.ensures.broken c.loop-conc.invariant.broken refl (flat_map-seen (λ s. s.now) (spec.broken_concurrent c.args.names.now c.args.faults.now) c.args.statements.now c.loop-conc.conc-index c.conc-item.result (omega arith) c.conc-item.is);
  tables = turn-behind _ _ _ _ _ _ _ c.in_ok-put_of_concurrent.ensures.tables c.loop-conc.invariant.tables refl (flat_map-seen (λ s. s.now) (spec.uses_of_concurrent c.args.names.now c.args.faults.now) c.args.statements.now c.loop-conc.conc-index c.conc-item.result (omega arith) c.conc-item.is);
}
