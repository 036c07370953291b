use Rattle.std.proofs.Common.{refl, arith}
use Rattle.vital_level1.specs.Forms as spec
use Rattle.vital_nodes.proofs.Lists.{flat_map-seen, turn-behind}
use Rattle.vital_level1.proofs.forms.put_of_statements.Goals as goal

pub loop-stmt-preserved : goal.loop-stmt-preserved
loop-stmt-preserved c = record {
  broken = turn-behind _ _ _ _ _ _ _ c.in_ok-put_of_statement.ensures.broken c.loop-stmt.invariant.broken refl (flat_map-seen (λ s. s.now) (spec.broken_statement c.args.names.now c.args.faults.now c.args.process.now) c.args.statements.now c.loop-stmt.stmt-index c.stmt-item.result (omega arith) c.stmt-item.is);
  tables = turn-behind _ _ _ _ _ _ _ c.in_ok-put_of_statement.ensures.tables c.loop-stmt.invariant.tables refl (flat_map-seen (λ s. s.now) (spec.uses_of_statement c.args.names.now c.args.faults.now c.args.process.now) c.args.statements.now c.loop-stmt.stmt-index c.stmt-item.result (omega arith) c.stmt-item.is);
}
