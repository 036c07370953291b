use Rattle.std.proofs.Common.{refl, arith}
use Rattle.vital_sections.specs.Sections as spec
use Rattle.vital_nodes.proofs.Lists.{filter_map-seen, turn}
use Rattle.vital_sections.proofs.sections.path_delays_among.Goals as goal

pub loop-stmt-preserved : goal.loop-stmt-preserved
loop-stmt-preserved c =
    let reader = c.args.reader.now in
    turn _ _ _ _ _ _ c.in_ok-put_path_delay.ensures c.loop-stmt.invariant refl
    (filter_map-seen (λ s. s.now) (spec.path_delay_of reader.names.now reader.faults.now reader.process.now) c.args.statements.now c.loop-stmt.stmt-index c.stmt-item.result (omega arith) c.stmt-item.is)
