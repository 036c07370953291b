use Rattle.std.proofs.Common.{◌∙◌, ap, arith, sym}
use Rattle.std.specs.Option.{option_to_list}
use Rattle.vital_drivers.specs.PathDelays.{path_delay_of_stmt}
use Rattle.vital_nodes.proofs.Lists.{filter_map-seen, only-one, turn-behind}
use Rattle.vital_drivers.proofs.path_delay.put_sequential.Goals as goal

pub loop-stmt-preserved : goal.loop-stmt-preserved
loop-stmt-preserved c =
    let delay = path_delay_of_stmt c.args.names.now c.args.process.now in
    turn-behind _ _ _ _ _ _ _ c.in_ok-put_delay.ensures c.loop-stmt.invariant
    (ap option_to_list c.path_delay_of_stmt.ensures ∙ sym (only-one delay c.stmt-item.result.now))
    (filter_map-seen (λ s. s.now) delay c.args.statements.now c.loop-stmt.stmt-index c.stmt-item.result (omega arith) c.stmt-item.is)
