use Rattle.std.proofs.Common.{◌∙◌, ap, arith}
use Rattle.std.specs.Prelude.{not}
use Rattle.vital_nodes.specs.declared.stmt.Stmt.{Stmt}
use Rattle.vital_nodes.specs.Places.{place_of_stmt}
use Rattle.vital_statements.specs.Clauses.{is_check_call}
use Rattle.vital_nodes.proofs.Lists.{map_filter-one, turn-behind}
use Rattle.vital_statements.proofs.Steps.{kept-one, place_if-same}
use Rattle.vital_statements.proofs.timing_check.put_others.Goals as goal

pub loop-stmt-preserved : goal.loop-stmt-preserved
loop-stmt-preserved c =
    let test = λ (s : Stmt). not (is_check_call c.args.names.now c.args.process.now s) in
    turn-behind _ _ _ _ _ _ _ c.in_ok-put_if.ensures c.loop-stmt.invariant
    (place_if-same _ _ _ _ (ap not c.is_check_call.ensures) c.place.ensures ∙ kept-one test place_of_stmt c.stmt-item.result)
    (map_filter-one test place_of_stmt c.args.statements.now c.loop-stmt.stmt-index c.stmt-item.result (omega arith) c.stmt-item.is)
