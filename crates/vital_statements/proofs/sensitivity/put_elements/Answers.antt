use Rattle.std.proofs.Common.{◌∙◌, ap, arith}
use Rattle.std.specs.Prelude.{not}
use Rattle.vital_nodes.specs.declared.expr.Reference.{Reference}
use Rattle.vital_nodes.specs.Places.{place_of_name}
use Rattle.vital_statements.specs.Clauses.{is_input}
use Rattle.vital_nodes.proofs.Lists.{map_filter-one, turn-behind}
use Rattle.vital_statements.proofs.Steps.{kept-one, place_if-same}
use Rattle.vital_statements.proofs.sensitivity.put_elements.Goals as goal

pub loop-element-preserved : goal.loop-element-preserved
loop-element-preserved c =
    let test = λ (r : Reference). not (is_input c.args.names.now r) in
    turn-behind _ _ _ _ _ _ _ c.in_ok-put_if.ensures c.loop-element.invariant
    (place_if-same _ _ _ _ (ap not c.is_input.ensures) c.place.ensures ∙ kept-one test place_of_name c.element-item.result)
    (map_filter-one test place_of_name c.args.elements.now c.loop-element.element-index c.element-item.result (omega arith) c.element-item.is)
