use Rattle.std.proofs.Common.{◌∙◌, ap, sym, arith}
use Rattle.std.specs.Prelude.{not, is_some, ◌||◌, ◌&&◌}
use Rattle.vital_statements.specs.Clauses.{is_wire_delay_block, places_5_at}
use Rattle.vital_statements.specs.Statements.{as_process, is_block}
use Rattle.vital_nodes.proofs.Lists.{turn}
use Rattle.vital_statements.proofs.Steps.{any-push, each-take, is_some-map, place_if-same}
use Rattle.vital_statements.proofs.statement_list.clause_5.Goals as goal

pub loop-conc-preserved : goal.loop-conc-preserved
loop-conc-preserved c =
    let x = c.conc-item.result in
    record {
      places = turn _ _ _ _ _ _ c.in_ok-put_if.ensures c.loop-conc.invariant.places
          (place_if-same _ _ _ _ (c.is_wrong.ensures ∙ ap (λ h. not (is_some (as_process x) || (is_wire_delay_block x && not h))) c.loop-conc.invariant.block) c.place.ensures)
          (each-take places_5_at _ c.loop-conc.conc-index x (omega arith) c.conc-item.is);
      block =
          ap (λ b. c.loop-conc.has_block || b) (c.is_some-has_block.ensures ∙ is_some-map (λ b. (b.label.now, b.block.now)) c.as_block.result ∙ ap is_some c.as_block.ensures)
          ∙ ap (λ b. b || is_block x) c.loop-conc.invariant.block
          ∙ sym (any-push is_block c.statements_of-conc-items.result.now c.loop-conc.conc-index x (omega arith) c.conc-item.is);
    }
