use Rattle.std.proofs.Common.{[], ◌∙◌, ap, sym, arith}
use Rattle.std.specs.Prelude.{is_some, ◌||◌}
use Rattle.std.specs.Option.{option_map_or}
use Rattle.vital_nodes.specs.Places.{place_of_stmt}
use Rattle.vital_statements.specs.Clauses.{places_11_at, places_of_if}
use Rattle.vital_statements.specs.Statements.{as_if, is_if}
use Rattle.vital_nodes.proofs.Lists.{turn-behind}
use Rattle.vital_statements.proofs.Steps.{any-push, each-take, is_some-copied}
use Rattle.vital_statements.proofs.timing_check.put_statements.Goals as goal

pub loop-stmt-preserved : goal.loop-stmt-preserved
loop-stmt-preserved c =
    let x = c.stmt-item.result in
    let cell = c.args.names.now in
    let process = c.args.process.now in
    record {
      places = turn-behind _ _ _ _ _ _ _ c.in_ok-put_statement.ensures c.loop-stmt.invariant.places
          (ap (λ b. option_map_or (places_of_if cell process b (place_of_stmt x)) (as_if x) []) c.loop-stmt.invariant.has_if)
          (each-take (places_11_at cell process) c.args.statements.now c.loop-stmt.stmt-index x (omega arith) c.stmt-item.is);
      has_if =
          ap (λ b. c.loop-stmt.has_if || b) (c.is_some-has_if.ensures ∙ is_some-copied c.as_if.result ∙ ap is_some c.as_if.ensures)
          ∙ ap (λ b. b || is_if x) c.loop-stmt.invariant.has_if
          ∙ sym (any-push is_if c.args.statements.now c.loop-stmt.stmt-index x (omega arith) c.stmt-item.is);
    }
