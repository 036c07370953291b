use Rattle.std.proofs.Common.{◌∷◌, [], ◌++◌, sym, ◌∙◌, ap, arith}
use Rattle.vital_declaration_clauses.specs.Clauses.{breaks_18, of_ports}
use Rattle.vital_nodes.proofs.Lists.{map_filter-one}
use Rattle.vital_declaration_clauses.proofs.clauses.clause_18.Goals as goal

pub loop-port-preserved : goal.loop-port-preserved
loop-port-preserved c =
    c.in_ok-put_port.ensures
    ∙ ap (λ ps. ps ++ of_ports (c.port-item.result ∷ [])) c.loop-port.invariant
    ∙ sym (map_filter-one breaks_18 (λ port. port.identifier.place) c.as_slice-ports.result.now c.loop-port.port-index c.port-item.result (omega arith) c.port-item.is)
