use Rattle.std.proofs.Common.{ap, ◌∙◌, map}
use Rattle.std.specs.List.{flat_map}
use Rattle.vital_base.specs.declared.place.Place.{Place}
use Rattle.vital_uses.specs.Sited.{lent_node}
use Rattle.vital_uses.specs.Statements.{processes, statements}
use Rattle.vital_uses.proofs.PutLemmas.{of-processes, put-three}
use Rattle.vital_call_clauses.specs.Clauses.{wrong_concurrent, wrong_in_process, wrong_node}
use Rattle.vital_call_clauses.proofs.clauses.clause_14.Goals as goal

pub returns : goal.returns
returns c =
    let cell = c.args.uses.now in
    put-three {B = Place} _ _ _ _ _ _ _ _ _ _ c.new-places.ensures.items
    c.in_ok-put_wrong_nodes.ensures c.in_ok-put_wrong_concurrent.ensures c.in_ok-put_wrong_in_processes.ensures
    (ap (λ n. flat_map (wrong_node n) (map lent_node c.nodes_outside.result.now)) c.names-names.ensures ∙ ap (flat_map (wrong_node cell)) c.nodes_outside.ensures)
    (ap (λ n. flat_map (wrong_concurrent n) (map (λ s. s.now) c.statements.result.now)) c.names-names.ensures ∙ ap (flat_map (wrong_concurrent cell)) (c.statements.ensures ∙ ap statements c.requires))
    (of-processes wrong_in_process cell c.processes.result.now (processes cell.arch) c.processes.ensures)
