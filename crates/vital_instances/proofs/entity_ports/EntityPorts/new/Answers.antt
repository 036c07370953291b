use Rattle.std.proofs.Common.{[], ◌∷◌, ◌++◌, ap, ◌∙◌}
use Rattle.vital_library.specs.Units.{entities}
use Rattle.vital_instances.proofs.ContentLemmas.{map-more}
use Rattle.vital_instances.proofs.entity_ports.EntityPorts.new.Goals as goal

pub loop-number-preserved : goal.loop-number-preserved
loop-number-preserved c =
    map-more (λ e. e.ports) (entities c.args.library.now) c.loop-number.number c.entity.result.now c.loop-number.formals.items _ c.entity.ensures c.loop-number.invariant
    (c.in_ok-push.ensures.items ∙ ap (λ p. c.loop-number.formals.items ++ p ∷ []) c.in_ok-ports.ensures)
