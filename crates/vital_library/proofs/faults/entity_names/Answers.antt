use Rattle.std.proofs.Common.{sym, ◌∙◌, ap, arith}
use Rattle.std.proofs.Common.{take}
use Rattle.std.specs.Prelude.{◌||◌, [], ◌∷◌}
use Rattle.vital_library.specs.Faults.{has_entity}
use Rattle.vital_library.specs.Positions.{units_in}
use Rattle.vital_library.proofs.FaultLemmas.{has_entity-push}
use Rattle.vital_nodes.proofs.Lists.{map-take}
use Rattle.vital_library.proofs.faults.entity_names.Goals as goal

pub loop-at-preserved : goal.loop-at-preserved
loop-at-preserved c = λ name.
    let unit = c.at-item.result.unit.now in
    let before = units_in (take c.loop-at.at-index c.args.units.now) in
    c.in_ok-put_entity.ensures name
    ∙ ap (λ b. has_entity (unit ∷ []) name || b) (c.loop-at.invariant name)
    ∙ sym (has_entity-push before unit name)
    ∙ ap (λ units. has_entity units name) (sym (map-take (λ at. at.unit.now) c.args.units.now c.loop-at.at-index c.at-item.result (omega arith) c.at-item.is))
