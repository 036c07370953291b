use Rattle.std.proofs.Common.{sym, ◌∙◌, ap, arith, map}
use Rattle.std.proofs.Common.{take}
use Rattle.std.specs.Prelude.{fold, [], ◌∷◌}
use Rattle.vital_library.specs.Faults.{no_entity, sooner}
use Rattle.vital_library.specs.Names.{without_name}
use Rattle.vital_library.specs.Positions.{units_in}
use Rattle.vital_library.proofs.FaultLemmas.{fold-push_without}
use Rattle.vital_nodes.proofs.Lists.{map-take}
use Rattle.vital_library.proofs.faults.least_without_entity.Goals as goal

pub loop-at-preserved : goal.loop-at-preserved
loop-at-preserved c =
    let unit = c.at-item.result.unit.now in
    let names = c.args.names.now in
    let before = units_in (take c.loop-at.at-index c.args.units.now) in
    c.sooner_without_entity-least.ensures
    ∙ ap (λ least. fold sooner least (map no_entity (without_name names (unit ∷ [])))) c.loop-at.invariant
    ∙ sym (fold-push_without c.args.least names before unit)
    ∙ ap (λ units. fold sooner c.args.least (map no_entity (without_name names units))) (sym (map-take (λ at. at.unit.now) c.args.units.now c.loop-at.at-index c.at-item.result (omega arith) c.at-item.is))
