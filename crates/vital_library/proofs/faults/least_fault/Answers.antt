use Rattle.std.proofs.Common.{◌∙◌, ap, map}
use Rattle.std.specs.Prelude.{fold}
use Rattle.vital_library.specs.Faults.{no_entity, sooner}
use Rattle.vital_library.specs.Names.{without_name}
use Rattle.vital_library.specs.Positions.{units_in}
use Rattle.vital_library.proofs.FaultLemmas.{least-all}
use Rattle.vital_library.proofs.faults.least_fault.Goals as goal

pub returns : goal.returns
returns c =
    let units = units_in c.args.units.now in
    c.least_without_entity.ensures
    ∙ ap (λ least. fold sooner least (map no_entity (without_name c.in_ok-entities.entities units))) c.in_ok-least.ensures
    ∙ least-all c.in_ok-entities.entities units c.in_ok-entities.ensures
