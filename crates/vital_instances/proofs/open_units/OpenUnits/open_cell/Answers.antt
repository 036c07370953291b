use Rattle.std.proofs.Common.{◌∙◌}
use Rattle.vital_instances.proofs.OpenLemmas.{cell-good, cell-wrong}
use Rattle.vital_instances.proofs.open_units.OpenUnits.open_cell.Goals as goal

pub returns-in-Some-clause-opened : goal.returns-in-Some-clause-opened
returns-in-Some-clause-opened c = λ judge judges.
    cell-wrong judge _ _ _ c.requires.cell (c.in_ok-fault.ensures.fault judge judges ∙ c.in-Some.is)

pub returns-in-None-clause-opened : goal.returns-in-None-clause-opened
returns-in-None-clause-opened c = λ judge judges.
    cell-good judge _ _ _ c.requires.unit c.requires.cell (c.in_ok-fault.ensures.fault judge judges ∙ c.in-None.is)
