use Rattle.std.proofs.Common.{◌∙◌, ap, sym}
use Rattle.vital_limits.specs.CellLimits.{cell_limit}
use Rattle.vital_level1.proofs.level.verdict_of.Goals as goal

pub returns-in-Ok-level_found : goal.returns-in-Ok-level_found
returns-in-Ok-level_found c = (ap cell_limit (sym c.in-Ok.ensures) ∙ sym c.in-Ok-cell_limit.ensures ∙ c.in-None.is, c.in-Ok-level_found.ensures)

pub returns-in-Some : goal.returns-in-Some
returns-in-Some c = ap cell_limit (sym c.in-Ok.ensures) ∙ sym c.in-Ok-cell_limit.ensures ∙ c.in-Some.is
