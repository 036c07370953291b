use Rattle.std.proofs.Common.{◌∙◌}
use Rattle.vital_netlist.proofs.FoundLemmas.{found-cell}
use Rattle.vital_netlist.proofs.cells.Cells.of_entity.Goals as goal

pub returns-clause-unit : goal.returns-clause-unit
returns-clause-unit c = λ n i u at same unit. c.cell_numbered.ensures ∙ found-cell c.args.self.now.files c.args.self.now.instances n c.args.entity i u at same unit
