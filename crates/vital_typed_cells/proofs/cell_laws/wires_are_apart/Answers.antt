use Rattle.vital_typed_cells.proofs.Wires.{ports-differ, signals-differ, wires-apart}
use Rattle.vital_typed_cells.specs.Drivers.{wires}
use Rattle.vital_typed_cells.proofs.cell_laws.wires_are_apart.Goals as goal

pub returns-clause-signals : goal.returns-clause-signals
returns-clause-signals c cell fifth sixth = signals-differ (wires cell) (wires-apart c.walked_in_preorder.ensures cell cell.arch fifth sixth)

pub returns-clause-ports : goal.returns-clause-ports
returns-clause-ports c cell fifth sixth = ports-differ (wires cell) (wires-apart c.walked_in_preorder.ensures cell cell.arch fifth sixth)
