use Rattle.vital_netlist.proofs.CellPortLemmas.{ports-are-bits}
use Rattle.vital_netlist.proofs.cell_laws.ports_of_cells_are_bits.Goals as goal

pub returns : goal.returns
returns c = ports-are-bits
