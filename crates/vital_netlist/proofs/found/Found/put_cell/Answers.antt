use Rattle.vital_instances.specs.Units.{lent}
use Rattle.vital_netlist.proofs.CellLemmas.{of-known, of-new}
use Rattle.vital_netlist.proofs.DrivenLemmas.{on-both}
use Rattle.vital_netlist.proofs.CellUnitLemmas.{of-library}
use Rattle.vital_netlist.proofs.found.Found.put_cell.Goals as goal

pub returns-then-has : goal.returns-then-has
returns-then-has c = λ is i same has.
    of-known c.args.packages.now is i c.args.entity (lent c.args.unit) c.args.self.now.cells.items c.args.self.now.numbers.items
    same c.requires.unit c.requires.role c.if-has.ensures has

pub checked_cell-requires-clause-cell : goal.checked_cell-requires-clause-cell
checked_cell-requires-clause-cell c = of-library c.args.packages.now c.args.entity (lent c.args.unit) c.requires.unit

pub returns : goal.returns
returns c =
    on-both c.put.result
    (λ put numbered. λ is i same has.
    of-new c.args.packages.now is i c.args.entity (lent c.args.unit) c.args.self.now.cells.items c.args.self.now.numbers.items c.in_ok-cell.cell c.put.new.self.cells.items c.put.new.self.numbers.items
    same c.requires.unit c.requires.role c.requires.there c.if-has.ensures c.in_ok-cell.ensures put numbered has)
    c.put.ensures.cells c.put.ensures.numbers
