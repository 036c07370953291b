use Rattle.std.proofs.Common.{sym, subst}
use Rattle.vital_cell.specs.Short.{HasShort}
use Rattle.vital_cell.proofs.CellPutLemmas.{all-made}
use Rattle.vital_cell.proofs.ShortLemmas.{cell-has-short}
use Rattle.vital_cell.specs.Scopes.{lent}
use Rattle.vital_cell.proofs.cells.all_processes.Goals as goal

pub put_wires-requires : goal.put_wires-requires
put_wires-requires c = subst HasShort (sym c.requires.known.is_scope) (cell-has-short c.args.cell.now c.requires.known.values c.requires.sound c.requires.known.fit)

pub returns : goal.returns
returns c =
    all-made (lent c.args.scope.now) c.args.cell.now c.as_slice-processes.result.now c.as_slice.result.now c.new-made.result c.put_cell_processes.new.self c.put_wires.new.self c.put_cell_processes-2.new.self
    c.as_slice-processes.ensures c.as_slice.ensures c.new-made.ensures.processes c.new-made.ensures.drivers
    c.in_ok-put_cell_processes.ensures c.in_ok-put_wires.ensures c.in_ok-put_cell_processes-2.ensures
