use Rattle.std.proofs.Common.{sym, subst}
use Rattle.vital_instances.specs.Units.{cell_of, lent}
use Rattle.vital_typed_cells.specs.Sound.{IsSound}
use Rattle.vital_netlist.proofs.found.checked_cell.Goals as goal

pub new-requires : goal.new-requires
new-requires c =
    let cell = cell_of c.args.packages.now (lent c.args.unit) in
    subst IsSound (sym c.in_ok-cell.ensures) (c.typed_is_sound.ensures cell (c.cells_are_as_read.ensures cell c.requires.read c.requires.cell) c.requires.level)
