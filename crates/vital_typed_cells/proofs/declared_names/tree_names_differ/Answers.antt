use Rattle.vital_typed_cells.specs.Typed.{typed, typed_with}
use Rattle.vital_typed_cells.proofs.NameTrees.{cell-differs, processes-differ}
use Rattle.vital_typed_cells.proofs.declared_names.tree_names_differ.Goals as goal

pub returns-clause-cell : goal.returns-clause-cell
returns-clause-cell c cell read none = cell-differs cell (c.names_differ.ensures.cell cell read none)

pub returns-clause-processes : goal.returns-clause-processes
unfolding typed typed_with
returns-clause-processes c cell read none = processes-differ cell (c.names_differ.ensures.processes cell read none)
