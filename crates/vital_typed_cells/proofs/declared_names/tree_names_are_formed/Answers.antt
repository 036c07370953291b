use Rattle.vital_typed_cells.specs.Typed.{typed, typed_with}
use Rattle.vital_typed_cells.proofs.NameTrees.{cell-formed, processes-formed}
use Rattle.vital_typed_cells.proofs.declared_names.tree_names_are_formed.Goals as goal

pub returns-clause-cell : goal.returns-clause-cell
returns-clause-cell c cell read = cell-formed cell read

pub returns-clause-processes : goal.returns-clause-processes
unfolding typed typed_with
returns-clause-processes c cell read = processes-formed cell read
