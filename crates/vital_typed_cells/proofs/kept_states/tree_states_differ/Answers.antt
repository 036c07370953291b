use Rattle.vital_typed_cells.specs.Typed.{typed, typed_with}
use Rattle.vital_typed_cells.proofs.KeptStates.{all-kept-differ}
use Rattle.vital_typed_cells.proofs.kept_states.tree_states_differ.Goals as goal

pub returns : goal.returns
unfolding typed typed_with
returns c cell read none = all-kept-differ cell (c.kept_variables_differ.ensures cell read none)
