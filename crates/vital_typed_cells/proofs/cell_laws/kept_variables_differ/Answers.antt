use Rattle.vital_typed_cells.proofs.Kept.{kept-differ}
use Rattle.vital_typed_cells.proofs.cell_laws.kept_variables_differ.Goals as goal

pub returns : goal.returns
returns c cell read none = kept-differ c.walked_in_preorder.ensures cell read none
