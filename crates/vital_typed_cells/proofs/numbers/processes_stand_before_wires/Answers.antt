use Rattle.std.specs.Prelude.{[]}
use Rattle.vital_typed_cells.specs.Typed.{typed, typed_with}
use Rattle.vital_typed_cells.proofs.Order.{before-wires}
use Rattle.vital_typed_cells.proofs.numbers.processes_stand_before_wires.Goals as goal

pub returns : goal.returns
unfolding typed typed_with
returns c cell = before-wires c.walked_in_preorder.ensures cell []
