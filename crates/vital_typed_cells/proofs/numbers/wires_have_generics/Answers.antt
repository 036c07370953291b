use Rattle.vital_typed_cells.specs.Packages.{sound_values}
use Rattle.vital_typed_cells.specs.Typed.{typed, typed_with}
use Rattle.vital_typed_cells.proofs.WireGenerics.{wires-timed}
use Rattle.vital_typed_cells.proofs.numbers.wires_have_generics.Goals as goal

pub returns : goal.returns
unfolding typed typed_with
returns c cell none = wires-timed cell (sound_values cell.files) none
