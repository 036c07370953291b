use Rattle.std.specs.Prelude.{[]}
use Rattle.vital_typed_cells.specs.Packages.{sound_values}
use Rattle.vital_typed_cells.specs.Typed.{typed, typed_with}
use Rattle.vital_typed_cells.proofs.NameGenerics.{generics-fitting}
use Rattle.vital_typed_cells.proofs.Spelled.{generics-spelled}
use Rattle.vital_typed_cells.proofs.spelled_names.timing_generics_are_formed.Goals as goal

pub returns-clause-spelled : goal.returns-clause-spelled
unfolding typed typed_with
returns-clause-spelled c cell = generics-spelled cell [] (sound_values cell.files)

pub returns-clause-typed : goal.returns-clause-typed
unfolding typed typed_with
returns-clause-typed c cell none typed = generics-fitting cell none typed
