use Rattle.std.specs.Prelude.{[]}
use Rattle.vital_typed_cells.specs.Typed.{typed, typed_with}
use Rattle.vital_typed_cells.proofs.Bits.{bits-there}
use Rattle.vital_typed_cells.proofs.numbers.bits_are_there.Goals as goal

pub returns : goal.returns
unfolding typed typed_with
returns c cell = bits-there cell []
