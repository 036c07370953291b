-- When delays fit a cell.
use Rattle.std.specs.Prelude.{◌≡◌, true, List}
use Rattle.std.specs.List.{AllZip}
use Rattle.vital_objects.specs.declared.generic.TimingGeneric.{TimingGeneric}
use Rattle.vital_operands.specs.Named.{same_type}
use Rattle.vital_typed_cells.specs.Times.{are_short}
use Rattle.vital_timing.specs.declared.delay.Delay.{Delay}
use Rattle.vital_timing.specs.Delays.{type_of}
use Rattle.vital_typed_cells.specs.declared.typed_cell.TypedCell.{TypedCell}

-- A delay is one of a timing generic: it is of the type of its default, and of times of at most 2^50 fs.
pub record IsDelayOf (g : TimingGeneric) (d : Delay) : Type 0 where
  pub typed : same_type (type_of g.default) (type_of d) ≡ true
  pub short : are_short d ≡ true

-- There is one for each timing generic.
abbrev pub FitsCell : TypedCell → List Delay → Type 0
FitsCell c values = AllZip IsDelayOf c.generics values
