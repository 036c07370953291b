use Rattle.std.specs.Prelude.{[]}
use Rattle.vital_typed_cells.specs.Typed.{typed, typed_with}
use Rattle.vital_typed_cells.proofs.Interface.{ports-hold}
use Rattle.vital_typed_cells.proofs.Formed.{IsFormed, formed-ports}
use Rattle.vital_typed_cells.proofs.spelled_names.ports_are_formed.Goals as goal

pub returns : goal.returns
unfolding typed typed_with
returns c cell none = ports-hold IsFormed cell [] (formed-ports cell.entity none)
