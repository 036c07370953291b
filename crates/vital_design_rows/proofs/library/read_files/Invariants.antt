use Rattle.std.specs.Prelude.{All}
use Rattle.vital_as_read.specs.Libraries.{IsFromText}
use Rattle.vital_design_rows.proofs.library.read_files.Given as goal

abbrev pub invariant-loop-word : goal.invariant-loop-word
invariant-loop-word l = All IsFromText l.read.items
