-- What code holds of the cells of a library.
use Rattle.std.specs.Prelude.{List}
use Rattle.std.specs.Option.{option_copied}
use Rattle.vital_names.specs.Sites.{Cell}
use Rattle.vital_nodes.specs.declared.unit.Units.{Units}
use Rattle.vital_answers.specs.declared.judging.Cell.{Cell as Cell'}

-- A cell of a library with these files, which is borrowed.
abbrev pub lent : List Units → Cell' → Cell
lent files cell = record { files = files; entity = cell.entity.now; arch = option_copied cell.arch }
