use Rattle.std.proofs.Common.{List, drop, map}
use Rattle.vital_nodes.specs.declared.unit.Units.{Units}
use Rattle.vital_report.specs.Lines.{text_of}
use Rattle.vital_answers.specs.Cells.{level_lines}
use Rattle.vital_answers.specs.Kept.{lent}
use Rattle.vital_answers.proofs.Parts.{Part}
use Rattle.vital_answers.proofs.cells.print_levels.Given as goal

abbrev pub invariant-loop-number : goal.invariant-loop-number
invariant-loop-number g l =
    (library : List Units) → Part l.fn.printer (text_of (level_lines l.files (map (lent library) l.cells) l.levels)) (text_of (level_lines l.files (drop l.number (map (lent library) l.cells)) (drop l.number l.levels))) l.printer
