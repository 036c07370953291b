use Rattle.std.proofs.Common.{drop, map}
use Rattle.vital_report.specs.Lines.{said, text_of}
use Rattle.vital_answers.proofs.Parts.{Part}
use Rattle.vital_run.proofs.self_run.print_lines.Given as goal

abbrev pub invariant-loop-line : goal.invariant-loop-line
invariant-loop-line g l = Part l.fn.printer (text_of (map said l.lines)) (text_of (map said (drop l.line-index l.lines))) l.printer
