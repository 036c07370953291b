use Rattle.std.proofs.Common.{◌≡◌, map}
use Rattle.vital_netlist.specs.Trees.{tree_signals}
use Rattle.vital_report.specs.Lines.{text_of}
use Rattle.vital_answers.specs.Trees.{signal_line}
use Rattle.vital_answers.proofs.Parts.{Part}
use Rattle.vital_answers.proofs.TreeLines.{signals_left}
use Rattle.vital_answers.proofs.tree.print_signals.Given as goal

abbrev pub invariant-loop-number : goal.invariant-loop-number
invariant-loop-number g l = (l.names.design ≡ l.design) × Part l.fn.printer (text_of (map signal_line (tree_signals l.design))) (signals_left l.design l.number) l.printer
