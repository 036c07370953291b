use Rattle.std.proofs.Common.{◌≡◌, map}
use Rattle.vital_netlist.specs.Trees.{tree_instances}
use Rattle.vital_report.specs.Lines.{text_of}
use Rattle.vital_answers.specs.Trees.{instance_line}
use Rattle.vital_answers.proofs.Parts.{Part}
use Rattle.vital_answers.proofs.TreeLines.{instances_left}
use Rattle.vital_answers.proofs.tree.print_instances.Given as goal

abbrev pub invariant-loop-number : goal.invariant-loop-number
invariant-loop-number g l = (l.names.design ≡ l.design) × Part l.fn.printer (text_of (map instance_line (tree_instances l.design))) (instances_left l.design l.number) l.printer
