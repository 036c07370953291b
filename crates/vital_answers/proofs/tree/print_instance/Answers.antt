use Rattle.vital_netlist.specs.Designs.{lent_instance}
use Rattle.vital_netlist.specs.Trees.{tree_instance}
use Rattle.vital_report.specs.Lines.{bytes_of}
use Rattle.vital_answers.specs.Trees.{instance_line}
use Rattle.vital_answers.proofs.Parts.{passes_no_memory}
use Rattle.vital_answers.proofs.Texts.{printed_none}
use Rattle.vital_answers.proofs.tree.print_instance.Goals as goal

pub returns-in_err-write_path-clause-prints : goal.returns-in_err-write_path-clause-prints
returns-in_err-write_path-clause-prints g c =
    let old = c.args.printer.now in
    let whole = bytes_of (instance_line (tree_instance c.args.names.now.design (c.args.number, lent_instance c.args.instance.now))) in
    passes_no_memory c.from_residual.result whole old old c.from_residual.ensures.1 (0, printed_none old c.requires.goes_on)
