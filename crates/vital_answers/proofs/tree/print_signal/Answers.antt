use Rattle.vital_netlist.specs.Designs.{lent_signal}
use Rattle.vital_netlist.specs.Trees.{name_of}
use Rattle.vital_report.specs.Lines.{bytes_of, signal}
use Rattle.vital_answers.proofs.Parts.{passes_no_memory}
use Rattle.vital_answers.proofs.Texts.{printed_none}
use Rattle.vital_answers.proofs.tree.print_signal.Goals as goal

pub returns-in_err-write_signal-clause-prints : goal.returns-in_err-write_signal-clause-prints
returns-in_err-write_signal-clause-prints g c =
    let old = c.args.printer.now in
    let told = c.args.signal.now in
    let whole = bytes_of (signal (name_of c.args.names.now.design (lent_signal told)) told.is_resolved c.args.drivers) in
    passes_no_memory c.from_residual.result whole old old c.from_residual.ensures.1 (0, printed_none old c.requires.goes_on)
