use Rattle.std.proofs.Common.{List, ℕ, [], ◌++◌, map, subst}
use Rattle.vital_netlist.specs.Trees.{tree_instances, tree_signals}
use Rattle.vital_report.specs.Lines.{bytes_of, end_of_design, text_of}
use Rattle.vital_answers.specs.Trees.{instance_line, signal_line, tree_lines}
use Rattle.vital_answers.proofs.Parts.{Part, part_begins, part_ends, part_goes_on, part_stops, passes_failure, passes_fault}
use Rattle.vital_answers.proofs.TreeLines.{after_instances, tree_text}
use Rattle.vital_answers.proofs.tree.print_design.Goals as goal

pub returns-in_err-print_instances : goal.returns-in_err-print_instances
returns-in_err-print_instances g c =
    let d = c.args.design.now in
    let start = c.args.printer.now in
    let whole = text_of (tree_lines d) in
    let p0 = subst (λ (xs : List ℕ). Part start whole xs start) (tree_text d) (part_begins start whole c.requires.goes_on) in
    let first = text_of (map instance_line (tree_instances d)) in
    passes_failure (Unit {0}) c.from_residual.result _ start whole first (after_instances d) start c.print_instances.new.printer c.from_residual.ensures.1 p0 c.in_err-print_instances.ensures

pub returns-in_err-print_signals : goal.returns-in_err-print_signals
returns-in_err-print_signals g c =
    let d = c.args.design.now in
    let start = c.args.printer.now in
    let whole = text_of (tree_lines d) in
    let p0 = subst (λ (xs : List ℕ). Part start whole xs start) (tree_text d) (part_begins start whole c.requires.goes_on) in
    let first = text_of (map instance_line (tree_instances d)) in
    let p1 = part_goes_on start whole first (after_instances d) start c.print_instances.new.printer p0 c.in_ok-print_instances.ensures in
    let second = text_of (map signal_line (tree_signals d)) in
    let rest = bytes_of end_of_design ++ [] in
    passes_failure (Unit {0}) c.from_residual-in_err-print_signals.result _ start whole second rest c.print_instances.new.printer c.print_signals.new.printer c.from_residual-in_err-print_signals.ensures.1 p1 c.in_err-print_signals.ensures

pub returns-in_err-print : goal.returns-in_err-print
returns-in_err-print g c =
    let d = c.args.design.now in
    let start = c.args.printer.now in
    let whole = text_of (tree_lines d) in
    let p0 = subst (λ (xs : List ℕ). Part start whole xs start) (tree_text d) (part_begins start whole c.requires.goes_on) in
    let first = text_of (map instance_line (tree_instances d)) in
    let p1 = part_goes_on start whole first (after_instances d) start c.print_instances.new.printer p0 c.in_ok-print_instances.ensures in
    let second = text_of (map signal_line (tree_signals d)) in
    let last = bytes_of end_of_design in
    let p2 = part_goes_on start whole second (last ++ []) c.print_instances.new.printer c.print_signals.new.printer p1 c.in_ok-print_signals.ensures in
    passes_fault c.from_residual-in_err-print.result whole start c.print.new.self c.from_residual-in_err-print.ensures.1
    (part_stops start whole last [] c.print_signals.new.printer c.print.new.self p2 c.in_err-print.ensures.prints)

pub returns : goal.returns
returns g c =
    let d = c.args.design.now in
    let start = c.args.printer.now in
    let whole = text_of (tree_lines d) in
    let p0 = subst (λ (xs : List ℕ). Part start whole xs start) (tree_text d) (part_begins start whole c.requires.goes_on) in
    let first = text_of (map instance_line (tree_instances d)) in
    let p1 = part_goes_on start whole first (after_instances d) start c.print_instances.new.printer p0 c.in_ok-print_instances.ensures in
    let second = text_of (map signal_line (tree_signals d)) in
    let last = bytes_of end_of_design in
    let p2 = part_goes_on start whole second (last ++ []) c.print_instances.new.printer c.print_signals.new.printer p1 c.in_ok-print_signals.ensures in
    part_ends start whole c.print.new.self (part_goes_on start whole last [] c.print_signals.new.printer c.print.new.self p2 c.in_ok-print.ensures.prints)
