use Rattle.std.proofs.Common.{List, ℕ, ◌+◌, ◌<◌, Err, get_or, length, map, subst, ◌∙◌, arith}
use Rattle.vital_netlist.specs.Designs.{Design, lent_instance}
use Rattle.vital_netlist.specs.Trees.{tree_instance, tree_instances}
use Rattle.vital_report.specs.Lines.{bytes_of, text_of}
use Rattle.vital_report.specs.Reporters.{Printed, PrintsPart}
use Rattle.vital_answers.specs.Trees.{instance_line}
use Rattle.vital_answers.proofs.Parts.{Part, part_ends, part_goes_on, passes_failure}
use Rattle.vital_answers.proofs.TreeLines.{as_read, instances_left, no_instance, nothing, one_instance}
use Rattle.vital_answers.proofs.tree.print_instances.Goals as goal

pub returns-in_err-print_instance : goal.returns-in_err-print_instance
returns-in_err-print_instance g c =
    let d = c.args.design.now in
    let start = c.args.printer.now in
    let i = c.loop-number.number in
    let within : i < length c.args.instances.now = omega (arith, c.loop-number-test.true) in
    let here = get_or c.args.instances.now i nothing in
    let whole = text_of (map instance_line (tree_instances d)) in
    let piece = bytes_of (instance_line (tree_instance d (i, lent_instance here))) in
    let one = one_instance lent_instance d c.args.instances.now i here c.requires.those within (as_read c.args.instances.now i within) in
    let part = subst (λ (left : List ℕ). Part start whole left c.loop-number.printer) one c.loop-number.invariant.1 in
    let written = subst (λ (e : Design). PrintsPart {T = Unit {0}} (Err c.in_err-print_instance.field-0.0) (bytes_of (instance_line (tree_instance e (i, lent_instance here)))) c.loop-number.printer c.print_instance.new.printer) c.loop-number.invariant.0 c.in_err-print_instance.ensures.prints in
    passes_failure (Unit {0}) c.from_residual.result _ start whole piece (instances_left d (i + 1)) c.loop-number.printer c.print_instance.new.printer c.from_residual.ensures.1 part written

pub loop-number-preserved : goal.loop-number-preserved
loop-number-preserved g c =
    let d = c.args.design.now in
    let start = c.args.printer.now in
    let i = c.loop-number.number in
    let within : i < length c.args.instances.now = omega (arith, c.loop-number-test.true) in
    let here = get_or c.args.instances.now i nothing in
    let whole = text_of (map instance_line (tree_instances d)) in
    let piece = bytes_of (instance_line (tree_instance d (i, lent_instance here))) in
    let one = one_instance lent_instance d c.args.instances.now i here c.requires.those within (as_read c.args.instances.now i within) in
    let part = subst (λ (left : List ℕ). Part start whole left c.loop-number.printer) one c.loop-number.invariant.1 in
    let written = subst (λ (e : Design). Printed (bytes_of (instance_line (tree_instance e (i, lent_instance here)))) c.loop-number.printer c.print_instance.new.printer) c.loop-number.invariant.0 c.in_ok-print_instance.ensures.prints in
    (c.in_ok-print_instance.ensures.same ∙ c.loop-number.invariant.0, part_goes_on start whole piece (instances_left d (i + 1)) c.loop-number.printer c.print_instance.new.printer part written)

pub returns : goal.returns
returns g c =
    let d = c.args.design.now in
    let start = c.args.printer.now in
    let whole = text_of (map instance_line (tree_instances d)) in
    let none = no_instance lent_instance d c.args.instances.now c.loop-number.number c.requires.those (omega (arith, c.loop-number-test.false)) in
    part_ends start whole c.loop-number.printer (subst (λ (left : List ℕ). Part start whole left c.loop-number.printer) none c.loop-number.invariant.1)
